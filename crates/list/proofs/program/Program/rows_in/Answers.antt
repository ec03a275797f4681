-- By the state; no statement is deeper than 60.
use Rattle.list.proofs.Findings.{state_start, state_resumed, made_in}
use Rattle.list.proofs.program.Program.rows_in.Goals as goal

pub returns-in-Start : goal.returns-in-Start
returns-in-Start c = made_in _ _ c.args.signals.now _ (state_start c.args.state c.in-Start.is) c.args.self.now.whole.shallow c.start.ensures

pub returns-in-Resumed : goal.returns-in-Resumed
returns-in-Resumed c = made_in _ _ c.args.signals.now _ (state_resumed c.args.state _ c.in-Resumed.is) c.args.self.now.whole.shallow c.resume.ensures
