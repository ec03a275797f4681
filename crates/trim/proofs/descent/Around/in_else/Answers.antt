-- `Around::in_else` meets its contract, by the three ways that it goes.
use Rattle.trim.proofs.Trimming.{in_else_started, in_else_free, in_else_guarded}
use Rattle.trim.proofs.descent.Around.in_else.Goals as goal

pub returns-then-self : goal.returns-then-self
returns-then-self c = in_else_started c.args.self c.args.guarded c.if-self.true

pub returns-then-not-guarded : goal.returns-then-not-guarded
returns-then-not-guarded c = in_else_free c.args.self c.args.guarded c.if-self.false c.if-not-guarded.true

pub returns : goal.returns
returns c = in_else_guarded c.args.self c.args.guarded c.if-self.false c.if-not-guarded.false
