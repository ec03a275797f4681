-- `Summary::of_pause` meets its contract.
use mathlib.Core.Path.{◌∙◌, refl}
use Rattle.sets.proofs.Members.{only_fits}
use Rattle.esterel.specs.Codes.{just_ended}
use Rattle.reach.proofs.Summaries.{changed_own}
use Rattle.reach.proofs.summary.Summary.of_pause.Goals as goal

pub returns-clause-result_value : goal.returns-clause-result_value
returns-clause-result_value c =
    let own = c.singleton-own.ensures ∙ only_fits 64 c.args.label.0 c.requires in
    rw (c.just_at.ensures, own) refl

pub returns-clause-changed : goal.returns-clause-changed
returns-clause-changed c = rw c.just_ended.ensures (changed_own c.args.kept.now c.told-kept c.args.label.0 c.requires just_ended)
