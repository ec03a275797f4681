-- One fewer is unknown.
use Rattle.step.proofs.Splits.{unknown_absent}
use Rattle.step.proofs.among.Among.without.Goals as goal

pub invariant_of-result : goal.invariant_of-result
invariant_of-result c = record { unknowns = unknown_absent _ c.requires c.without.ensures c.args.self.unknowns }
