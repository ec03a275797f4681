-- One fewer is unknown.
use Rattle.step.proofs.Splits.{unknown_present}
use Rattle.step.proofs.among.Among.with.Goals as goal

pub invariant_of-result : goal.invariant_of-result
invariant_of-result c = record { unknowns = unknown_present _ c.requires c.without.ensures c.args.self.unknowns c.with.ensures }
