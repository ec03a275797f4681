-- The larger code, and what is reached with it.
use Rattle.std.proofs.Common.{◌≡◌, refl, ap, ◌∙◌, max}
use mathlib.Core.Path.{ap₂}
use Rattle.esterel.specs.declared.Code.{Code}
use Rattle.esterel.specs.Reactions.{reached_together}
use Rattle.esterel.specs.Listing.{pair}
use Rattle.rows.specs.inner.Layout.{unpacked}
use Rattle.rows.specs.inner.Rules.{together_row}
use Rattle.rows.proofs.Words.{row_equal, larger_code}
use Rattle.rows.proofs.pairing.ParallelPairing.join.Goals as goal

pub returns : goal.returns
unfolding together_row pair
returns c =
    let k : c.max-code.result.0 ≡ max (unpacked c.args.first).reacts.code (unpacked c.args.second).reacts.code =
    ap (λ (z : Code). z.0) c.max-code.ensures ∙ larger_code c.code.result c.code-2.result ∙ ap₂ max c.code.ensures.0 c.code-2.ensures.0 in
    c.beside.ensures
    ∙ row_equal refl refl k (c.reached-labels.ensures ∙ (λ i. reached_together (k i) (c.labels.ensures i) (c.labels-2.ensures i)))
