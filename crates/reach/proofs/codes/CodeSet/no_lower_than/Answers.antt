-- By the lowest code of the second set.
use native.Mathlib.Omega.{arith}
use mathlib.Core.Path.{sym, ap, ap₂, ◌∙◌}
use Prim.Native.Nat.{ℕ}
use Rattle.esterel.specs.Codes.{Codes, no_lower_than}
use Rattle.reach.specs.inner.CodeSets.{codes_of}
use Rattle.reach.proofs.CodeSets.{words, all_kept, zero_dropped, higher_kept}
use Rattle.reach.proofs.codes.CodeSet.no_lower_than.Goals as goal

pub returns-then-ends : goal.returns-then-ends
returns-then-ends c = c.self.view_is ∙ all_kept c.args.self c.args.other (sym c.ends.ensures ∙ c.if-ends.true)

pub returns-then-other-ne0 : goal.returns-then-other-ne0
unfolding codes_of
returns-then-other-ne0 c =
    c.minus_zero.ensures
    ∙ zero_dropped c.args.self c.args.other (sym c.ends.ensures ∙ c.if-ends.false)
    (λ e. c.if-other-ne0.true (ap (λ (K : Codes). K.pausing) c.other.view_is ∙ e))

pub returns : goal.returns
returns c =
    ap (λ (x : ℕ). codes_of (words 0 x)) c.not_below.ensures
    ∙ higher_kept c.self.inside c.other.inside
    (ap (λ (K : Codes). K.ends) c.other.view_is ∙ sym c.ends.ensures ∙ c.if-ends.false) (omega arith)
    ∙ ap₂ no_lower_than c.self.view_is c.other.view_is
