-- `reader::lexing::Rest::nothing` meets its contract: by the last eight bytes, where there are so many.
use mathlib.Core.Path.{sym, ◌∙◌}
use Rattle.sets.proofs.Booleans.{clash}
use Rattle.text.specs.Spelling.{letters_of}
use Rattle.reader.proofs.Eights.{before_nothing, is_spelt, is_clear}
use Rattle.reader.proofs.lexing.Rest.nothing.Goals as goal

pub returns-in_default : goal.returns-in_default
unfolding letters_of
returns-in_default c = c.word.ensures

pub returns-then-not-ends_in_nothing : goal.returns-then-not-ends_in_nothing
returns-then-not-ends_in_nothing c =
    let S = c.in-Some.ensures.cases in
    λ v W. clash (c.ends_in_nothing.ensures.1 (is_spelt _ _ S.0 S.1.same v W)) c.if-not-ends_in_nothing.true

pub returns-then-is_letter : goal.returns-then-is_letter
returns-then-is_letter c =
    let S = c.in-Some.ensures.cases in
    λ v W. clash (sym c.is_letter.ensures ∙ c.if-is_letter.true) (is_clear _ _ S.0 S.1.same v W)

pub returns : goal.returns
returns c =
    let S = c.in-Some.ensures.cases in
    before_nothing _ _ S.0 S.1.same (c.ends_in_nothing.ensures.0 c.if-not-ends_in_nothing.false) (sym c.is_letter.ensures ∙ c.if-is_letter.false)
