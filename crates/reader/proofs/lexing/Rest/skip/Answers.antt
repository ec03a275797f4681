-- `reader::lexing::Rest::skip` meets its contract: the loop passes blanks, and ends since the text does not begin with one.
use mathlib.Core.Path.{sym, ap, ◌∙◌}
use native.Mathlib.Omega.{arith}
use borrow.Author.Tests.{eqb-true}
use Rattle.reader.specs.inner.Blanks.{blank_byte}
use Rattle.reader.proofs.Bytes.{solid_none}
use Rattle.reader.proofs.Blanks.{passing_none, passing_all, passing_back, last_to, skipped_to}
use Rattle.reader.proofs.lexing.Rest.skip.Goals as goal

pub returns-then-is_empty : goal.returns-then-is_empty
returns-then-is_empty c =
    let u = c.args.self.bytes.now in
    skipped_to u u (passing_none u c.args.self.solid) (solid_none u (omega (arith, eqb-true _ _ (sym c.is_empty.ensures ∙ c.if-is_empty.true))))

pub loop-at-init : goal.loop-at-init
loop-at-init c = passing_all _ (sym c.is_empty.ensures ∙ c.if-is_empty.false) c.args.self.solid

pub overflow_sub-at-in-loop-at : goal.overflow_sub-at-in-loop-at
overflow_sub-at-in-loop-at c = (passing_back _ _ c.loop-at.invariant.0 c.loop-at.invariant.1 (sym c.is_blank.ensures ∙ c.loop-at-test.true)).0

pub loop-at-preserved : goal.loop-at-preserved
loop-at-preserved c =
    let back = passing_back _ _ c.loop-at.invariant.0 c.loop-at.invariant.1 (sym c.is_blank.ensures ∙ c.loop-at-test.true) in
    (back.1, back.2)

pub returns : goal.returns
returns c =
    let I = c.loop-at.invariant in
    skipped_to _ _ I.1 (ap blank_byte (last_to _ _ I.0) ∙ sym c.is_blank.ensures ∙ c.loop-at-test.false)
