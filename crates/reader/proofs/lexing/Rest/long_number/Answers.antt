-- `reader::lexing::Rest::long_number` meets its contract: the loop passes digits.
use Prim.Native.Nat.{ℕ}
use mathlib.Core.Path.{◌≡◌, ◌∙◌}
use mathlib.Core.Bool.{false}
use native.Mathlib.Omega.{arith}
use lib.ListN.{length-take}
use Rattle.text.specs.Spelling.{last_of}
use Rattle.text.specs.inner.Lexer.{is_digit}
use Rattle.text.proofs.Decimal.{is_digit_lem}
use Rattle.reader.proofs.Bytes.{last_apart}
use Rattle.reader.proofs.Places.{front_solid}
use Rattle.reader.proofs.Numbers.{undigit, behind_more, behind_length, first_behind, zero_then_more, number_long}
use Rattle.reader.proofs.lexing.Rest.long_number.Goals as goal
use Rattle.reader.proofs.lexing.Rest.long_number.Goals.{in_default, in_default-2, in_default-3}

pub loop-before-preserved : goal.loop-before-preserved
loop-before-preserved c =
    (omega (arith, length-take {A = ℕ}), behind_more _ _ _ _ c.loop-before.invariant.1 (last_apart c.loop-before.before.now (omega arith)) (is_digit_lem _ (omega arith) (omega arith)))

pub returns-then-leading_zero : goal.returns-then-leading_zero
returns-then-leading_zero c =
    let B = c.loop-before.invariant.1 in
    let bounded : is_digit (last_of c.loop-before.before.now) ≡ false =
    undigit c.loop-before.before.now (λ l h k. elim c.if-before-lt1.branch [ in_default w ↦ omega arith | in_default-2 w ↦ omega arith | in_default-3 w ↦ omega arith ]) in
    zero_then_more _ _ _ B.cut bounded (omega (arith, behind_length _ _ B)) B.all (first_behind _ _ B ∙ c.if-leading_zero.true)

pub returns : goal.returns
returns c =
    let B = c.loop-before.invariant.1 in
    let bounded : is_digit (last_of c.loop-before.before.now) ≡ false =
    undigit c.loop-before.before.now (λ l h k. elim c.if-before-lt1.branch [ in_default w ↦ omega arith | in_default-2 w ↦ omega arith | in_default-3 w ↦ omega arith ]) in
    let first = first_behind _ _ B in
    number_long _ _ _ B.cut bounded (omega (arith, behind_length _ _ B)) B.all (λ e. omega arith)

pub invariant_of-result : goal.invariant_of-result
invariant_of-result c = record { solid = front_solid _ c.loop-before.before.now c.loop-before.invariant.1.figures c.loop-before.invariant.1.cut c.args.self.solid }
