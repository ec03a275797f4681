-- `reader::lexing::Rest::number` meets its contract: no digit, one, two or more stand there.
use Prim.Native.Nat.{ℕ, ◌-◌}
use mathlib.Core.Path.{refl}
use mathlib.Core.List.{List}
use lib.ListN.{length, take}
use native.Mathlib.Omega.{arith}
use borrow.Author.Tests.{ltb-true, ltb-false}
use Rattle.text.proofs.Decimal.{is_digit_lem}
use Rattle.reader.proofs.Bytes.{last_apart, last_at}
use Rattle.reader.proofs.Places.{front_apart}
use Rattle.reader.proofs.Numbers.{last_digit, undigit, no_number, two_apart, three_digits, number_one, zero_then_one, number_two}
use Rattle.reader.proofs.lexing.Rest.number.Goals as goal
use Rattle.reader.proofs.lexing.Rest.number.Goals.{in_default-via-then-self-lt1, in_default-via-else-self-lt1+then-this-lt48, in_default-via-else-self-lt1+else-this-lt48+else-this-lt58}
use Rattle.reader.proofs.lexing.Rest.number.Goals.{in_default-behind-via-then-behind-lt1, in_default-behind-via-else-behind-lt1+then-behind-lt48, in_default-behind-via-else-behind-lt1+else-behind-lt48+else-behind-lt58}
use Rattle.reader.proofs.lexing.Rest.number.Goals.{then-before-lt1, else-before-lt1+then-before-lt48, else-before-lt1+else-before-lt48+else-before-lt58}

pub returns-in_default : goal.returns-in_default
returns-in_default c = no_number _ (undigit c.args.self.bytes.now (λ l h k. elim c.in_default.branch [
  | in_default-via-then-self-lt1 w ↦ omega (arith, ltb-true, ltb-false)
  | in_default-via-else-self-lt1+then-this-lt48 w ↦ omega (arith, ltb-true, ltb-false)
  | in_default-via-else-self-lt1+else-this-lt48+else-this-lt58 w ↦ omega (arith, ltb-true, ltb-false)
]))

pub returns-in_default-behind : goal.returns-in_default-behind
returns-in_default-behind c =
    let behind : List ℕ = take (length c.args.self.bytes.now - 1) c.args.self.bytes.now in
    number_one _ _ _ (last_apart c.args.self.bytes.now c.in-48-to-57.len_at_least) (undigit behind (λ l h k. elim c.in_default-behind.branch [
      | in_default-behind-via-then-behind-lt1 w ↦ omega (arith, ltb-true, ltb-false)
      | in_default-behind-via-else-behind-lt1+then-behind-lt48 w ↦ omega (arith, ltb-true, ltb-false)
      | in_default-behind-via-else-behind-lt1+else-behind-lt48+else-behind-lt58 w ↦ omega (arith, ltb-true, ltb-false)
    ])) _ refl
    (is_digit_lem _ (omega arith) (omega arith))

pub long_number-requires : goal.long_number-requires
long_number-requires c =
    let behind = c.in-48-to-57-behind.len_at_least in
    three_digits _ _ _ _ (last_apart c.args.self.bytes.now c.in-48-to-57.len_at_least) (is_digit_lem _ (omega arith) (omega arith)) behind (last_digit _ behind (omega arith) (omega arith)) refl
    (last_digit _ c.in-48-to-57-before.len_at_least (omega arith) (omega arith))

pub returns-then-leading_zero : goal.returns-then-leading_zero
returns-then-leading_zero c =
    let some = c.in-48-to-57-behind.len_at_least in
    let behind : List ℕ = take (length c.args.self.bytes.now - 1) c.args.self.bytes.now in
    let apart = two_apart _ _ _ _ (last_apart c.args.self.bytes.now c.in-48-to-57.len_at_least) some (last_at behind some) in
    zero_then_one _ _ _ apart (undigit (take (length behind - 1) behind) (λ l h k. elim c.if-before-lt1.branch [
      | then-before-lt1 w ↦ omega (arith, ltb-true, ltb-false)
      | else-before-lt1+then-before-lt48 w ↦ omega (arith, ltb-true, ltb-false)
      | else-before-lt1+else-before-lt48+else-before-lt58 w ↦ omega (arith, ltb-true, ltb-false)
    ])) _ _ refl (is_digit_lem _ (omega arith) (omega arith)) (is_digit_lem _ (omega arith) (omega arith))
    c.if-leading_zero.true

pub returns : goal.returns
returns c =
    let some = c.in-48-to-57-behind.len_at_least in
    let behind : List ℕ = take (length c.args.self.bytes.now - 1) c.args.self.bytes.now in
    let apart = two_apart _ _ _ _ (last_apart c.args.self.bytes.now c.in-48-to-57.len_at_least) some (last_at behind some) in
    number_two _ _ _ apart (undigit (take (length behind - 1) behind) (λ l h k. elim c.if-before-lt1.branch [
      | then-before-lt1 w ↦ omega (arith, ltb-true, ltb-false)
      | else-before-lt1+then-before-lt48 w ↦ omega (arith, ltb-true, ltb-false)
      | else-before-lt1+else-before-lt48+else-before-lt58 w ↦ omega (arith, ltb-true, ltb-false)
    ])) _ _ refl (is_digit_lem _ (omega arith) (omega arith)) (is_digit_lem _ (omega arith) (omega arith))
    c.if-leading_zero.false

pub invariant_of-result : goal.invariant_of-result
invariant_of-result c = record { solid = front_apart _ c.in-48-to-57.len_at_least c.args.self.solid }

pub invariant_of-result-2 : goal.invariant_of-result-2
invariant_of-result-2 c = record { solid = front_apart _ c.in-48-to-57-behind.len_at_least (front_apart _ c.in-48-to-57.len_at_least c.args.self.solid) }
