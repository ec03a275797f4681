-- `codes::not_below` meets its contract: a shift down and up again by the place of the lowest member.
use mathlib.Core.Path.{sym, ap, ◌∙◌}
use Prim.Native.Nat.{◌*◌, ◌/◌, ◌^◌, ◌<◌}
use native.Mathlib.Nat.{mod-eq_of_lt, div-mul-le_self, lt_of_le_of_lt}
use native.Mathlib.Omega.{arith}
use lib.Count.{count_trailing_zeros}
use Rattle.reach.proofs.CodeSets.{shift_not_below, not_below_empty}
use Rattle.esterel.specs.Codes.{not_below}
use Rattle.reach.proofs.codes.not_below.Goals as goal

pub returns-then-b-eq0 : goal.returns-then-b-eq0
returns-then-b-eq0 c = sym (ap (not_below c.args.a c.args.a) c.if-b-eq0.true ∙ not_below_empty c.args.a c.args.a)

pub returns : goal.returns
returns c =
    let k = count_trailing_zeros 64 c.args.b in
    let h : c.args.a / 2 ^ k * 2 ^ k < 2 ^ 64 = lt_of_le_of_lt (div-mul-le_self c.args.a (2 ^ k)) c.ranges.a.fits in
    mod-eq_of_lt h ∙ sym (shift_not_below 64 c.args.a c.args.a c.args.b (omega arith) c.ranges.b.fits c.if-b-eq0.false)
