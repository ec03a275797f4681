-- By the loops' invariants: the nodes cut so far were put in front of the buffer.
use mathlib.Core.Path.{◌≡◌, subst}
use Prim.Native.Nat.{ℕ, ◌+◌, ◌*◌, ◌/◌}
use native.Mathlib.Omega.{arith}
use Rattle.table.specs.Reading.{length_of}
use Rattle.table.specs.inner.Loading.{Cut, Front}
use Rattle.table.proofs.Cutting.{cut_none, cut_then, cut_all, length_cut}
use Rattle.table.proofs.reading.decode.Goals as goal

pub loop-four-init : goal.loop-four-init
loop-four-init c = cut_none _ _ _

pub cut_four-requires : goal.cut_four-requires
unfolding length_of
cut_four-requires c =
    let s = length_cut _ _ _ _ _ c.loop-four.invariant in
    (omega arith, omega arith, omega arith, omega arith)

pub loop-four-preserved : goal.loop-four-preserved
loop-four-preserved c =
    let four : ℕ = c.loop-four.four in
    let e : 4 * four + 4 ≡ 4 * (four + 1) = omega arith in
    subst (λ (k : ℕ). Cut c.args.table.now 0 k c.args.nodes.now c.cut_four.new.nodes) e
    (cut_then _ 0 (4 * four) (4 * four + 4) _ _ _ c.loop-four.invariant c.cut_four.ensures)

pub loop-i-init : goal.loop-i-init
loop-i-init c = cut_none _ _ _

pub cut_one-requires : goal.cut_one-requires
unfolding length_of
cut_one-requires c =
    let s = length_cut _ _ _ _ _ c.loop-four.invariant in
    let t = length_cut _ _ _ _ _ c.loop-i.invariant in
    (omega arith, omega arith, omega arith)

pub loop-i-preserved : goal.loop-i-preserved
loop-i-preserved c = cut_then _ _ c.loop-i.i (c.loop-i.i + 1) _ _ _ c.loop-i.invariant c.cut_one.ensures

-- all is cut
pub returns : goal.returns
returns c =
    let first : c.loop-four.four ≡ c.args.n / 4 = omega arith in
    let done : c.loop-i.i ≡ c.args.n = omega arith in
    let fours : Cut c.args.table.now 0 (4 * (c.args.n / 4)) c.args.nodes.now c.loop-four.nodes =
    subst (λ (k : ℕ). Cut c.args.table.now 0 (4 * k) c.args.nodes.now c.loop-four.nodes) first c.loop-four.invariant in
    subst (λ (n : ℕ). Front c.args.table.now n c.args.nodes.now c.loop-i.nodes) done
    (cut_all _ _ _ _ (cut_then _ 0 _ _ _ _ _ fours c.loop-i.invariant))
