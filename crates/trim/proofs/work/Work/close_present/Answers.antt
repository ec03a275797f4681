-- `Work::close_present` meets its contract: two parts joined, or a present over its branches.
use native.Mathlib.Omega.{arith}
use Prim.Native.Nat.{ℕ, ◌%◌, ◌^◌, ◌≤◌}
use mathlib.Core.Bool.{Bool, true, cond}
use mathlib.Core.Path.{◌≡◌, subst, ap, ◌∙◌}
use Rattle.sets.specs.Set.{only}
use native.Mathlib.Nat.{mod-lt}
use Rattle.table.specs.Reading.{operand_of}
use Rattle.trim.specs.inner.Parts.{laid_at}
use Rattle.trim.proofs.Parts.{sequence_node, present_joined, present_whole, has_signal}
use Rattle.trim.proofs.work.Work.close_present.Goals as goal

pub returns-then-not-started : goal.returns-then-not-started
returns-then-not-started c mid =
    present_joined c.if-not-started.true (rw (c.node_of.ensures ∙ sequence_node) at (c.join.ensures.joined mid))

pub returns : goal.returns
returns c mid =
    let started : c.args.started ≡ true = c.if-not-started.false in
    let room : 2 ≤ c.args.self.now.from = subst (λ (b : Bool). cond b 2 1 ≤ c.args.self.now.from) started c.requires.room in
    let h : 1 ≤ c.fill-whole.new.self.from = omega (arith, room, c.fill-whole.ensures.near) in
    let named = has_signal (operand_of c.args.node) c.singleton.result (mod-lt c.args.node (omega arith)) (c.singleton.ensures ∙ ap (λ (n : ℕ). only n % 2 ^ 64) c.operand_of-signal.ensures) in
    rw c.max.ensures (present_whole {q = laid_at mid c.args.q} started c.singleton.result h named c.fill-whole.ensures c.put.ensures)
