-- At each return it is what the walk comes to there (proofs/Walking).
use mathlib.Core.Path.{◌≡◌, refl, sym, ap, ◌∙◌}
use mathlib.Core.Logic.{◌⊎◌, inl, inr}
use mathlib.Core.List.{List}
use mathlib.Core.Bool.{cond}
use Prim.Native.Nat.{ℕ, ◌+◌, ◌/◌, ◌%◌, ◌≤◌, ◌<◌}
use native.Mathlib.Omega.{arith}
use native.Mathlib.Decide.{ℕ_discrete}
use lib.Dec.{eqb}
use lib.ListN.{length, get_or, take}
use lib.Seq.{get_or-take, length-take-le}
use Rattle.table.specs.declared.Row.{Row}
use Rattle.table.specs.Kinds.{kind_of, row_of}
use Rattle.table.specs.Reading.{fault_of}
use Rattle.table.specs.inner.Loading.{field_fault}
use Rattle.std.proofs.lemmas.Result.{err_from_is_err_and}
use Rattle.table.proofs.Faults.{Fields, fault_none, fault_first, fault_kind, fault_other, fault_exit, fault_pause}
use Rattle.table.proofs.Loading.{number_some}
use Rattle.table.proofs.Walking.{At, WalkedAt, Parent, walk_end, walk_fault, walk_pause, walk_leaf, walk_first, few, onward_first, onward_only, onward_second}
use Rattle.table.proofs.reading.Walk.+statement.Goals as goal
use Rattle.table.proofs.reading.Walk.+statement.Goals.{After-test_fields-fields, In_ok-fields-in-5-to-10}

some : {w : ℕ} → 1 ≤ w → w ≡ 0 → ⊥
some a z = omega arith

-- a kind whose operand has no test of its own
record Plain (k : ℕ) : Type 0 where
  known : k ≤ 10
  no_pause : k ≡ 1 → ⊥
  no_exit : k ≡ 4 → ⊥

plain : (k m : ℕ) → k ≡ m → m ≤ 10 → (m ≡ 1 → ⊥) → (m ≡ 4 → ⊥) → Plain k
plain k m e a b c = record { known = omega arith; no_pause = λ z. b (sym e ∙ z); no_exit = λ z. c (sym e ∙ z) }

plain_parent : {tries k inside : ℕ} → Parent tries k inside → Plain k
plain_parent p = record { known = p.to; no_pause = λ z. omega arith; no_exit = λ z. omega arith }

two_or_three : (k : ℕ) → 2 ≤ k → k < 4 → ((k ≡ 0) ⊎ (k ≡ 2) ⊎ (k ≡ 3) ⊎ (k ≡ 4)) × Plain k
two_or_three k a b = go (ℕ_discrete k 2)
  where
    go : Dec (k ≡ 2) → ((k ≡ 0) ⊎ (k ≡ 2) ⊎ (k ≡ 3) ⊎ (k ≡ 4)) × Plain k
    go (yes e) = (inr (inl e), plain k 2 e (omega arith) (λ z. omega arith) (λ z. omega arith))
    go (no n) = let e : k ≡ 3 = omega arith in (inr (inr (inl e)), plain k 3 e (omega arith) (λ z. omega arith) (λ z. omega arith))

-- before the decision over the kinds: the place is one of the first n nodes; its kind, its operand, and the first of its faults
record Seen (nodes : List ℕ) (n left at kind operand fault : ℕ) : Type 0 where
  few : n ≤ 1024
  all : length nodes ≡ 1024
  inside : at < n
  kind_is : kind ≡ get_or nodes at 0 / 64
  operand_is : operand ≡ get_or nodes at 0 % 64
  first : fault ≡ field_fault left operand (row_of (kind_of kind))

seen : (nodes : List ℕ) (n left at : ℕ) {kind operand fault : ℕ} {row : Row} → n ≤ 1024 → length nodes ≡ 1024 → at < n
    → kind ≡ get_or nodes at 0 / 64 → operand ≡ get_or nodes at 0 % 64 → fault ≡ field_fault left operand row → row ≡ row_of (kind_of kind)
    → Seen nodes n left at kind operand fault
seen nodes n left at {kind} {operand} a b i k o f r =
    record { few = a; all = b; inside = i; kind_is = k; operand_is = o; first = f ∙ ap (field_fault left operand) r }

counted : (nodes : List ℕ) (n : ℕ) → n ≤ 1024 → length nodes ≡ 1024 → length (take n nodes) ≡ n
counted nodes n a b = length-take-le n nodes (omega (arith, a, b))

module _ {nodes : List ℕ} {n left at kind operand fault : ℕ} (s : Seen nodes n left at kind operand fault) where
  abbrev here : ℕ
  here = get_or nodes at 0

  at_node : {tries used : ℕ} → At n (take n nodes) left tries at used here kind
  at_node =
      let c = counted nodes n s.few s.all in
      record { count = c; inside = omega (arith, c, s.inside); node = sym (get_or-take n nodes at 0 s.inside); kind = s.kind_is }

  fields : kind ≤ 10 → Fields left here kind operand fault
  fields k = record { kind = s.kind_is; known = k; operand = s.operand_is; first = s.first }

  -- no pause and no exit: range and depth are all that is tested
  faults : (tries used : ℕ) → Plain kind → fault ≡ fault_of left tries used here
  faults tries used p = fault_other tries used (fields p.known) p.no_pause p.no_exit

  unknown : (tries used : ℕ) → 10 < kind → 6 ≡ fault_of left tries used here
  unknown tries used h = fault_kind left tries used here kind s.kind_is h

  fine : (tries used : ℕ) → Plain kind → fault ≡ 0 → 0 ≡ fault_of left tries used here
  fine tries used p z = sym z ∙ faults tries used p

  deep : Plain kind → fault ≡ 0 → 1 ≤ left
  deep p z = (fault_none left 0 0 here (sym (fine 0 0 p z))).0

  -- where the first two tests find something
  stopped : (tries used at' used' : ℕ) → kind ≤ 10 → 1 ≤ fault → WalkedAt n (take n nodes) left tries at used fault at' used'
  stopped tries used at' used' k d = walk_fault at_node fault _ _ (fault_first tries used (fields k) (some d)) (some d)

-- a node with children
parent_of : (tries : ℕ) {kind more : ℕ} → 5 ≤ kind → kind ≤ 10 → more ≡ cond (eqb kind 10) 1 0 → Parent tries kind (tries + more)
parent_of tries a b e = record { from = a; to = b; around = ap (λ (n : ℕ). tries + n) e }

-- what is known of a node behind its first two tests, by what these found
tested : {t : ℕ} (c : After-test_fields-fields t) {fault : ℕ} → fault ≡ field_fault c.loop-n.left c.operand_of-operand.result c.row_of-row.result
    → Seen c.args.nodes.now c.args.n c.loop-n.left c.loop-n.self.at c.kind_of-kind.result c.operand_of-operand.result fault
tested c e =
    seen c.args.nodes.now c.args.n c.loop-n.left c.loop-n.self.at c.requires.0 c.told-nodes c.if-n-here.false
    c.kind_of-kind.ensures c.operand_of-operand.ensures e c.row_of-row.ensures

-- of a node with children, of which they found nothing
module _ {t : ℕ} (c : In_ok-fields-in-5-to-10 t) where
  sound : Seen c.args.nodes.now c.args.n c.loop-n.left c.loop-n.self.at c.kind_of-kind.result c.operand_of-operand.result 0
  sound =
      seen c.args.nodes.now c.args.n c.loop-n.left c.loop-n.self.at c.requires.0 c.told-nodes c.if-n-here.false
      c.kind_of-kind.ensures c.operand_of-operand.ensures c.in_ok-fields-in-5-to-10.ensures c.row_of-row.ensures

  parent : (more : ℕ) → more ≡ cond (eqb c.kind_of-kind.result 10) 1 0 → Parent c.loop-n.tries c.kind_of-kind.result (c.loop-n.tries + more)
  parent more e = parent_of c.loop-n.tries (omega arith) (omega arith) e

  plainly : Plain c.kind_of-kind.result
  plainly = plain_parent (parent _ refl)

  none : 0 ≡ fault_of c.loop-n.left c.loop-n.tries c.loop-n.self.used (get_or c.args.nodes.now c.loop-n.self.at 0)
  none = fine sound c.loop-n.tries c.loop-n.self.used plainly refl

  some_left : 1 ≤ c.loop-n.left
  some_left = deep sound plainly refl

pub returns-then-n-here : goal.returns-then-n-here
returns-then-n-here t c =
    let w = c.loop-n.self in
    let all = counted c.args.nodes.now c.args.n c.requires.0 c.told-nodes in
    c.loop-n.invariant.leads _ _ _ (walk_end c.args.n (take c.args.n c.args.nodes.now) c.loop-n.left c.loop-n.tries w.at w.used _ _ all c.if-n-here.true)

pub returns-in-0 : goal.returns-in-0
returns-in-0 t c =
    let s = tested (goal.at.returns-in-0 t c).After-test_fields-fields c.test_fields-fields.ensures in
    let p = plain c.kind_of-kind.result 0 c.in-0.is (omega arith) (λ z. omega arith) (λ z. omega arith) in
    c.loop-n.invariant.leads _ _ _ (walk_leaf (at_node s) (inl c.in-0.is) _ (faults s c.loop-n.tries c.loop-n.self.used p))

pub returns-in-2-to-3 : goal.returns-in-2-to-3
returns-in-2-to-3 t c =
    let s = tested (goal.at.returns-in-2-to-3 t c).After-test_fields-fields c.test_fields-fields.ensures in
    let (which, p) = two_or_three c.kind_of-kind.result (omega arith) (omega arith) in
    c.loop-n.invariant.leads _ _ _ (walk_leaf (at_node s) which _ (faults s c.loop-n.tries c.loop-n.self.used p))

pub returns-in-11-to-15 : goal.returns-in-11-to-15
returns-in-11-to-15 t c =
    let s = tested (goal.at.returns-in-11-to-15 t c).After-test_fields-fields c.test_fields-fields.ensures in
    c.loop-n.invariant.leads _ _ _ (walk_fault (at_node s) 6 _ _ (unknown s c.loop-n.tries c.loop-n.self.used (omega arith)) (λ z. omega arith))

pub returns-in_default : goal.returns-in_default
returns-in_default t c =
    let s = tested (goal.at.returns-in_default t c).After-test_fields-fields c.test_fields-fields.ensures in
    c.loop-n.invariant.leads _ _ _ (walk_fault (at_node s) 6 _ _ (unknown s c.loop-n.tries c.loop-n.self.used (omega arith)) (λ z. omega arith))

pub returns-in_err-fields-in-1 : goal.returns-in_err-fields-in-1
returns-in_err-fields-in-1 t c =
    let s = tested (goal.at.returns-in_err-fields-in-1 t c).After-test_fields-fields c.in_err-fields-in-1.ensures in
    let r = err_from_is_err_and c.from_residual.result c.from_residual.ensures.1 in
    rw (r.1, r.2) (c.loop-n.invariant.leads _ _ _ (stopped s c.loop-n.tries c.loop-n.self.used _ _ (omega arith) (number_some c.in_err-fields-in-1.field-0.0)))

pub returns-in_err-fields-in-4 : goal.returns-in_err-fields-in-4
returns-in_err-fields-in-4 t c =
    let s = tested (goal.at.returns-in_err-fields-in-4 t c).After-test_fields-fields c.in_err-fields-in-4.ensures in
    let r = err_from_is_err_and c.from_residual-in_err-fields-in-4.result c.from_residual-in_err-fields-in-4.ensures.1 in
    rw (r.1, r.2) (c.loop-n.invariant.leads _ _ _ (stopped s c.loop-n.tries c.loop-n.self.used _ _ (omega arith) (number_some c.in_err-fields-in-4.field-0.0)))

pub returns-in_err-fields-in-5-to-10 : goal.returns-in_err-fields-in-5-to-10
returns-in_err-fields-in-5-to-10 t c =
    let s = tested (goal.at.returns-in_err-fields-in-5-to-10 t c).After-test_fields-fields c.in_err-fields-in-5-to-10.ensures in
    let r = err_from_is_err_and c.from_residual-in_err-fields-in-5-to-10.result c.from_residual-in_err-fields-in-5-to-10.ensures.1 in
    rw (r.1, r.2) (c.loop-n.invariant.leads _ _ _ (stopped s c.loop-n.tries c.loop-n.self.used _ _ (omega arith) (number_some c.in_err-fields-in-5-to-10.field-0.0)))

pub returns-in-1 : goal.returns-in-1
returns-in-1 t c =
    let s = tested (goal.at.returns-in-1 t c).After-test_fields-fields c.in_ok-fields-in-1.ensures in
    let e = fault_pause c.loop-n.tries c.loop-n.self.used (fields s (omega arith)) c.in-1.is in
    let w = walk_pause (at_node s) c.in-1.is _ _ _ c.operand_of-operand.ensures c.pause.ensures.used (e _ _ c.pause.ensures.found refl) in
    rw c.pause.ensures.at (c.loop-n.invariant.leads _ _ _ w)

pub returns-in-4 : goal.returns-in-4
returns-in-4 t c =
    let s = tested (goal.at.returns-in-4 t c).After-test_fields-fields c.in_ok-fields-in-4.ensures in
    let e = fault_exit c.loop-n.tries c.loop-n.self.used (fields s (omega arith)) c.in-4.is in
    c.loop-n.invariant.leads _ _ _ (walk_leaf (at_node s) (inr (inr (inr c.in-4.is))) _ (e _ _ c.test_level.ensures refl))

pub returns-in_err-statement : goal.returns-in_err-statement
returns-in_err-statement t c =
    let m = (goal.at.returns-in_err-statement t c).In_ok-fields-in-5-to-10 in
    let r = err_from_is_err_and c.from_residual-in_err-statement.result c.from_residual-in_err-statement.ensures.1 in
    let d = some (number_some c.in_err-statement.field-0.0) in
    rw (r.1, r.2) (c.loop-n.invariant.leads _ _ _ (walk_first (at_node (sound m)) (parent m _ c.tried-tries.ensures) (none m) _ _ _ _ _ d c.in_err-statement.ensures))

pub overflow_add-tries : goal.overflow_add-tries
overflow_add-tries t c =
    let m = (goal.at.overflow_add-tries t c).In_ok-fields-in-5-to-10 in
    omega (arith, c.loop-n.invariant.below, few (parent m _ c.tried-tries.ensures), c.requires.1, some_left m)

pub statement-requires : goal.statement-requires
statement-requires t c =
    let m = (goal.at.statement-requires t c).In_ok-fields-in-5-to-10 in
    let o = onward_first c.loop-n.invariant (parent m _ c.tried-tries.ensures) (some_left m) in
    (omega (arith, c.decreases, some_left m, c.loop-n.invariant.deeper), (c.requires.0, omega (arith, c.requires.1, o.1)))

-- the next round: behind the first of two children, or at the only one
pub loop-n-smaller-in-Continue-branch-4 : goal.loop-n-smaller-in-Continue-branch-4
loop-n-smaller-in-Continue-branch-4 t c = omega (arith, some_left (goal.at.loop-n-smaller-in-Continue-branch-4 t c).In_ok-fields-in-5-to-10)

pub loop-n-smaller : goal.loop-n-smaller
loop-n-smaller t c = omega (arith, some_left (goal.at.loop-n-smaller t c).In_ok-fields-in-5-to-10)

pub loop-n-preserved-in-Continue-branch-4 : goal.loop-n-preserved-in-Continue-branch-4
loop-n-preserved-in-Continue-branch-4 t c =
    let m = (goal.at.loop-n-preserved-in-Continue-branch-4 t c).In_ok-fields-in-5-to-10 in
    let p = parent m _ c.tried-tries.ensures in
    let two = sym (ap (λ r. r.children) c.row_of-row.ensures) ∙ c.if-row-eq2.true in
    onward_second c.loop-n.invariant p (some_left m) (at_node (sound m)) (none m) _ _ two c.in_ok-statement.ensures

pub loop-n-preserved : goal.loop-n-preserved
loop-n-preserved t c =
    let m = (goal.at.loop-n-preserved t c).In_ok-fields-in-5-to-10 in
    let p = parent m _ c.tried-tries.ensures in
    onward_only c.loop-n.invariant p (some_left m) (at_node (sound m)) (none m) (λ e. c.if-row-eq2.false (ap (λ r. r.children) c.row_of-row.ensures ∙ e))
