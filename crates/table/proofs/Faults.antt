-- A node without a fault, by its kind: where `fault_of` is 0 the node is one of eleven, with its operand in range, and the
-- other way round. And what `fault_of` comes to as its tests are made one after the other.
use mathlib.Core.Path.{◌≡◌, refl, sym, ◌∙◌, subst}
use mathlib.Core.Bool.{Bool, true, false, cond, ◌&&◌, ◌||◌}
use Prim.Native.Nat.{ℕ, zero, suc, ◌/◌, ◌%◌, ◌≤◌, ◌<◌, zero-le}
use native.Mathlib.Omega.{arith}
use lib.Dec.{eqb, ltb, eqb-suc-zero}
use borrow.Author.Tests.{ltb-false, lt-ltb, le-ltb, eqb-false, eq-eqb, ne_eqb}
use Rattle.sets.specs.Set.{has}
use Rattle.sets.proofs.Booleans.{or_neither}
use Rattle.table.specs.Kinds.{kinds, kind_of, row_of}
use Rattle.table.specs.Reading.{fault_of}
use Rattle.table.specs.inner.Loading.{field_fault}
use Rattle.table.specs.Writing.{node}
use Rattle.table.proofs.Nodes.{kind_node, operand_node, node_split}

-- a node that stands in `tries` try statements after pauses with the labels `used`
pub data Faultless (tries used : ℕ) : ℕ → Type 0 where
  nothing : Faultless tries used (node 0 0)
  pause : (l : ℕ) → 1 ≤ l → l ≤ 63 → has used l ≡ false → Faultless tries used (node 1 l)
  gotopause : (l : ℕ) → 1 ≤ l → l ≤ 63 → Faultless tries used (node 2 l)
  emit : (S : ℕ) → S ≤ 31 → Faultless tries used (node 3 S)
  exit : (d : ℕ) → 1 ≤ d → d ≤ 63 → d ≤ tries → Faultless tries used (node 4 d)
  signal : (S : ℕ) → S ≤ 31 → Faultless tries used (node 5 S)
  present : (S : ℕ) → S ≤ 31 → Faultless tries used (node 6 S)
  sequence : Faultless tries used (node 7 0)
  parallel : Faultless tries used (node 8 0)
  loop : Faultless tries used (node 9 0)
  try : Faultless tries used (node 10 0)

-- the number of the first test that fails
abbrev first_of : Bool → Bool → Bool → Bool → Bool → ℕ
first_of a b c d e = cond a 6 (cond b 7 (cond c 8 (cond d 9 (cond e 10 0))))

none_of : (a b c d e : Bool) → first_of a b c d e ≡ 0 → (a ≡ false) × (b ≡ false) × (c ≡ false) × (d ≡ false) × (e ≡ false)
none_of true b c d e h = absurd (omega arith)
none_of false true c d e h = absurd (omega arith)
none_of false false true d e h = absurd (omega arith)
none_of false false false true e h = absurd (omega arith)
none_of false false false false true h = absurd (omega arith)
none_of false false false false false h = (refl, refl, refl, refl, refl)

-- the tests of a node with the kind k and the operand o
abbrev fault_at : ℕ → ℕ → ℕ → ℕ → ℕ → ℕ
fault_at left tries used k o =
    first_of (ltb 10 k) (ltb o (row_of (kind_of k)).least || ltb (row_of (kind_of k)).most o) (eqb left 0) (eqb k 4 && ltb tries o) (eqb k 1 && has used o)

only_zero : (o : ℕ) → o ≤ 0 → 0 ≡ o
only_zero o h = omega arith

-- where the tests are passed, by the kind
by_kind : (tries used k o : ℕ) → k ≤ 10 → (row_of (kind_of k)).least ≤ o → o ≤ (row_of (kind_of k)).most
    → (eqb k 4 && ltb tries o) ≡ false → (eqb k 1 && has used o) ≡ false → Faultless tries used (node k o)
unfolding row_of kind_of kinds
by_kind tries used zero o b l m e f = subst (λ (o : ℕ). Faultless tries used (node 0 o)) (only_zero o m) nothing
by_kind tries used (suc zero) o b l m e f = pause o l m f
by_kind tries used (suc (suc zero)) o b l m e f = gotopause o l m
by_kind tries used (suc (suc (suc zero))) o b l m e f = emit o m
by_kind tries used (suc (suc (suc (suc zero)))) o b l m e f = exit o l m (ltb-false tries o e)
by_kind tries used (suc (suc (suc (suc (suc zero))))) o b l m e f = signal o m
by_kind tries used (suc (suc (suc (suc (suc (suc zero)))))) o b l m e f = present o m
by_kind tries used (suc (suc (suc (suc (suc (suc (suc zero))))))) o b l m e f = subst (λ (o : ℕ). Faultless tries used (node 7 o)) (only_zero o m) sequence
by_kind tries used (suc (suc (suc (suc (suc (suc (suc (suc zero)))))))) o b l m e f = subst (λ (o : ℕ). Faultless tries used (node 8 o)) (only_zero o m) parallel
by_kind tries used (suc (suc (suc (suc (suc (suc (suc (suc (suc zero))))))))) o b l m e f = subst (λ (o : ℕ). Faultless tries used (node 9 o)) (only_zero o m) loop
by_kind tries used (suc (suc (suc (suc (suc (suc (suc (suc (suc (suc zero)))))))))) o b l m e f = subst (λ (o : ℕ). Faultless tries used (node 10 o)) (only_zero o m) try
by_kind tries used (suc (suc (suc (suc (suc (suc (suc (suc (suc (suc (suc k))))))))))) o b l m e f = absurd (omega arith)

pub fault_none : (left tries used x : ℕ) → fault_of left tries used x ≡ 0 → (1 ≤ left) × Faultless tries used x
unfolding fault_of
fault_none left tries used x h =
    let k = x / 64 in
    let o = x % 64 in
    let (a, b, c, d, e) = none_of (ltb 10 k) (ltb o (row_of (kind_of k)).least || ltb (row_of (kind_of k)).most o) (eqb left 0) (eqb k 4 && ltb tries o) (eqb k 1 && has used o) h in
    let (l, m) = or_neither (ltb o (row_of (kind_of k)).least) (ltb (row_of (kind_of k)).most o) b in
    let n : left ≡ 0 → ⊥ = eqb-false left 0 c in
    (omega arith, subst (Faultless tries used) (node_split x) (by_kind tries used k o (ltb-false 10 k a) (ltb-false _ _ l) (ltb-false _ _ m) d e))

fault_node : (left tries used k o : ℕ) → o < 64 → fault_of left tries used (node k o) ≡ fault_at left tries used k o
unfolding fault_of
fault_node left tries used k o h = rw (kind_node k o h, operand_node k o h)

pub none_fault : (left tries used x : ℕ) → Faultless tries used x → fault_of (suc left) tries used x ≡ 0
unfolding fault_of row_of kind_of kinds
none_fault left tries used x nothing = rw eqb-suc-zero
none_fault left tries used x (pause l a b u) = fault_node (suc left) tries used 1 l (omega arith) ∙ rw (eqb-suc-zero, le-ltb l 1 a, le-ltb 63 l b, u)
none_fault left tries used x (gotopause l a b) = fault_node (suc left) tries used 2 l (omega arith) ∙ rw (eqb-suc-zero, le-ltb l 1 a, le-ltb 63 l b)
none_fault left tries used x (emit S b) = fault_node (suc left) tries used 3 S (omega arith) ∙ rw (eqb-suc-zero, le-ltb S 0 zero-le, le-ltb 31 S b)
none_fault left tries used x (exit d a b c) = fault_node (suc left) tries used 4 d (omega arith) ∙ rw (eqb-suc-zero, le-ltb d 1 a, le-ltb 63 d b, le-ltb tries d c)
none_fault left tries used x (signal S b) = fault_node (suc left) tries used 5 S (omega arith) ∙ rw (eqb-suc-zero, le-ltb S 0 zero-le, le-ltb 31 S b)
none_fault left tries used x (present S b) = fault_node (suc left) tries used 6 S (omega arith) ∙ rw (eqb-suc-zero, le-ltb S 0 zero-le, le-ltb 31 S b)
none_fault left tries used x sequence = rw eqb-suc-zero
none_fault left tries used x parallel = rw eqb-suc-zero
none_fault left tries used x loop = rw eqb-suc-zero
none_fault left tries used x try = rw eqb-suc-zero

-- ---- The tests one after the other, on a node's kind, operand and row
pub fault_kind : (left tries used x k : ℕ) → k ≡ x / 64 → 10 < k → 6 ≡ fault_of left tries used x
unfolding fault_of
fault_kind left tries used x k e h = rw (← e, lt-ltb 10 k h)

-- the node x has the known kind k and the operand o, and `fault` is what its range and its depth give
pub record Fields (left x k o fault : ℕ) : Type 0 where
  pub kind : k ≡ x / 64
  pub known : k ≤ 10
  pub operand : o ≡ x % 64
  pub first : fault ≡ field_fault left o (row_of (kind_of k))

-- the first two tests, and then one more
then_one : (b c d : Bool) (w : ℕ) → cond (eqb (cond b 7 (cond c 8 0)) 0) (cond d w 0) (cond b 7 (cond c 8 0)) ≡ cond b 7 (cond c 8 (cond d w 0))
then_one true c d w = refl
then_one false true d w = refl
then_one false false d w = refl

-- where one of the first two tests finds something, the others make no difference
first_two : (b c d e : Bool) → (◌≡◌ {A = ℕ} (cond b 7 (cond c 8 0)) 0 → ⊥) → ◌≡◌ {A = ℕ} (cond b 7 (cond c 8 0)) (first_of false b c d e)
first_two true c d e h = refl
first_two false true d e h = refl
first_two false false d e h = absurd (h refl)

module _ (tries used : ℕ) {left x k o fault : ℕ} (f : Fields left x k o fault) where
  abbrev outside : Bool
  outside = ltb o (row_of (kind_of k)).least || ltb (row_of (kind_of k)).most o

  tested : fault_of left tries used x ≡ first_of false outside (eqb left 0) (eqb k 4 && ltb tries o) (eqb k 1 && has used o)
  unfolding fault_of
  tested = rw (← f.kind, ← f.operand, le-ltb 10 k f.known)

  pub fault_first : (fault ≡ 0 → ⊥) → fault ≡ fault_of left tries used x
  fault_first d =
      f.first ∙ first_two outside (eqb left 0) (eqb k 4 && ltb tries o) (eqb k 1 && has used o) (λ z. d (f.first ∙ z)) ∙ sym tested

  pub fault_other : (k ≡ 1 → ⊥) → (k ≡ 4 → ⊥) → fault ≡ fault_of left tries used x
  fault_other a b = f.first ∙ sym (tested ∙ rw (ne_eqb k 4 b, ne_eqb k 1 a))

  -- an exit's level, and a pause's label, are looked at where there is no fault before
  pub fault_exit : k ≡ 4 → (level why : ℕ) → level ≡ cond (ltb tries o) 9 0 → why ≡ cond (eqb fault 0) level fault → why ≡ fault_of left tries used x
  fault_exit e level why h i =
      let other : k ≡ 1 → ⊥ = λ z. omega arith in
      let all : fault_of left tries used x ≡ cond outside 7 (cond (eqb left 0) 8 (cond (ltb tries o) 9 0)) = tested ∙ rw (eq-eqb k 4 e, ne_eqb k 1 other) in
      rw (all, i, h, f.first) (then_one outside (eqb left 0) (ltb tries o) 9)

  pub fault_pause : k ≡ 1 → (label why : ℕ) → label ≡ cond (has used o) 10 0 → why ≡ cond (eqb fault 0) label fault → why ≡ fault_of left tries used x
  fault_pause e label why h i =
      let other : k ≡ 4 → ⊥ = λ z. omega arith in
      let all : fault_of left tries used x ≡ cond outside 7 (cond (eqb left 0) 8 (cond (has used o) 10 0)) = tested ∙ rw (ne_eqb k 4 other, eq-eqb k 1 e) in
      rw (all, i, h, f.first) (then_one outside (eqb left 0) (has used o) 10)
