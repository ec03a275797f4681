-- Notes at the nodes: what they say of a node and of those below it, and that they stay where nothing else is written.
use mathlib.Core.Path.{◌≡◌, refl, sym, ap, ◌∙◌}
use mathlib.Core.Logic.{◌≢◌, ◌⊎◌, inl, inr}
use mathlib.Core.Bool.{Bool, true, false, cond, ◌||◌}
use mathlib.Core.List.{List}
use Prim.Native.Nat.{ℕ, zero, suc, ◌+◌, ◌-◌, ◌≤◌, ◌<◌}
use native.Mathlib.Decide.{dec_le}
use native.Mathlib.Numerals.{sub-one}
use native.Mathlib.Omega.{arith}
use lib.Dec.{eqb}
use lib.ListN.{length, get_or, get_or-eq_default}
use borrow.Author.Tests.{lt-ltb}
use Rattle.esterel.specs.Statement.{Statement}
use Rattle.esterel.specs.Codes.{join, s, d}
use Rattle.esterel.specs.Trimming.{ends_at, can_end, trim}
use Rattle.table.specs.Kinds.{kinds, kind_of, row_of}
use Rattle.table.specs.Reading.{kind_of_node, operand_of}
use Rattle.table.specs.inner.Places.{Placed, statement_at}
use Rattle.trim.specs.declared.noted.Note.{Note}
use Rattle.trim.proofs.Leaving.{ends_more}
use Rattle.trim.specs.inner.Notes.{live, ending_of, holds, no_note, ends_of, leaf_note, try_note, child_note, second_place, note_for, for_children, Noted}
use Rattle.table.proofs.Places.{Node, follow, follow_forward, place_next, next_forward}

-- ---- A node that is there
module _ (R : ℕ) (notes : List Note) {left : ℕ} {nodes : List ℕ} {at k : ℕ} (n : Node left nodes at k) where
  -- its own note, and those of the children
  abbrev Below : Type 0
  Below =
      (get_or notes at no_note ≡ note_for R k (statement_at left nodes at).statement (statement_at (left - 1) nodes (at + 1)))
      × for_children (row_of (kind_of k)).children (Noted R notes nodes (left - 1) (at + 1)) (Noted R notes nodes (left - 1) (statement_at (left - 1) nodes (at + 1)).next)

  pub noted_node : Noted R notes nodes left at → Below
  unfolding Noted
  noted_node h = go left n.some h
    where
      go : (l : ℕ) → l ≢ 0 → Noted R notes nodes l at
          → (get_or notes at no_note ≡ note_for R k (statement_at l nodes at).statement (statement_at (l - 1) nodes (at + 1)))
          × for_children (row_of (kind_of k)).children (Noted R notes nodes (l - 1) (at + 1)) (Noted R notes nodes (l - 1) (statement_at (l - 1) nodes (at + 1)).next)
      go zero z h = absurd (z refl)
      go (suc m) z h = rw (sub-one (suc m), ← n.kind) (h.0 n.inside, h.1)

  pub noted_make : Below → Noted R notes nodes left at
  unfolding Noted
  noted_make h = go left n.some h
    where
      go : (l : ℕ) → l ≢ 0
          → (get_or notes at no_note ≡ note_for R k (statement_at l nodes at).statement (statement_at (l - 1) nodes (at + 1)))
          × for_children (row_of (kind_of k)).children (Noted R notes nodes (l - 1) (at + 1)) (Noted R notes nodes (l - 1) (statement_at (l - 1) nodes (at + 1)).next)
          → Noted R notes nodes l at
      go zero z h = absurd (z refl)
      go (suc m) z h = let g = rw (sub-one (suc m), ← n.kind) at h in (λ i. g.0, g.1)

-- ---- A place without a node
no_children : (nodes : List ℕ) (at : ℕ) → length nodes ≤ at → (row_of (kind_of (kind_of_node (get_or nodes at 0)))).children ≡ 0
unfolding row_of kind_of kinds
no_children nodes at h = ap (λ (x : ℕ). (row_of (kind_of (kind_of_node x))).children) (get_or-eq_default nodes 0 h)

pub noted_none : (R : ℕ) (notes : List Note) (nodes : List ℕ) (left at : ℕ) → (left ≡ 0) ⊎ (length nodes ≤ at) → Noted R notes nodes left at
unfolding Noted
noted_none R notes nodes zero at h = tt
noted_none R notes nodes (suc left) at (inl e) = absurd (omega arith)
noted_none R notes nodes (suc left) at (inr h) = (λ i. absurd (omega arith), rw (no_children nodes at h) tt)

-- ---- Notes that stay
next_is : (nodes : List ℕ) (left at : ℕ) → at < length nodes
    → (statement_at (suc left) nodes at).next ≡ follow (row_of (kind_of (kind_of_node (get_or nodes at 0)))).children (statement_at left nodes) (at + 1)
unfolding statement_at
next_is nodes left at h =
    rw (lt-ltb at (length nodes) h) (place_next (kind_of (kind_of_node (get_or nodes at 0))) (operand_of (get_or nodes at 0)) (statement_at left nodes) (at + 1))

module _ (R : ℕ) (notes notes' : List Note) (nodes : List ℕ) where
  -- at the places of a statement
  abbrev Stays : ℕ → ℕ → Type 0
  Stays at next = (i : ℕ) → at ≤ i → i < next → get_or notes' i no_note ≡ get_or notes i no_note

  pub noted_stay : (left at : ℕ) → Noted R notes nodes left at → Stays at (statement_at left nodes at).next → Noted R notes' nodes left at
  unfolding Noted follow
  noted_stay zero at h s = tt
  noted_stay (suc left) at h s = go (dec_le (length nodes) at) (noted_stay left)
    where
      child : ℕ → Placed
      child = statement_at left nodes

      go : Dec (length nodes ≤ at) → ((at : ℕ) → Noted R notes nodes left at → Stays at (child at).next → Noted R notes' nodes left at) → Noted R notes' nodes (suc left) at
      go (yes l) ih = noted_none R notes' nodes (suc left) at (inr l)
      go (no l) ih =
          let c = (row_of (kind_of (kind_of_node (get_or nodes at 0)))).children in
          let e = next_is nodes left at (omega arith) in
          (λ i. s at (omega arith) (omega (arith, e, follow_forward child (next_forward nodes left) c (at + 1))) ∙ h.0 i, below c e h.1)
        where
          first : at + 1 ≤ (child (at + 1)).next
          first = next_forward nodes left (at + 1)

          below : (c : ℕ) → (statement_at (suc left) nodes at).next ≡ follow c child (at + 1)
              → for_children c (Noted R notes nodes left (at + 1)) (Noted R notes nodes left (child (at + 1)).next)
              → for_children c (Noted R notes' nodes left (at + 1)) (Noted R notes' nodes left (child (at + 1)).next)
          below zero e h = tt
          below (suc zero) e h = ih (at + 1) h (λ i x y. s i (omega arith) (omega (arith, e)))
          below (suc (suc c)) e h =
              let second = next_forward nodes left (child (at + 1)).next in
              let third = follow_forward child (next_forward nodes left) c (child (child (at + 1)).next).next in (
                ih (at + 1) h.0 (λ i x y. s i (omega arith) (omega (arith, e, second, third))),
                ih (child (at + 1)).next h.1 (λ i x y. s i (omega (arith, first)) (omega (arith, e, third))),
              )

-- ---- What a note says
holds_ending : (resumed started b : Bool) → holds (ending_of resumed started) b ≡ cond b (resumed || started) resumed
holds_ending true started true = refl
holds_ending true started false = refl
holds_ending false true true = refl
holds_ending false true false = refl
holds_ending false false true = refl
holds_ending false false false = refl

-- at every node
pub note_live : (R k : ℕ) (p : Statement) (first : Placed) → (note_for R k p first).live ≡ live R p
unfolding note_for
note_live R k p first = go (eqb (row_of (kind_of k)).children 0) (eqb k 10)
  where
    go : (y z : Bool) → (cond y (leaf_note R p) (cond z (try_note R p first) (child_note R p first (second_place (row_of (kind_of k)).children first)))).live ≡ live R p
    go true z = refl
    go false true = refl
    go false false = refl

-- "0 is in C", at one with children that is no try
pub ends_note : (R : ℕ) (b : Bool) (p : Statement) (first : Placed) (second : ℕ) → ends_of (child_note R p first second) b ≡ can_end R b first.statement
unfolding can_end join
ends_note R true p first second = holds_ending (d R first.statement).ends (s first.statement).ends true
ends_note R false p first second = holds_ending (d R first.statement).ends (s first.statement).ends false

-- at a try: an exit that is left where it is resumed is left where it is started
pub try_kept : (R : ℕ) (b : Bool) (p : Statement) (body : Placed) → ends_of (try_note R p body) b ≡ ends_at 0 (trim R b body.statement)
try_kept R true p body =
    holds_ending (ends_at 0 (trim R false body.statement)) (ends_at 0 (trim R true body.statement)) true ∙ or_more _ _ (ends_more 0 R body.statement)
  where
    or_more : (y z : Bool) → (y ≡ true → z ≡ true) → (y || z) ≡ z
    or_more true z h = sym (h refl)
    or_more false z h = refl
try_kept R false p body = holds_ending (ends_at 0 (trim R false body.statement)) (ends_at 0 (trim R true body.statement)) false
