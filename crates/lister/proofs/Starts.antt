-- The rows of a started statement, by the node that stands there, from those of its children.
use mathlib.Core.Path.{◌≡◌, refl, sym, ap, ap₂, ◌∙◌, subst}
use mathlib.Core.Bool.{Bool, true, false, cond, true≢false}
use lib.Dec.{eqb}
use mathlib.Core.List.{List, [], ◌∷◌, ◌++◌}
use mathlib.Core.Option.{some}
use Prim.Native.Nat.{ℕ, zero, suc, ◌+◌, ◌*◌, ◌%◌, ◌^◌, ◌≤◌, ◌<◌}
use native.Mathlib.Omega.{arith}
use lib.ListN.{get_or}
use Rattle.sets.specs.Set.{has, only}
use Rattle.sets.proofs.Members.{only_fits}
use Rattle.sets.proofs.Words.{only_below}
use Rattle.esterel.specs.Statement.{Statement, emit, present, sequence, parallel, depth}
use Rattle.esterel.specs.Codes.{code_of}
use Rattle.esterel.specs.Reactions.{State, start}
use Rattle.esterel.specs.Listing.{reaction}
use Rattle.esterel.specs.inner.Conditions.{slot_of, Condition, condition, always}
use Rattle.esterel.specs.inner.Rows.{Row, row_when, sure, only_rows, each_row, tested, emit_rows}
use Rattle.esterel.specs.inner.CappedRows.{CappedRows, change_rows, join_rows, then_rows, capped_rows}
use Rattle.table.specs.Reading.{kind_of_node, operand_of}
use Rattle.table.specs.inner.Places.{Placed}
use Rattle.table.proofs.Nodes.{depth_positive}
use Rattle.rows.specs.declared.row.TheConstants.Row.{NOTHING}
use Rattle.rows.specs.inner.Layout.{unpacked_words, unpacked}
use Rattle.rows.specs.inner.Rules.{Clashless, given_row, going_row, caught_row, never, together_row, product}
use Rattle.rows.proofs.Rules.{capped_clashless, change_given, change_going, change_caught, product_parallel, tested_steps}
use Rattle.lister.specs.declared.noted.Noted.{Noted}
use Rattle.lister.specs.declared.presence.Presence.{Presence}
use Rattle.lister.specs.inner.Notes.{unnoted, place_at, part_at, ReadWhole}
use Rattle.lister.specs.inner.Joins.{room_for, rows_under, following}
use Rattle.lister.proofs.Nodes.{One, Two, before_end, is_nothing_lem, is_pause, is_gotopause, is_emit, is_exit, is_signal, is_present, is_sequence, is_parallel, is_loop, is_try}
use Rattle.lister.proofs.Joins.{changed_as, joined_as}

-- ---- the children can be listed too
-- a child stands at i
pub record Child (n : ℕ) (xs : List ℕ) (at i : ℕ) : Type 0 where
  pub whole : ReadWhole n xs i
  pub less : depth (part_at xs i) < depth (part_at xs at)

-- the second child stands where the first is noted to end
abbrev pub second_at : Noted → ℕ → ℕ
second_at s at = (get_or s.notes (at + 1) unnoted).end

pub place_few : (s : Noted) {at : ℕ} → ReadWhole s.count s.nodes at → at < 1024
place_few s w = let f = s.few in let b = before_end w in omega arith

pub some_room : (n : ℕ) → eqb n 0 ≡ false → 0 < n
some_room zero e = absurd (true≢false e)
some_room (suc n) e = omega arith

module _ (s : Noted) {at : ℕ} (w : ReadWhole s.count s.nodes at) where
  abbrev pub node : ℕ
  node = get_or s.nodes at 0

  abbrev pub here : Statement
  here = part_at s.nodes at

  abbrev pub first : Statement
  first = part_at s.nodes (at + 1)

  abbrev pub second : Statement
  second = part_at s.nodes (second_at s at)

  pub kind_few : kind_of_node node ≤ 10
  kind_few = s.known at (before_end w)

  pub emits_narrow : kind_of_node node ≡ 3 → operand_of node < 32
  emits_narrow e = s.narrow at (before_end w) e

  only_child : {f : Statement → Statement} → One s.count s.nodes at f → Child s.count s.nodes at (at + 1)
  only_child o = record { whole = o.first; less = o.less }

  first_child : {f : Statement → Statement → Statement} → Two s.count s.nodes at f → Child s.count s.nodes at (at + 1)
  first_child t = record { whole = t.first; less = t.less.0 }

  second_place : {f : Statement → Statement → Statement} → Two s.count s.nodes at f → (place_at s.nodes (at + 1)).next ≡ second_at s at
  second_place t = sym (s.ends (at + 1) (omega arith) t.first)

  second_child : {f : Statement → Statement → Statement} → Two s.count s.nodes at f → Child s.count s.nodes at (second_at s at)
  second_child t = subst (Child s.count s.nodes at) (second_place t) (record { whole = t.second; less = t.less.1 })

  pub child_signal : kind_of_node node ≡ 5 → Child s.count s.nodes at (at + 1)
  child_signal e = only_child (is_signal w e)

  pub child_present : kind_of_node node ≡ 6 → Child s.count s.nodes at (at + 1)
  child_present e = first_child (is_present w e)

  pub child_sequence : kind_of_node node ≡ 7 → Child s.count s.nodes at (at + 1)
  child_sequence e = first_child (is_sequence w e)

  pub child_parallel : kind_of_node node ≡ 8 → Child s.count s.nodes at (at + 1)
  child_parallel e = first_child (is_parallel w e)

  pub child_loop : kind_of_node node ≡ 9 → Child s.count s.nodes at (at + 1)
  child_loop e = only_child (is_loop w e)

  pub child_try : kind_of_node node ≡ 10 → Child s.count s.nodes at (at + 1)
  child_try e = only_child (is_try w e)

  pub child_else : kind_of_node node ≡ 6 → Child s.count s.nodes at (second_at s at)
  child_else e = second_child (is_present w e)

  pub child_then : kind_of_node node ≡ 7 → Child s.count s.nodes at (second_at s at)
  child_then e = second_child (is_sequence w e)

  pub child_beside : kind_of_node node ≡ 8 → Child s.count s.nodes at (second_at s at)
  child_beside e = second_child (is_parallel w e)

  two_at : {f : Statement → Statement → Statement} → Two s.count s.nodes at f → part_at s.nodes at ≡ f first second
  two_at {f} t = ap (λ (p : Placed). p.statement) t.is ∙ ap (λ (z : ℕ). f first (part_at s.nodes z)) (second_place t)

  pub present_at : kind_of_node node ≡ 6 → part_at s.nodes at ≡ present (operand_of node) first second
  present_at e = two_at (is_present w e)

  pub sequence_at : kind_of_node node ≡ 7 → part_at s.nodes at ≡ sequence first second
  sequence_at e = two_at (is_sequence w e)

  pub parallel_at : kind_of_node node ≡ 8 → part_at s.nodes at ≡ parallel first second
  parallel_at e = two_at (is_parallel w e)

-- a call on a child: its measure is below, and its statement stands whole; its list needs less room
pub child_called : {n t : ℕ} {xs : List ℕ} {at i : ℕ} → 3 * depth (part_at xs at) ≤ t → Child n xs at i → (3 * depth (part_at xs i) + 2 < t) × ReadWhole n xs i
child_called h k = (omega (arith, h, k.less), k.whole)

module _ {n : ℕ} {xs : List ℕ} {at i : ℕ} (k : Child n xs at i) where
  pub less_room : 64 + room_for (part_at xs i) ≤ room_for (part_at xs at)
  less_room = omega (arith, k.less)

  pub wide : 193 ≤ room_for (part_at xs at)
  wide = omega (arith, k.less, depth_positive (part_at xs i))

-- ---- the rows
pub nothing_row : unpacked NOTHING ≡ row_when always (reaction 0 0 0)
unfolding unpacked unpacked_words always
nothing_row = refl

pub clashless_under : (g : Presence) (p : Statement) (x : State) → (ws : List Row) → rows_under g p x ≡ some ws → Clashless ws
clashless_under g p x = capped_clashless g.slotted p x g.assumed g.unknown g.slots.within

module _ (s : Noted) {at : ℕ} (w : ReadWhole s.count s.nodes at) (g : Presence) where
  abbrev pub rows_here : State → CappedRows
  rows_here x = rows_under g (here s w) x

  abbrev pub rows_first : State → CappedRows
  rows_first x = rows_under g (first s w) x

  abbrev pub rows_second : State → CappedRows
  rows_second x = rows_under g (second s w) x

  pub as_read : (x : State) {p : Statement} → here s w ≡ p → rows_here x ≡ rows_under g p x
  as_read x e = ap (λ (z : Statement). rows_under g z x) e

  pub as_placed : (x : State) {p : Placed} → place_at s.nodes at ≡ p → rows_here x ≡ rows_under g p.statement x
  as_placed x e = as_read x (ap (λ (q : Placed). q.statement) e)

  -- ---- statements without children
  pub nothing_rows : kind_of_node (node s w) ≡ 0 → rows_here start ≡ some (sure (reaction 0 0 0))
  unfolding capped_rows
  nothing_rows e = as_placed start (is_nothing_lem w e)

  pub pause_rows : kind_of_node (node s w) ≡ 1 → (l : ℕ) → l ≡ operand_of (node s w) → rows_here start ≡ some (sure (reaction 0 1 (only l)))
  unfolding capped_rows
  pause_rows e l f = as_placed start (is_pause w e) ∙ ap (λ (z : ℕ). some (sure (reaction 0 1 (only z)))) (sym f)

  pub gotopause_rows : kind_of_node (node s w) ≡ 2 → (l : ℕ) → l ≡ operand_of (node s w) → rows_here start ≡ some (sure (reaction 0 1 (only l)))
  unfolding capped_rows
  gotopause_rows e l f = as_placed start (is_gotopause w e) ∙ ap (λ (z : ℕ). some (sure (reaction 0 1 (only z)))) (sym f)

  pub emit_rows_here : kind_of_node (node s w) ≡ 3 → (S : ℕ) → S ≡ operand_of (node s w) → rows_here start ≡ rows_under g (emit S) start
  emit_rows_here e S f = as_placed start (is_emit w e) ∙ ap (λ (z : ℕ). rows_under g (emit z) start) (sym f)

  pub exit_rows : kind_of_node (node s w) ≡ 4 → (d : ℕ) → d ≡ operand_of (node s w) → rows_here start ≡ some (sure (reaction 0 (code_of d) 0))
  unfolding capped_rows
  exit_rows e d f = as_placed start (is_exit w e) ∙ ap (λ (z : ℕ). some (sure (reaction 0 (code_of z) 0))) (sym f)

  -- ---- statements with one child
  pub loop_rows : kind_of_node (node s w) ≡ 9 → change_rows (λ ws. each_row ws going_row) (rows_first start) ≡ rows_here start
  unfolding capped_rows
  loop_rows e = changed_as (rows_first start) (λ ws i. change_going ws (clashless_under g (first s w) start ws i)) ∙ sym (as_placed start (is_loop w e).is)

  pub try_rows : (x : State) → kind_of_node (node s w) ≡ 10 → change_rows (λ ws. each_row ws caught_row) (rows_first x) ≡ rows_here x
  unfolding capped_rows
  try_rows x e = changed_as (rows_first x) (λ ws i. change_caught ws (clashless_under g (first s w) x ws i)) ∙ sym (as_placed x (is_try w e).is)

  -- ---- two children
  module _ (e : kind_of_node (node s w) ≡ 6) (S : ℕ) (f : S ≡ operand_of (node s w)) where
    branch : (y z : Bool) → has g.unknown S ≡ y → has g.assumed S ≡ z
        → cond y (join_rows (tested (slot_of g.slotted S)) (rows_first start) (rows_second start)) (cond z (rows_first start) (rows_second start)) ≡ rows_here start
    unfolding capped_rows
    branch y z h k =
        let v : CappedRows = rows_first start in
        let u : CappedRows = rows_second start in
        ap₂ (λ (i j : Bool). cond i (join_rows (tested (slot_of g.slotted S)) v u) (cond j v u)) (sym h) (sym k)
        ∙ sym (as_read start (present_at s w e ∙ ap (λ (i : ℕ). present i (first s w) (second s w)) (sym f)))

    pub then_rows_here : has g.unknown S ≡ false → has g.assumed S ≡ true → rows_first start ≡ rows_here start
    then_rows_here h k = branch false true h k

    pub else_rows : has g.unknown S ≡ false → has g.assumed S ≡ false → rows_second start ≡ rows_here start
    else_rows h k = branch false false h k

    -- S is unknown: d says that it is present, and d' that it is absent
    pub tested_rows : has g.unknown S ≡ true → (l : ℕ) → l ≡ slot_of g.slotted S → (d d' : Condition) → d ≡ condition (only l) 0 → d' ≡ condition 0 (only l)
        → join_rows ◌++◌ (change_rows (λ ws. each_row ws (given_row d)) (rows_first start)) (change_rows (λ ws. each_row ws (given_row d')) (rows_second start)) ≡ rows_here start
    tested_rows h l i d d' j k =
        let v : CappedRows = rows_first start in
        let u : CappedRows = rows_second start in
        ap₂ (join_rows ◌++◌)
        (ap (λ (z : Condition). change_rows (λ ws. each_row ws (given_row z)) v) j ∙ changed_as v (λ ws m. change_given (condition (only l) 0) ws))
        (ap (λ (z : Condition). change_rows (λ ws. each_row ws (given_row z)) u) k ∙ changed_as u (λ ws m. change_given (condition 0 (only l)) ws))
        ∙ sym (tested_steps l v u) ∙ ap (λ (z : ℕ). join_rows (tested z) v u) i ∙ branch true (has g.assumed S) h refl

  pub sequence_rows : kind_of_node (node s w) ≡ 7 → then_rows (rows_first start) (rows_second start) ≡ rows_here start
  unfolding capped_rows
  sequence_rows e = sym (as_read start (sequence_at s w e))

  pub parallel_rows : kind_of_node (node s w) ≡ 8 → join_rows (product never together_row) (rows_first start) (rows_second start) ≡ rows_here start
  unfolding capped_rows
  parallel_rows e = joined_as (rows_first start) (rows_second start) (λ ws vs i. product_parallel ws vs) ∙ sym (as_read start (parallel_at s w e))

-- ---- a started statement that follows
pub following_once : (g : Presence) (p : Statement) {again : Bool} → again ≡ false → rows_under g p start ≡ following g again p
following_once g p e = ap (λ (z : Bool). following g z p) (sym e)

pub following_again : (g : Presence) (p : Statement) {again : Bool} → again ≡ true → change_rows (λ ws. each_row ws going_row) (rows_under g p start) ≡ following g again p
following_again g p e = changed_as (rows_under g p start) (λ ws i. change_going ws (clashless_under g p start ws i)) ∙ ap (λ (z : Bool). following g z p) (sym e)

-- ---- emit
pub signal_word : (S w : ℕ) → S < 32 → w ≡ only S % 2 ^ 64 → w < 2 ^ 32
signal_word S w h e = let f = only_fits 64 S (omega arith) in let b = only_below 32 S h in omega arith

module _ (g : Presence) (S : ℕ) where
  by_signal : (y z : Bool) → has g.unknown S ≡ y → has g.assumed S ≡ z
      → some (cond y (row_when (condition (only (slot_of g.slotted S)) 0) (reaction (only S) 0 0) ∷ []) (only_rows z (sure (reaction (only S) 0 0)))) ≡ rows_under g (emit S) start
  unfolding capped_rows emit_rows
  by_signal y z h k =
      ap₂ (λ (i j : Bool). some (cond i (row_when (condition (only (slot_of g.slotted S)) 0) (reaction (only S) 0 0) ∷ []) (only_rows j (sure (reaction (only S) 0 0))))) (sym h) (sym k)

  pub emit_none : has g.unknown S ≡ false → has g.assumed S ≡ false → rows_under g (emit S) start ≡ some []
  emit_none e f = sym (by_signal false false e f)

  module _ (w : ℕ) (h : S < 64) (f : w ≡ only S % 2 ^ 64) (row : Row) where
    pub emit_one : (d : Condition) → has g.unknown S ≡ false → has g.assumed S ≡ true → d ≡ always → row ≡ row_when d (reaction w 0 0) → some (row ∷ []) ≡ rows_under g (emit S) start
    unfolding always
    emit_one d e k j i =
        ap (λ (r : Row). some (r ∷ [])) (i ∙ ap₂ (λ (c : Condition) (y : ℕ). row_when c (reaction y 0 0)) j (f ∙ only_fits 64 S h)) ∙ by_signal false true e k

    pub emit_unknown : (l : ℕ) (d : Condition) → has g.unknown S ≡ true → l ≡ slot_of g.slotted S → d ≡ condition (only l) 0 → row ≡ row_when d (reaction w 0 0)
        → some (row ∷ []) ≡ rows_under g (emit S) start
    emit_unknown l d e i j k =
        ap (λ (r : Row). some (r ∷ [])) (k ∙ ap₂ (λ (c : Condition) (y : ℕ). row_when c (reaction y 0 0)) (j ∙ ap (λ (z : ℕ). condition (only z) 0) i) (f ∙ only_fits 64 S h))
        ∙ by_signal true (has g.assumed S) e refl
