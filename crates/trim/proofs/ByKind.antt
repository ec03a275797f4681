-- Trimming at a node, kind by kind: the law of the kind, its nodes, and what the last step wrote.
use mathlib.Core.Path.{◌≡◌, refl, sym, ap, ap₂, ◌∙◌, subst}
use mathlib.Core.Logic.{◌⊎◌}
use mathlib.Core.Bool.{Bool, true, false, cond, not, ◌||◌}
use mathlib.Core.List.{List, [], ◌∷◌}
use Prim.Native.Nat.{ℕ, zero, suc, ◌+◌, ◌-◌, ◌%◌, ◌^◌, ◌≤◌, ◌<◌}
use native.Mathlib.Nat.{mod-lt}
use borrow.Author.Tests.{eq-eqb}
use native.Mathlib.Numerals.{add-one}
use native.Mathlib.Omega.{arith}
use lib.Dec.{eqb}
use lib.ListN.{length, get_or}
use lib.Seq.{get_or-set_same}
use Rattle.sets.specs.Set.{has, only}
use Rattle.sets.proofs.Booleans.{or_left, or_right, or_neither, or_false, not_true, clash}
use Rattle.sets.proofs.Members.{has_empty}
use Rattle.esterel.specs.Statement.{Statement, nothing, pause, gotopause, emit, exit, signal, present, sequence, parallel, loop, try, pauses, depth, Valid}
use Rattle.esterel.specs.Trimming.{is_nothing, names, join_parts, can_end, trim_signal, trim, ends_at}
use Rattle.table.specs.Kinds.{kinds, kind_of}
use Rattle.table.specs.Reading.{operand_of}
use Rattle.table.specs.inner.Places.{Placed, placed, place_kind, statement_at}
use Rattle.table.specs.Writing.{nodes, node}
use Rattle.trim.specs.declared.descent.Around.{Around}
use Rattle.trim.specs.inner.Levels.{level_out, trimmed_in, started_if, in_guard, in_else, in_try, places_in, wrap_if, guarded_if}
use Rattle.trim.specs.inner.Parts.{Laid, nothing_at, Leaf, ExitReady, LeafPut, Wrapped, PartsJoined, branch_if, present_if, ElseClosed, PresentClosed, Caught, Trimmable, Done}
use Rattle.table.specs.inner.Making.{node_of}
use Rattle.trim.proofs.Parts.{has_signal, joins_sequence, exit_node, sequence_node, parallel_node, loop_node, try_node}
use Rattle.trim.proofs.Trimming.{places_same, places_low, trimmed_pause, trimmed_gotopause, trimmed_emit, trimmed_exit, trimmed_signal, trimmed_sequence, trimmed_parallel, trimmed_loop, trimmed_present, trimmed_resumed, trimmed_try}
use Rattle.trim.specs.inner.Notes.{live, no_note, ends_of}
use Rattle.trim.specs.declared.noted.Note.{Note}
use Rattle.table.proofs.Places.{Node, placed_node, placed_none}
use Rattle.trim.proofs.Walk.{next_after}
use Rattle.trim.proofs.Notes.{noted_node, note_live}
use Rattle.trim.proofs.Live.{not_false, live_none, live_pause}
use Rattle.trim.proofs.Leaving.{ends_signal, ends_sequence, ends_parallel, ends_loop, ends_try, ends_branches}
use Rattle.trim.proofs.Steps.{NotedOne, NotedTwo, note_ends, note_place, note_kept, one_signal, one_loop, one_try, two_present, two_sequence, two_parallel, trimmed_none, trimmed_dead, trimmed_leaf, trimmed_one, trimmed_two, trimmed_branches}
use Rattle.trim.proofs.Steps.{one_ready, second_ready, join_ready, join_room, else_room, branch_ready, present_room}

module _ {R : ℕ} {xs : List ℕ} {notes : List Note} {at left : ℕ} {a : Around} {places work : List ℕ} {to : ℕ} (N : Trimmable R xs notes at left a places work to) where
  abbrev operand : ℕ
  operand = operand_of (get_or xs at 0)

  abbrev first : Placed
  first = statement_at (left - 1) xs (at + 1)

  abbrev Got : Laid → List ℕ → List ℕ → Type 0
  Got r places' work' = Done R (statement_at left xs at) at left a places work to r places' work'

  -- ---- no node, or no child

  pub at_none : (left ≡ 0) ⊎ (length xs ≤ at) → Got (nothing_at to) places work
  at_none h = rw (placed_none left xs at h) (trimmed_none R at left a places work to at (omega arith))

  pub at_nothing : Node left xs at 0 → Got (nothing_at to) places work
  unfolding place_kind kind_of kinds
  at_nothing n = rw (placed_node n) (trimmed_none R at left a places work to (at + 1) (omega arith))

  -- the test before the decision: what may be left, by the note
  note_says : {k : ℕ} → Node left xs at k → (get_or notes at no_note).live ≡ live R (statement_at left xs at).statement
  note_says {k} n = ap (λ (n : Note). n.live) (noted_node R notes n N.noted).0 ∙ note_live R k (statement_at left xs at).statement first

  pub at_dead : {k : ℕ} → Node left xs at k → {z : Bool} → z ≡ (a.started || (get_or notes at no_note).live) → not z ≡ true → Got (nothing_at to) places work
  at_dead n {z} e h =
      let m = or_neither a.started ((get_or notes at no_note).live) (sym e ∙ not_true z (λ y. clash h (ap not y))) in
      let s = next_after n in
      trimmed_dead R at left a places work to (statement_at left xs at) (omega arith) m.0 (sym (note_says n) ∙ m.1)

  -- past it, a statement is started or live
  abbrev Stays : Type 0
  Stays = (a.started || live R (statement_at left xs at).statement) ≡ true

  stays_here : {k : ℕ} → Node left xs at k → {z : Bool} → z ≡ (a.started || (get_or notes at no_note).live) → not z ≡ false → Stays
  stays_here n {z} e h = ap (λ (y : Bool). a.started || y) (sym (note_says n)) ∙ sym e ∙ not_false z h

  pub leaf_room : {k : ℕ} → Node left xs at k → 1 ≤ to
  leaf_room n = let r = N.room in let s = next_after n in omega arith

  holds : {p : Placed} → statement_at left xs at ≡ p → Valid a.tries p.statement
  holds e = subst (λ (p : Placed). Valid a.tries p.statement) e N.valid

  -- a node is its kind and its operand
  node_is : {k : ℕ} → Node left xs at k → get_or xs at 0 ≡ node k operand
  node_is n = omega (arith, n.kind)

  leaf : {t : Statement} (k named : ℕ) → nodes t ≡ node k operand ∷ [] → is_nothing t ≡ false → depth t ≡ 1 → ((S : ℕ) → has named S ≡ names S t)
      → Leaf t (node k operand) named
  leaf k named n s d h = record { nodes_are = n; some = s; deep = d; names_are = h }

  -- without a pause it is started
  started_here : (t : Statement) (n : ℕ) → statement_at left xs at ≡ placed t n → pauses t ≡ 0 → Stays → a.started ≡ true
  started_here t n e z h = sym (or_false a.started) ∙ ap (λ (y : Bool). a.started || y) (sym (ap (λ (p : Placed). live R p.statement) e ∙ live_none R t z)) ∙ h

  module _ {z : Bool} (said : z ≡ (a.started || (get_or notes at no_note).live)) (stays : not z ≡ false) where
    pub at_pause : Node left xs at 1 → {r : Laid} {work' : List ℕ} → LeafPut (get_or xs at 0) 0 work to r work' → Got r places work'
    unfolding place_kind kind_of kinds nodes is_nothing depth names
    at_pause n {r} {work'} P =
        let kept : (a.started || has R operand) ≡ true = ap (λ (y : Bool). a.started || y) (sym (ap (λ (p : Placed). live R p.statement) (placed_node n) ∙ live_pause R operand)) ∙ (stays_here n said stays) in
        rw (placed_node n) (trimmed_leaf R at left a places work to (pause operand) (pause operand) (node 1 operand) 0 r work' n.some
        (trimmed_pause R places a operand ∙ ap (λ (z : Bool). cond z (pause operand) nothing) kept) (leaf 1 0 refl refl refl has_empty) (rw (node_is n) at P))

    pub at_gotopause : Node left xs at 2 → {r : Laid} {work' : List ℕ} → LeafPut (get_or xs at 0) 0 work to r work' → Got r places work'
    unfolding place_kind kind_of kinds nodes is_nothing depth names pauses
    at_gotopause n {r} {work'} P =
        rw (placed_node n) (trimmed_leaf R at left a places work to (gotopause operand) (gotopause operand) (node 2 operand) 0 r work' n.some
        (trimmed_gotopause R places a operand ∙ ap (λ (z : Bool). cond z (gotopause operand) nothing) (started_here (gotopause operand) (at + 1) (placed_node n) refl (stays_here n said stays)))
        (leaf 2 0 refl refl refl has_empty) (rw (node_is n) at P))

    pub at_emit : Node left xs at 3 → {o : ℕ} → o ≡ operand → {own : ℕ} {r : Laid} {work' : List ℕ} → own ≡ only o % 2 ^ 64
        → LeafPut (get_or xs at 0) own work to r work' → Got r places work'
    unfolding place_kind kind_of kinds nodes is_nothing depth names pauses
    at_emit n e {own} {r} {work'} k P =
        let named = has_signal operand own (mod-lt (get_or xs at 0) (omega arith)) (k ∙ ap (λ (l : ℕ). only l % 2 ^ 64) e) in
        rw (placed_node n) (trimmed_leaf R at left a places work to (emit operand) (emit operand) (node 3 operand) own r work' n.some
        (trimmed_emit R places a operand ∙ ap (λ (z : Bool). cond z (emit operand) nothing) (started_here (emit operand) (at + 1) (placed_node n) refl (stays_here n said stays)))
        (leaf 3 own refl refl refl named) (rw (node_is n) at P))

  -- ---- an exit: what is left of it has a level from 1 to 63

  exit_level : Node left xs at 4 → (1 ≤ operand) × (operand ≤ a.tries)
  unfolding place_kind kind_of kinds Valid
  exit_level n = let v = holds (placed_node n) in (v.0, v.2)

  pub exit_ready : Node left xs at 4 → (o : ℕ) → o ≡ operand → ExitReady places a o
  exit_ready n o e =
      let v = exit_level n in
      rw e (record { least = v.0; most = v.1; wide = let r = N.tries_in in omega arith; low = N.low })

  exit_caught : Node left xs at 4 → a.started ≡ true → 1 ≤ level_out places a operand
  unfolding place_kind kind_of kinds level_out trim ends_at
  exit_caught n h =
      let v = exit_level n in
      let less : a.tries - (operand - 1) ≡ a.tries + 1 - operand = omega arith in
      let ends : eqb operand (suc (operand - 1)) ≡ true = eq-eqb operand (suc (operand - 1)) (omega arith) in
      let c : Caught R places a (exit operand) = subst (λ (p : Placed). Caught R places a p.statement) (placed_node n) N.caught in
      let left_in : ends_at (operand - 1) (trim R a.started (exit operand)) ≡ true = rw h ends in
      let k = c (operand - 1) (omega arith) left_in in
      let m = ap (λ (i : ℕ). get_or places i 0) less in
      omega arith

  exit_most : level_out places a operand ≤ 63
  unfolding level_out
  exit_most = let k = N.kept_in in omega arith

  module _ (n : Node left xs at 4) {z : Bool} (said : z ≡ (a.started || (get_or notes at no_note).live)) (stays : not z ≡ false) {o : ℕ} (e : o ≡ operand) (l : ℕ) (f : l ≡ level_out places a o) where
    out : l ≡ level_out places a operand
    out = f ∙ ap (level_out places a) e

    started_exit : a.started ≡ true
    unfolding place_kind kind_of kinds pauses
    started_exit = started_here (exit operand) (at + 1) (placed_node n) refl (stays_here n said stays)

    level_node : node_of 4 l ≡ node 4 l
    level_node = rw out (exit_node (level_out places a operand) (exit_caught n started_exit) exit_most)

    pub at_exit : {x : ℕ} → x ≡ node_of 4 l → {r : Laid} {work' : List ℕ} → LeafPut x 0 work to r work' → Got r places work'
    unfolding place_kind kind_of kinds nodes is_nothing depth names
    at_exit {x} i {r} {work'} P =
        rw (placed_node n) (trimmed_leaf R at left a places work to (exit operand) (exit l) (node 4 l) 0 r work' n.some
        (trimmed_exit R places a operand (exit_level n).0 ∙ ap₂ (λ (z : Bool) (m : ℕ). cond z (exit m) nothing) started_exit (sym out))
        (record { nodes_are = refl; some = refl; deep = refl; names_are = has_empty }) (rw (i ∙ level_node) at P))

  -- ---- one child

  pub the_signal : Node left xs at 5 → NotedOne R xs notes at left 5 (signal operand) a.tries
  the_signal n = one_signal R xs notes at left a.tries N.valid N.noted n

  pub the_loop : Node left xs at 9 → NotedOne R xs notes at left 9 loop a.tries
  the_loop n = one_loop R xs notes at left a.tries N.valid N.noted n

  pub the_try : Node left xs at 10 → NotedOne R xs notes at left 10 try (suc a.tries)
  the_try n = one_try R xs notes at left a.tries N.valid N.noted n

  pub at_signal : Node left xs at 5 → {o : ℕ} → o ≡ operand → {z : Bool} {v r : Laid} {places₁ work₁ work₂ : List ℕ}
      → Done R first (at + 1) (left - 1) a places work to v places₁ work₁
      → z ≡ has v.named o → Wrapped (get_or xs at 0) z work₁ v r work₂ → Got r places₁ work₂
  unfolding nodes is_nothing depth names wrap_if trim_signal
  at_signal n {o} same {z} {v} {r} {places₁} {work₁} {work₂} P k W' =
      let e : z ≡ has v.named operand = k ∙ ap (has v.named) same in
      let W : Wrapped (node 5 operand) z work₁ v r work₂ = rw (node_is n) at W' in
      rw (the_signal n).is
      (trimmed_one R at left a places work to n.some N.to_in (signal operand) (node 5 operand) z (signal operand first.statement) first a places places₁ work₁ work₂ v r
      (trimmed_signal R places a operand first.statement
      ∙ ap (λ (b : Bool). cond b (signal operand (trimmed_in R places a first.statement)) (trimmed_in R places a first.statement)) (sym (e ∙ P.made.names_are operand)))
      P.same (record { nodes_are = λ p. refl; some = λ p. refl; deep = λ p. refl; names_are = λ S p. refl }) P W)

  pub at_loop : Node left xs at 9 → {x : ℕ} → x ≡ node_of 9 0 → {z : Bool} {a' : Around} {v r : Laid} {places₁ work₁ work₂ : List ℕ} → z ≡ ends_of (get_or notes at no_note) a.started
      → a' ≡ started_if (z || a.started) a → Done R first (at + 1) (left - 1) a' places work to v places₁ work₁ → Wrapped x z work₁ v r work₂ → Got r places₁ work₂
  unfolding nodes is_nothing depth names
  at_loop n {x} i {z} {a'} {v} {r} {places₁} {work₁} {work₂} e f P W =
      let q : z ≡ can_end R a.started first.statement = e ∙ note_ends R xs notes at left 9 refl (the_loop n).note_is a.started in
      rw (the_loop n).is
      (trimmed_one R at left a places work to n.some N.to_in loop (node 9 0) z (loop first.statement) first a' places places₁ work₁ work₂ v r
      (trimmed_loop R places a first.statement
      ∙ ap (λ (b : Bool). wrap_if loop b (trimmed_in R places (started_if (b || a.started) a) first.statement)) (sym q)
      ∙ ap (λ (c : Around). wrap_if loop z (trimmed_in R places c first.statement)) (sym f))
      (λ i l. P.same i (subst (λ (c : Around). i ≤ c.tries) (sym f) l))
      (record { nodes_are = λ p. refl; some = λ p. refl; deep = λ p. refl; names_are = λ S p. refl }) P (rw (i ∙ loop_node) at W))

  -- there is a place for the number of one more try
  try_fits : length places ≡ 64 → a.tries + 1 < length places
  try_fits wide = let r = N.tries_in in omega arith

  pub at_try : Node left xs at 10 → length places ≡ 64 → {x : ℕ} → x ≡ node_of 10 0 → {z : Bool} {a' : Around} {v r : Laid} {places₁ places₂ work₁ work₂ : List ℕ} → z ≡ ends_of (get_or notes at no_note) a.started
      → a' ≡ in_try z a → places₁ ≡ places_in a places → Done R first (at + 1) (left - 1) a' places₁ work to v places₂ work₁ → Wrapped x z work₁ v r work₂
      → Got r places₂ work₂
  unfolding nodes is_nothing depth names
  at_try n wide {x} i {z} {a'} {v} {r} {places₁} {places₂} {work₁} {work₂} e f g P W =
      let q : z ≡ ends_at 0 (trim R a.started first.statement) = e ∙ note_kept R xs notes at left (the_try n) a.started in
      rw (the_try n).is
      (trimmed_one R at left a places work to n.some N.to_in try (node 10 0) z (try first.statement) first a' places₁ places₂ work₁ work₂ v r
      (trimmed_try R places a N.low first.statement (try_fits wide) z (sym q)
      ∙ ap₂ (λ (l : List ℕ) (c : Around). wrap_if try z (trimmed_in R l c first.statement)) (sym g) (sym f))
      (λ i l. P.same i (more i l) ∙ ap (λ (m : List ℕ). get_or m i 0) g ∙ places_same places a (try_fits wide) i l)
      (record { nodes_are = λ p. refl; some = λ p. refl; deep = λ p. refl; names_are = λ S p. refl }) P (rw (i ∙ try_node) at W))
    where
      more : (i : ℕ) → i ≤ a.tries → i ≤ a'.tries
      more i l = rw f (omega arith)

  -- an exit that is left in a child is left in the statement, and so ends at a try that is kept
  left_here : {p : Placed} → statement_at left xs at ≡ p → (d : ℕ) → d < a.tries → ends_at d (trim R a.started p.statement) ≡ true → get_or places (a.tries - d) 0 < a.kept
  left_here e d h x = subst (λ (q : Placed). Caught R places a q.statement) e N.caught d h x

  pub signal_ready : Node left xs at 5 → Trimmable R xs notes (at + 1) (left - 1) a places work to
  signal_ready n =
      one_ready N n.some (the_signal n) a places refl (omega arith) (omega arith) N.low
      (λ d h x. left_here (the_signal n).is d h (ends_signal d R a.started operand first.statement ∙ x))

  pub loop_ready : Node left xs at 9 → {z : Bool} {a' : Around} → z ≡ ends_of (get_or notes at no_note) a.started → a' ≡ started_if (z || a.started) a
      → Trimmable R xs notes (at + 1) (left - 1) a' places work to
  loop_ready n {z} {a'} i e =
      let q : can_end R a.started first.statement ≡ z = sym (i ∙ note_ends R xs notes at left 9 refl (the_loop n).note_is a.started) in
      rw e (one_ready N n.some (the_loop n) (started_if (z || a.started) a) places refl (omega arith) (omega arith) N.low
      (λ d h x. left_here (the_loop n).is d h
      (ends_loop d R a.started first.statement ∙ ap (λ (b : Bool). ends_at d (trim R (b || a.started) first.statement)) q ∙ x)))

  try_caught : Node left xs at 10 → length places ≡ 64 → (z : Bool) → z ≡ ends_at 0 (trim R a.started first.statement) → Caught R (places_in a places) (in_try z a) first.statement
  try_caught n wide true q zero h x =
      let e : a.tries + 1 - 0 ≡ a.tries + 1 = omega arith in
      rw (e, get_or-set_same places (a.tries + 1) a.kept 0 (try_fits wide)) (omega arith)
  try_caught n wide false q zero h x = clash x (sym q)
  try_caught n wide z q (suc d) h x =
      let k = left_here (the_try n).is d (omega arith) (ends_try d R a.started first.statement ∙ x) in
      let e : a.tries + 1 - suc d ≡ a.tries - d = omega arith in
      let f : get_or (places_in a places) (a.tries - d) 0 ≡ get_or places (a.tries - d) 0 = places_same places a (try_fits wide) (a.tries - d) (omega arith) in
      rw (e, f) (more z k)
    where
      more : (z : Bool) → get_or places (a.tries - d) 0 < a.kept → get_or places (a.tries - d) 0 < cond z (a.kept + 1) a.kept
      more true k = omega arith
      more false k = k

  pub try_ready : Node left xs at 10 → length places ≡ 64 → {z : Bool} {a' : Around} {places' : List ℕ} → z ≡ ends_of (get_or notes at no_note) a.started → a' ≡ in_try z a
      → places' ≡ places_in a places → Trimmable R xs notes (at + 1) (left - 1) a' places' work to
  try_ready n wide {z} {a'} {places'} i e f =
      let q = i ∙ note_kept R xs notes at left (the_try n) a.started in
      rw (e, f) (one_ready N n.some (the_try n) (in_try z a) (places_in a places) (add-one a.tries) (omega arith) (most z)
      (places_low places a (try_fits wide) N.low z) (try_caught n wide z q))
    where
      most : (z : Bool) → cond z (a.kept + 1) a.kept ≤ a.kept + 1
      most true = omega arith
      most false = omega arith

  -- ---- two children

  abbrev second : Placed
  second = statement_at (left - 1) xs first.next

  pub the_present : Node left xs at 6 → NotedTwo R xs notes at left 6 (present operand) a.tries
  the_present n = two_present R xs notes at left a.tries N.valid N.noted n

  pub the_sequence : Node left xs at 7 → NotedTwo R xs notes at left 7 sequence a.tries
  the_sequence n = two_sequence R xs notes at left a.tries N.valid N.noted n

  pub the_parallel : Node left xs at 8 → NotedTwo R xs notes at left 8 parallel a.tries
  the_parallel n = two_parallel R xs notes at left a.tries N.valid N.noted n

  -- the place of the second child is noted
  pub at_second : {k : ℕ} {f : Statement → Statement → Statement} (o : NotedTwo R xs notes at left k f a.tries) → eqb k 10 ≡ false
      → {m : ℕ} → m ≡ (get_or notes at no_note).second → {a' : Around} {v : Laid} {places₁ work₁ : List ℕ}
      → Done R (statement_at (left - 1) xs m) m (left - 1) a' places work to v places₁ work₁
      → Done R second first.next (left - 1) a' places work to v places₁ work₁
  at_second {k} o plain {m} e {a'} {v} {places₁} {work₁} Q =
      subst (λ (m : ℕ). Done R (statement_at (left - 1) xs m) m (left - 1) a' places work to v places₁ work₁) (e ∙ note_place R xs notes at left k plain o.note_is o.both) Q

  pub at_sequence : Node left xs at 7 → {x : ℕ} → x ≡ node_of 7 0 → {m : ℕ} → m ≡ (get_or notes at no_note).second → {z : Bool} {a' : Around} {u v r : Laid} {places₁ places₂ work₁ work₂ work₃ : List ℕ}
      → z ≡ ends_of (get_or notes at no_note) a.started → a' ≡ started_if z a → Done R (statement_at (left - 1) xs m) m (left - 1) a' places work to v places₁ work₁
      → Done R first (at + 1) (left - 1) a places₁ work₁ v.from u places₂ work₂ → PartsJoined x work₂ u v r work₃ → Got r places₂ work₃
  at_sequence n {x} i place {z} {a'} {u} {v} {r} {places₁} {places₂} {work₁} {work₂} {work₃} e f Q P J =
      let q : z ≡ can_end R a.started first.statement = e ∙ note_ends R xs notes at left 7 refl (the_sequence n).note_is a.started in
      rw (the_sequence n).is
      (trimmed_two R at left a places work to n.some N.to_in sequence (node 7 0) (sequence first.statement second.statement) first second a' places₁ places₂ work₁ work₂ work₃ u v r
      (ap (λ (c : Around). c.tries) f)
      (trimmed_sequence R places a first.statement second.statement
      ∙ ap (λ (c : Around). join_parts sequence (trimmed_in R places a first.statement) (trimmed_in R places c second.statement)) (ap (λ (b : Bool). started_if b a) (sym q) ∙ sym f))
      joins_sequence (at_second (the_sequence n) refl place Q) P (rw (i ∙ sequence_node) at J))

  pub at_parallel : Node left xs at 8 → {x : ℕ} → x ≡ node_of 8 0 → {m : ℕ} → m ≡ (get_or notes at no_note).second → {u v r : Laid} {places₁ places₂ work₁ work₂ work₃ : List ℕ}
      → Done R (statement_at (left - 1) xs m) m (left - 1) a places work to v places₁ work₁
      → Done R first (at + 1) (left - 1) a places₁ work₁ v.from u places₂ work₂ → PartsJoined x work₂ u v r work₃ → Got r places₂ work₃
  unfolding nodes is_nothing depth names
  at_parallel n {x} i place {u} {v} {r} {places₁} {places₂} {work₁} {work₂} {work₃} Q P J =
      rw (the_parallel n).is
      (trimmed_two R at left a places work to n.some N.to_in parallel (node 8 0) (parallel first.statement second.statement) first second a places₁ places₂ work₁ work₂ work₃ u v r
      refl (trimmed_parallel R places a first.statement second.statement)
      (record { nodes_are = λ p q. refl; some = λ p q. refl; deep = λ p q. refl; names_are = λ S p q. sym (ap (λ (b : Bool). b || (names S p || names S q)) (has_empty S)) })
      (at_second (the_parallel n) refl place Q) P (rw (i ∙ parallel_node) at J))

  -- the two rules of a present as one
  present_law : (S : ℕ) (p q : Statement) (z : Bool) → z ≡ can_end R false p
      → trimmed_in R places a (present S p q) ≡ present_if a.started S (trimmed_in R places a p) (branch_if a.started z (trimmed_in R places (in_else z a) q))
  unfolding in_else
  present_law S p q z e = go a.started refl
    where
      go : (b : Bool) → a.started ≡ b
          → trimmed_in R places a (present S p q) ≡ present_if b S (trimmed_in R places a p) (branch_if b z (trimmed_in R places (cond b a (in_guard z a)) q))
      go true h = trimmed_present R places a S p q h
      go false h =
          trimmed_resumed R places a N.low S p q h
          ∙ ap (λ (c : Bool). join_parts sequence (trimmed_in R places a p) (guarded_if c (trimmed_in R places (in_guard c a) q))) (sym e)

  else_tries : (z : Bool) → (in_else z a).tries ≡ a.tries
  unfolding in_else
  else_tries z = go a.started
    where
      go : (b : Bool) → (cond b a (in_guard z a)).tries ≡ a.tries
      go true = refl
      go false = refl

  pub at_present : Node left xs at 6 → {m : ℕ} → m ≡ (get_or notes at no_note).second
      → {z : Bool} {a' : Around} {u v e r : Laid} {places₁ places₂ work₁ work₂ work₃ work₄ : List ℕ} → z ≡ ends_of (get_or notes at no_note) false
      → a' ≡ in_else z a → Done R (statement_at (left - 1) xs m) m (left - 1) a' places work to v places₁ work₁ → ElseClosed a.started z work₁ v e work₂
      → Done R first (at + 1) (left - 1) a places₁ work₂ e.from u places₂ work₃ → PresentClosed a.started (get_or xs at 0) work₃ u e r work₄ → Got r places₂ work₄
  at_present n place {z} {a'} {u} {v} {e} {r} {places₁} {places₂} {work₁} {work₂} {work₃} {work₄} i f Q E P C =
      let q : z ≡ can_end R false first.statement = i ∙ note_ends R xs notes at left 6 refl (the_present n).note_is false in
      rw (the_present n).is
      (trimmed_branches R at left a places work to n.some N.to_in z (get_or xs at 0) first second a' places₁ places₂ work₁ work₂ work₃ work₄ u v e r
      (ap (λ (c : Around). c.tries) f ∙ else_tries z)
      (present_law operand first.statement second.statement z q
      ∙ ap (λ (c : Around). present_if a.started operand (trimmed_in R places a first.statement) (branch_if a.started z (trimmed_in R places c second.statement))) (sym f))
      (node_is n) (at_second (the_present n) refl place Q) E P C)

  -- so the second child was trimmed, and the first comes
  module _ {k : ℕ} {f : Statement → Statement → Statement} (n : Node left xs at k) (o : NotedTwo R xs notes at left k f a.tries) (plain : eqb k 10 ≡ false)
      {m : ℕ} (place : m ≡ (get_or notes at no_note).second) {a' : Around} {v : Laid} {places₁ work₁ : List ℕ}
      (Q : Done R (statement_at (left - 1) xs m) m (left - 1) a' places work to v places₁ work₁) where
    pub then_ready : Caught R places a first.statement → a'.tries ≡ a.tries → Trimmable R xs notes (at + 1) (left - 1) a places₁ work₁ v.from
    then_ready = join_ready N n.some o (at_second o plain place Q)

    pub then_room : {places₂ work₂ : List ℕ} {u : Laid} → Done R first (at + 1) (left - 1) a places₁ work₁ v.from u places₂ work₂
        → 1 ≤ u.from
    then_room = join_room N n.some o (at_second o plain place Q)

    pub second_closes : 3 ≤ v.from
    second_closes = else_room N n.some o (at_second o plain place Q)

    module _ {z : Bool} {work₂ : List ℕ} {e : Laid} (E : ElseClosed a.started z work₁ v e work₂) where
      pub first_ready : Caught R places a first.statement → a'.tries ≡ a.tries → Trimmable R xs notes (at + 1) (left - 1) a places₁ work₂ e.from
      first_ready = branch_ready N n.some o (at_second o plain place Q) E

      pub first_closes : {places₂ work₃ : List ℕ} {u : Laid} → Done R first (at + 1) (left - 1) a places₁ work₂ e.from u places₂ work₃
          → cond a.started 2 1 ≤ u.from
      first_closes = present_room N n.some o (at_second o plain place Q) E

  pub sequence_ready : Node left xs at 7 → {m : ℕ} → m ≡ (get_or notes at no_note).second → {z : Bool} {a' : Around} → z ≡ ends_of (get_or notes at no_note) a.started
      → a' ≡ started_if z a → Trimmable R xs notes m (left - 1) a' places work to
  sequence_ready n {m} i {z} {a'} j e =
      let q : can_end R a.started first.statement ≡ z = sym (j ∙ note_ends R xs notes at left 7 refl (the_sequence n).note_is a.started) in
      rw e (second_ready N n.some (the_sequence n) m (started_if z a) (i ∙ note_place R xs notes at left 7 refl (the_sequence n).note_is (the_sequence n).both) refl (omega arith) (omega arith)
      (λ d h x. left_here (the_sequence n).is d h (ends_sequence d R a.started first.statement second.statement
      ∙ or_right (ends_at d (trim R a.started first.statement)) (ap (λ (b : Bool). ends_at d (trim R b second.statement)) q ∙ x))))

  pub sequence_first : Node left xs at 7 → Caught R places a first.statement
  sequence_first n d h x = left_here (the_sequence n).is d h (ends_sequence d R a.started first.statement second.statement ∙ or_left _ x)

  pub parallel_ready : Node left xs at 8 → {m : ℕ} → m ≡ (get_or notes at no_note).second → Trimmable R xs notes m (left - 1) a places work to
  parallel_ready n {m} i =
      second_ready N n.some (the_parallel n) m a (i ∙ note_place R xs notes at left 8 refl (the_parallel n).note_is (the_parallel n).both) refl (omega arith) (omega arith)
      (λ d h x. left_here (the_parallel n).is d h (ends_parallel d R a.started first.statement second.statement
      ∙ or_right (ends_at d (trim R a.started first.statement)) x))

  pub parallel_first : Node left xs at 8 → Caught R places a first.statement
  parallel_first n d h x = left_here (the_parallel n).is d h (ends_parallel d R a.started first.statement second.statement ∙ or_left _ x)

  else_kept : (z : Bool) → (a.kept ≤ (in_else z a).kept) × ((in_else z a).kept ≤ a.kept + 1)
  unfolding in_else
  else_kept z = go a.started z
    where
      go : (b z : Bool) → (a.kept ≤ (cond b a (in_guard z a)).kept) × ((cond b a (in_guard z a)).kept ≤ a.kept + 1)
      go true z = (omega arith, omega arith)
      go false true = (omega arith, omega arith)
      go false false = (omega arith, omega arith)

  pub else_same : (z : Bool) {a' : Around} → a' ≡ in_else z a → a'.tries ≡ a.tries
  else_same z e = ap (λ (c : Around). c.tries) e ∙ else_tries z

  else_started : (z : Bool) → (in_else z a).started ≡ a.started
  unfolding in_else
  else_started z = go a.started
    where
      go : (b : Bool) → (cond b a (in_guard z a)).started ≡ a.started
      go true = refl
      go false = refl

  pub present_ready : Node left xs at 6 → {m : ℕ} → m ≡ (get_or notes at no_note).second → (z : Bool) {a' : Around} → a' ≡ in_else z a
      → Trimmable R xs notes m (left - 1) a' places work to
  present_ready n {m} i z {a'} e =
      rw e (second_ready N n.some (the_present n) m (in_else z a) (i ∙ note_place R xs notes at left 6 refl (the_present n).note_is (the_present n).both) (else_tries z) (else_kept z).0 (else_kept z).1
      (λ d h x.
      let k = left_here (the_present n).is d (omega (arith, else_tries z)) (ends_branches d R a.started operand first.statement second.statement
      ∙ or_right (ends_at d (trim R a.started first.statement)) (ap (λ (b : Bool). ends_at d (trim R b second.statement)) (sym (else_started z)) ∙ x)) in
      rw (else_tries z) (omega (arith, else_kept z))))

  pub present_first : Node left xs at 6 → Caught R places a first.statement
  present_first n d h x = left_here (the_present n).is d h (ends_branches d R a.started operand first.statement second.statement ∙ or_left _ x)
