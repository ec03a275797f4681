-- Trimming at a node: what the calls for its children ask, and what their answers and the last step make of it, by the
-- number of its children.
use mathlib.Core.Path.{◌≡◌, refl, sym, ap, ◌∙◌, subst}
use mathlib.Core.Logic.{◌≢◌}
use mathlib.Core.Bool.{Bool, true, false, cond}
use mathlib.Core.List.{List}
use Prim.Native.Nat.{ℕ, suc, ◌+◌, ◌-◌, ◌*◌, ◌≤◌, max}
use native.Mathlib.Omega.{arith}
use lib.Dec.{eqb}
use lib.ListN.{get_or}
use Rattle.esterel.specs.Statement.{Statement, nothing, signal, present, sequence, parallel, loop, try, Valid}
use Rattle.esterel.specs.Trimming.{join_parts, ends_at, can_end, trim}
use Rattle.table.specs.Kinds.{kinds, kind_of, row_of}
use Rattle.table.specs.Reading.{operand_of}
use Rattle.table.specs.Writing.{node}
use Rattle.table.specs.inner.Places.{Placed, placed, place_kind, statement_at}
use Rattle.trim.specs.declared.descent.Around.{Around}
use Rattle.trim.specs.declared.noted.Note.{Note}
use Rattle.trim.specs.inner.Levels.{map_exits, level_out, trimmed_in, wrap_if}
use Rattle.trim.specs.inner.Notes.{live, Noted, no_note, ends_of, second_place, try_note, child_note, note_for}
use Rattle.table.proofs.Places.{Node, placed_node, next_forward}
use Rattle.trim.specs.inner.Parts.{Laid, PartStands, nothing_at, Leaf, Wraps, Joins, LeafPut, Wrapped, PartsJoined, Branch, branch_if, present_if, ElseClosed, PresentClosed, Caught, Trimmable, Done}
use Rattle.trim.proofs.Live.{dead_nothing}
use Rattle.trim.proofs.Parts.{made_nothing}
use Rattle.trim.proofs.Trimming.{LowPlaces, trimmed_places, trimmed_nothing}
use Rattle.trim.proofs.Notes.{noted_node, ends_note, try_kept}

-- ---- a node and its children

module _ (R : ℕ) (xs : List ℕ) (notes : List Note) (at left : ℕ) where
  abbrev first : Placed
  first = statement_at (left - 1) xs (at + 1)

  abbrev second : Placed
  second = statement_at (left - 1) xs first.next

  -- the note of a node with children
  abbrev ParentNote : ℕ → Type 0
  ParentNote k = (eqb (row_of (kind_of k)).children 0 ≡ false) × (get_or notes at no_note ≡ note_for R k (statement_at left xs at).statement first)

  -- a node of kind k with one child, which stands in `inside` try statements
  pub record NotedOne (k : ℕ) (f : Statement → Statement) (inside : ℕ) : Type 0 where
    pub is : statement_at left xs at ≡ placed (f first.statement) first.next
    pub valid : Valid inside first.statement
    pub noted : Noted R notes xs (left - 1) (at + 1)
    pub note_is : ParentNote k

  pub record NotedTwo (k : ℕ) (f : Statement → Statement → Statement) (inside : ℕ) : Type 0 where
    pub is : statement_at left xs at ≡ placed (f first.statement second.statement) second.next
    pub valid : Valid inside first.statement
    pub valid_second : Valid inside second.statement
    pub noted : Noted R notes xs (left - 1) (at + 1)
    noted_second : Noted R notes xs (left - 1) first.next
    pub both : (row_of (kind_of k)).children ≡ 2
    pub note_is : ParentNote k

  -- what the note says
  module _ (k : ℕ) (plain : eqb k 10 ≡ false) (h : ParentNote k) where
    note_plain : get_or notes at no_note ≡ child_note R (statement_at left xs at).statement first (second_place (row_of (kind_of k)).children first)
    unfolding note_for
    note_plain = h.1 ∙ rw (h.0, plain)

    pub note_ends : (b : Bool) → ends_of (get_or notes at no_note) b ≡ can_end R b first.statement
    note_ends b = ap (λ (n : Note). ends_of n b) note_plain ∙ ends_note R b (statement_at left xs at).statement first (second_place (row_of (kind_of k)).children first)

    pub note_place : (row_of (kind_of k)).children ≡ 2 → (get_or notes at no_note).second ≡ first.next
    note_place e = ap (λ (n : Note). n.second) note_plain ∙ ap (λ (c : ℕ). second_place c first) e

  pub note_kept : {inside : ℕ} → NotedOne 10 try inside → (b : Bool) → ends_of (get_or notes at no_note) b ≡ ends_at 0 (trim R b first.statement)
  unfolding note_for
  note_kept o b =
      let is : get_or notes at no_note ≡ try_note R (statement_at left xs at).statement first = o.note_is.1 ∙ rw o.note_is.0 in
      ap (λ (n : Note). ends_of n b) is ∙ try_kept R b (statement_at left xs at).statement first

  module _ (tries : ℕ) (v : Valid tries (statement_at left xs at).statement) (h : Noted R notes xs left at) where
    one_node : (k : ℕ) (f : Statement → Statement) (inside : ℕ)
        → statement_at left xs at ≡ placed (f first.statement) first.next → (Valid tries (f first.statement) → Valid inside first.statement)
        → eqb (row_of (kind_of k)).children 0 ≡ false
        → (get_or notes at no_note ≡ note_for R k (statement_at left xs at).statement first) × Noted R notes xs (left - 1) (at + 1) → NotedOne k f inside
    one_node k f inside e g c ns = record { is = e; valid = g (subst (λ (p : Placed). Valid tries p.statement) e v); noted = ns.1; note_is = (c, ns.0) }

    two_node : (k : ℕ) (f : Statement → Statement → Statement)
        → statement_at left xs at ≡ placed (f first.statement second.statement) second.next
        → (Valid tries (f first.statement second.statement) → Valid tries first.statement × Valid tries second.statement)
        → (row_of (kind_of k)).children ≡ 2
        → (get_or notes at no_note ≡ note_for R k (statement_at left xs at).statement first) × (Noted R notes xs (left - 1) (at + 1) × Noted R notes xs (left - 1) first.next) → NotedTwo k f tries
    two_node k f e g c ns =
        let vs = g (subst (λ (p : Placed). Valid tries p.statement) e v) in
        record { is = e; valid = vs.0; valid_second = vs.1; noted = ns.1.0; noted_second = ns.1.1; both = c; note_is = (ap (λ (n : ℕ). eqb n 0) c, ns.0) }

    pub one_signal : Node left xs at 5 → NotedOne 5 (signal (operand_of (get_or xs at 0))) tries
    unfolding place_kind kind_of kinds row_of Valid
    one_signal n = one_node 5 (signal (operand_of (get_or xs at 0))) tries (placed_node n) (λ w. w.1) refl (noted_node R notes n h)

    pub one_loop : Node left xs at 9 → NotedOne 9 loop tries
    unfolding place_kind kind_of kinds row_of Valid
    one_loop n = one_node 9 loop tries (placed_node n) (λ w. w) refl (noted_node R notes n h)

    pub one_try : Node left xs at 10 → NotedOne 10 try (suc tries)
    unfolding place_kind kind_of kinds row_of Valid
    one_try n = one_node 10 try (suc tries) (placed_node n) (λ w. w) refl (noted_node R notes n h)

    pub two_present : Node left xs at 6 → NotedTwo 6 (present (operand_of (get_or xs at 0))) tries
    unfolding place_kind kind_of kinds row_of Valid
    two_present n = two_node 6 (present (operand_of (get_or xs at 0))) (placed_node n) (λ w. (w.1, w.2)) refl (noted_node R notes n h)

    pub two_sequence : Node left xs at 7 → NotedTwo 7 sequence tries
    unfolding place_kind kind_of kinds row_of Valid
    two_sequence n = two_node 7 sequence (placed_node n) (λ w. (w.0, w.1)) refl (noted_node R notes n h)

    pub two_parallel : Node left xs at 8 → NotedTwo 8 parallel tries
    unfolding place_kind kind_of kinds row_of Valid
    two_parallel n = two_node 8 parallel (placed_node n) (λ w. (w.0, w.1)) refl (noted_node R notes n h)

-- ---- what the steps make

-- up to n the places are as they were
abbrev SamePlaces : ℕ → List ℕ → List ℕ → Type 0
SamePlaces n places places' = (i : ℕ) → i ≤ n → get_or places' i 0 ≡ get_or places i 0

module _ (R at left : ℕ) (a : Around) (places work : List ℕ) (to : ℕ) where
  pub trimmed_none : (n : ℕ) → at ≤ n → Done R (placed nothing n) at left a places work to (nothing_at to) places work
  trimmed_none n h =
      record {
        made = subst (λ (u : Statement). PartStands u work to (nothing_at to) work) (sym (trimmed_nothing R places a)) (made_nothing work to);
        room = omega arith;
        shallow = omega arith;
        same = λ i l. refl;
      }

  -- a part that is not live, where it is only resumed
  pub trimmed_dead : (p : Placed) → at ≤ p.next → a.started ≡ false → live R p.statement ≡ false → Done R p at left a places work to (nothing_at to) places work
  unfolding trimmed_in map_exits
  trimmed_dead p h b e =
      record {
        made = subst (λ (u : Statement). PartStands (map_exits (level_out places a) 0 u) work to (nothing_at to) work)
            (sym (ap (λ (z : Bool). trim R z p.statement) b ∙ dead_nothing R p.statement e)) (made_none work);
        room = omega arith;
        shallow = omega arith;
        same = λ i l. refl;
      }
    where
      made_none : (work : List ℕ) → PartStands (map_exits (level_out places a) 0 nothing) work to (nothing_at to) work
      made_none work = made_nothing work to

  pub trimmed_leaf : (t u : Statement) (x named : ℕ) (r : Laid) (work' : List ℕ) → left ≢ 0
      → trimmed_in R places a t ≡ u → Leaf u x named → LeafPut x named work to r work'
      → Done R (placed t (at + 1)) at left a places work to r places work'
  trimmed_leaf t u x named r work' some is L P =
      let near : to ≤ r.from + 1 = P.near in
      let shallow : r.depth ≤ 1 = P.shallow in
      record {
        made = subst (λ (v : Statement). PartStands v work to r work') (sym is) (P.made u L);
        room = omega arith;
        shallow = omega arith;
        same = λ i l. refl;
      }

  module _ (some : left ≢ 0) (w : to ≤ 4096) where
    pub trimmed_one : (g : Statement → Statement) (x : ℕ) (z : Bool) (s : Statement) (p : Placed) (a' : Around) (places₁ places₂ work₁ work₂ : List ℕ) (v r : Laid)
        → trimmed_in R places a s ≡ wrap_if g z (trimmed_in R places₁ a' p.statement) → SamePlaces a.tries places places₂
        → Wraps g x → Done R p (at + 1) (left - 1) a' places₁ work to v places₂ work₁ → Wrapped x z work₁ v r work₂
        → Done R (placed s p.next) at left a places work to r places₂ work₂
    trimmed_one g x z s p a' places₁ places₂ work₁ work₂ v r is same G P W =
        let room : to + 4 * (at + 1) ≤ v.from + 4 * p.next = P.room in
        let near : v.from ≤ r.from + 2 = W.near in
        let deep : v.depth ≤ 3 * (left - 1) = P.shallow in
        let deeper : r.depth ≤ v.depth + 2 = W.shallow in
        record {
          made = subst (λ (u : Statement). PartStands u work to r work₂) (sym is) (W.made g (trimmed_in R places₁ a' p.statement) work to G w P.made);
          room = omega arith;
          shallow = omega arith;
          same = same;
        }

    pub trimmed_two : (g : Statement → Statement → Statement) (x : ℕ) (s : Statement) (p q : Placed) (a' : Around) (places₁ places₂ work₁ work₂ work₃ : List ℕ) (u v r : Laid)
        → a'.tries ≡ a.tries → trimmed_in R places a s ≡ join_parts g (trimmed_in R places a p.statement) (trimmed_in R places a' q.statement) → Joins g x 0
        → Done R q p.next (left - 1) a' places work to v places₁ work₁ → Done R p (at + 1) (left - 1) a places₁ work₁ v.from u places₂ work₂
        → PartsJoined x work₂ u v r work₃ → Done R (placed s q.next) at left a places work to r places₂ work₃
    trimmed_two g x s p q a' places₁ places₂ work₁ work₂ work₃ u v r tries is G Q P J =
        let same : SamePlaces a.tries places places₁ = λ i l. Q.same i (omega arith) in
        let room : v.from + 4 * (at + 1) ≤ u.from + 4 * p.next = P.room in
        let room' : to + 4 * p.next ≤ v.from + 4 * q.next = Q.room in
        let near : u.from ≤ r.from + 1 = J.near in
        let deep : u.depth ≤ 3 * (left - 1) = P.shallow in
        let deep' : v.depth ≤ 3 * (left - 1) = Q.shallow in
        let deeper : r.depth ≤ max u.depth v.depth + 1 = J.shallow in
        record {
          made = subst (λ (t : Statement). PartStands t work to r work₃) (sym is)
              (J.made g (trimmed_in R places a p.statement) (trimmed_in R places a' q.statement) work work₁ to G w Q.made
              (subst (λ (t : Statement). PartStands t work₁ v.from u work₂) (trimmed_places R places places₁ a p.statement same) P.made));
          room = omega arith;
          shallow = omega arith;
          same = λ i l. P.same i l ∙ same i l;
        }

    pub trimmed_branches : (z : Bool) (x : ℕ) (p q : Placed) (a' : Around) (places₁ places₂ work₁ work₂ work₃ work₄ : List ℕ) (u v e r : Laid)
        → a'.tries ≡ a.tries
        → trimmed_in R places a (present (operand_of x) p.statement q.statement) ≡ present_if a.started (operand_of x) (trimmed_in R places a p.statement) (branch_if a.started z (trimmed_in R places a' q.statement))
        → x ≡ node 6 (operand_of x) → Done R q p.next (left - 1) a' places work to v places₁ work₁ → ElseClosed a.started z work₁ v e work₂
        → Done R p (at + 1) (left - 1) a places₁ work₂ e.from u places₂ work₃ → PresentClosed a.started x work₃ u e r work₄
        → Done R (placed (present (operand_of x) p.statement q.statement) q.next) at left a places work to r places₂ work₄
    trimmed_branches z x p q a' places₁ places₂ work₁ work₂ work₃ work₄ u v e r tries is six Q E P C =
        let same : SamePlaces a.tries places places₁ = λ i l. Q.same i (omega arith) in
        let room : e.from + 4 * (at + 1) ≤ u.from + 4 * p.next = P.room in
        let room' : to + 4 * p.next ≤ v.from + 4 * q.next = Q.room in
        let near : v.from ≤ e.from + cond a.started 1 3 = E.near in
        let near' : u.from ≤ r.from + cond a.started 2 1 = C.near in
        let sum : cond a.started 1 3 + cond a.started 2 1 ≤ 4 = four a.started in
        let deep : u.depth ≤ 3 * (left - 1) = P.shallow in
        let deep' : v.depth ≤ 3 * (left - 1) = Q.shallow in
        let deep'' : e.depth ≤ v.depth + 2 = E.shallow in
        let deeper : r.depth ≤ max (u.depth + 1) e.depth + 1 = C.shallow in
        record {
          made = subst (λ (t : Statement). PartStands t work to r work₄) (sym is)
              (C.made (trimmed_in R places a p.statement) (branch_if a.started z (trimmed_in R places a' q.statement)) work work₂ to six w
              (E.made (trimmed_in R places a' q.statement) work to w Q.made)
              (subst (λ (t : Statement). PartStands t work₂ e.from u work₃) (trimmed_places R places places₁ a p.statement same) P.made));
          room = omega arith;
          shallow = omega arith;
          same = λ i l. P.same i l ∙ same i l;
        }
      where
        four : (b : Bool) → cond b 1 3 + cond b 2 1 ≤ 4
        four true = omega arith
        four false = omega arith

-- ---- what the calls ask

module _ {R : ℕ} {xs : List ℕ} {notes : List Note} {at left : ℕ} {a : Around} {places work : List ℕ} {to : ℕ} (N : Trimmable R xs notes at left a places work to) (some : left ≢ 0) where
  pub one_ready : {k : ℕ} {f : Statement → Statement} {inside : ℕ} → NotedOne R xs notes at left k f inside → (a' : Around) (places' : List ℕ) → a'.tries ≡ inside
      → a'.tries ≤ a.tries + 1 → a'.kept ≤ a.kept + 1 → LowPlaces places' a'
      → Caught R places' a' (statement_at (left - 1) xs (at + 1)).statement → Trimmable R xs notes (at + 1) (left - 1) a' places' work to
  one_ready o a' places' e t l low caught =
      let next : (statement_at left xs at).next ≡ (statement_at (left - 1) xs (at + 1)).next = ap (λ (p : Placed). p.next) o.is in
      record {
        valid = subst (λ (n : ℕ). Valid n (statement_at (left - 1) xs (at + 1)).statement) (sym e) o.valid;
        noted = o.noted;
        all = N.all;
        known = N.known;
        room = let r = N.room in omega arith;
        to_in = N.to_in;
        tries_in = let r = N.tries_in in omega arith;
        kept_in = let r = N.kept_in in omega arith;
        low = low;
        caught = caught;
      }

  module _ {k : ℕ} {f : Statement → Statement → Statement} (o : NotedTwo R xs notes at left k f a.tries) where
    abbrev mid : ℕ
    mid = (statement_at (left - 1) xs (at + 1)).next

    forward : at + 1 ≤ mid
    forward = next_forward xs (left - 1) (at + 1)

    next_is : (statement_at left xs at).next ≡ (statement_at (left - 1) xs mid).next
    next_is = ap (λ (p : Placed). p.next) o.is

    pub second_ready : (at' : ℕ) (a' : Around) → at' ≡ mid → a'.tries ≡ a.tries → a.kept ≤ a'.kept → a'.kept ≤ a.kept + 1
        → Caught R places a' (statement_at (left - 1) xs mid).statement → Trimmable R xs notes at' (left - 1) a' places work to
    second_ready at' a' e t least l caught =
        rw e (record {
          valid = subst (λ (n : ℕ). Valid n (statement_at (left - 1) xs mid).statement) (sym t) o.valid_second;
          noted = o.noted_second;
          all = N.all;
          known = N.known;
          room = let r = N.room in omega (arith, forward, next_is);
          to_in = N.to_in;
          tries_in = let r = N.tries_in in omega arith;
          kept_in = let r = N.kept_in in omega arith;
          low = λ i h. let r = N.low i (omega arith) in omega arith;
          caught = caught;
        })

    pub first_ready : Caught R places a (statement_at (left - 1) xs (at + 1)).statement → {a' : Around} {v : Laid} {places₁ work₁ : List ℕ} → Done R (statement_at (left - 1) xs mid) mid (left - 1) a' places work to v places₁ work₁
        → a'.tries ≡ a.tries → (to' : ℕ) (work' : List ℕ) → v.from ≤ to' + 4 → to' ≤ 4096
        → Trimmable R xs notes (at + 1) (left - 1) a places₁ work' to'
    first_ready caught Q t to' work' h g =
        record {
          valid = o.valid;
          noted = o.noted;
          all = N.all;
          known = N.known;
          room = let r = N.room in let s = Q.room in omega (arith, next_is);
          to_in = g;
          tries_in = let r = N.tries_in in omega arith;
          kept_in = let r = N.kept_in in omega arith;
          low = λ i h. let r = N.low i h in let e = Q.same i (omega arith) in omega arith;
          caught = λ d h x. let r = caught d h x in let e = Q.same (a.tries - d) (omega arith) in omega arith;
        }

  -- ---- the room that the last steps ask
  ends_in : {t : Statement} {work₁ work₂ : List ℕ} {to₁ : ℕ} {v : Laid} → PartStands t work₁ to₁ v work₂ → v.from ≤ to₁
  ends_in M = let e = M.puts.from_is in omega arith

  pub one_room : {k : ℕ} {f : Statement → Statement} {inside : ℕ} → NotedOne R xs notes at left k f inside → {a' : Around} {places₁ places₂ work₁ : List ℕ} {v : Laid}
      → Done R (statement_at (left - 1) xs (at + 1)) (at + 1) (left - 1) a' places₁ work to v places₂ work₁
      → 2 ≤ v.from
  one_room o P =
      let next : (statement_at left xs at).next ≡ (statement_at (left - 1) xs (at + 1)).next = ap (λ (p : Placed). p.next) o.is in
      let r = N.room in
      let s = P.room in
      omega arith

  module _ {k : ℕ} {f : Statement → Statement → Statement} (o : NotedTwo R xs notes at left k f a.tries) {a' : Around} {places₁ work₁ : List ℕ} {v : Laid}
      (Q : Done R (statement_at (left - 1) xs (mid o)) (mid o) (left - 1) a' places work to v places₁ work₁) where
    second_room : 4 * mid o ≤ v.from + 4 * at
    second_room = let r = N.room in let s = Q.room in omega (arith, next_is o)

    second_ends : v.from ≤ to
    second_ends = ends_in Q.made

    pub else_room : 3 ≤ v.from
    else_room = omega (arith, second_room, forward o)

    pub join_ready : Caught R places a (statement_at (left - 1) xs (at + 1)).statement → a'.tries ≡ a.tries → Trimmable R xs notes (at + 1) (left - 1) a places₁ work₁ v.from
    join_ready caught t =
        let i = N.to_in in
        first_ready o caught Q t v.from work₁ (omega arith) (omega (arith, second_ends))

    pub join_room : {places₂ work₂ : List ℕ} {u : Laid} → Done R (statement_at (left - 1) xs (at + 1)) (at + 1) (left - 1) a places₁ work₁ v.from u places₂ work₂
        → 1 ≤ u.from
    join_room P = let s = P.room in omega (arith, second_room)

    module _ {z : Bool} {work₂ : List ℕ} {e : Laid} (E : ElseClosed a.started z work₁ v e work₂) where
      branch_ends : (b : Bool) (t : Statement) → Branch b t work to e work₂ → e.from ≤ to
      branch_ends true t W = let h = W.puts.from_is in omega arith
      branch_ends false t M = ends_in M

      else_ends : e.from ≤ to
      else_ends =
          branch_ends a.started (branch_if a.started z (trimmed_in R places a' (statement_at (left - 1) xs (mid o)).statement))
          (E.made (trimmed_in R places a' (statement_at (left - 1) xs (mid o)).statement) work to N.to_in Q.made)

      three : (b : Bool) → cond b 1 3 ≤ 3
      three true = omega arith
      three false = omega arith

      pub branch_ready : Caught R places a (statement_at (left - 1) xs (at + 1)).statement → a'.tries ≡ a.tries → Trimmable R xs notes (at + 1) (left - 1) a places₁ work₂ e.from
      branch_ready caught t =
          let i = N.to_in in
          let n = E.near in
          first_ready o caught Q t e.from work₂ (omega (arith, three a.started)) (omega (arith, else_ends))

      four : (b : Bool) → cond b 1 3 + cond b 2 1 ≤ 4
      four true = omega arith
      four false = omega arith

      pub present_room : {places₂ work₃ : List ℕ} {u : Laid} → Done R (statement_at (left - 1) xs (at + 1)) (at + 1) (left - 1) a places₁ work₂ e.from u places₂ work₃
          → cond a.started 2 1 ≤ u.from
      present_room P =
          let s = P.room in
          let n = E.near in
          omega (arith, second_room, four a.started)
