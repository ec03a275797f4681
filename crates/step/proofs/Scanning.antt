-- One pass over the nodes that follows a signal S: whether S was emitted outside a declaration of it, and where the outermost
-- declaration that was met last ends. Before that end nothing that names S counts. Over the nodes of a statement that stands
-- inside such a declaration nothing changes; outside one, S counts where the statement emits it free.
use mathlib.Core.Path.{◌≡◌, refl, sym, ap, ◌∙◌, subst}
use mathlib.Core.Logic.{◌≢◌}
use mathlib.Core.Bool.{Bool, true, false, cond, ◌||◌}
use mathlib.Core.List.{List}
use Prim.Native.Nat.{ℕ, zero, suc, ◌+◌, ◌≤◌, ◌<◌}
use native.Mathlib.Omega.{arith}
use native.Mathlib.Decide.{dec_lt, ℕ_discrete}
use lib.Dec.{eqb, ltb}
use lib.ListN.{length, get_or, set, replicate, length-set}
use lib.Seq.{get_or-set_same, get_or-set_other}
use borrow.Author.Tests.{eq-eqb, ne_eqb, lt-ltb, le-ltb}
use Rattle.sets.specs.Set.{has, only, ◌union◌}
use Rattle.sets.proofs.Booleans.{clash, or_right, or_false, or_swap}
use Rattle.sets.proofs.Members.{has_empty, has_union, has_only, has_only_other, has_without_same, has_without_other, ext}
use Rattle.esterel.specs.Statement.{Statement, nothing, pause, gotopause, emit, exit, signal, present, sequence, parallel, loop, try, size, depth}
use Rattle.esterel.specs.Stepping.{emitted_free}
use Rattle.table.specs.Reading.{kind_of_node, operand_of}
use Rattle.table.specs.inner.Places.{Placed, placed, statement_of}
use Rattle.table.proofs.Places.{next_short}
use Rattle.lister.specs.inner.Notes.{unnoted, place_at, part_at, ReadWhole, EndsFrom, KnownTo}
use Rattle.lister.specs.declared.noted.Note.{Note}
use Rattle.lister.proofs.Nodes.{One, Two, before_end, is_nothing_lem, is_pause, is_gotopause, is_emit, is_exit, is_signal, is_present, is_sequence, is_parallel, is_loop, is_try}

-- what was met of a signal
pub record Met : Type 0 where
  pub free : Bool
  pub until : ℕ

abbrev pub met : Bool → ℕ → Met
met f u = record { free = f; until = u }

-- outside a declaration, by the kind of a node that names the signal, whose statement ends at a place
unfoldable pub met_kind : ℕ → ℕ → Met → Met
met_kind kind end m = cond (eqb kind 3) (met true m.until) (cond (eqb kind 5) (met m.free end) m)

unfoldable pub met_node : ℕ → List ℕ → List Note → ℕ → Met → Met
met_node S xs notes at m =
    cond (eqb (operand_of (get_or xs at 0)) S) (cond (ltb at m.until) m (met_kind (kind_of_node (get_or xs at 0)) (get_or notes at unnoted).end m)) m

-- n nodes from a place on
unfoldable pub scan : ℕ → List ℕ → List Note → ℕ → ℕ → Met → Met
scan S xs notes at zero m = m
scan S xs notes at (suc n) m = met_node S xs notes (at + n) (scan S xs notes at n m)

-- ---- one node
module _ (S : ℕ) (xs : List ℕ) (notes : List Note) (at : ℕ) (m : Met) where
  abbrev kind : ℕ
  kind = kind_of_node (get_or xs at 0)

  abbrev operand : ℕ
  operand = operand_of (get_or xs at 0)

  pub node_other : operand ≢ S → met_node S xs notes at m ≡ m
  unfolding met_node
  node_other h = rw (ne_eqb operand S h)

  pub node_hidden : at < m.until → met_node S xs notes at m ≡ m
  unfolding met_node
  node_hidden l = go (ℕ_discrete operand S)
    where
      go : Dec (operand ≡ S) → met_node S xs notes at m ≡ m
      go (yes e) = rw (eq-eqb operand S e, lt-ltb at m.until l)
      go (no h) = node_other h

  pub node_emit : kind ≡ 3 → operand ≡ S → m.until ≤ at → met_node S xs notes at m ≡ met true m.until
  unfolding met_node met_kind
  node_emit k h l = rw (eq-eqb operand S h, le-ltb at m.until l, eq-eqb kind 3 k)

  pub node_signal : kind ≡ 5 → operand ≡ S → m.until ≤ at → met_node S xs notes at m ≡ met m.free (get_or notes at unnoted).end
  unfolding met_node met_kind
  node_signal k h l = rw (eq-eqb operand S h, le-ltb at m.until l, ne_eqb kind 3 (λ (e : kind ≡ 3). omega arith), eq-eqb kind 5 k)

  node_neither : kind ≢ 3 → kind ≢ 5 → operand ≡ S → m.until ≤ at → met_node S xs notes at m ≡ m
  unfolding met_node met_kind
  node_neither e s h l = rw (eq-eqb operand S h, le-ltb at m.until l, ne_eqb kind 3 e, ne_eqb kind 5 s)

  pub node_plain : kind ≢ 3 → kind ≢ 5 → met_node S xs notes at m ≡ m
  node_plain e s = go (ℕ_discrete operand S) (dec_lt at m.until)
    where
      go : Dec (operand ≡ S) → Dec (at < m.until) → met_node S xs notes at m ≡ m
      go (no h) d = node_other h
      go (yes h) (yes l) = node_hidden l
      go (yes h) (no l) = node_neither e s h (omega arith)

-- ---- more nodes
module _ (S : ℕ) (xs : List ℕ) (notes : List Note) (at : ℕ) where
  scan_split : (a b : ℕ) (m : Met) → scan S xs notes at (a + b) m ≡ scan S xs notes (at + a) b (scan S xs notes at a m)
  unfolding scan
  scan_split a zero m = let e : a + zero ≡ a = omega arith in ap (λ (z : ℕ). scan S xs notes at z m) e
  scan_split a (suc b) m =
      let e : a + suc b ≡ suc (a + b) = omega arith in
      let g : at + (a + b) ≡ at + a + b = omega arith in
      ap (λ (z : ℕ). scan S xs notes at z m) e
      ∙ ap (λ (z : ℕ). met_node S xs notes z (scan S xs notes at (a + b) m)) g
      ∙ ap (met_node S xs notes (at + a + b)) (scan_split a b m)

  scan_front : (n : ℕ) (m : Met) → scan S xs notes at (suc n) m ≡ scan S xs notes (at + 1) n (met_node S xs notes at m)
  unfolding scan
  scan_front n m =
      let e : suc n ≡ 1 + n = omega arith in
      let g : at + 0 ≡ at = omega arith in
      ap (λ (z : ℕ). scan S xs notes at z m) e ∙ scan_split 1 n m
      ∙ ap (λ (z : ℕ). scan S xs notes (at + 1) n (met_node S xs notes z m)) g

-- ---- the nodes of a statement
-- from m to l over the nodes of p at a place
pub record Scanned (S : ℕ) (p : Statement) (at : ℕ) (m l : Met) : Type 0 where
  pub inside : at + size p ≤ m.until → l ≡ m
  pub outside : m.until ≤ at → l.free ≡ (m.free || has (emitted_free p) S)
  pub ends_inside : m.until ≤ at → l.until ≤ at + size p

-- where a statement that does not emit S free changes nothing
scanned_same : (S : ℕ) (p : Statement) (at : ℕ) (m l : Met) → has (emitted_free p) S ≡ false → l ≡ m → Scanned S p at m l
scanned_same S p at m l h e = record {
  inside = λ i. e;
  outside = λ i. ap (λ (z : Met). z.free) e ∙ sym (ap (λ (z : Bool). m.free || z) h ∙ or_false m.free);
  ends_inside = λ i. let g : l.until ≡ m.until = ap (λ (z : Met). z.until) e in omega arith;
}

module _ (S : ℕ) (xs : List ℕ) (notes : List Note) where
  abbrev after : Statement → ℕ → Met → Met
  after p at m = scan S xs notes at (size p) m

  abbrev Scans : ℕ → Statement → Type 0
  Scans at p = (m : Met) → Scanned S p at m (after p at m)

  module _ (at : ℕ) where
    abbrev here : Met → Met
    here m = met_node S xs notes at m

    -- the first node, and then those of the children
    first : (p : Statement) (n : ℕ) (m : Met) → size p ≡ suc n → after p at m ≡ scan S xs notes (at + 1) n (here m)
    first p n m s = ap (λ (z : ℕ). scan S xs notes at z m) s ∙ scan_front S xs notes at n m

    scans_leaf : (p : Statement) → size p ≡ 1 → emitted_free p ≡ 0 → ((m : Met) → here m ≡ m) → Scans at p
    unfolding scan
    scans_leaf p s e h m = scanned_same S p at m (after p at m) (ap (λ (z : ℕ). has z S) e ∙ has_empty S) (first p 0 m s ∙ h m)

    scans_emit : kind_of_node (get_or xs at 0) ≡ 3 → Dec (operand_of (get_or xs at 0) ≡ S) → Scans at (emit (operand_of (get_or xs at 0)))
    unfolding scan size emitted_free
    scans_emit k (no h) m =
        let o = operand_of (get_or xs at 0) in
        scanned_same S (emit o) at m (after (emit o) at m) (has_only_other o S h) (first (emit o) 0 m refl ∙ node_other S xs notes at m h)
    scans_emit k (yes h) m =
        let o = operand_of (get_or xs at 0) in
        let opened : m.until ≤ at → after (emit o) at m ≡ met true m.until = λ l. first (emit o) 0 m refl ∙ node_emit S xs notes at m k h l in
        record {
          inside = λ l. first (emit o) 0 m refl ∙ node_hidden S xs notes at m (omega arith);
          outside = λ l. ap (λ (z : Met). z.free) (opened l) ∙ sym (or_right m.free (ap (λ (z : ℕ). has (only z) S) h ∙ has_only S));
          ends_inside = λ l. let g : (after (emit o) at m).until ≡ m.until = ap (λ (z : Met). z.until) (opened l) in omega arith;
        }

    scans_one : (f : Statement → Statement) (p : Statement) → size (f p) ≡ suc (size p) → has (emitted_free (f p)) S ≡ has (emitted_free p) S
        → ((m : Met) → here m ≡ m) → Scans (at + 1) p → Scans at (f p)
    scans_one f p s g h ih m =
        let e : after (f p) at m ≡ after p (at + 1) m = first (f p) (size p) m s ∙ ap (after p (at + 1)) (h m) in
        let c = ih m in
        record {
          inside = λ l. e ∙ c.inside (omega arith);
          outside = λ l. ap (λ (z : Met). z.free) e ∙ c.outside (omega arith) ∙ ap (λ (z : Bool). m.free || z) (sym g);
          ends_inside = λ l.
              let a : (after (f p) at m).until ≡ (after p (at + 1) m).until = ap (λ (z : Met). z.until) e in
              let b = c.ends_inside (omega arith) in
              omega arith;
        }

    -- a declaration of S: nothing in it counts, up to its end
    scans_own : (p : Statement) → kind_of_node (get_or xs at 0) ≡ 5 → operand_of (get_or xs at 0) ≡ S → (get_or notes at unnoted).end ≡ at + suc (size p)
        → Scans (at + 1) p → Scans at (signal S p)
    unfolding size emitted_free
    scans_own p k h n ih m =
        let inner : Met = met m.free (get_or notes at unnoted).end in
        let opened : m.until ≤ at → after (signal S p) at m ≡ inner = λ l.
        first (signal S p) (size p) m refl ∙ ap (after p (at + 1)) (node_signal S xs notes at m k h l) ∙ (ih inner).inside (omega arith) in
        record {
          inside = λ l. first (signal S p) (size p) m refl ∙ ap (after p (at + 1)) (node_hidden S xs notes at m (omega arith)) ∙ (ih m).inside (omega arith);
          outside = λ l. ap (λ (z : Met). z.free) (opened l) ∙ sym (ap (λ (z : Bool). m.free || z) (has_without_same (emitted_free p) S) ∙ or_false m.free);
          ends_inside = λ l. let g : (after (signal S p) at m).until ≡ (get_or notes at unnoted).end = ap (λ (z : Met). z.until) (opened l) in omega arith;
        }

    scans_signal : (p : Statement) → kind_of_node (get_or xs at 0) ≡ 5 → (get_or notes at unnoted).end ≡ at + suc (size p) → Scans (at + 1) p
        → Dec (operand_of (get_or xs at 0) ≡ S) → Scans at (signal (operand_of (get_or xs at 0)) p)
    unfolding size emitted_free
    scans_signal p k n ih (yes h) = subst (λ (o : ℕ). Scans at (signal o p)) (sym h) (scans_own p k h n ih)
    scans_signal p k n ih (no h) =
        let o = operand_of (get_or xs at 0) in
        scans_one (signal o) p refl (has_without_other (emitted_free p) o S h) (λ m. node_other S xs notes at m h) ih

    scans_two : (f : Statement → Statement → Statement) (p q : Statement) → size (f p q) ≡ suc (size p + size q)
        → emitted_free (f p q) ≡ emitted_free p union emitted_free q
        → ((m : Met) → here m ≡ m) → Scans (at + 1) p → Scans (at + 1 + size p) q → Scans at (f p q)
    scans_two f p q s g h ih jh m =
        let mid : Met = after p (at + 1) m in
        let e : after (f p q) at m ≡ after q (at + 1 + size p) mid =
        first (f p q) (size p + size q) m s ∙ ap (scan S xs notes (at + 1) (size p + size q)) (h m) ∙ scan_split S xs notes (at + 1) (size p) (size q) m in
        let c = ih m in
        let d = jh mid in
        record {
          inside = λ l.
              let same : mid ≡ m = c.inside (omega arith) in
              let u : mid.until ≡ m.until = ap (λ (z : Met). z.until) same in
              e ∙ d.inside (omega arith) ∙ same;
          outside = λ l.
              let low = c.ends_inside (omega arith) in
              ap (λ (z : Met). z.free) e ∙ d.outside low ∙ ap (λ (z : Bool). z || has (emitted_free q) S) (c.outside (omega arith))
              ∙ sym (or_swap m.free false (has (emitted_free p) S) (has (emitted_free q) S))
              ∙ ap (λ (z : Bool). z || (has (emitted_free p) S || has (emitted_free q) S)) (or_false m.free)
              ∙ ap (λ (z : Bool). m.free || z) (sym (ap (λ (z : ℕ). has z S) g ∙ has_union (emitted_free p) (emitted_free q) S));
          ends_inside = λ l.
              let low = c.ends_inside (omega arith) in
              let a : (after (f p q) at m).until ≡ (after q (at + 1 + size p) mid).until = ap (λ (z : Met). z.until) e in
              let b = d.ends_inside low in
              omega arith;
        }

  -- ---- by the kind of the node
  module _ (n : ℕ) (right : EndsFrom 0 n xs notes) where
    abbrev Whole : ℕ → Type 0
    Whole at = ReadWhole n xs at

    abbrev ScansAt : ℕ → Type 0
    ScansAt at = Scans at (part_at xs at)

    end_is : {at : ℕ} → Whole at → (place_at xs at).next ≡ at + size (part_at xs at)
    end_is {at} w = let a = w.full in let b = next_short xs 60 at in omega arith

    module _ (at : ℕ) (w : Whole at) (ih : (i : ℕ) → Whole i → depth (part_at xs i) < depth (part_at xs at) → ScansAt i) where
      abbrev x : ℕ
      x = get_or xs at 0

      by_place : (p : Statement) (i : ℕ) → place_at xs at ≡ placed p i → Scans at p → ScansAt at
      by_place p i e c = subst (Scans at) (sym (ap (λ (r : Placed). r.statement) e)) c

      -- a node of a kind that neither emits nor declares
      plain : (k : ℕ) → kind_of_node x ≡ k → eqb k 3 ≡ false → eqb k 5 ≡ false → (m : Met) → met_node S xs notes at m ≡ m
      plain k e a b m = node_plain S xs notes at m (λ h. clash (eq-eqb k 3 (sym e ∙ h)) a) (λ h. clash (eq-eqb k 5 (sym e ∙ h)) b)

      leaf_below : (p : Statement) → place_at xs at ≡ placed p (at + 1) → size p ≡ 1 → emitted_free p ≡ 0 → ((m : Met) → met_node S xs notes at m ≡ m) → ScansAt at
      leaf_below p o s g h = by_place p (at + 1) o (scans_leaf at p s g h)

      at_nothing : kind_of_node x ≡ 0 → ScansAt at
      unfolding size emitted_free
      at_nothing e = leaf_below nothing (is_nothing_lem w e) refl refl (plain 0 e refl refl)

      at_pause : kind_of_node x ≡ 1 → ScansAt at
      unfolding size emitted_free
      at_pause e = leaf_below (pause (operand_of x)) (is_pause w e) refl refl (plain 1 e refl refl)

      at_gotopause : kind_of_node x ≡ 2 → ScansAt at
      unfolding size emitted_free
      at_gotopause e = leaf_below (gotopause (operand_of x)) (is_gotopause w e) refl refl (plain 2 e refl refl)

      at_emit : kind_of_node x ≡ 3 → ScansAt at
      at_emit e = by_place (emit (operand_of x)) (at + 1) (is_emit w e) (scans_emit at e (ℕ_discrete (operand_of x) S))

      at_exit : kind_of_node x ≡ 4 → ScansAt at
      unfolding size emitted_free
      at_exit e = leaf_below (exit (operand_of x)) (is_exit w e) refl refl (plain 4 e refl refl)

      at_signal : kind_of_node x ≡ 5 → ScansAt at
      unfolding size
      at_signal e =
          let o = is_signal w e in
          let p : Statement = part_at xs (at + 1) in
          let q : size (part_at xs at) ≡ suc (size p) = ap (λ (r : Placed). size r.statement) o.is in
          let g : (get_or notes at unnoted).end ≡ at + suc (size p) = right at (omega arith) w ∙ end_is w ∙ ap (λ (z : ℕ). at + z) q in
          by_place (signal (operand_of x) p) _ o.is (scans_signal at p e g (ih (at + 1) o.first o.less) (ℕ_discrete (operand_of x) S))

      one_below : (f : Statement → Statement) → One n xs at f → ((p : Statement) → size (f p) ≡ suc (size p)) → ((p : Statement) → emitted_free (f p) ≡ emitted_free p)
          → ((m : Met) → met_node S xs notes at m ≡ m) → ScansAt at
      one_below f o s g h =
          let p : Statement = part_at xs (at + 1) in
          by_place (f p) _ o.is (scans_one at f p (s p) (ap (λ (z : ℕ). has z S) (g p)) h (ih (at + 1) o.first o.less))

      two_below : (f : Statement → Statement → Statement) → Two n xs at f → ((p q : Statement) → size (f p q) ≡ suc (size p + size q))
          → ((p q : Statement) → emitted_free (f p q) ≡ emitted_free p union emitted_free q) → ((m : Met) → met_node S xs notes at m ≡ m) → ScansAt at
      two_below f t s g h =
          let next = (place_at xs (at + 1)).next in
          let p : Statement = part_at xs (at + 1) in
          let q : Statement = part_at xs next in
          let b : ScansAt next = ih next t.second t.less.1 in
          by_place (f p q) _ t.is
          (scans_two at f p q (s p q) (g p q) h (ih (at + 1) t.first t.less.0) (subst (λ (z : ℕ). Scans z q) (end_is t.first) b))

      at_present : kind_of_node x ≡ 6 → ScansAt at
      unfolding size emitted_free
      at_present e = two_below (present (operand_of x)) (is_present w e) (λ p q. refl) (λ p q. refl) (plain 6 e refl refl)

      at_sequence : kind_of_node x ≡ 7 → ScansAt at
      unfolding size emitted_free
      at_sequence e = two_below sequence (is_sequence w e) (λ p q. refl) (λ p q. refl) (plain 7 e refl refl)

      at_parallel : kind_of_node x ≡ 8 → ScansAt at
      unfolding size emitted_free
      at_parallel e = two_below parallel (is_parallel w e) (λ p q. refl) (λ p q. refl) (plain 8 e refl refl)

      at_loop : kind_of_node x ≡ 9 → ScansAt at
      unfolding size emitted_free
      at_loop e = one_below loop (is_loop w e) (λ p. refl) (λ p. refl) (plain 9 e refl refl)

      at_try : kind_of_node x ≡ 10 → ScansAt at
      unfolding size emitted_free
      at_try e = one_below try (is_try w e) (λ p. refl) (λ p. refl) (plain 10 e refl refl)

      at_kind : (k : ℕ) → kind_of_node x ≡ k → k ≤ 10 → ScansAt at
      at_kind zero e h = at_nothing e
      at_kind (suc zero) e h = at_pause e
      at_kind (suc (suc zero)) e h = at_gotopause e
      at_kind (suc (suc (suc zero))) e h = at_emit e
      at_kind (suc (suc (suc (suc zero)))) e h = at_exit e
      at_kind (suc (suc (suc (suc (suc zero))))) e h = at_signal e
      at_kind (suc (suc (suc (suc (suc (suc zero)))))) e h = at_present e
      at_kind (suc (suc (suc (suc (suc (suc (suc zero))))))) e h = at_sequence e
      at_kind (suc (suc (suc (suc (suc (suc (suc (suc zero)))))))) e h = at_parallel e
      at_kind (suc (suc (suc (suc (suc (suc (suc (suc (suc zero))))))))) e h = at_loop e
      at_kind (suc (suc (suc (suc (suc (suc (suc (suc (suc (suc zero)))))))))) e h = at_try e
      at_kind (suc (suc (suc (suc (suc (suc (suc (suc (suc (suc (suc k))))))))))) e h = absurd (omega arith)

    scans_at : KnownTo n xs → (d at : ℕ) → depth (part_at xs at) < d → Whole at → ScansAt at
    scans_at f zero at h w = absurd (omega arith)
    scans_at f (suc d) at h w = at_kind at w (λ i v l. scans_at f d i (omega arith) v) (kind_of_node (get_or xs at 0)) refl (f at (before_end w))

-- ---- all nodes
-- the pass has come to a place: of each signal it has what was met
pub record Tracked (xs : List ℕ) (notes : List Note) (at free : ℕ) (until : List ℕ) : Type 0 where
  pub room : length until ≡ 64
  pub each : (S : ℕ) → met (has free S) (get_or until S 0) ≡ scan S xs notes 0 at (met false 0)

module _ {n : ℕ} {xs : List ℕ} (notes : List Note) (right : EndsFrom 0 n xs notes) (whole : ReadWhole n xs 0) where
  pub first_end : (get_or notes 0 unnoted).end ≡ size (statement_of xs)
  first_end = let e = right 0 (omega arith) whole in let a = whole.full in let b = next_short xs 60 0 in omega arith

  pub tracked_all : KnownTo n xs → (at free : ℕ) (until : List ℕ) → at ≡ (get_or notes 0 unnoted).end → Tracked xs notes at free until → free ≡ emitted_free (statement_of xs)
  tracked_all known at free until e t = ext free (emitted_free (statement_of xs)) (λ S.
      ap (λ (z : Met). z.free) (t.each S ∙ ap (λ (z : ℕ). scan S xs notes 0 z (met false 0)) (e ∙ first_end))
      ∙ (scans_at S xs notes n right known (depth (statement_of xs) + 1) 0 (omega arith) whole (met false 0)).outside (omega arith))

-- ---- one node further
zero_at : (n S : ℕ) → ◌≡◌ {A = ℕ} (get_or (replicate n 0) S 0) 0
zero_at zero S = refl
zero_at (suc n) zero = refl
zero_at (suc n) (suc S) = zero_at n S

pub zeros_at : (S : ℕ) → ◌≡◌ {A = ℕ} (get_or (replicate 64 0) S 0) 0
zeros_at S = zero_at 64 S

pub tracked_none : (xs : List ℕ) (notes : List Note) (until : List ℕ) → length until ≡ 64 → ((S : ℕ) → get_or until S 0 ≡ 0) → Tracked xs notes 0 0 until
unfolding scan
tracked_none xs notes until r z = record { room = r; each = λ S. ap (λ (b : Bool). met b (get_or until S 0)) (has_empty S) ∙ ap (met false) (z S) }

pub tracked_is : {xs : List ℕ} {notes : List Note} {u v : List ℕ} {at f g : ℕ} → g ≡ f → v ≡ u → Tracked xs notes at f u → Tracked xs notes at g v
tracked_is {xs} {notes} {u} {at = at} {g = g} e h t =
    subst (λ (z : List ℕ). Tracked xs notes at g z) (sym h) (subst (λ (z : ℕ). Tracked xs notes at z u) (sym e) t)

module _ {xs : List ℕ} {notes : List Note} {until : List ℕ} {at free : ℕ} (t : Tracked xs notes at free until) (o : ℕ) (own : o ≡ operand_of (get_or xs at 0)) where
  further : (S : ℕ) → scan S xs notes 0 (at + 1) (met false 0) ≡ met_node S xs notes at (met (has free S) (get_or until S 0))
  unfolding scan
  further S =
      let e : at + 1 ≡ suc at = omega arith in
      let g : 0 + at ≡ at = omega arith in
      ap (λ (z : ℕ). scan S xs notes 0 z (met false 0)) e
      ∙ ap (λ (z : ℕ). met_node S xs notes z (scan S xs notes 0 at (met false 0))) g
      ∙ ap (met_node S xs notes at) (sym (t.each S))

  others : (S : ℕ) → o ≢ S → met (has free S) (get_or until S 0) ≡ scan S xs notes 0 (at + 1) (met false 0)
  others S h = sym (further S ∙ node_other S xs notes at (met (has free S) (get_or until S 0)) (λ e. h (own ∙ e)))

  -- what is met of o, and of the others
  by_signal : (free' : ℕ) (until' : List ℕ) → length until' ≡ 64 → ((S : ℕ) → o ≢ S → met (has free' S) (get_or until' S 0) ≡ met (has free S) (get_or until S 0))
      → met (has free' o) (get_or until' o 0) ≡ met_node o xs notes at (met (has free o) (get_or until o 0)) → Tracked xs notes (at + 1) free' until'
  by_signal free' until' r f g = record { room = r; each = λ S. go S (ℕ_discrete o S) }
    where
      go : (S : ℕ) → Dec (o ≡ S) → met (has free' S) (get_or until' S 0) ≡ scan S xs notes 0 (at + 1) (met false 0)
      go S (yes e) = subst (λ (z : ℕ). met (has free' z) (get_or until' z 0) ≡ scan z xs notes 0 (at + 1) (met false 0)) e (g ∙ sym (further o))
      go S (no h) = f S h ∙ others S h

  pub tracked_hidden : at < get_or until o 0 → Tracked xs notes (at + 1) free until
  tracked_hidden l = by_signal free until t.room (λ S h. refl) (sym (node_hidden o xs notes at (met (has free o) (get_or until o 0)) l))

  pub tracked_plain : kind_of_node (get_or xs at 0) ≢ 3 → kind_of_node (get_or xs at 0) ≢ 5 → Tracked xs notes (at + 1) free until
  tracked_plain e s = by_signal free until t.room (λ S h. refl) (sym (node_plain o xs notes at (met (has free o) (get_or until o 0)) e s))

  pub tracked_emit : {more : ℕ} → more ≡ free union only o → get_or until o 0 ≤ at → kind_of_node (get_or xs at 0) ≡ 3 → Tracked xs notes (at + 1) more until
  tracked_emit f l k =
      subst (λ (z : ℕ). Tracked xs notes (at + 1) z until) (sym f)
      (by_signal (free union only o) until t.room
      (λ S h. ap (λ (b : Bool). met b (get_or until S 0)) (has_union free (only o) S ∙ ap (λ (b : Bool). has free S || b) (has_only_other o S h) ∙ or_false (has free S)))
      (ap (λ (b : Bool). met b (get_or until o 0)) (has_union free (only o) o ∙ or_right (has free o) (has_only o))
      ∙ sym (node_emit o xs notes at (met (has free o) (get_or until o 0)) k (sym own) l)))

  pub tracked_signal : get_or until o 0 ≤ at → kind_of_node (get_or xs at 0) ≡ 5 → Tracked xs notes (at + 1) free (set until o (get_or notes at unnoted).end)
  tracked_signal l k =
      let r = t.room in
      by_signal free (set until o (get_or notes at unnoted).end) (length-set until o (get_or notes at unnoted).end ∙ r)
      (λ S h. ap (met (has free S)) (get_or-set_other until o S (get_or notes at unnoted).end 0 (λ e. h (sym e))))
      (ap (met (has free o)) (get_or-set_same until o (get_or notes at unnoted).end 0 (omega arith))
      ∙ sym (node_signal o xs notes at (met (has free o) (get_or until o 0)) k (sym own) l))
