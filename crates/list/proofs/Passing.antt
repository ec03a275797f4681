-- What the pass notes of a statement is right where what is noted of its children is: a statement with no child, with one, with two.
-- From the notes and the labels of the last pauses then come the labels of each statement.
use mathlib.Core.Path.{◌≡◌, refl, sym, ap, ap₂, ◌∙◌, subst}
use mathlib.Core.Bool.{Bool, true, false, not, ◌&&◌, ◌||◌}
use mathlib.Core.List.{List, []}
use Prim.Native.Nat.{ℕ, ◌+◌, ◌-◌, ◌≤◌, ◌<◌, min, max}
use native.Mathlib.Omega.{arith}
use native.Mathlib.Decide.{ℕ_discrete}
use lib.Bits.{or_comm}
use lib.ListN.{length, take, drop, get_or, set, length-set}
use lib.Seq.{get_or-set_same, get_or-set_other, drop-length, length-take-le}
use Rattle.sets.specs.Set.{has, only, ◌union◌, ◌minus◌, Apart}
use Rattle.sets.proofs.Booleans.{clash}
use Rattle.sets.proofs.Members.{has_empty, has_union, has_minus, has_only_equal, empty_union, union_assoc, apart_sym, apart_union, apart_union⁻, ext}
use Rattle.esterel.specs.Statement.{Statement, nothing, pause, gotopause, emit, exit, signal, present, sequence, parallel, loop, try, pauses}
use Rattle.esterel.specs.Listing.{nesting}
use Rattle.table.specs.Reading.{kind_of_node, operand_of}
use Rattle.table.specs.inner.Places.{Placed, placed, place_one, place_two}
use Rattle.lister.specs.declared.noted.Note.{Note}
use Rattle.lister.specs.inner.Notes.{unnoted, labels_noted, place_at, part_at, ReadWhole, EndsFrom, PausesFrom}
use Rattle.lister.proofs.Nodes.{One, Two, before_end, is_nothing_lem, is_pause, is_gotopause, is_emit, is_exit, is_signal, is_present, is_sequence, is_parallel, is_loop, is_try}
use Rattle.list.specs.inner.Notes.{pauses_in, labels_in, onward, pauses_from, labels_from, counted_note, NotedFrom, Splits, SplitFrom, NotesFrom, UnionsFrom, AllNoted, Passable, CameTo}
use Rattle.list.proofs.Pauses.{here_pause, here_none, here_fresh, few_from, fewer_onward}

-- ---- Sets
union_apart : (a b c : ℕ) → Apart a c → Apart b c → Apart (a union b) c
union_apart a b c f g = apart_sym c (a union b) (apart_union c a b (apart_sym a c f) (apart_sym b c g))

union_comm : (a b : ℕ) → a union b ≡ b union a
unfolding ◌union◌
union_comm a b = or_comm a b

-- what is apart can be taken away again
union_minus : (a b : ℕ) → Apart a b → (a union b) minus b ≡ a
union_minus a b f = ext ((a union b) minus b) a (λ x. has_minus (a union b) b x ∙ ap (λ (z : Bool). z && not (has b x)) (has_union a b x) ∙ go (has a x) (has b x) (f x))
  where
    go : (u v : Bool) → (u ≡ true → v ≡ false) → ((u || v) && not v) ≡ u
    go true true h = clash refl (h refl)
    go true false h = refl
    go false true h = refl
    go false false h = refl

-- ---- Notes, by their numbers
abbrev pub noted : ℕ → ℕ → ℕ → ℕ → Note
noted e f b m = record { end = e; from = f; behind = b; nest = m }

same_note : {e e' f f' b b' m m' : ℕ} → e ≡ e' → f ≡ f' → b ≡ b' → m ≡ m' → noted e f b m ≡ noted e' f' b' m'
same_note h i j k = cc

-- what is right of the statement at a place
record Right (n : ℕ) (xs : List ℕ) (at : ℕ) (p : Placed) (note : Note) : Type 0 where
  is_note : note ≡ counted_note n xs at p
  splits : Splits n xs at p

module _ {n : ℕ} {xs : List ℕ} {at node behind : ℕ} {notes : List Note} (c : CameTo n xs at node behind notes) where
  abbrev kind : ℕ
  kind = kind_of_node (get_or xs at 0)

  abbrev own : ℕ
  own = operand_of (get_or xs at 0)

  -- one place more
  written : {note : Note} → (ReadWhole n xs at → Right n xs at (place_at xs at) note) → NotesFrom at n xs (set notes at note)
  unfolding NotedFrom SplitFrom
  written {note} r = record { room = length-set notes at note ∙ c.noted.room; right_notes = λ i h v. here i h v (ℕ_discrete i at); right_labels = λ i h v. split i h v (ℕ_discrete i at) }
    where
      here : (i : ℕ) → at ≤ i → ReadWhole n xs i → Dec (i ≡ at) → get_or (set notes at note) i unnoted ≡ counted_note n xs i (place_at xs i)
      here i h v (yes d) =
          let l : at < length notes = let f = c.over.few in let g = c.inside in let k = c.noted.room in omega arith in
          ap (λ (z : ℕ). get_or (set notes at note) z unnoted) d ∙ get_or-set_same notes at note unnoted l ∙ (r (subst (ReadWhole n xs) d v)).is_note
          ∙ ap (λ (z : ℕ). counted_note n xs z (place_at xs z)) (sym d)
      here i h v (no d) = get_or-set_other notes at i note unnoted d ∙ c.noted.right_notes i (omega arith) v

      split : (i : ℕ) → at ≤ i → ReadWhole n xs i → Dec (i ≡ at) → Splits n xs i (place_at xs i)
      split i h v (yes d) = subst (λ (z : ℕ). Splits n xs z (place_at xs z)) (sym d) (r (subst (ReadWhole n xs) d v)).splits
      split i h v (no d) = c.noted.right_labels i (omega arith) v

  as_placed : {note : Note} {p : Placed} → place_at xs at ≡ p → Right n xs at p note → Right n xs at (place_at xs at) note
  as_placed {note} e r = subst (λ (q : Placed). Right n xs at q note) (sym e) r

  -- ---- no child
  right_none : (p : Statement) → (kind ≡ 1 → ⊥) → pauses p ≡ 0 → nesting p ≡ 0 → Right n xs at (placed p (at + 1)) (noted (at + 1) behind behind 0)
  right_none p k e f =
      let h = here_none c.over c.inside k in
      let b = c.counted in
      record {
        is_note = same_note refl (b ∙ sym h.0) b (omega (arith, f));
        splits = record {
          both = h.1 ∙ sym (empty_union (labels_from n xs (at + 1))) ∙ ap (λ (z : ℕ). z union labels_from n xs (at + 1)) (sym e);
          apart = λ x q. clash (sym (ap (λ (z : ℕ). has z x) e) ∙ q) (has_empty x);
        };
      }

  right_pause : kind ≡ 1 → Right n xs at (placed (pause own) (at + 1)) (noted (at + 1) (behind + 1) behind 0)
  unfolding pauses nesting
  right_pause k =
      let h = here_pause c.over c.inside k in
      let b = c.counted in
      record {
        is_note = same_note refl (ap (λ (z : ℕ). z + 1) b ∙ sym h.0) b refl;
        splits = record {
          both = h.1;
          apart = λ x q. ap (has (labels_from n xs (at + 1))) (sym (has_only_equal own x q)) ∙ here_fresh c.over c.inside k;
        };
      }

  -- ---- what is noted of a place behind
  module _ {i : ℕ} (h : at + 1 ≤ i) (w : ReadWhole n xs i) where
    note_there : get_or notes i unnoted ≡ counted_note n xs i (place_at xs i)
    unfolding NotedFrom
    note_there = c.noted.right_notes i h w

    split_there : Splits n xs i (place_at xs i)
    unfolding SplitFrom
    split_there = c.noted.right_labels i h w

  -- ---- one child
  abbrev first : Note
  first = get_or notes (at + 1) unnoted

  right_one : (f : Statement → Statement) (g : ℕ → ℕ) → One n xs at f → (kind ≡ 1 → ⊥) → ((p : Statement) → pauses (f p) ≡ pauses p)
      → ((p : Statement) → min 255 (nesting (f p)) ≡ g (min 255 (nesting p)))
      → Right n xs at (place_one f (place_at xs (at + 1))) (noted first.end first.from first.behind (g first.nest))
  right_one f g o k paused nested =
      let h = here_none c.over c.inside k in
      let l : at + 1 ≤ at + 1 = omega arith in
      let p = part_at xs (at + 1) in
      let next = (place_at xs (at + 1)).next in
      let s = split_there l o.first in
      record {
        is_note = ap (λ (z : Note). noted z.end z.from z.behind (g z.nest)) (note_there l o.first) ∙ same_note refl (sym h.0) refl (sym (nested p));
        splits = record {
          both = h.1 ∙ s.both ∙ ap (λ (z : ℕ). z union labels_from n xs next) (sym (paused p));
          apart = subst (λ (z : ℕ). Apart z (labels_from n xs next)) (sym (paused p)) s.apart;
        };
      }

  -- ---- two children
  right_two : (f : Statement → Statement → Statement) → Two n xs at f → (kind ≡ 1 → ⊥) → ((p q : Statement) → pauses (f p q) ≡ pauses p union pauses q)
      → ((p q : Statement) → nesting (f p q) ≡ max (nesting p) (nesting q)) → (second : Note) → second ≡ get_or notes first.end unnoted
      → Right n xs at (place_two f (place_at xs) (place_at xs (at + 1))) (noted second.end first.from second.behind (max first.nest second.nest))
  right_two f o k paused nested second e =
      let h = here_none c.over c.inside k in
      let l : at + 1 ≤ at + 1 = omega arith in
      let next = (place_at xs (at + 1)).next in
      let u = o.first.full in
      let m : at + 1 ≤ next = omega (arith, u) in
      let p = part_at xs (at + 1) in
      let q = part_at xs next in
      let last = (place_at xs next).next in
      let s = split_there l o.first in
      let t = split_there m o.second in
      let a : first ≡ counted_note n xs (at + 1) (place_at xs (at + 1)) = note_there l o.first in
      let b : second ≡ counted_note n xs next (place_at xs next) = e ∙ ap (λ (z : Note). get_or notes z.end unnoted) a ∙ note_there m o.second in
      let z : nesting (f p q) ≡ max (nesting p) (nesting q) = nested p q in
      let apart : Apart (pauses p) (pauses q union labels_from n xs last) = subst (Apart (pauses p)) t.both s.apart in
      record {
        is_note = ap₂ (λ (x y : Note). noted y.end x.from y.behind (max x.nest y.nest)) a b ∙ same_note refl (sym h.0) refl (omega (arith, z));
        splits = record {
          both = h.1 ∙ s.both ∙ ap (λ (j : ℕ). pauses p union j) t.both ∙ sym (union_assoc (pauses p) (pauses q) (labels_from n xs last))
              ∙ ap (λ (j : ℕ). j union labels_from n xs last) (sym (paused p q));
          apart = subst (λ (j : ℕ). Apart j (labels_from n xs last)) (sym (paused p q))
              (union_apart (pauses p) (pauses q) (labels_from n xs last) (apart_union⁻ (pauses p) (pauses q) (labels_from n xs last) apart).1 t.apart);
        };
      }

  -- ---- the kinds, as the pass tells them apart
  abbrev kind_is : (k : ℕ) → k ≡ kind_of_node node → k ≡ kind
  kind_is k e = e ∙ ap kind_of_node c.here

  -- ---- without children: of these only a pause counts
  noted_none : (p : Statement) → (kind ≡ 1 → ⊥) → pauses p ≡ 0 → nesting p ≡ 0 → (ReadWhole n xs at → place_at xs at ≡ placed p (at + 1))
      → NotesFrom at n xs (set notes at (noted (at + 1) behind behind 0))
  noted_none p k g h q = written (λ v. as_placed (q v) (right_none p k g h))

  module _ {note : Note} where
    noted_as : {p : Placed} {right : Note} → note ≡ right → (ReadWhole n xs at → place_at xs at ≡ p) → (ReadWhole n xs at → Right n xs at p right) → NotesFrom at n xs (set notes at note)
    noted_as e g r = written (λ v. let q = r v in as_placed (g v) (record { is_note = e ∙ q.is_note; splits = q.splits }))

    module _ (e : note ≡ noted (at + 1) behind behind 0) where
      plain : NotesFrom at n xs (set notes at (noted (at + 1) behind behind 0)) → NotesFrom at n xs (set notes at note)
      plain r = subst (λ (z : Note). NotesFrom at n xs (set notes at z)) (sym e) r

      pub noted_nothing : (k : ℕ) → k ≡ kind_of_node node → k ≡ 0 → NotesFrom at n xs (set notes at note)
      unfolding pauses nesting
      noted_nothing k i j = let z = sym (kind_is k i) ∙ j in plain (noted_none nothing (λ q. omega (arith, z, q)) refl refl (λ v. is_nothing_lem v z))

      pub noted_leaf : (k : ℕ) → k ≡ kind_of_node node → 2 ≤ k → k ≤ 4 → NotesFrom at n xs (set notes at note)
      unfolding pauses nesting
      noted_leaf k i l h = plain (go (ℕ_discrete kind 2) (ℕ_discrete kind 3))
        where
          other : kind ≡ 1 → ⊥
          other q = omega (arith, kind_is k i, q, l)

          go : Dec (kind ≡ 2) → Dec (kind ≡ 3) → NotesFrom at n xs (set notes at (noted (at + 1) behind behind 0))
          go (yes z) d = noted_none (gotopause own) other refl refl (λ v. is_gotopause v z)
          go (no g) (yes z) = noted_none (emit own) other refl refl (λ v. is_emit v z)
          go (no g) (no m) = noted_none (exit own) other refl refl (λ v. is_exit v (omega (arith, kind_is k i, l, h, g, m)))

    pub noted_pause : note ≡ noted (at + 1) (behind + 1) behind 0 → (k : ℕ) → k ≡ kind_of_node node → k ≡ 1 → NotesFrom at n xs (set notes at note)
    noted_pause e k i j = let z = sym (kind_is k i) ∙ j in noted_as e (λ v. is_pause v z) (λ v. right_pause z)

    -- ---- with one child
    noted_one : (f : Statement → Statement) (g : ℕ → ℕ) → (kind ≡ 1 → ⊥) → (ReadWhole n xs at → One n xs at f) → ((p : Statement) → pauses (f p) ≡ pauses p)
        → ((p : Statement) → min 255 (nesting (f p)) ≡ g (min 255 (nesting p))) → note ≡ noted first.end first.from first.behind (g first.nest)
        → NotesFrom at n xs (set notes at note)
    noted_one f g k o paused nested h = noted_as h (λ v. (o v).is) (λ v. right_one f g (o v) k paused nested)

    pub noted_signal : (k : ℕ) → k ≡ kind_of_node node → k ≡ 5 → note ≡ noted first.end first.from first.behind (min 255 (first.nest + 1)) → NotesFrom at n xs (set notes at note)
    unfolding pauses nesting
    noted_signal k i j f =
        let z = sym (kind_is k i) ∙ j in
        noted_one (signal own) (λ m. min 255 (m + 1)) (λ q. omega (arith, z, q)) (λ v. is_signal v z) (λ p. refl) (λ p. omega arith) f

    pub noted_body : (k : ℕ) → k ≡ kind_of_node node → 9 ≤ k → k ≤ 10 → note ≡ first → NotesFrom at n xs (set notes at note)
    unfolding pauses nesting
    noted_body k i l h f = go (ℕ_discrete kind 9)
      where
        other : kind ≡ 1 → ⊥
        other q = omega (arith, kind_is k i, q, l)

        go : Dec (kind ≡ 9) → NotesFrom at n xs (set notes at note)
        go (yes z) = noted_one loop (λ m. m) other (λ v. is_loop v z) (λ p. refl) (λ p. refl) f
        go (no g) = noted_one try (λ m. m) other (λ v. is_try v (omega (arith, kind_is k i, l, h, g))) (λ p. refl) (λ p. refl) f

    -- ---- with two children
    module _ (second : Note) (d : second ≡ get_or notes first.end unnoted) where
      noted_two : (f : Statement → Statement → Statement) → (kind ≡ 1 → ⊥) → (ReadWhole n xs at → Two n xs at f) → ((p q : Statement) → pauses (f p q) ≡ pauses p union pauses q)
          → ((p q : Statement) → nesting (f p q) ≡ max (nesting p) (nesting q)) → note ≡ noted second.end first.from second.behind (max first.nest second.nest)
          → NotesFrom at n xs (set notes at note)
      noted_two f k o paused nested h = noted_as h (λ v. (o v).is) (λ v. right_two f (o v) k paused nested second d)

      pub noted_pair : (k : ℕ) → k ≡ kind_of_node node → 6 ≤ k → k ≤ 8 → note ≡ noted second.end first.from second.behind (max first.nest second.nest) → NotesFrom at n xs (set notes at note)
      unfolding pauses nesting
      noted_pair k i l h f = go (ℕ_discrete kind 6) (ℕ_discrete kind 7)
        where
          other : kind ≡ 1 → ⊥
          other q = omega (arith, kind_is k i, q, l)

          go : Dec (kind ≡ 6) → Dec (kind ≡ 7) → NotesFrom at n xs (set notes at note)
          go (yes z) m = noted_two (present own) other (λ v. is_present v z) (λ p q. refl) (λ p q. refl) f
          go (no g) (yes z) = noted_two sequence other (λ v. is_sequence v z) (λ p q. refl) (λ p q. refl) f
          go (no g) (no m) = noted_two parallel other (λ v. is_parallel v (omega (arith, kind_is k i, l, h, g, m))) (λ p q. refl) (λ p q. refl) f

-- ---- The loop
pub record Passed (n : ℕ) (xs : List ℕ) (notes : List Note) (unions : List ℕ) (at behind labels : ℕ) : Type 0 where
  pub at_most : at ≤ n
  pub all : AllNoted at n xs notes unions
  pub counted : behind ≡ pauses_from n xs at
  pub named : labels ≡ labels_from n xs at

module _ {n : ℕ} {xs : List ℕ} (p : Passable n xs) where
  -- past the last node there is no pause
  past_all : onward n xs n ≡ []
  past_all = let l = length-take-le n xs (p.all) in ap (λ (z : ℕ). drop z (take n xs)) (sym l) ∙ drop-length (take n xs)

  pub none_behind : (0 ≡ pauses_from n xs n) × (0 ≡ labels_from n xs n)
  unfolding pauses_in labels_in
  none_behind = (sym (ap pauses_in past_all), sym (ap labels_in past_all))

  pub no_notes : {notes : List Note} → length notes ≡ 1024 → NotesFrom n n xs notes
  unfolding NotedFrom SplitFrom
  no_notes r = record {
    room = r;
    right_notes = λ at h w. absurd (let b = before_end w in omega arith);
    right_labels = λ at h w. absurd (let b = before_end w in omega arith);
  }

  pub first_union : (unions : List ℕ) → 0 < length unions → UnionsFrom n n xs (set unions 0 0)
  unfolding UnionsFrom
  first_union unions h at l m =
      let e : at ≡ n = omega arith in
      let z = none_behind in
      ap (λ (i : ℕ). get_or (set unions 0 0) i 0) (ap (pauses_from n xs) e ∙ sym z.0) ∙ get_or-set_same unions 0 0 0 h ∙ z.1 ∙ ap (labels_from n xs) (sym e)

  -- a pause has its union put, and another node none
  module _ {at : ℕ} (inside : at < n) (unions : List ℕ) (u : UnionsFrom (at + 1) n xs unions) where
    pub union_put : kind_of_node (get_or xs at 0) ≡ 1 → length unions ≡ 64 → (m v : ℕ) → m ≡ pauses_from n xs at → v ≡ labels_from n xs at → UnionsFrom at n xs (set unions m v)
    unfolding UnionsFrom
    union_put k l m v e f i h b = go (ℕ_discrete i at)
      where
        go : Dec (i ≡ at) → get_or (set unions m v) (pauses_from n xs i) 0 ≡ labels_from n xs i
        go (yes d) =
            ap (λ (j : ℕ). get_or (set unions m v) j 0) (ap (pauses_from n xs) d ∙ sym e) ∙ get_or-set_same unions m v 0 (omega (arith, l, e, few_from p at)) ∙ f ∙ ap (labels_from n xs) (sym d)
        go (no d) =
            get_or-set_other unions m (pauses_from n xs i) v 0 (λ q. omega (arith, q, e, (here_pause p inside k).0, fewer_onward n xs (at + 1) i (omega arith))) ∙ u i (omega arith) b

    pub union_kept : (kind_of_node (get_or xs at 0) ≡ 1 → ⊥) → UnionsFrom at n xs unions
    unfolding UnionsFrom
    union_kept k i h l = go (ℕ_discrete i at)
      where
        go : Dec (i ≡ at) → get_or unions (pauses_from n xs i) 0 ≡ labels_from n xs i
        go (yes e) =
            let z = here_none p inside k in
            ap (λ (j : ℕ). get_or unions (pauses_from n xs j) 0) e ∙ ap (λ (j : ℕ). get_or unions j 0) z.0 ∙ u (at + 1) (omega arith) (omega arith) ∙ sym z.1 ∙ ap (labels_from n xs) (sym e)
        go (no e) = u i (omega arith) l

  -- ---- how far the pass is: what it has noted, the pauses that it has met, and their labels
  module _ {notes : List Note} (unions : List ℕ) where
    pub passed_none : length notes ≡ 1024 → length unions ≡ 64 → Passed n xs notes (set unions 0 0) n 0 0
    passed_none r l = record {
      at_most = omega arith;
      all = record { long = length-set unions 0 0 ∙ l; noted = no_notes r; united = first_union unions (omega arith) };
      counted = none_behind.0;
      named = none_behind.1;
    }

  module _ {notes : List Note} {unions : List ℕ} where
    -- at the node before the place at which it is
    module _ {place behind labels : ℕ} (q : Passed n xs notes unions place behind labels) (h : 0 < place) where
      abbrev at : ℕ
      at = place - 1

      back : Passed n xs notes unions (at + 1) behind labels
      back =
          let e : place ≡ at + 1 = omega arith in
          subst (λ (z : ℕ). Passed n xs notes unions z behind labels) e q

      inside : at < n
      inside = let h = back.at_most in omega arith

      came_to : CameTo n xs at (get_or xs at 0) behind notes
      came_to = record { over = p; inside = inside; here = refl; counted = back.counted; noted = back.all.noted }

      -- a count of pauses has its place in the unions
      pub few_behind : behind < 64
      few_behind = omega (arith, back.counted, few_from p (at + 1))

      pub few_with : {kind : ℕ} → kind ≡ kind_of_node (get_or xs at 0) → kind ≡ 1 → behind < 63
      few_with e k = omega (arith, back.counted, few_from p at, (here_pause p inside (sym e ∙ k)).0)

      module _ {notes' : List Note} (c : (m : ℕ) (ys : List ℕ) → CameTo m ys at (get_or xs at 0) behind notes → NotesFrom at m ys notes') {kind : ℕ} (e : kind ≡ kind_of_node (get_or xs at 0)) where
        pub passed_pause : {own more : ℕ} → kind ≡ 1 → own ≡ operand_of (get_or xs at 0) → more ≡ labels union only own
            → Passed n xs notes' (set unions (behind + 1) more) at (behind + 1) more
        passed_pause {own} {more} i j f =
            let k = sym e ∙ i in
            let h = here_pause p inside k in
            let m : behind + 1 ≡ pauses_from n xs at = ap (λ (z : ℕ). z + 1) back.counted ∙ sym h.0 in
            let l : more ≡ labels_from n xs at =
            f ∙ ap₂ (λ (y z : ℕ). y union only z) back.named j ∙ union_comm (labels_from n xs (at + 1)) (only (operand_of (get_or xs at 0))) ∙ sym h.1 in
            let u = back.all.long in
            record {
              at_most = omega (arith, inside);
              all = record { long = length-set unions (behind + 1) more ∙ u; noted = c n xs came_to; united = union_put inside unions back.all.united k u (behind + 1) more m l };
              counted = m;
              named = l;
            }

        pub passed_other : (kind ≡ 1 → ⊥) → Passed n xs notes' unions at behind labels
        passed_other i =
            let k : kind_of_node (get_or xs at 0) ≡ 1 → ⊥ = λ j. i (e ∙ j) in
            let h = here_none p inside k in
            record {
              at_most = omega (arith, inside);
              all = record { long = back.all.long; noted = c n xs came_to; united = union_kept inside unions back.all.united k };
              counted = back.counted ∙ sym h.0;
              named = back.named ∙ sym h.1;
            }

  -- ---- what is noted of each statement, when all is
  module _ {notes : List Note} {unions : List ℕ} (c : AllNoted 0 n xs notes unions) where
    pub right_ends : EndsFrom 0 n xs notes
    unfolding NotedFrom
    right_ends at h w = ap (λ (z : Note). z.end) (c.noted.right_notes at h w)

    pub right_pauses : PausesFrom 0 n xs notes unions
    unfolding NotedFrom SplitFrom UnionsFrom labels_noted
    right_pauses at h w =
        let next = (place_at xs at).next in
        let e = c.noted.right_notes at h w in
        let s = c.noted.right_labels at h w in
        let i = before_end w in
        let from : (get_or notes at unnoted).from ≡ pauses_from n xs at = ap (λ (z : Note). z.from) e in
        let behind : (get_or notes at unnoted).behind ≡ pauses_from n xs next = ap (λ (z : Note). z.behind) e in
        record {
          from_few = omega (arith, from, few_from p at);
          behind_few = omega (arith, behind, few_from p next);
          right =
              ap₂ (λ (x y : ℕ). get_or unions x 0 minus get_or unions y 0) from behind
              ∙ ap₂ ◌minus◌ (c.united at (omega arith) (omega arith) ∙ s.both) (c.united next (omega arith) w.within)
              ∙ union_minus (pauses (part_at xs at)) (labels_from n xs next) s.apart;
        }

    pub root_nest : ReadWhole n xs 0 → (get_or notes 0 unnoted).nest ≡ min 255 (nesting (part_at xs 0))
    unfolding NotedFrom
    root_nest w = ap (λ (z : Note). z.nest) (c.noted.right_notes 0 (omega arith) w)
