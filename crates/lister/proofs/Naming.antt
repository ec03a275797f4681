-- Whether an emit or a present of a statement names a signal, read off its nodes one after the other.
use mathlib.Core.Path.{◌≡◌, refl, sym, ap, ap₂, ◌∙◌}
use mathlib.Core.Bool.{Bool, true, false, ◌&&◌, ◌||◌}
use mathlib.Core.List.{List, ◌∷◌}
use Prim.Native.Nat.{ℕ, zero, suc, ◌+◌, ◌-◌, ◌≤◌, ◌<◌}
use native.Mathlib.Omega.{arith}
use native.Mathlib.Decide.{ℕ_discrete}
use lib.Dec.{eqb}
use lib.ListN.{length, get_or, take, drop}
use Rattle.std.specs.List.{list_any}
use Rattle.std.proofs.lemmas.List.Folds.{list_any-append}
use Rattle.std.proofs.Math.Seq.{take-add, drop-cons}
use Rattle.std.proofs.lemmas.List.{drop-drop}
use Rattle.std.proofs.Common.{add-one}
use borrow.Author.Tests.{eq-eqb, ne_eqb}
use Rattle.esterel.specs.Statement.{Statement, nothing, pause, gotopause, emit, exit, signal, present, sequence, parallel, loop, try, size, depth}
use Rattle.esterel.specs.Trimming.{names}
use Rattle.table.specs.Reading.{kind_of_node, operand_of}
use Rattle.table.specs.inner.Places.{Placed, placed}
use Rattle.table.proofs.Places.{next_short}
use Rattle.lister.specs.declared.noted.Noted.{Noted}
use Rattle.lister.specs.inner.Notes.{unnoted, place_at, part_at, names_at, ReadWhole, KnownTo}
use Rattle.lister.proofs.Nodes.{One, Two, inside, before_end, is_nothing_lem, is_pause, is_gotopause, is_emit, is_exit, is_signal, is_present, is_sequence, is_parallel, is_loop, is_try}

-- one of the n nodes from a place on names S
abbrev pub named_in : ℕ → List ℕ → ℕ → ℕ → Bool
named_in S xs at n = list_any (names_at S) (take n (drop at xs))

named_step : (S : ℕ) (xs : List ℕ) (at n : ℕ) → at < length xs → named_in S xs at (suc n) ≡ (names_at S (get_or xs at 0) || named_in S xs (at + 1) n)
named_step S xs at n h = let e : drop at xs ≡ get_or xs at 0 ∷ drop (at + 1) xs = rw (add-one, drop-cons xs at 0) in ap (λ (l : List ℕ). list_any (names_at S) (take (suc n) l)) e

named_split : (S : ℕ) (xs : List ℕ) (at m n : ℕ) → named_in S xs at (m + n) ≡ (named_in S xs at m || named_in S xs (at + m) n)
named_split S xs at m n =
    ap (list_any (names_at S)) (take-add m n (drop at xs)) ∙ list_any-append (names_at S) (take m (drop at xs)) (take n (drop m (drop at xs)))
    ∙ ap (λ (l : List ℕ). named_in S xs at m || list_any (names_at S) (take n l)) (drop-drop m at xs)

-- ---- one node
eqb_swap : (m n : ℕ) → eqb m n ≡ eqb n m
eqb_swap m n = go (ℕ_discrete m n)
  where
    go : Dec (m ≡ n) → eqb m n ≡ eqb n m
    go (yes e) = eq-eqb m n e ∙ sym (eq-eqb n m (sym e))
    go (no h) = ne_eqb m n h ∙ sym (ne_eqb n m (λ e. h (sym e)))

and_false : (b : Bool) → (b && false) ≡ false
and_false true = refl
and_false false = refl

and_true : (b : Bool) → (b && true) ≡ b
and_true true = refl
and_true false = refl

or_false : (b : Bool) → (b || false) ≡ b
or_false true = refl
or_false false = refl

module _ (S x k : ℕ) (e : kind_of_node x ≡ k) where
  by_kind : names_at S x ≡ (eqb (operand_of x) S && (eqb k 3 || eqb k 6))
  by_kind = ap (λ (z : ℕ). eqb (operand_of x) S && (eqb z 3 || eqb z 6)) e

  names_not : (eqb k 3 || eqb k 6) ≡ false → names_at S x ≡ false
  names_not h = by_kind ∙ ap (λ (b : Bool). eqb (operand_of x) S && b) h ∙ and_false (eqb (operand_of x) S)

  names_own : (eqb k 3 || eqb k 6) ≡ true → names_at S x ≡ eqb S (operand_of x)
  names_own h = by_kind ∙ ap (λ (b : Bool). eqb (operand_of x) S && b) h ∙ and_true (eqb (operand_of x) S) ∙ eqb_swap (operand_of x) S

-- ---- by the kind of the node
module _ (S n : ℕ) (xs : List ℕ) where
  abbrev Named : ℕ → Type 0
  Named at = named_in S xs at (size (part_at xs at)) ≡ names S (part_at xs at)

  module _ (at : ℕ) where
    abbrev here : Bool
    here = names_at S (get_or xs at 0)

    named_leaf : at < length xs → (p : Statement) → place_at xs at ≡ placed p (at + 1) → size p ≡ 1 → names S p ≡ here → Named at
    named_leaf i p e s h =
        let q : part_at xs at ≡ p = ap (λ (r : Placed). r.statement) e in
        ap (λ (z : Statement). named_in S xs at (size z)) q ∙ ap (named_in S xs at) s ∙ named_step S xs at 0 i ∙ or_false here ∙ sym h ∙ ap (names S) (sym q)

    named_one : at < length xs → (f : Statement → Statement) → One n xs at f → ((p : Statement) → size (f p) ≡ suc (size p)) → ((p : Statement) → names S (f p) ≡ names S p) → here ≡ false
        → Named (at + 1) → Named at
    named_one i f o s g h ih =
        let p : Statement = part_at xs (at + 1) in
        let q : part_at xs at ≡ f p = ap (λ (r : Placed). r.statement) o.is in
        ap (λ (z : Statement). named_in S xs at (size z)) q ∙ ap (named_in S xs at) (s p) ∙ named_step S xs at (size p) i ∙ ap (λ (b : Bool). b || named_in S xs (at + 1) (size p)) h
        ∙ ih ∙ sym (g p) ∙ ap (names S) (sym q)

    named_two : at < length xs → (f : Statement → Statement → Statement) → Two n xs at f → ((p q : Statement) → size (f p q) ≡ suc (size p + size q))
        → ((p q : Statement) → names S (f p q) ≡ (here || (names S p || names S q))) → Named (at + 1) → Named (place_at xs (at + 1)).next → Named at
    named_two i f t s g ih jh =
        let next = (place_at xs (at + 1)).next in
        let p : Statement = part_at xs (at + 1) in
        let q : Statement = part_at xs next in
        let w : part_at xs at ≡ f p q = ap (λ (r : Placed). r.statement) t.is in
        let a = t.first.full in
        let b = next_short xs 60 (at + 1) in
        let after : at + 1 + size p ≡ next = omega arith in
        ap (λ (z : Statement). named_in S xs at (size z)) w ∙ ap (named_in S xs at) (s p q) ∙ named_step S xs at (size p + size q) i
        ∙ ap (λ (b : Bool). here || b) (named_split S xs (at + 1) (size p) (size q)
        ∙ ap₂ ◌||◌ ih (ap (λ (z : ℕ). named_in S xs z (size q)) after ∙ jh)) ∙ sym (g p q) ∙ ap (names S) (sym w)

  abbrev Whole : ℕ → Type 0
  Whole at = ReadWhole n xs at

  -- the kinds, with what is known of the children
  module _ (at : ℕ) (w : Whole at) (ih : (i : ℕ) → Whole i → depth (part_at xs i) < depth (part_at xs at) → Named i) where
    abbrev kind : ℕ
    kind = kind_of_node (get_or xs at 0)

    abbrev x : ℕ
    x = get_or xs at 0

    at_nothing : kind ≡ 0 → Named at
    unfolding names size
    at_nothing e = named_leaf at (inside w) nothing (is_nothing_lem w e) refl (sym (names_not S x 0 e refl))

    at_pause : kind ≡ 1 → Named at
    unfolding names size
    at_pause e = named_leaf at (inside w) (pause (operand_of x)) (is_pause w e) refl (sym (names_not S x 1 e refl))

    at_gotopause : kind ≡ 2 → Named at
    unfolding names size
    at_gotopause e = named_leaf at (inside w) (gotopause (operand_of x)) (is_gotopause w e) refl (sym (names_not S x 2 e refl))

    at_emit : kind ≡ 3 → Named at
    unfolding names size
    at_emit e = named_leaf at (inside w) (emit (operand_of x)) (is_emit w e) refl (sym (names_own S x 3 e refl))

    at_exit : kind ≡ 4 → Named at
    unfolding names size
    at_exit e = named_leaf at (inside w) (exit (operand_of x)) (is_exit w e) refl (sym (names_not S x 4 e refl))

    one_below : (f : Statement → Statement) → One n xs at f → Named (at + 1)
    one_below f o = ih (at + 1) o.first o.less

    at_signal : kind ≡ 5 → Named at
    unfolding names size
    at_signal e = let o = is_signal w e in named_one at (inside w) (signal (operand_of x)) o (λ p. refl) (λ p. refl) (names_not S x 5 e refl) (one_below (signal (operand_of x)) o)

    at_loop : kind ≡ 9 → Named at
    unfolding names size
    at_loop e = let o = is_loop w e in named_one at (inside w) loop o (λ p. refl) (λ p. refl) (names_not S x 9 e refl) (one_below loop o)

    at_try : kind ≡ 10 → Named at
    unfolding names size
    at_try e = let o = is_try w e in named_one at (inside w) try o (λ p. refl) (λ p. refl) (names_not S x 10 e refl) (one_below try o)

    two_below : (f : Statement → Statement → Statement) → Two n xs at f → ((p q : Statement) → size (f p q) ≡ suc (size p + size q))
        → ((p q : Statement) → names S (f p q) ≡ (here at || (names S p || names S q))) → Named at
    two_below f t s g = named_two at (inside w) f t s g (ih (at + 1) t.first t.less.0) (ih (place_at xs (at + 1)).next t.second t.less.1)

    at_present : kind ≡ 6 → Named at
    unfolding names size
    at_present e = two_below (present (operand_of x)) (is_present w e) (λ p q. refl) (λ p q. ap (λ (b : Bool). b || (names S p || names S q)) (sym (names_own S x 6 e refl)))

    at_sequence : kind ≡ 7 → Named at
    unfolding names size
    at_sequence e = two_below sequence (is_sequence w e) (λ p q. refl) (λ p q. ap (λ (b : Bool). b || (names S p || names S q)) (sym (names_not S x 7 e refl)))

    at_parallel : kind ≡ 8 → Named at
    unfolding names size
    at_parallel e = two_below parallel (is_parallel w e) (λ p q. refl) (λ p q. ap (λ (b : Bool). b || (names S p || names S q)) (sym (names_not S x 8 e refl)))

    at_kind : (k : ℕ) → kind ≡ k → k ≤ 10 → Named at
    at_kind zero e h = at_nothing e
    at_kind (suc zero) e h = at_pause e
    at_kind (suc (suc zero)) e h = at_gotopause e
    at_kind (suc (suc (suc zero))) e h = at_emit e
    at_kind (suc (suc (suc (suc zero)))) e h = at_exit e
    at_kind (suc (suc (suc (suc (suc zero))))) e h = at_signal e
    at_kind (suc (suc (suc (suc (suc (suc zero)))))) e h = at_present e
    at_kind (suc (suc (suc (suc (suc (suc (suc zero))))))) e h = at_sequence e
    at_kind (suc (suc (suc (suc (suc (suc (suc (suc zero)))))))) e h = at_parallel e
    at_kind (suc (suc (suc (suc (suc (suc (suc (suc (suc zero))))))))) e h = at_loop e
    at_kind (suc (suc (suc (suc (suc (suc (suc (suc (suc (suc zero)))))))))) e h = at_try e
    at_kind (suc (suc (suc (suc (suc (suc (suc (suc (suc (suc (suc k))))))))))) e h = absurd (omega arith)

  named_at : KnownTo n xs → (d at : ℕ) → depth (part_at xs at) < d → Whole at → Named at
  named_at f zero at h w = absurd (omega arith)
  named_at f (suc d) at h w = at_kind at w (λ i v l. named_at f d i (omega arith) v) (kind_of_node (get_or xs at 0)) refl (f at (before_end w))

-- ---- from a place to the end that is noted of it
module _ (s : Noted) {at : ℕ} (w : ReadWhole s.count s.nodes at) (S : ℕ) where
  abbrev end : ℕ
  end = (get_or s.notes at unnoted).end

  ends_at : end ≡ at + size (part_at s.nodes at)
  ends_at = let e = s.ends at (omega arith) w in let a = w.full in let b = next_short s.nodes 60 at in omega arith

  pub named_here : named_in S s.nodes at (end - at) ≡ names S (part_at s.nodes at)
  named_here =
      let e : end - at ≡ size (part_at s.nodes at) = let h = ends_at in omega arith in
      ap (named_in S s.nodes at) e ∙ named_at S s.count s.nodes s.known (depth (part_at s.nodes at) + 1) at (omega arith) w
