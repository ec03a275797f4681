-- What the room of the reader holds after a store: the stack and the nodes.
use Prim.Native.Nat.{ℕ, zero, suc, ◌+◌, ◌-◌, ◌≤◌, ◌<◌, min}
use mathlib.Core.Path.{◌≡◌, refl, sym, ap, ◌∙◌}
use mathlib.Core.Bool.{Bool, true, false, cond}
use mathlib.Core.List.{List, [], ◌∷◌, ◌++◌, append_assoc}
use native.Mathlib.Omega.{arith}
use borrow.Author.Tests.{le-leb, lt-leb}
use lib.ListN.{length, take, drop, get_or, set, length-append, length-take, length-drop, length-set, take-append-drop}
use lib.Seq.{length-take-le, drop-cons, drop_at, drop-drop, drop-set-lt, drop-set-add, get_or-set_same, set_at}
use Rattle.std.specs.Prelude.{Option, Some, None}
use Rattle.std.specs.List.{copy_within}
use Rattle.std.proofs.Math.Seq.{paste}
use Rattle.std.proofs.lemmas.List.Edits.{drop-paste, take-paste}
use Rattle.reader.specs.declared.frames.Frame.{Frame}
use Rattle.table.specs.inner.Making.{node_of}
use Rattle.reader.specs.inner.Nodes.{Kept, few, many, kept, put_on, insert_behind, insert_on}
use Rattle.reader.proofs.Working.{kept_few, kept_many}
use Rattle.reader.specs.inner.Kept.{kept_in, Counted, Stored}
use Rattle.reader.specs.inner.Held.{framed, frames_of, stack_at}

-- ---- The stack

drop_stored : {A : Type 0} (xs : List A) (i : ℕ) (v : A) → i < length xs → drop i (set xs i v) ≡ v ∷ drop (suc i) xs
drop_stored xs i v h =
    let h' : i < length (set xs i v) = simp length-set h in
    let m : i < suc i = omega arith in
    rw (drop-cons (set xs i v) i v, get_or-set_same, drop-set-lt)

pub frame_stored : (fs : List Frame) (left : ℕ) (f : Frame) → left < length fs → stack_at left (set fs left f) ≡ framed f (stack_at (suc left) fs)
unfolding stack_at frames_of
frame_stored fs left f h = ap frames_of (drop_stored fs left f h)

pub frame_top : (fs : List Frame) (left : ℕ) (f : Frame) → left < length fs → stack_at left fs ≡ framed (get_or fs left f) (stack_at (suc left) fs)
unfolding stack_at frames_of
frame_top fs left f h = ap frames_of (drop-cons fs left f h)

-- ---- The nodes

-- one node more, where there was a place for it
one_more : (count : ℕ) (ys zs : List ℕ) → drop (1024 - (count + 1)) ys ≡ zs → count < 1024 → length ys ≡ 1024 → Stored (Some (count + 1)) ys (kept zs)
unfolding kept_in
one_more count ys zs e h l =
    record {
      held = ap few e ∙ sym (kept_few zs (omega (arith, simp length-drop at (ap length e))));
      counted = omega arith;
      filled = l;
    }

-- none, where there was no place
none_more : (count : ℕ) (xs : List ℕ) (F : Kept → Kept) → F (few xs) ≡ many → 1024 ≤ count → length xs ≡ 1024 → Stored None xs (F (kept_in (Some count) xs))
unfolding kept_in
none_more count xs F full h l = let z : 1024 - count ≡ 0 = omega arith in record { held = sym full ∙ rw z; counted = tt; filled = l }

pub not_told : (F : Kept → Kept) {n m : Option ℕ} (xs : List ℕ) → F many ≡ many → n ≡ None → m ≡ None → length xs ≡ 1024 → Stored m xs (F (kept_in n xs))
unfolding kept_in
not_told F xs full e f l = rw (e, f) (record { held = sym full; counted = tt; filled = l })

pub put_one : (count at x : ℕ) {n : Option ℕ} (xs : List ℕ) → n ≡ Some count → at + count ≡ 1023 → length xs ≡ 1024 → Stored (Some (count + 1)) (set xs at x) (put_on x (kept_in n xs))
unfolding put_on kept_in
put_one count at x xs told h l =
    let e : drop (1024 - (count + 1)) (set xs at x) ≡ x ∷ drop (1024 - count) xs =
    (let a : 1024 - (count + 1) ≡ at = omega arith in let b : 1024 - count ≡ suc at = omega arith in rw (a, b) (drop_stored xs at x (omega arith))) in
    rw told (one_more count _ _ e (omega arith) (length-set xs at x ∙ l))

-- a node where it is asked for
pub stored_asked : {a : Bool} {n : Option ℕ} {xs : List ℕ} {B : Kept} (B' : Kept) → a ≡ true → Stored n xs B → Stored n xs (cond a B B')
stored_asked B' h s = rw h s

pub stored_unasked : {a : Bool} {n : Option ℕ} {xs : List ℕ} (B : Kept) → a ≡ false → Counted n → length xs ≡ 1024 → Stored n xs (cond a B (kept_in n xs))
stored_unasked B h n l = rw h (record { held = refl; counted = n; filled = l })

pub put_none : (count x : ℕ) {n m : Option ℕ} (xs : List ℕ) → n ≡ Some count → m ≡ None → 1024 ≤ count → length xs ≡ 1024 → Stored m xs (put_on x (kept_in n xs))
unfolding put_on
put_none count x xs e f h l = rw (e, f) (none_more count xs (put_on x) (kept_many (x ∷ xs) (omega arith)) h l)

-- ---- A node inserted

-- before the last k nodes, or before all
insert_split : (k j : ℕ) (zs : List ℕ) → j + min k (length zs) ≡ length zs → insert_behind k zs ≡ take j zs ++ node_of 0 0 ∷ drop j zs
unfolding insert_behind
insert_split k zero [] e = refl
insert_split k zero (z ∷ zs) e = rw (le-leb (suc (length zs)) k (omega arith))
insert_split k (suc j) [] e = absurd (omega arith)
insert_split k (suc j) (z ∷ zs) e = rw (lt-leb (suc (length zs)) k (omega arith)) (ap (λ (l : List ℕ). z ∷ l) (insert_split k j zs (omega arith)))

-- the list zs with a place before its item j: what is moved there leaves the place one further
Open : List ℕ → ℕ → List ℕ → Type 0
Open zs j ws = (z : ℕ) × (ws ≡ take j zs ++ z ∷ drop j zs)

module _ (zs : List ℕ) (j : ℕ) (ws : List ℕ) where
  open_set : (v : ℕ) → Open zs j ws → j ≤ length zs → set ws j v ≡ take j zs ++ v ∷ drop j zs
  unfolding Open
  open_set v (z, e) h = rw e (set_at (take j zs) z (drop j zs) v j (length-take-le j zs h))

-- the last `count` nodes, of which those before `at` have moved one place forward
pub Shifted : ℕ → ℕ → List ℕ → List ℕ → Type 0
Shifted count at xs ys = Open (drop (1024 - count) xs) (at + count - 1024) (drop (1023 - count) ys)

module _ (count : ℕ) (xs : List ℕ) (some : count < 1024) (filled : length xs ≡ 1024) where
  count_left : length (drop (1024 - count) xs) ≡ count
  count_left = simp length-drop (omega arith)

  -- the nodes before `end` are copied one place forward
  pub shifted : (end : ℕ) → 1024 - count ≤ end → end ≤ 1024 → Shifted count end xs (copy_within xs (1024 - count) end (1023 - count))
  unfolding Shifted Open
  shifted end h k =
      let zs : List ℕ = drop (1024 - count) xs in
      let n : ℕ = end - (1024 - count) in
      let at : ℕ = 1023 - count in
      let P : List ℕ = paste xs at zs n in
      let j : n ≡ end + count - 1024 = omega arith in
      let front : take (at + n) P ≡ take at xs ++ take n zs = take-paste xs at zs n (omega arith) (omega (arith, count_left)) in
      let back : drop (at + n) P ≡ drop (at + n) xs = drop-paste xs at zs n (omega arith) (omega (arith, count_left)) in
      let a : suc (at + n) ≡ 1024 - count + n = omega arith in
      let rest : drop (at + n) xs ≡ get_or xs (at + n) 0 ∷ drop n zs =
      drop-cons xs (at + n) 0 (omega arith) ∙ ap (λ (i : ℕ). get_or xs (at + n) 0 ∷ drop i xs) a ∙ ap (λ (l : List ℕ). get_or xs (at + n) 0 ∷ l) (sym (drop-drop n (1024 - count) xs)) in
      let whole : P ≡ take at xs ++ (take n zs ++ (get_or xs (at + n) 0 ∷ drop n zs)) =
      sym (take-append-drop (at + n) P) ∙ ap (λ (l : List ℕ). l ++ drop (at + n) P) front ∙ ap (λ (l : List ℕ). (take at xs ++ take n zs) ++ l) (back ∙ rest) ∙ append_assoc (take at xs) (take n zs) _ in
      (get_or xs (at + n) 0, ap (drop at) whole ∙ drop_at (take at xs) _ at (length-take-le at xs (omega arith)) ∙ ap (λ (i : ℕ). take i zs ++ (get_or xs (at + n) 0 ∷ drop i zs)) j)

  pub shifted_to : (from end at : ℕ) {ys : List ℕ} → ys ≡ copy_within xs from end at → from ≡ 1024 - count → at ≡ 1023 - count → 1024 - count ≤ end → end ≤ 1024 → Shifted count end xs ys
  shifted_to from end at e p q h k = rw (e, p, q) (shifted _ h k)

  pub inserted : (k : ℕ) {at end v : ℕ} {n : Option ℕ} (ys : List ℕ) → n ≡ Some count → Shifted count at xs ys → v ≡ node_of 0 0 → end ≡ 1024 - min k count → at ≡ end → length ys ≡ 1024
      → Stored (Some (count + 1)) (set ys (end - 1) v) (insert_on k (kept_in n xs))
  unfolding Shifted insert_on kept_in
  inserted k ys told m ev ee ea l =
      let j : ℕ = 1024 - min k count + count - 1024 in
      let a : 1024 - (count + 1) ≡ 1023 - count = omega arith in
      let b : 1024 - min k count - 1 ≡ 1023 - count + j = omega arith in
      let e : drop (1024 - (count + 1)) (set ys (1024 - min k count - 1) (node_of 0 0)) ≡ insert_behind k (drop (1024 - count) xs) =
      rw (a, b, drop-set-add) (open_set _ j _ (node_of 0 0) (rw (ea, ee) at m) (omega (arith, count_left)) ∙ sym (insert_split k j (drop (1024 - count) xs) (rw count_left (omega arith)))) in
      rw (told, ev, ee) (one_more count _ _ e some (length-set ys _ _ ∙ l))

pub insert_none : (count k : ℕ) {n m : Option ℕ} (xs : List ℕ) → n ≡ Some count → m ≡ None → 1024 ≤ count → length xs ≡ 1024 → Stored m xs (insert_on k (kept_in n xs))
unfolding insert_on
insert_none count k xs e f h l = rw (e, f) (none_more count xs (insert_on k) (kept_many (insert_behind k xs) (omega (arith, longer))) h l)
  where
    longer : length (insert_behind k xs) ≡ suc (length xs)
    longer = ap length (insert_split k (length xs - min k (length xs)) xs (omega arith)) ∙ simp (length-append, length-take, length-drop) (omega arith)
