-- The answer and the buffers, from what was found: nothing is touched where it is a refusal, and else the reactions stand in
-- front.
use mathlib.Core.Path.{◌≡◌, refl, sym, ap, ◌∙◌, subst}
use mathlib.Core.Bool.{Bool, true, false, cond, ◌||◌}
use mathlib.Core.List.{List, [], ◌∷◌, map}
use Prim.Native.Nat.{ℕ, ◌/◌, ◌≤◌, ◌<◌, min}
use native.Mathlib.Omega.{arith}
use native.Mathlib.Decide.{dec_lt}
use lib.Dec.{ltb}
use lib.ListN.{length}
use borrow.Author.Tests.{lt-ltb, le-ltb}
use Rattle.sets.proofs.Booleans.{or_left, or_right}
use Rattle.esterel.specs.Reactions.{State, Reaction}
use Rattle.table.specs.Bits.{bytes}
use Rattle.table.specs.Outcomes.{values, number_of_refusal}
use Rattle.table.specs.Reading.{Table}
use Rattle.table.specs.Reading as table
use Rattle.std.specs.Prelude.{Result, Ok, Err}
use Rattle.table.specs.declared.Refusal.{Refusal}
use Rattle.rows.specs.declared.row.Row.{Row}
use Rattle.list.specs.Answers.{Listing, refused, listed, state_of, list_for, list_in, fitted, written, listing_outcome}
use Rattle.list.specs.inner.Preparing.{list_at}
use Rattle.list.specs.inner.Finding.{reactions_held, spelled, DeliveredAs}
use Rattle.list.specs.Buffers.{emitted_in, code_in, reached_in, front, Delivered, DeliveredBytes}
use Rattle.list.proofs.Limits.{held_length}
use Rattle.list.proofs.Fills.{singles, in_bytes}

-- ---- refusals
module _ {v : Listing} (why : Refusal) (e : v ≡ refused (number_of_refusal why)) where
  untouched : {A : Type 0} (h : ℕ → List A) (field : Reaction → ℕ) (old : List A) → old ≡ front (spelled h (map field (written v))) old
  unfolding front written spelled
  untouched h field old = ap (λ (z : Listing). front (spelled h (map field (written z))) old) (sym e)

  codes_untouched : (old : List ℕ) → old ≡ front (map code_in (written v)) old
  unfolding front written
  codes_untouched old = ap (λ (z : Listing). front (map code_in (written z)) old) (sym e)

  pub refused_as : {A B : Type 0} {f : ℕ → List A} {g : ℕ → List B} {o : List A} {k : List ℕ} {l : List B} → DeliveredAs f g v (Err why) o o k k l l
  unfolding listing_outcome
  refused_as {f = f} {g} {o} {k} {l} = record { answer = ap listing_outcome (sym e); signals = untouched f emitted_in o; codes = codes_untouched k; labels = untouched g reached_in l }

-- ---- the reactions
pub listed_as : {A B : Type 0} {f : ℕ → List A} {g : ℕ → List B} {v : Listing} {ts : List Reaction} {n : ℕ} {o o' : List A} {k k' : List ℕ} {l l' : List B}
    → v ≡ listed ts → n ≡ length ts → o' ≡ front (spelled f (map emitted_in ts)) o → k' ≡ front (map code_in ts) k → l' ≡ front (spelled g (map reached_in ts)) l
    → DeliveredAs f g v (Ok n) o o' k k' l l'
unfolding listing_outcome written
listed_as {f = f} {g} {v} {ts} {n} {o} {o'} {k} {k'} {l} {l'} e h a b c = record {
  answer = ap (λ (k : ℕ). values (k ∷ [])) h ∙ ap listing_outcome (sym e);
  signals = a ∙ ap (λ (z : Listing). front (spelled f (map emitted_in (written z))) o) (sym e);
  codes = b ∙ ap (λ (z : Listing). front (map code_in (written z)) k) (sym e);
  labels = c ∙ ap (λ (z : Listing). front (spelled g (map reached_in (written z))) l) (sym e);
}

-- ---- refusal 16: fewer places than reactions, in the buffer that has the fewest
module _ (o k l n : ℕ) {a b c d : ℕ} (e : a ≡ o) (f : b ≡ min a k) (g : c ≡ l) (h : d ≡ min b c) where
  abbrev tests : Bool
  tests = ltb o n || (ltb k n || ltb l n)

  too_few : d < n → tests ≡ true
  too_few s = go (dec_lt o n) (dec_lt k n)
    where
      go : Dec (o < n) → Dec (k < n) → tests ≡ true
      go (yes p) q = or_left (ltb k n || ltb l n) (lt-ltb o n p)
      go (no p) (yes q) = or_right (ltb o n) (or_left (ltb l n) (lt-ltb k n q))
      go (no p) (no q) = or_right (ltb o n) (or_right (ltb k n) (lt-ltb l n (omega arith)))

  enough : n ≤ d → tests ≡ false
  enough s = rw (le-ltb o n (omega arith), le-ltb k n (omega arith), le-ltb l n (omega arith))

  module _ (x : List Row) (s : n ≡ length x) where
    by_tests : (z : Bool) → tests ≡ z → fitted o k l (listed (reactions_held x)) ≡ cond z (refused 16) (listed (reactions_held x))
    unfolding fitted
    by_tests z t =
        ap (λ (y : ℕ). cond (ltb o y || (ltb k y || ltb l y)) (refused 16) (listed (reactions_held x))) (held_length x ∙ sym s)
        ∙ ap (λ (y : Bool). cond y (refused 16) (listed (reactions_held x))) t

    pub short : d < n → fitted o k l (listed (reactions_held x)) ≡ refused 16
    short q = by_tests true (too_few q)

    pub long_enough : n ≤ d → fitted o k l (listed (reactions_held x)) ≡ listed (reactions_held x)
    long_enough q = by_tests false (enough q)

-- ---- buffers of numbers, and of bytes
-- each element is a place
pub whole : (n : ℕ) → n / 1 ≡ n
whole n = omega arith

module _ {v : Listing} {r : Result ℕ Refusal} {o o' k k' l l' : List ℕ} where
  pub as_numbers : DeliveredAs (λ (n : ℕ). n ∷ []) (λ (n : ℕ). n ∷ []) v r o o' k k' l l' → Delivered v r o o' k k' l l'
  as_numbers d = record {
    answer = d.answer;
    signals = d.signals ∙ ap (λ (vs : List ℕ). front vs o) (singles (map emitted_in (written v)));
    codes = d.codes;
    labels = d.labels ∙ ap (λ (vs : List ℕ). front vs l) (singles (map reached_in (written v)));
  }

  pub as_bytes : DeliveredAs (bytes 4) (bytes 8) v r o o' k k' l l' → DeliveredBytes v r o o' k k' l l'
  as_bytes d = record {
    answer = d.answer;
    signals = d.signals ∙ ap (λ (vs : List ℕ). front vs o) (in_bytes 4 (map emitted_in (written v)));
    codes = d.codes;
    labels = d.labels ∙ ap (λ (vs : List ℕ). front vs l) (in_bytes 8 (map reached_in (written v)));
  }

pub delivered_as : {A B : Type 0} {f : ℕ → List A} {g : ℕ → List B} {v w : Listing} {r : Result ℕ Refusal} {o o' : List A} {k k' : List ℕ} {l l' : List B}
    → DeliveredAs f g v r o o' k k' l l' → v ≡ w → DeliveredAs f g w r o o' k k' l l'
delivered_as {f = f} {g} {v} {w} {r} {o} {o'} {k} {k'} {l} {l'} d e = subst (λ (z : Listing). DeliveredAs f g z r o o' k k' l l') e d

pub passed_on : (o k l : ℕ) {v : Listing} {w : ℕ} → v ≡ refused w → fitted o k l v ≡ refused w
unfolding fitted
passed_on o k l e = ap (fitted o k l) e

-- the state of a mark and a label set
pub list_at_lem : (T : Table) (E mark X : ℕ) {x : State} → x ≡ state_of mark X → list_at T x E ≡ list_in T E mark X
unfolding list_at list_in
list_at_lem (table.refused w) E mark X e = refl
list_at_lem (table.holds n p) E mark X e = ap (λ (y : State). list_for p y E) e
