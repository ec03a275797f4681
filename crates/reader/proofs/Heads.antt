-- The signal behind `signal` or `present`, and `in` or `then` behind it: where they are found the text ends in them, and else no text that ends so is one of a statement.
use Prim.Native.Nat.{ℕ, ◌≤◌}
use mathlib.Core.Path.{◌≡◌, refl, sym, ap, ◌∙◌, subst}
use mathlib.Core.Bool.{Bool, ◌&&◌}
use mathlib.Core.List.{List, [], ◌∷◌}
use native.Mathlib.Omega.{arith}
use Rattle.std.specs.Prelude.{None}
use Rattle.table.specs.inner.Making.{node_of}
use Rattle.reader.specs.declared.moves.Reader.{Reader}
use Rattle.reader.specs.declared.moves.Room.{Room}
use Rattle.text.specs.Parts.{Word, In, Then, Part, word, signal_of}
use Rattle.text.specs.Parts as parts
use Rattle.text.specs.Spelling.{letters_of}
use Rattle.text.specs.Reading.{signal_ranged}
use Rattle.text.specs.inner.Lexer.{rest}
use Rattle.reader.specs.inner.Ending.{Ending, Worded, Words, Signal, Signals, Skipped}
use Rattle.reader.specs.inner.Nodes.{clip, clip_part, Kept, put_on, Frames, bottom, bracket, ending, otherwise, of_signal, of_present, Work, failed, met, aside, end_frame, in_frame, then_frame, signal_frame, work_met, work_heading, work_headed, work, work_all, made}
use Rattle.reader.specs.inner.Held.{Doomed, Awaits, Heading, Headings, Moved}
use Rattle.reader.proofs.Endings.{ending_rest}
use Rattle.reader.proofs.Working.{clip_work}
use Rattle.reader.proofs.Places.{ending_shorter, skipped_shorter}
use Rattle.reader.proofs.Taking.{doomed, doomed_behind, doomed_parts, Goes, took}
use Rattle.reader.proofs.Suiting.{heading_failed, declared_failed, tested_failed}
use Rattle.reader.proofs.Parting.{word_ending, no_word}
use Rattle.reader.proofs.Ranges.{held_most, heading_ranged}

-- ---- The signal, and the word before it

pub no_heading : (u : List ℕ) (w : Word) → Signals u None → Headings u w None
no_heading u w S = λ x A. doomed u x (λ f. A.unmade) (λ v t E. A.signals t (λ m f. S v m (subst (λ (p : Part). Ending u v p) f E)))

module _ (u v q : List ℕ) (w : Word) {value : ℕ} (S : Signal u v value) (K : Skipped v q) where
  signal_goes_on : (ts : List Part) → rest u ts ≡ rest q (signal_of S.number ∷ ts)
  signal_goes_on ts = ending_rest _ _ _ ts S.there ∙ K.goes_on (signal_of S.number) ts

  pub other_word : Words q (letters_of w) None → Headings u w None
  other_word none = λ x A. doomed_behind u q (signal_of S.number) x signal_goes_on K.solid (doomed q _ (λ f. A.named S.number) (λ v t E. A.words S.number t (no_word w E none)))

  pub heading_there : (p : List ℕ) → Worded q (letters_of w) p → Heading u p w value
  heading_there p W =
      let E = word_ending w W in
      let front = skipped_shorter u (ending_shorter u v (signal_of S.number) S.there) K in
      let word = ending_shorter q p (word w) E in
      record { number = S.number; held = S.held; goes_on = λ ts. signal_goes_on ts ∙ ending_rest _ _ _ _ E; shorter = omega arith }

pub value_most : {u v : List ℕ} (w : Word) {value : ℕ} → Heading u v w value → value ≤ 100
value_most w H = subst (λ (v : ℕ). v ≤ 100) H.held (held_most H.number)

-- ---- What `in` and `then` wait for

failed_awaits : (w : Word) → Awaits w failed
unfolding work made
failed_awaits w = record { signals = λ t f. refl; words = λ m t f. refl; unmade = refl; named = λ m. refl }

in_awaits : (n : ℕ) (B : Kept) (K : Frames) → Awaits parts.Signal (in_frame n B K)
unfolding in_frame work work_heading made
in_awaits n B bottom = failed_awaits parts.Signal
in_awaits n B (bracket a b K) = failed_awaits parts.Signal
in_awaits n B (ending a b k K) =
    record { signals = λ t f. heading_failed n of_signal a b K B t f; words = λ m t f. declared_failed n (clip m) a b K B t f; unmade = refl; named = λ m. refl }
in_awaits n B (otherwise a b K) = failed_awaits parts.Signal

then_awaits : (n : ℕ) (B : Kept) (K : Frames) → Awaits parts.Present (then_frame n B K)
unfolding then_frame work work_heading made
then_awaits n B bottom = failed_awaits parts.Present
then_awaits n B (bracket a b K) = failed_awaits parts.Present
then_awaits n B (ending a b k K) =
    record { signals = λ t f. heading_failed n of_present a b K _ t f; words = λ m t f. tested_failed n (clip m) a b K _ t f; unmade = refl; named = λ m. refl }
then_awaits n B (otherwise a b K) =
    record { signals = λ t f. heading_failed n of_present a b K B t f; words = λ m t f. tested_failed n (clip m) a b K B t f; unmade = refl; named = λ m. refl }

-- what `signal`, the signal and `in` do to a chain, and `present`, the signal and `then`
in_heading : (n m : ℕ) (b : Bool) (K : Frames) (B : Kept) → work_all (word parts.Signal ∷ signal_of m ∷ word In ∷ []) (met n b K B) ≡ end_frame n (put_on (node_of 5 (clip m)) (aside b B)) K
unfolding work_all work work_met in_frame work_heading work_headed signal_frame end_frame
in_heading n m b bottom B = refl
in_heading n m b (bracket a c K) B = refl
in_heading n m b (ending a c k K) B = refl
in_heading n m b (otherwise a c K) B = refl

then_heading : (n m : ℕ) (b : Bool) (K : Frames) (B : Kept) → work_all (word parts.Present ∷ signal_of m ∷ word Then ∷ []) (met n b K B) ≡ work_all (word parts.Present ∷ signal_of (clip m) ∷ []) (then_frame n (aside b B) K)
unfolding work_all work work_met clip_part
then_heading n m b K B = ap (work (word parts.Present)) (sym (clip_work (signal_of m) (then_frame n (aside b B) K)))

-- ---- `in` or `then` before a whole chain

module _ (w' w : Word) {u v q : List ℕ} (W : Worded u (letters_of w') v) (K : Skipped v q) (x : Work) where
  goes : (ts : List Part) → rest u ts ≡ rest q (word w' ∷ ts)
  goes ts = ending_rest _ _ _ ts (word_ending w' W) ∙ K.goes_on (word w') ts

  heading_doomed : Headings q w None → Awaits w (work (word w') x) → Doomed u x
  heading_doomed H A = doomed_behind u q (word w') x goes K.solid (H _ A)

  module _ {p : List ℕ} {value : ℕ} (H : Heading q p w value) where
    heading_goes : (ts : List Part) → rest u ts ≡ rest p (word w ∷ signal_of H.number ∷ word w' ∷ ts)
    heading_goes ts = goes ts ∙ H.goes_on (word w' ∷ ts)

    heading_failed_at : work_all (word w ∷ signal_of H.number ∷ word w' ∷ []) x ≡ failed → Doomed u x
    heading_failed_at f = doomed_parts u p x (word w) (signal_of H.number ∷ word w' ∷ []) heading_goes f

    took_heading : {ranged z : Bool} → z ≡ signal_ranged value → {r s : Reader} {m : Room} → r.ranged ≡ (ranged && z) → Moved r s m (work_all (word w ∷ signal_of H.number ∷ word w' ∷ []) x) → Goes u p x ranged s m
    took_heading {ranged} e within M =
        took u p x (word w) (signal_of H.number ∷ word w' ∷ []) heading_goes (within ∙ heading_ranged ranged H.number H.held w w' e)
        (let front = skipped_shorter u (ending_shorter u v (word w') (word_ending w' W)) K in omega (arith, H.shorter)) M

module _ {u v q : List ℕ} (n : ℕ) (b : Bool) (K : Frames) (B : Kept) where
  module _ (W : Worded u (letters_of Then) v) (S : Skipped v q) where
    pub then_doomed : Headings q parts.Present None → Doomed u (met n b K B)
    unfolding work work_met
    then_doomed H = heading_doomed Then parts.Present W S (met n b K B) H (then_awaits n (aside b B) K)

    module _ {p : List ℕ} {value : ℕ} (H : Heading q p parts.Present value) {C : Kept} (e : aside b B ≡ C) where
      then_same : work_all (word parts.Present ∷ signal_of H.number ∷ word Then ∷ []) (met n b K B) ≡ work_all (word parts.Present ∷ signal_of value ∷ []) (then_frame n C K)
      then_same =
          then_heading n H.number b K B ∙ ap (λ (v : ℕ). work_all (word parts.Present ∷ signal_of v ∷ []) (then_frame n (aside b B) K)) H.held ∙ ap (λ (A : Kept). work_all (word parts.Present ∷ signal_of value ∷ []) (then_frame n A K)) e

      pub then_failed : work_all (word parts.Present ∷ signal_of value ∷ []) (then_frame n C K) ≡ failed → Doomed u (met n b K B)
      then_failed f = heading_failed_at Then parts.Present W S (met n b K B) H (then_same ∙ f)

      pub took_then : {ranged z : Bool} → z ≡ signal_ranged value → {r s : Reader} {m : Room} → r.ranged ≡ (ranged && z) → Moved r s m (work_all (word parts.Present ∷ signal_of value ∷ []) (then_frame n C K)) → Goes u p (met n b K B) ranged s m
      took_then g {r} {s} {m} within M = took_heading Then parts.Present W S (met n b K B) H g within (subst (Moved r s m) (sym then_same) M)

  module _ (W : Worded u (letters_of In) v) (S : Skipped v q) where
    pub in_doomed : Headings q parts.Signal None → Doomed u (met n b K B)
    unfolding work work_met
    in_doomed H = heading_doomed In parts.Signal W S (met n b K B) H (in_awaits n (aside b B) K)

    module _ {p : List ℕ} {value : ℕ} (H : Heading q p parts.Signal value) {C : Kept} (e : aside b B ≡ C) where
      in_same : work_all (word parts.Signal ∷ signal_of H.number ∷ word In ∷ []) (met n b K B) ≡ end_frame n (put_on (node_of 5 value) C) K
      in_same =
          in_heading n H.number b K B ∙ ap (λ (v : ℕ). end_frame n (put_on (node_of 5 v) (aside b B)) K) H.held ∙ ap (λ (A : Kept). end_frame n (put_on (node_of 5 value) A) K) e

      pub in_failed : end_frame n (put_on (node_of 5 value) C) K ≡ failed → Doomed u (met n b K B)
      in_failed f = heading_failed_at In parts.Signal W S (met n b K B) H (in_same ∙ f)

      pub took_in : {ranged z : Bool} → z ≡ signal_ranged value → {r s : Reader} {m : Room} → r.ranged ≡ (ranged && z) → Moved r s m (end_frame n (put_on (node_of 5 value) C) K) → Goes u p (met n b K B) ranged s m
      took_in g {r} {s} {m} within M = took_heading In parts.Signal W S (met n b K B) H g within (subst (Moved r s m) (sym in_same) M)
