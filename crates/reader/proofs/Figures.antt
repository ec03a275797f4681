-- A statement is due where the last byte is that of a number: a number or a signal is taken, or no part that suits ends there. And a pause, whose label stands before `:pause`.
use Prim.Native.Nat.{ℕ}
use mathlib.Core.Path.{◌≡◌, sym, ap, ◌∙◌, subst}
use mathlib.Core.Bool.{Bool, true, false, ◌&&◌, and-true}
use mathlib.Core.List.{List, [], ◌∷◌, ◌++◌}
use Rattle.std.specs.Prelude.{None}
use Rattle.std.specs.Prelude as std
use Rattle.sets.proofs.Booleans.{clash}
use Rattle.reader.specs.declared.lexing.Rest.{Rest}
use Rattle.reader.specs.declared.moves.Reader.{Reader}
use Rattle.reader.specs.declared.moves.Room.{Room}
use Rattle.table.specs.inner.Making.{node_of}
use Rattle.text.specs.Parts.{number, signal_of, pause_at}
use Rattle.text.specs.Spelling.{digits, colon_pause, last_of}
use Rattle.text.specs.Reading.{label_ranged, signal_ranged}
use Rattle.text.specs.inner.Lexer.{is_digit, is_letter}
use Rattle.reader.specs.inner.Ending.{Ending, Words, Number, Numbers, Signal, Skipped}
use Rattle.reader.specs.inner.Nodes.{part_ranged, all_ranged, Kept, Frames, due, numbered, named, single, put_on, work_due, work, work_all}
use Rattle.reader.specs.inner.Held.{Doomed, Moved, Took}
use Rattle.reader.proofs.Endings.{ending_rest}
use Rattle.reader.proofs.Numerals.{number_ending, ending_none, ending_number, no_signal, ending_mark, pause_ending, ending_pause}
use Rattle.reader.proofs.Places.{ending_shorter, number_shorter, skipped_shorter, same_front}
use Rattle.reader.proofs.Taking.{Goes, took, took_behind}
use Rattle.reader.proofs.Dues.{no_digits, no_pause}
use Rattle.reader.proofs.Ranges.{signal_ranged_lem, number_ranged, pause_ranged}

module _ (u : List ℕ) (n : ℕ) (a b : Bool) (K : Frames) (B : Kept) where
  module _ (d : is_digit (last_of u) ≡ true) where
    pub unnumbered : Numbers u None → Doomed u (due n a b K B)
    unnumbered N = no_digits u n a b K B d (λ v m E. ending_none u v m E N) (λ v m E. no_signal u N v m E)

    -- a letter before it, or before its S
    pub number_touched : (v : List ℕ) {value : ℕ} → Number u v value → Words v (83 ∷ []) None → is_letter (last_of v) ≡ true → Doomed u (due n a b K B)
    number_touched v N W l =
        no_digits u n a b K B d (λ w m E. clash l (ending_number u v w m E N).2) (λ w m E. W w (ending_mark u v N w m E).0)

  module _ (o : std.Option (Rest × Reader)) (m : Room) where
    pub number_taken : (v w : List ℕ) (ranged mid : Bool) {value : ℕ} {z : Bool} → Number u v value → is_letter (last_of v) ≡ false → Skipped v w → z ≡ label_ranged value → mid ≡ (ranged && z) → Took w (numbered n value a b K B) mid o m
        → Took u (due n a b K B) ranged o m
    unfolding work work_due part_ranged
    number_taken v w ranged mid N clear S value-ranged within T =
        took_behind u w (number N.number) (due n a b K B) ranged mid (λ ts. ending_rest _ _ (number N.number) ts (number_ending N clear) ∙ S.goes_on (number N.number) ts) (skipped_shorter u (number_shorter u v N) S)
        (within ∙ number_ranged ranged N.number N.held value-ranged) S.solid o m (subst (λ (k : ℕ). Took w (numbered n k a b K B) mid o m) (sym N.held) T)

    pub signal_taken : (v w : List ℕ) (ranged mid : Bool) {value : ℕ} {z : Bool} → Signal u v value → Skipped v w → z ≡ signal_ranged value → mid ≡ (ranged && z) → Took w (named n value a b K B) mid o m → Took u (due n a b K B) ranged o m
    unfolding work work_due part_ranged
    signal_taken v w ranged mid N S value-ranged within T =
        took_behind u w (signal_of N.number) (due n a b K B) ranged mid (λ ts. ending_rest _ _ (signal_of N.number) ts N.there ∙ S.goes_on (signal_of N.number) ts) (skipped_shorter u (ending_shorter u v (signal_of N.number) N.there) S)
        (within ∙ signal_ranged_lem ranged N.number N.held value-ranged) S.solid o m (subst (λ (k : ℕ). Took w (named n k a b K B) mid o m) (sym N.held) T)

  -- ---- A pause
  module _ (last : last_of u ≡ 101) where
    pub no_colon : ((v : List ℕ) → u ≡ v ++ colon_pause → ⊥) → Doomed u (due n a b K B)
    no_colon f = no_pause u n a b K B last (λ w m E. f (w ++ digits m) (ending_pause u w m E).0)

    module _ (v : List ℕ) (colon : u ≡ v ++ colon_pause) where
      label_of : (w : List ℕ) (m : ℕ) → Ending u w (pause_at m) → Ending v w (number m)
      label_of w m E = let P = ending_pause u w m E in subst (λ (x : List ℕ). Ending x w (number m)) (same_front (w ++ digits m) v colon_pause (sym P.0 ∙ colon)) P.1

      pub no_label : Numbers v None → Doomed u (due n a b K B)
      no_label N = no_pause u n a b K B last (λ w m E. ending_none v w m (label_of w m E) N)

      module _ (w : List ℕ) {value : ℕ} (N : Number v w value) where
        pub label_touched : is_letter (last_of w) ≡ true → Doomed u (due n a b K B)
        label_touched l = no_pause u n a b K B last (λ x m E. clash l (ending_number v w x m (label_of x m E) N).2)

        pub pause_taken : is_letter (last_of w) ≡ false → {ranged z : Bool} → z ≡ label_ranged value → {r s : Reader} {m : Room} → r.ranged ≡ (ranged && z) → Moved r s m (single n a b K (put_on (node_of 1 value) B))
            → Goes u w (due n a b K B) ranged s m
        unfolding work_all work work_due all_ranged part_ranged
        pause_taken clear {ranged} value-ranged {r} {s} {m} within moved =
            let E = pause_ending colon N clear in
            took u w (due n a b K B) (pause_at N.number) [] (λ ts. ending_rest _ _ (pause_at N.number) ts E)
            (within ∙ pause_ranged ranged N.number N.held value-ranged ∙ ap (λ (z : Bool). z && ranged) (sym (and-true (label_ranged N.number))))
            (ending_shorter u w (pause_at N.number) E) (subst (λ (k : ℕ). Moved r s m (single n a b K (put_on (node_of 1 k) B))) (sym N.held) moved)
