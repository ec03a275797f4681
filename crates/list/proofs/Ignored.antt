-- What of a label set list's answer ignores, refusals 14 to 16 included: the labels that are of no pause of the program, and at the
-- start all of them.
use mathlib.Core.Path.{◌≡◌, refl, sym, ap, ap₂, ◌∙◌}
use mathlib.Core.Bool.{Bool, cond}
use mathlib.Core.List.{List}
use Prim.Native.Nat.{ℕ, zero, suc}
use lib.Dec.{ltb}
use Rattle.sets.specs.Set.{◌intersect◌}
use Rattle.esterel.specs.Statement.{Statement, pauses}
use Rattle.esterel.specs.Reactions.{Reaction}
use Rattle.esterel.specs.Listing.{listing, nesting}
use Rattle.esterel.proofs.Ignored.{agree_intersect, list_agree, crowded_agree}
use Rattle.table.specs.Reading.{Table, table_of}
use Rattle.table.specs.Reading as table
use Rattle.list.specs.Answers.{state_of, refused, listed, list_for, list_in, fitted, list_of}

-- "label bits without a pause, bit 0 among them, are ignored in a state"
pub labels_ignored : (t : List ℕ) (n : ℕ) (p : Statement) → table_of t ≡ table.holds n p → (E mark X Y o k l : ℕ) → X intersect pauses p ≡ Y intersect pauses p
    → list_of t E mark X o k l ≡ list_of t E mark Y o k l
unfolding list_of list_in state_of list_for listing
labels_ignored t n p h E mark X Y o k l e =
    ap (fitted o k l) (ap (λ (T : Table). list_in T E mark X) h ∙ same mark ∙ sym (ap (λ (T : Table). list_in T E mark Y) h))
  where
    same : (m : ℕ) → list_for p (state_of m X) E ≡ list_for p (state_of m Y) E
    same zero = refl
    same (suc m) =
        let f = agree_intersect (pauses p) X Y e in
        ap₂ (λ (b : Bool) (ts : List Reaction). cond (ltb 12 (nesting p)) (refused 14) (cond b (refused 15) (listed ts))) (crowded_agree X Y p f E) (list_agree X Y p f E)

-- "0 the start, whose label set is then ignored"
pub start_ignores : (t : List ℕ) (E X Y o k l : ℕ) → list_of t E 0 X o k l ≡ list_of t E 0 Y o k l
unfolding list_of list_in state_of
start_ignores t E X Y o k l = ap (fitted o k l) (same (table_of t))
  where
    same : (T : Table) → list_in T E 0 X ≡ list_in T E 0 Y
    same (table.refused w) = refl
    same (table.holds n p) = refl
