-- What list's entry for C leaves, from what list delivers, by cases of its answer.
use mathlib.Core.Path.{◌≡◌, sym, ap, ◌∙◌}
use mathlib.Core.List.{List}
use Prim.Native.Nat.{ℕ}
use Rattle.table.specs.Outcomes.{Outcome, number_of_refusal, number_of, cell_after}
use Rattle.std.specs.Prelude.{Result, Ok, Err}
use Rattle.table.specs.declared.Refusal.{Refusal}
use Rattle.list.specs.Answers.{Listing, answer_outcome}
use Rattle.list.specs.Buffers.{DeliveredBytes}
use Rattle.deskheron.specs.Answers.{ListEntered}

module _ {v : Listing} {a : Result ℕ Refusal} {o o' k k' l l' : List ℕ} {count : ℕ} (given : DeliveredBytes v a o o' k k' l l') where
  -- the count's cell is left as it was
  pub refused_entered : {w : Refusal} {r : ℕ} → a ≡ Err w → r ≡ number_of_refusal w → ListEntered v r o o' k k' l l' count count
  unfolding number_of cell_after
  refused_entered h e = record {
    number = e ∙ ap number_of (ap answer_outcome (sym h) ∙ given.answer);
    signals = given.signals;
    codes = given.codes;
    labels = given.labels;
    counted = ap (λ (z : Outcome). cell_after z 0 count) (ap answer_outcome (sym h) ∙ given.answer);
  }

  pub listed_entered : {n : ℕ} → a ≡ Ok n → ListEntered v 0 o o' k k' l l' count n
  unfolding number_of cell_after
  listed_entered h = record {
    number = ap number_of (ap answer_outcome (sym h) ∙ given.answer);
    signals = given.signals;
    codes = given.codes;
    labels = given.labels;
    counted = ap (λ (z : Outcome). cell_after z 0 count) (ap answer_outcome (sym h) ∙ given.answer);
  }
