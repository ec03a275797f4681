-- An entry for C that returns 0 has accepted: the refusals of each operation lie where documents 01 and 02 put them, and none is 0.
use mathlib.Core.Path.{◌≡◌, ap}
use mathlib.Core.List.{List, [], ◌∷◌}
use Prim.Native.Nat.{ℕ}
use lib.ListN.{length}
use Rattle.table.specs.Outcomes.{Outcome, values, number_of}
use Rattle.table.specs.Reading.{check_of}
use Rattle.table.proofs.Refusals.{check_refusals, zero_accepted}
use Rattle.reach.specs.Answers.{reach_of}
use Rattle.reach.proofs.Answers.{reach_accepted}
use Rattle.trim.specs.Answers.{trim_of}
use Rattle.trim.proofs.Answers.{trim_accepted}
use Rattle.list.specs.Answers.{list_of, listing_outcome}
use Rattle.list.proofs.Refusals.{zero_listed}
use Rattle.step.specs.Answers.{step_of}
use Rattle.step.proofs.Refusals.{zero_stepped}
use Rattle.text.specs.Answers.{read_of, write_of}
use Rattle.text.proofs.Outcomes.{zero_read, zero_written}

-- 0 is returned for this outcome only where there are values
abbrev pub AcceptedByZero : Outcome → Type 0
AcceptedByZero v = number_of v ≡ 0 → (vs : List ℕ) × (v ≡ values vs)

pub record Entries (t : List ℕ) : Type 0 where
  pub check : AcceptedByZero (check_of t)
  pub reach : AcceptedByZero (reach_of t)
  pub trim : (room : ℕ) → AcceptedByZero (trim_of t room)
  pub list : (E mark X o k l : ℕ) → AcceptedByZero (listing_outcome (list_of t E mark X o k l))
  pub step : (I mark X : ℕ) → AcceptedByZero (step_of t I mark X)
  pub read_text_lem : (room : ℕ) → AcceptedByZero (read_of t room)
  pub write_text : (room : ℕ) → AcceptedByZero (write_of t room)

pub zero_accepts : (t : List ℕ) → Entries t
unfolding listing_outcome
zero_accepts t = record {
  check = zero_accepted (check_of t) (λ w e. (check_refusals t w e).0);
  reach = reach_accepted t;
  trim = trim_accepted t;
  list = λ E mark X o k l z. let (ts, e) = zero_listed t E mark X o k l z in (length ts ∷ [], ap listing_outcome e);
  step = zero_stepped t;
  read_text_lem = zero_read t;
  write_text = zero_written t;
}
