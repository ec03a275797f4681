-- The summary of the statement at a node, by the kind of the node, and what a pass has to see to before it goes to a child.
use mathlib.Core.Path.{◌≡◌, refl, sym, ap, ap₂, ◌∙◌, subst}
use mathlib.Core.Logic.{◌⊎◌}
use mathlib.Core.List.{List}
use Rattle.std.proofs.Common.{Result, Ok}
use Prim.Native.Nat.{ℕ, suc, ◌+◌, ◌-◌, ◌≤◌}
use native.Mathlib.Omega.{arith}
use lib.ListN.{length, get_or}
use Rattle.sets.specs.Set.{only, ◌union◌, Apart}
use Rattle.esterel.specs.Statement.{Statement, nothing, pause, gotopause, emit, exit, present, sequence, parallel, pauses, Valid}
use Rattle.esterel.specs.Codes.{Codes, code_of, just_ended, just_at, just_code, join, minus_zero, through_try, maximum, s, d}
use Rattle.table.specs.Kinds.{kinds, kind_of}
use Rattle.table.specs.Reading.{operand_of}
use Rattle.table.specs.inner.Places.{Placed, placed, place_two, place_kind, statement_at}
use Rattle.table.specs.declared.Refusal.{Refusal}
use Rattle.reach.specs.declared.summary.Summary.{Summary}
use Rattle.reach.specs.inner.Summaries.{Changed, LoweredEach, Follows, summary, beside, in_turn, Summable, Summarised, Found}
use Rattle.table.proofs.Places.{Node, placed_node, placed_none}
use Rattle.reach.proofs.Summing.{sum_none, sum_pause, sum_beside, sum_sequence, sum_signal, sum_loop, sum_try}

-- an answer that is no refusal
pub summarised_by : {p : Placed} {found : Summary} {kept kept' : List Codes} → Found p (Ok found) kept kept' → Summarised p found kept kept'
summarised_by {p} {found} {kept} {kept'} h = subst (λ (x : Summary). Summarised p x kept kept') (let same : h.found ≡ found = cc in same) h.summarised

pub not_refused : {p : Placed} {found : Summary} {kept kept' : List Codes} → Summarised p found kept kept' → Found p (Ok found) kept kept'
not_refused {p} {found} h = record { found = found; is = refl; summarised = h }

-- what was found of the statement that stands there
found_here : {x p : Placed} {found : Summary} {kept kept' : List Codes} → x ≡ p → Summarised p found kept kept' → Summarised x found kept kept'
found_here {x} {p} {found} {kept} {kept'} e h = subst (λ (y : Placed). Summarised y found kept kept') (sym e) h

-- ---- No node, and kinds without children
pub at_none : (left : ℕ) (nodes : List ℕ) (at : ℕ) (found : Summary) (kept : List Codes) → (left ≡ 0) ⊎ (length nodes ≤ at) → found ≡ summary just_ended 0 0 at
    → Summarised (statement_at left nodes at) found kept kept
unfolding s pauses
at_none left nodes at found kept h e = found_here (placed_none left nodes at h) (sum_none found kept nothing at refl refl e)

module _ {left : ℕ} {nodes : List ℕ} {at : ℕ} (found : Summary) (kept : List Codes) where
  pub at_nothing : Node left nodes at 0 → found ≡ summary just_ended 0 0 (at + 1) → Summarised (statement_at left nodes at) found kept kept
  unfolding kind_of kinds place_kind s pauses
  at_nothing n e = found_here (placed_node n) (sum_none found kept nothing (at + 1) refl refl e)

  pub at_gotopause : Node left nodes at 2 → found ≡ summary (just_at (operand_of (get_or nodes at 0))) 0 0 (at + 1) → Summarised (statement_at left nodes at) found kept kept
  unfolding kind_of kinds place_kind s pauses
  at_gotopause n e = found_here (placed_node n) (sum_none found kept (gotopause (operand_of (get_or nodes at 0))) (at + 1) refl refl e)

  pub at_emit : Node left nodes at 3 → found ≡ summary just_ended 0 0 (at + 1) → Summarised (statement_at left nodes at) found kept kept
  unfolding kind_of kinds place_kind s pauses
  at_emit n e = found_here (placed_node n) (sum_none found kept (emit (operand_of (get_or nodes at 0))) (at + 1) refl refl e)

  pub at_exit : Node left nodes at 4 → found ≡ summary (just_code (code_of (operand_of (get_or nodes at 0)))) 0 0 (at + 1) → Summarised (statement_at left nodes at) found kept kept
  unfolding kind_of kinds place_kind s pauses
  at_exit n e = found_here (placed_node n) (sum_none found kept (exit (operand_of (get_or nodes at 0))) (at + 1) refl refl e)

  pub at_pause : (kept' : List Codes) → Node left nodes at 1 → (o : ℕ) → o ≡ operand_of (get_or nodes at 0)
      → (found ≡ summary (just_at o) (only o) (only o) (at + 1)) × Changed (only o) (λ K. just_ended) kept kept'
      → Summarised (statement_at left nodes at) found kept kept'
  unfolding kind_of kinds place_kind
  at_pause kept' n o e h = found_here (placed_node n ∙ ap (λ (m : ℕ). placed (pause m) (at + 1)) (sym e)) (sum_pause found kept kept' o (at + 1) h)

-- ---- One child
module _ {left : ℕ} {nodes : List ℕ} {at : ℕ} (h : Summable left nodes at) where
  -- below it, in so many tries
  entered : (tries : ℕ) → Valid tries (statement_at (left - 1) nodes (at + 1)).statement → Summable (left - 1) nodes (at + 1)
  entered tries v = record { tries = tries; valid = v; known = h.known }

  -- no node is of a kind above 10
  pub never_unknown : (k : ℕ) → 11 ≤ k → Node left nodes at k → ⊥
  never_unknown k b n = omega (arith, h.known at, n.kind)

  -- an exit has a level from 1 on
  pub exit_level : Node left nodes at 4 → 1 ≤ operand_of (get_or nodes at 0)
  unfolding kind_of kinds place_kind Valid
  exit_level n = (subst (λ (x : Placed). Valid h.tries x.statement) (placed_node n) h.valid).0

  pub enter_signal : Node left nodes at 5 → Summable (left - 1) nodes (at + 1)
  unfolding kind_of kinds place_kind Valid
  enter_signal n = entered h.tries (subst (λ (x : Placed). Valid h.tries x.statement) (placed_node n) h.valid).1

  pub enter_loop : Node left nodes at 9 → Summable (left - 1) nodes (at + 1)
  unfolding kind_of kinds place_kind Valid
  enter_loop n = entered h.tries (subst (λ (x : Placed). Valid h.tries x.statement) (placed_node n) h.valid)

  pub enter_try : Node left nodes at 10 → Summable (left - 1) nodes (at + 1)
  unfolding kind_of kinds place_kind Valid
  enter_try n = entered (suc h.tries) (subst (λ (x : Placed). Valid h.tries x.statement) (placed_node n) h.valid)

pub as_signal : {left : ℕ} {nodes : List ℕ} {at : ℕ} {r : Result Summary Refusal} {kept one : List Codes} → Node left nodes at 5
    → Found (statement_at (left - 1) nodes (at + 1)) r kept one → Found (statement_at left nodes at) r kept one
unfolding kind_of kinds place_kind
as_signal {at = at} n h = record {
  found = h.found;
  is = h.is;
  summarised = found_here (placed_node n) (sum_signal h.summarised (operand_of (get_or _ at 0)));
}

module _ {left : ℕ} {nodes : List ℕ} {at : ℕ} {P : Summary} {kept one : List Codes} where
  pub at_loop : (found : Summary) (two : List Codes) → Node left nodes at 9 → Summarised (statement_at (left - 1) nodes (at + 1)) P kept one
      → (found ≡ summary (minus_zero P.start) P.pauses 0 P.next) × Follows P.ending (minus_zero P.start) one two
      → Summarised (statement_at left nodes at) found kept two
  unfolding kind_of kinds place_kind
  at_loop found two n h g = found_here (placed_node n) (sum_loop h found two g)

  pub at_try : (found : Summary) (two : List Codes) → Node left nodes at 10 → Summarised (statement_at (left - 1) nodes (at + 1)) P kept one
      → (found ≡ summary (through_try P.start) P.pauses found.ending P.next) × LoweredEach P.pauses one two found.ending
      → Summarised (statement_at left nodes at) found kept two
  unfolding kind_of kinds place_kind
  at_try found two n h g = found_here (placed_node n) (sum_try h found two g)

-- ---- Two children
pub record Splits (k : ℕ) (f : ℕ → Statement → Statement → Statement) : Type 0 where
  pub places : (o : ℕ) (child : ℕ → Placed) (at : ℕ) → place_kind (kind_of k) o child at ≡ place_two (f o) child (child at)
  pub parts : (tries o : ℕ) (p q : Statement) → Valid tries (f o p q) → Valid tries p × Valid tries q × Apart (pauses p) (pauses q)

pub present_splits : Splits 6 present
unfolding kind_of kinds place_kind Valid
present_splits = record { places = λ o child at. refl; parts = λ tries o p q v. (v.1, v.2, v.3) }

pub sequence_splits : Splits 7 (λ o. sequence)
unfolding kind_of kinds place_kind Valid
sequence_splits = record { places = λ o child at. refl; parts = λ tries o p q v. v }

pub parallel_splits : Splits 8 (λ o. parallel)
unfolding kind_of kinds place_kind Valid
parallel_splits = record { places = λ o child at. refl; parts = λ tries o p q v. v }

module _ {k : ℕ} {f : ℕ → Statement → Statement → Statement} (S : Splits k f) {left : ℕ} {nodes : List ℕ} {at : ℕ} (n : Node left nodes at k)
    (h : Summable left nodes at) where
  abbrev first : Placed
  first = statement_at (left - 1) nodes (at + 1)

  abbrev second : Placed
  second = statement_at (left - 1) nodes first.next

  here_two : statement_at left nodes at ≡ placed (f (operand_of (get_or nodes at 0)) first.statement second.statement) second.next
  here_two = placed_node n ∙ S.places (operand_of (get_or nodes at 0)) (statement_at (left - 1) nodes) (at + 1)

  held : Valid h.tries first.statement × Valid h.tries second.statement × Apart (pauses first.statement) (pauses second.statement)
  held = S.parts h.tries (operand_of (get_or nodes at 0)) first.statement second.statement (subst (λ (x : Placed). Valid h.tries x.statement) here_two h.valid)

  pub enter_first : Summable (left - 1) nodes (at + 1)
  enter_first = entered h h.tries held.0

  module _ {kept : List Codes} {P : Summary} {one : List Codes} (g : Summarised first P kept one) where
    pub enter_second : Summable (left - 1) nodes P.next
    enter_second = record {
      tries = h.tries;
      valid = subst (λ (m : ℕ). Valid h.tries (statement_at (left - 1) nodes m).statement) (sym g.next) held.1;
      known = h.known;
    }

    module _ {Q : Summary} {two : List Codes} (i : Summarised (statement_at (left - 1) nodes P.next) Q one two) where
      second_found : Summarised second Q one two
      second_found = subst (λ (m : ℕ). Summarised (statement_at (left - 1) nodes m) Q one two) g.next i

      pub at_beside : (found : Summary) {K : Codes} → s (f (operand_of (get_or nodes at 0)) first.statement second.statement) ≡ K
          → ((l : ℕ) → d (only l) (f (operand_of (get_or nodes at 0)) first.statement second.statement) ≡ join (d (only l) first.statement) (d (only l) second.statement))
          → pauses (f (operand_of (get_or nodes at 0)) first.statement second.statement) ≡ pauses first.statement union pauses second.statement
          → found ≡ summary K (P.pauses union Q.pauses) (P.ending union Q.ending) Q.next
          → Summarised (statement_at left nodes at) found kept two
      at_beside found k c p e = found_here here_two (sum_beside g second_found held.2 found (f (operand_of (get_or nodes at 0))) k c p e)

module _ {left : ℕ} {nodes : List ℕ} {at : ℕ} {kept : List Codes} (h : Summable left nodes at) {P : Summary} {one : List Codes}
    (g : Summarised (statement_at (left - 1) nodes (at + 1)) P kept one) {Q : Summary} {two : List Codes} (i : Summarised (statement_at (left - 1) nodes P.next) Q one two)
    (found : Summary) where
  pub at_present : Node left nodes at 6 → found ≡ beside (join P.start Q.start) P Q → Summarised (statement_at left nodes at) found kept two
  unfolding beside s d pauses
  at_present n e = at_beside present_splits n h g i found (sym (ap₂ join g.start (second_found present_splits n h g i).start)) (λ l. refl) refl e

  pub at_parallel : Node left nodes at 8 → found ≡ beside (maximum P.start Q.start) P Q → Summarised (statement_at left nodes at) found kept two
  unfolding beside s d pauses
  at_parallel n e = at_beside parallel_splits n h g i found (sym (ap₂ maximum g.start (second_found parallel_splits n h g i).start)) (λ l. refl) refl e

  pub at_sequence : (three : List Codes) → Node left nodes at 7
      → (found ≡ in_turn P Q) × Follows P.ending Q.start two three
      → Summarised (statement_at left nodes at) found kept three
  at_sequence three n c = found_here (here_two sequence_splits n h) (sum_sequence g (second_found sequence_splits n h g i) (held sequence_splits n h).2 found three c)
