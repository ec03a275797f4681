-- Figure 7 as published is wrong: it takes a try away, with the exits that end there, before it trims the body. At case G this
-- lets an emit run that stood behind such an exit, so a run of the statement is none of what it becomes.
use mathlib.Core.Path.{◌≡◌, refl, sym, ap, ◌∙◌, subst}
use mathlib.Core.Logic.{inr}
use mathlib.Core.Bool.{Bool, true, false, cond, ◌||◌}
use mathlib.Core.List.{List, [], ◌∷◌}
use Prim.Native.Nat.{ℕ, zero, suc, pred}
use native.Mathlib.Omega.{arith}
use lib.Dec.{eqb}
use Rattle.sets.specs.Set.{has, only, ◌union◌}
use Rattle.sets.proofs.Booleans.{or_left, clash}
use Rattle.sets.proofs.Members.{has_empty, has_union, has_only, union_empty}
use Rattle.esterel.specs.Statement.{Statement, nothing, pause, gotopause, emit, exit, signal, present, sequence, parallel, loop, try, pauses, pause_count, depth}
use Rattle.esterel.specs.Codes.{code_of, through, contains, above, none, just_ended, just_code, join, through_try, has_low, not_below, no_lower_than, maximum, s, d}
use Rattle.esterel.specs.Reachability.{next_r, reach_from, reach}
use Rattle.esterel.specs.Trimming.{is_nothing, join_parts, shift_level, can_end, trim_loop, trim_signal, trim_present}
use Rattle.esterel.specs.Reactions.{start, Derives, reached_together, Reacts}
use Rattle.esterel.specs.Reactions as rule
use Rattle.esterel.specs.Runs.{Step, RunFrom, Run}

-- the paper's ↘: "decrementing all exit levels .. greater than the number of enclosing try .. while replacing all exit
-- instructions targeting the removed construct by nothing"; the statement stands in c tries of the body
unfoldable pub without_try : ℕ → Statement → Statement
without_try c nothing = nothing
without_try c (pause l) = pause l
without_try c (gotopause l) = gotopause l
without_try c (emit S) = emit S
without_try c (exit e) = cond (eqb e (suc c)) nothing (exit (shift_level pred c e))
without_try c (signal S p) = signal S (without_try c p)
without_try c (present S p q) = present S (without_try c p) (without_try c q)
without_try c (sequence p q) = sequence (without_try c p) (without_try c q)
without_try c (parallel p q) = parallel (without_try c p) (without_try c q)
without_try c (loop p) = loop (without_try c p)
without_try c (try p) = try (without_try (suc c) p)

-- 2 is in C
unfoldable pub can_exit : ℕ → Bool → Statement → Bool
can_exit R true p = contains (join (d R p) (s p)) (above 0)
can_exit R false p = contains (d R p) (above 0)

-- trimming with the published rule for try and every other rule as in specs/Trimming. The rule trims ↘p in place of p, so the
-- first argument bounds the recursion; the depth suffices, since ↘ keeps it
unfoldable pub published : ℕ → ℕ → Bool → Statement → Statement
published zero R b p = p
published (suc n) R b nothing = nothing
published (suc n) R b (pause l) = cond (b || has R l) (pause l) nothing
published (suc n) R b (gotopause l) = cond b (gotopause l) nothing
published (suc n) R b (emit S) = cond b (emit S) nothing
published (suc n) R b (exit e) = cond b (exit e) nothing
published (suc n) R b (signal S p) = trim_signal S (published n R b p)
published (suc n) R true (present S p q) = present S (published n R true p) (published n R true q)
published (suc n) R false (present S p q) = trim_present (can_end R false p) (published n R false p) (published n R false q)
published (suc n) R b (sequence p q) = join_parts sequence (published n R b p) (published n R (can_end R b p) q)
published (suc n) R b (parallel p q) = join_parts parallel (published n R b p) (published n R b q)
published (suc n) R b (loop p) = trim_loop (can_end R b p) b (λ c. published n R c p)
published (suc n) R b (try p) = cond (can_exit R b p) (try (published n R b p)) (published n R b (without_try 0 p))

unfoldable pub published_trimmed : Statement → Statement
published_trimmed p = published (depth p) (reach p).set true p

-- ---- case G, with 1 for the signal B
abbrev pub case_g : Statement
case_g = try (try (parallel (sequence (exit 1) (emit 1)) (exit 2)))

published_G : published_trimmed case_g ≡ try (parallel (emit 1) (exit 1))
unfolding published_trimmed published without_try can_exit can_end reach reach_from next_r pause_count pauses depth join_parts is_nothing shift_level contains has only ◌union◌ join none just_ended just_code code_of through_try has_low not_below no_lower_than maximum s d
published_G = refl

-- one step from the start with B assumed: nothing is emitted, and the run has ended
abbrev silent : List Step
silent = record { assumed = only 1; reaction = record { emitted = 0; code = 0; reached = 0 } } ∷ []

G_silent : Run case_g silent
unfolding RunFrom Reacts through code_of reached_together
G_silent = (rule.try 2 (rule.try 3 (rule.par 0 2 0 0 3 0 left right (sym (union_empty 0)) refl refl) refl) refl, inr (not_one, refl))
  where
    not_zero : ◌≡◌ {A = ℕ} 2 0 → ⊥
    not_zero e = omega arith

    not_one : ◌≡◌ {A = ℕ} 0 1 → ⊥
    not_one e = omega arith

    left : Derives (sequence (exit 1) (emit 1)) start (only 1) 0 2 0
    left = rule.seq_left (rule.exit refl refl refl) not_zero

    right : Derives (exit 2) start (only 1) 0 3 0
    right = rule.exit refl refl refl

-- what the published rule makes of it emits B there
published_emits : {E O k L : ℕ} → Derives (try (parallel (emit 1) (exit 1))) start E O k L → has O 1 ≡ true
published_emits {O = O} (rule.try k₁ (rule.par O₁ k₂ L₁ O₂ k₃ L₂ (rule.emit u a b c) (rule.exit x y z) e f g) i) =
    ap (λ (o : ℕ). has o 1) (e ∙ ap (λ (o : ℕ). o union O₂) a) ∙ has_union (only 1) O₂ 1 ∙ or_left _ (has_only 1)

published_not_silent : Run (published_trimmed case_g) silent → ⊥
unfolding RunFrom Reacts
published_not_silent h = clash (published_emits (subst (λ p. Derives p start (only 1) 0 0 0) published_G h.0)) (has_empty 1)

-- the published rule does not keep the runs of case G
pub published_wrong : (ts : List Step) × Run case_g ts × (Run (published_trimmed case_g) ts → ⊥)
published_wrong = (silent, G_silent, published_not_silent)
