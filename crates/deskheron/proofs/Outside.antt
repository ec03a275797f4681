-- The states of the third demand and of that of step are those of runs, and have to be: in a state that no run comes to, trimming
-- may show. The pause of `loop nothing end ; 1:pause` is never reached, so it is trimmed away; resumed from {1} the whole program
-- ends, which is its one step.
use mathlib.Core.Path.{◌≡◌, refl, ap, ◌∙◌}
use mathlib.Core.List.{List, [], ◌∷◌}
use Prim.Native.Nat.{ℕ, zero, suc}
use Rattle.sets.specs.Set.{has, only, ◌union◌, ◌intersect◌, ◌minus◌}
use Rattle.sets.proofs.Members.{has_empty}
use Rattle.esterel.specs.Statement.{Statement, nothing, pause, sequence, loop, pauses, pause_count}
use Rattle.esterel.specs.Codes.{code_of, through, labels, none, just_ended, just_at, just_code, join, minus_zero, through_try, has_low, not_below, no_lower_than, maximum, s, d}
use Rattle.esterel.specs.Reachability.{next_r, reach_from, reach}
use Rattle.esterel.specs.Trimming.{is_nothing, join_parts, names, ends_at, shift_level, shift_exits, can_end, trim_loop, trim_signal, trim_present, trim_try, trim, trimmed}
use Rattle.esterel.specs.Reactions.{State, resumed, Reaction, reached_together}
use Rattle.esterel.specs.Listing.{reaction, before, insert, sorted, each, hide, follow, pair, together, going, caught, list, listing}
use Rattle.esterel.specs.Stepping.{Answer, emitted_free, made_of, signals, looked_at, combined, answer_under, answer_among, stepping}

pub unreached : Statement
unreached = sequence (loop nothing) (pause 1)

pub ends_outside : listing unreached (resumed (only 1)) 0 ≡ reaction 0 0 0 ∷ []
unfolding unreached listing list before insert sorted each hide follow pair together going caught has only ◌union◌ ◌intersect◌ ◌minus◌ through reached_together pauses
ends_outside = refl

trimmed_unreached : trimmed unreached ≡ loop nothing
unfolding unreached has only ◌union◌ ◌intersect◌ ◌minus◌ pauses pause_count code_of through labels none just_ended just_at just_code join minus_zero through_try has_low
    not_below no_lower_than maximum s d next_r reach_from reach is_nothing join_parts names ends_at shift_level shift_exits can_end trim_loop trim_signal trim_present trim_try
    trim trimmed
trimmed_unreached = refl

pub trimmed_outside : listing (trimmed unreached) (resumed (only 1)) 0 ≡ []
unfolding listing list insert sorted each follow going
trimmed_outside = ap (λ (p : Statement). listing p (resumed (only 1)) 0) trimmed_unreached

-- where nothing is emitted outside a declaration, step looks under I alone
made_of_none : (n I : ℕ) → made_of n I 0 ≡ I ∷ []
unfolding made_of
made_of_none zero I = refl
made_of_none (suc S) I = rw (has_empty S) (made_of_none S I)

looks_once : (p : Statement) (x : State) (I : ℕ) → emitted_free p ≡ 0 → stepping p x I ≡ combined (answer_under I I (listing p x I)) Answer.none
unfolding stepping looked_at answer_among
looks_once p x I e = ap (λ (F : ℕ). answer_among p x I (made_of signals I F)) e ∙ ap (answer_among p x I) (made_of_none signals I)

-- so its answer is one for the program, and none for the trimmed
pub steps_outside : stepping unreached (resumed (only 1)) 0 ≡ Answer.one (record { assumed = 0; reaction = reaction 0 0 0 })
unfolding unreached emitted_free answer_under combined ◌union◌
steps_outside = looks_once unreached (resumed (only 1)) 0 refl ∙ ap (λ (ts : List Reaction). combined (answer_under 0 0 ts) Answer.none) ends_outside

pub trimmed_steps_outside : stepping (trimmed unreached) (resumed (only 1)) 0 ≡ Answer.none
unfolding emitted_free answer_under combined
trimmed_steps_outside =
    looks_once (trimmed unreached) (resumed (only 1)) 0 (ap emitted_free trimmed_unreached)
    ∙ ap (λ (ts : List Reaction). combined (answer_under 0 0 ts) Answer.none) trimmed_outside
