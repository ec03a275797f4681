-- Small statements on which a likely misreading of trimming or of the rules gives another answer. Each fact is computed from
-- the definitions, and is made false by the edit of must-fail/ that stands in brackets.
use mathlib.Core.Path.{◌≡◌, refl}
use mathlib.Core.Bool.{true, false, false≢true}
use Prim.Native.Nat.{ℕ}
use Rattle.sets.specs.Set.{has, only, ◌union◌, ◌minus◌}
use Rattle.esterel.specs.Statement.{pause, emit, exit, signal, sequence, parallel, loop, try}
use Rattle.esterel.specs.Codes.{code_of, none, just_ended, just_at, just_code, join, minus_zero, through_try, has_low, not_below, no_lower_than, maximum, s, d}
use Rattle.esterel.specs.Trimming.{is_nothing, join_parts, ends_at, shift_level, shift_exits, can_end, trim_loop, trim_try, trim}
use Rattle.esterel.specs.Reactions.{start, Derives, reached_together}
use Rattle.esterel.specs.Reactions as rule

-- ---- trimming
-- case G: code 2 is not in C of the inner try, and still an exit that is left ends there, so it stays [try_by_code]
pub try_stays : trim 0 true (try (try (parallel (sequence (exit 1) (emit 1)) (exit 2)))) ≡ try (try (parallel (exit 1) (exit 2)))
unfolding trim is_nothing join_parts ends_at shift_level shift_exits can_end trim_loop trim_try s d code_of none just_ended just_at just_code join minus_zero through_try has_low not_below no_lower_than maximum has only ◌union◌
try_stays = refl

-- a pause that is started does not end, and resumed it does, so what follows it may be started [flag_from_start]
pub started_after_pause : trim (only 1) true (sequence (pause 1) (emit 0)) ≡ sequence (pause 1) (emit 0)
unfolding trim is_nothing join_parts ends_at shift_level shift_exits can_end trim_loop trim_try s d code_of none just_ended just_at just_code join minus_zero through_try has_low not_below no_lower_than maximum has only ◌union◌
started_after_pause = refl

-- nothing that ends precedes the pause, and still a jump may have reached it [jumped_to_dropped]
pub jumped_to_stays : trim (only 1) true (try (sequence (exit 1) (pause 1))) ≡ try (sequence (exit 1) (pause 1))
unfolding trim is_nothing join_parts ends_at shift_level shift_exits can_end trim_loop trim_try s d code_of none just_ended just_at just_code join minus_zero through_try has_low not_below no_lower_than maximum has only ◌union◌
jumped_to_stays = refl

-- a loop that is only resumed starts its body again [loop_with_flag]
pub loop_starts_again : trim (only 1) false (loop (sequence (emit 0) (pause 1))) ≡ loop (sequence (emit 0) (pause 1))
unfolding trim is_nothing join_parts ends_at shift_level shift_exits can_end trim_loop trim_try s d code_of none just_ended just_at just_code join minus_zero through_try has_low not_below no_lower_than maximum has only ◌union◌
loop_starts_again = refl

-- ---- reactions
-- an emit has no reaction where its signal is not assumed [emit_unassumed]
pub emit_needs_signal : {O k L : ℕ} → Derives (emit 0) start 0 O k L → ⊥
unfolding has only ◌union◌
emit_needs_signal (rule.emit h a b c) = false≢true h

-- the label that a pause reaches is lost where an exit beside it has the larger code [labels_kept]
pub labels_lost : Derives (parallel (pause 1) (exit 1)) start 0 0 2 0
unfolding code_of reached_together only ◌union◌
labels_lost = rule.par 0 1 (only 1) 0 2 0 (rule.pause refl refl refl) (rule.exit refl refl refl) refl refl refl

-- a local signal is not among the emitted [signal_shown]
pub signal_hidden : Derives (signal 0 (emit 0)) start 0 0 0 0
unfolding has only ◌union◌ ◌minus◌
signal_hidden = rule.signal+ (only 0) (rule.emit refl refl refl refl) refl refl
