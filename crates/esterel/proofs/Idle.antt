-- A statement none of whose pauses is in R: it is not resumed, and where it is trimmed with the flag 0 nothing is left of it.
-- So a part that can end is never dropped, and a resumed present needs no look at its first branch.
use mathlib.Core.Path.{◌≡◌, refl, ap, ap₂, ◌∙◌}
use mathlib.Core.Bool.{true, false, cond}
use Prim.Native.Nat.{ℕ}
use Rattle.sets.specs.Set.{has, Apart}
use Rattle.sets.proofs.Booleans.{clash, not_true}
use Rattle.sets.proofs.Members.{has_empty, has_only, apart_union⁻}
use Rattle.esterel.specs.Statement.{Statement, nothing, pause, gotopause, emit, exit, signal, present, sequence, parallel, loop, try, pauses}
use Rattle.esterel.specs.Codes.{Codes, none, just_ended, join, minus_zero, through_try, s, d}
use Rattle.esterel.specs.Trimming.{is_nothing, join_parts, names, ends_at, shift_exits, can_end, trim_loop, trim_signal, trim_present, trim_try, trim}
use Rattle.esterel.proofs.Codes.{join_none, none_through}
use Rattle.esterel.proofs.Trimming.{is_nothing_lem, kept_pauses}

pub idle : (R : ℕ) (p : Statement) → Apart R (pauses p) → (trim R false p ≡ nothing) × (d R p ≡ none)
unfolding trim d pauses can_end trim_signal trim_present trim_loop trim_try join_parts is_nothing names ends_at shift_exits none
idle R nothing z = (refl, refl)
idle R (pause l) z =
    let h : has R l ≡ false = not_true (has R l) (λ k. clash (has_only l) (z l k)) in
    (ap (λ b. cond b (pause l) nothing) h, ap (λ b. cond b just_ended none) h)
idle R (gotopause l) z = (refl, refl)
idle R (emit S) z = (refl, refl)
idle R (exit e) z = (refl, refl)
idle R (signal S p) z = let (e, f) = idle R p z in (ap (trim_signal S) e, f)
idle R (present S p q) z =
    let (x, y) = apart_union⁻ R (pauses p) (pauses q) z in
    let (e, f) = idle R p x in
    let (g, h) = idle R q y in
    (ap₂ (trim_present (can_end R false p)) e g, ap₂ join f h ∙ join_none none)
idle R (sequence p q) z =
    let (x, y) = apart_union⁻ R (pauses p) (pauses q) z in
    let (e, f) = idle R p x in
    let (g, h) = idle R q y in
    (ap₂ (λ (K : Codes) t. join_parts sequence t (trim R K.ends q)) f e ∙ g, ap₂ (λ (K K' : Codes). cond K.ends (join (join (minus_zero K) (s q)) K') (join K K')) f h ∙ join_none none)
idle R (parallel p q) z =
    let (x, y) = apart_union⁻ R (pauses p) (pauses q) z in
    let (e, f) = idle R p x in
    let (g, h) = idle R q y in
    (ap₂ (join_parts parallel) e g, ap₂ join f h ∙ join_none none)
idle R (loop p) z =
    let (e, f) = idle R p z in
    (ap (λ (K : Codes). trim_loop K.ends false (λ c. trim R c p)) f ∙ e, ap (λ (K : Codes). cond K.ends (minus_zero (join K (s p))) K) f)
idle R (try p) z = let (e, f) = idle R p z in (ap trim_try e, ap through_try f ∙ none_through)

-- what is trimmed to nothing has no pause in R, so it cannot end
pub ending_something : (R : ℕ) (p : Statement) → can_end R false p ≡ true → is_nothing (trim R false p) ≡ false
unfolding can_end none pauses
ending_something R p h = not_true (is_nothing (trim R false p)) (λ e. clash h (ap (λ (K : Codes). K.ends) (idle R p (no_pause e)).1))
  where
    no_pause : is_nothing (trim R false p) ≡ true → Apart R (pauses p)
    no_pause e l k =
        not_true (has (pauses p) l) (λ m. clash ((kept_pauses R p false).1 l k m) (ap (λ (t : Statement). has (pauses t) l) (is_nothing_lem (trim R false p) e) ∙ has_empty l))
