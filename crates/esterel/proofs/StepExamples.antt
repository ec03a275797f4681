-- Small programs whose answers are computed from the definitions.
use mathlib.Core.Path.{◌≡◌, refl, sym, ap, ◌∙◌, subst}
use mathlib.Core.Logic.{inl, inr}
use mathlib.Core.Bool.{true, false}
use mathlib.Core.List.{List, ◌++◌}
use Prim.Native.Nat.{ℕ, zero, suc, ◌≤◌, ◌<◌}
use native.Mathlib.Decide.{dec_le}
use native.Mathlib.Omega.{arith}
use lib.ListN.{length}
use Rattle.sets.specs.Set.{has, only, count, ◌union◌, ◌minus◌}
use Rattle.sets.proofs.Booleans.{clash, by_cond}
use Rattle.sets.proofs.Members.{has_empty, has_only_equal}
use Rattle.esterel.specs.Statement.{Statement, nothing, pause, emit, exit, signal, present, sequence, parallel, try, depth}
use Rattle.esterel.specs.Codes.{code_of, through}
use Rattle.esterel.specs.Reactions.{start, reached_together}
use Rattle.esterel.specs.Runs.{Step}
use Rattle.esterel.specs.Listing.{Listed, reaction, before, insert, sorted, each, hide, follow, pair, together, caught, list, listing, request, needs, some_ends, own, child, some, crowded_within, crowded}
use Rattle.esterel.specs.Stepping.{one, none, several, emitted_free, made_of, looked_at, same, combined, answer_under, answer_among, stepping, many_free, crowded_from}
use Rattle.esterel.proofs.Needed.{some_in, crowded_iff}

-- ---- the sets that are looked at, where no signal of n or above is emitted
made_below : (n m I F : ℕ) → n ≤ m → ((S : ℕ) → has F S ≡ true → S < n) → made_of m I F ≡ made_of n I F
unfolding made_of
made_below n zero I F l b = let e : zero ≡ n = omega arith in ap (λ (z : ℕ). made_of z I F) e
made_below n (suc m) I F l b = go (dec_le n m) (λ k. made_below n m I F k b)
  where
    go : Dec (n ≤ m) → (n ≤ m → made_of m I F ≡ made_of n I F) → made_of (suc m) I F ≡ made_of n I F
    go (yes k) ih =
        by_cond (λ l. l ≡ made_of n I F) (has F m) (made_of m (I union only m) F ++ made_of m I F) (made_of m I F)
        (λ h. absurd (let i = b m h in omega arith)) (λ h. ih k)
    go (no k) ih = let e : suc m ≡ n = omega arith in ap (λ (z : ℕ). made_of z I F) e

-- where the signal 0 is the only one
looked_one : (p : Statement) (I : ℕ) → emitted_free p ≡ only 0 → looked_at p I ≡ made_of 1 I (only 0)
unfolding looked_at
looked_one p I e = ap (made_of 32 I) e ∙ made_below 1 32 I (only 0) (omega arith) (λ S h. let d : 0 ≡ S = has_only_equal 0 S h in omega arith)

-- and where there is none
looked_none : (p : Statement) (I : ℕ) → emitted_free p ≡ 0 → looked_at p I ≡ made_of 0 I 0
unfolding looked_at
looked_none p I e = ap (made_of 32 I) e ∙ made_below 0 32 I 0 (omega arith) (λ S h. clash h (has_empty S))

-- the answer, where the sets that are looked at are known
answer_over : (p : Statement) (I : ℕ) (Es : List ℕ) → looked_at p I ≡ Es → stepping p start I ≡ answer_among p start I Es
unfolding stepping
answer_over p I Es e = ap (answer_among p start I) e

-- ---- answers

-- the step under E with the reaction (O, k, {})
abbrev step : ℕ → ℕ → ℕ → Step
step E O k = record { assumed = E; reaction = reaction O k 0 }

-- what is emitted need not be provided, and may be
pub emitted : stepping (emit 0) start 0 ≡ one (step (only 0) (only 0) 0)
unfolding answer_among answer_under combined same made_of emitted_free listing list has only ◌union◌ ◌minus◌
emitted = answer_over (emit 0) 0 (made_of 1 0 (only 0)) (looked_one (emit 0) 0 refl)

pub provided : stepping (emit 0) start (only 0) ≡ one (step (only 0) (only 0) 0)
unfolding answer_among answer_under combined same made_of emitted_free listing list has only ◌union◌ ◌minus◌
provided = answer_over (emit 0) (only 0) (made_of 1 (only 0) (only 0)) (looked_one (emit 0) (only 0) refl)

-- emitted where it is present: with it and without it, unless it is provided
pub causes_itself : stepping (present 0 (emit 0) nothing) start 0 ≡ several
unfolding answer_among answer_under combined same made_of emitted_free listing list has only ◌union◌ ◌minus◌
causes_itself = answer_over (present 0 (emit 0) nothing) 0 (made_of 1 0 (only 0)) (looked_one (present 0 (emit 0) nothing) 0 refl)

pub caused : stepping (present 0 (emit 0) nothing) start (only 0) ≡ one (step (only 0) (only 0) 0)
unfolding answer_among answer_under combined same made_of emitted_free listing list has only ◌union◌ ◌minus◌
caused = answer_over (present 0 (emit 0) nothing) (only 0) (made_of 1 (only 0) (only 0)) (looked_one (present 0 (emit 0) nothing) (only 0) refl)

-- emitted where it is absent: neither with it nor without it, unless it is provided
pub prevents_itself : stepping (present 0 nothing (emit 0)) start 0 ≡ none
unfolding answer_among answer_under combined same made_of emitted_free listing list has only ◌union◌ ◌minus◌
prevents_itself = answer_over (present 0 nothing (emit 0)) 0 (made_of 1 0 (only 0)) (looked_one (present 0 nothing (emit 0)) 0 refl)

pub prevented : stepping (present 0 nothing (emit 0)) start (only 0) ≡ one (step (only 0) 0 0)
unfolding answer_among answer_under combined same made_of emitted_free listing list has only ◌union◌ ◌minus◌
prevented = answer_over (present 0 nothing (emit 0)) (only 0) (made_of 1 (only 0) (only 0)) (looked_one (present 0 nothing (emit 0)) (only 0) refl)

-- a reaction that two derivations give is one
pub derived_twice : stepping (signal 0 (present 0 (emit 0) nothing)) start 0 ≡ one (step 0 0 0)
unfolding answer_among answer_under combined same made_of emitted_free listing list sorted insert before each hide has only ◌union◌ ◌minus◌
derived_twice = answer_over (signal 0 (present 0 (emit 0) nothing)) 0 (made_of 0 0 0) (looked_none (signal 0 (present 0 (emit 0) nothing)) 0 refl)

-- ---- signals emitted outside a declaration of them

-- one emit of 0 stands outside
pub declared_elsewhere : emitted_free (parallel (emit 0) (signal 0 (emit 0))) ≡ only 0
unfolding emitted_free only ◌union◌ ◌minus◌
declared_elsewhere = refl

-- emits of the signals below n
unfoldable pub emits : ℕ → Statement
emits zero = nothing
emits (suc n) = parallel (emit n) (emits n)

-- ten are few, and eleven are many
pub ten_few : many_free (emits 10) ≡ false
unfolding emits many_free emitted_free count has only ◌union◌
ten_few = refl

pub eleven_many : many_free (emits 11) ≡ true
unfolding emits many_free emitted_free count has only ◌union◌
eleven_many = refl

-- a declared one does not count
pub declared_not : many_free (signal 0 (emits 11)) ≡ false
unfolding emits many_free emitted_free count has only ◌union◌ ◌minus◌
declared_not = refl

-- ---- refusal 15 is due under a set that has no step, though there is a step under another

-- two reactions: with the local signal 1 and a label reached, and without it
unfoldable pub choice : ℕ → Statement
choice l = signal 1 (present 1 (sequence (emit 1) (pause l)) nothing)

-- so seven of them side by side have 128
unfoldable pub choices : Statement
choices = parallel (choice 1) (parallel (choice 2) (parallel (choice 3) (parallel (choice 4) (parallel (choice 5) (parallel (choice 6) (choice 7))))))

-- 0 is tested, and the only emit of it is never reached
unfoldable pub unreached : Statement
unreached = parallel (try (sequence (exit 1) (emit 0))) (present 0 choices nothing)

many_listed : length (list choices start (only 0)) ≡ 128
unfolding choice choices list sorted insert before each hide follow together pair reached_together has only ◌union◌ ◌minus◌
many_listed = refl

pub due_elsewhere : crowded_from unreached start 0 ≡ true
unfolding crowded_from made_of emitted_free unreached choices choice needs has only ◌union◌ ◌minus◌
due_elsewhere =
    some_in (crowded unreached start) (only 0) (looked_at unreached 0) (subst (Listed (only 0)) (sym (looked_one unreached 0 refl)) (inl refl))
    ((crowded_iff unreached start (only 0)).1 (child (request (present 0 choices nothing) start (only 0)) (inr (inl refl))
    (child (request choices start (only 0)) (inl refl) (own (let e = many_listed in omega arith)))))

-- it is not due under the provided set itself
pub not_due_there : crowded unreached start 0 ≡ false
unfolding unreached crowded crowded_within needs some_ends some list sorted insert before each follow together caught pair reached_together code_of depth choices choice has only ◌union◌ ◌minus◌
not_due_there = refl

pub though_one : stepping unreached start 0 ≡ one (step 0 0 0)
unfolding answer_among answer_under combined same made_of emitted_free listing list sorted insert before each hide follow together caught pair reached_together code_of through unreached choices choice has only ◌union◌ ◌minus◌
though_one = answer_over unreached 0 (made_of 1 0 (only 0)) (looked_one unreached 0 refl)
