-- Looking for steps with signals unknown: one list of rows says what there is of steps under all sets that agree with A outside U, and
-- what was found with a signal of U present and with it absent is put together. With all unknown that may be, it is the answer.
use mathlib.Core.Path.{◌≡◌, refl, sym, ap, ◌∙◌, subst}
use mathlib.Core.Logic.{◌≢◌, ◌⊎◌, inl, inr}
use mathlib.Core.Bool.{Bool, true, false, cond}
use mathlib.Core.List.{List, [], ◌∷◌}
use mathlib.Core.Option.{none, some, none-ne-some}
use Prim.Native.Nat.{ℕ}
use native.Mathlib.Decide.{ℕ_discrete}
use lib.Dec.{eqb}
use Rattle.sets.specs.Set.{has, only, ◌union◌, ◌minus◌, ◌without◌, Within}
use Rattle.sets.proofs.Booleans.{and_both, and_cases, not_true, clash, eqb_equal, eqb_same}
use Rattle.sets.proofs.Members.{has_minus_in, has_minus_out, has_only, has_without_other, ext, in_right}
use Rattle.esterel.specs.Statement.{Statement}
use Rattle.esterel.specs.Reactions.{State, Reaction}
use Rattle.esterel.specs.Runs.{Step}
use Rattle.esterel.specs.Listing.{Listed, listing}
use Rattle.esterel.specs.Listing as listing
use Rattle.esterel.specs.Stepping.{StepFrom, Answer, Says, emitted_free, signals, looked_at, combined, stepping, crowded_from}
use Rattle.esterel.specs.inner.Conditions.{seen, holds}
use Rattle.esterel.specs.inner.Rows.{Row, Agree}
use Rattle.esterel.specs.inner.CappedRows.{reactions_in, capped_rows}
use Rattle.esterel.specs.inner.Stepping.{StepAmong, row_assumed, row_steps, row_answer, rows_answer, Found, crowded, answer, Looked, over, within}
use Rattle.esterel.proofs.Conditions.{other, added}
use Rattle.esterel.proofs.Listing.{list_is_listing}
use Rattle.esterel.proofs.Needed.{some_in, some_out}
use Rattle.esterel.proofs.Unknown.{AreRows, of_members}
use Rattle.esterel.proofs.CappedRows.{capped_rows_are, capped_rows_quiet, capped_rows_exact}
use Rattle.esterel.proofs.Stepping.{FreeSignals, From, says_as, says_combined, says_if, same_step, answer_unique, made_agree, step_agrees, stepping_is}

-- ---- agreement outside U as a test

agree_test : (U A E : ℕ) → Agree U A E → eqb (E minus U) (A minus U) ≡ true
agree_test U A E a = subst (λ (z : ℕ). eqb z (A minus U) ≡ true) (ext (A minus U) (E minus U) (λ S. go S (has U S) refl)) (eqb_same (A minus U))
  where
    go : (S : ℕ) (b : Bool) → has U S ≡ b → has (A minus U) S ≡ has (E minus U) S
    go S true u = has_minus_in A U S u ∙ sym (has_minus_in E U S u)
    go S false u = has_minus_out A U S u ∙ a S u ∙ sym (has_minus_out E U S u)

test_agree : (U A E : ℕ) → eqb (E minus U) (A minus U) ≡ true → Agree U A E
test_agree U A E h S u =
    sym (has_minus_out A U S u) ∙ ap (λ (z : ℕ). has z S) (sym (eqb_equal (E minus U) (A minus U) h)) ∙ has_minus_out E U S u

-- ---- with s present, and with s absent

agree_present : (U A E s : ℕ) → has U s ≡ true → Agree (U without s) (A union only s) E → Agree U A E
agree_present U A E s u a S n = added s A S d ∙ a S (has_without_other U s S d ∙ n)
  where
    d : s ≢ S
    d e = clash (subst (λ (z : ℕ). has U z ≡ true) e u) n

agree_absent : (U A E s : ℕ) → Agree (U without s) A E → Agree U A E
agree_absent U A E s a S n = a S (not_true (has (U without s) S) (λ h. clash (other U s S h).1 n))

present_agree : (U A E s : ℕ) → has E s ≡ true → Agree U A E → Agree (U without s) (A union only s) E
present_agree U A E s e a S n = go (ℕ_discrete s S)
  where
    go : Dec (s ≡ S) → has (A union only s) S ≡ has E S
    go (yes d) = subst (λ (z : ℕ). has (A union only s) z ≡ has E z) d (in_right A (only s) s (has_only s) ∙ sym e)
    go (no d) = sym (added s A S d) ∙ a S (sym (has_without_other U s S d) ∙ n)

absent_agree : (U A E s : ℕ) → has A s ≡ false → has E s ≡ false → Agree U A E → Agree (U without s) A E
absent_agree U A E s h e a S n = go (ℕ_discrete s S)
  where
    go : Dec (s ≡ S) → has A S ≡ has E S
    go (yes d) = subst (λ (z : ℕ). has A z ≡ has E z) d (h ∙ sym e)
    go (no d) = a S (sym (has_without_other U s S d) ∙ n)

module _ {p : Statement} {x : State} {I A U : ℕ} (s : ℕ) where
  pub looked_present : has U s ≡ true → Looked p x I (A union only s) (U without s) crowded → Looked p x I A U crowded
  looked_present u (over E a c) = over E (agree_present U A E s u a) c

  pub looked_absent : Looked p x I A (U without s) crowded → Looked p x I A U crowded
  looked_absent (over E a c) = over E (agree_absent U A E s a) c

  -- every set that agrees with A has s or has it not
  pub looked_split : {a b : Answer} → has U s ≡ true → has A s ≡ false
      → Looked p x I (A union only s) (U without s) (answer a) → Looked p x I A (U without s) (answer b) → Looked p x I A U (answer (combined a b))
  looked_split u n (within a h q) (within b k r) =
      within (combined a b) (says_as (combined a b) (λ t. (together t, λ m. apart t m (has t.assumed s) refl))
      (says_combined I (λ t m. m.from.joined) (λ t m. m.from.joined) a b h k)) (λ E m. quiet E m (has E s) refl)
    where
      With : Step → Type 0
      With = StepAmong p x I (A union only s) (U without s)

      Without : Step → Type 0
      Without = StepAmong p x I A (U without s)

      together : (t : Step) → With t ⊎ Without t → StepAmong p x I A U t
      together t (inl m) = record { from = m.from; agrees = agree_present U A t.assumed s u m.agrees }
      together t (inr m) = record { from = m.from; agrees = agree_absent U A t.assumed s m.agrees }

      apart : (t : Step) → StepAmong p x I A U t → (z : Bool) → has t.assumed s ≡ z → With t ⊎ Without t
      apart t m true e = inl (record { from = m.from; agrees = present_agree U A t.assumed s e m.agrees })
      apart t m false e = inr (record { from = m.from; agrees = absent_agree U A t.assumed s n e m.agrees })

      quiet : (E : ℕ) → Agree U A E → (z : Bool) → has E s ≡ z → listing.crowded p x E ≡ false
      quiet E m true e = q E (present_agree U A E s e m)
      quiet E m false e = r E (absent_agree U A E s n e m)

-- ---- one list of rows

-- the step that a row is
abbrev row_step : ℕ → Row → Step
row_step I w = record { assumed = row_assumed I w; reaction = w.reacts }

-- a step that a row of ws is
abbrev OfRow : ℕ → ℕ → ℕ → ℕ → List Row → Step → Type 0
OfRow M I A U ws t = (w : Row) × Listed w ws × (row_steps M I A U w ≡ true) × (t ≡ row_step I w)

of_row_from : (M I A U : ℕ) (ws : List Row) → From I (OfRow M I A U ws)
of_row_from M I A U ws t (w, m, h, e) = subst (λ (u : Step). u.assumed ≡ I union u.reaction.emitted) (sym e) refl

rows_says : (M I A U : ℕ) (ws : List Row) → Says (rows_answer M I A U ws) (OfRow M I A U ws)
unfolding rows_answer row_answer Says
rows_says M I A U [] = λ t h. h.1
rows_says M I A U (w ∷ ws) =
    says_as (combined (row_answer M I A U w) (rows_answer M I A U ws)) (λ t. (together t, apart t))
    (says_combined I (λ t h. of_row_from M I A U (w ∷ ws) t (w, inl refl, h.0, h.1)) (of_row_from M I A U ws) (row_answer M I A U w) (rows_answer M I A U ws)
    (says_if (row_steps M I A U w) (row_step I w)) (rows_says M I A U ws))
  where
    Here : Step → Type 0
    Here t = (row_steps M I A U w ≡ true) × (t ≡ row_step I w)

    together : (t : Step) → Here t ⊎ OfRow M I A U ws t → OfRow M I A U (w ∷ ws) t
    together t (inl (h, e)) = (w, inl refl, h, e)
    together t (inr (v, m, h, e)) = (v, inr m, h, e)

    apart : (t : Step) → OfRow M I A U (w ∷ ws) t → Here t ⊎ OfRow M I A U ws t
    apart t (v, inl i, h, e) = inl (subst (λ (z : Row). row_steps M I A U z ≡ true) i h, e ∙ ap (row_step I) i)
    apart t (v, inr m, h, e) = inr (v, m, h, e)

pub looked_rows : (M : ℕ) (p : Statement) (x : State) (I A U : ℕ) (ws : List Row) → Within U M → capped_rows M p x A U ≡ some ws
    → Looked p x I A U (answer (rows_answer M I A U ws))
unfolding row_steps
looked_rows M p x I A U ws v c =
    within (rows_answer M I A U ws) (says_as (rows_answer M I A U ws) (λ t. (among t, row t)) (rows_says M I A U ws)) (capped_rows_quiet M p x A U ws v c)
  where
    r : AreRows M p x A U ws
    r = capped_rows_are M p x A U ws v c

    among : (t : Step) → OfRow M I A U ws t → StepAmong p x I A U t
    among t (w, m, h, e) =
        let (a, k) = and_cases (eqb (row_assumed I w minus U) (A minus U)) (holds w.when (seen M (row_assumed I w))) h in
        let g = test_agree U A (row_assumed I w) a in
        subst (StepAmong p x I A U) (sym e) (record {
          from = record {
            joined = refl;
            reacts = ((list_is_listing p x (row_assumed I w)).members w.reacts).0 ((of_members r (row_assumed I w) g w.reacts).0 (w, m, record { held = k; same = refl }));
          };
          agrees = g;
        })

    row : (t : Step) → StepAmong p x I A U t → OfRow M I A U ws t
    row t h =
        let (w, m, g) = (of_members r t.assumed h.agrees t.reaction).1 (((list_is_listing p x t.assumed).members t.reaction).1 h.from.reacts) in
        let e : t.assumed ≡ row_assumed I w = h.from.joined ∙ ap (λ (u : Reaction). I union u.emitted) (sym g.same) in (
          w,
          m,
          and_both (eqb (row_assumed I w minus U) (A minus U)) (holds w.when (seen M (row_assumed I w)))
              (subst (λ (z : ℕ). eqb (z minus U) (A minus U) ≡ true) e (agree_test U A t.assumed h.agrees))
              (subst (λ (z : ℕ). holds w.when (seen M z) ≡ true) e g.held),
          same_step t (row_step I w) e (sym g.same),
        )

-- with no signal unknown, giving up is refusal 15
pub looked_over : (M : ℕ) (p : Statement) (x : State) (I A : ℕ) → capped_rows M p x A 0 ≡ none → Looked p x I A 0 crowded
unfolding reactions_in
looked_over M p x I A c = over A (λ S h. refl) (go (listing.crowded p x A) refl)
  where
    go : (b : Bool) → listing.crowded p x A ≡ b → listing.crowded p x A ≡ true
    go true e = e
    go false e =
        absurd (none-ne-some (listing p x A) (sym (ap reactions_in c) ∙ capped_rows_exact M p x A ∙ ap (λ z. cond z none (some (listing p x A))) e))

-- ---- the whole

pub looked_whole : (p : Statement) (x : State) (I : ℕ) (v : Found) → FreeSignals p → Looked p x I I (emitted_free p minus I) v
    → v ≡ cond (crowded_from p x I) crowded (answer (stepping p x I))
unfolding crowded_from looked_at
looked_whole p x I v f (over E a c) =
    ap (λ z. cond z crowded (answer (stepping p x I))) (sym (some_in (listing.crowded p x) E (looked_at p I) ((made_agree signals I (emitted_free p) E f).1 a) c))
looked_whole p x I v f (within a h q) =
    ap answer (answer_unique (StepFrom p x I) a (stepping p x I) (says_as a (λ t. (λ m. m.from, λ m. record { from = m; agrees = step_agrees p x I t m })) h) (stepping_is p x I f))
    ∙ ap (λ z. cond z crowded (answer (stepping p x I))) (sym quiet)
  where
    quiet : crowded_from p x I ≡ false
    quiet = not_true (crowded_from p x I) (λ e. let (E, m, c) = some_out (listing.crowded p x) (looked_at p I) e in clash c (q E ((made_agree signals I (emitted_free p) E f).0 m)))
