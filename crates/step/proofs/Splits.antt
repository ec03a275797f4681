-- Looking with signals unknown: in one list of rows, or with one of them present and with it absent.
use mathlib.Core.Path.{◌≡◌, refl, sym, ap, ap₂, ◌∙◌, subst}
use mathlib.Core.Bool.{true}
use mathlib.Core.List.{List}
use mathlib.Core.Option.{none as no_rows}
use Rattle.std.specs.Prelude.{Result, Ok, Err}
use Prim.Native.Nat.{ℕ, ◌≤◌, ◌<◌}
use native.Mathlib.Omega.{arith}
use lib.ListN.{take}
use Rattle.sets.specs.Set.{has, only, ◌union◌, ◌without◌, Within, Apart, count}
use Rattle.sets.proofs.Members.{has_only_other, apart_union}
use Rattle.sets.proofs.Counts.{count_without, count_empty}
use Rattle.esterel.specs.Statement.{Statement}
use Rattle.esterel.specs.Reactions.{State}
use Rattle.esterel.specs.Stepping.{Answer, one, none, several, Says, combined}
use Rattle.esterel.specs.inner.CappedRows.{capped_rows}
use Rattle.esterel.specs.inner.Stepping.{Found, crowded, answer, Looked, within, rows_answer}
use Rattle.esterel.proofs.Conditions.{other}
use Rattle.esterel.proofs.Looking.{looked_rows, looked_over, looked_present, looked_absent, looked_split}
use Rattle.table.specs.declared.Refusal.{Refusal}
use Rattle.table.specs.declared.Refusal.TheVariants.{Crowded}
use Rattle.rows.specs.declared.row.Row.{Row}
use Rattle.rows.specs.inner.Area.{all_rows, Standing}
use Rattle.lister.specs.declared.presence.Presence.{Presence}
use Rattle.lister.specs.inner.Joins.{rows_under}
use Rattle.step.specs.declared.Stepped.{Stepped}
use Rattle.step.specs.inner.Looking.{answered, found, merged, Looks}
use Rattle.step.specs.inner.Unknowns.{Unknowns}
use Rattle.step.proofs.Rows.{Joined, merged_answered}

-- ---- the unknown signals
-- one of them fewer
module _ {A U less : ℕ} (s : ℕ) (h : has U s ≡ true) (e : less ≡ U without s) (u : Unknowns A U) where
  within_unknown : Within less U
  within_unknown S k = (other U s S (ap (λ (z : ℕ). has z S) (sym e) ∙ k)).1

  pub fewer_unknown : count 32 less < count 32 U
  fewer_unknown = subst (λ (z : ℕ). count 32 z < count 32 U) (sym e) (count_without 32 U s (u.narrow s h) h)

  fewer : count 32 less ≤ 10
  fewer = let f = u.few in let g = fewer_unknown in omega arith

  pub unknown_absent : Unknowns A less
  unknown_absent = record { few = fewer; narrow = λ S k. u.narrow S (within_unknown S k); apart = λ S k. u.apart S (within_unknown S k) }

  pub unknown_present : {more : ℕ} → more ≡ A union only s → Unknowns more less
  unknown_present {more} f = record {
    few = fewer;
    narrow = λ S k. u.narrow S (within_unknown S k);
    apart = subst (Apart less) (sym f) (apart_union less A (only s) (λ S k. u.apart S (within_unknown S k))
        (λ S k. has_only_other s S (other U s S (ap (λ (z : ℕ). has z S) (sym e) ∙ k)).0));
  }

-- ---- an attempt
-- with more signals unknown than the limit, so with some, it was not tried
pub attempts_none : {p : Statement} {x : State} {I A U many : ℕ} (limit : ℕ) → many ≡ count 64 U → limit < many → U ≡ 0 → Looks p x I A U (Err Crowded)
attempts_none {U = U} {many} limit e h z = absurd (let c : count 64 U ≡ 0 = ap (count 64) z ∙ count_empty 64 in omega arith)

-- where the sets of signals are those that were asked for
module _ (s : Presence) (p : Statement) (x : State) (I : ℕ) {A U : ℕ} (a : s.assumed ≡ A) (u : s.unknown ≡ U) where
  looks_as : {r : Result Stepped Refusal} → Looks p x I s.assumed s.unknown r → Looks p x I A U r
  looks_as {r} l = subst (λ (z : ℕ). Looks p x I A z r) u (subst (λ (z : ℕ). Looks p x I z s.unknown r) a l)

  -- given up, which is 15 with no signal unknown
  pub attempts_over : rows_under s p x ≡ no_rows → U ≡ 0 → Looks p x I A U (Err Crowded)
  unfolding found
  attempts_over h e =
      let z : s.unknown ≡ 0 = u ∙ e in
      looks_as (record {
        all = crowded;
        looked = subst (λ (z : ℕ). Looked p x I s.assumed z crowded) (sym z)
            (looked_over s.slotted p x I s.assumed (ap (λ (z : ℕ). capped_rows s.slotted p x s.assumed z) (sym z) ∙ h));
        result = refl;
      })

  pub attempts_rows : {t : Stepped} {b : List Row} {n : ℕ} → Standing b (rows_under s p x) n
      → t ≡ answered (rows_answer s.slotted I s.assumed s.unknown (all_rows (take n b))) → Looks p x I A U (Ok t)
  unfolding found
  attempts_rows {t} {b} {n} h e = looks_as (record {
    all = answer (rows_answer s.slotted I s.assumed s.unknown (all_rows (take n b)));
    looked = looked_rows s.slotted p x I s.assumed s.unknown (all_rows (take n b)) s.slots.within h.listed;
    result = ap (λ (z : Stepped). Ok z) e;
  })

-- ---- with a signal present and with it absent
joined_looked : {p : Statement} {x : State} {I A U : ℕ} (a : Answer) → Looked p x I A U (answer a) → Joined I a
unfolding Says
joined_looked (one t) (within _ s c) = s.0.from.joined
joined_looked none l = tt
joined_looked several l = tt

other_kind : {w : Refusal} {s : Stepped} → ◌≡◌ {A = Result Stepped Refusal} (Err w) (Ok s) → ⊥
other_kind e = cc

answer_is : {r s : Stepped} → ◌≡◌ {A = Result Stepped Refusal} (Ok r) (Ok s) → r ≡ s
answer_is e = cc

looked_as : {p : Statement} {x : State} {I : ℕ} {v : Found} {more less B V : ℕ} {r : Result Stepped Refusal} → less ≡ V → more ≡ B
    → (l : Looks p x I more less r) → l.all ≡ v → Looked p x I B V v
looked_as {p} {x} {I} {v} {more} {less} {B} {V} e f l d =
    subst (λ (z : ℕ). Looked p x I z V v) f (subst (λ (z : ℕ). Looked p x I more z v) e (subst (Looked p x I more less) d l.looked))

module _ {p : Statement} {x : State} {I A U : ℕ} (s : ℕ) (h : has U s ≡ true) where
  -- a refusal is one for all
  module _ {more less : ℕ} {w : Refusal} (e : less ≡ U without s) where
    looks_half : {B : ℕ} → more ≡ B → (Looked p x I B (U without s) crowded → Looked p x I A U crowded) → Looks p x I more less (Err w) → Looks p x I A U (Err w)
    unfolding found
    looks_half f half l = go l.all refl
      where
        go : (v : Found) → l.all ≡ v → Looks p x I A U (Err w)
        go crowded d = record { all = crowded; looked = half (looked_as e f l d); result = l.result ∙ ap found d }
        go (answer a) d = absurd (other_kind (l.result ∙ ap found d))

    pub looks_present : more ≡ A union only s → Looks p x I more less (Err w) → Looks p x I A U (Err w)
    looks_present f l = looks_half f (looked_present s h) l

    pub looks_absent : more ≡ A → Looks p x I more less (Err w) → Looks p x I A U (Err w)
    looks_absent f l = looks_half f (looked_absent s) l

  pub looks_both : {more less same fewer : ℕ} {r q t : Stepped} → less ≡ U without s → fewer ≡ U without s → more ≡ A union only s → same ≡ A
      → Unknowns A U → Looks p x I more less (Ok r) → Looks p x I same fewer (Ok q) → t ≡ merged r q → Looks p x I A U (Ok t)
  unfolding found
  looks_both {more} {less} {same} {fewer} {r} {q} {t} e i f j u l m k = go l.all refl m.all refl
    where
      go : (v : Found) → l.all ≡ v → (y : Found) → m.all ≡ y → Looks p x I A U (Ok t)
      go crowded d y c = absurd (other_kind (sym (l.result ∙ ap found d)))
      go (answer a) d crowded c = absurd (other_kind (sym (m.result ∙ ap found c)))
      go (answer a) d (answer b) c =
          let with : Looked p x I (A union only s) (U without s) (answer a) = looked_as e f l d in
          let sans : Looked p x I A (U without s) (answer b) = looked_as i j m c in
          record {
            all = answer (combined a b);
            looked = looked_split s h (u.apart s h) with sans;
            result = ap (λ (z : Stepped). Ok z)
                (k ∙ ap₂ merged (answer_is (l.result ∙ ap found d)) (answer_is (m.result ∙ ap found c)) ∙ merged_answered I a b (joined_looked a with) (joined_looked b sans));
          }
