-- The steps among rows: whether one is a step, and what all of them come to together.
use mathlib.Core.Path.{◌≡◌, refl, sym, ap, ap₂, ◌∙◌}
use mathlib.Core.Logic.{◌≢◌}
use mathlib.Core.Bool.{Bool, true, false, cond, ◌&&◌}
use mathlib.Core.List.{List, [], ◌∷◌, ◌++◌, append-nil}
use Prim.Native.Nat.{ℕ}
use lib.Seq.{append_snoc}
use Rattle.std.specs.List.{push}
use lib.Dec.{eqb}
use borrow.Author.Tests.{eq-eqb, eqb-true, ne_eqb}
use Rattle.std.proofs.Math.Bool.{and-false}
use Rattle.sets.specs.Set.{◌union◌, ◌minus◌}
use Rattle.sets.proofs.Booleans.{by_cond, and_cases}
use Rattle.esterel.specs.Stepping.{Answer, one, none, several, same, combined}
use Rattle.esterel.specs.inner.Conditions.{Condition, always, holds, seen}
use Rattle.esterel.specs.inner.Rows.{Row}
use Rattle.esterel.specs.inner.Stepping.{row_assumed, row_steps, row_answer, rows_answer}
use Rattle.esterel.proofs.Conditions.{holds_always}
use Rattle.rows.specs.declared.row.Row.{Row as Packed}
use Rattle.rows.specs.inner.Layout.{unpacked}
use Rattle.rows.specs.inner.Area.{all_rows}
use Rattle.lister.specs.declared.presence.Presence.{Presence}
use Rattle.step.specs.declared.Stepped.{Stepped}
use Rattle.step.specs.declared.Stepped.TheVariants.{One, None, Several}
use Rattle.step.specs.inner.Looking.{answered, merged}

-- ---- one row
module _ (M I A U : ℕ) (w : Row) {o m n : ℕ} (e : o ≡ w.reacts.emitted) (f : m ≡ (I union o) minus U) (g : n ≡ A minus U) where
  abbrev meets : Bool
  meets = holds w.when (seen M (I union o))

  row_steps_lem : row_steps M I A U w ≡ (eqb m n && meets)
  unfolding row_steps
  row_steps_lem =
      ap (λ (z : ℕ). eqb ((I union z) minus U) (A minus U) && holds w.when (seen M (I union z))) (sym e)
      ∙ ap₂ (λ (x y : ℕ). eqb x y && meets) (sym f) (sym g)

  pub steps_off : m ≢ n → false ≡ row_steps M I A U w
  steps_off h = sym (row_steps_lem ∙ ap (λ (b : Bool). b && meets) (ne_eqb m n h))

  pub steps_met : {b : Bool} {F : ℕ} → m ≡ n → F ≡ seen M (I union o) → b ≡ holds w.when F → b ≡ row_steps M I A U w
  steps_met h s k = sym (row_steps_lem ∙ ap (λ (z : Bool). z && meets) (eq-eqb m n h) ∙ sym (k ∙ ap (holds w.when) s))

  pub steps_sure : m ≡ n → w.when ≡ always → true ≡ row_steps M I A U w
  steps_sure h c = steps_met h refl (sym (ap (λ (z : Condition). holds z (seen M (I union o))) c ∙ holds_always (seen M (I union o))))

pub step_given : (I : ℕ) (w : Row) {o k l : ℕ} → o ≡ w.reacts.emitted → k ≡ w.reacts.code → l ≡ w.reacts.reached
    → One (I union o) o k l ≡ answered (one (record { assumed = row_assumed I w; reaction = w.reacts }))
unfolding answered
step_given I w {l = l} e f g = ap₂ (λ (a b : ℕ). One (I union a) a b l) e f ∙ ap (One (I union w.reacts.emitted) w.reacts.emitted w.reacts.code) g

-- ---- two answers
-- an answer whose E, if it has one, is I joined with O
abbrev pub Joined : ℕ → Answer → Type 0
Joined I (one t) = t.assumed ≡ I union t.reaction.emitted
Joined I none = Unit {0}
Joined I several = Unit {0}

joined_combined : (I : ℕ) (a b : Answer) → Joined I a → Joined I b → Joined I (combined a b)
unfolding combined
joined_combined I none b h k = k
joined_combined I several b h k = tt
joined_combined I (one t) none h k = h
joined_combined I (one t) several h k = tt
joined_combined I (one t) (one u) h k = by_cond (Joined I) (same t.reaction u.reaction) (one t) several (λ e. h) (λ e. tt)

-- where both are such, the same reaction is the same step
pub merged_answered : (I : ℕ) (a b : Answer) → Joined I a → Joined I b → merged (answered a) (answered b) ≡ answered (combined a b)
unfolding answered merged combined same
merged_answered I none b h k = refl
merged_answered I several b h k = refl
merged_answered I (one t) none h k = refl
merged_answered I (one t) several h k = refl
merged_answered I (one t) (one u) h k = ap (λ (z : Bool). cond z (answered (one t)) Several) equals ∙ go (same t.reaction u.reaction)
  where
    go : (z : Bool) → cond z (answered (one t)) Several ≡ answered (cond z (one t) several)
    go true = refl
    go false = refl

    equals : (eqb t.assumed u.assumed && same t.reaction u.reaction) ≡ same t.reaction u.reaction
    equals = test (same t.reaction u.reaction) refl
      where
        test : (z : Bool) → same t.reaction u.reaction ≡ z → (eqb t.assumed u.assumed && z) ≡ z
        test false e = and-false (eqb t.assumed u.assumed)
        test true e =
            let o : t.reaction.emitted ≡ u.reaction.emitted = eqb-true t.reaction.emitted u.reaction.emitted (and_cases (eqb t.reaction.emitted u.reaction.emitted) (eqb t.reaction.code u.reaction.code && eqb t.reaction.reached u.reaction.reached) e).0 in
            ap (λ (z : Bool). z && true) (eq-eqb t.assumed u.assumed (h ∙ ap (λ (z : ℕ). I union z) o ∙ sym k))

row_joined : (M I A U : ℕ) (w : Row) → Joined I (row_answer M I A U w)
unfolding row_answer
row_joined M I A U w = by_cond (Joined I) (row_steps M I A U w) (one (record { assumed = row_assumed I w; reaction = w.reacts })) none (λ e. refl) (λ e. tt)

rows_joined : (M I A U : ℕ) (ws : List Row) → Joined I (rows_answer M I A U ws)
unfolding rows_answer
rows_joined M I A U [] = tt
rows_joined M I A U (w ∷ ws) = joined_combined I (row_answer M I A U w) (rows_answer M I A U ws) (row_joined M I A U w) (rows_joined M I A U ws)

-- ---- the rows of a list, from the last to the first
module _ (M I A U : ℕ) where
  abbrev pub all_answer : List Row → Stepped
  all_answer ws = answered (rows_answer M I A U ws)

  -- one row more in front
  module _ (w : Row) (ws : List Row) (r : Stepped) (g : r ≡ all_answer ws) where
    further : (b : Bool) → b ≡ row_steps M I A U w → {t : Stepped}
        → t ≡ merged (answered (cond b (one (record { assumed = row_assumed I w; reaction = w.reacts })) none)) r → t ≡ all_answer (w ∷ ws)
    unfolding rows_answer row_answer
    further b e h =
        h ∙ ap₂ (λ (z : Bool) (s : Stepped). merged (answered (cond z (one (record { assumed = row_assumed I w; reaction = w.reacts })) none)) s) e g
        ∙ merged_answered I (row_answer M I A U w) (rows_answer M I A U ws) (row_joined M I A U w) (rows_joined M I A U ws)

    answer_step : true ≡ row_steps M I A U w → {s t : Stepped} → s ≡ answered (one (record { assumed = row_assumed I w; reaction = w.reacts }))
        → t ≡ merged s r → t ≡ all_answer (w ∷ ws)
    answer_step e f h = further true e (h ∙ ap (λ (z : Stepped). merged z r) f)

    answer_other : false ≡ row_steps M I A U w → r ≡ all_answer (w ∷ ws)
    unfolding answered merged
    answer_other e = further false e refl

-- of the rows of a list all but the rest, which come first, are gathered
pub record Gathered (s : Presence) (I : ℕ) (all rest : List Packed) (r : Stepped) : Type 0 where
  pub done : List Packed
  pub parts : all ≡ rest ++ done
  pub so_far : r ≡ all_answer s.slotted I s.assumed s.unknown (all_rows done)

module _ {s : Presence} {I : ℕ} {all : List Packed} where
  pub gathered_none : {rest : List Packed} → rest ≡ all → Gathered s I all rest None
  unfolding answered rows_answer
  gathered_none {rest} e = record { done = []; parts = sym (append-nil rest ∙ e); so_far = refl }

  module _ {before rest : List Packed} (row : Packed) (e : before ≡ push rest row) {r : Stepped} (g : Gathered s I all before r) where
    one_more : {t : Stepped} → t ≡ all_answer s.slotted I s.assumed s.unknown (unpacked row ∷ all_rows g.done) → Gathered s I all rest t
    one_more h = record {
      done = row ∷ g.done;
      parts = g.parts ∙ ap (λ (z : List Packed). z ++ g.done) e ∙ append_snoc rest row g.done;
      so_far = h;
    }

    pub gathered_step : true ≡ row_steps s.slotted I s.assumed s.unknown (unpacked row) → {u t : Stepped}
        → u ≡ answered (one (record { assumed = row_assumed I (unpacked row); reaction = (unpacked row).reacts })) → t ≡ merged u r → Gathered s I all rest t
    gathered_step f h k = one_more (answer_step s.slotted I s.assumed s.unknown (unpacked row) (all_rows g.done) r g.so_far f h k)

    pub gathered_other : false ≡ row_steps s.slotted I s.assumed s.unknown (unpacked row) → Gathered s I all rest r
    gathered_other f = one_more (answer_other s.slotted I s.assumed s.unknown (unpacked row) (all_rows g.done) r g.so_far f)
