-- How large a reaction of a valid statement can be: its signals are below 32, its labels below 64, and, of a whole table, its code is
-- 0 or 1. So O fits 4 bytes, k one and L 8.
use mathlib.Core.Path.{◌≡◌, refl, sym, ap, ◌∙◌, subst}
use mathlib.Core.Logic.{◌⊎◌, inl, inr}
use mathlib.Core.Bool.{true, not}
use Prim.Native.Nat.{ℕ, suc, ◌^◌, ◌<◌}
use lib.Dec.{eqb}
use native.Mathlib.Omega.{arith}
use Rattle.sets.specs.Set.{has, only, ◌union◌, ◌without◌}
use Rattle.sets.proofs.Booleans.{by_cond, or_cases, and_cases, clash}
use Rattle.sets.proofs.Members.{has_empty, has_union, has_minus, has_only_equal, fits}
use Rattle.esterel.specs.Statement.{Statement, nothing, pause, gotopause, emit, exit, signal, present, sequence, parallel, loop, try, Valid}
use Rattle.esterel.specs.Reactions.{State, reached_together, Derives, Reaction, Reacts}
use Rattle.esterel.specs.Reactions as rule
use Rattle.esterel.specs.Stepping.{emitted_free}
use Rattle.esterel.proofs.Emitting.{emitted_free_lem}
use Rattle.esterel.proofs.Exits.{valid_exits, code_within}
use Rattle.esterel.proofs.Validity.{valid_levels}

-- ---- Sets with no member of w or above
abbrev pub NoneFrom : ℕ → ℕ → Type 0
NoneFrom w m = (x : ℕ) → has m x ≡ true → x < w

module _ (w : ℕ) where
  from_none : (m : ℕ) → m ≡ 0 → NoneFrom w m
  from_none m e x h = clash (sym (ap (λ (z : ℕ). has z x) e) ∙ h) (has_empty x)

  from_only : (m y : ℕ) → m ≡ only y → y < w → NoneFrom w m
  from_only m y e l x h = subst (λ (z : ℕ). z < w) (has_only_equal y x (sym (ap (λ (z : ℕ). has z x) e) ∙ h)) l

  from_union : (m a b : ℕ) → m ≡ a union b → NoneFrom w a → NoneFrom w b → NoneFrom w m
  from_union m a b e f g x h = go (or_cases (has a x) (has b x) (sym (has_union a b x) ∙ sym (ap (λ (z : ℕ). has z x) e) ∙ h))
    where
      go : (has a x ≡ true) ⊎ (has b x ≡ true) → x < w
      go (inl k) = f x k
      go (inr k) = g x k

  from_without : (m a y : ℕ) → m ≡ a without y → NoneFrom w a → NoneFrom w m
  from_without m a y e f x h = f x (and_cases (has a x) (not (has (only y) x)) (sym (has_minus a (only y) x) ∙ sym (ap (λ (z : ℕ). has z x) e) ∙ h)).0

  from_together : (m k a b : ℕ) → m ≡ reached_together k a b → NoneFrom w a → NoneFrom w b → NoneFrom w m
  unfolding reached_together
  from_together m k a b e f g =
      subst (NoneFrom w) (sym e) (by_cond (NoneFrom w) (eqb k 1) (a union b) 0 (λ i. from_union (a union b) a b refl f g) (λ i. from_none 0 refl))

-- ---- Signals
pub valid_free : (c : ℕ) (p : Statement) → Valid c p → NoneFrom 32 (emitted_free p)
unfolding Valid emitted_free
valid_free c nothing v = from_none 32 0 refl
valid_free c (pause l) v = from_none 32 0 refl
valid_free c (gotopause l) v = from_none 32 0 refl
valid_free c (emit S) v = from_only 32 (only S) S refl (omega arith)
valid_free c (exit d) v = from_none 32 0 refl
valid_free c (signal S p) v = from_without 32 (emitted_free p without S) (emitted_free p) S refl (valid_free c p v.1)
valid_free c (present S p q) v = from_union 32 (emitted_free p union emitted_free q) (emitted_free p) (emitted_free q) refl (valid_free c p v.1) (valid_free c q v.2)
valid_free c (sequence p q) v = from_union 32 (emitted_free p union emitted_free q) (emitted_free p) (emitted_free q) refl (valid_free c p v.0) (valid_free c q v.1)
valid_free c (parallel p q) v = from_union 32 (emitted_free p union emitted_free q) (emitted_free p) (emitted_free q) refl (valid_free c p v.0) (valid_free c q v.1)
valid_free c (loop p) v = valid_free c p v
valid_free c (try p) v = valid_free (suc c) p v

-- ---- Labels
labels_small : (c : ℕ) (p : Statement) → Valid c p → {x : State} {E O k L : ℕ} → Derives p x E O k L → NoneFrom 64 L
unfolding Valid
labels_small c nothing v {L = L} (rule.nothing a b e) = from_none 64 L e
labels_small c (pause l) v {L = L} (rule.pause a b e) = from_only 64 L l e (omega (arith, v.1))
labels_small c (pause l) v {L = L} (rule.resume h a b e) = from_none 64 L e
labels_small c (gotopause l) v {L = L} (rule.goto a b e) = from_only 64 L l e (omega (arith, v.1))
labels_small c (emit S) v {L = L} (rule.emit h a b e) = from_none 64 L e
labels_small c (exit d) v {L = L} (rule.exit a b e) = from_none 64 L e
labels_small c (signal S p) v (rule.signal+ O₁ r h e) = labels_small c p v.1 r
labels_small c (signal S p) v (rule.signal- r) = labels_small c p v.1 r
labels_small c (present S p q) v (rule.present h r) = labels_small c p v.1 r
labels_small c (present S p q) v (rule.absent h r) = labels_small c q v.2 r
labels_small c (present S p q) v (rule.present_left r) = labels_small c p v.1 r
labels_small c (present S p q) v (rule.present_right r) = labels_small c q v.2 r
labels_small c (sequence p q) v (rule.seq O₁ O₂ a b e) = labels_small c q v.1 b
labels_small c (sequence p q) v (rule.seq_left r h) = labels_small c p v.0 r
labels_small c (sequence p q) v (rule.seq_right r) = labels_small c q v.1 r
labels_small c (parallel p q) v (rule.par_left r h) = labels_small c p v.0 r
labels_small c (parallel p q) v (rule.par_right r h) = labels_small c q v.1 r
labels_small c (parallel p q) v {k = k} {L = L} (rule.par O₁ k₁ L₁ O₂ k₂ L₂ a b e f g) =
    from_together 64 L k L₁ L₂ g (labels_small c p v.0 a) (labels_small c q v.1 b)
labels_small c (loop p) v (rule.no_loop r h) = labels_small c p v r
labels_small c (loop p) v (rule.loop O₁ O₂ a b h e) = labels_small c p v b
labels_small c (try p) v (rule.try k₁ r e) = labels_small (suc c) p v r

-- ---- A reaction of a whole table
pub record Narrow (r : Reaction) : Type 0 where
  pub emitted : r.emitted < 2 ^ 32
  pub code : r.code < 2 ^ 8
  pub reached : r.reached < 2 ^ 64

pub reaction_narrow : (p : Statement) → Valid 0 p → (x : State) (E : ℕ) (r : Reaction) → Reacts p x E r → Narrow r
unfolding Reacts
reaction_narrow p v x E r h =
    let k = code_within 0 p x (valid_levels 0 p v) (valid_exits 0 p v) h in
    record {
      emitted = fits 32 r.emitted (λ S m. valid_free 0 p v S (emitted_free_lem p h S m));
      code = omega arith;
      reached = fits 64 r.reached (labels_small 0 p v h);
    }
