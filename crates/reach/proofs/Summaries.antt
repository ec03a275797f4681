-- What is kept for each label: storing it for one, changing it for the labels of a set one after the other, and joining the
-- labels of a set.
use mathlib.Core.Path.{◌≡◌, refl, sym, ap, ap₂, ◌∙◌, subst}
use mathlib.Core.Logic.{◌≢◌, ◌⊎◌, inl, inr, ⊎_elim}
use mathlib.Core.Bool.{Bool, true, false, cond, not, ◌&&◌, ◌||◌, and-true, and-false}
use mathlib.Core.List.{List}
use Prim.Native.Nat.{ℕ, ◌*◌, ◌%◌, ◌^◌, ◌<◌}
use mir.Val.{bool_byte}
use native.Mathlib.Nat.{one-mul, zero-mul}
use native.Mathlib.Decide.{ℕ_discrete}
use native.Mathlib.Omega.{arith}
use lib.ListN.{length, get_or, set as stored, length-set}
use lib.Seq.{get_or-set_same, get_or-set_other}
use Rattle.std.proofs.lemmas.List.{get_or_default}
use Rattle.sets.specs.Set.{has, only, ◌union◌, ◌minus◌, ◌without◌, Within}
use Rattle.sets.proofs.Booleans.{or_left, or_right, or_cases, or_false, and_cases, clash}
use Rattle.sets.proofs.Members.{has_empty, has_union, has_minus, has_only, has_only_other, has_without_same, has_without_other, only_fits}
use Rattle.esterel.specs.Codes.{Codes, none, through_try}
use Rattle.reach.specs.inner.Summaries.{resumed_from, Changed, LoweredEach, LabelsFrom}

-- ---- Reading and storing
pub read_at : (kept : List Codes) (l : ℕ) (K : Codes) → l < length kept → get_or kept l K ≡ resumed_from kept l
read_at kept l K b = get_or_default kept l K none b

module _ (kept : List Codes) (l : ℕ) (a : Codes) where
  stored_same : length kept ≡ 64 → l < 64 → resumed_from (stored kept l a) l ≡ a
  stored_same room b = get_or-set_same kept l a none (omega arith)

  stored_other : (x : ℕ) → x ≢ l → resumed_from (stored kept l a) x ≡ resumed_from kept x
  stored_other x n = get_or-set_other kept l x a none n

-- ---- The labels of a set, one after the other
-- those of `set` that are not in `rest` have been changed
pub record Walking (set rest : ℕ) (F : Codes → Codes) (kept kept' : List Codes) : Type 0 where
  pub within : Within rest set
  pub changed : Changed (set minus rest) F kept kept'

none_left : (set l : ℕ) → has (set minus set) l ≡ false
none_left set l = has_minus set set l ∙ go (has set l)
  where
    go : (z : Bool) → (z && not z) ≡ false
    go true = refl
    go false = refl

all_done : (set rest l : ℕ) → rest ≡ 0 → has (set minus rest) l ≡ has set l
all_done set rest l e = has_minus set rest l ∙ ap (λ (z : Bool). has set l && not z) (ap (λ (m : ℕ). has m l) e ∙ has_empty l) ∙ and-true (has set l)

stays_in : (rest l rest' : ℕ) → rest' ≡ rest without l → (x : ℕ) → has rest' x ≡ true → has rest x ≡ true
stays_in rest l rest' r x k = (and_cases (has rest x) (not (has (only l) x)) (sym (has_minus rest (only l) x) ∙ ap (λ (m : ℕ). has m x) (sym r) ∙ k)).0

pub walk_begins : (set rest : ℕ) (F : Codes → Codes) (kept : List Codes) → rest ≡ set → Walking set rest F kept kept
walk_begins set rest F kept e = rw e record {
  within = λ x h. h;
  changed = record {
    size = refl;
    each = λ l b. sym (ap (λ (z : Bool). cond z (F (resumed_from kept l)) (resumed_from kept l)) (none_left set l));
  };
}

pub walk_ends : (set rest : ℕ) (F : Codes → Codes) (kept kept' : List Codes) → Walking set rest F kept kept' → rest ≡ 0 → Changed set F kept kept'
walk_ends set rest F kept kept' w e = record {
  size = w.changed.size;
  each = λ l b. w.changed.each l b ∙ ap (λ (z : Bool). cond z (F (resumed_from kept l)) (resumed_from kept l)) (all_done set rest l e);
}

module _ (set rest : ℕ) (F : Codes → Codes) (first kept : List Codes) (w : Walking set rest F first kept) (l : ℕ) (b : l < 64) (h : has rest l ≡ true) where
  -- of the next label: it is among the changed ones from now on, and nothing was done for it yet
  now_in : (rest' : ℕ) → rest' ≡ rest without l → has (set minus rest') l ≡ true
  now_in rest' r = has_minus set rest' l ∙ ap₂ (λ (u v : Bool). u && not v) (w.within l h) (ap (λ (m : ℕ). has m l) r ∙ has_without_same rest l)

  not_yet : has (set minus rest) l ≡ false
  not_yet = has_minus set rest l ∙ ap₂ (λ (u v : Bool). u && not v) (w.within l h) h

  as_before : (rest' : ℕ) → rest' ≡ rest without l → (x : ℕ) → x ≢ l → has (set minus rest) x ≡ has (set minus rest') x
  as_before rest' r x n =
      has_minus set rest x ∙ ap (λ (z : Bool). has set x && not z) (sym (ap (λ (m : ℕ). has m x) r ∙ has_without_other rest l x (λ e. n (sym e)))) ∙ sym (has_minus set rest' x)

  fresh : resumed_from kept l ≡ resumed_from first l
  fresh = w.changed.each l b ∙ ap (λ (z : Bool). cond z (F (resumed_from first l)) (resumed_from first l)) not_yet

  pub read_on : length first ≡ 64 → (K : Codes) → get_or kept l K ≡ resumed_from kept l
  read_on room K = read_at kept l K (omega (arith, w.changed.size))

  pub walk_on : length first ≡ 64 → (a : Codes) → a ≡ F (resumed_from kept l) → (rest' : ℕ) → rest' ≡ rest without l → Walking set rest' F first (stored kept l a)
  walk_on room a e rest' r = record {
    within = λ x k. w.within x (stays_in rest l rest' r x k);
    changed = record {
      size = length-set kept l a ∙ w.changed.size;
      each = λ x c. each x c (ℕ_discrete x l);
    };
  }
    where
      Goal : ℕ → Type 0
      Goal x = resumed_from (stored kept l a) x ≡ cond (has (set minus rest') x) (F (resumed_from first x)) (resumed_from first x)

      each : (x : ℕ) → x < 64 → Dec (x ≡ l) → Goal x
      each x c (yes q) = subst Goal (sym q) (
          stored_same kept l a (w.changed.size ∙ room) b ∙ e ∙ ap F fresh
          ∙ sym (ap (λ (z : Bool). cond z (F (resumed_from first l)) (resumed_from first l)) (now_in rest' r))
          )
      each x c (no n) =
          stored_other kept l a x n ∙ w.changed.each x c
          ∙ ap (λ (z : Bool). cond z (F (resumed_from first x)) (resumed_from first x)) (as_before rest' r x n)

-- ---- Through a try
-- a label by itself where a flag says so, as a shift of the flag's number
pub own_shift : (yes : Bool) (l : ℕ) → l < 64 → bool_byte yes * 2 ^ l % 2 ^ 64 ≡ cond yes (only l) 0
unfolding only
own_shift true l b = ap (λ (n : ℕ). n % 2 ^ 64) (one-mul (2 ^ l)) ∙ only_fits 64 l b
own_shift false l b = ap (λ (n : ℕ). n % 2 ^ 64) (zero-mul (2 ^ l))

-- on the way, `ending` has those of the changed labels from which the statement ends
pub record Lowering (set rest : ℕ) (kept kept' : List Codes) (ending : ℕ) : Type 0 where
  pub walking : Walking set rest through_try kept kept'
  pub ends : (l : ℕ) → l < 64 → has ending l ≡ (has (set minus rest) l && (through_try (resumed_from kept l)).ends)

pub lower_begins : (set rest : ℕ) (kept : List Codes) → rest ≡ set → Lowering set rest kept kept 0
lower_begins set rest kept e = rw e record {
  walking = walk_begins set set through_try kept refl;
  ends = λ l b. has_empty l ∙ sym (ap (λ (z : Bool). z && (through_try (resumed_from kept l)).ends) (none_left set l));
}

pub lower_ends : (set rest : ℕ) (kept kept' : List Codes) (ending : ℕ) → Lowering set rest kept kept' ending → rest ≡ 0 → LoweredEach set kept kept' ending
lower_ends set rest kept kept' ending w e = record {
  changed = walk_ends set rest through_try kept kept' w.walking e;
  ends = λ l b. w.ends l b ∙ ap (λ (z : Bool). z && (through_try (resumed_from kept l)).ends) (all_done set rest l e);
}

module _ (set rest : ℕ) (first kept : List Codes) (ending : ℕ) (w : Lowering set rest first kept ending) (l : ℕ) (b : l < 64) (h : has rest l ≡ true) where
  pub lower_on : length first ≡ 64 → (a : Codes) → a ≡ through_try (resumed_from kept l) → (own : ℕ) → own ≡ cond a.ends (only l) 0 → (rest' : ℕ) → rest' ≡ rest without l → Lowering set rest' first (stored kept l a) (ending union own)
  lower_on room a e own o rest' r = record {
    walking = walk_on set rest through_try first kept w.walking l b h room a e rest' r;
    ends = λ x c. has_union ending own x ∙ each x c (ℕ_discrete x l);
  }
    where
      own_at : (x : ℕ) (z : Bool) → has (cond z (only l) 0) x ≡ (z && has (only l) x)
      own_at x true = refl
      own_at x false = has_empty x

      ends_now : a.ends ≡ (through_try (resumed_from first l)).ends
      ends_now = ap (λ (K : Codes). K.ends) (e ∙ ap through_try (fresh set rest through_try first kept w.walking l b h))

      each : (x : ℕ) → x < 64 → Dec (x ≡ l) → (has ending x || has own x) ≡ (has (set minus rest') x && (through_try (resumed_from first x)).ends)
      each x c (yes q) = subst (λ (y : ℕ). (has ending y || has own y) ≡ (has (set minus rest') y && (through_try (resumed_from first y)).ends)) (sym q) (
          ap₂ ◌||◌ (w.ends l b ∙ ap (λ (z : Bool). z && (through_try (resumed_from first l)).ends) (not_yet set rest through_try first kept w.walking l b h))
          (ap (λ (m : ℕ). has m l) o ∙ own_at l a.ends ∙ ap (λ (z : Bool). a.ends && z) (has_only l) ∙ and-true a.ends ∙ ends_now)
          ∙ sym (ap (λ (z : Bool). z && (through_try (resumed_from first l)).ends) (now_in set rest through_try first kept w.walking l b h rest' r))
          )
      each x c (no n) =
          ap₂ ◌||◌ (w.ends x c ∙ ap (λ (z : Bool). z && (through_try (resumed_from first x)).ends) (as_before set rest through_try first kept w.walking l b h rest' r x n))
          (ap (λ (m : ℕ). has m x) o ∙ own_at x a.ends ∙ ap (λ (z : Bool). a.ends && z) (has_only_other l x (λ e. n (sym e))) ∙ and-false a.ends)
          ∙ or_false (has (set minus rest') x && (through_try (resumed_from first x)).ends)

-- ---- The labels of a set, joined
pub record Gathering (set rest : ℕ) (kept : List Codes) (labels : ℕ) : Type 0 where
  pub within : Within rest set
  pub sound : (x : ℕ) → has labels x ≡ true → (l : ℕ) × (l < 64) × (has set l ≡ true) × (has (resumed_from kept l).pausing x ≡ true)
  pub complete : (l x : ℕ) → l < 64 → has set l ≡ true → has (resumed_from kept l).pausing x ≡ true → (has rest l ≡ true) ⊎ (has labels x ≡ true)

pub gather_begins : (set rest : ℕ) (kept : List Codes) → rest ≡ set → Gathering set rest kept 0
gather_begins set rest kept e = rw e record { within = λ x h. h; sound = λ x h. clash h (has_empty x); complete = λ l x b h k. inl h }

pub gather_ends : (set rest : ℕ) (kept : List Codes) (labels : ℕ) → Gathering set rest kept labels → rest ≡ 0 → LabelsFrom set kept labels
gather_ends set rest kept labels g e = record {
  sound = g.sound;
  complete = λ l x b h k. ⊎_elim (λ u. clash (ap (λ (m : ℕ). has m l) (sym e) ∙ u) (has_empty l)) (λ v. v) (g.complete l x b h k);
}

pub gather_on : (set rest : ℕ) (kept : List Codes) (labels : ℕ) → Gathering set rest kept labels → (l : ℕ) → l < 64 → has rest l ≡ true
    → (own : ℕ) → own ≡ (resumed_from kept l).pausing → (rest' : ℕ) → rest' ≡ rest without l → Gathering set rest' kept (labels union own)
gather_on set rest kept labels g l b h own e rest' r = record {
  within = λ x k. g.within x (stays_in rest l rest' r x k);
  sound = λ x k. ⊎_elim (g.sound x) (λ v. (l, b, g.within l h, ap (λ (m : ℕ). has m x) (sym e) ∙ v)) (or_cases (has labels x) (has own x) (sym (has_union labels own x) ∙ k));
  complete = λ y x c u k. has_it y x k (ℕ_discrete y l) (g.complete y x c u k);
}
  where
    has_it : (y x : ℕ) → has (resumed_from kept y).pausing x ≡ true → Dec (y ≡ l) → (has rest y ≡ true) ⊎ (has labels x ≡ true)
        → (has rest' y ≡ true) ⊎ (has (labels union own) x ≡ true)
    has_it y x k (yes q) d = inr (has_union labels own x ∙ or_right (has labels x) (ap (λ (m : ℕ). has m x) (e ∙ ap (λ (z : ℕ). (resumed_from kept z).pausing) (sym q)) ∙ k))
    has_it y x k (no n) (inl u) = inl (ap (λ (m : ℕ). has m y) r ∙ has_without_other rest l y (λ z. n (sym z)) ∙ u)
    has_it y x k (no n) (inr v) = inr (has_union labels own x ∙ or_left _ v)

-- a pause by itself
pub changed_own : (kept : List Codes) → length kept ≡ 64 → (l : ℕ) → l < 64 → (K : Codes) → Changed (only l) (λ D. K) kept (stored kept l K)
changed_own kept room l b K = record { size = length-set kept l K; each = λ x c. each x (ℕ_discrete x l) }
  where
    Goal : ℕ → Type 0
    Goal x = resumed_from (stored kept l K) x ≡ cond (has (only l) x) K (resumed_from kept x)

    each : (x : ℕ) → Dec (x ≡ l) → Goal x
    each x (yes q) = subst Goal (sym q) (stored_same kept l K room b ∙ sym (ap (λ (z : Bool). cond z K (resumed_from kept l)) (has_only l)))
    each x (no n) = stored_other kept l K x n ∙ sym (ap (λ (z : Bool). cond z K (resumed_from kept x)) (has_only_other l x (λ e. n (sym e))))
