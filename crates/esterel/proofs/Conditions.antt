-- What a condition says, alone, joined to another, and with a slot forgotten.
use mathlib.Core.Path.{◌≡◌, refl, sym, ap, ◌∙◌, subst}
use mathlib.Core.Logic.{◌≢◌}
use mathlib.Core.Bool.{Bool, true, false, not, ◌&&◌, ◌||◌}
use Prim.Native.Nat.{ℕ}
use native.Mathlib.Decide.{ℕ_discrete}
use lib.Dec.{eqb}
use Rattle.sets.specs.Set.{has, only, ◌union◌, ◌intersect◌, ◌minus◌, ◌without◌, Within, Apart}
use Rattle.sets.proofs.Booleans.{or_false, and_both, and_cases, not_true, clash, same_bool, eqb_equal}
use Rattle.sets.proofs.Members.{has_empty, has_union, has_minus, has_only, has_only_equal, has_only_other, has_without_same, has_without_other, ext, union_apart⁻, apart_test, test_apart, either, in_left, in_right, union_within_both}
use Rattle.esterel.specs.inner.Conditions.{Condition, condition, always, holds, both, clashes, forget}
use Rattle.esterel.proofs.Unnamed.{SameBut}

-- the test for a set within another
pub within_test : (a b : ℕ) → Within a b → eqb (a minus b) 0 ≡ true
within_test a b f = ap (λ (z : ℕ). eqb z 0) (ext (a minus b) 0 (λ x. has_minus a b x ∙ go x (has a x) refl ∙ sym (has_empty x)))
  where
    go : (x : ℕ) (u : Bool) → has a x ≡ u → (has a x && not (has b x)) ≡ false
    go x true e = rw (e, f x e)
    go x false e = rw e

pub test_within : (a b : ℕ) → eqb (a minus b) 0 ≡ true → Within a b
test_within a b e x h = go (has b x) (sym (rw h) ∙ sym (has_minus a b x) ∙ ap (λ (z : ℕ). has z x) (eqb_equal (a minus b) 0 e) ∙ has_empty x)
  where
    go : (v : Bool) → not v ≡ false → v ≡ true
    go true k = refl
    go false k = clash refl k

abbrev pub Holds : Condition → ℕ → Type 0
Holds c F = Within c.on F × Apart c.off F

pub holds_yes : (c : Condition) (F : ℕ) → holds c F ≡ true → Holds c F
unfolding holds
holds_yes c F h =
    let (a, b) = and_cases (eqb (c.on minus F) 0) (eqb (c.off intersect F) 0) h in
    (test_within c.on F a, test_apart c.off F b)

pub holds_is : (c : Condition) (F : ℕ) → Holds c F → holds c F ≡ true
unfolding holds
holds_is c F h =
    and_both (eqb (c.on minus F) 0) (eqb (c.off intersect F) 0) (within_test c.on F h.0) (apart_test c.off F h.1)

pub holds_always : (F : ℕ) → holds always F ≡ true
unfolding always
holds_always F = holds_is always F (λ x h. clash h (has_empty x), λ x h. clash h (has_empty x))

pub holds_both : (c d : Condition) (F : ℕ) → holds (both c d) F ≡ (holds c F && holds d F)
unfolding both
holds_both c d F =
    same_bool (holds (both c d) F) (holds c F && holds d F)
    (λ h. let k = holds_yes (both c d) F h in let (a, b) = union_apart⁻ c.off d.off F k.1 in
    and_both (holds c F) (holds d F)
    (holds_is c F (λ x m. k.0 x (in_left c.on d.on x m), a)) (holds_is d F (λ x m. k.0 x (in_right c.on d.on x m), b)))
    (λ h. let (u, v) = and_cases (holds c F) (holds d F) h in let k = holds_yes c F u in let l = holds_yes d F v in
    holds_is (both c d) F (union_within_both c.on d.on F k.0 l.0, λ x m. either c.off d.off x m (k.1 x) (l.1 x)))

pub clash_fails : (c : Condition) (F : ℕ) → clashes c ≡ true → holds c F ≡ false
unfolding clashes
clash_fails c F e =
    not_true (holds c F) (λ h. let k = holds_yes c F h in
    clash e (ap not (apart_test c.on c.off (λ x m. not_true (has c.off x) (λ n. clash (k.0 x m) (k.1 x n))))))

pub holds_on : (s F : ℕ) → holds (condition (only s) 0) F ≡ has F s
holds_on s F =
    same_bool (holds (condition (only s) 0) F) (has F s)
    (λ h. (holds_yes (condition (only s) 0) F h).0 s (has_only s))
    (λ h. holds_is (condition (only s) 0) F (λ x m. subst (λ (z : ℕ). has F z ≡ true) (has_only_equal s x m) h, λ x m. clash m (has_empty x)))

pub holds_off : (s F : ℕ) → holds (condition 0 (only s)) F ≡ not (has F s)
holds_off s F =
    same_bool (holds (condition 0 (only s)) F) (not (has F s))
    (λ h. ap not ((holds_yes (condition 0 (only s)) F h).1 s (has_only s)))
    (λ h. holds_is (condition 0 (only s)) F (λ x m. clash m (has_empty x), λ x m. subst (λ (z : ℕ). has F z ≡ false) (has_only_equal s x m) (un (has F s) h)))
  where
    un : (b : Bool) → not b ≡ true → b ≡ false
    un true e = clash e refl
    un false e = refl

-- a member other than S
pub other : (a S x : ℕ) → has (a without S) x ≡ true → (S ≢ x) × (has a x ≡ true)
other a S x h = go (ℕ_discrete S x)
  where
    go : Dec (S ≡ x) → (S ≢ x) × (has a x ≡ true)
    go (yes e) = clash (ap (has (a without S)) e ∙ h) (has_without_same a S)
    go (no n) = (n, sym (has_without_other a S x n) ∙ h)

-- where G has s or has it not, and is F otherwise, a condition says of G what it says of s and, s forgotten, of F
holds_but : (s F G : ℕ) (c : Condition) (ok : Bool) → SameBut s F G
    → (ok ≡ true → (has c.on s ≡ true → has G s ≡ true) × (has c.off s ≡ true → has G s ≡ false))
    → ((has c.on s ≡ true → has G s ≡ true) → (has c.off s ≡ true → has G s ≡ false) → ok ≡ true)
    → holds c G ≡ (ok && holds (forget s c) F)
unfolding forget
holds_but s F G c ok o f g =
    same_bool (holds c G) (ok && holds (forget s c) F)
    (λ h. let k = holds_yes c G h in
    and_both ok (holds (forget s c) F) (g (k.0 s) (k.1 s))
    (holds_is (forget s c) F
    (λ x m. let (n, l) = other c.on s x m in o x n ∙ k.0 x l, λ x m. let (n, l) = other c.off s x m in o x n ∙ k.1 x l)))
    (λ h. let (u, v) = and_cases ok (holds (forget s c) F) h in let k = holds_yes (forget s c) F v in
    holds_is c G
    (λ x m. at c.on x true m (ℕ_discrete s x) (f u).0 (k.0 x), λ x m. at c.off x false m (ℕ_discrete s x) (f u).1 (k.1 x)))
  where
    at : (a x : ℕ) (b : Bool) → has a x ≡ true → Dec (s ≡ x) → (has a s ≡ true → has G s ≡ b) → (has (a without s) x ≡ true → has F x ≡ b) → has G x ≡ b
    at a x b m (yes e) i j = subst (λ (z : ℕ). has a z ≡ true → has G z ≡ b) e i m
    at a x b m (no n) i j = sym (o x n) ∙ j (has_without_other a s x n ∙ m)

pub added : (S F : ℕ) → SameBut S F (F union only S)
added S F x n = sym (has_union F (only S) x ∙ ap (λ z. has F x || z) (has_only_other S x n) ∙ or_false (has F x))

pub removed : (S F : ℕ) → SameBut S F (F without S)
removed S F x n = sym (has_without_other F S x n)

pub holds_added : (s F : ℕ) (c : Condition) → holds c (F union only s) ≡ (not (has c.off s) && holds (forget s c) F)
holds_added s F c =
    holds_but s F (F union only s) c (not (has c.off s)) (added s F)
    (λ e. (λ h. there, λ h. clash e (ap not h)))
    (λ u v. ap not (not_true (has c.off s) (λ h. clash there (v h))))
  where
    there : has (F union only s) s ≡ true
    there = in_right F (only s) s (has_only s)

pub holds_removed : (s F : ℕ) (c : Condition) → holds c (F without s) ≡ (not (has c.on s) && holds (forget s c) F)
holds_removed s F c =
    holds_but s F (F without s) c (not (has c.on s)) (removed s F)
    (λ e. (λ h. clash e (ap not h), λ h. has_without_same F s))
    (λ u v. ap not (not_true (has c.on s) (λ h. clash (u h) (has_without_same F s))))
