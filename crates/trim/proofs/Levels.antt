-- Giving the exits of a part their levels in the trimmed table commutes with every step of trimming: under a kept try, where a
-- try goes, and under the try of a resumed present the levels change as the definitions of trimming change them. Nothing
-- moves at the root, where no exit leaves.
use mathlib.Core.Path.{◌≡◌, refl, sym, ap, ap₂, ◌∙◌}
use mathlib.Core.Logic.{◌≢◌}
use mathlib.Core.Bool.{Bool, false, cond, ◌||◌}
use Prim.Native.Nat.{ℕ, zero, suc, pred, ◌+◌, ◌-◌, ◌≤◌, ◌<◌}
use native.Mathlib.Decide.{dec_le}
use native.Mathlib.Omega.{arith}
use borrow.Author.Tests.{le-leb, lt-leb}
use lib.Dec.{leb, eqb}
use Rattle.sets.proofs.Booleans.{or_neither, differ_eqb}
use Rattle.esterel.specs.Statement.{Statement, nothing, pause, gotopause, emit, exit, signal, present, sequence, parallel, loop, try, Valid}
use Rattle.esterel.specs.Trimming.{is_nothing, names, ends_at, shift_level, shift_exits}
use Rattle.trim.specs.inner.Levels.{map_level, map_exits}

-- ---- one level

-- a level by its two cases
module _ (P : ℕ → Type 0) where
  by_level : (out : ℕ → ℕ) (c e : ℕ) → (e ≤ c → P e) → (c < e → P (c + out (e - c))) → P (map_level out c e)
  unfolding map_level
  by_level out c e f g = go (dec_le e c)
    where
      go : Dec (e ≤ c) → P (cond (leb e c) e (c + out (e - c)))
      go (yes h) = rw (le-leb e c h) (f h)
      go (no h) = rw (lt-leb e c (omega arith)) (g (omega arith))

  pub by_shift : (f : ℕ → ℕ) (c e : ℕ) → (e ≤ c → P e) → (c < e → P (f e)) → P (shift_level f c e)
  unfolding shift_level
  by_shift f c e g h = go (dec_le e c)
    where
      go : Dec (e ≤ c) → P (cond (leb e c) e (f e))
      go (yes l) = rw (le-leb e c l) (g l)
      go (no l) = rw (lt-leb e c (omega arith)) (h (omega arith))

pub level_in : (out : ℕ → ℕ) (c e : ℕ) → e ≤ c → map_level out c e ≡ e
level_in out c e h = by_level (λ n. n ≡ e) out c e (λ l. refl) (λ l. absurd (omega arith))

level_out : (out : ℕ → ℕ) (c e : ℕ) → c < e → map_level out c e ≡ c + out (e - c)
level_out out c e h = by_level (λ n. n ≡ c + out (e - c)) out c e (λ l. absurd (omega arith)) (λ l. refl)

level_same : (f g : ℕ → ℕ) (c e : ℕ) → ((n : ℕ) → 1 ≤ n → f n ≡ g n) → map_level f c e ≡ map_level g c e
level_same f g c e h =
    by_level (λ n. n ≡ map_level g c e) f c e (λ l. sym (level_in g c e l))
    (λ l. ap (λ (n : ℕ). c + n) (h (e - c) (omega arith)) ∙ sym (level_out g c e l))

-- an exit that stands in no try of the part leaves it
pub level_leaves : (out : ℕ → ℕ) (e : ℕ) → 1 ≤ e → map_level out 0 e ≡ out e
level_leaves out e h =
    let all : e - 0 ≡ e = omega arith in
    let none : 0 + out e ≡ out e = omega arith in
    level_out out 0 e h ∙ ap (λ (n : ℕ). 0 + out n) all ∙ none

-- under the try that is put around an else branch
level_raise : (f : ℕ → ℕ) (c e : ℕ) → map_level f (suc c) (shift_level suc c e) ≡ map_level (λ n. suc (f n)) c e
level_raise f c e =
    by_shift (λ n. map_level f (suc c) n ≡ map_level (λ m. suc (f m)) c e) suc c e
    (λ l. level_in f (suc c) e (omega arith) ∙ sym (level_in (λ m. suc (f m)) c e l))
    (λ l. level_out f (suc c) (suc e) (omega arith) ∙ ap (λ (n : ℕ). suc c + f n) (omega arith) ∙ add ∙ sym (level_out (λ m. suc (f m)) c e l))
  where
    add : suc c + f (e - c) ≡ c + suc (f (e - c))
    add = omega arith

-- where a try goes at which no exit ends
level_lower : (f g : ℕ → ℕ) → ((n : ℕ) → 2 ≤ n → f (pred n) ≡ g n) → (c e : ℕ) → e ≢ suc c → map_level f c (shift_level pred c e) ≡ map_level g c e
level_lower f g same c e h =
    by_shift (λ n. map_level f c n ≡ map_level g c e) pred c e
    (λ l. level_in f c e l ∙ sym (level_in g c e l))
    (λ l.
    let less : pred e - c ≡ pred (e - c) = omega arith in
    level_out f c (pred e) (omega arith) ∙ ap (λ (n : ℕ). c + n) (ap f less ∙ same (e - c) (omega arith)) ∙ sym (level_out g c e l))

-- inside a kept try: 1 ends at it, and a level more ends where it did, one try further out
unfoldable pub within : (ℕ → ℕ) → ℕ → ℕ
within f zero = zero
within f (suc zero) = 1
within f (suc (suc n)) = suc (f (suc n))

pub within_more : (f : ℕ → ℕ) (n : ℕ) → 1 ≤ n → within f (suc n) ≡ suc (f n)
unfolding within
within_more f zero h = absurd (omega arith)
within_more f (suc n) h = refl

level_within : (f : ℕ → ℕ) (c e : ℕ) → map_level f (suc c) e ≡ map_level (within f) c e
unfolding within
level_within f c e = by_level (λ n. n ≡ map_level (within f) c e) f (suc c) e (λ l. inner l (dec_le e c)) outer
  where
    inner : e ≤ suc c → Dec (e ≤ c) → e ≡ map_level (within f) c e
    inner h (yes l) = sym (level_in (within f) c e l)
    inner h (no l) =
        let one : e - c ≡ 1 = omega arith in
        let sum : e ≡ c + 1 = omega arith in
        sum ∙ ap (λ (n : ℕ). c + within f n) (sym one) ∙ sym (level_out (within f) c e (omega arith))

    outer : suc c < e → suc c + f (e - suc c) ≡ map_level (within f) c e
    outer l =
        let less : suc (e - suc c) ≡ e - c = omega arith in
        let sum : suc c + f (e - suc c) ≡ c + suc (f (e - suc c)) = omega arith in
        sum ∙ ap (λ (n : ℕ). c + n) (sym (within_more f (e - suc c) (omega arith)) ∙ ap (within f) less) ∙ sym (level_out (within f) c e (omega arith))

-- ---- statements

pub map_nothing : (f : ℕ → ℕ) (c : ℕ) (p : Statement) → is_nothing (map_exits f c p) ≡ is_nothing p
unfolding map_exits is_nothing
map_nothing f c nothing = refl
map_nothing f c (pause l) = refl
map_nothing f c (gotopause l) = refl
map_nothing f c (emit S) = refl
map_nothing f c (exit e) = refl
map_nothing f c (signal S p) = refl
map_nothing f c (present S p q) = refl
map_nothing f c (sequence p q) = refl
map_nothing f c (parallel p q) = refl
map_nothing f c (loop p) = refl
map_nothing f c (try p) = refl

pub map_names : (f : ℕ → ℕ) (c S : ℕ) (p : Statement) → names S (map_exits f c p) ≡ names S p
unfolding map_exits names
map_names f c S nothing = refl
map_names f c S (pause l) = refl
map_names f c S (gotopause l) = refl
map_names f c S (emit S') = refl
map_names f c S (exit e) = refl
map_names f c S (signal S' p) = map_names f c S p
map_names f c S (present S' p q) = ap₂ (λ (a b : Bool). eqb S S' || (a || b)) (map_names f c S p) (map_names f c S q)
map_names f c S (sequence p q) = ap₂ ◌||◌ (map_names f c S p) (map_names f c S q)
map_names f c S (parallel p q) = ap₂ ◌||◌ (map_names f c S p) (map_names f c S q)
map_names f c S (loop p) = map_names f c S p
map_names f c S (try p) = map_names f (suc c) S p

-- only the levels by which an exit can leave count
pub map_same : (f g : ℕ → ℕ) → ((n : ℕ) → 1 ≤ n → f n ≡ g n) → (c : ℕ) (p : Statement) → map_exits f c p ≡ map_exits g c p
unfolding map_exits
map_same f g h c nothing = refl
map_same f g h c (pause l) = refl
map_same f g h c (gotopause l) = refl
map_same f g h c (emit S) = refl
map_same f g h c (exit e) = ap exit (level_same f g c e h)
map_same f g h c (signal S p) = ap (signal S) (map_same f g h c p)
map_same f g h c (present S p q) = ap₂ (present S) (map_same f g h c p) (map_same f g h c q)
map_same f g h c (sequence p q) = ap₂ sequence (map_same f g h c p) (map_same f g h c q)
map_same f g h c (parallel p q) = ap₂ parallel (map_same f g h c p) (map_same f g h c q)
map_same f g h c (loop p) = ap loop (map_same f g h c p)
map_same f g h c (try p) = ap try (map_same f g h (suc c) p)

-- under the try that is put around an else branch
pub map_raise : (f : ℕ → ℕ) (c : ℕ) (p : Statement) → map_exits f (suc c) (shift_exits suc c p) ≡ map_exits (λ n. suc (f n)) c p
unfolding map_exits shift_exits
map_raise f c nothing = refl
map_raise f c (pause l) = refl
map_raise f c (gotopause l) = refl
map_raise f c (emit S) = refl
map_raise f c (exit e) = ap exit (level_raise f c e)
map_raise f c (signal S p) = ap (signal S) (map_raise f c p)
map_raise f c (present S p q) = ap₂ (present S) (map_raise f c p) (map_raise f c q)
map_raise f c (sequence p q) = ap₂ sequence (map_raise f c p) (map_raise f c q)
map_raise f c (parallel p q) = ap₂ parallel (map_raise f c p) (map_raise f c q)
map_raise f c (loop p) = ap loop (map_raise f c p)
map_raise f c (try p) = ap try (map_raise f (suc c) p)

-- inside a kept try
pub map_within : (f : ℕ → ℕ) (c : ℕ) (p : Statement) → map_exits f (suc c) p ≡ map_exits (within f) c p
unfolding map_exits
map_within f c nothing = refl
map_within f c (pause l) = refl
map_within f c (gotopause l) = refl
map_within f c (emit S) = refl
map_within f c (exit e) = ap exit (level_within f c e)
map_within f c (signal S p) = ap (signal S) (map_within f c p)
map_within f c (present S p q) = ap₂ (present S) (map_within f c p) (map_within f c q)
map_within f c (sequence p q) = ap₂ sequence (map_within f c p) (map_within f c q)
map_within f c (parallel p q) = ap₂ parallel (map_within f c p) (map_within f c q)
map_within f c (loop p) = ap loop (map_within f c p)
map_within f c (try p) = ap try (map_within f (suc c) p)

-- where a try goes at which no exit ends
pub map_lower : (f g : ℕ → ℕ) → ((n : ℕ) → 2 ≤ n → f (pred n) ≡ g n) → (c : ℕ) (p : Statement) → ends_at c p ≡ false
    → map_exits f c (shift_exits pred c p) ≡ map_exits g c p
unfolding map_exits shift_exits ends_at
map_lower f g same c nothing h = refl
map_lower f g same c (pause l) h = refl
map_lower f g same c (gotopause l) h = refl
map_lower f g same c (emit S) h = refl
map_lower f g same c (exit e) h = ap exit (level_lower f g same c e (differ_eqb e (suc c) h))
map_lower f g same c (signal S p) h = ap (signal S) (map_lower f g same c p h)
map_lower f g same c (present S p q) h = ap₂ (present S) (map_lower f g same c p (or_neither (ends_at c p) (ends_at c q) h).0) (map_lower f g same c q (or_neither (ends_at c p) (ends_at c q) h).1)
map_lower f g same c (sequence p q) h = ap₂ sequence (map_lower f g same c p (or_neither (ends_at c p) (ends_at c q) h).0) (map_lower f g same c q (or_neither (ends_at c p) (ends_at c q) h).1)
map_lower f g same c (parallel p q) h = ap₂ parallel (map_lower f g same c p (or_neither (ends_at c p) (ends_at c q) h).0) (map_lower f g same c q (or_neither (ends_at c p) (ends_at c q) h).1)
map_lower f g same c (loop p) h = ap loop (map_lower f g same c p h)
map_lower f g same c (try p) h = ap try (map_lower f g same (suc c) p h)

-- nothing moves where no exit leaves
pub map_closed : (f : ℕ → ℕ) (c : ℕ) (p : Statement) → Valid c p → map_exits f c p ≡ p
unfolding map_exits Valid
map_closed f c nothing h = refl
map_closed f c (pause l) h = refl
map_closed f c (gotopause l) h = refl
map_closed f c (emit S) h = refl
map_closed f c (exit e) h = ap exit (level_in f c e h.2)
map_closed f c (signal S p) h = ap (signal S) (map_closed f c p h.1)
map_closed f c (present S p q) h = ap₂ (present S) (map_closed f c p h.1) (map_closed f c q h.2)
map_closed f c (sequence p q) h = ap₂ sequence (map_closed f c p h.0) (map_closed f c q h.1)
map_closed f c (parallel p q) h = ap₂ parallel (map_closed f c p h.0) (map_closed f c q h.1)
map_closed f c (loop p) h = ap loop (map_closed f c p h)
map_closed f c (try p) h = ap try (map_closed f (suc c) p h)
