-- A reaction emits only signals that are assumed: emit reacts only where its signal is, and a local signal is hidden. And it emits only
-- signals that an emit outside a declaration of them names.
use mathlib.Core.Path.{◌≡◌, sym, ap, ◌∙◌, subst}
use mathlib.Core.Bool.{true}
use Prim.Native.Nat.{ℕ, ◌^◌, ◌<◌}
use native.Mathlib.Decide.{dec_lt}
use native.Mathlib.Omega.{arith}
use Rattle.sets.specs.Set.{has, only, ◌union◌, ◌without◌, Within}
use Rattle.sets.proofs.Booleans.{clash}
use Rattle.sets.proofs.Members.{has_empty, has_only_equal, has_without_other, fits, past_width, either, in_left, in_right}
use Rattle.esterel.specs.Statement.{Statement, nothing, pause, gotopause, emit, exit, signal, present, sequence, parallel, loop, try}
use Rattle.esterel.specs.Reactions.{State, Derives}
use Rattle.esterel.specs.Reactions as rule
use Rattle.esterel.specs.Stepping.{emitted_free}
use Rattle.esterel.proofs.Conditions.{other}

-- ---- sets of emitted signals

none : (O E : ℕ) → O ≡ 0 → Within O E
none O E e x h = clash (sym (ap (λ (z : ℕ). has z x) e) ∙ h) (has_empty x)

both : (O O₁ O₂ E : ℕ) → O ≡ O₁ union O₂ → Within O₁ E → Within O₂ E → Within O E
both O O₁ O₂ E e f g x h = either O₁ O₂ x (sym (ap (λ (z : ℕ). has z x) e) ∙ h) (f x) (g x)

-- below a local signal S
hidden : (O O₁ E S : ℕ) → O ≡ O₁ without S → Within O₁ (E union only S) → Within O E
hidden O O₁ E S e f x h =
    let (n, k) = other O₁ S x (sym (ap (λ (z : ℕ). has z x) e) ∙ h) in
    either E (only S) x (f x k) (λ i. i) (λ i. absurd (n (has_only_equal S x i)))

without_within : (O E S : ℕ) → Within O (E without S) → Within O E
without_within O E S f x h = (other E S x (f x h)).1

wider_left : (O a b : ℕ) → Within O a → Within O (a union b)
wider_left O a b f x h = in_left a b x (f x h)

wider_right : (O a b : ℕ) → Within O b → Within O (a union b)
wider_right O a b f x h = in_right a b x (f x h)

-- of two parts
parts : (O O₁ O₂ a b : ℕ) → O ≡ O₁ union O₂ → Within O₁ a → Within O₂ b → Within O (a union b)
parts O O₁ O₂ a b e f g = both O O₁ O₂ (a union b) e (wider_left O₁ a b f) (wider_right O₂ a b g)

-- a signal that is not the declared one
kept : (O O₁ a S : ℕ) → O ≡ O₁ without S → Within O₁ a → Within O (a without S)
kept O O₁ a S e f x h =
    let (n, k) = other O₁ S x (sym (ap (λ (z : ℕ). has z x) e) ∙ h) in has_without_other a S x n ∙ f x k

absent : (O E a S : ℕ) → Within O (E without S) → Within O a → Within O (a without S)
absent O E a S g f x h = let (n, k) = other E S x (g x h) in has_without_other a S x n ∙ f x h

-- ---- what is assumed

pub emitted_assumed : {p : Statement} {x : State} {E O k L : ℕ} → Derives p x E O k L → Within O E
emitted_assumed {E = E} {O = O} (rule.nothing a b c) = none O E a
emitted_assumed {E = E} {O = O} (rule.pause a b c) = none O E a
emitted_assumed {E = E} {O = O} (rule.emit h a b c) = λ y k. subst (λ (z : ℕ). has E z ≡ true) (has_only_equal _ y (sym (ap (λ (z : ℕ). has z y) a) ∙ k)) h
emitted_assumed {E = E} {O = O} (rule.resume h a b c) = none O E a
emitted_assumed {E = E} {O = O} (rule.goto a b c) = none O E a
emitted_assumed {E = E} {O = O} (rule.exit a b c) = none O E a
emitted_assumed (rule.try k₁ d e) = emitted_assumed d
emitted_assumed (rule.no_loop d n) = emitted_assumed d
emitted_assumed {E = E} {O = O} (rule.seq O₁ O₂ d e f) = both O O₁ O₂ E f (emitted_assumed d) (emitted_assumed e)
emitted_assumed (rule.seq_left d n) = emitted_assumed d
emitted_assumed (rule.seq_right d) = emitted_assumed d
emitted_assumed {E = E} {O = O} (rule.signal+ {S = S} O₁ d h e) = hidden O O₁ E S e (emitted_assumed d)
emitted_assumed {E = E} {O = O} (rule.signal- {S = S} d) = without_within O E S (emitted_assumed d)
emitted_assumed (rule.present h d) = emitted_assumed d
emitted_assumed (rule.absent h d) = emitted_assumed d
emitted_assumed (rule.present_left d) = emitted_assumed d
emitted_assumed (rule.present_right d) = emitted_assumed d
emitted_assumed {E = E} {O = O} (rule.loop O₁ O₂ d e n f) = both O O₁ O₂ E f (emitted_assumed d) (emitted_assumed e)
emitted_assumed (rule.par_left d a) = emitted_assumed d
emitted_assumed (rule.par_right d a) = emitted_assumed d
emitted_assumed {E = E} {O = O} (rule.par O₁ k₁ L₁ O₂ k₂ L₂ d e f g h) = both O O₁ O₂ E f (emitted_assumed d) (emitted_assumed e)

-- so it emits no more than fits the width of what is assumed
pub emitted_fits : (w : ℕ) {p : Statement} {x : State} {E O k L : ℕ} → E < 2 ^ w → Derives p x E O k L → O < 2 ^ w
emitted_fits w {p} {x} {E} {O} h d = fits w O (λ y k. go y (emitted_assumed d y k) (dec_lt y w))
  where
    go : (y : ℕ) → has E y ≡ true → Dec (y < w) → y < w
    go y k (yes l) = l
    go y k (no l) = clash k (past_width w E y h (omega arith))

-- ---- what an emit outside a declaration names

pub emitted_free_lem : (p : Statement) {x : State} {E O k L : ℕ} → Derives p x E O k L → Within O (emitted_free p)
unfolding emitted_free
emitted_free_lem nothing {O = O} (rule.nothing a b c) = none O 0 a
emitted_free_lem (pause l) {O = O} (rule.pause a b c) = none O 0 a
emitted_free_lem (pause l) {O = O} (rule.resume h a b c) = none O 0 a
emitted_free_lem (gotopause l) {O = O} (rule.goto a b c) = none O 0 a
emitted_free_lem (emit S) {O = O} (rule.emit h a b c) = λ x m. sym (ap (λ (z : ℕ). has z x) a) ∙ m
emitted_free_lem (exit d) {O = O} (rule.exit a b c) = none O 0 a
emitted_free_lem (signal S p) {O = O} (rule.signal+ O₁ r h e) = kept O O₁ (emitted_free p) S e (emitted_free_lem p r)
emitted_free_lem (signal S p) {E = E} {O = O} (rule.signal- r) = absent O E (emitted_free p) S (emitted_assumed r) (emitted_free_lem p r)
emitted_free_lem (present S p q) {O = O} (rule.present h r) = wider_left O (emitted_free p) (emitted_free q) (emitted_free_lem p r)
emitted_free_lem (present S p q) {O = O} (rule.absent h r) = wider_right O (emitted_free p) (emitted_free q) (emitted_free_lem q r)
emitted_free_lem (present S p q) {O = O} (rule.present_left r) = wider_left O (emitted_free p) (emitted_free q) (emitted_free_lem p r)
emitted_free_lem (present S p q) {O = O} (rule.present_right r) = wider_right O (emitted_free p) (emitted_free q) (emitted_free_lem q r)
emitted_free_lem (sequence p q) {O = O} (rule.seq O₁ O₂ a b e) = parts O O₁ O₂ (emitted_free p) (emitted_free q) e (emitted_free_lem p a) (emitted_free_lem q b)
emitted_free_lem (sequence p q) {O = O} (rule.seq_left r h) = wider_left O (emitted_free p) (emitted_free q) (emitted_free_lem p r)
emitted_free_lem (sequence p q) {O = O} (rule.seq_right r) = wider_right O (emitted_free p) (emitted_free q) (emitted_free_lem q r)
emitted_free_lem (parallel p q) {O = O} (rule.par O₁ k₁ L₁ O₂ k₂ L₂ a b e f g) =
    parts O O₁ O₂ (emitted_free p) (emitted_free q) e (emitted_free_lem p a) (emitted_free_lem q b)
emitted_free_lem (parallel p q) {O = O} (rule.par_left r h) = wider_left O (emitted_free p) (emitted_free q) (emitted_free_lem p r)
emitted_free_lem (parallel p q) {O = O} (rule.par_right r h) = wider_right O (emitted_free p) (emitted_free q) (emitted_free_lem q r)
emitted_free_lem (loop p) (rule.no_loop r h) = emitted_free_lem p r
emitted_free_lem (loop p) {O = O} (rule.loop O₁ O₂ a b h e) = both O O₁ O₂ (emitted_free p) e (emitted_free_lem p a) (emitted_free_lem p b)
emitted_free_lem (try p) (rule.try k₁ r e) = emitted_free_lem p r
