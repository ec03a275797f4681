-- Exits shifted in a part. Raising the exits that leave a part raises those codes of its reactions that leave it, and changes
-- nothing else; so a try around a raised part may go. Lowering undoes raising where no exit ends at the try.
use mathlib.Core.Path.{◌≡◌, refl, sym, ap, ap₂, ◌∙◌, subst}
use mathlib.Core.Logic.{◌≢◌, ◌⊎◌, inl, inr}
use mathlib.Core.Bool.{Bool, true, false}
use Prim.Native.Nat.{ℕ, zero, suc, pred, ◌+◌, ◌≤◌, ◌<◌, max}
use native.Mathlib.Nat.{max-eq_left, max-eq_right}
use native.Mathlib.Decide.{dec_le, ℕ_discrete}
use native.Mathlib.Omega.{arith}
use lib.Dec.{leb, T, leb→le, le→leb}
use Rattle.sets.specs.Set.{◌union◌, Apart}
use Rattle.sets.proofs.Booleans.{or_neither, eqb_differ, differ_eqb}
use Rattle.esterel.specs.Statement.{Statement, nothing, pause, gotopause, emit, exit, signal, present, sequence, parallel, loop, try, pauses, size}
use Rattle.esterel.specs.Codes.{code_of, through}
use Rattle.esterel.specs.Trimming.{ends_at, shift_level, shift_exits, raise, lower}
use Rattle.esterel.specs.Reactions.{State, start, resumed, Derives, reached_together}
use Rattle.esterel.specs.Reactions as rule

-- ---- what a shift keeps
pub pauses_shift : (f : ℕ → ℕ) (c : ℕ) (p : Statement) → pauses (shift_exits f c p) ≡ pauses p
unfolding pauses shift_exits
pauses_shift f c nothing = refl
pauses_shift f c (pause l) = refl
pauses_shift f c (gotopause l) = refl
pauses_shift f c (emit S) = refl
pauses_shift f c (exit e) = refl
pauses_shift f c (signal S p) = pauses_shift f c p
pauses_shift f c (present S p q) = ap₂ ◌union◌ (pauses_shift f c p) (pauses_shift f c q)
pauses_shift f c (sequence p q) = ap₂ ◌union◌ (pauses_shift f c p) (pauses_shift f c q)
pauses_shift f c (parallel p q) = ap₂ ◌union◌ (pauses_shift f c p) (pauses_shift f c q)
pauses_shift f c (loop p) = pauses_shift f c p
pauses_shift f c (try p) = pauses_shift f (suc c) p

pub size_shift : (f : ℕ → ℕ) (c : ℕ) (p : Statement) → size (shift_exits f c p) ≡ size p
unfolding size shift_exits
size_shift f c nothing = refl
size_shift f c (pause l) = refl
size_shift f c (gotopause l) = refl
size_shift f c (emit S) = refl
size_shift f c (exit e) = refl
size_shift f c (signal S p) = ap suc (size_shift f c p)
size_shift f c (present S p q) = ap₂ (λ (m n : ℕ). suc (m + n)) (size_shift f c p) (size_shift f c q)
size_shift f c (sequence p q) = ap₂ (λ (m n : ℕ). suc (m + n)) (size_shift f c p) (size_shift f c q)
size_shift f c (parallel p q) = ap₂ (λ (m n : ℕ). suc (m + n)) (size_shift f c p) (size_shift f c q)
size_shift f c (loop p) = ap suc (size_shift f c p)
size_shift f c (try p) = ap suc (size_shift f (suc c) p)

-- ---- levels and codes
-- a level stays, or is changed
abbrev pub Shifted : (ℕ → ℕ) → ℕ → ℕ → Type 0
Shifted f c e = ((e ≤ c) × (shift_level f c e ≡ e)) ⊎ ((c < e) × (shift_level f c e ≡ f e))

pub shifted : (f : ℕ → ℕ) (c e : ℕ) → Shifted f c e
unfolding shift_level
shifted f c e = go (leb e c) refl
  where
    beyond : leb e c ≡ false → Dec (e ≤ c) → c < e
    beyond h (yes l) = absurd (subst T h (le→leb e c l))
    beyond h (no l) = omega arith

    go : (b : Bool) → leb e c ≡ b → Shifted f c e
    go true h = inl (leb→le e c (subst T (sym h) tt), rw h)
    go false h = inr (beyond h (dec_le e c), rw h)

-- the code of a raised part whose own code is k: level e has code e + 1, so codes are raised beyond c + 1
abbrev pub raise_code : ℕ → ℕ → ℕ
raise_code c k = shift_level suc (suc c) k

raise_code_of : (c e : ℕ) → code_of (shift_level suc c e) ≡ raise_code c (code_of e)
unfolding code_of
raise_code_of c e = go (shifted suc c e) (shifted suc (suc c) (suc e))
  where
    go : Shifted suc c e → Shifted suc (suc c) (suc e) → suc (shift_level suc c e) ≡ raise_code c (suc e)
    go (inl a) (inl b) = omega arith
    go (inl a) (inr b) = omega arith
    go (inr a) (inl b) = omega arith
    go (inr a) (inr b) = omega arith

raise_low : (c k : ℕ) → k ≤ 1 → raise_code c k ≡ k
raise_low c k h = go (shifted suc (suc c) k)
  where
    go : Shifted suc (suc c) k → raise_code c k ≡ k
    go (inl a) = a.1
    go (inr a) = absurd (omega arith)

-- a raised code is 0 or 1 only where the code is
raise_low⁻ : (c k n : ℕ) → n ≤ 1 → n ≡ raise_code c k → k ≡ n
raise_low⁻ c k n h e = go (shifted suc (suc c) k)
  where
    go : Shifted suc (suc c) k → k ≡ n
    go (inl a) = omega arith
    go (inr a) = absurd (omega arith)

raise_not_ended : (c k : ℕ) → k ≢ 0 → raise_code c k ≢ 0
raise_not_ended c k n e = n (raise_low⁻ c k 0 (omega arith) (sym e))

raise_max : (c k m : ℕ) → max (raise_code c k) (raise_code c m) ≡ raise_code c (max k m)
raise_max c k m = go (dec_le k m)
  where
    mono : (k m : ℕ) → k ≤ m → raise_code c k ≤ raise_code c m
    mono k m h = order (shifted suc (suc c) k) (shifted suc (suc c) m)
      where
        order : Shifted suc (suc c) k → Shifted suc (suc c) m → raise_code c k ≤ raise_code c m
        order (inl a) (inl b) = omega arith
        order (inl a) (inr b) = omega arith
        order (inr a) (inl b) = absurd (omega arith)
        order (inr a) (inr b) = omega arith

    go : Dec (k ≤ m) → max (raise_code c k) (raise_code c m) ≡ raise_code c (max k m)
    go (yes h) = max-eq_right (mono k m h) ∙ ap (raise_code c) (sym (max-eq_right h))
    go (no h) = let l : m ≤ k = omega arith in max-eq_left (mono m k l) ∙ ap (raise_code c) (sym (max-eq_left l))

raise_together : (c k L L' : ℕ) → reached_together (raise_code c k) L L' ≡ reached_together k L L'
unfolding reached_together
raise_together c k L L' = go (ℕ_discrete k 1)
  where
    go : Dec (k ≡ 1) → reached_together (raise_code c k) L L' ≡ reached_together k L L'
    go (yes e) = ap (λ (z : ℕ). reached_together z L L') (raise_low c k (omega arith))
    go (no h) = rw (eqb_differ k 1 h, eqb_differ (raise_code c k) 1 (λ e. h (raise_low⁻ c k 1 (omega arith) (sym e))))

raise_through : (c k : ℕ) → through (raise_code (suc c) k) ≡ raise_code c (through k)
unfolding through
raise_through c zero = rw (raise_low (suc c) 0 (omega arith), raise_low c 0 (omega arith))
raise_through c (suc zero) = rw (raise_low (suc c) 1 (omega arith), raise_low c 1 (omega arith))
raise_through c (suc (suc zero)) = go (shifted suc (suc (suc c)) 2)
  where
    go : Shifted suc (suc (suc c)) 2 → through (raise_code (suc c) 2) ≡ raise_code c 0
    go (inl a) = rw (a.1, raise_low c 0 (omega arith))
    go (inr a) = absurd (omega arith)
raise_through c (suc (suc (suc k))) = go (shifted suc (suc (suc c)) (suc (suc (suc k)))) (shifted suc (suc c) (suc (suc k)))
  where
    go : Shifted suc (suc (suc c)) (suc (suc (suc k))) → Shifted suc (suc c) (suc (suc k))
        → through (raise_code (suc c) (suc (suc (suc k)))) ≡ raise_code c (suc (suc k))
    go (inl a) (inl b) = rw (a.1, b.1)
    go (inl a) (inr b) = absurd (omega arith)
    go (inr a) (inl b) = absurd (omega arith)
    go (inr a) (inr b) = rw (a.1, b.1)

-- a try takes back what raising did
through_raise : (k : ℕ) → through (raise_code 0 k) ≡ k
unfolding through
through_raise zero = rw (raise_low 0 0 (omega arith))
through_raise (suc zero) = rw (raise_low 0 1 (omega arith))
through_raise (suc (suc k)) = go (shifted suc 1 (suc (suc k)))
  where
    go : Shifted suc 1 (suc (suc k)) → through (raise_code 0 (suc (suc k))) ≡ suc (suc k)
    go (inl a) = absurd (omega arith)
    go (inr a) = rw a.1

-- ---- the reactions of a raised part
apart_shift : (c X : ℕ) (q : Statement) → Apart X (pauses q) → Apart X (pauses (shift_exits suc c q))
apart_shift c X q h = rw (pauses_shift suc c q) h

apart_shift⁻ : (c X : ℕ) (q : Statement) → Apart X (pauses (shift_exits suc c q)) → Apart X (pauses q)
apart_shift⁻ c X q h = rw (pauses_shift suc c q) at h

pub shift⁺ : (c : ℕ) (p : Statement) {x : State} {E O k L : ℕ} → Derives p x E O k L → Derives (shift_exits suc c p) x E O (raise_code c k) L
unfolding shift_exits
shift⁺ c nothing (rule.nothing a b h) = rule.nothing a (ap (raise_code c) b ∙ raise_low c 0 (omega arith)) h
shift⁺ c (pause l) (rule.pause a b h) = rule.pause a (ap (raise_code c) b ∙ raise_low c 1 (omega arith)) h
shift⁺ c (pause l) (rule.resume u a b h) = rule.resume u a (ap (raise_code c) b ∙ raise_low c 0 (omega arith)) h
shift⁺ c (gotopause l) (rule.goto a b h) = rule.goto a (ap (raise_code c) b ∙ raise_low c 1 (omega arith)) h
shift⁺ c (emit S) (rule.emit u a b h) = rule.emit u a (ap (raise_code c) b ∙ raise_low c 0 (omega arith)) h
shift⁺ c (exit e) (rule.exit a b h) = rule.exit a (ap (raise_code c) b ∙ sym (raise_code_of c e)) h
shift⁺ c (signal S p) (rule.signal+ O₁ r h e) = rule.signal+ O₁ (shift⁺ c p r) h e
shift⁺ c (signal S p) (rule.signal- r) = rule.signal- (shift⁺ c p r)
shift⁺ c (present S p q) (rule.present h r) = rule.present h (shift⁺ c p r)
shift⁺ c (present S p q) (rule.absent h r) = rule.absent h (shift⁺ c q r)
shift⁺ c (present S p q) (rule.present_left r) = rule.present_left (shift⁺ c p r)
shift⁺ c (present S p q) (rule.present_right r) = rule.present_right (shift⁺ c q r)
shift⁺ c (sequence p q) {k = k} (rule.seq_left r h) = rule.seq_left (shift⁺ c p r) (raise_not_ended c k h)
shift⁺ c (sequence p q) {x = x} {E = E} (rule.seq O₁ O₂ a b e) =
    rule.seq O₁ O₂ (subst (λ (z : ℕ). Derives (shift_exits suc c p) x E O₁ z 0) (raise_low c 0 (omega arith)) (shift⁺ c p a)) (shift⁺ c q b) e
shift⁺ c (sequence p q) (rule.seq_right r) = rule.seq_right (shift⁺ c q r)
shift⁺ c (parallel p q) {k = k} (rule.par O₁ k₁ L₁ O₂ k₂ L₂ a b e f h) =
    rule.par O₁ (raise_code c k₁) L₁ O₂ (raise_code c k₂) L₂ (shift⁺ c p a) (shift⁺ c q b) e
    (ap (raise_code c) f ∙ sym (raise_max c k₁ k₂)) (h ∙ sym (raise_together c k L₁ L₂))
shift⁺ c (parallel p q) {x = resumed X} (rule.par_left r h) = rule.par_left (shift⁺ c p r) (apart_shift c X q h)
shift⁺ c (parallel p q) {x = resumed X} (rule.par_right r h) = rule.par_right (shift⁺ c q r) (apart_shift c X p h)
shift⁺ c (loop p) {k = k} (rule.no_loop r h) = rule.no_loop (shift⁺ c p r) (raise_not_ended c k h)
shift⁺ c (loop p) {x = resumed X} {E = E} {k = k} (rule.loop O₁ O₂ a b h e) =
    rule.loop O₁ O₂ (subst (λ (z : ℕ). Derives (shift_exits suc c p) (resumed X) E O₁ z 0) (raise_low c 0 (omega arith)) (shift⁺ c p a)) (shift⁺ c p b) (raise_not_ended c k h) e
shift⁺ c (try p) (rule.try k₁ r e) = rule.try (raise_code (suc c) k₁) (shift⁺ (suc c) p r) (ap (raise_code c) e ∙ sym (raise_through c k₁))

pub shift⁻ : (c : ℕ) (p : Statement) {x : State} {E O k L : ℕ} → Derives (shift_exits suc c p) x E O k L
    → (m : ℕ) × Derives p x E O m L × (k ≡ raise_code c m)
unfolding shift_exits
shift⁻ c nothing (rule.nothing a b h) = (0, rule.nothing a refl h, b ∙ sym (raise_low c 0 (omega arith)))
shift⁻ c (pause l) (rule.pause a b h) = (1, rule.pause a refl h, b ∙ sym (raise_low c 1 (omega arith)))
shift⁻ c (pause l) (rule.resume u a b h) = (0, rule.resume u a refl h, b ∙ sym (raise_low c 0 (omega arith)))
shift⁻ c (gotopause l) (rule.goto a b h) = (1, rule.goto a refl h, b ∙ sym (raise_low c 1 (omega arith)))
shift⁻ c (emit S) (rule.emit u a b h) = (0, rule.emit u a refl h, b ∙ sym (raise_low c 0 (omega arith)))
shift⁻ c (exit e) (rule.exit a b h) = (code_of e, rule.exit a refl h, b ∙ raise_code_of c e)
shift⁻ c (signal S p) (rule.signal+ O₁ r h e) = let (m, t, f) = shift⁻ c p r in (m, rule.signal+ O₁ t h e, f)
shift⁻ c (signal S p) (rule.signal- r) = let (m, t, f) = shift⁻ c p r in (m, rule.signal- t, f)
shift⁻ c (present S p q) (rule.present h r) = let (m, t, f) = shift⁻ c p r in (m, rule.present h t, f)
shift⁻ c (present S p q) (rule.absent h r) = let (m, t, f) = shift⁻ c q r in (m, rule.absent h t, f)
shift⁻ c (present S p q) (rule.present_left r) = let (m, t, f) = shift⁻ c p r in (m, rule.present_left t, f)
shift⁻ c (present S p q) (rule.present_right r) = let (m, t, f) = shift⁻ c q r in (m, rule.present_right t, f)
shift⁻ c (sequence p q) (rule.seq_left r h) =
    let (m, t, f) = shift⁻ c p r in (m, rule.seq_left t (λ e. h (f ∙ ap (raise_code c) e ∙ raise_low c 0 (omega arith))), f)
shift⁻ c (sequence p q) {x = x} {E = E} (rule.seq O₁ O₂ a b e) =
    let (m, t, f) = shift⁻ c q b in
    let (n, u, v) = shift⁻ c p a in
    (m, rule.seq O₁ O₂ (subst (λ (z : ℕ). Derives p x E O₁ z 0) (raise_low⁻ c n 0 (omega arith) v) u) t e, f)
shift⁻ c (sequence p q) (rule.seq_right r) = let (m, t, f) = shift⁻ c q r in (m, rule.seq_right t, f)
shift⁻ c (parallel p q) {k = k} (rule.par O₁ k₁ L₁ O₂ k₂ L₂ a b e f h) =
    let (m, t, u) = shift⁻ c p a in
    let (n, v, y) = shift⁻ c q b in
    let z : k ≡ raise_code c (max m n) = f ∙ ap₂ max u y ∙ raise_max c m n in
    (max m n, rule.par O₁ m L₁ O₂ n L₂ t v e refl (h ∙ ap (λ (i : ℕ). reached_together i L₁ L₂) z ∙ raise_together c (max m n) L₁ L₂), z)
shift⁻ c (parallel p q) {x = resumed X} (rule.par_left r h) = let (m, t, f) = shift⁻ c p r in (m, rule.par_left t (apart_shift⁻ c X q h), f)
shift⁻ c (parallel p q) {x = resumed X} (rule.par_right r h) = let (m, t, f) = shift⁻ c q r in (m, rule.par_right t (apart_shift⁻ c X p h), f)
shift⁻ c (loop p) (rule.no_loop r h) =
    let (m, t, f) = shift⁻ c p r in (m, rule.no_loop t (λ e. h (f ∙ ap (raise_code c) e ∙ raise_low c 0 (omega arith))), f)
shift⁻ c (loop p) {x = resumed X} {E = E} (rule.loop O₁ O₂ a b h e) =
    let (m, t, f) = shift⁻ c p b in
    let (n, u, v) = shift⁻ c p a in (
      m,
      rule.loop O₁ O₂ (subst (λ (z : ℕ). Derives p (resumed X) E O₁ z 0) (raise_low⁻ c n 0 (omega arith) v) u) t
          (λ i. h (f ∙ ap (raise_code c) i ∙ raise_low c 0 (omega arith))) e,
      f,
    )
shift⁻ c (try p) (rule.try k₁ r e) =
    let (m, t, f) = shift⁻ (suc c) p r in (through m, rule.try m t refl, e ∙ ap through f ∙ raise_through c m)

-- ---- a try around a raised part
pub try_raise : (p : Statement) {x : State} {E O k L : ℕ} → Derives (try (raise p)) x E O k L → Derives p x E O k L
try_raise p {x = x} {E = E} {O = O} {L = L} (rule.try k₁ r e) =
    let (m, t, f) = shift⁻ 0 p r in subst (λ (z : ℕ). Derives p x E O z L) (sym (e ∙ ap through f ∙ through_raise m)) t

pub try_raise⁻ : (p : Statement) {x : State} {E O k L : ℕ} → Derives p x E O k L → Derives (try (raise p)) x E O k L
try_raise⁻ p {k = k} r = rule.try (raise_code 0 k) (shift⁺ 0 p r) (sym (through_raise k))

-- ---- a try at which no exit ends
shift_back : (c e : ℕ) → e ≢ suc c → shift_level suc c (shift_level pred c e) ≡ e
shift_back c e h = go (shifted pred c e) (shifted suc c (shift_level pred c e))
  where
    go : Shifted pred c e → Shifted suc c (shift_level pred c e) → shift_level suc c (shift_level pred c e) ≡ e
    go (inl a) (inl b) = omega arith
    go (inl a) (inr b) = absurd (omega arith)
    go (inr a) (inl b) = absurd (omega arith)
    go (inr a) (inr b) = omega arith

pub raise_lower : (c : ℕ) (p : Statement) → ends_at c p ≡ false → shift_exits suc c (shift_exits pred c p) ≡ p
unfolding shift_exits ends_at
raise_lower c nothing h = refl
raise_lower c (pause l) h = refl
raise_lower c (gotopause l) h = refl
raise_lower c (emit S) h = refl
raise_lower c (exit e) h = ap exit (shift_back c e (differ_eqb e (suc c) h))
raise_lower c (signal S p) h = ap (signal S) (raise_lower c p h)
raise_lower c (present S p q) h = let (u, v) = or_neither (ends_at c p) (ends_at c q) h in ap₂ (present S) (raise_lower c p u) (raise_lower c q v)
raise_lower c (sequence p q) h = let (u, v) = or_neither (ends_at c p) (ends_at c q) h in ap₂ sequence (raise_lower c p u) (raise_lower c q v)
raise_lower c (parallel p q) h = let (u, v) = or_neither (ends_at c p) (ends_at c q) h in ap₂ parallel (raise_lower c p u) (raise_lower c q v)
raise_lower c (loop p) h = ap loop (raise_lower c p h)
raise_lower c (try p) h = ap try (raise_lower (suc c) p h)

pub lowered : (p : Statement) → ends_at 0 p ≡ false → {x : State} {E O k L : ℕ} → Derives (try p) x E O k L → Derives (lower p) x E O k L
lowered p h {x} {E} {O} {k} {L} r = try_raise (lower p) (subst (λ q. Derives (try q) x E O k L) (sym (raise_lower 0 p h)) r)

pub lowered⁻ : (p : Statement) → ends_at 0 p ≡ false → {x : State} {E O k L : ℕ} → Derives (lower p) x E O k L → Derives (try p) x E O k L
lowered⁻ p h {x} {E} {O} {k} {L} r = subst (λ q. Derives (try q) x E O k L) (raise_lower 0 p h) (try_raise⁻ (lower p) r)

-- ---- a branch behind an exit is only resumed
-- "p' ; try (exit 1 ; q') end, where exits of q' that leave q' have their level raised by one"
abbrev pub behind_exit : Statement → Statement
behind_exit q = try (sequence (exit 1) (raise q))

pub exit_not_resumed : {e X E O k L : ℕ} → Derives (exit e) (resumed X) E O k L → ⊥
exit_not_resumed = elim [ ]

pub behind_resumed : (q : Statement) {X E O k L : ℕ} → Derives (behind_exit q) (resumed X) E O k L → Derives q (resumed X) E O k L
behind_resumed q (rule.try k₁ (rule.seq_right r) e) = try_raise q (rule.try k₁ r e)
behind_resumed q (rule.try k₁ (rule.seq_left r h) e) = absurd (exit_not_resumed r)
behind_resumed q (rule.try k₁ (rule.seq O₁ O₂ a b f) e) = absurd (exit_not_resumed a)

pub behind_resumed⁻ : (q : Statement) {X E O k L : ℕ} → Derives q (resumed X) E O k L → Derives (behind_exit q) (resumed X) E O k L
behind_resumed⁻ q {k = k} r = rule.try (raise_code 0 k) (rule.seq_right (shift⁺ 0 q r)) (sym (through_raise k))

-- started, such a try ends at once
pub behind_start : (q : Statement) {E O k L : ℕ} → Derives (behind_exit q) start E O k L → (O ≡ 0) × (k ≡ 0) × (L ≡ 0)
unfolding through code_of
behind_start q (rule.try k₁ (rule.seq_left (rule.exit a b c) h) e) = (a, e ∙ ap through b, c)
behind_start q (rule.try k₁ (rule.seq O₁ O₂ (rule.exit a b c) t f) e) = absurd (omega arith)

pub behind_start⁻ : (q : Statement) (E : ℕ) → Derives (behind_exit q) start E 0 0 0
unfolding through code_of
behind_start⁻ q E = rule.try 2 (rule.seq_left (rule.exit refl refl refl) (λ (e : ◌≡◌ {A = ℕ} 2 0). omega arith)) refl
