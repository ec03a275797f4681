-- Trimming keeps reactions (Lemmas 11 and 12, with the two changes of document 01): for every R and b, a statement and its
-- trimmed form have the same reactions in every state that R and b allow. By induction on the statement: each construct takes
-- reactions of its parts to reactions of the whole, and what trimming drops is nothing or can't be reached.
use mathlib.Core.Path.{◌≡◌, refl, sym, ap, ap₂, ◌∙◌, subst}
use mathlib.Core.Logic.{◌↔◌, ◌≢◌}
use mathlib.Core.Bool.{Bool, true, false, not, ◌||◌, cond}
use Prim.Native.Nat.{ℕ, suc, pred}
use native.Mathlib.Nat.{zero-max, max-zero}
use native.Mathlib.Decide.{ℕ_discrete}
use native.Mathlib.Omega.{arith}
use Rattle.sets.specs.Set.{has, only, ◌union◌, ◌intersect◌, ◌without◌, Apart, Within}
use Rattle.sets.proofs.Booleans.{or_neither, and_both, not_true, clash, by_cond}
use Rattle.sets.proofs.Members.{has_empty, has_intersect, has_only, has_only_equal, empty_union, union_empty, either, in_left, in_right, union_within}
use Rattle.esterel.specs.Statement.{Statement, nothing, pause, gotopause, emit, exit, signal, present, sequence, parallel, loop, try, pauses}
use Rattle.esterel.specs.Trimming.{is_nothing, join_parts, names, ends_at, raise, lower, can_end, trim_loop, trim_signal, trim_present, trim_try, trim}
use Rattle.esterel.specs.Reactions.{State, start, resumed, Derives, reached_together}
use Rattle.esterel.specs.Reactions as rule
use Rattle.esterel.proofs.Premises.{LevelsFromOne}
use Rattle.esterel.proofs.Soundness.{recast, reached_together_other, reached_empty, MeetIn, Allowed, sound_ends}
use Rattle.esterel.proofs.Levels.{exit_not_resumed, pauses_shift, lowered, lowered⁻, behind_exit, behind_resumed, behind_resumed⁻, behind_start, behind_start⁻}
use Rattle.esterel.proofs.Unnamed.{undeclared, undeclared⁻}

-- ---- a fact about what trimming makes, from the fact about each thing that it can be
pub is_nothing_lem : (p : Statement) → is_nothing p ≡ true → p ≡ nothing
unfolding is_nothing
is_nothing_lem nothing h = refl
is_nothing_lem (pause l) h = clash h refl
is_nothing_lem (gotopause l) h = clash h refl
is_nothing_lem (emit S) h = clash h refl
is_nothing_lem (exit e) h = clash h refl
is_nothing_lem (signal S p) h = clash h refl
is_nothing_lem (present S p q) h = clash h refl
is_nothing_lem (sequence p q) h = clash h refl
is_nothing_lem (parallel p q) h = clash h refl
is_nothing_lem (loop p) h = clash h refl
is_nothing_lem (try p) h = clash h refl

pub by_leaf {ℓ} : (P : Statement → Type ℓ) (kept : Bool) (p : Statement) → P p → P nothing → P (cond kept p nothing)
by_leaf P kept p f g = by_cond P kept p nothing (λ e. f) (λ e. g)

pub by_join {ℓ} : (P : Statement → Type ℓ) (f : Statement → Statement → Statement) (p q : Statement)
    → (p ≡ nothing → P q) → (q ≡ nothing → P p) → P (f p q) → P (join_parts f p q)
unfolding join_parts
by_join P f p q g h k =
    by_cond P (is_nothing p) q (cond (is_nothing q) p (f p q)) (λ e. g (is_nothing_lem p e))
    (λ e. by_cond P (is_nothing q) p (f p q) (λ i. h (is_nothing_lem q i)) (λ i. k))

pub join_first : (f : Statement → Statement → Statement) (p q : Statement) → is_nothing q ≡ true → join_parts f p q ≡ p
unfolding join_parts
join_first f p q h = go (is_nothing p) refl
  where
    go : (x : Bool) → is_nothing p ≡ x → cond x q (cond (is_nothing q) p (f p q)) ≡ p
    go true e = is_nothing_lem q h ∙ sym (is_nothing_lem p e)
    go false e = rw h

pub join_both : (f : Statement → Statement → Statement) (p q : Statement) → is_nothing p ≡ false → is_nothing q ≡ false → join_parts f p q ≡ f p q
unfolding join_parts
join_both f p q h k = rw (h, k)

pub by_signal {ℓ} : (P : Statement → Type ℓ) (S : ℕ) (p : Statement)
    → P (signal S p) → (names S p ≡ false → P p) → P (trim_signal S p)
unfolding trim_signal
by_signal P S p f g = by_cond P (names S p) (signal S p) p (λ e. f) g

pub by_present {ℓ} : (P : Statement → Type ℓ) (ends : Bool) (p q : Statement)
    → (q ≡ nothing → P p) → (ends ≡ false → P (join_parts sequence p q)) → (ends ≡ true → is_nothing q ≡ false → P (sequence p (behind_exit q)))
    → P (trim_present ends p q)
unfolding trim_present
by_present P ends p q f g h =
    by_cond P (is_nothing q) p (cond (not ends) (join_parts sequence p q) (sequence p (behind_exit q))) (λ e. f (is_nothing_lem q e))
    (λ e. go ends g (λ i. h i e))
  where
    go : (ends : Bool) → (ends ≡ false → P (join_parts sequence p q)) → (ends ≡ true → P (sequence p (behind_exit q)))
        → P (cond (not ends) (join_parts sequence p q) (sequence p (behind_exit q)))
    go true g h = h refl
    go false g h = g refl

pub by_loop {ℓ} : (P : Statement → Type ℓ) (ends b : Bool) (body : Bool → Statement)
    → (ends ≡ true → P (loop (body true))) → (ends ≡ false → P (body b)) → P (trim_loop ends b body)
unfolding trim_loop
by_loop P true b body f g = f refl
by_loop P false b body f g = g refl

pub by_try {ℓ} : (P : Statement → Type ℓ) (p : Statement) → P (try p) → (ends_at 0 p ≡ false → P (lower p)) → P (trim_try p)
unfolding trim_try
by_try P p f g = by_cond P (ends_at 0 p) (try p) (lower p) (λ e. f) g

-- ---- the pauses of a trimmed statement
pub pauses_join : (f : Statement → Statement → Statement) (p q : Statement) → pauses (f p q) ≡ pauses p union pauses q
    → pauses (join_parts f p q) ≡ pauses p union pauses q
unfolding pauses
pauses_join f p q h =
    by_join (λ z. pauses z ≡ pauses p union pauses q) f p q
    (λ e. sym (ap (λ z. pauses z union pauses q) e ∙ empty_union (pauses q)))
    (λ e. sym (ap (λ z. pauses p union pauses z) e ∙ union_empty (pauses p))) h

pub pauses_present : (ends : Bool) (p q : Statement) → pauses (trim_present ends p q) ≡ pauses p union pauses q
unfolding pauses
pauses_present ends p q =
    by_present (λ z. pauses z ≡ pauses p union pauses q) ends p q
    (λ e. sym (ap (λ z. pauses p union pauses z) e ∙ union_empty (pauses p)))
    (λ e. pauses_join sequence p q refl)
    (λ e i. ap (λ (z : ℕ). pauses p union z) (empty_union (pauses (raise q)) ∙ pauses_shift suc 0 q))

pub pauses_try : (p : Statement) → pauses (trim_try p) ≡ pauses p
unfolding pauses
pauses_try p = by_try (λ z. pauses z ≡ pauses p) p refl (λ e. pauses_shift pred 0 p)

pub pauses_signal : (S : ℕ) (p : Statement) → pauses (trim_signal S p) ≡ pauses p
unfolding pauses
pauses_signal S p = by_signal (λ z. pauses z ≡ pauses p) S p refl (λ e. refl)

-- the labels t are those of a that are in R, and perhaps others of a
abbrev pub Between : ℕ → ℕ → ℕ → Type 0
Between R a t = Within t a × MeetIn t R a

between_itself : (R a : ℕ) → Between R a a
between_itself R a = (λ l h. h, λ l k h. h)

between_union : (R a t b u : ℕ) → Between R a t → Between R b u → Between R (a union b) (t union u)
between_union R a t b u f g =
    (union_within t u a b f.0 g.0, λ l k h. either a b l h (λ m. in_left t u l (f.1 l k m)) (λ m. in_right t u l (g.1 l k m)))

module _ (R : ℕ) where
  leaf_pauses : (b : Bool) (p : Statement) → pauses p ≡ 0 → Between R (pauses p) (pauses (cond b p nothing))
  unfolding pauses
  leaf_pauses true p e = between_itself R (pauses p)
  leaf_pauses false p e = rw e (between_itself R 0)

  pub kept_pauses : (p : Statement) (b : Bool) → Between R (pauses p) (pauses (trim R b p))
  unfolding trim pauses
  kept_pauses nothing b = between_itself R 0
  kept_pauses (pause m) b =
      by_cond (λ z. Between R (only m) (pauses z)) (b || has R m) (pause m) nothing
      (λ e. between_itself R (only m))
      (λ e. (
        λ l h. clash h (has_empty l),
        λ l k h. clash (subst (λ (z : ℕ). has R z ≡ true) (sym (has_only_equal m l h)) k) (or_neither b (has R m) e).1,
      ))
  kept_pauses (gotopause m) b = leaf_pauses b (gotopause m) refl
  kept_pauses (emit S) b = leaf_pauses b (emit S) refl
  kept_pauses (exit e) b = leaf_pauses b (exit e) refl
  kept_pauses (signal S p) b = rw (pauses_signal S (trim R b p)) (kept_pauses p b)
  kept_pauses (present S p q) true =
      between_union R (pauses p) (pauses (trim R true p)) (pauses q) (pauses (trim R true q)) (kept_pauses p true) (kept_pauses q true)
  kept_pauses (present S p q) false =
      rw (pauses_present (can_end R false p) (trim R false p) (trim R false q))
      (between_union R (pauses p) (pauses (trim R false p)) (pauses q) (pauses (trim R false q)) (kept_pauses p false) (kept_pauses q false))
  kept_pauses (sequence p q) b =
      let c : Bool = can_end R b p in
      rw (pauses_join sequence (trim R b p) (trim R c q) refl)
      (between_union R (pauses p) (pauses (trim R b p)) (pauses q) (pauses (trim R c q)) (kept_pauses p b) (kept_pauses q c))
  kept_pauses (parallel p q) b =
      rw (pauses_join parallel (trim R b p) (trim R b q) refl)
      (between_union R (pauses p) (pauses (trim R b p)) (pauses q) (pauses (trim R b q)) (kept_pauses p b) (kept_pauses q b))
  kept_pauses (loop p) b =
      by_loop (λ z. Between R (pauses p) (pauses z)) (can_end R b p) b (λ c. trim R c p) (λ e. kept_pauses p true) (λ e. kept_pauses p b)
  kept_pauses (try p) b = rw (pauses_try (trim R b p)) (kept_pauses p b)

-- ---- the same reactions in a state
abbrev pub Into : Statement → Statement → State → Type 0
Into p q x = (E O k L : ℕ) → Derives p x E O k L → Derives q x E O k L

abbrev pub Same : Statement → Statement → State → Type 0
Same p q x = Into p q x × Into q p x

then : (p q r : Statement) (x : State) → Same p q x → Same q r x → Same p r x
then p q r x a b = (λ E O k L t. b.0 E O k L (a.0 E O k L t), λ E O k L t. a.1 E O k L (b.1 E O k L t))

itself : (p : Statement) (x : State) → Same p p x
itself p x = (λ E O k L t. t, λ E O k L t. t)

ended_empty : {p : Statement} {x : State} {E O k L : ℕ} → k ≡ 0 → Derives p x E O k L → L ≡ 0
ended_empty e r = reached_empty r (λ f. omega arith)

-- ---- parts that are nothing are dropped
nothing_not_resumed : {X E O k L : ℕ} → Derives nothing (resumed X) E O k L → ⊥
nothing_not_resumed = elim [ ]

before_seq : (q : Statement) (x : State) → Same (sequence nothing q) q x
before_seq q x = (there x, back x)
  where
    there : (x : State) → Into (sequence nothing q) q x
    there x E O k L (rule.seq_left (rule.nothing a b c) h) = absurd (h b)
    there x E O k L (rule.seq O₁ O₂ (rule.nothing a b c) t e) = recast (e ∙ ap (λ (z : ℕ). z union O₂) a ∙ empty_union O₂) refl refl t
    there x E O k L (rule.seq_right r) = r

    back : (x : State) → Into q (sequence nothing q) x
    back start E O k L r = rule.seq 0 O (rule.nothing refl refl refl) r (sym (empty_union O))
    back (resumed X) E O k L r = rule.seq_right r

-- what follows p only ends at once: it adds nothing to p started, and it may be left out
after_ending : (p q : Statement) (x : State) → ((E : ℕ) → Derives q start E 0 0 0) → Into p (sequence p q) x
after_ending p q x f E O k L r = go (ℕ_discrete k 0)
  where
    go : Dec (k ≡ 0) → Derives (sequence p q) x E O k L
    go (yes e) = rule.seq O 0 (recast refl (sym e) (sym (ended_empty e r)) r) (recast refl e (ended_empty e r) (f E)) (sym (union_empty O))
    go (no h) = rule.seq_left r h

after_seq : (p : Statement) (x : State) → Same (sequence p nothing) p x
after_seq p x = (there x, after_ending p nothing x (λ E. rule.nothing refl refl refl))
  where
    there : (x : State) → Into (sequence p nothing) p x
    there x E O k L (rule.seq_left r h) = r
    there x E O k L (rule.seq O₁ O₂ a (rule.nothing u v w) e) = recast (e ∙ ap (λ (z : ℕ). O₁ union z) u ∙ union_empty O₁) v w a
    there x E O k L (rule.seq_right r) = absurd (nothing_not_resumed r)

-- with a side that reaches no label, the other side's labels stay
together_empty : (k L : ℕ) → (k ≢ 1 → L ≡ 0) → (reached_together k 0 L ≡ L) × (reached_together k L 0 ≡ L)
unfolding reached_together
together_empty k L h = go (ℕ_discrete k 1)
  where
    go : Dec (k ≡ 1) → (reached_together k 0 L ≡ L) × (reached_together k L 0 ≡ L)
    go (yes e) = rw e (empty_union L, union_empty L)
    go (no n) = (reached_together_other k 0 L n ∙ sym (h n), reached_together_other k L 0 n ∙ sym (h n))

before_par : (q : Statement) (x : State) → Same (parallel nothing q) q x
unfolding pauses
before_par q x = (there x, back x)
  where
    there : (x : State) → Into (parallel nothing q) q x
    there x E O k L (rule.par O₁ k₁ L₁ O₂ k₂ L₂ (rule.nothing a b c) t e f g) =
        let k-is : k ≡ k₂ = omega arith in
        recast (e ∙ ap (λ (z : ℕ). z union O₂) a ∙ empty_union O₂) k-is
        (g ∙ ap₂ (λ (y z : ℕ). reached_together y z L₂) k-is c ∙ (together_empty k₂ L₂ (reached_empty t)).0) t
    there x E O k L (rule.par_left r h) = absurd (nothing_not_resumed r)
    there x E O k L (rule.par_right r h) = r

    back : (x : State) → Into q (parallel nothing q) x
    back start E O k L r =
        rule.par 0 0 0 O k L (rule.nothing refl refl refl) r (sym (empty_union O)) (sym (zero-max k)) (sym (together_empty k L (reached_empty r)).0)
    back (resumed X) E O k L r = rule.par_right r (λ l u. has_empty l)

after_par : (p : Statement) (x : State) → Same (parallel p nothing) p x
unfolding pauses
after_par p x = (there x, back x)
  where
    there : (x : State) → Into (parallel p nothing) p x
    there x E O k L (rule.par O₁ k₁ L₁ O₂ k₂ L₂ t (rule.nothing a b c) e f g) =
        let k-is : k ≡ k₁ = omega arith in
        recast (e ∙ ap (λ (z : ℕ). O₁ union z) a ∙ union_empty O₁) k-is
        (g ∙ ap₂ (λ (y z : ℕ). reached_together y L₁ z) k-is c ∙ (together_empty k₁ L₁ (reached_empty t)).1) t
    there x E O k L (rule.par_left r h) = r
    there x E O k L (rule.par_right r h) = absurd (nothing_not_resumed r)

    back : (x : State) → Into p (parallel p nothing) x
    back start E O k L r =
        rule.par O k L 0 0 0 r (rule.nothing refl refl refl) (sym (union_empty O)) (sym (max-zero k)) (sym (together_empty k L (reached_empty r)).1)
    back (resumed X) E O k L r = rule.par_left r (λ l u. has_empty l)

drop_parts : (f : Statement → Statement → Statement) (x : State) → ((q : Statement) → Same (f nothing q) q x)
    → ((p : Statement) → Same (f p nothing) p x) → (p q : Statement) → Same (f p q) (join_parts f p q) x
drop_parts f x before after p q =
    by_join (λ z. Same (f p q) z x) f p q (λ e. rw e (before q)) (λ e. rw e (after p)) (itself (f p q) x)

-- ---- each construct takes reactions of its parts to reactions of the whole
abbrev IsResumed : State → Type 0
IsResumed start = ⊥
IsResumed (resumed X) = Unit {0}

signal_into : (S : ℕ) (p p' : Statement) (x : State) → Into p p' x → Into (signal S p) (signal S p') x
signal_into S p p' x f E O k L (rule.signal+ O₁ r h e) = rule.signal+ O₁ (f (E union only S) O₁ k L r) h e
signal_into S p p' x f E O k L (rule.signal- r) = rule.signal- (f (E without S) O k L r)

present_into : (S : ℕ) (p p' q q' : Statement) (x : State) → Into p p' x → Into q q' x → Into (present S p q) (present S p' q') x
present_into S p p' q q' start f g E O k L (rule.present h r) = rule.present h (f E O k L r)
present_into S p p' q q' start f g E O k L (rule.absent h r) = rule.absent h (g E O k L r)
present_into S p p' q q' (resumed X) f g E O k L (rule.present_left r) = rule.present_left (f E O k L r)
present_into S p p' q q' (resumed X) f g E O k L (rule.present_right r) = rule.present_right (g E O k L r)

-- q is started only where p ends, and resumed only where the whole is
seq_into : (p p' q q' : Statement) (x : State) → Into p p' x → ((E O : ℕ) → Derives p x E O 0 0 → Into q q' start)
    → (IsResumed x → Into q q' x) → Into (sequence p q) (sequence p' q') x
seq_into p p' q q' x f g h E O k L (rule.seq_left r n) = rule.seq_left (f E O k L r) n
seq_into p p' q q' x f g h E O k L (rule.seq O₁ O₂ a b e) = rule.seq O₁ O₂ (f E O₁ 0 0 a) (g E O₁ a E O₂ k L b) e
seq_into p p' q q' (resumed X) f g h E O k L (rule.seq_right r) = rule.seq_right (h tt E O k L r)

-- a state without pauses of q has none of q'
abbrev Cut : State → Statement → Statement → Type 0
Cut start q q' = Unit {0}
Cut (resumed X) q q' = Apart X (pauses q) → Apart X (pauses q')

par_into : (p p' q q' : Statement) (x : State) → Into p p' x → Into q q' x → Cut x p p' → Cut x q q' → Into (parallel p q) (parallel p' q') x
par_into p p' q q' x f g h i E O k L (rule.par O₁ k₁ L₁ O₂ k₂ L₂ a b e u v) =
    rule.par O₁ k₁ L₁ O₂ k₂ L₂ (f E O₁ k₁ L₁ a) (g E O₂ k₂ L₂ b) e u v
par_into p p' q q' (resumed X) f g h i E O k L (rule.par_left r n) = rule.par_left (f E O k L r) (i n)
par_into p p' q q' (resumed X) f g h i E O k L (rule.par_right r n) = rule.par_right (g E O k L r) (h n)

loop_into : (p p' : Statement) (x : State) → Into p p' x → Into p p' start → Into (loop p) (loop p') x
loop_into p p' x f g E O k L (rule.no_loop r h) = rule.no_loop (f E O k L r) h
loop_into p p' (resumed X) f g E O k L (rule.loop O₁ O₂ a b h e) = rule.loop O₁ O₂ (f E O₁ 0 0 a) (g E O₂ k L b) h e

try_into : (p p' : Statement) (x : State) → Into p p' x → Into (try p) (try p') x
try_into p p' x f E O k L (rule.try k₁ r e) = rule.try k₁ (f E O k₁ L r) e

-- ---- trimming keeps the reactions of each construct
emit_not_resumed : {S X E O k L : ℕ} → Derives (emit S) (resumed X) E O k L → ⊥
emit_not_resumed = elim [ ]

goto_not_resumed : {l X E O k L : ℕ} → Derives (gotopause l) (resumed X) E O k L → ⊥
goto_not_resumed = elim [ ]

not_resumed : (p : Statement) (X : ℕ) → ((E O k L : ℕ) → Derives p (resumed X) E O k L → ⊥) → Same p nothing (resumed X)
not_resumed p X f = (λ E O k L r. absurd (f E O k L r), λ E O k L r. absurd (nothing_not_resumed r))

same_signal : (S : ℕ) (p p' : Statement) (x : State) → Same p p' x → Same (signal S p) (trim_signal S p') x
same_signal S p p' x f =
    let kept : Same (signal S p) (signal S p') x = (signal_into S p p' x f.0, signal_into S p' p x f.1) in
    by_signal (λ z. Same (signal S p) z x) S p' kept
    (λ e. then (signal S p) (signal S p') p' x kept (λ E O k L r. undeclared S p' e r, λ E O k L r. undeclared⁻ S p' e r))

same_try : (p p' : Statement) (x : State) → Same p p' x → Same (try p) (trim_try p') x
same_try p p' x f =
    let kept : Same (try p) (try p') x = (try_into p p' x f.0, try_into p' p x f.1) in
    by_try (λ z. Same (try p) z x) p' kept
    (λ e. then (try p) (try p') (lower p') x kept (λ E O k L r. lowered p' e r, λ E O k L r. lowered⁻ p' e r))

module _ (R : ℕ) where
  -- what R and b allow for the whole they allow for a part
  allowed_part : (b : Bool) (w p : Statement) (x : State) → Within (pauses p) (pauses w) → Allowed R b w x → Allowed R b p x
  allowed_part b w p start f v = v
  allowed_part b w p (resumed X) f v = λ l h k. v l h (f l k)

  -- the flag matters only at the start, and there it is 1
  allowed_resumed : (b c : Bool) (p : Statement) (x : State) → IsResumed x → Allowed R b p x → Allowed R c p x
  allowed_resumed b c p start t v = absurd t
  allowed_resumed b c p (resumed X) t v = v

  allowed_started : (b : Bool) (p : Statement) (x : State) → Allowed R b p x → Allowed R true p x
  allowed_started b p start v = refl
  allowed_started b p (resumed X) v = v

  cut : (p : Statement) (b : Bool) (x : State) → Allowed R b p x → Cut x p (trim R b p)
  cut p b start v = tt
  cut p b (resumed X) v = λ a l h. not_true (has (pauses (trim R b p)) l) (λ e. clash ((kept_pauses R p b).0 l e) (a l h))

  cut⁻ : (p : Statement) (b : Bool) (x : State) → Allowed R b p x → Cut x (trim R b p) p
  cut⁻ p b start v = tt
  cut⁻ p b (resumed X) v = λ a l h. not_true (has (pauses p) l) (λ e. clash ((kept_pauses R p b).1 l (v l h e) e) (a l h))

  same_leaf : (p : Statement) → ((X E O k L : ℕ) → Derives p (resumed X) E O k L → ⊥) → (b : Bool) (x : State) → Allowed R b p x
      → Same p (cond b p nothing) x
  same_leaf p f true x v = itself p x
  same_leaf p f false start v = clash v refl
  same_leaf p f false (resumed X) v = not_resumed p X (f X)

  same_pause : (l : ℕ) (b : Bool) (x : State) → Allowed R b (pause l) x → Same (pause l) (cond (b || has R l) (pause l) nothing) x
  unfolding pauses
  same_pause l b x v =
      by_cond (λ z. Same (pause l) z x) (b || has R l) (pause l) nothing (λ e. itself (pause l) x) (λ e. go x v (or_neither b (has R l) e))
    where
      out : (X : ℕ) → Allowed R b (pause l) (resumed X) → has R l ≡ false → (E O k L : ℕ) → Derives (pause l) (resumed X) E O k L → ⊥
      out X v n E O k L (rule.resume h a b c) = clash (v l h (has_only l)) n

      go : (x : State) → Allowed R b (pause l) x → (b ≡ false) × (has R l ≡ false) → Same (pause l) nothing x
      go start v n = clash v n.0
      go (resumed X) v n = not_resumed (pause l) X (out X v n.1)

  -- a resumed present, its branches trimmed to p' and q'
  same_present : (S : ℕ) (p q : Statement) (X : ℕ) → LevelsFromOne p → Allowed R false p (resumed X) → (p' q' : Statement)
      → Same p p' (resumed X) → Same q q' (resumed X) → Same (present S p q) (trim_present (can_end R false p) p' q') (resumed X)
  same_present S p q X w v p' q' f g =
      by_present (λ z. Same (present S p q) z (resumed X)) (can_end R false p) p' q'
      (λ e. (only_p e, λ E O k L r. rule.present_left (f.1 E O k L r)))
      (λ n. then (present S p q) (sequence p' q') (join_parts sequence p' q') (resumed X) (one_by_one n, one_by_one⁻ n)
      (drop_parts sequence (resumed X) (λ q. before_seq q (resumed X)) (λ p. after_seq p (resumed X)) p' q'))
      (λ e i. (guarded, guarded⁻))
    where
      only_p : q' ≡ nothing → Into (present S p q) p' (resumed X)
      only_p e E O k L (rule.present_left r) = f.0 E O k L r
      only_p e E O k L (rule.present_right r) = absurd (nothing_not_resumed (subst (λ z. Derives z (resumed X) E O k L) e (g.0 E O k L r)))

      -- p cannot end, so q' is not started after p'
      one_by_one : can_end R false p ≡ false → Into (present S p q) (sequence p' q') (resumed X)
      one_by_one n E O k L (rule.present_left r) =
          rule.seq_left (f.0 E O k L r) (λ z. clash (sound_ends R false p (resumed X) w v (subst (λ (m : ℕ). Derives p (resumed X) E O m L) z r)) n)
      one_by_one n E O k L (rule.present_right r) = rule.seq_right (g.0 E O k L r)

      one_by_one⁻ : can_end R false p ≡ false → Into (sequence p' q') (present S p q) (resumed X)
      one_by_one⁻ n E O k L (rule.seq_left r h) = rule.present_left (f.1 E O k L r)
      one_by_one⁻ n E O k L (rule.seq O₁ O₂ a b e) = clash (sound_ends R false p (resumed X) w v (f.1 E O₁ 0 0 a)) n
      one_by_one⁻ n E O k L (rule.seq_right r) = rule.present_right (g.1 E O k L r)

      guarded : Into (present S p q) (sequence p' (behind_exit q')) (resumed X)
      guarded E O k L (rule.present_left r) = after_ending p' (behind_exit q') (resumed X) (behind_start⁻ q') E O k L (f.0 E O k L r)
      guarded E O k L (rule.present_right r) = rule.seq_right (behind_resumed⁻ q' (g.0 E O k L r))

      guarded⁻ : Into (sequence p' (behind_exit q')) (present S p q) (resumed X)
      guarded⁻ E O k L (rule.seq_left r h) = rule.present_left (f.1 E O k L r)
      guarded⁻ E O k L (rule.seq O₁ O₂ a b e) =
          let t = behind_start q' b in
          recast (e ∙ ap (λ (z : ℕ). O₁ union z) t.0 ∙ union_empty O₁) t.1 t.2 (rule.present_left (f.1 E O₁ 0 0 a))
      guarded⁻ E O k L (rule.seq_right r) = rule.present_right (g.1 E O k L (behind_resumed q' r))

  -- a loop whose body cannot end is its body
  same_once : (p p' : Statement) (b : Bool) (x : State) → LevelsFromOne p → Allowed R b p x → can_end R b p ≡ false → Same p p' x → Same (loop p) p' x
  same_once p p' b x w v n f = (there x v f.0, back)
    where
      there : (x : State) → Allowed R b p x → Into p p' x → Into (loop p) p' x
      there x v f E O k L (rule.no_loop r h) = f E O k L r
      there (resumed X) v f E O k L (rule.loop O₁ O₂ a b' h i) = clash (sound_ends R b p (resumed X) w v a) n

      back : Into p' (loop p) x
      back E O k L r =
          let t = f.1 E O k L r in
          rule.no_loop t (λ z. clash (sound_ends R b p x w v (subst (λ (m : ℕ). Derives p x E O m L) z t)) n)

  same_loop : (p : Statement) (b : Bool) (x : State) → LevelsFromOne p → Allowed R b p x
      → Same p (trim R true p) x → Same p (trim R true p) start → Same p (trim R b p) x → Same (loop p) (trim R b (loop p)) x
  unfolding trim
  same_loop p b x w v f g h =
      by_loop (λ z. Same (loop p) z x) (can_end R b p) b (λ c. trim R c p)
      (λ e. (loop_into p (trim R true p) x f.0 g.0, loop_into (trim R true p) p x f.1 g.1))
      (λ e. same_once p (trim R b p) b x w v e h)

  same : (p : Statement) (b : Bool) (x : State) → LevelsFromOne p → Allowed R b p x → Same p (trim R b p) x
  unfolding trim LevelsFromOne pauses
  same nothing b x w v = itself nothing x
  same (pause l) b x w v = same_pause l b x v
  same (gotopause l) b x w v = same_leaf (gotopause l) (λ X E O k L r. goto_not_resumed r) b x v
  same (emit S) b x w v = same_leaf (emit S) (λ X E O k L r. emit_not_resumed r) b x v
  same (exit e) b x w v = same_leaf (exit e) (λ X E O k L r. exit_not_resumed r) b x v
  same (signal S p) b x w v = same_signal S p (trim R b p) x (same p b x w (allowed_part b (signal S p) p x (λ l h. h) v))
  same (present S p q) true x w v =
      let f = same p true x w.0 (allowed_part true (present S p q) p x (in_left (pauses p) (pauses q)) v) in
      let g = same q true x w.1 (allowed_part true (present S p q) q x (in_right (pauses p) (pauses q)) v) in
      (present_into S p (trim R true p) q (trim R true q) x f.0 g.0, present_into S (trim R true p) p (trim R true q) q x f.1 g.1)
  same (present S p q) false start w v = clash v refl
  same (present S p q) false (resumed X) w v =
      let u = allowed_part false (present S p q) p (resumed X) (in_left (pauses p) (pauses q)) v in
      same_present S p q X w.0 u (trim R false p) (trim R false q) (same p false (resumed X) w.0 u)
      (same q false (resumed X) w.1 (allowed_part false (present S p q) q (resumed X) (in_right (pauses p) (pauses q)) v))
  same (sequence p q) b x w v =
      let c : Bool = can_end R b p in
      let u = allowed_part b (sequence p q) p x (in_left (pauses p) (pauses q)) v in
      let y = allowed_part b (sequence p q) q x (in_right (pauses p) (pauses q)) v in
      let f = same p b x w.0 u in
      then (sequence p q) (sequence (trim R b p) (trim R c q)) (join_parts sequence (trim R b p) (trim R c q)) x (
        seq_into p (trim R b p) q (trim R c q) x f.0
            (λ E O r. (same q c start w.1 (sound_ends R b p x w.0 u r)).0)
            (λ t. (same q c x w.1 (allowed_resumed b c q x t y)).0),
        seq_into (trim R b p) p (trim R c q) q x f.1
            (λ E O r. (same q c start w.1 (sound_ends R b p x w.0 u (f.1 E O 0 0 r))).1)
            (λ t. (same q c x w.1 (allowed_resumed b c q x t y)).1),
      )
      (drop_parts sequence x (λ q. before_seq q x) (λ p. after_seq p x) (trim R b p) (trim R c q))
  same (parallel p q) b x w v =
      let u = allowed_part b (parallel p q) p x (in_left (pauses p) (pauses q)) v in
      let y = allowed_part b (parallel p q) q x (in_right (pauses p) (pauses q)) v in
      let f = same p b x w.0 u in
      let g = same q b x w.1 y in
      then (parallel p q) (parallel (trim R b p) (trim R b q)) (join_parts parallel (trim R b p) (trim R b q)) x (
        par_into p (trim R b p) q (trim R b q) x f.0 g.0 (cut p b x u) (cut q b x y),
        par_into (trim R b p) p (trim R b q) q x f.1 g.1 (cut⁻ p b x u) (cut⁻ q b x y),
      )
      (drop_parts parallel x (λ q. before_par q x) (λ p. after_par p x) (trim R b p) (trim R b q))
  same (loop p) b x w v =
      let u = allowed_part b (loop p) p x (λ l h. h) v in
      same_loop p b x w u (same p true x w (allowed_started b p x u)) (same p true start w refl) (same p b x w u)
  same (try p) b x w v = same_try p (trim R b p) x (same p b x w (allowed_part b (try p) p x (λ l h. h) v))

-- ---- the theorem
pub trim_keeps : (R : ℕ) (b : Bool) (p : Statement) (x : State) → LevelsFromOne p → Allowed R b p x
    → (E O k L : ℕ) → Derives p x E O k L ↔ Derives (trim R b p) x E O k L
trim_keeps R b p x w v E O k L = let f = same R p b x w v in (f.0 E O k L, f.1 E O k L)

-- Lemma 11, whatever R: what a statement does when started is kept with the flag 1
pub trim_keeps_start : (R : ℕ) (p : Statement) → LevelsFromOne p
    → (E O k L : ℕ) → Derives p start E O k L ↔ Derives (trim R true p) start E O k L
trim_keeps_start R p w = trim_keeps R true p start w refl

-- Lemma 12, whatever b: what it does when resumed is kept in every state whose pause labels are in R
pub trim_keeps_resumed : (R : ℕ) (b : Bool) (p : Statement) (X : ℕ) → LevelsFromOne p → Within (X intersect pauses p) R
    → (E O k L : ℕ) → Derives p (resumed X) E O k L ↔ Derives (trim R b p) (resumed X) E O k L
trim_keeps_resumed R b p X w v =
    trim_keeps R b p (resumed X) w (λ l h k. v l (has_intersect X (pauses p) l ∙ and_both (has X l) (has (pauses p) l) h k))
