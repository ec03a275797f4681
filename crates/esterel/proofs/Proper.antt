-- A row's condition is on slots of unknown signals only, some set meets it, and it has the slots of the unknown signals that the row
-- emits. Every way to make rows keeps that.
use mathlib.Core.Path.{◌≡◌, refl, sym, ap, ◌∙◌, subst}
use mathlib.Core.Logic.{◌≢◌, ◌⊎◌, inl, inr, ⊎_elim}
use mathlib.Core.Bool.{Bool, true, false, cond, not}
use mathlib.Core.List.{List, [], ◌∷◌, ◌++◌}
use Prim.Native.Nat.{ℕ}
use lib.Dec.{eqb}
use Rattle.sets.specs.Set.{has, only, ◌union◌, ◌intersect◌, ◌without◌, Within, Apart}
use Rattle.sets.proofs.Booleans.{clash, by_cond}
use Rattle.sets.proofs.Members.{has_empty, has_only, has_only_equal, has_without_other, test_apart, either, in_left, in_right, union_within_both}
use Rattle.esterel.specs.Codes.{through}
use Rattle.esterel.specs.Reactions.{Reaction}
use Rattle.esterel.specs.Listing.{Listed, reaction, pair}
use Rattle.esterel.specs.inner.Conditions.{slot_of, seen, Condition, condition, always, both, clashes, forget}
use Rattle.esterel.specs.inner.Rows.{Row, row_when, sure, only_rows, each_row, given, then, tested, asked, emit_rows, hidden, local_row, local_rows, hide_rows, follow_rows, together_rows, going_rows, caught_rows}
use Rattle.esterel.specs.inner.CappedRows.{before_row, insert_row, sorted_rows}
use Rattle.esterel.proofs.Conditions.{other}
use Rattle.esterel.proofs.Slots.{slot_injective, has_seen, seen_added}

-- ---- what holds of every row
pub data All (P : Row → Type 0) : List Row → Type 0 where
  none : All P []
  more : {w : Row} {ws : List Row} → P w → All P ws → All P (w ∷ ws)

pub all_append : {P : Row → Type 0} {ws vs : List Row} → All P ws → All P vs → All P (ws ++ vs)
all_append none k = k
all_append (more a h) k = more a (all_append h k)

pub all_cond : {P : Row → Type 0} {ws vs : List Row} (b : Bool) → All P ws → All P vs → All P (cond b ws vs)
all_cond true h k = h
all_cond false h k = k

all_each : {P Q : Row → Type 0} {ws : List Row} (f : Row → List Row) → ((w : Row) → P w → All Q (f w)) → All P ws → All Q (each_row ws f)
unfolding each_row
all_each f g none = none
all_each f g (more {w = w} a h) = all_append (g w a) (all_each f g h)

pub all_out : {P : Row → Type 0} {ws : List Row} → All P ws → (w : Row) → Listed w ws → P w
all_out {P} (more a h) w (inl e) = subst P (sym e) a
all_out (more a h) w (inr m) = all_out h w m
all_out {P = P} none w x3 = elim x3 [ ]

all_insert : {P : Row → Type 0} {vs : List Row} (w : Row) → P w → All P vs → All P (insert_row w vs)
unfolding insert_row
all_insert w a none = more a none
all_insert w a (more {w = v} {ws = vs} b h) =
    all_cond (before_row w v) (more a (more b h)) (all_cond (before_row v w) (more b (all_insert w a h)) (more b h))

pub all_sorted : {P : Row → Type 0} {ws : List Row} → All P ws → All P (sorted_rows ws)
unfolding sorted_rows
all_sorted none = none
all_sorted (more {w = w} a h) = all_insert w a (all_sorted h)

-- ---- proper rows

-- the condition is on slots of signals of U, does not clash, and has the slots of the signals of U that the row emits, but for
-- those of O
pub record Proper (M U O : ℕ) (w : Row) : Type 0 where
  pub ons : Within w.when.on (seen M U)
  pub offs : Within w.when.off (seen M U)
  pub apart : Apart w.when.on w.when.off
  pub emits : (S : ℕ) → has U S ≡ true → has w.reacts.emitted S ≡ true → (has O S ≡ true) ⊎ (has w.when.on (slot_of M S) ≡ true)

-- an unknown signal that is emitted has to be present
pub emitted_needed : {M U : ℕ} {w : Row} → Proper M U 0 w → (S : ℕ) → has U S ≡ true → has w.reacts.emitted S ≡ true → has w.when.on (slot_of M S) ≡ true
emitted_needed k S u o = ⊎_elim (λ z. clash z (has_empty S)) (λ z. z) (k.emits S u o)

pub within_none : (U : ℕ) → Within 0 U
within_none U x h = clash h (has_empty x)

proper_sure : {M U O : ℕ} {r : Reaction} → Within r.emitted O → All (Proper M U O) (sure r)
unfolding always
proper_sure {M} {U} f = more (record { ons = within_none (seen M U); offs = within_none (seen M U); apart = λ x h. has_empty x; emits = λ S u h. inl (f S h) }) none

not_clashing : (c : Condition) → not (clashes c) ≡ true → Apart c.on c.off
unfolding clashes
not_clashing c e = test_apart c.on c.off (go (eqb (c.on intersect c.off) 0) e)
  where
    go : (b : Bool) → not (not b) ≡ true → b ≡ true
    go true h = refl
    go false h = h

-- c has, but for those of O, the slots of the signals of Q
proper_given : {M U O Q : ℕ} {ws : List Row} (c : Condition) → Within c.on (seen M U) → Within c.off (seen M U)
    → ((S : ℕ) → has U S ≡ true → has Q S ≡ true → (has O S ≡ true) ⊎ (has c.on (slot_of M S) ≡ true)) → All (Proper M U Q) ws → All (Proper M U O) (given c ws)
unfolding given both
proper_given {M} {U} {O} {Q} c a b f h =
    all_each (λ w. only_rows (not (clashes (both c w.when))) (row_when (both c w.when) w.reacts ∷ []))
    (λ w k. by_cond (All (Proper M U O)) (not (clashes (both c w.when))) (row_when (both c w.when) w.reacts ∷ []) [] (λ e. more (record {
      ons = union_within_both c.on w.when.on (seen M U) a k.ons;
      offs = union_within_both c.off w.when.off (seen M U) b k.offs;
      apart = not_clashing (both c w.when) e;
      emits = λ S u e. ⊎_elim (λ q. ⊎_elim inl (λ z. inr (in_left c.on w.when.on (slot_of M S) z)) (f S u q))
          (λ q. inr (in_right c.on w.when.on (slot_of M S) q)) (k.emits S u e);
    }) none) (λ e. none)) h

-- what joins a reaction to others, for sequence, loop, parallel and try
proper_then : {M U O : ℕ} {ws : List Row} (f : Reaction → List Row) → ((r : Reaction) → All (Proper M U (O union r.emitted)) (f r)) → All (Proper M U 0) ws
    → All (Proper M U O) (then ws f)
unfolding then
proper_then {M} {U} {O} f g h =
    all_each (λ w. given w.when (f w.reacts))
    (λ w k. proper_given w.when k.ons k.offs
    (λ S u q. either O w.reacts.emitted S q (λ e. inl e) (λ e. inr (emitted_needed k S u e))) (g w.reacts)) h

alone : (M S U : ℕ) → Within U M → has U S ≡ true → Within (only (slot_of M S)) (seen M U)
alone M S U v u x m = subst (λ (z : ℕ). has (seen M U) z ≡ true) (has_only_equal (slot_of M S) x m) (has_seen M U S (v S u) ∙ u)

pub proper_emit : (M S E U : ℕ) → Within U M → All (Proper M U 0) (emit_rows M S E U)
unfolding emit_rows always
proper_emit M S E U v =
    by_cond (All (Proper M U 0)) (has U S) (row_when (condition (only (slot_of M S)) 0) (reaction (only S) 0 0) ∷ []) (only_rows (has E S) (sure (reaction (only S) 0 0)))
    (λ e. more (record {
      ons = alone M S U v e;
      offs = within_none (seen M U);
      apart = λ x h. has_empty x;
      emits = λ x u h. inr (subst (λ (z : ℕ). has (only (slot_of M S)) (slot_of M z) ≡ true) (has_only_equal S x h) (has_only (slot_of M S)));
    }) none)
    (λ e. all_cond (has E S) (more (record {
      ons = within_none (seen M U);
      offs = within_none (seen M U);
      apart = λ x h. has_empty x;
      emits = λ x u h. clash u (subst (λ (z : ℕ). has U z ≡ false) (has_only_equal S x h) e);
    }) none) none)

pub proper_tested : (M S U : ℕ) {ws vs : List Row} → Within U M → has U S ≡ true → All (Proper M U 0) ws → All (Proper M U 0) vs
    → All (Proper M U 0) (tested (slot_of M S) ws vs)
unfolding tested
proper_tested M S U v e h k =
    all_append (proper_given (condition (only (slot_of M S)) 0) (alone M S U v e) (within_none (seen M U)) (λ x u z. clash z (has_empty x)) h)
    (proper_given (condition 0 (only (slot_of M S))) (within_none (seen M U)) (alone M S U v e) (λ x u z. clash z (has_empty x)) k)

pub proper_asked : (M S E U : ℕ) {ws vs : List Row} → Within U M → All (Proper M U 0) ws → All (Proper M U 0) vs → All (Proper M U 0) (asked M S E U ws vs)
unfolding asked
proper_asked M S E U {ws} {vs} v h k =
    by_cond (All (Proper M U 0)) (has U S) (tested (slot_of M S) ws vs) (cond (has E S) ws vs) (λ e. proper_tested M S U v e h k) (λ e. all_cond (has E S) h k)

pub proper_local : (M S U : ℕ) {ws : List Row} → Within U M → has M S ≡ true → All (Proper M (U union only S) 0) ws → All (Proper M U 0) (local_rows S (slot_of M S) ws)
unfolding local_rows local_row forget
proper_local M S U v i h =
    all_each (local_row S s)
    (λ w k. by_cond (All (Proper M U 0)) (has w.reacts.emitted S) (row_when (forget s w.when) (hidden S w.reacts) ∷ [])
    (only_rows (not (has w.when.on s)) (row_when (forget s w.when) w.reacts ∷ []))
    (λ e. more (record {
      ons = outer w.when.on k.ons;
      offs = outer w.when.off k.offs;
      apart = rest w k;
      emits = λ x u m. let (n, o) = other w.reacts.emitted S x m in inr (still w k x n u o);
    }) none)
    (λ e. all_cond (not (has w.when.on s)) (more (record {
      ons = outer w.when.on k.ons;
      offs = outer w.when.off k.offs;
      apart = rest w k;
      emits = λ x u o. inr (still w k x (λ d. clash (ap (has w.reacts.emitted) d ∙ o) e) u o);
    }) none) none)) h
  where
    s : ℕ
    s = slot_of M S

    outer : (a : ℕ) → Within a (seen M (U union only S)) → Within (a without s) (seen M U)
    outer a f x m =
        let (n, k) = other a s x m in
        either (seen M U) (only s) x (subst (λ (z : ℕ). has z x ≡ true) (seen_added M U S i) (f x k)) (λ h. h) (λ h. absurd (n (has_only_equal s x h)))

    rest : (w : Row) → Proper M (U union only S) 0 w → Apart (w.when.on without s) (w.when.off without s)
    rest w k x m = let (n, o) = other w.when.on s x m in has_without_other w.when.off s x n ∙ k.apart x o

    still : (w : Row) → Proper M (U union only S) 0 w → (x : ℕ) → S ≢ x → has U x ≡ true → has w.reacts.emitted x ≡ true → has (w.when.on without s) (slot_of M x) ≡ true
    still w k x n u o =
        has_without_other w.when.on s (slot_of M x) (λ d. n (slot_injective M S x i (v x u) d)) ∙ emitted_needed k x (in_left U (only S) x u) o

pub proper_hide : (S : ℕ) {M U : ℕ} {ws : List Row} → All (Proper M U 0) ws → All (Proper M U 0) (hide_rows S ws)
unfolding hide_rows
proper_hide S h =
    all_each (λ w. only_rows (has w.reacts.emitted S) (row_when w.when (hidden S w.reacts) ∷ []))
    (λ w k. all_cond (has w.reacts.emitted S) (more (record {
      ons = k.ons;
      offs = k.offs;
      apart = k.apart;
      emits = λ x u m. let (n, o) = other w.reacts.emitted S x m in k.emits x u o;
    }) none) none) h

-- ---- the rules that join reactions

-- what a reaction emits, of those that its parts do
part : (a : ℕ) → Within a (0 union a)
part a x h = in_right 0 a x h

parts : (a b : ℕ) → Within (a union b) (0 union a union b)
parts a b x h = either a b x h (λ k. in_left (0 union a) b x (part a x k)) (in_right (0 union a) b x)

pub proper_follow : {M U : ℕ} {ws vs : List Row} → All (Proper M U 0) ws → All (Proper M U 0) vs → All (Proper M U 0) (follow_rows ws vs)
unfolding follow_rows
proper_follow {vs = vs} h k =
    proper_then (λ r. cond (eqb r.code 0) (then vs (λ t. sure (reaction (r.emitted union t.emitted) t.code t.reached))) (sure r))
    (λ r. all_cond (eqb r.code 0)
    (proper_then (λ t. sure (reaction (r.emitted union t.emitted) t.code t.reached)) (λ t. proper_sure (parts r.emitted t.emitted)) k)
    (proper_sure (part r.emitted))) h

pub proper_together : {M U : ℕ} {ws vs : List Row} → All (Proper M U 0) ws → All (Proper M U 0) vs → All (Proper M U 0) (together_rows ws vs)
unfolding together_rows pair
proper_together {vs = vs} h k =
    proper_then (λ r. then vs (λ t. sure (pair r t))) (λ r. proper_then (λ t. sure (pair r t)) (λ t. proper_sure (parts r.emitted t.emitted)) k) h

pub proper_going : {M U : ℕ} {ws : List Row} → All (Proper M U 0) ws → All (Proper M U 0) (going_rows ws)
unfolding going_rows
proper_going h =
    proper_then (λ r. only_rows (not (eqb r.code 0)) (sure r)) (λ r. all_cond (not (eqb r.code 0)) (proper_sure (part r.emitted)) none) h

pub proper_caught : {M U : ℕ} {ws : List Row} → All (Proper M U 0) ws → All (Proper M U 0) (caught_rows ws)
unfolding caught_rows
proper_caught h = proper_then (λ r. sure (reaction r.emitted (through r.code) r.reached)) (λ r. proper_sure (part r.emitted)) h

-- the row of a reaction that emits nothing
pub silent : {M U k L : ℕ} → All (Proper M U 0) (sure (reaction 0 k L))
silent = proper_sure (λ x h. h)
