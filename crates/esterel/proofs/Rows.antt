-- What a list of rows lists under a set F of slots: the reactions of the rows whose conditions hold under F. Each way to make rows
-- goes over to the way of specs/Listing to make lists, for any rows.
use mathlib.Core.Path.{◌≡◌, refl, sym, ap, ap₂, ◌∙◌, subst}
use mathlib.Core.Logic.{◌⊎◌, inl, inr}
use mathlib.Core.Bool.{Bool, true, false, cond, not, ◌&&◌}
use mathlib.Core.List.{List, [], ◌∷◌, ◌++◌, append-nil, append_assoc}
use Prim.Native.Nat.{ℕ}
use lib.Dec.{eqb}
use Rattle.sets.specs.Set.{has, only, ◌union◌, ◌without◌}
use Rattle.sets.proofs.Booleans.{clash, by_cond}
use Rattle.esterel.specs.Codes.{through}
use Rattle.esterel.specs.Reactions.{Reaction}
use Rattle.esterel.specs.Listing.{Listed, reaction, sorted, one, only_if, each, hide, follow, pair, together, going, caught}
use Rattle.esterel.specs.inner.Conditions.{slot_of, seen, Condition, condition, always, holds, both, clashes, forget}
use Rattle.esterel.specs.inner.Rows.{Row, row_when, sure, only_rows, under, each_row, given, then, tested, asked, emit_rows, hidden, local_row, local_rows, hide_rows, follow_rows, together_rows, going_rows, caught_rows, Gives}
use Rattle.esterel.specs.inner.CappedRows.{sorted_rows}
use Rattle.esterel.proofs.Order.{append_left, append_right, append_cases, each_in, each_out, sorted_in, sorted_out}
use Rattle.esterel.proofs.Listing.{split}
use Rattle.esterel.proofs.Conditions.{holds_always, holds_both, clash_fails, holds_on, holds_off, holds_added, holds_removed}
use Rattle.esterel.proofs.Slots.{has_seen, seen_added, seen_removed}
use Rattle.esterel.proofs.Proper.{All, none, more, Proper, emitted_needed}
use Rattle.esterel.proofs.RowOrder.{sorted_rows_in, sorted_rows_out}

-- ---- the reactions of rows, under a set

under_append : (F : ℕ) (ws vs : List Row) → under F (ws ++ vs) ≡ under F ws ++ under F vs
unfolding under
under_append F [] vs = refl
under_append F (w ∷ ws) vs =
    ap (λ ts. only_if (holds w.when F) (one w.reacts) ++ ts) (under_append F ws vs)
    ∙ sym (append_assoc (only_if (holds w.when F) (one w.reacts)) (under F ws) (under F vs))

under_row : (F : ℕ) (c : Condition) (r : Reaction) → under F (row_when c r ∷ []) ≡ only_if (holds c F) (one r)
unfolding under
under_row F c r = append-nil (only_if (holds c F) (one r))

-- one row, kept or not
under_kept : (F : ℕ) (b : Bool) (c : Condition) (r : Reaction) → under F (only_rows b (row_when c r ∷ [])) ≡ only_if (b && holds c F) (one r)
unfolding under
under_kept F true c r = under_row F c r
under_kept F false c r = refl

-- a choice among the first
each_only : (b : Bool) (r : Reaction) (ts : List Reaction) (g : Reaction → List Reaction) → each (only_if b (one r) ++ ts) g ≡ only_if b (g r) ++ each ts g
unfolding each
each_only true r ts g = refl
each_only false r ts g = refl

-- what each row gives under F is, where its condition holds under G, what its reaction gives
under_each : (F G : ℕ) (ws : List Row) (h : Row → List Row) (g : Reaction → List Reaction)
    → ((w : Row) → under F (h w) ≡ only_if (holds w.when G) (g w.reacts)) → under F (each_row ws h) ≡ each (under G ws) g
unfolding under each_row each
under_each F G [] h g e = refl
under_each F G (w ∷ ws) h g e =
    under_append F (h w) (each_row ws h) ∙ ap₂ ◌++◌ (e w) (under_each F G ws h g e) ∙ sym (each_only (holds w.when G) w.reacts (under G ws) g)

nested : (u v : Bool) (ts : List Reaction) → only_if (u && v) ts ≡ only_if v (only_if u ts)
nested true true ts = refl
nested true false ts = refl
nested false true ts = refl
nested false false ts = refl

each_only_if : (b : Bool) (ts : List Reaction) → each ts (λ r. only_if b (one r)) ≡ only_if b ts
unfolding each
each_only_if true [] = refl
each_only_if true (t ∷ ts) = ap (λ us. t ∷ us) (each_only_if true ts)
each_only_if false [] = refl
each_only_if false (t ∷ ts) = each_only_if false ts

under_given : (F : ℕ) (c : Condition) (ws : List Row) → under F (given c ws) ≡ only_if (holds c F) (under F ws)
unfolding given
under_given F c ws =
    under_each F F ws (λ w. only_rows (not (clashes (both c w.when))) (row_when (both c w.when) w.reacts ∷ [])) (λ r. only_if (holds c F) (one r))
    (λ w. under_kept F (not (clashes (both c w.when))) (both c w.when) w.reacts
    ∙ ap (λ b. only_if b (one w.reacts)) (kept (clashes (both c w.when)) (both c w.when) refl ∙ holds_both c w.when F)
    ∙ nested (holds c F) (holds w.when F) (one w.reacts))
    ∙ each_only_if (holds c F) (under F ws)
  where
    kept : (b : Bool) (d : Condition) → clashes d ≡ b → (not b && holds d F) ≡ holds d F
    kept true d e = sym (clash_fails d F e)
    kept false d e = refl

under_then : (F : ℕ) (ws : List Row) (f : Reaction → List Row) → under F (then ws f) ≡ each (under F ws) (λ r. under F (f r))
unfolding then
under_then F ws f = under_each F F ws (λ w. given w.when (f w.reacts)) (λ r. under F (f r)) (λ w. under_given F w.when (f w.reacts))

under_tested : (s F : ℕ) (ws vs : List Row) → under F (tested s ws vs) ≡ cond (has F s) (under F ws) (under F vs)
unfolding tested
under_tested s F ws vs =
    under_append F (given (condition (only s) 0) ws) (given (condition 0 (only s)) vs)
    ∙ ap₂ ◌++◌ (under_given F (condition (only s) 0) ws ∙ ap (λ b. only_if b (under F ws)) (holds_on s F)) (under_given F (condition 0 (only s)) vs ∙ ap (λ b. only_if b (under F vs)) (holds_off s F))
    ∙ chosen (has F s) (under F ws) (under F vs)
  where
    chosen : (b : Bool) (ts us : List Reaction) → only_if b ts ++ only_if (not b) us ≡ cond b ts us
    chosen true ts us = append-nil ts
    chosen false ts us = refl

under_hide : (S F : ℕ) (ws : List Row) → under F (hide_rows S ws) ≡ hide S (under F ws)
unfolding hide_rows hide
under_hide S F ws =
    under_each F F ws (λ w. only_rows (has w.reacts.emitted S) (row_when w.when (hidden S w.reacts) ∷ []))
    (λ r. only_if (has r.emitted S) (one (hidden S r)))
    (λ w. under_kept F (has w.reacts.emitted S) w.when (hidden S w.reacts) ∙ nested (has w.reacts.emitted S) (holds w.when F) (one (hidden S w.reacts)))

-- a row of a body: where it emits S it is one of rule signal+, else one of rule signal-
under_local : (S s F : ℕ) (w : Row) → (has w.reacts.emitted S ≡ true → has w.when.on s ≡ true) → (has w.when.on s ≡ true → has w.when.off s ≡ false)
    → under F (local_row S s w) ≡ only_if (holds w.when (F union only s)) (only_if (has w.reacts.emitted S) (one (hidden S w.reacts))) ++ only_if (holds w.when (F without s)) (one w.reacts)
unfolding local_row
under_local S s F w u k =
    go (has w.reacts.emitted S) (has w.when.off s) (has w.when.on s) u k
    ∙ ap₂ (λ a b. only_if a (only_if (has w.reacts.emitted S) (one (hidden S w.reacts))) ++ only_if b (one w.reacts))
    (sym (holds_added s F w.when)) (sym (holds_removed s F w.when))
  where
    f : Bool
    f = holds (forget s w.when) F

    nothing_of : (b : Bool) → only_if b [] ≡ []
    nothing_of true = refl
    nothing_of false = refl

    go : (o n y : Bool) → (o ≡ true → y ≡ true) → (y ≡ true → n ≡ false)
        → under F (cond o (row_when (forget s w.when) (hidden S w.reacts) ∷ []) (only_rows (not y) (row_when (forget s w.when) w.reacts ∷ [])))
        ≡ only_if (not n && f) (only_if o (one (hidden S w.reacts))) ++ only_if (not y && f) (one w.reacts)
    go true n false i j = clash (i refl) refl
    go true true true i j = clash refl (j refl)
    go true false true i j = under_row F (forget s w.when) (hidden S w.reacts) ∙ sym (append-nil (only_if f (one (hidden S w.reacts))))
    go false n y i j =
        under_kept F (not y) (forget s w.when) w.reacts ∙ ap (λ ts. ts ++ only_if (not y && f) (one w.reacts)) (sym (nothing_of (not n && f)))

-- ---- rows that list, under a set, what a list holds

pub record Lists (F : ℕ) (ws : List Row) (ts : List Reaction) : Type 0 where
  pub out : (r : Reaction) → Listed r (under F ws) → Listed r ts
  pub back : (r : Reaction) → Listed r ts → Listed r (under F ws)

-- the same members
abbrev pub Alike : List Reaction → List Reaction → Type 0
Alike ts us = ((r : Reaction) → Listed r ts → Listed r us) × ((r : Reaction) → Listed r us → Listed r ts)

lists : {F : ℕ} {ws : List Row} {ts : List Reaction} (us : List Reaction) → under F ws ≡ us → Alike us ts → Lists F ws ts
lists us e a = record { out = λ r m. a.0 r (subst (λ z. Listed r z) e m); back = λ r m. subst (λ z. Listed r z) (sym e) (a.1 r m) }

alike_each : (ts us : List Reaction) (f g : Reaction → List Reaction) → Alike ts us → ((r : Reaction) → Alike (f r) (g r)) → Alike (each ts f) (each us g)
alike_each ts us f g a b = (
  λ r m. let (t, i, j) = each_out r ts f m in each_in r t us g (a.0 t i) ((b t).0 r j),
  λ r m. let (t, i, j) = each_out r us g m in each_in r t ts f (a.1 t i) ((b t).1 r j),
)

alike_append : (ts us vs zs : List Reaction) → Alike ts us → Alike vs zs → Alike (ts ++ vs) (us ++ zs)
alike_append ts us vs zs a b =
    (λ r m. there r (append_cases r ts vs m), λ r m. back r (append_cases r us zs m))
  where
    there : (r : Reaction) → Listed r ts ⊎ Listed r vs → Listed r (us ++ zs)
    there r (inl m) = append_left r us zs (a.0 r m)
    there r (inr m) = append_right r us zs (b.0 r m)

    back : (r : Reaction) → Listed r us ⊎ Listed r zs → Listed r (ts ++ vs)
    back r (inl m) = append_left r ts vs (a.1 r m)
    back r (inr m) = append_right r ts vs (b.1 r m)

alike_hide : (S : ℕ) (ts us : List Reaction) → Alike ts us → Alike (hide S ts) (hide S us)
unfolding hide
alike_hide S ts us a =
    let f : Reaction → List Reaction = λ r. only_if (has r.emitted S) (one (hidden S r)) in
    alike_each ts us f f a (λ r. (λ t k. k, λ t k. k))

alike_path : {ts ts' us us' : List Reaction} → Alike ts' us' → ts ≡ ts' → us ≡ us' → Alike ts us
alike_path a e f =
    (λ r m. subst (Listed r) (sym f) (a.0 r (subst (Listed r) e m)), λ r m. subst (Listed r) (sym e) (a.1 r (subst (Listed r) f m)))

shuffled : (a b c d z : List Reaction) → Alike z (c ++ d) → Alike ((a ++ b) ++ z) ((a ++ c) ++ (b ++ d))
shuffled a b c d z x = (
  λ r m. split r (a ++ b) z m
      (λ k. split r a b k (λ n. first r (append_left r a c n)) (λ n. second r (append_left r b d n)))
      (λ k. split r c d (x.0 r k) (λ n. first r (append_right r a c n)) (λ n. second r (append_right r b d n))),
  λ r m. split r (a ++ c) (b ++ d) m
      (λ k. split r a c k (λ n. append_left r (a ++ b) z (append_left r a b n)) (λ n. append_right r (a ++ b) z (x.1 r (append_left r c d n))))
      (λ k. split r b d k (λ n. append_left r (a ++ b) z (append_right r a b n)) (λ n. append_right r (a ++ b) z (x.1 r (append_right r c d n)))),
)
  where
    first : (r : Reaction) → Listed r (a ++ c) → Listed r ((a ++ c) ++ (b ++ d))
    first r = append_left r (a ++ c) (b ++ d)

    second : (r : Reaction) → Listed r (b ++ d) → Listed r ((a ++ c) ++ (b ++ d))
    second r = append_right r (a ++ c) (b ++ d)

pub lists_none : {F : ℕ} → Lists F [] []
unfolding under
lists_none = record { out = λ r m. m; back = λ r m. m }

pub lists_sure : {F : ℕ} {r : Reaction} → Lists F (sure r) (one r)
lists_sure {F} {r} = lists (one r) (under_row F always r ∙ ap (λ b. only_if b (one r)) (holds_always F)) (λ t m. m, λ t m. m)

pub lists_cond : {F : ℕ} {ws vs : List Row} {ts us : List Reaction} (b : Bool) → Lists F ws ts → Lists F vs us → Lists F (cond b ws vs) (cond b ts us)
lists_cond true l m = l
lists_cond false l m = m

pub lists_append : {F : ℕ} {ws vs : List Row} {ts us : List Reaction} → Lists F ws ts → Lists F vs us → Lists F (ws ++ vs) (ts ++ us)
lists_append {F} {ws} {vs} {ts} {us} l m =
    lists (under F ws ++ under F vs) (under_append F ws vs) (alike_append (under F ws) ts (under F vs) us (l.out, l.back) (m.out, m.back))

pub lists_same : {F : ℕ} {ws : List Row} {ts us : List Reaction} → Lists F ws ts → Alike ts us → Lists F ws us
lists_same l a = record { out = λ r m. a.0 r (l.out r m); back = λ r m. l.back r (a.1 r m) }

-- what joins a reaction to others, for sequence, loop, parallel and try
pub lists_then : {F : ℕ} {ws : List Row} {ts : List Reaction} (f : Reaction → List Row) (g : Reaction → List Reaction)
    → Lists F ws ts → ((r : Reaction) → Lists F (f r) (g r)) → Lists F (then ws f) (each ts g)
lists_then {F} {ws} {ts} f g l m =
    lists (each (under F ws) (λ r. under F (f r))) (under_then F ws f)
    (alike_each (under F ws) ts (λ r. under F (f r)) g (l.out, l.back) (λ r. ((m r).out, (m r).back)))

lists_slot : {F : ℕ} {ws vs : List Row} {ts us : List Reaction} (s : ℕ) → Lists F ws ts → Lists F vs us → Lists F (tested s ws vs) (cond (has F s) ts us)
lists_slot {F} {ws} {vs} {ts} {us} s l m = lists (cond (has F s) (under F ws) (under F vs)) (under_tested s F ws vs) (go (has F s))
  where
    go : (b : Bool) → Alike (cond b (under F ws) (under F vs)) (cond b ts us)
    go true = (l.out, l.back)
    go false = (m.out, m.back)

pub lists_tested : {ws vs : List Row} {ts us : List Reaction} (M S F : ℕ) → has M S ≡ true → Lists (seen M F) ws ts → Lists (seen M F) vs us
    → Lists (seen M F) (tested (slot_of M S) ws vs) (cond (has F S) ts us)
lists_tested {ws} {vs} {ts} {us} M S F i l m =
    subst (λ b. Lists (seen M F) (tested (slot_of M S) ws vs) (cond b ts us)) (has_seen M F S i) (lists_slot (slot_of M S) l m)

pub lists_asked : {ws vs : List Row} {ts us : List Reaction} (M S E U F : ℕ) → (has U S ≡ true → has M S ≡ true) → (has U S ≡ false → has E S ≡ has F S)
    → Lists (seen M F) ws ts → Lists (seen M F) vs us → Lists (seen M F) (asked M S E U ws vs) (cond (has F S) ts us)
unfolding asked
lists_asked {ws} {vs} {ts} {us} M S E U F v a l m =
    by_cond (λ zs. Lists (seen M F) zs (cond (has F S) ts us)) (has U S) (tested (slot_of M S) ws vs) (cond (has E S) ws vs) (λ u. lists_tested M S F (v u) l m)
    (λ u. subst (λ b. Lists (seen M F) (cond (has E S) ws vs) (cond b ts us)) (a u) (lists_cond (has E S) l m))

pub lists_emit : (M S E U F : ℕ) → (has U S ≡ true → has M S ≡ true) → (has U S ≡ false → has E S ≡ has F S)
    → Lists (seen M F) (emit_rows M S E U) (only_if (has F S) (one (reaction (only S) 0 0)))
unfolding emit_rows
lists_emit M S E U F v a =
    by_cond (λ zs. Lists (seen M F) zs (only_if (has F S) (one r))) (has U S) (row_when (condition (only (slot_of M S)) 0) r ∷ []) (only_rows (has E S) (sure r))
    (λ u. lists (only_if (has F S) (one r)) (under_row (seen M F) (condition (only (slot_of M S)) 0) r
    ∙ ap (λ b. only_if b (one r)) (holds_on (slot_of M S) (seen M F) ∙ has_seen M F S (v u))) (λ t m. m, λ t m. m))
    (λ u. subst (λ b. Lists (seen M F) (only_rows (has E S) (sure r)) (only_if b (one r))) (a u) (lists_cond (has E S) lists_sure lists_none))
  where
    r : Reaction
    r = reaction (only S) 0 0

pub lists_hide : {F : ℕ} {ws : List Row} {ts : List Reaction} (S : ℕ) → Lists F ws ts → Lists F (hide_rows S ws) (hide S ts)
lists_hide {F} {ws} {ts} S l = lists (hide S (under F ws)) (under_hide S F ws) (alike_hide S (under F ws) ts (l.out, l.back))

-- the two lists of a body, from the one with S unknown
alike_local : (M S U F : ℕ) {ws : List Row} → has U S ≡ true → All (Proper M U 0) ws
    → Alike (under F (local_rows S (slot_of M S) ws)) (hide S (under (F union only (slot_of M S)) ws) ++ under (F without slot_of M S) ws)
unfolding local_rows each_row under hide each
alike_local M S U F u none = (λ r m. m, λ r m. m)
alike_local M S U F u (more {w = w} {ws = ws} k h) =
    alike_path
    (shuffled (only_if (holds w.when (F union only s)) (g w.reacts)) (only_if (holds w.when (F without s)) (one w.reacts))
    (each (under (F union only s) ws) g) (under (F without s) ws) (under F (each_row ws (local_row S s))) (alike_local M S U F u h))
    (under_append F (local_row S s w) (each_row ws (local_row S s))
    ∙ ap (λ ts. ts ++ under F (each_row ws (local_row S s))) (under_local S s F w (emitted_needed k S u) (k.apart s)))
    (ap (λ ts. ts ++ (only_if (holds w.when (F without s)) (one w.reacts) ++ under (F without s) ws))
    (each_only (holds w.when (F union only s)) w.reacts (under (F union only s) ws) g))
  where
    s : ℕ
    s = slot_of M S

    g : Reaction → List Reaction
    g r = only_if (has r.emitted S) (one (hidden S r))

pub lists_local : {ws : List Row} {ts us : List Reaction} (M S U F : ℕ) → has M S ≡ true → has U S ≡ true → All (Proper M U 0) ws
    → Lists (seen M (F union only S)) ws ts → Lists (seen M (F without S)) ws us → Lists (seen M F) (local_rows S (slot_of M S) ws) (hide S ts ++ us)
lists_local {ws} {ts} {us} M S U F i u k l m =
    let l' = subst (λ (G : ℕ). Lists G ws ts) (seen_added M F S i) l in
    let m' = subst (λ (G : ℕ). Lists G ws us) (seen_removed M F S i) m in
    let a = alike_local M S U (seen M F) u k in
    let b = alike_append (hide S (under (seen M F union only (slot_of M S)) ws)) (hide S ts) (under (seen M F without slot_of M S) ws) us
    (alike_hide S (under (seen M F union only (slot_of M S)) ws) ts (l'.out, l'.back)) (m'.out, m'.back) in
    record { out = λ r n. b.0 r (a.0 r n); back = λ r n. a.1 r (b.1 r n) }

pub lists_sorted : {F : ℕ} {ws : List Row} {ts : List Reaction} → Lists F ws ts → Lists F ws (sorted ts)
lists_sorted {F} {ws} {ts} l = lists_same l (λ r m. sorted_in r ts m, λ r m. sorted_out r ts m)

pub lists_follow : {F : ℕ} {ws vs : List Row} {ts us : List Reaction} → Lists F ws ts → Lists F vs us → Lists F (follow_rows ws vs) (follow ts us)
unfolding follow_rows follow
lists_follow {vs = vs} {us = us} l m =
    lists_then (λ r. cond (eqb r.code 0) (then vs (λ t. sure (reaction (r.emitted union t.emitted) t.code t.reached))) (sure r))
    (λ r. cond (eqb r.code 0) (each us (λ t. one (reaction (r.emitted union t.emitted) t.code t.reached))) (one r)) l
    (λ r. lists_cond (eqb r.code 0)
    (lists_then (λ t. sure (reaction (r.emitted union t.emitted) t.code t.reached)) (λ t. one (reaction (r.emitted union t.emitted) t.code t.reached)) m (λ t. lists_sure))
    lists_sure)

pub lists_together : {F : ℕ} {ws vs : List Row} {ts us : List Reaction} → Lists F ws ts → Lists F vs us → Lists F (together_rows ws vs) (together ts us)
unfolding together_rows together
lists_together {vs = vs} {us = us} l m =
    lists_then (λ r. then vs (λ t. sure (pair r t))) (λ r. each us (λ t. one (pair r t))) l
    (λ r. lists_then (λ t. sure (pair r t)) (λ t. one (pair r t)) m (λ t. lists_sure))

pub lists_going : {F : ℕ} {ws : List Row} {ts : List Reaction} → Lists F ws ts → Lists F (going_rows ws) (going ts)
unfolding going_rows going
lists_going l =
    lists_then (λ r. only_rows (not (eqb r.code 0)) (sure r)) (λ r. only_if (not (eqb r.code 0)) (one r)) l
    (λ r. lists_cond (not (eqb r.code 0)) lists_sure lists_none)

pub lists_caught : {F : ℕ} {ws : List Row} {ts : List Reaction} → Lists F ws ts → Lists F (caught_rows ws) (caught ts)
unfolding caught_rows caught
lists_caught l =
    lists_then (λ r. sure (reaction r.emitted (through r.code) r.reached)) (λ r. one (reaction r.emitted (through r.code) r.reached)) l
    (λ r. lists_sure)

-- ---- row by row
pub under_out : (F : ℕ) (ws : List Row) (r : Reaction) → Listed r (under F ws) → (w : Row) × Listed w ws × Gives F r w
unfolding under
under_out F [] r m = absurd m
under_out F (w ∷ ws) r m = go (holds w.when F) refl (λ k. under_out F ws r k) m
  where
    later : (w' : Row) × Listed w' ws × Gives F r w' → (w' : Row) × Listed w' (w ∷ ws) × Gives F r w'
    later (v, n, g) = (v, inr n, g)

    go : (b : Bool) → holds w.when F ≡ b → (Listed r (under F ws) → (w' : Row) × Listed w' ws × Gives F r w')
        → Listed r (only_if b (one w.reacts) ++ under F ws) → (w' : Row) × Listed w' (w ∷ ws) × Gives F r w'
    go true e ih (inl k) = (w, inl refl, record { held = e; same = sym k })
    go true e ih (inr k) = later (ih k)
    go false e ih k = later (ih k)

pub under_in : (F : ℕ) (ws : List Row) (r : Reaction) (w : Row) → Listed w ws → Gives F r w → Listed r (under F ws)
unfolding under
under_in F (v ∷ ws) r w (inl e) g =
    append_left r (only_if (holds v.when F) (one v.reacts)) (under F ws)
    (subst (λ z. Listed r (only_if (holds z.when F) (one z.reacts))) e (rw g.held (inl (sym g.same))))
under_in F (v ∷ ws) r w (inr m) g = append_right r (only_if (holds v.when F) (one v.reacts)) (under F ws) (under_in F ws r w m g)
under_in F [] r w x'' g = elim x'' [ ]

pub lists_sorted_rows : {F : ℕ} {ws : List Row} {ts : List Reaction} → Lists F ws ts → Lists F (sorted_rows ws) ts
lists_sorted_rows {F} {ws} l = record {
  out = λ r m. let (w, n, g) = under_out F (sorted_rows ws) r m in l.out r (under_in F ws r w (sorted_rows_out w ws n) g);
  back = λ r m. let (w, n, g) = under_out F ws r (l.back r m) in under_in F (sorted_rows ws) r w (sorted_rows_in w ws n) g;
}
