-- A statement trimmed where it stands, from its children trimmed where they stand: one law for each kind.
use mathlib.Core.Path.{◌≡◌, refl, sym, ap, ap₂, ◌∙◌}
use mathlib.Core.Bool.{Bool, true, false, cond, not, ◌||◌}
use mathlib.Core.List.{List}
use Prim.Native.Nat.{ℕ, zero, suc, pred, ◌+◌, ◌-◌, ◌≤◌, ◌<◌}
use native.Mathlib.Decide.{ℕ_discrete}
use native.Mathlib.Omega.{arith}
use lib.ListN.{length, get_or, set}
use lib.Seq.{get_or-set_same, get_or-set_other}
use Rattle.sets.specs.Set.{has}
use Rattle.esterel.specs.Statement.{Statement, nothing, pause, gotopause, emit, exit, signal, present, sequence, parallel, loop, try}
use Rattle.esterel.specs.Trimming.{is_nothing, join_parts, names, ends_at, can_end, trim_loop, trim_signal, trim_present, trim_try, trim, shift_exits}
use Rattle.esterel.proofs.Idle.{ending_something}
use Rattle.esterel.proofs.Trimming.{join_first, join_both}
use Rattle.trim.specs.declared.descent.Around.{Around}
use Rattle.trim.specs.inner.Levels.{map_exits, level_out, trimmed_in, started_if, in_guard, in_else, in_try, places_in, wrap_if, guarded_if}
use Rattle.trim.proofs.Levels.{map_nothing, map_names, map_same, map_raise, map_within, map_lower, within, level_in, level_leaves}

-- places are known up to the tries around
abbrev pub LowPlaces : List ℕ → Around → Type 0
LowPlaces places a = (i : ℕ) → i ≤ a.tries → get_or places i 0 ≤ a.kept

-- ---- parts that are nothing

map_if : (f : ℕ → ℕ) (z : Bool) (p q : Statement) → map_exits f 0 (cond z p q) ≡ cond z (map_exits f 0 p) (map_exits f 0 q)
map_if f true p q = refl
map_if f false p q = refl

map_join : (f : ℕ → ℕ) (g : Statement → Statement → Statement) → ((p q : Statement) → map_exits f 0 (g p q) ≡ g (map_exits f 0 p) (map_exits f 0 q))
    → (p q : Statement) → map_exits f 0 (join_parts g p q) ≡ join_parts g (map_exits f 0 p) (map_exits f 0 q)
unfolding join_parts
map_join f g h p q =
    map_if f (is_nothing p) q (cond (is_nothing q) p (g p q))
    ∙ ap (λ (t : Statement). cond (is_nothing p) (map_exits f 0 q) t) (map_if f (is_nothing q) p (g p q) ∙ ap (λ (t : Statement). cond (is_nothing q) (map_exits f 0 p) t) (h p q))
    ∙ rw (map_nothing f 0 p, map_nothing f 0 q)

-- ---- the kinds

module _ (R : ℕ) (places : List ℕ) (a : Around) where
  pub trimmed_nothing : trimmed_in R places a nothing ≡ nothing
  unfolding trimmed_in trim map_exits
  trimmed_nothing = refl

  pub trimmed_pause : (l : ℕ) → trimmed_in R places a (pause l) ≡ cond (a.started || has R l) (pause l) nothing
  unfolding trimmed_in trim map_exits
  trimmed_pause l = map_if (level_out places a) (a.started || has R l) (pause l) nothing

  pub trimmed_gotopause : (l : ℕ) → trimmed_in R places a (gotopause l) ≡ cond a.started (gotopause l) nothing
  unfolding trimmed_in trim map_exits
  trimmed_gotopause l = map_if (level_out places a) a.started (gotopause l) nothing

  pub trimmed_emit : (S : ℕ) → trimmed_in R places a (emit S) ≡ cond a.started (emit S) nothing
  unfolding trimmed_in trim map_exits
  trimmed_emit S = map_if (level_out places a) a.started (emit S) nothing

  pub trimmed_exit : (e : ℕ) → 1 ≤ e → trimmed_in R places a (exit e) ≡ cond a.started (exit (level_out places a e)) nothing
  unfolding trimmed_in trim map_exits
  trimmed_exit e h =
      map_if (level_out places a) a.started (exit e) nothing
      ∙ ap (λ (n : ℕ). cond a.started (exit n) nothing) (level_leaves (level_out places a) e h)

  pub trimmed_signal : (S : ℕ) (p : Statement) → trimmed_in R places a (signal S p) ≡ trim_signal S (trimmed_in R places a p)
  unfolding trimmed_in trim map_exits trim_signal
  trimmed_signal S p =
      map_if (level_out places a) (names S (trim R a.started p)) (signal S (trim R a.started p)) (trim R a.started p)
      ∙ rw (map_names (level_out places a) 0 S (trim R a.started p))

  pub trimmed_sequence : (p q : Statement)
      → trimmed_in R places a (sequence p q) ≡ join_parts sequence (trimmed_in R places a p) (trimmed_in R places (started_if (can_end R a.started p) a) q)
  unfolding trimmed_in trim map_exits level_out
  trimmed_sequence p q = map_join (level_out places a) sequence (λ x y. refl) (trim R a.started p) (trim R (can_end R a.started p) q)

  pub trimmed_parallel : (p q : Statement) → trimmed_in R places a (parallel p q) ≡ join_parts parallel (trimmed_in R places a p) (trimmed_in R places a q)
  unfolding trimmed_in trim map_exits
  trimmed_parallel p q = map_join (level_out places a) parallel (λ x y. refl) (trim R a.started p) (trim R a.started q)

  pub trimmed_loop : (p : Statement)
      → trimmed_in R places a (loop p) ≡ wrap_if loop (can_end R a.started p) (trimmed_in R places (started_if (can_end R a.started p || a.started) a) p)
  unfolding trimmed_in trim trim_loop map_exits wrap_if level_out
  trimmed_loop p = go (can_end R a.started p)
    where
      go : (z : Bool) → map_exits (level_out places a) 0 (trim_loop z a.started (λ c. trim R c p)) ≡ cond z (loop (map_exits (level_out places a) 0 (trim R (z || a.started) p))) (map_exits (level_out places a) 0 (trim R (z || a.started) p))
      go true = refl
      go false = refl

  pub trimmed_present : (S : ℕ) (p q : Statement) → a.started ≡ true
      → trimmed_in R places a (present S p q) ≡ present S (trimmed_in R places a p) (trimmed_in R places a q)
  unfolding trimmed_in trim map_exits
  trimmed_present S p q h = ap (λ (b : Bool). map_exits (level_out places a) 0 (trim R b (present S p q))) h ∙ sym (ap₂ (λ (b c : Bool). present S (map_exits (level_out places a) 0 (trim R b p)) (map_exits (level_out places a) 0 (trim R c q))) h h)

-- ---- the resumed present

-- over any change of levels: `inner` is what the else branch sees
guarded_present : (f inner : ℕ → ℕ) (z : Bool) (p q : Statement) → ((n : ℕ) → 1 ≤ n → cond z (suc (f n)) (f n) ≡ inner n) → (z ≡ true → is_nothing p ≡ false)
    → map_exits f 0 (trim_present z p q) ≡ join_parts sequence (map_exits f 0 p) (guarded_if z (map_exits inner 0 q))
unfolding trim_present guarded_if wrap_if map_exits is_nothing
guarded_present f inner z p q same some = go (is_nothing (map_exits inner 0 q)) refl (sym (map_nothing inner 0 q))
  where
    go : (x : Bool) → is_nothing (map_exits inner 0 q) ≡ x → is_nothing q ≡ is_nothing (map_exits inner 0 q)
        → map_exits f 0 (cond (is_nothing q) p (cond (not z) (join_parts sequence p q) (sequence p (try (sequence (exit 1) (shift_exits suc 0 q))))))
        ≡ join_parts sequence (map_exits f 0 p) (cond (is_nothing (map_exits inner 0 q)) (map_exits inner 0 q) (cond z (try (sequence (exit 1) (map_exits inner 0 q))) (map_exits inner 0 q)))
    go true e h = rw (h, e) (sym (join_first sequence (map_exits f 0 p) (map_exits inner 0 q) e))
    go false e h = rw (h, e) (branch z same some)
      where
        branch : (z : Bool) → ((n : ℕ) → 1 ≤ n → cond z (suc (f n)) (f n) ≡ inner n) → (z ≡ true → is_nothing p ≡ false)
            → map_exits f 0 (cond (not z) (join_parts sequence p q) (sequence p (try (sequence (exit 1) (shift_exits suc 0 q)))))
            ≡ join_parts sequence (map_exits f 0 p) (cond z (try (sequence (exit 1) (map_exits inner 0 q))) (map_exits inner 0 q))
        branch true same some =
            ap₂ (λ (n : ℕ) (t : Statement). sequence (map_exits f 0 p) (try (sequence (exit n) t))) (level_in f 1 1 (omega arith))
            (map_raise f 0 q ∙ map_same (λ n. suc (f n)) inner same 0 q)
            ∙ sym (join_both sequence (map_exits f 0 p) (try (sequence (exit 1) (map_exits inner 0 q))) (map_nothing f 0 p ∙ some refl) refl)
        branch false same some =
            map_join f sequence (λ x y. refl) p q ∙ ap (join_parts sequence (map_exits f 0 p)) (map_same f inner same 0 q)

module _ (R : ℕ) (places : List ℕ) (a : Around) (low : LowPlaces places a) where
  one_more : (z : Bool) (n : ℕ) → 1 ≤ n → cond z (suc (level_out places a n)) (level_out places a n) ≡ level_out places (in_guard z a) n
  unfolding level_out
  one_more true n h = let l = low (a.tries + 1 - n) (omega arith) in omega arith
  one_more false n h = refl

  pub trimmed_resumed : (S : ℕ) (p q : Statement) → a.started ≡ false
      → trimmed_in R places a (present S p q)
      ≡ join_parts sequence (trimmed_in R places a p) (guarded_if (can_end R false p) (trimmed_in R places (in_guard (can_end R false p) a) q))
  unfolding trimmed_in trim
  trimmed_resumed S p q h =
      ap (λ (b : Bool). map_exits (level_out places a) 0 (trim R b (present S p q))) h
      ∙ guarded_present (level_out places a) (level_out places (in_guard (can_end R false p) a)) (can_end R false p) (trim R false p) (trim R false q)
      (one_more (can_end R false p)) (ending_something R p)
      ∙ ap (λ (b : Bool). join_parts sequence (map_exits (level_out places a) 0 (trim R b p)) (guarded_if (can_end R false p) (map_exits (level_out places (in_guard (can_end R false p) a)) 0 (trim R b q)))) (sym h)

  -- ---- the try

  kept_level : a.tries + 1 < length places → (n : ℕ) → 1 ≤ n → within (level_out places a) n ≡ level_out (set places (a.tries + 1) a.kept) (in_try true a) n
  unfolding within level_out
  kept_level fit zero h = absurd (omega arith)
  kept_level fit (suc zero) h =
      let at : a.tries + 1 + 1 - 1 ≡ a.tries + 1 = omega arith in
      let here : get_or (set places (a.tries + 1) a.kept) (a.tries + 1) 0 ≡ a.kept = get_or-set_same places (a.tries + 1) a.kept 0 fit in
      rw at (omega arith)
  kept_level fit (suc (suc n)) h =
      let at : a.tries + 1 + 1 - suc (suc n) ≡ a.tries + 1 - suc n = omega arith in
      let there : get_or (set places (a.tries + 1) a.kept) (a.tries + 1 - suc n) 0 ≡ get_or places (a.tries + 1 - suc n) 0 =
      get_or-set_other places (a.tries + 1) (a.tries + 1 - suc n) a.kept 0 (omega arith) in
      let l = low (a.tries + 1 - suc n) (omega arith) in
      rw (at, there) (omega arith)

  gone_level : (n : ℕ) → 2 ≤ n → level_out places a (pred n) ≡ level_out (places_in a places) (in_try false a) n
  unfolding level_out
  gone_level n h =
      let at : a.tries + 1 - pred n ≡ a.tries + 1 + 1 - n = omega arith in
      let there : get_or (set places (a.tries + 1) a.kept) (a.tries + 1 + 1 - n) 0 ≡ get_or places (a.tries + 1 + 1 - n) 0 =
      get_or-set_other places (a.tries + 1) (a.tries + 1 + 1 - n) a.kept 0 (omega arith) in
      ap (λ (i : ℕ). a.kept - i) (ap (λ (i : ℕ). get_or places i 0) at ∙ sym there)

  pub trimmed_try : (p : Statement) → a.tries + 1 < length places → (z : Bool) → ends_at 0 (trim R a.started p) ≡ z
      → trimmed_in R places a (try p) ≡ wrap_if try z (trimmed_in R (places_in a places) (in_try z a) p)
  unfolding trimmed_in trim trim_try wrap_if map_exits
  trimmed_try p fit true e =
      rw e (ap try (map_within (level_out places a) 0 (trim R a.started p)
      ∙ map_same (within (level_out places a)) (level_out (places_in a places) (in_try true a)) (kept_level fit) 0 (trim R a.started p)))
  trimmed_try p fit false e =
      rw e (map_lower (level_out places a) (level_out (places_in a places) (in_try false a)) gone_level 0 (trim R a.started p) e)

-- ---- what the places past the tries around hold does not matter

pub trimmed_places : (R : ℕ) (places places' : List ℕ) (a : Around) (p : Statement) → ((i : ℕ) → i ≤ a.tries → get_or places' i 0 ≡ get_or places i 0)
    → trimmed_in R places' a p ≡ trimmed_in R places a p
unfolding trimmed_in level_out
trimmed_places R places places' a p h =
    map_same (level_out places' a) (level_out places a) (λ n l. ap (λ (x : ℕ). a.kept - x) (h (a.tries + 1 - n) (omega arith))) 0 (trim R a.started p)

-- ---- what stands around the children

module _ (a : Around) (z : Bool) where
  pub in_else_started : a.started ≡ true → a ≡ in_else z a
  unfolding in_else
  in_else_started h = rw h

  pub in_else_free : a.started ≡ false → z ≡ false → a ≡ in_else z a
  unfolding in_else
  in_else_free h k = ap (λ (b : Bool). cond b a (in_guard false a)) (sym h) ∙ ap (λ (b : Bool). cond a.started a (in_guard b a)) (sym k)

  pub in_else_guarded : a.started ≡ false → z ≡ true → record { started = a.started; tries = a.tries; kept = a.kept + 1 } ≡ in_else z a
  unfolding in_else
  in_else_guarded h k = ap (λ (b : Bool). cond b a (in_guard true a)) (sym h) ∙ ap (λ (b : Bool). cond a.started a (in_guard b a)) (sym k)

-- the places of the tries around the body of a try
module _ (places : List ℕ) (a : Around) (fit : a.tries + 1 < length places) where
  pub places_same : (i : ℕ) → i ≤ a.tries → get_or (places_in a places) i 0 ≡ get_or places i 0
  places_same i l = get_or-set_other places (a.tries + 1) i a.kept 0 (omega arith)

  pub places_low : LowPlaces places a → (z : Bool) → LowPlaces (places_in a places) (in_try z a)
  places_low low z i l = go (ℕ_discrete i (a.tries + 1))
    where
      more : (z : Bool) → a.kept ≤ cond z (a.kept + 1) a.kept
      more true = omega arith
      more false = omega arith

      go : Dec (i ≡ a.tries + 1) → get_or (places_in a places) i 0 ≤ cond z (a.kept + 1) a.kept
      go (yes e) = rw (e, get_or-set_same places (a.tries + 1) a.kept 0 fit) (more z)
      go (no n) =
          let m : i ≤ a.tries = omega arith in
          let k = low i m in
          let e = places_same i m in
          omega (arith, more z)
