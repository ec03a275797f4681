-- The answer for a statement, from what the lister left: refusal 15, or its listing. And what is prepared of a table, by the answer of
-- check and the nesting of its statement.
use mathlib.Core.Path.{◌≡◌, refl, sym, ap, ap₂, ◌∙◌, subst}
use mathlib.Core.Bool.{Bool, true, false, cond}
use mathlib.Core.List.{List, [], ◌∷◌, ◌++◌}
use mathlib.Core.Option.{Option, none, some, none-ne-some, some-injective}
use Prim.Native.Nat.{ℕ, zero, suc, ◌+◌, ◌≤◌, ◌<◌, min}
use native.Mathlib.Omega.{arith}
use lib.ListN.{length, take, drop, get_or, replicate, length-replicate, length-map, length-append, get_or-append}
use lib.Seq.{take_at, get_or-drop}
use borrow.Author.Tests.{lt-ltb, le-ltb}
use Rattle.std.specs.Prelude.{Result, Ok, Err}
use Rattle.std.specs.Result.{result_or}
use Rattle.esterel.specs.Statement.{Statement, size, depth, Valid}
use Rattle.esterel.specs.Reactions.{State, Reaction}
use Rattle.esterel.specs.Listing.{listing, crowded, nesting}
use Rattle.esterel.specs.inner.Rows.{Row as Meaning, reactions}
use Rattle.esterel.specs.inner.CappedRows.{reactions_in, capped_rows}
use Rattle.esterel.proofs.CappedRows.{capped_rows_exact}
use Rattle.table.specs.declared.Refusal.{Refusal}
use Rattle.table.specs.declared.Refusal.TheVariants.{Crowded}
use Rattle.table.specs.Outcomes.{number_of_refusal}
use Rattle.table.specs.Reading.{Table, table_of, kind_of_node, operand_of, nodes_of, deepest, check_of, checked_outcome}
use Rattle.table.specs.Reading as table
use Rattle.table.specs.inner.Loading.{loaded_after, loaded_of}
use Rattle.table.specs.Writing.{nodes}
use Rattle.table.specs.inner.Places.{Placed, placed, statement_at, statement_of, Known, Loaded}
use Rattle.table.proofs.Cutting.{length_nodes_of}
use Rattle.table.proofs.Accepted.{Holds, accepted}
use Rattle.table.proofs.Places.{placed_front}
use Rattle.table.proofs.Loading.{known_zeros, load_refuses, load_holds, load_size, load_loaded}
use Rattle.rows.specs.declared.row.Row.{Row}
use Rattle.rows.specs.declared.lists.Unlisted.{Unlisted}
use Rattle.rows.specs.declared.lists.Unlisted.TheVariants.{Over, Cramped, Refused}
use Rattle.rows.specs.inner.Layout.{unpacked}
use Rattle.rows.specs.inner.Area.{all_rows, Standing, Made}
use Rattle.lister.specs.declared.noted.Note.{Note}
use Rattle.lister.specs.declared.presence.Presence.{Presence}
use Rattle.lister.specs.inner.Notes.{unnoted, EndsFrom, PausesFrom}
use Rattle.lister.specs.inner.Joins.{rows_under}
use Rattle.list.specs.Answers.{refused, listed, list_for}
use Rattle.list.specs.inner.Notes.{Distinct, AllNoted, Counted}
use Rattle.list.specs.inner.Preparing.{list_at, limited, Unready, malformed, nested, Ready}
use Rattle.list.specs.inner.Finding.{reactions_held, Finds}
use Rattle.list.proofs.Pauses.{distinct_nodes}
use Rattle.list.proofs.Passing.{right_ends, right_pauses, root_nest}

-- ---- a statement, by what the lister left
reactions_length : (ws : List Meaning) → length (reactions ws) ≡ length ws
unfolding reactions
reactions_length [] = refl
reactions_length (w ∷ ws) = ap suc (reactions_length ws)

pub held_length : (a : List Row) → length (reactions_held a) ≡ length a
held_length a = reactions_length (all_rows a) ∙ length-map a unpacked

is_crowded : (c : Bool) (ts : List Reaction) → cond {A = Option (List Reaction)} c none (some ts) ≡ none → c ≡ true
is_crowded true ts q = refl
is_crowded false ts q = absurd (none-ne-some ts (sym q))

is_listed : (c : Bool) (ts us : List Reaction) → cond {A = Option (List Reaction)} c none (some ts) ≡ some us → (c ≡ false) × (ts ≡ us)
is_listed true ts us q = absurd (none-ne-some us q)
is_listed false ts us q = (refl, some-injective ts us q)

module _ (s : Presence) (p : Statement) (x : State) (E : ℕ) (a : s.assumed ≡ E) (u : s.unknown ≡ 0) (b : List Row) where
  abbrev Answers : Result ℕ Refusal → Type 0
  Answers r = Finds (limited p x E) r b

  -- with no signal unknown
  exact : reactions_in (rows_under s p x) ≡ cond (crowded p x E) none (some (listing p x E))
  exact = ap₂ (λ (y z : ℕ). reactions_in (capped_rows s.slotted p x y z)) a u ∙ capped_rows_exact s.slotted p x E

  pub found_none : rows_under s p x ≡ none → Answers (Err Crowded)
  unfolding limited reactions_in
  found_none e =
      ap (λ (z : Bool). cond z (refused 15) (listed (listing p x E))) (is_crowded (crowded p x E) (listing p x E) (sym exact ∙ ap reactions_in e))

  pub found_listed : {n : ℕ} → Standing b (rows_under s p x) n → Answers (Ok n)
  unfolding limited reactions_in
  found_listed {n} t =
      let l = is_listed (crowded p x E) (listing p x E) (reactions_held (take n b)) (sym exact ∙ ap reactions_in t.listed) in
      (ap (λ (z : Bool). cond z (refused 15) (listed (listing p x E))) l.0 ∙ ap listed l.1, t.small, t.fits)

  -- where the area is never too small
  pub found_through : (r : Result ℕ Unlisted) → Made b 0 (rows_under s p x) r → Answers (result_or r (Err Crowded))
  found_through (Ok n) m = found_listed m
  found_through (Err Over) m = found_none m
  found_through (Err Cramped) m = absurd (omega (arith, m))
  found_through (Err Refused) m = absurd (omega (arith, m))

-- ---- what list gives for a table that was refused, and for one that is ready
pub unready_refused : {T : Table} {w : ℕ} → Unready T w → (x : State) (E : ℕ) → list_at T x E ≡ refused w
unfolding list_at list_for
unready_refused malformed x E = refl
unready_refused (nested {n} {p} h) x E = ap (λ (z : Bool). cond z (refused 14) (cond (crowded p x E) (refused 15) (listed (listing p x E)))) h

pub ready_limited : {T : Table} {xs : List ℕ} → Ready T xs → (x : State) (E : ℕ) → list_at T x E ≡ limited (statement_of xs) x E
unfolding list_at list_for limited
ready_limited {T} {xs} r x E = ap (λ (T : Table). list_at T x E) r.holds ∙ ap (λ (z : Bool). cond z (refused 14) (limited (statement_of xs) x E)) r.shallow

-- ---- a table, by the answer of check
module _ (t old : List ℕ) {new : List ℕ} {c : Result ℕ Refusal} (h : (checked_outcome c ≡ check_of t) × (new ≡ loaded_of t old)) where
  pub loaded_unready : {e : Refusal} → c ≡ Err e → Unready (table_of t) (number_of_refusal e)
  loaded_unready {e} f = subst (λ (T : Table). Unready T (number_of_refusal e)) (sym (load_refuses t old new c h e f)) malformed

  module _ {n : ℕ} (e : c ≡ Ok n) where
    abbrev program : Statement
    program = (load_holds t old new c h n e).0

    abbrev holds_it : table_of t ≡ table.holds n program
    holds_it = (load_holds t old new c h n e).1

    -- the first nodes are those of a valid statement
    kept : Holds t n program
    kept = accepted t n program holds_it

    front : (before after : List ℕ) → after ≡ loaded_of t before → after ≡ nodes_of t n ++ drop n before
    unfolding loaded_of loaded_after
    front before after q = q ∙ rw kept.counted

    loaded_distinct : Distinct (take n new)
    loaded_distinct =
        let g : take n new ≡ nodes program = ap (take n) (front old new h.1) ∙ take_at (nodes_of t n) (drop n old) n (length_nodes_of t n) ∙ kept.nodes_are in
        subst Distinct (sym g) (distinct_nodes program kept.valid)

    -- as if they were loaded in front of zeros
    abbrev zeros : List ℕ
    zeros = replicate 1024 0

    beside_zeros : Loaded (loaded_of t zeros)
    beside_zeros = load_loaded t zeros (loaded_of t zeros) c (h.0, refl) n e (length-replicate {A = ℕ} 1024 0) (known_zeros 1024)

    same_there : (i : ℕ) → i < n → get_or (loaded_of t zeros) i 0 ≡ get_or new i 0
    same_there i l =
        let k : i < length (nodes_of t n) = omega (arith, length_nodes_of t n) in
        ap (λ (xs : List ℕ). get_or xs i 0) (front zeros (loaded_of t zeros) refl) ∙ get_or-append (nodes_of t n) (drop n zeros) 0 i k
        ∙ sym (ap (λ (xs : List ℕ). get_or xs i 0) (front old new h.1) ∙ get_or-append (nodes_of t n) (drop n old) 0 i k)

    -- no node is of a kind above 10, where none was in the room: behind those of the table the nodes stay
    pub loaded_known : Known old → Known new
    loaded_known k = subst Known (sym (front old new h.1)) (joined (nodes_of t n) of_table)
      where
        rest : Known (drop n old)
        rest i = subst (λ (x : ℕ). kind_of_node x ≤ 10) (sym (get_or-drop n old i 0)) (k (n + i))

        joined : (xs : List ℕ) → Known xs → Known (xs ++ drop n old)
        joined [] f i = rest i
        joined (x ∷ xs) f zero = f 0
        joined (x ∷ xs) f (suc i) = joined xs (λ j. f (suc j)) i

        in_front : (xs ys : List ℕ) → Known (xs ++ ys) → Known xs
        in_front [] ys f i = omega arith
        in_front (x ∷ xs) ys f zero = f 0
        in_front (x ∷ xs) ys f (suc i) = in_front xs ys (λ j. f (suc j)) i

        of_table : Known (nodes_of t n)
        of_table = in_front (nodes_of t n) (drop n zeros) (subst Known (front zeros (loaded_of t zeros) refl) beside_zeros.known)

    root : statement_at deepest new 0 ≡ placed program n
    root = ap (λ (xs : List ℕ). statement_at deepest xs 0) (front old new h.1) ∙ placed_front t n program (drop n old) holds_it

    few : n ≤ 1024
    few = kept.header.few

    pub loaded_counted : Counted n new
    loaded_counted = record {
      over = record {
        all = omega (arith, ap length (front old new h.1), length-append (nodes_of t n) (drop n old), length_nodes_of t n);
        few = few;
        known = λ i l. subst (λ (x : ℕ). kind_of_node x ≤ 10) (same_there i l) (beside_zeros.known i);
        distinct = loaded_distinct;
      };
      whole = record {
        shallow = subst (λ (q : Placed). depth q.statement ≤ deepest) (sym root) kept.deep;
        full = subst (λ (q : Placed). 0 + size q.statement ≤ q.next) (sym root) (omega (arith, kept.count));
        within = subst (λ (q : Placed). q.next ≤ n) (sym root) (omega arith);
      };
      narrow = λ i l.
          let below : i < size (statement_of (loaded_of t zeros)) = omega (arith, load_size t zeros (loaded_of t zeros) c (h.0, refl) n e) in
          subst (λ (x : ℕ). kind_of_node x ≡ 3 → operand_of x < 32) (same_there i l) (beside_zeros.narrow i below);
      valid = subst (Valid 0) (sym (ap (λ (q : Placed). q.statement) root)) kept.valid;
    }

    holds_new : table_of t ≡ table.holds n (statement_of new)
    holds_new = holds_it ∙ ap (table.holds n) (sym (ap (λ (q : Placed). q.statement) root))

    -- when all statements are noted
    module _ {notes : List Note} {unions : List ℕ} (a : AllNoted 0 n new notes unions) where
      pub noted_ends : EndsFrom 0 n new notes
      noted_ends = right_ends loaded_counted.over a

      pub noted_pauses : PausesFrom 0 n new notes unions
      noted_pauses = right_pauses loaded_counted.over a

      nested_so : (get_or notes 0 unnoted).nest ≡ min 255 (nesting (statement_of new))
      nested_so = root_nest loaded_counted.over a loaded_counted.whole

      pub noted_deep : 12 < (get_or notes 0 unnoted).nest → Unready (table_of t) 14
      noted_deep k =
          let deep : Unready (table.holds n (statement_of new)) 14 = nested (lt-ltb 12 (nesting (statement_of new)) (omega (arith, nested_so))) in
          subst (λ (T : Table). Unready T 14) (sym holds_new) deep

      pub noted_ready : (get_or notes 0 unnoted).nest ≤ 12 → Ready (table_of t) new
      noted_ready k = record {
        count = n;
        holds = holds_new;
        shallow = le-ltb 12 (nesting (statement_of new)) (omega (arith, nested_so));
        valid = loaded_counted.valid;
      }
