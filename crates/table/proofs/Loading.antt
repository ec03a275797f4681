-- Loading a table: what check answers and what the buffer holds, by what the header and the walk gave; and that the buffer then
-- has the nodes of an accepted statement.
use mathlib.Core.Path.{◌≡◌, refl, sym, ap, ap₂, ◌∙◌, subst}
use mathlib.Core.List.{List, [], ◌∷◌, ◌++◌}
use Prim.Native.Nat.{ℕ, zero, suc, ◌+◌, ◌-◌, ◌≤◌, ◌<◌}
use native.Mathlib.Omega.{arith}
use lib.ListN.{length, take, drop, replicate, get_or, length-append, length-drop, get_or-append}
use lib.Seq.{take_at, get_or-drop}
use Rattle.esterel.specs.Statement.{Statement, nothing, pause, gotopause, emit, exit, signal, present, sequence, parallel, loop, try, size, depth, Valid}
use Rattle.std.specs.Prelude.{Result, Ok, Err}
use Rattle.table.specs.declared.Refusal.{Refusal}
use Rattle.table.specs.Reading.{Reading, refused, read, read_from, header_of, nodes_of, deepest, kind_of_node, operand_of, Table, holds, whole_of, table_after, table_of, checked_outcome, check_in, check_of}
use Rattle.table.specs.declared.Refusal.TheVariants.{Short, Edition, Count, Length, Padding, Kind, Operand, Depth, Level, Label, Shape, Size, Room, Nesting, Crowded, Places, Free, Grammar, Number}
use Rattle.table.specs.Outcomes.{refusal, values, number_of_refusal}
use Rattle.table.specs.inner.Loading.{loaded_after, loaded_of, Walked}
use Rattle.table.specs.Writing.{node, nodes}
use Rattle.table.specs.inner.Places.{Placed, placed, statement_at, statement_of, Known, Loaded}
use Rattle.table.proofs.Cutting.{length_nodes_of}
use Rattle.table.proofs.Accepted.{read_faithful, Holds, accepted}
use Rattle.table.proofs.Places.{placed_front}

-- no refusal has the number 0
pub number_some : (e : Refusal) → 1 ≤ number_of_refusal e
number_some e =
    elim e as (λ (e : Refusal). 1 ≤ number_of_refusal e) [
      | Short ↦ omega arith
      | Edition ↦ omega arith
      | Count ↦ omega arith
      | Length ↦ omega arith
      | Padding ↦ omega arith
      | Kind ↦ omega arith
      | Operand ↦ omega arith
      | Depth ↦ omega arith
      | Level ↦ omega arith
      | Label ↦ omega arith
      | Shape ↦ omega arith
      | Size ↦ omega arith
      | Room ↦ omega arith
      | Nesting ↦ omega arith
      | Crowded ↦ omega arith
      | Places ↦ omega arith
      | Free ↦ omega arith
      | Grammar ↦ omega arith
      | Number ↦ omega arith
    ]

-- ---- The walk over all nodes from a place to another
module _ (from to : ℕ) (xs : List ℕ) (below : from ≤ to) (count : length xs ≡ to - from) (r at used : ℕ) where
  abbrev whole : Reading
  whole = read_from deepest 0 0 xs

  module _ (h : Walked to whole r at used) where
    pub whole_refused : (e : Refusal) → number_of_refusal e ≡ r → checked_outcome (Err e) ≡ check_in (whole_of (to - from) whole)
    unfolding whole_of check_in
    whole_refused e i = go whole h
      where
        some : r ≡ 0 → ⊥
        some z = let k = number_some e in omega arith

        go : (q : Reading) → Walked to q r at used → checked_outcome (Err e) ≡ check_in (whole_of (to - from) q)
        go (refused w) g = ap refusal (i ∙ g.0)
        go (read p [] u) g = absurd (some g.0)
        go (read p (y ∷ ys) u) g = absurd (some g.0)

    module _ (z : r ≡ 0) where
      pub whole_over : (at ≡ to → ⊥) → checked_outcome (Err Shape) ≡ check_in (whole_of (to - from) whole)
      unfolding whole_of check_in
      whole_over d = go whole h
        where
          go : (q : Reading) → Walked to q r at used → checked_outcome (Err Shape) ≡ check_in (whole_of (to - from) q)
          go (refused w) g = absurd (let (e, l) = g in omega arith)
          go (read p [] u) g = absurd (d (let e = g.1 in omega arith))
          go (read p (y ∷ ys) u) g = refl

      pub whole_read : at ≡ to → checked_outcome (Ok (to - from)) ≡ check_in (whole_of (to - from) whole)
      unfolding whole_of check_in
      whole_read e = go whole refl h
        where
          go : (q : Reading) → whole ≡ q → Walked to q r at used → checked_outcome (Ok (to - from)) ≡ check_in (whole_of (to - from) q)
          go (refused w) i g = absurd (let (e, l) = g in omega arith)
          go (read p [] u) i g = refl
          go (read p (y ∷ ys) u) i g =
              let here : xs ≡ nodes p ++ (y ∷ ys) = (read_faithful deepest 0 0 xs p (y ∷ ys) u i).here in
              let all : length xs ≡ length (nodes p ++ (y ∷ ys)) = ap length here in
              let parts : length (nodes p ++ (y ∷ ys)) ≡ length (nodes p) + suc (length ys) = length-append (nodes p) (y ∷ ys) in
              let place : at ≡ to - suc (length ys) = g.1 in
              absurd (omega arith)

-- ---- The header refuses, or accepts n nodes
pub load_refused : (t old : List ℕ) (h : Result ℕ Refusal) (w : Refusal) → h ≡ header_of t → h ≡ Err w → (checked_outcome (Err w) ≡ check_of t) × (old ≡ loaded_of t old)
unfolding check_of table_of table_after check_in loaded_of loaded_after
load_refused t old h w e r = (rw (← e, r), rw (← e, r))

pub load_walked : (t old new : List ℕ) (n : ℕ) (r : Result ℕ Refusal) → header_of t ≡ Ok n → new ≡ nodes_of t n ++ drop n old
    → checked_outcome r ≡ check_in (whole_of (n - 0) (read_from deepest 0 0 (drop 0 (take n new)))) → (checked_outcome r ≡ check_of t) × (new ≡ loaded_of t old)
unfolding check_of table_of table_after loaded_of loaded_after
load_walked t old new n r h e a =
    let front : take n new ≡ nodes_of t n = ap (take n) e ∙ take_at (nodes_of t n) (drop n old) n (length_nodes_of t n) in
    let none : n - 0 ≡ n = omega arith in
    (rw h (a ∙ ap₂ (λ (m : ℕ) (l : List ℕ). check_in (whole_of m (read_from deepest 0 0 l))) none front), rw h e)

-- ---- The nodes of a statement, by their kinds
abbrev Fine : ℕ → Type 0
Fine x = (kind_of_node x ≤ 10) × (kind_of_node x ≡ 3 → operand_of x < 32)

abbrev Each : List ℕ → Type 0
Each xs = (i : ℕ) → Fine (get_or xs i 0)

fine_cons : (k o : ℕ) (xs : List ℕ) → k ≤ 10 → o < 64 → (k ≡ 3 → o < 32) → Each xs → Each (node k o ∷ xs)
fine_cons k o xs a b c h zero = (omega arith, λ e. let d = c (omega arith) in omega arith)
fine_cons k o xs a b c h (suc i) = h i

fine_append : (xs ys : List ℕ) → Each xs → Each ys → Each (xs ++ ys)
fine_append [] ys f g i = g i
fine_append (x ∷ xs) ys f g zero = f 0
fine_append (x ∷ xs) ys f g (suc i) = fine_append xs ys (λ j. f (suc j)) g i

fine_none : Each []
fine_none i = (omega arith, λ e. omega arith)

fine_nodes : (tries : ℕ) (p : Statement) → Valid tries p → Each (nodes p)
unfolding nodes Valid
fine_nodes tries nothing v = fine_cons 0 0 [] (omega arith) (omega arith) (λ e. omega arith) fine_none
fine_nodes tries (pause l) v = fine_cons 1 l [] (omega arith) (omega arith) (λ e. omega arith) fine_none
fine_nodes tries (gotopause l) v = fine_cons 2 l [] (omega arith) (omega arith) (λ e. omega arith) fine_none
fine_nodes tries (emit S) v = fine_cons 3 S [] (omega arith) (omega arith) (λ e. omega arith) fine_none
fine_nodes tries (exit d) v = fine_cons 4 d [] (omega arith) (omega arith) (λ e. omega arith) fine_none
fine_nodes tries (signal S p) v = fine_cons 5 S (nodes p) (omega arith) (omega arith) (λ e. omega arith) (fine_nodes tries p v.1)
fine_nodes tries (present S p q) v =
    fine_cons 6 S (nodes p ++ nodes q) (omega arith) (omega arith) (λ e. omega arith)
    (fine_append (nodes p) (nodes q) (fine_nodes tries p v.1) (fine_nodes tries q v.2))
fine_nodes tries (sequence p q) v =
    fine_cons 7 0 (nodes p ++ nodes q) (omega arith) (omega arith) (λ e. omega arith)
    (fine_append (nodes p) (nodes q) (fine_nodes tries p v.0) (fine_nodes tries q v.1))
fine_nodes tries (parallel p q) v =
    fine_cons 8 0 (nodes p ++ nodes q) (omega arith) (omega arith) (λ e. omega arith)
    (fine_append (nodes p) (nodes q) (fine_nodes tries p v.0) (fine_nodes tries q v.1))
fine_nodes tries (loop p) v = fine_cons 9 0 (nodes p) (omega arith) (omega arith) (λ e. omega arith) (fine_nodes tries p v)
fine_nodes tries (try p) v = fine_cons 10 0 (nodes p) (omega arith) (omega arith) (λ e. omega arith) (fine_nodes (suc tries) p v)

-- an array of zeros
pub known_zeros : (n : ℕ) → Known (replicate n 0)
known_zeros zero i = omega arith
known_zeros (suc n) zero = omega arith
known_zeros (suc n) (suc i) = known_zeros n i

known_append : (xs ys : List ℕ) → Known xs → Known ys → Known (xs ++ ys)
known_append [] ys f g i = g i
known_append (x ∷ xs) ys f g zero = f 0
known_append (x ∷ xs) ys f g (suc i) = known_append xs ys (λ j. f (suc j)) g i

-- ---- A table that was loaded and accepted
module _ (t old : List ℕ) (n : ℕ) (p : Statement) (h : table_of t ≡ holds n p) where
  abbrev kept : Holds t n p
  kept = accepted t n p h

  front : loaded_of t old ≡ nodes_of t n ++ drop n old
  unfolding loaded_of loaded_after
  front = rw kept.counted

  -- what stands at the root of the buffer is its statement
  root : statement_at deepest (loaded_of t old) 0 ≡ placed p n
  root = ap (λ (l : List ℕ). statement_at deepest l 0) front ∙ placed_front t n p (drop n old) h

  pub loaded_statement : statement_of (loaded_of t old) ≡ p
  loaded_statement = ap (λ (x : Placed). x.statement) root

  fine : Each (nodes_of t n)
  fine = subst Each (sym kept.nodes_are) (fine_nodes 0 p kept.valid)

  pub loaded_size : size (statement_of (loaded_of t old)) ≡ n
  loaded_size = ap size loaded_statement ∙ kept.count

  pub loaded_table : length old ≡ 1024 → Known old → Loaded (loaded_of t old)
  loaded_table l k =
      let few = kept.header.few in
      record {
        all = ap length front ∙ length-append (nodes_of t n) (drop n old) ∙ ap₂ ◌+◌ (length_nodes_of t n) (length-drop n old) ∙ (omega arith);
        few = omega (arith, loaded_size);
        known = subst Known (sym front)
            (known_append (nodes_of t n) (drop n old) (λ i. (fine i).0) (λ i. subst (λ (x : ℕ). kind_of_node x ≤ 10) (sym (get_or-drop n old i 0)) (k (n + i))));
        valid = subst (Valid 0) (sym loaded_statement) kept.valid;
        shallow = subst (λ (q : Statement). depth q ≤ deepest) (sym loaded_statement) kept.deep;
        next_is = ap (λ (x : Placed). x.next) root ∙ sym loaded_size;
        narrow = λ i b.
            let same : get_or (nodes_of t n) i 0 ≡ get_or (loaded_of t old) i 0 =
            sym (ap (λ (xs : List ℕ). get_or xs i 0) front ∙ get_or-append (nodes_of t n) (drop n old) 0 i (omega (arith, length_nodes_of t n, loaded_size))) in
            subst (λ (x : ℕ). kind_of_node x ≡ 3 → operand_of x < 32) same (fine i).1;
      }

-- ---- What load leaves, by its answer: what the operations over a table begin with
module _ (t old new : List ℕ) (c : Result ℕ Refusal) (h : (checked_outcome c ≡ check_of t) × (new ≡ loaded_of t old)) where
  pub load_refuses : (e : Refusal) → c ≡ Err e → table_of t ≡ Table.refused (number_of_refusal e)
  unfolding check_of check_in
  load_refuses e f = go (table_of t) refl (ap checked_outcome (sym f) ∙ h.0)
    where
      go : (T : Table) → table_of t ≡ T → refusal (number_of_refusal e) ≡ check_in T → table_of t ≡ Table.refused (number_of_refusal e)
      go (Table.refused v) i q = i ∙ ap Table.refused (let back : v ≡ number_of_refusal e = cc in back)
      go (holds n p) i q = absurd (let z : ◌≡◌ {A = ℕ} 0 1 = cc in omega arith)

  module _ (n : ℕ) (e : c ≡ Ok n) where
    pub load_holds : (p : Statement) × (table_of t ≡ holds n p)
    unfolding check_of check_in
    load_holds = go (table_of t) refl (ap checked_outcome (sym e) ∙ h.0)
      where
        go : (T : Table) → table_of t ≡ T → values (n ∷ []) ≡ check_in T → (p : Statement) × (table_of t ≡ holds n p)
        go (Table.refused v) i q = absurd (let z : ◌≡◌ {A = ℕ} 0 1 = cc in omega arith)
        go (holds m p) i q = (p, i ∙ ap (λ (k : ℕ). holds k p) (let r : m ≡ n = cc in r))

    pub load_statement : statement_of new ≡ load_holds.0
    load_statement = ap statement_of h.1 ∙ loaded_statement t old n load_holds.0 load_holds.1

    pub load_size : size (statement_of new) ≡ n
    load_size = ap (λ (xs : List ℕ). size (statement_of xs)) h.1 ∙ loaded_size t old n load_holds.0 load_holds.1

    pub load_loaded : length old ≡ 1024 → Known old → Loaded new
    load_loaded l k = subst Loaded (sym h.1) (loaded_table t old n load_holds.0 load_holds.1 l k)
