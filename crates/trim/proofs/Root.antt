-- The whole statement: what marking leaves is what trimming asks, no exit leaves the root, and the answer goes by
-- the nodes that stand at the end of the work area.
use mathlib.Core.Path.{◌≡◌, refl, sym, ap, ap₂, ◌∙◌, subst}
use mathlib.Core.Bool.{Bool, true, false, cond, ◌||◌}
use mathlib.Core.List.{List, [], ◌∷◌, ◌++◌, append-nil}
use Prim.Native.Nat.{ℕ, ◌+◌, ◌-◌, ◌≤◌, ◌<◌, zero-le}
use native.Mathlib.Omega.{arith}
use borrow.Author.Tests.{lt-ltb, le-ltb}
use lib.Dec.{eqb, ltb}
use lib.ListN.{length, take, drop, replicate, length-replicate, length-append, length-drop}
use lib.Seq.{drop_at, drop-drop, drop-length, length-take-le, take_all}
use Rattle.sets.proofs.Booleans.{or_left, or_right, eqb_differ}
use Rattle.esterel.specs.Statement.{Statement, size, depth, Valid}
use Rattle.esterel.specs.declared.Share.{Share}
use Rattle.esterel.specs.Trimming.{is_nothing, trimmed}
use Rattle.esterel.specs.Shares.{thousandths, remainder}
use Rattle.esterel.proofs.Validity.{valid_trimmed}
use Rattle.esterel.proofs.Growth.{size_trimmed}
use Rattle.table.specs.Outcomes.{refusal, values, buffer_after}
use Rattle.table.specs.Reading.{length_of, deepest}
use Rattle.table.specs.inner.Places.{statement_at, statement_of, Loaded}
use Rattle.table.specs.Writing.{nodes, write_nodes, write}
use Rattle.table.proofs.Nodes.{length_nodes}
use Rattle.table.proofs.Fields.{length_write_nodes}
use Rattle.reach.specs.declared.Settled.{Settled}
use Rattle.table.specs.declared.Refusal.{Refusal}
use Rattle.table.specs.declared.Refusal.TheVariants as refused_as
use Rattle.std.specs.Prelude.{Result, Ok, Err}
use Rattle.reach.specs.inner.Rounds.{Reaches}
use Rattle.reach.proofs.Answers.{rest_same}
use Rattle.trim.specs.declared.descent.Around.{Around}
use Rattle.trim.specs.declared.marks.Marked.{Marked}
use Rattle.trim.specs.declared.descent.Room.{Room}
use Rattle.trim.specs.declared.noted.Note.{Note}
use Rattle.trim.specs.inner.Levels.{level_out, trimmed_in}
use Rattle.trim.specs.inner.Notes.{Noted}
use Rattle.trim.specs.inner.Marking.{Marks}
use Rattle.trim.specs.inner.Parts.{Laid, part, PartStands, NothingFilled, reach_set_of, Trimmable, Done}
use Rattle.trim.specs.Answers.{trimmed_outcome, values_for, trim_for}
use Rattle.trim.specs.inner.Root.{Lent, Ends, Finished}
use Rattle.trim.proofs.Levels.{map_closed}
use Rattle.trim.proofs.Refused.{no_name}
use Rattle.sets.specs.Set.{has}

part_size : (t : Statement) → length (part t) ≤ size t
unfolding part
part_size t = go (is_nothing t)
  where
    go : (z : Bool) → length (cond z [] (nodes t)) ≤ size t
    go true = zero-le
    go false = omega (arith, length_nodes t)

abbrev root : Around
root = record { started = true; tries = 0; kept = 0 }

-- a list of all places, of which those that are held come last
all_places : (n m : ℕ) (work : List ℕ) → length work ≡ m → (all : List ℕ) × (length all ≡ n + m) × (drop n all ≡ work)
all_places n m work e = (replicate n 0 ++ work, length-append (replicate n 0) work ∙ ap₂ ◌+◌ (length-replicate n 0) e, drop_at (replicate n 0) work n (length-replicate n 0))

-- ---- trimming the root

-- the rounds over the nodes have come to rest, and there is room for marking and trimming
pub record AtRest (xs : List ℕ) (room : Room) (found : Settled) : Type 0 where
  pub loaded : Loaded xs
  pub lent : Lent room
  pub answer : Result Settled Refusal
  pub reaches : Reaches xs answer
  pub is : answer ≡ Ok found

pub at_rest : {xs : List ℕ} {room : Room} {found : Settled} {r : Result Settled Refusal} → Loaded xs → Lent room → Reaches xs r → r ≡ Ok found → AtRest xs room found
at_rest {xs} {room} {found} {r} l e h i = record { loaded = l; lent = e; answer = r; reaches = h; is = i }

module _ {xs : List ℕ} {room : Room} {found : Settled} (A : AtRest xs room found) where
  abbrev places : List ℕ
  places = room.places

  abbrev work : List ℕ
  work = room.work.nodes

  abbrev end : ℕ
  end = room.work.from

  abbrev R : ℕ
  R = reach_set_of xs

  abbrev result : Statement
  result = trimmed (statement_of xs)

  reached : found.set ≡ R
  unfolding reach_set_of
  reached = ap (λ (f : Settled). f.set) (rest_same (sym A.is ∙ A.reaches.rest)) ∙ A.reaches.set

  valid : Valid 0 result
  valid = valid_trimmed (statement_of xs) A.loaded.shallow A.loaded.valid

  -- no exit leaves the root, so its levels are those of the trimmed statement
  root_is : trimmed_in R places root (statement_of xs) ≡ result
  unfolding trimmed_in trimmed reach_set_of
  root_is = map_closed (level_out places root) 0 result valid

  module _ {m : Marked} {notes notes' : List Note} (M : Marks found.set xs 60 0 notes m notes') where
    -- marking met no node of no kind
    pub root_marked : eqb m.next 1025 ≡ false
    root_marked = eqb_differ m.next 1025 (λ z. omega (arith, M.finds.next, A.loaded.next_is, A.loaded.few))

    pub root_trimmable : Trimmable R xs notes' 0 60 root places work end
    root_trimmable =
        record {
          valid = A.loaded.valid;
          noted = subst (λ (r : ℕ). Noted r notes' xs 60 0) reached M.noted;
          all = A.loaded.all;
          known = A.loaded.known;
          room = omega (arith, A.loaded.next_is, A.loaded.few, A.lent.whole);
          to_in = omega (arith, A.lent.whole);
          tries_in = omega arith;
          kept_in = omega arith;
          low = λ i h. let e : i ≡ 0 = omega arith in rw e (omega (arith, A.lent.outermost));
          caught = λ d h x. absurd (omega arith);
        }

  module _ {p : Laid} {places' work₁ : List ℕ} (D : Done R (statement_at 60 xs 0) 0 60 root places work end p places' work₁) where
    made : PartStands result work end p work₁
    made = subst (λ (t : Statement). PartStands t work end p work₁) root_is D.made

    -- nor did trimming
    pub root_named : has p.named 63 ≡ false
    root_named = made.names_are 63 ∙ no_name 0 63 result valid (omega arith)

    pub root_room : 1 ≤ p.from
    root_room =
        let e = made.puts.from_is in
        let s = size_trimmed (statement_of xs) A.loaded.valid in
        let f = A.loaded.few in
        omega (arith, part_size result, A.lent.whole)

    pub root_ends : length work ≡ 1024 → {v : Laid} {work₂ : List ℕ} → NothingFilled work₁ p v work₂ → Ends result v work₂
    root_ends held {v} {work₂} F =
        let (all, long, is) = all_places 3072 1024 work held in
        let W = F.made result work 4096 (omega arith) (subst (λ (n : ℕ). PartStands result work n p work₁) A.lent.whole made) in
        let e = W.puts.from_is in
        let t : length (take v.from all) ≡ v.from = length-take-le v.from all (omega arith) in
        let none : drop 4096 all ≡ [] = ap (λ (n : ℕ). drop n all) (sym long) ∙ drop-length all in
        record {
          count = omega (arith, length_nodes result);
          stands = λ h.
              ap (drop (v.from - 3072)) (W.puts.put all long is) ∙ drop-drop (v.from - 3072) 3072 (take v.from all ++ (nodes result ++ drop 4096 all))
              ∙ ap (λ (n : ℕ). drop n (take v.from all ++ (nodes result ++ drop 4096 all))) (let m : 3072 + (v.from - 3072) ≡ v.from = omega arith in m)
              ∙ drop_at (take v.from all) (nodes result ++ drop 4096 all) v.from t ∙ ap (λ (m : List ℕ). nodes result ++ m) none ∙ append-nil (nodes result);
          deep = W.depth_is;
        }

-- ---- the end of trimming

module _ (n : ℕ) (p : Laid) (work out : List ℕ) where
  module _ (t : Statement) (E : Ends t p work) where
    counted : size t ≡ 4096 - p.from
    counted = let e = E.count in omega arith

    long : length (write t) ≡ length_of (4096 - p.from)
    unfolding write
    long = length_write_nodes (nodes t) ∙ ap length_of (length_nodes t ∙ counted)

    refused_12 : (ltb 1024 (size t) || ltb deepest (depth t)) ≡ true
        → (refusal 12 ≡ trim_for n t (length out)) × (out ≡ buffer_after (trim_for n t (length out)) (write t) out)
    unfolding trim_for buffer_after
    refused_12 h = (rw h, rw h)

  pub finish_many : 1024 < 4096 - p.from → Finished n work p out (Err refused_as.Size) out
  unfolding Finished trimmed_outcome
  finish_many h t E = refused_12 t E (or_left (ltb deepest (depth t)) (lt-ltb 1024 (size t) (omega (arith, counted t E))))

  pub finish_deep : 60 < p.depth → Finished n work p out (Err refused_as.Size) out
  unfolding Finished trimmed_outcome
  finish_deep h t E = refused_12 t E (or_right (ltb 1024 (size t)) (lt-ltb deepest (depth t) (omega (arith, E.deep))))

  module _ (few : 4096 - p.from ≤ 1024) (shallow : p.depth ≤ 60) where
    allowed : (t : Statement) → Ends t p work → (ltb 1024 (size t) || ltb deepest (depth t)) ≡ false
    allowed t E = rw (le-ltb 1024 (size t) (omega (arith, counted t E)), le-ltb deepest (depth t) (omega (arith, E.deep)))

    pub finish_short : (b : ℕ) → b ≡ length_of (4096 - p.from) → length out < b → Finished n work p out (Err refused_as.Room) out
    unfolding Finished trimmed_outcome trim_for buffer_after
    finish_short b e h t E =
        let l : ltb (length out) (length (write t)) ≡ true = lt-ltb (length out) (length (write t)) (omega (arith, long t E)) in
        (rw (allowed t E, l), rw (allowed t E, l))

    module _ (b : ℕ) (e : b ≡ length_of (4096 - p.from)) (room : b ≤ length out) (wide : length work ≡ 1024) where
      abbrev first : ℕ
      first = p.from - 3072

      held : 3072 ≤ p.from
      held = omega arith

      abbrev slice : List ℕ
      slice = take (1024 - first) (drop first work)

      slice_is : slice ≡ drop first work
      slice_is = take_all (1024 - first) (drop first work) (omega (arith, length-drop first work))

      module _ (share : Share) (k : (share.thousandths ≡ thousandths n (4096 - p.from)) × (share.remainder ≡ remainder n (4096 - p.from))) where
        -- the values of the answer are those of the statement
        values_are : (t : Statement) → Ends t p work → (4096 - p.from) ∷ b ∷ share.thousandths ∷ share.remainder ∷ [] ≡ values_for n t
        unfolding values_for
        values_are t E = rw (k.0, k.1, counted t E, e, long t E) refl

        pub finish_written : (m : ℕ) (out' : List ℕ) → (m ≡ length (write_nodes slice)) × (out' ≡ write_nodes slice ++ drop m out)
            → Finished n work p out (Ok (record { nodes = 4096 - p.from; bytes = b; share = share })) out'
        unfolding Finished trimmed_outcome trim_for buffer_after write
        finish_written m out' w t E =
            let l : ltb (length out) (length (write t)) ≡ false = le-ltb (length out) (length (write t)) (omega (arith, e, long t E)) in
            let is : slice ≡ nodes t = slice_is ∙ E.stands held in
            let put = subst (λ (xs : List ℕ). (m ≡ length (write_nodes xs)) × (out' ≡ write_nodes xs ++ drop m out)) is w in (
              rw (allowed t E, l) (ap values (values_are t E)),
              rw (allowed t E, l) (put.1 ∙ ap (λ (i : ℕ). write_nodes (nodes t) ++ drop i out) put.0),
            )
