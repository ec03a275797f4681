-- The steps of trimming, each written in front of what stands in the work area already: one law for each way that a step goes.
use mathlib.Core.Path.{◌≡◌, refl, sym, ap, ap₂, ◌∙◌, subst, subst₂}
use mathlib.Core.Logic.{◌≢◌}
use mathlib.Core.Bool.{Bool, true, false, cond, ◌||◌}
use mathlib.Core.List.{List, [], ◌∷◌, ◌++◌, append_assoc, append-nil}
use Prim.Native.Nat.{ℕ, zero, suc, ◌+◌, ◌-◌, ◌%◌, ◌^◌, ◌≤◌, ◌<◌, max}
use native.Mathlib.Nat.{add-zero}
use native.Mathlib.Decide.{ℕ_discrete}
use native.Mathlib.Numerals.{sub-one}
use native.Mathlib.Omega.{arith}
use lib.Bits.{bit_or}
use borrow.Author.Tests.{eqb-true, eqb-false, ltb-true, ltb-false}
use lib.Dec.{eqb, ltb}
use lib.ListN.{length, get_or, take, drop, set, length-append, length-drop, take-append-drop}
use lib.Seq.{take-suc, drop_at, set_at, take-append-le, take-take, length-take-le, drop-set-lt, drop-set-add}
use Rattle.sets.specs.Set.{has, only, ◌union◌}
use Rattle.sets.proofs.Booleans.{or_false, by_cond, eqb_same, eqb_differ}
use Rattle.sets.proofs.Members.{has_union, has_empty, has_only, has_only_other, only_fits}
use Rattle.esterel.specs.Statement.{Statement, nothing, exit, present, sequence, try, depth}
use Rattle.esterel.specs.Trimming.{is_nothing, names, join_parts}
use Rattle.esterel.proofs.Trimming.{is_nothing_lem, join_first, join_both}
use Rattle.table.specs.Kinds.{kinds, kind_of, row_of}
use Rattle.table.specs.Reading.{operand_of}
use Rattle.table.specs.inner.Making.{node_of}
use Rattle.table.proofs.Making.{node_of_same}
use Rattle.table.specs.Writing.{nodes, node}
use Rattle.table.proofs.Nodes.{depth_positive}
use Rattle.trim.specs.inner.Levels.{wrap_if, guarded_if}
use Rattle.trim.specs.inner.Parts.{Laid, part, part_depth, Puts, NodesStand, PartStands, WholeStands, held_with, nothing_at, PutAt, Joins, LeafPut, NothingFilled, Wrapped, PartsJoined, ElseClosed, PresentClosed}

-- ---- lists written from their end

pub puts_none : (work : List ℕ) (to : ℕ) → Puts [] work to to work
puts_none work to = record { put = λ all n e. sym e ∙ ap (drop 3072) (sym (take-append-drop to all)); from_is = add-zero to }

-- a node in front, in a list of all places
set_front : (all l : List ℕ) (to n x : ℕ) → n < length all → set (take (suc n) all ++ (l ++ drop to all)) n x ≡ take n all ++ (x ∷ l ++ drop to all)
set_front all l to n x h =
    rw (take-suc all n 0 h, append_assoc (take n all) (get_or all n 0 ∷ []) (l ++ drop to all))
    (set_at (take n all) (get_or all n 0) (l ++ drop to all) x n (length-take-le n all (omega arith)))

-- and in those from k on
set_held : (k : ℕ) (all : List ℕ) (i x : ℕ) → cond (ltb i k) (drop k all) (set (drop k all) (i - k) x) ≡ drop k (set all i x)
set_held k all i x =
    by_cond (λ (l : List ℕ). l ≡ drop k (set all i x)) (ltb i k) (drop k all) (set (drop k all) (i - k) x) (λ h. sym (drop-set-lt k all i x (ltb-true i k h)))
    (λ h. let e : k + (i - k) ≡ i = omega (arith, ltb-false i k h) in sym (drop-set-add k all (i - k) x) ∙ ap (λ (j : ℕ). drop k (set all j x)) e)

pub puts_more : (l work work' : List ℕ) (to from x : ℕ) → 1 ≤ from → to ≤ 4096 → Puts l work to from work' → Puts (x ∷ l) work to (from - 1) (held_with work' (from - 1) x)
puts_more l work work' to zero x h w p = absurd (omega arith)
puts_more l work work' to (suc n) x h w p =
    rw sub-one
    (record {
      put = λ all k e.
          ap (λ (v : List ℕ). held_with v n x) (p.put all k e) ∙ set_held 3072 (take (suc n) all ++ (l ++ drop to all)) n x
          ∙ ap (drop 3072) (set_front all l to n x (omega (arith, p.from_is)));
      from_is = omega (arith, p.from_is);
    })

-- a list written in front of another, in a list of all places
module _ (l m all : List ℕ) (to mid from : ℕ) (w : to ≤ length all) (q : mid + length m ≡ to) (p : from + length l ≡ mid) where
  abbrev then : List ℕ
  then = take mid all ++ (m ++ drop to all)

  front : length (take mid all) ≡ mid
  front = length-take-le mid all (omega arith)

  then_long : length then ≡ length all
  then_long = simp (length-append, length-drop, front) (omega arith)

  then_front : take from then ++ (l ++ drop mid then) ≡ take from all ++ ((l ++ m) ++ drop to all)
  then_front =
      let e : take from then ≡ take from all =
      take-append-le from (take mid all) (m ++ drop to all) (rw front (omega arith)) ∙ take-take from mid all (omega arith) in
      rw (e, drop_at (take mid all) (m ++ drop to all) mid front, append_assoc l m (drop to all))

pub puts_both : (l m work between work' : List ℕ) (to mid from : ℕ) → to ≤ 4096 → Puts m work to mid between → Puts l between mid from work'
    → Puts (l ++ m) work to from work'
puts_both l m work between work' to mid from w q p =
    record {
      put = λ all k e.
          let h : to ≤ length all = omega arith in
          p.put (then l m all to mid from h q.from_is p.from_is) (then_long l m all to mid from h q.from_is p.from_is ∙ k) (sym (q.put all k e))
          ∙ ap (drop 3072) (then_front l m all to mid from h q.from_is p.from_is);
      from_is = rw (length-append l m) (omega (arith, p.from_is, q.from_is));
    }

-- ---- parts and whole statements

-- a part is nothing exactly where its depth is 0
depth_none : (t : Statement) → part_depth t ≡ 0 → t ≡ nothing
unfolding part_depth
depth_none t = go (is_nothing t) refl
  where
    go : (z : Bool) → is_nothing t ≡ z → cond z 0 (depth t) ≡ 0 → t ≡ nothing
    go true e h = is_nothing_lem t e
    go false e h = let n = depth_positive t in absurd (omega arith)

depth_some : (t : Statement) → part_depth t ≢ 0 → is_nothing t ≡ false
unfolding part_depth
depth_some t = go (is_nothing t) refl
  where
    go : (z : Bool) → is_nothing t ≡ z → cond z 0 (depth t) ≢ 0 → is_nothing t ≡ false
    go true e h = absurd (h refl)
    go false e h = e

part_whole : (t : Statement) → is_nothing t ≡ false → part t ≡ nodes t
unfolding part
part_whole t e = rw e

depth_whole : (t : Statement) → is_nothing t ≡ false → part_depth t ≡ depth t
unfolding part_depth
depth_whole t e = rw e

module _ (t : Statement) (work : List ℕ) (to : ℕ) (r : Laid) (work' : List ℕ) where
  whole_made : is_nothing t ≡ false → WholeStands t work to r work' → PartStands t work to r work'
  whole_made e W = subst₂ (λ (l : List ℕ) (d : ℕ). NodesStand l d t work to r work') (sym (part_whole t e)) (sym (depth_whole t e)) W

  made_whole : is_nothing t ≡ false → PartStands t work to r work' → WholeStands t work to r work'
  made_whole e M = subst₂ (λ (l : List ℕ) (d : ℕ). NodesStand l d t work to r work') (part_whole t e) (depth_whole t e) M

  made_none : PartStands t work to r work' → r.depth ≡ 0 → t ≡ nothing
  made_none M e = depth_none t (sym M.depth_is ∙ e)

  made_some : PartStands t work to r work' → r.depth ≢ 0 → is_nothing t ≡ false
  made_some M n = depth_some t (λ z. n (M.depth_is ∙ z))

pub made_nothing : (work : List ℕ) (to : ℕ) → PartStands nothing work to (nothing_at to) work
unfolding part part_depth is_nothing names
made_nothing work to = record { puts = puts_none work to; depth_is = refl; names_are = has_empty }

-- what the test of a part's depth says
pub no_depth : {z : Bool} {n : ℕ} → z ≡ eqb n 0 → z ≡ true → n ≡ 0
no_depth {z} {n} e h = eqb-true n 0 (sym e ∙ h)

pub some_depth : {z : Bool} {n : ℕ} → z ≡ eqb n 0 → z ≡ false → n ≢ 0
some_depth {z} {n} e h = eqb-false n 0 (sym e ∙ h)

-- ---- the nodes that trimming makes of a kind and an operand

pub nothing_node : node_of 0 0 ≡ node 0 0
unfolding row_of kind_of kinds
nothing_node = node_of_same 0 0 (omega arith) (omega arith)

pub sequence_node : node_of 7 0 ≡ node 7 0
unfolding row_of kind_of kinds
sequence_node = node_of_same 7 0 (omega arith) (omega arith)

pub parallel_node : node_of 8 0 ≡ node 8 0
unfolding row_of kind_of kinds
parallel_node = node_of_same 8 0 (omega arith) (omega arith)

pub loop_node : node_of 9 0 ≡ node 9 0
unfolding row_of kind_of kinds
loop_node = node_of_same 9 0 (omega arith) (omega arith)

pub try_node : node_of 10 0 ≡ node 10 0
unfolding row_of kind_of kinds
try_node = node_of_same 10 0 (omega arith) (omega arith)

pub exit_node : (e : ℕ) → 1 ≤ e → e ≤ 63 → node_of 4 e ≡ node 4 e
unfolding row_of kind_of kinds
exit_node e = node_of_same 4 e

-- ---- a statement of one node

puts_put : (l before work work' : List ℕ) (to from x f : ℕ) → 1 ≤ from → to ≤ 4096 → Puts l before to from work → PutAt work from x f work'
    → Puts (x ∷ l) before to f work'
puts_put l before work work' to from x f h w p e = subst₂ (λ (n : ℕ) (m : List ℕ). Puts (x ∷ l) before to n m) (sym e.0) (sym e.1) (puts_more l before work to from x h w p)

pub leaf_put : {x named : ℕ} {work : List ℕ} {to f : ℕ} {work' : List ℕ} → 1 ≤ to → to ≤ 4096 → PutAt work to x f work'
    → LeafPut x named work to (record { from = f; depth = 1; named = named }) work'
leaf_put {x} {named} {work} {to} {f} {work'} h w e =
    record {
      made = λ t L. whole_made t work to (record { from = f; depth = 1; named = named }) work' L.some (record {
        puts = subst (λ (l : List ℕ). Puts l work to f work') (sym L.nodes_are) (puts_put [] work work work' to to x f h w (puts_none work to) e);
        depth_is = sym L.deep;
        names_are = L.names_are;
      });
      near = omega (arith, e.0);
      shallow = omega arith;
    }

-- ---- nothing filled in

pub filled_none : {work : List ℕ} {p : Laid} {f : ℕ} {work' : List ℕ} → 1 ≤ p.from → p.depth ≡ 0 → PutAt work p.from (node 0 0) f work'
    → NothingFilled work p (record { from = f; depth = 1; named = p.named }) work'
unfolding nodes depth part is_nothing
filled_none {work} {p} {f} {work'} h z e =
    record {
      made = λ t before to w M.
          let n : t ≡ nothing = made_none t before to p work M z in
          let N : PartStands nothing before to p work = subst (λ (u : Statement). PartStands u before to p work) n M in
          subst (λ (u : Statement). WholeStands u before to (record { from = f; depth = 1; named = p.named }) work') (sym n)
          (record { puts = puts_put [] before work work' to p.from (node 0 0) f h w N.puts e; depth_is = refl; names_are = N.names_are });
      near = omega (arith, e.0);
      below = omega (arith, e.0);
      shallow = omega arith;
    }

pub filled_some : {work : List ℕ} {p : Laid} → p.depth ≢ 0 → NothingFilled work p p work
filled_some {work} {p} n =
    record { made = λ t before to w M. made_whole t before to p work (made_some t before to p work M n) M; near = omega arith; below = omega arith; shallow = omega arith }

-- ---- a statement over a part

pub wrapped_not : {x : ℕ} {z : Bool} {work : List ℕ} {p : Laid} → z ≡ false → Wrapped x z work p p work
unfolding wrap_if
wrapped_not {x} {z} {work} {p} e = record { made = λ f t before to W w M. rw e M; near = omega arith; shallow = omega arith }

pub wrapped_put : {x : ℕ} {z : Bool} {work : List ℕ} {p v : Laid} {between : List ℕ} {f : ℕ} {work' : List ℕ} → z ≡ true → 1 ≤ v.from
    → NothingFilled work p v between → PutAt between v.from x f work' → Wrapped x z work p (record { from = f; depth = v.depth + 1; named = v.named }) work'
unfolding wrap_if
wrapped_put {x} {z} {work} {p} {v} {between} {f} {work'} k h F e =
    record {
      made = λ g t before to W w M.
          let U = F.made t before to w M in
          rw k (whole_made (g t) before to (record { from = f; depth = v.depth + 1; named = v.named }) work' (W.some t) (record {
            puts = subst (λ (l : List ℕ). Puts l before to f work') (sym (W.nodes_are t)) (puts_put (nodes t) before between work' to v.from x f h w U.puts e);
            depth_is = omega (arith, U.depth_is, W.deep t);
            names_are = λ S. U.names_are S ∙ sym (W.names_are S t);
          }));
      near = omega (arith, e.0, F.near);
      shallow = omega (arith, F.shallow);
    }

-- ---- one signal

pub has_signal : (S own : ℕ) → S < 64 → own ≡ only S % 2 ^ 64 → (n : ℕ) → has own n ≡ eqb n S
has_signal S own h e n = ap (λ (m : ℕ). has m n) (e ∙ only_fits 64 S h) ∙ go (ℕ_discrete n S)
  where
    go : Dec (n ≡ S) → has (only S) n ≡ eqb n S
    go (yes z) = rw z (has_only S ∙ sym (eqb_same S))
    go (no z) = has_only_other S n (λ y. z (sym y)) ∙ sym (eqb_differ n S z)

-- ---- two parts

pub has_or : (a b S : ℕ) → has (bit_or a b) S ≡ (has a S || has b S)
unfolding ◌union◌
has_or a b S = has_union a b S

names_two : (p q S : ℕ) (s t : Statement) → has p S ≡ names S s → has q S ≡ names S t → has (bit_or p q) S ≡ (names S s || names S t)
names_two p q S s t h k = has_or p q S ∙ ap₂ ◌||◌ h k

join_none : (f : Statement → Statement → Statement) (t : Statement) → join_parts f nothing t ≡ t
unfolding join_parts is_nothing
join_none f t = refl

module _ {x : ℕ} {work : List ℕ} {p q : Laid} where
  pub joined_second : p.depth ≡ 0 → PartsJoined x work p q (record { from = p.from; depth = q.depth; named = bit_or p.named q.named }) work
  unfolding part part_depth is_nothing names
  joined_second z =
      record {
        made = λ f s t before between to J w Q P.
            let n : s ≡ nothing = made_none s between q.from p work P z in
            let N : PartStands nothing between q.from p work = subst (λ (u : Statement). PartStands u between q.from p work) n P in
            let r : Laid = record { from = p.from; depth = q.depth; named = bit_or p.named q.named } in
            subst (λ (u : Statement). PartStands u before to r work) (sym (join_none f t) ∙ ap (λ (u : Statement). join_parts f u t) (sym n))
            (record {
              puts = puts_both [] (part t) before between work to q.from p.from w Q.puts N.puts;
              depth_is = Q.depth_is;
              names_are = λ S. names_two p.named q.named S nothing t (N.names_are S) (Q.names_are S);
            });
        near = omega arith;
        shallow = omega arith;
      }

  pub joined_first : q.depth ≡ 0 → PartsJoined x work p q (record { from = p.from; depth = p.depth; named = bit_or p.named q.named }) work
  unfolding part part_depth is_nothing names
  joined_first z =
      record {
        made = λ f s t before between to J w Q P.
            let n : t ≡ nothing = made_none t before to q between Q z in
            let N : PartStands nothing before to q between = subst (λ (u : Statement). PartStands u before to q between) n Q in
            let r : Laid = record { from = p.from; depth = p.depth; named = bit_or p.named q.named } in
            subst (λ (u : Statement). PartStands u before to r work)
            (sym (join_first f s t (ap is_nothing n)))
            (record {
              puts = subst (λ (l : List ℕ). Puts l before to p.from work) (append-nil (part s)) (puts_both (part s) [] before between work to q.from p.from w N.puts P.puts);
              depth_is = P.depth_is;
              names_are = λ S. names_two p.named q.named S s nothing (P.names_are S) (N.names_are S) ∙ or_false (names S s);
            });
        near = omega arith;
        shallow = omega arith;
      }

  pub joined_put : {f : ℕ} {work' : List ℕ} → 1 ≤ p.from → p.depth ≢ 0 → q.depth ≢ 0 → PutAt work p.from x f work'
      → PartsJoined x work p q (record { from = f; depth = max p.depth q.depth + 1; named = bit_or p.named q.named }) work'
  joined_put {f} {work'} h m n e =
      record {
        made = λ g s t before between to J w Q P.
            let a : is_nothing s ≡ false = made_some s between q.from p work P m in
            let b : is_nothing t ≡ false = made_some t before to q between Q n in
            let U = made_whole s between q.from p work a P in
            let T = made_whole t before to q between b Q in
            let r : Laid = record { from = f; depth = max p.depth q.depth + 1; named = bit_or p.named q.named } in
            subst (λ (u : Statement). PartStands u before to r work') (sym (join_both g s t a b))
            (whole_made (g s t) before to r work' (J.some s t) (record {
              puts = subst (λ (l : List ℕ). Puts l before to f work') (sym (J.nodes_are s t))
                  (puts_put (nodes s ++ nodes t) before work work' to p.from x f h w (puts_both (nodes s) (nodes t) before between work to q.from p.from w T.puts U.puts) e);
              depth_is = omega (arith, U.depth_is, T.depth_is, J.deep s t);
              names_are = λ S. names_two p.named q.named S s t (P.names_are S) (Q.names_are S) ∙ sym (J.names_are S s t ∙ ap (λ (u : Bool). u || (names S s || names S t)) (has_empty S));
            }));
        near = omega (arith, e.0);
        shallow = omega arith;
      }

-- ---- the else branch of a present

-- try (exit 1 ; q)
abbrev guarded : Statement → Statement
guarded q = try (sequence (exit 1) q)

guarded_depth : (t : Statement) → depth (guarded t) ≡ depth t + 2
unfolding depth
guarded_depth t = let h = depth_positive t in omega arith

guard_none : (z : Bool) → guarded_if z nothing ≡ nothing
unfolding guarded_if is_nothing
guard_none z = refl

guard_not : (t : Statement) → guarded_if false t ≡ t
unfolding guarded_if wrap_if
guard_not t = go (is_nothing t)
  where
    go : (z : Bool) → cond z t t ≡ t
    go true = refl
    go false = refl

guard_some : (t : Statement) → is_nothing t ≡ false → guarded_if true t ≡ guarded t
unfolding guarded_if wrap_if
guard_some t e = rw e

module _ {started z : Bool} {work : List ℕ} {q : Laid} where
  pub else_whole : started ≡ true → {r : Laid} {work' : List ℕ} → NothingFilled work q r work' → ElseClosed started z work q r work'
  else_whole e {r} {work'} F =
      rw e (record { made = λ t before to w M. F.made t before to w M; near = F.near; shallow = omega (arith, F.shallow) })

  pub else_none : started ≡ false → q.depth ≡ 0 → ElseClosed started z work q q work
  else_none e h =
      rw e (record {
        made = λ t before to w M.
            let n : t ≡ nothing = made_none t before to q work M h in
            subst (λ (u : Statement). PartStands u before to q work) (n ∙ sym (guard_none z) ∙ ap (guarded_if z) (sym n)) M;
        near = omega arith;
        shallow = omega arith;
      })

  pub else_free : started ≡ false → z ≡ false → ElseClosed started z work q q work
  else_free e h =
      rw (e, h) (record { made = λ t before to w M. subst (λ (u : Statement). PartStands u before to q work) (sym (guard_not t)) M; near = omega arith; shallow = omega arith })

  pub else_guarded : started ≡ false → z ≡ true → q.depth ≢ 0 → 3 ≤ q.from → {f₁ f₂ f₃ : ℕ} {work₁ work₂ work₃ : List ℕ}
      → PutAt work q.from (node 4 1) f₁ work₁ → PutAt work₁ f₁ (node 7 0) f₂ work₂ → PutAt work₂ f₂ (node 10 0) f₃ work₃
      → ElseClosed started z work q (record { from = f₃; depth = q.depth + 2; named = q.named }) work₃
  unfolding nodes names is_nothing
  else_guarded e k n h {f₁} {f₂} {f₃} {work₁} {work₂} {work₃} A B C =
      rw (e, k) (record {
        made = λ t before to w M.
            let some : is_nothing t ≡ false = made_some t before to q work M n in
            let U = made_whole t before to q work some M in
            let r : Laid = record { from = f₃; depth = q.depth + 2; named = q.named } in
            let one = puts_put (nodes t) before work work₁ to q.from 257 f₁ (omega arith) w U.puts A in
            let two = puts_put (257 ∷ nodes t) before work₁ work₂ to f₁ 448 f₂ (omega (arith, A.0)) w one B in
            let three = puts_put (448 ∷ (257 ∷ nodes t)) before work₂ work₃ to f₂ 640 f₃ (omega (arith, A.0, B.0)) w two C in
            subst (λ (u : Statement). PartStands u before to r work₃) (sym (guard_some t some))
            (whole_made (guarded t) before to r work₃ refl (record { puts = three; depth_is = omega (arith, U.depth_is, guarded_depth t); names_are = M.names_are }));
        near = omega (arith, A.0, B.0, C.0);
        shallow = omega arith;
      })

-- ---- a present

pub joins_sequence : Joins sequence (node 7 0) 0
unfolding nodes is_nothing depth names
joins_sequence = record { nodes_are = λ p q. refl; some = λ p q. refl; deep = λ p q. refl; names_are = λ S p q. sym (ap (λ (z : Bool). z || (names S p || names S q)) (has_empty S)) }

or_turned : (a b : Bool) → (a || b) ≡ (b || a)
or_turned true true = refl
or_turned true false = refl
or_turned false true = refl
or_turned false false = refl

module _ {started : Bool} {x : ℕ} {work : List ℕ} {p q : Laid} where
  pub present_joined : started ≡ false → {r : Laid} {work' : List ℕ} → PartsJoined (node 7 0) work p q r work' → PresentClosed started x work p q r work'
  present_joined e {r} {work'} J =
      rw e (record {
        made = λ s t before between to i w Q P. J.made sequence s t before between to joins_sequence w Q P;
        near = J.near;
        shallow = omega (arith, J.shallow);
      })

  pub present_whole : started ≡ true → {v : Laid} {work₁ : List ℕ} {f : ℕ} {work' : List ℕ} → (own : ℕ) → 1 ≤ v.from → ((n : ℕ) → has own n ≡ eqb n (operand_of x))
      → NothingFilled work p v work₁ → PutAt work₁ v.from x f work'
      → PresentClosed started x work p q (record { from = f; depth = max v.depth q.depth + 1; named = bit_or (bit_or v.named q.named) own }) work'
  unfolding nodes is_nothing depth names
  present_whole e {v} {work₁} {f} {work'} own h o F A =
      rw e (record {
        made = λ s t before between to i w Q P.
            let U = F.made s between q.from (omega (arith, Q.puts.from_is)) P in
            let r : Laid = record { from = f; depth = max v.depth q.depth + 1; named = bit_or (bit_or v.named q.named) own } in
            let S = operand_of x in
            let B : PutAt work₁ v.from (node 6 S) f work' = subst (λ (y : ℕ). PutAt work₁ v.from y f work') i A in
            whole_made (present S s t) before to r work' refl (record {
              puts = puts_put (nodes s ++ nodes t) before work₁ work' to v.from (node 6 S) f h w
                  (puts_both (nodes s) (nodes t) before between work₁ to q.from v.from w Q.puts U.puts) B;
              depth_is = omega (arith, U.depth_is, Q.depth_is);
              names_are = λ m.
                  has_or (bit_or v.named q.named) own m ∙ ap₂ ◌||◌ (names_two v.named q.named m s t (U.names_are m) (Q.names_are m)) (o m)
                  ∙ or_turned (names m s || names m t) (eqb m S);
            });
        near = omega (arith, A.0, F.near);
        shallow = omega (arith, F.shallow);
      })
