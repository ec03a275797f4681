-- The loop over a text: what was read of it brought the machine where the reader is, and the text is what is left before those parts.
use Prim.Native.Nat.{ℕ, ◌<◌}
use mathlib.Core.Path.{◌≡◌, refl, sym, ap, ◌∙◌, subst}
use mathlib.Core.Bool.{Bool, true, false, not, ◌&&◌}
use mathlib.Core.Option.{none, some}
use mathlib.Core.List.{List, [], ◌∷◌, ◌++◌}
use native.Mathlib.Omega.{arith}
use lib.ListN.{length, get_or, drop, drop_of_length-le}
use lib.Seq.{drop-cons}
use borrow.Author.Tests.{not-true, not-false}
use Rattle.std.specs.Prelude.{Result, Some, Ok, Err, ok_or}
use Rattle.std.specs.Prelude as std
use Rattle.sets.proofs.Booleans.{clash}
use Rattle.reader.specs.declared.lexing.Rest.{Rest}
use Rattle.reader.specs.declared.moves.Reader.{Reader}
use Rattle.reader.specs.declared.moves.Stage.TheVariants.{Due, Met}
use Rattle.reader.specs.declared.moves.Room.{Room}
use Rattle.table.specs.declared.Refusal.{Refusal}
use Rattle.table.specs.declared.Refusal.TheVariants.{Grammar, Count}
use Rattle.reader.specs.declared.frames.Opened.{Opened}
use Rattle.reader.specs.declared.frames.Opened.TheVariants.{Bracket, Ending, Otherwise}
use Rattle.text.specs.Parts.{Part}
use Rattle.text.specs.inner.Lexer.{Class, Edge, edge, at, flushed, add_blank, take as takes, lex, all_of, finished, rest, parts_in}
use Rattle.text.proofs.Lexer.{class_blank}
use Rattle.reader.specs.inner.Ending.{Begun, Skipped}
use Rattle.reader.specs.inner.Blanks.{blank_byte}
use Rattle.reader.specs.inner.Nodes.{all_ranged, Kept, few, Work, due, aside, work_all, whole_nodes, made, begun, Verdict, broken, outside, verdict_for, verdict_in, verdict_of, Frames, bottom}
use Rattle.reader.specs.inner.Kept.{kept_in, Stored}
use Rattle.reader.specs.inner.Held.{framed_as, after_of, staged, frames_of, stack_at, nodes_of, due_state, met_state, state, Ready, Clean, Doomed, Took, Found}
use Rattle.reader.proofs.Blanks.{blank_cases}
use Rattle.reader.proofs.Moving.{state_due, at_60}
use Rattle.reader.proofs.Working.{work_append}
use Rattle.reader.proofs.Taking.{range_append, Goes}

-- ---- A text that begins with a blank

finished_blank : (x : Edge) → finished (add_blank x) ≡ none
unfolding finished add_blank
finished_blank Edge.broken = refl
finished_blank (edge []) = refl
finished_blank (edge (t ∷ ts)) = refl
finished_blank (Edge.half ts) = refl

pub blank_first : (bs : List ℕ) → blank_byte (get_or bs 0 0) ≡ true → broken ≡ verdict_of bs
unfolding verdict_of verdict_in parts_in rest lex takes blank_byte
blank_first [] e = clash e refl
blank_first (b ∷ bs) e =
    sym (ap (λ (k : Class). verdict_in (finished (takes k b (lex bs (at [] []))))) (class_blank b (blank_cases b e)) ∙ ap verdict_in (finished_blank (flushed (lex bs (at [] [])))))

-- ---- The loop

-- the parts behind u brought the machine where the reader is, and bs is u and those parts
pub record Parsing (bs u : List ℕ) (r : Reader) (m : Room) : Type 0 where
  pub parts : List Part
  pub goes_on : rest u parts ≡ parts_in bs
  pub worked : work_all parts begun ≡ state r m
  pub within : r.ranged ≡ all_ranged parts
  pub clean : Clean u parts
  pub ready : Ready r m

-- a text that begins with a blank, or its whole
pub unbegun : (bs : List ℕ) (o : std.Option Rest) (e : Refusal) → Begun bs o → Err e ≡ ok_or o Grammar → (verdict_of bs ≡ broken) × (e ≡ Grammar)
unbegun bs std.None e b h = (sym (blank_first bs b), cc)
unbegun bs (std.Some x) e b h = let z : ◌≡◌ {A = ℕ} 0 1 = cc in absurd (omega arith)

pub begun_whole : (bs : List ℕ) (o : std.Option Rest) (x : Rest) → Begun bs o → Ok x ≡ ok_or o Grammar → x.bytes.now ≡ bs
begun_whole bs std.None x b h = let z : ◌≡◌ {A = ℕ} 0 1 = cc in absurd (omega arith)
begun_whole bs (std.Some y) x b h = let e : x ≡ y = cc in rw e b

pub parsing_none : (bs u : List ℕ) (m : Room) → u ≡ bs → length m.frames ≡ 60 → length m.nodes ≡ 1024
    → Parsing bs u (record { stage = Due; ranged = true; beside = false; left = 60; count = Some 0 }) m
unfolding parts_in work_all state staged due_state after_of begun all_ranged Clean kept_in
parsing_none bs u m e lf lx =
    let nothing-kept : few (drop 1024 m.nodes) ≡ few [] = ap few (drop_of_length-le m.nodes {i = 1024} (omega arith)) in
    record {
      parts = [];
      goes_on = ap (λ (v : List ℕ). rest v []) e;
      worked = sym (ap (λ (K : Frames). due 60 false false K (few (drop 1024 m.nodes))) (at_60 m.frames refl lf) ∙ ap (λ (B : Kept). due 60 false false bottom B) nothing-kept);
      within = refl;
      clean = λ b. refl;
      ready = record { room = omega arith; counted = omega arith; frames = lf; nodes = lx };
    }

module _ {bs u : List ℕ} {r : Reader} {m : Room} (p : Parsing bs u r m) where
  -- nothing that suits ends there
  pub parsing_broken : Doomed u (state r m) → verdict_of bs ≡ broken
  unfolding Doomed verdict_of
  parsing_broken d = ap verdict_in (sym p.goes_on) ∙ d p.parts p.clean p.worked

  -- what was taken, or none of it
  pub stopped : (o : std.Option (Rest × Reader)) (q : Room) (e : Refusal) → Took u (state r m) r.ranged o q → Err e ≡ ok_or o Grammar → (verdict_of bs ≡ broken) × (e ≡ Grammar)
  stopped std.None q e d h = (parsing_broken d, cc)
  stopped (std.Some p) q e t h = let z : ◌≡◌ {A = ℕ} 0 1 = cc in absurd (omega arith)

  pub taken : (o : std.Option (Rest × Reader)) (q : Room) (v : Rest) (s : Reader) → Took u (state r m) r.ranged o q → Ok (v, s) ≡ ok_or o Grammar → Goes u v.bytes.now (state r m) r.ranged s q
  taken std.None q v s d h = let z : ◌≡◌ {A = ℕ} 0 1 = cc in absurd (omega arith)
  taken (std.Some p) q v s t h =
      let e : (v, s) ≡ p = cc in
      subst (λ (z : Rest × Reader). Goes u z.0.bytes.now (state r m) r.ranged z.1 q) (sym e) t

  -- parts were taken, and the blanks before them
  pub parsing_more : {v w : List ℕ} {s : Reader} {q : Room} → Goes u v (state r m) r.ranged s q → Skipped v w → Parsing bs w s q
  unfolding Clean
  parsing_more (A, R) k =
      let first : List Part = A.part ∷ A.parts in
      record {
        parts = first ++ p.parts;
        goes_on = sym (A.goes_on p.parts ∙ k.goes_on A.part (A.parts ++ p.parts)) ∙ p.goes_on;
        worked = work_append first p.parts begun ∙ ap (work_all first) p.worked ∙ sym A.worked;
        within = A.within ∙ ap (λ (z : Bool). all_ranged first && z) p.within ∙ sym (range_append first p.parts);
        clean = λ b. absurd (clash b k.solid);
        ready = R;
      }

  -- all was read
  pub parsing_done : length u ≡ 0 → verdict_for r.ranged (made (state r m)) ≡ verdict_of bs
  unfolding verdict_of verdict_in rest lex finished flushed all_of
  parsing_done e =
      sym (ap verdict_in (sym p.goes_on) ∙ ap (λ (v : List ℕ). verdict_in (rest v p.parts)) (empty u e)
      ∙ ap (λ (z : Bool). verdict_for z (made (work_all p.parts begun))) (sym p.within)
      ∙ ap (λ (y : Work). verdict_for r.ranged (made y)) p.worked)
    where
      empty : (v : List ℕ) → length v ≡ 0 → v ≡ []
      empty [] h = refl
      empty (b ∷ v) h = absurd (omega arith)

-- ---- All was read

pub found_as : {v w : Verdict} (r : Result ℕ Refusal) (xs : List ℕ) → v ≡ w → Found w r xs → Found v r xs
found_as r xs e F = subst (λ (z : Verdict). Found z r xs) (sym e) F

pub finished_due : (r : Reader) (m : Room) → (r.stage ≡ Met → ⊥) → verdict_for r.ranged (made (state r m)) ≡ broken
unfolding due_state made verdict_for
finished_due r m f = rw (state_due r m f)

framed_unwhole : (B : Kept) (o : Opened) (a b : Bool) (k : ℕ) (K : Frames) → whole_nodes B (framed_as o a b k K) ≡ none
unfolding whole_nodes framed_as
framed_unwhole B Bracket a b k K = refl
framed_unwhole B Ending a b k K = refl
framed_unwhole B Otherwise a b k K = refl

module _ (r : Reader) (m : Room) (isMet : r.stage ≡ Met) (R : Ready r m) where
  pub finished_open : (r.left ≡ 60 → ⊥) → verdict_for r.ranged (made (state r m)) ≡ broken
  unfolding state staged met_state made verdict_for stack_at frames_of
  finished_open n =
      let room = R.room in
      let long = R.frames in
      let some : r.left < length m.frames = omega arith in
      rw (isMet, drop-cons m.frames r.left (record { opened = Bracket; after = false; beside = false; behind = 0 }), framed_unwhole)

  module _ (all : r.left ≡ 60) where
    made_whole : made (state r m) ≡ some (aside r.beside (nodes_of r m))
    unfolding state staged met_state made whole_nodes
    made_whole = rw (isMet, at_60 m.frames all R.frames)

    pub finished_outside : not r.ranged ≡ true → verdict_for r.ranged (made (state r m)) ≡ outside
    unfolding verdict_for
    finished_outside e = ap (λ (z : Bool). verdict_for z (made (state r m))) (not-true r.ranged e) ∙ ap (verdict_for false) made_whole

    -- the nodes with that of the `||` behind them, as they are counted
    pub finished_whole : not r.ranged ≡ false → (n : std.Option ℕ) (ys : List ℕ) → Stored n ys (aside r.beside (nodes_of r m)) → (x : Result ℕ Refusal) → x ≡ ok_or n Count → Found (verdict_for r.ranged (made (state r m))) x ys
    unfolding verdict_for kept_in
    finished_whole inside std.None ys S x e = found_as x ys (ap (λ (z : Bool). verdict_for z (made (state r m))) (not-false r.ranged inside) ∙ ap (verdict_for true) (made_whole ∙ ap some (sym S.held))) e
    finished_whole inside (std.Some n) ys S x e =
        found_as x ys (ap (λ (z : Bool). verdict_for z (made (state r m))) (not-false r.ranged inside) ∙ ap (verdict_for true) (made_whole ∙ ap some (sym S.held))) (record { count = n; is = e; counted = S.counted; filled = S.filled; stand = refl })
