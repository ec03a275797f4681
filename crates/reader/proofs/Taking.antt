-- Taking parts from the end of a text: what was taken brings the machine on, and where no part that ends the text suits it, no text that ends so is one of a statement.
use Prim.Native.Nat.{ℕ, ◌<◌}
use mathlib.Core.Path.{◌≡◌, refl, sym, ap, ◌∙◌}
use mathlib.Core.Logic.{◌⊎◌, inl, inr}
use mathlib.Core.Bool.{Bool, true, false, ◌&&◌, and_assoc, and-true}
use mathlib.Core.Option.{Option, none, some}
use mathlib.Core.List.{List, [], ◌∷◌, ◌++◌, append_assoc}
use native.Mathlib.Omega.{arith}
use lib.ListN.{length}
use Rattle.sets.proofs.Booleans.{clash}
use Rattle.std.specs.Prelude.{Some, None}
use Rattle.std.specs.Prelude as std
use Rattle.reader.specs.declared.lexing.Rest.{Rest}
use Rattle.reader.specs.declared.moves.Reader.{Reader}
use Rattle.reader.specs.declared.moves.Room.{Room}
use Rattle.text.specs.Parts.{Part}
use Rattle.text.specs.Spelling.{last_of}
use Rattle.text.specs.inner.Lexer.{lex, finished, all_of, flushed, rest}
use Rattle.reader.specs.inner.Ending.{Ending}
use Rattle.reader.specs.inner.Blanks.{blank_byte}
use Rattle.reader.specs.inner.Nodes.{part_ranged, all_ranged, Work, failed, work, work_all, made, begun, broken, verdict_for, verdict_in}
use Rattle.reader.specs.inner.Held.{state, Ready, Moved, Clean, Doomed, Advanced, Took}
use Rattle.reader.proofs.Working.{work_failed, work_append}
use Rattle.reader.proofs.Fronts.{rest_in_front}
use Rattle.reader.proofs.Places.{ending_shorter}
use Rattle.reader.proofs.Endings.{Ends, ending_rest, rest_ends}

-- ---- Parts one after the other

pub range_append : (us ts : List Part) → all_ranged (us ++ ts) ≡ (all_ranged us && all_ranged ts)
unfolding all_ranged
range_append [] ts = refl
range_append (u ∷ us) ts = ap (λ (z : Bool). part_ranged u && z) (range_append us ts) ∙ sym (and_assoc (part_ranged u) (all_ranged us) (all_ranged ts))

-- ---- Texts that end in what the machine cannot take

-- where the parts behind a place make the machine fail, nothing before it mends that
failed_verdict : (u : List ℕ) (ts : List Part) → work_all ts begun ≡ failed → verdict_in (rest u ts) ≡ broken
unfolding verdict_in verdict_for made
failed_verdict u ts e = go (rest u ts) refl
  where
    go : (r : Option (List Part)) → rest u ts ≡ r → verdict_in r ≡ broken
    go none h = refl
    go (some vs) h =
        let f = rest_in_front u ts vs h in
        let w : work_all vs begun ≡ failed = ap (λ (l : List Part). work_all l begun) f.1 ∙ work_append f.0 ts begun ∙ ap (work_all f.0) e ∙ work_failed f.0 in
        ap (λ (y : Work). verdict_for (all_ranged vs) (made y)) w

nothing_left : (ts : List Part) → made (work_all ts begun) ≡ none → verdict_in (rest [] ts) ≡ broken
unfolding verdict_in verdict_for rest lex finished flushed all_of
nothing_left ts e = ap (verdict_for (all_ranged ts)) e

-- no part that ends the text suits the machine
pub doomed : (u : List ℕ) (x : Work) → (u ≡ [] → made x ≡ none) → ((v : List ℕ) (t : Part) → Ending u v t → work t x ≡ failed) → Doomed u x
unfolding Doomed Clean verdict_in work_all
doomed u x empty none-suits ts clean e = go (rest u ts) refl
  where
    go : (r : Option (List Part)) → rest u ts ≡ r → verdict_in (rest u ts) ≡ broken
    go none h = ap verdict_in h
    go (some vs) h = ends (rest_ends u ts vs h clean)
      where
        ends : (u ≡ []) ⊎ Ends u → verdict_in (rest u ts) ≡ broken
        ends (inl none_left) = ap (λ (v : List ℕ). verdict_in (rest v ts)) none_left ∙ nothing_left ts (ap made e ∙ empty none_left)
        ends (inr E) =
            ap verdict_in (ending_rest u E.before E.part ts E.ending)
            ∙ failed_verdict E.before (E.part ∷ ts) (ap (work E.part) e ∙ none-suits E.before E.part E.ending)

-- u is v and a part, and no text that ends in v is one of a statement
pub doomed_behind : (u v : List ℕ) (t : Part) (x : Work) → ((ts : List Part) → rest u ts ≡ rest v (t ∷ ts)) → blank_byte (last_of v) ≡ false → Doomed v (work t x) → Doomed u x
unfolding Doomed Clean work_all
doomed_behind u v t x goes_on solid d ts clean e = ap verdict_in (goes_on ts) ∙ d (t ∷ ts) (λ b. absurd (clash b solid)) (ap (work t) e)

-- u is v and parts that the machine fails at
pub doomed_parts : (u v : List ℕ) (x : Work) (part : Part) (parts : List Part) → ((ts : List Part) → rest u ts ≡ rest v (part ∷ (parts ++ ts))) → work_all (part ∷ parts) x ≡ failed → Doomed u x
unfolding Doomed
doomed_parts u v x part parts goes_on f = λ ts clean e.
    ap verdict_in (goes_on ts) ∙ failed_verdict v (part ∷ (parts ++ ts)) (work_append (part ∷ parts) ts begun ∙ ap (work_all (part ∷ parts)) e ∙ f)

-- ---- What was taken

abbrev pub Goes : List ℕ → List ℕ → Work → Bool → Reader → Room → Type 0
Goes u v x ranged s m = Advanced u v x (state s m) ranged s.ranged × Ready s m

-- a move on what the parts behind v make of the machine
pub took : (u v : List ℕ) (x : Work) (part : Part) (parts : List Part) {ranged : Bool} {r s : Reader} {m : Room} → ((ts : List Part) → rest u ts ≡ rest v (part ∷ (parts ++ ts)))
    → r.ranged ≡ (all_ranged (part ∷ parts) && ranged) → length v < length u → Moved r s m (work_all (part ∷ parts) x) → Goes u v x ranged s m
took u v x part parts goes_on within shorter M =
    (record { part = part; parts = parts; goes_on = goes_on; worked = M.state; within = M.ranged ∙ within; shorter = shorter }, M.ready)

module _ (u v : List ℕ) (t : Part) (E : Ending u v t) (x : Work) where
  pub took_part : part_ranged t ≡ true → {r s : Reader} {m : Room} → Moved r s m (work t x) → Goes u v x r.ranged s m
  unfolding work_all all_ranged
  took_part within {r} M = took u v x t [] (λ ts. ending_rest _ _ t ts E) (sym (ap (λ (z : Bool). (z && true) && r.ranged) within)) (ending_shorter u v t E) M

  pub doomed_part : work t x ≡ failed → Doomed u x
  unfolding work_all
  doomed_part f = doomed_parts u v x t [] (λ ts. ending_rest _ _ t ts E) f

-- a part was taken from u to v, and what stands before it suits what it made of the machine
module _ (u v : List ℕ) (t : Part) (x : Work) (ranged mid : Bool) (goes_on : (ts : List Part) → rest u ts ≡ rest v (t ∷ ts)) (behind : length v < length u) (within : mid ≡ (part_ranged t && ranged)) where
  advanced_behind : (w : List ℕ) (y : Work) (ranged' : Bool) → Advanced v w (work t x) y mid ranged' → Advanced u w x y ranged ranged'
  unfolding work_all all_ranged
  advanced_behind w y ranged' A =
      let all = all_ranged (A.part ∷ A.parts) in
      record {
        part = A.part;
        parts = A.parts ++ (t ∷ []);
        goes_on = λ ts. goes_on ts ∙ A.goes_on (t ∷ ts) ∙ ap (λ (us : List Part). rest w (A.part ∷ us)) (sym (append_assoc A.parts (t ∷ []) ts));
        worked = A.worked ∙ sym (work_append (A.part ∷ A.parts) (t ∷ []) x);
        within = A.within ∙ ap (λ (z : Bool). all && z) within ∙ sym (and_assoc all (part_ranged t) ranged)
            ∙ ap (λ (z : Bool). z && ranged) (ap (λ (z : Bool). all && z) (sym (and-true (part_ranged t))) ∙ sym (range_append (A.part ∷ A.parts) (t ∷ [])));
        shorter = omega (arith, A.shorter);
      }

  pub took_behind : blank_byte (last_of v) ≡ false → (o : std.Option (Rest × Reader)) (m : Room) → Took v (work t x) mid o m → Took u x ranged o m
  took_behind solid None m d = doomed_behind u v t x goes_on solid d
  took_behind solid (Some p) m a = (advanced_behind p.0.bytes.now (state p.1 m) p.1.ranged a.0, a.1)
