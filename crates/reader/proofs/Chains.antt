-- Where a chain was met: what taking the part before it comes to, for each last byte and each test of the lexer.
use Prim.Native.Nat.{ℕ, ◌≤◌}
use mathlib.Core.Path.{◌≡◌, refl, sym, ap, ◌∙◌, subst}
use mathlib.Core.Logic.{◌≢◌}
use mathlib.Core.Bool.{Bool}
use mathlib.Core.List.{List, [], ◌∷◌, ◌++◌}
use native.Mathlib.Omega.{arith}
use lib.ListN.{length}
use Rattle.std.specs.Prelude.{None}
use Rattle.std.specs.Prelude as std
use Rattle.sets.proofs.Booleans.{clash}
use Rattle.reader.specs.declared.lexing.Rest.{Rest}
use Rattle.reader.specs.declared.moves.Reader.{Reader}
use Rattle.reader.specs.declared.moves.Room.{Room}
use Rattle.reader.specs.declared.frames.Frame.{Frame}
use Rattle.text.specs.Parts.{In, Then, Else, Loop, Try, Part, word, semicolon, bars, opening}
use Rattle.text.specs.Spelling.{letters_of, spelling, first_of, last_of}
use Rattle.text.specs.inner.Lexer.{is_letter}
use Rattle.reader.specs.inner.Ending.{Ending, Words}
use Rattle.reader.specs.inner.Nodes.{Kept, put_on, Frames, Work, failed, met, aside, end_frame, work_met, work}
use Rattle.reader.specs.inner.Kept.{Stored}
use Rattle.reader.specs.inner.Held.{Doomed, Moved, Took, Chained, Ready, stack_at, stack_of, nodes_of, whole_reader, met_state}
use Rattle.reader.proofs.Moving.{moved_as}
use Rattle.reader.proofs.Taking.{doomed}
use Rattle.reader.proofs.Suiting.{met_failed}
use Rattle.reader.proofs.Parting.{some_bytes, last_of_lem, no_word}

-- ---- `||`

pub bars_ending : {u v : List ℕ} → u ≡ v ++ (124 ∷ 124 ∷ []) → Ending u v bars
unfolding spelling first_of is_letter
bars_ending e = record { spelt = e; clear = λ h. clash h refl }

no_bars_ending : {u v : List ℕ} {t : Part} → Ending u v t → ((w : List ℕ) → u ≡ w ++ (124 ∷ 124 ∷ []) → ⊥) → t ≡ bars → ⊥
unfolding spelling
no_bars_ending {u} {v} E f e = f v (subst (Ending u v) e E).spelt

-- ---- No part of those that suit ends in the byte

met_by : {u v : List ℕ} {t : Part} → Ending u v t → {c : ℕ} → last_of u ≡ c → (n : ℕ) (b : Bool) (K : Frames) (B : Kept) → (c ≡ 110 → t ≡ word In → ⊥) → (c ≡ 110 → t ≡ word Then → ⊥) → (c ≡ 101 → t ≡ word Else → ⊥)
    → (c ≡ 112 → t ≡ word Loop → ⊥) → (c ≡ 121 → t ≡ word Try → ⊥) → (c ≡ 59 → t ≡ semicolon → ⊥) → (c ≡ 124 → t ≡ bars → ⊥) → (c ≡ 91 → t ≡ opening → ⊥) → work_met n b K B t ≡ failed
unfolding spelling letters_of last_of
met_by {t = t} E l n b K B ins thens elses loops tries joins bared opens =
    met_failed n b K B t (λ e. ins (sym l ∙ last_of_lem E _ e) e) (λ e. thens (sym l ∙ last_of_lem E _ e) e) (λ e. elses (sym l ∙ last_of_lem E _ e) e) (λ e. loops (sym l ∙ last_of_lem E _ e) e)
    (λ e. tries (sym l ∙ last_of_lem E _ e) e) (λ e. joins (sym l ∙ last_of_lem E _ e) e) (λ e. bared (sym l ∙ last_of_lem E _ e) e) (λ e. opens (sym l ∙ last_of_lem E _ e) e)

-- a byte that ends no such part but `;`
pub record Unmet (c : ℕ) : Type 0 where
  pub heads : c ≢ 110
  pub elses : c ≢ 101
  pub loops : c ≢ 112
  pub tries : c ≢ 121
  pub bars : c ≢ 124
  pub opens : c ≢ 91

module _ (u : List ℕ) (some : 1 ≤ length u) (n : ℕ) (b : Bool) (K : Frames) (B : Kept) where
  met_doomed : ((v : List ℕ) (t : Part) → Ending u v t → work_met n b K B t ≡ failed) → Doomed u (met n b K B)
  unfolding work
  met_doomed none-suits = doomed u (met n b K B) (some_bytes u some) none-suits

  pub no_bars : last_of u ≡ 124 → ((w : List ℕ) → u ≡ w ++ (124 ∷ 124 ∷ []) → ⊥) → Doomed u (met n b K B)
  no_bars l f =
      met_doomed
      (λ v t E. met_by E l n b K B (λ c. absurd (omega arith)) (λ c. absurd (omega arith)) (λ c. absurd (omega arith)) (λ c. absurd (omega arith)) (λ c. absurd (omega arith)) (λ c. absurd (omega arith))
      (λ c. no_bars_ending E f) (λ c. absurd (omega arith)))

  pub no_loop : last_of u ≡ 112 → Words u (letters_of Loop) None → Doomed u (met n b K B)
  no_loop l f =
      met_doomed
      (λ v t E. met_by E l n b K B (λ c. absurd (omega arith)) (λ c. absurd (omega arith)) (λ c. absurd (omega arith)) (λ c. no_word Loop E f) (λ c. absurd (omega arith)) (λ c. absurd (omega arith))
      (λ c. absurd (omega arith)) (λ c. absurd (omega arith)))

  pub no_try : last_of u ≡ 121 → Words u (letters_of Try) None → Doomed u (met n b K B)
  no_try l f =
      met_doomed
      (λ v t E. met_by E l n b K B (λ c. absurd (omega arith)) (λ c. absurd (omega arith)) (λ c. absurd (omega arith)) (λ c. absurd (omega arith)) (λ c. no_word Try E f) (λ c. absurd (omega arith))
      (λ c. absurd (omega arith)) (λ c. absurd (omega arith)))

  pub no_else : last_of u ≡ 101 → Words u (letters_of Else) None → Doomed u (met n b K B)
  no_else l f =
      met_doomed
      (λ v t E. met_by E l n b K B (λ c. absurd (omega arith)) (λ c. absurd (omega arith)) (λ c. no_word Else E f) (λ c. absurd (omega arith)) (λ c. absurd (omega arith)) (λ c. absurd (omega arith))
      (λ c. absurd (omega arith)) (λ c. absurd (omega arith)))

  pub no_in : last_of u ≡ 110 → Words u (letters_of Then) None → Words u (letters_of In) None → Doomed u (met n b K B)
  no_in l f g =
      met_doomed
      (λ v t E. met_by E l n b K B (λ c. no_word In E g) (λ c. no_word Then E f) (λ c. absurd (omega arith)) (λ c. absurd (omega arith)) (λ c. absurd (omega arith)) (λ c. absurd (omega arith))
      (λ c. absurd (omega arith)) (λ c. absurd (omega arith)))

  -- a byte that ends no such part
  pub no_chain : {c : ℕ} → last_of u ≡ c → Unmet c → c ≢ 59 → Doomed u (met n b K B)
  no_chain l N joins =
      met_doomed
      (λ v t E. met_by E l n b K B (λ c. absurd (N.heads c)) (λ c. absurd (N.heads c)) (λ c. absurd (N.elses c)) (λ c. absurd (N.loops c)) (λ c. absurd (N.tries c)) (λ c. absurd (joins c)) (λ c. absurd (N.bars c))
      (λ c. absurd (N.opens c)))

-- ---- What the chain is that was met, where the reader holds its nodes with that of the `||` behind it

-- a move, or a failure, on those nodes
pub moved_aside : (F : Kept → Work) (b : Bool) (B : Kept) {C : Kept} → aside b B ≡ C → {r s : Reader} {m : Room} → Moved r s m (F C) → Moved r s m (F (aside b B))
moved_aside F b B e M = moved_as M (ap F (sym e))

pub failed_aside : (F : Kept → Work) (b : Bool) (B : Kept) {C : Kept} → aside b B ≡ C → F C ≡ failed → F (aside b B) ≡ failed
failed_aside F b B e f = ap F e ∙ f

-- the same, where the node of a `loop` or a `try` is put before them
module _ (r : Reader) (m : Room) {x v : ℕ} (is : v ≡ x) (b : Bool) (B : Kept) (e : aside b B ≡ nodes_of r m) where
  pub moved_body : {s : Reader} {q : Room} → Moved r s q (end_frame r.left (put_on v (nodes_of r m)) (stack_of r m)) → Moved r s q (end_frame r.left (put_on x (aside b B)) (stack_of r m))
  moved_body M = moved_aside (λ (A : Kept). end_frame r.left (put_on x A) (stack_of r m)) b B e (rw is at M)

  pub failed_body : end_frame r.left (put_on v (nodes_of r m)) (stack_of r m) ≡ failed → end_frame r.left (put_on x (aside b B)) (stack_of r m) ≡ failed
  failed_body f = failed_aside (λ (A : Kept). end_frame r.left (put_on x A) (stack_of r m)) b B e (rw is at f)

-- w is the reader r with its nodes and that of the `||` behind it
whole_left : (r w : Reader) → w ≡ whole_reader r w.count → w.left ≡ r.left
whole_left r w e = ap (λ (q : Reader). q.left) e

pub whole_ready : {r w : Reader} {m q : Room} {C : Kept} → Ready r m → w ≡ whole_reader r w.count → Stored w.count q.nodes C → q.frames ≡ m.frames → Ready w q
whole_ready {r} {w} R e S f =
    record {
      room = let same = whole_left r w e in omega (arith, R.room);
      counted = S.counted;
      frames = ap (λ (fs : List Frame). length fs) f ∙ R.frames;
      nodes = S.filled;
    }

pub took_whole : (u : List ℕ) (r w : Reader) (m q : Room) → w ≡ whole_reader r w.count → Stored w.count q.nodes (aside r.beside (nodes_of r m)) → q.frames ≡ m.frames → (o : std.Option (Rest × Reader)) (p : Room)
    → Chained w q (λ x. Took u x w.ranged o p) → Took u (met_state r m) r.ranged o p
unfolding met_state
took_whole u r w m q e S f o p took_it =
    let T = took_it r.beside (nodes_of r m) (sym S.held) in
    let ranged : w.ranged ≡ r.ranged = ap (λ (z : Reader). z.ranged) e in
    let stack : stack_at w.left q.frames ≡ stack_at r.left m.frames = ap (λ (n : ℕ). stack_at n q.frames) (whole_left r w e) ∙ ap (stack_at r.left) f in
    let left = whole_left r w e in
    subst (λ (z : Bool). Took u (met r.left r.beside (stack_at r.left m.frames) (nodes_of r m)) z o p) ranged
    (subst (λ (n : ℕ). Took u (met n r.beside (stack_at r.left m.frames) (nodes_of r m)) w.ranged o p) left (subst (λ (K : Frames). Took u (met w.left r.beside K (nodes_of r m)) w.ranged o p) stack T))
