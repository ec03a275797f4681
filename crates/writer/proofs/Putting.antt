-- Bytes put one after the other are put together; what each asks of the buffer and leaves in it.
use Prim.Native.Nat.{ℕ, ◌+◌, ◌≤◌}
use mathlib.Core.Path.{◌≡◌, refl, sym, ap, ◌∙◌, subst}
use mathlib.Core.List.{List, [], ◌++◌, append_assoc}
use native.Mathlib.Nat.{zero-add}
use native.Mathlib.Omega.{arith}
use lib.ListN.{length, take, drop, length-append, length-drop, take-append-drop}
use lib.Seq.{length-take-le, take_at, drop_at, drop-drop}
use Rattle.writer.specs.inner.Putting.{Pen, Room, put_at, Put}

-- ---- One after the other

front : (place : ℕ) (bs out : List ℕ) → place + length bs ≤ length out → length (take place out ++ bs) ≡ place + length bs
front place bs out h = length-append (take place out) bs ∙ ap (λ (n : ℕ). n + length bs) (length-take-le place out (omega arith))

grouped : (place : ℕ) (bs out : List ℕ) → put_at place bs out ≡ (take place out ++ bs) ++ drop (place + length bs) out
unfolding put_at
grouped place bs out = sym (append_assoc (take place out) bs (drop (place + length bs) out))

pub put_length : {pen pen' : Pen} {bs : List ℕ} → Put pen bs pen' → length pen'.out ≡ length pen.out
put_length {pen} {pen'} {bs} P =
    let f = front pen.place bs pen.out P.room.fits in
    let d = length-drop (pen.place + length bs) pen.out in
    ap length (P.holds ∙ grouped pen.place bs pen.out) ∙ length-append (take pen.place pen.out ++ bs) (drop (pen.place + length bs) pen.out)
    ∙ omega (arith, P.room.fits)

-- a text that begins with some bytes, with what stands behind them
pub record Pieces (text first rest : List ℕ) : Type 0 where
  pub is : text ≡ first ++ rest

pub pieces : {first rest : List ℕ} → Pieces (first ++ rest) first rest
pieces = record { is = refl }

pub room_first : {pen : Pen} {text first rest : List ℕ} → Pieces text first rest → Room pen text → Room pen first
room_first {first = first} {rest = rest} e h = record { fits = omega (arith, ap length e.is ∙ length-append first rest, h.fits) }

pub room_next : {pen pen' : Pen} {text first rest : List ℕ} → Pieces text first rest → Room pen text → Put pen first pen' → Room pen' rest
room_next {first = first} {rest = rest} e h P = record { fits = omega (arith, ap length e.is ∙ length-append first rest, h.fits, put_length P, P.behind) }

module _ (place : ℕ) (bs cs out : List ℕ) (room : place + length bs ≤ length out) where
  -- what stands before the second, and behind it
  taken : take (place + length bs) (put_at place bs out) ≡ take place out ++ bs
  taken = ap (take (place + length bs)) (grouped place bs out) ∙ take_at (take place out ++ bs) (drop (place + length bs) out) (place + length bs) (front place bs out room)

  left_over : drop (place + length bs + length cs) (put_at place bs out) ≡ drop (place + length bs + length cs) out
  left_over =
      sym (drop-drop (length cs) (place + length bs) (put_at place bs out))
      ∙ ap (λ (l : List ℕ). drop (length cs) l) (ap (drop (place + length bs)) (grouped place bs out) ∙ drop_at (take place out ++ bs) (drop (place + length bs) out) (place + length bs) (front place bs out room))
      ∙ drop-drop (length cs) (place + length bs) out

  joined : put_at (place + length bs) cs (put_at place bs out) ≡ put_at place (bs ++ cs) out
  unfolding put_at
  joined =
      let n : place + length bs + length cs ≡ place + length (bs ++ cs) = omega (arith, length-append bs cs) in
      let rest : List ℕ = drop (place + length bs + length cs) out in
      ap (λ (l : List ℕ). l ++ (cs ++ drop (place + length bs + length cs) (put_at place bs out))) taken
      ∙ ap (λ (l : List ℕ). (take place out ++ bs) ++ (cs ++ l)) left_over
      ∙ append_assoc (take place out) bs (cs ++ rest)
      ∙ ap (λ (l : List ℕ). take place out ++ l) (sym (append_assoc bs cs rest))
      ∙ ap (λ (m : ℕ). take place out ++ ((bs ++ cs) ++ drop m out)) n

pub put_both : {pen mid end : Pen} {bs cs : List ℕ} → Put pen bs mid → Put mid cs end → Put pen (bs ++ cs) end
put_both {pen} {mid} {end} {bs} {cs} P Q =
    let both = length-append bs cs in
    record {
      room = record { fits = omega (arith, Q.room.fits, P.behind, put_length P) };
      behind = omega (arith, Q.behind, P.behind);
      holds = Q.holds ∙ ap (λ (n : ℕ). put_at n cs mid.out) P.behind ∙ ap (put_at (pen.place + length bs) cs) P.holds ∙ joined pen.place bs cs pen.out P.room.fits;
    }

-- the same bytes
pub put_same : {pen pen' : Pen} {bs cs : List ℕ} → cs ≡ bs → Put pen bs pen' → Put pen cs pen'
put_same {pen} {pen'} e P = subst (λ (l : List ℕ). Put pen l pen') (sym e) P

pub room_same : {pen : Pen} {bs cs : List ℕ} → cs ≡ bs → Room pen cs → Room pen bs
room_same {pen} e h = subst (λ (l : List ℕ). Room pen l) e h

pub put_then : {pen mid end : Pen} {text first rest : List ℕ} → Pieces text first rest → Put pen first mid → Put mid rest end → Put pen text end
put_then e P Q = put_same e.is (put_both P Q)

-- no byte
pub put_none : {pen : Pen} {bs : List ℕ} → bs ≡ [] → Room pen bs → Put pen bs pen
unfolding put_at
put_none {pen} {bs} e h =
    let none : Put pen [] pen = record {
      room = room_same e h;
      behind = omega arith;
      holds =
          sym (ap (λ (n : ℕ). take pen.place pen.out ++ drop n pen.out) (let e : pen.place + 0 ≡ pen.place = omega arith in e) ∙ take-append-drop pen.place pen.out);
    } in
    put_same e none

-- ---- From the front of a buffer

pub put_front : {pen pen' : Pen} {bs : List ℕ} → Put pen bs pen' → pen.place ≡ 0 → (pen'.place ≡ length bs) × (pen'.out ≡ bs ++ drop pen'.place pen.out)
unfolding put_at
put_front {pen} {pen'} {bs} P e =
    let none : pen.place + length bs ≡ length bs = ap (λ (n : ℕ). n + length bs) e ∙ zero-add (length bs) in
    let end = P.behind ∙ none in
    (end, P.holds ∙ ap (λ (n : ℕ). take n pen.out ++ (bs ++ drop (pen.place + length bs) pen.out)) e ∙ ap (λ (n : ℕ). bs ++ drop n pen.out) (sym P.behind))
