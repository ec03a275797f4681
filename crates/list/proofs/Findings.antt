-- The state that is asked for, and the rows that the lister makes in it.
use mathlib.Core.Path.{◌≡◌, refl, sym, ap, subst}
use mathlib.Core.List.{List}
use Prim.Native.Nat.{ℕ, zero, suc, ◌≤◌}
use native.Mathlib.Omega.{arith}
use Rattle.std.specs.Prelude.{Result, Ok, Err}
use Rattle.esterel.specs.Statement.{Statement, depth}
use Rattle.esterel.specs.Reactions.{State, start, resumed}
use Rattle.esterel.specs.inner.CappedRows.{CappedRows}
use Rattle.rows.specs.declared.row.Row.{Row}
use Rattle.rows.specs.declared.lists.Unlisted.{Unlisted}
use Rattle.rows.specs.declared.lists.Unlisted.TheVariants.{Over, Cramped, Refused}
use Rattle.rows.specs.inner.Area.{Made}
use Rattle.lister.specs.declared.presence.Presence.{Presence}
use Rattle.lister.specs.inner.Joins.{room_for, rows_under}
use Rattle.list.specs.declared.State.{State as Asked}
use Rattle.list.specs.declared.State.TheVariants.{Start, Resumed}
use Rattle.list.specs.Answers.{state_of}
use Rattle.list.specs.inner.Preparing.{state_in}

-- ---- the state
pub state_start : (s : Asked) → s ≡ Start → start ≡ state_in s
unfolding state_in
state_start s e = sym (ap state_in e)

pub state_resumed : (s : Asked) (X : ℕ) → s ≡ Resumed X → resumed X ≡ state_in s
unfolding state_in
state_resumed s X e = sym (ap state_in e)

pub mark_start : (mark X : ℕ) → mark ≡ 0 → state_in Start ≡ state_of mark X
unfolding state_in state_of
mark_start mark X e = ap (λ (z : ℕ). state_of z X) (sym e)

pub mark_resumed : (mark X : ℕ) → (mark ≡ 0 → ⊥) → state_in (Resumed X) ≡ state_of mark X
unfolding state_in state_of
mark_resumed zero X h = absurd (h refl)
mark_resumed (suc mark) X h = refl

-- an area that is too small has fewer rows than more
made_need : (a : List Row) (v : CappedRows) {m n : ℕ} (r : Result ℕ Unlisted) → m ≤ n → Made a m v r → Made a n v r
made_need a v (Ok k) h s = s
made_need a v (Err Over) h s = s
made_need a v (Err Cramped) h s = omega (arith, s)
made_need a v (Err Refused) h s = omega (arith, s)

-- the rows of a statement that is no deeper than 60
pub made_in : (a : List Row) (r : Result ℕ Unlisted) (s : Presence) (p : Statement) {x y : State} → x ≡ y → depth p ≤ 60
    → Made a (room_for p) (rows_under s p x) r → Made a 3905 (rows_under s p y) r
made_in a r s p {x} e h m = subst (λ (z : State). Made a 3905 (rows_under s p z) r) e (made_need a (rows_under s p x) r (omega arith) m)
