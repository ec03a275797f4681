-- The descent's refused outcome never comes: no emit or present of a valid statement names what no signal is.
use mathlib.Core.Path.{◌≡◌, refl, ap₂}
use mathlib.Core.Bool.{false, ◌||◌}
use Prim.Native.Nat.{ℕ, suc, ◌<◌}
use native.Mathlib.Omega.{arith}
use borrow.Author.Tests.{ne_eqb}
use Rattle.esterel.specs.Statement.{Statement, nothing, pause, gotopause, emit, exit, signal, present, sequence, parallel, loop, try, Valid}
use Rattle.esterel.specs.Trimming.{names}

-- signals are 0 to 31
pub no_name : (c S : ℕ) (p : Statement) → Valid c p → 31 < S → names S p ≡ false
unfolding Valid names
no_name c S nothing v h = refl
no_name c S (pause l) v h = refl
no_name c S (gotopause l) v h = refl
no_name c S (emit S') v h = ne_eqb S S' (λ z. omega arith)
no_name c S (exit e) v h = refl
no_name c S (signal S' p) v h = no_name c S p v.1 h
no_name c S (present S' p q) v h = ap₂ ◌||◌ (ne_eqb S S' (λ z. omega arith)) (ap₂ ◌||◌ (no_name c S p v.1 h) (no_name c S q v.2 h))
no_name c S (sequence p q) v h = ap₂ ◌||◌ (no_name c S p v.0 h) (no_name c S q v.1 h)
no_name c S (parallel p q) v h = ap₂ ◌||◌ (no_name c S p v.0 h) (no_name c S q v.1 h)
no_name c S (loop p) v h = no_name c S p v h
no_name c S (try p) v h = no_name (suc c) S p v h
