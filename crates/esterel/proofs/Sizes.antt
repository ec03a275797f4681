-- A statement has a node.
use Prim.Native.Nat.{◌≤◌}
use native.Mathlib.Omega.{arith}
use Rattle.esterel.specs.Statement.{Statement, nothing, pause, gotopause, emit, exit, signal, present, sequence, parallel, loop, try, size}

pub size_positive : (p : Statement) → 1 ≤ size p
unfolding size
size_positive nothing = omega arith
size_positive (pause l) = omega arith
size_positive (gotopause l) = omega arith
size_positive (emit S) = omega arith
size_positive (exit d) = omega arith
size_positive (signal S p) = omega arith
size_positive (present S p q) = omega arith
size_positive (sequence p q) = omega arith
size_positive (parallel p q) = omega arith
size_positive (loop p) = omega arith
size_positive (try p) = omega arith
