-- By what the walk came to (proofs/Loading).
use mathlib.Core.Path.{◌≡◌, refl, ap}
use mathlib.Core.List.{List}
use Prim.Native.Nat.{ℕ, ◌-◌}
use native.Mathlib.Omega.{arith}
use lib.ListN.{length, take, drop}
use lib.Seq.{length-slice}
use Rattle.std.proofs.lemmas.Result.{err_from_is_err_and}
use Rattle.table.specs.inner.Loading.{number_found}
use Rattle.table.proofs.Loading.{whole_refused, whole_over, whole_read}
use Rattle.table.proofs.reading.check_nodes.Goals as goal

pub returns-in_err-statement : goal.returns-in_err-statement
returns-in_err-statement c =
    let xs : List ℕ = drop c.args.from (take c.args.to c.args.nodes.now) in
    let counted : length xs ≡ c.args.to - c.args.from = length-slice c.args.from c.args.to c.args.nodes.now (omega (arith, c.told-nodes)) in
    let r = err_from_is_err_and c.from_residual.result c.from_residual.ensures.1 in
    rw (r.1, r.2) (whole_refused c.args.from c.args.to xs (omega arith) counted _ _ _ c.in_err-statement.ensures c.in_err-statement.field-0.0 refl)

pub returns-else-walk-to : goal.returns-else-walk-to
returns-else-walk-to c =
    let xs : List ℕ = drop c.args.from (take c.args.to c.args.nodes.now) in
    let counted : length xs ≡ c.args.to - c.args.from = length-slice c.args.from c.args.to c.args.nodes.now (omega (arith, c.told-nodes)) in
    whole_over c.args.from c.args.to xs (omega arith) counted _ _ _ c.statement.ensures (ap number_found c.in_ok-statement.was) c.if-walk-to.false

pub returns-then-walk-to : goal.returns-then-walk-to
returns-then-walk-to c =
    let xs : List ℕ = drop c.args.from (take c.args.to c.args.nodes.now) in
    let counted : length xs ≡ c.args.to - c.args.from = length-slice c.args.from c.args.to c.args.nodes.now (omega (arith, c.told-nodes)) in
    whole_read c.args.from c.args.to xs (omega arith) counted _ _ _ c.statement.ensures (ap number_found c.in_ok-statement.was) c.if-walk-to.true
