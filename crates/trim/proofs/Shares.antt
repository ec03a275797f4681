-- The share that trim says was kept is what the division of order 4 gives, at most 1,741 thousandths; and of a table as many are kept.
use mathlib.Core.Path.{◌≡◌, refl, ap, ap₂, ◌∙◌}
use mathlib.Core.List.{[], ◌∷◌}
use Prim.Native.Nat.{ℕ, ◌*◌}
use native.Mathlib.Nat.{mod-lt, div-add-mod'}
use native.Mathlib.Omega.{arith}
use borrow.Author.Tests.{le-ltb}
use lib.ListN.{length}
use Rattle.esterel.specs.Statement.{Statement, size, depth}
use Rattle.esterel.specs.Trimming.{trimmed}
use Rattle.esterel.specs.Shares.{thousandths, remainder}
use Rattle.esterel.proofs.Growth.{thousandths_most}
use Rattle.esterel.proofs.GrowthExamples.{most, most_valid, most_nodes}
use Rattle.table.specs.Outcomes.{values}
use Rattle.table.specs.Reading.{Table, refused, holds, table_of, check_in, check_of, deepest}
use Rattle.table.specs.Writing.{write}
use Rattle.table.proofs.Accepted.{accepted}
use Rattle.table.proofs.RoundTrip.{read_written}
use Rattle.trim.specs.Answers.{values_for, trim_for, trim_in, trim_of}
use Rattle.trim.specs.Theorems.{Divided, SharesDivided, LargestShare}
use Rattle.trim.proofs.Answers.{allowed_trimmed}

pub shares_divided : SharesDivided
unfolding trim_of trim_in check_of check_in
shares_divided t room vs = go (table_of t) refl
  where
    go : (T : Table) → table_of t ≡ T → trim_in T room ≡ values vs → Divided t vs
    go (refused why) e h = absurd (let z : ◌≡◌ {A = ℕ} 0 1 = cc in omega arith)
    go (holds n p) e h =
        let a = accepted t n p e in
        let some = a.header.some in
        record {
          before = n;
          after = size (trimmed p);
          bytes = length (write (trimmed p));
          quotient = thousandths n (size (trimmed p));
          remainder = remainder n (size (trimmed p));
          checked = ap check_in e;
          answered = (allowed_trimmed p a.valid a.deep n room vs h).1 ∙ (unfold values_for in refl);
          some = some;
          whole = div-add-mod' (1000 * size (trimmed p)) n;
          below = mod-lt (1000 * size (trimmed p)) (omega arith);
          at_most = rw (← a.count) (thousandths_most p a.valid);
        }

-- of the table of `most` as many are kept as of any
pub largest_share : LargestShare
unfolding trim_of trim_in trim_for values_for
largest_share = (write most, room, room, ap (λ (T : Table). trim_in T room) reads ∙ answered)
  where
    q : Statement
    q = trimmed most

    room : ℕ
    room = length (write q)

    reads : table_of (write most) ≡ holds (size most) most
    reads = read_written most (record { valid = most_valid; few = omega (arith, most_nodes.0); deep = omega (arith, most_nodes.1) })

    answered : trim_for (size most) q room ≡ values (437 ∷ room ∷ 1741 ∷ 9 ∷ [])
    answered =
        rw (le-ltb 1024 (size q) (omega (arith, most_nodes.2)), le-ltb deepest (depth q) (omega (arith, most_nodes.3)), le-ltb room room (omega arith))
        (ap₂ (λ (n m : ℕ). values (m ∷ room ∷ thousandths n m ∷ remainder n m ∷ [])) most_nodes.0 most_nodes.2)
