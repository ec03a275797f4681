-- `table::reading::count_in` meets its contract: the count is the low 12 bits of the first word (proofs/Header).
use native.Mathlib.Omega.{arith}
use Rattle.table.proofs.Header.{count_none, count_read}
use Rattle.table.proofs.reading.count_in.Goals as goal

pub returns-then-table-lt2 : goal.returns-then-table-lt2
returns-then-table-lt2 c = count_none c.args.table.now c.if-table-lt2.true

pub returns : goal.returns
returns c =
    count_read {t = c.args.table.now}
    (record {
      bytes = λ i. omega (arith, c.type_inv.table i);
      long = c.if-table-lt2.false;
      value = c.word_at.ensures;
    })
