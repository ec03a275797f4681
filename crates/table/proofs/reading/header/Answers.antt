-- `table::reading::header` meets its contract: its tests are those on the first word and the last byte (proofs/Header).
use mathlib.Core.Path.{◌≡◌}
use mathlib.Core.List.{List}
use Prim.Native.Nat.{ℕ, ◌*◌, ◌≤◌}
use native.Mathlib.Omega.{arith}
use lib.Bits.{bit_and, mask_lt}
use lib.ListN.{length}
use Rattle.table.specs.Bits.{Below}
use Rattle.table.specs.inner.Loading.{word_at}
use Rattle.table.proofs.Header.{FirstWord, refused_short, pad_width_small, pad_mask_some, refused_edition, refused_none, refused_many, refused_length, refused_padding, header_passed}
use Rattle.table.proofs.reading.header.Goals as goal

first_word : (t : List ℕ) {word : ℕ} → Below 256 t → 2 ≤ length t → word ≡ word_at t 0 → FirstWord t word
first_word t a b e = record { bytes = a; long = b; value = e }

pub returns-then-table-lt2 : goal.returns-then-table-lt2
returns-then-table-lt2 c = refused_short c.args.table.now c.if-table-lt2.true

pub returns-then-word-ne1 : goal.returns-then-word-ne1
returns-then-word-ne1 c =
    let first = first_word c.args.table.now (λ i. omega (arith, c.type_inv.table i)) c.if-table-lt2.false c.word_at-word.ensures in
    refused_edition first c.if-word-ne1.true

pub returns-then-n-eq0 : goal.returns-then-n-eq0
returns-then-n-eq0 c =
    let first = first_word c.args.table.now (λ i. omega (arith, c.type_inv.table i)) c.if-table-lt2.false c.word_at-word.ensures in
    refused_none first c.if-word-ne1.false c.if-n-eq0.true

pub overflow_cast-n : goal.overflow_cast-n
overflow_cast-n c = omega (arith, mask_lt c.word_at-word.result 12)

pub returns-then-n-gt-MOST_NODES : goal.returns-then-n-gt-MOST_NODES
returns-then-n-gt-MOST_NODES c =
    let first = first_word c.args.table.now (λ i. omega (arith, c.type_inv.table i)) c.if-table-lt2.false c.word_at-word.ensures in
    refused_many first c.if-word-ne1.false c.if-n-eq0.false c.if-n-gt-MOST_NODES.true

pub returns-then-table-bits : goal.returns-then-table-bits
returns-then-table-bits c =
    let first = first_word c.args.table.now (λ i. omega (arith, c.type_inv.table i)) c.if-table-lt2.false c.word_at-word.ensures in
    refused_length first c.if-word-ne1.false c.if-n-eq0.false c.if-n-gt-MOST_NODES.false
    c.if-table-bits.true

pub overflow_sub-padding : goal.overflow_sub-padding
overflow_sub-padding c = omega (arith, mask_lt (bit_and c.word_at-word.result 4095 * 10) 3)

pub overflow_cast-padding : goal.overflow_cast-padding
overflow_cast-padding c = omega (arith, pad_width_small (bit_and c.word_at-word.result 4095))

pub overflow_shl-padding : goal.overflow_shl-padding
overflow_shl-padding c = pad_width_small (bit_and c.word_at-word.result 4095)

pub overflow_sub-padding-2 : goal.overflow_sub-padding-2
overflow_sub-padding-2 c = pad_mask_some (bit_and c.word_at-word.result 4095)

pub returns-then-last-padding-ne0 : goal.returns-then-last-padding-ne0
returns-then-last-padding-ne0 c =
    let first = first_word c.args.table.now (λ i. omega (arith, c.type_inv.table i)) c.if-table-lt2.false c.word_at-word.ensures in
    refused_padding first c.if-word-ne1.false c.if-n-eq0.false c.if-n-gt-MOST_NODES.false
    c.if-table-bits.false c.if-last-padding-ne0.true

pub returns : goal.returns
returns c =
    let first = first_word c.args.table.now (λ i. omega (arith, c.type_inv.table i)) c.if-table-lt2.false c.word_at-word.ensures in
    header_passed first c.if-word-ne1.false c.if-n-eq0.false c.if-n-gt-MOST_NODES.false
    c.if-table-bits.false (omega arith)
