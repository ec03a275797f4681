-- Small tables and statements on which a likely mistake gives another answer, computed from the definitions that the
-- contract of trim cites.
use mathlib.Core.Path.{◌≡◌, refl}
use mathlib.Core.List.{List, [], ◌∷◌, ◌++◌}
use Prim.Native.Nat.{ℕ}
use lib.ListN.{replicate}
use Rattle.sets.specs.Set.{has, only, ◌union◌, ◌intersect◌}
use Rattle.esterel.specs.Statement.{nothing, pause, gotopause, emit, exit, signal, present, sequence, parallel, try, pauses, pause_count, size, depth}
use Rattle.esterel.specs.Codes.{code_of, labels, none, just_ended, just_at, just_code, join, minus_zero, through_try, has_low, not_below, no_lower_than, maximum, s, d}
use Rattle.esterel.specs.Reachability.{next_r, reach_from, reach}
use Rattle.esterel.specs.Trimming.{is_nothing, join_parts, names, ends_at, shift_level, shift_exits, can_end, trim_loop, trim_signal, trim_present, trim_try, trim, trimmed}
use Rattle.table.specs.Kinds.{kinds, kind_of, row_of}
use Rattle.table.specs.Bits.{bits, number_after, number, bits_of, bytes_from, padded, bytes_of}
use Rattle.table.specs.Outcomes.{refusal, values, buffer_after}
use Rattle.table.specs.Reading.{length_of, edition_of, count_of, padding_of, header_of, nodes_from, nodes_of, fault_of, read_kind, read_node, read_from, whole_of, table_after, table_of}
use Rattle.table.specs.Writing.{nodes, node_bits, write_nodes, write}
use Rattle.trim.specs.Answers.{values_for, trim_for, trim_in, buffer_in, trim_of, buffer_of}

-- ---- case G, as bytes: no copy, no refusal, not nothing; the inner try stays with its exit, and what follows the exit goes

unfoldable pub table_g : List ℕ
table_g = 16 ∷ 7 ∷ 160 ∷ 40 ∷ 8 ∷ 1 ∷ 192 ∷ 64 ∷ 76 ∷ 20 ∷ 8 ∷ []

unfoldable pub table_g' : List ℕ
table_g' = 16 ∷ 5 ∷ 160 ∷ 40 ∷ 8 ∷ 1 ∷ 1 ∷ 64 ∷ 128 ∷ []

pub trim_G : trim_of table_g 11 ≡ values (5 ∷ 9 ∷ 714 ∷ 2 ∷ [])
unfolding table_g trim_of trim_in trim_for values_for has only ◌union◌ ◌intersect◌ pauses pause_count size depth code_of labels none just_ended just_at
    just_code join minus_zero through_try has_low not_below no_lower_than maximum s d next_r reach_from reach is_nothing join_parts names ends_at shift_level
    shift_exits can_end trim_loop trim_signal trim_present trim_try trim trimmed kinds kind_of row_of bits number_after number bits_of bytes_from padded bytes_of
    length_of edition_of count_of padding_of header_of nodes_from nodes_of fault_of read_kind read_node read_from whole_of table_after table_of nodes node_bits
    write_nodes write
trim_G = refl

pub buffer_G : buffer_of table_g (replicate 11 7) ≡ table_g' ++ (7 ∷ 7 ∷ [])
unfolding table_g table_g' buffer_of buffer_in buffer_after trim_for has only ◌union◌ ◌intersect◌ pauses pause_count size depth code_of labels none just_ended
    just_at just_code join minus_zero through_try has_low not_below no_lower_than maximum s d next_r reach_from reach is_nothing join_parts names ends_at
    shift_level shift_exits can_end trim_loop trim_signal trim_present trim_try trim trimmed kinds kind_of row_of bits number_after number bits_of bytes_from
    padded bytes_of length_of edition_of count_of padding_of header_of nodes_from nodes_of fault_of read_kind read_node read_from whole_of table_after table_of nodes
    node_bits write_nodes write
buffer_G = refl

-- a byte too few: nothing is touched
pub trim_G_short : trim_of table_g 8 ≡ refusal 13
unfolding table_g trim_of trim_in trim_for has only ◌union◌ ◌intersect◌ pauses pause_count size depth code_of labels none just_ended just_at just_code join
    minus_zero through_try has_low not_below no_lower_than maximum s d next_r reach_from reach is_nothing join_parts names ends_at shift_level shift_exits can_end
    trim_loop trim_signal trim_present trim_try trim trimmed kinds kind_of row_of bits number_after number bits_of bytes_from padded bytes_of length_of edition_of
    count_of padding_of header_of nodes_from nodes_of fault_of read_kind read_node read_from whole_of table_after table_of nodes node_bits write_nodes write
trim_G_short = refl

pub buffer_G_short : buffer_of table_g (replicate 8 7) ≡ replicate 8 7
unfolding table_g buffer_of buffer_in buffer_after trim_for has only ◌union◌ ◌intersect◌ pauses pause_count size depth code_of labels none just_ended just_at
    just_code join minus_zero through_try has_low not_below no_lower_than maximum s d next_r reach_from reach is_nothing join_parts names ends_at shift_level
    shift_exits can_end trim_loop trim_signal trim_present trim_try trim trimmed kinds kind_of row_of bits number_after number bits_of bytes_from padded bytes_of
    length_of edition_of count_of padding_of header_of nodes_from nodes_of fault_of read_kind read_node read_from whole_of table_after table_of nodes node_bits
    write_nodes write
buffer_G_short = refl

-- ---- levels: the try in the middle goes, so an exit beyond it is lowered, and one that ends inside is not

pub beyond_lowered : trimmed (try (try (try (parallel (exit 1) (exit 3))))) ≡ try (try (parallel (exit 1) (exit 2)))
unfolding has only ◌union◌ ◌intersect◌ pauses pause_count size depth code_of labels none just_ended just_at just_code join minus_zero through_try has_low
    not_below no_lower_than maximum s d next_r reach_from reach is_nothing join_parts names ends_at shift_level shift_exits can_end trim_loop trim_signal
    trim_present trim_try trim trimmed
beyond_lowered = refl

-- ---- signals: one that only a present of the trimmed body names stays, and one that nothing there names goes

pub named_stays : trimmed (signal 0 (present 0 (pause 1) nothing)) ≡ signal 0 (present 0 (pause 1) nothing)
unfolding has only ◌union◌ ◌intersect◌ pauses pause_count size depth code_of labels none just_ended just_at just_code join minus_zero through_try has_low
    not_below no_lower_than maximum s d next_r reach_from reach is_nothing join_parts names ends_at shift_level shift_exits can_end trim_loop trim_signal
    trim_present trim_try trim trimmed
named_stays = refl

pub unnamed_goes : trimmed (signal 0 (try (sequence (exit 1) (emit 0)))) ≡ try (exit 1)
unfolding has only ◌union◌ ◌intersect◌ pauses pause_count size depth code_of labels none just_ended just_at just_code join minus_zero through_try has_low
    not_below no_lower_than maximum s d next_r reach_from reach is_nothing join_parts names ends_at shift_level shift_exits can_end trim_loop trim_signal
    trim_present trim_try trim trimmed
unnamed_goes = refl

-- ---- a present that only jumps reach: its branches stay, one after the other

-- the first can end: the second stands in a try behind an exit
pub branch_guarded : trimmed (parallel (gotopause 1) (parallel (gotopause 2) (try (sequence (exit 1) (present 0 (pause 1) (pause 2))))))
    ≡ parallel (gotopause 1) (parallel (gotopause 2) (try (sequence (exit 1) (sequence (pause 1) (try (sequence (exit 1) (pause 2)))))))
unfolding has only ◌union◌ ◌intersect◌ pauses pause_count size depth code_of labels none just_ended just_at just_code join minus_zero through_try has_low
    not_below no_lower_than maximum s d next_r reach_from reach is_nothing join_parts names ends_at shift_level shift_exits can_end trim_loop trim_signal
    trim_present trim_try trim trimmed
branch_guarded = refl

-- the first cannot end: no try
pub branch_free : trimmed (parallel (gotopause 1) (parallel (gotopause 2) (try (sequence (exit 1) (present 0 (sequence (pause 1) (exit 1)) (pause 2))))))
    ≡ parallel (gotopause 1) (parallel (gotopause 2) (try (sequence (exit 1) (sequence (sequence (pause 1) (exit 1)) (pause 2)))))
unfolding has only ◌union◌ ◌intersect◌ pauses pause_count size depth code_of labels none just_ended just_at just_code join minus_zero through_try has_low
    not_below no_lower_than maximum s d next_r reach_from reach is_nothing join_parts names ends_at shift_level shift_exits can_end trim_loop trim_signal
    trim_present trim_try trim trimmed
branch_free = refl
