-- Small statements whose rows are computed from the definitions, and that few rows are not needed for refusal 15 not to be due.
use mathlib.Core.Path.{◌≡◌, refl, subst}
use mathlib.Core.Bool.{true, false}
use mathlib.Core.List.{[], ◌∷◌}
use mathlib.Core.Option.{none, some}
use Prim.Native.Nat.{ℕ, suc}
use native.Mathlib.Omega.{arith}
use Rattle.sets.specs.Set.{has, only, ◌union◌, ◌intersect◌, ◌minus◌, count}
use Rattle.sets.proofs.Booleans.{clash}
use Rattle.sets.proofs.Members.{has_only_equal}
use Rattle.esterel.specs.Statement.{Statement, nothing, pause, emit, signal, present, parallel, depth}
use Rattle.esterel.specs.Trimming.{names}
use Rattle.esterel.specs.Reactions.{start, reached_together}
use Rattle.esterel.specs.Listing.{reaction, before, insert, sorted, each, pair, together, list, needs, some as some_of, crowded_within, crowded}
use Rattle.esterel.specs.inner.Conditions.{condition, always, both, clashes, forget}
use Rattle.esterel.specs.inner.Rows.{row_when, each_row, given, then, tested, asked, emit_rows, local_row, local_rows, hide_rows, together_rows, rows_of, Agree, Quiet}
use Rattle.esterel.specs.inner.CappedRows.{less_or, before_row, insert_row, sorted_rows, cap_rows, collect_rows, change_rows, join_rows, otherwise, given_up, twice_rows, capped_rows}
use Rattle.esterel.proofs.Quiet.{few, quiet}

-- the test of the local signal 0 is settled by its emit, which leaves a condition on the unknown signal 1
pub settled : rows_of 3 (signal 0 (parallel (present 0 (emit 1) nothing) (emit 0))) start 0 (only 1) ≡ row_when (condition (only 1) 0) (reaction (only 1) 0 0) ∷ []
unfolding count rows_of each_row given then tested asked emit_rows local_row local_rows together_rows pair reached_together always both clashes forget has only ◌union◌ ◌intersect◌ ◌minus◌
settled = refl

-- no reaction: 0 is absent where it is emitted
pub incoherent : rows_of 3 (signal 0 (present 0 nothing (emit 0))) start 0 0 ≡ []
unfolding count rows_of each_row given then tested asked emit_rows local_row local_rows always both clashes forget has only ◌union◌ ◌intersect◌ ◌minus◌
incoherent = refl

-- a reaction with 0 present and the same with 0 absent: two rows of one reaction, which are one where rows are put in order
pub repeated : rows_of 3 (signal 0 (present 0 (emit 0) nothing)) start 0 0 ≡ row_when always (reaction 0 0 0) ∷ row_when always (reaction 0 0 0) ∷ []
unfolding count rows_of each_row given then tested asked emit_rows local_row local_rows always both clashes forget has only ◌union◌ ◌intersect◌ ◌minus◌
repeated = refl

pub once : capped_rows 3 (signal 0 (present 0 (emit 0) nothing)) start 0 0 ≡ some (row_when always (reaction 0 0 0) ∷ [])
unfolding count capped_rows names otherwise change_rows join_rows collect_rows cap_rows sorted_rows insert_row before_row less_or each_row given then tested emit_rows local_row local_rows always both clashes forget has only ◌union◌ ◌intersect◌ ◌minus◌
once = refl

-- the inner signal 1 is another than the unknown outer one; its slot is 0 where it is the only one that may be unknown
pub shadowed : rows_of (only 1) (present 1 (signal 1 (emit 1)) (pause 1)) start 0 (only 1)
    ≡ row_when (condition (only 0) 0) (reaction 0 0 0) ∷ row_when (condition 0 (only 0)) (reaction 0 1 (only 1)) ∷ []
unfolding count rows_of each_row given then tested asked emit_rows local_row local_rows hide_rows always both clashes forget has only ◌union◌ ◌intersect◌ ◌minus◌
shadowed = refl

-- 0 may not be made unknown: it is made present and absent, and where 1 is unknown that is given up
pub doubled : capped_rows (only 1) (signal 0 (present 0 (emit 0) nothing)) start 0 0 ≡ some (row_when always (reaction 0 0 0) ∷ [])
unfolding count capped_rows names otherwise change_rows join_rows twice_rows collect_rows cap_rows sorted_rows insert_row less_or before_row each_row hide_rows emit_rows local_rows always has only ◌union◌ ◌minus◌
doubled = refl

pub without_slot : capped_rows (only 1) (signal 0 (present 0 (emit 0) nothing)) start 0 (only 1) ≡ none
unfolding capped_rows names otherwise given_up has only
without_slot = refl

-- refusal 15 is not due, with 1 and without it
pub settled_quiet : (F : ℕ) → Agree (only 1) 0 F → crowded (signal 0 (parallel (present 0 (emit 1) nothing) (emit 0))) start F ≡ false
unfolding count Quiet rows_of each_row given then tested asked emit_rows local_row local_rows together_rows pair reached_together always both clashes forget has only ◌union◌ ◌intersect◌ ◌minus◌
settled_quiet F a =
    quiet 3 (signal 0 (parallel (present 0 (emit 1) nothing) (emit 0))) start 0 (only 1) F (λ x m. subst (λ (z : ℕ). has 3 z ≡ true) (has_only_equal 1 x m) refl) a (
      few 3 0 2 (rows_of 3 (signal 0 (parallel (present 0 (emit 1) nothing) (emit 0))) start 0 (only 1)) (omega arith),
      λ i. (
        few 3 0 3 (rows_of 3 (parallel (present 0 (emit 1) nothing) (emit 0)) start 0 3) (omega arith),
        (few 3 0 3 (rows_of 3 (present 0 (emit 1) nothing) start 0 3) (omega arith), λ e. few 3 0 3 (rows_of 3 (emit 1) start 0 3) (omega arith), λ e. few 3 0 3 (rows_of 3 nothing start 0 3) (omega arith)),
        few 3 0 3 (rows_of 3 (emit 0) start 0 3) (omega arith),
      ),
      λ i. clash refl i,
    )

-- ---- giving up is not refusal 15: seven tests side by side have 128 rows, each of another reaction, where the list under a set
-- has one
unfoldable pub test : ℕ → Statement
test S = present S (pause (suc S)) nothing

unfoldable pub tests : Statement
tests = parallel (test 0) (parallel (test 1) (parallel (test 2) (parallel (test 3) (parallel (test 4) (parallel (test 5) (test 6))))))

pub given_up_lem : capped_rows 127 tests start 0 127 ≡ none
unfolding count test tests capped_rows join_rows collect_rows cap_rows sorted_rows insert_row before_row less_or each_row given then tested together_rows pair reached_together always both clashes has only ◌union◌ ◌intersect◌
given_up_lem = refl

pub not_crowded : crowded tests start 0 ≡ false
unfolding test tests crowded crowded_within needs some_of list sorted insert before each together pair reached_together depth has only ◌union◌ ◌intersect◌
not_crowded = refl
