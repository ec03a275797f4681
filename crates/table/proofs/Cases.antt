-- The lettered cases A to L hold: the definitions compute what document 01 says, and what is listed is what the rules derive.
use mathlib.Core.Path.{◌≡◌, refl, ◌∙◌, subst}
use mathlib.Core.Bool.{true}
use mathlib.Core.List.{List, [], ◌∷◌}
use mathlib.Core.Logic.{◌≢◌}
use Prim.Native.Nat.{ℕ}
use native.Mathlib.Omega.{arith}
use Rattle.sets.specs.Set.{has, only, ◌union◌, ◌intersect◌, ◌minus◌}
use Rattle.sets.proofs.Booleans.{or_right}
use Rattle.sets.proofs.Members.{has_union, has_only, has_without_same}
use Rattle.esterel.specs.Statement.{Statement, nothing, emit, signal, present, loop, pauses, pause_count, size}
use Rattle.esterel.specs.Codes.{code_of, through, labels, none, just_ended, just_at, just_code, join, minus_zero, through_try, has_low, not_below, no_lower_than, maximum, s, d}
use Rattle.esterel.specs.Reachability.{next_r, reach_from, reach}
use Rattle.esterel.specs.Trimming.{is_nothing, join_parts, names, ends_at, shift_level, shift_exits, can_end, trim_loop, trim_signal, trim_present, trim_try, trim, trimmed}
use Rattle.esterel.specs.Reactions.{State, start, resumed, reached_together, Reaction, Reacts}
use Rattle.esterel.specs.Reactions as rule
use Rattle.esterel.specs.Listing.{IsListing, before, insert, sorted, each, hide, follow, pair, together, going, caught, list}
use Rattle.esterel.proofs.Listing.{list_is_listing}
use Rattle.table.specs.Kinds.{kinds, kind_of, row_of}
use Rattle.table.specs.Bits.{bits, number_after, number, bits_of, bytes_from, padded, bytes_of}
use Rattle.table.specs.Reading.{length_of, edition_of, count_of, padding_of, header_of, nodes_from, nodes_of, fault_of, read_kind, read_node, read_from, whole_of, table_after, table_of}
use Rattle.table.specs.Writing.{nodes, node_bits, write_nodes, write}
use Rattle.table.specs.Cases.{set_of, codes_with, reaction_of, Meets, MeetsAll, AllHold, case_a, case_b, case_c, case_d, case_e, case_f, case_g, case_h, case_i, case_j, case_k, case_l, cases}

infixr 10 ◌also◌
◌also◌ : {A B : Type 0} → A → B → A × B
◌also◌ a b = (a, b)

-- a listing that was computed is one by the rules
shown : (p : Statement) (x : State) (E : ℕ) (ts : List Reaction) → list p x E ≡ ts → IsListing p x E ts
shown p x E ts e = subst (IsListing p x E) e (list_is_listing p x E)

no_reaction : (p : Statement) (x : State) (E : ℕ) → list p x E ≡ [] → (r : Reaction) → Reacts p x E r → ⊥
no_reaction p x E e r h = ((shown p x E [] e).members r).1 h

-- a declared signal is present where it is added to E
added : (E S : ℕ) → has (E union only S) S ≡ true
added E S = has_union E (only S) S ∙ or_right (has E S) (has_only S)

list_E : (E : ℕ) → list (signal 0 (present 0 (emit 0) nothing)) start E ≡ reaction_of [] 0 [] ∷ []
unfolding list sorted insert before each hide has only ◌union◌ ◌minus◌ reaction_of set_of
list_E E = rw (added E 0, has_without_same E 0)

-- with S present, where the body emits it, and with S absent
twice_E : (E : ℕ) → (a : Reacts (signal 0 (present 0 (emit 0) nothing)) start E (reaction_of [] 0 []))
    × (b : Reacts (signal 0 (present 0 (emit 0) nothing)) start E (reaction_of [] 0 [])) × (a ≢ b)
unfolding Reacts reaction_of set_of has only ◌union◌ ◌minus◌
twice_E E = (
  rule.signal+ 1 (rule.present (added E 0) (rule.emit (added E 0) refl refl refl)) refl refl,
  rule.signal- (rule.absent (has_without_same E 0) (rule.nothing refl refl refl)),
  λ e. let z : ◌≡◌ {A = ℕ} 0 1 = cc in omega arith,
)

list_J : (x : State) (E : ℕ) → list (signal 0 (present 0 nothing (emit 0))) x E ≡ []
unfolding list sorted insert before each hide has only ◌union◌ ◌minus◌
list_J start E = rw (added E 0, has_without_same E 0)
list_J (resumed X) E = refl

list_L : (x : State) (E : ℕ) → list (loop nothing) x E ≡ []
unfolding list sorted each going follow
list_L start E = refl
list_L (resumed X) E = refl

-- "A to L are shown together from the definitions by one theorem over the table of them"
pub cases_hold : AllHold cases
unfolding AllHold MeetsAll Meets cases case_a case_b case_c case_d case_e case_f case_g case_h case_i case_j case_k case_l set_of codes_with reaction_of has only
    ◌union◌ ◌intersect◌ ◌minus◌ pauses pause_count size code_of through labels none just_ended just_at just_code join minus_zero through_try has_low not_below
    no_lower_than maximum s d next_r reach_from reach is_nothing join_parts names ends_at shift_level shift_exits can_end trim_loop trim_signal trim_present
    trim_try trim trimmed reached_together before insert sorted each hide follow pair together going caught list kinds kind_of row_of bits number_after
    number bits_of bytes_from padded bytes_of length_of edition_of count_of padding_of header_of nodes_from nodes_of fault_of read_kind read_node read_from whole_of
    table_after table_of nodes node_bits write_nodes write
cases_hold =
    ((refl, refl) also refl also refl also tt)
    also ((refl, refl) also refl also tt)
    also (refl also tt)
    also (refl also refl also tt)
    also ((λ E. shown _ _ E _ (list_E E)) also twice_E also tt)
    also (refl also refl also (refl, refl) also tt)
    also (refl also (refl, refl) also shown _ _ _ _ refl also tt)
    also (refl also (refl, refl) also tt)
    also ((λ E. shown _ _ E _ refl) also tt)
    also ((λ x E. no_reaction _ x E (list_J x E)) also tt)
    also ((λ E. shown _ _ E _ refl) also (λ E. shown _ _ E _ refl) also tt)
    also ((λ x E. no_reaction _ x E (list_L x E)) also (refl, refl) also tt)
    also tt
