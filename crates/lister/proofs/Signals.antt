-- The rows of a signal statement, started or resumed, from those of its body: the body's own where it does not name the signal;
-- else with the signal unknown; or, where that gave up, with it present and with it absent.
use mathlib.Core.Path.{◌≡◌, refl, sym, ap, ap₂, ◌∙◌, subst}
use mathlib.Core.Bool.{Bool, true, false, not, ◌&&◌, cond, true≢false}
use mathlib.Core.List.{List}
use mathlib.Core.Option.{none}
use Prim.Native.Nat.{ℕ, ◌+◌}
use lib.Dec.{eqb}
use lib.ListN.{length, get_or}
use borrow.Author.Tests.{eq-eqb, ne_eqb}
use Rattle.std.proofs.Common.{Result, Ok, Err}
use Rattle.sets.specs.Set.{has, only, ◌union◌, ◌without◌}
use Rattle.sets.proofs.Members.{has_minus, has_empty, ext}
use Rattle.esterel.specs.Statement.{Statement, signal}
use Rattle.esterel.specs.Reactions.{State, start}
use Rattle.esterel.specs.Trimming.{names}
use Rattle.esterel.specs.inner.Conditions.{slot_of}
use Rattle.esterel.specs.inner.Rows.{each_row, local_row, local_rows, hide_rows}
use Rattle.esterel.specs.inner.CappedRows.{CappedRows, change_rows, otherwise, given_up, twice_rows, capped_rows}
use Rattle.table.specs.Reading.{kind_of_node, operand_of}
use Rattle.table.specs.inner.Places.{Placed}
use Rattle.rows.specs.declared.row.Row.{Row as Packed}
use Rattle.rows.specs.declared.lists.Unlisted.{Unlisted}
use Rattle.rows.specs.declared.lists.Unlisted.TheVariants.{Over, Cramped, Refused}
use Rattle.rows.specs.inner.Rules.{hide_row}
use Rattle.rows.specs.inner.Area.{Made}
use Rattle.rows.proofs.Rules.{change_hide, change_local}
use Rattle.lister.specs.declared.noted.Noted.{Noted}
use Rattle.lister.specs.declared.presence.Presence.{Presence}
use Rattle.lister.specs.inner.Notes.{part_at, ReadWhole}
use Rattle.lister.specs.inner.Joins.{rows_under, present_rows, absent_rows, twice, Altered, is_over}
use Rattle.lister.proofs.Nodes.{is_signal}
use Rattle.rows.proofs.Merges.{made_as}
use Rattle.lister.proofs.Joins.{changed, changed_as}

-- once, with S unknown, where it has a slot
abbrev pub attempted : Presence → ℕ → Statement → State → CappedRows
attempted g S p x = cond (has g.slotted S) (change_rows (local_rows S (slot_of g.slotted S)) (capped_rows g.slotted p x g.assumed (g.unknown union only S))) none

pub start_given_up : (p : Statement) → given_up start p ≡ none
unfolding given_up
start_given_up p = refl

-- ---- the signals inside: S is unknown, is present, is absent
under_as : (h : Presence) {M E U : ℕ} (p : Statement) (x : State) → h.slotted ≡ M → h.assumed ≡ E → h.unknown ≡ U → rows_under h p x ≡ capped_rows M p x E U
under_as h {M} {E} {U} p x e f k =
    ap (λ (z : ℕ). capped_rows z p x h.assumed h.unknown) e ∙ ap₂ (λ (y z : ℕ). capped_rows M p x y z) f k

-- no signal is unknown, so none is without S
known_still : {U : ℕ} (S : ℕ) → U ≡ 0 → U without S ≡ 0
known_still {U} S e = ap (λ (z : ℕ). z without S) e ∙ ext (0 without S) 0 (λ x. has_minus 0 (only S) x ∙ ap (λ (b : Bool). b && not (has (only S) x)) (has_empty x) ∙ sym (has_empty x))

-- ---- an attempt that gave up
over_is : (r : Result ℕ Unlisted) → is_over r ≡ true → r ≡ Err Over
over_is (Ok n) e = absurd (true≢false (sym e))
over_is (Err Over) e = refl
over_is (Err Cramped) e = absurd (true≢false (sym e))
over_is (Err Refused) e = absurd (true≢false (sym e))

module _ (g : Presence) (S : ℕ) (p : Statement) (x : State) where
  -- h is g with S unknown, and l the slot of S
  module _ (h : Presence) (slotted : h.slotted ≡ g.slotted) (assumed : h.assumed ≡ g.assumed) (unknown : h.unknown ≡ g.unknown union only S) (known : has g.slotted S ≡ true)
      (l : ℕ) (slot : l ≡ slot_of g.slotted S) where
    attempt_is : change_rows (λ ws. each_row ws (local_row S l)) (rows_under h p x) ≡ attempted g S p x
    attempt_is =
        changed_as (rows_under h p x) (λ ws i. change_local S l ws)
        ∙ ap₂ (λ (i : ℕ) (v : CappedRows). change_rows (local_rows S i) v) slot (under_as h p x slotted assumed unknown)
        ∙ ap (λ (z : Bool). cond z (change_rows (local_rows S (slot_of g.slotted S)) (capped_rows g.slotted p x g.assumed (g.unknown union only S))) none) (sym known)

    module _ (a b : List Packed) (need : ℕ) (r r' : Result ℕ Unlisted) (e : length b ≡ length a) (m : Made a need (rows_under h p x) r) (c : Altered (local_row S l) r a b r') where
      pub attempt_made : Made b need (attempted g S p x) r'
      attempt_made = made_as need b attempt_is r' (changed (local_row S l) a b need (rows_under h p x) r r' e m c)

      pub attempt_none : is_over r' ≡ true → attempted g S p x ≡ none
      attempt_none k = subst (Made b need (attempted g S p x)) (over_is r' k) attempt_made

  pub not_tried : has g.slotted S ≡ false → attempted g S p x ≡ none
  not_tried h = ap (λ (z : Bool). cond z (change_rows (local_rows S (slot_of g.slotted S)) (capped_rows g.slotted p x g.assumed (g.unknown union only S))) none) h

  pub present_is : g.unknown ≡ 0 → (on : Presence) → on.slotted ≡ g.slotted → on.assumed ≡ g.assumed union only S → on.unknown ≡ g.unknown without S
      → change_rows (λ ws. each_row ws (hide_row S)) (rows_under on p x) ≡ present_rows g S p x
  present_is e on slotted assumed unknown = changed_as (rows_under on p x) (λ ws i. change_hide S ws) ∙ ap (change_rows (hide_rows S)) (under_as on p x slotted assumed (unknown ∙ known_still S e))

  pub absent_is : g.unknown ≡ 0 → (off : Presence) → off.slotted ≡ g.slotted → off.assumed ≡ g.assumed without S → off.unknown ≡ g.unknown without S → rows_under off p x ≡ absent_rows g S p x
  absent_is e off slotted assumed unknown = under_as off p x slotted assumed (unknown ∙ known_still S e)

-- with S present and with S absent, where no signal is unknown; else given up
abbrev exactly : Presence → ℕ → Statement → State → CappedRows
exactly g S p x = cond (eqb g.unknown 0) (twice g S p x) (given_up x p)

module _ (s : Noted) {at : ℕ} (w : ReadWhole s.count s.nodes at) (e : kind_of_node (get_or s.nodes at 0) ≡ 5) (S : ℕ) (f : S ≡ operand_of (get_or s.nodes at 0)) (x : State) (g : Presence) where
  abbrev body : Statement
  body = part_at s.nodes (at + 1)

  by_name : (b : Bool) → names S body ≡ b → rows_under g (part_at s.nodes at) x ≡ cond b (otherwise (attempted g S body x) (exactly g S body x)) (rows_under g body x)
  unfolding capped_rows twice_rows
  by_name b h =
      ap (λ (q : Statement). rows_under g q x) (ap (λ (q : Placed). q.statement) (is_signal w e).is ∙ ap (λ (z : ℕ). signal z body) (sym f))
      ∙ ap (λ (z : Bool). cond z (otherwise (attempted g S body x) (exactly g S body x)) (rows_under g body x)) h

  -- ---- a body that does not name it
  pub unnamed_rows : names S body ≡ false → rows_under g body x ≡ rows_under g (part_at s.nodes at) x
  unnamed_rows h = sym (by_name false h)

  -- ---- the attempt, unless it gave up
  module _ (h : names S body ≡ true) where
    pub tried_rows : (a : List Packed) (need : ℕ) (r : Result ℕ Unlisted) → is_over r ≡ false → Made a need (attempted g S body x) r → Made a need (rows_under g (part_at s.nodes at) x) r
    unfolding otherwise
    tried_rows a need (Ok n) k m = record {
      small = m.small;
      fits = m.fits;
      listed = by_name true h ∙ ap (λ (z : CappedRows). otherwise z (exactly g S body x)) m.listed;
      rising = m.rising;
    }
    tried_rows a need (Err Over) k m = absurd (true≢false k)
    tried_rows a need (Err Cramped) k m = m
    tried_rows a need (Err Refused) k m = m

    -- ---- where it gave up
    module _ (gave : attempted g S body x ≡ none) where
      exact_is : rows_under g (part_at s.nodes at) x ≡ exactly g S body x
      unfolding otherwise
      exact_is = by_name true h ∙ ap (λ (z : CappedRows). otherwise z (exactly g S body x)) gave

      pub passed_rows : (g.unknown ≡ 0 → ⊥) → given_up x body ≡ none → rows_under g (part_at s.nodes at) x ≡ none
      passed_rows k z = exact_is ∙ ap (λ (b : Bool). cond b (twice g S body x) (given_up x body)) (ne_eqb g.unknown 0 k) ∙ z

      pub twice_rows_here : g.unknown ≡ 0 → twice g S body x ≡ rows_under g (part_at s.nodes at) x
      twice_rows_here k = ap (λ (b : Bool). cond b (twice g S body x) (given_up x body)) (sym (eq-eqb g.unknown 0 k)) ∙ sym exact_is
