-- Conditions on signals of which it is not known whether they are present. The signals that may be unknown are those of a set M. They
-- have slots, and a condition is on slots, so that it takes few bits.
use Rattle.std.specs.Prelude.{ℕ, zero, suc, Bool, cond, not, ◌&&◌, eqb}
use Rattle.sets.specs.Set.{has, only, count, ◌union◌, ◌intersect◌, ◌minus◌, ◌without◌}

-- the slot of S: how many members of M are below S. Members of M have different slots (proofs/Slots).
abbrev pub slot_of : ℕ → ℕ → ℕ
slot_of M S = count S M

-- the slots of the members of M that F has and that are below n
unfoldable pub seen_below : ℕ → ℕ → ℕ → ℕ
seen_below M F zero = 0
seen_below M F (suc S) = seen_below M F S union cond (has M S && has F S) (only (slot_of M S)) 0

-- what F is to a condition: the slots of the members of M that F has, all of which are below M
unfoldable pub seen : ℕ → ℕ → ℕ
seen M F = seen_below M F M

-- the slots that have to be there, and those that have to be not
pub record Condition : Type 0 where
  pub on : ℕ
  pub off : ℕ

abbrev pub condition : ℕ → ℕ → Condition
condition P N = record { on = P; off = N }

unfoldable pub always : Condition
always = condition 0 0

-- the set F of slots meets it
unfoldable pub holds : Condition → ℕ → Bool
holds c F = eqb (c.on minus F) 0 && eqb (c.off intersect F) 0

unfoldable pub both : Condition → Condition → Condition
both c d = condition (c.on union d.on) (c.off union d.off)

-- no set meets it
unfoldable pub clashes : Condition → Bool
clashes c = not (eqb (c.on intersect c.off) 0)

-- what it says of the slots other than s
unfoldable pub forget : ℕ → Condition → Condition
forget s c = condition (c.on without s) (c.off without s)
