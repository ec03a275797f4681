-- Ranges of numbers: what is held up to 100 is in range where the number is, and a range may be asked before or after the others.
use Prim.Native.Nat.{ℕ, ◌≤◌}
use mathlib.Core.Path.{◌≡◌, sym, ap, ◌∙◌}
use mathlib.Core.Bool.{Bool, ◌&&◌, and-true, and_comm}
use mathlib.Core.List.{[], ◌∷◌}
use native.Mathlib.Omega.{arith}
use lib.Dec.{leb}
use borrow.Author.Tests.{leb-true}
use Rattle.sets.proofs.Booleans.{by_cond}
use Rattle.text.specs.Parts.{Word, word, number, signal_of, pause_at}
use Rattle.text.specs.Reading.{label_ranged, signal_ranged}
use Rattle.reader.specs.inner.Nodes.{clip, part_ranged, all_ranged}
use Rattle.reader.proofs.Working.{clip_label, clip_signal}

pub held_most : (m : ℕ) → clip m ≤ 100
unfolding clip
held_most m = by_cond (λ (x : ℕ). x ≤ 100) (leb m 100) m 100 (leb-true m 100) (λ e. omega arith)

-- of what is in range behind a part, and then the part
ranged_with : (ranged : Bool) {z y : Bool} → z ≡ y → (ranged && z) ≡ (y && ranged)
ranged_with ranged {z} {y} e = ap (λ (x : Bool). ranged && x) e ∙ and_comm ranged y

module _ (ranged : Bool) (m : ℕ) {value : ℕ} {z : Bool} (held : clip m ≡ value) where
  pub signal_ranged_lem : z ≡ signal_ranged value → (ranged && z) ≡ (part_ranged (signal_of m) && ranged)
  unfolding part_ranged
  signal_ranged_lem e = ranged_with ranged (e ∙ sym (ap signal_ranged held) ∙ clip_signal m)

  pub number_ranged : z ≡ label_ranged value → (ranged && z) ≡ (part_ranged (number m) && ranged)
  unfolding part_ranged
  number_ranged e = ranged_with ranged (e ∙ sym (ap label_ranged held) ∙ clip_label m)

  pub pause_ranged : z ≡ label_ranged value → (ranged && z) ≡ (part_ranged (pause_at m) && ranged)
  unfolding part_ranged
  pause_ranged e = number_ranged e

  -- a signal between two words
  pub heading_ranged : (w w' : Word) → z ≡ signal_ranged value → (ranged && z) ≡ (all_ranged (word w ∷ signal_of m ∷ word w' ∷ []) && ranged)
  unfolding part_ranged all_ranged
  heading_ranged w w' e = signal_ranged_lem e ∙ ap (λ (x : Bool). x && ranged) (sym (and-true (signal_ranged m)))
