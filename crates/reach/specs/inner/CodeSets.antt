-- Sets of completion codes as a program holds them, and the sets of esterel that they stand for.
use Rattle.std.specs.Prelude.{ℕ, zero, suc, ◌-◌, ◌<◌, ◌%◌, ◌+◌, ◌*◌, ◌/◌, ◌≡◌, refl, cond, eqb}
use Rattle.std.proofs.Common.{arith, ap}
use Rattle.sets.specs.Set.{has}
use Rattle.esterel.specs.Codes.{Codes, none, join, minus_zero}
use Rattle.reach.specs.declared.codes.CodeSet.TheInside.{Inside}

-- the place of a code in the word `codes`: bit 0 for code 0, bit k − 1 for a code k of 2 and up, so that codes 0 to 64 fit.
-- Code 1 has none: it has the labels
abbrev pub place_of : ℕ → ℕ
place_of k = k - 1

-- what the two words stand for: above bit 0 each code is one place below its own number
unfoldable pub codes_of : Inside → Codes
codes_of w = record { ends = has w.codes (place_of 0); pausing = w.labels; higher = w.codes / 2 * 4 }

-- the words of a set
unfoldable pub words_of : Codes → Inside
words_of K = record { labels = K.pausing; codes = cond K.ends 1 0 + K.higher / 4 * 2 }

-- the codes of one statement followed by another: those of the second where the first can end
unfoldable pub followed_by : Codes → Codes → Codes
followed_by K K' = join (minus_zero K) (cond K.ends K' none)

bit : (m : ℕ) → m < 2 → cond (eqb m 1) 1 0 ≡ m
bit zero h = refl
bit (suc zero) h = refl
bit (suc (suc m)) h = absurd (omega arith)

low_bit : (n : ℕ) → cond (has n 0) 1 0 + n / 2 * 4 / 4 * 2 ≡ n
unfolding has
low_bit n = let e = bit (n % 2) (omega arith) in omega (arith, e)

-- the words of a set can be had back from it
pub words_back : (w : Inside) → words_of (codes_of w) ≡ w
unfolding codes_of words_of
words_back w = ap (λ (n : ℕ). record { labels = w.labels; codes = n }) (low_bit w.codes)
