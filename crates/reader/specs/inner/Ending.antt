-- What stands at the end of a text: which part ends there, and what the functions give that look for it.
use Rattle.std.specs.Prelude.{ℕ, ◌-◌, ◌≤◌, ◌≡◌, true, false, List, [], ◌∷◌, ◌++◌, length, drop, get_or}
use Rattle.std.specs.Prelude.{Option, Some, None}
use Rattle.text.specs.Parts.{Part, signal_of}
use Rattle.text.specs.Spelling.{digits, spelling, first_of, last_of}
use Rattle.text.specs.inner.Lexer.{is_digit, is_letter, rest}
use Rattle.reader.specs.declared.lexing.Rest.{Rest}
use Rattle.reader.specs.inner.Blanks.{blank_byte}
use Rattle.reader.specs.inner.Nodes.{clip}

-- u ends in the part t, behind v: no letter of v would be one part with it
pub record Ending (u v : List ℕ) (t : Part) : Type 0 where
  pub spelt : u ≡ v ++ spelling t
  pub clear : is_letter (first_of (spelling t)) ≡ true → is_letter (last_of v) ≡ false

-- a text that is taken apart does not begin with a blank
abbrev pub Begun : List ℕ → Option Rest → Type 0
Begun u None = blank_byte (get_or u 0 0) ≡ true
Begun u (Some x) = x.bytes.now ≡ u

-- what stands before the bytes ls that u ends in
abbrev pub Stripped : List ℕ → List ℕ → Option Rest → Type 0
Stripped u ls None = (v : List ℕ) → u ≡ v ++ ls → ⊥
Stripped u ls (Some x) = u ≡ x.bytes.now ++ ls

-- u ends in the letters ls of a word, and no letter stands before them
pub record Worded (u ls v : List ℕ) : Type 0 where
  pub spelt : u ≡ v ++ ls
  pub clear : is_letter (last_of v) ≡ false

abbrev pub Words : List ℕ → List ℕ → Option Rest → Type 0
Words u ls None = (v : List ℕ) → Worded u ls v → ⊥
Words u ls (Some x) = Worded u ls x.bytes.now

-- bytes that are all digits
abbrev pub Figures : List ℕ → Type 0
Figures [] = Unit {0}
Figures (b ∷ bs) = (is_digit b ≡ true) × Figures bs

-- u ends in three digits
pub record Three (u : List ℕ) : Type 0 where
  pub long : 3 ≤ length u
  pub figures : Figures (drop (length u - 3) u)

-- u ends in a number behind v, which is held up to 100
pub record Number (u v : List ℕ) (value : ℕ) : Type 0 where
  pub number : ℕ
  pub spelt : u ≡ v ++ digits number
  pub held : clip number ≡ value
  pub bounded : is_digit (last_of v) ≡ false

abbrev pub Numbers : List ℕ → Option (ℕ × Rest) → Type 0
Numbers u None = (v : List ℕ) (m : ℕ) → u ≡ v ++ digits m → is_digit (last_of v) ≡ false → ⊥
Numbers u (Some p) = Number u p.1.bytes.now p.0

-- the same of a signal
pub record Signal (u v : List ℕ) (value : ℕ) : Type 0 where
  pub number : ℕ
  pub there : Ending u v (signal_of number)
  pub held : clip number ≡ value

abbrev pub Signals : List ℕ → Option (ℕ × Rest) → Type 0
Signals u None = (v : List ℕ) (m : ℕ) → Ending u v (signal_of m) → ⊥
Signals u (Some p) = Signal u p.1.bytes.now p.0

-- u is v and blanks before a part
pub record Skipped (u v : List ℕ) : Type 0 where
  pub below : length v ≤ length u
  pub begins : length v ≡ 0 → length u ≡ 0
  pub solid : blank_byte (last_of v) ≡ false
  pub goes_on : (t : Part) (ts : List Part) → rest u (t ∷ ts) ≡ rest v (t ∷ ts)
