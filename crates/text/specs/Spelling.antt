-- The bytes of a text: how a part is spelled, and what may stand between two parts. proofs/Examples has each part as a quoted text.
use Rattle.std.specs.Prelude.{ℕ, zero, suc, ◌+◌, ◌/◌, ◌%◌, ◌≡◌, ◌⊎◌, ◌≢◌, Bool, true, cond, ◌&&◌, ◌||◌, List, [], ◌∷◌, ◌++◌, leb, ltb}
use Rattle.esterel.specs.Statement.{Statement}
use Rattle.text.specs.Parts.{Word, Nothing, Gotopause, Emit, Exit, Signal, In, End, Present, Then, Else, Loop, Try, Part, word, number, signal_of, pause_at, semicolon, bars, opening, closing}
use Rattle.text.specs.Grammar.{IsText}

-- ---- The spelling of a part

unfoldable pub letters_of : Word → List ℕ
letters_of Nothing = 110 ∷ 111 ∷ 116 ∷ 104 ∷ 105 ∷ 110 ∷ 103 ∷ []
letters_of Gotopause = 103 ∷ 111 ∷ 116 ∷ 111 ∷ 112 ∷ 97 ∷ 117 ∷ 115 ∷ 101 ∷ []
letters_of Emit = 101 ∷ 109 ∷ 105 ∷ 116 ∷ []
letters_of Exit = 101 ∷ 120 ∷ 105 ∷ 116 ∷ []
letters_of Signal = 115 ∷ 105 ∷ 103 ∷ 110 ∷ 97 ∷ 108 ∷ []
letters_of In = 105 ∷ 110 ∷ []
letters_of End = 101 ∷ 110 ∷ 100 ∷ []
letters_of Present = 112 ∷ 114 ∷ 101 ∷ 115 ∷ 101 ∷ 110 ∷ 116 ∷ []
letters_of Then = 116 ∷ 104 ∷ 101 ∷ 110 ∷ []
letters_of Else = 101 ∷ 108 ∷ 115 ∷ 101 ∷ []
letters_of Loop = 108 ∷ 111 ∷ 111 ∷ 112 ∷ []
letters_of Try = 116 ∷ 114 ∷ 121 ∷ []

-- "numbers are decimal without leading zeros"; the first argument only bounds the recursion, and any above n gives the same
unfoldable pub digits_within : ℕ → ℕ → List ℕ
digits_within zero n = []
digits_within (suc f) n = let rest = digits_within f (n / 10) in cond (ltb n 10) ((48 + n) ∷ []) (rest ++ ((48 + n % 10) ∷ []))

unfoldable pub digits : ℕ → List ℕ
digits n = digits_within (suc n) n

-- `:pause`
unfoldable pub colon_pause : List ℕ
colon_pause = 58 ∷ 112 ∷ 97 ∷ 117 ∷ 115 ∷ 101 ∷ []

-- "A signal is S and its number"
unfoldable pub spelling : Part → List ℕ
spelling (word w) = letters_of w
spelling (number n) = digits n
spelling (signal_of S) = 83 ∷ digits S
spelling (pause_at l) = digits l ++ colon_pause
spelling semicolon = 59 ∷ []
spelling bars = 124 ∷ 124 ∷ []
spelling opening = 91 ∷ []
spelling closing = 93 ∷ []

-- ---- Between parts

-- a letter or a digit
unfoldable pub alnum : ℕ → Bool
alnum b = (leb 48 b && leb b 57) || ((leb 65 b && leb b 90) || (leb 97 b && leb b 122))

unfoldable pub first_of : List ℕ → ℕ
first_of [] = 0
first_of (b ∷ bs) = b

unfoldable pub last_of : List ℕ → ℕ
last_of [] = 0
last_of (b ∷ []) = b
last_of (b ∷ c ∷ bs) = last_of (c ∷ bs)

-- letters or digits of t and u meet where u stands right behind t
unfoldable pub meeting : Part → Part → Bool
meeting t u = alnum (last_of (spelling t)) && alnum (first_of (spelling u))

-- spaces and line feeds
unfoldable pub Blanks : List ℕ → Type 0
Blanks [] = Unit {0}
Blanks (b ∷ bs) = ((b ≡ 32) ⊎ (b ≡ 10)) × Blanks bs

-- what may stand behind t, before the parts ts: "Spaces or line feeds may stand only between parts, and must where letters or
-- digits of two parts would meet"
abbrev pub Gap : Part → List Part → List ℕ → Type 0
Gap t [] gap = gap ≡ []
Gap t (u ∷ ts) gap = Blanks gap × (meeting t u ≡ true → gap ≢ [])

-- the bytes are the parts, spelled
pub data Spelled : List ℕ → List Part → Type 0 where
  none : {bs : List ℕ} → bs ≡ [] → Spelled bs []
  more : {bs : List ℕ} {t : Part} {ts : List Part} (gap rest : List ℕ) → Gap t ts gap → Spelled rest ts
      → bs ≡ spelling t ++ (gap ++ rest) → Spelled bs (t ∷ ts)

-- the bytes are a text of the statement
pub record TextOf (bs : List ℕ) (p : Statement) : Type 0 where
  pub parts : List Part
  pub spelled : Spelled bs parts
  pub text : IsText parts p
