-- From bytes to parts, from the last byte to the first. Letters and digits are kept until the byte before them is none; then they
-- are one part or the text is refused.
use Rattle.std.specs.Prelude.{ℕ, ◌+◌, ◌*◌, ◌-◌, Bool, true, false, cond, ◌&&◌, ◌||◌, List, [], ◌∷◌, eqb, leb}
use Rattle.std.proofs.Math.Option.{Option, none, some}
use Rattle.esterel.specs.Statement.{Statement}
use Rattle.text.specs.Parts.{Word, Nothing, Gotopause, Emit, Exit, Signal, In, End, Present, Then, Else, Loop, Try, Part, word, number, signal_of, pause_at, semicolon, bars, opening, closing}
use Rattle.text.specs.inner.Machine.{read_parts}
use Rattle.text.specs.Spelling.{letters_of, colon_pause}

-- ---- Letters and digits to a part

unfoldable pub is_digit : ℕ → Bool
is_digit b = leb 48 b && leb b 57

-- a digit, a colon, S or a small letter
unfoldable pub is_letter : ℕ → Bool
is_letter b = (leb 48 b && leb b 58) || (eqb b 83 || (leb 97 b && leb b 122))

unfoldable pub same : List ℕ → List ℕ → Bool
same [] [] = true
same [] (c ∷ cs) = false
same (b ∷ bs) [] = false
same (b ∷ bs) (c ∷ cs) = eqb b c && same bs cs

-- the first of the words that is spelled so
unfoldable pub find_word : List Word → List ℕ → Option Part
find_word [] bs = none
find_word (w ∷ ws) bs = let later = find_word ws bs in cond (same bs (letters_of w)) (some (word w)) later

unfoldable pub words : List Word
words = Nothing ∷ Gotopause ∷ Emit ∷ Exit ∷ Signal ∷ In ∷ End ∷ Present ∷ Then ∷ Else ∷ Loop ∷ Try ∷ []

-- a number that begins with the digits of v, or a pause with that label
unfoldable pub scan : ℕ → List ℕ → Option Part
scan v [] = some (number v)
scan v (b ∷ bs) =
    let longer = scan (v * 10 + (b - 48)) bs in
    cond (is_digit b) longer (cond (same (b ∷ bs) colon_pause) (some (pause_at v)) none)

unfoldable pub digit_first : List ℕ → Bool
digit_first [] = false
digit_first (b ∷ bs) = is_digit b

unfoldable pub numeral : List ℕ → Option Part
numeral [] = none
numeral (b ∷ bs) = cond (is_digit b) (cond (eqb b 48 && digit_first bs) none (scan (b - 48) bs)) none

-- a number behind S is a signal
unfoldable pub as_signal : Option Part → Option Part
as_signal none = none
as_signal (some (word w)) = none
as_signal (some (number n)) = some (signal_of n)
as_signal (some (signal_of S)) = none
as_signal (some (pause_at l)) = none
as_signal (some semicolon) = none
as_signal (some bars) = none
as_signal (some opening) = none
as_signal (some closing) = none

unfoldable pub part_of : List ℕ → Option Part
part_of [] = none
part_of (b ∷ bs) = cond (is_digit b) (numeral (b ∷ bs)) (cond (eqb b 83) (as_signal (numeral bs)) (find_word words (b ∷ bs)))

-- ---- Bytes to parts

pub data Class : Type 0 where
  letter blank semi bar opens closes other : Class

unfoldable pub class_of : ℕ → Class
class_of b =
    cond (is_letter b) letter
    (cond (eqb b 32 || eqb b 10) blank
    (cond (eqb b 59) semi
    (cond (eqb b 124) bar
    (cond (eqb b 91) opens
    (cond (eqb b 93) closes other)))))

-- the parts already found, and before them: letters that are not yet a part (none of them: a part that is no word, or the end of
-- the text); blanks; one bar of two
pub data Lexing : Type 0 where
  broken : Lexing
  at : List ℕ → List Part → Lexing
  spaced half : List Part → Lexing

-- the same with the letters made a part
pub data Edge : Type 0 where
  broken : Edge
  edge half : List Part → Edge

unfoldable pub found : Option Part → List Part → Edge
found none ts = Edge.broken
found (some t) ts = edge (t ∷ ts)

unfoldable pub flushed : Lexing → Edge
flushed Lexing.broken = Edge.broken
flushed (at [] ts) = edge ts
flushed (at (b ∷ bs) ts) = found (part_of (b ∷ bs)) ts
flushed (spaced ts) = edge ts
flushed (Lexing.half ts) = Edge.half ts

unfoldable pub keep_letter : ℕ → Lexing → Lexing
keep_letter b Lexing.broken = Lexing.broken
keep_letter b (at bs ts) = at (b ∷ bs) ts
keep_letter b (spaced ts) = at (b ∷ []) ts
keep_letter b (Lexing.half ts) = Lexing.broken

-- a part that is no word
unfoldable pub add_part : Part → Edge → Lexing
add_part t Edge.broken = Lexing.broken
add_part t (edge ts) = at [] (t ∷ ts)
add_part t (Edge.half ts) = Lexing.broken

unfoldable pub add_bar : Edge → Lexing
add_bar Edge.broken = Lexing.broken
add_bar (edge ts) = Lexing.half ts
add_bar (Edge.half ts) = at [] (bars ∷ ts)

-- a blank, which does not stand at the end
unfoldable pub add_blank : Edge → Lexing
add_blank Edge.broken = Lexing.broken
add_blank (edge []) = Lexing.broken
add_blank (edge (t ∷ ts)) = spaced (t ∷ ts)
add_blank (Edge.half ts) = Lexing.broken

unfoldable pub take : Class → ℕ → Lexing → Lexing
take letter b x = keep_letter b x
take blank b x = add_blank (flushed x)
take semi b x = add_part semicolon (flushed x)
take bar b x = add_bar (flushed x)
take opens b x = add_part opening (flushed x)
take closes b x = add_part closing (flushed x)
take other b x = Lexing.broken

unfoldable pub lex : List ℕ → Lexing → Lexing
lex [] x = x
lex (b ∷ bs) x = take (class_of b) b (lex bs x)

-- at the beginning of the text no blank stands, and no single bar
unfoldable pub all_of : Edge → Option (List Part)
all_of Edge.broken = none
all_of (edge ts) = some ts
all_of (Edge.half ts) = none

unfoldable pub finished : Lexing → Option (List Part)
finished Lexing.broken = none
finished (at bs ts) = all_of (flushed (at bs ts))
finished (spaced ts) = none
finished (Lexing.half ts) = none

-- what the bytes u give before the parts ts, which nothing meets
unfoldable pub rest : List ℕ → List Part → Option (List Part)
rest u ts = finished (lex u (at [] ts))

unfoldable pub parts_in : List ℕ → Option (List Part)
parts_in bs = rest bs []

-- ---- Reading a text

unfoldable pub read_some : Option (List Part) → Option Statement
read_some none = none
read_some (some ts) = read_parts ts

unfoldable pub read_text : List ℕ → Option Statement
read_text bs = read_some (parts_in bs)
