-- Bytes as a stream of bits: "Fields are packed most significant bit first".
use Rattle.std.specs.Prelude.{ℕ, zero, suc, ◌+◌, ◌-◌, ◌*◌, ◌/◌, ◌%◌, ◌^◌, ◌<◌, List, [], ◌∷◌, ◌++◌, length, take, drop, replicate, get_or}

-- n as a field of w bits
unfoldable pub bits : ℕ → ℕ → List ℕ
bits zero n = []
bits (suc w) n = n / 2 ^ w % 2 ∷ bits w n

-- the number that bits make, after those that make a
unfoldable pub number_after : ℕ → List ℕ → ℕ
number_after a [] = a
number_after a (b ∷ l) = number_after (a * 2 + b) l

-- the number in a field
unfoldable pub number : List ℕ → ℕ
number l = number_after 0 l

-- the bits of bytes
unfoldable pub bits_of : List ℕ → List ℕ
bits_of [] = []
bits_of (x ∷ l) = bits 8 x ++ bits_of l

-- n bytes from bits
unfoldable pub bytes_from : ℕ → List ℕ → List ℕ
bytes_from zero l = []
bytes_from (suc n) l = number (take 8 l) ∷ bytes_from n (drop 8 l)

-- a number in w bytes, "most significant first"
abbrev pub bytes : ℕ → ℕ → List ℕ
bytes w n = bytes_from w (bits (8 * w) n)

-- "then zero bits up to the next whole byte"
unfoldable pub padded : List ℕ → List ℕ
padded l = l ++ replicate ((8 - length l % 8) % 8) 0

-- bits as bytes
unfoldable pub bytes_of : List ℕ → List ℕ
bytes_of l = bytes_from (length (padded l) / 8) (padded l)

-- every number of the list is below m: bits are below 2, nodes below 1,024, bytes below 256
abbrev pub Below : ℕ → List ℕ → Type 0
Below m l = (i : ℕ) → get_or l i 0 < m
