-- Blanks, at which no text of a statement begins.
use Rattle.std.specs.Prelude.{ℕ, Bool, ◌||◌, eqb}

unfoldable pub blank_byte : ℕ → Bool
blank_byte b = eqb b 32 || eqb b 10
