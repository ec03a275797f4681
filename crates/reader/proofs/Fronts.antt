-- What the lexer finds before parts stands in front of them.
use Prim.Native.Nat.{ℕ}
use mathlib.Core.Path.{◌≡◌, refl, ap, subst}
use mathlib.Core.Option.{Option, none, some, some-injective}
use mathlib.Core.List.{List, [], ◌∷◌, ◌++◌}
use Rattle.text.specs.Parts.{Part, semicolon, bars, opening, closing}
use Rattle.text.specs.inner.Lexer.{part_of, Class, letter, blank, semi, bar, opens, closes, other, class_of, Lexing, at, spaced, Edge, edge, found, flushed, keep_letter, add_part, add_bar, add_blank, take, lex, all_of, finished, rest}
use Rattle.text.proofs.Lexer.{no_parts}

-- the parts begin with others, before ts
abbrev InFront : List Part → List Part → Type 0
InFront ts vs = (us : List Part) × (vs ≡ us ++ ts)

one_more : (ts vs : List Part) (t : Part) → InFront ts vs → InFront ts (t ∷ vs)
one_more ts vs t (us, e) = (t ∷ us, ap (λ (x : List Part). t ∷ x) e)

abbrev Fronts : List Part → Lexing → Type 0
Fronts ts Lexing.broken = Unit {0}
Fronts ts (at cs vs) = InFront ts vs
Fronts ts (spaced vs) = InFront ts vs
Fronts ts (Lexing.half vs) = InFront ts vs

abbrev EdgeFronts : List Part → Edge → Type 0
EdgeFronts ts Edge.broken = Unit {0}
EdgeFronts ts (edge vs) = InFront ts vs
EdgeFronts ts (Edge.half vs) = InFront ts vs

found_fronts : (ts : List Part) (r : Option Part) (vs : List Part) → InFront ts vs → EdgeFronts ts (found r vs)
unfolding found
found_fronts ts none vs h = tt
found_fronts ts (some t) vs h = one_more ts vs t h

flushed_fronts : (ts : List Part) (x : Lexing) → Fronts ts x → EdgeFronts ts (flushed x)
unfolding flushed
flushed_fronts ts Lexing.broken h = tt
flushed_fronts ts (at [] vs) h = h
flushed_fronts ts (at (c ∷ cs) vs) h = found_fronts ts (part_of (c ∷ cs)) vs h
flushed_fronts ts (spaced vs) h = h
flushed_fronts ts (Lexing.half vs) h = h

letter_fronts : (ts : List Part) (b : ℕ) (x : Lexing) → Fronts ts x → Fronts ts (keep_letter b x)
unfolding keep_letter
letter_fronts ts b Lexing.broken h = tt
letter_fronts ts b (at cs vs) h = h
letter_fronts ts b (spaced vs) h = h
letter_fronts ts b (Lexing.half vs) h = tt

part_fronts : (ts : List Part) (t : Part) (x : Edge) → EdgeFronts ts x → Fronts ts (add_part t x)
unfolding add_part
part_fronts ts t Edge.broken h = tt
part_fronts ts t (edge vs) h = one_more ts vs t h
part_fronts ts t (Edge.half vs) h = tt

bar_fronts : (ts : List Part) (x : Edge) → EdgeFronts ts x → Fronts ts (add_bar x)
unfolding add_bar
bar_fronts ts Edge.broken h = tt
bar_fronts ts (edge vs) h = h
bar_fronts ts (Edge.half vs) h = one_more ts vs bars h

blank_fronts : (ts : List Part) (x : Edge) → EdgeFronts ts x → Fronts ts (add_blank x)
unfolding add_blank
blank_fronts ts Edge.broken h = tt
blank_fronts ts (edge []) h = tt
blank_fronts ts (edge (v ∷ vs)) h = h
blank_fronts ts (Edge.half vs) h = tt

take_fronts : (ts : List Part) (k : Class) (b : ℕ) (x : Lexing) → Fronts ts x → Fronts ts (take k b x)
unfolding take
take_fronts ts letter b x h = letter_fronts ts b x h
take_fronts ts blank b x h = blank_fronts ts (flushed x) (flushed_fronts ts x h)
take_fronts ts semi b x h = part_fronts ts semicolon (flushed x) (flushed_fronts ts x h)
take_fronts ts bar b x h = bar_fronts ts (flushed x) (flushed_fronts ts x h)
take_fronts ts opens b x h = part_fronts ts opening (flushed x) (flushed_fronts ts x h)
take_fronts ts closes b x h = part_fronts ts closing (flushed x) (flushed_fronts ts x h)
take_fronts ts other b x h = tt

lex_fronts : (ts : List Part) (u : List ℕ) → Fronts ts (lex u (at [] ts))
unfolding lex
lex_fronts ts [] = ([], refl)
lex_fronts ts (b ∷ u) = take_fronts ts (class_of b) b (lex u (at [] ts)) (lex_fronts ts u)

all_front : (ts : List Part) (x : Edge) (vs : List Part) → EdgeFronts ts x → all_of x ≡ some vs → InFront ts vs
unfolding all_of
all_front ts Edge.broken vs h e = no_parts vs e
all_front ts (edge us) vs h e = subst (InFront ts) (some-injective us vs e) h
all_front ts (Edge.half us) vs h e = no_parts vs e

-- what is found before parts stands in front of them
pub rest_in_front : (u : List ℕ) (ts vs : List Part) → rest u ts ≡ some vs → (us : List Part) × (vs ≡ us ++ ts)
unfolding rest finished
rest_in_front u ts vs e = go (lex u (at [] ts)) (lex_fronts ts u) e
  where
    go : (x : Lexing) → Fronts ts x → finished x ≡ some vs → InFront ts vs
    go Lexing.broken h e = no_parts vs e
    go (at cs us) h e = all_front ts (flushed (at cs us)) vs (flushed_fronts ts (at cs us) h) e
    go (spaced us) h e = no_parts vs e
    go (Lexing.half us) h e = no_parts vs e
