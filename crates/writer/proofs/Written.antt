-- The writer from the top down writes the parts of the statement.
use mathlib.Core.Path.{◌≡◌, refl, sym, ap, ◌∙◌}
use mathlib.Core.List.{List, [], ◌∷◌, ◌++◌}
use Rattle.esterel.specs.Statement.{Statement}
use Rattle.text.specs.Parts.{Signal, In, End, Present, Then, Else, Loop, Try, Part, word, signal_of, semicolon, bars}
use Rattle.text.specs.Grammar.{Level, single, chain, whole}
use Rattle.text.specs.Writing.{level_of, as_single, as_chain, parts_of}
use Rattle.text.proofs.Written.{asked}
use Rattle.writer.proofs.TopDown.{chain_at, whole_at, parts_at}

asked_chain : (l : Level) (p q : Statement) → asked l (Statement.sequence p q) ≡ chain_at l (parts_of (Statement.sequence p q))
unfolding asked chain_at as_single as_chain level_of
asked_chain single p q = refl
asked_chain chain p q = refl
asked_chain whole p q = refl

asked_whole : (l : Level) (p q : Statement) → asked l (Statement.parallel p q) ≡ whole_at l (parts_of (Statement.parallel p q))
unfolding asked whole_at as_single as_chain level_of
asked_whole single p q = refl
asked_whole chain p q = refl
asked_whole whole p q = refl

asked_single : (l : Level) (p : Statement) → level_of p ≡ single → asked l p ≡ parts_of p
unfolding asked as_single as_chain
asked_single single p e = ap (λ (x : Level). as_single x (parts_of p)) e
asked_single chain p e = ap (λ (x : Level). as_chain x (parts_of p)) e
asked_single whole p e = refl

inside : (p : Statement) → parts_at whole p ≡ asked whole p → parts_at whole p ≡ parts_of p
unfolding asked
inside p e = e

first : (p : Statement) → parts_at single p ≡ asked single p → parts_at single p ≡ as_single (level_of p) (parts_of p)
unfolding asked
first p e = e

second : (p : Statement) → parts_at chain p ≡ asked chain p → parts_at chain p ≡ as_chain (level_of p) (parts_of p)
unfolding asked
second p e = e

parts_at_lem : (l : Level) (p : Statement) → parts_at l p ≡ asked l p
unfolding parts_at parts_of level_of
parts_at_lem l Statement.nothing = sym (asked_single l Statement.nothing refl)
parts_at_lem l (Statement.pause n) = sym (asked_single l (Statement.pause n) refl)
parts_at_lem l (Statement.gotopause n) = sym (asked_single l (Statement.gotopause n) refl)
parts_at_lem l (Statement.emit S) = sym (asked_single l (Statement.emit S) refl)
parts_at_lem l (Statement.exit d) = sym (asked_single l (Statement.exit d) refl)
parts_at_lem l (Statement.signal S p) =
    ap (λ (x : List Part). word Signal ∷ signal_of S ∷ word In ∷ (x ++ (word End ∷ []))) (inside p (parts_at_lem whole p)) ∙ sym (asked_single l (Statement.signal S p) refl)
parts_at_lem l (Statement.present S p q) =
    ap (λ (x : List Part). word Present ∷ signal_of S ∷ word Then ∷ (x ++ (word Else ∷ (parts_at whole q ++ (word End ∷ []))))) (inside p (parts_at_lem whole p))
    ∙ ap (λ (x : List Part). word Present ∷ signal_of S ∷ word Then ∷ (parts_of p ++ (word Else ∷ (x ++ (word End ∷ []))))) (inside q (parts_at_lem whole q))
    ∙ sym (asked_single l (Statement.present S p q) refl)
parts_at_lem l (Statement.sequence p q) =
    ap (λ (x : List Part). chain_at l (x ++ (semicolon ∷ parts_at chain q))) (first p (parts_at_lem single p))
    ∙ ap (λ (x : List Part). chain_at l (as_single (level_of p) (parts_of p) ++ (semicolon ∷ x))) (second q (parts_at_lem chain q))
    ∙ sym (asked_chain l p q)
parts_at_lem l (Statement.parallel p q) =
    ap (λ (x : List Part). whole_at l (x ++ (bars ∷ parts_at whole q))) (second p (parts_at_lem chain p))
    ∙ ap (λ (x : List Part). whole_at l (as_chain (level_of p) (parts_of p) ++ (bars ∷ x))) (inside q (parts_at_lem whole q))
    ∙ sym (asked_whole l p q)
parts_at_lem l (Statement.loop p) = ap (λ (x : List Part). word Loop ∷ (x ++ (word End ∷ []))) (inside p (parts_at_lem whole p)) ∙ sym (asked_single l (Statement.loop p) refl)
parts_at_lem l (Statement.try p) = ap (λ (x : List Part). word Try ∷ (x ++ (word End ∷ []))) (inside p (parts_at_lem whole p)) ∙ sym (asked_single l (Statement.try p) refl)

-- the writer from the top down writes the same
pub parts_of_lem : (p : Statement) → parts_at whole p ≡ parts_of p
unfolding asked
parts_of_lem p = parts_at_lem whole p
