-- The bytes of a statement from the top down, as they are put: what stands at a node before its first child, between its children
-- and behind the last, each with the spaces that part it from them. Nodes are told apart by the numbers of their kinds.
use Rattle.std.specs.Prelude.{ℕ, Bool, false, cond, ◌&&◌, ◌||◌, List, [], ◌∷◌, ◌++◌, eqb, leb}
use Rattle.esterel.specs.Statement.{Statement, nothing, pause, gotopause, emit, exit, signal, present, sequence, parallel, loop, try}
use Rattle.text.specs.Parts.{Nothing, Gotopause, Emit, Exit, Signal, In, End, Present, Then, Else, Loop, Try, Part, word, number, signal_of, pause_at, semicolon, bars, opening, closing}
use Rattle.text.specs.Grammar.{Level, single, chain, whole}
use Rattle.text.specs.Spelling.{spelling}
use Rattle.text.specs.Writing.{spell_all}
use Rattle.writer.specs.declared.writing.Asked.{Asked}
use Rattle.writer.specs.declared.writing.Asked.TheVariants.{Single, Chain, Whole}

-- ---- What is asked for

unfoldable pub level_asked : Asked → Level
level_asked Single = single
level_asked Chain = chain
level_asked Whole = whole

-- whether a statement of a kind stands in brackets there
unfoldable pub enclosed_at : Level → ℕ → Bool
enclosed_at single k = eqb k 7 || eqb k 8
enclosed_at chain k = eqb k 8
enclosed_at whole k = false

-- what a statement of a kind asks of its children
unfoldable pub first_level : ℕ → Level
first_level k = cond (eqb k 7) single (cond (eqb k 8) chain whole)

unfoldable pub second_level : ℕ → Level
second_level k = cond (eqb k 7) chain whole

-- of the kinds with children, those with two
unfoldable pub has_two : ℕ → Bool
has_two k = leb 6 k && leb k 8

-- ---- The bytes of a node

-- parts with a space behind them, a part with a space before it, a part between two
unfoldable pub ahead : List Part → List ℕ
ahead ts = spell_all ts ++ (32 ∷ [])

unfoldable pub after : Part → List ℕ
after t = 32 ∷ spelling t

unfoldable pub amid : Part → List ℕ
amid t = 32 ∷ ahead (t ∷ [])

unfoldable pub leaf_text : ℕ → ℕ → List ℕ
leaf_text k o =
    spell_all (cond (eqb k 1) (pause_at o ∷ []) (cond (eqb k 2) (word Gotopause ∷ number o ∷ []) (cond (eqb k 3) (word Emit ∷ signal_of o ∷ [])
    (cond (eqb k 4) (word Exit ∷ number o ∷ []) (word Nothing ∷ [])))))

unfoldable pub head_text : ℕ → ℕ → Bool → List ℕ
head_text k o b =
    cond (eqb k 5) (ahead (word Signal ∷ signal_of o ∷ word In ∷ [])) (cond (eqb k 6) (ahead (word Present ∷ signal_of o ∷ word Then ∷ []))
    (cond (eqb k 9) (ahead (word Loop ∷ [])) (cond (eqb k 10) (ahead (word Try ∷ [])) (cond b (ahead (opening ∷ [])) []))))

unfoldable pub between_text : ℕ → List ℕ
between_text k = amid (cond (eqb k 7) semicolon (cond (eqb k 8) bars (word Else)))

unfoldable pub tail_text : ℕ → Bool → List ℕ
tail_text k b = cond (eqb k 6) (after (word End)) (cond b (after closing) [])

-- ---- The bytes of a statement

-- around the bytes of one child, and of two
unfoldable pub around_one : Level → ℕ → ℕ → List ℕ → List ℕ
around_one l k o bs = head_text k o (enclosed_at l k) ++ (bs ++ after (word End))

unfoldable pub around_two : Level → ℕ → ℕ → List ℕ → List ℕ → List ℕ
around_two l k o bs cs = head_text k o (enclosed_at l k) ++ (bs ++ (between_text k ++ (cs ++ tail_text k (enclosed_at l k))))

unfoldable pub text_at : Level → Statement → List ℕ
text_at l nothing = leaf_text 0 0
text_at l (pause n) = leaf_text 1 n
text_at l (gotopause n) = leaf_text 2 n
text_at l (emit S) = leaf_text 3 S
text_at l (exit d) = leaf_text 4 d
text_at l (signal S p) = around_one l 5 S (text_at whole p)
text_at l (present S p q) = around_two l 6 S (text_at whole p) (text_at whole q)
text_at l (sequence p q) = around_two l 7 0 (text_at single p) (text_at chain q)
text_at l (parallel p q) = around_two l 8 0 (text_at chain p) (text_at whole q)
text_at l (loop p) = around_one l 9 0 (text_at whole p)
text_at l (try p) = around_one l 10 0 (text_at whole p)
