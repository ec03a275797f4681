-- The bytes from the top down are the text of the statement.
use Prim.Native.Nat.{ℕ}
use mathlib.Core.Path.{◌≡◌, refl, sym, ap, ap₂, ◌∙◌}
use mathlib.Core.List.{List, [], ◌∷◌, ◌++◌, append_assoc, append-nil}
use Rattle.esterel.specs.Statement.{Statement, nothing, pause, gotopause, emit, exit, signal, present, sequence, parallel, loop, try}
use Rattle.text.specs.Parts.{Signal, In, End, Present, Then, Else, Loop, Try, Part, word, signal_of, semicolon, bars, opening, closing}
use Rattle.text.specs.Grammar.{Level, single, chain, whole}
use Rattle.text.specs.Spelling.{spelling}
use Rattle.text.specs.Writing.{enclosed, spell_all, write_text}
use Rattle.writer.proofs.TopDown.{chain_at, whole_at, parts_at}
use Rattle.writer.specs.inner.Texts.{enclosed_at, ahead, after, amid, leaf_text, head_text, between_text, tail_text, around_one, around_two, text_at}
use Rattle.writer.proofs.Written.{parts_of_lem}

-- ---- The spelling of parts one after the other

unfoldable Some : List Part → Type 0
Some [] = ⊥
Some (t ∷ ts) = Unit {0}

some_append : (ts us : List Part) → Some ts → Some (ts ++ us)
unfolding Some
some_append [] us h = absurd h
some_append (t ∷ ts) us h = tt

spell_join : (ts us : List Part) → Some ts → Some us → spell_all (ts ++ us) ≡ spell_all ts ++ (32 ∷ spell_all us)
unfolding Some spell_all
spell_join [] us h k = absurd h
spell_join (t ∷ []) [] h k = absurd k
spell_join (t ∷ []) (u ∷ us) h k = refl
spell_join (t ∷ v ∷ ts) us h k =
    ap (λ (l : List ℕ). spelling t ++ (32 ∷ l)) (spell_join (v ∷ ts) us tt k) ∙ sym (append_assoc (spelling t) (32 ∷ spell_all (v ∷ ts)) (32 ∷ spell_all us))

-- parts in front, a part behind
spell_ahead : (ts us : List Part) → Some ts → Some us → ahead ts ++ spell_all us ≡ spell_all (ts ++ us)
unfolding ahead
spell_ahead ts us h k = append_assoc (spell_all ts) (32 ∷ []) (spell_all us) ∙ sym (spell_join ts us h k)

spell_after : (ts : List Part) (t : Part) → Some ts → spell_all ts ++ after t ≡ spell_all (ts ++ (t ∷ []))
unfolding after Some spell_all
spell_after ts t h = sym (spell_join ts (t ∷ []) h tt)

spell_amid : (ts : List Part) (t : Part) (us : List Part) → Some ts → Some us → spell_all ts ++ (amid t ++ spell_all us) ≡ spell_all (ts ++ (t ∷ us))
unfolding amid Some
spell_amid ts t us h k =
    ap (λ (l : List ℕ). spell_all ts ++ (32 ∷ l)) (spell_ahead (t ∷ []) us tt k) ∙ sym (spell_join ts (t ∷ us) h tt)

-- ---- The parts of a statement

some_chain : (l : Level) (ts : List Part) → Some ts → Some (chain_at l ts)
unfolding chain_at enclosed Some
some_chain single ts h = tt
some_chain chain ts h = h
some_chain whole ts h = h

some_whole : (l : Level) (ts : List Part) → Some ts → Some (whole_at l ts)
unfolding whole_at enclosed Some
some_whole single ts h = tt
some_whole chain ts h = tt
some_whole whole ts h = h

some_parts : (l : Level) (p : Statement) → Some (parts_at l p)
unfolding parts_at Some
some_parts l nothing = tt
some_parts l (pause n) = tt
some_parts l (gotopause n) = tt
some_parts l (emit S) = tt
some_parts l (exit d) = tt
some_parts l (signal S p) = tt
some_parts l (present S p q) = tt
some_parts l (sequence p q) = some_chain l _ (some_append (parts_at single p) (semicolon ∷ parts_at chain q) (some_parts single p))
some_parts l (parallel p q) = some_whole l _ (some_append (parts_at chain p) (bars ∷ parts_at whole q) (some_parts chain p))
some_parts l (loop p) = tt
some_parts l (try p) = tt

-- ---- Around the children

-- a word in front, the child, and `end`
text_one : (ts us : List Part) → Some ts → Some us → ahead ts ++ (spell_all us ++ after (word End)) ≡ spell_all (ts ++ (us ++ (word End ∷ [])))
text_one ts us h k =
    ap (λ (l : List ℕ). ahead ts ++ l) (spell_after us (word End) k) ∙ spell_ahead ts (us ++ (word End ∷ [])) h (some_append us (word End ∷ []) k)

text_present : (ts us vs : List Part) → Some ts → Some us → Some vs
    → ahead ts ++ (spell_all us ++ (amid (word Else) ++ (spell_all vs ++ after (word End)))) ≡ spell_all (ts ++ (us ++ (word Else ∷ (vs ++ (word End ∷ [])))))
text_present ts us vs h k m =
    let rest : List Part = vs ++ (word End ∷ []) in
    ap (λ (l : List ℕ). ahead ts ++ (spell_all us ++ (amid (word Else) ++ l))) (spell_after vs (word End) m)
    ∙ ap (λ (l : List ℕ). ahead ts ++ l) (spell_amid us (word Else) rest k (some_append vs (word End ∷ []) m))
    ∙ spell_ahead ts (us ++ (word Else ∷ rest)) h (some_append us (word Else ∷ rest) k)

-- two children and what joins them, in brackets
text_enclosed : (us : List Part) (t : Part) (vs : List Part) → Some us → Some vs
    → ahead (opening ∷ []) ++ (spell_all us ++ (amid t ++ (spell_all vs ++ after closing))) ≡ spell_all (enclosed (us ++ (t ∷ vs)))
unfolding enclosed Some
text_enclosed us t vs k m =
    let inner : List Part = us ++ (t ∷ vs) in
    let some : Some inner = some_append us (t ∷ vs) k in
    ap (λ (l : List ℕ). ahead (opening ∷ []) ++ (spell_all us ++ l)) (sym (append_assoc (amid t) (spell_all vs) (after closing)))
    ∙ ap (λ (l : List ℕ). ahead (opening ∷ []) ++ l) (sym (append_assoc (spell_all us) (amid t ++ spell_all vs) (after closing)))
    ∙ ap (λ (l : List ℕ). ahead (opening ∷ []) ++ (l ++ after closing)) (spell_amid us t vs k m)
    ∙ ap (λ (l : List ℕ). ahead (opening ∷ []) ++ l) (spell_after inner closing some)
    ∙ spell_ahead (opening ∷ []) (inner ++ (closing ∷ [])) tt (some_append inner (closing ∷ []) some)

-- and without
text_open : (us : List Part) (t : Part) (vs : List Part) → Some us → Some vs
    → spell_all us ++ (amid t ++ (spell_all vs ++ [])) ≡ spell_all (us ++ (t ∷ vs))
text_open us t vs k m = ap (λ (l : List ℕ). spell_all us ++ (amid t ++ l)) (append-nil (spell_all vs)) ∙ spell_amid us t vs k m

text_chain : (l : Level) (us vs : List Part) → Some us → Some vs
    → around_two l 7 0 (spell_all us) (spell_all vs) ≡ spell_all (chain_at l (us ++ (semicolon ∷ vs)))
unfolding around_two head_text between_text tail_text enclosed_at chain_at
text_chain single us vs k m = text_enclosed us semicolon vs k m
text_chain chain us vs k m = text_open us semicolon vs k m
text_chain whole us vs k m = text_open us semicolon vs k m

text_whole : (l : Level) (us vs : List Part) → Some us → Some vs
    → around_two l 8 0 (spell_all us) (spell_all vs) ≡ spell_all (whole_at l (us ++ (bars ∷ vs)))
unfolding around_two head_text between_text tail_text enclosed_at whole_at
text_whole single us vs k m = text_enclosed us bars vs k m
text_whole chain us vs k m = text_enclosed us bars vs k m
text_whole whole us vs k m = text_open us bars vs k m

-- ---- The text of a statement

text_parts : (l : Level) (p : Statement) → text_at l p ≡ spell_all (parts_at l p)
unfolding text_at parts_at leaf_text around_one around_two head_text between_text tail_text Some
text_parts l nothing = refl
text_parts l (pause n) = refl
text_parts l (gotopause n) = refl
text_parts l (emit S) = refl
text_parts l (exit d) = refl
text_parts l (signal S p) =
    ap (around_one l 5 S) (text_parts whole p) ∙ text_one (word Signal ∷ signal_of S ∷ word In ∷ []) (parts_at whole p) tt (some_parts whole p)
text_parts l (present S p q) =
    ap₂ (around_two l 6 S) (text_parts whole p) (text_parts whole q)
    ∙ text_present (word Present ∷ signal_of S ∷ word Then ∷ []) (parts_at whole p) (parts_at whole q) tt (some_parts whole p) (some_parts whole q)
text_parts l (sequence p q) =
    ap₂ (around_two l 7 0) (text_parts single p) (text_parts chain q) ∙ text_chain l (parts_at single p) (parts_at chain q) (some_parts single p) (some_parts chain q)
text_parts l (parallel p q) =
    ap₂ (around_two l 8 0) (text_parts chain p) (text_parts whole q) ∙ text_whole l (parts_at chain p) (parts_at whole q) (some_parts chain p) (some_parts whole q)
text_parts l (loop p) = ap (around_one l 9 0) (text_parts whole p) ∙ text_one (word Loop ∷ []) (parts_at whole p) tt (some_parts whole p)
text_parts l (try p) = ap (around_one l 10 0) (text_parts whole p) ∙ text_one (word Try ∷ []) (parts_at whole p) tt (some_parts whole p)

-- where anything may stand it is the text
pub text_whole_is : (p : Statement) → text_at whole p ≡ write_text p
unfolding write_text
text_whole_is p = text_parts whole p ∙ ap spell_all (parts_of_lem p)
