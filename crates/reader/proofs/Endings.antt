-- A text ends in a part: what it gives is what the text before gives with that part found, and a text that gives anything ends in one.
use Prim.Native.Nat.{ℕ}
use mathlib.Core.Path.{◌≡◌, refl, sym, ap, ◌∙◌, subst}
use mathlib.Core.Logic.{◌⊎◌, inl, inr}
use mathlib.Core.Bool.{Bool, true, false, cond, ◌||◌}
use mathlib.Core.Option.{Option, none, some}
use mathlib.Core.List.{List, [], ◌∷◌, ◌++◌, append_assoc, append-nil}
use lib.Dec.{eqb}
use Rattle.sets.proofs.Booleans.{by_cond, clash}
use Rattle.text.specs.Parts.{Part, word, number, signal_of, pause_at, semicolon, bars, opening, closing}
use Rattle.text.specs.Spelling.{spelling, first_of, last_of}
use Rattle.text.specs.inner.Lexer.{is_letter, part_of, Class, letter, blank, semi, bar, opens, closes, other, class_of, Lexing, at, Edge, edge, found, flushed, keep_letter, add_part, add_bar, add_blank, take, lex, all_of, finished, rest}
use Rattle.text.proofs.Decimal.{worded, Letters}
use Rattle.text.proofs.Spelling.{part_spelt, letters_part, nonempty_part, last_append}
use Rattle.text.proofs.Lexer.{Says, says, lex_append, flushed_letters, letters_run, at_letters, no_parts}
use Rattle.reader.specs.inner.Ending.{Ending}
use Rattle.reader.specs.inner.Blanks.{blank_byte}

-- ---- Behind a byte that is no letter

abbrev Plain : Class → Type 0
Plain letter = ⊥
Plain blank = Unit {0}
Plain semi = Unit {0}
Plain bar = Unit {0}
Plain opens = Unit {0}
Plain closes = Unit {0}
Plain other = Unit {0}

plain : (b : ℕ) → is_letter b ≡ false → Plain (class_of b)
unfolding class_of
plain b h = by_cond Plain (is_letter b) letter _ (λ e. clash e h) (λ e. go (eqb b 32 || eqb b 10) (eqb b 59) (eqb b 124) (eqb b 91) (eqb b 93))
  where
    go : (p q r s t : Bool) → Plain (cond p blank (cond q semi (cond r bar (cond s opens (cond t closes other)))))
    go true q r s t = tt
    go false true r s t = tt
    go false false true s t = tt
    go false false false true t = tt
    go false false false false true = tt
    go false false false false false = tt

-- such a byte looks only at the parts behind it
take_edge : (k : Class) (b : ℕ) (x y : Lexing) → Plain k → flushed x ≡ flushed y → take k b x ≡ take k b y
unfolding take
take_edge letter b x y h e = absurd h
take_edge blank b x y h e = ap add_blank e
take_edge semi b x y h e = ap (add_part semicolon) e
take_edge bar b x y h e = ap add_bar e
take_edge opens b x y h e = ap (add_part opening) e
take_edge closes b x y h e = ap (add_part closing) e
take_edge other b x y h e = refl

lex_edge : (b : ℕ) (v : List ℕ) (x y : Lexing) → is_letter (last_of (b ∷ v)) ≡ false → flushed x ≡ flushed y → lex (b ∷ v) x ≡ lex (b ∷ v) y
unfolding lex last_of
lex_edge b [] x y h e = take_edge (class_of b) b x y (plain b h) e
lex_edge b (c ∷ v) x y h e = ap (take (class_of b) b) (lex_edge c v x y h e)

finished_edge : (v : List ℕ) (x y : Lexing) → is_letter (last_of v) ≡ false → flushed x ≡ flushed y → finished x ≡ finished y → finished (lex v x) ≡ finished (lex v y)
unfolding lex
finished_edge [] x y h e f = f
finished_edge (b ∷ v) x y h e f = ap finished (lex_edge b v x y h e)

-- ---- With the part found

pub first_letter : (t : Part) → worded t ≡ true → is_letter (first_of (spelling t)) ≡ true
unfolding first_of
first_letter t h =
    let N = nonempty_part t in
    ap (λ (x : List ℕ). is_letter (first_of x)) N.shape ∙ (subst Letters N.shape (letters_part t h)).0

letters_read : (t : Part) (ts : List Part) (v : List ℕ) → worded t ≡ true → (is_letter (first_of (spelling t)) ≡ true → is_letter (last_of v) ≡ false)
    → finished (lex v (lex (spelling t) (at [] ts))) ≡ finished (lex v (at [] (t ∷ ts)))
unfolding finished flushed
letters_read t ts v h clear =
    let e : flushed (at (spelling t) ts) ≡ edge (t ∷ ts) = flushed_letters t ts h in
    ap (λ (x : Lexing). finished (lex v x)) (at_letters t ts h) ∙ finished_edge v (at (spelling t) ts) (at [] (t ∷ ts)) (clear (first_letter t h)) e (ap all_of e)

part_read : (t : Part) (ts : List Part) (v : List ℕ) → (is_letter (first_of (spelling t)) ≡ true → is_letter (last_of v) ≡ false)
    → finished (lex v (lex (spelling t) (at [] ts))) ≡ finished (lex v (at [] (t ∷ ts)))
unfolding lex take class_of is_letter spelling add_part add_bar flushed worded
part_read (word w) ts v clear = letters_read (word w) ts v refl clear
part_read (number m) ts v clear = letters_read (number m) ts v refl clear
part_read (signal_of m) ts v clear = letters_read (signal_of m) ts v refl clear
part_read (pause_at m) ts v clear = letters_read (pause_at m) ts v refl clear
part_read semicolon ts v clear = refl
part_read bars ts v clear = refl
part_read opening ts v clear = refl
part_read closing ts v clear = refl

-- a text that ends in a part gives what the text before it gives, with that part found
pub ending_rest : (u v : List ℕ) (t : Part) (ts : List Part) → Ending u v t → rest u ts ≡ rest v (t ∷ ts)
unfolding rest
ending_rest u v t ts E =
    ap (λ (x : List ℕ). finished (lex x (at [] ts))) E.spelt ∙ ap finished (lex_append v (spelling t) (at [] ts)) ∙ part_read t ts v E.clear

-- ---- Where something is found, the text ends in a part

pub record Ends (u : List ℕ) : Type 0 where
  pub before : List ℕ
  pub part : Part
  pub ending : Ending u before part

-- a list by its last byte
data Back : List ℕ → Type 0 where
  nil : Back []
  snoc : (v : List ℕ) (b : ℕ) → Back (v ++ (b ∷ []))

back : (u : List ℕ) → Back u
back [] = nil
back (b ∷ u) = go (back u)
  where
    go : {v : List ℕ} → Back v → Back (b ∷ v)
    go nil = snoc [] b
    go (snoc v c) = snoc (b ∷ v) c

-- the letters at the end of a text, as many as there are
record Run (u : List ℕ) : Type 0 where
  before : List ℕ
  letters : List ℕ
  shape : u ≡ before ++ letters
  all : Letters letters
  clear : is_letter (last_of before) ≡ false

run : (u : List ℕ) → Run u
unfolding last_of is_letter
run [] = record { before = []; letters = []; shape = refl; all = tt; clear = refl }
run (b ∷ u) = let R = run u in go R.before R.letters R.shape R.all R.clear (is_letter b) refl
  where
    go : (v ls : List ℕ) → u ≡ v ++ ls → Letters ls → is_letter (last_of v) ≡ false → (z : Bool) → is_letter b ≡ z → Run (b ∷ u)
    go [] ls e a h true f = record { before = []; letters = b ∷ ls; shape = ap (λ (x : List ℕ). b ∷ x) e; all = (f, a); clear = refl }
    go [] ls e a h false f = record { before = b ∷ []; letters = ls; shape = ap (λ (x : List ℕ). b ∷ x) e; all = a; clear = f }
    go (c ∷ v) ls e a h z f = record { before = b ∷ c ∷ v; letters = ls; shape = ap (λ (x : List ℕ). b ∷ x) e; all = a; clear = h }

-- what is broken stays so
take_broken : (k : Class) (b : ℕ) → take k b Lexing.broken ≡ Lexing.broken
unfolding take keep_letter flushed add_blank add_part add_bar
take_broken letter b = refl
take_broken blank b = refl
take_broken semi b = refl
take_broken bar b = refl
take_broken opens b = refl
take_broken closes b = refl
take_broken other b = refl

lex_broken : (v : List ℕ) → lex v Lexing.broken ≡ Lexing.broken
unfolding lex
lex_broken [] = refl
lex_broken (b ∷ v) = ap (take (class_of b) b) (lex_broken v) ∙ take_broken (class_of b) b

none_broken : {A : Type 0} (v : List ℕ) (vs : List Part) → finished (lex v Lexing.broken) ≡ some vs → A
unfolding finished
none_broken v vs e = no_parts vs (sym (ap finished (lex_broken v)) ∙ e)

-- letters at the end, as many as there are, are a part
letters_found : (v : List ℕ) (c : ℕ) (cs : List ℕ) (ts vs : List Part) → is_letter (last_of v) ≡ false → finished (lex v (at (c ∷ cs) ts)) ≡ some vs → (t : Part) × (part_of (c ∷ cs) ≡ some t)
unfolding finished flushed found all_of
letters_found v c cs ts vs h e = go (part_of (c ∷ cs)) refl
  where
    go : (r : Option Part) → part_of (c ∷ cs) ≡ r → (t : Part) × (part_of (c ∷ cs) ≡ some t)
    go none f =
        let g : flushed (at (c ∷ cs) ts) ≡ Edge.broken = ap (λ (r : Option Part). found r ts) f in
        none_broken v vs (sym (finished_edge v (at (c ∷ cs) ts) Lexing.broken h g (ap all_of g)) ∙ e)
    go (some t) f = (t, f)

-- one bar is behind another
bars_end : (v : List ℕ) (ts vs : List Part) → Back v → finished (lex v (Lexing.half ts)) ≡ some vs → Ends (v ++ (124 ∷ []))
unfolding lex finished take keep_letter flushed add_blank add_part spelling first_of is_letter
bars_end v ts vs nil e = no_parts vs e
bars_end v ts vs (snoc w b) e = go (class_of b) (says b) (sym (ap finished (lex_append w (b ∷ []) (Lexing.half ts))) ∙ e)
  where
    go : (k : Class) → Says k b → finished (lex w (take k b (Lexing.half ts))) ≡ some vs → Ends ((w ++ (b ∷ [])) ++ (124 ∷ []))
    go letter s f = none_broken w vs f
    go blank s f = none_broken w vs f
    go semi s f = none_broken w vs f
    go bar s f =
        record { before = w; part = bars; ending = record { spelt = append_assoc w (b ∷ []) (124 ∷ []) ∙ ap (λ (x : ℕ). w ++ (x ∷ 124 ∷ [])) s; clear = λ e. clash e refl } }
    go opens s f = none_broken w vs f
    go closes s f = none_broken w vs f
    go other s f = none_broken w vs f

plain_end : (v : List ℕ) (b : ℕ) (ts vs : List Part) → (k : Class) → Says k b → Plain k → finished (lex v (take k b (at [] ts))) ≡ some vs → ((b ≡ 32) ⊎ (b ≡ 10) → ts ≡ []) → Ends (v ++ (b ∷ []))
unfolding take flushed add_blank add_part add_bar spelling first_of is_letter
plain_end v b ts vs letter s p e h = absurd p
plain_end v b ts vs blank s p e h = none_broken v vs (sym (ap (λ (x : List Part). finished (lex v (add_blank (edge x)))) (h s)) ∙ e)
plain_end v b ts vs semi s p e h = record { before = v; part = semicolon; ending = record { spelt = ap (λ (x : ℕ). v ++ (x ∷ [])) s; clear = λ e. clash e refl } }
plain_end v b ts vs bar s p e h = subst (λ (x : ℕ). Ends (v ++ (x ∷ []))) (sym s) (bars_end v ts vs (back v) e)
plain_end v b ts vs opens s p e h = record { before = v; part = opening; ending = record { spelt = ap (λ (x : ℕ). v ++ (x ∷ [])) s; clear = λ e. clash e refl } }
plain_end v b ts vs closes s p e h = record { before = v; part = closing; ending = record { spelt = ap (λ (x : ℕ). v ++ (x ∷ [])) s; clear = λ e. clash e refl } }
plain_end v b ts vs other s p e h = none_broken v vs e

blank_byte_lem : (b : ℕ) → (b ≡ 32) ⊎ (b ≡ 10) → blank_byte b ≡ true
unfolding blank_byte
blank_byte_lem b (inl e) = ap blank_byte e
blank_byte_lem b (inr e) = ap blank_byte e

-- where something is found, the text ends in a part
pub rest_ends : (u : List ℕ) (ts vs : List Part) → rest u ts ≡ some vs → (blank_byte (last_of u) ≡ true → ts ≡ []) → (u ≡ []) ⊎ Ends u
unfolding rest lex last_of
rest_ends u ts vs e h = let R = run u in go R.before R.letters R.shape R.all R.clear
  where
    last : {u : List ℕ} → Back u → finished (lex u (at [] ts)) ≡ some vs → (blank_byte (last_of u) ≡ true → ts ≡ []) → is_letter (last_of u) ≡ false → (u ≡ []) ⊎ Ends u
    last nil e h p = inl refl
    last (snoc v b) e h p =
        let l : last_of (v ++ (b ∷ [])) ≡ b = last_append v b [] in
        inr (plain_end v b ts vs (class_of b) (says b) (plain b (subst (λ (x : ℕ). is_letter x ≡ false) l p)) (sym (ap finished (lex_append v (b ∷ []) (at [] ts))) ∙ e)
        (λ s. h (ap blank_byte l ∙ blank_byte_lem b s)))

    go : (v ls : List ℕ) → u ≡ v ++ ls → Letters ls → is_letter (last_of v) ≡ false → (u ≡ []) ⊎ Ends u
    go v [] f a p = last (back u) e h (ap (λ (x : List ℕ). is_letter (last_of x)) (f ∙ append-nil v) ∙ p)
    go v (c ∷ cs) f a p =
        let g : lex u (at [] ts) ≡ lex v (at (c ∷ cs) ts) = ap (λ (x : List ℕ). lex x (at [] ts)) f ∙ lex_append v (c ∷ cs) (at [] ts) ∙ ap (lex v) (letters_run (c ∷ cs) [] ts a ∙ ap (λ (x : List ℕ). at x ts) (append-nil (c ∷ cs))) in
        let (t, q) = letters_found v c cs ts vs p (sym (ap finished g) ∙ e) in
        inr (record { before = v; part = t; ending = record { spelt = f ∙ ap (λ (x : List ℕ). v ++ x) (part_spelt (c ∷ cs) t q).is; clear = λ z. p } })

-- the last byte of the text is the last of the part
pub ending_last : (u v : List ℕ) (t : Part) → Ending u v t → last_of u ≡ last_of (spelling t)
ending_last u v t E =
    let N = nonempty_part t in
    ap last_of E.spelt ∙ ap (λ (x : List ℕ). last_of (v ++ x)) N.shape ∙ last_append v N.first N.rest ∙ sym (ap last_of N.shape)
