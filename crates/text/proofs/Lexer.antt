-- The parts of a text: found exactly where the bytes are those parts, spelled.
use Prim.Native.Nat.{ℕ}
use mathlib.Core.Path.{◌≡◌, refl, sym, ap, ◌∙◌, subst}
use mathlib.Core.Logic.{◌⊎◌, inl, inr, ◌≢◌}
use mathlib.Core.Bool.{Bool, true, false, cond, ◌&&◌, ◌||◌, true≢false}
use mathlib.Core.Option.{Option, none, some, some-injective, none-ne-some}
use mathlib.Core.List.{List, [], ◌∷◌, ◌++◌, append-nil}
use native.Mathlib.Omega.{arith}
use lib.Dec.{eqb}
use borrow.Author.Tests.{eqb-true}
use Rattle.sets.proofs.Booleans.{and_cases, by_cond, or_cases, clash}
use Rattle.text.specs.Parts.{Part, word, number, signal_of, pause_at, semicolon, bars, opening, closing}
use Rattle.text.specs.Spelling.{spelling, Blanks, Gap, Spelled, more}
use Rattle.text.specs.Writing.{spell_all}
use Rattle.text.specs.inner.Lexer.{is_letter, part_of, Class, letter, blank, semi, bar, opens, closes, other, class_of, Lexing, at, spaced, Edge, edge, found, flushed, keep_letter, add_part, add_bar, add_blank, take, lex, all_of, finished, rest, parts_in}
use Rattle.text.proofs.Decimal.{worded, Letters}
use Rattle.text.proofs.Spelling.{meet_worded, part_spelt, part_found, letters_part, nonempty_part}

-- ---- Classes of bytes

abbrev pub Says : Class → ℕ → Type 0
Says letter b = Unit {0}
Says blank b = (b ≡ 32) ⊎ (b ≡ 10)
Says semi b = b ≡ 59
Says bar b = b ≡ 124
Says opens b = b ≡ 91
Says closes b = b ≡ 93
Says other b = Unit {0}

pub says : (b : ℕ) → Says (class_of b) b
unfolding class_of
says b =
    by_cond (λ (k : Class). Says k b) (is_letter b) letter after_letter (λ e. tt)
    (λ e. by_cond (λ (k : Class). Says k b) (eqb b 32 || eqb b 10) blank after_blank (λ f. which (or_cases (eqb b 32) (eqb b 10) f))
    (λ f. by_cond (λ (k : Class). Says k b) (eqb b 59) semi after_semi (λ g. eqb-true b 59 g)
    (λ g. by_cond (λ (k : Class). Says k b) (eqb b 124) bar after_bar (λ h. eqb-true b 124 h)
    (λ h. by_cond (λ (k : Class). Says k b) (eqb b 91) opens after_open (λ i. eqb-true b 91 i)
    (λ i. by_cond (λ (k : Class). Says k b) (eqb b 93) closes other (λ j. eqb-true b 93 j) (λ j. tt))))))
  where
    after_open : Class
    after_open = cond (eqb b 93) closes other

    after_bar : Class
    after_bar = cond (eqb b 91) opens after_open

    after_semi : Class
    after_semi = cond (eqb b 124) bar after_bar

    after_blank : Class
    after_blank = cond (eqb b 59) semi after_semi

    after_letter : Class
    after_letter = cond (eqb b 32 || eqb b 10) blank after_blank

    which : (eqb b 32 ≡ true) ⊎ (eqb b 10 ≡ true) → (b ≡ 32) ⊎ (b ≡ 10)
    which (inl e) = inl (eqb-true b 32 e)
    which (inr e) = inr (eqb-true b 10 e)

class_letter : (b : ℕ) → is_letter b ≡ true → class_of b ≡ letter
unfolding class_of
class_letter b e = rw e

pub class_blank : (b : ℕ) → (b ≡ 32) ⊎ (b ≡ 10) → class_of b ≡ blank
unfolding class_of is_letter
class_blank b (inl e) = ap class_of e
class_blank b (inr e) = ap class_of e

-- ---- What is found is spelled so

-- what may stand before the parts ts, behind letters that are not yet a part; behind a part that is no word
abbrev Ready : List Part → List ℕ → Type 0
Ready [] gap = gap ≡ []
Ready (u ∷ ts) gap = Blanks gap × (worded u ≡ true → gap ≢ [])

abbrev Loose : List Part → List ℕ → Type 0
Loose [] gap = gap ≡ []
Loose (u ∷ ts) gap = Blanks gap

abbrev Flat : List ℕ → List ℕ → Type 0
Flat [] gap = gap ≡ []
Flat (c ∷ cs) gap = Unit {0}

record AtHolds (cs : List ℕ) (ts : List Part) (bs : List ℕ) : Type 0 where
  gap : List ℕ
  rest : List ℕ
  bytes : bs ≡ cs ++ (gap ++ rest)
  ready : Ready ts gap
  flat : Flat cs gap
  spelled : Spelled rest ts

record LooseHolds (cs : List ℕ) (ts : List Part) (bs : List ℕ) : Type 0 where
  gap : List ℕ
  rest : List ℕ
  bytes : bs ≡ cs ++ (gap ++ rest)
  loose : Loose ts gap
  spelled : Spelled rest ts

record SpacedHolds (ts : List Part) (bs : List ℕ) : Type 0 where
  gap : List ℕ
  rest : List ℕ
  bytes : bs ≡ gap ++ rest
  ready : Ready ts gap
  spelled : Spelled rest ts

abbrev Holds : Lexing → List ℕ → Type 0
Holds Lexing.broken bs = Unit {0}
Holds (at cs ts) bs = AtHolds cs ts bs
Holds (spaced ts) bs = SpacedHolds ts bs
Holds (Lexing.half ts) bs = LooseHolds (124 ∷ []) ts bs

abbrev EdgeHolds : Edge → List ℕ → Type 0
EdgeHolds Edge.broken bs = Unit {0}
EdgeHolds (edge ts) bs = LooseHolds [] ts bs
EdgeHolds (Edge.half ts) bs = LooseHolds (124 ∷ []) ts bs

loosened : (ts : List Part) (gap : List ℕ) → Ready ts gap → Loose ts gap
loosened [] gap h = h
loosened (u ∷ ts) gap h = h.0

-- a part before what may stand before the parts behind it
gap_ready : (t : Part) (ts : List Part) (gap : List ℕ) → Ready ts gap → Gap t ts gap
gap_ready t [] gap h = h
gap_ready t (u ∷ ts) gap h = (h.0, λ e. h.1 (and_cases (worded t) (worded u) (sym (meet_worded t u) ∙ e)).1)

gap_loose : (t : Part) (ts : List Part) (gap : List ℕ) → worded t ≡ false → Loose ts gap → Gap t ts gap
gap_loose t [] gap f h = h
gap_loose t (u ∷ ts) gap f h = (h, λ e. absurd (true≢false (sym e ∙ meet_worded t u ∙ ap (λ (z : Bool). z && worded u) f)))

-- letters that are a part
whole_part : (c : ℕ) (cs : List ℕ) (ts : List Part) (bs : List ℕ) (t : Part) → AtHolds (c ∷ cs) ts bs → part_of (c ∷ cs) ≡ some t → Spelled bs (t ∷ ts)
whole_part c cs ts bs t h e =
    let s = part_spelt (c ∷ cs) t e in
    more h.gap h.rest (gap_ready t ts h.gap h.ready) h.spelled (h.bytes ∙ ap (λ (x : List ℕ). x ++ (h.gap ++ h.rest)) s.is)

edge_whole : (t : Part) (ts : List Part) (bs : List ℕ) → Spelled bs (t ∷ ts) → LooseHolds [] (t ∷ ts) bs
unfolding Blanks
edge_whole t ts bs s = record { gap = []; rest = bs; bytes = refl; loose = tt; spelled = s }

found_holds : (r : Option Part) (ts : List Part) (bs : List ℕ) → ((t : Part) → r ≡ some t → Spelled bs (t ∷ ts)) → EdgeHolds (found r ts) bs
unfolding found
found_holds none ts bs f = tt
found_holds (some t) ts bs f = edge_whole t ts bs (f t refl)

flushed_holds : (x : Lexing) (bs : List ℕ) → Holds x bs → EdgeHolds (flushed x) bs
unfolding flushed
flushed_holds Lexing.broken bs h = tt
flushed_holds (at [] ts) bs h = record { gap = h.gap; rest = h.rest; bytes = h.bytes; loose = loosened ts h.gap h.ready; spelled = h.spelled }
flushed_holds (at (c ∷ cs) ts) bs h = found_holds (part_of (c ∷ cs)) ts bs (λ t e. whole_part c cs ts bs t h e)
flushed_holds (spaced ts) bs h = record { gap = h.gap; rest = h.rest; bytes = h.bytes; loose = loosened ts h.gap h.ready; spelled = h.spelled }
flushed_holds (Lexing.half ts) bs h = h

-- a part that is no word stands there, spelled
plain_part : (t : Part) (ts : List Part) (bs : List ℕ) → worded t ≡ false → Spelled bs (t ∷ ts) → AtHolds [] (t ∷ ts) bs
unfolding Blanks
plain_part t ts bs f s = record { gap = []; rest = bs; bytes = refl; ready = (tt, λ e. clash e f); flat = refl; spelled = s }

add_holds : (t : Part) (b : ℕ) (x : Edge) (bs : List ℕ) → worded t ≡ false → b ∷ [] ≡ spelling t → EdgeHolds x bs → Holds (add_part t x) (b ∷ bs)
unfolding add_part
add_holds t b Edge.broken bs f e h = tt
add_holds t b (edge ts) bs f e h =
    plain_part t ts (b ∷ bs) f
    (more h.gap h.rest (gap_loose t ts h.gap f h.loose) h.spelled (ap (λ (x : List ℕ). b ∷ x) h.bytes ∙ ap (λ (x : List ℕ). x ++ (h.gap ++ h.rest)) e))
add_holds t b (Edge.half ts) bs f e h = tt

bar_holds : (x : Edge) (bs : List ℕ) → EdgeHolds x bs → Holds (add_bar x) (124 ∷ bs)
unfolding add_bar spelling worded
bar_holds Edge.broken bs h = tt
bar_holds (edge ts) bs h = record { gap = h.gap; rest = h.rest; bytes = ap (λ (x : List ℕ). 124 ∷ x) h.bytes; loose = h.loose; spelled = h.spelled }
bar_holds (Edge.half ts) bs h =
    plain_part bars ts (124 ∷ bs) refl (more h.gap h.rest (gap_loose bars ts h.gap refl h.loose) h.spelled (ap (λ (x : List ℕ). 124 ∷ x) h.bytes))

blank_holds : (b : ℕ) (x : Edge) (bs : List ℕ) → (b ≡ 32) ⊎ (b ≡ 10) → EdgeHolds x bs → Holds (add_blank x) (b ∷ bs)
unfolding add_blank Blanks
blank_holds b Edge.broken bs s h = tt
blank_holds b (edge []) bs s h = tt
blank_holds b (edge (t ∷ ts)) bs s h =
    record {
      gap = b ∷ h.gap;
      rest = h.rest;
      bytes = ap (λ (x : List ℕ). b ∷ x) h.bytes;
      ready = ((s, h.loose), λ e q. let z : ◌≡◌ {A = ℕ} 0 1 = cc in omega arith);
      spelled = h.spelled;
    }
blank_holds b (Edge.half ts) bs s h = tt

letter_holds : (b : ℕ) (x : Lexing) (bs : List ℕ) → Holds x bs → Holds (keep_letter b x) (b ∷ bs)
unfolding keep_letter
letter_holds b Lexing.broken bs h = tt
letter_holds b (at cs ts) bs h = record { gap = h.gap; rest = h.rest; bytes = ap (λ (x : List ℕ). b ∷ x) h.bytes; ready = h.ready; flat = tt; spelled = h.spelled }
letter_holds b (spaced ts) bs h = record { gap = h.gap; rest = h.rest; bytes = ap (λ (x : List ℕ). b ∷ x) h.bytes; ready = h.ready; flat = tt; spelled = h.spelled }
letter_holds b (Lexing.half ts) bs h = tt

take_holds : (k : Class) (b : ℕ) (x : Lexing) (bs : List ℕ) → Says k b → Holds x bs → Holds (take k b x) (b ∷ bs)
unfolding take worded spelling
take_holds letter b x bs s h = letter_holds b x bs h
take_holds blank b x bs s h = blank_holds b (flushed x) bs s (flushed_holds x bs h)
take_holds semi b x bs s h = add_holds semicolon b (flushed x) bs refl (ap (λ (c : ℕ). c ∷ []) s) (flushed_holds x bs h)
take_holds bar b x bs s h = subst (λ (c : ℕ). Holds (add_bar (flushed x)) (c ∷ bs)) (sym s) (bar_holds (flushed x) bs (flushed_holds x bs h))
take_holds opens b x bs s h = add_holds opening b (flushed x) bs refl (ap (λ (c : ℕ). c ∷ []) s) (flushed_holds x bs h)
take_holds closes b x bs s h = add_holds closing b (flushed x) bs refl (ap (λ (c : ℕ). c ∷ []) s) (flushed_holds x bs h)
take_holds other b x bs s h = tt

lex_holds : (bs : List ℕ) → Holds (lex bs (at [] [])) bs
unfolding lex
lex_holds [] = record { gap = []; rest = []; bytes = refl; ready = refl; flat = refl; spelled = Spelled.none refl }
lex_holds (b ∷ bs) = take_holds (class_of b) b (lex bs (at [] [])) bs (says b) (lex_holds bs)

pub no_parts : {A : Type 0} (ts : List Part) → ◌≡◌ {A = Option (List Part)} none (some ts) → A
no_parts ts e = absurd (none-ne-some ts e)

parts_same : {bs : List ℕ} (ts us : List Part) → ◌≡◌ {A = Option (List Part)} (some ts) (some us) → Spelled bs ts → Spelled bs us
parts_same {bs} ts us e s = subst (λ (x : List Part). Spelled bs x) (some-injective ts us e) s

found_whole : (r : Option Part) (ts us : List Part) (bs : List ℕ) → ((t : Part) → r ≡ some t → Spelled bs (t ∷ ts)) → all_of (found r ts) ≡ some us → Spelled bs us
unfolding found all_of
found_whole none ts us bs f e = no_parts us e
found_whole (some t) ts us bs f e = parts_same (t ∷ ts) us e (f t refl)

finished_spelled : (x : Lexing) (bs : List ℕ) (us : List Part) → Holds x bs → finished x ≡ some us → Spelled bs us
unfolding finished flushed all_of
finished_spelled Lexing.broken bs us h e = no_parts us e
finished_spelled (at [] ts) bs us h e = parts_same ts us e (subst (λ (x : List ℕ). Spelled x ts) (sym (h.bytes ∙ ap (λ (x : List ℕ). x ++ h.rest) h.flat)) h.spelled)
finished_spelled (at (c ∷ cs) ts) bs us h e = found_whole (part_of (c ∷ cs)) ts us bs (λ t f. whole_part c cs ts bs t h f) e
finished_spelled (spaced ts) bs us h e = no_parts us e
finished_spelled (Lexing.half ts) bs us h e = no_parts us e

pub parts_spelled : (bs : List ℕ) (ts : List Part) → parts_in bs ≡ some ts → Spelled bs ts
unfolding parts_in rest
parts_spelled bs ts e = finished_spelled (lex bs (at [] [])) bs ts (lex_holds bs) e

-- ---- What is spelled so is found

pub lex_append : (bs cs : List ℕ) (x : Lexing) → lex (bs ++ cs) x ≡ lex bs (lex cs x)
unfolding lex
lex_append [] cs x = refl
lex_append (b ∷ bs) cs x = ap (take (class_of b) b) (lex_append bs cs x)

-- the state before parts that were all found
state_of : List Part → Lexing
state_of [] = at [] []
state_of (u ∷ ts) = cond (worded u) (at (spelling u) ts) (at [] (u ∷ ts))

state_word : (u : Part) (ts : List Part) → worded u ≡ true → state_of (u ∷ ts) ≡ at (spelling u) ts
unfolding state_of
state_word u ts e = ap (λ (z : Bool). cond z (at (spelling u) ts) (at [] (u ∷ ts))) e

state_plain : (u : Part) (ts : List Part) → worded u ≡ false → state_of (u ∷ ts) ≡ at [] (u ∷ ts)
unfolding state_of
state_plain u ts e = ap (λ (z : Bool). cond z (at (spelling u) ts) (at [] (u ∷ ts))) e

pub flushed_letters : (t : Part) (ts : List Part) → worded t ≡ true → flushed (at (spelling t) ts) ≡ edge (t ∷ ts)
unfolding flushed found
flushed_letters t ts h =
    let N = nonempty_part t in
    ap (λ (x : List ℕ). flushed (at x ts)) N.shape ∙ sym (ap (λ (x : List ℕ). found (part_of x) ts) N.shape) ∙ ap (λ (r : Option Part). found r ts) (part_found t h)

flushed_state : (ts : List Part) → flushed (state_of ts) ≡ edge ts
unfolding flushed state_of
flushed_state [] = refl
flushed_state (u ∷ ts) = go (worded u) refl
  where
    go : (z : Bool) → worded u ≡ z → flushed (cond (worded u) (at (spelling u) ts) (at [] (u ∷ ts))) ≡ edge (u ∷ ts)
    go true e = ap flushed (state_word u ts e) ∙ flushed_letters u ts e
    go false e = ap flushed (state_plain u ts e)

-- blanks before parts
gap_runs : (gap : List ℕ) (b : ℕ) (u : Part) (ts : List Part) → Blanks (b ∷ gap) → lex (b ∷ gap) (state_of (u ∷ ts)) ≡ spaced (u ∷ ts)
unfolding lex Blanks take flushed add_blank
gap_runs [] b u ts h =
    ap (λ (k : Class). take k b (state_of (u ∷ ts))) (class_blank b h.0) ∙ ap add_blank (flushed_state (u ∷ ts))
gap_runs (c ∷ gap) b u ts h =
    ap (λ (k : Class). take k b (lex (c ∷ gap) (state_of (u ∷ ts)))) (class_blank b h.0) ∙ ap (λ (x : Lexing). add_blank (flushed x)) (gap_runs gap c u ts h.1)

pub letters_run : (bs ds : List ℕ) (ts : List Part) → Letters bs → lex bs (at ds ts) ≡ at (bs ++ ds) ts
unfolding lex take keep_letter
letters_run [] ds ts h = refl
letters_run (b ∷ bs) ds ts h =
    ap (λ (k : Class). take k b (lex bs (at ds ts))) (class_letter b h.0) ∙ ap (keep_letter b) (letters_run bs ds ts h.1)

spaced_run : (bs : List ℕ) (b : ℕ) (ts : List Part) → Letters (b ∷ bs) → lex (b ∷ bs) (spaced ts) ≡ at (b ∷ bs) ts
unfolding lex take keep_letter
spaced_run [] b ts h = ap (λ (k : Class). take k b (spaced ts)) (class_letter b h.0)
spaced_run (c ∷ bs) b ts h =
    ap (λ (k : Class). take k b (lex (c ∷ bs) (spaced ts))) (class_letter b h.0) ∙ ap (keep_letter b) (spaced_run bs c ts h.1)

-- the state before the parts ts and what may stand before them behind t
record Before (t : Part) (ts : List Part) (x : Lexing) : Type 0 where
  edged : flushed x ≡ edge ts
  lettered : worded t ≡ true → lex (spelling t) x ≡ at (spelling t) ts

pub at_letters : (t : Part) (ts : List Part) → worded t ≡ true → lex (spelling t) (at [] ts) ≡ at (spelling t) ts
at_letters t ts h = letters_run (spelling t) [] ts (letters_part t h) ∙ ap (λ (x : List ℕ). at x ts) (append-nil (spelling t))

spaced_letters : (t : Part) (ts : List Part) → worded t ≡ true → lex (spelling t) (spaced ts) ≡ at (spelling t) ts
spaced_letters t ts h =
    let N = nonempty_part t in
    ap (λ (x : List ℕ). lex x (spaced ts)) N.shape
    ∙ spaced_run N.rest N.first ts (subst Letters N.shape (letters_part t h))
    ∙ sym (ap (λ (x : List ℕ). at x ts) N.shape)

before : (t : Part) (ts : List Part) (gap : List ℕ) → Gap t ts gap → Before t ts (lex gap (state_of ts))
unfolding lex
before t [] gap g =
    subst (λ (x : List ℕ). Before t [] (lex x (state_of []))) (sym g)
    (record { edged = flushed_state []; lettered = unfold state_of in (λ h. at_letters t [] h) })
before t (u ∷ ts) [] g =
    record {
      edged = flushed_state (u ∷ ts);
      lettered = λ h. go h (worded u) refl;
    }
  where
    go : worded t ≡ true → (z : Bool) → worded u ≡ z → lex (spelling t) (state_of (u ∷ ts)) ≡ at (spelling t) (u ∷ ts)
    go h true e = absurd (g.1 (meet_worded t u ∙ ap (λ (z : Bool). z && worded u) h ∙ e) refl)
    go h false e = ap (lex (spelling t)) (state_plain u ts e) ∙ at_letters t (u ∷ ts) h
before t (u ∷ ts) (b ∷ gap) g =
    let e = gap_runs gap b u ts g.0 in
    record {
      edged = unfold flushed in (ap flushed e);
      lettered = λ h. ap (lex (spelling t)) e ∙ spaced_letters t (u ∷ ts) h;
    }

-- a part before it
part_runs : (t : Part) (ts : List Part) (x : Lexing) → Before t ts x → lex (spelling t) x ≡ state_of (t ∷ ts)
unfolding lex take class_of is_letter spelling worded state_of add_part add_bar flushed
part_runs (word w) ts x h = h.lettered refl
part_runs (number n) ts x h = h.lettered refl
part_runs (signal_of S) ts x h = h.lettered refl
part_runs (pause_at l) ts x h = h.lettered refl
part_runs semicolon ts x h = ap (add_part semicolon) h.edged
part_runs bars ts x h = ap (λ (e : Edge). add_bar (flushed (add_bar e))) h.edged
part_runs opening ts x h = ap (add_part opening) h.edged
part_runs closing ts x h = ap (add_part closing) h.edged

spelled_lexes : {bs : List ℕ} {ts : List Part} → Spelled bs ts → lex bs (at [] []) ≡ state_of ts
unfolding lex state_of
spelled_lexes (Spelled.none e) = rw e
spelled_lexes (more {t = t} {ts = ts} gap rest g s e) =
    ap (λ (x : List ℕ). lex x (at [] [])) e ∙ lex_append (spelling t) (gap ++ rest) (at [] []) ∙ ap (lex (spelling t)) (lex_append gap rest (at [] []) ∙ ap (lex gap) (spelled_lexes s))
    ∙ part_runs t ts (lex gap (state_of ts)) (before t ts gap g)

finished_state : (ts : List Part) → finished (state_of ts) ≡ some ts
unfolding finished all_of flushed state_of
finished_state [] = refl
finished_state (u ∷ ts) = go (worded u) refl
  where
    go : (z : Bool) → worded u ≡ z → finished (cond (worded u) (at (spelling u) ts) (at [] (u ∷ ts))) ≡ some (u ∷ ts)
    go true e = ap finished (state_word u ts e) ∙ ap all_of (flushed_letters u ts e)
    go false e = ap finished (state_plain u ts e)

pub parts_found : {bs : List ℕ} {ts : List Part} → Spelled bs ts → parts_in bs ≡ some ts
unfolding parts_in rest
parts_found {ts = ts} s = ap finished (spelled_lexes s) ∙ finished_state ts

-- with one space between any two, parts are spelled
pub spelled_all : (ts : List Part) → Spelled (spell_all ts) ts
unfolding spell_all Blanks
spelled_all [] = Spelled.none refl
spelled_all (t ∷ []) = more {ts = []} [] [] refl (Spelled.none refl) (sym (append-nil (spelling t)))
spelled_all (t ∷ u ∷ ts) =
    let g : Gap t (u ∷ ts) (32 ∷ []) = ((inl refl, tt), λ e q. let z : ◌≡◌ {A = ℕ} 0 1 = cc in omega arith) in
    more (32 ∷ []) (spell_all (u ∷ ts)) g (spelled_all (u ∷ ts)) refl
