-- The grammar of a statement text, over its parts. Numbers are of any size here: their ranges are refusal 19's.
use Rattle.std.specs.Prelude.{ℕ, suc, ◌≡◌, List, [], ◌∷◌, ◌++◌}
use Rattle.esterel.specs.Statement.{Statement}
use Rattle.text.specs.Parts.{Nothing, Gotopause, Emit, Exit, Signal, In, End, Present, Then, Else, Loop, Try, Part, word, number, signal_of, pause_at, semicolon, bars, opening, closing}

-- "`;` binds tighter than `||`, both group to the right": a single statement, singles joined by `;`, such chains joined by `||`
pub data Level : Type 0 where
  single chain whole : Level

-- Text l n ts p: ts is the text of p at the level l, with at most n brackets and statements closed by `end` inside one another
pub data Text : Level → ℕ → List Part → Statement → Type 0 where
  nothing : {n : ℕ} {ts : List Part} → ts ≡ word Nothing ∷ [] → Text single n ts Statement.nothing
  pause : {n l : ℕ} {ts : List Part} → ts ≡ pause_at l ∷ [] → Text single n ts (Statement.pause l)
  gotopause : {n l : ℕ} {ts : List Part} → ts ≡ word Gotopause ∷ number l ∷ [] → Text single n ts (Statement.gotopause l)
  signal : {n S : ℕ} {p : Statement} {ts : List Part} (us : List Part) → Text whole n us p
      → ts ≡ word Signal ∷ signal_of S ∷ word In ∷ (us ++ (word End ∷ [])) → Text single (suc n) ts (Statement.signal S p)
  emit : {n S : ℕ} {ts : List Part} → ts ≡ word Emit ∷ signal_of S ∷ [] → Text single n ts (Statement.emit S)
  present : {n S : ℕ} {p q : Statement} {ts : List Part} (us vs : List Part) → Text whole n us p → Text whole n vs q
      → ts ≡ word Present ∷ signal_of S ∷ word Then ∷ (us ++ (word Else ∷ (vs ++ (word End ∷ [])))) → Text single (suc n) ts (Statement.present S p q)
  -- "either branch or both may be omitted together with its word and is then nothing"
  present_then : {n S : ℕ} {p : Statement} {ts : List Part} (us : List Part) → Text whole n us p
      → ts ≡ word Present ∷ signal_of S ∷ word Then ∷ (us ++ (word End ∷ [])) → Text single (suc n) ts (Statement.present S p Statement.nothing)
  present_else : {n S : ℕ} {q : Statement} {ts : List Part} (vs : List Part) → Text whole n vs q
      → ts ≡ word Present ∷ signal_of S ∷ word Else ∷ (vs ++ (word End ∷ [])) → Text single (suc n) ts (Statement.present S Statement.nothing q)
  present_bare : {n S : ℕ} {ts : List Part} → ts ≡ word Present ∷ signal_of S ∷ word End ∷ []
      → Text single (suc n) ts (Statement.present S Statement.nothing Statement.nothing)
  sequence : {n : ℕ} {p q : Statement} {ts : List Part} (us vs : List Part) → Text single n us p → Text chain n vs q
      → ts ≡ us ++ (semicolon ∷ vs) → Text chain n ts (Statement.sequence p q)
  parallel : {n : ℕ} {p q : Statement} {ts : List Part} (us vs : List Part) → Text chain n us p → Text whole n vs q
      → ts ≡ us ++ (bars ∷ vs) → Text whole n ts (Statement.parallel p q)
  loop : {n : ℕ} {p : Statement} {ts : List Part} (us : List Part) → Text whole n us p
      → ts ≡ word Loop ∷ (us ++ (word End ∷ [])) → Text single (suc n) ts (Statement.loop p)
  try : {n : ℕ} {p : Statement} {ts : List Part} (us : List Part) → Text whole n us p
      → ts ≡ word Try ∷ (us ++ (word End ∷ [])) → Text single (suc n) ts (Statement.try p)
  exit : {n d : ℕ} {ts : List Part} → ts ≡ word Exit ∷ number d ∷ [] → Text single n ts (Statement.exit d)
  -- "square brackets override"
  brackets : {n : ℕ} {p : Statement} {ts : List Part} (us : List Part) → Text whole n us p
      → ts ≡ opening ∷ (us ++ (closing ∷ [])) → Text single (suc n) ts p
  -- a text of a tighter level is one of a looser level
  one_chain : {n : ℕ} {p : Statement} {ts : List Part} → Text single n ts p → Text chain n ts p
  one_whole : {n : ℕ} {p : Statement} {ts : List Part} → Text chain n ts p → Text whole n ts p

-- "Brackets and statements closed by `end`, counted together, stand at most 60 deep"
abbrev pub deepest_open : ℕ
deepest_open = 60

-- the parts are the text of the statement
abbrev pub IsText : List Part → Statement → Type 0
IsText ts p = Text whole deepest_open ts p
