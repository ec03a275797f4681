-- The lettered cases of document 01, A to L, in its order and words. That all of it holds is one theorem (proofs/Cases).
use Rattle.std.specs.Prelude.{ℕ, ◌≡◌, ◌≢◌, Bool, true, false, List, [], ◌∷◌}
use Rattle.sets.specs.Set.{only, ◌union◌}
use Rattle.esterel.specs.Statement.{Statement, nothing, pause, gotopause, emit, exit, signal, present, sequence, parallel, loop, try, size}
use Rattle.esterel.specs.Codes.{Codes, s, d}
use Rattle.esterel.specs.Reachability.{reach}
use Rattle.esterel.specs.Trimming.{trimmed}
use Rattle.esterel.specs.Reactions.{State, start, resumed, Reaction, Reacts}
use Rattle.esterel.specs.Listing.{IsListing, reaction}
use Rattle.table.specs.Reading.{table_of, holds}
use Rattle.table.specs.Writing.{write}

-- the set with these members
unfoldable pub set_of : List ℕ → ℕ
set_of [] = 0
set_of (x ∷ xs) = only x union set_of xs

-- a set of codes: whether it has 0, its labels l with 1 at l, its codes of 2 and up
unfoldable pub codes_with : Bool → List ℕ → List ℕ → Codes
codes_with zero labels codes = record { ends = zero; pausing = set_of labels; higher = set_of codes }

-- what document 01 says of a statement p
pub data Claim : Type 0 where
  -- its table's bytes
  bytes : List ℕ → Claim
  -- the number of its nodes
  count : ℕ → Claim
  -- s(p)
  starts : Codes → Claim
  -- d(R, p) for a set R
  resumes : List ℕ → Codes → Claim
  -- R, and the number of rounds
  reaches : List ℕ → ℕ → Claim
  -- what it is trimmed to, and the number of its nodes
  trims : Statement → ℕ → Claim
  -- its reactions in a state, all of them by the rules, under an assumed set or under every E
  reacts_under : List ℕ → State → List Reaction → Claim
  reacts : State → List Reaction → Claim
  -- a reaction in a state has two derivations that differ, under every E
  derived_twice : State → Reaction → Claim
  -- it has no reaction, in any state, under any E
  never : Claim

-- the statement meets the claim
unfoldable pub Meets : Statement → Claim → Type 0
Meets p (bytes t) = (write p ≡ t) × (table_of t ≡ holds (size p) p)
Meets p (count n) = size p ≡ n
Meets p (starts K) = s p ≡ K
Meets p (resumes R K) = d (set_of R) p ≡ K
Meets p (reaches R n) = reach p ≡ record { set = set_of R; rounds = n }
Meets p (trims q n) = (trimmed p ≡ q) × (size q ≡ n)
Meets p (reacts_under E x ts) = IsListing p x (set_of E) ts
Meets p (reacts x ts) = (E : ℕ) → IsListing p x E ts
Meets p (derived_twice x r) = (E : ℕ) → (a : Reacts p x E r) × (b : Reacts p x E r) × (a ≢ b)
Meets p never = (x : State) (E : ℕ) (r : Reaction) → Reacts p x E r → ⊥

pub record Case : Type 0 where
  pub statement : Statement
  pub claims : List Claim

abbrev pub case : Statement → List Claim → Case
case p claims = record { statement = p; claims = claims }

-- the reaction (O, k, L), its sets by their members
unfoldable pub reaction_of : List ℕ → ℕ → List ℕ → Reaction
reaction_of O k L = reaction (set_of O) k (set_of L)

unfoldable pub MeetsAll : Statement → List Claim → Type 0
MeetsAll p [] = Unit {0}
MeetsAll p (c ∷ more) = Meets p c × MeetsAll p more

unfoldable pub AllHold : List Case → Type 0
AllHold [] = Unit {0}
AllHold (c ∷ more) = MeetsAll c.statement c.claims × AllHold more

-- "`nothing`: bytes (hex) 10 01 00 00; s = {0}; R empty; rounds 1"
unfoldable pub case_a : Case
case_a = case nothing (bytes (0x10 ∷ 0x01 ∷ 0x00 ∷ 0x00 ∷ []) ∷ starts (codes_with true [] []) ∷ reaches [] 1 ∷ [])

-- "`1:pause`: 10 01 10 40; R = {1}; rounds 2"
unfoldable pub case_b : Case
case_b = case (pause 1) (bytes (0x10 ∷ 0x01 ∷ 0x10 ∷ 0x40 ∷ []) ∷ reaches (1 ∷ []) 2 ∷ [])

-- "`present S then exit 7 end || 3:pause || gotopause 4` (a statement, not a table): s = {1 at 3, 1 at 4, 8}"; S is signal 0
unfoldable pub case_c : Case
case_c = case (parallel (present 0 (exit 7) nothing) (parallel (pause 3) (gotopause 4))) (starts (codes_with false (3 ∷ 4 ∷ []) (8 ∷ [])) ∷ [])

-- "`1:pause ; 2:pause || 3:pause ; 4:pause ; exit 6` (statement): d({1}) = {1 at 2}; d({3,4}) = {1 at 4, 7}"
unfoldable pub case_d : Case
case_d =
    case (parallel (sequence (pause 1) (pause 2)) (sequence (pause 3) (sequence (pause 4) (exit 6))))
    (resumes (1 ∷ []) (codes_with false (2 ∷ []) []) ∷ resumes (3 ∷ 4 ∷ []) (codes_with false (4 ∷ []) (7 ∷ [])) ∷ [])

-- "Start of `signal S in present S then emit S end end`: one reaction (none, 0, none), though derived twice"
unfoldable pub case_e : Case
case_e =
    case (signal 0 (present 0 (emit 0) nothing))
    (reacts start (reaction_of [] 0 [] ∷ []) ∷ derived_twice start (reaction_of [] 0 []) ∷ [])

-- "`try 1:pause ; exit 1 || 2:pause ; 3:pause end`: R = {1, 2, 3}, rounds 3"; the report program's line is `nodes 8 8`
unfoldable pub case_f : Case
case_f =
    let p = try (parallel (sequence (pause 1) (exit 1)) (sequence (pause 2) (pause 3))) in
    case p (reaches (1 ∷ 2 ∷ 3 ∷ []) 3 ∷ count 8 ∷ trims p 8 ∷ [])

-- "`try try exit 1 ; emit B || exit 2 end end`: 7 nodes, trimmed to `try try exit 1 || exit 2 end end`, 5 nodes. Start under
-- {B} emits nothing"; B is signal 1
unfoldable pub case_g : Case
case_g =
    case (try (try (parallel (sequence (exit 1) (emit 1)) (exit 2))))
    (count 7 ∷ trims (try (try (parallel (exit 1) (exit 2)))) 5 ∷ reacts_under (1 ∷ []) start (reaction_of [] 0 [] ∷ []) ∷ [])

-- "Figure 8, its middle program, `;` grouped to the right: 24 nodes, trimmed to 17". I is signal 0, O signal 1. The trimmed
-- program is the figure's right one, grouped as the branch of the present that went was.
unfoldable pub case_h : Case
case_h =
    case (sequence (try (sequence (exit 1) (try (sequence (present 0 (sequence (pause 1) (exit 1)) nothing) (sequence (pause 2) (emit 1))))))
    (try (sequence (present 0 (sequence (gotopause 1) (exit 1)) nothing) (sequence (gotopause 2) (emit 1)))))
    (count 24
    ∷ trims (sequence (try (sequence (exit 1) (try (sequence (sequence (pause 1) (exit 1)) (sequence (pause 2) (emit 1))))))
    (sequence (present 0 (gotopause 1) nothing) (gotopause 2))) 17
    ∷ [])

-- "`1:pause ; 2:pause` resumed from {1, 2}: (none, 0, none), (none, 1, {2})"
unfoldable pub case_i : Case
case_i = case (sequence (pause 1) (pause 2)) (reacts (resumed (set_of (1 ∷ 2 ∷ []))) (reaction_of [] 0 [] ∷ reaction_of [] 1 (2 ∷ []) ∷ []) ∷ [])

-- "`signal S in present S else emit S end end`: no reaction"
unfoldable pub case_j : Case
case_j = case (signal 0 (present 0 nothing (emit 0))) (never ∷ [])

-- "`gotopause 1`: start (none, 1, {1}); resumed from {1}, no reaction"
unfoldable pub case_k : Case
case_k = case (gotopause 1) (reacts start (reaction_of [] 1 (1 ∷ []) ∷ []) ∷ reacts (resumed (set_of (1 ∷ []))) [] ∷ [])

-- "`loop nothing end`: no reaction, trimmed to itself"
unfoldable pub case_l : Case
case_l = case (loop nothing) (never ∷ trims (loop nothing) 2 ∷ [])

unfoldable pub cases : List Case
cases = case_a ∷ case_b ∷ case_c ∷ case_d ∷ case_e ∷ case_f ∷ case_g ∷ case_h ∷ case_i ∷ case_j ∷ case_k ∷ case_l ∷ []
