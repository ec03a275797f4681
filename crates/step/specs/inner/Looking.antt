-- What the functions that look for steps leave to each other.
use Rattle.std.specs.Prelude.{◌≡◌, cond, ◌&&◌, ℕ, ◌<◌, eqb, Result, Ok, Err, Option, Some}
use Rattle.std.specs.Prelude as std
use Rattle.esterel.specs.Statement.{Statement}
use Rattle.esterel.specs.Reactions.{State}
use Rattle.esterel.specs.Stepping.{Answer, one, none, several}
use Rattle.esterel.specs.inner.Stepping.{Found, crowded, answer, Looked}
use Rattle.table.specs.declared.Refusal.{Refusal}
use Rattle.table.specs.declared.Refusal.TheVariants.{Crowded}
use Rattle.rows.specs.declared.lists.Unlisted.{Unlisted}
use Rattle.rows.specs.declared.lists.Unlisted.TheVariants.{Over, Cramped, Refused}
use Rattle.step.specs.declared.Stepped.{Stepped}
use Rattle.step.specs.declared.Stepped.TheVariants.{One, None, Several}

-- the value of the code for an answer, and for what looking comes to
unfoldable pub answered : Answer → Stepped
answered (one t) = One t.assumed t.reaction.emitted t.reaction.code t.reaction.reached
answered none = None
answered several = Several

unfoldable pub found : Found → Result Stepped Refusal
found crowded = Err Crowded
found (answer a) = Ok (answered a)

-- two of them together
unfoldable pub merged : Stepped → Stepped → Stepped
merged None b = b
merged Several b = Several
merged (One E O k L) None = One E O k L
merged (One E O k L) Several = Several
merged (One E O k L) (One F P m N) = cond (eqb E F && (eqb O P && (eqb k m && eqb L N))) (One E O k L) Several

-- r is what looking under the sets that agree with A outside U comes to
pub record Looks (p : Statement) (x : State) (I A U : ℕ) (r : Result Stepped Refusal) : Type 0 where
  pub all : Found
  pub looked : Looked p x I A U all
  pub result : r ≡ found all

-- what one list of rows comes to: an answer; that it gave up, which is refusal 15 with no signal unknown; that the area of so many rows is
-- too small, which one of 3905 is not
abbrev pub Attempts : Statement → State → ℕ → ℕ → ℕ → ℕ → Result Stepped Unlisted → Type 0
Attempts p x I A U room (Ok s) = Looks p x I A U (Ok s)
Attempts p x I A U room (Err Over) = U ≡ 0 → Looks p x I A U (Err Crowded)
Attempts p x I A U room (Err Cramped) = room < 3905
Attempts p x I A U room (Err Refused) = room < 3905

-- in one area, or else in one that is never too small
abbrev pub Tries : Statement → State → ℕ → ℕ → ℕ → Option Stepped → Type 0
Tries p x I A U (Some s) = Looks p x I A U (Ok s)
Tries p x I A U std.None = U ≡ 0 → Looks p x I A U (Err Crowded)
