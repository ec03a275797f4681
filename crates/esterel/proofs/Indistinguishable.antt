-- At the start and in every state of a run, a statement and its trimmed form have the same listing under every E, and the same answer for
-- a step from every I: they have the same reactions there, and these determine listing and answer.
use mathlib.Core.Path.{◌≡◌}
use mathlib.Core.List.{List}
use Prim.Native.Nat.{ℕ}
use Rattle.esterel.specs.Statement.{Statement}
use Rattle.esterel.specs.Trimming.{trimmed}
use Rattle.esterel.specs.Reactions.{State}
use Rattle.esterel.specs.Runs.{Step, Run, StateOf}
use Rattle.esterel.specs.Listing.{list, listing}
use Rattle.esterel.specs.Stepping.{stepping}
use Rattle.esterel.proofs.Premises.{LevelsFromOne}
use Rattle.esterel.proofs.Runs.{same_reactions}
use Rattle.esterel.proofs.Listing.{same_listing}
use Rattle.esterel.proofs.Limits.{free_trimmed}
use Rattle.esterel.proofs.Stepping.{FreeSignals, same_answers}

pub same_listings : (p : Statement) → LevelsFromOne p → (ts : List Step) → Run p ts → (x : State) → StateOf ts x → (E : ℕ)
    → list p x E ≡ list (trimmed p) x E
same_listings p w ts h x u E = same_listing p (trimmed p) x E (λ r. same_reactions p w ts h x u E r)

pub same_steps : (p : Statement) → LevelsFromOne p → FreeSignals p → (ts : List Step) → Run p ts → (x : State) → StateOf ts x → (I : ℕ)
    → stepping p x I ≡ stepping (trimmed p) x I
unfolding listing
same_steps p w f ts h x u I = same_answers p (trimmed p) x I f (λ S m. f S (free_trimmed p S m)) (λ E. same_listings p w ts h x u E)
