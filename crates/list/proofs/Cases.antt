-- Small programs on which a likely mistake of a lister shows.
use Rattle.sets.specs.Set.{has, only, ◌union◌, ◌intersect◌, ◌minus◌}
use Rattle.esterel.specs.Statement.{Statement, pause, emit, signal, present, sequence, loop, pauses}
use Rattle.esterel.specs.Reactions.{resumed}
use Rattle.esterel.specs.Listing.{IsListing, reaction, one, before, insert, sorted, each, hide, follow, going, list}
use Rattle.esterel.proofs.Listing.{list_is_listing}

-- A local signal has a status of its own in each of the two passes of one instant: resumed, the body emits its signal behind
-- the pause; started again, it does not, and takes the else branch.
abbrev twice : Statement
twice = loop (signal 0 (sequence (present 0 (emit 1) (emit 2)) (sequence (pause 1) (emit 0))))

pub two_passes : IsListing twice (resumed 2) 6 (one (reaction 4 1 2))
unfolding list hide follow going each sorted insert before has only ◌union◌ ◌intersect◌ ◌minus◌ pauses
two_passes = list_is_listing twice (resumed 2) 6
