-- By cases of what list answers.
use Rattle.deskheron.proofs.Entered.{refused_entered, listed_entered}
use Rattle.deskheron.proofs.deskheron_list.Goals as goal

pub returns-in-Ok : goal.returns-in-Ok
returns-in-Ok c = listed_entered c.list_bytes.ensures c.in-Ok.is

pub returns-in-Err : goal.returns-in-Err
returns-in-Err c = refused_entered c.list_bytes.ensures c.in-Err.is c.into.ensures
