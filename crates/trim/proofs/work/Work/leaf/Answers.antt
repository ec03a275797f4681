-- `Work::leaf` meets its contract.
use Rattle.trim.proofs.Parts.{leaf_put}
use Rattle.trim.proofs.work.Work.leaf.Goals as goal

pub returns : goal.returns
returns c =
    leaf_put c.requires c.args.self.now.within c.put.ensures
