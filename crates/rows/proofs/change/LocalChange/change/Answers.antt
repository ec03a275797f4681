-- A row that emits the signal has it present; another is one only where the signal may be absent.
use Rattle.std.proofs.Common.{sym, ◌∙◌}
use Rattle.rows.proofs.Words.{without_below}
use Rattle.rows.proofs.Changes.{rest_as, needs_as, local_present, local_absent, local_gone}
use Rattle.rows.proofs.change.LocalChange.change.Goals as goal

pub with_emitted-requires : goal.with_emitted-requires
with_emitted-requires c = without_below 32 _ _ _ c.emitted-emitted.ensures.1 c.without.ensures

pub returns-then-contains : goal.returns-then-contains
returns-then-contains c =
    local_present _ _ _ c.emitted-emitted.ensures.0 _ _ (rest_as _ _ c.under-rest.ensures c.forgetting.ensures c.condition-condition.ensures) _ _ (sym c.contains.ensures ∙ c.if-contains.true) c.without.ensures c.with_emitted.ensures

pub returns-then-needs : goal.returns-then-needs
returns-then-needs c =
    local_gone _ _ _ c.emitted-emitted.ensures.0 _ (sym c.contains.ensures ∙ c.if-contains.false) (needs_as c.args.self.now.slot c.condition-condition.ensures c.needs.ensures c.if-needs.true)

pub returns : goal.returns
returns c =
    local_absent _ _ _ c.emitted-emitted.ensures.0 _ _ (rest_as _ _ c.under-rest.ensures c.forgetting.ensures c.condition-condition.ensures) (sym c.contains.ensures ∙ c.if-contains.false)
    (needs_as c.args.self.now.slot c.condition-condition.ensures c.needs.ensures c.if-needs.false)
