-- `reader::lexing::Rest::word` meets its contract: by the two parts of the word, the second first.
use mathlib.Core.Path.{sym, ◌∙◌}
use Rattle.reader.proofs.Places.{no_second, no_first, not_apart}
use Rattle.reader.proofs.lexing.Rest.word.Goals as goal

pub returns-in_err-behind : goal.returns-in_err-behind
returns-in_err-behind c = rw c.from_residual.ensures (no_second _ _ c.min.result (rw c.split_at.ensures.back at c.in_err-behind.ensures))

pub returns-in_err-before : goal.returns-in_err-before
returns-in_err-before c =
    rw c.from_residual-in_err-before.ensures
    (no_first _ _ c.min.result _ (rw c.split_at.ensures.back at c.in_ok-behind.ensures) (rw c.split_at.ensures.front at c.in_err-before.ensures))

pub returns-then-touches : goal.returns-then-touches
returns-then-touches c =
    not_apart _ _ c.min.result _ (rw c.split_at.ensures.back at c.in_ok-behind.ensures) _ (rw c.split_at.ensures.front at c.in_ok-before.ensures) (sym c.touches.ensures ∙ c.if-touches.true)
