-- Equal sets have equal words.
use mathlib.Core.Path.{◌≡◌, sym, ap, ◌∙◌}
use borrow.Author.Rules.{rules}
use Rattle.esterel.specs.Codes.{Codes}
use Rattle.reach.specs.declared.codes.CodeSet.TheInside.{Inside}
use Rattle.reach.specs.inner.CodeSets.{codes_of, words_of, words_back}
use Rattle.reach.proofs.codes.CodeSetPartialEq.eq.Goals as goal

had_back : (w : Inside) (K : Codes) → codes_of w ≡ K → words_of K ≡ w
had_back w K e = ap words_of (sym e) ∙ words_back w

pub returns : goal.returns
returns c = search (rules, had_back)
