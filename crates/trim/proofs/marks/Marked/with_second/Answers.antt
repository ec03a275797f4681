-- `Marked::with_second` meets its contract: each arm is the law of its kind.
use mathlib.Core.Path.{◌≡◌}
use native.Mathlib.Omega.{arith}
use Rattle.table.specs.Kinds.{kinds, kind_of}
use Rattle.table.specs.inner.Places.{place_kind}
use Rattle.trim.proofs.marks.Marked.with_second.Goals as goal

pub returns-in-6 : goal.returns-in-6
unfolding place_kind kind_of kinds
returns-in-6 c = rw c.in-6.is (λ R o child at F G. c.or.ensures o R (child at) (child (child at).next) F G)

pub returns-in-7 : goal.returns-in-7
unfolding place_kind kind_of kinds
returns-in-7 c = rw c.in-7.is (λ R o child at F G. c.then.ensures R (child at) (child (child at).next) F G)

pub returns-in_default : goal.returns-in_default
unfolding place_kind kind_of kinds
returns-in_default c =
    let e : c.args.kind ≡ 8 = omega arith in
    rw e (λ R o child at F G. c.beside.ensures R (child at) (child (child at).next) F G)
