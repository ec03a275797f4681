-- `Marked::without_child` meets its contract: each arm is the law of its kind.
use mathlib.Core.Path.{◌≡◌, refl, ap, ◌∙◌}
use native.Mathlib.Omega.{arith}
use Rattle.esterel.specs.Codes.{code_of, just_code}
use Rattle.table.specs.Kinds.{kinds, kind_of}
use Rattle.table.specs.inner.Places.{place_kind}
use Rattle.trim.proofs.Marking.{found_nothing, found_gotopause, found_emit, found_exit}
use Rattle.trim.proofs.marks.Marked.without_child.Goals as goal

pub just_code-code-requires : goal.just_code-code-requires
unfolding code_of
just_code-code-requires c =
    let exit_kind : c.args.kind ≡ 4 = omega (arith, c.requires.leaf) in
    let e = exit_kind in
    (omega (arith, c.from.ensures, c.requires.level e), omega (arith, c.from.ensures, c.requires.narrow))

pub returns-in-0 : goal.returns-in-0
unfolding place_kind kind_of kinds
returns-in-0 c = rw c.in-0.is (λ child. found_nothing c.leaf.ensures c.args.r c.just_ended.ensures refl)

pub returns-in-1 : goal.returns-in-1
unfolding place_kind kind_of kinds
returns-in-1 c = rw c.in-1.is (λ child. c.pause.ensures)

pub returns-in-2 : goal.returns-in-2
unfolding place_kind kind_of kinds
returns-in-2 c = rw c.in-2.is (λ child. found_gotopause c.leaf-in-2.ensures c.args.r c.args.operand c.just_at.ensures refl)

pub returns-in-3 : goal.returns-in-3
unfolding place_kind kind_of kinds
returns-in-3 c = rw c.in-3.is (λ child. found_emit c.leaf-in-3.ensures c.args.r c.args.operand c.just_ended-in-3.ensures refl)

pub returns-in_default : goal.returns-in_default
unfolding place_kind kind_of kinds
returns-in_default c =
    let exit_kind : c.args.kind ≡ 4 = omega (arith, c.requires.leaf) in
    rw exit_kind (λ child. found_exit c.leaf-in_default.ensures c.args.r c.args.operand c.requires.narrow (c.just_code-code.ensures ∙ ap just_code c.from.ensures) c.at.ensures)
