-- So many bytes of the word are there.
use mathlib.Core.Path.{◌≡◌, refl, ap, ◌∙◌}
use native.Mathlib.Omega.{arith}
use lib.ListN.{length, length-set}
use lib.Seq.{paste}
use Rattle.std.proofs.lemmas.List.Edits.{paste_none, paste_more, paste_all}
use Rattle.writer.specs.inner.Putting.{put_at}
use Rattle.writer.proofs.writing.put.Goals as goal

pub loop-i-init : goal.loop-i-init
loop-i-init c = (refl, paste_none c.args.out.now c.args.place c.args.word.now)

pub loop-i-preserved : goal.loop-i-preserved
loop-i-preserved c = (
  simp length-set c.loop-i.invariant.0,
  rw c.loop-i.invariant.1 (paste_more c.args.out.now c.args.place c.args.word.now c.loop-i.i 0 (omega arith) (omega arith)),
)

pub returns : goal.returns
unfolding put_at
returns c =
    let all : c.loop-i.i ≡ length c.args.word.now = omega arith in
    record {
      room = c.requires;
      behind = refl;
      holds = c.loop-i.invariant.1 ∙ ap (paste c.args.out.now c.args.place c.args.word.now) all ∙ paste_all c.args.out.now c.args.place c.args.word.now _ refl;
    }
