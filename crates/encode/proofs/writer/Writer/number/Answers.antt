-- Each turn writes one group, and the last group is written at the end.
use Rattle.std.proofs.Common.{◌∙◌, arith}
use Rattle.encode.proofs.Groups.{left_last, left_some, putting_fewer, putting_last}
use Rattle.encode.proofs.Puts.{kept}
use Rattle.encode.proofs.writer.Writer.number.Goals as goal

pub byte-requires : goal.byte-requires
byte-requires c = record { fits = omega (arith, left_some _ _ _ _ c.loop-rest.invariant.2.left, c.requires.room.fits) }

pub loop-rest-preserved : goal.loop-rest-preserved
loop-rest-preserved c = (
  c.byte.ensures.same ∙ c.loop-rest.invariant.0,
  kept c.byte.ensures ∙ c.loop-rest.invariant.1,
  rw (c.byte.ensures.place, c.byte.ensures.written) (putting_fewer _ _ _ _ _ _ c.loop-rest-test.true c.loop-rest.invariant.2),
)

pub byte-requires-2 : goal.byte-requires-2
byte-requires-2 c = record { fits = omega (arith, left_some _ _ _ _ c.loop-rest.invariant.2.left, c.requires.room.fits) }

pub returns : goal.returns
returns c =
    record {
      same = c.byte-2.ensures.same ∙ c.loop-rest.invariant.0;
      place = c.byte-2.ensures.place ∙ left_last _ _ _ _ c.loop-rest-test.false c.loop-rest.invariant.2.left;
      written = c.byte-2.ensures.written ∙ putting_last _ _ _ _ _ _ c.loop-rest-test.false c.loop-rest.invariant.2;
    }
