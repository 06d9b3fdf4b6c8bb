use Rattle.refine.proofs.Families.{both_slow}
use Rattle.refine.proofs.siblings.joined.Goals as goal

pub both-requires-3 : goal.both-requires-3
both-requires-3 c =
    let f = c.args.family in
    record {
      few = rw (c.both.ensures, c.both-2.ensures) c.requires.few;
      first = rw c.both.ensures (both_slow f.own f.beside c.requires.own c.requires.beside);
      second = rw c.both-2.ensures (both_slow f.above f.across c.requires.above c.requires.across);
    }
