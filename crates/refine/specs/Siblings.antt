-- The four siblings that a merge joins.
use Rattle.std.specs.Prelude.{ℕ, ◌*◌, ◌≤◌, Bool, cond, not, ◌||◌, List, nat_lt, unsigned_abs}
use Rattle.basin.specs.declared.leaf.Leaf.{Leaf}
use Rattle.basin.specs.Records.{dry}
use Rattle.basin.specs.Tables.{entry}
use Rattle.runs.specs.Changes.{twin, both}
use Rattle.refine.specs.declared.parts.Siblings.{Siblings}

-- the record's discharges are such as its water may carry
pub record Slow (l : Leaf) : Type 0 where
  pub east : unsigned_abs l.east ≤ 10000 * l.water
  pub north : unsigned_abs l.north ≤ 10000 * l.water

-- the records of the leaf of side s at (x, y) and of its siblings, in a basin of n by n squares
abbrev pub siblings_at : (n s : ℕ) → List Leaf → (x y : ℕ) → Siblings
siblings_at n s leaves x y =
    record {
      own = entry n dry leaves x y;
      beside = entry n dry leaves (twin s x) y;
      above = entry n dry leaves x (twin s y);
      across = entry n dry leaves (twin s x) (twin s y);
    }

-- a record is wet where another is dry, or dry where it is wet
abbrev pub unlike : Leaf → Leaf → Bool
unlike l m = cond (nat_lt 0 l.water) (not (nat_lt 0 m.water)) (nat_lt 0 m.water)

-- some of the siblings are wet and some are dry
abbrev pub some_mixed : Siblings → Bool
some_mixed f = unlike f.own f.beside || (unlike f.own f.above || unlike f.own f.across)

-- the four records added up
abbrev pub joined : Siblings → Leaf
joined f = both (both f.own f.beside) (both f.above f.across)
