-- The tree that the squares of a basin make, the leaf of a square, and the squares after a step.
use Rattle.std.specs.Prelude.{ℕ, ◌*◌, ◌/◌, cond, ◌==◌, nat_lt}
use Rattle.basin.specs.Blocks.{Block, block, block_sum}
use Rattle.basin.specs.Views.{View, side_of}
use Rattle.runs.specs.Rules.{Rule}
use Rattle.runs.specs.Step.{stepped}
use Rattle.runs.specs.Trees.{Kind, part, whole, cut, Tree}

-- what a block of level k is, at whose corner the level is m
abbrev pub sort : ℕ → ℕ → Kind
sort m k = cond (nat_lt m k) part (cond (m == k) whole cut)

-- the tree of the squares: a block is told by its south-west corner
abbrev pub tree : View → Tree
tree v =
    record {
      L = v.L;
      d = v.d;
      kind = λ c. sort (v.level (c.X * side_of v c.k) (c.Y * side_of v c.k)) c.k;
      leaf = λ c. v.leaf (c.X * side_of v c.k) (c.Y * side_of v c.k);
      beds = block_sum v.L v.bed;
    }

-- the leaf of a square
abbrev pub home : View → ℕ → ℕ → Block
home v x y = block (v.level x y) (x / side_of v (v.level x y)) (y / side_of v (v.level x y))

-- the squares after a step by the rule R of T thousandths of a second
abbrev pub after_step : Rule → ℕ → View → View
after_step R T v = record { L = v.L; d = v.d; level = v.level; bed = v.bed; leaf = λ x y. stepped R T (tree v) (home v x y) }
