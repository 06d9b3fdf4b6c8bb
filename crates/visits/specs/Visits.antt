-- The work table while the leaves are visited: each visit moves water from a leaf's entry to its neighbours'.
use Rattle.std.specs.Prelude.{◌≡◌, ℕ, ◌+◌, ◌-◌, ◌≤◌, cond, List, ℤ, ◌==◌, slice_index_or, slice_set}
use Rattle.basin.specs.declared.leaf.Leaf.{Leaf}
use Rattle.basin.specs.Blocks.{Block}
use Rattle.basin.specs.Records.{dry}
use Rattle.runs.specs.Overs.{here}
use Rattle.runs.specs.Rules.{Rule}
use Rattle.runs.specs.Step.{leaving, out_of, new_east, new_north}
use Rattle.runs.specs.Trees.{Tree, Side, wall, one, two, beside, each, round}
use Rattle.blocks.specs.Places.{corner_entry, LeafAt}

-- a block's entry
abbrev pub held : ℕ → List Leaf → Block → Leaf
held L work c = slice_index_or work (corner_entry L c) dry

abbrev pub with_more : Leaf → ℕ → Leaf
with_more l v = record { water = l.water + v; east = l.east; north = l.north }

-- water added to a leaf's entry
unfoldable pub added : ℕ → List Leaf → Block → ℕ → List Leaf
added L work a v = slice_set work (corner_entry L a) (with_more (held L work a) v)

-- the amounts x and y added to the entries on a side
abbrev pub sent : ℕ → List Leaf → Side → ℕ → ℕ → List Leaf
sent L work wall x y = work
sent L work (one a) x y = added L work a x
sent L work (two a b) x y = added L (added L work a x) b y

-- a leaf's entry without the water v that leaves it, and with these discharges
unfoldable pub taken : ℕ → List Leaf → Block → ℕ → ℤ → ℤ → List Leaf
taken L work a v x y = slice_set work (corner_entry L a) (record { water = (held L work a).water - v; east = x; north = y })

-- no leaf's entry holds more than m
abbrev pub Room : ℕ → List ℕ → List Leaf → ℕ → Type 0
Room L levels work m = (c : Block) → LeafAt L levels c → (held L work c).water ≤ m

-- what the visit of the leaf m makes of the entry of the leaf c
pub record Visited (L : ℕ) (R : Rule) (T : ℕ) (t : Tree) (m : Block) (work work' : List Leaf) (c : Block) : Type 0 where
  pub water : (held L work' c).water + here m c (out_of R T t m)
      ≡ (held L work c).water + round (λ p. each (beside t p m) 0 (λ a. here a c (leaving R T t p m a)))
  pub east : (held L work' c).east ≡ cond (corner_entry L c == corner_entry L m) (new_east R T t m) (held L work c).east
  pub north : (held L work' c).north ≡ cond (corner_entry L c == corner_entry L m) (new_north R T t m) (held L work c).north

-- of every leaf's entry
abbrev pub AllVisited : ℕ → List ℕ → Rule → ℕ → Tree → Block → List Leaf → List Leaf → Type 0
AllVisited L levels R T t m work work' = (c : Block) → LeafAt L levels c → Visited L R T t m work work' c
