-- The work table while the leaves are visited in the order of the tables.
use Rattle.std.specs.Prelude.{◌≡◌, ℕ, ◌+◌, ◌<◌, List, ◌==◌, nat_lt}
use Rattle.basin.specs.declared.dir.Dir.{Dir}
use Rattle.basin.specs.declared.leaf.Leaf.{Leaf}
use Rattle.basin.specs.Basins.{Basin, view}
use Rattle.basin.specs.Blocks.{Block}
use Rattle.basin.specs.Sums.{sum_below, only}
use Rattle.runs.specs.Homes.{tree}
use Rattle.runs.specs.Rules.{Rule}
use Rattle.runs.specs.Step.{leaving, new_east, new_north}
use Rattle.runs.specs.Trees.{Tree, beside, each, round, opposite}
use Rattle.blocks.specs.Places.{corner_entry, LeafAt, home_at}
use Rattle.visits.specs.Visits.{held}

-- what c got from the leaves whose corners stand before entry i
abbrev pub arrived : ℕ → Tree → (Dir → Block → Block → ℕ) → ℕ → Block → ℕ
arrived L t F i c = round (λ p. each (beside t p c) 0 (λ b. only (nat_lt (corner_entry L b) i) (F (opposite p) b c)))

-- what c sent, if its corner stands before entry i
abbrev pub departed : ℕ → Tree → (Dir → Block → Block → ℕ) → ℕ → Block → ℕ
departed L t F i c = only (nat_lt (corner_entry L c) i) (round (λ p. each (beside t p c) 0 (λ b. F p c b)))

-- the entry of the leaf c once the leaves are visited whose corners stand before entry i
pub record SoFar (L : ℕ) (R : Rule) (T : ℕ) (t : Tree) (i : ℕ) (work : List Leaf) (c : Block) : Type 0 where
  pub water : (held L work c).water + departed L t (leaving R T t) i c ≡ (t.leaf c).water + arrived L t (leaving R T t) i c
  pub east : corner_entry L c < i → (held L work c).east ≡ new_east R T t c
  pub north : corner_entry L c < i → (held L work c).north ≡ new_north R T t c

-- the work table once they are visited
unfoldable pub Walked : Rule → ℕ → Basin → ℕ → List Leaf → Type 0
Walked R T b i work = (c : Block) → LeafAt b.head.L b.tables.levels c → SoFar b.head.L R T (tree (view b)) i work c

-- the sum of f over the leaves whose corners stand before entry i
unfoldable pub leaf_sum : ℕ → List ℕ → (Block → ℕ) → ℕ → ℕ
leaf_sum L levels f i = sum_below i (λ j. only (corner_entry L (home_at L levels j) == j) (f (home_at L levels j)))
