-- The tree of a file: how it is read, and which leaf a square lies in.
use Rattle.std.specs.Prelude.{ℕ, zero, suc, pred, ◌-◌, ◌*◌, ◌^◌, ◌<◌, cond, List, ℤ, Ok, Err, Result, ◌==◌, nat_lt}
use Rattle.basin.specs.declared.leaf.Leaf.{Leaf}
use Rattle.basin.specs.Records.{may_hold, may_run, InRange}
use Rattle.numbers.specs.declared.fault.NumberFault.{NumberFault}
use Rattle.numbers.specs.Numbers.{number_at, signed_at}
use Rattle.numbers.specs.Steps.{after}
use Rattle.nodes.specs.declared.fault.TreeFault.{TreeFault}
use Rattle.nodes.specs.declared.fault.TreeFault.TheVariants.{Number, Range}

-- a leaf, or four quarters: south-west, south-east, north-west and north-east
pub data Tree : Type 0 where
  one : Leaf → Tree
  four : Tree → Tree → Tree → Tree → Tree

-- the side of a block with this many levels below it
abbrev pub side : ℕ → ℕ
side height = 2 ^ height

-- ---- reading
-- a number's fault, carried whole
abbrev pub carried : {A : Type 0} → Result A NumberFault → Result A TreeFault
carried (Ok x) = Ok x
carried (Err f) = Err (Number f)

-- a discharge of a leaf that holds this much water
abbrev pub discharge_at : List ℕ → ℕ → ℕ → Result (ℤ × ℕ) TreeFault
discharge_at bs at water = after (carried (signed_at bs at)) (λ q. cond (may_run water q.0) (Ok q) (Err (Range at)))

-- the record of a leaf of this area
abbrev pub leaf_at : List ℕ → ℕ → ℕ → Result (Leaf × ℕ) TreeFault
leaf_at bs at area =
    after (carried (number_at bs at)) (λ v.
    cond (may_hold area v.0)
    (after (discharge_at bs v.1 v.0) (λ x.
    after (discharge_at bs x.1 v.0) (λ y.
    Ok (record { water = v.0; east = x.0; north = y.0 }, y.1))))
    (Err (Range at)))

-- four nodes one after another
abbrev pub quarters_by : (ℕ → Result (Tree × ℕ) TreeFault) → ℕ → Result (Tree × ℕ) TreeFault
quarters_by node at =
    after (node at) (λ a. after (node a.1) (λ b. after (node b.1) (λ c. after (node c.1) (λ d.
    Ok (four a.0 b.0 c.0 d.0, d.1)))))

-- a node of this area, whose quarters are read by quarters, from the mark's place and the place after it
abbrev pub node_by : (ℕ → ℕ → Result (Tree × ℕ) TreeFault) → ℕ → List ℕ → ℕ → Result (Tree × ℕ) TreeFault
node_by quarters area bs at =
    after (carried (number_at bs at)) (λ m.
    cond (m.0 == 0)
    (after (leaf_at bs m.1 area) (λ l. Ok (one l.0, l.1)))
    (cond (m.0 == 1) (quarters at m.1) (Err (Range at))))

-- a node with this many levels below it; one with none is not cut
unfoldable pub node_at : ℕ → List ℕ → ℕ → Result (Tree × ℕ) TreeFault
node_at zero bs at = node_by (λ mark next. Err (Range mark)) (side 0 * side 0) bs at
node_at (suc height) bs at =
    node_by (λ mark next. quarters_by (λ p. node_at height bs p) next) (side (suc height) * side (suc height)) bs at

abbrev pub quarters_at : ℕ → List ℕ → ℕ → Result (Tree × ℕ) TreeFault
quarters_at height bs at = quarters_by (λ p. node_at height bs p) at

-- ---- the tree by squares
-- a leaf in the tree, with the levels below it
pub record Found : Type 0 where
  pub height : ℕ
  pub leaf : Leaf

-- the leaf that square (x, y) of the tree's block lies in
unfoldable pub found : ℕ → Tree → ℕ → ℕ → Found
found height (one l) x y = record { height = height; leaf = l }
found height (four sw se nw ne) x y =
    cond (nat_lt y (side (pred height)))
    (cond (nat_lt x (side (pred height))) (found (pred height) sw x y) (found (pred height) se (x - side (pred height)) y))
    (cond (nat_lt x (side (pred height)))
    (found (pred height) nw x (y - side (pred height)))
    (found (pred height) ne (x - side (pred height)) (y - side (pred height))))

-- a tree of at most this height, its records in their ranges
abbrev pub Sound : ℕ → Tree → Type 0
Sound height (one l) = InRange (side height * side height) l
Sound height (four sw se nw ne) =
    (0 < height) × (Sound (pred height) sw) × (Sound (pred height) se) × (Sound (pred height) nw) × (Sound (pred height) ne)
