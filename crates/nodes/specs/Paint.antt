-- How a tree's leaves are put on their squares.
use Rattle.std.specs.Prelude.{◌≡◌, ℕ, pred, ◌+◌, ◌-◌, ◌*◌, List, Ok, Err, Result}
use Rattle.basin.specs.declared.leaf.Leaf.{Leaf}
use Rattle.basin.specs.Fills.{square}
use Rattle.nodes.specs.declared.fault.TreeFault.{TreeFault}
use Rattle.nodes.specs.Trees.{Tree, one, four, side}

-- once each leaf of a tree, whose corner is place p, has put its entry on its squares
unfoldable pub painted : {A : Type 0} → (ℕ → Leaf → A) → (n height : ℕ) → Tree → ℕ → List A → List A
painted pick n height (one l) p t = square (side height) n (side height) p (pick height l) t
painted pick n height (four sw se nw ne) p t =
    painted pick n (pred height) ne (p + side (pred height) * n + side (pred height))
    (painted pick n (pred height) nw (p + side (pred height) * n)
    (painted pick n (pred height) se (p + side (pred height))
    (painted pick n (pred height) sw p t)))

-- what a reader makes of a table t: where a tree was read, the table is painted
abbrev pub Drawn : {A : Type 0} → (ℕ → Leaf → A) → ℕ → ℕ → ℕ → Result (Tree × ℕ) TreeFault → List A → List A → Type 0
Drawn pick n height p (Ok r) t u = u ≡ painted pick n height r.0 p t
Drawn pick n height p (Err e) t u = Unit {0}

-- a leaf's entry in the levels table of a basin of L levels, and in the leaves table
abbrev pub level_of : ℕ → ℕ → Leaf → ℕ
level_of L height l = L - height

abbrev pub record_of : ℕ → Leaf → Leaf
record_of height l = l
