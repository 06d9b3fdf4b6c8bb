-- The bytes of a tree, and that a tree has one form.
use Rattle.std.specs.Prelude.{◌≡◌, ℕ, ◌+◌, ◌≤◌, List, ◌++◌, length, drop, Ok}
use Rattle.basin.specs.declared.leaf.Leaf.{Leaf}
use Rattle.numbers.specs.Numbers.{number, coded}
use Rattle.numbers.specs.Laws.{Bytes}
use Rattle.nodes.specs.Trees.{Tree, one, four, node_at, Sound}

-- the bytes of a leaf's record
abbrev pub leaf_bytes : Leaf → List ℕ
leaf_bytes l = number l.water ++ (number (coded l.east) ++ number (coded l.north))

unfoldable pub tree_bytes : Tree → List ℕ
tree_bytes (one l) = number 0 ++ leaf_bytes l
tree_bytes (four a b c d) = number 1 ++ (tree_bytes a ++ (tree_bytes b ++ (tree_bytes c ++ tree_bytes d)))

-- where a sound tree is written it is read, and what follows it follows
abbrev pub TreeIsRead : Type 0
TreeIsRead = (t : Tree) (height : ℕ) (bs post : List ℕ) (at : ℕ) → height ≤ 6 → Sound height t → drop at bs ≡ tree_bytes t ++ post
    → (node_at height bs at ≡ Ok (t, at + length (tree_bytes t))) × (drop (at + length (tree_bytes t)) bs ≡ post)

-- where a tree is read it is sound, and written in no other form
abbrev pub TreeWasWritten : Type 0
TreeWasWritten = (height : ℕ) (bs : List ℕ) (at : ℕ) (t : Tree) (q : ℕ) → Bytes bs → node_at height bs at ≡ Ok (t, q)
    → (drop at bs ≡ tree_bytes t ++ drop q bs) × Sound height t
