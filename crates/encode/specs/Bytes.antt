-- The bytes of a basin's file, and what writing them leaves.
use Rattle.std.specs.Prelude.{ℕ, zero, suc, ◌+◌, ◌-◌, ◌^◌, cond, List, [], ◌∷◌, ◌++◌, length, Ok, Err, Result, nat_lt}
use Rattle.std.proofs.lemmas.List.Edits.{sets}
use Rattle.basin.specs.declared.refusal.Refusal.{Refusal}
use Rattle.basin.specs.declared.refusal.Refusal.TheVariants.{OutputShort}
use Rattle.basin.specs.Basins.{Basin, view}
use Rattle.basin.specs.Flaws.{validity}
use Rattle.basin.specs.Views.{View}
use Rattle.numbers.specs.Numbers.{number}
use Rattle.nodes.specs.Trees.{Tree, one, four}
use Rattle.nodes.specs.Written.{tree_bytes}

-- the tree that a view holds on the block with this many levels below it, whose south-west square is (x, y): a leaf where the level there is
-- no deeper than the block's own, else four quarters
unfoldable pub tree_of : View → (height x y : ℕ) → Tree
tree_of v zero x y = one (v.leaf x y)
tree_of v (suc h) x y =
    cond (nat_lt (v.L - suc h) (v.level x y))
    (four (tree_of v h x y) (tree_of v h (x + 2 ^ h) y) (tree_of v h x (y + 2 ^ h)) (tree_of v h (x + 2 ^ h) (y + 2 ^ h)))
    (one (v.leaf x y))

-- and its bytes
abbrev pub node_bytes : View → (height x y : ℕ) → List ℕ
node_bytes v height x y = tree_bytes (tree_of v height x y)

-- numbers one after another
unfoldable pub beds_bytes : List ℕ → List ℕ
beds_bytes [] = []
beds_bytes (bed ∷ beds) = number bed ++ beds_bytes beds

-- the whole file: L, d, the loose account, the tree and the beds
abbrev pub file_bytes : Basin → List ℕ
file_bytes b =
    number b.head.L ++ (number b.head.d ++ (number b.head.loose
    ++ (node_bytes (view b) b.head.L 0 0 ++ beds_bytes b.tables.beds)))

-- what a write of these bytes answers, and what it leaves of the output: they stand first in it, or it is too short and as it was
abbrev pub put_of : (bytes out : List ℕ) → Result ℕ Refusal × List ℕ
put_of bytes out = cond (nat_lt (length out) (length bytes)) (Err OutputShort, out) (Ok (length bytes), sets out 0 bytes)

-- unless there is a refusal already
abbrev pub unless_refused : Result (Unit {0}) Refusal → (bytes out : List ℕ) → Result ℕ Refusal × List ℕ
unless_refused (Ok u) bytes out = put_of bytes out
unless_refused (Err e) bytes out = (Err e, out)

-- what a write of a basin answers and leaves
unfoldable pub write_of : Basin → List ℕ → Result ℕ Refusal × List ℕ
write_of b out = unless_refused (validity b) (file_bytes b) out
