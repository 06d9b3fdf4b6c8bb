-- The nodes of a valid basin's tree.
use Rattle.std.specs.Prelude.{◌≡◌, ℕ, ◌-◌, ◌^◌, ◌<◌, ◌≤◌, List}
use Rattle.basin.specs.declared.leaf.Leaf.{Leaf}
use Rattle.basin.specs.Basins.{view}
use Rattle.basin.specs.declared.quarters.Quarters.{Quarters}
use Rattle.nodes.specs.Spots.{Quarter}
use Rattle.tables.specs.Surveys.{surveyed}
use Rattle.encode.specs.declared.tree.Node.{Node}
use Rattle.encode.specs.Bytes.{node_bytes}

-- the level and the record that the tables have on a node's south-west square
abbrev pub level_at : Node → ℕ
level_at n = (view (surveyed n.survey.now)).level n.spot.x n.spot.y

abbrev pub record_at : Node → Leaf
record_at n = (view (surveyed n.survey.now)).leaf n.spot.x n.spot.y

-- a node is a leaf where that level is no deeper than its own
abbrev pub IsLeaf : Node → Type 0
IsLeaf n = level_at n ≤ n.survey.now.head.levels - n.spot.height

-- q is the quarter of n whose corner lies so many squares east and north of that of n
pub record Part (n : Node) (east north : ℕ) (q : Node) : Type 0 where
  pub survey : q.survey ≡ n.survey
  pub spot : Quarter n.spot east north q.spot

-- else it is cut into these quarters
pub record IsCut (n : Node) (q : Quarters Node) : Type 0 where
  pub deep : n.survey.now.head.levels - n.spot.height < level_at n
  pub sw : Part n 0 0 q.sw
  pub se : Part n (2 ^ q.sw.spot.height) 0 q.se
  pub nw : Part n 0 (2 ^ q.sw.spot.height) q.nw
  pub ne : Part n (2 ^ q.sw.spot.height) (2 ^ q.sw.spot.height) q.ne

-- the bytes of a node
abbrev pub bytes_of : Node → List ℕ
bytes_of n = node_bytes (view (surveyed n.survey.now)) n.spot.height n.spot.x n.spot.y
