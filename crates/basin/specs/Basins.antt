-- Head and tables as plain values, and when they are a valid basin.
use Rattle.std.specs.Prelude.{◌≡◌, ℕ, ◌*◌, ◌^◌, ◌<◌, ◌≤◌, List, length}
use Rattle.basin.specs.declared.head.Head.{Head}
use Rattle.basin.specs.declared.leaf.Leaf.{Leaf}
use Rattle.basin.specs.Records.{dry, InRange}
use Rattle.basin.specs.Squares.{area}
use Rattle.basin.specs.Tables.{table, entry}
use Rattle.basin.specs.Views.{View, size, Quadtree}

-- the numbers of a head
pub record Heading : Type 0 where
  pub L : ℕ
  pub d : ℕ
  pub loose : ℕ

-- the three tables
pub record Tables : Type 0 where
  pub levels : List ℕ
  pub beds : List ℕ
  pub leaves : List Leaf

abbrev pub tables : List ℕ → List ℕ → List Leaf → Tables
tables levels beds leaves = record { levels = levels; beds = beds; leaves = leaves }

-- head and tables
pub record Basin : Type 0 where
  pub head : Heading
  pub tables : Tables

abbrev pub heading : Head → Heading
heading h = record { L = h.levels; d = h.width; loose = h.loose }

abbrev pub basin : Heading → Tables → Basin
basin h t = record { head = h; tables = t }

-- the basin that a head and three tables make
abbrev pub basin_of : Head → List ℕ → List ℕ → List Leaf → Basin
basin_of h levels beds leaves = basin (heading h) (tables levels beds leaves)

-- the squares along a side
abbrev pub side : Heading → ℕ
side h = 2 ^ h.L

-- the tables by squares, and back
abbrev pub view : Basin → View
view b =
    record {
      L = b.head.L;
      d = b.head.d;
      level = λ x y. entry (side b.head) 0 b.tables.levels x y;
      bed = λ x y. entry (side b.head) 0 b.tables.beds x y;
      leaf = λ x y. entry (side b.head) dry b.tables.leaves x y;
    }

abbrev pub packed : View → Tables
packed v = tables (table (size v) v.level) (table (size v) v.bed) (table (size v) v.leaf)

-- the squares keep all ranges
pub record Valid (v : View) : Type 0 where
  pub quadtree : Quadtree v
  pub low_beds : (x y : ℕ) → x < size v → y < size v → v.bed x y ≤ 30000
  pub in_range : (x y : ℕ) → x < size v → y < size v → InRange (area v (v.level x y)) (v.leaf x y)

-- the head's numbers are in their ranges
pub record Heads (h : Heading) : Type 0 where
  pub levels : h.L ≤ 6
  pub width_least : 1 ≤ h.d
  pub width_most : h.d ≤ 1000
  pub loose : h.loose ≤ 1000000

-- the tables have an entry for each square
pub record Full (h : Heading) (t : Tables) : Type 0 where
  pub levels : length t.levels ≡ side h * side h
  pub beds : length t.beds ≡ side h * side h
  pub leaves : length t.leaves ≡ side h * side h

-- a valid basin
pub record ValidBasin (b : Basin) : Type 0 where
  pub head : Heads b.head
  pub full : Full b.head b.tables
  pub squares : Valid (view b)
