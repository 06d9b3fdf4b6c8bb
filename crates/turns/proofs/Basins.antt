-- Turned basins: their squares, that two turns are the turn that they make, and that they are valid.
use Rattle.std.proofs.Common.{◌≡◌, ℕ, zero, suc, ◌-◌, ◌/◌, ◌%◌, ◌<◌, List, sym, refl, ap, ◌∙◌, subst, subst₂, arith}
use mathlib.Core.Path.{fun_ext}
use Rattle.basin.specs.declared.leaf.Leaf.{Leaf}
use Rattle.basin.specs.Basins.{Heading, Tables, Basin, basin, tables, side, view, Full, Valid, ValidBasin}
use Rattle.basin.specs.Records.{dry}
use Rattle.basin.specs.Tables.{entry}
use Rattle.basin.specs.Views.{View, size}
use Rattle.runs.specs.Turns.{flip_leaf, transpose_leaf, flip_view, transpose_view, quarter_view, Place, place, flip_place, quarter_place, times, turn_place, flip_basin, quarter_basin, turn_basin}
use Rattle.runs.proofs.Basins.{packed_valid}
use Rattle.runs.proofs.Keeps.{valid_turns}
use Rattle.runs.proofs.Symmetry.{flipped, transposed}
use Rattle.turns.specs.Laws.{TurnsCompose, SquaresTurn}
use Rattle.turns.specs.Turns.{composite_of, undoing, turned_place, quarter_leaf, turned_leaf, turned_basin, TurnedTable}
use Rattle.turns.proofs.Carrying.{Carried, Onto, not_carried, carried_on, carried_alike, flip_carries, quarter_carries}
use Rattle.turns.specs.Composing.{two_turns, undone_first}
use Rattle.turns.proofs.Places.{Inside, times_keeps, flip_keeps, quarter_keeps, turn_keeps, places_turn}
use Rattle.turns.specs.Records.{records_turn}

-- b' has the head H and the squares of b, at the places to which g takes theirs, the records changed by ρ
record Moved (H : Heading) (g : Place → Place) (ρ : Leaf → Leaf) (b b' : Basin) : Type 0 where
  head : b'.head ≡ H
  levels : Carried (side H) 0 g (λ m. m) b.tables.levels b'.tables.levels
  beds : Carried (side H) 0 g (λ m. m) b.tables.beds b'.tables.beds
  leaves : Carried (side H) dry g ρ b.tables.leaves b'.tables.leaves

moved_on : (H : Heading) (g g' : Place → Place) (ρ ρ' : Leaf → Leaf) (b b' b'' : Basin) → ((p : Place) → Inside (side H) p → Inside (side H) (g p))
    → Moved H g ρ b b' → Moved H g' ρ' b' b'' → Moved H (λ p. g' (g p)) (λ l. ρ' (ρ l)) b b''
moved_on H g g' ρ ρ' b b' b'' keeps m m' =
    record {
      head = m'.head;
      levels = carried_on (side H) 0 keeps m.levels m'.levels;
      beds = carried_on (side H) 0 keeps m.beds m'.beds;
      leaves = carried_on (side H) dry keeps m.leaves m'.leaves;
    }

moved_alike : (H : Heading) (g : Place → Place) (ρ : Leaf → Leaf) (b b' b'' : Basin) → Onto (side H) g → Moved H g ρ b b' → Moved H g ρ b b'' → b' ≡ b''
moved_alike H g ρ b b' b'' o m m' =
    let head = m.head ∙ sym m'.head in
    let levels = carried_alike (side H) 0 g (λ m. m) b.tables.levels _ _ o m.levels m'.levels in
    let beds = carried_alike (side H) 0 g (λ m. m) b.tables.beds _ _ o m.beds m'.beds in
    let leaves = carried_alike (side H) dry g ρ b.tables.leaves _ _ o m.leaves m'.leaves in
    λ i. basin (head i) (tables (levels i) (beds i) (leaves i))

-- ---- one turn
flip_moves : (b : Basin) → Moved b.head (flip_place (side b.head)) flip_leaf b (flip_basin b)
flip_moves b =
    record {
      head = refl;
      levels = flip_carries (side b.head) 0 (λ m. m) b.tables.levels;
      beds = flip_carries (side b.head) 0 (λ m. m) b.tables.beds;
      leaves = flip_carries (side b.head) dry flip_leaf b.tables.leaves;
    }

quarter_moves : (b : Basin) → Moved b.head (quarter_place (side b.head)) quarter_leaf b (quarter_basin b)
quarter_moves b =
    record {
      head = refl;
      levels = quarter_carries (side b.head) 0 (λ m. m) b.tables.levels;
      beds = quarter_carries (side b.head) 0 (λ m. m) b.tables.beds;
      leaves = quarter_carries (side b.head) dry quarter_leaf b.tables.leaves;
    }

-- several times the same
module _ (G : Basin → Basin) (g : ℕ → Place → Place) (ρ : Leaf → Leaf)
    (keeps : (n : ℕ) (p : Place) → Inside n p → Inside n (g n p))
    (moves : (b : Basin) → Moved b.head (g (side b.head)) ρ b (G b)) where
  times_move : (k : ℕ) (H : Heading) (g₀ : Place → Place) (ρ₀ : Leaf → Leaf) (b b' : Basin)
      → ((p : Place) → Inside (side H) p → Inside (side H) (g₀ p)) → Moved H g₀ ρ₀ b b'
      → Moved H (λ p. times k (g (side H)) (g₀ p)) (λ l. times k ρ (ρ₀ l)) b (times k G b')
  times_move zero H g₀ ρ₀ b b' inside m = m
  times_move (suc k) H g₀ ρ₀ b b' inside m =
      let before = times_move k H g₀ ρ₀ b b' inside m in
      moved_on H (λ p. times k (g (side H)) (g₀ p)) (g (side H)) (λ l. times k ρ (ρ₀ l)) ρ b (times k G b') (G (times k G b'))
      (λ p i. times_keeps (Inside (side H)) (g (side H)) (keeps (side H)) k (g₀ p) (inside p i)) before
      (subst (λ H. Moved H (g (side H)) ρ (times k G b') (G (times k G b'))) before.head (moves (times k G b')))

turn_moves : (f r : ℕ) (b : Basin) → Full b.head b.tables
    → Moved b.head (turn_place (side b.head) f r) (λ l. times r quarter_leaf (times f flip_leaf l)) b (turn_basin f r b)
turn_moves f r b full =
    let n = side b.head in
    let still : Moved b.head (λ p. p) (λ l. l) b b =
    record {
      head = refl;
      levels = not_carried n 0 b.tables.levels full.levels;
      beds = not_carried n 0 b.tables.beds full.beds;
      leaves = not_carried n dry b.tables.leaves full.leaves;
    } in
    let flips = times_move flip_basin flip_place flip_leaf flip_keeps flip_moves f b.head (λ p. p) (λ l. l) b b (λ p i. i) still in
    times_move quarter_basin quarter_place quarter_leaf quarter_keeps quarter_moves r b.head (times f (flip_place n)) (times f flip_leaf) b (times f flip_basin b)
    (times_keeps (Inside n) (flip_place n) (flip_keeps n) f) flips

-- every place is the turned one of that which the undoing turn takes it to
turn_onto : (n t : ℕ) → t < 8 → Onto n (turned_place n t)
turn_onto n t h =
    record {
      from = turned_place n (undoing t);
      inside = turn_keeps n (undoing t / 4) (undoing t % 4);
      back = undone_first (flip_place n) (quarter_place n) (places_turn n) t h;
    }

-- ---- what a turned basin says at each place
pub squares_turn : SquaresTurn
squares_turn b right t x y a c =
    let m = turn_moves (t / 4) (t % 4) b right.full in
    let p = turned_place (side b.head) t (place x y) in
    let i : Inside (side b.head) (place x y) = record { east = a; north = c } in
    record {
      level = ap (λ H. entry (side H) 0 (turned_basin t b).tables.levels p.x p.y) m.head ∙ m.levels.entries (place x y) i;
      bed = ap (λ H. entry (side H) 0 (turned_basin t b).tables.beds p.x p.y) m.head ∙ m.beds.entries (place x y) i;
      leaf = ap (λ H. entry (side H) dry (turned_basin t b).tables.leaves p.x p.y) m.head ∙ m.leaves.entries (place x y) i;
    }

-- ---- the tables that have turned entries are those of the turned basin
pub turned_is : (b : Basin) (second : Tables) (t : ℕ) → Full b.head b.tables → t < 8
    → TurnedTable (λ t m. m) (side b.head) t b.tables.levels second.levels
    → TurnedTable (λ t m. m) (side b.head) t b.tables.beds second.beds
    → TurnedTable turned_leaf (side b.head) t b.tables.leaves second.leaves
    → basin b.head second ≡ turned_basin t b
turned_is b second t full h levels beds leaves =
    moved_alike b.head (turned_place (side b.head) t) (turned_leaf t) b (basin b.head second) (turned_basin t b) (turn_onto (side b.head) t h)
    (record {
      head = refl;
      levels = carried 0 b.tables.levels second.levels (λ t m. m) levels;
      beds = carried 0 b.tables.beds second.beds (λ t m. m) beds;
      leaves = carried dry b.tables.leaves second.leaves turned_leaf leaves;
    })
    (turn_moves (t / 4) (t % 4) b full)
  where
    carried : {A : Type 0} (d : A) (xs ys : List A) (turned : ℕ → A → A) → TurnedTable turned (side b.head) t xs ys
        → Carried (side b.head) d (turned_place (side b.head) t) (turned t) xs ys
    carried d xs ys turned e = record { full = e.full; entries = λ p i. e.entries p.x p.y d i.east i.north }

-- ---- two turns
pub turns_compose : TurnsCompose
turns_compose b right s t hs ht =
    let n = side b.head in
    let c = composite_of s t in
    let first = turn_moves (s / 4) (s % 4) b right.full in
    let full : Full (turned_basin s b).head (turned_basin s b).tables =
    subst (λ H. Full H (turned_basin s b).tables) (sym first.head)
    (record { levels = first.levels.full; beds = first.beds.full; leaves = first.leaves.full }) in
    let second = subst (λ H. Moved H (turned_place (side H) t) (turned_leaf t) (turned_basin s b) (turned_basin t (turned_basin s b))) first.head
    (turn_moves (t / 4) (t % 4) (turned_basin s b) full) in
    let both = moved_on b.head (turned_place n s) (turned_place n t) (turned_leaf s) (turned_leaf t) b (turned_basin s b)
    (turned_basin t (turned_basin s b)) (turn_keeps n (s / 4) (s % 4)) first second in
    moved_alike b.head (turned_place n c) (turned_leaf c) b (turned_basin t (turned_basin s b)) (turned_basin c b) (turn_onto n c (omega arith))
    (subst₂ (λ g ρ. Moved b.head g ρ b (turned_basin t (turned_basin s b)))
    (fun_ext (two_turns (flip_place n) (quarter_place n) (places_turn n) s t hs ht)) (fun_ext (two_turns flip_leaf quarter_leaf records_turn s t hs ht)) both)
    (turn_moves (c / 4) (c % 4) b right.full)

-- ---- a turned valid basin is a valid basin
pub flip_squares : (v : View) → Valid v → Valid (flip_view v)
flip_squares v valid =
    valid_turns v (flip_view v).level (flip_view v).bed (flip_view v).leaf (λ x y. size v - 1 - x) (λ x y. y) flip_leaf (flipped v.L)
    (record { levels = λ x y a c. refl; beds = λ x y a c. refl; leaves = λ x y a c. refl }) valid

pub transpose_squares : (v : View) → Valid v → Valid (transpose_view v)
transpose_squares v valid =
    valid_turns v (transpose_view v).level (transpose_view v).bed (transpose_view v).leaf (λ x y. y) (λ x y. x) transpose_leaf (transposed v.L)
    (record { levels = λ x y a c. refl; beds = λ x y a c. refl; leaves = λ x y a c. refl }) valid

pub flip_valid : (b : Basin) → ValidBasin b → ValidBasin (flip_basin b)
flip_valid b right = packed_valid b.head.loose (flip_view (view b)) right.head (flip_squares (view b) right.squares)

pub quarter_valid : (b : Basin) → ValidBasin b → ValidBasin (quarter_basin b)
quarter_valid b right =
    packed_valid b.head.loose (quarter_view (view b)) right.head (flip_squares (transpose_view (view b)) (transpose_squares (view b) right.squares))

pub turned_valid : (t : ℕ) (b : Basin) → ValidBasin b → ValidBasin (turned_basin t b)
turned_valid t b right =
    times_keeps ValidBasin quarter_basin quarter_valid (t % 4) (times (t / 4) flip_basin b) (times_keeps ValidBasin flip_basin flip_valid (t / 4) b right)
