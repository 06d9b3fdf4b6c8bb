-- The entries of the work table after the walk come to the records after the step.
use Rattle.std.proofs.Common.{◌≡◌, ℕ, ◌+◌, ◌-◌, ◌*◌, ◌/◌, ◌%◌, ◌^◌, ◌<◌, ◌≤◌, Bool, not, ltb, List, length, get_or, ℤ, refl, ap, ◌∙◌, subst, mod-lt, div-lt_iff_lt-mul, div-add-mod', arith}
use lib.Arith.{digits_mod, digits_div, digits_lt}
use Rattle.basin.specs.declared.dir.Dir.{Dir}
use Rattle.basin.specs.declared.dir.Dir.TheVariants.{East, North, West, South}
use Rattle.basin.specs.declared.leaf.Leaf.{Leaf}
use Rattle.basin.specs.Basins.{Basin, view, ValidBasin}
use Rattle.basin.specs.Blocks.{Block, Within}
use Rattle.basin.specs.Finish.{finish}
use Rattle.basin.specs.Records.{dry, may_hold, InRange}
use Rattle.basin.specs.Squares.{some_square}
use Rattle.basin.specs.Sums.{only}
use Rattle.basin.specs.Tables.{table}
use Rattle.basin.specs.Views.{View}
use Rattle.basin.proofs.Sizes.{side_pos, side_times}
use Rattle.basin.proofs.Tabled.{tabled}
use Rattle.runs.specs.Calls.{overfull}
use Rattle.runs.specs.Homes.{tree, home, after_step}
use Rattle.runs.specs.Rules.{Rule}
use Rattle.runs.specs.Step.{leaving, out_of, new_water, new_east, new_north, stepped}
use Rattle.runs.specs.Trees.{Tree, Side, wall, one, two, beside, each}
use Rattle.runs.proofs.Basins.{gives_what_it_has}
use Rattle.runs.proofs.Sides.{Leads, side_leads}
use Rattle.runs.proofs.Sounds.{sound}
use Rattle.blocks.specs.Places.{corner_entry, LeafAt, home_at}
use Rattle.visits.specs.Visits.{held}
use Rattle.visits.proofs.Corners.{corner_lt}
use Rattle.visits.proofs.Limits.{shallow}
use Rattle.walks.specs.Walks.{SoFar, Walked}
use Rattle.walks.proofs.Walking.{home_is, leaf_home}
use Rattle.step.specs.Ends.{Shaped, area_in, overfull_in, finished_in}
use Rattle.step.specs.Speeds.{AllInRange}
use Rattle.step.proofs.Squared.{same_squares}

-- the leaf of a square lies in the basin
pub home_within : (L : ℕ) (levels : List ℕ) (i : ℕ) → get_or levels i 0 ≤ L → i < 2 ^ L * 2 ^ L → Within L (home_at L levels i)
home_within L levels i h b =
    let k = get_or levels i 0 in
    let z = side_pos L in
    let s = side_pos (L - k) in
    let e = side_times L k h in
    let up : i / 2 ^ L < 2 ^ L = (div-lt_iff_lt-mul z).1 b in
    let north : i / 2 ^ L < 2 ^ k * 2 ^ (L - k) = omega (arith, e) in
    record { deep = h; east = (div-lt_iff_lt-mul s).1 (omega (arith, mod-lt i z, e)); north = (div-lt_iff_lt-mul s).1 north }

-- whether an entry holds too much, as the code tells it
pub overfull_told : (L : ℕ) (levels : List ℕ) (work : List Leaf) (i s : ℕ) (l : Leaf) (r : Bool) → s ≡ 2 ^ (L - get_or levels i 0) → l ≡ held L work (home_at L levels i)
    → r ≡ may_hold (s * s) l.water → not r ≡ overfull_in L levels work i
overfull_told L levels work i s l r e f h =
    ap not h ∙ ap (λ s. not (may_hold (s * s) l.water)) e ∙ ap (λ l. not (may_hold (area_in L levels i) l.water)) f

only_all : (j i x : ℕ) → j < i → only (ltb j i) x ≡ x
only_all j i x h = grind arith

same_finish : (area V W : ℕ) (x x' y y' : ℤ) → V ≡ W → x ≡ x' → y ≡ y' → finish area V x y ≡ finish area W x' y'
same_finish area V W x x' y y' p q r = ap (λ V. finish area V x y) p ∙ ap (λ x. finish area W x y) q ∙ ap (λ y. finish area W x' y) r

-- the record that an entry comes to, as the code makes it
pub finished_told : (L : ℕ) (levels : List ℕ) (work : List Leaf) (i s : ℕ) (l r : Leaf) (x y : ℤ) → s ≡ 2 ^ (L - get_or levels i 0) → l ≡ held L work (home_at L levels i)
    → r ≡ finish (s * s) l.water x y → x ≡ l.east → y ≡ l.north → r ≡ finished_in L levels work i
finished_told L levels work i s l r x y e f h p q =
    h ∙ same_finish (s * s) _ _ _ _ _ _ refl p q ∙ ap (λ s. finish (s * s) l.water l.east l.north) e
    ∙ ap (λ l. finish (area_in L levels i) l.water l.east l.north) f

module _ (b : Basin) (ok : ValidBasin b) where
  abbrev v : View
  v = view b

  abbrev t : Tree
  t = tree v

  abbrev L : ℕ
  L = b.head.L

  abbrev levels : List ℕ
  levels = b.tables.levels

  pub shaped : (work : List Leaf) → length work ≡ 2 ^ L * 2 ^ L → Shaped L levels work
  shaped work e = record { full_levels = ok.full.levels; full_work = e; shallow = shallow b ok }

  pub all_in_range : AllInRange L levels b.tables.leaves
  all_in_range i h =
      let z = side_pos L in
      let r = ok.squares.in_range (i % 2 ^ L) (i / 2 ^ L) (mod-lt i z) ((div-lt_iff_lt-mul z).1 h) in
      let P : ℕ → Type 0 = λ j. InRange (area_in L levels j) (get_or b.tables.leaves j dry) in
      subst P (div-add-mod' i (2 ^ L)) r

  each_all : (s : Side) → Leads t s → (f : Block → ℕ) → each s 0 (λ a. only (ltb (corner_entry L a) (2 ^ L * 2 ^ L)) (f a)) ≡ each s 0 f
  each_all wall l f = refl
  each_all (one a) l f = only_all _ _ (f a) (corner_lt v a l)
  each_all (two a c) l f = omega (arith, only_all _ _ (f a) (corner_lt v a l.0), only_all _ _ (f c) (corner_lt v c l.1))

  -- the work table after all visits
  module _ (R : Rule) (T : ℕ) (work : List Leaf) (walked : Walked R T b (2 ^ L * 2 ^ L) work) where
    leads : (p : Dir) (c : Block) → LeafAt L levels c → Leads t (beside t p c)
    leads p c l = side_leads t (sound v ok.squares.quadtree) p c l.0 l.1

    so : (c : Block) → LeafAt L levels c → SoFar L R T t (2 ^ L * 2 ^ L) work c
    unfolding Walked
    so c l = walked c l

    water_is : (c : Block) → LeafAt L levels c → (held L work c).water ≡ new_water R T t c
    water_is c l =
        let F = leaving R T t in
        omega (
          arith,
          (so c l).water,
          gives_what_it_has v R T c,
          only_all (corner_entry L c) (2 ^ L * 2 ^ L) (out_of R T t c) (corner_lt v c l),
          each_all (beside t East c) (leads East c l) (λ a. F West a c),
          each_all (beside t North c) (leads North c l) (λ a. F South a c),
          each_all (beside t West c) (leads West c l) (λ a. F East a c),
          each_all (beside t South c) (leads South c l) (λ a. F North a c),
        )

    -- by the entry of the square (x, y), whose leaf is its home
    module _ (x y : ℕ) (east : x < 2 ^ L) (north : y < 2 ^ L) where
      at_home : home_at L levels (y * 2 ^ L + x) ≡ home v x y
      at_home =
          home_is b ok (y * 2 ^ L + x) ∙ ap (λ a. home v a ((y * 2 ^ L + x) / 2 ^ L)) (digits_mod y east) ∙ ap (λ a. home v x a) (digits_div y east)

      is_leaf : LeafAt L levels (home_at L levels (y * 2 ^ L + x))
      is_leaf = leaf_home b ok (y * 2 ^ L + x) (digits_lt north east)

      water_at : (held L work (home_at L levels (y * 2 ^ L + x))).water ≡ new_water R T t (home v x y)
      water_at = water_is _ is_leaf ∙ ap (new_water R T t) at_home

      pub finished_is : finished_in L levels work (y * 2 ^ L + x) ≡ stepped R T t (home v x y)
      finished_is =
          let c = home_at L levels (y * 2 ^ L + x) in
          same_finish (area_in L levels (y * 2 ^ L + x)) _ _ _ _ _ _ water_at
          ((so c is_leaf).east (corner_lt v c is_leaf) ∙ ap (new_east R T t) at_home) ((so c is_leaf).north (corner_lt v c is_leaf) ∙ ap (new_north R T t) at_home)

    pub overfull_is : some_square (2 ^ L) (λ x y. overfull_in L levels work (y * 2 ^ L + x)) ≡ overfull (after_step R T v)
    overfull_is = same_squares (2 ^ L) _ _ (λ x y e n. ap (λ w. not (may_hold (area_in L levels (y * 2 ^ L + x)) w)) (water_at x y e n))

    pub leaves_are : (leaves : List Leaf) → length leaves ≡ 2 ^ L * 2 ^ L → ((i : ℕ) → i < 2 ^ L * 2 ^ L → get_or leaves i dry ≡ finished_in L levels work i)
        → leaves ≡ table (2 ^ L) (after_step R T v).leaf
    leaves_are leaves e h =
        tabled (2 ^ L) leaves dry (after_step R T v).leaf e (λ x y a c. h (y * 2 ^ L + x) (digits_lt c a) ∙ finished_is x y a c)
