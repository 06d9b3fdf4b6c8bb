-- The work table between the sends of one leaf's visit: it has room for each.
use Rattle.std.proofs.Common.{◌≡◌, ℕ, ◌+◌, ◌*◌, ◌^◌, ◌≤◌, List, length, ap, ◌∙◌, arith}
use Rattle.basin.specs.declared.dir.Dir.{Dir}
use Rattle.basin.specs.declared.dir.Dir.TheVariants.{East, North, West, South}
use Rattle.basin.specs.declared.leaf.Leaf.{Leaf}
use Rattle.basin.specs.Basins.{Basin, view, ValidBasin}
use Rattle.basin.specs.Blocks.{Block}
use Rattle.runs.specs.Homes.{tree}
use Rattle.runs.specs.Rules.{Rule}
use Rattle.runs.specs.Step.{out_of}
use Rattle.runs.specs.Trees.{Tree, beside}
use Rattle.runs.proofs.Sides.{side_leads}
use Rattle.runs.proofs.Sounds.{sound}
use Rattle.blocks.specs.declared.block.Edge.{Edge}
use Rattle.basin.specs.declared.sides.Sides.{Sides}
use Rattle.blocks.specs.declared.block.Edge.{Edge}
use Rattle.blocks.specs.Places.{as_side, beside_in, LeafAt, Around}
use Rattle.visits.specs.declared.departure.Departure.{Departure}
use Rattle.visits.specs.declared.departure.Outflow.{Outflow}
use Rattle.visits.specs.Departures.{SmallOutflow, SmallDeparture, RoomOn, outflow_from, departure_from}
use Rattle.visits.specs.Visits.{held, sent, taken, Room, AllVisited}
use Rattle.visits.proofs.Limits.{leads}
use Rattle.visits.proofs.Sending.{length_taken, length_sent, below_sent, below_taken, room_on, visit_is}

-- no entry holds more than m
pub record Stage (L : ℕ) (levels : List ℕ) (work : List Leaf) (m : ℕ) : Type 0 where
  pub full : length work ≡ 2 ^ L * 2 ^ L
  pub room : Room L levels work m

-- there is room for what goes across a side
pub record Sendable (L : ℕ) (work : List Leaf) (e : Edge) (o : Outflow) : Type 0 where
  pub full : length work ≡ 2 ^ L * 2 ^ L
  pub room : RoomOn L work e o

module _ (b : Basin) (ok : ValidBasin b) (m : Block) (lm : LeafAt b.head.L b.tables.levels m) where
  abbrev L : ℕ
  L = b.head.L

  abbrev levels : List ℕ
  levels = b.tables.levels

  abbrev t : Tree
  t = tree (view b)

  stage_sent : (p : Dir) (w w' : List Leaf) (k : ℕ) (e : Edge) (o : Outflow) → Stage L levels w k → as_side e ≡ beside_in L levels p m → SmallOutflow o
      → w' ≡ sent L w (as_side e) o.first o.second → Stage L levels w' (k + 307200000)
  stage_sent p w w' k e o s a h f =
      rw f
      (record {
        full = length_sent L w (as_side e) o.first o.second ∙ s.full;
        room = below_sent (view b) w s.full (as_side e) (leads b ok p m e lm a) o h k s.room;
      })

  sendable : (p : Dir) (w : List Leaf) (k : ℕ) (e : Edge) (o : Outflow) → Stage L levels w k → as_side e ≡ beside_in L levels p m → SmallOutflow o → k ≤ 3000000000
      → Sendable L w e o
  sendable p w k e o s a h z =
      record { full = s.full; room = room_on (view b) ok.head.levels w s.full e (leads b ok p m e lm a) o h k s.room z }

  -- a leaf that borders on these sides, and what leaves it by a rule in a time
  module _ (R : Rule) (T : ℕ) (s : Sides Edge) (around : Around L levels m s) (q : Departure) (is : q ≡ departure_from R T t m) (small : SmallDeparture q) where
    pub total_is : q.total ≡ out_of R T t m
    unfolding departure_from
    total_is = ap (λ q. q.total) is

    abbrev Sent : List Leaf → Edge → Outflow → List Leaf → Type 0
    Sent w e o w' = w' ≡ sent L w (as_side e) o.first o.second

    -- what the code sent across a side is what the step says
    on_side : (w w' : List Leaf) (p : Dir) (e : Edge) (o : Outflow) → o ≡ outflow_from R T t p m → as_side e ≡ beside_in L levels p m → Sent w e o w'
        → w' ≡ sent L w (beside t p m) (outflow_from R T t p m).first (outflow_from R T t p m).second
    on_side w w' p e o f a h =
        h ∙ ap (λ o. sent L w (as_side e) o.first o.second) f
        ∙ ap (λ k. sent L w k (outflow_from R T t p m).first (outflow_from R T t p m).second) a

    -- the work table at first, and without what leaves
    module _ (w₀ w₁ : List Leaf) (full : length w₀ ≡ 2 ^ L * 2 ^ L) (room : Room L levels w₀ 1400000000) (enough : out_of R T t m ≤ (held L w₀ m).water)
        (took : w₁ ≡ taken L w₀ m q.total q.new_east q.new_north) where
      can_give : q.total ≤ (held L w₀ m).water
      can_give = omega (arith, total_is, enough)

      stage_1 : Stage L levels w₁ 1400000000
      stage_1 =
          rw took
          (record {
            full = length_taken L w₀ m q.total q.new_east q.new_north ∙ full;
            room = below_taken (view b) w₀ full m lm q.total q.new_east q.new_north can_give 1400000000 room;
          })

      pub east_fits : Sendable L w₁ s.east q.outflows.east
      east_fits = sendable East w₁ 1400000000 s.east q.outflows.east stage_1 around.east small.east (omega arith)

      -- with what goes east
      module _ (w₂ : List Leaf) (e₂ : Sent w₁ s.east q.outflows.east w₂) where
        stage_2 : Stage L levels w₂ 1707200000
        stage_2 = stage_sent East w₁ w₂ 1400000000 s.east q.outflows.east stage_1 around.east small.east e₂

        pub north_fits : Sendable L w₂ s.north q.outflows.north
        north_fits = sendable North w₂ 1707200000 s.north q.outflows.north stage_2 around.north small.north (omega arith)

        -- and north
        module _ (w₃ : List Leaf) (e₃ : Sent w₂ s.north q.outflows.north w₃) where
          stage_3 : Stage L levels w₃ 2014400000
          stage_3 = stage_sent North w₂ w₃ 1707200000 s.north q.outflows.north stage_2 around.north small.north e₃

          pub west_fits : Sendable L w₃ s.west q.outflows.west
          west_fits = sendable West w₃ 2014400000 s.west q.outflows.west stage_3 around.west small.west (omega arith)

          -- and west
          module _ (w₄ : List Leaf) (e₄ : Sent w₃ s.west q.outflows.west w₄) where
            stage_4 : Stage L levels w₄ 2321600000
            stage_4 = stage_sent West w₃ w₄ 2014400000 s.west q.outflows.west stage_3 around.west small.west e₄

            pub south_fits : Sendable L w₄ s.south q.outflows.south
            south_fits = sendable South w₄ 2321600000 s.south q.outflows.south stage_4 around.south small.south (omega arith)

            -- and south
            pub visited : (w₅ : List Leaf) → Sent w₄ s.south q.outflows.south w₅ → AllVisited L levels R T t m w₀ w₅
            unfolding departure_from
            visited w₅ e₅ c lc =
                visit_is (view b) R T m c lm lc w₀ w₁ w₂ w₃ w₄ w₅ q.total q.new_east q.new_north full
                (λ p. side_leads t (sound (view b) ok.squares.quadtree) p m lm.0 lm.1)
                (ap (λ q. q.total) is) (ap (λ q. q.new_east) is) (ap (λ q. q.new_north) is) can_give took
                (on_side w₁ w₂ East s.east q.outflows.east (ap (λ q. q.outflows.east) is) around.east e₂)
                (on_side w₂ w₃ North s.north q.outflows.north (ap (λ q. q.outflows.north) is) around.north e₃)
                (on_side w₃ w₄ West s.west q.outflows.west (ap (λ q. q.outflows.west) is) around.west e₄)
                (on_side w₄ w₅ South s.south q.outflows.south (ap (λ q. q.outflows.south) is) around.south e₅)
