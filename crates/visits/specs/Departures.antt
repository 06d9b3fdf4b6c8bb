-- What leaves a leaf, side by side.
use Rattle.std.specs.Prelude.{ℕ, ◌+◌, ◌^◌, ◌<◌, ◌≤◌, List}
use Rattle.basin.specs.declared.dir.Dir.{Dir}
use Rattle.basin.specs.declared.dir.Dir.TheVariants.{East, North, West, South}
use Rattle.basin.specs.declared.leaf.Leaf.{Leaf}
use Rattle.basin.specs.Blocks.{Block}
use Rattle.runs.specs.Rules.{Rule}
use Rattle.runs.specs.Step.{drained, leaving, out_of, new_east, new_north}
use Rattle.runs.specs.Trees.{Tree, beside}
use Rattle.blocks.specs.declared.block.Block.{Block as Address}
use Rattle.blocks.specs.declared.block.Edge.{Edge}
use Rattle.blocks.specs.declared.block.Edge.TheVariants.{Wall, One, Two}
use Rattle.blocks.specs.Places.{as_block, Lies}
use Rattle.borders.specs.declared.border.Border.{Border}
use Rattle.borders.specs.Borders.{at_first, at_second}
use Rattle.visits.specs.declared.departure.Departure.{Departure}
use Rattle.visits.specs.declared.departure.Outflow.{Outflow}
use Rattle.visits.specs.Visits.{held, added}

-- what a leaf that holds V gives to the wishes of a side, where it is asked for Q in all
abbrev pub outflow_by : ℕ → ℕ → Border → Outflow
outflow_by V Q b = record { first = drained V Q b.first; second = drained V Q b.second }

-- what leaves c in direction p
abbrev pub outflow_from : Rule → ℕ → Tree → Dir → Block → Outflow
outflow_from R T t p c = record { first = at_first (beside t p c) (λ b. leaving R T t p c b); second = at_second (beside t p c) (λ b. leaving R T t p c b) }

unfoldable pub departure_from : Rule → ℕ → Tree → Block → Departure
departure_from R T t c =
    record {
      outflows = record {
        east = outflow_from R T t East c;
        north = outflow_from R T t North c;
        west = outflow_from R T t West c;
        south = outflow_from R T t South c;
      };
      total = out_of R T t c;
      new_east = new_east R T t c;
      new_north = new_north R T t c;
    }

-- how large they can be
pub record SmallOutflow (o : Outflow) : Type 0 where
  pub first : o.first ≤ 153600000
  pub second : o.second ≤ 153600000

pub record SmallDeparture (d : Departure) : Type 0 where
  pub east : SmallOutflow d.outflows.east
  pub north : SmallOutflow d.outflows.north
  pub west : SmallOutflow d.outflows.west
  pub south : SmallOutflow d.outflows.south

-- the entries of an edge have room for what goes there
abbrev pub RoomAt : ℕ → List Leaf → Address → ℕ → Type 0
RoomAt L work a v = Lies L a × ((held L work (as_block a)).water + v < 2 ^ 32)

abbrev pub RoomOn : ℕ → List Leaf → Edge → Outflow → Type 0
RoomOn L work Wall o = Unit {0}
RoomOn L work (One a) o = RoomAt L work a o.first
RoomOn L work (Two a b) o = RoomAt L work a o.first × RoomAt L (added L work (as_block a) o.first) b o.second
