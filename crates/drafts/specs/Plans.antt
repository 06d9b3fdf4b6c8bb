-- What the calls on a draft answer, and what they leave of the tables.
use Rattle.std.specs.Prelude.{ℕ, ◌+◌, ◌*◌, Bool, cond, not, ◌&&◌, ◌||◌, List, length, replicate, Ok, Err, Result, ◌==◌, nat_le, nat_lt, slice_set}
use Rattle.std.specs.List.{list_all}
use Rattle.basin.specs.declared.refusal.Refusal.{Refusal}
use Rattle.basin.specs.declared.refusal.Refusal.TheVariants.{TableLength, NotABasin, OffGrid, OutOfRange}
use Rattle.basin.specs.Basins.{Heading, Tables, tables, side}
use Rattle.basin.specs.Records.{dry}
use Rattle.drafts.specs.declared.draft.Draft.{Draft}

-- the numbers of a draft
pub record Plan : Type 0 where
  pub L : ℕ
  pub d : ℕ

abbrev pub plan : ℕ → ℕ → Plan
plan L d = record { L = L; d = d }

abbrev pub planned : Draft → Plan
planned d = plan d.head.levels d.head.width

-- the head of the basin that a draft becomes
abbrev pub headed : Plan → Heading
headed p = record { L = p.L; d = p.d; loose = 0 }

-- the squares along a side, and all of them
abbrev pub side_of : Plan → ℕ
side_of p = side (headed p)

abbrev pub squares_of : Plan → ℕ
squares_of p = side_of p * side_of p

-- a table has an entry for each square
abbrev pub fits : {A : Type 0} → Plan → List A → Bool
fits p t = length t == squares_of p

-- and so have all three
abbrev pub full : Plan → Tables → Bool
full p t = fits p t.levels && (fits p t.beds && fits p t.leaves)

-- every bed is at most 30,000
abbrev pub all_low : List ℕ → Bool
all_low beds = list_all (λ b. nat_le b 30000) beds

-- the levels and the width are in their ranges
abbrev pub in_range : Plan → Bool
in_range p = nat_le p.L 6 && (nat_le 1 p.d && nat_le p.d 1000)

abbrev pub open_of : (L d : ℕ) → (beds : List ℕ) → Result Plan Refusal × List ℕ
open_of L d beds =
    cond (not (in_range (plan L d))) (Err OutOfRange, beds)
    (cond (not (fits (plan L d) beds)) (Err TableLength, beds)
    (Ok (plan L d), replicate (squares_of (plan L d)) 0))

abbrev pub lay_of : Plan → (beds : List ℕ) → (x y bed : ℕ) → Result (Unit {0}) Refusal × List ℕ
lay_of p beds x y bed =
    cond (not (fits p beds)) (Err TableLength, beds)
    (cond (nat_le (side_of p) x || nat_le (side_of p) y) (Err OffGrid, beds)
    (cond (nat_lt 30000 bed) (Err OutOfRange, beds)
    (Ok tt, slice_set beds (y * side_of p + x) bed)))

-- the tables of a basin of one dry leaf
abbrev pub one_dry_leaf : Plan → List ℕ → Tables
one_dry_leaf p beds = tables (replicate (squares_of p) 0) beds (replicate (squares_of p) dry)

abbrev pub close_of : Plan → Tables → Result Heading (Refusal × Plan) × Tables
close_of p t =
    cond (not (full p t)) (Err (TableLength, p), t)
    (cond (not (all_low t.beds)) (Err (NotABasin, p), t)
    (Ok (headed p), one_dry_leaf p t.beds))
