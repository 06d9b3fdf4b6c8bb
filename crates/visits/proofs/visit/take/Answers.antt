-- The entry is that of the leaf's corner.
use Rattle.std.proofs.Common.{◌≡◌, ℕ, ◌-◌, List, get_or, set, ℤ, refl, w64, SFits, rules}
use Rattle.basin.specs.declared.leaf.Leaf.{Leaf}
use Rattle.basin.specs.Records.{dry}
use Rattle.flow.specs.Whole.{back}
use Rattle.visits.specs.Visits.{taken}
use Rattle.visits.proofs.visit.take.Goals as goal

same : (work : List Leaf) (i j out : ℕ) (x y x' y' : ℤ) → i ≡ j → x ≡ x' → y ≡ y'
    → set work i (record { water = (get_or work i dry).water - out; east = x; north = y })
    ≡ set work j (record { water = (get_or work j dry).water - out; east = x'; north = y' })
same work i j out x y x' y' p q r = cc

pub returns : goal.returns
unfolding taken
returns c =
    let q = c.args.departure in
    let fx : SFits w64 q.new_east = search rules in
    let fy : SFits w64 q.new_north = search rules in
    same c.args.work.now _ _ q.total _ _ q.new_east q.new_north c.corner-i.ensures.value (back _ _ fx refl) (back _ _ fy refl)
