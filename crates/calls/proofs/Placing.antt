-- The refusals that every call at a square may meet, and the spot of a square that meets none.
use Rattle.std.proofs.Common.{◌≡◌, ℕ, ◌<◌, Ok, Err, sym, refl, ◌∙◌, subst, arith}
use Rattle.std.proofs.lemmas.Bool.Decides.{nat_tests}
use Rattle.basin.specs.declared.leaf.Leaf.{Leaf}
use Rattle.basin.specs.declared.plot.Plot.{Plot}
use Rattle.basin.specs.declared.refusal.Refusal.{Refusal}
use Rattle.basin.specs.declared.refusal.Refusal.TheVariants.{OffGrid}
use Rattle.basin.specs.declared.square.Square.{Square}
use Rattle.basin.specs.Basins.{Basin, side, view, ValidBasin}
use Rattle.basin.specs.Flaws.{validity}
use Rattle.basin.specs.Places.{IsAt}
use Rattle.basin.proofs.Telling.{valid_told}
use Rattle.tables.specs.Surveys.{BlockAt}
use Rattle.calls.specs.declared.spot.Spot.{Spot}
use Rattle.calls.specs.Spots.{placing, Located, Covers}

-- no valid basin
pub placing_refused : (b : Basin) (x y : ℕ) (e : Refusal) → Err e ≡ validity b → placing b x y ≡ Err e
unfolding placing
placing_refused b x y e h = rw (sym h) refl

-- a square outside a valid basin
pub placing_off : (b : Basin) (x y : ℕ) → ValidBasin b → (x < side b.head → y < side b.head → ⊥) → placing b x y ≡ Err OffGrid
unfolding placing
placing_off b x y v off = rw (valid_told b v) (grind (arith, nat_tests))

-- a square of a valid basin
pub placing_passed : (b : Basin) (x y : ℕ) → ValidBasin b → x < side b.head → y < side b.head → placing b x y ≡ Ok tt
unfolding placing
placing_passed b x y v across up = rw (valid_told b v) (grind (arith, nat_tests))

-- the square (x, y) lies in its basin
pub across : (n x y : ℕ) (q : Square) → IsAt x y n q → x < n
across n x y q at = omega (arith, at.x_is, at.n_is, q.inside.1)

pub up : (n x y : ℕ) (q : Square) → IsAt x y n q → y < n
up n x y q at = omega (arith, at.y_is, at.n_is, q.inside.2)

-- the spot, by the level, the record and the block of the square
pub located : (b : Basin) (x y : ℕ) (q : Square) (k : ℕ) (l : Leaf) (p : Plot) → ValidBasin b → IsAt x y (side b.head) q
    → k ≡ (view b).level q.x q.y → l ≡ (view b).leaf q.x q.y → BlockAt b k q.x q.y p
    → Located b x y (record { square = q; level = k; leaf = l; plot = p })
located b x y q k l p valid at ek el ep =
    record {
      passed = placing_passed b x y valid (across _ x y q at) (up _ x y q at);
      valid = valid;
      east = across _ x y q at;
      north = up _ x y q at;
      square = at;
      level_is = ek ∙ (λ i. (view b).level (at.x_is i) (at.y_is i));
      leaf_is = el ∙ (λ i. (view b).leaf (at.x_is i) (at.y_is i));
      block = rw (sym at.x_is, sym at.y_is, sym ek) ep;
    }

-- its plot is the block of its leaf
pub located_covers : (b : Basin) (x y : ℕ) (s : Spot) → Located b x y s → Covers b ((view b).level x y) x y s.plot
located_covers b x y s l =
    record { deep = l.valid.squares.quadtree.shallow x y l.east l.north; east = l.east; north = l.north; block = l.block }

-- a survey's spot is one of the basin that the survey shows
pub located_in : (a b : Basin) (x y : ℕ) (s : Spot) → a ≡ b → Located a x y s → Located b x y s
located_in a b x y s e l = subst (λ c. Located c x y s) e l

-- and a square that its survey refuses is refused
pub placed_in : (a b : Basin) (x y : ℕ) (e : Refusal) → a ≡ b → placing a x y ≡ Err e → placing b x y ≡ Err e
placed_in a b x y e same h = subst (λ c. placing c x y ≡ Err e) same h
