-- What the calls answer, case by case.
use Rattle.std.proofs.Common.{◌≡◌, ℕ, ℤ, ◌<◌, Ok, Err, sym, refl, ap, ◌∙◌, arith}
use Rattle.std.proofs.lemmas.Bool.Decides.{nat_tests}
use Rattle.basin.specs.declared.leaf.Leaf.{Leaf}
use Rattle.basin.specs.declared.refusal.Refusal.{Refusal}
use Rattle.basin.specs.declared.refusal.Refusal.TheVariants.{OffGrid}
use Rattle.basin.specs.declared.square.Square.{Square}
use Rattle.basin.specs.Basins.{Basin, side, view}
use Rattle.basin.specs.Flaws.{validity}
use Rattle.basin.specs.Places.{IsAt}
use Rattle.basin.specs.Squares.{surface}
use Rattle.basin.specs.Totals.{total}
use Rattle.tables.specs.Surveys.{surveyed}
use Rattle.tables.specs.declared.survey.Survey.{Survey}
use Rattle.looks.specs.declared.look.Look.{Look}
use Rattle.looks.specs.Looks.{seen, look_of, total_of}

-- no valid basin
pub look_refused : (b : Basin) (x y : ℕ) (e : Refusal) → Err e ≡ validity b → Err e ≡ look_of b x y
unfolding look_of
look_refused b x y e h = rw (sym h) refl

pub total_refused : (b : Basin) (e : Refusal) → Err e ≡ validity b → Err e ≡ total_of b
unfolding total_of
total_refused b e h = rw (sym h) refl

-- a square outside the basin
pub look_off : (b : Basin) (x y : ℕ) → Ok tt ≡ validity b → (x < side b.head → y < side b.head → ⊥) → Err OffGrid ≡ look_of b x y
unfolding look_of
look_off b x y h off = rw (sym h) (grind (arith, nat_tests))

-- a square of a valid basin, by what its survey says; the answer's discharges are those of its record
pub seen_is : (s : Survey) (b : Basin) (q : Square) (x y k w : ℕ) (l : Leaf) (f g : ℤ) → surveyed s ≡ b → IsAt x y (side b.head) q
    → k ≡ (view (surveyed s)).level q.x q.y → l ≡ (view (surveyed s)).leaf q.x q.y → w ≡ surface (view (surveyed s)) q.x q.y
    → f ≡ l.east → g ≡ l.north
    → record { level = k; water = l.water; surface = w; east = f; north = g } ≡ seen (view b) x y
seen_is s b q x y k w l f g e at ek el ew ef eg =
    let east : f ≡ ((view (surveyed s)).leaf q.x q.y).east = ef ∙ ap (λ l. l.east) el in
    let north : g ≡ ((view (surveyed s)).leaf q.x q.y).north = eg ∙ ap (λ l. l.north) el in
    (λ i. record { level = ek i; water = (el i).water; surface = ew i; east = east i; north = north i })
    ∙ (λ i. seen (view (e i)) (at.x_is i) (at.y_is i))

pub look_granted : (b : Basin) (x y : ℕ) (l : Look) → Ok tt ≡ validity b → x < side b.head → y < side b.head → l ≡ seen (view b) x y
    → Ok l ≡ look_of b x y
unfolding look_of
look_granted b x y l h across up s = rw (sym h, s) (grind (arith, nat_tests))

pub total_granted : (b : Basin) → Ok tt ≡ validity b → Ok (total b) ≡ total_of b
unfolding total_of
total_granted b h = rw (sym h) refl
