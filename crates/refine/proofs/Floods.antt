-- Water that stands above the ground beside it.
use Rattle.std.proofs.Common.{◌≡◌, ℕ, ◌*◌, ◌/◌, false, MatchOption, Option, None, Some, sym, ◌∙◌}
use Rattle.basin.specs.declared.plot.Plot.{Plot}
use Rattle.basin.specs.declared.square.Square.{Square}
use Rattle.basin.specs.Basins.{Basin, view}
use Rattle.basin.specs.Places.{IsAt}
use Rattle.basin.specs.Plots.{ground}
use Rattle.basin.specs.Squares.{bed_number}
use Rattle.basin.specs.Views.{View}
use Rattle.looks.proofs.Beds.{ground_is}
use Rattle.tables.specs.Surveys.{BlockAt}
use Rattle.refine.specs.Floods.{flows_onto, KeepsOff}

-- the bed number from a block
pub bed_number_is : (b : Basin) (k x y : ℕ) (p : Plot) → BlockAt b k x y p → ground p b.tables.beds / (p.side * p.side) ≡ bed_number (view b) k x y
bed_number_is b k x y p at = λ i. ground_is b k x y p at i / (at.side_is i * at.side_is i)

module _ (v : View) (j x y p q n : ℕ) (edge There : Type 0) where
  -- that the square beside keeps off is as much as that the square (p, q) does, where there is one
  pub kept_off : (from : Option Square) → MatchOption from edge (λ s. There × IsAt p q n s) → KeepsOff v j x y from → (edge → ⊥)
      → flows_onto v j x y p q ≡ false
  kept_off None at k inside = absurd (inside at)
  kept_off (Some s) at k inside = (λ i. flows_onto v j x y (sym at.1.x_is i) (sym at.1.y_is i)) ∙ k

  pub keeps_off : (from : Option Square) → MatchOption from edge (λ s. There × IsAt p q n s)
      → (There → flows_onto v j x y p q ≡ false) → KeepsOff v j x y from
  keeps_off None at d = tt
  keeps_off (Some s) at d = (λ i. flows_onto v j x y (at.1.x_is i) (at.1.y_is i)) ∙ d at.0
