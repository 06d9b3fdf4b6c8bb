-- The marks of a tree's nodes.
use Rattle.std.specs.Prelude.{◌≡◌, ℕ, ◌<◌, Result, MatchResult}
use Rattle.nodes.specs.declared.mark.Mark.{Mark}
use Rattle.nodes.specs.declared.mark.Mark.TheVariants.{Leaf, Cut}
use Rattle.nodes.specs.declared.mark.NoMark.{NoMark}

-- the number that a mark is in the file
abbrev pub number_of : Mark → ℕ
number_of Leaf = 0
number_of Cut = 1

-- the mark that a number is, or the number where it is none
abbrev pub Decodes : ℕ → Result Mark NoMark → Type 0
Decodes n r = MatchResult r (λ m. number_of m ≡ n) (λ e. (e.0 ≡ n) × (1 < n))
