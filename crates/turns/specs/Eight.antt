-- The turns by their numbers, and what each makes of what is so in the four directions.
use Rattle.std.specs.Prelude.{ℕ}
use Rattle.turns.specs.declared.eight.Turn.{Turn}
use Rattle.turns.specs.declared.eight.Turn.TheVariants.{R0, R1, R2, R3, F0, F1, F2, F3}

abbrev pub number_of : Turn → ℕ
number_of R0 = 0
number_of R1 = 1
number_of R2 = 2
number_of R3 = 3
number_of F0 = 4
number_of F1 = 5
number_of F2 = 6
number_of F3 = 7

-- what is so eastward and northward after a turn: a flip exchanges east and west, and a quarter turn takes east to north, north to west,
-- west to south and south to east
abbrev pub picked : {A : Type 0} → Turn → (east north west south : A) → A × A
picked R0 e n w s = (e, n)
picked R1 e n w s = (s, e)
picked R2 e n w s = (w, s)
picked R3 e n w s = (n, w)
picked F0 e n w s = (w, n)
picked F1 e n w s = (s, w)
picked F2 e n w s = (e, s)
picked F3 e n w s = (n, e)
