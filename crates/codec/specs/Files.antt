-- The basin that a file holds, and what reading it leaves.
use Rattle.std.specs.Prelude.{ℕ, zero, suc, ◌-◌, ◌*◌, cond, ◌&&◌, List, [], ◌∷◌, ◌++◌, length, Ok, Err, Result, ◌==◌, nat_le}
use Rattle.basin.specs.Basins.{Heading, Tables, tables, Basin, basin, side, view}
use Rattle.basin.specs.Flaws.{misfit}
use Rattle.basin.specs.Squares.{unbalanced}
use Rattle.basin.specs.Tables.{table}
use Rattle.numbers.specs.declared.fault.NumberFault.{NumberFault}
use Rattle.numbers.specs.Numbers.{number_at}
use Rattle.numbers.specs.Steps.{after}
use Rattle.nodes.specs.declared.fault.TreeFault.{TreeFault}
use Rattle.nodes.specs.declared.fault.TreeFault.TheVariants.{Number, Unbalanced}
use Rattle.nodes.specs.Trees as trees
use Rattle.nodes.specs.Trees.{node_at, found}
use Rattle.codec.specs.declared.fault.FileFault.{FileFault}
use Rattle.codec.specs.declared.fault.FileFault.TheVariants.{Tree, Range, Trailing, TableLength}

-- a number's fault in a file, and a tree's, carried whole
abbrev pub of_number : {A : Type 0} → Result A NumberFault → Result A FileFault
of_number (Ok x) = Ok x
of_number (Err f) = Err (Tree (Number f))

abbrev pub of_tree : {A : Type 0} → Result A TreeFault → Result A FileFault
of_tree (Ok x) = Ok x
of_tree (Err f) = Err (Tree f)

-- a number of the file from least to most
abbrev pub ranged_at : List ℕ → (at least most : ℕ) → Result (ℕ × ℕ) FileFault
ranged_at bs at least most =
    after (of_number (number_at bs at)) (λ v. cond (nat_le least v.0 && nat_le v.0 most) (Ok v) (Err (Range at)))

-- L, d and the loose account
abbrev pub head_at : List ℕ → Result (Heading × ℕ) FileFault
head_at bs =
    after (ranged_at bs 0 0 6) (λ l.
    after (ranged_at bs l.1 1 1000) (λ d.
    after (ranged_at bs d.1 0 1000000) (λ w.
    Ok (record { L = l.0; d = d.0; loose = w.0 }, w.1))))

-- the squares of the basin with that head
abbrev pub squares_of : Result (Heading × ℕ) FileFault → ℕ
squares_of (Ok h) = side h.0 * side h.0
squares_of (Err e) = 0

-- the beds that are left to read, after those in got
unfoldable pub beds_from : (more : ℕ) → List ℕ → ℕ → List ℕ → Result (List ℕ × ℕ) FileFault
beds_from zero bs at got = Ok (got, at)
beds_from (suc more) bs at got = after (ranged_at bs at 0 30000) (λ h. beds_from more bs h.1 (got ++ (h.0 ∷ [])))

abbrev pub beds_at : (count : ℕ) → List ℕ → ℕ → Result (List ℕ × ℕ) FileFault
beds_at count bs at = beds_from count bs at []

-- what follows the head: the tree and the beds, to the end of the file
unfoldable pub body_at : ℕ → List ℕ → ℕ → Result (trees.Tree × List ℕ) FileFault
body_at L bs at =
    after (of_tree (node_at L bs at)) (λ t.
    after (beds_at (trees.side L * trees.side L) bs t.1) (λ b.
    cond (b.1 == length bs) (Ok (t.0, b.0)) (Err (Trailing b.1))))

-- the basin of a head, a tree and beds: each square has the level and the record of the leaf that it lies in
abbrev pub charted : Heading → trees.Tree → List ℕ → Basin
charted h t beds =
    basin h
    (tables
    (table (side h) (λ x y. h.L - (found h.L t x y).height))
    beds
    (table (side h) (λ x y. (found h.L t x y).leaf)))

-- a basin whose tree is not balanced is a fault of the file that holds it
abbrev pub balanced_in : List ℕ → Basin → Result Basin FileFault
balanced_in bs b = cond (unbalanced (side b.head) (view b).level) (Err (Tree (Unbalanced (length bs)))) (Ok b)

-- the basin that a file holds
unfoldable pub file_at : List ℕ → Result Basin FileFault
file_at bs =
    after (head_at bs) (λ h. after (body_at h.0.L bs h.1) (λ b. balanced_in bs (charted h.0 b.0 b.1)))

-- what a read answers, and what it leaves of the tables: those of the basin, or as they were
abbrev pub granted : Result Basin FileFault → Tables → Result Heading FileFault × Tables
granted (Ok b) t = (Ok b.head, b.tables)
granted (Err e) t = (Err e, t)

abbrev pub read_of : List ℕ → Tables → Result Heading FileFault × Tables
read_of bs t = granted (after (file_at bs) (λ b. cond (misfit b.head t) (Err (TableLength (length bs))) (Ok b))) t
