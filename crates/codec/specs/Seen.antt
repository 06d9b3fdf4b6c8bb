-- What the functions of the reader answer, as plain values.
use Rattle.std.specs.Prelude.{◌≡◌, ℕ, List, Ok, Err, Result}
use Rattle.basin.specs.declared.head.Head.{Head}
use Rattle.basin.specs.Basins.{Heading, heading, Tables}
use Rattle.nodes.specs.Trees as trees
use Rattle.codec.specs.Files.{charted}
use Rattle.codec.specs.declared.fault.FileFault.{FileFault}

abbrev pub seen : Result Head FileFault → Result Heading FileFault
seen (Ok h) = Ok (heading h)
seen (Err e) = Err e

-- with the place after it
abbrev pub head_seen : Result (Head × ℕ) FileFault → Result (Heading × ℕ) FileFault
head_seen (Ok h) = Ok (heading h.0, h.1)
head_seen (Err e) = Err e

-- only whether it was read
abbrev pub whether : {A : Type 0} → Result A FileFault → Result (Unit {0}) FileFault
whether (Ok x) = Ok tt
whether (Err e) = Err e

-- where a tree and beds were read, the tables are those of their basin
abbrev pub Charts : Heading → Result (trees.Tree × List ℕ) FileFault → Tables → Type 0
Charts h (Ok b) t = t ≡ (charted h b.0 b.1).tables
Charts h (Err e) t = Unit {0}
