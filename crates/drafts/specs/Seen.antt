-- What the calls answer, as plain values.
use Rattle.std.specs.Prelude.{Ok, Err, Result}
use Rattle.basin.specs.declared.head.Head.{Head}
use Rattle.basin.specs.declared.refusal.Refusal.{Refusal}
use Rattle.basin.specs.Basins.{Heading, heading}
use Rattle.drafts.specs.declared.draft.Draft.{Draft}
use Rattle.drafts.specs.Plans.{Plan, planned}

abbrev pub opened : Result Draft Refusal → Result Plan Refusal
opened (Ok d) = Ok (planned d)
opened (Err e) = Err e

-- a refused close hands the draft back
abbrev pub closed : Result Head (Refusal × Draft) → Result Heading (Refusal × Plan)
closed (Ok h) = Ok (heading h)
closed (Err e) = Err (e.0, planned e.1)
