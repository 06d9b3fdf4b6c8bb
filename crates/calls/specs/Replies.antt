-- What a call's result replies.
use Rattle.std.specs.Prelude.{ℕ, Ok, Err, Result}
use Rattle.basin.specs.declared.refusal.Refusal.{Refusal}
use Rattle.runs.specs.Calls.{Reply, granted, refused}

abbrev pub replied : Result ℕ Refusal → Reply
replied (Ok answer) = granted answer
replied (Err refusal) = refused refusal
