-- What is refused leaves the output as it was, and what is granted writes the file.
use Rattle.std.proofs.Common.{length, ap, ◌∙◌}
use Rattle.std.proofs.lemmas.List.Edits.{sets}
use Rattle.std.proofs.lemmas.Result.{err_from_is_err_and}
use Rattle.basin.specs.Basins.{Basin, basin_of}
use Rattle.encode.specs.Bytes.{file_bytes}
use Rattle.encode.proofs.Trips.{written_basin_is_read, read_file_is_written}
use Rattle.encode.proofs.Whole.{write_refused, write_short, write_granted}
use Rattle.encode.proofs.file.write.Goals as goal

pub returns-in_err-survey : goal.returns-in_err-survey
returns-in_err-survey c =
    let p = err_from_is_err_and c.from_residual.result c.from_residual.ensures.1 in
    let refused = write_refused (basin_of c.args.head c.args.levels.now c.args.beds.now c.args.leaves.now) c.args.out.now _ c.in_err-survey.ensures in
    record { written = rw (p.1, p.2) refused; back = written_basin_is_read; forth = read_file_is_written }

pub returns-then-out-length : goal.returns-then-out-length
returns-then-out-length c =
    let survey = c.in_ok-survey.ensures in
    let short = write_short (basin_of c.args.head c.args.levels.now c.args.beds.now c.args.leaves.now) c.args.out.now _
    survey.1 (c.file_length-length.ensures ∙ ap (λ (b : Basin). length (file_bytes b)) survey.0) c.if-out-length.true in
    record { written = short; back = written_basin_is_read; forth = read_file_is_written }

pub returns : goal.returns
returns c =
    let survey = c.in_ok-survey.ensures in
    let granted = write_granted (basin_of c.args.head c.args.levels.now c.args.beds.now c.args.leaves.now) c.args.out.now _
    survey.1 (c.file_length-length.ensures ∙ ap (λ (b : Basin). length (file_bytes b)) survey.0) _ c.if-out-length.false (c.put_file.ensures ∙ ap (λ (b : Basin). sets c.args.out.now 0 (file_bytes b)) survey.0) in
    record { written = granted; back = written_basin_is_read; forth = read_file_is_written }
