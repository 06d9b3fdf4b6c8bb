use Rattle.numbers.proofs.Forms.{written_is_read, read_was_written, signed_back, coded_back}
use Rattle.numbers.proofs.number.numbers_have_one_form.Goals as goal

pub returns : goal.returns
returns c = record { written = written_is_read; read = read_was_written; signed = (signed_back, coded_back) }
