-- The worked examples, as one statement over the definitions.
use Rattle.std.specs.Prelude.{◌≡◌, [], ◌∷◌, Ok, Err}
use Rattle.basin.specs.Basins.{Basin, basin, tables}
use Rattle.basin.specs.Records.{dry}
use Rattle.basin.specs.Refusals.{number_of}
use Rattle.numbers.specs.declared.fault.NumberFault.TheVariants.{Malformed}
use Rattle.numbers.specs.Layers.{layer_number}
use Rattle.numbers.specs.Numbers.{number, number_at}
use Rattle.numbers.specs.Reports.{number_report}
use Rattle.codec.specs.Files.{file_at}

-- one dry square, 1 m wide, with its bed at 0 and nothing loose
abbrev pub one_square : Basin
one_square = basin (record { L = 0; d = 1; loose = 0 }) (tables (0 ∷ []) (0 ∷ []) (dry ∷ []))

pub record Worked : Type 0 where
  -- 300 is AC 02
  pub three_hundred : number 300 ≡ 0xac ∷ 0x02 ∷ []
  -- 80 00 is refused 13, at byte 0, in layer 1
  pub padded_zero : number_at (0x80 ∷ 0x00 ∷ []) 0 ≡ Err (Malformed 0)
  pub padded_zero_number : number_of (number_report (Malformed 0)).refusal ≡ 13
  pub padded_zero_layer : layer_number (number_report (Malformed 0)).layer ≡ 1
  -- the file of the dry basin of one square
  pub dry_file : file_at (0 ∷ 1 ∷ 0 ∷ 0 ∷ 0 ∷ 0 ∷ 0 ∷ 0 ∷ []) ≡ Ok one_square
