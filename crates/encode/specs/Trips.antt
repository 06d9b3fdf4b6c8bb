-- The two round trips between a basin and its file.
use Rattle.std.specs.Prelude.{◌≡◌, ℕ, List, Ok}
use Rattle.basin.specs.Basins.{Basin, ValidBasin}
use Rattle.numbers.specs.Laws.{Bytes}
use Rattle.codec.specs.Files.{file_at}
use Rattle.encode.specs.Bytes.{file_bytes}

-- the file of a valid basin holds that basin
abbrev pub WrittenBasinIsRead : Type 0
WrittenBasinIsRead = (b : Basin) → ValidBasin b → file_at (file_bytes b) ≡ Ok b

-- bytes that hold a basin are that basin's file, so each basin has one
abbrev pub ReadFileIsWritten : Type 0
ReadFileIsWritten = (bs : List ℕ) (b : Basin) → Bytes bs → file_at bs ≡ Ok b → file_bytes b ≡ bs
