-- What a writer writes.
use Rattle.std.specs.Prelude.{◌≡◌, ℕ, ◌+◌, ◌≤◌, List, length}
use Rattle.std.proofs.lemmas.List.Edits.{sets}
use Rattle.encode.specs.declared.writer.Writer.{Writer}

-- these bytes fit into what is left of the output
pub record Room (bytes : List ℕ) (w : Writer) : Type 0 where
  pub fits : w.at + length bytes ≤ length w.out.now

-- the writer w, which then is v, writes these bytes
pub record Puts (bytes : List ℕ) (w v : Writer) : Type 0 where
  pub same : v.out.ghost_name ≡ w.out.ghost_name
  pub place : v.at ≡ w.at + length bytes
  pub written : v.out.now ≡ sets w.out.now w.at bytes
