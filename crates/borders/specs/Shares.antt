-- One face, by the numbers of its two leaves.
use Rattle.std.specs.Prelude.{ℕ, ◌-◌, ◌≤◌, min, max, ℤ, pos, ◌-ℤ◌, neg_ℤ, unsigned_abs}
use borrow.Author.Differences.{up}
use Rattle.basin.specs.declared.dir.Dir.{Dir}
use Rattle.runs.specs.Rules.{State, Rule, mirrored, pressure}
use Rattle.runs.specs.Step.{Face, state_at, signed, scaled, by_way}
use Rattle.runs.specs.Trees.{ahead}
use Rattle.borders.specs.declared.pool.Pool.{Pool}
use Rattle.borders.specs.declared.share.Share.{Share}

abbrev pub face_of : State → State → ℕ → Face
face_of a b e = record { near = a; far = b; e = e }

-- from the leaf a to the leaf b in direction p
abbrev pub face_between : Dir → Pool → Pool → Face
face_between p a b =
    face_of (state_at p (a.surface - max a.bed b.bed) a.leaf) (state_at p (b.surface - max a.bed b.bed) b.leaf) (min a.side b.side)

abbrev pub face_at_wall : Dir → Pool → Face
face_at_wall p a =
    face_of (state_at p (a.surface - a.bed) a.leaf) (mirrored (state_at p (a.surface - a.bed) a.leaf)) a.side

-- in a step of T milliseconds with squares d metres wide: the water that wishes to leave across a face, and the momentum changes across and along it
unfoldable pub wish_by : Rule → ℕ → ℕ → Dir → Face → ℕ
wish_by R T d p a = up (signed (ahead p) (scaled d T (by_way R.flow (ahead p) a) a.e))

unfoldable pub across_by : Rule → ℕ → ℕ → Dir → Face → ℤ
across_by R T d p a = neg_ℤ (signed (ahead p) (scaled d T (by_way R.push (ahead p) a -ℤ pos (pressure a.near.h)) a.e))

unfoldable pub along_by : Rule → ℕ → ℕ → Dir → Face → ℤ
along_by R T d p a = neg_ℤ (signed (ahead p) (scaled d T (by_way R.drift (ahead p) a) a.e))

-- how large a share can be
pub record SmallShare (s : Share) : Type 0 where
  pub wish : s.wish ≤ 153600000
  pub across : unsigned_abs s.across ≤ 3840000000000
  pub along : unsigned_abs s.along ≤ 3840000000000
