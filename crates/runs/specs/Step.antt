-- One step of the water on a tree: what crosses each face, and the record that each leaf has afterwards.
use Rattle.std.specs.Prelude.{ℕ, zero, suc, ◌+◌, ◌-◌, ◌*◌, ◌/◌, ◌^◌, min, max, Bool, true, false, cond, ℤ, pos, ◌+ℤ◌, ◌-ℤ◌, ◌*ℤ◌, neg_ℤ, int_div, nat_le, unsigned_abs}
use borrow.Author.Differences.{up}
use Rattle.basin.specs.declared.dir.Dir.{Dir}
use Rattle.basin.specs.declared.dir.Dir.TheVariants.{East, North, West, South}
use Rattle.basin.specs.declared.leaf.Leaf.{Leaf}
use Rattle.basin.specs.Blocks.{Block}
use Rattle.basin.specs.Finish.{finish}
use Rattle.runs.specs.Rules.{State, Rule, mirrored}
use Rattle.runs.specs.Trees.{Tree, opposite, ahead, beside, each, eachℤ, round}

-- ---- one face, seen from a leaf
abbrev pub block_side : Tree → Block → ℕ
block_side t c = 2 ^ (t.L - c.k)

abbrev pub block_area : Tree → Block → ℕ
block_area t c = block_side t c * block_side t c

-- the surface number and the bed number of a leaf
abbrev pub block_surface : Tree → Block → ℕ
block_surface t c = ((t.leaf c).water + t.beds c) / block_area t c

abbrev pub block_bed : Tree → Block → ℕ
block_bed t c = t.beds c / block_area t c

-- the speed of the discharge X of the water V, where it is h deep
abbrev pub speed : ℕ → ℤ → ℕ → ℤ
speed zero X V = pos 0
speed (suc h) X V = int_div X (pos V)

abbrev pub state_at : Dir → ℕ → Leaf → State
state_at East h l = record { h = h; u = speed h l.east l.water; v = speed h l.north l.water }
state_at North h l = record { h = h; u = speed h l.north l.water; v = speed h l.east l.water }
state_at West h l = record { h = h; u = speed h l.east l.water; v = speed h l.north l.water }
state_at South h l = record { h = h; u = speed h l.north l.water; v = speed h l.east l.water }

-- the leaf c as a side of a face with this sill
abbrev pub state : Tree → Dir → Block → ℕ → State
state t p c sill = state_at p (block_surface t c - sill) (t.leaf c)

-- the leaf's own side of a face, the other side, and the length
pub record Face : Type 0 where
  pub near : State
  pub far : State
  pub e : ℕ

abbrev pub face : Tree → Dir → Block → Block → Face
face t p c b =
    record {
      near = state t p c (max (block_bed t c) (block_bed t b));
      far = state t p b (max (block_bed t c) (block_bed t b));
      e = min (block_side t c) (block_side t b);
    }

abbrev pub wall_face : Tree → Dir → Block → Face
wall_face t p c =
    record { near = state t p c (block_bed t c); far = mirrored (state t p c (block_bed t c)); e = block_side t c }

-- from near to far is ahead, or back
abbrev pub by_way : (State → State → ℤ) → Bool → Face → ℤ
by_way f true a = f a.near a.far
by_way f false a = f a.far a.near

abbrev pub signed : Bool → ℤ → ℤ
signed true z = z
signed false z = neg_ℤ z

-- z × e × T / (1,000,000 × d)
abbrev pub scaled : ℕ → ℕ → ℤ → ℕ → ℤ
scaled d T z e = int_div (z *ℤ pos (e * T)) (pos (1000000 * d))

-- what a leaf that holds V gives to a wish of t, where all that wish from it wish for Q: all, or t's share of V
abbrev pub drained : ℕ → ℕ → ℕ → ℕ
drained V Q t = cond (nat_le Q V) t (t * V / Q)

module _ (R : Rule) (T : ℕ) (t : Tree) where
  -- the water that wishes to leave across a face
  abbrev pub wish : Dir → Face → ℕ
  wish p a = up (signed (ahead p) (scaled t.d T (by_way R.flow (ahead p) a) a.e))

  abbrev pub wishes_of : Block → ℕ
  wishes_of c = round (λ p. each (beside t p c) 0 (λ b. wish p (face t p c b)))

  -- what leaves c for b
  abbrev pub leaving : Dir → Block → Block → ℕ
  leaving p c b = drained (t.leaf c).water (wishes_of c) (wish p (face t p c b))

  abbrev pub out_of : Block → ℕ
  out_of c = round (λ p. each (beside t p c) 0 (λ b. leaving p c b))

  -- the amount that crosses the face between c and b, which lies beside it in direction p: what c sends, less what b sends
  abbrev pub crosses : Dir → Block → Block → ℤ
  crosses p c b = pos (leaving p c b) -ℤ pos (leaving (opposite p) b c)

  -- the sizes of the amounts that cross the faces on the eastern and the northern side of a leaf: each face has one leaf so
  abbrev pub across_faces : Block → ℕ
  across_faces c = each (beside t East c) 0 (λ b. unsigned_abs (crosses East c b)) + each (beside t North c) 0 (λ b. unsigned_abs (crosses North c b))

  abbrev pub into : Block → ℕ
  into c = round (λ p. each (beside t p c) 0 (λ b. leaving (opposite p) b c))

  abbrev pub new_water : Block → ℕ
  new_water c = (t.leaf c).water - out_of c + into c

  -- the change of momentum across a face, without the pressure that the leaf's own depth has there, and that along it
  abbrev pub momentum_across_at : Dir → Face → ℤ
  momentum_across_at p a =
      neg_ℤ (signed (ahead p) (scaled t.d T (by_way R.push (ahead p) a -ℤ pos (4905 * a.near.h * a.near.h)) a.e))

  abbrev pub momentum_along_at : Dir → Face → ℤ
  momentum_along_at p a = neg_ℤ (signed (ahead p) (scaled t.d T (by_way R.drift (ahead p) a) a.e))

  -- what a side adds to the discharge across it, and to the other
  abbrev pub momentum_across : Dir → Block → ℤ
  momentum_across p c = eachℤ (beside t p c) (momentum_across_at p (wall_face t p c)) (λ b. momentum_across_at p (face t p c b))

  abbrev pub momentum_along : Dir → Block → ℤ
  momentum_along p c = eachℤ (beside t p c) (momentum_along_at p (wall_face t p c)) (λ b. momentum_along_at p (face t p c b))

  abbrev pub new_east : Block → ℤ
  new_east c = (t.leaf c).east +ℤ (momentum_across East c +ℤ momentum_across West c) +ℤ (momentum_along North c +ℤ momentum_along South c)

  abbrev pub new_north : Block → ℤ
  new_north c = (t.leaf c).north +ℤ (momentum_across North c +ℤ momentum_across South c) +ℤ (momentum_along East c +ℤ momentum_along West c)

  abbrev pub stepped : Block → Leaf
  stepped c = finish (block_area t c) (new_water c) (new_east c) (new_north c)
