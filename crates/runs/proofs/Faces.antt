-- On a face only one side sends, so what crosses all faces is what leaves all leaves.
use Rattle.std.proofs.Common.{◌≡◌, ℕ, ◌+◌, ◌*◌, ◌/◌, min, max, Bool, true, false, cond, leb, ◌⊎◌, ℤ, pos, negsuc, ◌-ℤ◌, neg_ℤ, nat_abs, refl, ap, ◌∙◌, inl, inr, zero-mul, arith}
use native.Mathlib.Nat.{zero-div, min_comm, max_comm}
use borrow.Author.Differences.{up, ints}
use Rattle.basin.specs.declared.dir.Dir.TheVariants.{East, North, West, South}
use Rattle.basin.specs.Blocks.{Block}
use Rattle.basin.specs.Views.{View, Quadtree}
use Rattle.runs.specs.Calls.{moved, crossed}
use Rattle.runs.specs.Homes.{tree}
use Rattle.runs.specs.Rules.{Rule}
use Rattle.runs.specs.Step.{block_side, block_bed, state, drained, scaled, face, wish, wishes_of, leaving, crosses, across_faces, out_of}
use Rattle.runs.specs.Trees.{Tree, Side, wall, one, two, beside, each, leaves}
use Rattle.runs.proofs.Sides.{Sound}
use Rattle.runs.proofs.Sounds.{sound}
use Rattle.runs.proofs.Water.{leaves_add, leaves_cong, passed, round_leaves}

-- ---- one face
-- of a number and its opposite one is not above 0
one_way : (z : ℤ) → (up z ≡ 0) ⊎ (up (neg_ℤ z) ≡ 0)
one_way (pos n) = inr (omega (arith, ints))
one_way (negsuc n) = inl (omega (arith, ints))

nothing_drained : (V Q : ℕ) → drained V Q 0 ≡ 0
nothing_drained V Q = go (leb Q V)
  where
    go : (t : Bool) → cond t 0 (0 * V / Q) ≡ 0
    go true = refl
    go false = ap (λ n. n / Q) (zero-mul V) ∙ zero-div Q

size_of : (a b : ℕ) → (a ≡ 0) ⊎ (b ≡ 0) → nat_abs (pos a -ℤ pos b) ≡ a + b
size_of a b (inl e) = omega (arith, ints)
size_of a b (inr e) = omega (arith, ints)

module _ (R : Rule) (T : ℕ) (t : Tree) where
  -- the water that wishes to pass a face eastward or northward, as a signed number
  eastward : Block → Block → ℤ
  eastward c b = scaled t.d T (R.flow (state t East c (max (block_bed t c) (block_bed t b))) (state t East b (max (block_bed t c) (block_bed t b))))
      (min (block_side t c) (block_side t b))

  northward : Block → Block → ℤ
  northward c b = scaled t.d T (R.flow (state t North c (max (block_bed t c) (block_bed t b))) (state t North b (max (block_bed t c) (block_bed t b))))
      (min (block_side t c) (block_side t b))

  wish_back_west : (c b : Block) → wish R T t West (face t West b c) ≡ up (neg_ℤ (eastward c b))
  unfolding eastward
  wish_back_west c b =
      let sill = max_comm (block_bed t b) (block_bed t c) in
      let length = min_comm (block_side t b) (block_side t c) in
      λ i. up (neg_ℤ (scaled t.d T (R.flow (state t East c (sill i)) (state t East b (sill i))) (length i)))

  wish_back_south : (c b : Block) → wish R T t South (face t South b c) ≡ up (neg_ℤ (northward c b))
  unfolding northward
  wish_back_south c b =
      let sill = max_comm (block_bed t b) (block_bed t c) in
      let length = min_comm (block_side t b) (block_side t c) in
      λ i. up (neg_ℤ (scaled t.d T (R.flow (state t North c (sill i)) (state t North b (sill i))) (length i)))

  -- two wishes of which one is none
  one_sends : (z : ℤ) (V Q V' Q' w w' : ℕ) → w ≡ up z → w' ≡ up (neg_ℤ z) → (drained V Q w ≡ 0) ⊎ (drained V' Q' w' ≡ 0)
  one_sends z V Q V' Q' w w' e f = elim (one_way z) [
    | inl h ↦ inl (ap (drained V Q) (e ∙ h) ∙ nothing_drained V Q)
    | inr h ↦ inr (ap (drained V' Q') (f ∙ h) ∙ nothing_drained V' Q')
  ]

  east_size : (c b : Block) → nat_abs (crosses R T t East c b) ≡ leaving R T t East c b + leaving R T t West b c
  unfolding eastward
  east_size c b = size_of (leaving R T t East c b) (leaving R T t West b c)
      (one_sends (eastward c b) (t.leaf c).water (wishes_of R T t c) (t.leaf b).water (wishes_of R T t b) _ _ refl (wish_back_west c b))

  north_size : (c b : Block) → nat_abs (crosses R T t North c b) ≡ leaving R T t North c b + leaving R T t South b c
  unfolding northward
  north_size c b = size_of (leaving R T t North c b) (leaving R T t South b c)
      (one_sends (northward c b) (t.leaf c).water (wishes_of R T t c) (t.leaf b).water (wishes_of R T t b) _ _ refl (wish_back_south c b))

  -- ---- all faces
  each_add : (s : Side) (h f g : Block → ℕ) → ((b : Block) → h b ≡ f b + g b) → each s 0 h ≡ each s 0 f + each s 0 g
  each_add wall h f g e = refl
  each_add (one a) h f g e = e a
  each_add (two a b) h f g e = omega (arith, e a, e b)

  pub across_is_out : Sound t → leaves t (λ c. across_faces R T t c) ≡ leaves t (λ c. out_of R T t c)
  across_is_out good =
      leaves_cong t (λ c. across_faces R T t c)
      (λ c. (each (beside t East c) 0 (λ b. leaving R T t East c b) + each (beside t East c) 0 (λ b. leaving R T t West b c))
      + (each (beside t North c) 0 (λ b. leaving R T t North c b) + each (beside t North c) 0 (λ b. leaving R T t South b c)))
      (λ c w h. omega (
        arith,
        each_add (beside t East c) (λ b. nat_abs (crosses R T t East c b)) (λ b. leaving R T t East c b) (λ b. leaving R T t West b c) (east_size c),
        each_add (beside t North c) (λ b. nat_abs (crosses R T t North c b)) (λ b. leaving R T t North c b) (λ b. leaving R T t South b c) (north_size c),
      ))
      ∙ omega (
        arith,
        leaves_add t (λ c. each (beside t East c) 0 (λ b. leaving R T t East c b) + each (beside t East c) 0 (λ b. leaving R T t West b c))
            (λ c. each (beside t North c) 0 (λ b. leaving R T t North c b) + each (beside t North c) 0 (λ b. leaving R T t South b c)),
        leaves_add t (λ c. each (beside t East c) 0 (λ b. leaving R T t East c b)) (λ c. each (beside t East c) 0 (λ b. leaving R T t West b c)),
        leaves_add t (λ c. each (beside t North c) 0 (λ b. leaving R T t North c b)) (λ c. each (beside t North c) 0 (λ b. leaving R T t South b c)),
        passed t good East (λ b c. leaving R T t West b c),
        passed t good North (λ b c. leaving R T t South b c),
        round_leaves t (λ p c. each (beside t p c) 0 (λ b. leaving R T t p c b)),
      )

pub crossed_is_moved : (v : View) → Quadtree v → (R : Rule) (T : ℕ) → crossed R T v ≡ moved R T v
crossed_is_moved v good R T = across_is_out R T (tree v) (sound v good)
