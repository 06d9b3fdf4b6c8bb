-- Leaves are told apart by their corners.
use Rattle.std.proofs.Common.{◌≡◌, ℕ, ◌-◌, ◌*◌, ◌/◌, ◌%◌, ◌^◌, ◌<◌, sym, ap, ◌∙◌, arith}
use lib.Arith.{digits_mod, digits_div, digits_lt}
use Rattle.basin.specs.Blocks.{Block, block, Within}
use Rattle.basin.specs.Views.{View}
use Rattle.basin.proofs.Sizes.{side_pos}
use Rattle.runs.specs.Homes.{tree, home}
use Rattle.runs.specs.Overs.{at, here}
use Rattle.runs.specs.Trees.{whole}
use Rattle.runs.proofs.Sounds.{inside}
use Rattle.runs.proofs.Views.{at_home}
use Rattle.blocks.specs.Places.{corner_entry}

at_same : (a i v : ℕ) → i ≡ a → at a i v ≡ v
at_same a i v e = grind arith

pub here_same : (a c : Block) (v : ℕ) → c ≡ a → here a c v ≡ v
here_same a c v e =
    at_same a.k c.k _ (ap (λ x. x.k) e) ∙ at_same a.Y c.Y _ (ap (λ x. x.Y) e) ∙ at_same a.X c.X v (ap (λ x. x.X) e)

block_same : (a c : Block) → c.k ≡ a.k → c.Y ≡ a.Y → c.X ≡ a.X → c ≡ a
block_same a c e f g = ap (λ k. block k c.X c.Y) e ∙ ap (λ x. block a.k x c.Y) g ∙ ap (λ y. block a.k a.X y) f

pub here_other : (a c : Block) (v : ℕ) → (c ≡ a → ⊥) → here a c v ≡ 0
here_other a c v h =
    let n : c.k ≡ a.k → c.Y ≡ a.Y → c.X ≡ a.X → ⊥ = λ e f g. h (block_same a c e f g) in
    never a.k c.k a.Y c.Y a.X c.X v n
  where
    never : (a i b j c k x : ℕ) → (i ≡ a → j ≡ b → k ≡ c → ⊥) → at a i (at b j (at c k x)) ≡ 0
    never a i b j c k x h = grind (arith, h)

module _ (v : View) where
  abbrev pub Leafs : Block → Type 0
  Leafs c = Within v.L c × ((tree v).kind c ≡ whole)

  pub x_below : (c : Block) → Leafs c → c.X * 2 ^ (v.L - c.k) < 2 ^ v.L
  x_below c l = omega (arith, inside v.L c.k c.X 0 l.0.deep l.0.east (side_pos (v.L - c.k)))

  y_below : (c : Block) → Leafs c → c.Y * 2 ^ (v.L - c.k) < 2 ^ v.L
  y_below c l = omega (arith, inside v.L c.k c.Y 0 l.0.deep l.0.north (side_pos (v.L - c.k)))

  -- leaves with one corner are one leaf
  pub corners_apart : (a c : Block) → Leafs a → Leafs c → corner_entry v.L c ≡ corner_entry v.L a → c ≡ a
  corners_apart a c la lc e =
      let x = sym (digits_mod (c.Y * 2 ^ (v.L - c.k)) (x_below c lc)) ∙ ap (λ i. i % 2 ^ v.L) e ∙ digits_mod (a.Y * 2 ^ (v.L - a.k)) (x_below a la) in
      let y = sym (digits_div (c.Y * 2 ^ (v.L - c.k)) (x_below c lc)) ∙ ap (λ i. i / 2 ^ v.L) e ∙ digits_div (a.Y * 2 ^ (v.L - a.k)) (x_below a la) in
      sym (at_home v c lc.0 lc.1) ∙ ap (λ x. home v x (c.Y * 2 ^ (v.L - c.k))) x ∙ ap (λ y. home v (a.X * 2 ^ (v.L - a.k)) y) y ∙ at_home v a la.0 la.1

  pub corner_lt : (c : Block) → Leafs c → corner_entry v.L c < 2 ^ v.L * 2 ^ v.L
  corner_lt c l = digits_lt (y_below c l) (x_below c l)
