-- The ways to divide a leaf.
use Rattle.std.proofs.Common.{◌≡◌, ℕ, ◌+◌, ◌-◌, ◌*◌, ◌/◌, ◌<◌, ◌≤◌, Bool, true, false, cond, not, ltb, List, Ok, Err, Result, sym, ap, ◌∙◌, mul-le-mul, arith}
use Rattle.std.proofs.lemmas.Bool.{leb-true, lt-ltb, le-ltb}
use Rattle.basin.specs.declared.leaf.Leaf.{Leaf}
use Rattle.basin.specs.declared.plot.Plot.{Plot}
use Rattle.basin.specs.declared.quarters.Quarters.{Quarters}
use Rattle.basin.specs.declared.refusal.Refusal.{Refusal}
use Rattle.basin.specs.declared.refusal.Refusal.TheVariants.{WetDry, LeafFull, LooseFull}
use Rattle.basin.specs.Plots.{Spans, ground}
use Rattle.basin.specs.Records.{dry, may_hold}
use Rattle.basin.specs.Sums.{grid}
use Rattle.basin.specs.Tables.{entry}
use Rattle.basin.proofs.Tests.{or_false, not_true}
use Rattle.refine.specs.declared.parts.Division.{Division}
use Rattle.refine.specs.Divisions.{child_area, filled, children_of, wet_division, division_of}
use Rattle.refine.specs.Shares.{share, shares, some_bare, some_full, SmallShares}

-- a child has at most 4,096 squares
pub child_small : (p : Plot) → child_area p ≤ 4096
child_small p =
    let half : p.side / 2 ≤ 64 = omega (arith, p.inside) in
    mul-le-mul half half

-- a child's water, from the block that it is
pub share_is : (p q : Plot) (beds : List ℕ) (quarter r west south : ℕ) → Spans p.n west south (p.side / 2) q → r ≡ quarter - ground q beds
    → r ≡ share p beds quarter west south
share_is p q beds quarter r west south at e =
    e ∙ (λ i. quarter - grid (at.side_is i) (λ a b. entry (at.n_is i) 0 beds (at.west_is i + a) (at.south_is i + b)))

-- shares that all fit are small
pub small_shares : (area : ℕ) (s : Quarters ℕ) → area ≤ 4096 → some_full area s ≡ false → SmallShares s
small_shares area s h e =
    let p = or_false (not (may_hold area s.sw)) _ e in
    let q = or_false (not (may_hold area s.se)) _ p.1 in
    let r = or_false (not (may_hold area s.nw)) (not (may_hold area s.ne)) q.1 in
    record { sw = small s.sw p.0; se = small s.se q.0; nw = small s.nw r.0; ne = small s.ne r.1 }
  where
    small : (water : ℕ) → not (may_hold area water) ≡ false → water ≤ 122880000
    small water f = omega (arith, leb-true water (30000 * area) (not_true _ f))

-- a wet leaf, from the sum g of its beds and the shares of its children
module _ (s : Plot) (beds : List ℕ) (l : Leaf) (loose g : ℕ) (sh : Quarters ℕ) (ground : g ≡ ground s beds)
    (shared : sh ≡ shares s beds ((l.water + g) / 4)) where
  abbrev way : Bool → Bool → Bool → ℕ → Quarters ℕ → Result Division Refusal
  way bare full over fill sh =
      cond bare (Err WetDry) (cond full (Err LeafFull) (cond over (Err LooseFull)
      (Ok (record { children = children_of (child_area s) sh l; remainder = fill - 4 * (fill / 4) }))))

  -- the loose account would pass its limit
  abbrev over : Bool
  over = ltb 1000000 (loose + (l.water + g - 4 * ((l.water + g) / 4)))

  shares_are : sh ≡ shares s beds (filled s beds l / 4)
  shares_are = shared ∙ ap (λ g. shares s beds ((l.water + g) / 4)) ground

  wet_is : wet_division s beds l loose
      ≡ way (some_bare sh) (some_full (child_area s) sh) over (l.water + g) sh
  unfolding wet_division
  wet_is = λ i. way (some_bare (sym shares_are i)) (some_full (child_area s) (sym shares_are i))
      (ltb 1000000 (loose + (l.water + sym ground i - 4 * ((l.water + sym ground i) / 4)))) (l.water + sym ground i) (sym shares_are i)

  pub wet_bare : some_bare sh ≡ true → Err WetDry ≡ wet_division s beds l loose
  wet_bare e = sym (wet_is ∙ λ i. way (e i) (some_full (child_area s) sh) over (l.water + g) sh)

  module _ (e : some_bare sh ≡ false) where
    pub wet_full : some_full (child_area s) sh ≡ true → Err LeafFull ≡ wet_division s beds l loose
    wet_full f = sym (wet_is ∙ λ i. way (e i) (f i) over (l.water + g) sh)

    module _ (f : some_full (child_area s) sh ≡ false) where
      pub wet_over : 1000000 < loose + (l.water + g - 4 * ((l.water + g) / 4)) → Err LooseFull ≡ wet_division s beds l loose
      wet_over h = let o = lt-ltb _ _ h in sym (wet_is ∙ λ i. way (e i) (f i) (o i) (l.water + g) sh)

      pub wet_divided : loose + (l.water + g - 4 * ((l.water + g) / 4)) ≤ 1000000 → (c : Quarters Leaf) → c ≡ children_of (child_area s) sh l
          → Ok (record { children = c; remainder = l.water + g - 4 * ((l.water + g) / 4) }) ≡ wet_division s beds l loose
      wet_divided h c is =
          let o = le-ltb _ _ h in
          ap (λ c. Ok (record { children = c; remainder = l.water + g - 4 * ((l.water + g) / 4) })) is
          ∙ sym (wet_is ∙ λ i. way (e i) (f i) (o i) (l.water + g) sh)

module _ (s : Plot) (beds : List ℕ) (l : Leaf) (loose : ℕ) where
  -- a wet leaf, and a dry one
  pub division_wet : ltb 0 l.water ≡ true → division_of s beds l loose ≡ wet_division s beds l loose
  unfolding division_of
  division_wet e = ap (λ t. cond t (wet_division s beds l loose) (Ok (record { children = record { sw = dry; se = dry; nw = dry; ne = dry }; remainder = 0 }))) e

  pub division_dry : ltb 0 l.water ≡ false
      → division_of s beds l loose ≡ Ok (record { children = record { sw = dry; se = dry; nw = dry; ne = dry }; remainder = 0 })
  unfolding division_of
  division_dry e = ap (λ t. cond t (wet_division s beds l loose) (Ok (record { children = record { sw = dry; se = dry; nw = dry; ne = dry }; remainder = 0 }))) e
