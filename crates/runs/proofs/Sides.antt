-- What lies beside a leaf: in a sound tree each face is seen from both of its sides.
use Rattle.std.proofs.Common.{◌≡◌, ℕ, zero, suc, pred, ◌+◌, ◌-◌, ◌*◌, ◌/◌, ◌^◌, ◌<◌, ◌≤◌, Bool, true, false, cond, eqb, ◌≢◌, ◌⊎◌, sym, refl, ap, ◌∙◌, inl, inr, arith}
use Rattle.std.proofs.lemmas.Bool.{cases_order, eqb-false}
use Rattle.std.proofs.lemmas.Bool.Decides.{eqb_tells}
use Rattle.basin.specs.declared.dir.Dir.{Dir}
use Rattle.basin.specs.declared.dir.Dir.TheVariants.{East, North, West, South}
use Rattle.basin.specs.Blocks.{Block, block, Within}
use Rattle.runs.specs.Overs.{at, here}
use Rattle.runs.specs.Trees.{Tree, Kind, part, whole, cut, Side, wall, one, two, at_edge, beyond, parent, first, second, across, beside, each, opposite}

-- a block is part of a leaf just where its parent is not cut
pub record Sound (t : Tree) : Type 0 where
  pub below_part : (k X Y : ℕ) → Within t.L (block (suc k) X Y) → t.kind (block k (X / 2) (Y / 2)) ≡ part → t.kind (block (suc k) X Y) ≡ part
  pub below_whole : (k X Y : ℕ) → Within t.L (block (suc k) X Y) → t.kind (block k (X / 2) (Y / 2)) ≡ whole → t.kind (block (suc k) X Y) ≡ part
  pub below_cut : (k X Y : ℕ) → Within t.L (block (suc k) X Y) → t.kind (block k (X / 2) (Y / 2)) ≡ cut → t.kind (block (suc k) X Y) ≢ part
  pub finest : (X Y : ℕ) → Within t.L (block t.L X Y) → t.kind (block t.L X Y) ≢ cut
  pub root : t.kind (block 0 0 0) ≢ part
  -- what a leaf borders on
  pub larger : (p : Dir) (c : Block) → Within t.L c → t.kind c ≡ whole → at_edge p c ≡ false → t.kind (beyond p c) ≡ part
      → t.kind (parent (beyond p c)) ≡ whole
  pub smaller : (p : Dir) (c : Block) → Within t.L c → t.kind c ≡ whole → at_edge p c ≡ false → t.kind (beyond p c) ≡ cut
      → (t.kind (first p (beyond p c)) ≡ whole) × (t.kind (second p (beyond p c)) ≡ whole)

abbrev beside_sum : ℕ → ℕ → ℕ → ℕ → ℕ → ℕ → ℕ → ℕ
beside_sum k X Y j P Q x =
    at k j (at Y Q (at (X + 1) P x))
    + at (suc k) j (at Y (Q / 2) (at ((X + 1) * 2) P x))
    + at (suc j) k (at (Y / 2) Q (at (X + 1) (P * 2) x))

never : (a i b j c k x : ℕ) → (i ≡ a → j ≡ b → k ≡ c → ⊥) → at a i (at b j (at c k x)) ≡ 0
never a i b j c k x h = grind (arith, h)

clash : {A : Type 0} (κ : Kind) → κ ≡ part → κ ≡ whole → A
clash κ p q = let z : ◌≡◌ {A = ℕ} 0 1 = cc in absurd (omega arith)

clash_cut : {A : Type 0} (κ : Kind) → κ ≡ cut → κ ≡ whole → A
clash_cut κ p q = let z : ◌≡◌ {A = ℕ} 0 1 = cc in absurd (omega arith)

clash_part : {A : Type 0} (κ : Kind) → κ ≡ cut → κ ≡ part → A
clash_part κ p q = let z : ◌≡◌ {A = ℕ} 0 1 = cc in absurd (omega arith)

abbrev Is : (a i : ℕ) → Type 0
Is a i = ((eqb i a ≡ true) × (i ≡ a)) ⊎ ((eqb i a ≡ false) × (i ≡ a → ⊥))

same : (a i b j c k a' i' b' j' c' k' x : ℕ)
    → (i ≡ a → j ≡ b → k ≡ c → (i' ≡ a') × (j' ≡ b') × (k' ≡ c'))
    → (i' ≡ a' → j' ≡ b' → k' ≡ c' → (i ≡ a) × (j ≡ b) × (k ≡ c))
    → at a i (at b j (at c k x)) ≡ at a' i' (at b' j' (at c' k' x))
same a i b j c k a' i' b' j' c' k' x f g = go (eqb_tells i a) (eqb_tells j b) (eqb_tells k c)
  where
    go : Is a i → Is b j → Is c k → at a i (at b j (at c k x)) ≡ at a' i' (at b' j' (at c' k' x))
    go (inl p) (inl q) (inl r) = let e = f p.1 q.1 r.1 in grind arith
    go (inr p) q r = rw p.0 (sym (never a' i' b' j' c' k' x (λ s t u. p.1 (g s t u).0)))
    go (inl p) (inr q) r = rw (p.0, q.0) (sym (never a' i' b' j' c' k' x (λ s t u. q.1 (g s t u).1)))
    go (inl p) (inl q) (inr r) = rw (p.0, q.0, r.0) (sym (never a' i' b' j' c' k' x (λ s t u. r.1 (g s t u).2)))

-- what the leaf (j, P, Q) is to the block (k, A, B), seen eastward or westward
abbrev ahead_sum : Kind → ℕ → ℕ → ℕ → ℕ → ℕ → ℕ → ℕ → ℕ
ahead_sum part k A B j P Q x = at (pred k) j (at (B / 2) Q (at (A / 2) P x))
ahead_sum whole k A B j P Q x = at k j (at B Q (at A P x))
ahead_sum cut k A B j P Q x = at (suc k) j (at (B * 2) Q (at (A * 2) P x)) + at (suc k) j (at (B * 2 + 1) Q (at (A * 2) P x))

abbrev back_sum : Kind → ℕ → ℕ → ℕ → ℕ → ℕ → ℕ → ℕ → ℕ
back_sum part k A B j P Q x = at (pred k) j (at (B / 2) Q (at (A / 2) P x))
back_sum whole k A B j P Q x = at k j (at B Q (at A P x))
back_sum cut k A B j P Q x = at (suc k) j (at (B * 2) Q (at (A * 2 + 1) P x)) + at (suc k) j (at (B * 2 + 1) Q (at (A * 2 + 1) P x))

halves : (k B Q P A j x : ℕ) → at (suc k) j (at (B * 2) Q (at A P x)) + at (suc k) j (at (B * 2 + 1) Q (at A P x)) ≡ at (suc k) j (at B (Q / 2) (at A P x))
halves k B Q P A j x = go (cases_order Q (B * 2)) (cases_order Q (B * 2 + 1))
  where
    go : (Q ≡ B * 2) ⊎ ((Q < B * 2) ⊎ (B * 2 < Q)) → (Q ≡ B * 2 + 1) ⊎ ((Q < B * 2 + 1) ⊎ (B * 2 + 1 < Q))
        → at (suc k) j (at (B * 2) Q (at A P x)) + at (suc k) j (at (B * 2 + 1) Q (at A P x)) ≡ at (suc k) j (at B (Q / 2) (at A P x))
    go g h = grind arith

below_level : (k X : ℕ) → X + 1 < 2 ^ k → 0 < k
below_level zero X h = omega arith
below_level (suc k) X h = omega arith

module _ (L : ℕ) (K : ℕ → ℕ → ℕ → Kind)
    (below_part : (k X Y : ℕ) → Within L (block (suc k) X Y) → K k (X / 2) (Y / 2) ≡ part → K (suc k) X Y ≡ part)
    (below_whole : (k X Y : ℕ) → Within L (block (suc k) X Y) → K k (X / 2) (Y / 2) ≡ whole → K (suc k) X Y ≡ part)
  where
    under_whole : (k X Y j P Q : ℕ) → Within L (block j P Q) → j ≡ suc k → P / 2 ≡ X → Q / 2 ≡ Y → K k X Y ≡ whole → K j P Q ≡ part
    under_whole k X Y j P Q w e f g h =
        let w' : Within L (block (suc k) P Q) = rw e at w in
        rw e (below_whole k P Q w' (rw (f, g) h))

    under_part : (k X Y j P Q : ℕ) → Within L (block j P Q) → j ≡ suc k → P / 2 ≡ X → Q / 2 ≡ Y → K k X Y ≡ part → K j P Q ≡ part
    under_part k X Y j P Q w e f g h =
        let w' : Within L (block (suc k) P Q) = rw e at w in
        rw e (below_part k P Q w' (rw (f, g) h))

    module _ (k X Y j P Q x : ℕ) (wc : Within L (block k X Y)) (wm : Within L (block j P Q)) (c : K k X Y ≡ whole) (m : K j P Q ≡ whole) where
      ahead_is : X + 1 < 2 ^ k → (κ : Kind) → K k (X + 1) Y ≡ κ → ahead_sum κ k (X + 1) Y j P Q x ≡ beside_sum k X Y j P Q x
      ahead_is e whole b =
          omega (
            arith,
            never (suc k) j Y (Q / 2) ((X + 1) * 2) P x (λ e₁ e₂ e₃. clash (K j P Q) (under_whole k (X + 1) Y j P Q wm e₁ (omega arith) e₂ b) m),
            never (suc j) k (Y / 2) Q (X + 1) (P * 2) x (λ e₁ e₂ e₃.
                clash (K k (X + 1) Y) (under_whole j P Q k (X + 1) Y (record { deep = wc.deep; east = e; north = wc.north }) e₁ (omega arith) (sym e₂) m) b),
          )
      ahead_is e part b =
          omega (
            arith,
            never k j Y Q (X + 1) P x (λ e₁ e₂ e₃. clash (K k (X + 1) Y) b (cc)),
            never (suc k) j Y (Q / 2) ((X + 1) * 2) P x (λ e₁ e₂ e₃. clash (K j P Q) (under_part k (X + 1) Y j P Q wm e₁ (omega arith) e₂ b) m),
            same (pred k) j (Y / 2) Q ((X + 1) / 2) P (suc j) k (Y / 2) Q (X + 1) (P * 2) x
                (λ e₁ e₂ e₃.
                let up : 0 < k = below_level k X e in
                let at-k : k ≡ suc j = omega arith in (
                  at-k,
                  e₂,
                  elim (cases_order (P * 2) (X + 1)) [
                    | inl s ↦ s
                    | inr s ↦ clash (K k X Y) (under_whole j P Q k X Y wc at-k (omega arith) (sym e₂) m) c
                  ],
                ))
                (λ e₁ e₂ e₃. (omega arith, e₂, omega arith)),
          )
      ahead_is e cut b =
          omega (
            arith,
            halves k Y Q P ((X + 1) * 2) j x,
            never k j Y Q (X + 1) P x (λ e₁ e₂ e₃. clash_cut (K k (X + 1) Y) b (cc)),
            never (suc j) k (Y / 2) Q (X + 1) (P * 2) x (λ e₁ e₂ e₃.
                clash_part (K k (X + 1) Y) b (under_whole j P Q k (X + 1) Y (record { deep = wc.deep; east = e; north = wc.north }) e₁ (omega arith)
                (sym e₂) m)),
          )

      ahead_edge : X + 1 ≡ 2 ^ k → 0 ≡ beside_sum k X Y j P Q x
      ahead_edge e =
          omega (
            arith,
            never k j Y Q (X + 1) P x (λ e₁ e₂ e₃. let w : Within L (block k P Q) = rw e₁ at wm in omega arith),
            never (suc k) j Y (Q / 2) ((X + 1) * 2) P x
                (λ e₁ e₂ e₃. let w : Within L (block (suc k) P Q) = rw e₁ at wm in let q : P < 2 ^ suc k = w.east in omega arith),
            never (suc j) k (Y / 2) Q (X + 1) (P * 2) x (λ e₁ e₂ e₃. let s : X + 1 ≡ 2 ^ suc j = rw e₁ at e in omega arith),
          )

      back_is : 0 < X → (κ : Kind) → K k (X - 1) Y ≡ κ → back_sum κ k (X - 1) Y j P Q x ≡ beside_sum j P Q k X Y x
      back_is e whole b =
          omega (
            arith,
            same k j Y Q (X - 1) P j k Q Y (P + 1) X x (λ e₁ e₂ e₃. (sym e₁, sym e₂, omega arith)) (λ e₁ e₂ e₃. (sym e₁, sym e₂, omega arith)),
            never (suc j) k Q (Y / 2) ((P + 1) * 2) X x (λ e₁ e₂ e₃.
                clash (K k (X - 1) Y) (under_whole j P Q k (X - 1) Y (record { deep = wc.deep; east = omega arith; north = wc.north }) e₁
                (omega arith) e₂ m) b),
            never (suc k) j (Q / 2) Y (P + 1) (X * 2) x (λ e₁ e₂ e₃.
                clash (K j P Q) (under_whole k (X - 1) Y j P Q wm e₁ (omega arith) (sym e₂) b) m),
          )
      back_is e part b =
          omega (
            arith,
            never j k Q Y (P + 1) X x (λ e₁ e₂ e₃. let p : X - 1 ≡ P = omega arith in clash (K k (X - 1) Y) b (cc)),
            never (suc k) j (Q / 2) Y (P + 1) (X * 2) x (λ e₁ e₂ e₃.
                clash (K j P Q) (under_part k (X - 1) Y j P Q wm e₁ (omega arith) (sym e₂) b) m),
            same (pred k) j (Y / 2) Q ((X - 1) / 2) P (suc j) k Q (Y / 2) ((P + 1) * 2) X x
                (λ e₁ e₂ e₃.
                let up : 0 < k = below_level k (X - 1) (omega (arith, wc.east)) in
                let at-k : k ≡ suc j = omega arith in (
                  at-k,
                  sym e₂,
                  elim (cases_order ((P + 1) * 2) X) [
                    | inl s ↦ sym s
                    | inr s ↦ clash (K k X Y) (under_whole j P Q k X Y wc at-k (omega arith) (sym e₂) m) c
                  ],
                ))
                (λ e₁ e₂ e₃. (omega arith, sym e₂, omega arith)),
          )
      back_is e cut b =
          omega (
            arith,
            halves k Y Q P ((X - 1) * 2 + 1) j x,
            same (suc k) j Y (Q / 2) ((X - 1) * 2 + 1) P (suc k) j (Q / 2) Y (P + 1) (X * 2) x
                (λ e₁ e₂ e₃. (e₁, sym e₂, omega arith)) (λ e₁ e₂ e₃. (e₁, sym e₂, omega arith)),
            never j k Q Y (P + 1) X x (λ e₁ e₂ e₃. let p : X - 1 ≡ P = omega arith in clash_cut (K k (X - 1) Y) b (cc)),
            never (suc j) k Q (Y / 2) ((P + 1) * 2) X x (λ e₁ e₂ e₃.
                clash_part (K k (X - 1) Y) b (under_whole j P Q k (X - 1) Y (record { deep = wc.deep; east = omega arith; north = wc.north }) e₁
                (omega arith) e₂ m)),
          )

      back_edge : X ≡ 0 → 0 ≡ beside_sum j P Q k X Y x
      back_edge e =
          omega (
            arith,
            never j k Q Y (P + 1) X x (λ e₁ e₂ e₃. omega arith),
            never (suc j) k Q (Y / 2) ((P + 1) * 2) X x (λ e₁ e₂ e₃. omega arith),
            never (suc k) j (Q / 2) Y (P + 1) (X * 2) x (λ e₁ e₂ e₃. omega arith),
          )

at_across : (b j c k x : ℕ) → at b j (at c k x) ≡ at c k (at b j x)
at_across b j c k x = grind arith

-- m is beside c in the direction p
abbrev linked : Dir → Block → Block → ℕ → ℕ
linked East c m x = beside_sum c.k c.X c.Y m.k m.X m.Y x
linked North c m x = beside_sum c.k c.Y c.X m.k m.Y m.X x
linked West c m x = beside_sum m.k m.X m.Y c.k c.X c.Y x
linked South c m x = beside_sum m.k m.Y m.X c.k c.Y c.X x

to_east : (κ : Kind) (b m : Block) (x : ℕ) → each (across κ East b) 0 (λ a. here a m x) ≡ ahead_sum κ b.k b.X b.Y m.k m.X m.Y x
to_east part b m x = refl
to_east whole b m x = refl
to_east cut b m x = refl

to_west : (κ : Kind) (b m : Block) (x : ℕ) → each (across κ West b) 0 (λ a. here a m x) ≡ back_sum κ b.k b.X b.Y m.k m.X m.Y x
to_west part b m x = refl
to_west whole b m x = refl
to_west cut b m x = refl

to_north : (κ : Kind) (b m : Block) (x : ℕ) → each (across κ North b) 0 (λ a. here a m x) ≡ ahead_sum κ b.k b.Y b.X m.k m.Y m.X x
to_north part b m x = ap (λ y. at (pred b.k) m.k y) (at_across (b.Y / 2) m.Y (b.X / 2) m.X x)
to_north whole b m x = ap (λ y. at b.k m.k y) (at_across b.Y m.Y b.X m.X x)
to_north cut b m x =
    cc (at_across (b.Y * 2) m.Y (b.X * 2) m.X x, at_across (b.Y * 2) m.Y (b.X * 2 + 1) m.X x)

to_south : (κ : Kind) (b m : Block) (x : ℕ) → each (across κ South b) 0 (λ a. here a m x) ≡ back_sum κ b.k b.Y b.X m.k m.Y m.X x
to_south part b m x = ap (λ y. at (pred b.k) m.k y) (at_across (b.Y / 2) m.Y (b.X / 2) m.X x)
to_south whole b m x = ap (λ y. at b.k m.k y) (at_across b.Y m.Y b.X m.X x)
to_south cut b m x =
    cc (at_across (b.Y * 2 + 1) m.Y (b.X * 2) m.X x, at_across (b.Y * 2 + 1) m.Y (b.X * 2 + 1) m.X x)

turn_within : (L : ℕ) (c : Block) → Within L c → Within L (block c.k c.Y c.X)
turn_within L c w = record { deep = w.deep; east = w.north; north = w.east }

module _ (t : Tree) (sound : Sound t) (c m : Block) (x : ℕ) (wc : Within t.L c) (wm : Within t.L m) (hc : t.kind c ≡ whole)
    (hm : t.kind m ≡ whole) where
  pub sides_are : (p : Dir) → each (beside t p c) 0 (λ a. here a m x) ≡ linked p c m x
  sides_are East =
      elim (eqb_tells (c.X + 1) (2 ^ c.k)) [
        | inl e ↦ rw e.0 (ahead_edge t.L (λ k X Y. t.kind (block k X Y)) sound.below_part sound.below_whole c.k c.X c.Y m.k
            m.X m.Y x wc wm hc hm e.1)
        | inr e ↦ rw e.0 (to_east (t.kind (beyond East c)) (beyond East c) m x
            ∙ ahead_is t.L (λ k X Y. t.kind (block k X Y)) sound.below_part sound.below_whole c.k c.X c.Y m.k m.X
            m.Y x wc wm hc hm (omega (arith, e.1, wc.east)) (t.kind (beyond East c)) refl)
      ]
  sides_are West =
      elim (eqb_tells c.X 0) [
        | inl e ↦ rw e.0 (back_edge t.L (λ k X Y. t.kind (block k X Y)) sound.below_part sound.below_whole c.k c.X c.Y m.k
            m.X m.Y x wc wm hc hm e.1)
        | inr e ↦ rw e.0 (to_west (t.kind (beyond West c)) (beyond West c) m x
            ∙ back_is t.L (λ k X Y. t.kind (block k X Y)) sound.below_part sound.below_whole c.k c.X c.Y m.k m.X
            m.Y x wc wm hc hm (omega (arith, e.1)) (t.kind (beyond West c)) refl)
      ]
  sides_are North =
      elim (eqb_tells (c.Y + 1) (2 ^ c.k)) [
        | inl e ↦ rw e.0 (ahead_edge t.L (λ k Y X. t.kind (block k X Y))
            (λ k Y X w. sound.below_part k X Y (turn_within t.L (block (suc k) Y X) w))
            (λ k Y X w. sound.below_whole k X Y (turn_within t.L (block (suc k) Y X) w)) c.k c.Y c.X m.k m.Y m.X x
            (turn_within t.L c wc) (turn_within t.L m wm) hc hm e.1)
        | inr e ↦ rw e.0 (to_north (t.kind (beyond North c)) (beyond North c) m x
            ∙ ahead_is t.L (λ k Y X. t.kind (block k X Y)) (λ k Y X w. sound.below_part k X Y (turn_within t.L (block (suc k) Y X) w))
            (λ k Y X w. sound.below_whole k X Y (turn_within t.L (block (suc k) Y X) w)) c.k c.Y c.X m.k m.Y m.X x
            (turn_within t.L c wc) (turn_within t.L m wm) hc hm (omega (arith, e.1, wc.north)) (t.kind (beyond North c)) refl)
      ]
  sides_are South =
      elim (eqb_tells c.Y 0) [
        | inl e ↦ rw e.0 (back_edge t.L (λ k Y X. t.kind (block k X Y))
            (λ k Y X w. sound.below_part k X Y (turn_within t.L (block (suc k) Y X) w))
            (λ k Y X w. sound.below_whole k X Y (turn_within t.L (block (suc k) Y X) w)) c.k c.Y c.X m.k m.Y m.X x
            (turn_within t.L c wc) (turn_within t.L m wm) hc hm e.1)
        | inr e ↦ rw e.0 (to_south (t.kind (beyond South c)) (beyond South c) m x
            ∙ back_is t.L (λ k Y X. t.kind (block k X Y)) (λ k Y X w. sound.below_part k X Y (turn_within t.L (block (suc k) Y X) w))
            (λ k Y X w. sound.below_whole k X Y (turn_within t.L (block (suc k) Y X) w)) c.k c.Y c.X m.k m.Y m.X x
            (turn_within t.L c wc) (turn_within t.L m wm) hc hm (omega (arith, e.1)) (t.kind (beyond South c)) refl)
      ]

-- the same face from both sides
pub met : (t : Tree) (sound : Sound t) (c m : Block) (x : ℕ) (wc : Within t.L c) (wm : Within t.L m) (hc : t.kind c ≡ whole) (hm : t.kind m ≡ whole)
    (p : Dir) → each (beside t p c) 0 (λ a. here a m x) ≡ each (beside t (opposite p) m) 0 (λ a. here a c x)
met t sound c m x wc wm hc hm p =
    sides_are t sound c m x wc wm hc hm p ∙ again p ∙ sym (sides_are t sound m c x wm wc hm hc (opposite p))
  where
    again : (p : Dir) → linked p c m x ≡ linked (opposite p) m c x
    again East = refl
    again North = refl
    again West = refl
    again South = refl

-- a side's blocks are leaves
abbrev pub Leads : Tree → Side → Type 0
Leads t wall = Unit
Leads t (one a) = Within t.L a × (t.kind a ≡ whole)
Leads t (two a b) = (Within t.L a × (t.kind a ≡ whole)) × (Within t.L b × (t.kind b ≡ whole))

pub within_beyond : (L : ℕ) (p : Dir) (c : Block) → Within L c → at_edge p c ≡ false → Within L (beyond p c)
within_beyond L East c w e = record { deep = w.deep; east = omega (arith, eqb-false (c.X + 1) (2 ^ c.k) e, w.east); north = w.north }
within_beyond L North c w e = record { deep = w.deep; east = w.east; north = omega (arith, eqb-false (c.Y + 1) (2 ^ c.k) e, w.north) }
within_beyond L West c w e = record { deep = w.deep; east = omega (arith, w.east); north = w.north }
within_beyond L South c w e = record { deep = w.deep; east = w.east; north = omega (arith, w.north) }

within_parent : (L k X Y : ℕ) → Within L (block (suc k) X Y) → Within L (block k (X / 2) (Y / 2))
within_parent L k X Y w =
    let a : X < 2 ^ suc k = w.east in
    let b : Y < 2 ^ suc k = w.north in
    record { deep = omega arith; east = omega arith; north = omega arith }

pub within_child : (L k X Y A B : ℕ) → Within L (block k X Y) → k < L → A ≤ X * 2 + 1 → B ≤ Y * 2 + 1 → Within L (block (suc k) A B)
within_child L k X Y A B w h a b =
    let e : X < 2 ^ k = w.east in
    let n : Y < 2 ^ k = w.north in
    let e' : A < 2 ^ suc k = omega arith in
    let n' : B < 2 ^ suc k = omega arith in
    record { deep = h; east = e'; north = n' }

pub parent_within : (L : ℕ) (b : Block) → Within L b → Within L (parent b)
parent_within L b w = go b.k b.X b.Y w
  where
    go : (k X Y : ℕ) → Within L (block k X Y) → Within L (block (pred k) (X / 2) (Y / 2))
    go zero X Y w = record { deep = w.deep; east = omega (arith, w.east); north = omega (arith, w.north) }
    go (suc k) X Y w = within_parent L k X Y w

pub cut_above : (t : Tree) → Sound t → (b : Block) → Within t.L b → t.kind b ≡ cut → b.k < t.L
cut_above t sound b w h =
    elim (cases_order b.k t.L) [
      | inl e ↦
          let w' : Within t.L (block t.L b.X b.Y) = rw e at w in
          let h' : t.kind (block t.L b.X b.Y) ≡ cut = rw e at h in
          absurd (sound.finest b.X b.Y w' h')
      | inr e ↦ omega (arith, w.deep)
    ]

pub within_first : (L : ℕ) (p : Dir) (b : Block) → Within L b → b.k < L → Within L (first p b)
within_first L East b w h = within_child L b.k b.X b.Y _ _ w h (omega arith) (omega arith)
within_first L North b w h = within_child L b.k b.X b.Y _ _ w h (omega arith) (omega arith)
within_first L West b w h = within_child L b.k b.X b.Y _ _ w h (omega arith) (omega arith)
within_first L South b w h = within_child L b.k b.X b.Y _ _ w h (omega arith) (omega arith)

pub within_second : (L : ℕ) (p : Dir) (b : Block) → Within L b → b.k < L → Within L (second p b)
within_second L East b w h = within_child L b.k b.X b.Y _ _ w h (omega arith) (omega arith)
within_second L North b w h = within_child L b.k b.X b.Y _ _ w h (omega arith) (omega arith)
within_second L West b w h = within_child L b.k b.X b.Y _ _ w h (omega arith) (omega arith)
within_second L South b w h = within_child L b.k b.X b.Y _ _ w h (omega arith) (omega arith)

pub side_leads : (t : Tree) → Sound t → (p : Dir) (c : Block) → Within t.L c → t.kind c ≡ whole → Leads t (beside t p c)
side_leads t sound p c w h = go (at_edge p c) refl
  where
    below : (κ : Kind) → at_edge p c ≡ false → t.kind (beyond p c) ≡ κ → Leads t (across κ p (beyond p c))
    below part e f = (parent_within t.L (beyond p c) (within_beyond t.L p c w e), sound.larger p c w h e f)
    below whole e f = (within_beyond t.L p c w e, f)
    below cut e f =
        let b = within_beyond t.L p c w e in
        let deep = cut_above t sound (beyond p c) b f in
        let k = sound.smaller p c w h e f in
        ((within_first t.L p (beyond p c) b deep, k.0), (within_second t.L p (beyond p c) b deep, k.1))

    go : (b : Bool) → at_edge p c ≡ b → Leads t (cond b wall (across (t.kind (beyond p c)) p (beyond p c)))
    go true e = tt
    go false e = below (t.kind (beyond p c)) e refl
