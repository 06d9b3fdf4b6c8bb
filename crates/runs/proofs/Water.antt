-- A step on a sound tree keeps the water, and no leaf gives more than it holds.
use Rattle.std.proofs.Common.{◌≡◌, ℕ, ◌+◌, ◌*◌, ◌<◌, ◌≤◌, Bool, true, false, leb, sym, refl, ap, ◌∙◌, div-mul-le_self, le_of_mul-le-mul_right, arith}
use Rattle.std.proofs.lemmas.Bool.{leb-true, leb-false}
use Rattle.basin.specs.declared.dir.Dir.{Dir}
use Rattle.basin.specs.declared.dir.Dir.TheVariants.{East, North, West, South}
use Rattle.basin.specs.Blocks.{Block, Within}
use Rattle.basin.specs.Sums.{only}
use Rattle.runs.specs.Overs.{over, here}
use Rattle.runs.specs.Rules.{Rule}
use Rattle.runs.specs.Step.{drained, wish, face, leaving, out_of, into, new_water}
use Rattle.runs.specs.Trees.{Tree, Kind, part, whole, cut, is_whole, Side, wall, one, two, beside, each, round, opposite, leaves}
use Rattle.runs.proofs.Overs.{over_cong, over_add, over_none, over_here, over_swap}
use Rattle.runs.proofs.Sides.{Sound, met, Leads, side_leads}

-- ---- draining
drain_enough : (V Q : ℕ) (s : Side) (f : Block → ℕ) → leb Q V ≡ true → each s 0 (λ b. drained V Q (f b)) ≡ each s 0 f
drain_enough V Q wall f e = refl
drain_enough V Q (one a) f e = rw e
drain_enough V Q (two a b) f e = rw e

drain_scaled : (V Q : ℕ) (s : Side) (f : Block → ℕ) → leb Q V ≡ false → each s 0 (λ b. drained V Q (f b)) * Q ≤ each s 0 f * V
drain_scaled V Q wall f e = omega arith
drain_scaled V Q (one a) f e = rw e (omega (arith, div-mul-le_self (f a * V) Q))
drain_scaled V Q (two a b) f e = rw e (omega (arith, div-mul-le_self (f a * V) Q, div-mul-le_self (f b * V) Q))

pub drain_le : (V : ℕ) (s : Dir → Side) (f : Dir → Block → ℕ)
    → round (λ p. each (s p) 0 (λ b. drained V (round (λ p. each (s p) 0 (f p))) (f p b))) ≤ V
drain_le V s f = go (round (λ p. each (s p) 0 (f p))) refl (leb (round (λ p. each (s p) 0 (f p))) V) refl
  where
    go : (Q : ℕ) → Q ≡ round (λ p. each (s p) 0 (f p)) → (b : Bool) → leb Q V ≡ b → round (λ p. each (s p) 0 (λ b. drained V Q (f p b))) ≤ V
    go Q q true e =
        omega (
          arith,
          leb-true Q V e,
          drain_enough V Q (s East) (f East) e,
          drain_enough V Q (s North) (f North) e,
          drain_enough V Q (s West)
              (f West) e,
          drain_enough V Q (s South) (f South) e,
        )
    go Q q false e =
        let more : V < Q = leb-false Q V e in
        let positive : 0 < Q = omega arith in
        let times = ap (λ n. n * V) q in
        let all : round (λ p. each (s p) 0 (λ b. drained V Q (f p b))) * Q ≤ V * Q =
        omega (
          arith,
          times,
          drain_scaled V Q (s East) (f East) e,
          drain_scaled V Q (s North) (f North) e,
          drain_scaled V Q (s West)
              (f West) e,
          drain_scaled V Q (s South) (f South) e,
        ) in
        le_of_mul-le-mul_right all positive

-- ---- what comes to a side's blocks, as a sum over all leaves
module _ (t : Tree) where
  at_leaf : (a : Block) (f : Block → ℕ) → Within t.L a → t.kind a ≡ whole → leaves t (λ m. here a m (f m)) ≡ f a
  unfolding leaves
  at_leaf a f w h =
      over_cong t.L (λ m. only (is_whole (t.kind m)) (here a m (f m))) (λ m. here a m (only (is_whole (t.kind m)) (f m))) (λ m w. grind arith)
      ∙ over_here t.L a (λ m. only (is_whole (t.kind m)) (f m)) w
      ∙ ap (λ κ. only (is_whole κ) (f a)) h

  pub leaves_add : (f g : Block → ℕ) → leaves t (λ c. f c + g c) ≡ leaves t f + leaves t g
  unfolding leaves
  leaves_add f g =
      over_cong t.L (λ c. only (is_whole (t.kind c)) (f c + g c)) (λ c. only (is_whole (t.kind c)) (f c) + only (is_whole (t.kind c)) (g c))
      (λ c w. grind arith)
      ∙ over_add t.L (λ c. only (is_whole (t.kind c)) (f c)) (λ c. only (is_whole (t.kind c)) (g c))

  pub leaves_cong : (f g : Block → ℕ) → ((c : Block) → Within t.L c → t.kind c ≡ whole → f c ≡ g c) → leaves t f ≡ leaves t g
  unfolding leaves
  leaves_cong f g h = over_cong t.L _ _ (λ c w. go c w (t.kind c) refl)
    where
      go : (c : Block) → Within t.L c → (κ : Kind) → t.kind c ≡ κ → only (is_whole κ) (f c) ≡ only (is_whole κ) (g c)
      go c w part e = refl
      go c w whole e = h c w e
      go c w cut e = refl

  leaves_none : leaves t (λ c. 0) ≡ 0
  unfolding leaves
  leaves_none = over_cong t.L (λ c. only (is_whole (t.kind c)) 0) (λ c. 0) (λ c w. grind arith) ∙ over_none t.L

  leaves_swap : (f : Block → Block → ℕ) → leaves t (λ a. leaves t (λ b. f a b)) ≡ leaves t (λ b. leaves t (λ a. f a b))
  unfolding leaves
  leaves_swap f =
      over_cong t.L _ _ (λ a w. only_over (is_whole (t.kind a)) (λ b. only (is_whole (t.kind b)) (f a b)))
      ∙ over_swap t.L t.L (λ a b. only (is_whole (t.kind a)) (only (is_whole (t.kind b)) (f a b)))
      ∙ over_cong t.L _ _ (λ b w. over_cong t.L _ _ (λ a v. turn (is_whole (t.kind a)) (is_whole (t.kind b)) (f a b))
      ∙ sym (only_over (is_whole (t.kind b)) (λ a. only (is_whole (t.kind a)) (f a b))))
    where
      only_over : (b : Bool) (g : Block → ℕ) → only b (over t.L g) ≡ over t.L (λ m. only b (g m))
      only_over true g = refl
      only_over false g = sym (over_none t.L)

      turn : (a b : Bool) (x : ℕ) → only a (only b x) ≡ only b (only a x)
      turn a b x = grind arith

  gather : (s : Side) → Leads t s → (f : Block → ℕ) → leaves t (λ m. each s 0 (λ a. here a m (f m))) ≡ each s 0 f
  gather wall l f = leaves_none
  gather (one a) l f = at_leaf a f l.0 l.1
  gather (two a b) l f =
      leaves_add (λ m. here a m (f m)) (λ m. here b m (f m)) ∙ omega (arith, at_leaf a f l.0.0 l.0.1, at_leaf b f l.1.0 l.1.1)

  -- what the faces on one side bring to all leaves is what the faces on the other take from all leaves
  pub passed : Sound t → (p : Dir) (F : Block → Block → ℕ)
      → leaves t (λ c. each (beside t p c) 0 (λ b. F b c)) ≡ leaves t (λ m. each (beside t (opposite p) m) 0 (λ b. F m b))
  passed sound p F =
      leaves_cong _ _ (λ c w h. sym (gather (beside t p c) (side_leads t sound p c w h) (λ m. F m c)))
      ∙ leaves_swap (λ c m. each (beside t p c) 0 (λ a. here a m (F m c)))
      ∙ leaves_cong _ _ (λ m w h. leaves_cong _ _ (λ c v k. met t sound c m (F m c) v w k h p)
      ∙ gather (beside t (opposite p) m) (side_leads t sound (opposite p) m w h) (λ c. F m c))

  pub round_leaves : (f : Dir → Block → ℕ) → leaves t (λ c. round (λ p. f p c)) ≡ round (λ p. leaves t (f p))
  round_leaves f =
      omega (
        arith,
        leaves_add (λ c. f East c + f North c) (λ c. f West c + f South c),
        leaves_add (f East) (f North),
        leaves_add (f West) (f South),
      )

  pub conserved : Sound t → (R : Rule) (T : ℕ) → leaves t (λ c. new_water R T t c) ≡ leaves t (λ c. (t.leaf c).water)
  conserved sound R T =
      omega (
        arith,
        leaves_add (λ c. new_water R T t c) (λ c. out_of R T t c),
        leaves_add (λ c. (t.leaf c).water) (λ c. into R T t c),
        balance,
        round_leaves (λ p c. each (beside t p c) 0 (λ b. leaving R T t p c b)),
        round_leaves (λ p c. each (beside t p c) 0 (λ b. leaving R T t (opposite p) b c)),
        passed sound East (λ b c. leaving R T t West b c),
        passed sound North (λ b c. leaving R T t South b c),
        passed sound West (λ b c. leaving R T t East b c),
        passed sound South (λ b c. leaving R T t North b c),
      )
    where
      balance : leaves t (λ c. new_water R T t c + out_of R T t c) ≡ leaves t (λ c. (t.leaf c).water + into R T t c)
      balance = leaves_cong _ _ (λ c w h.
          let enough : out_of R T t c ≤ (t.leaf c).water = drain_le (t.leaf c).water (λ p. beside t p c) (λ p b. wish R T t p (face t p c b)) in
          omega arith)
