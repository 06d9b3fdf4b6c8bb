-- What pour, draw and settle reply and leave, case by case.
use Rattle.std.proofs.Common.{◌≡◌, ℕ, ◌+◌, ◌-◌, ◌*◌, ◌/◌, ◌<◌, ◌≤◌, Bool, true, false, cond, not, ltb, List, Ok, Err, sym, refl, ap, ◌∙◌, arith}
use Rattle.std.proofs.lemmas.Bool.{lt-ltb, le-ltb}
use Rattle.basin.specs.declared.leaf.Leaf.{Leaf}
use Rattle.basin.specs.declared.refusal.Refusal.{Refusal}
use Rattle.basin.specs.declared.refusal.Refusal.TheVariants.{OutOfRange, Overdrawn, LeafFull}
use Rattle.basin.specs.Basins.{Basin, basin, tables, view}
use Rattle.basin.specs.Plots.{ground}
use Rattle.basin.specs.Records.{may_hold}
use Rattle.basin.specs.Squares.{water}
use Rattle.runs.specs.Calls.{pour, draw, settle, granted, refused, outside, full, perform}
use Rattle.calls.specs.declared.spot.Spot.{Spot}
use Rattle.calls.specs.Spots.{placing, Located, refilled, refilled_by_table}
use Rattle.calls.proofs.Refilled.{water_is, full_is, by_table_as_found, basin_made, surface_made}
use Rattle.calls.proofs.Verdicts.{refuses, strikes, grants}

-- ---- the refusals that every call may meet
module _ (b : Basin) (x y : ℕ) (e : Refusal) (h : placing b x y ≡ Err e) where
  pub pour_refused : (a : ℕ) → (refused e, b) ≡ perform (pour x y a) b
  pour_refused a = refuses b x y (pour x y a) (λ l v. refl) (λ n. refl) e h

  pub draw_refused : (a : ℕ) → (refused e, b) ≡ perform (draw x y a) b
  draw_refused a = refuses b x y (draw x y a) (λ l v. refl) (λ n. refl) e h

  pub settle_refused : (refused e, b) ≡ perform (settle x y) b
  settle_refused = refuses b x y (settle x y) (λ l v. refl) (λ n. refl) e h

module _ (b : Basin) (x y : ℕ) (s : Spot) (l : Located b x y s) where
  -- the water that the leaf holds, as the code reads it
  abbrev held : ℕ
  held = s.leaf.water

  -- the leaf has room for so much more, or has not
  has_room : (more : ℕ) (r : Bool) → r ≡ may_hold (s.plot.side * s.plot.side) (held + more) → full (view b) x y (water (view b) x y + more) ≡ not r
  has_room more r e = sym (full_is b x y s l more) ∙ ap not (sym e)

  -- the amount is out of its range
  module _ (a : ℕ) (out : outside 1 122880000 a ≡ true) where
    pub pour_out : (refused OutOfRange, b) ≡ perform (pour x y a) b
    pour_out = strikes b x y (pour x y a) (λ l v. refl) (λ n. refl) l.passed OutOfRange
        (λ i. cond (out i) (Err OutOfRange) (cond (full (view b) x y (water (view b) x y + a)) (Err LeafFull) (Ok tt)))

    pub draw_out : (refused OutOfRange, b) ≡ perform (draw x y a) b
    draw_out = strikes b x y (draw x y a) (λ l v. refl) (λ n. refl) l.passed OutOfRange
        (λ i. cond (out i) (Err OutOfRange) (cond (ltb (water (view b) x y) a) (Err Overdrawn) (Ok tt)))

  -- ---- pour
  module _ (a : ℕ) (ok : outside 1 122880000 a ≡ false) (room : Bool) (told : room ≡ may_hold (s.plot.side * s.plot.side) (held + a)) where
    pub pour_full : room ≡ false → (refused LeafFull, b) ≡ perform (pour x y a) b
    pour_full e =
        let no = has_room a room told ∙ ap not e in
        strikes b x y (pour x y a) (λ l v. refl) (λ n. refl) l.passed LeafFull (λ i. cond (ok i) (Err OutOfRange) (cond (no i) (Err LeafFull) (Ok tt)))

    pub pour_granted : room ≡ true → (leaves : List Leaf) (r : ℕ) → leaves ≡ refilled s (held + a) b.tables.leaves
        → r ≡ (held + a + ground s.plot b.tables.beds) / (s.plot.side * s.plot.side)
        → (granted r, basin b.head (tables b.tables.levels b.tables.beds leaves)) ≡ perform (pour x y a) b
    pour_granted e leaves r filled w =
        let yes = has_room a room told ∙ ap not e in
        let same = ap (λ m. m + a) (water_is b x y s l) in
        (λ i. (granted (surface_made b x y s l _ _ same leaves filled b.head.loose r w i), basin_made b x y s l _ _ same leaves filled b.head.loose i))
        ∙ grants b x y (pour x y a) (λ l v. refl) (λ n. refl) l.passed (λ i. cond (ok i) (Err OutOfRange) (cond (yes i) (Err LeafFull) (Ok tt)))

    pub pour_granted_by_table : room ≡ true → (leaves : List Leaf) (r : ℕ) → leaves ≡ refilled_by_table s (held + a) b.tables.leaves
        → r ≡ (held + a + ground s.plot b.tables.beds) / (s.plot.side * s.plot.side)
        → (granted r, basin b.head (tables b.tables.levels b.tables.beds leaves)) ≡ perform (pour x y a) b
    pour_granted_by_table e leaves r filled = pour_granted e leaves r (filled ∙ by_table_as_found b x y s l (held + a))

  -- ---- draw
  module _ (a : ℕ) (ok : outside 1 122880000 a ≡ false) where
    pub draw_over : held < a → (refused Overdrawn, b) ≡ perform (draw x y a) b
    draw_over h =
        let over : ltb (water (view b) x y) a ≡ true = lt-ltb _ _ (omega (arith, water_is b x y s l)) in
        strikes b x y (draw x y a) (λ l v. refl) (λ n. refl) l.passed Overdrawn (λ i. cond (ok i) (Err OutOfRange) (cond (over i) (Err Overdrawn) (Ok tt)))

    pub draw_granted : a ≤ held → (leaves : List Leaf) (r : ℕ) → leaves ≡ refilled s (held - a) b.tables.leaves
        → r ≡ (held - a + ground s.plot b.tables.beds) / (s.plot.side * s.plot.side)
        → (granted r, basin b.head (tables b.tables.levels b.tables.beds leaves)) ≡ perform (draw x y a) b
    draw_granted h leaves r filled w =
        let enough : ltb (water (view b) x y) a ≡ false = le-ltb _ _ (omega (arith, water_is b x y s l)) in
        let same = ap (λ m. m - a) (water_is b x y s l) in
        (λ i. (granted (surface_made b x y s l _ _ same leaves filled b.head.loose r w i), basin_made b x y s l _ _ same leaves filled b.head.loose i))
        ∙ grants b x y (draw x y a) (λ l v. refl) (λ n. refl) l.passed (λ i. cond (ok i) (Err OutOfRange) (cond (enough i) (Err Overdrawn) (Ok tt)))

    pub draw_granted_by_table : a ≤ held → (leaves : List Leaf) (r : ℕ) → leaves ≡ refilled_by_table s (held - a) b.tables.leaves
        → r ≡ (held - a + ground s.plot b.tables.beds) / (s.plot.side * s.plot.side)
        → (granted r, basin b.head (tables b.tables.levels b.tables.beds leaves)) ≡ perform (draw x y a) b
    draw_granted_by_table h leaves r filled = draw_granted h leaves r (filled ∙ by_table_as_found b x y s l (held - a))

  -- ---- settle
  module _ (room : Bool) (told : room ≡ may_hold (s.plot.side * s.plot.side) (held + b.head.loose)) where
    pub settle_full : room ≡ false → (refused LeafFull, b) ≡ perform (settle x y) b
    settle_full e =
        let no = has_room b.head.loose room told ∙ ap not e in
        strikes b x y (settle x y) (λ l v. refl) (λ n. refl) l.passed LeafFull (λ i. cond (no i) (Err LeafFull) (Ok tt))

    pub settle_granted : room ≡ true → (leaves : List Leaf) → leaves ≡ refilled s (held + b.head.loose) b.tables.leaves
        → (granted b.head.loose, basin (record { L = b.head.L; d = b.head.d; loose = 0 }) (tables b.tables.levels b.tables.beds leaves))
        ≡ perform (settle x y) b
    settle_granted e leaves filled =
        let yes = has_room b.head.loose room told ∙ ap not e in
        let same = ap (λ m. m + b.head.loose) (water_is b x y s l) in
        (λ i. (granted b.head.loose, basin_made b x y s l _ _ same leaves filled 0 i))
        ∙ grants b x y (settle x y) (λ l v. refl) (λ n. refl) l.passed (λ i. cond (yes i) (Err LeafFull) (Ok tt))

    pub settle_granted_by_table : room ≡ true → (leaves : List Leaf) → leaves ≡ refilled_by_table s (held + b.head.loose) b.tables.leaves
        → (granted b.head.loose, basin (record { L = b.head.L; d = b.head.d; loose = 0 }) (tables b.tables.levels b.tables.beds leaves))
        ≡ perform (settle x y) b
    settle_granted_by_table e leaves filled = settle_granted e leaves (filled ∙ by_table_as_found b x y s l (held + b.head.loose))
