-- Tables whose entries are carried to other places, and that places and entries tell such a table.
use Rattle.std.proofs.Common.{◌≡◌, ℕ, ◌-◌, ◌*◌, List, length, sym, refl, ap, ◌∙◌, arith}
use Rattle.basin.specs.Tables.{table, entry}
use Rattle.basin.proofs.Tabled.{length_table, entry_table, tabled}
use Rattle.runs.specs.Turns.{Place, place, flip_place, quarter_place}
use Rattle.turns.proofs.Places.{Inside, flip_inside, quarter_inside}

-- the entries of xs, changed by h, stand in ys at the places to which g takes theirs
pub record Carried {A : Type 0} (n : ℕ) (d : A) (g : Place → Place) (h : A → A) (xs ys : List A) : Type 0 where
  pub full : length ys ≡ n * n
  pub entries : (p : Place) → Inside n p → entry n d ys (g p).x (g p).y ≡ h (entry n d xs p.x p.y)

-- the place that each place comes from
pub record Onto (n : ℕ) (g : Place → Place) : Type 0 where
  pub from : Place → Place
  pub inside : (p : Place) → Inside n p → Inside n (from p)
  pub back : (p : Place) → g (from p) ≡ p

module _ {A : Type 0} (n : ℕ) (d : A) where
  pub not_carried : (xs : List A) → length xs ≡ n * n → Carried n d (λ p. p) (λ a. a) xs xs
  not_carried xs e = record { full = e; entries = λ p i. refl }

  pub carried_on : {g g' : Place → Place} {h h' : A → A} {xs ys zs : List A} → ((p : Place) → Inside n p → Inside n (g p))
      → Carried n d g h xs ys → Carried n d g' h' ys zs → Carried n d (λ p. g' (g p)) (λ a. h' (h a)) xs zs
  carried_on {g = g} {h' = h'} keeps c c' = record { full = c'.full; entries = λ p i. c'.entries (g p) (keeps p i) ∙ ap h' (c.entries p i) }

  carried_table : (g : Place → Place) (h : A → A) (xs ys : List A) (o : Onto n g) → Carried n d g h xs ys
      → ys ≡ table n (λ x y. h (entry n d xs (o.from (place x y)).x (o.from (place x y)).y))
  carried_table g h xs ys o c =
      tabled n ys d (λ x y. h (entry n d xs (o.from (place x y)).x (o.from (place x y)).y)) c.full
      (λ x y a b.
      ap (λ p. entry n d ys p.x p.y) (sym (o.back (place x y)))
      ∙ c.entries (o.from (place x y)) (o.inside (place x y) (record { east = a; north = b })))

  pub carried_alike : (g : Place → Place) (h : A → A) (xs ys zs : List A) → Onto n g → Carried n d g h xs ys → Carried n d g h xs zs → ys ≡ zs
  carried_alike g h xs ys zs o c c' = carried_table g h xs ys o c ∙ sym (carried_table g h xs zs o c')

  pub flip_carries : (h : A → A) (xs : List A) → Carried n d (flip_place n) h xs (table n (λ x y. h (entry n d xs (n - 1 - x) y)))
  flip_carries h xs =
      record {
        full = length_table n _;
        entries = λ p i.
            let back : n - 1 - (n - 1 - p.x) ≡ p.x = omega (arith, i.east) in
            ap (λ q. entry n d (table n (λ x y. h (entry n d xs (n - 1 - x) y))) q.x q.y) (flip_inside n p i)
            ∙ entry_table n (λ x y. h (entry n d xs (n - 1 - x) y)) d (n - 1 - p.x) p.y (omega (arith, i.east)) i.north
            ∙ ap (λ x. h (entry n d xs x p.y)) back;
      }

  pub quarter_carries : (h : A → A) (xs : List A) → Carried n d (quarter_place n) h xs (table n (λ x y. h (entry n d xs y (n - 1 - x))))
  quarter_carries h xs =
      record {
        full = length_table n _;
        entries = λ p i.
            let back : n - 1 - (n - 1 - p.y) ≡ p.y = omega (arith, i.north) in
            ap (λ q. entry n d (table n (λ x y. h (entry n d xs y (n - 1 - x)))) q.x q.y) (quarter_inside n p i)
            ∙ entry_table n (λ x y. h (entry n d xs y (n - 1 - x))) d (n - 1 - p.y) p.x (omega (arith, i.north)) i.east
            ∙ ap (λ y. h (entry n d xs p.x y)) back;
      }
