-- The lowest refusal is the answer, a refusal changes nothing, and what is no basin is refused.
use Rattle.std.proofs.Common.{◌≡◌, ℕ, ◌≤◌, Bool, true, false, cond, ◌&&◌, leb, List, [], ◌∷◌, Ok, Err, Result, refl, ap, inl, inr, arith}
use Rattle.std.proofs.lemmas.Bool.{cases_Bool, leb-true}
use Rattle.std.specs.List.{AllByRecursion}
use Rattle.basin.specs.declared.refusal.Refusal.{Refusal}
use Rattle.basin.specs.declared.refusal.Refusal.TheVariants.{TableLength, NotABasin}
use Rattle.basin.specs.Basins.{Basin, side, view}
use Rattle.basin.specs.Flaws.{misfit, no_basin}
use Rattle.basin.specs.Refusals.{number_of}
use Rattle.basin.proofs.Telling.{tells_basins}
use Rattle.basin.proofs.Tests.{and_true}
use Rattle.runs.specs.Calls.{Call, pour, draw, settle, step, split, merge, refused, Test, first_of, tests, short_work, all_tests, verdict, outcome}
use Rattle.runs.specs.Refusing.{RefusedBy, RefusesLowest, RefusalKeeps, RefusesFlaws}

pub weaken : {A : Type 0} (P Q : A → Type 0) → ((x : A) → P x → Q x) → (xs : List A) → AllByRecursion P xs → AllByRecursion Q xs
weaken P Q f [] p = tt
weaken P Q f (x ∷ xs) p = (f x p.0, weaken P Q f xs p.1)

-- ---- the lowest number
-- the numbers of the tests do not fall, from n on
abbrev ordered : ℕ → List Test → Bool
ordered n [] = true
ordered n (t ∷ ts) = leb n (number_of t.refusal) && ordered (number_of t.refusal) ts

tests_ordered : (c : Call) (b : Basin) → ordered 0 (all_tests c b) ≡ true
tests_ordered (pour x y a) b = refl
tests_ordered (draw x y a) b = refl
tests_ordered (settle x y) b = refl
tests_ordered (step T R work) b = refl
tests_ordered (split x y) b = refl
tests_ordered (merge x y) b = refl

at_least : (n : ℕ) (ts : List Test) → ordered n ts ≡ true → AllByRecursion (λ t. n ≤ number_of t.refusal) ts
at_least n [] o = tt
at_least n (t ∷ ts) o =
    let p = and_true (leb n (number_of t.refusal)) (ordered (number_of t.refusal) ts) o in
    let q = leb-true n (number_of t.refusal) p.0 in (
      q,
      weaken (λ (u : Test). number_of t.refusal ≤ number_of u.refusal) (λ u. n ≤ number_of u.refusal) (λ u h. omega arith) ts
          (at_least (number_of t.refusal) ts p.1),
    )

abbrev Struck : Result (Unit {0}) Refusal → ℕ → Type 0
Struck (Ok t) n = ⊥
Struck (Err r) n = number_of r ≤ n

lowest : (n : ℕ) (ts : List Test) → ordered n ts ≡ true → AllByRecursion (λ t. t.strikes ≡ true → Struck (first_of ts) (number_of t.refusal)) ts
lowest n [] o = tt
lowest n (t ∷ ts) o =
    let p = and_true (leb n (number_of t.refusal)) (ordered (number_of t.refusal) ts) o in
    let m = number_of t.refusal in (
      λ s. rw s (omega arith),
      go t.strikes (at_least m ts p.1) (lowest m ts p.1),
    )
  where
    go : (s : Bool) → AllByRecursion (λ u. number_of t.refusal ≤ number_of u.refusal) ts
        → AllByRecursion (λ u. u.strikes ≡ true → Struck (first_of ts) (number_of u.refusal)) ts
        → AllByRecursion (λ u. u.strikes ≡ true → Struck (cond s (Err t.refusal) (first_of ts)) (number_of u.refusal)) ts
    go true a l = weaken (λ (u : Test). number_of t.refusal ≤ number_of u.refusal) _ (λ u h s. h) ts a
    go false a l = l

pub refuses_lowest : RefusesLowest
unfolding verdict
refuses_lowest c b =
    weaken (λ (t : Test). t.strikes ≡ true → Struck (first_of (all_tests c b)) (number_of t.refusal)) _
    (λ t h s. reply (first_of (all_tests c b)) (number_of t.refusal) (h s)) (all_tests c b) (lowest 0 (all_tests c b) (tests_ordered c b))
  where
    reply : (r : Result (Unit {0}) Refusal) (n : ℕ) → Struck r n → RefusedBy (outcome r c b).0 n
    reply (Ok t) n h = h
    reply (Err r) n h = h

-- ---- nothing changes
pub refusal_keeps : RefusalKeeps
refusal_keeps c b r e = go (verdict c b) e
  where
    go : (n : Result (Unit {0}) Refusal) → (outcome n c b).0 ≡ refused r → (outcome n c b).1 ≡ b
    go (Ok t) e = let z : ◌≡◌ {A = ℕ} 0 1 = cc in absurd (omega arith)
    go (Err r) e = refl

-- ---- what is no basin
pub refuses_flaws : RefusesFlaws
unfolding verdict
refuses_flaws c b n =
    elim (cases_Bool (misfit b.head b.tables)) [
      | inl m ↦ inl (ap (λ t. (outcome (cond t (Err TableLength)
          (cond (short_work c (side b.head)) (Err TableLength)
          (cond (no_basin b) (Err NotABasin) (first_of (tests b.head.loose (view b) c))))) c b).0) m)
      | inr m ↦ elim (cases_Bool (short_work c (side b.head))) [
        | inl w ↦ inl (λ i. (outcome (cond (m i) (Err TableLength)
            (cond (w i) (Err TableLength) (cond (no_basin b) (Err NotABasin) (first_of (tests b.head.loose (view b) c))))) c b).0)
        | inr w ↦ elim (cases_Bool (no_basin b)) [
          | inl f ↦ inr (λ i. (outcome (cond (m i) (Err TableLength)
              (cond (w i) (Err TableLength) (cond (f i) (Err NotABasin) (first_of (tests b.head.loose (view b) c))))) c b).0)
          | inr f ↦ absurd (n (tells_basins.0 b (m, f)))
        ]
      ]
    ]
