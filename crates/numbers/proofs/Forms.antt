-- A number is read where it is written, and written where it is read.
use Rattle.std.proofs.Common.{◌≡◌, ℕ, zero, suc, ◌+◌, ◌-◌, ◌*◌, ◌/◌, ◌%◌, ◌^◌, ◌<◌, ◌≤◌, List, [], ◌∷◌, ◌++◌, length, get_or, drop, ℤ, pos, negsuc, Ok, Err, sym, refl, ap, ◌∙◌, ⊎_elim, mul_assoc, pow-suc, mul-add, add-one, arith, drop-cons}
use native.Mathlib.Nat.{div-add-mod}
use Rattle.std.proofs.lemmas.Bool.{lt-ltb, le-ltb, cases_lt, eq-eqb, ne_eqb, cases_eq}
use Rattle.numbers.specs.declared.fault.NumberFault.{NumberFault}
use Rattle.numbers.specs.declared.fault.NumberFault.TheVariants.{Ended, Malformed}
use Rattle.numbers.specs.Numbers.{groups_at, number_at, groups, number, signed, coded}
use Rattle.numbers.specs.Laws.{Bytes, WrittenIsRead, ReadWasWritten}
use Rattle.numbers.proofs.Groups.{Byte, ended, padded, done, more}

-- what stands at the head of the rest of a list
pub head_of : (bs : List ℕ) (at x : ℕ) (ys : List ℕ) → drop at bs ≡ x ∷ ys → Byte bs at x × (drop (at + 1) bs ≡ ys)
head_of [] zero x ys e = let z : ◌≡◌ {A = ℕ} 0 1 = cc in absurd (omega arith)
head_of [] (suc at) x ys e = let z : ◌≡◌ {A = ℕ} 0 1 = cc in absurd (omega arith)
head_of (b ∷ bs) zero x ys e = let h : b ≡ x = cc in let t : bs ≡ ys = cc in (record { inside = omega arith; is = sym h }, t)
head_of (b ∷ bs) (suc at) x ys e =
    let r = head_of bs at x ys e in
    (record { inside = omega (arith, r.0.inside); is = r.0.is }, rw add-one (rw add-one at r.1))

drop_more : (bs : List ℕ) (at : ℕ) → at < length bs → drop at bs ≡ get_or bs at 0 ∷ drop (at + 1) bs
drop_more bs at l = rw add-one (drop-cons bs at 0 l)

pub groups_last : (k v : ℕ) → v < 128 → groups (suc k) v ≡ v ∷ []
unfolding groups
groups_last k v h = rw (lt-ltb v 128 h) refl

pub groups_more : (k v : ℕ) → 128 ≤ v → groups (suc k) v ≡ (v % 128 + 128) ∷ groups k (v / 128)
unfolding groups
groups_more k v h = rw (le-ltb v 128 h) refl

positive : (k w : ℕ) → w < 128 ^ k → 1 ≤ w → 0 < k
positive zero w h l = absurd (omega arith)
positive (suc k) w h l = omega arith

-- the groups of v that are left, read from where they stand
abbrev Back : ℕ → Type 0
Back k = (bs post : List ℕ) (start at acc unit v : ℕ) → v < 128 ^ k → (start < at → v ≡ 0 → ⊥) → 0 < k
    → drop at bs ≡ groups k v ++ post
    → (groups_at k bs start at acc unit ≡ Ok (acc + unit * v, at + length (groups k v))) × (drop (at + length (groups k v)) bs ≡ post)

groups_back : (k : ℕ) → Back k
groups_back zero bs post start at acc unit v h s p e = absurd (omega arith)
groups_back (suc k) bs post start at acc unit v h s p e = ⊎_elim last (rest (groups_back k)) (cases_lt v 128)
  where
    Goal : Type 0
    Goal = (groups_at (suc k) bs start at acc unit ≡ Ok (acc + unit * v, at + length (groups (suc k) v))) × (drop (at + length (groups (suc k) v)) bs ≡ post)

    last : v < 128 → Goal
    last l =
        let g = groups_last k v l in
        let r = head_of bs at v post (rw g at e) in
        rw g (sym (done (suc k) bs start at acc unit v (omega arith) r.0 l (λ z b. s b z)), r.1)

    rest : Back k → 128 ≤ v → Goal
    rest back l =
        let g = groups_more k v l in
        let r = head_of bs at (v % 128 + 128) (groups k (v / 128) ++ post) (rw g at e) in
        let h' = rw pow-suc at h in
        let hw : v / 128 < 128 ^ k = omega arith in
        let hk = positive k (v / 128) hw (omega arith) in
        let ih = back bs post start (at + 1) (acc + unit * (v % 128)) (unit * 128) (v / 128) hw (λ _ z. omega arith) hk r.1 in
        let sk : suc k - 1 ≡ k = omega arith in
        let bv : v % 128 + 128 - 128 ≡ v % 128 = omega arith in
        let m = rw (sk, bv) at (more (suc k) bs start at acc unit (v % 128 + 128) (omega arith) r.0 (omega arith)) in
        let value : acc + unit * (v % 128) + unit * 128 * (v / 128) ≡ acc + unit * v =
        omega (arith, ap (λ n. unit * n) (div-add-mod v 128), mul-add unit (128 * (v / 128)) (v % 128), mul_assoc unit 128 (v / 128)) in
        let place : at + 1 + length (groups k (v / 128)) ≡ at + suc (length (groups k (v / 128))) = omega arith in
        let ok : groups_at (suc k) bs start at acc unit ≡ Ok (acc + unit * v, at + suc (length (groups k (v / 128)))) = m ∙ rw (value, place) at ih.0 in
        let left : drop (at + suc (length (groups k (v / 128)))) bs ≡ post = rw place at ih.1 in
        rw g (ok, left)

pub written_is_read : WrittenIsRead
written_is_read bs post at v h e = groups_back_at_0 (groups_back 6 bs post at at 0 1 v h (λ b z. omega arith) (omega arith) e)
  where
    groups_back_at_0 : (groups_at 6 bs at at 0 1 ≡ Ok (0 + 1 * v, at + length (groups 6 v))) × (drop (at + length (groups 6 v)) bs ≡ post)
        → (number_at bs at ≡ Ok (v, at + length (number v))) × (drop (at + length (number v)) bs ≡ post)
    groups_back_at_0 r = let z : 0 + 1 * v ≡ v = omega arith in (rw z at r.0, r.1)

-- what was read of the groups is the one way to write it
abbrev Form : ℕ → Type 0
Form k = (bs : List ℕ) (start at acc unit w q : ℕ) → Bytes bs → start ≤ at
    → groups_at k bs start at acc unit ≡ Ok (w, q)
    → (x : ℕ) × (w ≡ acc + unit * x) × (drop at bs ≡ groups k x ++ drop q bs) × (start < at → x ≡ 0 → ⊥)

groups_form : (k : ℕ) → Form k
unfolding groups_at
groups_form zero bs start at acc unit w q small o e = let z : ◌≡◌ {A = ℕ} 0 1 = cc in absurd (omega arith)
groups_form (suc k) bs start at acc unit w q small o e =
    ⊎_elim (λ l. ⊎_elim (last l) (rest (groups_form k) l) (cases_lt (get_or bs at 0) 128))
    (λ l. absurd (never (Ended start) (ended (suc k) bs start at acc unit (omega arith) l))) (cases_lt at (length bs))
  where
    Goal : Type 0
    Goal = (x : ℕ) × (w ≡ acc + unit * x) × (drop at bs ≡ groups (suc k) x ++ drop q bs) × (start < at → x ≡ 0 → ⊥)

    never : (f : NumberFault) → Err f ≡ groups_at (suc k) bs start at acc unit → ⊥
    never f d = let z : ◌≡◌ {A = ℕ} 0 1 = cc (d ∙ e) in omega arith

    last : at < length bs → get_or bs at 0 < 128 → Goal
    last l b =
        let n : get_or bs at 0 ≡ 0 → start < at → ⊥ = λ z s. never (Malformed start) (padded (suc k) bs start at acc unit _ (omega arith) (record { inside = l; is = refl }) z s) in
        let d = done (suc k) bs start at acc unit _ (omega arith) (record { inside = l; is = refl }) b n ∙ e in
        let pe : ◌≡◌ {A = ℕ × ℕ} (acc + unit * get_or bs at 0, at + 1) (w, q) = cc d in
        let qe : at + 1 ≡ q = ap (λ (p : ℕ × ℕ). p.1) pe in (
          get_or bs at 0,
          sym (ap (λ (p : ℕ × ℕ). p.0) pe),
          rw (groups_last k (get_or bs at 0) b, ← qe) (drop_more bs at l),
          λ s z. n z s,
        )

    rest : Form k → at < length bs → 128 ≤ get_or bs at 0 → Goal
    rest form l b =
        let sk : suc k - 1 ≡ k = omega arith in
        let m = rw sk at (more (suc k) bs start at acc unit _ (omega arith) (record { inside = l; is = refl }) b) in
        let ih = form bs start (at + 1) (acc + unit * (get_or bs at 0 - 128)) (unit * 128) w q small (omega arith) (sym m ∙ e) in
        let x : ℕ = get_or bs at 0 - 128 + 128 * ih.0 in
        let nz : ih.0 ≡ 0 → ⊥ = ih.3 (omega arith) in
        let below : get_or bs at 0 < 256 = small at in
        let large : 128 ≤ get_or bs at 0 - 128 + 128 * ih.0 = omega arith in
        let low : (get_or bs at 0 - 128 + 128 * ih.0) % 128 + 128 ≡ get_or bs at 0 = omega arith in
        let high : (get_or bs at 0 - 128 + 128 * ih.0) / 128 ≡ ih.0 = omega arith in (
          get_or bs at 0 - 128 + 128 * ih.0,
          omega (arith, ih.1, mul-add unit (get_or bs at 0 - 128) (128 * ih.0), mul_assoc unit 128 ih.0),
          rw (groups_more k (get_or bs at 0 - 128 + 128 * ih.0) large, low, high) (drop_more bs at l ∙ ap (λ t. get_or bs at 0 ∷ t) ih.2),
          λ s z. omega arith,
        )

pub read_was_written : ReadWasWritten
read_was_written bs at v q small e =
    let r = groups_form 6 bs at at 0 1 v q small (omega arith) e in
    let z : v ≡ r.0 = omega (arith, r.1) in
    rw z r.2

pub signed_back : (z : ℤ) → signed (coded z) ≡ z
signed_back (pos q) =
    let m : 2 * q % 2 ≡ 0 = omega arith in
    let d : 2 * q / 2 ≡ q = omega arith in
    rw (m, d) refl
signed_back (negsuc q) =
    let m : (2 * q + 1) % 2 ≡ 1 = omega arith in
    let d : (2 * q + 1) / 2 ≡ q = omega arith in
    rw (m, d) refl

pub coded_back : (u : ℕ) → coded (signed u) ≡ u
coded_back u = ⊎_elim
    (λ (e : u % 2 ≡ 0). rw (eq-eqb (u % 2) 0 e) (omega arith))
    (λ (n : u % 2 ≡ 0 → ⊥). rw (ne_eqb (u % 2) 0 n) (omega arith))
    (cases_eq (u % 2) 0)
