-- Bytes written one after another.
use Rattle.std.proofs.Common.{◌≡◌, ℕ, suc, ◌+◌, List, [], ◌∷◌, ◌++◌, length, set, sym, refl, ◌∙◌, add-zero, arith, length-append}
use Rattle.std.proofs.Math.Seq.{length-sets}
use lib.Seq.{sets}
use Rattle.encode.specs.declared.writer.Writer.{Writer}
use Rattle.encode.specs.Writers.{Room, Puts}

pub sets_append : (l : List ℕ) (i : ℕ) (xs ys : List ℕ) → sets l i (xs ++ ys) ≡ sets (sets l i xs) (i + length xs) ys
sets_append l i [] ys = rw add-zero refl
sets_append l i (x ∷ xs) ys =
    let e : i + suc (length xs) ≡ suc i + length xs = omega arith in
    rw e (sets_append (set l i x) (suc i) xs ys)

-- the output keeps its length
pub kept : {xs : List ℕ} {w v : Writer} → Puts xs w v → length v.out.now ≡ length w.out.now
kept {xs} {w} {v} p = rw p.written (length-sets w.out.now w.at xs)

pub then : {xs ys : List ℕ} {u v w : Writer} → Puts xs u v → Puts ys v w → Puts (xs ++ ys) u w
then {xs} {ys} {u} {v} {w} f g =
    record {
      same = g.same ∙ f.same;
      place = simp length-append (omega (arith, f.place, g.place));
      written = g.written ∙ rw (f.written, f.place) (sym (sets_append u.out.now u.at xs ys));
    }

-- where there is room for both, there is room for the first, and then for the second
pub first : {xs : List ℕ} (ys : List ℕ) {w : Writer} → Room (xs ++ ys) w → Room xs w
first {xs} ys r = record { fits = omega (arith, r.fits, length-append xs ys) }

pub second : {xs ys : List ℕ} {v w : Writer} → Room (xs ++ ys) v → Puts xs v w → Room ys w
second {xs} {ys} {v} {w} r p = record { fits = omega (arith, r.fits, length-append xs ys, p.place, kept p) }
