-- The lines of a node that is cut, and of one that is a leaf.
use Rattle.std.proofs.Common.{◌≡◌, ℕ, zero, suc, ◌+◌, ◌-◌, ◌^◌, ◌<◌, ◌≤◌, List, [], ◌∷◌, ◌++◌, IfOk, Result, refl, ap, ◌∙◌, append_assoc, arith}
use Rattle.std.proofs.lemmas.Result.{IfOk-weaker}
use Rattle.std.proofs.lemmas.Bool.{lt-ltb, le-ltb}
use Rattle.basin.specs.Basins.{view}
use Rattle.basin.specs.Views.{View}
use Rattle.basin.specs.declared.quarters.Quarters.{Quarters}
use Rattle.tables.specs.Surveys.{surveyed}
use Rattle.encode.specs.declared.tree.Node.{Node}
use Rattle.encode.specs.Nodes.{IsLeaf, IsCut}
use Rattle.encode.proofs.Nodes.{part_is}
use Rattle.sheet.specs.declared.line.Line.{Line}
use Rattle.sheet.specs.Lines.{line, lines_at}

-- the lines of a node
abbrev pub lines_of : Node → List Line
lines_of n = lines_at (view (surveyed n.survey.now)) n.spot.height n.spot.x n.spot.y

lines_cut : (v : View) (h x y s : ℕ) → 0 < h → s ≡ 2 ^ (h - 1) → v.L - h < v.level x y
    → lines_at v h x y
    ≡ lines_at v (h - 1) x y ++ (lines_at v (h - 1) (x + s) y ++ (lines_at v (h - 1) x (y + s) ++ lines_at v (h - 1) (x + s) (y + s)))
unfolding lines_at
lines_cut v zero x y s p e l = absurd (omega arith)
lines_cut v (suc h) x y s p e l = let k : suc h - 1 ≡ h = omega arith in rw (lt-ltb (v.L - suc h) (v.level x y) l, e, k) refl

lines_leaf : (v : View) (h x y : ℕ) → v.level x y ≤ v.L - h → lines_at v h x y ≡ line v x y ∷ []
unfolding lines_at
lines_leaf v zero x y l = refl
lines_leaf v (suc h) x y l = rw (le-ltb (v.L - suc h) (v.level x y) l) refl

pub cut_is : (n : Node) {q : Quarters Node} → IsCut n q → lines_of n ≡ lines_of q.sw ++ (lines_of q.se ++ (lines_of q.nw ++ lines_of q.ne))
cut_is n {q} c =
    let below : q.sw.spot.height ≡ n.spot.height - 1 = omega (arith, c.sw.spot.height) in
    let s = 2 ^ q.sw.spot.height in
    rw (
      ← part_is n lines_at c.sw n.spot.x n.spot.y (omega arith) (omega arith),
      ← part_is n lines_at c.se (n.spot.x + s) n.spot.y refl (omega arith),
      ← part_is n lines_at c.nw n.spot.x (n.spot.y + s) (omega arith) refl,
      ← part_is n lines_at c.ne (n.spot.x + s) (n.spot.y + s) refl refl,
    )
    (lines_cut (view (surveyed n.survey.now)) n.spot.height n.spot.x n.spot.y s (omega (arith, c.sw.spot.height)) (ap (λ k. 2 ^ k) below) c.deep)

pub leaf_is : (n : Node) → IsLeaf n → lines_of n ≡ line (view (surveyed n.survey.now)) n.spot.x n.spot.y ∷ []
leaf_is n low = lines_leaf (view (surveyed n.survey.now)) n.spot.height n.spot.x n.spot.y low

-- four lists added one after another, the last by a call that may fail
pub added_four : {A T E : Type 0} (r : Result T E) (l₀ l₁ l₂ l₃ l₄ a b c d all : List A)
    → all ≡ a ++ (b ++ (c ++ d)) → l₁ ≡ l₀ ++ a → l₂ ≡ l₁ ++ b → l₃ ≡ l₂ ++ c → IfOk r (λ _. l₄ ≡ l₃ ++ d) → IfOk r (λ _. l₄ ≡ l₀ ++ all)
added_four r l₀ l₁ l₂ l₃ l₄ a b c d all e e₁ e₂ e₃ m =
    IfOk-weaker r _ _ (λ x e₄. e₄ ∙ rw (e, e₃, e₂, e₁) (simp append_assoc)) m
