-- The quarter is the one defined, and lies in the basin.
use Prim.Native.Nat.{◌+◌, ◌*◌}
use mathlib.Core.Logic.{inl, inr}
use mathlib.Core.Path.{◌≡◌, sym, ap, ◌∙◌}
use native.Mathlib.Numerals.{add-one}
use Rattle.basin.specs.Blocks.{block}
use Rattle.runs.specs.Trees.{first}
use Rattle.blocks.specs.Places.{as_block}
use Rattle.blocks.proofs.Lying.{first_lies}
use Rattle.blocks.proofs.places.first.Goals as goal

pub returns-in-East : goal.returns-in-East
returns-in-East c =
    let a = c.args.block in
    let s = ap (λ k. block k (a.x * 2) (a.y * 2)) (add-one a.level) in
    let e : block (a.level + 1) (a.x * 2) (a.y * 2) ≡ first c.args.dir (as_block a) =
    elim c.in-East.is [ inl i ↦ s ∙ ap (λ p. first p (as_block a)) (sym i) | inr i ↦ s ∙ ap (λ p. first p (as_block a)) (sym i) ] in
    record { value = e; lies = first_lies a _ c.args.dir c.args.head.in_range.0 c.requires.0 c.requires.1 e }

pub returns-in-West : goal.returns-in-West
returns-in-West c =
    let a = c.args.block in
    let e = ap (λ k. block k (a.x * 2 + 1) (a.y * 2)) (add-one a.level) ∙ ap (λ p. first p (as_block a)) (sym c.in-West.is) in
    record { value = e; lies = first_lies a _ c.args.dir c.args.head.in_range.0 c.requires.0 c.requires.1 e }

pub returns-in-South : goal.returns-in-South
returns-in-South c =
    let a = c.args.block in
    let e = ap (λ k. block k (a.x * 2) (a.y * 2 + 1)) (add-one a.level) ∙ ap (λ p. first p (as_block a)) (sym c.in-South.is) in
    record { value = e; lies = first_lies a _ c.args.dir c.args.head.in_range.0 c.requires.0 c.requires.1 e }
