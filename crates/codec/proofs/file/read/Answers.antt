use Rattle.std.proofs.Common.{◌≡◌, true, cond, length, take, Ok, Err, sym, refl, ◌∙◌, arith}
use Rattle.std.proofs.lemmas.List.{length-take}
use Rattle.basin.specs.declared.leaf.Leaf.{Leaf}
use Rattle.std.proofs.lemmas.Result.{err_from_is_err_and}
use Rattle.basin.specs.Basins.{heading, tables, basin}
use Rattle.basin.proofs.Telling.{are_full, not_full, is_misfit, no_misfit}
use Rattle.nodes.specs.declared.fault.TreeFault.TheVariants.{Unbalanced}
use Rattle.codec.specs.declared.fault.FileFault.TheVariants.{Tree}
use Rattle.codec.specs.Files.{file_at}
use Rattle.codec.proofs.Valid.{read_valid}
use Rattle.codec.proofs.Whole.{file_no_head, file_no_body, no_body, file_told, read_refused, read_misfit, read_granted}
use Rattle.codec.proofs.file.read.Goals as goal
use Rattle.codec.proofs.file.read.Goals.{After-is_balanced, at-returns, at-returns-then-not-is_balanced, at-returns-then-levels-squares}

pub returns-in_err-head-clause-read : goal.returns-in_err-head-clause-read
returns-in_err-head-clause-read c =
    let p = err_from_is_err_and c.from_residual.result c.from_residual.ensures.1 in
    rw (p.1, p.2) (read_refused _ _ _ (file_no_head c.args.bytes.now _ (sym c.in_err-head.ensures)))

pub returns-in_err-read_body-clause-read : goal.returns-in_err-read_body-clause-read
returns-in_err-read_body-clause-read c =
    let p = err_from_is_err_and c.from_residual-in_err-read_body.result c.from_residual-in_err-read_body.ensures.1 in
    let e = no_body _ _ c.in_err-read_body.ensures.whether in
    rw (p.1, p.2) (read_refused _ _ _ (file_no_body c.args.bytes.now (heading c.in_ok-head.head) c.in_ok-head.at _ (sym c.in_ok-head.ensures) e))

-- the file, once the balance of what was read is known
told : (c : After-is_balanced)
    → file_at c.args.bytes.now
    ≡ cond c.is_balanced.result
    (Ok (basin (heading c.in_ok-head.head) (tables c.read_body.new.levels c.read_body.new.beds c.read_body.new.leaves)))
    (Err (Tree (Unbalanced (length c.args.bytes.now))))
told c =
    file_told c.args.bytes.now (heading c.in_ok-head.head) c.in_ok-head.at c.side.result _ c.is_balanced.result
    (sym c.in_ok-head.ensures) c.in_ok-read_body.ensures.whether c.in_ok-read_body.ensures.tables
    c.side.ensures.value c.is_balanced.ensures

-- and where it is balanced
charts : (c : After-is_balanced) → c.is_balanced.result ≡ true
    → file_at c.args.bytes.now
    ≡ Ok (basin (heading c.in_ok-head.head) (tables c.read_body.new.levels c.read_body.new.beds c.read_body.new.leaves))
charts c e = told c ∙ rw e refl

pub returns-then-not-is_balanced : goal.returns-then-not-is_balanced
returns-then-not-is_balanced c =
    record { read = read_refused _ _ _ (told (at-returns-then-not-is_balanced c).After-is_balanced ∙ rw c.if-not-is_balanced.true refl); valid = tt }

pub returns-then-levels-squares : goal.returns-then-levels-squares
returns-then-levels-squares c =
    record {
      read =
          read_misfit _ _ _ (charts (at-returns-then-levels-squares c).After-is_balanced c.if-not-is_balanced.false)
          (is_misfit _ _ (not_full _ _ _ c.squares-squares.ensures.value c.then-levels-squares.either));
      valid = tt;
    }

pub copy_from_slice-requires-3 : goal.copy_from_slice-requires-3
copy_from_slice-requires-3 c =
    let h : length c.read_body.new.leaves ≡ length (take c.squares-squares.result _) = c.read_body.auto.leaves in
    omega (arith, h, length-take {A = Leaf}, c.if-leaves-squares.false)

pub returns : goal.returns
returns c =
    let levels = c.copy_from_slice.ensures.after in
    let beds = c.copy_from_slice-2.ensures.after in
    let leaves = c.copy_from_slice-3.ensures.after in
    let read =
    (λ i. (Ok (heading c.in_ok-head.head), tables (levels i) (beds i) (leaves i)))
    ∙ read_granted _ _ _ (charts (at-returns c).After-is_balanced c.if-not-is_balanced.false)
    (no_misfit _ _ (are_full _ _ _ c.squares-squares.ensures.value c.if-levels-squares.false c.if-beds-squares.false c.if-leaves-squares.false)) in
    record { read = read; valid = read_valid c.args.bytes.now _ _ (Ok c.in_ok-head.head) (λ i. (c.type_inv.bytes i).fits) read }
