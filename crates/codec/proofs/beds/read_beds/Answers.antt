use Rattle.std.proofs.Common.{◌≡◌, ◌+◌, ◌-◌, ◌<◌, length, sym, refl, ◌∙◌, add-one, arith, take-suc-set, rules}
use Rattle.std.proofs.lemmas.List.{take_all}
use Rattle.codec.proofs.Bedding.{beds_step, beds_stop, beds_end}
use Rattle.codec.proofs.beds.read_beds.Goals as goal

pub returns-in_err-bed : goal.returns-in_err-bed
returns-in_err-bed c =
    let same = c.loop-bed.invariant.0 in
    let e = c.loop-bed.invariant.1 ∙ beds_stop _ _ _ _ _ (omega arith) (rw same at c.in_err-bed.ensures.1) in
    record { next = (c.in_err-bed.ensures.0 ∙ same, rw e (search rules)); beds = rw e tt }

pub loop-bed-preserved : goal.loop-bed-preserved
loop-bed-preserved c =
    let same = c.loop-bed.invariant.0 in
    let h : c.loop-bed.bed-index < length c.loop-bed.beds = omega arith in
    let s : length c.args.beds.now - (c.loop-bed.bed-index + 1) ≡ length c.args.beds.now - c.loop-bed.bed-index - 1 = omega arith in
    let e =
    c.loop-bed.invariant.1 ∙ (beds_step _ _ _ _ _ _ (omega arith) (rw same at c.in_ok-bed.ensures.1)
    ∙ rw (s, add-one, take-suc-set c.loop-bed.beds c.loop-bed.bed-index c.in_ok-bed.field-0) refl) in
    (c.in_ok-bed.ensures.0 ∙ same, e)

pub returns : goal.returns
returns c =
    let e = c.loop-bed.invariant.1 ∙ beds_end _ _ _ _ (omega arith) in
    record { next = (c.loop-bed.invariant.0, rw e refl); beds = rw e (sym (take_all c.loop-bed.bed-index c.loop-bed.beds (omega arith))) }
