use Rattle.std.proofs.Common.{◌≡◌, ◌+◌, ◌-◌, ◌*◌, ◌<◌, sym, ap, ◌∙◌, inl, inr, pow-suc, add-one, arith}
use Rattle.numbers.specs.Numbers.{groups_at}
use Rattle.numbers.proofs.Groups.{ended, padded, done, more, kept_below, kept_small}
use Rattle.numbers.proofs.number.read_number.Goals as goal
use Rattle.numbers.proofs.number.read_number.Goals.{Else-byte-lt-MORE}

pub returns-then-k-gt0 : goal.returns-then-k-gt0
returns-then-k-gt0 c =
    let all = c.loop-k.invariant.3 in
    padded (6 - c.loop-k.k) _ _ _ _ _ _ (omega (arith, all.few)) (all.each _ _ (omega arith) c.from-byte.ensures) (omega arith) (omega arith) ∙ sym c.loop-k.invariant.0

pub overflow_add-result : goal.overflow_add-result
overflow_add-result c =
    omega (arith, kept_small c.loop-k.k _ _ c.from-byte.result (omega (arith, c.loop-k.invariant.3.few)) c.loop-k.invariant.2 c.loop-k.invariant.1 (omega arith))

pub returns-then-byte-lt-MORE : goal.returns-then-byte-lt-MORE
returns-then-byte-lt-MORE c =
    let all = c.loop-k.invariant.3 in
    done (6 - c.loop-k.k) _ _ _ _ _ _ (omega (arith, all.few)) (all.each _ _ (omega arith) c.from-byte.ensures) (omega arith)
    (λ z l. elim c.else-byte-eq0.either [ inl w ↦ omega arith | inr w ↦ w z ])
    ∙ sym c.loop-k.invariant.0

group : (c : Else-byte-lt-MORE) → c.from-byte.result - 128 < 128
group c =
    let all = c.loop-k.invariant.3 in
    omega (arith, (all.each _ _ (omega arith) c.from-byte.ensures).is, c.type_inv.bytes (c.args.at + c.loop-k.k))

pub loop-k-preserved : goal.loop-k-preserved
loop-k-preserved c =
    let all = c.loop-k.invariant.3 in
    let e : 6 - (c.loop-k.k + 1) ≡ (6 - c.loop-k.k) - 1 = omega arith in
    let p : c.args.at + (c.loop-k.k + 1) ≡ c.args.at + c.loop-k.k + 1 = omega arith in (
      c.loop-k.invariant.0 ∙ rw (e, p) (more (6 - c.loop-k.k) _ _ _ _ _ _ (omega (arith, all.few)) (all.each _ _ (omega arith) c.from-byte.ensures) (omega arith)),
      kept_below _ _ _ c.loop-k.invariant.1 (group c),
      rw (add-one, pow-suc) (ap (λ n. n * 128) c.loop-k.invariant.2),
      all,
    )

pub returns-then-groups-lt-GROUPS : goal.returns-then-groups-lt-GROUPS
returns-then-groups-lt-GROUPS c =
    let all = c.loop-k.invariant.3 in
    ended (6 - c.loop-k.k) _ _ _ _ _ (omega arith) (omega (arith, all.all (omega arith))) ∙ sym c.loop-k.invariant.0

pub returns : goal.returns
unfolding groups_at
returns c =
    let e : 6 - c.loop-k.k ≡ 0 = omega (arith, c.loop-k.invariant.3.few) in
    sym (rw e at c.loop-k.invariant.0)
