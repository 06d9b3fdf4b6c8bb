-- Each refusal strikes in its turn.
use Rattle.std.proofs.Common.{sym, ◌∙◌}
use Rattle.refine.proofs.Divided.{child_small, small_shares, wet_bare, wet_full, wet_over, wet_divided}
use Rattle.refine.proofs.divide.divide_wet.Goals as goal

pub returns-then-leaves_bare : goal.returns-then-leaves_bare
returns-then-leaves_bare c =
    record {
      value = wet_bare c.args.plot c.args.beds.now c.args.leaf c.args.loose _ _ c.plot_beds.ensures.value c.shares-shares.ensures
          (sym c.leaves_bare.ensures ∙ c.if-leaves_bare.true);
      few = tt;
    }

pub overfills-requires : goal.overfills-requires
overfills-requires c = child_small c.args.plot

pub returns-then-overfills : goal.returns-then-overfills
returns-then-overfills c =
    record {
      value = wet_full c.args.plot c.args.beds.now c.args.leaf c.args.loose _ _ c.plot_beds.ensures.value c.shares-shares.ensures
          (sym c.leaves_bare.ensures ∙ c.if-leaves_bare.false) (sym c.overfills.ensures ∙ c.if-overfills.true);
      few = tt;
    }

pub returns-then-loose-remainder-gt1000000 : goal.returns-then-loose-remainder-gt1000000
returns-then-loose-remainder-gt1000000 c =
    record {
      value = wet_over c.args.plot c.args.beds.now c.args.leaf c.args.loose _ _ c.plot_beds.ensures.value c.shares-shares.ensures
          (sym c.leaves_bare.ensures ∙ c.if-leaves_bare.false) (sym c.overfills.ensures ∙ c.if-overfills.false)
          c.if-loose-remainder-gt1000000.true;
      few = tt;
    }

pub children-requires : goal.children-requires
children-requires c =
    let small = small_shares _ c.shares-shares.result (child_small c.args.plot) (sym c.overfills.ensures ∙ c.if-overfills.false) in
    small

pub returns : goal.returns
returns c =
    record {
      value = wet_divided c.args.plot c.args.beds.now c.args.leaf c.args.loose _ _ c.plot_beds.ensures.value c.shares-shares.ensures
          (sym c.leaves_bare.ensures ∙ c.if-leaves_bare.false) (sym c.overfills.ensures ∙ c.if-overfills.false)
          c.if-loose-remainder-gt1000000.false _ c.children.ensures;
      few = c.if-loose-remainder-gt1000000.false;
    }
