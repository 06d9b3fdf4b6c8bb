-- Each child's share is that of its block.
use Rattle.std.proofs.Common.{◌≡◌, ◌-◌, rules}
use Rattle.basin.specs.Plots.{ground}
use Rattle.refine.proofs.Divided.{share_is}
use Rattle.refine.proofs.share.shares.Goals as goal

pub returns : goal.returns
returns c =
    let p = c.args.plot in
    let q = c.quarters.result in
    let at = c.quarters.ensures in
    let of = c.map.ensures in
    let beds = c.args.beds.now in
    let quarter = c.args.quarter in
    let sw : c.map.result.sw ≡ c.args.quarter - ground c.quarters.result.sw c.args.beds.now = search (rules, of.sw) in
    let se : c.map.result.se ≡ c.args.quarter - ground c.quarters.result.se c.args.beds.now = search (rules, of.se) in
    let nw : c.map.result.nw ≡ c.args.quarter - ground c.quarters.result.nw c.args.beds.now = search (rules, of.nw) in
    let ne : c.map.result.ne ≡ c.args.quarter - ground c.quarters.result.ne c.args.beds.now = search (rules, of.ne) in
    λ i. record {
      sw = share_is p q.sw beds quarter _ _ _ at.sw sw i;
      se = share_is p q.se beds quarter _ _ _ at.se se i;
      nw = share_is p q.nw beds quarter _ _ _ at.nw nw i;
      ne = share_is p q.ne beds quarter _ _ _ at.ne ne i;
    }
