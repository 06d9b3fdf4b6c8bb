-- A square stays dry where each square across an edge keeps off.
use Rattle.std.proofs.Common.{◌+◌, ◌-◌, ◌≡◌, rules, arith}
use Rattle.basin.specs.Basins.{view}
use Rattle.basin.specs.Views.{size}
use Rattle.basin.proofs.Around.{decided_by_sides}
use Rattle.tables.specs.Surveys.{surveyed}
use Rattle.refine.specs.Floods.{KeepsOff}
use Rattle.refine.proofs.Floods.{kept_off, keeps_off}
use Rattle.refine.proofs.flood.stays_dry_at.Goals as goal

pub returns : goal.returns
returns c =
    let v = view (surveyed c.args.survey.now) in
    let j = c.args.level in
    let x = c.args.square.x in
    let y = c.args.square.y in
    let n = c.args.square.n in
    let on : c.args.square.n ≡ size (view (surveyed c.args.survey.now)) = c.requires.on in
    let s = c.beside.result in
    let at = c.beside.ensures in
    let keep = KeepsOff v j x y in
    let d = decided_by_sides c.all.result (keep s.east) (keep s.north) (keep s.west) (keep s.south) c.all.ensures
    (record { has = λ p. search rules; lacks = λ p k. search rules })
    (record { has = λ p. search rules; lacks = λ p k. search rules })
    (record { has = λ p. search rules; lacks = λ p k. search rules })
    (record { has = λ p. search rules; lacks = λ p k. search rules }) in (
      λ e.
          let k = d.0 e in
          record {
            east = λ h. kept_off v j x y (x + 1) y n _ _ s.east at.east k.0 (λ out. omega (arith, out, h, on));
            north = λ h. kept_off v j x y x (y + 1) n _ _ s.north at.north k.1.0 (λ out. omega (arith, out, h, on));
            west = λ h. kept_off v j x y (x - 1) y n _ _ s.west at.west k.1.1.0 (λ out. omega (arith, out, h));
            south = λ h. kept_off v j x y x (y - 1) n _ _ s.south at.south k.1.1.1 (λ out. omega (arith, out, h));
          },
      λ dry. d.1 (
        keeps_off v j x y (x + 1) y n _ _ s.east at.east (λ h. dry.east (omega (arith, h, on))),
        (
          keeps_off v j x y x (y + 1) n _ _ s.north at.north (λ h. dry.north (omega (arith, h, on))),
          (
            keeps_off v j x y (x - 1) y n _ _ s.west at.west dry.west,
            keeps_off v j x y x (y - 1) n _ _ s.south at.south dry.south,
          ),
        ),
      ),
    )
