-- A record takes as many bytes as its three numbers.
use Rattle.std.proofs.Common.{◌≡◌, length, ap, ◌∙◌, arith, length-append, w64, SFits, rules}
use Rattle.std.proofs.lemmas.Int.{to_z-of_z}
use Rattle.numbers.specs.Numbers.{number, coded}
use Rattle.encode.proofs.record.leaf_length.Goals as goal

pub returns : goal.returns
returns c =
    let f : SFits w64 c.args.leaf.east = search rules in
    let g : SFits w64 c.args.leaf.north = search rules in
    let east : c.to_coded.result ≡ coded c.args.leaf.east = c.to_coded.ensures ∙ ap coded (to_z-of_z w64 c.args.leaf.east f) in
    let north : c.to_coded-2.result ≡ coded c.args.leaf.north = c.to_coded-2.ensures ∙ ap coded (to_z-of_z w64 c.args.leaf.north g) in
    let e = c.number_length-2.ensures.value ∙ ap (λ n. length (number n)) east in
    let n = c.number_length-3.ensures.value ∙ ap (λ n. length (number n)) north in
    record { value = simp length-append (omega arith); most = omega arith }
