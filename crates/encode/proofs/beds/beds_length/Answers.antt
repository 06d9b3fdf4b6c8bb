-- The beds' bytes are those of each together.
use Rattle.std.proofs.Common.{◌≡◌, length, sym, ap, ◌∙◌, arith, rules, tests}
use Rattle.std.proofs.lemmas.Iterator.{YieldsList-from_slice, YieldsList-from_map}
use Rattle.std.proofs.lemmas.Iterator.Consumers.{sum_by_from_yields_List}
use Rattle.numbers.specs.Numbers.{number}
use Rattle.encode.specs.Bytes.{beds_bytes}
use Rattle.encode.proofs.Bedding.{bytes_sum, bytes_few}
use Rattle.encode.proofs.beds.beds_length.Goals as goal
use Rattle.encode.proofs.beds.beds_length.Goals.{After-sum}

all : (c : After-sum) → c.sum.result ≡ length (beds_bytes c.args.beds.now)
all c =
    sum_by_from_yields_List (λ b. length (number b)) c.args.beds.now c.map.result _ c.sum.ensures.ran
    (YieldsList-from_map _ (λ b. length (number b)) (YieldsList-from_slice c.args.beds.now (ap (λ r. r.rest.now) c.map.ensures.source ∙ c.iter.ensures.rest)) c.map.ensures.closure (λ x r q k. search (rules, tests)))
    ∙ sym (bytes_sum c.args.beds.now)

pub returns : goal.returns
returns c = record { value = all c; most = omega (arith, all c, bytes_few c.args.beds.now) }
