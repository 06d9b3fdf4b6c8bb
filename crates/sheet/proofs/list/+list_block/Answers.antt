use Rattle.std.proofs.Common.{[], ◌∷◌, refl}
use Rattle.std.proofs.lemmas.Slice.{pushed}
use Rattle.sheet.proofs.Listing.{cut_is, leaf_is, added_four}
use Rattle.sheet.proofs.list.+list_block.Goals as goal

pub returns-in_ok-list_block-in-Some-3 : goal.returns-in_ok-list_block-in-Some-3
returns-in_ok-list_block-in-Some-3 t c =
    added_four _ _ _ _ _ _ _ _ _ _ _ (cut_is c.args.node c.in-Some.ensures)
    c.in_ok-list_block-in-Some.ensures c.in_ok-list_block-in-Some-2.ensures c.in_ok-list_block-in-Some-3.ensures c.list_block-in-Some-3.ensures

pub returns-in_ok-push-in-None : goal.returns-in_ok-push-in-None
returns-in_ok-push-in-None t c =
    rw (leaf_is c.args.node c.in-None.ensures, ← c.line_at.ensures) (pushed (c.line_at.result ∷ []) refl c.in_ok-push-in-None.was c.push.ensures.items)
