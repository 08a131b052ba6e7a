use Rattle.std.proofs.Common.{refl}
use Rattle.row_frames.proofs.LinkCodeLemmas.{made-by-links}
use Rattle.row_frames.proofs.codes.reference_codes.Goals as goal

pub returns : goal.returns
returns g c =
    let both = made-by-links c.args.store.now c.args.path.now _ _ _ c.args.tables.now c.linked_places-links.result _ c.args.picks.now c.link_codes.result
    c.data_is_loaded.ensures.value.lists c.in-Some.ensures.value c.in-Some-reference.ensures c.linked_places-links.ensures.value refl c.link_codes.ensures in
    record { value = both.0; within = both.1 }
