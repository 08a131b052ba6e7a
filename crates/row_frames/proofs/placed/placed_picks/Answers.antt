use Rattle.std.proofs.Common.{◌<◌, ◌∙◌, ap, length}
use Rattle.std.proofs.lemmas.List.Elements.{All-same}
use Rattle.edm_values.specs.Lists.{at_places}
use Rattle.row_frames.specs.declared.tables.Pick.{Pick}
use Rattle.row_frames.specs.Frames.{all_picked}
use Rattle.row_frames.proofs.PlaceLemmas.{at-within, picked-at, places-picked}
use Rattle.row_frames.proofs.placed.placed_picks.Goals as goal

pub picks_at-requires : goal.picks_at-requires
picks_at-requires c = places-picked c.args.tables.now c.args.picks.now c.args.places.now c.requires.there

pub returns : goal.returns
returns c =
    let ts = c.args.tables.now in
    let xs = c.args.picks.now in
    let ks = c.args.places.now in
    let found = c.in_ok-found.ensures in record {
      picked = ap (all_picked ts) found ∙ picked-at ts xs ks;
      within = All-same (λ (x : Pick). x.table < length ts) c.in_ok-found.found.items (at_places xs ks) found (at-within (λ (x : Pick). x.table < length ts) xs ks (places-picked ts xs ks c.requires.there) c.requires.within);
    }
