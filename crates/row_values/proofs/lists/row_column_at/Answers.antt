use Rattle.std.proofs.Common.{◌∙◌, ◌++◌, ◌∷◌, ◌+◌, [], ap, drop, map, sym}
use Rattle.std.proofs.lemmas.List.{map-append}
use Rattle.edm_values.specs.declared.Seen.{Seen}
use Rattle.edm_values.specs.Lists.{at_places}
use Rattle.edm_values.specs.Values.{seen_value}
use Rattle.apply_meaning.specs.Instances.{lookup}
use Rattle.apply_meaning.specs.RowViews.{is_of}
use Rattle.row_frames.specs.Keys.{key_column}
use Rattle.row_values.proofs.PlacedLemmas.{next-at, taken-passes}
use Rattle.row_values.proofs.lists.row_column_at.Goals as goal

pub lookup-requires : goal.lookup-requires
lookup-requires c = taken-passes (is_of c.args.store.now) c.args.rows.now c.args.places.now c.loop-at.at-index c.index-rows-at.result c.requires.within c.loop-at-test.true c.index-rows-at.is c.requires.of

pub loop-at-preserved : goal.loop-at-preserved
loop-at-preserved c =
    let w = c.args.store.now in
    let p = c.args.path.now in
    let value = λ (v : Seen). seen_value v in
    next-at (λ i. lookup w i p) c.args.rows.now c.args.places.now c.loop-at.at-index c.index-rows-at.result (map value c.loop-at.seen.items) (seen_value c.lookup.result) c.requires.within c.loop-at-test.true c.index-rows-at.is c.lookup.ensures.value c.loop-at.invariant
    ∙ ap (λ vs. vs ++ key_column w (at_places c.args.rows.now (drop (c.loop-at.at-index + 1) c.args.places.now)) p)
    (sym (map-append value c.loop-at.seen.items (c.lookup.result ∷ [])) ∙ ap (map value) (sym c.in_ok-push.ensures.items))
