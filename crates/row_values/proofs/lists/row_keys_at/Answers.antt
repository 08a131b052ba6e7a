use Rattle.std.proofs.Common.{◌∙◌, ◌++◌, ◌∷◌, ◌+◌, [], ap, drop, map, sym}
use Rattle.std.specs.Global.{Vec}
use Rattle.std.proofs.lemmas.List.{map-append}
use Rattle.edm_values.specs.Lists.{at_places}
use Rattle.edm_values.specs.declared.Value.{Value}
use Rattle.apply_meaning.specs.Meaning.{key_list}
use Rattle.apply_meaning.specs.RowViews.{is_of}
use Rattle.row_values.proofs.PlacedLemmas.{next-at, taken-passes}
use Rattle.row_values.proofs.lists.row_keys_at.Goals as goal

pub key_list-requires : goal.key_list-requires
key_list-requires c = taken-passes (is_of c.args.store.now) c.args.rows.now c.args.places.now c.loop-at.at-index c.index-rows-at.result c.requires.within c.loop-at-test.true c.index-rows-at.is c.requires.of

pub loop-at-preserved : goal.loop-at-preserved
loop-at-preserved c =
    let f = key_list c.args.store.now c.args.paths.now in
    let own = λ (k : Vec Value). k.items in
    next-at f c.args.rows.now c.args.places.now c.loop-at.at-index c.index-rows-at.result (map own c.loop-at.lists.items) c.in_ok-key_list.field-0.items c.requires.within c.loop-at-test.true c.index-rows-at.is c.in_ok-key_list.ensures c.loop-at.invariant
    ∙ ap (λ ks. ks ++ map f (at_places c.args.rows.now (drop (c.loop-at.at-index + 1) c.args.places.now)))
    (sym (map-append own c.loop-at.lists.items (c.in_ok-key_list.field-0 ∷ [])) ∙ ap (map own) (sym c.in_ok-push.ensures.items))
