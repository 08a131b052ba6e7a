use Rattle.std.proofs.Common.{◌≡◌, map, sym, ap, subst, ◌∙◌, Some, IfSome}
use Rattle.std.specs.Option.{option_map}
use Rattle.std.specs.List.{slice_get}
use Rattle.std.proofs.lemmas.Simd.{map-map}
use Rattle.serde_json.specs.View.{view}
use Rattle.edm_model.specs.LookUps.{properties_of}
use Rattle.edm_data.specs.DataFile.{entity_of, items_of_set}
use Rattle.edm_data.specs.FirstItems.{IsFirstNone, rows_read}
use Rattle.edm_data.proofs.KeyedLemmas.{IfOk-then}
use Rattle.edm_data.proofs.TreeLemmas.{table_of_set}
use Rattle.edm_data.proofs.load.set_table.Goals as goal

pub returns-clause-ok : goal.returns-clause-ok
returns-clause-ok c =
    let m = c.args.model.now in
    let d = view c.args.root.now in
    let f = entity_of (properties_of m c.set_type.result) in
    let table = table_of_set m d c.args.s c.set_type.result (map view c.set_items-items.result.now) c.requires.there c.set_items-items.ensures.value c.set_type.ensures.value ∙ ap Some (map-map f view c.set_items-items.result.now) in
    IfOk-then c.set_rows.result (λ rows. rows_read rows ≡ map (λ x. f (view x)) c.set_items-items.result.now) (λ rows. option_map (items_of_set m d) (slice_get m.sets c.args.s) ≡ Some (rows_read rows)) (λ rows is. table ∙ ap Some (sym is)) c.set_rows.ensures.ok

pub returns-clause-shape : goal.returns-clause-shape
returns-clause-shape c = λ k is.
    let m = c.args.model.now in
    let d = view c.args.root.now in
    let f = entity_of (properties_of m c.set_type.result) in
    let table = table_of_set m d c.args.s c.set_type.result (map view c.set_items-items.result.now) c.requires.there c.set_items-items.ensures.value c.set_type.ensures.value ∙ ap Some (map-map f view c.set_items-items.result.now) in
    subst (λ o. IfSome o (λ os. IsFirstNone os k)) (sym table) (c.set_rows.ensures.shape k is)
