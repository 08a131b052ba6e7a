use Rattle.std.proofs.Common.{◌≡◌, ◌<◌, ◌≤◌, ◌^◌, length, map, Err, Some, ap, subst, ◌∙◌, arith, below_more}
use Rattle.std.specs.Option.{option_map}
use Rattle.std.specs.List.{slice_get}
use Rattle.std.proofs.lemmas.List.{length-map, take_all}
use Rattle.std.proofs.lemmas.Option.{slice_get-map}
use Rattle.serde_json.specs.View.{view}
use Rattle.edm_data.specs.DataFile.{items_of_set, items_of_sets}
use Rattle.edm_data.specs.FirstItems.{rows_read}
use Rattle.edm_data.proofs.FirstPlaces.{size_at}
use Rattle.edm_data.proofs.PlaceLemmas.{place_is, place_count}
use Rattle.edm_data.proofs.TreeLemmas.{AreEntities, Tells-shape, tables-more, entities_of_rows, few_here, few_all, rows_accepted}
use Rattle.edm_data.proofs.load.all_rows.Goals as goal

pub set_table-requires-clause-there : goal.set_table-requires-clause-there
set_table-requires-clause-there c =
    let number = place_count c.sets-set-items.result.now (length c.args.model.now.sets) c.sets-set-items.ensures.value in
    let set = place_is c.sets-set-items.result.now (length c.args.model.now.sets) c.loop-set.set-index c.set-item.result c.sets-set-items.ensures.value c.loop-set-test.true c.set-item.is in
    rw (set, ← number) c.loop-set-test.true

pub returns-in-Err-clause-refused : goal.returns-in-Err-clause-refused
returns-in-Err-clause-refused c =
    let number = place_count c.sets-set-items.result.now (length c.args.model.now.sets) c.sets-set-items.ensures.value in
    let set = place_is c.sets-set-items.result.now (length c.args.model.now.sets) c.loop-set.set-index c.set-item.result c.sets-set-items.ensures.value c.loop-set-test.true c.set-item.is in
    Tells-shape c.args.model.now (view c.args.root.now) c.set-item.result c.in-Err.refused c.refused_in.result c.refused_in.ensures.shape c.refused_in.ensures.memory (rw (set, ← number) c.loop-set-test.true) (λ j less. c.loop-set.invariant.entities j (rw set at less)) (λ k is. c.in-Err.ensures.shape k (ap Err is))

pub loop-set-preserved : goal.loop-set-preserved
loop-set-preserved c =
    let m = c.args.model.now in
    let d = view c.args.root.now in
    let i = c.loop-set.set-index in
    let set = place_is c.sets-set-items.result.now (length m.sets) i c.set-item.result c.sets-set-items.ensures.value c.loop-set-test.true c.set-item.is in
    let here = subst (λ s. option_map (items_of_set m d) (slice_get m.sets s) ≡ Some (rows_read c.in-Ok.rows)) set c.in-Ok.ensures.ok in
    let at : slice_get (items_of_sets m d) i ≡ Some (rows_read c.in-Ok.rows) = slice_get-map (items_of_set m d) m.sets i ∙ here in
    record {
      read = tables-more m d i c.loop-set.sets.items c.push.new.self.items c.in-Ok.rows c.in_ok-push-in-Ok.ensures.items here c.loop-set.invariant.read;
      few = below_more (λ s. size_at (items_of_sets m d) s < 2 ^ 32) i c.loop-set.invariant.few (few_here (items_of_sets m d) i c.in-Ok.rows at c.in-Ok.ensures.few);
      entities = below_more (AreEntities (items_of_sets m d)) i c.loop-set.invariant.entities (entities_of_rows (items_of_sets m d) i c.in-Ok.rows at);
    }

pub returns-clause-ok : goal.returns-clause-ok
returns-clause-ok c =
    let m = c.args.model.now in
    let d = view c.args.root.now in
    let number = place_count c.sets-set-items.result.now (length m.sets) c.sets-set-items.ensures.value in
    let over : length c.sets-set-items.result.now ≤ c.loop-set.set-index = omega arith in
    c.loop-set.invariant.read ∙ ap (map (items_of_set m d)) (take_all c.loop-set.set-index m.sets (rw number at over))

pub returns-clause-few : goal.returns-clause-few
returns-clause-few c =
    let m = c.args.model.now in
    let d = view c.args.root.now in
    let number = place_count c.sets-set-items.result.now (length m.sets) c.sets-set-items.ensures.value in
    let over : length c.sets-set-items.result.now ≤ c.loop-set.set-index = omega arith in
    let far : length m.sets ≤ c.loop-set.set-index = rw number at over in
    let read = c.loop-set.invariant.read ∙ ap (map (items_of_set m d)) (take_all c.loop-set.set-index m.sets far) in
    let all : length (items_of_sets m d) ≤ c.loop-set.set-index = rw (length-map m.sets (items_of_set m d)) far in
    few_all (map rows_read c.loop-set.sets.items) (items_of_sets m d) c.loop-set.set-index read all c.loop-set.invariant.few

pub returns-clause-accepted : goal.returns-clause-accepted
returns-clause-accepted c =
    let m = c.args.model.now in
    let d = view c.args.root.now in
    let number = place_count c.sets-set-items.result.now (length m.sets) c.sets-set-items.ensures.value in
    let over : length c.sets-set-items.result.now ≤ c.loop-set.set-index = omega arith in
    let far : length m.sets ≤ c.loop-set.set-index = rw number at over in
    let size : length (items_of_sets m d) ≡ length m.sets = length-map m.sets (items_of_set m d) in
    rows_accepted m (items_of_sets m d) (λ s less. c.loop-set.invariant.entities s (omega (arith, size, far, less)))
