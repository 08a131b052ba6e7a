use Rattle.std.proofs.Common.{◌≡◌, ◌+◌, ◌≤◌, [], length, Err, ap, subst, ◌∙◌, arith, below_more}
use Rattle.std.specs.Option.{unwrap_or}
use Rattle.edm_values.specs.Lists.{places}
use Rattle.edm_data.specs.Fitting.{FitsModel}
use Rattle.edm_data.specs.Links.{HasRelations}
use Rattle.edm_data.proofs.PlaceLemmas.{place_is, place_count}
use Rattle.edm_data.proofs.GroupLemmas.{each-more, each-all}
use Rattle.edm_data.proofs.LinkedLemmas.{AreSound, references_sound, Tells-dangling}
use Rattle.edm_data.proofs.RelationLemmas.{HasRelations-none}
use Rattle.edm_data.proofs.references.all_relations.Goals as goal

pub set_relations-requires : goal.set_relations-requires
set_relations-requires c =
    let sets = c.sets-set-items.ensures.value ∙ ap (λ m. places (length m.sets)) (c.model.ensures.value ∙ ap (λ w. w.model) c.tables.ensures.value) in
    let number = place_count c.sets-set-items.result.now (length c.args.keyed.now.model.sets) sets in
    let set = place_is c.sets-set-items.result.now (length c.args.keyed.now.model.sets) c.loop-set.set-index c.set-item.result sets c.loop-set-test.true c.set-item.is in
    rw (set, ← number) c.loop-set-test.true

pub returns-in-Err-clause-refused : goal.returns-in-Err-clause-refused
returns-in-Err-clause-refused c =
    let sets = c.sets-set-items.ensures.value ∙ ap (λ m. places (length m.sets)) (c.model.ensures.value ∙ ap (λ w. w.model) c.tables.ensures.value) in
    let set = place_is c.sets-set-items.result.now (length c.args.keyed.now.model.sets) c.loop-set.set-index c.set-item.result sets c.loop-set-test.true c.set-item.is in
    Tells-dangling c.args.keyed.now c.set-item.result c.in-Err.refused c.refused_in.result c.refused_in.ensures.dangling c.refused_in.ensures.memory (λ j less. c.loop-set.invariant.sound j (rw set at less)) (λ k is. c.in-Err.ensures.dangling k (ap Err is))

pub loop-set-preserved : goal.loop-set-preserved
loop-set-preserved c =
    let w = c.args.keyed.now in
    let sets = c.sets-set-items.ensures.value ∙ ap (λ m. places (length m.sets)) (c.model.ensures.value ∙ ap (λ w. w.model) c.tables.ensures.value) in
    let set = place_is c.sets-set-items.result.now (length w.model.sets) c.loop-set.set-index c.set-item.result sets c.loop-set-test.true c.set-item.is in
    let so_far = c.loop-set.invariant.len in
    let size : length c.loop-set.sets.items ≡ c.loop-set.set-index = omega (arith, c.loop-set.sets.ok.0) in
    record {
      len = c.in_ok-push-in-Ok.ensures.len ∙ ap (λ n. n + 1) so_far;
      each = each-more (λ s o. HasRelations w s (unwrap_or o [])) c.loop-set.sets.items c.push.new.self.items c.in-Ok.relations c.loop-set.set-index c.in_ok-push-in-Ok.ensures.items size (subst (λ s. HasRelations w s c.in-Ok.relations) set c.in-Ok.ensures.ok) c.loop-set.invariant.each;
      sound = below_more (AreSound w) c.loop-set.set-index c.loop-set.invariant.sound (subst (AreSound w) set c.in-Ok.ensures.sound);
    }

pub returns-clause-ok : goal.returns-clause-ok
returns-clause-ok c =
    let w = c.args.keyed.now in
    let sets = c.sets-set-items.ensures.value ∙ ap (λ m. places (length m.sets)) (c.model.ensures.value ∙ ap (λ w. w.model) c.tables.ensures.value) in
    let number = place_count c.sets-set-items.result.now (length w.model.sets) sets in
    let over : length c.sets-set-items.result.now ≤ c.loop-set.set-index = omega arith in
    let all : length w.model.sets ≤ c.loop-set.set-index = rw number at over in
    let so_far = c.loop-set.invariant.len in
    let size : length c.loop-set.sets.items ≡ c.loop-set.set-index = omega (arith, c.loop-set.sets.ok.0) in
    record {
      each = each-all (λ s o. HasRelations w s (unwrap_or o [])) c.loop-set.sets.items c.loop-set.set-index size c.loop-set.invariant.each (λ s more. HasRelations-none w s (omega (arith, more, all)));
      sound = references_sound w (subst FitsModel c.tables.ensures.value c.model.ensures.fits) c.loop-set.set-index all c.loop-set.invariant.sound;
    }

pub returns-clause-sound : goal.returns-clause-sound
returns-clause-sound c =
    let sets = c.sets-set-items.ensures.value ∙ ap (λ m. places (length m.sets)) (c.model.ensures.value ∙ ap (λ w. w.model) c.tables.ensures.value) in
    let number = place_count c.sets-set-items.result.now (length c.args.keyed.now.model.sets) sets in
    let over : length c.sets-set-items.result.now ≤ c.loop-set.set-index = omega arith in
    references_sound c.args.keyed.now (subst FitsModel c.tables.ensures.value c.model.ensures.fits) c.loop-set.set-index (rw number at over) c.loop-set.invariant.sound
