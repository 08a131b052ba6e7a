use Rattle.std.proofs.Common.{arith, ◌∙◌, ap, ◌∷◌, [], map, string_bytes, length}
use Rattle.std.proofs.lemmas.List.{map-append}
use Rattle.apply_load.proofs.SetNames.{set_at, name_more, name_all}
use Rattle.apply_load.proofs.refusals.set_names.Goals as goal

pub set_name-requires : goal.set_name-requires
set_name-requires c =
    let at = set_at (length c.args.model.now.sets) c.loop-set.set-index c.set-item.result _ c.sets-set-items.ensures.value c.loop-set-test.true c.set-item.is in
    omega (arith, at.0, at.1)

pub loop-set-preserved : goal.loop-set-preserved
loop-set-preserved c =
    let at = set_at (length c.args.model.now.sets) c.loop-set.set-index c.set-item.result _ c.sets-set-items.ensures.value c.loop-set-test.true c.set-item.is in
    ap (map string_bytes) c.in_ok-push.ensures.items ∙ map-append string_bytes c.loop-set.names.items (c.in_ok-name.name ∷ []) ∙ name_more c.args.model.now _ c.loop-set.set-index c.set-item.result (string_bytes c.in_ok-name.name) at.1 at.0 (c.in_ok-name.ensures.ok ∙ c.set_name.ensures.value) c.loop-set.invariant

pub returns : goal.returns
returns c = name_all c.args.model.now _ c.loop-set.set-index _ c.sets-set-items.ensures.value c.loop-set-test.false c.loop-set.invariant
