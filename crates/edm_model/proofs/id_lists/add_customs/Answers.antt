use Rattle.std.proofs.Common.{[], ◌∷◌, ◌++◌, map, take, ◌∙◌, ap, append_assoc}
use Rattle.std.specs.List.{enumerate_from}
use Rattle.std.proofs.lemmas.List.{map-append}
use Rattle.edm_model.specs.IdLists.{custom_entry}
use Rattle.edm_schema.proofs.Counted.{enumerate_more}
use Rattle.edm_model.proofs.id_lists.add_customs.Goals as goal

pub loop-at-preserved : goal.loop-at-preserved
loop-at-preserved c =
    let definition = c.index-definitions-at.result in
    let before = c.args.customs.now.items in
    let done = map (custom_entry c.args.of) (enumerate_from 0 (take c.loop-at.at c.args.definitions.now)) in
    let entry = c.in_ok-custom_at.ensures ∙ ap (λ x. custom_entry c.args.of (c.loop-at.at, x)) c.index-definitions-at.is in
    rw (enumerate_more c.args.definitions.now c.loop-at.at definition c.loop-at-test.true, map-append)
    (c.in_ok-push.ensures.items ∙ (ap (λ ys. ys ++ c.in_ok-custom_at.field-0 ∷ []) c.loop-at.invariant ∙ (append_assoc before done (c.in_ok-custom_at.field-0 ∷ []) ∙ ap (λ x. before ++ (done ++ x ∷ [])) entry)))
