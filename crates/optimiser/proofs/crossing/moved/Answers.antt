use Rattle.std.proofs.Common.{sym, ◌∙◌, ap, [], ◌∷◌, ◌++◌, map}
use Rattle.std.proofs.lemmas.List.{map_push}
use Rattle.apply_ast.specs.Views.{step_of}
use Rattle.optimiser.proofs.CrossingLemmas.{put-moved}
use Rattle.optimiser.proofs.crossing.moved.Goals as goal

pub returns : goal.returns
returns c =
    let x = c.args.crossing.now in
    let as' = map step_of x.before.now in
    let fs = map step_of x.filters.now in
    let zs = map step_of x.behind.now in
    c.in_ok-put_copies-3.ensures.steps
    ∙ ap (λ l. l ++ zs)
    (ap (map step_of) c.in_ok-push.ensures.items
    ∙ map_push step_of c.put_copies-2.new.out.items c.in_ok-concat.concat
    ∙ (λ i. (c.in_ok-put_copies-2.ensures.steps ∙ ap (λ l. l ++ fs) (c.in_ok-put_copies.ensures.steps ∙ ap (λ l. map step_of l ++ as') c.new-made.ensures.items)) i ++ c.in_ok-concat.ensures.value i ∷ []))
    ∙ put-moved as' fs zs (step_of x.concat.now)
