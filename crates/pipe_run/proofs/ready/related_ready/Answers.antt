use Rattle.std.proofs.Common.{◌∙◌, subst}
use Rattle.std.specs.Prelude.{option_map}
use Rattle.apply_ast.specs.Views.{inner_of, pipe_of}
use Rattle.apply_meaning.specs.MeaningLaws.{IsLoaded}
use Rattle.pipe_run.proofs.RelatedLemmas.{related-run}
use Rattle.pipe_run.proofs.ready.related_ready.Goals as goal

pub returns : goal.returns
returns g c = λ v h.
    let x = c.args.context.now in
    let r = c.requires.ready in
    related-run x c.args.root.now r.0 r.1 c.args.outer c.args.nav.now c.args.alias.now (inner_of (option_map pipe_of c.args.inner.now)) c.args.rows.now v
    (subst IsLoaded c.store.ensures.value c.data_is_loaded.ensures.value) r.2 (c.requires.value r.0 (r.2).root_is ∙ h)
