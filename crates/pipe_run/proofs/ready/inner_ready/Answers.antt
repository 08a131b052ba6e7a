use Rattle.std.specs.Prelude.{option_map}
use Rattle.edm_values.proofs.OptionFacts.{mapped}
use Rattle.edm_model.specs.LookUps.{navigation_on}
use Rattle.edm_model.specs.Models.{Navigation}
use Rattle.apply_ast.specs.Views.{inner_of, pipe_of}
use Rattle.context_typing.specs.Shapes.{set_shape}
use Rattle.pipe_run.proofs.RelatedLemmas.{related-turn}
use Rattle.pipe_run.proofs.ready.inner_ready.Goals as goal

pub returns : goal.returns
returns g c =
    let x = c.args.context.now in
    let T = inner_of (option_map pipe_of c.args.inner.now) in
    let v = mapped (λ (v : Navigation). v.target) (navigation_on x.world.model c.args.nav) c.args.target c.requires.target in
    let r = c.requires.ready v.0 v.1 in
    let l = c.args.rows.now in
    let u = related-turn x v.0 r.0 T l c.args.i c.args.row.now c.args.related.now.items c.args.target r.1 c.requires.within c.requires.row (c.requires.related v.0 v.1) v.2 in
    (set_shape (v.0).target, r.0, u.runs)
