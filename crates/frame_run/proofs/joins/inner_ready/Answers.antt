use Rattle.std.specs.Prelude.{get_or, option_map}
use Rattle.std.proofs.lemmas.List.{get_or_default}
use Rattle.edm_values.proofs.OptionFacts.{mapped}
use Rattle.edm_model.specs.LookUps.{navigation_on}
use Rattle.edm_model.specs.Models.{Navigation}
use Rattle.apply_ast.specs.Views.{inner_of, pipe_of}
use Rattle.apply_meaning.specs.Instances.{no_instance}
use Rattle.context_typing.specs.Shapes.{set_shape}
use Rattle.pipe_run.proofs.RelatedLemmas.{related-turn}
use Rattle.frame_run.proofs.joins.inner_ready.Goals as goal

pub returns : goal.returns
returns g c =
    let x = c.args.context.now in
    let T = inner_of (option_map pipe_of c.args.inner.now) in
    let v = mapped (λ (v : Navigation). v.target) (navigation_on x.world.model c.args.nav) c.args.target c.requires.target in
    let r = c.requires.ready v.0 v.1 in
    let l = c.args.frame.now in
    let i = get_or l c.args.k no_instance in
    let u = related-turn x v.0 r.0 T l c.args.k i c.args.related.now c.args.target r.1 c.requires.within (get_or_default l c.args.k no_instance i c.requires.within) (c.requires.related v.0 v.1) v.2 in
    (set_shape (v.0).target, r.0, u.runs)
