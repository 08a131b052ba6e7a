use Rattle.std.proofs.Common.{sym, ◌∙◌, ap, Some}
use Rattle.std.specs.Prelude.{is_some}
use Rattle.std.proofs.lemmas.Bool.{both_ways}
use Rattle.edm_values.proofs.OptionFacts.{some_value}
use Rattle.edm_model.specs.LookUps.{set_of_type}
use Rattle.apply_ast.specs.Views.{hier_of}
use Rattle.hier_states.proofs.NamedFacts.{named, unnamed}
use Rattle.hier_states.proofs.StateFacts.{is-ready, nodes-set, ready-parents, state-named}
use Rattle.hier_states.proofs.named.nodes_at.Goals as goal

pub unreachable-requires : goal.unreachable-requires
unreachable-requires c = both_ways _ (ap is_some (unnamed c.args.store.now.model (hier_of c.args.name.now) (sym c.in_default.ensures.value))) c.requires.there

pub state-requires : goal.state-requires
state-requires c =
    let w = c.args.store.now in
    let h = hier_of c.args.name.now in
    let f = named w.model h c.in-Some.id c.in-Some.ensures.sound (sym c.in-Some.ensures.value) in
    ap is_some (state-named w c.args.hiers.now h c.in-Some.id f.place c.in-Some.ensures.value c.requires.ready f.at)

pub unreachable-requires-in-Cyclic : goal.unreachable-requires-in-Cyclic
unreachable-requires-in-Cyclic c =
    let w = c.args.store.now in
    let h = hier_of c.args.name.now in
    let f = named w.model h c.in-Some.id c.in-Some.ensures.sound (sym c.in-Some.ensures.value) in
    is-ready c.in-Cyclic.field-0 _ (some_value (sym (c.state.ensures ∙ ap Some c.in-Cyclic.is) ∙ state-named w c.args.hiers.now h c.in-Some.id f.place c.in-Some.ensures.value c.requires.ready f.at))

pub returns-clause-set : goal.returns-clause-set
returns-clause-set c f at =
    let m = c.args.store.now.model in
    c.hier_set.ensures.value ∙ ap (λ m. set_of_type m c.in-Some.id.of) c.model.ensures.value ∙ nodes-set m (hier_of c.args.name.now) c.in-Some.id f c.in-Some.ensures.sound c.in-Some.ensures.value at

pub returns-clause-index : goal.returns-clause-index
returns-clause-index c f at =
    let w = c.args.store.now in
    let h = hier_of c.args.name.now in
    ready-parents _ _ (some_value (sym (c.state.ensures ∙ ap Some c.in-Ready.is) ∙ state-named w c.args.hiers.now h c.in-Some.id f c.in-Some.ensures.value c.requires.ready at))
