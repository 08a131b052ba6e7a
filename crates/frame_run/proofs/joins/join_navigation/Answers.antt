use Rattle.std.proofs.Common.{◌≡◌, ◌∙◌, ap, sym, subst, IsTrue, Some, option_map}
use Rattle.std.specs.List.{list_all}
use Rattle.edm_values.proofs.OptionFacts.{none_or, some_value}
use Rattle.edm_model.specs.LookUps.{IsType, found_part}
use Rattle.edm_model.specs.Models.{Part}
use Rattle.apply_ast.specs.Views.{inner_of, pipe_of}
use Rattle.join_concat.specs.Joins.{has_root_of}
use Rattle.pipe_run.proofs.JoinParts.{found-as, join-ready, named-taken, named-there}
use Rattle.frame_run.proofs.joins.join_navigation.Goals as goal

pub unreachable-requires : goal.unreachable-requires
unreachable-requires g c =
    let J = join-ready c.args.context.now c.args.root.now c.args.outer c.args.nav.now c.args.alias.now (inner_of (option_map pipe_of c.args.inner.now)) c.args.frame.now c.requires in
    none_or J.of (sym c.in_default.is ∙ J.root_is)

pub nav_named-requires : goal.nav_named-requires
nav_named-requires g c =
    let m = c.args.context.now.world.model in
    let J = join-ready c.args.context.now c.args.root.now c.args.outer c.args.nav.now c.args.alias.now (inner_of (option_map pipe_of c.args.inner.now)) c.args.frame.now c.requires in
    let of = some_value (sym J.root_is ∙ c.in-Some.is) in
    let model = c.model-model.ensures.value ∙ ap (λ w. w.model) c.store.ensures.value in
    subst (λ m. IsType m c.in-Some.of) (sym model) (subst (IsType m) of (named-there m J.of c.args.nav.now (J.at, J.navigation) J.named))

pub unreachable-requires-in_default-nav_named : goal.unreachable-requires-in_default-nav_named
unreachable-requires-in_default-nav_named g c =
    let m = c.args.context.now.world.model in
    let n = c.args.nav.now in
    let J = join-ready c.args.context.now c.args.root.now c.args.outer n c.args.alias.now (inner_of (option_map pipe_of c.args.inner.now)) c.args.frame.now c.requires in
    let of = some_value (sym c.in-Some.is ∙ J.root_is) in
    let model = c.model-model.ensures.value ∙ ap (λ w. w.model) c.store.ensures.value in
    let found = found-as m c.model-model.result.now J.of c.in-Some.of n c.text.result.now c.nav_named.result c.nav_named.ensures.value model of c.text.ensures.value in
    let part : Part = record { of = J.of; at = J.at } in
    let own : c.nav_named.result ≡ Some part = found ∙ ap (found_part J.of) J.named in
    none_or part (sym c.in_default-nav_named.is ∙ own)

pub returns-clause-value : goal.returns-clause-value
returns-clause-value g c =
    let m = c.args.context.now.world.model in
    let n = c.args.nav.now in
    let J = join-ready c.args.context.now c.args.root.now c.args.outer n c.args.alias.now (inner_of (option_map pipe_of c.args.inner.now)) c.args.frame.now c.requires in
    let of = some_value (sym c.in-Some.is ∙ J.root_is) in
    let model = c.model-model.ensures.value ∙ ap (λ w. w.model) c.store.ensures.value in
    let found = found-as m c.model-model.result.now J.of c.in-Some.of n c.text.result.now c.nav_named.result c.nav_named.ensures.value model of c.text.ensures.value in
    λ S r. named-taken m J.of n J.at J.navigation c.in-Some-nav_named.found J.named J.many (sym c.in-Some-nav_named.is ∙ found) S (r ∙ J.root_is)

pub returns-clause-of : goal.returns-clause-of
returns-clause-of g c =
    let m = c.args.context.now.world.model in
    let n = c.args.nav.now in
    let J = join-ready c.args.context.now c.args.root.now c.args.outer n c.args.alias.now (inner_of (option_map pipe_of c.args.inner.now)) c.args.frame.now c.requires in
    let of = some_value (sym c.in-Some.is ∙ J.root_is) in
    let model = c.model-model.ensures.value ∙ ap (λ w. w.model) c.store.ensures.value in
    let found = found-as m c.model-model.result.now J.of c.in-Some.of n c.text.result.now c.nav_named.result c.nav_named.ensures.value model of c.text.ensures.value in
    let part : Part = record { of = J.of; at = J.at } in
    let own : c.nav_named.result ≡ Some part = found ∙ ap (found_part J.of) J.named in
    let same = ap (λ (p : Part). p.of) (some_value (sym own ∙ c.in-Some-nav_named.is)) in
    subst (λ t. IsTrue (list_all (has_root_of c.args.context.now.world t) c.args.frame.now)) same J.roots
