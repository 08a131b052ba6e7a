use Rattle.std.proofs.Common.{◌≡◌, sym, ◌∙◌, ap, map}
use Rattle.std.specs.Prelude.{unwrap_or}
use Rattle.std.specs.List.{list_all}
use Rattle.apply_ast.specs.Trees.{Step}
use Rattle.apply_ast.specs.Views.{pipe_of, pipes_from, pipes_in, step_of}
use Rattle.apply_ast.proofs.ViewEquations.{pipes_of-is}
use Rattle.context_typing.specs.Readings.{readings}
use Rattle.context_typing.specs.ShapeTypes.{has_types}
use Rattle.context_typing.specs.Typing.{concat_shape}
use Rattle.optimiser.specs.KnownSteps.{branches_known}
use Rattle.optimiser.specs.declared.known.Known.{out-Known}
use Rattle.optimiser.proofs.KnownLemmas.{after-types, concat-after, concat-known, ends-of}
use Rattle.optimiser.proofs.known.known_concat.Goals as goal

value-is : goal.returns-clause-value
value-is c =
    let m = c.args.m.now in
    let cs = readings c.args.c.now in
    let S = c.args.shape in
    let ps = map pipe_of (pipes_in c.args.branches.now) in
    c.in_ok-next.ensures ∙ ap (λ Ss. unwrap_or (concat_shape m Ss) S) c.as_slice.ensures.value
    ∙ concat-after m cs S ps c.args.ends.items (step_of c.args.step.now) (c.requires.concat ∙ ap Step.Concat (pipes_of-is c.args.branches.now)) c.requires.typed
    (c.requires.ends ∙ ends-of m cs S pipe_of (pipes_in c.args.branches.now))

pub returns-clause-value : goal.returns-clause-value
returns-clause-value = value-is

types-are : goal.returns-clause-types
types-are c =
    let m = c.args.m.now in
    let cs = readings c.args.c.now in
    ap (has_types m) (value-is c) ∙ after-types m cs c.requires.sound c.args.shape (step_of c.args.step.now) c.requires.types c.requires.typed

pub returns-clause-types : goal.returns-clause-types
returns-clause-types = types-are

pub returns-clause-known : goal.returns-clause-known
returns-clause-known c =
    let m = c.args.m.now in
    let cs = readings c.args.c.now in
    let S = c.args.shape in
    let ps = map pipe_of (pipes_in c.args.branches.now) in
    let k = c.of_parts.result in
    let e : step_of c.args.step.now ≡ Step.Concat (pipes_from ps) = c.requires.concat ∙ ap Step.Concat (pipes_of-is c.args.branches.now) in
    let ends : (out-Known k).ends.items ≡ c.args.ends.items = ap (λ v. v.items) c.of_parts.ensures.ends in
    let inside : (out-Known k).inside.items ≡ c.args.inside.items = ap (λ v. v.items) c.of_parts.ensures.inside in
    concat-known m cs S ps (step_of c.args.step.now) k c.in_ok-behind.behind e c.of_parts.ensures.behind
    (c.in_ok-behind.ensures.value ∙ value-is c) (ap (has_types m) c.in_ok-behind.ensures.value ∙ types-are c)
    (ends ∙ c.requires.ends ∙ ends-of m cs S pipe_of (pipes_in c.args.branches.now)) (ap (list_all (has_types m)) ends ∙ c.requires.end_types)
    (ap (branches_known m cs S (pipes_from ps)) inside ∙ sym (ap (λ B. branches_known m cs S B c.args.inside.items) (pipes_of-is c.args.branches.now)) ∙ c.requires.inside)
