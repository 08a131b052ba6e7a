use Rattle.std.proofs.Common.{◌≡◌, sym, ◌∙◌, ap, ◌&&◌, map, Some}
use Rattle.std.specs.Prelude.{option_map}
use Rattle.std.proofs.lemmas.Result.{IfOk-weaker}
use Rattle.apply_ast.specs.Trees.{Step}
use Rattle.apply_ast.specs.Views.{inner_of, key_of, keys_from, pipe_of, pipes_from, pipes_in, step_of}
use Rattle.apply_ast.proofs.ViewEquations.{pipes_of-is, step_of-Concat, step_of-Join}
use Rattle.context_typing.specs.Readings.{readings}
use Rattle.optimiser.specs.HeadForms as form
use Rattle.optimiser.specs.HeldSegments as held
use Rattle.optimiser.specs.WalkRules.{rules_named}
use Rattle.walk_laws.specs.Walks as spec
use Rattle.optimiser.proofs.HeadLemmas.{branches-given, concat-enters, group-enters, grouped}
use Rattle.optimiser.proofs.KnownLemmas.{all-behind, ends-given}
use Rattle.optimiser.proofs.TypedInside.{concat-inside, group-nodes}
use Rattle.optimiser.proofs.heads.entry_of.Goals as goal

pub nodes_entry-requires-clause-typed : goal.nodes_entry-requires-clause-typed
nodes_entry-requires-clause-typed c =
    group-nodes c.args.m.now (readings c.args.c.now) c.args.shape.now (map key_of c.as_slice.result.now) (inner_of (option_map pipe_of c.in-GroupBy.field-1)) (step_of c.args.step.now)
    (grouped c.args.step.now c.in-GroupBy.keys c.in-GroupBy.field-1 c.as_slice.result.now c.in-GroupBy.is c.as_slice.ensures.value) c.requires.typed

pub returns-in-GroupBy-clause-value : goal.returns-in-GroupBy-clause-value
returns-in-GroupBy-clause-value c =
    let m = c.args.m.now in
    let cs = readings c.args.c.now in
    let r = rules_named c.args.rules in
    IfOk-weaker c.nodes_entry.result (λ e. held.enters m e ≡ form.nodes_enter m cs (keys_from (map key_of c.as_slice.result.now)) c.may_choose-may.result) (λ e. held.enters m e ≡ spec.step_enters r m cs c.args.shape.now (step_of c.args.step.now))
    (λ e h. h ∙ group-enters r m cs c.args.shape.now (step_of c.args.step.now) (keys_from (map key_of c.as_slice.result.now)) (inner_of (option_map pipe_of c.in-GroupBy.field-1)) c.may_choose-may.result
    (grouped c.args.step.now c.in-GroupBy.keys c.in-GroupBy.field-1 c.as_slice.result.now c.in-GroupBy.is c.as_slice.ensures.value) (c.may_choose-may.ensures ∙ ap (λ b. spec.is_late r && b) c.requires.judged))
    c.nodes_entry.ensures.value

pub returns-in-Concat-clause-value : goal.returns-in-Concat-clause-value
returns-in-Concat-clause-value c =
    let m = c.args.m.now in
    let cs = readings c.args.c.now in
    let r = rules_named c.args.rules in
    let S = c.args.shape.now in
    let s = step_of c.args.step.now in
    let ps = map pipe_of (pipes_in c.in-Concat.field-0) in
    let e : s ≡ Step.Concat (pipes_from ps) = ap step_of c.in-Concat.is ∙ step_of-Concat c.in-Concat.field-0 ∙ ap Step.Concat (pipes_of-is c.in-Concat.field-0) in
    branches-given m cs S ps c.args.ends.now
    (ap Some (ends-given m cs S ps s c.args.ends.now e c.requires.ends).0 ∙ sym (all-behind m cs S ps (concat-inside m cs S ps s e c.requires.typed)))
    ∙ concat-enters r m cs S s ps e

pub returns-in-Concat-clause-right : goal.returns-in-Concat-clause-right
returns-in-Concat-clause-right c =
    let m = c.args.m.now in
    let cs = readings c.args.c.now in
    let S = c.args.shape.now in
    let s = step_of c.args.step.now in
    let ps = map pipe_of (pipes_in c.in-Concat.field-0) in
    let e : s ≡ Step.Concat (pipes_from ps) = ap step_of c.in-Concat.is ∙ step_of-Concat c.in-Concat.field-0 ∙ ap Step.Concat (pipes_of-is c.in-Concat.field-0) in
    (ends-given m cs S ps s c.args.ends.now e c.requires.ends).1

pub returns-in-Join-clause-value : goal.returns-in-Join-clause-value
returns-in-Join-clause-value c =
    let m = c.args.m.now in
    let cs = readings c.args.c.now in
    let r = rules_named c.args.rules in
    c.join_entry.ensures.value m cs c.args.shape.now ∙ ap (spec.step_enters r m cs c.args.shape.now) (sym (ap step_of c.in-Join.is ∙ step_of-Join c.in-Join.join))
