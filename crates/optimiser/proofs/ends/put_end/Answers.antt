use Rattle.std.proofs.Common.{◌∙◌, ap, map}
use Rattle.std.specs.List.{list_all}
use Rattle.std.specs.Prelude.{option_map}
use Rattle.apply_ast.specs.Views.{step_of}
use Rattle.context_typing.specs.Readings.{readings}
use Rattle.optimiser.specs.HeldSegments.{is_there}
use Rattle.optimiser.specs.IdleForms.{frame}
use Rattle.optimiser.specs.WalkForms.{dropped}
use Rattle.optimiser.specs.WalkRules.{rules_named}
use Rattle.optimiser.proofs.ends.put_end.Goals as goal

pub returns-clause-value : goal.returns-clause-value
returns-clause-value c =
    let m = c.args.m.now in
    let cs = readings c.args.c.now in
    let r = rules_named c.args.rules in
    c.drop_before.ensures.value m r cs ∙ ap (dropped (option_map (λ p. p.now) c.args.climbed)) (c.in_ok-put_filters.ensures.value (frame r cs (map step_of c.args.steps.now)))

pub returns-clause-there : goal.returns-clause-there
returns-clause-there c ks there =
    let m = c.args.m.now in
    let cs = readings c.args.c.now in
    let ss = map step_of c.args.steps.now in
    c.drop_before.ensures.kept (λ x. is_there m cs ss ks x.0) (ap (list_all (λ x. is_there m cs ss ks x.0)) c.in_ok-put_filters.ensures.kept ∙ there)
