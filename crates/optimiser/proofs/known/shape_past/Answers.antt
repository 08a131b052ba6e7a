use Rattle.std.proofs.Common.{sym, ◌∙◌, ap}
use Rattle.apply_ast.specs.Views.{step_of}
use Rattle.apply_ast.proofs.ViewEquations.{step_of-Filter, step_of-Identity}
use Rattle.context_typing.specs.Readings.{readings}
use Rattle.context_typing.specs.Typing.{after}
use Rattle.optimiser.proofs.WalkTrees.{after-Filter, after-Identity}
use Rattle.optimiser.proofs.known.shape_past.Goals as goal

pub returns-in-Identity-clause-value : goal.returns-in-Identity-clause-value
returns-in-Identity-clause-value c =
    let m = c.args.m.now in
    let cs = readings c.args.c.now in
    sym (ap (after m cs c.args.shape) (ap step_of c.in-Identity.is ∙ step_of-Identity) ∙ after-Identity m cs c.args.shape)

pub returns-in-Filter-clause-value : goal.returns-in-Filter-clause-value
returns-in-Filter-clause-value c =
    let m = c.args.m.now in
    let cs = readings c.args.c.now in
    sym (ap (after m cs c.args.shape) (ap step_of c.in-Filter.is ∙ step_of-Filter _) ∙ after-Filter m cs c.args.shape _)
