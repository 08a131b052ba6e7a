use Rattle.std.proofs.Common.{◌∙◌, ap}
use Rattle.apply_ast.specs.Printing.{print}
use Rattle.apply_ast.specs.Views.{pipe_of}
use Rattle.apply_ast.specs.declared.steps.Pipe.{Pipe}
use Rattle.context_typing.specs.Readings.{readings}
use Rattle.context_typing.specs.Typing.{shape_of_set}
use Rattle.optimiser.specs.Plans.{own_of}
use Rattle.rewrite_laws.specs.Rewrites.{IsPlanOf}
use Rattle.apply_replies.proofs.Responding.{told-plan}
use Rattle.apply_replies.proofs.replies.plan_response.Goals as goal

pub returns : goal.returns
returns c =
    let w = c.args.store.now.world in
    let t = c.args.typed.now in
    told-plan c.explained.result (IsPlanOf w.model (readings c.args.store.now.customs) (shape_of_set w.model t.set) (pipe_of t.pipe)) (pipe_of (own_of c.in_ok-plan.plan).pipe) c.as_str.result.now
    (rw (c.model.ensures.value, c.customs.ensures.value) at c.in_ok-plan.ensures.own)
    (c.as_str.ensures.value ∙ c.in_ok-text.ensures.text ∙ ap (λ (p : Pipe). print (pipe_of p)) c.pipe.ensures.value)
    c.explained.ensures
