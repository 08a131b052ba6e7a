use Rattle.std.proofs.Common.{◌∙◌, ap, refl, ◌∷◌}
use Rattle.apply_ast.specs.Views.{step_of}
use Rattle.context_typing.specs.Readings.{readings}
use Rattle.optimiser.specs.HeldSegments.{segments_of}
use Rattle.optimiser.specs.IdleForms.{frame}
use Rattle.optimiser.specs.declared.held.Head.TheVariants as head
use Rattle.optimiser.specs.declared.held.Segment.{Segment}
use Rattle.optimiser.specs.WalkRules.{rules_named}
use Rattle.optimiser.proofs.HeldLists.{segments-push}
use Rattle.optimiser.proofs.SteppingLemmas.{new-segment}
use Rattle.optimiser.proofs.stepping.put_head.Goals as goal

pub returns-clause-value : goal.returns-clause-value
returns-clause-value c ss place =
    let m = c.args.m.now in
    let cs = readings c.args.c.now in
    let r = rules_named c.args.rules in
    let gs = c.args.segments.now.items in
    let g : Segment = record { head = head.Written c.args.at c.in_ok-before.before; lets = c.in_ok-lets.lets; passage = c.in_ok-passage.passage; entry = c.in_ok-entry.entry; entered = c.new.result; tests = c.new-2.result } in
    ap (segments_of m (frame r cs ss)) c.in_ok-push.ensures.items ∙ segments-push m (frame r cs ss) gs g
    ∙ ap (λ x. x ∷ segments_of m (frame r cs ss) gs)
    (new-segment r m cs c.args.shape.now c.in_ok-before.before (step_of c.args.step.now) ss c.args.at g refl c.in_ok-before.ensures.value place c.in_ok-lets.ensures c.in_ok-passage.ensures c.in_ok-entry.ensures.value c.new.ensures.items c.new-2.ensures.items)
