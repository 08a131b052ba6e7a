use Rattle.std.proofs.Common.{◌≡◌, sym, ◌∙◌, ap, ◌++◌, [], map}
use Rattle.apply_ast.specs.Trees.{OptPipe, Step}
use Rattle.apply_ast.specs.Views.{expr_of, step_of}
use Rattle.optimiser.specs.HeldSegments.{Frame}
use Rattle.optimiser.specs.IdleForms.{frame}
use Rattle.walk_laws.specs.Walks as spec
use Rattle.optimiser.proofs.WalkedLemmas.{front-whole, none-filters, some-filters}
use Rattle.optimiser.proofs.ends.of_filters.Goals as goal

pub returns-then-is_empty : goal.returns-then-is_empty
returns-then-is_empty c = none-filters c.args.m.now c.args.shape.now c.args.entered.now (sym c.is_empty.ensures ∙ c.if-is_empty.true)

pub returns : goal.returns
returns c =
    let m = c.args.m.now in
    let S = c.args.shape.now in
    let es = map expr_of c.args.entered.now in
    let w : Frame = frame spec.Rules.Early [] [] in
    let x = c.in-Some.last in
    let steps : map step_of c.put_tests.new.steps.items ≡ map (λ t. Step.Filter (expr_of t.expr)) x.tests.items =
    c.in_ok-put_tests-in-Some.ensures ∙ (λ i. map step_of (c.new-steps.ensures.items i) ++ map (λ t. Step.Filter (expr_of t.expr)) x.tests.items) in
    ap OptPipe.SomePipe
    (c.in_ok-pipe_or_identity-in-Some.ensures
    ∙ front-whole m w c.put_filters.new.segments.items c.pop.new.self.items c.pop.result x (map step_of c.put_tests.new.steps.items) c.pop.ensures.items c.in-Some.is (c.in_ok-put_filters.ensures.kept ∙ c.in_ok-segments.ensures.alone) steps
    ∙ ap spec.whole (c.in_ok-put_filters.ensures.value w ∙ ap (spec.put_filters m S es) (c.in_ok-segments.ensures.value m w)))
    ∙ some-filters m S c.args.entered.now (sym c.is_empty.ensures ∙ c.if-is_empty.false)
