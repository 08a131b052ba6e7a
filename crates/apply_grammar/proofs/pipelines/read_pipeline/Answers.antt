use Rattle.std.proofs.Common.{◌∷◌, [], arith, map}
use Rattle.std.proofs.lemmas.List.{length-append, map_push, length-map}
use Rattle.apply_ast.specs.Views.{step_of}
use Rattle.apply_grammar.specs.Limits.{served}
use Rattle.apply_grammar.proofs.ExprSteps.{is_empty_list, is_some_list}
use Rattle.apply_grammar.proofs.PipeSteps.{all_start, all_turn, all_fails, all_done, all_stops}
use Rattle.apply_grammar.proofs.pipelines.read_pipeline.Goals as goal

pub loop-x-init : goal.loop-x-init
loop-x-init c = rw c.new-steps.ensures.items (all_start served 32 256 c.args.text.now, omega arith, omega arith)

pub returns-in-Err-Syntax : goal.returns-in-Err-Syntax
returns-in-Err-Syntax c =
    all_fails served 32 c.loop-x.n (map step_of c.loop-x.steps.items) c.loop-x.rest.now c.loop-x.k _ (let h = rw c.in-Err-Syntax.field-0-is at c.in-Err-Syntax.ensures.exact in h) (omega (arith, length-map c.loop-x.steps.items step_of)) c.loop-x.invariant.0

pub loop-x-preserved : goal.loop-x-preserved
loop-x-preserved c =
    rw (c.in_ok-push.ensures.items, map_push step_of c.loop-x.steps.items c.in-Ok.x.0)
    (all_turn served 32 _ _ _ _ _ _ _ _ c.in-Ok.ensures.exact c.in-Some.ensures c.loop-x.invariant.0, omega (arith, length-append c.loop-x.steps.items (c.in-Ok.x.0 ∷ [])), omega (arith, c.in-Ok.ensures.less))

pub returns-then-is_empty : goal.returns-then-is_empty
returns-then-is_empty c =
    rw (c.new.ensures.tree, c.in_ok-push.ensures.items, map_push step_of c.loop-x.steps.items c.in-Ok.x.0)
    (all_done served 32 c.loop-x.n (map step_of c.loop-x.steps.items) c.loop-x.rest.now _ _ _ _ c.in-Ok.ensures.exact (is_empty_list _ c.if-is_empty.ensures) c.loop-x.invariant.0)

pub returns-in-None : goal.returns-in-None
returns-in-None c =
    all_stops served 32 c.loop-x.n (map step_of c.loop-x.steps.items) c.loop-x.rest.now _ _ _ c.loop-x.k _ c.in-Ok.ensures.exact c.in-None.ensures (is_some_list _ c.if-is_empty.ensures) (omega (arith, length-map c.loop-x.steps.items step_of)) c.loop-x.invariant.0
