use Rattle.std.specs.Prelude.{option_map}
use Rattle.std.specs.List.{join_with_byte}
use Rattle.std.proofs.lemmas.List.{take_all}
use Rattle.std.proofs.Common.{refl, ◌∷◌, ◌++◌, string_bytes, map, codes, ap, sym, ◌∙◌, arith, append-nil}
use Rattle.apply_ast.specs.Views.{hier_of, inner_of, key_of, step_of, pipe_of}
use Rattle.apply_ast.specs.declared.steps.JoinStep.{out-JoinStep}
use Rattle.apply_ast.specs.Printing.{call, climb_word, each_behind_byte, enclosed, join_word, print, print_distance, print_hier, print_inner, print_key, print_path, print_step}
use Rattle.apply_ast.proofs.Appended.{on_ok, then2, then3, then4, then5, call_after, call_list, call_second, call_climb, printed_keys, printed_pipes}
use Rattle.apply_ast.proofs.WrittenLists.{joined_step}
use Rattle.apply_ast.proofs.ViewEquations.{key_of-Plain, key_of-Rollup, key_of-Recursive, step_of-Identity, step_of-Filter, step_of-Compute, step_of-OrderBy, step_of-Skip, step_of-Top, step_of-Aggregate, step_of-GroupBy, step_of-Concat, step_of-Join, step_of-TopBy, step_of-Climb, step_of-Traverse, climb_of-is, join_of-is}
use Rattle.apply_ast.proofs.PrintingEquations.{print_inner-NoPipe, print_inner-SomePipe, print_key-Plain, print_key-Rollup, print_key-Recursive, print_step-Identity, print_step-Filter, print_step-Compute, print_step-OrderBy, print_step-Skip, print_step-Top, print_step-Aggregate, print_step-GroupBy, print_step-Concat, print_step-Join, print_step-TopBy, print_step-Climb, print_step-Traverse, print_steps-pipe}
use Rattle.apply_ast.proofs.step_texts.+put_steps.Goals as goal

pub put_keys-loop-i-preserved : goal.put_keys-loop-i-preserved
put_keys-loop-i-preserved t c =
    joined_step key_of print_key 44 _ _ _ _ c.args.keys.now c.loop-i.i c.index-keys-i.result (omega arith) c.loop-i.invariant c.in_ok-put_comma.ensures
    (c.in_ok-put_key.ensures ∙ ap (λ x. string_bytes c.put_comma.new.out ++ print_key (key_of x)) c.index-keys-i.is)

pub put_pipes-loop-i-preserved : goal.put_pipes-loop-i-preserved
put_pipes-loop-i-preserved t c =
    joined_step pipe_of print 44 _ _ _ _ c.args.pipes.now c.loop-i.i c.index-pipes-i.result (omega arith) c.loop-i.invariant c.in_ok-put_comma.ensures
    (c.in_ok-put_pipe.ensures ∙ ap (λ x. string_bytes c.put_comma.new.out ++ print (pipe_of x)) c.index-pipes-i.is)

pub put_pipe-loop-i-preserved : goal.put_pipe-loop-i-preserved
put_pipe-loop-i-preserved t c =
    joined_step step_of print_step 47 _ _ _ _ c.steps-step-items.result.now c.loop-i.i c.step-item.result (omega arith) c.loop-i.invariant c.in_ok-put_slash.ensures
    (c.in_ok-put_step.ensures ∙ ap (λ x. string_bytes c.put_slash.new.out ++ print_step (step_of x)) c.step-item.is)

pub put_pipe-returns : goal.put_pipe-returns
put_pipe-returns t c =
    let old = string_bytes c.args.out.now in
    let steps = c.steps-step-items.result.now in
    c.loop-i.invariant ∙ ap (λ l. old ++ join_with_byte 47 (map print_step (map step_of l))) (take_all c.loop-i.i steps c.loop-i-test.false)
    ∙ ap (λ ts. old ++ join_with_byte 47 ts) (sym (print_steps-pipe (map step_of steps))) ∙ ap (λ p. old ++ print p) (sym c.steps-step-items.ensures.tree)

pub put_inner-returns-in-None : goal.put_inner-returns-in-None
put_inner-returns-in-None t c =
    rw (c.in-None.is, print_inner-NoPipe, append-nil) refl

pub put_inner-returns-in_ok-put-in-Some : goal.put_inner-returns-in_ok-put-in-Some
put_inner-returns-in_ok-put-in-Some t c =
    let old = string_bytes c.args.out.now in
    let text = print (pipe_of c.in-Some.pipe) in
    rw (c.in-Some.is, print_inner-SomePipe)
    (on_ok c.put_pipe.result (λ e. then2 old (codes ",") text c.in_ok-put-in-Some.ensures e ∙ ap (λ t. old ++ (codes "," ++ t)) (sym (append-nil text))) c.put_pipe.ensures)

pub put_key-returns-in-Plain : goal.put_key-returns-in-Plain
put_key-returns-in-Plain t c = rw (c.in-Plain.is, key_of-Plain, print_key-Plain) c.put_path.ensures

pub put_key-returns-in-Rollup : goal.put_key-returns-in-Rollup
put_key-returns-in-Rollup t c = rw (c.in-Rollup.is, key_of-Rollup, print_key-Rollup, ← c.as_slice.ensures.value) c.put_rollup.ensures

pub put_key-returns-in_ok-put_inner-in-Recursive : goal.put_key-returns-in_ok-put_inner-in-Recursive
put_key-returns-in_ok-put_inner-in-Recursive t c =
    let old = string_bytes c.args.out.now in
    let h = print_hier (hier_of c.in-Recursive.hier) in
    let p = print_path c.in-Recursive.path in
    let inner = print_inner (inner_of (option_map pipe_of c.in-Recursive.inner)) in
    rw (c.in-Recursive.is, key_of-Recursive, print_key-Recursive)
    (on_ok c.put-in-Recursive.result
    (λ e. then4 old (codes "rolluprecursive(") (h ++ (codes "," ++ p)) (each_behind_byte 44 inner) (codes ")")
    c.in_ok-put-in-Recursive.ensures c.in_ok-put_hier_and_path-in-Recursive.ensures c.in_ok-put_inner-in-Recursive.ensures e
    ∙ ap (λ t. old ++ t) (call_second (codes "rolluprecursive") h p inner))
    c.put-in-Recursive.ensures)

pub put_step-returns-in-Identity : goal.put_step-returns-in-Identity
put_step-returns-in-Identity t c = rw (c.in-Identity.is, step_of-Identity, print_step-Identity) c.put.ensures

pub put_step-returns-in-Filter : goal.put_step-returns-in-Filter
put_step-returns-in-Filter t c = rw (c.in-Filter.is, step_of-Filter, print_step-Filter) c.put_filter.ensures

pub put_step-returns-in-Compute : goal.put_step-returns-in-Compute
put_step-returns-in-Compute t c = rw (c.in-Compute.is, step_of-Compute, print_step-Compute, ← c.as_slice.ensures.value) c.put_compute.ensures

pub put_step-returns-in-OrderBy : goal.put_step-returns-in-OrderBy
put_step-returns-in-OrderBy t c = rw (c.in-OrderBy.is, step_of-OrderBy, print_step-OrderBy, ← c.as_slice-in-OrderBy.ensures.value) c.put_orderby.ensures

pub put_step-returns-in-Skip : goal.put_step-returns-in-Skip
put_step-returns-in-Skip t c = rw (c.in-Skip.is, step_of-Skip, print_step-Skip) c.put_skip.ensures

pub put_step-returns-in-Top : goal.put_step-returns-in-Top
put_step-returns-in-Top t c = rw (c.in-Top.is, step_of-Top, print_step-Top) c.put_top.ensures

pub put_step-returns-in-Aggregate : goal.put_step-returns-in-Aggregate
put_step-returns-in-Aggregate t c = rw (c.in-Aggregate.is, step_of-Aggregate, print_step-Aggregate, ← c.as_slice-in-Aggregate.ensures.value) c.put_aggregate.ensures

pub put_step-returns-in_ok-put_inner-in-GroupBy : goal.put_step-returns-in_ok-put_inner-in-GroupBy
put_step-returns-in_ok-put_inner-in-GroupBy t c =
    let old = string_bytes c.args.out.now in
    let inner = print_inner (inner_of (option_map pipe_of c.in-GroupBy.inner)) in
    let keys = join_with_byte 44 (map print_key (map key_of c.as_slice-in-GroupBy.result.now)) in
    rw (c.in-GroupBy.is, step_of-GroupBy, print_step-GroupBy)
    (on_ok c.put-in-GroupBy-3.result
    (λ e. then5 old (codes "groupby((") keys (codes ")") (each_behind_byte 44 inner) (codes ")")
    c.in_ok-put-in-GroupBy.ensures c.in_ok-put_keys-in-GroupBy.ensures c.in_ok-put-in-GroupBy-2.ensures c.in_ok-put_inner-in-GroupBy.ensures e
    ∙ ap (λ t. old ++ t) (call_list (codes "groupby") keys inner)
    ∙ ap (λ ts. old ++ call (codes "groupby") (enclosed (join_with_byte 44 ts) ∷ inner)) (ap (λ l. map print_key (map key_of l)) c.as_slice-in-GroupBy.ensures.value ∙ printed_keys c.in-GroupBy.keys))
    c.put-in-GroupBy-3.ensures)

pub put_step-returns-in_ok-put_pipes-in-Concat : goal.put_step-returns-in_ok-put_pipes-in-Concat
put_step-returns-in_ok-put_pipes-in-Concat t c =
    let old = string_bytes c.args.out.now in
    rw (c.in-Concat.is, step_of-Concat, print_step-Concat)
    (on_ok c.put-in-Concat-2.result
    (λ e. then3 old (codes "concat(") (join_with_byte 44 (map print (map pipe_of c.as_slice-in-Concat.result.now))) (codes ")")
    c.in_ok-put-in-Concat.ensures c.in_ok-put_pipes-in-Concat.ensures e
    ∙ ap (λ ts. old ++ call (codes "concat") ts) (ap (λ l. map print (map pipe_of l)) c.as_slice-in-Concat.ensures.value ∙ printed_pipes c.in-Concat.pipes))
    c.put-in-Concat-2.ensures)

pub put_step-returns-in_ok-put_inner-in-Join : goal.put_step-returns-in_ok-put_inner-in-Join
put_step-returns-in_ok-put_inner-in-Join t c =
    let old = string_bytes c.args.out.now in
    let j = out-JoinStep c.in-Join.join in
    let inner = print_inner (inner_of (option_map pipe_of j.inner)) in
    rw (c.in-Join.is, step_of-Join, join_of-is, print_step-Join)
    (on_ok c.put-in-Join.result
    (λ e. then3 old (join_word j.outer ++ (codes "(" ++ (j.nav ++ (codes " as " ++ j.alias)))) (each_behind_byte 44 inner) (codes ")")
    c.in_ok-put_join_head-in-Join.ensures c.in_ok-put_inner-in-Join.ensures e
    ∙ ap (λ t. old ++ t) (call_after (join_word j.outer) (j.nav ++ (codes " as " ++ j.alias)) inner))
    c.put-in-Join.ensures)

pub put_step-returns-in-TopBy : goal.put_step-returns-in-TopBy
put_step-returns-in-TopBy t c = rw (c.in-TopBy.is, step_of-TopBy, print_step-TopBy) c.put_top_by.ensures

pub put_step-returns-in_ok-put_distance-in-Climb : goal.put_step-returns-in_ok-put_distance-in-Climb
put_step-returns-in_ok-put_distance-in-Climb t c =
    let old = string_bytes c.args.out.now in
    let w = climb_word c.in-Climb.climb.up in
    let h = print_hier (hier_of c.in-Climb.climb.hier) in
    let p = print_path c.in-Climb.climb.path in
    let text = print (pipe_of c.in-Climb.climb.inner) in
    let distance = print_distance c.in-Climb.climb.distance c.in-Climb.climb.keep in
    rw (c.in-Climb.is, step_of-Climb, climb_of-is, print_step-Climb)
    (on_ok c.put-in-Climb.result
    (λ e. then4 old (w ++ (codes "(" ++ ((h ++ (codes "," ++ p)) ++ codes ","))) text (each_behind_byte 44 distance) (codes ")")
    c.in_ok-put_climb_head-in-Climb.ensures c.in_ok-put_pipe-in-Climb.ensures c.in_ok-put_distance-in-Climb.ensures e
    ∙ ap (λ t. old ++ t) (call_climb w h p text distance))
    c.put-in-Climb.ensures)

pub put_step-returns-in-Traverse : goal.put_step-returns-in-Traverse
put_step-returns-in-Traverse t c = rw (c.in-Traverse.is, step_of-Traverse, print_step-Traverse) c.put_traverse.ensures
