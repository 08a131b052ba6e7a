use Rattle.std.proofs.Common.{◌≡◌, sym, ◌∙◌, ap, ◌≤◌, true, arith, rules, length, map, ◌⊎◌, inl, inr, None, Some, []}
use Rattle.std.specs.Prelude.{option_map}
use Rattle.std.proofs.lemmas.Iterator.Adapters.{YieldsList-from_vec}
use Rattle.std.proofs.lemmas.Iterator.Consumers.{YieldsList-turn}
use Rattle.std.proofs.lemmas.Result.{IfOk-weaker}
use Rattle.apply_ast.specs.Trees.{Key, Step}
use Rattle.apply_ast.specs.declared.steps.JoinStep.{out-JoinStep}
use Rattle.apply_ast.specs.declared.steps.Step.TheVariants as step
use Rattle.apply_ast.specs.Views.{climb_of, expr_of, hier_of, inner_of, join_of, key_of, keys_from, keys_of, pipe_of, pipes_from, pipes_of, step_of}
use Rattle.apply_ast.proofs.ViewEquations.{climb_of-is, join_of-is, join_of-parts, key_of-Plain, key_of-Recursive, key_of-Rollup, keys_of-is, pipes_of-is, step_of-Aggregate, step_of-Compute, step_of-Concat, step_of-Filter, step_of-GroupBy, step_of-Identity, step_of-OrderBy, step_of-Skip, step_of-Top, step_of-TopBy, step_of-Traverse}
use Rattle.context_typing.specs.Readings.{readings}
use Rattle.optimiser.specs.HeldSegments.{made}
use Rattle.optimiser.specs.IdleForms.{frame}
use Rattle.optimiser.specs.WalkForms.{of_filters, walked}
use Rattle.optimiser.specs.WalkRules.{rules_named}
use Rattle.walk_laws.specs.Walks.{settled_inner, settled_key, settled_step}
use Rattle.optimiser.specs.declared.held.Head.TheVariants as head
use Rattle.optimiser.proofs.WalkedLemmas.{written-head}
use Rattle.optimiser.proofs.WalkedSteps.{one-there, placed, steps-past}
use Rattle.optimiser.proofs.WalkTrees.{branches-answer, climb-answer, concat-answer, group-answer, is_plain, join-answer, keys-answer, none-answer, recursive-answer, settled-Plain, settled-Rollup, settled-plain, some-answer}
use Rattle.optimiser.proofs.walking.+walked.Goals as goal

either : {A B C : Type 0} → (A → C) → (B → C) → A ⊎ B → C
either f g (inl a) = f a
either f g (inr b) = g b

-- ---- the steps of a pipeline

pub walked_known-place_is_there-requires : goal.walked_known-place_is_there-requires
walked_known-place_is_there-requires t c =
    let m = c.args.m.now in
    let cs = readings c.args.c.now in
    let gs = c.in_ok-segments.segments.items in
    let x = YieldsList-turn (YieldsList-from_vec {s = c.into_iter-segment-iterator.result} gs (search rules) (search rules))
    c.loop-segment.yielded c.loop-segment.segment-iterator c.loop-segment.yielded_by c.next.result c.next.new.self c.in-Some.segment c.in-Some.is c.next.ensures.steps in
    record { there = one-there m cs (map step_of c.steps-written.result.now) c.args.known.now gs (length c.loop-segment.yielded) c.in-Some.segment (head.Written c.in-Written.at c.in-Written.shape) c.in_ok-segments.ensures.there x.0 x.1 (sym c.in-Written.is ∙ c.taken_apart-head.ensures.head) }

pub walked_known-loop-segment-preserved-in-Front : goal.walked_known-loop-segment-preserved-in-Front
walked_known-loop-segment-preserved-in-Front t c =
    let m = c.args.m.now in
    let w = frame (rules_named c.args.rules) (readings c.args.c.now) (map step_of c.steps-written.result.now) in
    let g = c.in-Some.segment in
    steps-past m w c.loop-segment.yielded g (map step_of c.loop-segment.steps.items) (map step_of c.put_segment.new.steps.items) None _ c.loop-segment.invariant c.taken_apart-head.ensures.tests c.in_ok-put_segment-in-Front.ensures
    (ap (λ h. made m w h (map expr_of g.entered.items) []) (sym c.in-Front.is ∙ c.taken_apart-head.ensures.head))

pub walked_known-loop-segment-preserved-in-Count : goal.walked_known-loop-segment-preserved-in-Count
walked_known-loop-segment-preserved-in-Count t c =
    let m = c.args.m.now in
    let w = frame (rules_named c.args.rules) (readings c.args.c.now) (map step_of c.steps-written.result.now) in
    let g = c.in-Some.segment in
    steps-past m w c.loop-segment.yielded g (map step_of c.loop-segment.steps.items) (map step_of c.put_segment-in-Count.new.steps.items) (Some (step_of (step.TopBy c.in-Count.top))) _ c.loop-segment.invariant c.taken_apart-head.ensures.tests c.in_ok-put_segment-in-Count.ensures
    (ap Some (step_of-TopBy c.in-Count.top) ∙ ap (λ h. made m w h (map expr_of g.entered.items) []) (sym c.in-Count.is ∙ c.taken_apart-head.ensures.head))

pub walked_known-loop-segment-preserved : goal.walked_known-loop-segment-preserved
walked_known-loop-segment-preserved t c =
    let m = c.args.m.now in
    let r = rules_named c.args.rules in
    let cs = readings c.args.c.now in
    let ss = c.steps-written.result.now in
    let w = frame r cs (map step_of ss) in
    let g = c.in-Some.segment in
    let k = c.in-Written.at in
    let S = c.in-Written.shape in
    let s = c.index-written-at.result in
    let into : map expr_of c.as_slice.result.now ≡ map expr_of g.entered.items = ap (map expr_of) (c.as_slice.ensures.value ∙ c.taken_apart-head.ensures.entered) in
    steps-past m w c.loop-segment.yielded g (map step_of c.loop-segment.steps.items) (map step_of c.put_segment-in-Written.new.steps.items) (Some (step_of c.in_ok-made-in-Written.made)) _ c.loop-segment.invariant c.taken_apart-head.ensures.tests c.in_ok-put_segment-in-Written.ensures
    (written-head r m cs (map step_of ss) k S (step_of s) (step_of c.in_ok-made-in-Written.made) (map expr_of g.entered.items)
    (placed step_of ss k s c.place_is_there.ensures.within c.index-written-at.is) (c.in_ok-made-in-Written.ensures ∙ ap (settled_step r m cs S (step_of s)) into)
    ∙ ap (λ h. made m w h (map expr_of g.entered.items) []) (sym c.in-Written.is ∙ c.taken_apart-head.ensures.head))

-- ---- lists

pub settled_branches-returns : goal.settled_branches-returns
settled_branches-returns t c =
    let xs = c.as_slice-all.result.now in
    let ys = c.loop-i.settled.items in
    let end : length xs ≤ c.loop-i.i = omega (arith, c.loop-i-test.false) in
    branches-answer (rules_named c.args.rules) c.args.m.now (readings c.args.c.now) (map expr_of c.args.entered.now) pipe_of c.args.shape.now xs ys c.loop-i.i (pipes_of c.args.branches.now) (pipes_of c.new.result) end c.loop-i.invariant
    (pipes_of-is c.args.branches.now ∙ ap (λ l. pipes_from (map pipe_of l)) (sym c.as_slice-all.ensures.value)) (pipes_of-is c.new.result ∙ ap (λ l. pipes_from (map pipe_of l)) c.new.ensures.value)

pub settled_keys-returns : goal.settled_keys-returns
settled_keys-returns t c =
    let xs = c.as_slice-all.result.now in
    let ys = c.loop-i.settled.items in
    let end : length xs ≤ c.loop-i.i = omega (arith, c.loop-i-test.false) in
    keys-answer (rules_named c.args.rules) c.args.m.now (readings c.args.c.now) (map expr_of c.args.entered.now) key_of xs ys c.loop-i.i (keys_of c.args.keys.now) (keys_of c.new.result) end c.loop-i.invariant
    (keys_of-is c.args.keys.now ∙ ap (λ l. keys_from (map key_of l)) (sym c.as_slice-all.ensures.value)) (keys_of-is c.new.result ∙ ap (λ l. keys_from (map key_of l)) c.new.ensures.value)

-- ---- inner pipelines

pub settled_inner-returns-in-None : goal.settled_inner-returns-in-None
settled_inner-returns-in-None t c =
    let r = rules_named c.args.rules in
    let m = c.args.m.now in
    let cs = readings c.args.c.now in
    let es = map expr_of c.args.entered.now in
    let S = c.args.shape.now in
    let T = inner_of (option_map pipe_of c.args.inner.now) in
    IfOk-weaker c.of_filters.result (λ o. inner_of (option_map pipe_of o) ≡ of_filters m S es) (λ o. inner_of (option_map pipe_of o) ≡ settled_inner r m cs S T es)
    (λ o e. none-answer r m cs es S T (inner_of (option_map pipe_of o)) (ap (λ i. inner_of (option_map pipe_of i)) c.in-None.is) e) c.of_filters.ensures

pub settled_inner-returns-in_ok-walked_pipe-in-Some : goal.settled_inner-returns-in_ok-walked_pipe-in-Some
settled_inner-returns-in_ok-walked_pipe-in-Some t c =
    some-answer (rules_named c.args.rules) c.args.m.now (readings c.args.c.now) (map expr_of c.args.entered.now) c.args.shape.now (pipe_of c.in-Some.pipe) (pipe_of c.in_ok-walked_pipe-in-Some.field-0) (inner_of (option_map pipe_of c.args.inner.now)) (ap (λ i. inner_of (option_map pipe_of i)) c.in-Some.is) c.in_ok-walked_pipe-in-Some.ensures

-- ---- keys

pub settled_key-returns-in-Plain : goal.settled_key-returns-in-Plain
settled_key-returns-in-Plain t c =
    let m = c.args.m.now in
    let cs = readings c.args.c.now in
    let r = rules_named c.args.rules in
    let es = map expr_of c.args.entered.now in
    let is = ap key_of c.in-Plain.is ∙ key_of-Plain c.in-Plain.field-0 in
    IfOk-weaker c.copy-in-Plain.result (λ k. key_of k ≡ key_of c.args.key.now) (λ k. key_of k ≡ settled_key r m cs (key_of c.args.key.now) es) (λ k e. e ∙ is ∙ sym (ap (λ k. settled_key r m cs k es) is ∙ settled-Plain r m cs es c.in-Plain.field-0)) c.copy-in-Plain.ensures.value

pub settled_key-returns-in-Rollup : goal.settled_key-returns-in-Rollup
settled_key-returns-in-Rollup t c =
    let m = c.args.m.now in
    let cs = readings c.args.c.now in
    let r = rules_named c.args.rules in
    let es = map expr_of c.args.entered.now in
    let is = ap key_of c.in-Rollup.is ∙ key_of-Rollup c.in-Rollup.field-0 c.in-Rollup.field-1 in
    IfOk-weaker c.copy-in-Rollup.result (λ k. key_of k ≡ key_of c.args.key.now) (λ k. key_of k ≡ settled_key r m cs (key_of c.args.key.now) es)
    (λ k e. e ∙ is ∙ sym (ap (λ k. settled_key r m cs k es) is ∙ settled-Rollup r m cs es c.in-Rollup.field-0 c.in-Rollup.field-1)) c.copy-in-Rollup.ensures.value

pub settled_key-returns-in_ok-copy-in-Recursive : goal.settled_key-returns-in_ok-copy-in-Recursive
settled_key-returns-in_ok-copy-in-Recursive t c =
    let h = hier_of c.in-Recursive.hier in
    let p = c.in-Recursive.path in
    let T = inner_of (option_map pipe_of c.in-Recursive.inner) in
    let T' = inner_of (option_map pipe_of c.in_ok-nodes-in-Recursive.nodes) in
    recursive-answer (rules_named c.args.rules) c.args.m.now (readings c.args.c.now) (map expr_of c.args.entered.now) h p T T' c.type_of-of.result (key_of c.args.key.now) _
    (ap key_of c.in-Recursive.is ∙ key_of-Recursive c.in-Recursive.hier p c.in-Recursive.inner) (c.type_of-of.ensures.value ∙ ap (option_map (λ x. x.0)) c.nodes_of.ensures.value) c.in_ok-nodes-in-Recursive.ensures
    (key_of-Recursive c.in_ok-hier-in-Recursive.hier c.in_ok-copy-in-Recursive.field-0 c.in_ok-nodes-in-Recursive.nodes ∙ (λ i. Key.Recursive (hier_of (c.in_ok-hier-in-Recursive.ensures.value i)) (c.in_ok-copy-in-Recursive.ensures.value i) T'))

-- ---- steps

pub settled_step-returns-in-Identity : goal.settled_step-returns-in-Identity
settled_step-returns-in-Identity t c =
    let m = c.args.m.now in
    let cs = readings c.args.c.now in
    let r = rules_named c.args.rules in
    let es = map expr_of c.args.entered.now in
    let S = c.args.shape.now in
    let s = step_of c.args.step.now in
    let plain : is_plain s ≡ true =
    either (λ e. ap is_plain (ap step_of e ∙ step_of-Identity)) (either (λ x. ap is_plain (ap step_of x.1 ∙ step_of-Filter x.0))
    (either (λ x. ap is_plain (ap step_of x.1 ∙ step_of-Compute x.0)) (either (λ x. ap is_plain (ap step_of x.1 ∙ step_of-OrderBy x.0))
    (either (λ x. ap is_plain (ap step_of x.1 ∙ step_of-Skip x.0)) (either (λ x. ap is_plain (ap step_of x.1 ∙ step_of-Top x.0))
    (either (λ x. ap is_plain (ap step_of x.1 ∙ step_of-Aggregate x.0)) (either (λ x. ap is_plain (ap step_of x.1 ∙ step_of-TopBy x.0))
    (λ x. ap is_plain (ap step_of x.1 ∙ step_of-Traverse x.0)))))))))
    c.in-Identity.is in
    IfOk-weaker c.copy.result (λ s'. step_of s' ≡ s) (λ s'. step_of s' ≡ settled_step r m cs S s es) (λ s' e. e ∙ sym (settled-plain r m cs es S s plain)) c.copy.ensures.value

pub settled_step-returns-in_ok-inner-in-GroupBy : goal.settled_step-returns-in_ok-inner-in-GroupBy
settled_step-returns-in_ok-inner-in-GroupBy t c =
    let ks' = c.in_ok-keys-in-GroupBy.keys in
    let i' = c.in_ok-inner-in-GroupBy.inner in
    group-answer (rules_named c.args.rules) c.args.m.now (readings c.args.c.now) (map expr_of c.args.entered.now) c.args.shape.now (keys_of c.in-GroupBy.keys) (keys_of ks') (inner_of (option_map pipe_of c.in-GroupBy.inner)) (inner_of (option_map pipe_of i')) (step_of c.args.step.now) (step_of (step.GroupBy ks' i'))
    (ap step_of c.in-GroupBy.is ∙ step_of-GroupBy c.in-GroupBy.keys c.in-GroupBy.inner) c.in_ok-keys-in-GroupBy.ensures c.in_ok-inner-in-GroupBy.ensures (step_of-GroupBy ks' i')

pub settled_step-returns-in_ok-settled_branches-in-Concat : goal.settled_step-returns-in_ok-settled_branches-in-Concat
settled_step-returns-in_ok-settled_branches-in-Concat t c =
    let ps' = c.in_ok-settled_branches-in-Concat.field-0 in
    concat-answer (rules_named c.args.rules) c.args.m.now (readings c.args.c.now) (map expr_of c.args.entered.now) c.args.shape.now (pipes_of c.in-Concat.branches) (pipes_of ps') (step_of c.args.step.now) (step_of (step.Concat ps'))
    (ap step_of c.in-Concat.is ∙ step_of-Concat c.in-Concat.branches) c.in_ok-settled_branches-in-Concat.ensures (step_of-Concat ps')

pub settled_join-returns : goal.settled_join-returns
settled_join-returns t c =
    let j = out-JoinStep c.args.join.now in
    let T' = inner_of (option_map pipe_of c.in_ok-settled_on.field-0) in
    join-answer (rules_named c.args.rules) c.args.m.now (readings c.args.c.now) (map expr_of c.args.entered.now) c.args.shape.now j.outer j.nav j.alias (inner_of (option_map pipe_of j.inner)) T' c.join_target-of.result (join_of c.args.join.now) _
    (join_of-is c.args.join.now) c.join_target-of.ensures.value c.in_ok-settled_on.ensures
    (join_of-parts j.outer c.in_ok-copy.field-0 c.in_ok-copy-2.field-0 c.in_ok-settled_on.field-0 ∙ (λ i. Step.Join j.outer (c.in_ok-copy.ensures.value i) (c.in_ok-copy-2.ensures.value i) T'))

pub settled_climb-returns : goal.settled_climb-returns
settled_climb-returns t c es =
    let k = c.args.climb.now in
    let T' = pipe_of c.in_ok-walked_pipe.field-0 in
    let r = rules_named c.args.rules in
    let m = c.args.m.now in
    let cs = readings c.args.c.now in
    climb-answer r m cs es c.args.shape.now k.up (hier_of k.hier) k.path (pipe_of k.inner) T' k.distance k.keep (climb_of k) _
    (climb_of-is k) (c.in_ok-walked_pipe.ensures ∙ ap (walked r m cs c.args.shape.now (pipe_of k.inner) []) c.climbed_by-climbed.ensures) (climb_of-is _ ∙ (λ i. Step.Climb k.up (hier_of (c.in_ok-copy.ensures.value i)) (c.in_ok-copy-2.ensures.value i) T' k.distance k.keep))
