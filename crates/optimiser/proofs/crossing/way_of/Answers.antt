use Rattle.std.proofs.Common.{Bool, sym, ◌∙◌, ap, subst, ◌+◌, ◌≤◌, ◌∷◌, [], true, arith, length, map, drop}
use Rattle.std.specs.List.{list_all}
use Rattle.std.specs.Prelude.{IfSome, IsTrue, is_some}
use Rattle.std.proofs.lemmas.Bool.{and_parts}
use Rattle.edm_values.proofs.ListFacts.{all-parts}
use Rattle.apply_ast.specs.Views.{step_of}
use Rattle.context_typing.specs.Readings.{readings}
use Rattle.context_typing.specs.ShapeTypes.{has_types}
use Rattle.context_typing.specs.Typing.{steps_shape}
use Rattle.walk_laws.specs.Crossing.{branch_crossed, is_sure_test, step_crossed, sure_test}
use Rattle.optimiser.specs.HeldSegments.{passes}
use Rattle.optimiser.specs.declared.held.Passage.{Passage}
use Rattle.optimiser.proofs.CrossingLemmas.{end-crossed, next-crossed}
use Rattle.optimiser.proofs.SteppingLemmas.{rest-typed}
use Rattle.optimiser.proofs.crossing.way_of.Goals as goal

pub loop-i-init : goal.loop-i-init
loop-i-init c =
    let m = c.args.m.now in
    let cs = readings c.args.c.now in
    let e = c.in_ok-shape.ensures.value in record {
      types = ap (has_types m) e ∙ c.requires.types;
      typed = (λ i. is_some (steps_shape m cs (e i) (sym c.steps-steps.ensures.tree i))) ∙ c.requires.typed;
      value = λ x h k. sym (λ i. branch_crossed m cs (e i) (sym c.steps-steps.ensures.tree i) x) ∙ k;
    }

pub loop-i-preserved : goal.loop-i-preserved
loop-i-preserved c =
    let m = c.args.m.now in
    let cs = readings c.args.c.now in
    let xs = c.steps-steps.result.now in
    let i = c.loop-i.i in
    let d = c.index-steps-i.result in
    let S = c.loop-i.shape in
    let S' = c.in_ok-next.next in record {
      types = c.in_ok-next.ensures.types;
      typed = (rest-typed m cs step_of S S' xs i d c.loop-i-test.true c.index-steps-i.is c.loop-i.invariant.typed).1 c.in_ok-next.ensures.value;
      value = λ e h k.
          let P : Passage → Bool = λ p. passes p (sure_test e) in
          let t = all-parts P c.loop-i.passages.items (c.in-Some.passage ∷ []) (sym (ap (list_all P) c.in_ok-push-in-Some.ensures.items) ∙ h) in
          let one = subst (λ o. IfSome o (λ p. IsTrue (passes p (sure_test e)) → IsTrue (step_crossed m cs S (step_of d) e))) c.in-Some.is (c.in_ok-passage.ensures e) in
          c.loop-i.invariant.value e t.0 (next-crossed m cs step_of xs i d S S' e c.loop-i-test.true c.index-steps-i.is (one (and_parts (P c.in-Some.passage) true t.1).0) c.in_ok-next.ensures.value k);
    }

pub returns-clause-value : goal.returns-clause-value
returns-clause-value c e h =
    let m = c.args.m.now in
    let cs = readings c.args.c.now in
    let xs = c.steps-steps.result.now in
    let end : length xs ≤ c.loop-i.i = omega (arith, c.loop-i-test.false) in
    let t = and_parts (list_all (λ p. passes p (sure_test e)) c.loop-i.passages.items) (is_sure_test m c.loop-i.shape e) h in
    c.loop-i.invariant.value e t.0 (end-crossed m cs step_of xs c.loop-i.i c.loop-i.shape e end t.1)
