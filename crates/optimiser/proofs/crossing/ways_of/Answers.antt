use Rattle.std.proofs.Common.{sym, ◌∙◌, ap, subst, refl, ◌+◌, ◌≤◌, ◌∷◌, [], true, arith, length, map, take}
use Rattle.std.specs.List.{list_all}
use Rattle.std.specs.Prelude.{IfSome, IsTrue}
use Rattle.std.proofs.lemmas.Bool.{and_from}
use Rattle.std.proofs.lemmas.List.{take_all}
use Rattle.edm_values.proofs.ListFacts.{all-append}
use Rattle.apply_ast.specs.Views.{pipe_of}
use Rattle.context_typing.specs.Readings.{readings}
use Rattle.context_typing.specs.ShapeTypes.{has_types}
use Rattle.walk_laws.specs.Crossing.{branch_crossed}
use Rattle.optimiser.specs.CrossingForms.{goes}
use Rattle.optimiser.proofs.CrossingLemmas.{more-crossed}
use Rattle.optimiser.proofs.crossing.ways_of.Goals as goal

pub loop-i-preserved : goal.loop-i-preserved
loop-i-preserved c =
    let m = c.args.m.now in
    let cs = readings c.args.c.now in
    let S = c.args.shape.now in
    let xs = c.as_slice-all.result.now in
    let i = c.loop-i.i in
    let d = c.index-all-i.result in
    let ws = c.loop-i.ways.items in
    let w = c.in-Some.way in record {
      types =
          ap (list_all (λ w. has_types m w.end)) c.in_ok-push-in-Some.ensures.items
          ∙ all-append (λ w. has_types m w.end) ws (w ∷ []) c.loop-i.invariant.types (and_from _ _ (subst (λ o. IfSome o (λ w. IsTrue (has_types m w.end))) c.in-Some.is c.in_ok-way.ensures.types) refl);
      value = λ e h.
          let one = subst (λ o. IfSome o (λ w. IsTrue (goes m e w) → IsTrue (branch_crossed m cs S (pipe_of d) e))) c.in-Some.is (c.in_ok-way.ensures.value e) in
          more-crossed m cs pipe_of xs i d S e ws w c.loop-i-test.true c.index-all-i.is (c.loop-i.invariant.value e) one (sym (ap (list_all (goes m e)) c.in_ok-push-in-Some.ensures.items) ∙ h);
    }

pub returns-clause-value : goal.returns-clause-value
returns-clause-value c e h =
    let m = c.args.m.now in
    let cs = readings c.args.c.now in
    let xs = c.as_slice-all.result.now in
    let end : length xs ≤ c.loop-i.i = omega (arith, c.loop-i-test.false) in
    ap (λ l. list_all (λ p. branch_crossed m cs c.args.shape.now p e) (map pipe_of l)) (sym c.as_slice-all.ensures.value ∙ sym (take_all c.loop-i.i xs end)) ∙ c.loop-i.invariant.value e h
