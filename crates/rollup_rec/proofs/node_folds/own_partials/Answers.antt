use Rattle.std.proofs.Common.{◌≡◌, ◌∙◌, ◌+◌, ◌<◌, List, Some, None, IfSome, ap, arith, get_or, length, map, option_map, subst, sym}
use Rattle.std.specs.Prelude.{slice_get, slice_index}
use Rattle.std.proofs.lemmas.Option.{slice_get-get_or, slice_get-map}
use Rattle.std.proofs.lemmas.List.{get_or-map, length-map}
use Rattle.edm_values.specs.declared.Seen.{Seen}
use Rattle.edm_values.specs.declared.Value.{Value}
use Rattle.edm_values.specs.Values.{seen_value}
use Rattle.rollup_rec.specs.NodeFolds.{AreFolds}
use Rattle.rollup_rec.proofs.FoldSteps.{folds-kept, folds-none, folds-room, folds-with, folds-without}
use Rattle.rollup_rec.proofs.node_folds.own_partials.Goals as goal
use Rattle.rollup_rec.proofs.node_folds.own_partials.Goals.{in-Some+in_ok-add_seen, in_default}

pub loop-row-init : goal.loop-row-init
loop-row-init g c = folds-none g.P.Partial.kind g.P.Partial.stands_for (g.P.Partial.kind c.args.empty.now) c.args.numbers.now c.args.nodes.now (map (λ v. seen_value v) c.args.values.now) (length c.args.numbers.now) c.in_ok-all.all.items c.in_ok-all.ensures.size c.in_ok-all.ensures.kind c.in_ok-all.ensures.empty

pub add_seen-requires-clause-room : goal.add_seen-requires-clause-room
add_seen-requires-clause-room g c =
    let numbers = c.args.numbers.now in
    let known : c.in-Some.node < length numbers = subst (λ o. IfSome o (λ y. y < length numbers)) c.in-Some.is (c.requires.nodes c.loop-row.row None c.loop-row-test.true) in
    let few = folds-room g.P.Partial.kind g.P.Partial.stands_for (g.P.Partial.kind c.args.empty.now) numbers c.args.nodes.now (map (λ v. seen_value v) c.args.values.now) (length numbers) g.P.Partial.count (g.met.P.Partial g.world.𝓛 g.world.𝓜 g.world.𝓡 ((λ s x. x), (λ x. x), (λ x. x), λ x. x)).counted c.loop-row.row (slice_index numbers c.in-Some.node) c.loop-row.all.items c.index_mut.result.now c.index_mut.ensures.value (c.requires.numbers c.in-Some.node 0 known) c.loop-row.invariant in
    omega (arith, few, c.requires.few, c.loop-row-test.true)

pub add_seen-requires-clause-kind : goal.add_seen-requires-clause-kind
add_seen-requires-clause-kind g c =
    let numbers = c.args.numbers.now in
    let vs : List Value = map (λ v. seen_value v) c.args.values.now in
    let known : c.in-Some.node < length numbers = subst (λ o. IfSome o (λ y. y < length numbers)) c.in-Some.is (c.requires.nodes c.loop-row.row None c.loop-row-test.true) in
    let kept = folds-kept g.P.Partial.kind g.P.Partial.stands_for (g.P.Partial.kind c.args.empty.now) numbers c.args.nodes.now vs (length numbers) c.loop-row.row (slice_index numbers c.in-Some.node) c.loop-row.all.items c.index_mut.result.now c.index_mut.ensures.value (c.requires.numbers c.in-Some.node 0 known) c.loop-row.invariant in
    let size = c.requires.size in
    let inside : c.loop-row.row < length c.args.values.now = omega (arith, size, c.loop-row-test.true) in
    let long = length-map c.args.values.now (λ v. seen_value v) in
    let read : seen_value c.index-values-row.result ≡ get_or vs c.loop-row.row (seen_value c.index-values-row.result) = ap (λ v. seen_value v) c.index-values-row.is ∙ sym (get_or-map (λ v. seen_value v) c.args.values.now c.loop-row.row c.index-values-row.result (seen_value c.index-values-row.result) inside) in
    subst (λ q. g.P.Partial.takes q (seen_value c.index-values-row.result)) (sym kept.kind_is)
    (subst (g.P.Partial.takes (g.P.Partial.kind c.args.empty.now)) (sym read) (c.requires.kind c.loop-row.row (seen_value c.index-values-row.result) (omega (arith, long, inside))))

pub loop-row-preserved : goal.loop-row-preserved
loop-row-preserved g c =
    let numbers = c.args.numbers.now in
    let nodes = c.args.nodes.now in
    let row = c.loop-row.row in
    let vs : List Value = map (λ v. seen_value v) c.args.values.now in
    let k = g.P.Partial.kind c.args.empty.now in
    let read = slice_get-get_or nodes row None c.loop-row-test.true in
    let size = c.requires.size in
    let inside : row < length c.args.values.now = omega (arith, size, c.loop-row-test.true) in
    let own : (v : Seen) → v ≡ get_or c.args.values.now row v → slice_get vs row ≡ Some (seen_value v) = λ v e. slice_get-map (λ v. seen_value v) c.args.values.now row ∙ ap (option_map (λ v. seen_value v)) (slice_get-get_or c.args.values.now row v inside ∙ ap Some (sym e)) in
    elim c.match-node.branch [
      | in-Some+in_ok-add_seen w ↦
          let node = w.in-Some.node in
          let there : slice_get nodes row ≡ Some (Some node) = read ∙ ap Some w.in-Some.is in
          let known : node < length numbers = subst (λ o. IfSome o (λ y. y < length numbers)) w.in-Some.is (c.requires.nodes row None c.loop-row-test.true) in
          subst (λ ps. AreFolds g.P.Partial.kind g.P.Partial.stands_for k numbers nodes vs (length numbers) (row + 1) ps) (sym (ap (λ v. v.items) w.all-is))
          (folds-with g.P.Partial.kind g.P.Partial.stands_for k numbers nodes vs (length numbers) row node c.loop-row.all.items w.index_mut.result.now w.add_seen.new.self (seen_value w.index-values-row.result) there (c.requires.numbers node 0 known) w.index_mut.ensures.value (own w.index-values-row.result w.index-values-row.is) w.in_ok-add_seen.ensures.kind w.in_ok-add_seen.ensures.added c.loop-row.invariant)
      | in_default w ↦ subst (λ ps. AreFolds g.P.Partial.kind g.P.Partial.stands_for k numbers nodes vs (length numbers) (row + 1) ps) (sym (ap (λ v. v.items) w.all-is)) (folds-without g.P.Partial.kind g.P.Partial.stands_for k numbers nodes vs (length numbers) row c.loop-row.all.items (read ∙ ap Some w.in_default.is) c.loop-row.invariant)
    ]
