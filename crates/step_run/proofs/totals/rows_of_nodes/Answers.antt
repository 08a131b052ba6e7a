use Rattle.std.proofs.Common.{◌≡◌, ◌∙◌, ◌+◌, ◌≤◌, ◌++◌, ◌∷◌, [], ℕ, List, ap, sym, subst, arith, drop, length, map}
use Rattle.std.specs.Prelude.{flat_map, slice_index}
use Rattle.std.specs.List.{cons_option}
use Rattle.std.proofs.lemmas.List.{get_or_default}
use Rattle.apply_ast.specs.Views.{agg_of}
use Rattle.apply_meaning.specs.Instances.{Instance}
use Rattle.context_typing.specs.Readings.{readings}
use Rattle.step_run.specs.Totals.{totals, totals_at}
use Rattle.step_run.proofs.GroupLemmas.{length-more}
use Rattle.step_run.proofs.PlacedRuns.{next-counted, next-made, next-none}
use Rattle.step_run.proofs.totals.rows_of_nodes.Goals as goal
use Rattle.step_run.proofs.totals.rows_of_nodes.Goals.{in-Some+in_ok-push, in_default}

pub returns-in_err-push-clause-steps : goal.returns-in_err-push-clause-steps
returns-in_err-push-clause-steps g c = λ f S are h.
    let x = c.args.context.now in
    let items = map agg_of c.args.totals.now.items.now in
    let p = c.args.totals.now.path.now in
    let l = c.args.rows.now in
    let shown = c.args.shown.now in
    let i = c.loop-node.node-index in
    let d = slice_index shown i in
    let inv = c.loop-node.invariant.0 f S are h in
    let kept = inv.1 in
    let spent = c.row_of_node.ensures.steps f S are h in
    let least = next-counted (totals_at x.world (readings x.customs) S f items p l) shown i d (totals x.world (readings x.customs) S f items p shown l) c.loop-node.made.items inv.0 c.loop-node-test.true (get_or_default shown i 0 d c.loop-node-test.true) in
    omega (arith, kept, spent, least)

pub loop-node-preserved : goal.loop-node-preserved
loop-node-preserved g c = (
  λ f S are h.
      let x = c.args.context.now in
      let items = map agg_of c.args.totals.now.items.now in
      let p = c.args.totals.now.path.now in
      let l = c.args.rows.now in
      let shown = c.args.shown.now in
      let i = c.loop-node.node-index in
      let d = slice_index shown i in
      let made = c.loop-node.made.items in
      let e = get_or_default shown i 0 d c.loop-node-test.true in
      let own_of : ℕ → List Instance = totals_at x.world (readings x.customs) S f items p l in
      let all = totals x.world (readings x.customs) S f items p shown l in
      let inv = c.loop-node.invariant.0 f S are h in
      let kept = inv.1 in
      let own = c.in_ok-row.ensures.row f S are h in
      let spent = c.row_of_node.ensures.steps f S are h in
      let Q : List Instance → Type 0 = λ m. (all ≡ m ++ flat_map own_of (drop (i + 1) shown)) × (c.row_of_node.new.steps ≤ c.args.steps.now + length m) in
      elim c.match-row.branch [
        | in-Some+in_ok-push w ↦
            let r = w.in-Some.row in
            let one : r ∷ [] ≡ own_of d = ap (λ o. cons_option o []) (sym w.in-Some.is) ∙ own in
            let counted = ap length one in
            let more = length-more made r in
            subst Q (sym (ap (λ v. v.items) w.made-is ∙ w.in_ok-push.ensures.items)) (next-made own_of shown i d all made r inv.0 c.loop-node-test.true e one, omega (arith, spent, counted, more, kept))
        | in_default w ↦
            let none : [] ≡ own_of d = ap (λ o. cons_option o []) (sym w.in_default.is) ∙ own in
            let counted = ap length none in
            subst Q (sym (ap (λ v. v.items) w.made-is)) (next-none own_of shown i d all made inv.0 c.loop-node-test.true e none, omega (arith, spent, counted, kept))
      ],
  omega (arith, c.row_of_node.ensures.grown, c.loop-node.invariant.1),
)
