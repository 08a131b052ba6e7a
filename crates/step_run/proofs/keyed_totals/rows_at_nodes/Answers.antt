use Rattle.std.proofs.Common.{append_assoc, ◌∙◌, ◌+◌, ◌++◌, ℕ, List, ap, sym, subst, arith, drop, length, length-append, map}
use Rattle.std.specs.Prelude.{flat_map}
use Rattle.std.proofs.Math.ListN.{drop_of_length-le}
use Rattle.std.proofs.lemmas.List.{append-nil}
use Rattle.apply_ast.specs.Views.{agg_of}
use Rattle.context_typing.specs.Readings.{readings}
use Rattle.edm_values.specs.declared.Value.{Value}
use Rattle.step_run.specs.KeyedTotals.{HaveFirsts, IsNodeOfAll, rolled_rows}
use Rattle.step_run.proofs.GroupLemmas.{next-flat}
use Rattle.step_run.proofs.keyed_totals.rows_at_nodes.Goals as goal

pub rows_at_node-requires-clause-node : goal.rows_at_node-requires-clause-node
rows_at_node-requires-clause-node g c κs within = let own = c.requires.nodes c.loop-entry.entry-index c.entry-item.result c.loop-entry-test.true in subst (λ e. IsNodeOfAll e.0 c.args.all.now) (sym c.entry-item.is) own

pub rows_at_node-requires-clause-firsts : goal.rows_at_node-requires-clause-firsts
rows_at_node-requires-clause-firsts g c κs within = let own = c.requires.firsts c.loop-entry.entry-index c.entry-item.result c.loop-entry-test.true in subst (λ e. HaveFirsts c.args.context.now.world c.args.plain.now c.args.rows.now c.args.firsts.now e.1) (sym c.entry-item.is) own

pub loop-entry-preserved : goal.loop-entry-preserved
loop-entry-preserved g c =
    let x = c.args.context.now in
    let items = map agg_of c.args.items.now in
    let i = c.loop-entry.entry-index in
    let e = c.entry-item.result in
    let all = c.args.rolled.now in
    record {
      rows = λ f S set nodes root.
          let G = rolled_rows x.world (readings x.customs) S f items c.args.plain.now c.args.path.now c.args.rows.now in
          c.loop-entry.invariant.rows f S set nodes root
          ∙ ap (λ r. c.loop-entry.made.items ++ r) (next-flat G all i e c.loop-entry-test.true c.entry-item.is)
          ∙ sym (append_assoc c.loop-entry.made.items (G e) (flat_map G (drop (i + 1) all)))
          ∙ ap (λ m. m ++ flat_map G (drop (i + 1) all)) (sym (c.in_ok-made.ensures.rows f S set nodes root));
      spent = (
          let G : ℕ × List (List Value × List ℕ) → List (List Value × List ℕ) = λ e. e.1 in
          let before = c.loop-entry.invariant.spent in
          let made = c.rows_at_node.ensures.steps in
          let next = ap length (next-flat G all i e c.loop-entry-test.true c.entry-item.is) ∙ length-append (G e) (flat_map G (drop (i + 1) all)) in
          omega (arith, before, made, next)
          );
      grown = (let a = c.loop-entry.invariant.grown in let b = c.rows_at_node.ensures.grown in omega (arith, a, b));
    }

pub returns-clause-rows : goal.returns-clause-rows
returns-clause-rows g c = λ f S set nodes root.
    let x = c.args.context.now in
    let G = rolled_rows x.world (readings x.customs) S f (map agg_of c.args.items.now) c.args.plain.now c.args.path.now c.args.rows.now in
    sym (c.loop-entry.invariant.rows f S set nodes root ∙ ap (λ es. c.loop-entry.made.items ++ flat_map G es) (drop_of_length-le c.args.rolled.now (omega (arith, c.loop-entry-test.false))) ∙ append-nil c.loop-entry.made.items)
