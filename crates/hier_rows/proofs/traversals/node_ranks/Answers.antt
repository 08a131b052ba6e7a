use Rattle.std.proofs.Common.{rules, ◌≡◌, ◌∙◌, IsTrue, ap, length, replicate, subst, sym, arith}
use Rattle.std.specs.Prelude.{◌==◌}
use Rattle.apply_meaning.specs.Running.{all_of}
use Rattle.hier_rows.proofs.NodeLaws.{rows-of}
use Rattle.hier_rows.proofs.TraversalLaws.{ranks-empty}
use Rattle.hier_rows.proofs.traversals.node_ranks.Goals as goal
use Rattle.apply_meaning.proofs.SetLemmas.{rows-length}

pub returns-then-is_empty-clause-ranks : goal.returns-then-is_empty-clause-ranks
returns-then-is_empty-clause-ranks g c =
    let zeros : c.in_ok-vec.field-0.items ≡ replicate c.count-size.result 0 = search rules in
    ranks-empty c.args.store.now c.args.set c.args.items.now c.in_ok-vec.field-0.items
    (ap (λ xs. length xs == 0) (sym c.as_slice.ensures.value) ∙ sym c.is_empty.ensures ∙ c.if-is_empty.true) (zeros ∙ ap (λ n. replicate n 0) c.count-size.ensures.value)

pub row_ranks-requires-clause-of : goal.row_ranks-requires-clause-of
row_ranks-requires-clause-of g c = subst (λ l. IsTrue (all_of c.args.store.now l)) (sym (c.deref.ensures.value ∙ c.in_ok-nodes.ensures.rows)) (rows-of c.args.store.now c.args.set c.requires)

pub row_ranks-requires-clause-small : goal.row_ranks-requires-clause-small
row_ranks-requires-clause-small g c =
    let size : length c.deref.result.now ≡ c.count-size.result = ap length (c.deref.ensures.value ∙ c.in_ok-nodes.ensures.rows) ∙ rows-length c.args.store.now c.args.set ∙ sym c.count-size.ensures.value in
    let fits = c.count-size.type_inv in
    omega (arith, size, fits)
