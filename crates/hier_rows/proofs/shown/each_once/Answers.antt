use Rattle.std.proofs.Common.{rules, ◌≡◌, ◌<◌, ◌∙◌, ◌++◌, ◌∷◌, [], true, false, ap, get_or, length, nat_eq, subst, sym, arith}
use Rattle.std.specs.Prelude.{slice_index_or, slice_set}
use Rattle.std.specs.List.{list_any}
use Rattle.hier_rows.proofs.ShownLaws.{AreMarked, mark-there, marks-fresh, next-fresh, next-seen}
use Rattle.hier_rows.proofs.shown.each_once.Goals as goal

pub loop-node-preserved-then-index : goal.loop-node-preserved-then-index
loop-node-preserved-then-index c =
    let xs = c.args.nodes.now in
    let i = c.loop-node.node-index in
    let I = c.loop-node.invariant in
    let below : get_or xs i 0 < c.args.count = c.requires i 0 c.loop-node-test.true in
    let marks = c.loop-node.marks.items in
    let size : length marks ≡ c.args.count = I.1.0 in
    let own : slice_index_or marks (get_or xs i 0) true ≡ true = search rules in
    let seen : slice_index_or marks (get_or xs i 0) false ≡ true = mark-there marks (get_or xs i 0) true (omega (arith, below, size)) ∙ own in
    (I.0 ∙ next-seen xs i c.loop-node-test.true (ap (list_any (nat_eq (get_or xs i 0))) (sym I.0) ∙ sym (I.1.1 (get_or xs i 0) below) ∙ seen), I.1)

pub loop-node-preserved : goal.loop-node-preserved
loop-node-preserved c =
    let xs = c.args.nodes.now in
    let i = c.loop-node.node-index in
    let I = c.loop-node.invariant in
    let marks = c.loop-node.marks.items in
    let found = c.loop-node.found.items in
    let below : get_or xs i 0 < c.args.count = c.requires i 0 c.loop-node-test.true in
    let fresh : slice_index_or marks (get_or xs i 0) false ≡ false = search rules in
    let pushed : c.push.new.self.items ≡ found ++ get_or xs i 0 ∷ [] = c.in_ok-push.ensures.items in (
      pushed ∙ ap (λ ys. ys ++ get_or xs i 0 ∷ []) I.0 ∙ next-fresh xs i c.loop-node-test.true (ap (list_any (nat_eq (get_or xs i 0))) (sym I.0) ∙ sym (I.1.1 (get_or xs i 0) below) ∙ fresh),
      subst (λ ys. AreMarked c.args.count ys (slice_set marks (get_or xs i 0) true)) (sym pushed) (marks-fresh c.args.count found marks (get_or xs i 0) I.1 below),
    )
