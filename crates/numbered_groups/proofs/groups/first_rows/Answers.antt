use Rattle.std.proofs.Common.{rules, ◌≡◌, ◌+◌, ◌∙◌, ℕ, List, ap, subst, sym, arith, length}
use Rattle.numbered_groups.proofs.FirstLemmas.{AreFirstsTo, firsts-all, firsts-known, firsts-new, firsts-there}
use Rattle.numbered_groups.proofs.groups.first_rows.Goals.{then-numbers-row+in_ok-push, else-numbers-row}
use Rattle.numbered_groups.proofs.groups.first_rows.Goals as goal

pub loop-row-preserved : goal.loop-row-preserved
loop-row-preserved c =
    let numbers = c.args.numbers.now in
    let firsts = c.loop-row.firsts.items in
    let row = c.loop-row.row in
    let size : c.len.result ≡ length firsts = search rules in
    let P : List ℕ → Type 0 = λ fs. AreFirstsTo numbers fs (row + 1) in
    elim c.if-numbers-row.branch [
      | then-numbers-row+in_ok-push w ↦ subst P (sym (ap (λ v. v.items) w.firsts-is ∙ w.in_ok-push.ensures.items)) (firsts-new numbers firsts c.args.count row c.requires c.loop-row-test.true (w.if-numbers-row.true ∙ size) c.loop-row.invariant)
      | else-numbers-row w ↦ subst P (sym (ap (λ v. v.items) w.firsts-is)) (firsts-known numbers firsts c.args.count row c.requires c.loop-row-test.true (λ e. w.if-numbers-row.false (e ∙ sym size)) c.loop-row.invariant)
    ]

pub returns-clause-are : goal.returns-clause-are
returns-clause-are c = firsts-all c.args.numbers.now c.loop-row.firsts.items c.args.count c.loop-row.row c.requires (omega arith) c.loop-row.invariant (omega arith)

pub returns-clause-size : goal.returns-clause-size
returns-clause-size c = (firsts-all c.args.numbers.now c.loop-row.firsts.items c.args.count c.loop-row.row c.requires (omega arith) c.loop-row.invariant (omega arith)).size

pub returns-clause-there : goal.returns-clause-there
returns-clause-there c = firsts-there c.args.numbers.now c.loop-row.firsts.items c.args.count (firsts-all c.args.numbers.now c.loop-row.firsts.items c.args.count c.loop-row.row c.requires (omega arith) c.loop-row.invariant (omega arith))
