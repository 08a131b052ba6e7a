use Rattle.std.proofs.Common.{◌∙◌, ◌++◌, ◌∷◌, [], ◌+◌, ap, sym, drop, length, arith}
use Rattle.std.proofs.lemmas.List.{append_assoc}
use Rattle.edm_values.specs.Lists.{at_places}
use Rattle.row_frames.proofs.PlaceLemmas.{next-place}
use Rattle.row_values.proofs.lists.copies_at.Goals as goal

pub returns-in_err-copy-clause-steps : goal.returns-in_err-copy-clause-steps
returns-in_err-copy-clause-steps g c =
    let e = ap length (next-place c.args.rows.now c.args.places.now c.loop-at.at-index c.index-rows-at.result c.requires c.loop-at-test.true c.index-rows-at.is) in
    let spent = c.copy.ensures.steps in
    let left = c.loop-at.invariant.1 in
    omega (arith, e, spent, left)

pub returns-in_err-push-clause-steps : goal.returns-in_err-push-clause-steps
returns-in_err-push-clause-steps g c =
    let e = ap length (next-place c.args.rows.now c.args.places.now c.loop-at.at-index c.index-rows-at.result c.requires c.loop-at-test.true c.index-rows-at.is) in
    let spent = c.copy.ensures.steps in
    let left = c.loop-at.invariant.1 in
    omega (arith, e, spent, left)

pub loop-at-preserved : goal.loop-at-preserved
loop-at-preserved g c =
    let l = c.args.rows.now in
    let rest = at_places l (drop (c.loop-at.at-index + 1) c.args.places.now) in
    let next = next-place l c.args.places.now c.loop-at.at-index c.index-rows-at.result c.requires c.loop-at-test.true c.index-rows-at.is in
    let e = ap length next in
    let spent = c.copy.ensures.steps in
    let left = c.loop-at.invariant.1 in
    let grown = c.loop-at.invariant.2 in (
      c.loop-at.invariant.0 ∙ ap (λ xs. c.loop-at.copies.items ++ xs) next
          ∙ sym (append_assoc c.loop-at.copies.items (c.index-rows-at.result ∷ []) rest)
          ∙ ap (λ x. (c.loop-at.copies.items ++ x ∷ []) ++ rest) (sym c.in_ok-copy.ensures.row)
          ∙ ap (λ xs. xs ++ rest) (sym c.in_ok-push.ensures.items),
      omega (arith, e, spent, left),
      omega (arith, spent, grown),
    )
