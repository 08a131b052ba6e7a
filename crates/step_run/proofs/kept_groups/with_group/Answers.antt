use Rattle.std.proofs.Common.{◌∙◌, ◌++◌, ◌∷◌, ◌<◌, ℕ, [], ap, sym, length, map, take, get_or, arith}
use Rattle.std.proofs.lemmas.List.{append_assoc, map-append, take_all, take_more}
use Rattle.step_run.proofs.kept_groups.with_group.Goals as goal

pub loop-k-preserved : goal.loop-k-preserved
loop-k-preserved c =
    let own = c.args.own.items in
    let k = c.loop-k._k in
    let head : ℕ → ℕ = λ k. c.args.head in
    let old = c.args.kept.heads.items in
    let h : k < length own = omega (arith, c.loop-k-test.true) in
    c.in_ok-push.ensures.items
    ∙ ap (λ hs. hs ++ c.args.head ∷ []) c.loop-k.invariant
    ∙ append_assoc old (map head (take k own)) (c.args.head ∷ [])
    ∙ ap (λ hs. old ++ hs) (sym (ap (map head) (take_more own k 0 h) ∙ map-append head (take k own) (get_or own k 0 ∷ [])))

pub returns-clause-heads : goal.returns-clause-heads
returns-clause-heads c =
    let own = c.args.own.items in
    let head : ℕ → ℕ = λ k. c.args.head in
    c.loop-k.invariant ∙ ap (λ xs. c.args.kept.heads.items ++ map head xs) (take_all c.loop-k._k own (omega (arith, c.loop-k-test.false)))
