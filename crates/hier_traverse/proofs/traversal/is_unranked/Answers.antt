use Rattle.std.proofs.Common.{length, arith, ◌∙◌, sym}
use Rattle.std.specs.Prelude.{replicate}
use Rattle.std.proofs.lemmas.List.{ext_get_or, get_or-replicate, length-replicate}
use Rattle.hier_traverse.proofs.traversal.is_unranked.Goals as goal

pub returns : goal.returns
returns c is =
    let rank = c.args.rank.now in
    let n = length rank in
    ext_get_or 0 rank (replicate n 0) (sym (length-replicate n 0)) (λ i h. c.loop-number.invariant i (omega arith) ∙ sym (get_or-replicate n i 0 0 h))
