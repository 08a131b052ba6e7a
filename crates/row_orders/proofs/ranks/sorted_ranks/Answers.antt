use Rattle.std.proofs.Common.{◌+◌, ap, map, subst, sym}
use Rattle.std.specs.Prelude.{slice_set}
use Rattle.apply_ast.specs.Views.{item_of}
use Rattle.row_orders.specs.Orders.{RankedPlace, before}
use Rattle.row_orders.specs.Ranks.{HaveRanks}
use Rattle.row_orders.proofs.RankLemmas.{former-next, ranks-next}
use Rattle.row_orders.proofs.ranks.sorted_ranks.Goals as goal

pub loop-k-preserved : goal.loop-k-preserved
loop-k-preserved c =
    let less = before (map item_of c.args.items.now) in
    let ys = c.args.sorted.now in
    let rs = c.loop-k.ranks.items in
    let rank = c.next_rank-rank.result in (
      subst (λ n. HaveRanks less ys (slice_set rs n rank) (c.loop-k.k + 1)) (sym (ap (λ (y : RankedPlace). y.1) c.one.view_is))
          (ranks-next less ys rs c.loop-k.k rank c.index-sorted-k.result c.requires.places c.loop-k-test.true c.index-sorted-k.is c.loop-k.invariant.0 c.next_rank-rank.ensures),
      former-next less ys c.loop-k.k rank c.next_rank-rank.ensures,
    )
