use Rattle.std.proofs.Common.{map, ◌∙◌, sym}
use Rattle.apply_ast.specs.Views.{item_of}
use Rattle.row_orders.proofs.RankLemmas.{first-rank, former-rank, new-rank}
use Rattle.row_orders.proofs.ranks.next_rank.Goals as goal

pub returns-then-k-eq0 : goal.returns-then-k-eq0
returns-then-k-eq0 c = first-rank (map item_of c.args.items.now) c.args.sorted.now c.requires.order c.args.k c.requires.within c.if-k-eq0.true

pub returns-then-ties : goal.returns-then-ties
returns-then-ties c =
    former-rank (map item_of c.args.items.now) c.args.sorted.now c.requires.order c.args.k c.requires.within c.args.former c.index-sorted-k.result c.index-sorted-k-2.result
    c.if-k-eq0.false c.index-sorted-k.is c.index-sorted-k-2.is c.requires.former (sym c.ties.ensures ∙ c.if-ties.true)

pub returns : goal.returns
returns c =
    new-rank (map item_of c.args.items.now) c.args.sorted.now c.requires.order c.args.k c.requires.within c.index-sorted-k.result c.index-sorted-k-2.result
    c.if-k-eq0.false c.index-sorted-k.is c.index-sorted-k-2.is (sym c.ties.ensures ∙ c.if-ties.false)
