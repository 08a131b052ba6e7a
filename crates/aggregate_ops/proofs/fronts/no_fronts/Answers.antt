use Rattle.std.proofs.Common.{rules, ◌∙◌, ◌++◌, ◌∷◌, [], ap, get_or, length, sym}
use Rattle.std.proofs.lemmas.List.{get_or-replicate}
use Rattle.aggregate_ops.proofs.NumberLemmas.{none-there, numbered-by_nothing, numbered-none, some-there}
use Rattle.aggregate_ops.proofs.fronts.no_fronts.Goals as goal

pub returns-then-is_empty : goal.returns-then-is_empty
returns-then-is_empty c = numbered-none c.args.groups.now c.new-firsts.result.items c.new-numbers.result.items (none-there c.args.groups.now (sym c.if-is_empty.ensures)) c.new-firsts.ensures.items c.new-numbers.ensures.items

pub returns : goal.returns
returns c =
    numbered-by_nothing c.args.groups.now c.push.new.self.items c.in_ok-numbers.numbers.items (some-there c.args.groups.now (sym c.if-is_empty.ensures)) (c.in_ok-push.ensures.items ∙ ap (λ l. l ++ 0 ∷ []) c.new-firsts.ensures.items) (search rules)
    (λ i h. ap (λ ns. get_or ns i 0) (c.in_ok-numbers.ensures.items_if_clones_equal (λ y e. e)) ∙ get_or-replicate (length c.args.groups.now) i 0 0 h)
