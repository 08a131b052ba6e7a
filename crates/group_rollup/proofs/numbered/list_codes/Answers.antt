use Rattle.std.proofs.Common.{rules, ◌∙◌, sym}
use Rattle.group_rollup.proofs.ColumnLemmas.{any-across}
use Rattle.group_rollup.proofs.numbered.list_codes.Goals as goal

pub returns-then-beyond : goal.returns-then-beyond
returns-then-beyond g c =
    sym (any-across c.args.store.now c.args.paths.now c.args.list.now) ∙ sym c.in_ok-codes.ensures.beyond ∙ c.if-beyond.true

pub returns : goal.returns
returns g c = (
  (c.in_ok-codes.ensures.codes, c.in_ok-codes.ensures.count),
  sym (any-across c.args.store.now c.args.paths.now c.args.list.now) ∙ sym c.in_ok-codes.ensures.beyond ∙ c.if-beyond.false,
)
