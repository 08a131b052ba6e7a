use Rattle.std.proofs.Common.{Some, sym, ap, ◌∙◌}
use Rattle.std.proofs.lemmas.Result.{err_from_is_err_and}
use Rattle.apply_grammar.specs.Reading.{comma_at, path_at}
use Rattle.apply_grammar.proofs.PartLaws.{path_items}
use Rattle.apply_grammar.proofs.Lists.{list_start, list_turn, list_stop, list_fails, first_fails, turn_shorter}
use Rattle.apply_grammar.proofs.Failing.{fails_on}
use Rattle.apply_grammar.proofs.paths.read_paths.Goals as goal

pub returns-in_err-first : goal.returns-in_err-first
returns-in_err-first c =
    let p = err_from_is_err_and c.from_residual.result c.from_residual.ensures.1 in
    rw (p.1, p.2) (fails_on c.in_err-first.field-0.0 c.in_err-first.ensures (first_fails comma_at path_at c.args.text.now))

pub loop-behind-init : goal.loop-behind-init
loop-behind-init c = rw c.in_ok-push.ensures.items (rw c.new-list.ensures.items (list_start comma_at path_at c.args.text.now c.in_ok-first.first c.in_ok-first.rest.now c.in_ok-first.ensures))

pub returns-in_err-item : goal.returns-in_err-item
returns-in_err-item c =
    let p = err_from_is_err_and c.from_residual-in_err-item.result c.from_residual-in_err-item.ensures.1 in
    rw (p.1, p.2) (fails_on c.in_err-item.field-0.0 c.in_err-item.ensures (λ h. list_fails path_items _ _ _ _ c.in-Some.ensures h c.loop-behind.invariant))

pub loop-behind-smaller : goal.loop-behind-smaller
loop-behind-smaller c = turn_shorter path_items _ _ _ _ c.in-Some.ensures c.in_ok-item.ensures

pub loop-behind-preserved : goal.loop-behind-preserved
loop-behind-preserved c = rw c.in_ok-push-2.ensures.items (list_turn path_items _ _ _ _ _ _ c.in-Some.ensures c.in_ok-item.ensures c.loop-behind.invariant)

pub returns : goal.returns
returns c = list_stop comma_at path_at _ _ _ c.in_default.ensures c.loop-behind.invariant ∙ ap (λ n. Some (n, c.loop-behind.rest.now)) (sym c.new.ensures.value)
