use Rattle.std.proofs.Common.{◌∷◌, [], Some, ap, sym, ◌∙◌, arith}
use Rattle.std.proofs.lemmas.Result.{err_from_is_err_and}
use Rattle.std.proofs.lemmas.List.{length-append}
use Rattle.apply_grammar.specs.Reading.{after, name_at}
use Rattle.apply_grammar.proofs.Leaves.{names}
use Rattle.apply_grammar.proofs.Lists.{list_start, list_turn, list_stop, list_fails, first_fails, turn_shorter}
use Rattle.apply_grammar.proofs.Failing.{fails_on}
use Rattle.apply_grammar.proofs.paths.path_at.Goals as goal

pub returns-in_err-first : goal.returns-in_err-first
returns-in_err-first c =
    let p = err_from_is_err_and c.from_residual.result c.from_residual.ensures.1 in
    rw (p.1, p.2) (fails_on c.in_err-first.field-0.0 c.in_err-first.ensures (first_fails (after 47) name_at c.args.text.now))

pub loop-behind-init : goal.loop-behind-init
loop-behind-init c = rw c.in_ok-push.ensures.items (rw c.new-names.ensures.items (list_start (after 47) name_at c.args.text.now c.in_ok-first.first c.in_ok-first.rest.now c.in_ok-first.ensures, omega arith))

pub returns-in_err-name : goal.returns-in_err-name
returns-in_err-name c =
    let p = err_from_is_err_and c.from_residual-in_err-name.result c.from_residual-in_err-name.ensures.1 in
    rw (p.1, p.2) (fails_on c.in_err-name.field-0.0 c.in_err-name.ensures (λ h. list_fails names _ _ _ _ c.in-Some.ensures h c.loop-behind.invariant.0))

pub loop-behind-smaller : goal.loop-behind-smaller
loop-behind-smaller c = turn_shorter names _ _ _ _ c.in-Some.ensures c.in_ok-name.ensures

pub loop-behind-preserved : goal.loop-behind-preserved
loop-behind-preserved c =
    rw c.in_ok-push-2.ensures.items (list_turn names _ _ _ _ _ _ c.in-Some.ensures c.in_ok-name.ensures c.loop-behind.invariant.0, omega (arith, length-append c.loop-behind.names.items (c.in_ok-name.name ∷ [])))

pub returns : goal.returns
returns c = list_stop (after 47) name_at _ _ _ c.in_default.ensures c.loop-behind.invariant.0 ∙ ap (λ n. Some (n, c.loop-behind.rest.now)) (sym c.new.ensures.value)
