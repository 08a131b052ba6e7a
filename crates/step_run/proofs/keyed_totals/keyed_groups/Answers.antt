use Rattle.std.proofs.Common.{Option, ◌∙◌, ap, sym, map}
use Rattle.std.specs.Prelude.{IfSome}
use Rattle.std.proofs.lemmas.Result.{err_from_is_err_and}
use Rattle.apply_ast.proofs.ViewEquations.{keys_of-is}
use Rattle.apply_ast.specs.Views.{agg_of, key_of, keys_from, keys_of, step_of}
use Rattle.context_typing.specs.Readings.{readings}
use Rattle.context_typing.specs.Typing.{plain_paths}
use Rattle.step_run.proofs.KeyedParts.{groups-err}
use Rattle.step_run.specs.KeyedTotals.{IsKeyedBy}
use Rattle.step_run.specs.declared.keyed_totals.KeyedGroups.{KeyedGroups}
use Rattle.step_run.proofs.keyed_totals.keyed_groups.Goals as goal

pub returns-in_err-groups : goal.returns-in_err-groups
returns-in_err-groups g c =
    let x = c.args.context.now in
    let ks = keys_of c.in-Some.keys.now in
    let e = c.in_err-groups.field-0.0 in
    let plain = c.as_slice-2.ensures.value ∙ c.in_ok-plain.ensures ∙ ap (λ ks. plain_paths (keys_from (map key_of ks))) c.as_slice.ensures.value ∙ ap plain_paths (sym (keys_of-is c.in-Some.keys.now)) in
    let q = err_from_is_err_and c.from_residual-in_err-groups.result c.from_residual-in_err-groups.ensures.1 in
    record { found = rw (q.1, q.2) (groups-err (λ (o : Option KeyedGroups). IfSome o (λ k. IsKeyedBy x.world (step_of c.args.step.now) (keys_of k.keys.now) (map agg_of k.items.now) c.args.rows.now k.groups)) x.world (readings x.customs) (step_of c.args.step.now) ks c.as_slice-2.result.now (map agg_of c.in-Some.items.now) c.args.rows.now e c.in-Some.ensures plain c.in_err-groups.ensures) }
