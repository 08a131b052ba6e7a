use Rattle.std.proofs.Common.{◌≡◌, IfSome, ap, false, subst, sym}
use Rattle.std.specs.Prelude.{IfOk}
use Rattle.std.specs.List.{list_any}
use Rattle.edm_values.specs.Values.{is_beyond}
use Rattle.apply_ast.specs.Views.{expr_of}
use Rattle.apply_meaning.specs.Meaning.{values}
use Rattle.row_values.proofs.distincts.path_codes.Goals as goal

pub returns-in-Path-clause-within : goal.returns-in-Path-clause-within
returns-in-Path-clause-within g c =
    subst (λ vs. IfOk c.codes.result (λ o. IfSome o (λ _. list_any is_beyond vs ≡ false))) (sym (ap (λ e. values c.args.store.now (expr_of e) c.args.list.now) c.in-Path.is)) c.codes.ensures.within
