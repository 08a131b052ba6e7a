use Rattle.std.proofs.Common.{◌∙◌, Some, ap, sym, map}
use Rattle.apply_ast.specs.Views.{key_of, keys_from}
use Rattle.context_typing.specs.Typing.{group_keys}
use Rattle.context_typing.proofs.GroupFacts.{grouped-some, grouped-none, grouped-untyped}
use Rattle.context_typing.proofs.grouping.grouped_shape.Goals as goal

pub returns-in_ok-with_more-in-Some : goal.returns-in_ok-with_more-in-Some
returns-in_ok-with_more-in-Some c =
    record {
      value = ap Some c.in_ok-with_more-in-Some.ensures
          ∙ grouped-some c.args.m.now c.args.shape.now (group_keys (keys_from (map key_of c.args.keys.now))) c.args.inner c.in-Some.columns (sym c.in-Some.is ∙ c.in_ok-columns.ensures) (sym c.may_stand.ensures ∙ c.if-may_stand.true);
    }

pub returns-else-may_stand : goal.returns-else-may_stand
returns-else-may_stand c =
    record { value = grouped-none c.args.m.now c.args.shape.now (group_keys (keys_from (map key_of c.args.keys.now))) c.args.inner c.in-Some.columns (sym c.in-Some.is ∙ c.in_ok-columns.ensures) (sym c.may_stand.ensures ∙ c.if-may_stand.false) }

pub returns-in-None : goal.returns-in-None
returns-in-None c =
    record { value = grouped-untyped c.args.m.now c.args.shape.now (group_keys (keys_from (map key_of c.args.keys.now))) c.args.inner (sym c.in-None.is ∙ c.in_ok-columns.ensures) }
