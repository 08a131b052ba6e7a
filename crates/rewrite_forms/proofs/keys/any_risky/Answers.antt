use Rattle.std.proofs.Common.{sym, ◌∙◌, ap, false, true, map}
use Rattle.std.specs.Prelude.{option_map}
use Rattle.std.specs.List.{list_any}
use Rattle.apply_ast.specs.Views.{key_of}
use Rattle.context_typing.specs.Typing.{is_risky, rollup_paths}
use Rattle.rewrite_forms.specs.GroupForms.{part_of}
use Rattle.rewrite_forms.proofs.KeyForms.{plain-risky, risky-keys}
use Rattle.rewrite_forms.proofs.keys.any_risky.Goals as goal

pub returns-then-any_plain_risky : goal.returns-then-any_plain_risky
returns-then-any_plain_risky c =
    let S = c.args.shape.now in
    let keys = c.args.keys.now in
    record { value = risky-keys S (map key_of keys) true (sym c.if-any_plain_risky.true ∙ c.any_plain_risky.ensures ∙ plain-risky S key_of keys) }

pub returns-in-Some : goal.returns-in-Some
returns-in-Some c =
    let S = c.args.shape.now in
    let keys = c.args.keys.now in
    record {
      value = c.is_rollup_risky.ensures
          ∙ ap (λ o. list_any (is_risky S) (rollup_paths (part_of o))) (sym (ap (option_map (λ k. key_of k.now)) c.in-Some.is) ∙ c.first_rollup.ensures.value)
          ∙ risky-keys S (map key_of keys) false (sym c.if-any_plain_risky.false ∙ c.any_plain_risky.ensures ∙ plain-risky S key_of keys);
    }

pub returns-in-None : goal.returns-in-None
returns-in-None c =
    let S = c.args.shape.now in
    let keys = c.args.keys.now in
    record {
      value = ap (λ o. list_any (is_risky S) (rollup_paths (part_of o))) (sym (ap (option_map (λ k. key_of k.now)) c.in-None.is) ∙ c.first_rollup.ensures.value)
          ∙ risky-keys S (map key_of keys) false (sym c.if-any_plain_risky.false ∙ c.any_plain_risky.ensures ∙ plain-risky S key_of keys);
    }
