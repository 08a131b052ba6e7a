use Rattle.std.proofs.Common.{sym, ◌∙◌, ap, map}
use Rattle.std.specs.Prelude.{option_map}
use Rattle.apply_ast.specs.Views.{key_of}
use Rattle.rewrite_rules.specs.GroupForms.{is_of}
use Rattle.rewrite_forms.specs.GroupForms.{part_of}
use Rattle.rewrite_forms.proofs.KeyForms.{part-first}
use Rattle.rewrite_rules.proofs.groups.has_part.Goals as goal

pub returns-in-Some : goal.returns-in-Some
returns-in-Some c =
    c.is_of.ensures ∙ ap (λ o. is_of c.args.kind (part_of o)) (sym (ap (option_map (λ k. key_of k.now)) c.in-Some.is) ∙ c.first_rollup.ensures.value)
    ∙ ap (is_of c.args.kind) (sym (part-first (map key_of c.args.keys.now)))

pub returns-in-None : goal.returns-in-None
returns-in-None c =
    c.is_plain.ensures ∙ ap (λ o. is_of c.args.kind (part_of o)) (sym (ap (option_map (λ k. key_of k.now)) c.in-None.is) ∙ c.first_rollup.ensures.value)
    ∙ ap (is_of c.args.kind) (sym (part-first (map key_of c.args.keys.now)))
