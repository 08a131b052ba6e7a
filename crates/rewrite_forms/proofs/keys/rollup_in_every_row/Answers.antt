use Rattle.std.proofs.Common.{sym, ◌∙◌, ap, map}
use Rattle.std.specs.Prelude.{option_map}
use Rattle.apply_ast.specs.Views.{key_of}
use Rattle.rewrite_laws.specs.Rewrites.{rollup_keys_in_every_row}
use Rattle.rewrite_forms.specs.GroupForms.{part_of}
use Rattle.rewrite_forms.proofs.KeyForms.{part-first}
use Rattle.rewrite_forms.proofs.keys.rollup_in_every_row.Goals as goal

pub returns-in-Some : goal.returns-in-Some
returns-in-Some c =
    c.first_level.ensures ∙ ap (λ o. rollup_keys_in_every_row (part_of o)) (sym (ap (option_map (λ k. key_of k.now)) c.in-Some.is) ∙ c.first_rollup.ensures.value)
    ∙ ap rollup_keys_in_every_row (sym (part-first (map key_of c.args.keys.now)))

pub returns-in-None : goal.returns-in-None
returns-in-None c =
    ap (λ o. rollup_keys_in_every_row (part_of o)) (sym (ap (option_map (λ k. key_of k.now)) c.in-None.is) ∙ c.first_rollup.ensures.value)
    ∙ ap rollup_keys_in_every_row (sym (part-first (map key_of c.args.keys.now)))
