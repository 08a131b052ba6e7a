use Rattle.std.proofs.Common.{◌≡◌, true, false, sym, ap, ◌∙◌, string_bytes}
use Rattle.std.specs.Option.{is_some}
use Rattle.std.specs.List.{list_any}
use Rattle.std.proofs.lemmas.Bool.{or_right}
use Rattle.edm_values.specs.Lists.{same_text}
use Rattle.edm_model.specs.LookUps.{found_part, property_named, properties_of}
use Rattle.edm_model.specs.ModelTrees.{is_annotation}
use Rattle.edm_data.proofs.EntityLemmas.{prop_is_named}
use Rattle.edm_data.proofs.RelationLemmas.{or_none}
use Rattle.edm_data.proofs.entities.is_known_member.Goals as goal

pub returns-then-is_some : goal.returns-then-is_some
returns-then-is_some c =
    record {
      value = let bytes = string_bytes c.args.name.now in
          let named : list_any (λ p. same_text p.name bytes) (properties_of c.args.model.now c.args.t) ≡ true = sym (c.is_some.ensures ∙ ap is_some c.prop_named.ensures.value ∙ ap (λ n. is_some (found_part c.args.t (property_named c.args.model.now c.args.t n))) c.as_str.ensures.value ∙ prop_is_named c.args.model.now c.args.t bytes) ∙ c.if-is_some.true in
          c.if-is_some.true ∙ sym (or_right (is_annotation bytes) (list_any (λ p. same_text p.name bytes) (properties_of c.args.model.now c.args.t)) named);
    }

pub returns-else-is_some : goal.returns-else-is_some
returns-else-is_some c =
    record {
      value = let bytes = string_bytes c.args.name.now in
          let named : list_any (λ p. same_text p.name bytes) (properties_of c.args.model.now c.args.t) ≡ false = sym (c.is_some.ensures ∙ ap is_some c.prop_named.ensures.value ∙ ap (λ n. is_some (found_part c.args.t (property_named c.args.model.now c.args.t n))) c.as_str.ensures.value ∙ prop_is_named c.args.model.now c.args.t bytes) ∙ c.if-is_some.false in
          c.is_annotation.ensures.value ∙ ap is_annotation c.as_str-else-is_some.ensures.value ∙ sym (or_none (is_annotation bytes) (list_any (λ p. same_text p.name bytes) (properties_of c.args.model.now c.args.t)) named);
    }
