use Rattle.std.proofs.Common.{◌≡◌, true, sym, ◌∙◌, ap}
use Rattle.serde_json.specs.View.{view}
use Rattle.edm_schema.specs.JsonTrees.{is_text}
use Rattle.edm_schema.specs.ModelTrees.{key_name, property_kind, are_of_one_kind}
use Rattle.edm_schema.specs.MemberLists.{tree_of}
use Rattle.edm_schema.proofs.links.is_constraint.Goals as goal

pub returns-then-is_text : goal.returns-then-is_text
returns-then-is_text c =
    let target = tree_of c.args.target.now in
    let key = c.requires.target.key in
    let text : is_text (key_name target) (view c.args.constraint.value.now) ≡ true = ap (λ k. is_text k (view c.args.constraint.value.now)) (sym key) ∙ (sym c.is_text.ensures.value ∙ c.if-is_text.true) in
    let to = c.property_kind-to.ensures.value ∙ ap (property_kind target) key in
    rw text (c.are_of_one_kind.ensures.value ∙ (ap (λ a. are_of_one_kind a c.property_kind-to.result) c.property_kind-from.ensures.value ∙ ap (are_of_one_kind (property_kind (tree_of c.args.entity_type.now) c.args.constraint.name.now)) to))
