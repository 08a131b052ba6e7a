use Rattle.std.proofs.Common.{length, sym, ◌∙◌, ap, subst, arith}
use Rattle.serde_json.specs.View.{view}
use Rattle.edm_schema.specs.MemberLists.{root_of, tree_of, type_seen, IsTypeTree}
use Rattle.edm_schema.proofs.Mapped.{length-mapped}
use Rattle.edm_schema.proofs.SchemaParts.{tree_at, leads_nowhere, leads_to_one, leads_to_many}
use Rattle.edm_schema.proofs.links.is_navigable.Goals as goal

pub is_constrained-requires : goal.is_constrained-requires
is_constrained-requires c =
    let s = c.args.schema.now in
    let size = sym (length-mapped type_seen s.types.items) ∙ ap length c.requires.schema.types in
    record {
      entity_type = c.requires.entity_type;
      target = subst IsTypeTree (sym c.index-target.ensures) (c.requires.schema.each c.in-Some.place c.index-target.result.now (omega (arith, size, c.in-Some.ensures.there)));
    }

pub has_partner-requires : goal.has_partner-requires
has_partner-requires c =
    let s = c.args.schema.now in
    let size = sym (length-mapped type_seen s.types.items) ∙ ap length c.requires.schema.types in
    record {
      schema = c.requires.schema;
      target = subst IsTypeTree (sym c.index-target.ensures) (c.requires.schema.each c.in-Some.place c.index-target.result.now (omega (arith, size, c.in-Some.ensures.there)));
    }

pub returns-in-None : goal.returns-in-None
returns-in-None c = leads_nowhere (root_of c.args.schema.now) (tree_of c.args.entity_type.now) (view c.args.navigation.now) c.args.k c.in-None.ensures.value

pub returns-then-lacks : goal.returns-then-lacks
returns-then-lacks c =
    let s = c.args.schema.now in
    let target = c.index-target.result.now in
    let size = sym (length-mapped type_seen s.types.items) ∙ ap length c.requires.schema.types in
    let here = tree_at s c.requires.schema c.in-Some.place target c.index-target.ensures (omega (arith, size, c.in-Some.ensures.there)) in
    c.is_constrained.ensures ∙ leads_to_one (root_of s) (tree_of c.args.entity_type.now) (view c.args.navigation.now) (tree_of target) c.args.k c.in-Some.place c.in-Some.ensures.value here c.if-lacks.ensures.value

pub returns-else-lacks : goal.returns-else-lacks
returns-else-lacks c =
    let s = c.args.schema.now in
    let target = c.index-target.result.now in
    let size = sym (length-mapped type_seen s.types.items) ∙ ap length c.requires.schema.types in
    let here = tree_at s c.requires.schema c.in-Some.place target c.index-target.ensures (omega (arith, size, c.in-Some.ensures.there)) in
    c.has_partner.ensures ∙ leads_to_many (root_of s) (tree_of c.args.entity_type.now) (view c.args.navigation.now) (tree_of target) c.args.k c.in-Some.place c.in-Some.ensures.value here c.if-lacks.ensures.value
