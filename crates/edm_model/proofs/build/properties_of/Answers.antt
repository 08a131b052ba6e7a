use Rattle.std.proofs.Common.{◌≡◌, map, sym, ◌∙◌, ap, arith}
use Rattle.std.proofs.lemmas.Grind.{common_steps}
use Rattle.std.proofs.lemmas.Simd.{map-map}
use Rattle.edm_model.specs.ModelFile.{property_of}
use Rattle.edm_schema.specs.MemberLists.{member_seen}
use Rattle.edm_schema.specs.declared.members.Member.{Member}
use Rattle.edm_model.proofs.build.properties_of.Goals as goal

pub returns : goal.returns
returns c =
    let items = c.args.t.now.properties.items in
    let whole : c.loop-member.properties.items ≡ map (λ (m : Member). property_of (member_seen m)) items = grind (arith, common_steps) in
    whole ∙ (sym (map-map (property_of) member_seen items) ∙ ap (map property_of) c.requires.properties)
