use Rattle.std.proofs.Common.{◌≡◌, map, sym, ◌∙◌, ap, arith}
use Rattle.std.proofs.lemmas.Grind.{common_steps}
use Rattle.std.proofs.lemmas.Simd.{map-map}
use Rattle.edm_model.specs.ModelFile.{set_of}
use Rattle.edm_schema.specs.MemberLists.{member_seen, root_of}
use Rattle.edm_schema.specs.declared.members.Member.{Member}
use Rattle.edm_model.proofs.build.sets_of.Goals as goal

pub returns : goal.returns
returns c =
    let items = c.args.schema.now.sets.items in
    let whole : c.loop-member.sets.items ≡ map (λ (m : Member). set_of (root_of c.args.schema.now) (member_seen m)) items = grind (arith, common_steps) in
    whole ∙ (sym (map-map (set_of (root_of c.args.schema.now)) member_seen items) ∙ ap (map (set_of (root_of c.args.schema.now))) c.requires.sets)
