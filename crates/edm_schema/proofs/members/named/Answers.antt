use Rattle.std.proofs.Common.{Some, ◌∙◌, sym, ap}
use Rattle.serde_json.specs.View.{view}
use Rattle.edm_schema.proofs.MemberNames.{named_there, named_nowhere}
use Rattle.edm_schema.proofs.members.named.Goals as goal

pub returns-in-Some : goal.returns-in-Some
returns-in-Some c =
    record {
      value = let item = c.index-members-place in
          ap (λ m. Some (view m.value.now)) item.is ∙ sym (named_there c.args.members.now c.args.name.now c.in-Some.place item.result c.in-Some.ensures.value c.in-Some.ensures.there);
    }

pub returns-in-None : goal.returns-in-None
returns-in-None c = record { value = sym (named_nowhere c.args.members.now c.args.name.now c.in-None.ensures.value) }
