-- A member that is left is one of the object's, and one that is passed has one of the names or is not read.
use Rattle.std.proofs.Common.{◌≡◌, true, ap, subst, arith, rules, List, map}
use Rattle.std.specs.Prelude.{◌||◌}
use Rattle.std.specs.List.{list_all, list_any}
use Rattle.std.proofs.lemmas.Bool.{or_right}
use Rattle.std.proofs.lemmas.Grind.{common_steps}
use Rattle.serde_json.specs.View.{view, members_view}
use Rattle.edm_values.specs.Lists.{same_text, is_one_of}
use Rattle.edm_schema.specs.ModelTrees.{is_unread}
use Rattle.edm_schema.specs.JsonTrees.{Member, member_list, members_in}
use Rattle.model_diagnosis.proofs.others.other_member.Goals as goal

pub loop-name-init : goal.loop-name-init
loop-name-init c =
    let all : member_list (members_view c.into_iter-name-iterator.result) ≡ members_in (view c.args.value.now) = search rules in
    record {
      rest = ap (list_all (λ (m : Member). is_unread m.0 || is_one_of (map (λ n. n.now) c.args.names.now) m.0)) all;
      among = λ name h. subst (λ (ms : List Member). list_any (λ m. same_text m.0 name) ms ≡ true) all h;
    }

pub loop-name-preserved : goal.loop-name-preserved
loop-name-preserved c = record {
  rest = grind (arith, common_steps);
  among = λ name h.
      let more : list_any (λ (m : Member). same_text m.0 name) (member_list (members_view c.loop-name.name-iterator)) ≡ true = rw c.in-Some.ensures.steps (or_right _ _ h) in
      c.loop-name.invariant.among name more;
}
