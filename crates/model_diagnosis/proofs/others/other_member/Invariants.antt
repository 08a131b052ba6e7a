-- The members that are left pass as all do, and are among all.
use Rattle.std.proofs.Common.{◌≡◌, ℕ, true, List, map}
use Rattle.std.specs.List.{list_any, list_all}
use Rattle.std.specs.Prelude.{◌||◌}
use Rattle.serde_json.specs.View.{view, members_view}
use Rattle.edm_values.specs.Lists.{same_text, is_one_of}
use Rattle.edm_schema.specs.JsonTrees.{member_list, members_in}
use Rattle.edm_schema.specs.ModelTrees.{is_unread}
use Rattle.model_diagnosis.specs.Searched.{has_only}
use Rattle.model_diagnosis.proofs.others.other_member.Given as goal

abbrev pub invariant-loop-name : goal.invariant-loop-name
invariant-loop-name l = record {
  rest : list_all (λ m. is_unread m.0 || is_one_of (map (λ n. n.now) l.names) m.0) (member_list (members_view l.name-iterator)) ≡ has_only (map (λ n. n.now) l.names) (view l.value);
  among : (name : List ℕ) → list_any (λ m. same_text m.0 name) (member_list (members_view l.name-iterator)) ≡ true → list_any (λ m. same_text m.0 name) (members_in (view l.value)) ≡ true;
}
