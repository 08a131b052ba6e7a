use Rattle.std.proofs.Common.{◌≡◌, map}
use Rattle.std.specs.Prelude.{◌||◌}
use Rattle.std.specs.List.{list_all}
use Rattle.serde_json.specs.View.{view, members_view}
use Rattle.edm_values.specs.Lists.{is_one_of}
use Rattle.edm_schema.specs.JsonTrees.{member_list, members_in}
use Rattle.edm_schema.specs.ModelTrees.{is_unread}
use Rattle.edm_schema.proofs.tree.is_object_of.Given as goal

abbrev pub invariant-loop-name : goal.invariant-loop-name
invariant-loop-name l =
    list_all (λ m. is_unread m.0 || is_one_of (map (λ n. n.now) l.names) m.0) (member_list (members_view l.name-iterator)) ≡ list_all (λ m. is_unread m.0 || is_one_of (map (λ n. n.now) l.names) m.0) (members_in (view l.value))
