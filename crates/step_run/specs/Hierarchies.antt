-- Rows by their nodes in a hierarchy (Data Aggregation 4.0, section 6.2).
use Rattle.std.specs.Prelude.{ℕ, ◌≡◌, Bool, List, ◌++◌, Option, Some, None, IfSome, map}
use Rattle.std.specs.declared.result.Result as result
use Rattle.std.specs.Global.{Vec}
use Rattle.edm_values.specs.declared.refusals.Refused.{Refused}
use Rattle.edm_values.specs.Refusals.{Returns}
use Rattle.edm_values.specs.Names.{Path}
use Rattle.edm_data.specs.Worlds.{World}
use Rattle.apply_ast.specs.Trees.{HierName, TraverseStep}
use Rattle.context_typing.specs.Typing.{hierarchy_at}
use Rattle.apply_meaning.specs.Instances.{Instance, lookup, rows}
use Rattle.apply_meaning.specs.Meaning.{Outcome, climbed, order_values, refused_at_beyond, traversed}
use Rattle.row_frames.specs.Related.{placed}

-- what a climb gives of a list, from the nodes of other instances on
abbrev pub climb_from : World → Bool → HierName → Path → Option ℕ → Bool → List Instance → List Instance → Outcome
climb_from w up h p most keep l r = elim (hierarchy_at w.model h) [
  | None ↦ None
  | Some f ↦ refused_at_beyond (map (λ i. lookup w i p) (l ++ r)) (climbed w up f p most keep r l)
]

-- what a traversal gives of a list
abbrev pub traversal : World → TraverseStep → List Instance → Outcome
traversal w t l = elim (hierarchy_at w.model t.hier) [
  | None ↦ None
  | Some f ↦ refused_at_beyond (map (λ i. lookup w i t.path) l ++ order_values w t.items (rows w f.set)) (traversed w f t l)
]

-- entities of a set that were found, if they were, where the meaning is known: `Memory` says nothing
abbrev pub GivesEntities : result.Result (Option (Vec ℕ)) Refused → ℕ → Outcome → Type 0
GivesEntities r s m = Returns (λ (o : Option (Vec ℕ)). IfSome o (λ v. m ≡ Some (map (placed s) v.items))) (m ≡ None) r
