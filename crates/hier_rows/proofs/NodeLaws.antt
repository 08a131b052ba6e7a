-- The nodes of instances are entities of the set, and what calls over them return.
use Rattle.std.proofs.Common.{◌≡◌, ℕ, ◌<◌, refl, sym, ◌∙◌, ap, true, false, not, List, length, map, get_or, Option, Some, None, IfSome, arith}
use Rattle.std.specs.Prelude.{option_map, position}
use Rattle.std.specs.Bool.{then_some}
use Rattle.std.specs.List.{list_any}
use Rattle.std.proofs.lemmas.List.{length-map}
use Rattle.std.proofs.lemmas.List.Elements.{All-map}
use Rattle.std.proofs.lemmas.List.Quantifiers.{position-Some}
use Rattle.edm_values.specs.declared.Value.{Value}
use Rattle.edm_values.specs.Lists.{places}
use Rattle.edm_values.specs.Names.{Path}
use Rattle.edm_values.specs.Values.{is_beyond, same_value, value_in}
use Rattle.edm_values.proofs.TopPlaces.{length-places}
use Rattle.edm_model.specs.LookUps.{HierarchyPlace, IsSet, key_at, set_type}
use Rattle.edm_data.specs.References.{count, entities_in, entities_of, follow, keys_of}
use Rattle.edm_data.specs.Worlds.{World, entity_at}
use Rattle.context_typing.specs.Shapes.{set_shape}
use Rattle.apply_meaning.proofs.LoadedWorlds.{set-here}
use Rattle.apply_meaning.proofs.NodeLemmas.{rows_fit}
use Rattle.apply_meaning.proofs.RunLemmas.{all-fit-of}
use Rattle.apply_meaning.specs.Instances.{Instance, lookup, rows}
use Rattle.apply_meaning.specs.Meaning.{node, refused_at_beyond}
use Rattle.apply_meaning.specs.Running.{all_of}
use Rattle.hier_rows.specs.HierRows.{AreOptionsBelow, IsNodesOf, node_in}

-- ---- nodes

-- the node of an instance is an entity of the set
pub node-within : (w : World) (s : ℕ) (p : Path) (i : Instance) → IfSome (node_in w s p i) (λ x. x < count w s)
node-within w s p i = go (position (same_value (lookup w i p)) (keys_of w s)) refl
  where
    go : (o : Option ℕ) → position (same_value (lookup w i p)) (keys_of w s) ≡ o → IfSome (option_map (λ e. e.at) (option_map (entity_at s) o)) (λ x. x < count w s)
    go None e = tt
    go (Some k) e =
        let r = position-Some (same_value (lookup w i p)) (keys_of w s) k Value.Null e in
        let below = r.0 in
        omega (arith, below, length-map (entities_of w s) (λ vs. value_in vs (key_at w.model s)))

-- and so are those of all instances
pub nodes-within : (w : World) (s : ℕ) (p : Path) (l : List Instance) → AreOptionsBelow (count w s) (map (node_in w s p) l)
nodes-within w s p l = All-map (λ n. IfSome n (λ x. x < count w s)) (node_in w s p) l (λ k d h. node-within w s p (get_or l k d))

-- the nodes are as many as the entities of the set
pub nodes-count : (w : World) (f : HierarchyPlace) (s : ℕ) (parents : List (Option ℕ)) → IsNodesOf w f s parents → length parents ≡ count w s
nodes-count w f s parents N =
    ap length N.1
    ∙ length-map (entities_in w f.set) (λ e. option_map (λ p. p.at) (follow w e f.hierarchy.parent)) ∙ length-map (places (count w f.set)) (entity_at f.set) ∙ length-places (count w f.set)
    ∙ ap (count w) (sym N.0)

-- the instances of a set are of the world
pub rows-of : (w : World) (s : ℕ) → IsSet w.model s → all_of w (rows w s) ≡ true
rows-of w s h = all-fit-of w (set_shape (set_type w.model s)) (rows w s) (rows_fit w s (set_type w.model s) (set-here w.model s h))

-- the nodes among the entities of a hierarchy's set are those of the hierarchy
pub nodes-are : (w : World) (f : HierarchyPlace) (s : ℕ) (p : Path) (l : List Instance) → s ≡ f.set → map (node_in w s p) l ≡ map (node w f p) l
nodes-are w f s p l e = ap (λ s. map (node_in w s p) l) e

-- ---- refusals

-- where no value is Beyond nothing is refused
pub not-refused : {A : Type 0} (vs : List Value) (x : A) → list_any is_beyond vs ≡ false → refused_at_beyond vs x ≡ Some x
not-refused vs x h = ap (λ b. then_some (not b) x) h
