-- What a climb and a traversal give is the instances at places.
use Rattle.std.proofs.Common.{◌≡◌, ℕ, ◌<◌, refl, ◌∙◌, ap, Bool, true, List, [], ◌∷◌, ◌++◌, Option, Some, None, map, IsTrue, arith}
use Rattle.std.specs.Prelude.{IfOk, IfSome, filter, is_some, nat_lt, option_map, slice_get, if◌then◌else◌}
use Rattle.std.specs.Global.{Vec}
use Rattle.std.specs.List.{All, cons_option, list_all}
use Rattle.std.proofs.lemmas.List.Elements.{All-head, All-tail}
use Rattle.std.proofs.lemmas.Option.{slice_get-get_or, slice_get-map}
use Rattle.std.specs.declared.result.Result as result
use Rattle.std.specs.declared.result.Result.TheVariants.{Ok, Err}
use Rattle.edm_values.proofs.ListFacts.{all-filter}
use Rattle.edm_values.proofs.PlaceFacts.{places-within}
use Rattle.edm_values.proofs.TopPlaces.{length-places}
use Rattle.edm_values.specs.declared.refusals.Refused.{Refused}
use Rattle.edm_values.specs.declared.refusals.Refused.TheVariants.{Range, Memory}
use Rattle.edm_values.specs.Lists.{at_places, is_nonempty, places}
use Rattle.edm_values.specs.Names.{Path}
use Rattle.edm_model.specs.LookUps.{HierarchyPlace}
use Rattle.edm_data.specs.References.{count}
use Rattle.edm_data.proofs.PlaceLemmas.{get_or-places}
use Rattle.edm_data.specs.Worlds.{World}
use Rattle.apply_ast.specs.Trees.{HierName, TraverseStep}
use Rattle.context_typing.specs.Typing.{hierarchy_at}
use Rattle.apply_meaning.specs.Instances.{Instance, lookup, rows}
use Rattle.apply_meaning.specs.Meaning.{Outcome, climbed, order_values, refused_at_beyond, traversed}
use Rattle.apply_meaning.specs.Running.{Gives}
use Rattle.hier_rows.proofs.ClimbLaws.{climb-mean}
use Rattle.hier_rows.proofs.TraversalLaws.{traverse-mean}
use Rattle.row_frames.specs.Related.{placed}
use Rattle.hier_rows.specs.HierRows.{GivesPlaces, climb_outcome, traverse_outcome}
use Rattle.row_orders.specs.Places.{GivesOrder}
use Rattle.row_orders.specs.Ranks.{GivesNumbers}
use Rattle.step_run.specs.Costs.{walk_cost}
use Rattle.step_run.specs.Hierarchies.{GivesEntities, climb_from, traversal}

-- what is there
pub found : {X : Type 0} (o : Option X) → is_some o ≡ true → (x : X) × (o ≡ Some x)
found None h = cc
found (Some x) h = (x, refl)

pub climb-out : (w : World) (up : Bool) (h : HierName) (p : Path) (d : Option ℕ) (keep : Bool) (l r : List Instance) (f : HierarchyPlace) → hierarchy_at w.model h ≡ Some f
    → climb_from w up h p d keep l r ≡ option_map (at_places l) (climb_outcome w up f p d keep r l)
climb-out w up h p d keep l r f at =
    ap (λ o. elim o [ None ↦ None | Some f ↦ refused_at_beyond (map (λ i. lookup w i p) (l ++ r)) (climbed w up f p d keep r l) ]) at ∙ climb-mean w up f p d keep r l

pub traverse-out : (w : World) (t : TraverseStep) (l : List Instance) (f : HierarchyPlace) → hierarchy_at w.model t.hier ≡ Some f → traversal w t l ≡ option_map (at_places l) (traverse_outcome w f t l)
traverse-out w t l f at =
    ap (λ o. elim o [ None ↦ None | Some f ↦ refused_at_beyond (map (λ i. lookup w i t.path) l ++ order_values w t.items (rows w f.set)) (traversed w f t l) ]) at ∙ traverse-mean w f t l

-- what a walk counts beside its result, where its hierarchy is in the model
pub walk-is : (w : World) (t : TraverseStep) (f : HierarchyPlace) → hierarchy_at w.model t.hier ≡ Some f → walk_cost w t ≡ (if is_nonempty t.items then count w f.set else 0)
walk-is w t f at = ap (λ o. if is_nonempty t.items then elim o [ None ↦ 0 | Some f ↦ count w f.set ] else 0) at

-- the instances at the places of an outcome
pub numbers-order : (r : result.Result (Vec ℕ) Refused) (l : List Instance) (m : Option (List ℕ)) (o : Outcome) → GivesNumbers r m → o ≡ option_map (at_places l) m → GivesOrder r l o
numbers-order (Ok v) l m o h e = e ∙ ap (option_map (at_places l)) h
numbers-order (Err Range) l m o h e = e ∙ ap (option_map (at_places l)) h
numbers-order (Err Memory) l m o h e = tt

-- ascending places are those of instances
pub ascending-within : (r : result.Result (Vec ℕ) Refused) (n : ℕ) → IfOk r (λ v. (q : ℕ → Bool) × (v.items ≡ filter q (places n))) → IfOk r (λ v. IsTrue (list_all (λ k. nat_lt k n) v.items))
ascending-within (Ok v) n h = ap (list_all (λ k. nat_lt k n)) h.1 ∙ all-filter (λ k. nat_lt k n) h.0 (places n) (places-within n n (omega arith))
ascending-within (Err e) n h = tt

-- the rows at places, where what stands there is known
pub order-err : (e : Refused) (l : List Instance) (o : Outcome) → GivesOrder (Err e) l o → Gives (Err e) o
order-err Range l o h = h
order-err Memory l o h = tt

-- the entities of a set at the places of an outcome
place-there : (n k : ℕ) → k < n → slice_get (places n) k ≡ Some k
place-there n k h = let size = length-places n in slice_get-get_or (places n) k 0 (omega (arith, h, size)) ∙ ap Some (get_or-places n k 0 h)

placed-places : (s n : ℕ) (ks : List ℕ) → All (λ k. k < n) ks → at_places (map (placed s) (places n)) ks ≡ map (placed s) ks
placed-places s n [] a = refl
placed-places s n (k ∷ ks) a =
    let here : k < n = All-head (λ k. k < n) k ks a in
    let one : slice_get (map (placed s) (places n)) k ≡ Some (placed s k) = slice_get-map (placed s) (places n) k ∙ ap (option_map (placed s)) (place-there n k here) in
    λ i. cons_option (one i) (placed-places s n ks (All-tail (λ k. k < n) k ks a) i)

pub entities-order : (r : result.Result (Option (Vec ℕ)) Refused) (s n : ℕ) (m : Option (List ℕ)) (o : Outcome) → GivesPlaces r m → IfOk r (λ x. IfSome x (λ v. All (λ k. k < n) v.items)) → o ≡ option_map (at_places (map (placed s) (places n))) m
    → GivesEntities r s o
entities-order (Ok None) s n m o h a e = tt
entities-order (Ok (Some v)) s n m o h a e = e ∙ ap (option_map (at_places (map (placed s) (places n)))) h ∙ ap Some (placed-places s n v.items a)
entities-order (Err Range) s n m o h a e = e ∙ ap (option_map (at_places (map (placed s) (places n)))) h
entities-order (Err Memory) s n m o h a e = tt
