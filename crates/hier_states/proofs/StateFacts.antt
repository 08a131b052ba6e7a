-- What the states of all hierarchies say of those that are named.
use Rattle.std.proofs.Common.{◌≡◌, refl, sym, ◌∙◌, ap, subst, ℕ, ◌<◌, Bool, List, [], ◌∷◌, length, Option, Some, None, arith, inl, inr}
use Rattle.std.specs.Prelude.{option_map, option_and_then, slice_get, find, not, is_some, IfSome, IsTrue}
use Rattle.std.specs.List.{All}
use Rattle.std.proofs.lemmas.List.Elements.{All-nil, All-cons}
use Rattle.std.proofs.lemmas.List.{length-map}
use Rattle.edm_values.specs.Lists.{first_some, places}
use Rattle.edm_values.proofs.EachLemmas.{Each}
use Rattle.edm_values.proofs.OptionFacts.{chained, mapped, none_or, option_cases, some_value}
use Rattle.edm_values.proofs.SearchFacts.{chosen, find_map-member}
use Rattle.edm_values.proofs.TopPlaces.{length-places, places-below}
use Rattle.edm_model.specs.Models.{Model, Part}
use Rattle.edm_model.specs.LookUps.{HierarchyPlace, IsHierarchy, IsSet, set_of_type}
use Rattle.edm_model.specs.IdLists.{hierarchy_parts}
use Rattle.edm_model.specs.Soundness.{IsSound}
use Rattle.edm_data.specs.Worlds.{World, Entity, entity_at}
use Rattle.edm_data.specs.References.{count, entities_in}
use Rattle.edm_data.specs.Nodes.{parents_of, node_entity}
use Rattle.edm_data.specs.Hierarchies.{cycle_node, is_rooted}
use Rattle.apply_ast.specs.Trees.{HierName}
use Rattle.context_typing.specs.Typing.{hierarchy_at}
use Rattle.hier_index.specs.Parents.{hierarchy_parents}
use Rattle.hier_states.specs.States.{IsStateOf, AreStates, IsReadyAt, hierarchy_id, state_of, state_at, cycle_at, first_cycle}
use Rattle.hier_states.specs.declared.states.HierState.{HierState}
use Rattle.hier_states.specs.declared.states.HierState.TheVariants.{Ready, Cyclic}
use Rattle.hier_states.proofs.PartPlaces.{beside, part-place}
use Rattle.hier_states.proofs.NamedFacts.{named, placed-set, unnamed, same-parents}

-- each hierarchy has a state
pub state-there : (w : World) (states : List HierState) (id : Part) → AreStates w states → IsHierarchy w.model id → (s : HierState) × (state_of w.model states id ≡ Some s) × IsStateOf w id s
state-there w states id are there =
    let k = part-place w.model id there in
    let s = beside (IsStateOf w) k.0 (hierarchy_parts w.model) states id are k.2 in
    (s.0, ap (option_and_then (slice_get states)) k.1 ∙ s.1, s.2)

pub has-state : (w : World) (states : List HierState) (id : Part) → AreStates w states → IsHierarchy w.model id → IsTrue (is_some (state_of w.model states id))
has-state w states id are there = ap is_some (state-there w states id are there).1

-- it is the one that was found
pub state-is : (w : World) (states : List HierState) (id : Part) (s : HierState) → AreStates w states → IsHierarchy w.model id → state_of w.model states id ≡ Some s → IsStateOf w id s
state-is w states id s are there e =
    let r = state-there w states id are there in
    let P : HierState → Type 0 = IsStateOf w id in
    subst P (some_value (sym r.1 ∙ e)) r.2

-- ---- cycles

found-each : (P : ℕ → Type 0) (test : ℕ → Bool) (xs : List ℕ) → Each P xs → (x : ℕ) → find test xs ≡ Some x → P x
found-each P test [] a x e = none_or x e
found-each P test (y ∷ ys) a x e = elim (chosen (test y) y x (find test ys) e) [ inl h ↦ subst P h.1 a.0 | inr h ↦ found-each P test ys a.1 x h.1 ]

-- what a search finds among places is one of them
found-below : (test : ℕ → Bool) (n x : ℕ) → find test (places n) ≡ Some x → x < n
found-below test n x e = found-each (λ k. k < n) test (places n) (places-below n) x e

-- the node of a hierarchy that is named, by its id
pub cycle-named : (w : World) (h : HierName) (id : Part) → IsSound w.model → Some id ≡ hierarchy_id w.model h → cycle_at w h ≡ option_map (entity_at (set_of_type w.model id.of)) (cycle_node (hierarchy_parents w id))
cycle-named w h id sound e =
    let f = named w.model h id sound (sym e) in
    let ps = same-parents w h id f in
    ap (option_and_then (λ f. option_map (node_entity f) (cycle_node (parents_of w f)))) f.at
    ∙ (λ i. option_map (entity_at (sym f.set i)) (cycle_node (sym ps i)))

-- a name that the model does not have names no cycle
pub cycle-unnamed : (w : World) (h : HierName) → None ≡ hierarchy_id w.model h → None ≡ cycle_at w h
cycle-unnamed w h e = sym (ap (option_and_then (λ f. option_map (node_entity f) (cycle_node (parents_of w f)))) (unnamed w.model h (sym e)))

-- the node of a cycle is an entity of the model's set
cycle-there : (w : World) (hs : List HierName) (e : Entity) → first_cycle w hs ≡ Some e → IsSet w.model e.set × (e.at < count w e.set)
cycle-there w hs e is =
    let h = find_map-member (cycle_at w) hs e is in
    let f = chained (λ f. option_map (node_entity f) (cycle_node (parents_of w f))) (hierarchy_at w.model h.0) e h.2 in
    let x = mapped (node_entity f.0) (cycle_node (parents_of w f.0)) e f.2 in
    let set : (f.0).set ≡ e.set = ap (λ e. e.set) x.2 in
    let at : x.0 ≡ e.at = ap (λ e. e.at) x.2 in
    let ps = parents_of w f.0 in
    let below = found-below (λ y. not (is_rooted ps y)) (length ps) x.0 x.1 in
    let long : length ps ≡ count w (f.0).set = length-map (entities_in w (f.0).set) _ ∙ length-map (places (count w (f.0).set)) (entity_at (f.0).set) ∙ length-places (count w (f.0).set) in
    let P : ℕ → Type 0 = λ s. IsSet w.model s × (e.at < count w s) in
    subst P set (placed-set w.model h.0 f.0 f.1, omega arith)

pub cycles-there : (w : World) (hs : List HierName) (o : Option Entity) → o ≡ first_cycle w hs → IfSome o (λ e. IsSet w.model e.set × (e.at < count w e.set))
cycles-there w hs None is = tt
cycles-there w hs (Some e) is = cycle-there w hs e (sym is)

-- ---- no cycle among those that are named

ready-at : (w : World) (states : List HierState) (h : HierName) → IsSound w.model → AreStates w states → cycle_at w h ≡ None → IsReadyAt w states h
ready-at w states h sound are none f at = elim (option_cases (hierarchy_id w.model h)) [
  | inl n ↦ none_or f (sym (unnamed w.model h n) ∙ at)
  | inr x ↦ by-id x.0 x.1
]
  where
    by-id : (id : Part) → hierarchy_id w.model h ≡ Some id → state_at w.model states h ≡ Some (Ready (parents_of w f))
    by-id id e =
        let g = named w.model h id sound e in
        let same : g.place ≡ f = some_value (sym g.at ∙ at) in
        let s = state-there w states id are g.there in
        ap (option_and_then (state_of w.model states)) e ∙ s.1 ∙ ready s.0 s.2 (same-parents w h id g ∙ ap (parents_of w) same)
      where
        ready : (s : HierState) → IsStateOf w id s → hierarchy_parents w id ≡ parents_of w f → Some s ≡ Some (Ready (parents_of w f))
        ready (Ready ps) is same = ap (λ ps. Some (Ready ps)) (is.0 ∙ same)
        ready (Cyclic x) is same = none_or _ (sym none ∙ cycle-named w h id sound (sym e) ∙ ap (option_map (entity_at (set_of_type w.model id.of))) is)

pub all-ready : (w : World) (states : List HierState) (hs : List HierName) → IsSound w.model → AreStates w states → first_cycle w hs ≡ None → All (IsReadyAt w states) hs
all-ready w states [] sound are none = All-nil (IsReadyAt w states)
all-ready w states (h ∷ hs) sound are none =
    let both = neither (cycle_at w h) (first_cycle w hs) none in
    All-cons (IsReadyAt w states) h hs (ready-at w states h sound are both.0) (all-ready w states hs sound are both.1)
  where
    neither : (a b : Option Entity) → first_some a b ≡ None → (a ≡ None) × (b ≡ None)
    neither None b e = (refl, e)
    neither (Some x) b e = none_or x (sym e)

-- ---- what a pipeline takes of a hierarchy

-- the state of a hierarchy that is ready, by its id
pub state-named : (w : World) (states : List HierState) (h : HierName) (id : Part) (f : HierarchyPlace) → Some id ≡ hierarchy_id w.model h → IsReadyAt w states h → hierarchy_at w.model h ≡ Some f → state_of w.model states id ≡ Some (Ready (parents_of w f))
state-named w states h id f e ready at = ap (option_and_then (state_of w.model states)) e ∙ ready f at

pub is-ready : (x : ℕ) (ps : List (Option ℕ)) → Cyclic x ≡ Ready ps → ⊥
is-ready x ps e = cc

pub ready-parents : (ps qs : List (Option ℕ)) → Ready ps ≡ Ready qs → ps ≡ qs
ready-parents ps qs e = cc

-- the set of its nodes
pub nodes-set : (m : Model) (h : HierName) (id : Part) (f : HierarchyPlace) → IsSound m → Some id ≡ hierarchy_id m h → hierarchy_at m h ≡ Some f → set_of_type m id.of ≡ f.set
nodes-set m h id f sound e at = let g = named m h id sound (sym e) in g.set ∙ ap (λ f. f.set) (some_value (sym g.at ∙ at))
