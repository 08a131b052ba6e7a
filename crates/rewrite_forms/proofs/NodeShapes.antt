-- The nodes that a recursive rollup shows.
use Rattle.std.proofs.Common.{◌≡◌, ℕ, sym, ◌∙◌, ap, Bool, true, false, List, [], ◌∷◌, Option, Some, None, find}
use Rattle.std.specs.Prelude.{option_map, option_and_then, is_some, slice_get, unwrap_or, if◌then◌else◌}
use Rattle.edm_values.specs.declared.EdmType.{EdmType}
use Rattle.edm_values.specs.Lists.{same_text}
use Rattle.edm_values.specs.Names.{Name, is_name}
use Rattle.edm_values.proofs.OptionFacts.{chained, is_some-option_map, mapped, some_value, some_there, unmapped}
use Rattle.edm_model.specs.LookUps.{HierarchyPlace, key_of, placed, property_at, set_named, set_type, type_at, type_of_set}
use Rattle.edm_model.specs.Models.{Model, Part}
use Rattle.edm_model.specs.Soundness.{IsSound}
use Rattle.apply_ast.specs.Trees.{HierName, OptPipe, Pipe, Step, is_long, pipe}
use Rattle.context_typing.specs.Shapes.{Shape, set_shape}
use Rattle.context_typing.specs.Steps.{nodes_at}
use Rattle.context_typing.specs.Typing.{Customs, hierarchy_at, inner_shape, step_shape, steps_shape}
use Rattle.context_typing.proofs.TypingEquations.{inner_shape-SomePipe, steps_shape-End, steps_shape-Then}
use Rattle.rewrite_forms.specs.GroupForms.{chosen_nodes}
use Rattle.rewrite_forms.specs.StepShapes.{shape_behind}

-- ---- the key of a hierarchy's nodes

-- it is that of their type
pub place-key : (m : Model) (h : HierName) (f : HierarchyPlace) → hierarchy_at m h ≡ Some f → property_at m (key_of m f.type) ≡ Some f.key
place-key m h f e =
    let a = chained (λ s. option_and_then (λ t. option_and_then (placed m s) (find (λ x. same_text x.qualifier h.qualifier) t.hierarchies)) (type_of_set m s)) (set_named m h.set) f e in
    let b = chained (λ t. option_and_then (placed m a.0) (find (λ x. same_text x.qualifier h.qualifier) t.hierarchies)) (type_of_set m a.0) f a.2 in
    let d = chained (placed m a.0) (find (λ x. same_text x.qualifier h.qualifier) (b.0).hierarchies) f b.2 in
    let g = chained (λ t. option_map {U = HierarchyPlace} (λ k. record { set = a.0; type = set_type m a.0; key = k; hierarchy = d.0 }) (slice_get t.properties t.key)) (type_of_set m a.0) f d.2 in
    let k = mapped {Y = HierarchyPlace} (λ k. record { set = a.0; type = set_type m a.0; key = k; hierarchy = d.0 }) (slice_get (g.0).properties (g.0).key) f g.2 in
    let z = chained (λ es. type_at m es.of) (slice_get m.sets a.0) g.0 g.1 in
    let type : type_at m (set_type m a.0) ≡ Some g.0 = ap (λ o. type_at m (unwrap_or (option_map (λ es. es.of) o) 0)) z.1 ∙ z.2 in
    ap (λ f. property_at m (key_of m f.type)) (sym k.2)
    ∙ ap (λ o. slice_get (unwrap_or (option_map (λ e. e.properties) o) []) (unwrap_or (option_map (λ e. e.key) o) 0)) type
    ∙ k.1 ∙ ap (λ f. Some f.key) k.2

-- ---- the shape behind typed steps

pub typed-behind : (m : Model) (c : Customs) (S S' : Shape) (ss : List Step) → steps_shape m c S (pipe ss) ≡ Some S' → shape_behind m c S ss ≡ S'
typed-behind m c S S' [] e = some_value (sym (steps_shape-End m c S) ∙ e)
typed-behind m c S S' (s ∷ ss) e =
    let x = chained (λ Z. steps_shape m c Z (pipe ss)) (step_shape m c S s) S' (sym (steps_shape-Then m c S s (pipe ss)) ∙ e) in
    ap (λ o. shape_behind m c (unwrap_or o S) ss) x.1 ∙ typed-behind m c x.0 S' ss x.2

-- the shape of what a pipeline chooses, where it has one
pub chosen-behind : (m : Model) (c : Customs) (S : Shape) (p : Pipe) (ss : List Step) → p ≡ pipe ss → is_some (inner_shape m c S S (OptPipe.SomePipe p)) ≡ true → Some (shape_behind m c S ss) ≡ inner_shape m c S S (OptPipe.SomePipe p)
chosen-behind m c S p ss e h = go (is_long p) (sym (ap is_some (inner_shape-SomePipe m c S S p)) ∙ h) ∙ sym (inner_shape-SomePipe m c S S p)
  where
    go : (b : Bool) → is_some (if b then steps_shape m c S p else None) ≡ true → Some (shape_behind m c S ss) ≡ (if b then steps_shape m c S p else None)
    go false h = cc
    go true h =
        let x = some_there (steps_shape m c S p) h in
        ap Some (typed-behind m c S x.0 ss (sym (ap (steps_shape m c S) e) ∙ x.1)) ∙ sym x.1

-- the name of a property is a name
pub property-named : (m : Model) (p : Part) (n : Name) → IsSound m → option_map (λ q. q.name) (property_at m p) ≡ Some n → is_name n ≡ true
property-named m p n sound e =
    let x = mapped (λ q. q.name) (property_at m p) n e in
    ap is_name (sym x.2) ∙ sound.property_names p x.0 x.1

pub named-text : (n : Name) (o : Option Name) → is_name n ≡ true → o ≡ (if is_name n then Some n else None) → o ≡ Some n
named-text n o h e = e ∙ ap (λ b. if b then Some n else None) h

-- ---- the nodes that a pipeline chooses, with the name of their key

-- the hierarchy whose nodes these are
pub nodes-place : (m : Model) (h : HierName) (x : ℕ × EdmType) → Some x ≡ nodes_at m h → (f : HierarchyPlace) × (hierarchy_at m h ≡ Some f) × (f.type ≡ x.0)
nodes-place m h x e =
    let p = mapped {Y = ℕ × EdmType} (λ f. (f.type, f.key.kind)) (hierarchy_at m h) x (sym e) in
    (p.0, p.1, ap (λ (y : ℕ × EdmType). y.0) p.2)

module _ (m : Model) (c : Customs) (h : HierName) (T : OptPipe) where
  of_place : HierarchyPlace → Option (Shape × Name)
  of_place f = option_map {U = Shape × Name} (λ N. (N, f.key.name)) (inner_shape m c (set_shape f.type) (set_shape f.type) T)

  -- their shape and the name of their key
  pub nodes-chosen : (x : ℕ × EdmType) (S : Shape) (n : Name) → Some x ≡ nodes_at m h → Some S ≡ inner_shape m c (set_shape x.0) (set_shape x.0) T
      → option_map (λ q. q.name) (property_at m (key_of m x.0)) ≡ Some n → Some (S, n) ≡ chosen_nodes m c h T
  unfolding of_place
  nodes-chosen x S n e shape name =
      let p = nodes-place m h x e in
      let f = p.0 in
      let named : n ≡ f.key.name =
      some_value (sym name ∙ ap (λ t. option_map (λ q. q.name) (property_at m (key_of m t))) (sym p.2) ∙ ap (option_map (λ q. q.name)) (place-key m h f p.1)) in
      ap (λ (k : Name). Some (S, k)) named
      ∙ ap (option_map {U = Shape × Name} (λ N. (N, f.key.name))) (shape ∙ ap (λ t. inner_shape m c (set_shape t) (set_shape t) T) (sym p.2))
      ∙ ap (option_and_then of_place) (sym p.1)

  -- a pipeline that chooses some is typed on them
  pub nodes-shaped : (x : ℕ × EdmType) → Some x ≡ nodes_at m h → is_some (chosen_nodes m c h T) ≡ true → is_some (inner_shape m c (set_shape x.0) (set_shape x.0) T) ≡ true
  unfolding of_place
  nodes-shaped x e typed =
      let p = nodes-place m h x e in
      let f = p.0 in
      ap (λ t. is_some (inner_shape m c (set_shape t) (set_shape t) T)) (sym p.2)
      ∙ sym (is_some-option_map {Y = Shape × Name} (λ N. (N, f.key.name)) (inner_shape m c (set_shape f.type) (set_shape f.type) T))
      ∙ ap is_some (ap (option_and_then of_place) (sym p.1)) ∙ typed

  -- there are none where there is no such hierarchy
  pub nodes-none : None ≡ nodes_at m h → None ≡ chosen_nodes m c h T
  unfolding of_place
  nodes-none e = ap (option_and_then of_place) (sym (unmapped {Y = ℕ × EdmType} (λ f. (f.type, f.key.kind)) (hierarchy_at m h) (sym e)))
