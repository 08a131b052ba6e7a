-- In a typed pipeline each step is typed on the shape behind those before it, and so are the pipelines inside it, each on the shape where it begins.
use Rattle.std.proofs.Common.{◌≡◌, refl, sym, ◌∙◌, ap, subst, ℕ, zero, suc, ◌+◌, ◌<◌, Bool, true, List, [], ◌∷◌, ◌++◌, Option, Some, IsTrue, IfSome, map, take, drop, length, get_or, arith}
use Rattle.std.specs.Prelude.{option_map, is_some, unwrap_or}
use Rattle.edm_values.specs.Lists.{all_some}
use Rattle.edm_values.specs.Names.{Name, Path}
use Rattle.edm_values.specs.declared.EdmType.{EdmType}
use Rattle.edm_values.proofs.EachLemmas.{then_some-holds, and-left, and-right, all_some-head, all_some-tail}
use Rattle.edm_values.proofs.OptionFacts.{some_there, chained, some_and, if_else-parts}
use Rattle.edm_model.specs.Models.{Model}
use Rattle.edm_model.specs.LookUps.{HierarchyPlace}
use Rattle.apply_ast.specs.Trees.{HierName, Pipe, Step, OptPipe, Pipes, Key, Keys, pipe, is_long}
use Rattle.apply_ast.specs.Views.{keys_from, pipes_from}
use Rattle.context_typing.specs.Shapes.{Shape, set_shape}
use Rattle.context_typing.specs.Steps.{nodes_at}
use Rattle.context_typing.specs.Typing.{Customs, after, concat_shape, hierarchy_at, is_node_path, join_navigation, no_shape, steps_shape, step_shape, inner_shape, branch_shapes, key_typed, keys_typed}
use Rattle.rewrite_forms.specs.StepShapes.{shape_behind}
use Rattle.rewrite_forms.proofs.CutLists.{mapped-whole, rest-is, rest_at}

module _ (m : Model) (c : Customs) where
  -- ---- the steps of a pipeline

  steps-behind : (S : Shape) (ss : List Step) (s : Step) (ts : List Step) → is_some (steps_shape m c S (pipe (ss ++ s ∷ ts))) ≡ true → is_some (steps_shape m c (shape_behind m c S ss) (pipe (s ∷ ts))) ≡ true
  unfolding steps_shape
  steps-behind S [] s ts e = e
  steps-behind S (t ∷ ss) s ts e =
      let x = some_there (steps_shape m c S (pipe (t ∷ ss ++ s ∷ ts))) e in
      let y = chained (λ T. steps_shape m c T (pipe (ss ++ s ∷ ts))) (step_shape m c S t) x.0 x.1 in
      let here : after m c S t ≡ y.0 = ap (λ o. unwrap_or o S) y.1 in
      subst (λ T. is_some (steps_shape m c (shape_behind m c T ss) (pipe (s ∷ ts))) ≡ true) (sym here) (steps-behind y.0 ss s ts (ap is_some y.2))

  first-typed : (S : Shape) (s : Step) (ts : List Step) → is_some (steps_shape m c S (pipe (s ∷ ts))) ≡ true → is_some (step_shape m c S s) ≡ true
  unfolding steps_shape
  first-typed S s ts e =
      let x = some_there (steps_shape m c S (pipe (s ∷ ts))) e in
      let y = chained (λ T. steps_shape m c T (pipe ts)) (step_shape m c S s) x.0 x.1 in
      ap is_some y.1

  module _ {X : Type 0} (f : X → Step) (S : Shape) (xs : List X) (i : ℕ) (d : X) (P : Pipe) (h : i < length xs) (is : d ≡ get_or xs i d) (into : P ≡ pipe (map f xs)) (e : is_some (steps_shape m c S P) ≡ true) where
    onward : is_some (steps_shape m c (shape_behind m c S (map f (take i xs))) (pipe (f d ∷ map f (drop (i + 1) xs)))) ≡ true
    onward = steps-behind S (map f (take i xs)) (f d) (map f (drop (i + 1) xs)) (subst (λ Q. is_some (steps_shape m c S Q) ≡ true) (into ∙ ap pipe (mapped-whole f xs i d h is)) e)

    pub typed-step : is_some (step_shape m c (shape_behind m c S (map f (take i xs))) (f d)) ≡ true
    typed-step = first-typed (shape_behind m c S (map f (take i xs))) (f d) (map f (drop (i + 1) xs)) onward

    pub typed-onward : is_some (steps_shape m c (shape_behind m c S (map f (take i xs))) (pipe (f d ∷ map f (rest_at xs i)))) ≡ true
    typed-onward = subst (λ l. is_some (steps_shape m c (shape_behind m c S (map f (take i xs))) (pipe (f d ∷ map f l))) ≡ true) (sym (rest-is xs i)) onward

  -- ---- inside a grouping

  pub typed-keys : (Z : Shape) (s : Step) (K : Keys) (T : OptPipe) → s ≡ Step.GroupBy K T → is_some (step_shape m c Z s) ≡ true → (S : Shape) × IsTrue (keys_typed m c S K)
  unfolding steps_shape
  typed-keys Z s K T is e =
      let x = some_there (step_shape m c Z (Step.GroupBy K T)) (subst (λ s. is_some (step_shape m c Z s) ≡ true) is e) in
      (Z, (if_else-parts (keys_typed m c Z K) _ x.0 x.1).0)

  pub typed-groups : (Z : Shape) (s : Step) (K : Keys) (T : OptPipe) → s ≡ Step.GroupBy K T → is_some (step_shape m c Z s) ≡ true → is_some (inner_shape m c Z no_shape T) ≡ true
  unfolding steps_shape
  typed-groups Z s K T is e =
      let x = some_there (step_shape m c Z (Step.GroupBy K T)) (subst (λ s. is_some (step_shape m c Z s) ≡ true) is e) in
      ap is_some (chained _ (inner_shape m c Z no_shape T) x.0 (if_else-parts (keys_typed m c Z K) _ x.0 x.1).1).1

  -- the pipeline for each group, or that of a join or of nodes
  pub typed-inner : (Z Y N : Shape) (T : OptPipe) (P : Pipe) → T ≡ OptPipe.SomePipe P → Y ≡ Z → is_some (inner_shape m c Z N T) ≡ true → is_some (steps_shape m c Y P) ≡ true
  unfolding steps_shape
  typed-inner Z Y N T P is same e =
      let x = some_there (inner_shape m c Z N (OptPipe.SomePipe P)) (subst (λ T. is_some (inner_shape m c Z N T) ≡ true) is e) in
      subst (λ Y. is_some (steps_shape m c Y P) ≡ true) (sym same) (ap is_some (if_else-parts (is_long P) (steps_shape m c Z P) x.0 x.1).1)

  -- ---- keys

  key-at : {X : Type 0} (f : X → Key) (S : Shape) (xs : List X) (i : ℕ) (d : X) → i < length xs → keys_typed m c S (keys_from (map f xs)) ≡ true → key_typed m c S (f (get_or xs i d)) ≡ true
  unfolding steps_shape
  key-at f S [] i d h e = absurd (omega (arith, h))
  key-at f S (x ∷ xs) zero d h e = and-left (key_typed m c S (f x)) (keys_typed m c S (keys_from (map f xs))) e
  key-at f S (x ∷ xs) (suc i) d h e = key-at f S xs i d (omega (arith, h)) (and-right (key_typed m c S (f x)) (keys_typed m c S (keys_from (map f xs))) e)

  pub typed-key : {X : Type 0} (f : X → Key) (xs : List X) (i : ℕ) (d : X) (K : Keys) → i < length xs → d ≡ get_or xs i d → K ≡ keys_from (map f xs) → (S : Shape) × IsTrue (keys_typed m c S K) → (S : Shape) × IsTrue (key_typed m c S (f d))
  typed-key f xs i d K h is into t =
      (t.0, subst (λ x. key_typed m c t.0 (f x) ≡ true) (sym is) (key-at f t.0 xs i d h (subst (λ K. keys_typed m c t.0 K ≡ true) into t.1)))

  -- the pipeline that chooses the nodes
  pub typed-nodes : (h : HierName) (p : Path) (T : OptPipe) (P : Pipe) (of : Option ℕ) → T ≡ OptPipe.SomePipe P → of ≡ option_map (λ (x : ℕ × EdmType). x.0) (nodes_at m h) → (S : Shape) × IsTrue (key_typed m c S (Key.Recursive h p T))
      → IfSome of (λ t. IsTrue (is_some (steps_shape m c (set_shape t) P)))
  unfolding steps_shape
  typed-nodes h p T P of is at t =
      let S = t.0 in
      let x = some_and _ (hierarchy_at m h) (and-right (is_node_path m S h p) _ t.1) in
      let y = some_and _ (inner_shape m c (set_shape (x.0).type) (set_shape (x.0).type) T) x.2 in
      let found : of ≡ Some (x.0).type = at ∙ ap (λ (o : Option HierarchyPlace). option_map (λ (x : ℕ × EdmType). x.0) (option_map {U = ℕ × EdmType} (λ f. (f.type, f.key.kind)) o)) x.1 in
      subst (λ o. IfSome o (λ t. IsTrue (is_some (steps_shape m c (set_shape t) P)))) (sym found) (typed-inner (set_shape (x.0).type) (set_shape (x.0).type) (set_shape (x.0).type) T P is refl (ap is_some y.1))

  -- a pipeline on the instances of an entity type
  pub typed-on : (of : Option ℕ) (t : ℕ) (Z : Shape) (P : Pipe) → of ≡ Some t → Z ≡ set_shape t → IfSome of (λ t. IsTrue (is_some (steps_shape m c (set_shape t) P))) → is_some (steps_shape m c Z P) ≡ true
  typed-on of t Z P is same e =
      subst (λ Z. is_some (steps_shape m c Z P) ≡ true) (sym same) (subst (λ o. IfSome o (λ t. IsTrue (is_some (steps_shape m c (set_shape t) P)))) is e)

  -- ---- branches

  pub typed-branches : (Z Y : Shape) (B : Pipes) → Y ≡ Z → is_some (step_shape m c Z (Step.Concat B)) ≡ true → is_some (all_some (branch_shapes m c Y B)) ≡ true
  unfolding steps_shape
  typed-branches Z Y B same e =
      let x = some_there (step_shape m c Z (Step.Concat B)) e in
      subst (λ Y. is_some (all_some (branch_shapes m c Y B)) ≡ true) (sym same) (ap is_some (chained (concat_shape m) (all_some (branch_shapes m c Z B)) x.0 x.1).1)

  branch-at : {X : Type 0} (f : X → Pipe) (S : Shape) (xs : List X) (i : ℕ) (d : X) → i < length xs → is_some (all_some (branch_shapes m c S (pipes_from (map f xs)))) ≡ true → is_some (steps_shape m c S (f (get_or xs i d))) ≡ true
  unfolding steps_shape
  branch-at f S [] i d h e = absurd (omega (arith, h))
  branch-at f S (x ∷ xs) zero d h e =
      let t = some_there (all_some (branch_shapes m c S (pipes_from (map f (x ∷ xs))))) e in
      let u = all_some-head _ (branch_shapes m c S (pipes_from (map f xs))) t.0 t.1 in
      ap is_some (if_else-parts (is_long (f x)) (steps_shape m c S (f x)) u.0 u.1).1
  branch-at f S (x ∷ xs) (suc i) d h e =
      let t = some_there (all_some (branch_shapes m c S (pipes_from (map f (x ∷ xs))))) e in
      let u = all_some-tail _ (branch_shapes m c S (pipes_from (map f xs))) t.0 t.1 in
      branch-at f S xs i d (omega (arith, h)) (ap is_some u.1)

  pub typed-branch : {X : Type 0} (f : X → Pipe) (S : Shape) (xs : List X) (i : ℕ) (d : X) (B : Pipes) → i < length xs → d ≡ get_or xs i d → B ≡ pipes_from (map f xs) → is_some (all_some (branch_shapes m c S B)) ≡ true
      → is_some (steps_shape m c S (f d)) ≡ true
  typed-branch f S xs i d B h is into e =
      subst (λ x. is_some (steps_shape m c S (f x)) ≡ true) (sym is) (branch-at f S xs i d h (subst (λ B. is_some (all_some (branch_shapes m c S B)) ≡ true) into e))

  -- ---- joins and climbs

  pub typed-related : (Z Y : Shape) (s : Step) (outer : Bool) (n a : Name) (T : OptPipe) (P : Pipe) (of : Option ℕ) → s ≡ Step.Join outer n a T → T ≡ OptPipe.SomePipe P → Y ≡ Z → of ≡ option_map (λ v. v.target) (join_navigation m Y n) → is_some (step_shape m c Z s) ≡ true
      → IfSome of (λ t. IsTrue (is_some (steps_shape m c (set_shape t) P)))
  unfolding steps_shape
  typed-related Z Y s outer n a T P of whole is same at e =
      let x = some_there (step_shape m c Z (Step.Join outer n a T)) (subst (λ s. is_some (step_shape m c Z s) ≡ true) whole e) in
      let v = chained _ (join_navigation m Z n) x.0 x.1 in
      let u = chained _ (inner_shape m c (set_shape (v.0).target) (set_shape (v.0).target) T) x.0 v.2 in
      let found : of ≡ Some (v.0).target = at ∙ ap (λ Z. option_map (λ v. v.target) (join_navigation m Z n)) same ∙ ap (option_map (λ v. v.target)) v.1 in
      subst (λ o. IfSome o (λ t. IsTrue (is_some (steps_shape m c (set_shape t) P)))) (sym found) (typed-inner (set_shape (v.0).target) (set_shape (v.0).target) (set_shape (v.0).target) T P is refl (ap is_some u.1))

  pub typed-starts : (Z Y : Shape) (s : Step) (up : Bool) (h : HierName) (p : Path) (T : Pipe) (d : Option ℕ) (keep : Bool) → s ≡ Step.Climb up h p T d keep → Y ≡ Z → is_some (step_shape m c Z s) ≡ true → is_some (steps_shape m c Y T) ≡ true
  unfolding steps_shape
  typed-starts Z Y s up h p T d keep whole same e =
      let x = some_there (step_shape m c Z (Step.Climb up h p T d keep)) (subst (λ s. is_some (step_shape m c Z s) ≡ true) whole e) in
      let t = some_and (λ R. is_node_path m R h p) (steps_shape m c Z T) (and-right _ _ (then_some-holds _ Z x.0 x.1)) in
      subst (λ Y. is_some (steps_shape m c Y T) ≡ true) (sym same) (ap is_some t.1)
