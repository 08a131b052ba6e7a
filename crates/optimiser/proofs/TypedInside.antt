-- The pipelines inside a typed step are typed.
use Rattle.std.proofs.Common.{◌≡◌, refl, sym, ◌∙◌, ap, subst, ℕ, ◌<◌, ◌==◌, Bool, true, false, List, [], ◌∷◌, Option, Some, None, get_or, length, map, IsTrue, if◌then◌else◌}
use Rattle.std.specs.Prelude.{option_map, option_and_then, is_some, IfSome}
use Rattle.std.specs.Bool.{then_some}
use Rattle.std.proofs.lemmas.Bool.{and_parts, and_from}
use Rattle.std.proofs.lemmas.List.Folds.{list_all-map}
use Rattle.edm_values.specs.Lists.{all_some, is_some_and}
use Rattle.edm_values.specs.Names.{Name, Path}
use Rattle.edm_values.specs.declared.EdmType.{EdmType}
use Rattle.edm_values.proofs.OptionFacts.{none_or, some_and-there, some_value}
use Rattle.edm_model.specs.LookUps.{HierarchyPlace}
use Rattle.edm_model.specs.Models.{Model, Navigation}
use Rattle.apply_ast.specs.Trees.{HierName, Key, Keys, OptPipe, Pipe, Step, is_long}
use Rattle.apply_ast.specs.Views.{inner_of, keys_from, pipes_from}
use Rattle.context_typing.specs.Shapes.{Shape, set_shape}
use Rattle.context_typing.specs.Steps.{nodes_at}
use Rattle.context_typing.specs.Typing.{Customs, branch_shapes, group_keys, hierarchy_at, inner_shape, is_free, is_node_path, is_nodes, join_navigation, RollupPart, joined_shape, key_typed, keys_typed, no_shape, rollup_part, root_type, step_shape, steps_shape}
use Rattle.context_typing.proofs.TypingEquations.{inner_shape-SomePipe, key_typed-Recursive, step_shape-Climb, step_shape-Concat, step_shape-GroupBy, step_shape-Join}
use Rattle.rewrite_laws.specs.Rewrites.{node_shape}
use Rattle.rewrite_forms.specs.GroupForms.{chosen_nodes, recursive_key}
use Rattle.optimiser.proofs.HeldLists.{all-at}
use Rattle.optimiser.specs.WalkForms.{branches_typed, inner_typed, key_inside_typed, keys_inside_typed}

if-there : {A : Type 0} (b : Bool) (o : Option A) → is_some (if b then o else None) ≡ true → (b ≡ true) × (is_some o ≡ true)
if-there true o h = (refl, h)
if-there false o h = cc

pub chain-there : {A B : Type 0} (f : A → Option B) (o : Option A) → is_some (option_and_then f o) ≡ true → is_some o ≡ true
chain-there f None h = h
chain-there f (Some x) h = refl

chosen-there : {A : Type 0} (b : Bool) (x : A) → is_some (then_some b x) ≡ true → b ≡ true
chosen-there true x h = refl
chosen-there false x h = h

-- ---- the nodes of a grouping

pub nodes-key : (ks : List Key) → is_nodes (rollup_part (group_keys (keys_from ks))) ≡ is_some (recursive_key ks)
nodes-key [] = refl
nodes-key (Key.Plain p ∷ ks) = nodes-key ks
nodes-key (Key.Rollup all ps ∷ ks) = refl
nodes-key (Key.Recursive h p T ∷ ks) = refl

module _ (m : Model) (c : Customs) where
  pub nodes-part : (ks : List Key) (h : HierName) (p : Path) (T : OptPipe) → recursive_key ks ≡ Some (h, (p, T)) → rollup_part (group_keys (keys_from ks)) ≡ RollupPart.Nodes h p
  nodes-part [] h p T e = none_or (h, (p, T)) e
  nodes-part (Key.Plain q ∷ ks) h p T e = nodes-part ks h p T e
  nodes-part (Key.Rollup all ps ∷ ks) h p T e = none_or (h, (p, T)) e
  nodes-part (Key.Recursive h' p' T' ∷ ks) h p T e = let y = some_value e in λ i. RollupPart.Nodes ((y i).0) ((y i).1.0)

  pub nodes-shape : (ks : List Key) (h : HierName) (p : Path) (T : OptPipe) → recursive_key ks ≡ Some (h, (p, T)) → node_shape m c (keys_from ks) ≡ chosen_nodes m c h T
  nodes-shape [] h p T e = none_or (h, (p, T)) e
  nodes-shape (Key.Plain q ∷ ks) h p T e = nodes-shape ks h p T e
  nodes-shape (Key.Rollup all ps ∷ ks) h p T e = none_or (h, (p, T)) e
  nodes-shape (Key.Recursive h' p' T' ∷ ks) h p T e = let y = some_value e in λ i. chosen_nodes m c ((y i).0) ((y i).1.1)

  -- ---- inner pipelines

  inner-there : (S without : Shape) (T : OptPipe) → is_some (inner_shape m c S without T) ≡ true → inner_typed m c S T ≡ true
  inner-there S without OptPipe.NoPipe h = refl
  inner-there S without (OptPipe.SomePipe p) h = (if-there (is_long p) (steps_shape m c S p) (sym (ap is_some (inner_shape-SomePipe m c S without p)) ∙ h)).1

  pub inner-each : {X : Type 0} (f : X → Pipe) (S : Shape) (o : Option X) → inner_typed m c S (inner_of (option_map f o)) ≡ true → IfSome o (λ p. IsTrue (is_some (steps_shape m c S (f p))))
  inner-each f S None h = tt
  inner-each f S (Some p) h = h

  -- ---- steps

  group-parts : (S : Shape) (ks : Keys) (T : OptPipe) → is_some (step_shape m c S (Step.GroupBy ks T)) ≡ true → (keys_typed m c S ks ≡ true) × (is_some (inner_shape m c S no_shape T) ≡ true)
  group-parts S ks T h =
      let x = if-there (keys_typed m c S ks) _ (sym (ap is_some (step_shape-GroupBy m c S ks T)) ∙ h) in
      (x.0, chain-there _ (inner_shape m c S no_shape T) x.1)

  pub group-inner : (S : Shape) (ks : Keys) (T : OptPipe) (s : Step) → s ≡ Step.GroupBy ks T → is_some (step_shape m c S s) ≡ true → inner_typed m c S T ≡ true
  group-inner S ks T s e h = inner-there S no_shape T (group-parts S ks T (sym (ap (λ s. is_some (step_shape m c S s)) e) ∙ h)).1

  placed-typed : (T : OptPipe) (o : Option HierarchyPlace) → is_some_and (λ f. is_some_and (λ N. is_some_and (λ t. t == f.type) (root_type N)) (inner_shape m c (set_shape f.type) (set_shape f.type) T)) o ≡ true
      → elim o [ None ↦ true | Some f ↦ inner_typed m c (set_shape f.type) T ] ≡ true
  placed-typed T None h = refl
  placed-typed T (Some f) h = inner-there (set_shape f.type) (set_shape f.type) T (some_and-there _ (inner_shape m c (set_shape f.type) (set_shape f.type) T) h)

  key-inside : (S : Shape) (k : Key) → key_typed m c S k ≡ true → key_inside_typed m c k ≡ true
  key-inside S (Key.Plain p) h = refl
  key-inside S (Key.Rollup all ps) h = refl
  key-inside S (Key.Recursive h' p T) h = placed-typed T (hierarchy_at m h') (and_parts (is_node_path m S h' p) _ (sym (key_typed-Recursive m c S h' p T) ∙ h)).1

  keys-inside : (S : Shape) (ks : List Key) → keys_typed m c S (keys_from ks) ≡ true → keys_inside_typed m c ks ≡ true
  unfolding steps_shape
  keys-inside S [] h = refl
  keys-inside S (k ∷ ks) h = let x = and_parts (key_typed m c S k) (keys_typed m c S (keys_from ks)) h in and_from _ _ (key-inside S k x.0) (keys-inside S ks x.1)

  pub group-keys : (S : Shape) (ks : List Key) (T : OptPipe) (s : Step) → s ≡ Step.GroupBy (keys_from ks) T → is_some (step_shape m c S s) ≡ true → keys_inside_typed m c ks ≡ true
  group-keys S ks T s e h = keys-inside S ks (group-parts S (keys_from ks) T (sym (ap (λ s. is_some (step_shape m c S s)) e) ∙ h)).0

  chosen-typed : (T : OptPipe) (o : Option HierarchyPlace) → is_some_and (λ f. is_some_and (λ N. is_some_and (λ t. t == f.type) (root_type N)) (inner_shape m c (set_shape f.type) (set_shape f.type) T)) o ≡ true
      → is_some (option_and_then (λ f. option_map {U = Shape × Name} (λ N. (N, f.key.name)) (inner_shape m c (set_shape f.type) (set_shape f.type) T)) o) ≡ true
  chosen-typed T None h = cc
  chosen-typed T (Some f) h = go (inner_shape m c (set_shape f.type) (set_shape f.type) T) h
    where
      go : (o : Option Shape) → is_some_and (λ N. is_some_and (λ t. t == f.type) (root_type N)) o ≡ true → is_some (option_map {U = Shape × Name} (λ N. (N, f.key.name)) o) ≡ true
      go None h = cc
      go (Some N) h = refl

  keys-chosen : (S : Shape) (ks : List Key) → keys_typed m c S (keys_from ks) ≡ true → IfSome (recursive_key ks) (λ x. IsTrue (is_some (chosen_nodes m c x.0 x.1.1)))
  unfolding steps_shape
  keys-chosen S [] h = tt
  keys-chosen S (Key.Plain p ∷ ks) h = keys-chosen S ks h
  keys-chosen S (Key.Rollup all ps ∷ ks) h = tt
  keys-chosen S (Key.Recursive h' p T ∷ ks) h = chosen-typed T (hierarchy_at m h') (and_parts _ _ (and_parts _ _ h).0).1

  pub group-nodes : (S : Shape) (ks : List Key) (T : OptPipe) (s : Step) → s ≡ Step.GroupBy (keys_from ks) T → is_some (step_shape m c S s) ≡ true → IfSome (recursive_key ks) (λ x. IsTrue (is_some (chosen_nodes m c x.0 x.1.1)))
  group-nodes S ks T s e h = keys-chosen S ks (group-parts S (keys_from ks) T (sym (ap (λ s. is_some (step_shape m c S s)) e) ∙ h)).0

  all-there : (S : Shape) (ps : List Pipe) → is_some (all_some (branch_shapes m c S (pipes_from ps))) ≡ true → branches_typed m c S ps ≡ true
  unfolding steps_shape
  all-there S [] h = refl
  all-there S (p ∷ ps) h = go (λ t. all-there S ps t) (if is_long p then steps_shape m c S p else None) refl h
    where
      more : {X : Type 0} (x : X) (o : Option (List X)) → is_some (option_map (λ ys. x ∷ ys) o) ≡ true → is_some o ≡ true
      more x None h = h
      more x (Some ys) h = refl

      go : (is_some (all_some (branch_shapes m c S (pipes_from ps))) ≡ true → branches_typed m c S ps ≡ true)
          → (o : Option Shape) → (if is_long p then steps_shape m c S p else None) ≡ o → is_some (all_some (o ∷ branch_shapes m c S (pipes_from ps))) ≡ true → branches_typed m c S (p ∷ ps) ≡ true
      go rest None e h = cc
      go rest (Some Z) e h = and_from _ _ (if-there (is_long p) (steps_shape m c S p) (ap is_some e)).1 (rest (more Z (all_some (branch_shapes m c S (pipes_from ps))) h))

  pub concat-inside : (S : Shape) (ps : List Pipe) (s : Step) → s ≡ Step.Concat (pipes_from ps) → is_some (step_shape m c S s) ≡ true → branches_typed m c S ps ≡ true
  concat-inside S ps s e h = all-there S ps (chain-there _ _ (sym (ap is_some (ap (step_shape m c S) e ∙ step_shape-Concat m c S (pipes_from ps))) ∙ h))

  pub join-inside : (S : Shape) (outer : Bool) (n a : Name) (T : OptPipe) (s : Step) (t : ℕ) → s ≡ Step.Join outer n a T → Some t ≡ option_map (λ v. v.target) (join_navigation m S n) → is_some (step_shape m c S s) ≡ true → inner_typed m c (set_shape t) T ≡ true
  join-inside S outer n a T s t e there h = go (join_navigation m S n) there (sym (ap is_some (ap (step_shape m c S) e ∙ step_shape-Join m c S outer n a T)) ∙ h)
    where
      go : (o : Option Navigation) → Some t ≡ option_map (λ v. v.target) o
          → is_some (option_and_then (λ v. option_and_then (λ R. then_some (is_free m S a) (joined_shape outer a S R)) (inner_shape m c (set_shape v.target) (set_shape v.target) T)) o) ≡ true → inner_typed m c (set_shape t) T ≡ true
      go None there h = cc
      go (Some v) there h = ap (λ t. inner_typed m c (set_shape t) T) (some_value there) ∙ inner-there (set_shape v.target) (set_shape v.target) T (chain-there _ (inner_shape m c (set_shape v.target) (set_shape v.target) T) h)

  pub climb-inside : (S : Shape) (up : Bool) (h : HierName) (p : Path) (T : Pipe) (d : Option ℕ) (keep : Bool) (s : Step) → s ≡ Step.Climb up h p T d keep → is_some (step_shape m c S s) ≡ true → is_some (steps_shape m c S T) ≡ true
  climb-inside S up h p T d keep s e typed =
      let parts = chosen-there _ S (sym (ap is_some (ap (step_shape m c S) e ∙ step_shape-Climb m c S up h p T d keep)) ∙ typed) in
      some_and-there _ (steps_shape m c S T) (and_parts _ (is_some_and (λ R. is_node_path m R h p) (steps_shape m c S T)) parts).1

-- ---- one of several

pub one-branch : (m : Model) (c : Customs) (S : Shape) {X : Type 0} (f : X → Pipe) (xs ys : List X) (i : ℕ) (d : X) → xs ≡ ys → i < length xs → d ≡ get_or xs i d → branches_typed m c S (map f ys) ≡ true → is_some (steps_shape m c S (f d)) ≡ true
one-branch m c S f xs ys i d e h is typed =
    ap (λ x. is_some (steps_shape m c S (f x))) is
    ∙ all-at (λ x. is_some (steps_shape m c S (f x))) xs i d h (sym (list_all-map (λ p. is_some (steps_shape m c S p)) f xs) ∙ ap (λ l. branches_typed m c S (map f l)) e ∙ typed)

pub one-key : (m : Model) (c : Customs) {X : Type 0} (f : X → Key) (xs ys : List X) (i : ℕ) (d : X) → xs ≡ ys → i < length xs → d ≡ get_or xs i d → keys_inside_typed m c (map f ys) ≡ true → key_inside_typed m c (f d) ≡ true
one-key m c f xs ys i d e h is typed =
    ap (λ x. key_inside_typed m c (f x)) is
    ∙ all-at (λ x. key_inside_typed m c (f x)) xs i d h (sym (list_all-map (key_inside_typed m c) f xs) ∙ ap (λ l. keys_inside_typed m c (map f l)) e ∙ typed)

-- ---- pipelines on the instances of an entity type

module _ (m : Model) (c : Customs) {X : Type 0} (f : X → Pipe) (inner : Option X) where
  -- the pipeline is typed on the instances of the type
  abbrev pub IsTypedOn : Option ℕ → Type 0
  IsTypedOn of = IfSome of (λ t. IfSome inner (λ p. IsTrue (is_some (steps_shape m c (set_shape t) (f p)))))

  pub key-on : (k : Key) (h : HierName) (p : Path) (of : Option ℕ) → k ≡ Key.Recursive h p (inner_of (option_map f inner)) → of ≡ option_map (λ x. x.0) (nodes_at m h) → key_inside_typed m c k ≡ true → IsTypedOn of
  key-on k h p of e there typed = go (hierarchy_at m h) there (sym (ap (key_inside_typed m c) e) ∙ typed)
    where
      go : (o : Option HierarchyPlace) → of ≡ option_map {U = ℕ} (λ (x : ℕ × EdmType). x.0) (option_map {U = ℕ × EdmType} (λ f. (f.type, f.key.kind)) o)
          → elim o [ None ↦ true | Some g ↦ inner_typed m c (set_shape g.type) (inner_of (option_map f inner)) ] ≡ true → IsTypedOn of
      go None e t = subst IsTypedOn (sym e) tt
      go (Some g) e t = subst IsTypedOn (sym e) (inner-each m c f (set_shape g.type) inner t)

  pub join-on : (S : Shape) (outer : Bool) (n a : Name) (s : Step) (of : Option ℕ) → s ≡ Step.Join outer n a (inner_of (option_map f inner)) → of ≡ option_map (λ v. v.target) (join_navigation m S n) → is_some (step_shape m c S s) ≡ true → IsTypedOn of
  join-on S outer n a s None e there typed = tt
  join-on S outer n a s (Some t) e there typed = inner-each m c f (set_shape t) inner (join-inside m c S outer n a (inner_of (option_map f inner)) s t e there typed)
