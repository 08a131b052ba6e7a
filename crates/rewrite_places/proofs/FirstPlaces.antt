-- A rule at its first place: the place itself, then the places inside the step, then those behind it.
use Rattle.std.proofs.Common.{◌≡◌, refl, sym, ◌∙◌, ap, ℕ, zero, suc, ◌+◌, ◌<◌, ◌≤◌, ◌-◌, Bool, true, false, List, [], ◌∷◌, ◌++◌, Option, Some, None, map, take, drop, length, get_or, arith, add-one, append_assoc, subst}
use Rattle.std.specs.Prelude.{IfOk, Result, option_map, option_to_list, slice_get, is_none}
use Rattle.std.specs.List.{list_all}
use Rattle.std.proofs.lemmas.Option.{slice_get-map}
use Rattle.std.proofs.lemmas.List.{append-nil, take_all}
use Rattle.std.proofs.lemmas.Result.{IfOk-weaker}
use Rattle.std.proofs.Math.ListN.{drop_of_length-le}
use Rattle.edm_values.specs.Names.{Name, Path}
use Rattle.edm_values.specs.Lists.{first_some, is_nonempty}
use Rattle.edm_values.proofs.EachLemmas.{and-left, and-right}
use Rattle.edm_model.specs.Models.{Model, Navigation}
use Rattle.edm_model.specs.LookUps.{HierarchyPlace}
use Rattle.apply_ast.specs.Trees.{HierName, Pipe, Step, OptPipe, Pipes, Key, Keys, steps, pipe}
use Rattle.apply_ast.specs.Views.{keys_from, pipes_from}
use Rattle.context_typing.specs.Shapes.{Shape, set_shape}
use Rattle.edm_values.specs.declared.EdmType.{EdmType}
use Rattle.context_typing.specs.Steps.{nodes_at}
use Rattle.context_typing.specs.Typing.{Customs, after, hierarchy_at, join_navigation}
use Rattle.context_typing.proofs.WalkFacts.{pipe-steps, steps-pipe}
use Rattle.rewrite_laws.specs.Rewrites.{Rule, pipe_results, inner_results, branch_results, key_results, keys_results, step_results}
use Rattle.rewrite_forms.specs.StepShapes.{shape_behind}
use Rattle.rewrite_forms.proofs.CutLists.{dropped-next, mapped-next, mapped-whole, rest_at, rest-is}
use Rattle.rewrite_forms.proofs.ShapeSteps.{behind-more}
use Rattle.rewrite_places.specs.Places.{first_in_pipe, first_in_inner, first_in_branches, first_in_key, first_in_keys, first_in_step, first_on}
use Rattle.rewrite_places.proofs.ResultEquations.{pipe_results-End, pipe_results-Then, inner_results-NoPipe, inner_results-SomePipe, branch_results-NoPipes, branch_results-MorePipes, key_results-Recursive, keys_results-NoKeys, keys_results-MoreKeys, step_results-GroupBy, step_results-Concat, step_results-Join, step_results-Climb}

-- ---- the first element of lists that are put together

first-append : {X : Type 0} (xs ys : List X) → slice_get (xs ++ ys) 0 ≡ first_some (slice_get xs 0) (slice_get ys 0)
first-append [] ys = refl
first-append (x ∷ xs) ys = refl

first-option : {X : Type 0} (o : Option X) → slice_get (option_to_list o) 0 ≡ o
first-option None = refl
first-option (Some x) = refl

option_map-twice : {X Y Z : Type 0} (f : X → Y) (g : Y → Z) (h : X → Z) (o : Option X) → ((x : X) → g (f x) ≡ h x) → option_map g (option_map f o) ≡ option_map h o
option_map-twice f g h None e = refl
option_map-twice f g h (Some x) e = ap Some (e x)

option_map-same : {X Y : Type 0} (f g : X → Y) (o : Option X) → ((x : X) → f x ≡ g x) → option_map f o ≡ option_map g o
option_map-same f g None e = refl
option_map-same f g (Some x) e = ap Some (e x)

option_map-self : {X : Type 0} (f : X → X) (o : Option X) → ((x : X) → f x ≡ x) → option_map f o ≡ o
option_map-self f None e = refl
option_map-self f (Some x) e = ap Some (e x)

is_none-holds : {X : Type 0} (o : Option X) → is_none o ≡ true → o ≡ None
is_none-holds None e = refl
is_none-holds (Some x) e = cc

-- ---- each form of tree

module _ (r : Rule) (m : Model) (c : Customs) where
  pub first-End : (S : Shape) (before : Bool) → first_in_pipe r m c S before Pipe.End ≡ None
  first-End S before = ap (λ l. slice_get l 0) (pipe_results-End r m c S before)

  pub first-Then : (S : Shape) (before : Bool) (s : Step) (p : Pipe) → first_in_pipe r m c S before (Pipe.Then s p)
      ≡ first_some (option_map pipe (r m c S before s (steps p))) (first_some (option_map (λ s'. Pipe.Then s' p) (first_in_step r m c S s)) (option_map (Pipe.Then s) (first_in_pipe r m c (after m c S s) true p)))
  first-Then S before s p =
      let here = r m c S before s (steps p) in
      let inside = step_results r m c S s in
      let behind = pipe_results r m c (after m c S s) true p in
      let a : slice_get (map pipe (option_to_list here)) 0 ≡ option_map pipe here = slice_get-map pipe (option_to_list here) 0 ∙ ap (option_map pipe) (first-option here) in
      ap (λ l. slice_get l 0) (pipe_results-Then r m c S before s p)
      ∙ first-append (map pipe (option_to_list here) ++ map (λ s'. Pipe.Then s' p) inside) (map (Pipe.Then s) behind)
      ∙ ap (λ o. first_some o (slice_get (map (Pipe.Then s) behind) 0)) (first-append (map pipe (option_to_list here)) (map (λ s'. Pipe.Then s' p) inside))
      ∙ (λ i. first_some (first_some (a i) (slice_get-map (λ s'. Pipe.Then s' p) inside 0 i)) (slice_get-map (Pipe.Then s) behind 0 i))
      ∙ first_some-assoc (option_map pipe here) (option_map (λ s'. Pipe.Then s' p) (slice_get inside 0)) (option_map (Pipe.Then s) (slice_get behind 0))
    where
      first_some-assoc : {X : Type 0} (a b d : Option X) → first_some (first_some a b) d ≡ first_some a (first_some b d)
      first_some-assoc None b d = refl
      first_some-assoc (Some x) b d = refl

  pub first-NoPipe : (S : Shape) → first_in_inner r m c S OptPipe.NoPipe ≡ None
  first-NoPipe S = ap (λ l. slice_get l 0) (inner_results-NoPipe r m c S)

  pub first-SomePipe : (S : Shape) (p : Pipe) → first_in_inner r m c S (OptPipe.SomePipe p) ≡ option_map OptPipe.SomePipe (first_in_pipe r m c S false p)
  first-SomePipe S p = ap (λ l. slice_get l 0) (inner_results-SomePipe r m c S p) ∙ slice_get-map OptPipe.SomePipe (pipe_results r m c S false p) 0

  first-MorePipes : (S : Shape) (p : Pipe) (ps : Pipes) → first_in_branches r m c S (Pipes.MorePipes p ps)
      ≡ first_some (option_map (λ q. Pipes.MorePipes q ps) (first_in_pipe r m c S false p)) (option_map (Pipes.MorePipes p) (first_in_branches r m c S ps))
  first-MorePipes S p ps =
      ap (λ l. slice_get l 0) (branch_results-MorePipes r m c S p ps)
      ∙ first-append (map (λ q. Pipes.MorePipes q ps) (pipe_results r m c S false p)) (map (Pipes.MorePipes p) (branch_results r m c S ps))
      ∙ (λ i. first_some (slice_get-map (λ q. Pipes.MorePipes q ps) (pipe_results r m c S false p) 0 i) (slice_get-map (Pipes.MorePipes p) (branch_results r m c S ps) 0 i))

  first-MoreKeys : (k : Key) (ks : Keys) → first_in_keys r m c (Keys.MoreKeys k ks)
      ≡ first_some (option_map (λ k'. Keys.MoreKeys k' ks) (first_in_key r m c k)) (option_map (Keys.MoreKeys k) (first_in_keys r m c ks))
  first-MoreKeys k ks =
      ap (λ l. slice_get l 0) (keys_results-MoreKeys r m c k ks)
      ∙ first-append (map (λ k'. Keys.MoreKeys k' ks) (key_results r m c k)) (map (Keys.MoreKeys k) (keys_results r m c ks))
      ∙ (λ i. first_some (slice_get-map (λ k'. Keys.MoreKeys k' ks) (key_results r m c k) 0 i) (slice_get-map (Keys.MoreKeys k) (keys_results r m c ks) 0 i))

  pub first-Recursive : (h : HierName) (p : Path) (T : Pipe) → first_in_key r m c (Key.Recursive h p (OptPipe.SomePipe T))
      ≡ option_map (λ q. Key.Recursive h p (OptPipe.SomePipe q)) (first_on r m c (option_map (λ f. f.type) (hierarchy_at m h)) T)
  first-Recursive h p T = ap (λ l. slice_get l 0) (key_results-Recursive r m c h p (OptPipe.SomePipe T)) ∙ go (hierarchy_at m h)
    where
      go : (o : Option HierarchyPlace) → slice_get (elim o [ None ↦ [] | Some f ↦ map (Key.Recursive h p) (inner_results r m c (set_shape f.type) (OptPipe.SomePipe T)) ]) 0
          ≡ option_map (λ q. Key.Recursive h p (OptPipe.SomePipe q)) (first_on r m c (option_map (λ f. f.type) o) T)
      go None = refl
      go (Some f) =
          slice_get-map (Key.Recursive h p) (inner_results r m c (set_shape f.type) (OptPipe.SomePipe T)) 0
          ∙ ap (option_map (Key.Recursive h p)) (first-SomePipe (set_shape f.type) T)
          ∙ option_map-twice OptPipe.SomePipe (Key.Recursive h p) (λ q. Key.Recursive h p (OptPipe.SomePipe q)) (first_in_pipe r m c (set_shape f.type) false T) (λ q. refl)

  pub first-Recursive_alone : (h : HierName) (p : Path) → first_in_key r m c (Key.Recursive h p OptPipe.NoPipe) ≡ None
  first-Recursive_alone h p = ap (λ l. slice_get l 0) (key_results-Recursive r m c h p OptPipe.NoPipe) ∙ go (hierarchy_at m h)
    where
      go : (o : Option HierarchyPlace) → slice_get (elim o [ None ↦ [] | Some f ↦ map (Key.Recursive h p) (inner_results r m c (set_shape f.type) OptPipe.NoPipe) ]) 0 ≡ None
      go None = refl
      go (Some f) = slice_get-map (Key.Recursive h p) (inner_results r m c (set_shape f.type) OptPipe.NoPipe) 0 ∙ ap (option_map (Key.Recursive h p)) (first-NoPipe (set_shape f.type))

  pub first-GroupBy : (S : Shape) (ks : Keys) (T : OptPipe) → first_in_step r m c S (Step.GroupBy ks T)
      ≡ first_some (option_map (λ ks'. Step.GroupBy ks' T) (first_in_keys r m c ks)) (option_map (Step.GroupBy ks) (first_in_inner r m c S T))
  first-GroupBy S ks T =
      ap (λ l. slice_get l 0) (step_results-GroupBy r m c S ks T)
      ∙ first-append (map (λ ks'. Step.GroupBy ks' T) (keys_results r m c ks)) (map (Step.GroupBy ks) (inner_results r m c S T))
      ∙ (λ i. first_some (slice_get-map (λ ks'. Step.GroupBy ks' T) (keys_results r m c ks) 0 i) (slice_get-map (Step.GroupBy ks) (inner_results r m c S T) 0 i))

  pub first-Concat : (S : Shape) (ps : Pipes) → first_in_step r m c S (Step.Concat ps) ≡ option_map Step.Concat (first_in_branches r m c S ps)
  first-Concat S ps = ap (λ l. slice_get l 0) (step_results-Concat r m c S ps) ∙ slice_get-map Step.Concat (branch_results r m c S ps) 0

  pub first-Join : (S : Shape) (outer : Bool) (n a : Name) (T : Pipe) → first_in_step r m c S (Step.Join outer n a (OptPipe.SomePipe T))
      ≡ option_map (λ q. Step.Join outer n a (OptPipe.SomePipe q)) (first_on r m c (option_map (λ v. v.target) (join_navigation m S n)) T)
  first-Join S outer n a T = ap (λ l. slice_get l 0) (step_results-Join r m c S outer n a (OptPipe.SomePipe T)) ∙ go (join_navigation m S n)
    where
      go : (o : Option Navigation) → slice_get (elim o [ None ↦ [] | Some v ↦ map (Step.Join outer n a) (inner_results r m c (set_shape v.target) (OptPipe.SomePipe T)) ]) 0
          ≡ option_map (λ q. Step.Join outer n a (OptPipe.SomePipe q)) (first_on r m c (option_map (λ v. v.target) o) T)
      go None = refl
      go (Some v) =
          slice_get-map (Step.Join outer n a) (inner_results r m c (set_shape v.target) (OptPipe.SomePipe T)) 0
          ∙ ap (option_map (Step.Join outer n a)) (first-SomePipe (set_shape v.target) T)
          ∙ option_map-twice OptPipe.SomePipe (Step.Join outer n a) (λ q. Step.Join outer n a (OptPipe.SomePipe q)) (first_in_pipe r m c (set_shape v.target) false T) (λ q. refl)

  pub first-Join_alone : (S : Shape) (outer : Bool) (n a : Name) → first_in_step r m c S (Step.Join outer n a OptPipe.NoPipe) ≡ None
  first-Join_alone S outer n a = ap (λ l. slice_get l 0) (step_results-Join r m c S outer n a OptPipe.NoPipe) ∙ go (join_navigation m S n)
    where
      go : (o : Option Navigation) → slice_get (elim o [ None ↦ [] | Some v ↦ map (Step.Join outer n a) (inner_results r m c (set_shape v.target) OptPipe.NoPipe) ]) 0 ≡ None
      go None = refl
      go (Some v) = slice_get-map (Step.Join outer n a) (inner_results r m c (set_shape v.target) OptPipe.NoPipe) 0 ∙ ap (option_map (Step.Join outer n a)) (first-NoPipe (set_shape v.target))

  pub first-Climb : (S : Shape) (up : Bool) (h : HierName) (p : Path) (T : Pipe) (d : Option ℕ) (keep : Bool) → first_in_step r m c S (Step.Climb up h p T d keep)
      ≡ option_map (λ q. Step.Climb up h p q d keep) (first_in_pipe r m c S false T)
  first-Climb S up h p T d keep = ap (λ l. slice_get l 0) (step_results-Climb r m c S up h p T d keep) ∙ slice_get-map (λ T'. Step.Climb up h p T' d keep) (pipe_results r m c S false T) 0

  -- ---- lists of keys and of branches, from their fronts on

  pub keys-found : {X : Type 0} (f : X → Key) (xs : List X) (i : ℕ) (d : X) (k : Key) → i < length xs → d ≡ get_or xs i d → list_all (λ x. is_none (first_in_key r m c (f x))) (take i xs) ≡ true → first_in_key r m c (f d) ≡ Some k
      → first_in_keys r m c (keys_from (map f xs)) ≡ Some (keys_from (map f (take i xs) ++ k ∷ map f (drop (suc i) xs)))
  keys-found f [] i d k h is none e = absurd (omega arith)
  keys-found f (x ∷ xs) zero d k h is none e =
      first-MoreKeys (f x) (keys_from (map f xs)) ∙ ap (λ o. first_some (option_map (λ k'. Keys.MoreKeys k' (keys_from (map f xs))) o) (option_map (Keys.MoreKeys (f x)) (first_in_keys r m c (keys_from (map f xs))))) (ap (λ y. first_in_key r m c (f y)) (sym is) ∙ e)
  keys-found f (x ∷ xs) (suc i) d k h is none e =
      let n = is_none-holds (first_in_key r m c (f x)) (and-left _ _ none) in
      first-MoreKeys (f x) (keys_from (map f xs)) ∙ ap (λ o. first_some (option_map (λ k'. Keys.MoreKeys k' (keys_from (map f xs))) o) (option_map (Keys.MoreKeys (f x)) (first_in_keys r m c (keys_from (map f xs))))) n
      ∙ ap (option_map (Keys.MoreKeys (f x))) (keys-found f xs i d k (omega arith) is (and-right _ _ none) e)

  pub keys-none : {X : Type 0} (f : X → Key) (xs : List X) → list_all (λ x. is_none (first_in_key r m c (f x))) xs ≡ true → first_in_keys r m c (keys_from (map f xs)) ≡ None
  keys-none f [] e = ap (λ l. slice_get l 0) (keys_results-NoKeys r m c)
  keys-none f (x ∷ xs) e =
      first-MoreKeys (f x) (keys_from (map f xs))
      ∙ (λ i. first_some (option_map (λ k'. Keys.MoreKeys k' (keys_from (map f xs))) (is_none-holds (first_in_key r m c (f x)) (and-left _ _ e) i)) (option_map (Keys.MoreKeys (f x)) (keys-none f xs (and-right _ _ e) i)))

  pub branches-found : {X : Type 0} (S : Shape) (f : X → Pipe) (xs : List X) (i : ℕ) (d : X) (k : Pipe) → i < length xs → d ≡ get_or xs i d → list_all (λ x. is_none (first_in_pipe r m c S false (f x))) (take i xs) ≡ true → first_in_pipe r m c S false (f d) ≡ Some k
      → first_in_branches r m c S (pipes_from (map f xs)) ≡ Some (pipes_from (map f (take i xs) ++ k ∷ map f (drop (suc i) xs)))
  branches-found S f [] i d k h is none e = absurd (omega arith)
  branches-found S f (x ∷ xs) zero d k h is none e =
      first-MorePipes S (f x) (pipes_from (map f xs)) ∙ ap (λ o. first_some (option_map (λ q. Pipes.MorePipes q (pipes_from (map f xs))) o) (option_map (Pipes.MorePipes (f x)) (first_in_branches r m c S (pipes_from (map f xs))))) (ap (λ y. first_in_pipe r m c S false (f y)) (sym is) ∙ e)
  branches-found S f (x ∷ xs) (suc i) d k h is none e =
      let n = is_none-holds (first_in_pipe r m c S false (f x)) (and-left _ _ none) in
      first-MorePipes S (f x) (pipes_from (map f xs)) ∙ ap (λ o. first_some (option_map (λ q. Pipes.MorePipes q (pipes_from (map f xs))) o) (option_map (Pipes.MorePipes (f x)) (first_in_branches r m c S (pipes_from (map f xs))))) n
      ∙ ap (option_map (Pipes.MorePipes (f x))) (branches-found S f xs i d k (omega arith) is (and-right _ _ none) e)

  pub branches-none : {X : Type 0} (S : Shape) (f : X → Pipe) (xs : List X) → list_all (λ x. is_none (first_in_pipe r m c S false (f x))) xs ≡ true → first_in_branches r m c S (pipes_from (map f xs)) ≡ None
  branches-none S f [] e = ap (λ l. slice_get l 0) (branch_results-NoPipes r m c S)
  branches-none S f (x ∷ xs) e =
      first-MorePipes S (f x) (pipes_from (map f xs))
      ∙ (λ i. first_some (option_map (λ q. Pipes.MorePipes q (pipes_from (map f xs))) (is_none-holds (first_in_pipe r m c S false (f x)) (and-left _ _ e) i)) (option_map (Pipes.MorePipes (f x)) (branches-none S f xs (and-right _ _ e) i)))

  -- ---- what the parts of a step come to, from what is made of its inner pipelines

  pub groups-answer : {X E : Type 0} (g : X → Pipe) (S S' : Shape) (p : Pipe) (T : OptPipe) (z : Result (Option X) E) → T ≡ OptPipe.SomePipe p → S' ≡ S → IfOk z (λ o. option_map g o ≡ first_in_pipe r m c S' false p)
      → IfOk z (λ o. option_map (λ x. OptPipe.SomePipe (g x)) o ≡ first_in_inner r m c S T)
  groups-answer {X} g S S' p T z whole same =
      IfOk-weaker z (λ o. option_map g o ≡ first_in_pipe r m c S' false p) (λ o. option_map (λ x. OptPipe.SomePipe (g x)) o ≡ first_in_inner r m c S T)
      (λ o e. sym (option_map-twice g OptPipe.SomePipe (λ x. OptPipe.SomePipe (g x)) o (λ x. refl)) ∙ ap (option_map OptPipe.SomePipe) (e ∙ ap (λ Z. first_in_pipe r m c Z false p) same) ∙ sym (ap (first_in_inner r m c S) whole ∙ first-SomePipe S p))

  pub group_keys-answer : (S : Shape) (ks made : Keys) (T : OptPipe) (s s' : Step) → s ≡ Step.GroupBy ks T → Some made ≡ first_in_keys r m c ks → s' ≡ Step.GroupBy made T → Some s' ≡ first_in_step r m c S s
  group_keys-answer S ks made T s s' whole e is =
      ap Some is ∙ ap (λ o. first_some (option_map (λ ks'. Step.GroupBy ks' T) o) (option_map (Step.GroupBy ks) (first_in_inner r m c S T))) e ∙ sym (ap (first_in_step r m c S) whole ∙ first-GroupBy S ks T)

  pub group_inner-answer : {X Y E : Type 0} (g : X → Pipe) (f : Y → Step) (S : Shape) (ks : Keys) (T : OptPipe) (made : Option X) (s : Step) (z : Result (Option Y) E) → s ≡ Step.GroupBy ks T → None ≡ first_in_keys r m c ks
      → option_map (λ x. OptPipe.SomePipe (g x)) made ≡ first_in_inner r m c S T → IfOk z (λ o. option_map f o ≡ option_map (λ q. Step.GroupBy ks (OptPipe.SomePipe q)) (option_map g made)) → IfOk z (λ o. option_map f o ≡ first_in_step r m c S s)
  group_inner-answer g f S ks T made s z whole none e =
      IfOk-weaker z (λ o. option_map f o ≡ option_map (λ q. Step.GroupBy ks (OptPipe.SomePipe q)) (option_map g made)) (λ o. option_map f o ≡ first_in_step r m c S s) (λ o is.
      is ∙ option_map-twice g (λ q. Step.GroupBy ks (OptPipe.SomePipe q)) (λ x. Step.GroupBy ks (OptPipe.SomePipe (g x))) made (λ x. refl)
      ∙ sym (option_map-twice (λ x. OptPipe.SomePipe (g x)) (Step.GroupBy ks) (λ x. Step.GroupBy ks (OptPipe.SomePipe (g x))) made (λ x. refl))
      ∙ ap (option_map (Step.GroupBy ks)) e
      ∙ ap (λ o. first_some (option_map (λ ks'. Step.GroupBy ks' T) o) (option_map (Step.GroupBy ks) (first_in_inner r m c S T))) none ∙ sym (ap (first_in_step r m c S) whole ∙ first-GroupBy S ks T))

  pub concat-answer : (S S' : Shape) (ps made : Pipes) (s : Step) → Some made ≡ first_in_branches r m c S' ps → S' ≡ S → s ≡ Step.Concat made → Some s ≡ first_in_step r m c S (Step.Concat ps)
  concat-answer S S' ps made s e same is = ap Some is ∙ ap (option_map Step.Concat) (e ∙ ap (λ Z. first_in_branches r m c Z ps) same) ∙ sym (first-Concat S ps)

  pub concat-answer_none : (S S' : Shape) (ps : Pipes) → None ≡ first_in_branches r m c S' ps → S' ≡ S → None ≡ first_in_step r m c S (Step.Concat ps)
  concat-answer_none S S' ps e same = ap (option_map Step.Concat) (e ∙ ap (λ Z. first_in_branches r m c Z ps) same) ∙ sym (first-Concat S ps)

  pub join-answer : {Y E : Type 0} (f : Y → Step) (S S' : Shape) (outer : Bool) (n a : Name) (P : Pipe) (of : Option ℕ) (made : Option Pipe) (s : Step) (z : Result (Option Y) E) → s ≡ Step.Join outer n a (OptPipe.SomePipe P) → S' ≡ S → of ≡ option_map (λ v. v.target) (join_navigation m S' n)
      → made ≡ first_on r m c of P → IfOk z (λ o. option_map f o ≡ option_map (λ q. Step.Join outer n a (OptPipe.SomePipe q)) made) → IfOk z (λ o. option_map f o ≡ first_in_step r m c S s)
  join-answer f S S' outer n a P of made s z whole same target e =
      IfOk-weaker z (λ o. option_map f o ≡ option_map (λ q. Step.Join outer n a (OptPipe.SomePipe q)) made) (λ o. option_map f o ≡ first_in_step r m c S s) (λ o is.
      is ∙ ap (option_map (λ q. Step.Join outer n a (OptPipe.SomePipe q))) (e ∙ ap (λ o. first_on r m c o P) (target ∙ ap (λ Z. option_map (λ v. v.target) (join_navigation m Z n)) same))
      ∙ sym (ap (first_in_step r m c S) whole ∙ first-Join S outer n a P))

  pub climb-answer : {Y E : Type 0} (f : Y → Step) (S S' : Shape) (up : Bool) (h : HierName) (p : Path) (P : Pipe) (d : Option ℕ) (keep : Bool) (made : Option Pipe) (s : Step) (z : Result (Option Y) E) → s ≡ Step.Climb up h p P d keep → S' ≡ S
      → made ≡ first_in_pipe r m c S' false P → IfOk z (λ o. option_map f o ≡ option_map (λ q. Step.Climb up h p q d keep) made) → IfOk z (λ o. option_map f o ≡ first_in_step r m c S s)
  climb-answer f S S' up h p P d keep made s z whole same e =
      IfOk-weaker z (λ o. option_map f o ≡ option_map (λ q. Step.Climb up h p q d keep) made) (λ o. option_map f o ≡ first_in_step r m c S s) (λ o is.
      is ∙ ap (option_map (λ q. Step.Climb up h p q d keep)) (e ∙ ap (λ Z. first_in_pipe r m c Z false P) same) ∙ sym (ap (first_in_step r m c S) whole ∙ first-Climb S up h p P d keep))

  pub nodes-answer : {Y E : Type 0} (f : Y → Key) (h : HierName) (p : Path) (P : Pipe) (of : Option ℕ) (made : Option Pipe) (k : Key) (z : Result (Option Y) E) → k ≡ Key.Recursive h p (OptPipe.SomePipe P) → of ≡ option_map (λ x. x.0) (nodes_at m h) → made ≡ first_on r m c of P
      → IfOk z (λ o. option_map f o ≡ option_map (λ q. Key.Recursive h p (OptPipe.SomePipe q)) made) → IfOk z (λ o. option_map f o ≡ first_in_key r m c k)
  nodes-answer f h p P of made k z whole at e =
      IfOk-weaker z (λ o. option_map f o ≡ option_map (λ q. Key.Recursive h p (OptPipe.SomePipe q)) made) (λ o. option_map f o ≡ first_in_key r m c k) (λ o is.
      is ∙ ap (option_map (λ q. Key.Recursive h p (OptPipe.SomePipe q))) (e ∙ ap (λ o. first_on r m c o P) (at ∙ types (hierarchy_at m h))) ∙ sym (ap (first_in_key r m c) whole ∙ first-Recursive h p P))
    where
      types : (o : Option HierarchyPlace) → option_map {U = ℕ} (λ (x : ℕ × EdmType). x.0) (option_map {U = ℕ × EdmType} (λ f. (f.type, f.key.kind)) o) ≡ option_map (λ f. f.type) o
      types None = refl
      types (Some f) = refl

  -- what a loop over keys gives at the first that has a place, and where none has
  pub keys-answer : {X : Type 0} (f : X → Key) (xs : List X) (i : ℕ) (d : X) (k : Key) (K L : Keys) → i < length xs → d ≡ get_or xs i d → list_all (λ x. is_none (first_in_key r m c (f x))) (take i xs) ≡ true
      → Some k ≡ first_in_key r m c (f d) → K ≡ keys_from (map f xs) → L ≡ keys_from (map f (take i xs) ++ k ∷ map f (rest_at xs i)) → Some L ≡ first_in_keys r m c K
  keys-answer f xs i d k K L h is none e into from =
      ap Some from ∙ ap (λ l. Some (keys_from (map f (take i xs) ++ k ∷ map f l))) (rest-is xs i) ∙ ap (λ n. Some (keys_from (map f (take i xs) ++ k ∷ map f (drop n xs)))) (add-one i) ∙ sym (ap (first_in_keys r m c) into ∙ keys-found f xs i d k h is none (sym e))

  pub keys-answer_none : {X : Type 0} (f : X → Key) (xs : List X) (i : ℕ) (K : Keys) → length xs ≤ i → list_all (λ x. is_none (first_in_key r m c (f x))) (take i xs) ≡ true → K ≡ keys_from (map f xs) → None ≡ first_in_keys r m c K
  keys-answer_none f xs i K h none into =
      sym (ap (first_in_keys r m c) into ∙ keys-none f xs (ap (list_all (λ x. is_none (first_in_key r m c (f x)))) (sym (take_all i xs h)) ∙ none))

  -- the same of branches
  pub branches-answer : {X : Type 0} (S : Shape) (f : X → Pipe) (xs : List X) (i : ℕ) (d : X) (k : Pipe) (K L : Pipes) → i < length xs → d ≡ get_or xs i d → list_all (λ x. is_none (first_in_pipe r m c S false (f x))) (take i xs) ≡ true
      → Some k ≡ first_in_pipe r m c S false (f d) → K ≡ pipes_from (map f xs) → L ≡ pipes_from (map f (take i xs) ++ k ∷ map f (rest_at xs i)) → Some L ≡ first_in_branches r m c S K
  branches-answer S f xs i d k K L h is none e into from =
      ap Some from ∙ ap (λ l. Some (pipes_from (map f (take i xs) ++ k ∷ map f l))) (rest-is xs i) ∙ ap (λ n. Some (pipes_from (map f (take i xs) ++ k ∷ map f (drop n xs)))) (add-one i) ∙ sym (ap (first_in_branches r m c S) into ∙ branches-found S f xs i d k h is none (sym e))

  pub branches-answer_none : {X : Type 0} (S : Shape) (f : X → Pipe) (xs : List X) (i : ℕ) (K : Pipes) → length xs ≤ i → list_all (λ x. is_none (first_in_pipe r m c S false (f x))) (take i xs) ≡ true → K ≡ pipes_from (map f xs) → None ≡ first_in_branches r m c S K
  branches-answer_none S f xs i K h none into =
      sym (ap (first_in_branches r m c S) into ∙ branches-none S f xs (ap (list_all (λ x. is_none (first_in_pipe r m c S false (f x)))) (sym (take_all i xs h)) ∙ none))

  -- ---- steps, from the front of a pipeline on

  nonempty-more : (ss : List Step) (s : Step) → is_nonempty (ss ++ s ∷ []) ≡ true
  nonempty-more [] s = refl
  nonempty-more (t ∷ ss) s = refl

  -- the places among the first steps and those behind them
  abbrev pub Walked : Shape → List Step → List Step → Type 0
  Walked S ss ts = first_in_pipe r m c S false (pipe (ss ++ ts)) ≡ option_map (λ q. pipe (ss ++ steps q)) (first_in_pipe r m c (shape_behind m c S ss) (is_nonempty ss) (pipe ts))

  -- nothing was walked yet
  pub walked-start : (S : Shape) (ts : List Step) → Walked S [] ts
  walked-start S ts = sym (option_map-self (λ q. pipe (steps q)) (first_in_pipe r m c S false (pipe ts)) pipe-steps)

  module _ (S : Shape) (ss : List Step) (s : Step) (ts : List Step) (w : Walked S ss (s ∷ ts)) where
    abbrev pub there : Shape
    there = shape_behind m c S ss

    -- the rule applies at a step
    pub walked-here : (made : List Step) → r m c there (is_nonempty ss) s ts ≡ Some made → first_in_pipe r m c S false (pipe (ss ++ s ∷ ts)) ≡ Some (pipe (ss ++ made))
    walked-here made e =
        w ∙ ap (option_map (λ q. pipe (ss ++ steps q))) (first-Then there (is_nonempty ss) s (pipe ts)
        ∙ ap (λ o. first_some (option_map pipe o) (first_some (option_map (λ s'. Pipe.Then s' (pipe ts)) (first_in_step r m c there s)) (option_map (Pipe.Then s) (first_in_pipe r m c (after m c there s) true (pipe ts)))))
        (ap (r m c there (is_nonempty ss) s) (steps-pipe ts) ∙ e))
        ∙ ap (λ l. Some (pipe (ss ++ l))) (steps-pipe made)

    -- it applies inside the step
    pub walked-inside : (made : Step) → r m c there (is_nonempty ss) s ts ≡ None → first_in_step r m c there s ≡ Some made → first_in_pipe r m c S false (pipe (ss ++ s ∷ ts)) ≡ Some (pipe (ss ++ made ∷ ts))
    walked-inside made e h =
        w ∙ ap (option_map (λ q. pipe (ss ++ steps q))) (first-Then there (is_nonempty ss) s (pipe ts)
        ∙ (λ i. first_some (option_map pipe ((ap (r m c there (is_nonempty ss) s) (steps-pipe ts) ∙ e) i)) (first_some (option_map (λ s'. Pipe.Then s' (pipe ts)) (h i)) (option_map (Pipe.Then s) (first_in_pipe r m c (after m c there s) true (pipe ts))))))
        ∙ ap (λ l. Some (pipe (ss ++ made ∷ l))) (steps-pipe ts)

    -- it applies at neither
    pub walked-past : r m c there (is_nonempty ss) s ts ≡ None → first_in_step r m c there s ≡ None → Walked S (ss ++ s ∷ []) ts
    walked-past e h =
        ap (λ l. first_in_pipe r m c S false (pipe l)) (append_assoc ss (s ∷ []) ts)
        ∙ w ∙ ap (option_map (λ q. pipe (ss ++ steps q))) (first-Then there (is_nonempty ss) s (pipe ts)
        ∙ (λ i. first_some (option_map pipe ((ap (r m c there (is_nonempty ss) s) (steps-pipe ts) ∙ e) i)) (first_some (option_map (λ s'. Pipe.Then s' (pipe ts)) (h i)) (option_map (Pipe.Then s) (first_in_pipe r m c (after m c there s) true (pipe ts))))))
        ∙ option_map-twice (Pipe.Then s) (λ q. pipe (ss ++ steps q)) (λ q. pipe ((ss ++ s ∷ []) ++ steps q)) (first_in_pipe r m c (after m c there s) true (pipe ts)) (λ q. ap pipe (sym (append_assoc ss (s ∷ []) (steps q))))
        ∙ (λ i. option_map (λ q. pipe ((ss ++ s ∷ []) ++ steps q)) (first_in_pipe r m c (sym (behind-more m c S ss s) i) (sym (nonempty-more ss s) i) (pipe ts)))

  -- all steps were walked
  pub walked-all : (S : Shape) (ss : List Step) → Walked S ss [] → first_in_pipe r m c S false (pipe (ss ++ [])) ≡ None
  walked-all S ss w = w ∙ ap (option_map (λ q. pipe (ss ++ steps q))) (first-End (shape_behind m c S ss) (is_nonempty ss))

  -- ---- a loop over the steps of a pipeline

  module _ {X : Type 0} (f : X → Step) (S : Shape) (xs : List X) (i : ℕ) (d : X) (h : i < length xs) (is : d ≡ get_or xs i d) (w : Walked S (map f (take i xs)) (map f (drop i xs))) where
    abbrev pub shape_there : Shape
    shape_there = shape_behind m c S (map f (take i xs))

    abbrev pub before_there : Bool
    before_there = is_nonempty (map f (take i xs))

    walked-to : Walked S (map f (take i xs)) (f d ∷ map f (drop (i + 1) xs))
    walked-to =
        ap (λ l. first_in_pipe r m c S false (pipe (map f (take i xs) ++ l))) (sym (dropped-next f xs i d h is)) ∙ w
        ∙ ap (λ l. option_map (λ q. pipe (map f (take i xs) ++ steps q)) (first_in_pipe r m c shape_there before_there (pipe l))) (dropped-next f xs i d h is)

    at-rest : (o : Option (List Step)) → o ≡ r m c shape_there before_there (f d) (map f (rest_at xs i)) → r m c shape_there before_there (f d) (map f (drop (i + 1) xs)) ≡ o
    at-rest o e = sym (e ∙ ap (λ l. r m c shape_there before_there (f d) (map f l)) (rest-is xs i))

    -- the rule applies at the step
    pub here-answer : (made : List Step) (P Q : Pipe) → Some made ≡ r m c shape_there before_there (f d) (map f (rest_at xs i)) → P ≡ pipe (map f xs) → Q ≡ pipe (map f (take i xs) ++ made) → Some Q ≡ first_in_pipe r m c S false P
    here-answer made P Q e into from =
        ap Some from ∙ sym (ap (first_in_pipe r m c S false) (into ∙ ap pipe (mapped-whole f xs i d h is)) ∙ walked-here S (map f (take i xs)) (f d) (map f (drop (i + 1) xs)) walked-to made (at-rest (Some made) e))

    -- it applies inside the step
    pub inside-answer : (made : Step) (P Q : Pipe) → None ≡ r m c shape_there before_there (f d) (map f (rest_at xs i)) → Some made ≡ first_in_step r m c shape_there (f d) → P ≡ pipe (map f xs)
        → Q ≡ pipe (map f (take i xs) ++ made ∷ map f (rest_at xs i)) → Some Q ≡ first_in_pipe r m c S false P
    inside-answer made P Q e g into from =
        ap Some from ∙ ap (λ l. Some (pipe (map f (take i xs) ++ made ∷ map f l))) (rest-is xs i)
        ∙ sym (ap (first_in_pipe r m c S false) (into ∙ ap pipe (mapped-whole f xs i d h is)) ∙ walked-inside S (map f (take i xs)) (f d) (map f (drop (i + 1) xs)) walked-to made (at-rest None e) (sym g))

    -- it applies at neither
    pub past-answer : None ≡ r m c shape_there before_there (f d) (map f (rest_at xs i)) → None ≡ first_in_step r m c shape_there (f d) → Walked S (map f (take (i + 1) xs)) (map f (drop (i + 1) xs))
    past-answer e g =
        let t = walked-past S (map f (take i xs)) (f d) (map f (drop (i + 1) xs)) walked-to (at-rest None e) (sym g) in
        subst (λ l. Walked S l (map f (drop (i + 1) xs))) (sym (mapped-next f xs i d h is)) t

  -- it applies nowhere
  pub nowhere-answer : {X : Type 0} (f : X → Step) (S : Shape) (xs : List X) (i : ℕ) (P : Pipe) → length xs ≤ i → Walked S (map f (take i xs)) (map f (drop i xs)) → P ≡ pipe (map f xs) → None ≡ first_in_pipe r m c S false P
  nowhere-answer f S xs i P h w into =
      let w' = subst (λ l. Walked S (map f l) (map f (drop i xs))) (take_all i xs h) w in
      let w'' = subst (λ l. Walked S (map f xs) (map f l)) (drop_of_length-le xs h) w' in
      sym (ap (first_in_pipe r m c S false) (into ∙ ap pipe (sym (append-nil (map f xs)))) ∙ walked-all S (map f xs) w'')
