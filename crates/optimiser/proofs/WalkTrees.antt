-- Trees that a walk has settled, as the program makes them: each form of tree, and lists of steps, branches and keys.
use Rattle.std.proofs.Common.{◌≡◌, refl, sym, ◌∙◌, ap, ℕ, ◌+◌, ◌<◌, ◌≤◌, Bool, List, [], ◌∷◌, ◌++◌, Option, Some, None, true, false, map, take, drop, length, get_or}
use Rattle.std.specs.Prelude.{option_map, unwrap_or, if◌then◌else◌}
use Rattle.std.specs.Bool.{then_some}
use Rattle.std.proofs.lemmas.List.{map-append, take_all}
use Rattle.std.proofs.Math.ListN.{drop_of_length-le}
use Rattle.edm_values.specs.Names.{Name, Path}
use Rattle.edm_values.specs.declared.EdmType.{EdmType}
use Rattle.edm_model.specs.LookUps.{HierarchyPlace}
use Rattle.edm_model.specs.Models.{Model, Navigation}
use Rattle.apply_ast.specs.Trees.{Expr, HierName, Key, Keys, OptPipe, Pipe, Pipes, Step, pipe}
use Rattle.apply_ast.specs.Views.{keys_from, pipes_from}
use Rattle.context_typing.specs.Shapes.{Shape, set_shape}
use Rattle.context_typing.specs.Steps.{nodes_at}
use Rattle.context_typing.specs.Typing.{Customs, after, hierarchy_at, join_navigation, steps_shape}
use Rattle.rewrite_forms.proofs.CutLists.{dropped-next, mapped-next}
use Rattle.walk_laws.specs.Walks.{Rules, Segment, front, is_late, put_step, put_steps, settled_branches, settled_inner, settled_key, settled_keys, settled_step, whole, without_idle}
use Rattle.optimiser.specs.WalkForms.{of_filters, settled_on, walked}

-- ---- shapes behind steps that leave the shape

kept : (b : Bool) (S : Shape) → unwrap_or (then_some b S) S ≡ S
kept true S = refl
kept false S = refl

module _ (m : Model) (c : Customs) (S : Shape) where
  pub after-Identity : after m c S Step.Identity ≡ S
  unfolding steps_shape
  after-Identity = refl

  pub after-Filter : (e : Expr) → after m c S (Step.Filter e) ≡ S
  unfolding steps_shape
  after-Filter e = kept _ S

-- ---- steps, one after the other

-- a step without inner pipelines
abbrev pub is_plain : Step → Bool
is_plain (Step.GroupBy ks T) = false
is_plain (Step.Concat ps) = false
is_plain (Step.Join outer n a T) = false
is_plain (Step.Climb up h p T d keep) = false
is_plain s = true

module _ (r : Rules) (m : Model) (c : Customs) where
  put_steps-Then : (S : Shape) (s : Step) (p : Pipe) (gs : List Segment) → put_steps r m c S (Pipe.Then s p) gs ≡ put_steps r m c (after m c S s) p (put_step r m c S s (settled_step r m c S s) gs)
  unfolding put_steps
  put_steps-Then S s p gs = refl

  put_steps-End : (S : Shape) (gs : List Segment) → put_steps r m c S Pipe.End gs ≡ gs
  unfolding put_steps
  put_steps-End S gs = refl

  -- before a step of a list and behind it
  pub put-next : {X : Type 0} (f : X → Step) (S S' : Shape) (xs : List X) (i : ℕ) (d : X) (gs gs' : List Segment) → i < length xs → d ≡ get_or xs i d → gs' ≡ put_step r m c S (f d) (settled_step r m c S (f d)) gs → S' ≡ after m c S (f d)
      → put_steps r m c S' (pipe (map f (drop (i + 1) xs))) gs' ≡ put_steps r m c S (pipe (map f (drop i xs))) gs
  put-next f S S' xs i d gs gs' h is put next =
      (λ k. put_steps r m c (next k) (pipe (map f (drop (i + 1) xs))) (put k))
      ∙ sym (put_steps-Then S (f d) (pipe (map f (drop (i + 1) xs))) gs)
      ∙ ap (λ l. put_steps r m c S (pipe l) gs) (sym (dropped-next f xs i d h is))

  -- behind the last step
  pub put-all : {X : Type 0} (f : X → Step) (S : Shape) (xs : List X) (i : ℕ) (gs : List Segment) → length xs ≤ i → put_steps r m c S (pipe (map f (drop i xs))) gs ≡ gs
  put-all f S xs i gs h = ap (λ l. put_steps r m c S (pipe (map f l)) gs) (drop_of_length-le xs h) ∙ put_steps-End S gs

-- ---- steps, once filters have gone into them

module _ (r : Rules) (m : Model) (c : Customs) (es : List Expr) where
  -- ---- branches and keys

  pub branches-settled : {X : Type 0} (f : X → Pipe) (S : Shape) (xs : List X) → settled_branches r m c S (pipes_from (map f xs)) es ≡ pipes_from (map (λ x. walked r m c S (f x) es None) xs)
  unfolding put_steps
  branches-settled f S [] = refl
  branches-settled f S (x ∷ xs) = ap (Pipes.MorePipes (walked r m c S (f x) es None)) (branches-settled f S xs)

  pub keys-settled : {X : Type 0} (f : X → Key) (xs : List X) → settled_keys r m c (keys_from (map f xs)) es ≡ keys_from (map (λ x. settled_key r m c (f x) es) xs)
  unfolding put_steps
  keys-settled f [] = refl
  keys-settled f (x ∷ xs) = ap (Keys.MoreKeys (settled_key r m c (f x) es)) (keys-settled f xs)

  -- ---- inner pipelines

  pub settled-NoPipe : (S : Shape) → settled_inner r m c S OptPipe.NoPipe es ≡ of_filters m S es
  unfolding put_steps
  settled-NoPipe S = go es
    where
      go : (es : List Expr) → settled_inner r m c S OptPipe.NoPipe es ≡ of_filters m S es
      go [] = refl
      go (e ∷ es) = refl

  pub settled-SomePipe : (S : Shape) (p : Pipe) → settled_inner r m c S (OptPipe.SomePipe p) es ≡ OptPipe.SomePipe (walked r m c S p es None)
  unfolding put_steps
  settled-SomePipe S p = refl

  -- ---- keys

  pub settled-Plain : (p : Path) → settled_key r m c (Key.Plain p) es ≡ Key.Plain p
  unfolding put_steps
  settled-Plain p = refl

  pub settled-Rollup : (all : Bool) (ps : List Path) → settled_key r m c (Key.Rollup all ps) es ≡ Key.Rollup all ps
  unfolding put_steps
  settled-Rollup all ps = refl

  pub settled-Recursive : (h : HierName) (p : Path) (T : OptPipe) (of : Option ℕ) → of ≡ option_map (λ x. x.0) (nodes_at m h) → settled_key r m c (Key.Recursive h p T) es ≡ Key.Recursive h p (settled_on r m c of T es)
  unfolding put_steps
  settled-Recursive h p T of e = go (hierarchy_at m h) ∙ ap (λ o. Key.Recursive h p (settled_on r m c o T es)) (sym e)
    where
      go : (o : Option HierarchyPlace) → Key.Recursive h p (elim o [ None ↦ T | Some f ↦ settled_inner r m c (set_shape f.type) T es ])
          ≡ Key.Recursive h p (settled_on r m c (option_map {U = ℕ} (λ (x : ℕ × EdmType). x.0) (option_map {U = ℕ × EdmType} (λ f. (f.type, f.key.kind)) o)) T es)
      go None = refl
      go (Some f) = refl

  -- ---- steps

  pub settled-plain : (S : Shape) (s : Step) → is_plain s ≡ true → settled_step r m c S s es ≡ s
  unfolding put_steps
  settled-plain S (Step.GroupBy ks T) e = cc
  settled-plain S (Step.Concat ps) e = cc
  settled-plain S (Step.Join outer n a T) e = cc
  settled-plain S (Step.Climb up h p T d keep) e = cc
  settled-plain S s e = refl

  pub settled-GroupBy : (S : Shape) (ks : Keys) (T : OptPipe) → settled_step r m c S (Step.GroupBy ks T) es ≡ Step.GroupBy (settled_keys r m c ks es) (settled_inner r m c S T [])
  unfolding put_steps
  settled-GroupBy S ks T = refl

  pub settled-Concat : (S : Shape) (ps : Pipes) → settled_step r m c S (Step.Concat ps) es ≡ Step.Concat (settled_branches r m c S ps es)
  unfolding put_steps
  settled-Concat S ps = refl

  pub settled-Join : (S : Shape) (outer : Bool) (n a : Name) (T : OptPipe) (of : Option ℕ) → of ≡ option_map (λ v. v.target) (join_navigation m S n) → settled_step r m c S (Step.Join outer n a T) es ≡ Step.Join outer n a (settled_on r m c of T es)
  unfolding put_steps
  settled-Join S outer n a T of e = go (join_navigation m S n) ∙ ap (λ o. Step.Join outer n a (settled_on r m c o T es)) (sym e)
    where
      go : (o : Option Navigation) → Step.Join outer n a (elim o [ None ↦ T | Some v ↦ settled_inner r m c (set_shape v.target) T es ]) ≡ Step.Join outer n a (settled_on r m c (option_map (λ v. v.target) o) T es)
      go None = refl
      go (Some v) = refl

  pub settled-Climb : (S : Shape) (up : Bool) (h : HierName) (p : Path) (T : Pipe) (d : Option ℕ) (keep : Bool) → settled_step r m c S (Step.Climb up h p T d keep) es ≡ Step.Climb up h p (walked r m c S T [] (then_some (is_late r) p)) d keep
  unfolding put_steps
  settled-Climb S up h p T d keep = go (is_late r)
    where
      go : (b : Bool) → Step.Climb up h p (whole (if b then without_idle p (put_steps r m c S T front) else put_steps r m c S T front)) d keep ≡ Step.Climb up h p (walked r m c S T [] (then_some b p)) d keep
      go true = refl
      go false = refl

  -- ---- what loops give

  -- a loop over a list has put one element more
  pub made-next : {X Y : Type 0} (f g : X → Y) (xs ys : List X) (i : ℕ) (d y : X) → i < length xs → d ≡ get_or xs i d → map f ys ≡ map g (take i xs) → f y ≡ g d → map f (ys ++ y ∷ []) ≡ map g (take (i + 1) xs)
  made-next f g xs ys i d y h is so_far e = map-append f ys (y ∷ []) ∙ (λ k. so_far k ++ e k ∷ []) ∙ sym (mapped-next g xs i d h is)

  pub branches-answer : {X : Type 0} (f : X → Pipe) (S : Shape) (xs ys : List X) (i : ℕ) (B R : Pipes) → length xs ≤ i → map f ys ≡ map (λ x. walked r m c S (f x) es None) (take i xs) → B ≡ pipes_from (map f xs) → R ≡ pipes_from (map f ys) → R ≡ settled_branches r m c S B es
  branches-answer f S xs ys i B R h made into from =
      from ∙ ap pipes_from (made ∙ ap (map (λ x. walked r m c S (f x) es None)) (take_all i xs h)) ∙ sym (ap (λ B. settled_branches r m c S B es) into ∙ branches-settled f S xs)

  pub keys-answer : {X : Type 0} (f : X → Key) (xs ys : List X) (i : ℕ) (K R : Keys) → length xs ≤ i → map f ys ≡ map (λ x. settled_key r m c (f x) es) (take i xs) → K ≡ keys_from (map f xs) → R ≡ keys_from (map f ys) → R ≡ settled_keys r m c K es
  keys-answer f xs ys i K R h made into from =
      from ∙ ap keys_from (made ∙ ap (map (λ x. settled_key r m c (f x) es)) (take_all i xs h)) ∙ sym (ap (λ K. settled_keys r m c K es) into ∙ keys-settled f xs)

  -- ---- what is made of a tree of a known form

  pub none-answer : (S : Shape) (T U : OptPipe) → T ≡ OptPipe.NoPipe → U ≡ of_filters m S es → U ≡ settled_inner r m c S T es
  none-answer S T U into e = e ∙ sym (ap (λ T. settled_inner r m c S T es) into ∙ settled-NoPipe S)

  pub some-answer : (S : Shape) (p q : Pipe) (T : OptPipe) → T ≡ OptPipe.SomePipe p → q ≡ walked r m c S p es None → OptPipe.SomePipe q ≡ settled_inner r m c S T es
  some-answer S p q T into e = ap OptPipe.SomePipe e ∙ sym (ap (λ T. settled_inner r m c S T es) into ∙ settled-SomePipe S p)

  pub recursive-answer : (h : HierName) (p : Path) (T T' : OptPipe) (of : Option ℕ) (k k' : Key) → k ≡ Key.Recursive h p T → of ≡ option_map (λ x. x.0) (nodes_at m h) → T' ≡ settled_on r m c of T es → k' ≡ Key.Recursive h p T' → k' ≡ settled_key r m c k es
  recursive-answer h p T T' of k k' into at e from = from ∙ ap (Key.Recursive h p) e ∙ sym (ap (λ k. settled_key r m c k es) into ∙ settled-Recursive h p T of at)

  pub group-answer : (S : Shape) (ks ks' : Keys) (T T' : OptPipe) (s s' : Step) → s ≡ Step.GroupBy ks T → ks' ≡ settled_keys r m c ks es → T' ≡ settled_inner r m c S T [] → s' ≡ Step.GroupBy ks' T' → s' ≡ settled_step r m c S s es
  group-answer S ks ks' T T' s s' into a b from = from ∙ (λ i. Step.GroupBy (a i) (b i)) ∙ sym (ap (λ s. settled_step r m c S s es) into ∙ settled-GroupBy S ks T)

  pub concat-answer : (S : Shape) (ps ps' : Pipes) (s s' : Step) → s ≡ Step.Concat ps → ps' ≡ settled_branches r m c S ps es → s' ≡ Step.Concat ps' → s' ≡ settled_step r m c S s es
  concat-answer S ps ps' s s' into e from = from ∙ ap Step.Concat e ∙ sym (ap (λ s. settled_step r m c S s es) into ∙ settled-Concat S ps)

  pub join-answer : (S : Shape) (outer : Bool) (n a : Name) (T T' : OptPipe) (of : Option ℕ) (s s' : Step) → s ≡ Step.Join outer n a T → of ≡ option_map (λ v. v.target) (join_navigation m S n) → T' ≡ settled_on r m c of T es → s' ≡ Step.Join outer n a T' → s' ≡ settled_step r m c S s es
  join-answer S outer n a T T' of s s' into at e from = from ∙ ap (Step.Join outer n a) e ∙ sym (ap (λ s. settled_step r m c S s es) into ∙ settled-Join S outer n a T of at)

  pub climb-answer : (S : Shape) (up : Bool) (h : HierName) (p : Path) (T T' : Pipe) (d : Option ℕ) (keep : Bool) (s s' : Step) → s ≡ Step.Climb up h p T d keep → T' ≡ walked r m c S T [] (then_some (is_late r) p) → s' ≡ Step.Climb up h p T' d keep → s' ≡ settled_step r m c S s es
  climb-answer S up h p T T' d keep s s' into e from = from ∙ ap (λ q. Step.Climb up h p q d keep) e ∙ sym (ap (λ s. settled_step r m c S s es) into ∙ settled-Climb S up h p T d keep)
