-- Joins, groupings and climbs by what stands around a pipeline inside them.
use Rattle.std.proofs.Common.{◌==◌, ◌≡◌, refl, sym, ◌∙◌, ap, subst, Bool, true, false, not, ◌&&◌, ℕ, List, [], ◌∷◌, ◌++◌, Option, Some, None, IsTrue, map, Contains, arith, if◌then◌else◌}
use Rattle.std.specs.Prelude.{option_and_then, option_map}
use Rattle.std.specs.Bool.{then_some}
use Rattle.std.specs.List.{list_any}
use Rattle.std.proofs.lemmas.Bool.{and_from, and_parts, true≢false}
use Rattle.std.proofs.lemmas.List.Elements.{Contains-append_left, Contains-append_right}
use Rattle.edm_values.specs.Lists.{is_nonempty, is_some_and}
use Rattle.edm_values.specs.Literals.{is_boolean_kind}
use Rattle.edm_values.specs.Names.{Name, Path}
use Rattle.edm_values.proofs.EachLemmas.{Each, each-contains, each-weaker}
use Rattle.edm_values.proofs.OptionFacts.{and_3, chained, if_else-parts, some_and, then_some-parts}
use Rattle.edm_model.specs.LookUps.{HierarchyPlace}
use Rattle.edm_model.specs.Models.{Model, Navigation}
use Rattle.apply_ast.specs.Trees.{Expr, HierName, Key, Keys, OptPipe, Pipe, Step, TopStep, is_distance, is_long}
use Rattle.context_typing.specs.Shapes.{Shape, set_shape}
use Rattle.context_typing.specs.Typing.{Customs, RollupPart, customs_typed, group_keys, grouped_shape, has_kind, hierarchy_at, inner_quiet, inner_shape, is_free, is_lawful, is_node_path, is_nodes, is_quiet, is_risky, is_sure, join_navigation, joined_shape, key_paths, key_typed, keys_typed, no_shape, plain_paths, rollup_part, rollup_parts, rollup_paths, root_type, step_shape, steps_shape}
use Rattle.rewrite_laws.specs.RewriteLaws.{IsTypedFrom}
use Rattle.rewrite_laws.specs.Rewrites.{Rule, inner_results, key_results, keys_results, node_shape, on_node, over, paths, pipe_results, rollup_keys_in_every_row, step_results}
use Rattle.walk_laws.specs.Apart.{is_firm, is_loose, leads_to, never_first}
use Rattle.walk_laws.specs.FiltersOut.{gives_alone, inner_gives, key_gives, keys_give, lasts, may_give, solid_kind}
use Rattle.walk_laws.specs.Walks.{All, Segment, chooses_nodes, front, is_order, joined_count, put_filters, put_step, put_steps, segment, settled_inner, settled_key, settled_keys, settled_step, shape_behind, step_enters, step_lets, step_passed, whole, without_idle}
use Rattle.walk_laws.proofs.ApartPlaces.{climb-leads, join-leads}
use Rattle.walk_laws.proofs.ApartSteps.{grouping-leads}
use Rattle.walk_laws.proofs.Unsplit.{append-none, map-none}

-- keys before and behind one
abbrev pub keys_with : List Key → Key → Keys → Keys
keys_with [] k ks = Keys.MoreKeys k ks
keys_with (x ∷ xs) k ks = Keys.MoreKeys x (keys_with xs k ks)

-- what stands around an inner pipeline: a join by a navigation property, a grouping by keys, one in which the pipeline chooses the nodes of a key, or a climb from start nodes
pub data Hole : Type 0 where
  Related : Bool → Name → Name → Navigation → Hole
  Grouped : Keys → Hole
  Chosen : List Key → HierName → Path → HierarchyPlace → Keys → OptPipe → Hole
  Climbed : Bool → HierName → Path → Option ℕ → Bool → Hole

-- the step with a pipeline inside
abbrev pub filled : Hole → Pipe → Step
filled (Hole.Related outer n a v) p = Step.Join outer n a (OptPipe.SomePipe p)
filled (Hole.Grouped ks) p = Step.GroupBy ks (OptPipe.SomePipe p)
filled (Hole.Chosen left h x f right T) p = Step.GroupBy (keys_with left (Key.Recursive h x (OptPipe.SomePipe p)) right) T
filled (Hole.Climbed up h x d keep) p = Step.Climb up h x p d keep

-- the shape on which the pipeline inside stands
abbrev pub inside : Shape → Hole → Shape
inside S (Hole.Related outer n a v) = set_shape v.target
inside S (Hole.Grouped ks) = S
inside S (Hole.Chosen left h x f right T) = set_shape f.type
inside S (Hole.Climbed up h x d keep) = S

-- the property is one of the shape's, and the hierarchy one of the model's
abbrev pub IsThere : Model → Shape → Hole → Type 0
IsThere m S (Hole.Related outer n a v) = join_navigation m S n ≡ Some v
IsThere m S (Hole.Grouped ks) = S ≡ S
IsThere m S (Hole.Chosen left h x f right T) = hierarchy_at m h ≡ Some f
IsThere m S (Hole.Climbed up h x d keep) = S ≡ S

-- the filters that go into the pipeline inside, of those that go into the step
abbrev pub into : Hole → List Expr → List Expr
into (Hole.Related outer n a v) es = es
into (Hole.Grouped ks) es = []
into (Hole.Chosen left h x f right T) es = es
into (Hole.Climbed up h x d keep) es = []

-- what stands around it, once filters have gone into the step
abbrev pub around : Model → Customs → Shape → Hole → List Expr → Hole
around m c S (Hole.Related outer n a v) es = Hole.Related outer n a v
around m c S (Hole.Grouped ks) es = Hole.Grouped (settled_keys All m c ks es)
around m c S (Hole.Chosen left h x f right T) es = Hole.Chosen (map (λ k. settled_key All m c k es) left) h x f (settled_keys All m c right es) (settled_inner All m c S T [])
around m c S (Hole.Climbed up h x d keep) es = Hole.Climbed up h x d keep

-- the segments of the pipeline inside, without those that are idle at the end
abbrev pub ending : Hole → List Segment → List Segment
ending (Hole.Related outer n a v) gs = gs
ending (Hole.Grouped ks) gs = gs
ending (Hole.Chosen left h x f right T) gs = gs
ending (Hole.Climbed up h x d keep) gs = without_idle x gs

-- ---- elements of lists

pub each-mapped : {X Y : Type 0} (f : X → Y) (xs : List X) → Each (λ x. Contains (map f xs) (f x)) xs
each-mapped f [] = tt
each-mapped f (x ∷ xs) = ((0, omega arith, refl), each-weaker (λ y. Contains (map f xs) (f y)) (λ y. Contains (f x ∷ map f xs) (f y)) xs (λ y k. Contains-append_right (f x ∷ []) (map f xs) (f y) k) (each-mapped f xs))

pub contains-map : {X Y : Type 0} (f : X → Y) (xs : List X) (x : X) → Contains xs x → Contains (map f xs) (f x)
contains-map f xs x k = each-contains (λ y. Contains (map f xs) (f y)) xs x (each-mapped f xs) k

-- ---- what does not hang on the pipeline inside

pub hole-loose : (h : Hole) (p : Pipe) → is_loose (filled h p) ≡ false
hole-loose (Hole.Related outer n a v) p = refl
hole-loose (Hole.Grouped ks) p = refl
hole-loose (Hole.Chosen left h x f right T) p = refl
hole-loose (Hole.Climbed up h x d keep) p = refl

pub hole-firm : (h : Hole) (p : Pipe) → is_firm (filled h p) ≡ false
hole-firm (Hole.Related outer n a v) p = refl
hole-firm (Hole.Grouped ks) p = refl
hole-firm (Hole.Chosen left h x f right T) p = refl
hole-firm (Hole.Climbed up h x d keep) p = refl

pub hole-leads : (h : Hole) (x : Step) (p q z : Pipe) → is_firm x ≡ true → leads_to x (Pipe.Then (filled h q) z) ≡ leads_to x (Pipe.Then (filled h p) z)
hole-leads (Hole.Related outer n a v) x p q z f = join-leads x outer n a (OptPipe.SomePipe p) (OptPipe.SomePipe q) z f
hole-leads (Hole.Grouped ks) x p q z f = grouping-leads x ks ks (OptPipe.SomePipe p) (OptPipe.SomePipe q) f z z
hole-leads (Hole.Chosen left h y f right T) x p q z g = grouping-leads x (keys_with left (Key.Recursive h y (OptPipe.SomePipe p)) right) (keys_with left (Key.Recursive h y (OptPipe.SomePipe q)) right) T T g z z
hole-leads (Hole.Climbed up h y d keep) x p q z f = climb-leads x up h y p q d keep z f

pub hole-order : (h : Hole) (p : Pipe) → is_order (Some (filled h p)) ≡ false
hole-order (Hole.Related outer n a v) p = refl
hole-order (Hole.Grouped ks) p = refl
hole-order (Hole.Chosen left h x f right T) p = refl
hole-order (Hole.Climbed up h x d keep) p = refl

pub hole-count : (h : Hole) (p : Pipe) (t : TopStep) → joined_count (Some (filled h p)) t ≡ None
hole-count (Hole.Related outer n a v) p t = refl
hole-count (Hole.Grouped ks) p t = refl
hole-count (Hole.Chosen left h x f right T) p t = refl
hole-count (Hole.Climbed up h x d keep) p t = refl

pub hole-kind : (h : Hole) (p q : Pipe) → solid_kind (filled h q) ≡ solid_kind (filled h p)
hole-kind (Hole.Related outer n a v) p q = refl
hole-kind (Hole.Grouped ks) p q = refl
hole-kind (Hole.Chosen left h x f right T) p q = refl
hole-kind (Hole.Climbed up h x d keep) p q = refl

pub hole-lasts : (h : Hole) (p z : Pipe) → lasts (Pipe.Then (filled h p) z) ≡ true
hole-lasts (Hole.Related outer n a v) p z = refl
hole-lasts (Hole.Grouped ks) p z = refl
hole-lasts (Hole.Chosen left h x f right T) p z = refl
hole-lasts (Hole.Climbed up h x d keep) p z = refl

pub hole-never : (h : Hole) (x : Step) (p q z : Pipe) → never_first x (Pipe.Then (filled h q) z) ≡ never_first x (Pipe.Then (filled h p) z)
hole-never (Hole.Related outer n a v) x p q z = refl
hole-never (Hole.Grouped ks) x p q z = refl
hole-never (Hole.Chosen left h y f right T) x p q z = refl
hole-never (Hole.Climbed up h y d keep) x p q z = refl

-- both parts hold, where those of others do
both-parts : (a b c d : Bool) → (a ≡ true → c ≡ true) → (b ≡ true → d ≡ true) → (a && b) ≡ true → (c && d) ≡ true
both-parts true b c d f g e = and_from c d (f refl) (g e)
both-parts false b c d f g e = absurd (true≢false (sym e))

chosen-gives : (left : List Key) (h : HierName) (x : Path) (right : Keys) (p q : Pipe) → (may_give true true p ≡ true → may_give true true q ≡ true)
    → keys_give (keys_with left (Key.Recursive h x (OptPipe.SomePipe p)) right) ≡ true → keys_give (keys_with left (Key.Recursive h x (OptPipe.SomePipe q)) right) ≡ true
chosen-gives [] h x right p q f = both-parts (may_give true true p) (keys_give right) (may_give true true q) (keys_give right) f (λ e. e)
chosen-gives (k ∷ left) h x right p q f =
    both-parts (key_gives k) (keys_give (keys_with left (Key.Recursive h x (OptPipe.SomePipe p)) right)) (key_gives k) (keys_give (keys_with left (Key.Recursive h x (OptPipe.SomePipe q)) right)) (λ e. e) (chosen-gives left h x right p q f)

-- the pipeline inside gives filters alone, and so does another
pub hole-gives : (h : Hole) (p q : Pipe) → (may_give true true p ≡ true → may_give true true q ≡ true) → gives_alone true (filled h p) ≡ true → gives_alone true (filled h q) ≡ true
hole-gives (Hole.Related outer n a v) p q f e = f e
hole-gives (Hole.Climbed up h x d keep) p q f e = f e
hole-gives (Hole.Chosen left h x g right T) p q f e =
    both-parts (keys_give (keys_with left (Key.Recursive h x (OptPipe.SomePipe p)) right)) (inner_gives T) (keys_give (keys_with left (Key.Recursive h x (OptPipe.SomePipe q)) right)) (inner_gives T) (chosen-gives left h x right p q f) (λ e. e) e
hole-gives (Hole.Grouped ks) p q f e = both-parts (keys_give ks) (may_give true true p) (keys_give ks) (may_give true true q) (λ e. e) f e

-- ---- keys that differ in the pipeline that chooses the nodes

chosen-plain : (left : List Key) (h : HierName) (x : Path) (right : Keys) (T T' : OptPipe) → plain_paths (keys_with left (Key.Recursive h x T') right) ≡ plain_paths (keys_with left (Key.Recursive h x T) right)
chosen-plain [] h x right T T' = refl
chosen-plain (Key.Plain y ∷ left) h x right T T' = ap (λ l. y ∷ l) (chosen-plain left h x right T T')
chosen-plain (Key.Rollup all ys ∷ left) h x right T T' = chosen-plain left h x right T T'
chosen-plain (Key.Recursive h' y U ∷ left) h x right T T' = chosen-plain left h x right T T'

chosen-parts : (left : List Key) (h : HierName) (x : Path) (right : Keys) (T T' : OptPipe) → rollup_parts (keys_with left (Key.Recursive h x T') right) ≡ rollup_parts (keys_with left (Key.Recursive h x T) right)
chosen-parts [] h x right T T' = refl
chosen-parts (Key.Plain y ∷ left) h x right T T' = chosen-parts left h x right T T'
chosen-parts (Key.Rollup all ys ∷ left) h x right T T' = ap (λ l. RollupPart.Levels all ys ∷ l) (chosen-parts left h x right T T')
chosen-parts (Key.Recursive h' y U ∷ left) h x right T T' = ap (λ l. RollupPart.Nodes h' y ∷ l) (chosen-parts left h x right T T')

chosen-keys : (left : List Key) (h : HierName) (x : Path) (right : Keys) (T T' : OptPipe) → group_keys (keys_with left (Key.Recursive h x T') right) ≡ group_keys (keys_with left (Key.Recursive h x T) right)
chosen-keys left h x right T T' = λ i. record { plain = chosen-plain left h x right T T' i; parts = chosen-parts left h x right T T' i }

module _ (m : Model) (c : Customs) where
  -- ---- what a rule makes among keys

  -- of what is there
  abbrev OfKey : Rule → HierName → Path → OptPipe → Option HierarchyPlace → List Key
  OfKey r h x T o = elim o [ None ↦ [] | Some f ↦ map (Key.Recursive h x) (inner_results r m c (set_shape f.type) T) ]

  chosen-made : (r : Rule) (left : List Key) (h : HierName) (x : Path) (f : HierarchyPlace) (right : Keys) (p q : Pipe) → hierarchy_at m h ≡ Some f → Contains (pipe_results r m c (set_shape f.type) false p) q
      → Contains (keys_results r m c (keys_with left (Key.Recursive h x (OptPipe.SomePipe p)) right)) (keys_with left (Key.Recursive h x (OptPipe.SomePipe q)) right)
  unfolding pipe_results
  chosen-made r [] h x f right p q e k =
      let was = Key.Recursive h x (OptPipe.SomePipe p) in
      let now = Key.Recursive h x (OptPipe.SomePipe q) in
      let P : Option HierarchyPlace → Type 0 = λ o. Contains (OfKey r h x (OptPipe.SomePipe p) o) now in
      let U = set_shape f.type in
      let there : Contains (key_results r m c was) now = subst P (sym e)
      (contains-map (Key.Recursive h x) (map OptPipe.SomePipe (pipe_results r m c U false p)) (OptPipe.SomePipe q) (contains-map OptPipe.SomePipe (pipe_results r m c U false p) q k)) in
      Contains-append_left (map (λ k. Keys.MoreKeys k right) (key_results r m c was)) (map (Keys.MoreKeys was) (keys_results r m c right)) (Keys.MoreKeys now right) (contains-map (λ k. Keys.MoreKeys k right) (key_results r m c was) now there)
  chosen-made r (y ∷ left) h x f right p q e k =
      let was = keys_with left (Key.Recursive h x (OptPipe.SomePipe p)) right in
      let now = keys_with left (Key.Recursive h x (OptPipe.SomePipe q)) right in
      Contains-append_right (map (λ k. Keys.MoreKeys k was) (key_results r m c y)) (map (Keys.MoreKeys y) (keys_results r m c was)) (Keys.MoreKeys y now) (contains-map (Keys.MoreKeys y) (keys_results r m c was) now (chosen-made r left h x f right p q e k))

  chosen-nothing : (r : Rule) (left : List Key) (h : HierName) (x : Path) (f : HierarchyPlace) (right : Keys) (p : Pipe) → hierarchy_at m h ≡ Some f → keys_results r m c (keys_with left (Key.Recursive h x (OptPipe.SomePipe p)) right) ≡ [] → pipe_results r m c (set_shape f.type) false p ≡ []
  unfolding pipe_results
  chosen-nothing r [] h x f right p e k =
      let was = Key.Recursive h x (OptPipe.SomePipe p) in
      let P : Option HierarchyPlace → Type 0 = λ o. OfKey r h x (OptPipe.SomePipe p) o ≡ [] in
      let t = append-none (map (λ k. Keys.MoreKeys k right) (key_results r m c was)) (map (Keys.MoreKeys was) (keys_results r m c right)) k in
      map-none OptPipe.SomePipe _ (map-none (Key.Recursive h x) _ (subst P e (map-none (λ k. Keys.MoreKeys k right) (key_results r m c was) t.0)))
  chosen-nothing r (y ∷ left) h x f right p e k =
      let was = keys_with left (Key.Recursive h x (OptPipe.SomePipe p)) right in
      let t = append-none (map (λ k. Keys.MoreKeys k was) (key_results r m c y)) (map (Keys.MoreKeys y) (keys_results r m c was)) k in
      chosen-nothing r left h x f right p e (map-none (Keys.MoreKeys y) (keys_results r m c was) t.1)

  chosen-still : (r : Rule) (left : List Key) (h : HierName) (x : Path) (f : HierarchyPlace) (right : Keys) (p q : Pipe) → hierarchy_at m h ≡ Some f → keys_results r m c (keys_with left (Key.Recursive h x (OptPipe.SomePipe p)) right) ≡ []
      → pipe_results r m c (set_shape f.type) false q ≡ [] → keys_results r m c (keys_with left (Key.Recursive h x (OptPipe.SomePipe q)) right) ≡ []
  unfolding pipe_results
  chosen-still r [] h x f right p q e k none =
      let was = Key.Recursive h x (OptPipe.SomePipe p) in
      let now = Key.Recursive h x (OptPipe.SomePipe q) in
      let P : Option HierarchyPlace → Type 0 = λ o. OfKey r h x (OptPipe.SomePipe q) o ≡ [] in
      let t = append-none (map (λ k. Keys.MoreKeys k right) (key_results r m c was)) (map (Keys.MoreKeys was) (keys_results r m c right)) k in
      let here : key_results r m c now ≡ [] = subst P (sym e) (ap (λ l. map (Key.Recursive h x) (map OptPipe.SomePipe l)) none) in
      λ i. map (λ k. Keys.MoreKeys k right) (here i) ++ map (Keys.MoreKeys now) (map-none (Keys.MoreKeys was) (keys_results r m c right) t.1 i)
  chosen-still r (y ∷ left) h x f right p q e k none =
      let was = keys_with left (Key.Recursive h x (OptPipe.SomePipe p)) right in
      let now = keys_with left (Key.Recursive h x (OptPipe.SomePipe q)) right in
      let t = append-none (map (λ k. Keys.MoreKeys k was) (key_results r m c y)) (map (Keys.MoreKeys y) (keys_results r m c was)) k in
      λ i. map (λ k. Keys.MoreKeys k now) (map-none (λ k. Keys.MoreKeys k was) (key_results r m c y) t.0 i) ++ map (Keys.MoreKeys y) (chosen-still r left h x f right p q e (map-none (Keys.MoreKeys y) (keys_results r m c was) t.1) none i)

  -- ---- what a rule makes inside

  -- of what is there
  abbrev pub OfJoin : Rule → Bool → Name → Name → OptPipe → Option Navigation → List Step
  OfJoin r outer n a T o = elim o [ None ↦ [] | Some v ↦ map (Step.Join outer n a) (inner_results r m c (set_shape v.target) T) ]

  pub hole-made : (r : Rule) (h : Hole) (S : Shape) (p q : Pipe) → IsThere m S h → Contains (pipe_results r m c (inside S h) false p) q → Contains (step_results r m c S (filled h p)) (filled h q)
  unfolding pipe_results
  hole-made r (Hole.Related outer n a v) S p q e k =
      let P : Option Navigation → Type 0 = λ o. Contains (OfJoin r outer n a (OptPipe.SomePipe p) o) (Step.Join outer n a (OptPipe.SomePipe q)) in
      subst P (sym e)
      (contains-map (Step.Join outer n a) (map OptPipe.SomePipe (pipe_results r m c (set_shape v.target) false p)) (OptPipe.SomePipe q) (contains-map OptPipe.SomePipe (pipe_results r m c (set_shape v.target) false p) q k))
  hole-made r (Hole.Grouped ks) S p q e k =
      Contains-append_right (map (λ ks'. Step.GroupBy ks' (OptPipe.SomePipe p)) (keys_results r m c ks)) (map (Step.GroupBy ks) (map OptPipe.SomePipe (pipe_results r m c S false p))) (Step.GroupBy ks (OptPipe.SomePipe q))
      (contains-map (Step.GroupBy ks) (map OptPipe.SomePipe (pipe_results r m c S false p)) (OptPipe.SomePipe q) (contains-map OptPipe.SomePipe (pipe_results r m c S false p) q k))
  hole-made r (Hole.Chosen left h x f right T) S p q e k =
      let was = keys_with left (Key.Recursive h x (OptPipe.SomePipe p)) right in
      let now = keys_with left (Key.Recursive h x (OptPipe.SomePipe q)) right in
      Contains-append_left (map (λ ks'. Step.GroupBy ks' T) (keys_results r m c was)) (map (Step.GroupBy was) (inner_results r m c S T)) (Step.GroupBy now T)
      (contains-map (λ ks'. Step.GroupBy ks' T) (keys_results r m c was) now (chosen-made r left h x f right p q e k))
  hole-made r (Hole.Climbed up h x d keep) S p q e k = contains-map (λ z. Step.Climb up h x z d keep) (pipe_results r m c S false p) q k

  -- a rule makes nothing inside
  pub hole-nothing : (r : Rule) (h : Hole) (S : Shape) (p : Pipe) → IsThere m S h → step_results r m c S (filled h p) ≡ [] → pipe_results r m c (inside S h) false p ≡ []
  unfolding pipe_results
  hole-nothing r (Hole.Related outer n a v) S p e k =
      let P : Option Navigation → Type 0 = λ o. OfJoin r outer n a (OptPipe.SomePipe p) o ≡ [] in
      map-none OptPipe.SomePipe _ (map-none (Step.Join outer n a) _ (subst P e k))
  hole-nothing r (Hole.Grouped ks) S p e k =
      map-none OptPipe.SomePipe _ (map-none (Step.GroupBy ks) _ (append-none (map (λ ks'. Step.GroupBy ks' (OptPipe.SomePipe p)) (keys_results r m c ks)) (map (Step.GroupBy ks) (inner_results r m c S (OptPipe.SomePipe p))) k).1)
  hole-nothing r (Hole.Chosen left h x f right T) S p e k =
      let was = keys_with left (Key.Recursive h x (OptPipe.SomePipe p)) right in
      chosen-nothing r left h x f right p e (map-none (λ ks'. Step.GroupBy ks' T) (keys_results r m c was) (append-none (map (λ ks'. Step.GroupBy ks' T) (keys_results r m c was)) (map (Step.GroupBy was) (inner_results r m c S T)) k).0)
  hole-nothing r (Hole.Climbed up h x d keep) S p e k = map-none (λ z. Step.Climb up h x z d keep) _ k

  -- and none of another pipeline
  pub hole-still : (r : Rule) (h : Hole) (S : Shape) (p q : Pipe) → IsThere m S h → step_results r m c S (filled h p) ≡ [] → pipe_results r m c (inside S h) false q ≡ [] → step_results r m c S (filled h q) ≡ []
  unfolding pipe_results
  hole-still r (Hole.Related outer n a v) S p q e k f =
      let P : Option Navigation → Type 0 = λ o. OfJoin r outer n a (OptPipe.SomePipe q) o ≡ [] in
      subst P (sym e) (ap (λ l. map (Step.Join outer n a) (map OptPipe.SomePipe l)) f)
  hole-still r (Hole.Grouped ks) S p q e k f =
      let t = append-none (map (λ ks'. Step.GroupBy ks' (OptPipe.SomePipe p)) (keys_results r m c ks)) (map (Step.GroupBy ks) (inner_results r m c S (OptPipe.SomePipe p))) k in
      let none = map-none (λ ks'. Step.GroupBy ks' (OptPipe.SomePipe p)) (keys_results r m c ks) t.0 in
      λ i. map (λ ks'. Step.GroupBy ks' (OptPipe.SomePipe q)) (none i) ++ map (Step.GroupBy ks) (map OptPipe.SomePipe (f i))
  hole-still r (Hole.Chosen left h x f right T) S p q e k none =
      let was = keys_with left (Key.Recursive h x (OptPipe.SomePipe p)) right in
      let now = keys_with left (Key.Recursive h x (OptPipe.SomePipe q)) right in
      let t = append-none (map (λ ks'. Step.GroupBy ks' T) (keys_results r m c was)) (map (Step.GroupBy was) (inner_results r m c S T)) k in
      λ i. map (λ ks'. Step.GroupBy ks' T) (chosen-still r left h x f right p q e (map-none (λ ks'. Step.GroupBy ks' T) (keys_results r m c was) t.0) none i) ++ map (Step.GroupBy now) (map-none (Step.GroupBy was) (inner_results r m c S T) t.1 i)
  hole-still r (Hole.Climbed up h x d keep) S p q e k f = ap (map (λ z. Step.Climb up h x z d keep)) f

  -- ---- typing

  -- pipelines that lead to the same shape
  inner-same : (U R : Shape) (p q : Pipe) → IsTypedFrom m c U R p → IsTypedFrom m c U R q → inner_shape m c U U (OptPipe.SomePipe q) ≡ inner_shape m c U U (OptPipe.SomePipe p)
  unfolding steps_shape
  inner-same U R p q t u =
      let of : (z : Pipe) → IsTypedFrom m c U R z → (if is_long z then steps_shape m c U z else None) ≡ Some R = λ z v. ap (λ b. if b then steps_shape m c U z else None) v.typed.0 ∙ v.typed.1 in
      of q u ∙ sym (of p t)

  -- the pipeline that chooses the start nodes of a climb
  pub climb-typed : (up : Bool) (h : HierName) (x : Path) (d : Option ℕ) (keep : Bool) (S S' : Shape) (p : Pipe) → step_shape m c S (Step.Climb up h x p d keep) ≡ Some S' → (R : Shape) × (is_long p ≡ true) × (steps_shape m c S p ≡ Some R)
  unfolding steps_shape
  climb-typed up h x d keep S S' p t =
      let ends = is_some_and (λ R. is_node_path m R h x) (steps_shape m c S p) in
      let u = then_some-parts (is_node_path m S h x && is_distance d && is_long p && ends) S S' t in
      let v = and_3 (is_node_path m S h x && is_distance d) (is_long p) ends u.0 in
      let z = some_and (λ R. is_node_path m R h x) (steps_shape m c S p) v.2 in
      (z.0, v.1, z.1)

  -- that which chooses the nodes of a key
  chosen-long : (left : List Key) (h : HierName) (x : Path) (f : HierarchyPlace) (right : Keys) (S : Shape) (p : Pipe) → hierarchy_at m h ≡ Some f → keys_typed m c S (keys_with left (Key.Recursive h x (OptPipe.SomePipe p)) right) ≡ true
      → (R : Shape) × (is_long p ≡ true) × (steps_shape m c (set_shape f.type) p ≡ Some R)
  unfolding steps_shape
  chosen-long [] h x f right S p e k =
      let U = set_shape f.type in
      let ofType : HierarchyPlace → Shape → Bool = λ f N. is_some_and (λ t. t == f.type) (root_type N) in
      let nodes : HierarchyPlace → Bool = λ f. is_some_and (ofType f) (inner_shape m c (set_shape f.type) (set_shape f.type) (OptPipe.SomePipe p)) in
      let here = (and_parts (key_typed m c S (Key.Recursive h x (OptPipe.SomePipe p))) (keys_typed m c S right) k).0 in
      let t = (and_parts (is_node_path m S h x) (is_some_and nodes (hierarchy_at m h)) here).1 in
      let z = some_and (ofType f) (inner_shape m c U U (OptPipe.SomePipe p)) (sym (ap (is_some_and nodes) e) ∙ t) in
      let y = if_else-parts (is_long p) (steps_shape m c U p) z.0 z.1 in
      (z.0, y.0, y.1)
  chosen-long (y ∷ left) h x f right S p e k = chosen-long left h x f right S p e (and_parts (key_typed m c S y) (keys_typed m c S (keys_with left (Key.Recursive h x (OptPipe.SomePipe p)) right)) k).1

  chosen-typed : (left : List Key) (h : HierName) (x : Path) (f : HierarchyPlace) (right : Keys) (S R : Shape) (p q : Pipe) → hierarchy_at m h ≡ Some f → IsTypedFrom m c (set_shape f.type) R p → IsTypedFrom m c (set_shape f.type) R q
      → keys_typed m c S (keys_with left (Key.Recursive h x (OptPipe.SomePipe q)) right) ≡ keys_typed m c S (keys_with left (Key.Recursive h x (OptPipe.SomePipe p)) right)
  unfolding steps_shape
  chosen-typed [] h x f right S R p q e t u =
      let of : Option Shape → HierarchyPlace → Bool = λ o f. is_some_and (λ N. is_some_and (λ t. t == f.type) (root_type N)) o in
      let F : Pipe → HierarchyPlace → Bool = λ z f. of (inner_shape m c (set_shape f.type) (set_shape f.type) (OptPipe.SomePipe z)) f in
      let G : Bool → Bool = λ b. (is_node_path m S h x && b) && keys_typed m c S right in
      ap (λ o. G (is_some_and (F q) o)) e ∙ ap (λ o. G (of o f)) (inner-same (set_shape f.type) R p q t u) ∙ sym (ap (λ o. G (is_some_and (F p) o)) e)
  chosen-typed (y ∷ left) h x f right S R p q e t u = ap (λ z. key_typed m c S y && z) (chosen-typed left h x f right S R p q e t u)

  -- the nodes
  chosen-nodes : (left : List Key) (h : HierName) (x : Path) (f : HierarchyPlace) (right : Keys) (R : Shape) (p q : Pipe) → hierarchy_at m h ≡ Some f → IsTypedFrom m c (set_shape f.type) R p → IsTypedFrom m c (set_shape f.type) R q
      → node_shape m c (keys_with left (Key.Recursive h x (OptPipe.SomePipe q)) right) ≡ node_shape m c (keys_with left (Key.Recursive h x (OptPipe.SomePipe p)) right)
  unfolding steps_shape
  chosen-nodes [] h x f right R p q e t u =
      let of : Option Shape → HierarchyPlace → Option (Shape × Name) = λ o f. option_map (λ N. (N, f.key.name)) o in
      let F : Pipe → HierarchyPlace → Option (Shape × Name) = λ z f. of (inner_shape m c (set_shape f.type) (set_shape f.type) (OptPipe.SomePipe z)) f in
      ap (option_and_then (F q)) e ∙ ap (λ o. of o f) (inner-same (set_shape f.type) R p q t u) ∙ sym (ap (option_and_then (F p)) e)
  chosen-nodes (Key.Plain y ∷ left) h x f right R p q e t u = chosen-nodes left h x f right R p q e t u
  chosen-nodes (Key.Rollup all ys ∷ left) h x f right R p q e t u = chosen-nodes left h x f right R p q e t u
  chosen-nodes (Key.Recursive h' y T ∷ left) h x f right R p q e t u = refl

  pub hole-typed : (h : Hole) (S S' : Shape) (p : Pipe) → IsThere m S h → IsTrue (customs_typed m c) → IsTrue (is_lawful m S) → step_shape m c S (filled h p) ≡ Some S' → (R : Shape) × IsTypedFrom m c (inside S h) R p
  unfolding steps_shape
  hole-typed (Hole.Related outer n a v) S S' p e k l t =
      let A : Option Navigation → Type 0 = λ o. option_and_then (λ v. option_and_then (λ R. then_some (is_free m S a) (joined_shape outer a S R)) (inner_shape m c (set_shape v.target) (set_shape v.target) (OptPipe.SomePipe p))) o ≡ Some S' in
      let x = chained (λ R. then_some (is_free m S a) (joined_shape outer a S R)) (inner_shape m c (set_shape v.target) (set_shape v.target) (OptPipe.SomePipe p)) S' (subst A e t) in
      let y = if_else-parts (is_long p) (steps_shape m c (set_shape v.target) p) x.0 x.1 in
      (x.0, record { customs = k; lawful = refl; typed = y })
  hole-typed (Hole.Grouped ks) S S' p e k l t =
      let u = if_else-parts (keys_typed m c S ks) (option_and_then (grouped_shape m S (group_keys ks)) (inner_shape m c S no_shape (OptPipe.SomePipe p))) S' t in
      let x = chained (grouped_shape m S (group_keys ks)) (inner_shape m c S no_shape (OptPipe.SomePipe p)) S' u.1 in
      let y = if_else-parts (is_long p) (steps_shape m c S p) x.0 x.1 in
      (x.0, record { customs = k; lawful = l; typed = y })
  hole-typed (Hole.Chosen left h x f right T) S S' p e k l t =
      let ks = keys_with left (Key.Recursive h x (OptPipe.SomePipe p)) right in
      let u = if_else-parts (keys_typed m c S ks) (option_and_then (grouped_shape m S (group_keys ks)) (inner_shape m c S no_shape T)) S' t in
      let y = chosen-long left h x f right S p e u.0 in
      (y.0, record { customs = k; lawful = refl; typed = (y.1, y.2) })
  hole-typed (Hole.Climbed up h x d keep) S S' p e k l t = let y = climb-typed up h x d keep S S' p t in (y.0, record { customs = k; lawful = l; typed = (y.1, y.2) })

  pub hole-shape : (h : Hole) (S R : Shape) (p q : Pipe) → IsThere m S h → IsTypedFrom m c (inside S h) R p → IsTypedFrom m c (inside S h) R q → step_shape m c S (filled h q) ≡ step_shape m c S (filled h p)
  unfolding steps_shape
  hole-shape (Hole.Related outer n a v) S R p q e t u =
      let U = set_shape v.target in
      let of : (z : Pipe) → IsTypedFrom m c U R z → (if is_long z then steps_shape m c U z else None) ≡ Some R = λ z v. ap (λ b. if b then steps_shape m c U z else None) v.typed.0 ∙ v.typed.1 in
      let F : Pipe → Option Navigation → Option Shape = λ z o. option_and_then (λ v. option_and_then (λ R. then_some (is_free m S a) (joined_shape outer a S R)) (inner_shape m c (set_shape v.target) (set_shape v.target) (OptPipe.SomePipe z))) o in
      ap (F q) e ∙ ap (option_and_then (λ R. then_some (is_free m S a) (joined_shape outer a S R))) (of q u ∙ sym (of p t)) ∙ sym (ap (F p) e)
  hole-shape (Hole.Grouped ks) S R p q e t u =
      let of : (z : Pipe) → IsTypedFrom m c S R z → (if is_long z then steps_shape m c S z else None) ≡ Some R = λ z v. ap (λ b. if b then steps_shape m c S z else None) v.typed.0 ∙ v.typed.1 in
      ap (λ o. if keys_typed m c S ks then option_and_then (grouped_shape m S (group_keys ks)) o else None) (of q u ∙ sym (of p t))
  hole-shape (Hole.Chosen left h x f right T) S R p q e t u =
      λ i. if chosen-typed left h x f right S R p q e t u i then option_and_then (grouped_shape m S (chosen-keys left h x right (OptPipe.SomePipe p) (OptPipe.SomePipe q) i)) (inner_shape m c S no_shape T) else None
  hole-shape (Hole.Climbed up h x d keep) S R p q e t u = λ i. then_some (is_node_path m S h x && is_distance d && (u.typed.0 ∙ sym t.typed.0) i && is_some_and (λ R. is_node_path m R h x) ((u.typed.1 ∙ sym t.typed.1) i)) S

  -- ---- segments

  abbrev pub Quiet : Hole → Shape → Pipe → Pipe → Type 0
  Quiet h S p q = is_quiet m c (inside S h) q ≡ is_quiet m c (inside S h) p

  pub hole-lets : (h : Hole) (S : Shape) (p q : Pipe) → IsThere m S h → Quiet h S p q → step_lets m c S (filled h q) ≡ step_lets m c S (filled h p)
  unfolding is_quiet
  hole-lets (Hole.Related outer n a v) S p q e k =
      let F : Pipe → Option Navigation → Bool = λ z o. is_some_and (λ v. is_quiet m c (set_shape v.target) z) o in
      ap (F q) e ∙ k ∙ sym (ap (F p) e)
  hole-lets (Hole.Grouped ks) S p q e k = ap (λ z. not (list_any (is_risky S) (key_paths (group_keys ks))) && z) k
  hole-lets (Hole.Chosen left h x f right T) S p q e k = ap (λ g. not (list_any (is_risky S) (key_paths g)) && inner_quiet m c S T) (chosen-keys left h x right (OptPipe.SomePipe p) (OptPipe.SomePipe q))
  hole-lets (Hole.Climbed up h x d keep) S p q e k = refl

  pub hole-passed : (h : Hole) (p q : Pipe) → step_passed All (filled h q) ≡ step_passed All (filled h p)
  hole-passed (Hole.Related outer n a v) p q = refl
  hole-passed (Hole.Grouped ks) p q = refl
  hole-passed (Hole.Chosen left h x f right T) p q =
      λ i t. over (chosen-plain left h x right (OptPipe.SomePipe p) (OptPipe.SomePipe q) i ++ rollup_keys_in_every_row (rollup_part (chosen-keys left h x right (OptPipe.SomePipe p) (OptPipe.SomePipe q) i))) t.expr && t.sure
  hole-passed (Hole.Climbed up h x d keep) p q = refl

  pub hole-enters : (h : Hole) (S R : Shape) (p q : Pipe) → IsThere m S h → IsTypedFrom m c (inside S h) R p → IsTypedFrom m c (inside S h) R q → Quiet h S p q → step_enters All m c S (filled h q) ≡ step_enters All m c S (filled h p)
  unfolding is_quiet
  hole-enters (Hole.Related true n a v) S R p q e t' u' k = refl
  hole-enters (Hole.Related false n a v) S R p q e t' u' k = refl
  hole-enters (Hole.Grouped ks) S R p q e t' u' k =
      λ i t.
      if is_nodes (rollup_part (group_keys ks)) && (not (list_any (is_risky S) (key_paths (group_keys ks))) && k i) && t.sure
      then option_and_then (λ N. then_some (chooses_nodes m ks N t.expr) (on_node N.1 t.expr)) (node_shape m c ks) else None
  hole-enters (Hole.Chosen left h x f right T) S R p q e t' u' k =
      λ i t.
      let g = chosen-keys left h x right (OptPipe.SomePipe p) (OptPipe.SomePipe q) i in
      if is_nodes (rollup_part g) && (not (list_any (is_risky S) (key_paths g)) && inner_quiet m c S T) && t.sure
      then option_and_then (λ N. then_some (is_nonempty (paths t.expr) && over (rollup_paths (rollup_part g)) t.expr && has_kind is_boolean_kind m N.0 (on_node N.1 t.expr) && is_sure m N.0 (on_node N.1 t.expr)) (on_node N.1 t.expr)) (chosen-nodes left h x f right R p q e t' u' i) else None
  hole-enters (Hole.Climbed up h x d keep) S R p q e t' u' k = refl

  pub hole-put : (h : Hole) (S : Shape) (p : Pipe) (made : List Expr → Step) (gs : List Segment) → put_step All m c S (filled h p) made gs ≡ segment All m c S (filled h p) made ∷ gs
  hole-put (Hole.Related outer n a v) S p made gs = refl
  hole-put (Hole.Grouped ks) S p made gs = refl
  hole-put (Hole.Chosen left h x f right T) S p made gs = refl
  hole-put (Hole.Climbed up h x d keep) S p made gs = refl

  -- the keys, settled once filters have gone into them
  chosen-settled : (left : List Key) (h : HierName) (x : Path) (f : HierarchyPlace) (right : Keys) (p : Pipe) (es : List Expr) → hierarchy_at m h ≡ Some f
      → settled_keys All m c (keys_with left (Key.Recursive h x (OptPipe.SomePipe p)) right) es
      ≡ keys_with (map (λ k. settled_key All m c k es) left) (Key.Recursive h x (OptPipe.SomePipe (whole (put_filters m (shape_behind m c (set_shape f.type) p) es (put_steps All m c (set_shape f.type) p front))))) (settled_keys All m c right es)
  unfolding put_steps
  chosen-settled [] h x f right p es e =
      let T = OptPipe.SomePipe p in
      ap (λ o. Keys.MoreKeys (Key.Recursive h x (elim o [ None ↦ T | Some f ↦ settled_inner All m c (set_shape f.type) T es ])) (settled_keys All m c right es)) e
  chosen-settled (y ∷ left) h x f right p es e = ap (Keys.MoreKeys (settled_key All m c y es)) (chosen-settled left h x f right p es e)

  -- the step, settled once filters have gone into it
  pub hole-settled : (h : Hole) (S : Shape) (p : Pipe) (es : List Expr) → IsThere m S h
      → settled_step All m c S (filled h p) es ≡ filled (around m c S h es) (whole (ending h (put_filters m (shape_behind m c (inside S h) p) (into h es) (put_steps All m c (inside S h) p front))))
  unfolding put_steps
  hole-settled (Hole.Related outer n a v) S p es e =
      ap (λ o. Step.Join outer n a (elim o [ None ↦ OptPipe.SomePipe p | Some v ↦ OptPipe.SomePipe (whole (put_filters m (shape_behind m c (set_shape v.target) p) es (put_steps All m c (set_shape v.target) p front))) ])) e
  hole-settled (Hole.Grouped ks) S p es e = refl
  hole-settled (Hole.Chosen left h x f right T) S p es e = ap (λ ks. Step.GroupBy ks (settled_inner All m c S T [])) (chosen-settled left h x f right p es e)
  hole-settled (Hole.Climbed up h x d keep) S p es e = refl
