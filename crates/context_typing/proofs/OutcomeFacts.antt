-- Outcomes, form by form.
use Rattle.std.proofs.Common.{◌≡◌, refl, sym, ◌∙◌, ap, ℕ, Bool, true, false, not, ◌&&◌, List, [], ◌∷◌, ◌++◌, ◌+◌, ◌<◌, ◌≤◌, Option, Some, None, map, length, take, get_or}
use Rattle.std.specs.Prelude.{IfSome, IsTrue, option_map, option_and_then, ◌==◌, nat_le, if◌then◌else◌}
use Rattle.std.specs.Bool.{then_some}
use Rattle.edm_values.specs.Lists.{all_some, is_some_and}
use Rattle.edm_values.specs.Values.{integer_max}
use Rattle.edm_values.proofs.OptionFacts.{some_value, none_or, if_else-parts}
use Rattle.edm_model.specs.Models.{Model, Navigation}
use Rattle.edm_values.specs.Names.{Name, Path}
use Rattle.edm_values.specs.declared.EdmType.{EdmType}
use Rattle.edm_values.specs.Literals.{same_kind}
use Rattle.edm_model.specs.LookUps.{HierarchyPlace}
use Rattle.context_typing.specs.Steps.{nodes_at}
use Rattle.apply_ast.specs.Trees.{AggItem, HierName, Key, Keys, OrderItem, is_distance, TraverseStep, Named, OptPipe, Pipe, Pipes, Step, is_long}
use Rattle.context_typing.specs.Outcomes.{Outcome, outcome, step_outcome, steps_outcome, inner_outcome, key_outcome, keys_outcome, branches_outcome}
use Rattle.std.specs.List.{list_all}
use Rattle.edm_model.specs.Soundness.{IsSound}
use Rattle.context_typing.specs.ShapeTypes.{has_types}
use Rattle.context_typing.specs.Shapes.{Shape, set_shape}
use Rattle.context_typing.proofs.TypesKept.{branches-types, pipe-types}
use Rattle.std.proofs.lemmas.List.{take_all}
use Rattle.std.proofs.lemmas.List.Folds.{list_all_more, list_all_at}
use Rattle.apply_ast.specs.Views.{keys_from, pipes_from}
use Rattle.context_typing.proofs.Collected.{all_some-more, all_some-none}
use Rattle.context_typing.proofs.WalkFacts.{outcome-parts, untyped-none}
use Rattle.context_typing.specs.Typing.{Customs, GroupKeys, IsUntypedAt, group_keys, grouped_shape, hierarchy_at, root_type, is_risky, is_typed, order_sure, path_kind, is_free, join_navigation, joined_shape, key_quiet, key_typed, keys_quiet, keys_typed, no_shape, aggregate_shape, branch_shapes, branches_quiet, compute_shape, concat_shape, inner_shape, inner_quiet, is_quiet, steps_shape}
use Rattle.context_typing.specs.Walks.{is_root, recursive_outcome, climb_outcome, walk_outcome, group_outcome, join_outcome, kept, long_outcome, related_outcome}
use Rattle.context_typing.proofs.TypingEquations.{step_shape-Identity, step_quiet-Identity, step_shape-Compute, step_quiet-Compute, step_shape-Skip, step_quiet-Skip, step_shape-Top, step_quiet-Top, step_shape-Aggregate, step_quiet-Aggregate, step_shape-Concat, step_quiet-Concat, step_shape-GroupBy, step_quiet-GroupBy, step_shape-Join, step_quiet-Join, key_typed-Recursive, key_quiet-Recursive, step_shape-Climb, step_quiet-Climb, step_shape-Traverse, step_quiet-Traverse, inner_shape-NoPipe, inner_quiet-NoPipe, inner_shape-SomePipe, inner_quiet-SomePipe}

pub outcome-Identity : (m : Model) (c : Customs) (S : Shape) → kept S true true ≡ step_outcome m c S Step.Identity
outcome-Identity m c S = sym (λ i. outcome (step_shape-Identity m c S i) (step_quiet-Identity m c S i))

pub outcome-Compute : (m : Model) (c : Customs) (S : Shape) (ns : List Named) → outcome (compute_shape m S ns) true ≡ step_outcome m c S (Step.Compute ns)
outcome-Compute m c S ns = sym (λ i. outcome (step_shape-Compute m c S ns i) (step_quiet-Compute m c S ns i))

pub outcome-Skip : (m : Model) (c : Customs) (S : Shape) (n : ℕ) → kept S (nat_le n integer_max) true ≡ step_outcome m c S (Step.Skip n)
outcome-Skip m c S n = sym (λ i. outcome (step_shape-Skip m c S n i) (step_quiet-Skip m c S n i))

pub outcome-Top : (m : Model) (c : Customs) (S : Shape) (n : ℕ) → kept S (nat_le n integer_max) true ≡ step_outcome m c S (Step.Top n)
outcome-Top m c S n = sym (λ i. outcome (step_shape-Top m c S n i) (step_quiet-Top m c S n i))

pub outcome-Aggregate : (m : Model) (c : Customs) (S : Shape) (items : List AggItem) → outcome (aggregate_shape m c S items) true ≡ step_outcome m c S (Step.Aggregate items)
outcome-Aggregate m c S items = sym (λ i. outcome (step_shape-Aggregate m c S items i) (step_quiet-Aggregate m c S items i))

-- ---- inner pipelines

where_long : (b : Bool) (o : Option Shape) (q : Bool) → outcome (if b then o else None) q ≡ (if b then outcome o q else None)
where_long true o q = refl
where_long false o q = refl

pub inner-some : (m : Model) (c : Customs) (S d : Shape) (p : Pipe) → inner_outcome m c S d (OptPipe.SomePipe p) ≡ long_outcome m c S p
inner-some m c S d p = (λ i. outcome (inner_shape-SomePipe m c S d p i) (inner_quiet-SomePipe m c S p i)) ∙ where_long (is_long p) (steps_shape m c S p) (is_quiet m c S p)

pub inner-none : (m : Model) (c : Customs) (S d : Shape) → inner_outcome m c S d OptPipe.NoPipe ≡ Some (record { shape = d; quiet = true })
inner-none m c S d = λ i. outcome (inner_shape-NoPipe m c S d i) (inner_quiet-NoPipe m c S i)

-- ---- concatenations

pub branches-parts : (o : Option (List Shape)) (q : Bool) (Ss : List Shape) (r : Bool) → ◌≡◌ {A = Option (List Shape × Bool)} (Some (Ss, r)) (option_map (λ Ss. (Ss, q)) o) → (o ≡ Some Ss) × (q ≡ r)
branches-parts None q Ss r e = none_or {X = List Shape × Bool} _ (sym e)
branches-parts (Some Rs) q Ss r e = let s = some_value {X = List Shape × Bool} e in (ap (λ z. Some z.0) (sym s), ap (λ z. z.1) (sym s))

-- ---- groupings

group_parts : (m : Model) (S : Shape) (g : GroupKeys) (typed quiet : Bool) (o : Option Shape) (q : Bool) → group_outcome m S g (then_some typed quiet) (outcome o q) ≡ outcome (if typed then option_and_then (grouped_shape m S g) o else None) (quiet && q)
group_parts m S g false quiet o q = refl
group_parts m S g true quiet None q = refl
group_parts m S g true quiet (Some G) q = refl

pub outcome-GroupBy : (m : Model) (c : Customs) (S : Shape) (ks : Keys) (T : OptPipe) → group_outcome m S (group_keys ks) (keys_outcome m c S ks) (inner_outcome m c S no_shape T) ≡ step_outcome m c S (Step.GroupBy ks T)
outcome-GroupBy m c S ks T =
    group_parts m S (group_keys ks) (keys_typed m c S ks) (keys_quiet m c S ks) (inner_shape m c S no_shape T) (inner_quiet m c S T)
    ∙ sym (λ i. outcome (step_shape-GroupBy m c S ks T i) (step_quiet-GroupBy m c S ks T i))

-- ---- pipelines of at least one step

pub long_typed : (m : Model) (c : Customs) (S : Shape) (p : Pipe) (x : Outcome) → is_long p ≡ true → steps_outcome m c S p ≡ Some x → Some x ≡ long_outcome m c S p
long_typed m c S p x h e = sym (ap (λ b. if b then steps_outcome m c S p else None) h ∙ e)

pub long_untyped : (m : Model) (c : Customs) (S : Shape) (p : Pipe) (k : ℕ) → is_long p ≡ true → IsUntypedAt m c S p k → None ≡ long_outcome m c S p
long_untyped m c S p k h e = sym (ap (λ b. if b then steps_outcome m c S p else None) h ∙ ap (λ o. outcome o (is_quiet m c S p)) (untyped-none m c S p k e))

-- ---- concatenations

pub outcome-Concat : (m : Model) (c : Customs) (S : Shape) (ps : Pipes) (Ss : List Shape) (q : Bool) → ◌≡◌ {A = Option (List Shape × Bool)} (Some (Ss, q)) (branches_outcome m c S ps) → outcome (concat_shape m Ss) q ≡ step_outcome m c S (Step.Concat ps)
outcome-Concat m c S ps Ss q e =
    let t = branches-parts (all_some (branch_shapes m c S ps)) (branches_quiet m c S ps) Ss q e in
    sym ((λ i. outcome (step_shape-Concat m c S ps i) (step_quiet-Concat m c S ps i)) ∙ (λ i. outcome (option_and_then (concat_shape m) (t.0 i)) (t.1 i)))

pub outcome-untyped_branch : (m : Model) (c : Customs) (S : Shape) (ps : Pipes) → ◌≡◌ {A = Option (List Shape × Bool)} None (branches_outcome m c S ps) → None ≡ step_outcome m c S (Step.Concat ps)
outcome-untyped_branch m c S ps e =
    sym ((λ i. outcome (step_shape-Concat m c S ps i) (step_quiet-Concat m c S ps i)) ∙ none (all_some (branch_shapes m c S ps)) e)
  where
    none : (o : Option (List Shape)) → ◌≡◌ {A = Option (List Shape × Bool)} None (option_map (λ Ss. (Ss, branches_quiet m c S ps)) o) → outcome (option_and_then (concat_shape m) o) (branches_quiet m c S ps) ≡ None
    none None e = refl
    none (Some Ss) e = none_or {X = List Shape × Bool} _ e

pub branch-types : (m : Model) (c : Customs) → IsSound m → (S : Shape) (ps : Pipes) (Ss : List Shape) (q : Bool) → has_types m S ≡ true → ◌≡◌ {A = Option (List Shape × Bool)} (Some (Ss, q)) (branches_outcome m c S ps) → list_all (has_types m) Ss ≡ true
branch-types m c sound S ps Ss q h e = branches-types m c sound ps S Ss h (branches-parts (all_some (branch_shapes m c S ps)) (branches_quiet m c S ps) Ss q e).0

-- ---- keys, one after another

typed_keys : {X : Type 0} (m : Model) (c : Customs) (S : Shape) (f : X → Key) (xs : List X) → keys_typed m c S (keys_from (map f xs)) ≡ list_all (λ x. key_typed m c S (f x)) xs
unfolding steps_shape
typed_keys m c S f [] = refl
typed_keys m c S f (x ∷ xs) = ap (λ b. key_typed m c S (f x) && b) (typed_keys m c S f xs)

quiet_keys : {X : Type 0} (m : Model) (c : Customs) (S : Shape) (f : X → Key) (xs : List X) → keys_quiet m c S (keys_from (map f xs)) ≡ list_all (λ x. key_quiet m c S (f x)) xs
unfolding is_quiet
quiet_keys m c S f [] = refl
quiet_keys m c S f (x ∷ xs) = ap (λ b. key_quiet m c S (f x) && b) (quiet_keys m c S f xs)

abbrev each_key : {X : Type 0} → Model → Customs → Shape → (X → Key) → List X → Option Bool
each_key m c S f xs = then_some (list_all (λ x. key_typed m c S (f x)) xs) (list_all (λ x. key_quiet m c S (f x)) xs)

keys-each : {X : Type 0} (m : Model) (c : Customs) (S : Shape) (f : X → Key) (xs : List X) → keys_outcome m c S (keys_from (map f xs)) ≡ each_key m c S f xs
keys-each m c S f xs = λ i. then_some (typed_keys m c S f xs i) (quiet_keys m c S f xs i)

both_some : (a b : Bool) (q : Bool) (a' b' : Bool) (q' : Bool) → then_some a b ≡ Some q → then_some a' b' ≡ Some q' → then_some (a && a') (b && b') ≡ Some (q && q')
both_some false b q a' b' q' e k = none_or q e
both_some true b q false b' q' e k = none_or q' k
both_some true b q true b' q' e k = λ i. Some ((some_value e i) && (some_value k i))

pub keys-start : (m : Model) (c : Customs) (S : Shape) → keys_outcome m c S Keys.NoKeys ≡ Some true
unfolding steps_shape is_quiet
keys-start m c S = refl

pub keys-next : {X : Type 0} (m : Model) (c : Customs) (S : Shape) (f : X → Key) (xs : List X) (i : ℕ) (d : X) (q r : Bool) → i < length xs → d ≡ get_or xs i d → keys_outcome m c S (keys_from (map f (take i xs))) ≡ Some q → key_outcome m c S (f d) ≡ Some r
    → keys_outcome m c S (keys_from (map f (take (i + 1) xs))) ≡ Some (q && r)
keys-next m c S f xs i d q r h is e k =
    keys-each m c S f (take (i + 1) xs)
    ∙ (λ j. then_some (list_all_more (λ x. key_typed m c S (f x)) xs i d h j) (list_all_more (λ x. key_quiet m c S (f x)) xs i d h j))
    ∙ ap (λ x. then_some (list_all (λ x. key_typed m c S (f x)) (take i xs) && key_typed m c S (f x)) (list_all (λ x. key_quiet m c S (f x)) (take i xs) && key_quiet m c S (f x))) (sym is)
    ∙ both_some _ _ q _ _ r (sym (keys-each m c S f (take i xs)) ∙ e) k

not_some : (a b : Bool) → None ≡ then_some a b → a ≡ false
not_some false b e = refl
not_some true b e = none_or _ e

pub keys-missing : {X : Type 0} (m : Model) (c : Customs) (S : Shape) (f : X → Key) (xs : List X) (i : ℕ) (d : X) (ks : Keys) → i < length xs → d ≡ get_or xs i d → ks ≡ keys_from (map f xs) → None ≡ key_outcome m c S (f d) → None ≡ keys_outcome m c S ks
keys-missing m c S f xs i d ks h is whole k =
    sym (ap (keys_outcome m c S) whole ∙ keys-each m c S f xs
    ∙ ap (λ b. then_some b (list_all (λ x. key_quiet m c S (f x)) xs)) (list_all_at (λ x. key_typed m c S (f x)) xs i d h (ap (λ x. key_typed m c S (f x)) (sym is) ∙ not_some _ _ k)))

pub keys-all : {X : Type 0} (m : Model) (c : Customs) (S : Shape) (f : X → Key) (xs : List X) (i : ℕ) (q : Bool) (ks : Keys) → length xs ≤ i → ks ≡ keys_from (map f xs) → keys_outcome m c S (keys_from (map f (take i xs))) ≡ Some q → Some q ≡ keys_outcome m c S ks
keys-all m c S f xs i q ks h whole e = sym (ap (keys_outcome m c S) (whole ∙ ap (λ l. keys_from (map f l)) (sym (take_all i xs h))) ∙ e)

-- ---- branches, one after another

abbrev long_shape : Model → Customs → Shape → Pipe → Option Shape
long_shape m c S p = if is_long p then steps_shape m c S p else None

shapes_of : (m : Model) (c : Customs) (S : Shape) (ps : List Pipe) → branch_shapes m c S (pipes_from ps) ≡ map (long_shape m c S) ps
unfolding steps_shape
shapes_of m c S [] = refl
shapes_of m c S (p ∷ ps) = ap (λ l. long_shape m c S p ∷ l) (shapes_of m c S ps)

quiet_branches : {X : Type 0} (m : Model) (c : Customs) (S : Shape) (f : X → Pipe) (xs : List X) → branches_quiet m c S (pipes_from (map f xs)) ≡ list_all (λ x. is_quiet m c S (f x)) xs
unfolding is_quiet
quiet_branches m c S f [] = refl
quiet_branches m c S f (x ∷ xs) = ap (λ b. is_quiet m c S (f x) && b) (quiet_branches m c S f xs)

abbrev pair_of : Option (List Shape) → Bool → Option (List Shape × Bool)
pair_of o q = option_map (λ Ss. (Ss, q)) o

branches-each : {X : Type 0} (m : Model) (c : Customs) (S : Shape) (f : X → Pipe) (xs : List X) → branches_outcome m c S (pipes_from (map f xs)) ≡ pair_of (all_some (map (long_shape m c S) (map f xs))) (list_all (λ x. is_quiet m c S (f x)) xs)
branches-each m c S f xs = λ i. pair_of (all_some (shapes_of m c S (map f xs) i)) (quiet_branches m c S f xs i)

pub branches-start : (m : Model) (c : Customs) (S : Shape) → branches_outcome m c S Pipes.NoPipes ≡ Some ([], true)
unfolding steps_shape is_quiet
branches-start m c S = refl

pair-parts : (o : Option (List Shape)) (q : Bool) (Ss : List Shape) (r : Bool) → pair_of o q ≡ Some (Ss, r) → (o ≡ Some Ss) × (q ≡ r)
pair-parts o q Ss r e = branches-parts o q Ss r (sym e)

long-parts : (m : Model) (c : Customs) (S : Shape) (p : Pipe) (x : Outcome) → long_outcome m c S p ≡ Some x → (long_shape m c S p ≡ Some x.shape) × (is_quiet m c S p ≡ x.quiet)
long-parts m c S p x e = outcome-parts (long_shape m c S p) (is_quiet m c S p) x (where_long (is_long p) (steps_shape m c S p) (is_quiet m c S p) ∙ e)

pub branches-next : {X : Type 0} (m : Model) (c : Customs) (S : Shape) (f : X → Pipe) (xs : List X) (i : ℕ) (d : X) (Ss : List Shape) (q : Bool) (x : Outcome) → i < length xs → d ≡ get_or xs i d
    → branches_outcome m c S (pipes_from (map f (take i xs))) ≡ Some (Ss, q) → long_outcome m c S (f d) ≡ Some x → branches_outcome m c S (pipes_from (map f (take (i + 1) xs))) ≡ Some (Ss ++ x.shape ∷ [], q && x.quiet)
branches-next m c S f xs i d Ss q x h is e k =
    let before = pair-parts _ _ Ss q (sym (branches-each m c S f (take i xs)) ∙ e) in
    let here = long-parts m c S (f d) x k in
    branches-each m c S f (take (i + 1) xs)
    ∙ (λ j. pair_of (all_some-more (long_shape m c S) f xs i d Ss x.shape h before.0 (ap (λ d. long_shape m c S (f d)) (sym is) ∙ here.0) j) (list_all_more (λ x. is_quiet m c S (f x)) xs i d h j))
    ∙ (λ j. Some (Ss ++ x.shape ∷ [], before.1 j && (ap (λ d. is_quiet m c S (f d)) (sym is) ∙ here.1) j))

no_long : (b : Bool) (o : Option Shape) (q : Bool) → None ≡ (if b then outcome o q else None) → None ≡ (if b then o else None)
no_long true None q e = refl
no_long true (Some T) q e = none_or _ e
no_long false o q e = refl

pub branches-missing : {X : Type 0} (m : Model) (c : Customs) (S : Shape) (f : X → Pipe) (xs : List X) (i : ℕ) (d : X) (ps : Pipes) → i < length xs → d ≡ get_or xs i d → ps ≡ pipes_from (map f xs) → None ≡ long_outcome m c S (f d) → None ≡ branches_outcome m c S ps
branches-missing m c S f xs i d ps h is whole k =
    sym (ap (branches_outcome m c S) whole ∙ branches-each m c S f xs
    ∙ ap (λ o. pair_of o (list_all (λ x. is_quiet m c S (f x)) xs)) (sym (all_some-none (long_shape m c S) f xs i d h (no_long (is_long (f d)) (steps_shape m c S (f d)) (is_quiet m c S (f d)) k ∙ ap (λ d. long_shape m c S (f d)) is))))

pub branches-all : {X : Type 0} (m : Model) (c : Customs) (S : Shape) (f : X → Pipe) (xs : List X) (i : ℕ) (Ss : List Shape) (q : Bool) (ps : Pipes) → length xs ≤ i → ps ≡ pipes_from (map f xs) → branches_outcome m c S (pipes_from (map f (take i xs))) ≡ Some (Ss, q) → ◌≡◌ {A = Option (List Shape × Bool)} (Some (Ss, q)) (branches_outcome m c S ps)
branches-all m c S f xs i Ss q ps h whole e = sym (ap (branches_outcome m c S) (whole ∙ ap (λ l. pipes_from (map f l)) (sym (take_all i xs h))) ∙ e)

-- ---- joins

joined_parts : (m : Model) (S : Shape) (outer : Bool) (a : Name) (o : Option Shape) (q : Bool) → outcome (option_and_then (λ R. then_some (is_free m S a) (joined_shape outer a S R)) o) q ≡ join_outcome m S outer a (outcome o q)
joined_parts m S outer a None q = refl
joined_parts m S outer a (Some R) q = refl

related_parts : (m : Model) (c : Customs) (S : Shape) (outer : Bool) (a : Name) (T : OptPipe) (o : Option Navigation)
    → outcome (option_and_then (λ v. option_and_then (λ R. then_some (is_free m S a) (joined_shape outer a S R)) (inner_shape m c (set_shape v.target) (set_shape v.target) T)) o) (is_some_and (λ v. inner_quiet m c (set_shape v.target) T) o)
    ≡ join_outcome m S outer a (related_outcome m c (option_map (λ v. v.target) o) T)
related_parts m c S outer a T None = refl
related_parts m c S outer a T (Some v) = joined_parts m S outer a (inner_shape m c (set_shape v.target) (set_shape v.target) T) (inner_quiet m c (set_shape v.target) T)

pub outcome-Join : (m : Model) (c : Customs) (S : Shape) (outer : Bool) (n a : Name) (T : OptPipe) → join_outcome m S outer a (related_outcome m c (option_map (λ v. v.target) (join_navigation m S n)) T) ≡ step_outcome m c S (Step.Join outer n a T)
outcome-Join m c S outer n a T =
    sym ((λ i. outcome (step_shape-Join m c S outer n a T i) (step_quiet-Join m c S outer n a T i)) ∙ related_parts m c S outer a T (join_navigation m S n))

-- ---- walks over hierarchies

walk_parts : (m : Model) (S : Shape) (p : Path) (items : List OrderItem) (o : Option HierarchyPlace)
    → outcome (then_some (is_some_and (λ f. is_some_and (same_kind f.key.kind) (path_kind m S p)) o && is_some_and (λ f. list_all (λ x. is_typed m (set_shape f.type) x.expr) items) o) S)
    (not (is_risky S p) && is_some_and (λ f. order_sure m (set_shape f.type) items) o)
    ≡ walk_outcome m S p items (option_map {U = ℕ × EdmType} (λ f. (f.type, f.key.kind)) o)
walk_parts m S p items None = refl
walk_parts m S p items (Some f) = refl

pub outcome-Traverse : (m : Model) (c : Customs) (S : Shape) (t : TraverseStep) → walk_outcome m S t.path t.items (nodes_at m t.hier) ≡ step_outcome m c S (Step.Traverse t)
outcome-Traverse m c S t = sym ((λ i. outcome (step_shape-Traverse m c S t i) (step_quiet-Traverse m c S t i)) ∙ walk_parts m S t.path t.items (hierarchy_at m t.hier))

-- ---- climbs

climb_parts : (S : Shape) (b l : Bool) (o : Option Shape) (f : Shape → Bool) (r q : Bool) (g : Shape → Bool)
    → outcome (then_some (b && l && is_some_and f o) S) (r && q && is_some_and g o) ≡ option_and_then (λ y. kept S (b && f y.shape) (r && y.quiet && g y.shape)) (if l then outcome o q else None)
climb_parts S false false o f r q g = refl
climb_parts S false true None f r q g = refl
climb_parts S false true (Some R) f r q g = refl
climb_parts S true false o f r q g = refl
climb_parts S true true None f r q g = refl
climb_parts S true true (Some R) f r q g = refl

climb_nodes : (m : Model) (c : Customs) (S : Shape) (p : Path) (T : Pipe) (d : Option ℕ) (h : Option HierarchyPlace)
    → outcome (then_some (is_some_and (λ f. is_some_and (same_kind f.key.kind) (path_kind m S p)) h && is_distance d && is_long T && is_some_and (λ R. is_some_and (λ f. is_some_and (same_kind f.key.kind) (path_kind m R p)) h) (steps_shape m c S T)) S)
    (not (is_risky S p) && is_quiet m c S T && is_some_and (λ R. not (is_risky R p)) (steps_shape m c S T))
    ≡ climb_outcome m S p d (option_map {U = ℕ × EdmType} (λ f. (f.type, f.key.kind)) h) (long_outcome m c S T)
climb_nodes m c S p T d None = refl
climb_nodes m c S p T d (Some f) =
    climb_parts S (is_some_and (same_kind f.key.kind) (path_kind m S p) && is_distance d) (is_long T) (steps_shape m c S T) (λ R. is_some_and (same_kind f.key.kind) (path_kind m R p)) (not (is_risky S p)) (is_quiet m c S T) (λ R. not (is_risky R p))

pub outcome-Climb : (m : Model) (c : Customs) (S : Shape) (up : Bool) (h : HierName) (p : Path) (T : Pipe) (d : Option ℕ) (keep : Bool) → climb_outcome m S p d (nodes_at m h) (long_outcome m c S T) ≡ step_outcome m c S (Step.Climb up h p T d keep)
outcome-Climb m c S up h p T d keep = sym ((λ i. outcome (step_shape-Climb m c S up h p T d keep i) (step_quiet-Climb m c S up h p T d keep i)) ∙ climb_nodes m c S p T d (hierarchy_at m h))

pub long-types : (m : Model) (c : Customs) → IsSound m → (S : Shape) (p : Pipe) (o : Option Outcome) → has_types m S ≡ true → o ≡ long_outcome m c S p → IfSome o (λ x. IsTrue (has_types m x.shape))
long-types m c sound S p None h e = tt
long-types m c sound S p (Some x) h e = pipe-types m c sound p S x.shape h (if_else-parts (is_long p) (steps_shape m c S p) x.shape (long-parts m c S p x (sym e)).0).1

-- ---- recursive rollups

recursive_parts : (a r q : Bool) (o : Option Shape) (t : ℕ) → then_some (a && is_some_and (λ N. is_some_and (λ k. k == t) (root_type N)) o) (r && q) ≡ option_and_then (λ y. then_some (a && is_root y.shape t) (r && y.quiet)) (outcome o q)
recursive_parts true r q None t = refl
recursive_parts false r q None t = refl
recursive_parts a r q (Some N) t = refl

recursive_nodes : (m : Model) (c : Customs) (S : Shape) (p : Path) (T : OptPipe) (h : Option HierarchyPlace)
    → then_some (is_some_and (λ f. is_some_and (same_kind f.key.kind) (path_kind m S p)) h && is_some_and (λ f. is_some_and (λ N. is_some_and (λ t. t == f.type) (root_type N)) (inner_shape m c (set_shape f.type) (set_shape f.type) T)) h) (not (is_risky S p) && is_some_and (λ f. inner_quiet m c (set_shape f.type) T) h)
    ≡ recursive_outcome m S p (option_map {U = ℕ × EdmType} (λ f. (f.type, f.key.kind)) h) (related_outcome m c (option_map (λ x. x.0) (option_map {U = ℕ × EdmType} (λ f. (f.type, f.key.kind)) h)) T)
recursive_nodes m c S p T None = refl
recursive_nodes m c S p T (Some f) = recursive_parts (is_some_and (same_kind f.key.kind) (path_kind m S p)) (not (is_risky S p)) (inner_quiet m c (set_shape f.type) T) (inner_shape m c (set_shape f.type) (set_shape f.type) T) f.type

pub outcome-Recursive : (m : Model) (c : Customs) (S : Shape) (h : HierName) (p : Path) (T : OptPipe) → recursive_outcome m S p (nodes_at m h) (related_outcome m c (option_map (λ x. x.0) (nodes_at m h)) T) ≡ key_outcome m c S (Key.Recursive h p T)
outcome-Recursive m c S h p T = sym ((λ i. then_some (key_typed-Recursive m c S h p T i) (key_quiet-Recursive m c S h p T i)) ∙ recursive_nodes m c S p T (hierarchy_at m h))
