-- The recursive rollup among the keys of a typed grouping.
use Rattle.std.proofs.Common.{◌≡◌, ℕ, suc, ◌+◌, ◌≤◌, refl, sym, ◌∙◌, ap, subst, Bool, true, Option, Some, None, List, [], ◌++◌, length, arith, inl, inr}
use Rattle.std.specs.Prelude.{option_and_then, option_map, ◌==◌}
use Rattle.std.proofs.lemmas.Bool.{and_parts}
use Rattle.std.proofs.lemmas.Bool.Decides.{nat_tests}
use Rattle.std.proofs.lemmas.List.{append-nil}
use Rattle.edm_values.proofs.OptionFacts.{if_else-parts, some_and, some_value}
use Rattle.edm_values.specs.Lists.{is_some_and}
use Rattle.edm_values.specs.Names.{Path}
use Rattle.edm_model.specs.LookUps.{HierarchyPlace}
use Rattle.edm_model.specs.Models.{Model}
use Rattle.edm_data.specs.Worlds.{World}
use Rattle.apply_ast.specs.Trees.{HierName, Key, Keys, OptPipe, is_long}
use Rattle.context_typing.proofs.LawfulShapes.{own_is_lawful}
use Rattle.context_typing.proofs.TypingEquations.{inner_shape-SomePipe, key_typed-Recursive}
use Rattle.context_typing.specs.Readings.{readings}
use Rattle.context_typing.specs.Shapes.{Shape, set_shape}
use Rattle.context_typing.specs.Typing.{Customs, RollupPart, group_keys, hierarchy_at, inner_shape, is_node_path, key_typed, keys_typed, rollup_part, rollup_parts, root_type, steps_shape}
use Rattle.apply_meaning.proofs.MeaningEquations.{key_shown-Plain, key_shown-Rollup, keys_shown-MoreKeys, keys_shown-NoKeys}
use Rattle.apply_meaning.proofs.NodeLemmas.{named-parts, rows_fit}
use Rattle.apply_meaning.specs.Instances.{rows}
use Rattle.apply_meaning.specs.Meaning.{key_shown, keys_shown}
use Rattle.step_run.proofs.CostEquations.{key_cost-Plain, keys_cost-MoreKeys, keys_cost-NoKeys}
use Rattle.step_run.proofs.LevelLemmas.{IsPlaced}
use Rattle.step_run.specs.Conditions.{InnerRuns, KeysReady, ShownReady, ShownRuns}
use Rattle.step_run.specs.Contexts.{Context}
use Rattle.step_run.specs.Costs.{key_cost, keys_cost}
use Rattle.step_run.specs.RecursiveKeys.{HasKey, are_flat_keys, is_flat_key}

-- ---- keys without a rollup that is recursive

flat-shown : (w : World) (c : Customs) (k : Key) → is_flat_key k ≡ true → key_shown w c k ≡ Some []
flat-shown w c (Key.Plain p) h = key_shown-Plain w c p
flat-shown w c (Key.Rollup all ps) h = key_shown-Rollup w c all ps
flat-shown w c (Key.Recursive x p T) h = cc

-- they show no nodes
pub all-shown : (w : World) (c : Customs) (ks : Keys) → are_flat_keys ks ≡ true → keys_shown w c ks ≡ Some []
all-shown w c Keys.NoKeys h = keys_shown-NoKeys w c
all-shown w c (Keys.MoreKeys k ks) h =
    let t = and_parts (is_flat_key k) (are_flat_keys ks) h in
    keys_shown-MoreKeys w c k ks
    ∙ ap (option_and_then (λ xs. option_map (λ ys. xs ++ ys) (keys_shown w c ks))) (flat-shown w c k t.0)
    ∙ ap (option_map (λ ys. [] ++ ys)) (all-shown w c ks t.1)

-- and the first key that is not plain is none
pub flat-placed : (w : World) (ks : Keys) → are_flat_keys ks ≡ true → IsPlaced w (rollup_part (group_keys ks))
flat-placed w Keys.NoKeys h = tt
flat-placed w (Keys.MoreKeys (Key.Plain p) ks) h = flat-placed w ks h
flat-placed w (Keys.MoreKeys (Key.Rollup all ps) ks) h = tt
flat-placed w (Keys.MoreKeys (Key.Recursive x p T) ks) h = cc

-- ---- keys that are all plain

plain-shown : (w : World) (c : Customs) (ks : Keys) → length (rollup_parts ks) ≤ 0 → keys_shown w c ks ≡ Some []
plain-shown w c Keys.NoKeys h = keys_shown-NoKeys w c
plain-shown w c (Keys.MoreKeys (Key.Plain p) ks) h =
    keys_shown-MoreKeys w c (Key.Plain p) ks
    ∙ ap (option_and_then (λ xs. option_map (λ ys. xs ++ ys) (keys_shown w c ks))) (key_shown-Plain w c p)
    ∙ ap (option_map (λ ys. [] ++ ys)) (plain-shown w c ks h)
plain-shown w c (Keys.MoreKeys (Key.Rollup all ps) ks) h = absurd (omega (arith, h))
plain-shown w c (Keys.MoreKeys (Key.Recursive x p T) ks) h = absurd (omega (arith, h))

plain-cost : (w : World) (c : Customs) (ks : Keys) → length (rollup_parts ks) ≤ 0 → keys_cost w c ks ≡ 0
plain-cost w c Keys.NoKeys h = keys_cost-NoKeys w c
plain-cost w c (Keys.MoreKeys (Key.Plain p) ks) h =
    keys_cost-MoreKeys w c (Key.Plain p) ks ∙ (λ i. key_cost-Plain w c p i + plain-cost w c ks h i)
plain-cost w c (Keys.MoreKeys (Key.Rollup all ps) ks) h = absurd (omega (arith, h))
plain-cost w c (Keys.MoreKeys (Key.Recursive x p T) ks) h = absurd (omega (arith, h))

-- ---- a recursive rollup, where at most one key is not plain

-- there is a key that is not plain
some-part : (h : HierName) (p : Path) (T : OptPipe) (ks : Keys) → HasKey (Key.Recursive h p T) ks → 1 ≤ length (rollup_parts ks)
some-part h p T Keys.NoKeys e = absurd e
some-part h p T (Keys.MoreKeys k ks) (inl e) = subst (λ k. 1 ≤ length (rollup_parts (Keys.MoreKeys k ks))) e (omega arith)
some-part h p T (Keys.MoreKeys (Key.Plain q) ks) (inr e) = some-part h p T ks e
some-part h p T (Keys.MoreKeys (Key.Rollup all ps) ks) (inr e) = omega arith
some-part h p T (Keys.MoreKeys (Key.Recursive x q U) ks) (inr e) = omega arith

-- it is the first key that is not plain
pub recursive-part : (h : HierName) (p : Path) (T : OptPipe) (ks : Keys) → HasKey (Key.Recursive h p T) ks → length (rollup_parts ks) ≤ 1 → rollup_part (group_keys ks) ≡ RollupPart.Nodes h p
recursive-part h p T Keys.NoKeys e few = absurd e
recursive-part h p T (Keys.MoreKeys k ks) (inl e) few = ap (λ k. rollup_part (group_keys (Keys.MoreKeys k ks))) (sym e)
recursive-part h p T (Keys.MoreKeys (Key.Plain q) ks) (inr e) few = recursive-part h p T ks e few
recursive-part h p T (Keys.MoreKeys (Key.Rollup all ps) ks) (inr e) few = let some = some-part h p T ks e in absurd (omega (arith, some, few))
recursive-part h p T (Keys.MoreKeys (Key.Recursive x q U) ks) (inr e) few = let some = some-part h p T ks e in absurd (omega (arith, some, few))

only-shown : (o : Option (List ℕ)) → option_and_then (λ xs. option_map (λ ys. xs ++ ys) (Some [])) o ≡ o
only-shown None = refl
only-shown (Some xs) = ap Some (append-nil xs)

next-shown : (o : Option (List ℕ)) → option_and_then (λ xs. option_map (λ ys. xs ++ ys) o) (Some []) ≡ o
next-shown None = refl
next-shown (Some ys) = refl

-- the nodes that it shows are those of the keys
pub recursive-shown : (w : World) (c : Customs) (h : HierName) (p : Path) (T : OptPipe) (ks : Keys) → HasKey (Key.Recursive h p T) ks → length (rollup_parts ks) ≤ 1 → keys_shown w c ks ≡ key_shown w c (Key.Recursive h p T)
recursive-shown w c h p T Keys.NoKeys e few = absurd e
recursive-shown w c h p T (Keys.MoreKeys k ks) (inl e) few =
    let others : length (rollup_parts ks) ≤ 0 = rest (Key.Recursive h p T) refl (subst (λ k. length (rollup_parts (Keys.MoreKeys k ks)) ≤ 1) (sym e) few) in
    ap (λ k. keys_shown w c (Keys.MoreKeys k ks)) (sym e)
    ∙ keys_shown-MoreKeys w c (Key.Recursive h p T) ks
    ∙ ap (λ o. option_and_then (λ xs. option_map (λ ys. xs ++ ys) o) (key_shown w c (Key.Recursive h p T))) (plain-shown w c ks others)
    ∙ only-shown (key_shown w c (Key.Recursive h p T))
  where
    rest : (k : Key) → k ≡ Key.Recursive h p T → suc (length (rollup_parts ks)) ≤ 1 → length (rollup_parts ks) ≤ 0
    rest k same h = omega (arith, h)
recursive-shown w c h p T (Keys.MoreKeys (Key.Plain q) ks) (inr e) few =
    keys_shown-MoreKeys w c (Key.Plain q) ks
    ∙ ap (option_and_then (λ xs. option_map (λ ys. xs ++ ys) (keys_shown w c ks))) (key_shown-Plain w c q)
    ∙ next-shown (keys_shown w c ks)
    ∙ recursive-shown w c h p T ks e few
recursive-shown w c h p T (Keys.MoreKeys (Key.Rollup all ps) ks) (inr e) few = let some = some-part h p T ks e in absurd (omega (arith, some, few))
recursive-shown w c h p T (Keys.MoreKeys (Key.Recursive x q U) ks) (inr e) few = let some = some-part h p T ks e in absurd (omega (arith, some, few))

-- what it counts is what the keys count
pub recursive-cost : (w : World) (c : Customs) (h : HierName) (p : Path) (T : OptPipe) (ks : Keys) → HasKey (Key.Recursive h p T) ks → key_cost w c (Key.Recursive h p T) ≤ keys_cost w c ks
recursive-cost w c h p T Keys.NoKeys e = absurd e
recursive-cost w c h p T (Keys.MoreKeys k ks) (inl e) =
    let whole = keys_cost-MoreKeys w c k ks in
    let own = ap (key_cost w c) e in
    omega (arith, whole, own)
recursive-cost w c h p T (Keys.MoreKeys k ks) (inr e) =
    let whole = keys_cost-MoreKeys w c k ks in
    let rest = recursive-cost w c h p T ks e in
    omega (arith, whole, rest)

-- ---- its typing

key-typed : (m : Model) (c : Customs) (S : Shape) (k : Key) (ks : Keys) → HasKey k ks → keys_typed m c S ks ≡ true → key_typed m c S k ≡ true
unfolding key_typed keys_typed
key-typed m c S k Keys.NoKeys e h = absurd e
key-typed m c S k (Keys.MoreKeys y ks) (inl e) h = ap (key_typed m c S) e ∙ (and_parts (key_typed m c S y) (keys_typed m c S ks) h).0
key-typed m c S k (Keys.MoreKeys y ks) (inr e) h = key-typed m c S k ks e (and_parts (key_typed m c S y) (keys_typed m c S ks) h).1

-- its hierarchy is in the model, and its pipeline runs on the instances of all nodes
pub record Recursive (x : Context) (h : HierName) (T : OptPipe) : Type 0 where
  pub place : HierarchyPlace
  pub at : hierarchy_at x.world.model h ≡ Some place
  pub shown : ShownReady x h T

pub recursive : (x : Context) (h : HierName) (p : Path) (T : OptPipe) (ks : Keys) → HasKey (Key.Recursive h p T) ks → KeysReady x ks → Recursive x h T
recursive x h p T ks e R =
    let m = x.world.model in
    let c = readings x.customs in
    let leads : HierarchyPlace → Bool = λ f. is_some_and (λ N. is_some_and (λ t. t == f.type) (root_type N)) (inner_shape m c (set_shape f.type) (set_shape f.type) T) in
    let t = and_parts (is_node_path m R.shape h p) _ (sym (key_typed-Recursive m c R.shape h p T) ∙ key-typed m c R.shape (Key.Recursive h p T) ks e R.typed) in
    let own = some_and leads (hierarchy_at m h) t.1 in
    record { place = own.0; at = own.1; shown = λ f at. runs f (subst (λ f. leads f ≡ true) (some_value (sym own.1 ∙ at)) own.2) at }
  where
    inner-runs : (f : HierarchyPlace) (N : Shape) (U : OptPipe) → hierarchy_at x.world.model h ≡ Some f → inner_shape x.world.model (readings x.customs) (set_shape f.type) (set_shape f.type) U ≡ Some N
        → InnerRuns x (Some f.type) (set_shape f.type) N U (rows x.world f.set)
    inner-runs f N OptPipe.NoPipe at i = tt
    inner-runs f N (OptPipe.SomePipe q) at i =
        let long = if_else-parts (is_long q) (steps_shape x.world.model (readings x.customs) (set_shape f.type) q) N (sym (inner_shape-SomePipe x.world.model (readings x.customs) (set_shape f.type) (set_shape f.type) q) ∙ i) in
        record {
          runs = record {
            customs = R.customs;
            lawful = own_is_lawful x.world.model f.type;
            typed = long.1;
            fit = rows_fit x.world f.set f.type (named-parts x.world.model h f at).0;
          };
          root_is = refl;
        }

    runs : (f : HierarchyPlace) → is_some_and (λ N. is_some_and (λ t. t == f.type) (root_type N)) (inner_shape x.world.model (readings x.customs) (set_shape f.type) (set_shape f.type) T) ≡ true → hierarchy_at x.world.model h ≡ Some f
        → (N : Shape) × ShownRuns x f N T
    runs f i at =
        let N = some_and (λ N. is_some_and (λ t. t == f.type) (root_type N)) (inner_shape x.world.model (readings x.customs) (set_shape f.type) (set_shape f.type) T) i in
        let t = some_and (λ t. t == f.type) (root_type N.0) N.2 in
        let same : t.0 ≡ f.type = (let b = t.2 in grind (arith, nat_tests, b)) in
        (N.0, record { typed = N.1; inner = inner-runs f N.0 T at N.1; nodes = t.1 ∙ ap Some same })
