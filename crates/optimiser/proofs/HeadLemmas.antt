-- Which filters pass a step and which go into it: the forms of the code, and those of the definition.
use Rattle.std.proofs.Common.{◌≡◌, refl, sym, ◌∙◌, ap, Bool, true, false, not, ◌&&◌, ◌||◌, List, [], ◌∷◌, Option, Some, None, map, if◌then◌else◌}
use Rattle.std.specs.Prelude.{option_map, option_and_then, is_some}
use Rattle.std.specs.Bool.{then_some}
use Rattle.std.specs.List.{list_all}
use Rattle.edm_values.specs.Lists.{all_some, is_nonempty, is_some_and}
use Rattle.edm_values.specs.Literals.{is_boolean_kind}
use Rattle.edm_values.specs.Names.{Name, Path}
use Rattle.edm_values.proofs.OptionFacts.{none_or, some_value}
use Rattle.edm_model.specs.Models.{Model}
use Rattle.apply_ast.specs.Trees.{HierName, Key, Keys, OptPipe, Pipe, Step}
use Rattle.apply_ast.specs.Views.{inner_of, key_of, keys_from, keys_in, pipe_of, pipes_from, step_of}
use Rattle.apply_ast.specs.declared.steps.KeyItem as of_key
use Rattle.apply_ast.specs.declared.steps.KeyList as of_keys
use Rattle.apply_ast.specs.declared.steps.Pipe as of_pipe
use Rattle.apply_ast.specs.declared.steps.Step as of_step
use Rattle.apply_ast.specs.declared.steps.Step.TheVariants as step
use Rattle.apply_ast.proofs.ViewEquations.{keys_of-is, step_of-GroupBy}
use Rattle.context_typing.specs.Shapes.{Shape}
use Rattle.context_typing.specs.Typing.{Customs, group_keys, has_kind, is_nodes, is_sure, rollup_part, rollup_paths, steps_shape}
use Rattle.rewrite_laws.specs.Rewrites.{grouping_quiet, node_shape, on_node, over, paths}
use Rattle.rewrite_forms.specs.GroupForms.{chosen_nodes, in_every_row, recursive_key}
use Rattle.optimiser.specs.HeadForms.{branches_enter, grouping_passes, nodes_enter}
use Rattle.optimiser.specs.HeldSegments.{into_branches, into_nodes}
use Rattle.walk_laws.specs.Walks.{Rules, Test, chooses_nodes, is_late, step_enters, step_lets}
use Rattle.optimiser.proofs.KnownLemmas.{branches-from}
use Rattle.optimiser.proofs.TypedInside.{nodes-key, nodes-part, nodes-shape}

module _ {X Y : Type 0} (t : Y → Bool) (f : X → Option Y) where
  -- a test of all values that were given
  all-given : (xs : List X) (ys : List Y) → Some ys ≡ all_some (map f xs) → list_all t ys ≡ list_all (λ x. is_some_and t (f x)) xs
  all-given [] ys e = ap (list_all t) (some_value e)
  all-given (x ∷ xs) ys e = go (λ zs r. all-given xs zs r) (f x) e
    where
      more : ((zs : List Y) → Some zs ≡ all_some (map f xs) → list_all t zs ≡ list_all (λ x. is_some_and t (f x)) xs) → (y : Y) (r : Option (List Y)) → r ≡ all_some (map f xs) → Some ys ≡ option_map (λ zs. y ∷ zs) r → list_all t ys ≡ (t y && list_all (λ x. is_some_and t (f x)) xs)
      more rest y None r e = none_or ys (sym e)
      more rest y (Some zs) r e = ap (list_all t) (some_value e) ∙ ap (λ b. t y && b) (rest zs r)

      go : ((zs : List Y) → Some zs ≡ all_some (map f xs) → list_all t zs ≡ list_all (λ x. is_some_and t (f x)) xs) → (o : Option Y) → Some ys ≡ all_some (o ∷ map f xs) → list_all t ys ≡ (is_some_and t o && list_all (λ x. is_some_and t (f x)) xs)
      go rest None e = none_or ys (sym e)
      go rest (Some y) e = more rest y (all_some (map f xs)) refl e

module _ (m : Model) (c : Customs) where
  -- ---- branches

  pub branches-given : (S : Shape) (ps : List Pipe) (Ss : List Shape) → Some Ss ≡ all_some (map (steps_shape m c S) ps) → (λ (t : Test). into_branches m Ss t.expr) ≡ branches_enter m c S ps
  branches-given S ps Ss e = λ i t. then_some (all-given (λ Z. has_kind is_boolean_kind m Z t.expr) (steps_shape m c S) ps Ss e i) t.expr

  -- ---- groupings

  pub nodes-enter : (ks : List Key) (may : Bool) (h : HierName) (p : Path) (T : OptPipe) (S : Shape) (k : Name) (ps : List Path) → may ≡ true → Some (h, (p, T)) ≡ recursive_key ks → Some (S, k) ≡ chosen_nodes m c h T → ps ≡ p ∷ []
      → (λ (t : Test). if t.sure then into_nodes m ps S k t.expr else None) ≡ nodes_enter m c (keys_from ks) may
  nodes-enter ks may h p T S k ps may-is key there one =
      let part = nodes-part m c ks h p T (sym key) in
      let nodes : node_shape m c (keys_from ks) ≡ Some (S, k) = nodes-shape m c ks h p T (sym key) ∙ sym there in
      λ i t. if sym may-is i && sym (ap is_nodes part) i && t.sure
      then option_and_then (λ N. then_some (is_nonempty (paths t.expr) && over ((one ∙ ap rollup_paths (sym part)) i) t.expr && has_kind is_boolean_kind m N.0 (on_node N.1 t.expr) && is_sure m N.0 (on_node N.1 t.expr)) (on_node N.1 t.expr)) (sym nodes i)
      else None

  pub nodes-closed : (ks : List Key) (may : Bool) → may ≡ false → (λ (t : Test). None) ≡ nodes_enter m c (keys_from ks) may
  nodes-closed ks may may-is = λ i t. if sym may-is i && is_nodes (rollup_part (group_keys (keys_from ks))) && t.sure
      then option_and_then (λ N. then_some (chooses_nodes m (keys_from ks) N t.expr) (on_node N.1 t.expr)) (node_shape m c (keys_from ks)) else None

  pub nodes-none : (ks : List Key) (may : Bool) → may ≡ true → None ≡ recursive_key ks → (λ (t : Test). None) ≡ nodes_enter m c (keys_from ks) may
  nodes-none ks may may-is key = λ i t. if sym may-is i && sym (nodes-key ks ∙ sym (ap is_some key)) i && t.sure
      then option_and_then (λ N. then_some (chooses_nodes m (keys_from ks) N t.expr) (on_node N.1 t.expr)) (node_shape m c (keys_from ks)) else None

  if-same : {A : Type 0} (b : Bool) (x : A) → (if b then x else x) ≡ x
  if-same true x = refl
  if-same false x = refl

  pub nodes-missing : (ks : List Key) (may : Bool) (h : HierName) (p : Path) (T : OptPipe) → Some (h, (p, T)) ≡ recursive_key ks → None ≡ chosen_nodes m c h T → (λ (t : Test). None) ≡ nodes_enter m c (keys_from ks) may
  nodes-missing ks may h p T key there =
      let nodes : node_shape m c (keys_from ks) ≡ None = nodes-shape m c ks h p T (sym key) ∙ sym there in
      λ i t. (sym (if-same (may && is_nodes (rollup_part (group_keys (keys_from ks))) && t.sure) None)
      ∙ ap (λ o. if may && is_nodes (rollup_part (group_keys (keys_from ks))) && t.sure then option_and_then (λ N. then_some (chooses_nodes m (keys_from ks) N t.expr) (on_node N.1 t.expr)) o else None) (sym nodes)) i

-- ---- groupings that filters pass

pub grouping-open : (r : Rules) (ks : List Key) (ps : List Path) → (is_late r || not (is_some (recursive_key ks))) ≡ true → ps ≡ in_every_row (keys_from ks) → (λ (t : Test). over ps t.expr && t.sure) ≡ grouping_passes r (keys_from ks)
grouping-open r ks ps h e = λ i t. sym (ap (λ b. is_late r || not b) (nodes-key ks) ∙ h) i && over (e i) t.expr && t.sure

pub grouping-closed : (r : Rules) (ks : List Key) → (is_late r || not (is_some (recursive_key ks))) ≡ false → (λ (t : Test). false) ≡ grouping_passes r (keys_from ks)
grouping-closed r ks h = λ i t. sym (ap (λ b. is_late r || not b) (nodes-key ks) ∙ h) i && over (in_every_row (keys_from ks)) t.expr && t.sure

-- ---- the steps of the program

pub grouped : (s : of_step.Step) (ks : of_keys.KeyList) (i : Option of_pipe.Pipe) (l : List of_key.KeyItem) → s ≡ step.GroupBy ks i → l ≡ keys_in ks → step_of s ≡ Step.GroupBy (keys_from (map key_of l)) (inner_of (option_map pipe_of i))
grouped s ks i l e f = ap step_of e ∙ step_of-GroupBy ks i ∙ ap (λ K. Step.GroupBy K (inner_of (option_map pipe_of i))) (keys_of-is ks ∙ ap (λ l. keys_from (map key_of l)) (sym f))

pub concat-enters : (r : Rules) (m : Model) (c : Customs) (S : Shape) (s : Step) (ps : List Pipe) → s ≡ Step.Concat (pipes_from ps) → branches_enter m c S ps ≡ step_enters r m c S s
concat-enters r m c S s ps e =
    (λ i t. then_some (list_all (λ p. is_some_and (λ S'. has_kind is_boolean_kind m S' t.expr) (steps_shape m c S p)) (sym (branches-from m c ps) i)) t.expr)
    ∙ ap (step_enters r m c S) (sym e)

both-orders : {A : Type 0} (l g n s : Bool) (x y : A) → (if l && g && n && s then x else y) ≡ (if l && n && g && s then x else y)
both-orders true true true s x y = refl
both-orders true true false s x y = refl
both-orders true false true s x y = refl
both-orders true false false s x y = refl
both-orders false g n s x y = refl

pub group-enters : (r : Rules) (m : Model) (c : Customs) (S : Shape) (s : Step) (ks : Keys) (T : OptPipe) (may : Bool) → s ≡ Step.GroupBy ks T → may ≡ (is_late r && step_lets m c S s) → nodes_enter m c ks may ≡ step_enters r m c S s
group-enters r m c S s ks T may e f =
    ap (nodes_enter m c ks) (f ∙ ap (λ s. is_late r && step_lets m c S s) e)
    ∙ (λ i t. both-orders (is_late r) (grouping_quiet m c S ks T) (is_nodes (rollup_part (group_keys ks))) t.sure (option_and_then (λ N. then_some (chooses_nodes m ks N t.expr) (on_node N.1 t.expr)) (node_shape m c ks)) None i)
    ∙ ap (step_enters r m c S) (sym e)
