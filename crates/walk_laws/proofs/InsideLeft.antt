-- A typed pipeline of which the first and the ninth rule make nothing is left as it stands by what comes out of all branches, in joins, groupings and climbs too.
use Rattle.std.proofs.Common.{◌==◌, ◌≡◌, refl, ◌∙◌, ap, subst, Bool, true, false, List, [], ◌∷◌, ◌++◌, Option, Some, None, map, if◌then◌else◌}
use Rattle.std.specs.Prelude.{option_and_then}
use Rattle.std.specs.Bool.{then_some}
use Rattle.std.proofs.lemmas.Bool.{and_parts}
use Rattle.edm_values.specs.Lists.{all_some, is_some_and}
use Rattle.edm_values.proofs.EachLemmas.{all_some-head, all_some-tail}
use Rattle.edm_values.proofs.OptionFacts.{chained, if_else-parts, some_and}
use Rattle.edm_model.specs.LookUps.{HierarchyPlace}
use Rattle.edm_model.specs.Models.{Model, Navigation}
use Rattle.apply_ast.specs.Trees.{Key, Keys, OptPipe, Pipe, Pipes, Step, is_long, steps}
use Rattle.context_typing.specs.Shapes.{Shape, set_shape}
use Rattle.context_typing.specs.Typing.{Customs, after, branch_shapes, concat_shape, group_keys, grouped_shape, hierarchy_at, inner_shape, is_free, is_node_path, join_navigation, joined_shape, key_typed, keys_typed, no_shape, root_type, step_shape, steps_shape}
use Rattle.rewrite_laws.specs.Rewrites.{Rule, branch_results, branches, drop_identity, factor_branches, inner_results, is_identity, key_results, keys_results, pipe_or_identity, pipe_results, step_results}
use Rattle.rewrite_laws.proofs.EachPlace.{typed_first}
use Rattle.walk_laws.specs.Factored.{before_concat, factored_inside, inside_branches, inside_inner, inside_key, inside_keys, inside_step, inside_steps}
use Rattle.walk_laws.proofs.FactoredLeft.{but_alone, concat-left, long-whole, no-first, no-identity, typed-long}
use Rattle.walk_laws.proofs.Holes.{climb-typed}
use Rattle.walk_laws.proofs.Unsplit.{append-none, map-none, nothing-parts}

module _ (m : Model) (c : Customs) where
  mutual
    unfolding pipe_results steps_shape

    -- behind a step
    steps-left : (p : Pipe) (S S' : Shape) → steps_shape m c S p ≡ Some S' → pipe_results drop_identity m c S true p ≡ [] → pipe_results factor_branches m c S true p ≡ [] → inside_steps p ≡ steps p
    steps-left Pipe.End S S' e i f = refl
    steps-left (Pipe.Then Step.Identity q) S S' e i f = absurd (no-identity m c S (steps q) (nothing-parts drop_identity m c S true Step.Identity q i).0)
    steps-left (Pipe.Then s q) S S' e i f =
        let t = typed_first m c S S' s q e in
        let x = nothing-parts drop_identity m c S true s q i in
        let y = nothing-parts factor_branches m c S true s q f in
        λ j. step-left s S (after m c S s) true (steps q) t.0 refl x.1 y.0 y.1 j ++ steps-left q (after m c S s) S' t.1 x.2 y.2 j

    step-left : (s : Step) (S S' : Shape) (before : Bool) (ss : List Step) → step_shape m c S s ≡ Some S' → is_identity s ≡ false → step_results drop_identity m c S s ≡ [] → factor_branches m c S before s ss ≡ None → step_results factor_branches m c S s ≡ [] → inside_step s ≡ s ∷ []
    step-left Step.Identity S S' before ss e plain i none f = cc
    step-left (Step.Concat ps) S S' before ss e plain i none f =
        let v = chained (concat_shape m) (all_some (branch_shapes m c S ps)) S' e in
        let x = map-none Step.Concat (branch_results drop_identity m c S ps) i in
        ap before_concat (branches-left ps S v.0 v.1 x (map-none Step.Concat (branch_results factor_branches m c S ps) f))
        ∙ concat-left m c S before ps ss (typed-long m c S ps v.0 v.1) x none
    step-left (Step.GroupBy ks T) S S' before ss e plain i none f =
        let t = if_else-parts (keys_typed m c S ks) (option_and_then (grouped_shape m S (group_keys ks)) (inner_shape m c S no_shape T)) S' e in
        let v = chained (grouped_shape m S (group_keys ks)) (inner_shape m c S no_shape T) S' t.1 in
        let x = append-none (map (λ ks'. Step.GroupBy ks' T) (keys_results drop_identity m c ks)) (map (Step.GroupBy ks) (inner_results drop_identity m c S T)) i in
        let y = append-none (map (λ ks'. Step.GroupBy ks' T) (keys_results factor_branches m c ks)) (map (Step.GroupBy ks) (inner_results factor_branches m c S T)) f in
        λ j.
        Step.GroupBy (keys-left ks S t.0 (map-none (λ ks'. Step.GroupBy ks' T) _ x.0) (map-none (λ ks'. Step.GroupBy ks' T) _ y.0) j) (inner-left T S no_shape v.0 v.1 (map-none (Step.GroupBy ks) _ x.1) (map-none (Step.GroupBy ks) _ y.1) j)
        ∷ []
    step-left (Step.Join outer n a T) S S' before ss e plain i none f =
        let v = chained (λ v. option_and_then (λ R. then_some (is_free m S a) (joined_shape outer a S R)) (inner_shape m c (set_shape v.target) (set_shape v.target) T)) (join_navigation m S n) S' e in
        let U = set_shape (v.0).target in
        let x = chained (λ R. then_some (is_free m S a) (joined_shape outer a S R)) (inner_shape m c U U T) S' v.2 in
        let P : Rule → Option Navigation → Type 0 = λ r o. elim o [ None ↦ [] | Some v ↦ map (Step.Join outer n a) (inner_results r m c (set_shape v.target) T) ] ≡ [] in
        ap (λ T. Step.Join outer n a T ∷ []) (inner-left T U U x.0 x.1 (map-none (Step.Join outer n a) _ (subst (P drop_identity) v.1 i)) (map-none (Step.Join outer n a) _ (subst (P factor_branches) v.1 f)))
    step-left (Step.Climb up h x T d keep) S S' before ss e plain i none f =
        let t = climb-typed m c up h x d keep S S' T e in
        ap (λ T'. Step.Climb up h x T' d keep ∷ []) (ap pipe_or_identity (whole-left T S t.0 t.2 (map-none (λ T'. Step.Climb up h x T' d keep) _ i) (map-none (λ T'. Step.Climb up h x T' d keep) _ f)) ∙ long-whole T t.1)
    step-left s S S' before ss e plain i none f = refl

    keys-left : (ks : Keys) (S : Shape) → keys_typed m c S ks ≡ true → keys_results drop_identity m c ks ≡ [] → keys_results factor_branches m c ks ≡ [] → inside_keys ks ≡ ks
    keys-left Keys.NoKeys S e i f = refl
    keys-left (Keys.MoreKeys k ks) S e i f =
        let t = and_parts (key_typed m c S k) (keys_typed m c S ks) e in
        let x = append-none (map (λ k'. Keys.MoreKeys k' ks) (key_results drop_identity m c k)) (map (Keys.MoreKeys k) (keys_results drop_identity m c ks)) i in
        let y = append-none (map (λ k'. Keys.MoreKeys k' ks) (key_results factor_branches m c k)) (map (Keys.MoreKeys k) (keys_results factor_branches m c ks)) f in
        λ j.
        Keys.MoreKeys (key-left k S t.0 (map-none (λ k'. Keys.MoreKeys k' ks) _ x.0) (map-none (λ k'. Keys.MoreKeys k' ks) _ y.0) j)
        (keys-left ks S t.1 (map-none (Keys.MoreKeys k) _ x.1) (map-none (Keys.MoreKeys k) _ y.1) j)

    key-left : (k : Key) (S : Shape) → key_typed m c S k ≡ true → key_results drop_identity m c k ≡ [] → key_results factor_branches m c k ≡ [] → inside_key k ≡ k
    key-left (Key.Plain p) S e i f = refl
    key-left (Key.Rollup all ps) S e i f = refl
    key-left (Key.Recursive h p T) S e i f =
        let ofType : HierarchyPlace → Shape → Bool = λ g N. is_some_and (λ t. t == g.type) (root_type N) in
        let nodes : HierarchyPlace → Bool = λ g. is_some_and (ofType g) (inner_shape m c (set_shape g.type) (set_shape g.type) T) in
        let g = some_and nodes (hierarchy_at m h) (and_parts (is_node_path m S h p) (is_some_and nodes (hierarchy_at m h)) e).1 in
        let U = set_shape (g.0).type in
        let x = some_and (ofType g.0) (inner_shape m c U U T) g.2 in
        let P : Rule → Option HierarchyPlace → Type 0 = λ r o. elim o [ None ↦ [] | Some g ↦ map (Key.Recursive h p) (inner_results r m c (set_shape g.type) T) ] ≡ [] in
        ap (Key.Recursive h p) (inner-left T U U x.0 x.1 (map-none (Key.Recursive h p) _ (subst (P drop_identity) g.1 i)) (map-none (Key.Recursive h p) _ (subst (P factor_branches) g.1 f)))

    branches-left : (ps : Pipes) (S : Shape) (Ss : List Shape) → all_some (branch_shapes m c S ps) ≡ Some Ss → branch_results drop_identity m c S ps ≡ [] → branch_results factor_branches m c S ps ≡ [] → inside_branches ps ≡ map but_alone (branches ps)
    branches-left Pipes.NoPipes S Ss e i f = refl
    branches-left (Pipes.MorePipes p ps) S Ss e i f =
        let x = if is_long p then steps_shape m c S p else None in
        let t = all_some-head x (branch_shapes m c S ps) Ss e in
        let v = if_else-parts (is_long p) (steps_shape m c S p) t.0 t.1 in
        let more = all_some-tail x (branch_shapes m c S ps) Ss e in
        let y = append-none (map (λ q. Pipes.MorePipes q ps) (pipe_results drop_identity m c S false p)) (map (Pipes.MorePipes p) (branch_results drop_identity m c S ps)) i in
        let z = append-none (map (λ q. Pipes.MorePipes q ps) (pipe_results factor_branches m c S false p)) (map (Pipes.MorePipes p) (branch_results factor_branches m c S ps)) f in
        λ j. whole-left p S t.0 v.1 (map-none (λ q. Pipes.MorePipes q ps) _ y.0) (map-none (λ q. Pipes.MorePipes q ps) _ z.0) j
        ∷ branches-left ps S more.0 more.1 (map-none (Pipes.MorePipes p) _ y.1) (map-none (Pipes.MorePipes p) _ z.1) j

    -- a pipeline of its own
    whole-left : (p : Pipe) (S S' : Shape) → steps_shape m c S p ≡ Some S' → pipe_results drop_identity m c S false p ≡ [] → pipe_results factor_branches m c S false p ≡ [] → inside_steps p ≡ but_alone p
    whole-left Pipe.End S S' e i f = refl
    whole-left (Pipe.Then Step.Identity Pipe.End) S S' e i f = refl
    whole-left (Pipe.Then Step.Identity (Pipe.Then s q)) S S' e i f = absurd (no-first m c S s (steps q) (nothing-parts drop_identity m c S false Step.Identity (Pipe.Then s q) i).0)
    whole-left (Pipe.Then s q) S S' e i f =
        let t = typed_first m c S S' s q e in
        let x = nothing-parts drop_identity m c S false s q i in
        let y = nothing-parts factor_branches m c S false s q f in
        λ j. step-left s S (after m c S s) false (steps q) t.0 refl x.1 y.0 y.1 j ++ steps-left q (after m c S s) S' t.1 x.2 y.2 j

    -- an inner pipeline
    inner-left : (T : OptPipe) (S d S' : Shape) → inner_shape m c S d T ≡ Some S' → inner_results drop_identity m c S T ≡ [] → inner_results factor_branches m c S T ≡ [] → inside_inner T ≡ T
    inner-left OptPipe.NoPipe S d S' e i f = refl
    inner-left (OptPipe.SomePipe p) S d S' e i f =
        let t = if_else-parts (is_long p) (steps_shape m c S p) S' e in
        ap OptPipe.SomePipe (ap pipe_or_identity (whole-left p S S' t.1 (map-none OptPipe.SomePipe _ i) (map-none OptPipe.SomePipe _ f)) ∙ long-whole p t.0)

  pub left_inside : (p : Pipe) (S S' : Shape) → is_long p ≡ true → steps_shape m c S p ≡ Some S' → pipe_results drop_identity m c S false p ≡ [] → pipe_results factor_branches m c S false p ≡ [] → factored_inside p ≡ p
  left_inside p S S' long e i f = ap pipe_or_identity (whole-left p S S' e i f) ∙ long-whole p long
