-- The entities at the empty prefixes of what a pipeline makes are those of its input.
use Rattle.std.proofs.Common.{◌≡◌, refl, sym, ◌∙◌, ap, ℕ, Bool, true, false, ◌&&◌, not, List, [], ◌∷◌, ◌++◌, Option, Some, None, map, filter}
use Rattle.std.specs.Prelude.{option_and_then, option_map, flat_map, slice_get, if◌then◌else◌}
use Rattle.std.specs.List.{list_all, list_any}
use Rattle.std.proofs.lemmas.Bool.{and_parts, and_from}
use Rattle.edm_values.proofs.ListFacts.{all-any, all-append, all-at, all-drop, all-filter_map, all-map, all-sorted, all-take, all-filter}
use Rattle.edm_values.proofs.OptionFacts.{all_some-parts, chained, mapped, none_or, some_value, then_some-parts, first_some-None}
use Rattle.edm_values.proofs.SearchFacts.{IsAmong, find-joined}
use Rattle.edm_values.specs.Lists.{all_some, at_places, first_some, is_nonempty}
use Rattle.edm_values.specs.Names.{Name, Path}
use Rattle.edm_values.specs.Values.{is_beyond, is_value, top_places}
use Rattle.edm_values.specs.declared.Value.{Value}
use Rattle.edm_model.specs.LookUps.{HierarchyPlace}
use Rattle.edm_model.specs.Models.{Navigation}
use Rattle.edm_data.specs.Nodes.{identifier}
use Rattle.edm_data.specs.Worlds.{Entity, World}
use Rattle.apply_ast.specs.Trees.{OptPipe, Pipe, Pipes, Step}
use Rattle.context_typing.proofs.TableLemmas.{under-nil}
use Rattle.context_typing.specs.Paths.{at_path, is_none_or, same_path}
use Rattle.context_typing.specs.Shapes.{Shape, set_shape}
use Rattle.context_typing.specs.Typing.{Customs, RollupPart, after, group_keys, hierarchy_at, join_navigation, key_paths, plain_paths, rollup_part}
use Rattle.apply_meaning.specs.Instances.{Instance, lookup, no_instance, root_of, rows, val, extended}
use Rattle.apply_meaning.specs.Meaning.{Outcome, at_or_below, beneath, beside, beside_none, bound_to, branch_means, climbed, column, group, grouped, grouping_mean, groups_by, inner_mean, joined, key_list, keyed, keys, keys_shown, level_paths, mean, node_groups, order_before, order_values, reaches, refused_at_beyond, related_rows, same_keys, step_mean, traversed, values}

-- what all results of a joined list pass
pub joined-all : {X : Type 0} (p : Instance → Bool) (h : X → Outcome) (xs : List X) (out : List Instance) → joined (map h xs) ≡ Some out
    → ((x : X) → IsAmong xs x → (r : List Instance) → h x ≡ Some r → list_all p r ≡ true) → list_all p out ≡ true
joined-all p h xs out e k =
    let t = mapped (λ ls. flat_map (λ l. l) ls) (all_some (map h xs)) out e in
    sym (ap (list_all p) t.2) ∙ each xs t.0 t.1 k
  where
    each : (xs : List _) (ls : List (List Instance)) → all_some (map h xs) ≡ Some ls → ((x : _) → IsAmong xs x → (r : List Instance) → h x ≡ Some r → list_all p r ≡ true) → list_all p (flat_map (λ l. l) ls) ≡ true
    each [] ls e k = sym (ap (λ z. list_all p (flat_map (λ l. l) z)) (some_value e))
    each (x ∷ xs) ls e k =
        let t = all_some-parts (h x) (map h xs) ls e in
        sym (ap (λ z. list_all p (flat_map (λ l. l) z)) t.4)
        ∙ all-append p t.0 (flat_map (λ l. l) t.2) (k x (λ q a. (and_parts (q x) _ a).0) t.0 t.1) (each xs t.2 t.3 (λ y m. k y (λ q a. m q (and_parts (q x) _ a).1)))

-- chosen instances pass what all pass
pub all-at_places : (p : Instance → Bool) (l : List Instance) (ks : List ℕ) → list_all p l ≡ true → list_all p (at_places l ks) ≡ true
all-at_places p l ks a = all-filter_map p (slice_get l) ks (λ k i e. all-at p l k i a e)

pub unless-parts : {X : Type 0} (vs : List Value) (x y : X) → refused_at_beyond vs x ≡ Some y → x ≡ y
unless-parts vs x y e = (then_some-parts (not (list_any is_beyond vs)) x y e).1

-- the root of an instance passes a test
abbrev pub root_passes : (Entity → Bool) → Instance → Bool
root_passes Q i = is_none_or Q (root_of i)

pub root-of_joined : (i : Instance) (ps : List (Path × Option Entity)) (cs : List (Path × Value)) → at_path (λ x. x.0) ps [] ≡ None → root_of (record { prefixes = i.prefixes ++ ps; columns = cs }) ≡ root_of i
root-of_joined i ps cs n = ap (option_and_then (λ x. x.1)) (find-joined (λ x. same_path x.0 []) i.prefixes ps ∙ ap (first_some (at_path (λ x. x.0) i.prefixes [])) n ∙ first_some-None (at_path (λ x. x.0) i.prefixes []))

bound-roots : (Q : Entity → Bool) (outer : Bool) (a : Name) (i : Instance) (rs : List Instance) → root_passes Q i ≡ true → list_all (root_passes Q) (bound_to outer a i rs) ≡ true
bound-roots Q outer a i rs h = go (outer && not (is_nonempty rs))
  where
    passes : (j : Instance) → root_of j ≡ root_of i → root_passes Q j ≡ true
    passes j e = ap (λ o. elim o [ None ↦ true | Some e ↦ Q e ]) e ∙ h

    go : (b : Bool) → list_all (root_passes Q) (if b then beside_none a i ∷ [] else map (beside a i) rs) ≡ true
    go true = and_from _ _ (passes (beside_none a i) (root-of_joined i ((a ∷ [], None) ∷ []) i.columns refl)) refl
    go false = all-map {X = Instance} (λ r. true) (root_passes Q) (beside a i) rs (all-any (λ r. true) rs (λ r. refl))
        (λ r t. passes (beside a i r) (root-of_joined i (map (beneath a) r.prefixes) (i.columns ++ map (beneath a) r.columns) (under-nil (λ x. x.0) a (beneath a) (λ x. refl) r.prefixes)))

module _ (w : World) (c : Customs) (Q : Entity → Bool) where
  abbrev Passes : List Instance → Type 0
  Passes l = list_all (root_passes Q) l ≡ true

  abbrev Keeps : (List Instance → Outcome) → Type 0
  Keeps f = (l r : List Instance) → Passes l → f l ≡ Some r → Passes r

  grouped-roots : (ks : List Path) (f : List Instance → Outcome) → Keeps f → Keeps (grouped w ks f)
  grouped-roots ks f k l r a e = joined-all (root_passes Q) (λ k. option_map (map (λ r. extended r (keyed ks k))) (f (group w ks k l))) (keys w ks l) r e (λ x m y h.
      let t = mapped (map (λ r. extended r (keyed ks x))) (f (group w ks x l)) y h in
      sym (ap (list_all (root_passes Q)) t.2)
      ∙ all-map (root_passes Q) (root_passes Q) (λ r. extended r (keyed ks x)) t.0 (k (group w ks x l) t.0 (all-filter (root_passes Q) (λ i. same_keys (key_list w ks i) x) l a) t.1) (λ i p. p))

  groups-roots : (part : RollupPart) (ks : List Path) (shown : List ℕ) (f : List Instance → Outcome) → Keeps f → Keeps (groups_by w part ks shown f)
  groups-roots RollupPart.NoRollup ks shown f k l r a e = joined-all (root_passes Q) (λ level. grouped w level f l) (level_paths ks RollupPart.NoRollup) r e (λ level m y h. grouped-roots level f k l y a h)
  groups-roots (RollupPart.Levels all ps) ks shown f k l r a e = joined-all (root_passes Q) (λ level. grouped w level f l) (level_paths ks (RollupPart.Levels all ps)) r e (λ level m y h. grouped-roots level f k l y a h)
  groups-roots (RollupPart.Nodes n p) ks shown f k l r a e = nodes (hierarchy_at w.model n) e
    where
      nodes : (o : Option HierarchyPlace) → node_groups w o ks p shown f l ≡ Some r → Passes r
      nodes None e = none_or r e
      nodes (Some t) e = joined-all (root_passes Q) (λ x. option_map (map (λ r. extended r ((p, identifier w t x) ∷ []))) (grouped w ks f (filter (at_or_below w t p x) l))) shown r e (λ x m y h.
          let u = mapped (map (λ r. extended r ((p, identifier w t x) ∷ []))) (grouped w ks f (filter (at_or_below w t p x) l)) y h in
          sym (ap (list_all (root_passes Q)) u.2)
          ∙ all-map (root_passes Q) (root_passes Q) (λ r. extended r ((p, identifier w t x) ∷ [])) u.0 (grouped-roots ks f k (filter (at_or_below w t p x) l) u.0 (all-filter (root_passes Q) (at_or_below w t p x) l a) u.1) (λ i p. p))

  pub if-none : {X : Type 0} (b : Bool) (o : Option X) (y : X) → (if b then None else o) ≡ Some y → o ≡ Some y
  if-none true o y e = none_or y e
  if-none false o y e = e

  mutual
    unfolding mean

    pub pipe_roots : (p : Pipe) (S : Shape) → Keeps (mean w c S p)
    pipe_roots Pipe.End S l r a e = sym (ap (list_all (root_passes Q)) (some_value e)) ∙ a
    pipe_roots (Pipe.Then s p) S l r a e =
        let t = chained (mean w c (after w.model c S s) p) (step_mean w c S s l) r e in
        pipe_roots p (after w.model c S s) t.0 r (step_roots s S l t.0 a t.1) t.2

    pub inner_roots : (T : OptPipe) (S : Shape) (f : List Instance → Outcome) → Keeps f → Keeps (inner_mean w c S f T)
    inner_roots OptPipe.NoPipe S f k l r a e = k l r a e
    inner_roots (OptPipe.SomePipe p) S f k l r a e = pipe_roots p S l r a e

    branch_roots : (ps : Pipes) (S : Shape) (l : List Instance) (rs : List (List Instance)) → Passes l → all_some (branch_means w c S ps l) ≡ Some rs → Passes (flat_map (λ l. l) rs)
    branch_roots Pipes.NoPipes S l rs a e = sym (ap (λ z. list_all (root_passes Q) (flat_map (λ l. l) z)) (some_value e))
    branch_roots (Pipes.MorePipes p ps) S l rs a e =
        let t = all_some-parts (mean w c S p l) (branch_means w c S ps l) rs e in
        sym (ap (λ z. list_all (root_passes Q) (flat_map (λ l. l) z)) t.4) ∙ all-append (root_passes Q) t.0 (flat_map (λ l. l) t.2) (pipe_roots p S l t.0 a t.1) (branch_roots ps S l t.2 a t.3)

    step_roots : (s : Step) (S : Shape) → Keeps (step_mean w c S s)
    step_roots Step.Identity S l r a e = sym (ap (list_all (root_passes Q)) (some_value e)) ∙ a
    step_roots (Step.Filter b) S l r a e = sym (ap (list_all (root_passes Q)) (unless-parts (values w b l) _ r e)) ∙ all-filter (root_passes Q) (λ i. is_value true (val w i b)) l a
    step_roots (Step.Compute ns) S l r a e = sym (ap (list_all (root_passes Q)) (some_value e)) ∙ all-map (root_passes Q) (root_passes Q) (λ i. extended i (map (λ x. column x.name (val w i x.expr)) ns)) l a (λ i p. p)
    step_roots (Step.OrderBy items) S l r a e = sym (ap (list_all (root_passes Q)) (then_some-parts _ _ r e).1) ∙ all-sorted (root_passes Q) (order_before w items) l a
    step_roots (Step.Skip n) S l r a e = sym (ap (list_all (root_passes Q)) (some_value e)) ∙ all-drop (root_passes Q) n l a
    step_roots (Step.Top n) S l r a e = sym (ap (list_all (root_passes Q)) (some_value e)) ∙ all-take (root_passes Q) n l a
    step_roots (Step.Aggregate items) S l r a e = sym (ap (list_all (root_passes Q)) (some_value e))
    step_roots (Step.GroupBy ks T) S l r a e =
        let t = chained (λ shown. grouping_mean w (group_keys ks) shown (inner_mean w c S (λ g. Some (no_instance ∷ [])) T) l) (keys_shown w c ks) r e in
        groups-roots (rollup_part (group_keys ks)) (plain_paths ks) t.0 (inner_mean w c S (λ g. Some (no_instance ∷ [])) T)
        (inner_roots T S (λ g. Some (no_instance ∷ [])) (λ l r a e. sym (ap (list_all (root_passes Q)) (some_value e)))) l r a (if-none (list_any is_beyond (flat_map (key_list w (key_paths (group_keys ks))) l)) _ r t.2)
    step_roots (Step.Concat ps) S l r a e =
        let t = mapped (λ ls. flat_map (λ l. l) ls) (all_some (branch_means w c S ps l)) r e in
        sym (ap (list_all (root_passes Q)) t.2) ∙ branch_roots ps S l t.0 a t.1
    step_roots (Step.Join outer n b T) S l r a e = go (join_navigation w.model S n) e
      where
        go : (o : Option Navigation) → elim o [
          | None ↦ None
          | Some v ↦ joined (map (λ i. option_map (bound_to outer b i) (inner_mean w c (set_shape v.target) (λ r. Some r) T (related_rows w v i))) l)
        ] ≡ Some r → Passes r
        go None e = none_or r e
        go (Some v) e = joined-all (root_passes Q) (λ i. option_map (bound_to outer b i) (inner_mean w c (set_shape v.target) (λ r. Some r) T (related_rows w v i))) l r e (λ i m y h.
            let t = mapped (bound_to outer b i) (inner_mean w c (set_shape v.target) (λ r. Some r) T (related_rows w v i)) y h in
            sym (ap (list_all (root_passes Q)) t.2) ∙ bound-roots Q outer b i t.0 (m (root_passes Q) a))
    step_roots (Step.TopBy t) S l r a e =
        let t = mapped (at_places l) (top_places (reaches t.limit (values w t.expr l)) t.bottom (values w t.expr l)) r e in
        sym (ap (list_all (root_passes Q)) t.2) ∙ all-at_places (root_passes Q) l t.0 a
    step_roots (Step.Climb up n p T d keep) S l r a e = go (hierarchy_at w.model n) e
      where
        go : (o : Option HierarchyPlace) → elim o [
          | None ↦ None
          | Some f ↦ option_and_then (λ r. refused_at_beyond (map (λ i. lookup w i p) (l ++ r)) (climbed w up f p d keep r l)) (mean w c S T l)
        ] ≡ Some r → Passes r
        go None e = none_or r e
        go (Some f) e =
            let t = chained (λ r. refused_at_beyond (map (λ i. lookup w i p) (l ++ r)) (climbed w up f p d keep r l)) (mean w c S T l) r e in
            sym (ap (list_all (root_passes Q)) (then_some-parts _ _ r t.2).1) ∙ all-at_places (root_passes Q) l _ a
    step_roots (Step.Traverse t) S l r a e = go (hierarchy_at w.model t.hier) e
      where
        go : (o : Option HierarchyPlace) → elim o [
          | None ↦ None
          | Some f ↦ refused_at_beyond (map (λ i. lookup w i t.path) l ++ order_values w t.items (rows w f.set)) (traversed w f t l)
        ] ≡ Some r → Passes r
        go None e = none_or r e
        go (Some f) e = sym (ap (list_all (root_passes Q)) (then_some-parts _ _ r e).1) ∙ all-at_places (root_passes Q) l _ a
