-- A quiet pipeline that is typed on a lawful shape is never refused.
use Rattle.std.proofs.Common.{◌≡◌, refl, sym, ◌∙◌, ap, subst, ℕ, ◌==◌, Bool, true, false, not, List, [], ◌∷◌, ◌++◌, Option, Some, None, IsTrue, map, filter}
use Rattle.std.specs.Prelude.{option_and_then, option_map, is_some, flat_map, unwrap_or, if◌then◌else◌}
use Rattle.std.specs.Bool.{then_some}
use Rattle.std.specs.List.{list_any, list_all}
use Rattle.std.proofs.lemmas.Bool.{and_parts, and_from, not-true, or_right}
use Rattle.std.proofs.lemmas.List.{map-append}
use Rattle.edm_values.proofs.ListFacts.{all-any, all-append, all-map, none-append, none-flat_map, none-map, all-filter}
use Rattle.edm_values.proofs.OptionFacts.{all_some-parts, all_some-there, and_3, chained, if_else-parts, map-there, some_and, some_value, then_some-parts, some_there, some_and-there}
use Rattle.edm_values.specs.Lists.{all_some, at_places, is_some_and, places, sorted}
use Rattle.edm_values.specs.Literals.{is_boolean_kind, is_number_kind}
use Rattle.edm_values.specs.Names.{Name, Path}
use Rattle.edm_values.specs.Values.{is_beyond, is_value, taken, top_places}
use Rattle.edm_values.specs.declared.Value.{Value}
use Rattle.edm_model.specs.LookUps.{HierarchyPlace}
use Rattle.edm_model.specs.Models.{Navigation}
use Rattle.edm_data.specs.Nodes.{identifier}
use Rattle.edm_data.specs.Worlds.{World}
use Rattle.apply_ast.specs.Trees.{Expr, HierName, Key, Keys, Limit, NumberLiteral, OptPipe, OrderItem, Pipe, Pipes, Step, is_long}
use Rattle.context_typing.proofs.TypingLaw.{typing_keeps_lawful}
use Rattle.context_typing.specs.Shapes.{Shape, set_shape}
use Rattle.context_typing.specs.Typing.{Customs, RollupPart, after, branch_shapes, branches_quiet, concat_shape, customs_typed, expr_kind, group_keys, grouped_shape, hierarchy_at, inner_quiet, inner_shape, is_free, is_lawful, is_node_path, is_quiet, is_risky, is_sure, is_typed, join_navigation, joined_shape, key_paths, key_quiet, key_typed, keys_quiet, keys_typed, no_shape, order_sure, plain_paths, rollup_part, rollup_paths, root_type, step_quiet, step_shape, steps_shape, top_typed}
use Rattle.context_typing.specs.TypingLaws.{TypingKeepsLawful}
use Rattle.apply_meaning.proofs.FitLemmas.{fit-parts}
use Rattle.apply_meaning.proofs.LookupLemmas.{lookup-not_beyond}
use Rattle.apply_meaning.proofs.MeanLaw.{mean_fits}
use Rattle.apply_meaning.proofs.NodeLemmas.{nodes_fit, related_fit}
use Rattle.apply_meaning.proofs.SureLemmas.{sure-within}
use Rattle.apply_meaning.proofs.WellTyped.{IsWellTyped}
use Rattle.apply_meaning.specs.Instances.{Instance, fits, lookup, no_instance, rows, val, extended}
use Rattle.apply_meaning.specs.Meaning.{Outcome, at_or_below, bound_to, branch_means, climbed, group, grouped, grouping_mean, groups_by, inner_mean, joined, key_list, key_shown, keyed, keys, keys_shown, level_paths, mean, node_groups, order_before, order_values, reaches, refused_at_beyond, related_rows, same_keys, shown_of, step_mean, traversed, values}
use Rattle.apply_meaning.specs.MeaningLaws.{AllFit, MeanFits, NodesFit, QuietIsNotRefused, RelatedFit}
use Rattle.std.specs.Prelude.{length, nat_eq}

-- a selection is refused where a value is `Beyond` alone
top-there : (reach : List Value → Bool) (bottom : Bool) (vs : List Value) → list_any is_beyond vs ≡ false → is_some (top_places reach bottom vs) ≡ true
top-there reach bottom vs h = ap (λ b. is_some (if b then None else Some (filter (λ i. list_any (nat_eq i) (taken reach bottom vs)) (places (length vs))))) h

unless-there : {X : Type 0} (vs : List Value) (x : X) → list_any is_beyond vs ≡ false → is_some (refused_at_beyond vs x) ≡ true
unless-there vs x h = ap (λ b. is_some (then_some (not b) x)) h

joined-there : (rs : List Outcome) → list_all is_some rs ≡ true → is_some (joined rs) ≡ true
joined-there rs h = map-there (λ ls. flat_map (λ l. l) ls) (all_some rs) (all_some-there rs h)

chain-there : {X Y : Type 0} (f : X → Option Y) (o : Option X) → is_some o ≡ true → ((x : X) → o ≡ Some x → is_some (f x) ≡ true) → is_some (option_and_then f o) ≡ true
chain-there f None h g = h
chain-there f (Some x) h g = g x refl

module _ (w : World) (c : Customs) where
  plain-quiet : (S : Shape) (ks : Keys) → keys_quiet w.model c S ks ≡ true → list_all (λ p. not (is_risky S p)) (plain_paths ks) ≡ true
  unfolding is_quiet
  plain-quiet S Keys.NoKeys h = refl
  plain-quiet S (Keys.MoreKeys (Key.Plain p) ks) h = let t = and_parts _ _ h in and_from _ _ t.0 (plain-quiet S ks t.1)
  plain-quiet S (Keys.MoreKeys (Key.Rollup all ps) ks) h = plain-quiet S ks (and_parts _ _ h).1
  plain-quiet S (Keys.MoreKeys (Key.Recursive n p T) ks) h = plain-quiet S ks (and_parts _ _ h).1

  part-quiet : (S : Shape) (ks : Keys) → keys_quiet w.model c S ks ≡ true → list_all (λ p. not (is_risky S p)) (rollup_paths (rollup_part (group_keys ks))) ≡ true
  unfolding is_quiet
  part-quiet S Keys.NoKeys h = refl
  part-quiet S (Keys.MoreKeys (Key.Plain p) ks) h = part-quiet S ks (and_parts _ _ h).1
  part-quiet S (Keys.MoreKeys (Key.Rollup all ps) ks) h = (and_parts _ _ h).0
  part-quiet S (Keys.MoreKeys (Key.Recursive n p T) ks) h = and_from _ _ (and_parts _ _ (and_parts _ _ h).0).0 refl

  -- the hierarchy of a typed recursive rollup is in the model
  is_named : RollupPart → Bool
  is_named (RollupPart.Nodes h p) = is_some (hierarchy_at w.model h)
  is_named _ = true

  part-named : (S : Shape) (ks : Keys) → keys_typed w.model c S ks ≡ true → is_named (rollup_part (group_keys ks)) ≡ true
  unfolding is_named steps_shape
  part-named S Keys.NoKeys h = refl
  part-named S (Keys.MoreKeys (Key.Plain p) ks) h = part-named S ks (and_parts true (keys_typed w.model c S ks) h).1
  part-named S (Keys.MoreKeys (Key.Rollup all ps) ks) h = refl
  part-named S (Keys.MoreKeys (Key.Recursive n p T) ks) h = some_and-there _ (hierarchy_at w.model n) (and_parts _ _ (and_parts _ _ h).0).0

  -- a grouping is not refused where what is made of each group is not
  grouped-there : (S : Shape) (ks : List Path) (f : List Instance → Outcome) (l : List Instance) → AllFit w S l → ((x : List Instance) → AllFit w S x → is_some (f x) ≡ true) → is_some (grouped w ks f l) ≡ true
  grouped-there S ks f l a h =
      joined-there (map (λ k. option_map (map (λ r. extended r (keyed ks k))) (f (group w ks k l))) (keys w ks l))
      (all-map {X = List Value} (λ k. true) is_some (λ k. option_map (map (λ r. extended r (keyed ks k))) (f (group w ks k l))) (keys w ks l) (all-any (λ k. true) (keys w ks l) (λ k. refl))
      (λ k t. map-there (map (λ r. extended r (keyed ks k))) (f (group w ks k l)) (h (group w ks k l) (all-filter (fits w S) (λ j. same_keys (key_list w ks j) k) l a))))

  groups_by-there : (S : Shape) (part : RollupPart) (ks : List Path) (shown : List ℕ) (f : List Instance → Outcome) (l : List Instance) → is_named part ≡ true → AllFit w S l
      → ((x : List Instance) → AllFit w S x → is_some (f x) ≡ true) → is_some (groups_by w part ks shown f l) ≡ true
  unfolding is_named
  groups_by-there S RollupPart.NoRollup ks shown f l n a h =
      joined-there (map (λ level. grouped w level f l) (level_paths ks RollupPart.NoRollup))
      (all-map {X = List Path} (λ k. true) is_some (λ level. grouped w level f l) (level_paths ks RollupPart.NoRollup) refl (λ level t. grouped-there S level f l a h))
  groups_by-there S (RollupPart.Levels all ps) ks shown f l n a h =
      joined-there (map (λ level. grouped w level f l) (level_paths ks (RollupPart.Levels all ps)))
      (all-map {X = List Path} (λ k. true) is_some (λ level. grouped w level f l) (level_paths ks (RollupPart.Levels all ps)) (all-any (λ k. true) (level_paths ks (RollupPart.Levels all ps)) (λ k. refl))
      (λ level t. grouped-there S level f l a h))
  groups_by-there S (RollupPart.Nodes m p) ks shown f l n a h = nodes (hierarchy_at w.model m) n
    where
      nodes : (o : Option HierarchyPlace) → is_some o ≡ true → is_some (node_groups w o ks p shown f l) ≡ true
      nodes None n = n
      nodes (Some t) n =
          joined-there (map (λ x. option_map (map (λ r. extended r ((p, identifier w t x) ∷ []))) (grouped w ks f (filter (at_or_below w t p x) l))) shown)
          (all-map {X = ℕ} (λ k. true) is_some (λ x. option_map (map (λ r. extended r ((p, identifier w t x) ∷ []))) (grouped w ks f (filter (at_or_below w t p x) l))) shown
          (all-any (λ k. true) shown (λ k. refl))
          (λ x y. map-there _ (grouped w ks f (filter (at_or_below w t p x) l))
          (grouped-there S ks f (filter (at_or_below w t p x) l) (all-filter (fits w S) (at_or_below w t p x) l a) h)))

-- what the laws say at one world
abbrev pub MeanFitsIn : World → Customs → Type 0
MeanFitsIn w c = (S S' : Shape) (p : Pipe) (l r : List Instance) → IsTrue (is_lawful w.model S) → steps_shape w.model c S p ≡ Some S' → AllFit w S l → mean w c S p l ≡ Some r → AllFit w S' r

abbrev pub StepsLawfulIn : World → Customs → Type 0
StepsLawfulIn w c = (S S' : Shape) (p : Pipe) → IsTrue (is_lawful w.model S) → steps_shape w.model c S p ≡ Some S' → IsTrue (is_lawful w.model S')

abbrev pub NodesFitIn : World → Type 0
NodesFitIn w = (h : HierName) (f : HierarchyPlace) → hierarchy_at w.model h ≡ Some f → AllFit w (set_shape f.type) (rows w f.set)

abbrev pub RelatedFitIn : World → Type 0
RelatedFitIn w = (S : Shape) (n : Name) (v : Navigation) (i : Instance) → join_navigation w.model S n ≡ Some v → AllFit w (set_shape v.target) (related_rows w v i)

module _ (w : World) (c : Customs) (P : IsWellTyped w) (M : MeanFitsIn w c) (L : StepsLawfulIn w c) (N : NodesFitIn w) (J : RelatedFitIn w) where
  sure-values : (S : Shape) (e : Expr) (l : List Instance) → is_typed w.model S e ≡ true → is_sure w.model S e ≡ true → AllFit w S l → list_any is_beyond (values w e l) ≡ false
  sure-values S e l t s a = none-map (fits w S) is_beyond (λ i. val w i e) l a (λ i f. sure-within w P S i (fit-parts w S i f) e (or_right _ (is_typed w.model S e) t) s)

  sure-order : (S : Shape) (items : List OrderItem) (l : List Instance) → list_all (λ x. is_typed w.model S x.expr) items ≡ true → order_sure w.model S items ≡ true → AllFit w S l
      → list_any is_beyond (order_values w items l) ≡ false
  sure-order S [] l t s a = refl
  sure-order S (x ∷ xs) l t s a =
      let p = and_parts _ _ t in
      let q = and_parts _ _ s in
      none-append is_beyond (values w x.expr l) _ (sure-values S x.expr l p.0 q.0 a) (sure-order S xs l p.1 q.1 a)

  path-values : (S : Shape) (p : Path) (l : List Instance) → not (is_risky S p) ≡ true → AllFit w S l → list_any is_beyond (map (λ i. lookup w i p) l) ≡ false
  path-values S p l s a = none-map (fits w S) is_beyond (λ i. lookup w i p) l a (λ i f. lookup-not_beyond w P S i p (fit-parts w S i f) (not-true _ s))

  pub key-values : (S : Shape) (ps : List Path) (l : List Instance) → list_all (λ p. not (is_risky S p)) ps ≡ true → AllFit w S l → list_any is_beyond (flat_map (key_list w ps) l) ≡ false
  key-values S ps l s a = none-flat_map (fits w S) is_beyond (key_list w ps) l a
      (λ i f. none-map (λ p. not (is_risky S p)) is_beyond (lookup w i) ps s (λ p n. lookup-not_beyond w P S i p (fit-parts w S i f) (not-true _ n)))

  top-typed : (S : Shape) (t : Limit) (e : Expr) → top_typed w.model S t e ≡ true → is_typed w.model S e ≡ true
  top-typed S (Limit.Count n) e h = (and_parts _ _ h).1
  top-typed S (Limit.Sum (NumberLiteral.Int n)) e h = some_and-there is_number_kind (expr_kind w.model S e) (and_parts _ _ h).1
  top-typed S (Limit.Sum (NumberLiteral.Dec n k)) e h = some_and-there is_number_kind (expr_kind w.model S e) (and_parts _ _ h).1
  top-typed S (Limit.Percent n) e h = some_and-there is_number_kind (expr_kind w.model S e) (and_parts _ _ h).1

  mutual
    unfolding mean steps_shape is_quiet

    pub pipe_runs : (p : Pipe) (S S' : Shape) → IsTrue (is_lawful w.model S) → steps_shape w.model c S p ≡ Some S' → is_quiet w.model c S p ≡ true → (l : List Instance) → AllFit w S l
        → is_some (mean w c S p l) ≡ true
    pipe_runs Pipe.End S S' law e q l a = refl
    pipe_runs (Pipe.Then s p) S S' law e q l a =
        let x = chained (λ T. steps_shape w.model c T p) (step_shape w.model c S s) S' e in
        let at = ap (λ o. unwrap_or o S) x.1 in
        let t = and_parts _ _ q in
        chain-there (mean w c (after w.model c S s) p) (step_mean w c S s l) (step_runs s S x.0 law x.1 t.0 l a)
        (λ r k. let Q : Shape → Type 0 = λ T. is_some (mean w c T p r) ≡ true in
        subst Q (sym at)
        (pipe_runs p x.0 S' (L S x.0 (Pipe.Then s Pipe.End) law (ap (option_and_then (λ T. Some T)) x.1)) x.2 (ap (λ T. is_quiet w.model c T p) (sym at) ∙ t.1) r
        (M S x.0 (Pipe.Then s Pipe.End) l r law (ap (option_and_then (λ T. Some T)) x.1) a (ap (option_and_then (λ z. Some z)) k))))

    pub inner_runs : (T : OptPipe) (S d S' : Shape) → IsTrue (is_lawful w.model S) → inner_shape w.model c S d T ≡ Some S' → inner_quiet w.model c S T ≡ true → (f : List Instance → Outcome)
        → ((l : List Instance) → is_some (f l) ≡ true) → (l : List Instance) → AllFit w S l → is_some (inner_mean w c S f T l) ≡ true
    inner_runs OptPipe.NoPipe S d S' law e q f g l a = g l
    inner_runs (OptPipe.SomePipe p) S d S' law e q f g l a = pipe_runs p S S' law (if_else-parts (is_long p) (steps_shape w.model c S p) S' e).1 q l a

    branches_run : (ps : Pipes) (S : Shape) (Ss : List Shape) → IsTrue (is_lawful w.model S) → all_some (branch_shapes w.model c S ps) ≡ Some Ss → branches_quiet w.model c S ps ≡ true
        → (l : List Instance) → AllFit w S l → list_all is_some (branch_means w c S ps l) ≡ true
    branches_run Pipes.NoPipes S Ss law e q l a = refl
    branches_run (Pipes.MorePipes p ps) S Ss law e q l a =
        let x = all_some-parts (if is_long p then steps_shape w.model c S p else None) (branch_shapes w.model c S ps) Ss e in
        let t = and_parts _ _ q in
        and_from _ _ (pipe_runs p S x.0 law (if_else-parts (is_long p) (steps_shape w.model c S p) x.0 x.1).1 t.0 l a) (branches_run ps S x.2 law x.3 t.1 l a)

    key_runs : (k : Key) (S : Shape) → key_typed w.model c S k ≡ true → key_quiet w.model c S k ≡ true → is_some (key_shown w c k) ≡ true
    key_runs (Key.Plain p) S e q = refl
    key_runs (Key.Rollup all ps) S e q = refl
    key_runs (Key.Recursive h p T) S e q =
        let f = some_and (λ f. is_some_and (λ R. is_some_and (λ t. t == f.type) (root_type R)) (inner_shape w.model c (set_shape f.type) (set_shape f.type) T)) (hierarchy_at w.model h) (and_parts _ _ e).1 in
        let R = some_and (λ R. is_some_and (λ t. t == (f.0).type) (root_type R)) (inner_shape w.model c (set_shape (f.0).type) (set_shape (f.0).type) T) f.2 in
        let quiet = ap (is_some_and (λ f. inner_quiet w.model c (set_shape f.type) T)) (sym f.1) ∙ (and_parts _ _ q).1 in
        let Q : Option HierarchyPlace → Type 0 = λ o. is_some (elim o [ None ↦ None | Some f ↦ option_map shown_of (inner_mean w c (set_shape f.type) (λ l. Some l) T (rows w f.set)) ]) ≡ true in
        subst Q (sym f.1)
        (map-there shown_of (inner_mean w c (set_shape (f.0).type) (λ l. Some l) T (rows w (f.0).set))
        (inner_runs T (set_shape (f.0).type) (set_shape (f.0).type) R.0 refl R.1 quiet (λ l. Some l) (λ l. refl) (rows w (f.0).set) (N h f.0 f.1)))

    keys_run : (ks : Keys) (S : Shape) → keys_typed w.model c S ks ≡ true → keys_quiet w.model c S ks ≡ true → is_some (keys_shown w c ks) ≡ true
    keys_run Keys.NoKeys S e q = refl
    keys_run (Keys.MoreKeys k ks) S e q =
        let t = and_parts _ _ e in
        let u = and_parts _ _ q in
        chain-there (λ xs. option_map (λ ys. xs ++ ys) (keys_shown w c ks)) (key_shown w c k) (key_runs k S t.0 u.0)
        (λ xs h. map-there (λ ys. xs ++ ys) (keys_shown w c ks) (keys_run ks S t.1 u.1))

    step_runs : (s : Step) (S S' : Shape) → IsTrue (is_lawful w.model S) → step_shape w.model c S s ≡ Some S' → step_quiet w.model c S s ≡ true → (l : List Instance) → AllFit w S l
        → is_some (step_mean w c S s l) ≡ true
    step_runs (Step.Filter e) S S' law h q l a =
        unless-there (values w e l) (filter (λ i. is_value true (val w i e)) l) (sure-values S e l (some_and-there is_boolean_kind (expr_kind w.model S e) (then_some-parts _ S S' h).0) q a)
    step_runs (Step.OrderBy items) S S' law h q l a =
        unless-there (order_values w items l) (sorted (order_before w items) l) (sure-order S items l (and_parts _ _ (then_some-parts _ S S' h).0).1 q a)
    step_runs (Step.GroupBy ks T) S S' law h q l a =
        let t = if_else-parts (keys_typed w.model c S ks) (option_and_then (grouped_shape w.model S (group_keys ks)) (inner_shape w.model c S no_shape T)) S' h in
        let G = chained (grouped_shape w.model S (group_keys ks)) (inner_shape w.model c S no_shape T) S' t.1 in
        let u = and_parts _ _ q in
        let run = inner_mean w c S (λ g. Some (no_instance ∷ [])) T in
        chain-there (λ shown. grouping_mean w (group_keys ks) shown run l) (keys_shown w c ks) (keys_run ks S t.0 u.0)
        (λ shown k. ap (λ b. is_some (if b then None else groups_by w (rollup_part (group_keys ks)) (plain_paths ks) shown run l))
        (key-values S (key_paths (group_keys ks)) l
        (all-append (λ p. not (is_risky S p)) (plain_paths ks) (rollup_paths (rollup_part (group_keys ks))) (plain-quiet w c S ks u.0) (part-quiet w c S ks u.0)) a)
        ∙ groups_by-there w c S (rollup_part (group_keys ks)) (plain_paths ks) shown run l (part-named w c S ks t.0) a
        (λ x b. inner_runs T S no_shape G.0 law G.1 u.1 (λ g. Some (no_instance ∷ [])) (λ g. refl) x b))
    step_runs (Step.Concat ps) S S' law h q l a =
        let t = chained (concat_shape w.model) (all_some (branch_shapes w.model c S ps)) S' h in
        joined-there (branch_means w c S ps l) (branches_run ps S t.0 law t.1 q l a)
    step_runs (Step.Join outer n b T) S S' law h q l a =
        let v = chained (λ v. option_and_then (λ R. then_some (is_free w.model S b) (joined_shape outer b S R)) (inner_shape w.model c (set_shape v.target) (set_shape v.target) T)) (join_navigation w.model S n) S' h in
        let R = chained (λ R. then_some (is_free w.model S b) (joined_shape outer b S R)) (inner_shape w.model c (set_shape (v.0).target) (set_shape (v.0).target) T) S' v.2 in
        let quiet = ap (is_some_and (λ v. inner_quiet w.model c (set_shape v.target) T)) (sym v.1) ∙ q in
        let Q : Option Navigation → Type 0 = λ o. is_some (elim o [
          | None ↦ None
          | Some v ↦ joined (map (λ i. option_map (bound_to outer b i) (inner_mean w c (set_shape v.target) (λ r. Some r) T (related_rows w v i))) l)
        ]) ≡ true in
        let one = λ (i : Instance). option_map (bound_to outer b i) (inner_mean w c (set_shape (v.0).target) (λ r. Some r) T (related_rows w v.0 i)) in
        subst Q (sym v.1)
        (joined-there (map one l) (all-map {X = Instance} (λ i. true) is_some one l (all-any (λ i. true) l (λ i. refl))
        (λ i t. map-there (bound_to outer b i) (inner_mean w c (set_shape (v.0).target) (λ r. Some r) T (related_rows w v.0 i))
        (inner_runs T (set_shape (v.0).target) (set_shape (v.0).target) R.0 refl R.1 quiet (λ r. Some r) (λ r. refl) (related_rows w v.0 i) (J S n v.0 i v.1)))))
    step_runs (Step.TopBy t) S S' law h q l a = map-there (at_places l) (top_places (reaches t.limit (values w t.expr l)) t.bottom (values w t.expr l)) (top-there (reaches t.limit (values w t.expr l)) t.bottom (values w t.expr l) (sure-values S t.expr l (top-typed S t.limit t.expr (then_some-parts _ S S' h).0) q a))
    step_runs (Step.Climb up n p T d keep) S S' law h q l a =
        let e = and_parts _ _ (then_some-parts _ S S' h).0 in
        let R = some_and (λ R. is_node_path w.model R n p) (steps_shape w.model c S T) e.1 in
        let u = and_3 (not (is_risky S p)) (is_quiet w.model c S T) _ q in
        let f = some_there (hierarchy_at w.model n) (some_and-there _ (hierarchy_at w.model n) (and_3 _ _ _ e.0).0) in
        let risky = ap (is_some_and (λ R. not (is_risky R p))) (sym R.1) ∙ u.2 in
        let Q : Option HierarchyPlace → Type 0 = λ o. is_some (elim o [
          | None ↦ None
          | Some f ↦ option_and_then (λ r. refused_at_beyond (map (λ i. lookup w i p) (l ++ r)) (climbed w up f p d keep r l)) (mean w c S T l)
        ]) ≡ true in
        subst Q (sym f.1)
        (chain-there (λ r. refused_at_beyond (map (λ i. lookup w i p) (l ++ r)) (climbed w up f.0 p d keep r l)) (mean w c S T l) (pipe_runs T S R.0 law R.1 u.1 l a)
        (λ r k. unless-there (map (λ i. lookup w i p) (l ++ r)) (climbed w up f.0 p d keep r l)
        (ap (list_any is_beyond) (map-append (λ i. lookup w i p) l r) ∙ none-append is_beyond (map (λ i. lookup w i p) l) (map (λ i. lookup w i p) r) (path-values S p l u.0 a) (path-values R.0 p r risky (M S R.0 T l r law R.1 a k)))))
    step_runs (Step.Traverse t) S S' law h q l a =
        let e = and_parts _ _ (then_some-parts _ S S' h).0 in
        let f = some_and (λ f. list_all (λ x. is_typed w.model (set_shape f.type) x.expr) t.items) (hierarchy_at w.model t.hier) e.1 in
        let u = and_parts _ _ q in
        let quiet = ap (is_some_and (λ f. order_sure w.model (set_shape f.type) t.items)) (sym f.1) ∙ u.1 in
        let Q : Option HierarchyPlace → Type 0 = λ o. is_some (elim o [
          | None ↦ None
          | Some f ↦ refused_at_beyond (map (λ i. lookup w i t.path) l ++ order_values w t.items (rows w f.set)) (traversed w f t l)
        ]) ≡ true in
        subst Q (sym f.1)
        (unless-there (map (λ i. lookup w i t.path) l ++ order_values w t.items (rows w (f.0).set)) (traversed w f.0 t l)
        (none-append is_beyond (map (λ i. lookup w i t.path) l) (order_values w t.items (rows w (f.0).set)) (path-values S t.path l u.0 a)
        (sure-order (set_shape (f.0).type) t.items (rows w (f.0).set) f.2 quiet (N t.hier f.0 f.1))))
    step_runs s S S' law h q l a = refl

-- what each law says at steps of any number
pub mean_fits-in : (A : World → Type 0) → MeanFits A → (w : World) (c : Customs) → A w → IsTrue (customs_typed w.model c) → MeanFitsIn w c
unfolding mean steps_shape
mean_fits-in A M w c a k S S' Pipe.End l r law e f h = sym (λ i. list_all (fits w (some_value e i)) (some_value h i)) ∙ f
mean_fits-in A M w c a k S S' (Pipe.Then s p) l r law e f h = M w c S S' (Pipe.Then s p) l r a k law (refl, e) f h

pub steps_lawful-in : TypingKeepsLawful (λ m. Unit {0}) → (w : World) (c : Customs) → StepsLawfulIn w c
unfolding steps_shape
steps_lawful-in L w c S S' Pipe.End law e = sym (ap (is_lawful w.model) (some_value e)) ∙ law
steps_lawful-in L w c S S' (Pipe.Then s p) law e = L w.model c S S' (Pipe.Then s p) tt law (refl, e)

-- a quiet pipeline that is typed on a lawful shape is never refused
pub quiet_is_not_refused : (A : World → Type 0) → ((w : World) → A w → IsWellTyped w) → TypingKeepsLawful (λ m. Unit {0}) → MeanFits A → NodesFit A → RelatedFit A
    → QuietIsNotRefused A
quiet_is_not_refused A P L M N J w c S S' p l a k law t q f =
    some_there (mean w c S p l)
    (pipe_runs w c (P w a) (mean_fits-in A M w c a k) (steps_lawful-in L w c) (λ h g e. N w h g a e) (λ S n v i e. J w S n v i a e) p S S' law t.1 q l f)

-- and so with the laws of this crate
pub quiet_runs : (A : World → Type 0) → ((w : World) → A w → IsWellTyped w) → QuietIsNotRefused A
quiet_runs A W = quiet_is_not_refused A W typing_keeps_lawful (mean_fits A W) (nodes_fit A) (related_fit A W)
