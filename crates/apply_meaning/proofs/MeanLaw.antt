-- The meaning of a typed pipeline on instances that fit fits the shape that it leads to.
use Rattle.std.proofs.Common.{◌≡◌, refl, sym, ◌∙◌, ap, Bool, true, false, ◌&&◌, ◌||◌, not, List, [], ◌∷◌, ◌++◌, Option, Some, None, map, filter, length, inl, inr}
use Rattle.std.specs.Prelude.{option_and_then, option_map, flat_map, unwrap_or, nat_le, if◌then◌else◌}
use Rattle.std.specs.Bool.{then_some}
use Rattle.std.specs.List.{list_all, list_any}
use Rattle.std.proofs.lemmas.Bool.{and_parts, and_from, or_left, or_right, or_cases, not-true, both_ways}
use Rattle.edm_values.proofs.ListFacts.{all-append, all-drop, all-each, all-map, all-sorted, all-take, all-filter}
use Rattle.edm_values.proofs.OptionFacts.{all_some-parts, and_7, chained, if_else-parts, mapped, none_or, some_value, then_some-parts}
use Rattle.edm_values.proofs.SearchFacts.{IsAmong}
use Rattle.edm_values.specs.Lists.{all_some, are_distinct, at_places, is_nonempty, sorted}
use Rattle.edm_values.specs.Names.{Name}
use Rattle.edm_values.specs.Values.{is_beyond, is_value, top_places}
use Rattle.edm_model.specs.LookUps.{HierarchyPlace}
use Rattle.edm_model.specs.Models.{Model, Navigation}
use Rattle.edm_data.specs.Worlds.{World}
use Rattle.apply_ast.specs.Trees.{Key, Keys, OptPipe, Pipe, Pipes, Step, is_long}
use Rattle.context_typing.proofs.MergedShape.{root_entry}
use Rattle.context_typing.proofs.ShapeLemmas.{Law, law-from, lawful-from}
use Rattle.context_typing.proofs.TypingLaw.{branches_law, inner_law, law-none, law-own, navigation-root, root-same, step_law}
use Rattle.context_typing.proofs.GroupFacts.{columns-paths}
use Rattle.context_typing.specs.Paths.{same_path}
use Rattle.context_typing.specs.Shapes.{RootShape, Shape, set_shape}
use Rattle.context_typing.specs.Typing.{Customs, after, all_prefixes, branch_shapes, branches_agree, columns_differ, concat_shape, expr_kind, group_keys, grouped_shape, hierarchy_at, inner_shape, is_free, is_lawful, is_node_path, is_nodes, is_sure, item_column, join_navigation, joined_shape, key_columns, key_paths, keys_typed, new_column, no_shape, plain_paths, rollup_part, rollup_parts, step_shape, steps_shape}
use Rattle.apply_meaning.proofs.AggregatedFit.{aggregate_step-fits}
use Rattle.apply_meaning.proofs.FitLemmas.{fit-parts, fit-whole}
use Rattle.apply_meaning.proofs.FitMore.{fit-more}
use Rattle.apply_meaning.proofs.GroupFit.{PartTyped, grouped-apart, parts-fit}
use Rattle.apply_meaning.proofs.JoinedFit.{fit-beside, fit-beside_none, is_something}
use Rattle.apply_meaning.proofs.MeanLemmas.{compute-fits}
use Rattle.apply_meaning.proofs.MergedFit.{column-some, fit-whole_of}
use Rattle.apply_meaning.proofs.NodeLemmas.{related_fit}
use Rattle.apply_meaning.proofs.RootLemmas.{all-at_places, if-none, inner_roots, joined-all, root_passes, unless-parts}
use Rattle.apply_meaning.proofs.WellTyped.{IsWellTyped}
use Rattle.apply_meaning.specs.Instances.{Instance, fits, lookup, no_instance, rows, val, extended}
use Rattle.apply_meaning.specs.Meaning.{Outcome, beside, beside_none, bound_to, branch_means, climbed, grouping_mean, inner_mean, joined, key_list, keys_shown, mean, order_before, order_values, reaches, refused_at_beyond, related_rows, step_mean, traversed, values}
use Rattle.apply_meaning.specs.MeaningLaws.{AllFit, MeanFits}

-- a shape that has a place has one after each step
nonempty-append : {X : Type 0} (xs ys : List X) → is_nonempty xs ≡ true → is_nonempty (xs ++ ys) ≡ true
nonempty-append [] ys h = cc
nonempty-append (x ∷ xs) ys h = refl

nonempty-behind : {X : Type 0} (xs ys : List X) → is_nonempty ys ≡ true → is_nonempty (xs ++ ys) ≡ true
nonempty-behind [] ys h = h
nonempty-behind (x ∷ xs) ys h = refl

nonempty-map : {X Y : Type 0} (f : X → Y) (xs : List X) → is_nonempty (map f xs) ≡ is_nonempty xs
nonempty-map f [] = refl
nonempty-map f (x ∷ xs) = refl

something-columns : (S : Shape) → is_nonempty S.columns ≡ true → is_something S ≡ true
something-columns S h = or_right (is_nonempty (all_prefixes S)) _ h

module _ (m : Model) (c : Customs) where
  abbrev Keeps : Shape → Shape → Type 0
  Keeps S S' = is_something S ≡ true → is_something S' ≡ true

  same : (S S' : Shape) → S ≡ S' → Keeps S S'
  same S S' e h = sym (ap is_something e) ∙ h

  mutual
    unfolding steps_shape

    pipe_something : (p : Pipe) (S S' : Shape) → Law m S → steps_shape m c S p ≡ Some S' → Keeps S S'
    pipe_something Pipe.End S S' L e = same S S' (some_value e)
    pipe_something (Pipe.Then s p) S S' L e =
        let x = chained (λ T. steps_shape m c T p) (step_shape m c S s) S' e in
        λ h. pipe_something p x.0 S' (step_law m c s S x.0 L x.1).0 x.2 (step_something s S x.0 L x.1 h)

    first_something : (ps : Pipes) (S : Shape) (Ss : List Shape) → Law m S → all_some (branch_shapes m c S ps) ≡ Some Ss → nat_le 2 (length Ss) ≡ true → is_something S ≡ true → (B : Shape) × IsAmong Ss B × (is_something B ≡ true)
    first_something Pipes.NoPipes S Ss L e n h = absurd (none-two Ss (some_value e) n)
      where
        none-two : (Ss : List Shape) → ◌≡◌ {A = List Shape} [] Ss → nat_le 2 (length Ss) ≡ true → ⊥
        none-two [] k n = both_ways _ refl n
        none-two (B ∷ Bs) k n = cc
    first_something (Pipes.MorePipes p ps) S Ss L e n h =
        let x = all_some-parts (if is_long p then steps_shape m c S p else None) (branch_shapes m c S ps) Ss e in
        (x.0, (λ q a. (and_parts (q x.0) _ (ap (list_all q) x.4 ∙ a)).0), pipe_something p S x.0 L (if_else-parts (is_long p) (steps_shape m c S p) x.0 x.1).1 h)

    step_something : (s : Step) (S S' : Shape) → Law m S → step_shape m c S s ≡ Some S' → Keeps S S'
    step_something Step.Identity S S' L e = same S S' (some_value e)
    step_something (Step.Filter b) S S' L e = same S S' (then_some-parts _ _ S' e).1
    step_something (Step.Compute ns) S S' L e =
        let t = chained _ (all_some (map (λ x. option_map (λ k. new_column x.name k (not (is_sure m S x.expr))) (expr_kind m S x.expr)) ns)) S' e in
        λ h. sym (ap is_something (then_some-parts _ _ S' t.2).1) ∙ elim (or_cases (is_nonempty (all_prefixes S)) (is_nonempty S.columns) h) [
          | inl a ↦ or_left (is_nonempty (all_prefixes S)) _ a
          | inr a ↦ or_right (is_nonempty (all_prefixes S)) _ (nonempty-append S.columns t.0 a)
        ]
    step_something (Step.OrderBy items) S S' L e = same S S' (then_some-parts _ _ S' e).1
    step_something (Step.Skip n) S S' L e = same S S' (then_some-parts _ _ S' e).1
    step_something (Step.Top n) S S' L e = same S S' (then_some-parts _ _ S' e).1
    step_something (Step.Aggregate items) S S' L e =
        let t = chained _ (all_some (map (item_column m c S) items)) S' e in
        let u = then_some-parts (is_nonempty t.0 && columns_differ t.0) _ S' t.2 in
        λ h. sym (ap is_something u.1) ∙ (and_parts (is_nonempty t.0) _ u.0).0
    step_something (Step.GroupBy ks T) S S' L e =
        let t = if_else-parts (keys_typed m c S ks) (option_and_then (grouped_shape m S (group_keys ks)) (inner_shape m c S no_shape T)) S' e in
        let G = chained (grouped_shape m S (group_keys ks)) (inner_shape m c S no_shape T) S' t.1 in
        let u = then_some-parts _ _ S' G.2 in
        let v = and_7 (is_nonempty (key_paths (group_keys ks))) _ _ _ _ _ (not (is_nodes (rollup_part (group_keys ks))) || not (is_nonempty (all_prefixes G.0))) u.0 in
        λ h. sym (ap is_something u.1) ∙ something-columns (record (G.0) { columns = (G.0).columns ++ key_columns m S (group_keys ks) }) (nonempty-behind (G.0).columns (key_columns m S (group_keys ks))
        (sym (nonempty-map (λ c. c.path) (key_columns m S (group_keys ks))) ∙ ap is_nonempty (columns-paths m S (group_keys ks)) ∙ v.0))
    step_something (Step.Concat ps) S S' L e =
        let Ss = chained (concat_shape m) (all_some (branch_shapes m c S ps)) S' e in
        let B = branches_law m c ps S Ss.0 L Ss.1 in
        let u = then_some-parts (nat_le 2 (length Ss.0) && branches_agree m Ss.0) _ S' Ss.2 in
        let w = and_parts (nat_le 2 (length Ss.0)) (branches_agree m Ss.0) u.0 in
        λ h. let F = first_something ps S Ss.0 L Ss.1 w.0 h in sym (ap is_something u.1) ∙ column-some m Ss.0 B.0 w.1 F.0 F.1 F.2
    step_something (Step.Join outer n a T) S S' L e =
        let v = chained (λ v. option_and_then (λ R. then_some (is_free m S a) (joined_shape outer a S R)) (inner_shape m c (set_shape v.target) (set_shape v.target) T)) (join_navigation m S n) S' e in
        let R = chained (λ R. then_some (is_free m S a) (joined_shape outer a S R)) (inner_shape m c (set_shape (v.0).target) (set_shape (v.0).target) T) S' v.2 in
        let u = then_some-parts (is_free m S a) (joined_shape outer a S R.0) S' R.2 in
        let r = navigation-root m S n v.0 v.1 in
        λ h. sym (ap is_something u.1) ∙ or_left (is_nonempty (all_prefixes (joined_shape outer a S R.0))) _ (has_root outer a S R.0 r.0 r.1)
      where
        has_root : (outer : Bool) (a : Name) (S R : Shape) (r : RootShape) → S.root ≡ Some r → is_nonempty (all_prefixes (joined_shape outer a S R)) ≡ true
        has_root outer a S R r e = ap (λ o. is_nonempty (elim o [ None ↦ (joined_shape outer a S R).prefixes | Some r ↦ root_entry r ∷ (joined_shape outer a S R).prefixes ])) e
    step_something (Step.TopBy t) S S' L e = same S S' (then_some-parts _ _ S' e).1
    step_something (Step.Climb up h p T d keep) S S' L e = same S S' (then_some-parts _ _ S' e).1
    step_something (Step.Traverse t) S S' L e = same S S' (then_some-parts _ _ S' e).1

  inner_something : (T : OptPipe) (S S' : Shape) → Law m S → is_something S ≡ true → inner_shape m c S S T ≡ Some S' → is_something S' ≡ true
  unfolding steps_shape
  inner_something OptPipe.NoPipe S S' L h e = same S S' (some_value e) h
  inner_something (OptPipe.SomePipe p) S S' L h e = pipe_something p S S' L (if_else-parts (is_long p) (steps_shape m c S p) S' e).1 h

-- the nodes of a typed recursive rollup
part-typed : (w : World) (c : Customs) (S G : Shape) (ks : Keys) → keys_typed w.model c S ks ≡ true → (not (is_nodes (rollup_part (group_keys ks))) || not (is_nonempty (all_prefixes G))) ≡ true
    → PartTyped w S G (rollup_part (group_keys ks))
unfolding steps_shape
part-typed w c S G Keys.NoKeys t n = tt
part-typed w c S G (Keys.MoreKeys (Key.Plain p) ks) t n = part-typed w c S G ks (and_parts true (keys_typed w.model c S ks) t).1 n
part-typed w c S G (Keys.MoreKeys (Key.Rollup all ps) ks) t n = tt
part-typed w c S G (Keys.MoreKeys (Key.Recursive h p T) ks) t n = ((and_parts (is_node_path w.model S h p) _ (and_parts _ _ t).0).0, not-true _ n)

-- an instance beside what is related_by to it
bound-fits : (w : World) (outer : Bool) (a : Name) (S R : Shape) → Law w.model S → Law w.model R → is_free w.model S a ≡ true → (r : RootShape) → S.root ≡ Some r → is_something R ≡ true
    → (i : Instance) (rs : List Instance) → fits w S i ≡ true → AllFit w R rs → AllFit w (joined_shape outer a S R) (bound_to outer a i rs)
bound-fits w outer a S R LS LR f r e s i rs F X = go outer (outer && not (is_nonempty rs)) refl
  where
    go : (outer b : Bool) → (outer && not (is_nonempty rs)) ≡ b → list_all (fits w (joined_shape outer a S R)) (if b then beside_none a i ∷ [] else map (beside a i) rs) ≡ true
    go true true k = and_from _ _ (fit-beside_none w a S R LS LR f r e i (fit-parts w S i F) s) refl
    go false true k = cc
    go outer false k = all-map (fits w R) (fits w (joined_shape outer a S R)) (beside a i) rs X (λ x h. fit-beside w outer a S R LS LR f r e i (fit-parts w S i F) x (fit-parts w R x h))

module _ (w : World) (c : Customs) (P : IsWellTyped w) where
  abbrev Fits : Shape → Shape → (List Instance → Outcome) → Type 0
  Fits S S' f = (l r : List Instance) → AllFit w S l → f l ≡ Some r → AllFit w S' r

  -- instances of the input
  chosen : (S S' : Shape) → S ≡ S' → (l r : List Instance) → l ≡ r → AllFit w S l → AllFit w S' r
  chosen S S' e l r k a = sym (λ i. list_all (fits w (e i)) (k i)) ∙ a

  mutual
    unfolding mean steps_shape

    pub pipe_fits : (p : Pipe) (S S' : Shape) → Law w.model S → steps_shape w.model c S p ≡ Some S' → Fits S S' (mean w c S p)
    pipe_fits Pipe.End S S' L e l r a h = chosen S S' (some_value e) l r (some_value h) a
    pipe_fits (Pipe.Then s p) S S' L e l r a h =
        let x = chained (λ T. steps_shape w.model c T p) (step_shape w.model c S s) S' e in
        let t = chained (mean w c (after w.model c S s) p) (step_mean w c S s l) r h in
        pipe_fits p x.0 S' (step_law w.model c s S x.0 L x.1).0 x.2 t.0 r (step_fits s S x.0 L x.1 l t.0 a t.1) (sym (ap (λ T. mean w c T p t.0) (ap (λ o. unwrap_or o S) x.1)) ∙ t.2)

    pub inner_fits : (T : OptPipe) (S d S' : Shape) → Law w.model S → inner_shape w.model c S d T ≡ Some S' → (f : List Instance → Outcome) → ((G : Shape) → d ≡ G → Fits S G f) → Fits S S' (inner_mean w c S f T)
    inner_fits OptPipe.NoPipe S d S' L e f k l r a h = k S' (some_value e) l r a h
    inner_fits (OptPipe.SomePipe p) S d S' L e f k l r a h = pipe_fits p S S' L (if_else-parts (is_long p) (steps_shape w.model c S p) S' e).1 l r a h

    branch_fits : (ps : Pipes) (S : Shape) (Ss : List Shape) (whole : Shape) → Law w.model S → all_some (branch_shapes w.model c S ps) ≡ Some Ss
        → ((B : Shape) → IsAmong Ss B → (i : Instance) → fits w B i ≡ true → fits w whole i ≡ true) → (l : List Instance) (rs : List (List Instance)) → AllFit w S l
        → all_some (branch_means w c S ps l) ≡ Some rs → AllFit w whole (flat_map (λ l. l) rs)
    branch_fits Pipes.NoPipes S Ss whole L e k l rs a h = sym (ap (λ z. list_all (fits w whole) (flat_map (λ l. l) z)) (some_value h))
    branch_fits (Pipes.MorePipes p ps) S Ss whole L e k l rs a h =
        let x = all_some-parts (if is_long p then steps_shape w.model c S p else None) (branch_shapes w.model c S ps) Ss e in
        let t = all_some-parts (mean w c S p l) (branch_means w c S ps l) rs h in
        sym (ap (λ z. list_all (fits w whole) (flat_map (λ l. l) z)) t.4)
        ∙ all-append (fits w whole) t.0 (flat_map (λ l. l) t.2)
        (all-each (fits w x.0) (fits w whole) t.0 (pipe_fits p S x.0 L (if_else-parts (is_long p) (steps_shape w.model c S p) x.0 x.1).1 l t.0 a t.1) (λ i f. k x.0 (λ q b. (and_parts (q x.0) _ (ap (list_all q) x.4 ∙ b)).0) i f))
        (branch_fits ps S x.2 whole L x.3 (λ B m i f. k B (λ q b. m q (and_parts (q x.0) _ (ap (list_all q) x.4 ∙ b)).1) i f) l t.2 a t.3)

    pub step_fits : (s : Step) (S S' : Shape) → Law w.model S → step_shape w.model c S s ≡ Some S' → Fits S S' (step_mean w c S s)
    step_fits Step.Identity S S' L e l r a h = chosen S S' (some_value e) l r (some_value h) a
    step_fits (Step.Filter b) S S' L e l r a h = chosen S S' (then_some-parts _ _ S' e).1 (filter (λ i. is_value true (val w i b)) l) r (unless-parts (values w b l) _ r h) (all-filter (fits w S) (λ i. is_value true (val w i b)) l a)
    step_fits (Step.Compute ns) S S' L e l r a h =
        ap (list_all (fits w S')) (sym (some_value h))
        ∙ compute-fits w P S S' ns l L (lawful-from w.model S' (step_law w.model c (Step.Compute ns) S S' L e).0) e a
    step_fits (Step.OrderBy items) S S' L e l r a h = chosen S S' (then_some-parts _ _ S' e).1 (sorted (order_before w items) l) r (unless-parts (order_values w items l) _ r h) (all-sorted (fits w S) (order_before w items) l a)
    step_fits (Step.Skip n) S S' L e l r a h = chosen S S' (then_some-parts _ _ S' e).1 _ r (some_value h) (all-drop (fits w S) n l a)
    step_fits (Step.Top n) S S' L e l r a h = chosen S S' (then_some-parts _ _ S' e).1 _ r (some_value h) (all-take (fits w S) n l a)
    step_fits (Step.Aggregate items) S S' L e l r a h =
        ap (list_all (fits w S')) (sym (some_value h)) ∙ aggregate_step-fits w P c S l a S' items (lawful-from w.model S' (step_law w.model c (Step.Aggregate items) S S' L e).0) e
    step_fits (Step.GroupBy ks T) S S' L e l r a h =
        let t = if_else-parts (keys_typed w.model c S ks) (option_and_then (grouped_shape w.model S (group_keys ks)) (inner_shape w.model c S no_shape T)) S' e in
        let G = chained (grouped_shape w.model S (group_keys ks)) (inner_shape w.model c S no_shape T) S' t.1 in
        let K = inner_law w.model c T S no_shape G.0 L (law-none w.model, refl) G.1 in
        let u = then_some-parts _ _ S' G.2 in
        let v = and_7 (is_nonempty (key_paths (group_keys ks))) (nat_le (length (rollup_parts ks)) 1) _ _ _ _ (not (is_nodes (rollup_part (group_keys ks))) || not (is_nonempty (all_prefixes G.0))) u.0 in
        let x = chained (λ shown. grouping_mean w (group_keys ks) shown (inner_mean w c S (λ g. Some (no_instance ∷ [])) T) l) (keys_shown w c ks) r h in
        let law = lawful-from w.model S' (step_law w.model c (Step.GroupBy ks T) S S' L e).0 in
        let paths = columns-paths w.model S (group_keys ks) in
        parts-fit w P S G.0 S' L K.0 (inner_mean w c S (λ g. Some (no_instance ∷ [])) T) (inner_fits T S no_shape G.0 L G.1 (λ g. Some (no_instance ∷ [])) nothing)
        (λ Q l r b k. inner_roots w c Q T S (λ g. Some (no_instance ∷ [])) (λ l r a e. sym (ap (list_all (root_passes Q)) (some_value e))) l r b k) (plain_paths ks) (rollup_part (group_keys ks)) v.2
        (λ y Y cs o. ap (λ z. fits w z (extended y cs)) (sym u.1) ∙ fit-whole w _ _ (fit-more w G.0 _ y cs Y (ap (is_lawful w.model) u.1 ∙ law) (ap (are_distinct same_path) paths ∙ v.3)
        (ap (λ ps. list_all (λ p. not (list_any (same_path p) ps)) (map (λ c. c.path) (G.0).columns)) paths ∙ grouped-apart (key_paths (group_keys ks)) (G.0).columns v.4) o))
        (part-typed w c S G.0 ks t.0 v.6) x.0 l r a (if-none w c (λ e. true) (list_any is_beyond (flat_map (key_list w (key_paths (group_keys ks))) l)) _ r x.2)
      where
        nothing : (G : Shape) → no_shape ≡ G → (l r : List Instance) → AllFit w S l → ◌≡◌ {A = Outcome} (Some (no_instance ∷ [])) (Some r) → AllFit w G r
        nothing G e l r a h = sym (λ i. list_all (fits w (e i)) (some_value h i))
    step_fits (Step.Concat ps) S S' L e l r a h =
        let Ss = chained (concat_shape w.model) (all_some (branch_shapes w.model c S ps)) S' e in
        let B = branches_law w.model c ps S Ss.0 L Ss.1 in
        let u = then_some-parts (nat_le 2 (length Ss.0) && branches_agree w.model Ss.0) _ S' Ss.2 in
        let agree = (and_parts (nat_le 2 (length Ss.0)) (branches_agree w.model Ss.0) u.0).1 in
        let t = mapped (λ ls. flat_map (λ l. l) ls) (all_some (branch_means w c S ps l)) r h in
        ap (list_all (fits w S')) (sym t.2)
        ∙ branch_fits ps S Ss.0 S' L Ss.1 (λ B' m i f. ap (λ z. fits w z i) (sym u.1) ∙ fit-whole_of w Ss.0 B.0 agree B' m i (fit-parts w B' i f)) l t.0 a t.1
    step_fits (Step.Join outer n b T) S S' L e l r a h =
        let v = chained (λ v. option_and_then (λ R. then_some (is_free w.model S b) (joined_shape outer b S R)) (inner_shape w.model c (set_shape v.target) (set_shape v.target) T)) (join_navigation w.model S n) S' e in
        let R = chained (λ R. then_some (is_free w.model S b) (joined_shape outer b S R)) (inner_shape w.model c (set_shape (v.0).target) (set_shape (v.0).target) T) S' v.2 in
        let u = then_some-parts (is_free w.model S b) (joined_shape outer b S R.0) S' R.2 in
        let own = set_shape (v.0).target in
        let K = inner_law w.model c T own own R.0 (law-own w.model (v.0).target) (law-own w.model (v.0).target, root-same own own refl) R.1 in
        let q = navigation-root w.model S n v.0 v.1 in
        let some = inner_something w.model c T own R.0 (law-own w.model (v.0).target) refl R.1 in
        let run : Option Navigation → Outcome = λ o. elim o [
          | None ↦ None
          | Some v ↦ joined (map (λ i. option_map (bound_to outer b i) (inner_mean w c (set_shape v.target) (λ r. Some r) T (related_rows w v i))) l)
        ] in
        joined-all (fits w S') (λ i. option_map (bound_to outer b i) (inner_mean w c own (λ r. Some r) T (related_rows w v.0 i))) l r (sym (ap run v.1) ∙ h) (λ i m y k.
        let t = mapped (bound_to outer b i) (inner_mean w c own (λ r. Some r) T (related_rows w v.0 i)) y k in
        sym (λ j. list_all (fits w (u.1 j)) (t.2 j))
        ∙ bound-fits w outer b S R.0 L K.0 u.0 q.0 q.1 some i t.0 (m (fits w S) a)
        (inner_fits T own own R.0 (law-own w.model (v.0).target) R.1 (λ r. Some r) (λ G e l r a h. chosen own G e l r (some_value h) a) (related_rows w v.0 i) t.0 (related_fit (λ z. IsWellTyped z) (λ z W. W) w S n v.0 i P v.1) t.1))
    step_fits (Step.TopBy t) S S' L e l r a h =
        let k = mapped (at_places l) (top_places (reaches t.limit (values w t.expr l)) t.bottom (values w t.expr l)) r h in
        chosen S S' (then_some-parts _ _ S' e).1 (at_places l k.0) r k.2 (all-at_places (fits w S) l k.0 a)
    step_fits (Step.Climb up n p T d keep) S S' L e l r a h = go (hierarchy_at w.model n) h
      where
        go : (o : Option HierarchyPlace) → elim o [
          | None ↦ None
          | Some f ↦ option_and_then (λ r. refused_at_beyond (map (λ i. lookup w i p) (l ++ r)) (climbed w up f p d keep r l)) (mean w c S T l)
        ] ≡ Some r → AllFit w S' r
        go None k = none_or r k
        go (Some f) k =
            let t = chained (λ r. refused_at_beyond (map (λ i. lookup w i p) (l ++ r)) (climbed w up f p d keep r l)) (mean w c S T l) r k in
            chosen S S' (then_some-parts _ _ S' e).1 (climbed w up f p d keep t.0 l) r (then_some-parts _ _ r t.2).1 (all-at_places (fits w S) l _ a)
    step_fits (Step.Traverse t) S S' L e l r a h = go (hierarchy_at w.model t.hier) h
      where
        go : (o : Option HierarchyPlace) → elim o [
          | None ↦ None
          | Some f ↦ refused_at_beyond (map (λ i. lookup w i t.path) l ++ order_values w t.items (rows w f.set)) (traversed w f t l)
        ] ≡ Some r → AllFit w S' r
        go None k = none_or r k
        go (Some f) k = chosen S S' (then_some-parts _ _ S' e).1 (traversed w f t l) r (then_some-parts _ _ r k).1 (all-at_places (fits w S) l _ a)

-- the meaning of a typed pipeline fits, in worlds whose properties fit
pub mean_fits : (A : World → Type 0) → ((w : World) → A w → IsWellTyped w) → MeanFits A
mean_fits A P w c S S' p l r a k law t f h = pipe_fits w c (P w a) p S S' (law-from w.model S law) t.1 l r f h
