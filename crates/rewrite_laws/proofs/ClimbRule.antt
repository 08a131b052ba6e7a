-- The last step of the pipeline that chooses the start nodes is dropped, where it is an order, or a computation beside the node's path.
use Rattle.std.proofs.Common.{◌≡◌, ◌==◌, ℕ, refl, sym, ◌∙◌, ap, subst, Bool, true, false, ◌&&◌, ◌||◌, not, List, [], ◌∷◌, ◌++◌, map, Option, Some, None, IsTrue, Contains, if◌then◌else◌}
use Rattle.std.specs.Prelude.{option_and_then, option_map, filter_map}
use Rattle.std.specs.Bool.{then_some}
use Rattle.std.specs.List.{list_any, last_or, cons_option}
use Rattle.std.proofs.lemmas.Bool.{or_right, and_parts}
use Rattle.std.proofs.lemmas.List.{map-append}
use Rattle.std.proofs.lemmas.List.Elements.{Contains-append_left}
use Rattle.edm_values.specs.Lists.{is_some_and, at_places}
use Rattle.edm_values.specs.Literals.{same_kind}
use Rattle.edm_values.specs.Names.{Path}
use Rattle.edm_values.specs.Values.{is_beyond}
use Rattle.edm_values.proofs.OptionFacts.{none_or, some_and, chained, then_some-parts}
use Rattle.edm_values.proofs.Reorderings.{Reorders, reorders-map, any-reorders, reorders-after, reorders-filter_map}
use Rattle.edm_model.specs.LookUps.{HierarchyPlace}
use Rattle.edm_model.specs.Models.{Model}
use Rattle.edm_data.specs.Worlds.{World}
use Rattle.edm_data.specs.Nodes.{parents_of}
use Rattle.edm_data.specs.References.{by_key}
use Rattle.edm_data.specs.Hierarchies.{ancestor_rows, descendant_rows, rows_whose, is_descendant}
use Rattle.apply_ast.specs.Trees.{HierName, Pipe, Step, pipe, steps, is_long, is_distance}
use Rattle.context_typing.specs.Shapes.{Shape}
use Rattle.context_typing.specs.Typing.{Customs, steps_shape, step_shape, hierarchy_at, is_node_path, path_kind, customs_typed, is_lawful}
use Rattle.apply_meaning.specs.Instances.{Instance, lookup}
use Rattle.apply_meaning.specs.Meaning.{Outcome, mean, step_mean, refused_at_beyond, climbed, node}
use Rattle.apply_meaning.specs.MeaningLaws.{AllFit}
use Rattle.apply_meaning.proofs.InstanceOrders.{reorders-ordered_by}
use Rattle.apply_ast.specs.NamedHierarchies.{hierarchies}
use Rattle.rewrite_laws.specs.Rewrites.{drop_idle, is_idle, all_but_last, pipe_or_identity}
use Rattle.rewrite_laws.specs.RewriteLaws.{SameMeaning, KeepsMeaningInPlace}
use Rattle.rewrite_laws.proofs.FilterRuns.{chains_agree}
use Rattle.rewrite_laws.proofs.RuleLemmas.{Laws, chain-assoc}
use Rattle.context_typing.proofs.WalkFacts.{pipe-steps, shape-append}
use Rattle.rewrite_laws.proofs.StepLists.{last-split, mean-append, hierarchies-append, identity-shape, identity-mean, identity-hierarchies, identity-long, SameStep, step-replaced, steps-fit}
use Rattle.rewrite_laws.proofs.ComputeFacts.{computed, computed-kind, computed-lookup}
use Rattle.rewrite_laws.proofs.OrderRules.{order-sorts, order-typed}

-- ---- what the start nodes come from

module _ (w : World) (up : Bool) (f : HierarchyPlace) (p : Path) (d : Option ℕ) (keep : Bool) (l : List Instance) where
  -- the instances that are chosen by start nodes
  abbrev chosen_by : List ℕ → List Instance
  chosen_by starts = at_places l ((if up then ancestor_rows else descendant_rows) (parents_of w f) d keep starts (map (node w f p) l))

  -- what a climb makes of the instances that give the start nodes
  abbrev climbs : List Instance → Outcome
  climbs r = refused_at_beyond (map (λ i. lookup w i p) (l ++ r)) (climbed w up f p d keep r l)

  starts-reorder : {r s : List ℕ} → Reorders r s → chosen_by r ≡ chosen_by s
  starts-reorder {r} {s} e = go up
    where
      ns : List (Option ℕ)
      ns = map (node w f p) l

      go : (b : Bool) → at_places l ((if b then ancestor_rows else descendant_rows) (parents_of w f) d keep r ns) ≡ at_places l ((if b then ancestor_rows else descendant_rows) (parents_of w f) d keep s ns)
      go true = λ i. at_places l (rows_whose (λ x. any-reorders (λ y. is_descendant (parents_of w f) d x y || (keep && x == y)) e i) ns)
      go false = λ i. at_places l (rows_whose (λ x. any-reorders (λ y. is_descendant (parents_of w f) d y x || (keep && x == y)) e i) ns)

  -- the order of those instances does not matter
  climbs-reorder : {r s : List Instance} → Reorders r s → climbs r ≡ climbs s
  climbs-reorder e = λ i. then_some (not (any-reorders is_beyond (reorders-map (λ i. lookup w i p) (reorders-after l e)) i)) (starts-reorder (reorders-filter_map (node w f p) e) i)

  -- nor do they, where the values of the path stay
  climbs-map : (g : Instance → Instance) → ((i : Instance) → lookup w (g i) p ≡ lookup w i p) → (r : List Instance) → climbs (map g r) ≡ climbs r
  climbs-map g h r = λ i. then_some (not (list_any is_beyond (values-same i))) (chosen_by (nodes-same r i))
    where
      each : (r : List Instance) → map (λ i. lookup w i p) (map g r) ≡ map (λ i. lookup w i p) r
      each [] = refl
      each (x ∷ r) = λ i. h x i ∷ each r i

      values-same : map (λ i. lookup w i p) (l ++ map g r) ≡ map (λ i. lookup w i p) (l ++ r)
      values-same = map-append (λ i. lookup w i p) l (map g r) ∙ ap (λ vs. map (λ i. lookup w i p) l ++ vs) (each r) ∙ sym (map-append (λ i. lookup w i p) l r)

      nodes-same : (r : List Instance) → filter_map (node w f p) (map g r) ≡ filter_map (node w f p) r
      nodes-same [] = refl
      nodes-same (x ∷ r) = λ i. cons_option (option_map (λ e. e.at) (by_key w f.set (h x i))) (nodes-same r i)

-- ---- a step that is dropped

-- what is asked of the last step, from the shape before it: it leaves the type of the path, and the climb's result
pub record IsIdle (A : World → Type 0) (w : World) (c : Customs) (S R : Shape) (p : Path) (x : Step) : Type 0 where
  pub kind : path_kind w.model R p ≡ path_kind w.model S p
  pub result : A w → (up : Bool) (f : HierarchyPlace) (d : Option ℕ) (keep : Bool) (l r : List Instance) → AllFit w S r → option_and_then (climbs w up f p d keep l) (step_mean w c S x r) ≡ climbs w up f p d keep l r

idle-holds : (A : World → Type 0) → Laws A → (w : World) (c : Customs) (S R : Shape) (p : Path) (x : Step) → step_shape w.model c S x ≡ Some R → is_idle w.model S p x ≡ true → IsIdle A w c S R p x
unfolding mean steps_shape
idle-holds A L w c S R p (Step.OrderBy items) e h =
    let t = order-typed w c S R items e in record {
      kind = ap (λ T. path_kind w.model T p) (sym t.1);
      result = λ a up f d keep l r fit.
          ap (option_and_then (climbs w up f p d keep l)) (order-sorts A L w c a S items t.0 h r fit) ∙ sym (climbs-reorder w up f p d keep l (reorders-ordered_by w items r));
    }
idle-holds A L w c S R p (Step.Compute ns) e h = record {
  kind = computed-kind w.model S R ns e p h;
  result = λ a up f d keep l r fit. climbs-map w up f p d keep l (computed w ns) (λ i. computed-lookup w ns i p h) r;
}
idle-holds A L w c S R p _ e h = cc

-- ---- the rule

module _ (A : World → Type 0) (L : Laws A) (w : World) (c : Customs) (k : IsTrue (customs_typed w.model c)) (S : Shape) (law : IsTrue (is_lawful w.model S)) (up : Bool) (h : HierName) (p : Path) (d : Option ℕ) (keep : Bool)
    (front : List Step) (x : Step) (SF R : Shape) (typed : steps_shape w.model c S (pipe front) ≡ Some SF) (last : step_shape w.model c SF x ≡ Some R) (idle : IsIdle A w c SF R p x) where
  whole-shape : steps_shape w.model c S (pipe (front ++ x ∷ [])) ≡ Some R
  unfolding steps_shape
  whole-shape = shape-append w.model c S front (x ∷ []) ∙ ap (option_and_then (λ T. steps_shape w.model c T (pipe (x ∷ [])))) typed ∙ ap (option_and_then (λ T. Some T)) last

  dropped-shape : step_shape w.model c S (Step.Climb up h p (pipe_or_identity front) d keep) ≡ step_shape w.model c S (Step.Climb up h p (pipe (front ++ x ∷ [])) d keep)
  unfolding steps_shape
  dropped-shape = λ i. then_some (is_node_path w.model S h p && is_distance d && long i && shapes i) S
    where
      long : is_long (pipe_or_identity front) ≡ is_long (pipe (front ++ x ∷ []))
      long = identity-long front ∙ sym (end-long front)
        where
          end-long : (ss : List Step) → is_long (pipe (ss ++ x ∷ [])) ≡ true
          end-long [] = refl
          end-long (s ∷ ss) = refl

      shapes : is_some_and (λ T. is_node_path w.model T h p) (steps_shape w.model c S (pipe_or_identity front)) ≡ is_some_and (λ T. is_node_path w.model T h p) (steps_shape w.model c S (pipe (front ++ x ∷ [])))
      shapes =
          ap (is_some_and (λ T. is_node_path w.model T h p)) (identity-shape w.model c S front ∙ typed)
          ∙ ap (λ o. is_some_and (λ f. is_some_and (same_kind f.key.kind) o) (hierarchy_at w.model h)) (sym idle.kind)
          ∙ sym (ap (is_some_and (λ T. is_node_path w.model T h p)) whole-shape)

  dropped-mean : A w → (l : List Instance) → AllFit w S l → step_mean w c S (Step.Climb up h p (pipe_or_identity front) d keep) l ≡ step_mean w c S (Step.Climb up h p (pipe (front ++ x ∷ [])) d keep) l
  unfolding mean
  dropped-mean a l fit = go (hierarchy_at w.model h)
    where
      run : Option HierarchyPlace → Outcome → Outcome
      run o r = elim o [ None ↦ None | Some f ↦ option_and_then (climbs w up f p d keep l) r ]

      same : (f : HierarchyPlace) → option_and_then (climbs w up f p d keep l) (mean w c S (pipe_or_identity front) l) ≡ option_and_then (climbs w up f p d keep l) (mean w c S (pipe (front ++ x ∷ [])) l)
      same f =
          ap (option_and_then (climbs w up f p d keep l)) (identity-mean w c S front l)
          ∙ chains_agree (climbs w up f p d keep l) (λ r. option_and_then (climbs w up f p d keep l) (step_mean w c SF x r)) (mean w c S (pipe front) l)
          (λ r m. sym (idle.result a up f d keep l r (steps-fit A L w c a k S SF front l r law typed fit m)))
          ∙ chain-assoc (climbs w up f p d keep l) (step_mean w c SF x) (mean w c S (pipe front) l)
          ∙ sym (ap (option_and_then (climbs w up f p d keep l)) (mean-append w c S SF front (x ∷ []) l typed ∙ (λ i. option_and_then (λ r. ended (step_mean w c SF x r) i) (mean w c S (pipe front) l))))
        where
          ended : (o : Outcome) → option_and_then (λ z. Some z) o ≡ o
          ended None = refl
          ended (Some z) = refl

      go : (o : Option HierarchyPlace) → run o (mean w c S (pipe_or_identity front) l) ≡ run o (mean w c S (pipe (front ++ x ∷ [])) l)
      go None = refl
      go (Some f) = same f

  dropped-same : SameStep A w c S (Step.Climb up h p (pipe (front ++ x ∷ [])) d keep) (Step.Climb up h p (pipe_or_identity front) d keep)
  dropped-same = (
    (λ n z. fewer n z),
    dropped-shape,
    λ a l fit. dropped-mean a l fit,
  )
    where
      fewer : (n : HierName) → Contains (h ∷ hierarchies (pipe_or_identity front)) n → Contains (h ∷ hierarchies (pipe (front ++ x ∷ []))) n
      fewer n z = subst (λ hs. Contains (h ∷ hs) n) (sym (hierarchies-append front (x ∷ []))) (Contains-append_left (h ∷ hierarchies (pipe front)) (hierarchies (pipe (x ∷ []))) n (subst (λ hs. Contains (h ∷ hs) n) (identity-hierarchies front) z))

-- what the rule finds: the last step and the shapes before and behind it, and that it is idle there
pub record DropsLast (m : Model) (c : Customs) (S : Shape) (up : Bool) (h : HierName) (p : Path) (T : Pipe) (d : Option ℕ) (keep : Bool) (ss ss' : List Step) : Type 0 where
  pub last : Step
  pub whole : T ≡ pipe (all_but_last T ++ last ∷ [])
  pub before_last : Shape
  pub front : steps_shape m c S (pipe (all_but_last T)) ≡ Some before_last
  pub behind_last : Shape
  pub typed : step_shape m c before_last last ≡ Some behind_last
  pub idle : is_idle m before_last p last ≡ true
  pub made : Step.Climb up h p (pipe_or_identity (all_but_last T)) d keep ∷ ss ≡ ss'

pub drops-last : (m : Model) (c : Customs) (S S' : Shape) (before up : Bool) (h : HierName) (p : Path) (T : Pipe) (d : Option ℕ) (keep : Bool) (ss ss' : List Step) → steps_shape m c S (pipe (Step.Climb up h p T d keep ∷ ss)) ≡ Some S'
    → drop_idle m c S before (Step.Climb up h p T d keep) ss ≡ Some ss' → DropsLast m c S up h p T d keep ss ss'
unfolding steps_shape
drops-last m c S S' before up h p T d keep ss ss' e got =
    let t = chained (λ x. then_some (is_some_and (λ S'. is_idle m S' p x) (steps_shape m c S (pipe (all_but_last T)))) (Step.Climb up h p (pipe_or_identity (all_but_last T)) d keep ∷ ss)) (last_or None (steps T)) ss' got in
    let u = then_some-parts (is_some_and (λ S'. is_idle m S' p t.0) (steps_shape m c S (pipe (all_but_last T)))) (Step.Climb up h p (pipe_or_identity (all_but_last T)) d keep ∷ ss) ss' t.2 in
    let v = some_and (λ S'. is_idle m S' p t.0) (steps_shape m c S (pipe (all_but_last T))) u.0 in
    let whole : T ≡ pipe (all_but_last T ++ t.0 ∷ []) = sym (pipe-steps T) ∙ ap pipe (last-split (steps T) t.0 t.1) in
    let first = chained (λ Z. steps_shape m c Z (pipe ss)) (step_shape m c S (Step.Climb up h p T d keep)) S' e in
    let conditions = then_some-parts (is_node_path m S h p && is_distance d && is_long T && is_some_and (λ R. is_node_path m R h p) (steps_shape m c S T)) S first.0 first.1 in
    let inner = some_and (λ R. is_node_path m R h p) (steps_shape m c S T) (and_parts (is_node_path m S h p && is_distance d && is_long T) _ conditions.0).1 in
    let by_parts = sym (ap (option_and_then (λ Z. steps_shape m c Z (pipe (t.0 ∷ [])))) v.1) ∙ sym (shape-append m c S (all_but_last T) (t.0 ∷ [])) ∙ sym (ap (steps_shape m c S) whole) ∙ inner.1 in
    let step = chained (λ Z. Some Z) (step_shape m c v.0 t.0) inner.0 by_parts in
    record { last = t.0; whole = whole; before_last = v.0; front = v.1; behind_last = step.0; typed = step.1; idle = v.2; made = u.1 }

pub drop_idle-keeps_meaning : (A : World → Type 0) → Laws A → KeepsMeaningInPlace A drop_idle
drop_idle-keeps_meaning A L w c S S' before (Step.Climb up h p T d keep) ss ss' k law e got =
    let D = drops-last w.model c S S' before up h p T d keep ss ss' e got in
    let K : List Step → Type 0 = λ z. IsTrue (before || is_long (pipe z)) × SameMeaning A w c S (pipe (Step.Climb up h p T d keep ∷ ss)) (pipe z) in
    subst K D.made (
      or_right before true refl,
      step-replaced A w c S (Step.Climb up h p T d keep) (Step.Climb up h p (pipe_or_identity (all_but_last T)) d keep) (pipe ss)
          (subst (λ Z. SameStep A w c S (Step.Climb up h p Z d keep) (Step.Climb up h p (pipe_or_identity (all_but_last T)) d keep)) (sym D.whole)
          (dropped-same A L w c k S law up h p d keep (all_but_last T) D.last D.before_last D.behind_last D.front D.typed (idle-holds A L w c D.before_last D.behind_last p D.last D.typed D.idle))),
    )
drop_idle-keeps_meaning A L w c S S' before s ss ss' k law e got = none_or ss' got
