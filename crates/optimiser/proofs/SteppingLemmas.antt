-- Segments of written steps, and lists of them.
use Rattle.std.proofs.Common.{◌≡◌, refl, sym, ◌∙◌, ap, ℕ, ◌+◌, ◌<◌, true, false, ◌&&◌, List, [], ◌∷◌, ◌++◌, drop, get_or, length, map, Option, Some, None}
use Rattle.std.specs.Prelude.{option_and_then, option_map, option_to_list, is_some, slice_get, unwrap_or, if◌then◌else◌}
use Rattle.std.specs.List.{list_all}
use Rattle.std.proofs.lemmas.Bool.{and_from}
use Rattle.std.proofs.lemmas.List.{map-append}
use Rattle.std.proofs.lemmas.Option.{slice_get-map, slice_get_read}
use Rattle.edm_values.specs.Lists.{is_some_and}
use Rattle.edm_values.proofs.ListFacts.{all-append}
use Rattle.edm_values.proofs.OptionFacts.{some_value}
use Rattle.optimiser.proofs.HeldLists.{segments-push}
use Rattle.edm_model.specs.Models.{Model}
use Rattle.apply_ast.specs.Trees.{AggItem, Expr, Pipe, Step, TopStep, pipe}
use Rattle.apply_ast.specs.Views.{expr_of}
use Rattle.context_typing.specs.Shapes.{Shape}
use Rattle.context_typing.specs.ShapeTypes.{has_types}
use Rattle.context_typing.specs.Typing.{Customs, after, step_shape, steps_shape}
use Rattle.context_typing.proofs.TypingEquations.{steps_shape-Then}
use Rattle.rewrite_forms.proofs.CutLists.{dropped-next}
use Rattle.optimiser.specs.HeldSegments.{Frame, are_right, are_there, enters, is_known_at, is_right, is_there, made, outline, passes, segment_of, segments_of, test_of}
use Rattle.optimiser.specs.KnownSteps.{is_known}
use Rattle.optimiser.specs.declared.known.Known.{Known}
use Rattle.optimiser.specs.IdleForms.{before_aggregate, frame, is_put, joined_last, segment, stepped}
use Rattle.walk_laws.specs.Walks as spec
use Rattle.optimiser.specs.declared.held.Head.TheVariants as head
use Rattle.optimiser.specs.declared.held.Segment.{Segment}

-- the segment of a step that is put
pub new-segment : (r : spec.Rules) (m : Model) (c : Customs) (S S' : Shape) (s : Step) (ss : List Step) (at : ℕ) (g : Segment) → g.head ≡ head.Written at S' → S' ≡ S → slice_get ss at ≡ Some s → g.lets ≡ spec.step_lets m c S s → passes g.passage ≡ spec.step_passed r s → enters m g.entry ≡ spec.step_enters r m c S s → g.entered.items ≡ [] → g.tests.items ≡ []
    → segment_of m (frame r c ss) g ≡ segment r m c S s
new-segment r m c S S' s ss at g is same place lets through into none bare = λ i. record {
  lets = lets i;
  passes = through i;
  enters = into i;
  head = (ap (λ h. made m (frame r c ss) h (map expr_of g.entered.items)) is ∙ (λ j es. option_map (λ x. spec.settled_step r m c (same j) x (map expr_of (none j) ++ es)) (place j))) i;
  tests = map test_of (bare i);
}

-- one segment more
pub more-right : (m : Model) (gs : List Segment) (g : Segment) → are_right m gs ≡ true → is_right m g.entry ≡ true → are_right m (gs ++ g ∷ []) ≡ true
more-right m gs g all one = ap (list_all (λ x. is_right m x.1)) (map-append outline gs (g ∷ [])) ∙ all-append (λ x. is_right m x.1) (map outline gs) (outline g ∷ []) all (and_from _ _ one refl)

pub more-there : (m : Model) (c : Customs) (ss : List Step) (ks : List Known) (gs : List Segment) (g : Segment) → are_there m c ss ks gs ≡ true → is_there m c ss ks g.head ≡ true → are_there m c ss ks (gs ++ g ∷ []) ≡ true
more-there m c ss ks gs g all one = ap (list_all (λ x. is_there m c ss ks x.0)) (map-append outline gs (g ∷ [])) ∙ all-append (λ x. is_there m c ss ks x.0) (map outline gs) (outline g ∷ []) all (and_from _ _ one refl)

-- a typed step is at its place
pub step-there : (m : Model) (c : Customs) (ss : List Step) (ks : List Known) (at : ℕ) (S S' : Shape) (s : Step) (k : Known) → S' ≡ S → has_types m S ≡ true → slice_get ss at ≡ Some s → slice_get ks at ≡ Some k → is_some (step_shape m c S s) ≡ true → is_known m c S s k ≡ true → is_there m c ss ks (head.Written at S') ≡ true
step-there m c ss ks at S S' s k same types place here typed known =
    (λ i. has_types m (same i) && is_some_and (λ x. is_some (step_shape m c (same i) x) && is_known_at m c (same i) x (here i)) (place i)) ∙ and_from _ _ types (and_from _ _ typed known)

-- the steps behind a typed one are typed
pub rest-typed : {X : Type 0} (m : Model) (c : Customs) (f : X → Step) (S S' : Shape) (xs : List X) (i : ℕ) (d : X) → i < length xs → d ≡ get_or xs i d → is_some (steps_shape m c S (pipe (map f (drop i xs)))) ≡ true
    → (is_some (step_shape m c S (f d)) ≡ true) × (S' ≡ after m c S (f d) → is_some (steps_shape m c S' (pipe (map f (drop (i + 1) xs)))) ≡ true)
rest-typed m c f S S' xs i d h is typed = go (step_shape m c S (f d)) refl (sym (ap is_some (ap (λ l. steps_shape m c S (pipe l)) (dropped-next f xs i d h is) ∙ steps_shape-Then m c S (f d) rest)) ∙ typed)
  where
    rest : Pipe
    rest = pipe (map f (drop (i + 1) xs))

    go : (o : Option Shape) → step_shape m c S (f d) ≡ o → is_some (option_and_then (λ Z. steps_shape m c Z rest) o) ≡ true → (is_some (step_shape m c S (f d)) ≡ true) × (S' ≡ after m c S (f d) → is_some (steps_shape m c S' rest) ≡ true)
    go None e t = cc
    go (Some Z) e t = (ap is_some e, λ next. ap (λ Z. is_some (steps_shape m c Z rest)) (next ∙ ap (λ o. unwrap_or o S) e) ∙ t)

-- ---- one more step

module _ (r : spec.Rules) (m : Model) (c : Customs) (S : Shape) (gs : List spec.Segment) where
  pub identity-step : (s : Step) → s ≡ Step.Identity → gs ≡ stepped r m c S s gs
  identity-step s e = ap (λ s. stepped r m c S s gs) (sym e)

  pub filter-step : (s : Step) (b : Expr) → s ≡ Step.Filter b → spec.put_filter m S b gs ≡ stepped r m c S s gs
  filter-step s b e = ap (λ s. stepped r m c S s gs) (sym e)

  put-form : (s : Step) → is_put s ≡ true → segment r m c S s ∷ gs ≡ stepped r m c S s gs
  put-form Step.Identity h = cc
  put-form (Step.Filter e) h = cc
  put-form (Step.Aggregate as') h = cc
  put-form (Step.TopBy t) h = cc
  put-form s h = refl

  pub put-step : (s : Step) → is_put s ≡ true → segment r m c S s ∷ gs ≡ stepped r m c S s gs
  put-step = put-form

  pub aggregate-step : (s : Step) (as' : List AggItem) → s ≡ Step.Aggregate as' → segment r m c S s ∷ before_aggregate r gs ≡ stepped r m c S s gs
  aggregate-step s as' e = ap (λ s. segment r m c S s ∷ before_aggregate r gs) e ∙ ap (λ s. stepped r m c S s gs) (sym e)

-- the segment of a selection
selection-form : (r : spec.Rules) (m : Model) (c : Customs) (S : Shape) (t : TopStep) → segment r m c S (Step.TopBy t) ≡ spec.selection t
unfolding spec.put_steps
selection-form r m c S t = refl

pub selection-step : (m : Model) (c : Customs) (S : Shape) (gs : List spec.Segment) (s : Step) (t : TopStep) → s ≡ Step.TopBy t → spec.put_selection t gs ≡ stepped spec.Rules.All m c S s gs
selection-step m c S gs s t e = ap (λ s. stepped spec.Rules.All m c S s gs) (sym e)

pub early-selection : (r : spec.Rules) (m : Model) (c : Customs) (S : Shape) (gs : List spec.Segment) (s : Step) (t : TopStep) → spec.is_late r ≡ false → s ≡ Step.TopBy t → segment r m c S s ∷ gs ≡ stepped r m c S s gs
early-selection r m c S gs s t early e =
    ap (λ s. segment r m c S s ∷ gs) e ∙ ap (λ g. g ∷ gs) (selection-form r m c S t) ∙ (λ i. if sym early i then spec.put_selection t gs else spec.selection t ∷ gs) ∙ ap (λ s. stepped r m c S s gs) (sym e)

-- nothing stands for the last step and the selection
pub unjoined : (m : Model) (c : Customs) (S : Shape) (gs : List spec.Segment) (s : Step) (t : TopStep) → s ≡ Step.TopBy t → None ≡ joined_last gs t → segment spec.Rules.All m c S s ∷ gs ≡ spec.put_selection t gs
unjoined m c S gs s t e none = ap (λ s. segment spec.Rules.All m c S s ∷ gs) e ∙ ap (λ g. g ∷ gs) (selection-form spec.Rules.All m c S t) ∙ go gs none
  where
    more : (g : spec.Segment) (gs : List spec.Segment) (o : Option TopStep) → None ≡ o → spec.selection t ∷ g ∷ gs ≡ elim o [ None ↦ spec.selection t ∷ g ∷ gs | Some u ↦ spec.selection u ∷ gs ]
    more g gs None h = refl
    more g gs (Some u) h = cc

    go : (gs : List spec.Segment) → None ≡ joined_last gs t → spec.selection t ∷ gs ≡ spec.put_selection t gs
    go [] h = refl
    go (g ∷ gs) h = more g gs (spec.last_count g t) h

-- a count stands for both
pub joined-put : (m : Model) (w : Frame) (gs gs' : List Segment) (o : Option Segment) (t u : TopStep) → gs ≡ gs' ++ option_to_list o → is_some o ≡ true → Some u ≡ joined_last (segments_of m w gs) t → spec.selection u ∷ segments_of m w gs' ≡ spec.put_selection t (segments_of m w gs)
joined-put m w gs gs' None t u e some h = cc
joined-put m w gs gs' (Some g) t u e some h =
    let all : segments_of m w gs ≡ segment_of m w g ∷ segments_of m w gs' = ap (segments_of m w) e ∙ segments-push m w gs' g in
    more (spec.last_count (segment_of m w g) t) (h ∙ ap (λ l. joined_last l t) all) ∙ ap (spec.put_selection t) (sym all)
  where
    more : (o : Option TopStep) → Some u ≡ o → spec.selection u ∷ segments_of m w gs' ≡ elim o [ None ↦ spec.selection t ∷ segment_of m w g ∷ segments_of m w gs' | Some v ↦ spec.selection v ∷ segments_of m w gs' ]
    more None h = cc
    more (Some v) h = ap (λ v. spec.selection v ∷ segments_of m w gs') (some_value h)

-- ---- the step at a place

pub placed : {X : Type 0} (f : X → Step) (xs : List X) (k : ℕ) (x : X) → k < length xs → x ≡ get_or xs k x → slice_get (map f xs) k ≡ Some (f x)
placed f xs k x h is = slice_get-map f xs k ∙ ap (option_map f) (slice_get_read xs (length xs) k x refl h is)

-- the shape behind the steps that are left
pub behind-next : {X : Type 0} (m : Model) (c : Customs) (f : X → Step) (S S' : Shape) (xs : List X) (i : ℕ) (d : X) → i < length xs → d ≡ get_or xs i d → S' ≡ after m c S (f d)
    → spec.shape_behind m c S' (pipe (map f (drop (i + 1) xs))) ≡ spec.shape_behind m c S (pipe (map f (drop i xs)))
behind-next m c f S S' xs i d h is next = ap (λ Z. spec.shape_behind m c Z (pipe (map f (drop (i + 1) xs)))) next ∙ ap (λ l. spec.shape_behind m c S (pipe l)) (sym (dropped-next f xs i d h is))
