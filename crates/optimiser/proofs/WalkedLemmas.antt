-- The steps of segments, one segment after the other.
use Rattle.std.proofs.Common.{◌≡◌, refl, sym, ◌∙◌, ap, ℕ, ◌<◌, ◌==◌, true, false, ◌&&◌, List, [], ◌∷◌, ◌++◌, Option, Some, None, get_or, length, map}
use Rattle.std.specs.Prelude.{option_map, option_to_list, is_some, slice_get}
use Rattle.std.proofs.Math.Dec.{eqb-suc-zero}
use Rattle.std.proofs.lemmas.Bool.{and_parts, true≢false}
use Rattle.std.proofs.lemmas.List.{append-nil}
use Rattle.std.proofs.lemmas.Option.{slice_get_within}
use Rattle.edm_values.specs.Lists.{is_some_and}
use Rattle.edm_model.specs.Models.{Model}
use Rattle.apply_ast.specs.Trees.{Expr, OptPipe, Step}
use Rattle.apply_ast.specs.declared.expressions.Expr as of_expr
use Rattle.apply_ast.specs.Views.{expr_of}
use Rattle.context_typing.specs.Shapes.{Shape}
use Rattle.context_typing.specs.ShapeTypes.{has_types}
use Rattle.context_typing.specs.Typing.{Customs, step_shape}
use Rattle.optimiser.specs.HeldSegments.{Frame, is_known_at, is_there, made, outline, segment_of, segments_of, test_of}
use Rattle.optimiser.specs.IdleForms.{frame}
use Rattle.optimiser.specs.WalkForms.{of_filters}
use Rattle.walk_laws.specs.Walks as spec
use Rattle.rewrite_laws.specs.Rewrites.{pipe_or_identity}
use Rattle.optimiser.specs.declared.held.Entry.{Entry}
use Rattle.optimiser.specs.declared.held.Entry.TheVariants as entry
use Rattle.optimiser.specs.KnownSteps.{is_known}
use Rattle.optimiser.specs.declared.held.Head.{Head}
use Rattle.optimiser.specs.declared.known.Known.{Known}
use Rattle.optimiser.specs.declared.held.Head.TheVariants as head
use Rattle.optimiser.specs.declared.held.Segment.{Segment}
use Rattle.optimiser.specs.declared.held.Test.{Test}
use Rattle.optimiser.proofs.HeldLists.{segments-push}

test-steps : (ts : List Test) → map (λ t. Step.Filter (expr_of t.expr)) ts ≡ map (λ t. Step.Filter t.expr) (map test_of ts)
test-steps [] = refl
test-steps (t ∷ ts) = ap (λ l. Step.Filter (expr_of t.expr) ∷ l) (test-steps ts)

-- the steps of one segment more
pub steps-next : (m : Model) (w : Frame) (ys : List Segment) (x : Segment) (before behind : List Step) (h : Option Step) → before ≡ spec.all_steps (segments_of m w ys)
    → behind ≡ before ++ (option_to_list h ++ map (λ t. Step.Filter (expr_of t.expr)) x.tests.items) → h ≡ spec.head_of (segment_of m w x) → behind ≡ spec.all_steps (segments_of m w (ys ++ x ∷ []))
steps-next m w ys x before behind h e f is =
    f ∙ (λ i. e i ++ (option_to_list (is i) ++ test-steps x.tests.items i)) ∙ sym (ap spec.all_steps (segments-push m w ys x))

-- the step of a written segment
pub written-head : (r : spec.Rules) (m : Model) (c : Customs) (ss : List Step) (k : ℕ) (S : Shape) (s s' : Step) (es : List Expr) → slice_get ss k ≡ Some s → s' ≡ spec.settled_step r m c S s es → Some s' ≡ made m (frame r c ss) (head.Written k S) es []
written-head r m c ss k S s s' es place e =
    ap Some (e ∙ ap (spec.settled_step r m c S s) (sym (append-nil es))) ∙ ap (option_map (λ s. spec.settled_step r m c S s (es ++ []))) (sym place)

-- a step that is at its place is typed there, and what is known of it is so
module _ (m : Model) (c : Customs) (ss : List Step) (ks : List Known) (k : ℕ) (S : Shape) where
  pub there-types : is_there m c ss ks (head.Written k S) ≡ true → has_types m S ≡ true
  there-types h = (and_parts (has_types m S) _ h).0

  both : (s : Step) → slice_get ss k ≡ Some s → is_there m c ss ks (head.Written k S) ≡ true → (is_some (step_shape m c S s) && is_known_at m c S s (slice_get ks k)) ≡ true
  both s place h = sym (ap (is_some_and (λ s. is_some (step_shape m c S s) && is_known_at m c S s (slice_get ks k))) place) ∙ (and_parts (has_types m S) _ h).1

  pub there-typed : (s : Step) → slice_get ss k ≡ Some s → is_there m c ss ks (head.Written k S) ≡ true → is_some (step_shape m c S s) ≡ true
  there-typed s place h = (and_parts (is_some (step_shape m c S s)) _ (both s place h)).0

  pub there-known : (s : Step) (x : Known) → slice_get ss k ≡ Some s → slice_get ks k ≡ Some x → is_there m c ss ks (head.Written k S) ≡ true → is_known m c S s x ≡ true
  there-known s x place here h = sym (ap (is_known_at m c S s) here) ∙ (and_parts (is_some (step_shape m c S s)) _ (both s place h)).1

  pub known-within : (s : Step) → slice_get ss k ≡ Some s → is_there m c ss ks (head.Written k S) ≡ true → k < length ks
  known-within s place h = go (slice_get ks k) refl (and_parts (is_some (step_shape m c S s)) _ (both s place h)).1
    where
      go : (o : Option Known) → slice_get ks k ≡ o → is_known_at m c S s o ≡ true → k < length ks
      go None e t = cc
      go (Some x) e t = slice_get_within ks k x e

-- ---- filters alone

-- one segment with an outline is alone
pub lone : (gs : List Segment) (h : Head) (e : Entry) → map outline gs ≡ (h, e) ∷ [] → (x : Segment) × (gs ≡ x ∷ []) × (x.head ≡ h)
lone [] h e is = cc
lone (x ∷ []) h e is = (x, refl, ap (λ l. (get_or {A = Head × Entry} l 0 (h, e)).0) is)
lone (x ∷ y ∷ gs) h e is = cc

-- the pipeline of a front segment
pub front-whole : (m : Model) (w : Frame) (gs gs' : List Segment) (o : Option Segment) (x : Segment) (steps : List Step) → gs ≡ gs' ++ option_to_list o → o ≡ Some x → map outline gs ≡ (head.Front, entry.Closed) ∷ []
    → steps ≡ map (λ t. Step.Filter (expr_of t.expr)) x.tests.items → pipe_or_identity steps ≡ spec.whole (segments_of m w gs)
front-whole m w gs gs' o x steps e is alone put =
    let y = lone gs head.Front entry.Closed alone in
    let last : gs' ++ x ∷ [] ≡ y.0 ∷ [] = sym (e ∙ ap (λ o. gs' ++ option_to_list o) is) ∙ y.1 in
    let same : x ≡ y.0 = one gs' x y.0 last in
    ap pipe_or_identity (put ∙ ap (λ g. map (λ t. Step.Filter (expr_of t.expr)) g.tests.items) same ∙ test-steps (y.0).tests.items)
    ∙ ap pipe_or_identity (ap (λ h. option_to_list (made_of h y.0) ++ map (λ t. Step.Filter t.expr) (map test_of (y.0).tests.items)) (sym y.2))
    ∙ ap (λ l. spec.whole (segments_of m w l)) (sym y.1)
  where
    made_of : Head → Segment → Option Step
    made_of h g = made m w h (map expr_of g.entered.items) []

    one : (l : List Segment) (x y : Segment) → l ++ x ∷ [] ≡ y ∷ [] → x ≡ y
    one [] x y e = ap (λ l. get_or l 0 x) e
    one (z ∷ []) x y e = cc
    one (z ∷ z' ∷ l) x y e = cc

-- no filters make no pipeline, and others make one
pub none-filters : (m : Model) (S : Shape) (es : List of_expr.Expr) → (length es == 0) ≡ true → OptPipe.NoPipe ≡ of_filters m S (map expr_of es)
none-filters m S [] h = refl
none-filters m S (e ∷ es) h = absurd (true≢false (sym h ∙ eqb-suc-zero (length es)))

pub some-filters : (m : Model) (S : Shape) (es : List of_expr.Expr) → (length es == 0) ≡ false → OptPipe.SomePipe (spec.whole (spec.put_filters m S (map expr_of es) spec.front)) ≡ of_filters m S (map expr_of es)
some-filters m S [] h = absurd (true≢false h)
some-filters m S (e ∷ es) h = refl
