-- The steps of segments at their places.
use Rattle.std.proofs.Common.{◌≡◌, refl, sym, ◌∙◌, ap, subst, ℕ, ◌<◌, true, ◌&&◌, List, ◌∷◌, [], ◌++◌, Option, Some, None, get_or, length, map}
use Rattle.std.specs.Prelude.{option_map, option_to_list, is_some, slice_get}
use Rattle.std.proofs.lemmas.Bool.{and_parts}
use Rattle.std.proofs.lemmas.List.{length-map}
use Rattle.std.proofs.lemmas.List.Folds.{list_all-map}
use Rattle.std.proofs.lemmas.Option.{slice_get-map, slice_get_read, slice_get_within}
use Rattle.edm_values.specs.Lists.{is_some_and}
use Rattle.edm_model.specs.Models.{Model}
use Rattle.apply_ast.specs.Trees.{Step}
use Rattle.apply_ast.specs.Views.{expr_of}
use Rattle.context_typing.specs.Shapes.{Shape}
use Rattle.context_typing.specs.ShapeTypes.{has_types}
use Rattle.context_typing.specs.Typing.{Customs, step_shape}
use Rattle.optimiser.specs.HeldSegments.{Frame, are_there, is_known_at, is_there, outline, segment_of, segments_of}
use Rattle.walk_laws.specs.Walks as spec
use Rattle.optimiser.specs.declared.held.Head.{Head}
use Rattle.optimiser.specs.declared.known.Known.{Known}
use Rattle.optimiser.specs.declared.held.Head.TheVariants as head
use Rattle.optimiser.specs.declared.held.Segment.{Segment}
use Rattle.optimiser.specs.declared.held.Test.{Test}
use Rattle.optimiser.proofs.HeldLists.{all-at}
use Rattle.optimiser.proofs.WalkedLemmas.{known-within, steps-next}

-- a step that is at its place is one of the pipeline's
pub there-inside : {X : Type 0} (m : Model) (c : Customs) (f : X → Step) (xs : List X) (ks : List Known) (k : ℕ) (S : Shape) → is_there m c (map f xs) ks (head.Written k S) ≡ true → k < length xs
there-inside m c f xs ks k S h = subst (λ n. k < n) (length-map xs f) (go (slice_get (map f xs) k) refl (and_parts (has_types m S) _ h).1)
  where
    go : (o : Option Step) → slice_get (map f xs) k ≡ o → is_some_and (λ s. is_some (step_shape m c S s) && is_known_at m c S s (slice_get ks k)) o ≡ true → k < length (map f xs)
    go None e t = cc
    go (Some s) e t = slice_get_within (map f xs) k s e

pub known-inside : {X : Type 0} (m : Model) (c : Customs) (f : X → Step) (xs : List X) (ks : List Known) (k : ℕ) (S : Shape) → is_there m c (map f xs) ks (head.Written k S) ≡ true → k < length ks
known-inside m c f xs ks k S h = go (slice_get (map f xs) k) refl (and_parts (has_types m S) _ h).1
  where
    go : (o : Option Step) → slice_get (map f xs) k ≡ o → is_some_and (λ s. is_some (step_shape m c S s) && is_known_at m c S s (slice_get ks k)) o ≡ true → k < length ks
    go None e t = cc
    go (Some s) e t = known-within m c (map f xs) ks k S s e h

-- all steps are at their places, and so is one
pub one-there : (m : Model) (c : Customs) (ss : List Step) (ks : List Known) (gs : List Segment) (i : ℕ) (g : Segment) (h : Head) → are_there m c ss ks gs ≡ true → i < length gs → g ≡ get_or gs i g → h ≡ g.head → is_there m c ss ks h ≡ true
one-there m c ss ks gs i g h all within is e =
    ap (is_there m c ss ks) (e ∙ ap (λ g. g.head) is)
    ∙ all-at (λ g. is_there m c ss ks g.head) gs i g within (sym (list_all-map (λ x. is_there m c ss ks x.0) outline gs) ∙ all)

-- the step at a place
pub placed : {X : Type 0} (f : X → Step) (xs : List X) (k : ℕ) (x : X) → k < length xs → x ≡ get_or xs k x → slice_get (map f xs) k ≡ Some (f x)
placed f xs k x h is = slice_get-map f xs k ∙ ap (option_map f) (slice_get_read xs (length xs) k x refl h is)

-- the steps of one segment more, of which the filters are known
pub steps-past : (m : Model) (w : Frame) (ys : List Segment) (x : Segment) (before behind : List Step) (h : Option Step) (ts : List Test) → before ≡ spec.all_steps (segments_of m w ys) → ts ≡ x.tests.items
    → behind ≡ before ++ (option_to_list h ++ map (λ t. Step.Filter (expr_of t.expr)) ts) → h ≡ spec.head_of (segment_of m w x) → behind ≡ spec.all_steps (segments_of m w (ys ++ x ∷ []))
steps-past m w ys x before behind h ts e same f is = steps-next m w ys x before behind h e (f ∙ ap (λ l. before ++ (option_to_list h ++ map (λ t. Step.Filter (expr_of t.expr)) l)) same) is
