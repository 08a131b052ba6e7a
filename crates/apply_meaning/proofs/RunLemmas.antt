-- What holds of a run from one transformation to the next.
use Rattle.std.proofs.Common.{◌≡◌, ℕ, suc, ◌+◌, ◌<◌, refl, sym, ◌∙◌, ap, Bool, true, ◌&&◌, List, [], ◌∷◌, length, drop, map, get_or, Option, Some, None, drop-cons, add-one}
use Rattle.std.specs.Prelude.{option_and_then, unwrap_or, is_some}
use Rattle.std.proofs.lemmas.Bool.{and_parts}
use Rattle.std.specs.List.{list_all}
use Rattle.edm_values.specs.declared.refusals.Refused.{Refused}
use Rattle.edm_values.specs.declared.refusals.Refused.TheVariants.{Range, Memory}
use Rattle.edm_values.specs.Names.{Path}
use Rattle.edm_values.proofs.OptionFacts.{chained, some_and-there}
use Rattle.apply_meaning.proofs.FitLemmas.{fit-parts}
use Rattle.edm_values.proofs.ListFacts.{all-each, all-of_mapped}
use Rattle.edm_data.specs.Worlds.{World, Entity}
use Rattle.edm_data.specs.References.{entity_type}
use Rattle.apply_ast.specs.Trees.{Named, Pipe, Step, pipe}
use Rattle.apply_ast.specs.Views.{pipe_of, step_of}
use Rattle.apply_ast.specs.declared.steps.Step as code
use Rattle.context_typing.specs.Paths.{is_none_or}
use Rattle.context_typing.specs.Shapes.{Shape, PrefixShape}
use Rattle.context_typing.specs.Typing.{Customs, after, customs_typed, is_lawful, shape_of_set, prefix_at, step_shape, steps_shape}
use Rattle.context_typing.proofs.TypingEquations.{steps_shape-End, steps_shape-Then}
use Rattle.context_typing.proofs.TypingLaw.{typing_keeps_lawful}
use Rattle.apply_meaning.specs.Instances.{Instance, rows, fits, prefix_fits, prefix_fits_at, extended}
use Rattle.apply_meaning.specs.Meaning.{Outcome, mean, step_mean}
use Rattle.apply_meaning.specs.MeaningLaws.{AllFit, IsLoaded}
use Rattle.apply_meaning.specs.RowViews.{is_of, columns_differ}
use Rattle.apply_meaning.proofs.MeaningEquations.{mean-End, mean-Then, step_mean-Compute}
use Rattle.apply_meaning.proofs.MeaningProved.{loaded-mean_fits, loaded-rows}
use Rattle.context_typing.proofs.LawfulShapes.{own_is_lawful}
use Rattle.context_typing.specs.Answers.{IsTyping}
use Rattle.context_typing.specs.declared.typed.Typed.{Typed}
use Rattle.edm_model.specs.LookUps.{IsSet, set_type}
use Rattle.std.proofs.Common.{IsTrue, subst}
use Rattle.apply_meaning.specs.Running.{Runs, StepRuns, all_steps, all_of, all_free, new_columns, Gives}
use Rattle.std.proofs.Common.{Err}

-- ---- what fits is of the world

prefix-of : (w : World) (S : Shape) (i : Instance) (p : Path) (e : Option Entity) (o : Option PrefixShape) → prefix_fits_at w S i (p, e) o ≡ true → is_none_or (λ e. is_some (entity_type w e)) e ≡ true
prefix-of w S i p None o h = refl
prefix-of w S i p (Some e) None h = absurd (cc)
prefix-of w S i p (Some e) (Some y) h = some_and-there _ (entity_type w e) (and_parts _ _ h).0

pub fits-of : (w : World) (S : Shape) (i : Instance) → fits w S i ≡ true → is_of w i ≡ true
fits-of w S i h =
    all-each (prefix_fits w S i) (λ x. is_none_or (λ e. is_some (entity_type w e)) x.1) i.prefixes (fit-parts w S i h).prefixes_fit (λ x. prefix-of w S i x.0 x.1 (prefix_at S x.0))

pub fits-differ : (w : World) (S : Shape) (i : Instance) → fits w S i ≡ true → columns_differ i.columns ≡ true
fits-differ w S i h = (fit-parts w S i h).columns_differ

pub all-fit-of : (w : World) (S : Shape) (l : List Instance) → AllFit w S l → all_of w l ≡ true
all-fit-of w S l h = all-each (fits w S) (is_of w) l h (fits-of w S)

-- ---- one transformation

pub step-fits : (w : World) (c : Customs) (S S' : Shape) (s : Step) (l r : List Instance) → IsLoaded w → StepRuns w c S S' s l → step_mean w c S s l ≡ Some r → AllFit w S' r
step-fits w c S S' s l r L R m =
    loaded-mean_fits w c S S' (Pipe.Then s Pipe.End) l r L R.customs R.lawful (refl, steps_shape-Then w.model c S s Pipe.End ∙ ap (option_and_then (λ T. steps_shape w.model c T Pipe.End)) R.typed ∙ steps_shape-End w.model c S') R.fit
    (mean-Then w c S s Pipe.End l ∙ ap (option_and_then (mean w c (after w.model c S s) Pipe.End)) m ∙ mean-End w c (after w.model c S s) r)

pub step-lawful : (w : World) (c : Customs) (S S' : Shape) (s : Step) (l : List Instance) → StepRuns w c S S' s l → is_lawful w.model S' ≡ true
step-lawful w c S S' s l R =
    typing_keeps_lawful w.model c S S' (Pipe.Then s Pipe.End) tt R.lawful (refl, steps_shape-Then w.model c S s Pipe.End ∙ ap (option_and_then (λ T. steps_shape w.model c T Pipe.End)) R.typed ∙ steps_shape-End w.model c S')

-- what is typed as a computation has new columns that differ from the others
pub compute-free : (w : World) (c : Customs) (S S' : Shape) (ns : List Named) (l : List Instance) → IsLoaded w → StepRuns w c S S' (Step.Compute ns) l → all_free w ns l ≡ true
compute-free w c S S' ns l L R =
    let made : List Instance = map (λ i. extended i (new_columns w ns i)) l in
    let all : AllFit w S' made = step-fits w c S S' (Step.Compute ns) l made L R (step_mean-Compute w c S ns l) in
    all-of_mapped (λ i. extended i (new_columns w ns i)) (λ i. columns_differ i.columns) l (all-each (fits w S') (λ i. columns_differ i.columns) made all (fits-differ w S'))

-- ---- from one transformation to the next

-- the first transformation of a pipeline that is run
pub record Turn (w : World) (c : Customs) (S S' : Shape) (P : Pipe) (s : Step) (p : Pipe) (l : List Instance) : Type 0 where
  pub between : Shape
  pub first : StepRuns w c S between s l
  pub next : (r : List Instance) → IsLoaded w → step_mean w c S s l ≡ Some r → Runs w c between S' p r
  pub meaning : mean w c S P l ≡ option_and_then (mean w c between p) (step_mean w c S s l)

pub turn : (w : World) (c : Customs) (S S' : Shape) (P : Pipe) (s : Step) (p : Pipe) (l : List Instance) → P ≡ Pipe.Then s p → Runs w c S S' P l → Turn w c S S' P s p l
turn w c S S' P s p l e R =
    let t = chained (λ T. steps_shape w.model c T p) (step_shape w.model c S s) S' (sym (steps_shape-Then w.model c S s p) ∙ ap (steps_shape w.model c S) (sym e) ∙ R.typed) in
    let after-is : after w.model c S s ≡ t.0 = ap (λ o. unwrap_or o S) t.1 in
    let first : StepRuns w c S t.0 s l = record { customs = R.customs; lawful = R.lawful; typed = t.1; fit = R.fit } in
    record {
      between = t.0;
      first = first;
      next = λ r L m. record { customs = R.customs; lawful = step-lawful w c S t.0 s l first; typed = t.2; fit = step-fits w c S t.0 s l r L first m };
      meaning = ap (λ P. mean w c S P l) e ∙ mean-Then w c S s p l ∙ ap (λ T. option_and_then (mean w c T p) (step_mean w c S s l)) after-is;
    }

-- a refusal of a part is one of the whole
pub gives-err : (e : Refused) (m m' : Outcome) → Gives (Err e) m → (m ≡ None → m' ≡ None) → Gives (Err e) m'
gives-err Range m m' h k = k h
gives-err Memory m m' h k = tt

-- the next transformation of a pipeline in the program
pub next-step : (ss : List code.Step) (i : ℕ) (d : code.Step) → i < length ss → d ≡ get_or ss i d → pipe (map step_of (drop i ss)) ≡ Pipe.Then (step_of d) (pipe (map step_of (drop (i + 1) ss)))
next-step ss i d h e =
    ap (λ t. pipe (map step_of t)) (drop-cons ss i d h)
    ∙ ap (λ x. Pipe.Then (step_of x) (pipe (map step_of (drop (suc i) ss)))) (sym e)
    ∙ ap (λ n. Pipe.Then (step_of d) (pipe (map step_of (drop n ss)))) (sym (add-one i))

-- all transformations of a pipeline pass where each of the program's does
pub steps-all : (q : Step → Bool) (ss : List code.Step) → list_all (λ s. q (step_of s)) ss ≡ all_steps q (pipe (map step_of ss))
steps-all q [] = refl
steps-all q (s ∷ ss) = ap (λ b. q (step_of s) && b) (steps-all q ss)

-- the next one
pub steps-here : (q : Step → Bool) (ss : List code.Step) (i : ℕ) (d : code.Step) → i < length ss → d ≡ get_or ss i d → all_steps q (pipe (map step_of (drop i ss))) ≡ true → q (step_of d) ≡ true
steps-here q ss i d h e b = (and_parts (q (step_of d)) _ (sym (ap (all_steps q) (next-step ss i d h e)) ∙ b)).0

-- and those after it
pub steps-next : (q : Step → Bool) (ss : List code.Step) (i : ℕ) (d : code.Step) → i < length ss → d ≡ get_or ss i d → all_steps q (pipe (map step_of (drop i ss))) ≡ true → all_steps q (pipe (map step_of (drop (i + 1) ss))) ≡ true
steps-next q ss i d h e b = (and_parts (q (step_of d)) _ (sym (ap (all_steps q) (next-step ss i d h e)) ∙ b)).1

-- ---- the instances of a set

-- a typed pipeline runs on the instances of its entity set
pub typed-runs : (w : World) (c : Customs) (t : Typed) (l : List Instance) → IsLoaded w → IsTrue (customs_typed w.model c) → IsTyping w.model c t → IsSet w.model t.set
    → l ≡ rows w t.set → Runs w c (shape_of_set w.model t.set) t.shape (pipe_of t.pipe) l
typed-runs w c t l L customs P h e = record {
  customs = customs;
  lawful = own_is_lawful w.model (set_type w.model t.set);
  typed = P.1;
  fit = subst (AllFit w (shape_of_set w.model t.set)) (sym e) (loaded-rows w t.set L h);
}
