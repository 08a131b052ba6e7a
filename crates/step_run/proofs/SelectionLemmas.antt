-- What is typed as a selection has values that it can be made by.
use Rattle.std.proofs.Common.{◌≡◌, sym, ◌∙◌, true, List}
use Rattle.std.specs.Prelude.{nat_le}
use Rattle.std.proofs.lemmas.Bool.{and_parts, leb-true}
use Rattle.edm_values.proofs.ListFacts.{all-map}
use Rattle.edm_values.proofs.OptionFacts.{some_and, then_some-parts}
use Rattle.edm_values.specs.Literals.{AreNumbers, is_number_kind, is_of_kind}
use Rattle.edm_data.specs.Worlds.{World}
use Rattle.apply_ast.specs.Trees.{Expr, Limit, NumberLiteral, Step, TopStep, is_dec_literal, is_int_literal}
use Rattle.context_typing.proofs.TypingEquations.{step_shape-TopBy}
use Rattle.context_typing.specs.Shapes.{Shape}
use Rattle.context_typing.specs.Typing.{Customs, expr_kind, has_kind, top_typed}
use Rattle.apply_meaning.proofs.MeaningProved.{loaded-values}
use Rattle.apply_meaning.specs.Instances.{Instance, fits, val}
use Rattle.apply_meaning.specs.Meaning.{values}
use Rattle.apply_meaning.specs.MeaningLaws.{AllFit, IsLoaded}
use Rattle.apply_meaning.specs.Running.{StepRuns}
use Rattle.step_run.specs.Conditions.{LimitReady}

-- the values of an expression that is typed as a number are of one type of numbers
number-values : (w : World) (S : Shape) (e : Expr) (l : List Instance) → IsLoaded w → has_kind is_number_kind w.model S e ≡ true → AllFit w S l → AreNumbers (values w e l)
number-values w S e l L h fit =
    let k = some_and is_number_kind (expr_kind w.model S e) h in
    (k.0, k.2, all-map (fits w S) (is_of_kind k.0) (λ i. val w i e) l fit (λ i f. loaded-values w S e k.0 i L k.1 f))

limit-values : (w : World) (S : Shape) (limit : Limit) (e : Expr) (l : List Instance) → IsLoaded w → top_typed w.model S limit e ≡ true → AllFit w S l → LimitReady limit (values w e l)
limit-values w S (Limit.Count n) e l L h fit = tt
limit-values w S (Limit.Sum (NumberLiteral.Int n)) e l L h fit = number-values w S e l L (and_parts (is_int_literal n) _ h).1 fit
limit-values w S (Limit.Sum (NumberLiteral.Dec n s)) e l L h fit = number-values w S e l L (and_parts (is_dec_literal n s) _ h).1 fit
limit-values w S (Limit.Percent p) e l L h fit = let t = and_parts (nat_le p 100) _ h in (number-values w S e l L t.1 fit, leb-true p 100 t.0)

pub limit-ready : (w : World) (c : Customs) (S S' : Shape) (t : TopStep) (l : List Instance) → IsLoaded w → StepRuns w c S S' (Step.TopBy t) l → LimitReady t.limit (values w t.expr l)
limit-ready w c S S' t l L R = limit-values w S t.limit t.expr l L (then_some-parts (top_typed w.model S t.limit t.expr) S S' (sym (step_shape-TopBy w.model c S t) ∙ R.typed)).0 R.fit
