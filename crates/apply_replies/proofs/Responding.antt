-- From the response that was made to the response to a request.
use Rattle.std.proofs.Common.{◌≡◌, ◌∙◌, ℕ, ◌+◌, ◌≤◌, Bool, false, true, List, None, Some, Ok, Err, IfOk, arith, refl, sym, ap, ap₂, subst}
use Rattle.std.specs.Prelude.{option_and_then}
use Rattle.std.specs.declared.option.Option.{Option}
use Rattle.std.specs.Global.{Vec}
use Rattle.std.specs.declared.result.Result.{Result}
use Rattle.edm_values.specs.declared.refusals.Refused.{Refused}
use Rattle.edm_values.specs.declared.refusals.Refused.TheVariants as refusal
use Rattle.line_stream.specs.Outputs.{bytes_of}
use Rattle.line_stream.specs.declared.output.Output.{Output}
use Rattle.edm_model.specs.Models.{Model}
use Rattle.edm_model.specs.LookUps.{set_name, set_named}
use Rattle.edm_data.specs.Worlds.{World, Entity}
use Rattle.apply_ast.specs.Trees.{Pipe}
use Rattle.apply_ast.specs.Printing.{print}
use Rattle.apply_ast.specs.Views.{pipe_of}
use Rattle.apply_grammar.specs.Requests.{Asked}
use Rattle.context_typing.specs.Answers.{IsTyping}
use Rattle.context_typing.specs.Readings.{readings}
use Rattle.context_typing.specs.Shapes.{Shape}
use Rattle.context_typing.specs.Typing.{Customs, Types, IsUntypedAt, shape_of_set}
use Rattle.context_typing.specs.declared.customs.TypedCustom.{TypedCustom}
use Rattle.context_typing.specs.declared.typed.Typed.{Typed}
use Rattle.hier_states.specs.NamedHierarchies.{hierarchies}
use Rattle.hier_states.specs.States.{first_cycle}
use Rattle.apply_meaning.specs.Instances.{Instance, rows}
use Rattle.apply_meaning.specs.Meaning.{mean}
use Rattle.json_render.specs.Bodies.{body}
use Rattle.optimiser.specs.Plans.{AreOneTyping, IsPlan, own_of, written_of}
use Rattle.optimiser.specs.declared.plans.Plan.{Plan}
use Rattle.step_run.specs.Costs.{total_cost}
use Rattle.rewrite_laws.specs.Rewrites.{IsPlanOf}
use Rattle.apply_replies.specs.Costs.{BoundsRequest, IsRunFor}
use Rattle.apply_replies.specs.Replies.{IsOfBody, IsResponse, IsTyped, answer, answer_body, plan, range}
use Rattle.apply_replies.specs.Responses.{answered, plan_body}

-- a response with other bytes that are the same
pub respond : (w : World) (cs : Customs) (asked : Asked) (bytes r : List ℕ) → IsResponse w cs asked r → bytes ≡ r → IsResponse w cs asked bytes
respond w cs asked bytes r h e = subst (IsResponse w cs asked) (sym e) h

-- the same of an output that was made
pub respond-made : {E : Type 0} (made : Result Output E) (w : World) (cs : Customs) (asked : Asked) (r : List ℕ) → IsResponse w cs asked r → IfOk made (λ x. bytes_of x ≡ r) → IfOk made (λ x. IsResponse w cs asked (bytes_of x))
respond-made (Ok x) w cs asked r h e = respond w cs asked (bytes_of x) r h e
respond-made (Err x) w cs asked r h e = tt

-- the first cycle of the pipeline that was asked is that of the pipeline that was typed
pub cycle-asked : (v w : World) (p q : Pipe) (found : Option Entity) → v ≡ w → p ≡ q → found ≡ first_cycle v (hierarchies p) → first_cycle w (hierarchies q) ≡ found
cycle-asked v w p q found same pipe e = sym (e ∙ ap₂ (λ (x : World) (y : Pipe). first_cycle x (hierarchies y)) same pipe)

-- the text of the plan was told
pub respond-plan : {E : Type 0} (made : Result Output E) (w : World) (cs : Customs) (asked : Asked) (t : Typed) (s : Shape) → IsTyped w cs asked t.set s → asked.0 ≡ true → pipe_of t.pipe ≡ asked.2
    → IfOk made (λ x. (q : Pipe) × IsPlanOf w.model cs (shape_of_set w.model t.set) (pipe_of t.pipe) q × (bytes_of x ≡ answered (plan_body (print q)))) → IfOk made (λ x. IsResponse w cs asked (bytes_of x))
respond-plan (Ok x) w cs asked t s typed asks pipe h =
    let P : Pipe → Type 0 = λ p. IsPlanOf w.model cs (shape_of_set w.model t.set) p h.0 in
    respond w cs asked (bytes_of x) (answered (plan_body (print h.0))) (plan t.set s h.0 typed asks (subst P pipe h.1)) h.2
respond-plan (Err x) w cs asked t s typed asks pipe h = tt

-- the plan's text was printed
pub told-plan : {E : Type 0} (made : Result Output E) (P : Pipe → Type 0) (q : Pipe) (text : List ℕ) → P q → text ≡ print q → IfOk made (λ x. bytes_of x ≡ answered (plan_body text))
    → IfOk made (λ x. (q : Pipe) × P q × (bytes_of x ≡ answered (plan_body (print q))))
told-plan (Ok x) P q text h e k = (q, h, k ∙ ap (λ t. answered (plan_body t)) e)
told-plan (Err x) P q text h e k = tt

-- what is answered of a typed pipeline, by a typing that is one with it
pub one-body : (w : World) (cs : Customs) (t u : Typed) (p : Pipe) → AreOneTyping u t → pipe_of t.pipe ≡ p → answer_body w cs t.set p t.shape ≡ answer_body w cs u.set (pipe_of u.pipe) u.shape
one-body w cs t u p one pipe =
    ap (λ n. answer_body w cs n p t.shape) (sym one.set) ∙ ap (λ x. answer_body w cs u.set x t.shape) (sym (one.pipe ∙ pipe)) ∙ ap (answer_body w cs u.set (pipe_of u.pipe)) (sym one.shape)

-- the response of a run, over what was asked
pub respond-run : {E : Type 0} (made : Result Output E) (ran : Result (Vec ℕ) Refused) (w : World) (cs : Customs) (asked : Asked) (set : ℕ) (s : Shape) (body : Option (List ℕ)) → IsTyped w cs asked set s → asked.0 ≡ false → first_cycle w (hierarchies asked.2) ≡ None
    → answer_body w cs set asked.2 s ≡ body → IfOk ran (λ b. body ≡ Some b.items) → (ran ≡ Err refusal.Range → body ≡ None) → IfOk made (λ x. IsOfBody ran (bytes_of x)) → IfOk made (λ x. IsResponse w cs asked (bytes_of x))
respond-run (Ok x) (Ok b) w cs asked set s body typed plain no_cycle means some none h = respond w cs asked (bytes_of x) _ (answer set s b.items typed plain no_cycle (means ∙ some)) h
respond-run (Ok x) (Err refusal.Range) w cs asked set s body typed plain no_cycle means some none h = respond w cs asked (bytes_of x) _ (range set s typed plain no_cycle (means ∙ none refl)) h
respond-run (Ok x) (Err refusal.Memory) w cs asked set s body typed plain no_cycle means some none h = absurd h
respond-run (Err x) ran w cs asked set s body typed plain no_cycle means some none h = tt

-- the body of the rows that a plan gives
pub body-of_plan : (w : World) (cs : Customs) (x : Plan) (t : Typed) (l : List Instance) (b : Option (List ℕ)) → IsPlan w.model cs x → t ≡ own_of x
    → mean w cs (shape_of_set w.model (written_of x).set) (pipe_of (written_of x).pipe) (rows w (written_of x).set) ≡ Some l → body w (set_name w.model t.set) t.shape l ≡ b
    → answer_body w cs (written_of x).set (pipe_of (written_of x).pipe) (written_of x).shape ≡ b
body-of_plan w cs x t l b P own means made =
    ap (option_and_then (body w (set_name w.model (written_of x).set) (written_of x).shape)) means
    ∙ ap (λ n. body w (set_name w.model n) (written_of x).shape l) (sym (ap (λ (t : Typed). t.set) own ∙ P.set))
    ∙ ap (λ S. body w (set_name w.model t.set) S l) (sym (ap (λ (t : Typed). t.shape) own ∙ P.shape))
    ∙ made

-- the meaning of the pipeline that was written is refused
pub refused-of_plan : (w : World) (cs : Customs) (t : Typed) → mean w cs (shape_of_set w.model t.set) (pipe_of t.pipe) (rows w t.set) ≡ None → answer_body w cs t.set (pipe_of t.pipe) t.shape ≡ None
refused-of_plan w cs t means = ap (option_and_then (body w (set_name w.model t.set) t.shape)) means

-- a plan was run whose cost the request has
pub run-within : (optimised : Bool) (w : World) (cs : Customs) (asked : Asked) (s : Shape) (t : Typed) (x : Plan) (old new : ℕ) → IsTyped w cs asked t.set s → asked.0 ≡ false
    → first_cycle w (hierarchies asked.2) ≡ None → pipe_of t.pipe ≡ asked.2 → IsPlan w.model cs x → AreOneTyping (written_of x) t
    → IsRunFor optimised w.model cs (shape_of_set w.model t.set) (pipe_of t.pipe) (pipe_of (own_of x).pipe) → new ≤ old + total_cost w cs (own_of x).set (pipe_of (own_of x).pipe)
    → (n : ℕ) → BoundsRequest optimised w cs asked n → new ≤ old + n
run-within optimised w cs asked s t x old new typed plain no_cycle same P one runs risen n bounds =
    let R : Pipe → Type 0 = λ p. IsRunFor optimised w.model cs (shape_of_set w.model t.set) p (pipe_of (own_of x).pipe) in
    let bound = bounds t.set s (pipe_of (own_of x).pipe) typed plain no_cycle (subst R same runs) in
    let cost = ap (λ n. total_cost w cs n (pipe_of (own_of x).pipe)) (P.set ∙ one.set) in
    omega (arith, risen, bound, cost)

module _ (w : World) (asked : Asked) (set : ℕ) (m : Model) (c d : List TypedCustom) (same : m ≡ w.model) (are : c ≡ d) where
  -- a pipeline that was typed
  pub typed-over : (t : Typed) → set_named w.model asked.1 ≡ Some set → t.set ≡ set → pipe_of t.pipe ≡ asked.2 → IsTyping m (readings c) t → (s : Shape) × IsTyped w (readings d) asked set s
  typed-over t finds here pipe typing =
      let P : Model → Type 0 = λ n. Types n (readings c) (shape_of_set n t.set) (pipe_of t.pipe) t.shape in
      let Q : List TypedCustom → Type 0 = λ l. Types w.model (readings l) (shape_of_set w.model t.set) (pipe_of t.pipe) t.shape in
      let R : ℕ → Type 0 = λ n. Types w.model (readings d) (shape_of_set w.model n) (pipe_of t.pipe) t.shape in
      let S : Pipe → Type 0 = λ p. Types w.model (readings d) (shape_of_set w.model set) p t.shape in
      (t.shape, record { finds = finds; types = subst S pipe (subst R here (subst Q are (subst P same typing))) })

  -- one that has no typing
  pub untyped-over : (k : ℕ) → IsUntypedAt m (readings c) (shape_of_set m set) asked.2 k → IsUntypedAt w.model (readings d) (shape_of_set w.model set) asked.2 k
  untyped-over k h =
      let P : Model → Type 0 = λ n. IsUntypedAt n (readings c) (shape_of_set n set) asked.2 k in
      let Q : List TypedCustom → Type 0 = λ l. IsUntypedAt w.model (readings l) (shape_of_set w.model set) asked.2 k in
      subst Q are (subst P same h)
