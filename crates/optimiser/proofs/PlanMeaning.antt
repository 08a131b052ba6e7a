-- What a plan runs may stand for what was written.
use Rattle.std.proofs.Common.{◌≡◌, ◌∙◌, ℕ, refl, sym, ap, subst, IsTrue, ◌⊎◌, inl, inr}
use Rattle.edm_model.specs.LookUps.{set_type}
use Rattle.edm_model.specs.Models.{Model}
use Rattle.edm_data.specs.Worlds.{World}
use Rattle.apply_ast.specs.Trees.{Pipe}
use Rattle.apply_ast.specs.Views.{pipe_of}
use Rattle.apply_meaning.specs.MeaningLaws.{IsLoaded}
use Rattle.context_typing.proofs.LawfulShapes.{own_is_lawful}
use Rattle.context_typing.specs.Answers.{IsTyping}
use Rattle.context_typing.specs.Shapes.{Shape}
use Rattle.context_typing.specs.Typing.{Customs, Types, customs_typed, shape_of_set, steps_shape}
use Rattle.context_typing.specs.declared.typed.Typed.{Typed}
use Rattle.rewrite_laws.proofs.OneMeaning.{loaded-plan}
use Rattle.rewrite_laws.specs.RewriteLaws.{MayStandFor}
use Rattle.rewrite_laws.specs.Rewrites.{IsPlanOf}
use Rattle.optimiser.specs.Plans.{AreOneTyping, IsOptimised, IsPlan, own_of, written_of}
use Rattle.optimiser.specs.declared.plans.Plan.{Plan}

-- a typed pipeline may stand for itself
stands-same : (A : World → Type 0) (m : Model) (c : Customs) (S S' : Shape) (p q : Pipe) → Types m c S p S' → q ≡ p → MayStandFor A m c S S' p q
stands-same A m c S S' p q typed e =
    let P : Pipe → Type 0 = λ x. MayStandFor A m c S S' p x in
    subst P (sym e) (record { typed = typed; names = λ h k. k; means = λ w e a l f. refl })

module _ (m : Model) (c : Customs) where
  -- the plan of a typed pipeline may stand for it
  pub plan-stands : (t : Typed) (q : Pipe) → IsTrue (customs_typed m c) → IsTyping m c t → IsPlanOf m c (shape_of_set m t.set) (pipe_of t.pipe) q → MayStandFor IsLoaded m c (shape_of_set m t.set) t.shape (pipe_of t.pipe) q
  plan-stands t q customs typing h =
      loaded-plan m c (shape_of_set m t.set) t.shape (pipe_of t.pipe) q (record { customs = customs; lawful = own_is_lawful m (set_type m t.set); typed = typing }) h

  -- what a plan runs may stand for what was written
  pub runs-for-written : (p : Plan) → IsTrue (customs_typed m c) → IsPlan m c p
      → MayStandFor IsLoaded m c (shape_of_set m (written_of p).set) (written_of p).shape (pipe_of (written_of p).pipe) (pipe_of (own_of p).pipe)
  runs-for-written p customs P = go P.pipe
    where
      go : (pipe_of (own_of p).pipe ≡ pipe_of (written_of p).pipe) ⊎ IsOptimised m c p
          → MayStandFor IsLoaded m c (shape_of_set m (written_of p).set) (written_of p).shape (pipe_of (written_of p).pipe) (pipe_of (own_of p).pipe)
      go (inl e) = stands-same IsLoaded m c (shape_of_set m (written_of p).set) (written_of p).shape (pipe_of (written_of p).pipe) (pipe_of (own_of p).pipe) P.typing e
      go (inr h) = plan-stands (written_of p) (pipe_of (own_of p).pipe) customs P.typing h

  -- typings that are one are typings over the same model
  pub typing-copied : (t u : Typed) → AreOneTyping u t → IsTyping m c t → IsTyping m c u
  typing-copied t u h typing =
      let P : Pipe → Type 0 = λ p. Types m c (shape_of_set m u.set) p u.shape in
      let Q : Shape → Type 0 = λ s. Types m c (shape_of_set m u.set) (pipe_of t.pipe) s in
      subst P (sym h.pipe) (subst Q (sym h.shape) (typing.0, ap (λ s. steps_shape m c (shape_of_set m s) (pipe_of t.pipe)) h.set ∙ typing.1))

  -- their plans are one
  pub plan-copied : (t u : Typed) (q : Pipe) → AreOneTyping u t → IsPlanOf m c (shape_of_set m u.set) (pipe_of u.pipe) q → IsPlanOf m c (shape_of_set m t.set) (pipe_of t.pipe) q
  plan-copied t u q h k =
      let P : ℕ → Type 0 = λ n. IsPlanOf m c (shape_of_set m n) (pipe_of u.pipe) q in
      let Q : Pipe → Type 0 = λ p. IsPlanOf m c (shape_of_set m t.set) p q in
      subst Q h.pipe (subst P h.set k)

-- the other way round
pub one-back : (t u : Typed) → AreOneTyping t u → AreOneTyping u t
one-back t u h = record { set = sym h.set; pipe = sym h.pipe; shape = sym h.shape }
