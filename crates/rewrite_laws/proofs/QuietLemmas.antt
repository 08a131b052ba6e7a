-- What a rule that moves a filter does to quiet: runs of filters, a filter that passes a step, and one that a step takes in.
use Rattle.std.proofs.Common.{◌≡◌, refl, sym, ◌∙◌, ap, Bool, true, false, ◌&&◌, List, [], ◌∷◌, ◌++◌, Some, IsTrue}
use Rattle.std.proofs.Math.Bool.{and_assoc, and-true}
use Rattle.std.proofs.lemmas.Bool.{and_parts}
use Rattle.std.specs.Prelude.{option_and_then, option_map, find, unwrap_or}
use Rattle.std.specs.Bool.{then_some}
use Rattle.std.specs.List.{list_all}
use Rattle.edm_data.specs.Worlds.{World}
use Rattle.edm_model.specs.Models.{Model}
use Rattle.edm_values.specs.Literals.{is_boolean_kind}
use Rattle.edm_values.proofs.OptionFacts.{mapped, chained, some_value, if_else-parts}
use Rattle.apply_ast.specs.Trees.{Expr, OptPipe, Pipe, Step, steps, pipe, is_long}
use Rattle.context_typing.specs.Shapes.{Shape}
use Rattle.context_typing.specs.Typing.{Customs, after, has_kind, is_sure, is_lawful, customs_typed, is_quiet, step_quiet, inner_quiet, steps_shape, step_shape, inner_shape}
use Rattle.context_typing.proofs.WalkFacts.{pipe-steps}
use Rattle.rewrite_laws.specs.Rewrites.{Rule, movable, behind, passing, ended, ended_inner, pipe_or_identity}
use Rattle.rewrite_laws.proofs.RuleLemmas.{filters, pipe-filters, movable-found, after-filter, filters-typed}

-- what a rule makes of typed steps at the place itself is quiet where they are
abbrev pub KeepsQuietInPlace : Rule → Type 0
KeepsQuietInPlace r =
    (m : Model) (c : Customs) (S S' : Shape) (before : Bool) (s : Step) (ss ss' : List Step) → IsTrue (customs_typed m c) → IsTrue (is_lawful m S)
    → steps_shape m c S (pipe (s ∷ ss)) ≡ Some S' → r m c S before s ss ≡ Some ss' → is_quiet m c S (pipe ss') ≡ is_quiet m c S (pipe (s ∷ ss))

-- the world without entities, over a model
abbrev pub bare : Model → World
bare m = record { model = m; entities = [] }

-- a step that leaves the shape
pub kept-shape : (b : Bool) (S : Shape) → unwrap_or (then_some b S) S ≡ S
kept-shape true S = refl
kept-shape false S = refl

module _ (m : Model) (c : Customs) where
  -- ---- a filter, and filters in a row

  pub quiet-filter : (S : Shape) (b : Expr) (p : Pipe) → is_quiet m c S (Pipe.Then (Step.Filter b) p) ≡ (is_sure m S b && is_quiet m c S p)
  unfolding is_quiet
  quiet-filter S b p = ap (λ Z. is_sure m S b && is_quiet m c Z p) (after-filter m c S b)

  quiet-filters : (S : Shape) (es : List Expr) (p : Pipe) → is_quiet m c S (filters es p) ≡ (list_all (is_sure m S) es && is_quiet m c S p)
  quiet-filters S [] p = refl
  quiet-filters S (e ∷ es) p =
      quiet-filter S e (filters es p) ∙ ap (λ z. is_sure m S e && z) (quiet-filters S es p) ∙ sym (and_assoc (is_sure m S e) (list_all (is_sure m S) es) (is_quiet m c S p))

  -- ---- one more step

  quiet-append : (S T : Shape) (ss ts : List Step) → steps_shape m c S (pipe ss) ≡ Some T → is_quiet m c S (pipe (ss ++ ts)) ≡ (is_quiet m c S (pipe ss) && is_quiet m c T (pipe ts))
  unfolding steps_shape is_quiet
  quiet-append S T [] ts e = ap (λ S. is_quiet m c S (pipe ts)) (some_value e)
  quiet-append S T (s ∷ ss) ts e =
      let x = chained (λ T. steps_shape m c T (pipe ss)) (step_shape m c S s) T e in
      let next : after m c S s ≡ x.0 = ap (λ o. unwrap_or o S) x.1 in
      ap (λ A. step_quiet m c S s && is_quiet m c A (pipe (ss ++ ts))) next
      ∙ ap (λ b. step_quiet m c S s && b) (quiet-append x.0 T ss ts x.2)
      ∙ sym (and_assoc (step_quiet m c S s) (is_quiet m c x.0 (pipe ss)) (is_quiet m c T (pipe ts)))
      ∙ ap (λ A. (step_quiet m c S s && is_quiet m c A (pipe ss)) && is_quiet m c T (pipe ts)) (sym next)

  pub quiet-more : (S T : Shape) (ss : List Step) (s : Step) → steps_shape m c S (pipe ss) ≡ Some T → is_quiet m c S (pipe (ss ++ s ∷ [])) ≡ (is_quiet m c S (pipe ss) && step_quiet m c T s)
  unfolding is_quiet
  quiet-more S T ss s e = quiet-append S T ss (s ∷ []) e ∙ ap (λ b. is_quiet m c S (pipe ss) && b) (and-true (step_quiet m c T s))

  pub quiet-ended : (S T : Shape) (p : Pipe) (s : Step) → steps_shape m c S p ≡ Some T → is_quiet m c S (ended p s) ≡ (is_quiet m c S p && step_quiet m c T s)
  quiet-ended S T p s e = quiet-more S T (steps p) s (ap (steps_shape m c S) (pipe-steps p) ∙ e) ∙ ap (λ q. is_quiet m c S q && step_quiet m c T s) (pipe-steps p)

  pub quiet-ended_inner : (S R : Shape) (T : OptPipe) (b : Expr) → inner_shape m c S S T ≡ Some R → inner_quiet m c S (ended_inner T (Step.Filter b)) ≡ (inner_quiet m c S T && is_sure m R b)
  unfolding steps_shape is_quiet
  quiet-ended_inner S R OptPipe.NoPipe b e = and-true (is_sure m S b) ∙ ap (λ Z. is_sure m Z b) (some_value e)
  quiet-ended_inner S R (OptPipe.SomePipe p) b e = quiet-ended S R p (Step.Filter b) (if_else-parts (is_long p) (steps_shape m c S p) R e).1

  -- steps, or identity where there are none
  pub quiet-identity : (S : Shape) (ss : List Step) → is_quiet m c S (pipe_or_identity ss) ≡ is_quiet m c S (pipe ss)
  unfolding is_quiet
  quiet-identity S [] = refl
  quiet-identity S (s ∷ ss) = refl

  -- ---- a filter that passes a step

  passed : (x a s q : Bool) → (s && (x && (a && q))) ≡ (x && (a && (s && q)))
  passed x a true q = refl
  passed true true false q = refl
  passed true false false q = refl
  passed false a false q = refl

  pub passing-keeps_quiet : (S T : Shape) (x : Step) (ss ss' : List Step) (test : Expr → Bool) → passing m T test x ss ≡ Some ss'
      → ((b : Expr) → test b ≡ true → is_sure m S b ≡ is_sure m (after m c S x) b) → is_quiet m c S (pipe ss') ≡ is_quiet m c S (pipe (x ∷ ss))
  unfolding is_quiet
  passing-keeps_quiet S T x ss ss' test got same =
      let t = mapped (λ r. Step.Filter r.last ∷ behind x r) (find (λ r. test r.last) (movable m T ss)) ss' got in
      let r = movable-found m T test ss t.0 t.1 in
      let from = ap pipe r.whole ∙ pipe-filters (t.0).between (Step.Filter (t.0).last ∷ (t.0).rest) in
      let into : pipe ss' ≡ Pipe.Then (Step.Filter (t.0).last) (Pipe.Then x (filters (t.0).between (pipe (t.0).rest))) =
      sym (ap pipe t.2) ∙ ap (λ p. Pipe.Then (Step.Filter (t.0).last) (Pipe.Then x p)) (pipe-filters (t.0).between (t.0).rest) in
      ap (is_quiet m c S) into
      ∙ moved (t.0).between (t.0).last (pipe (t.0).rest) (same (t.0).last r.tested)
      ∙ sym (ap (λ p. is_quiet m c S (Pipe.Then x p)) from)
    where
      moved : (es : List Expr) (b : Expr) (p : Pipe) → is_sure m S b ≡ is_sure m (after m c S x) b
          → is_quiet m c S (Pipe.Then (Step.Filter b) (Pipe.Then x (filters es p))) ≡ is_quiet m c S (Pipe.Then x (filters es (Pipe.Then (Step.Filter b) p)))
      moved es b p h =
          let A = after m c S x in
          quiet-filter S b (Pipe.Then x (filters es p))
          ∙ ap (λ z. is_sure m S b && (step_quiet m c S x && z)) (quiet-filters A es p)
          ∙ passed (step_quiet m c S x) (list_all (is_sure m A) es) (is_sure m S b) (is_quiet m c A p)
          ∙ ap (λ z. step_quiet m c S x && (list_all (is_sure m A) es && (z && is_quiet m c A p))) h
          ∙ sym (ap (λ z. step_quiet m c S x && z) (quiet-filters A es (Pipe.Then (Step.Filter b) p) ∙ ap (λ z. list_all (is_sure m A) es && z) (quiet-filter A b p)))

  -- ---- a filter that a step takes in

  taken : (x a s q : Bool) → ((x && s) && (a && q)) ≡ (x && (a && (s && q)))
  taken true a true q = refl
  taken true true false q = refl
  taken true false false q = refl
  taken false a s q = refl

  pub taking-keeps_quiet : (S S1 S' T : Shape) (x : Step) (ss ss' : List Step) (test : Expr → Bool) (into : Expr → Step) → step_shape m c S x ≡ Some S1 → steps_shape m c S (pipe (x ∷ ss)) ≡ Some S'
      → option_map (λ r. behind (into r.last) r) (find (λ r. test r.last) (movable m T ss)) ≡ Some ss'
      → ((b : Expr) → test b ≡ true → has_kind is_boolean_kind m S1 b ≡ true → (step_shape m c S (into b) ≡ Some S1) × (step_quiet m c S (into b) ≡ (step_quiet m c S x && is_sure m S1 b)))
      → is_quiet m c S (pipe ss') ≡ is_quiet m c S (pipe (x ∷ ss))
  unfolding is_quiet steps_shape
  taking-keeps_quiet S S1 S' T x ss ss' test into e typed got h =
      let t = mapped (λ r. behind (into r.last) r) (find (λ r. test r.last) (movable m T ss)) ss' got in
      let r = movable-found m T test ss t.0 t.1 in
      let from = ap pipe r.whole ∙ pipe-filters (t.0).between (Step.Filter (t.0).last ∷ (t.0).rest) in
      let to : pipe ss' ≡ Pipe.Then (into (t.0).last) (filters (t.0).between (pipe (t.0).rest)) =
      sym (ap pipe t.2) ∙ ap (λ p. Pipe.Then (into (t.0).last) p) (pipe-filters (t.0).between (t.0).rest) in
      let behind_x = sym (ap (option_and_then (λ Z. steps_shape m c Z (pipe ss))) e) ∙ typed in
      let f = filters-typed m c S1 S' (t.0).between (Pipe.Then (Step.Filter (t.0).last) (pipe (t.0).rest)) (sym (ap (steps_shape m c S1) from) ∙ behind_x) in
      let u = filters-typed m c S1 S' ((t.0).last ∷ []) (pipe (t.0).rest) f.1 in
      let g = h (t.0).last r.tested (and_parts (has_kind is_boolean_kind m S1 (t.0).last) _ u.0).0 in
      ap (is_quiet m c S) to
      ∙ inside (into (t.0).last) (t.0).between (t.0).last (pipe (t.0).rest) g.0 g.1
      ∙ sym (ap (λ p. is_quiet m c S (Pipe.Then x p)) from)
    where
      inside : (x' : Step) (es : List Expr) (b : Expr) (p : Pipe) → step_shape m c S x' ≡ Some S1 → step_quiet m c S x' ≡ (step_quiet m c S x && is_sure m S1 b)
          → is_quiet m c S (Pipe.Then x' (filters es p)) ≡ is_quiet m c S (Pipe.Then x (filters es (Pipe.Then (Step.Filter b) p)))
      inside x' es b p k q =
          (λ i. q i && is_quiet m c (unwrap_or (k i) S) (filters es p))
          ∙ ap (λ z. (step_quiet m c S x && is_sure m S1 b) && z) (quiet-filters S1 es p)
          ∙ taken (step_quiet m c S x) (list_all (is_sure m S1) es) (is_sure m S1 b) (is_quiet m c S1 p)
          ∙ sym (ap (λ z. step_quiet m c S x && z) (quiet-filters S1 es (Pipe.Then (Step.Filter b) p) ∙ ap (λ z. list_all (is_sure m S1) es && z) (quiet-filter S1 b p)))
          ∙ sym (ap (λ o. step_quiet m c S x && is_quiet m c (unwrap_or o S) (filters es (Pipe.Then (Step.Filter b) p))) e)
