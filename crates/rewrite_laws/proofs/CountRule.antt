-- Two counts from the top by one expression are the lesser count.
use Rattle.std.proofs.Common.{◌≡◌, ℕ, zero, suc, min, ◌≤◌, refl, sym, ◌∙◌, ap, subst, Bool, true, false, ◌&&◌, ◌||◌, List, [], ◌∷◌, map, filter, length, take, Option, Some, None, IsTrue, if◌then◌else◌, arith}
use Rattle.std.specs.Prelude.{nat_le, slice_get, option_and_then, option_map, unwrap_or}
use Rattle.std.specs.Bool.{then_some}
use Rattle.std.specs.List.{list_any, cons_option}
use Rattle.std.proofs.lemmas.Bool.{and_parts, and_from, or_right, or_parts, or_from, leb-true, le-leb}
use Rattle.edm_values.specs.Lists.{at_places, places}
use Rattle.edm_values.specs.Values.{is_beyond, ranked, integer_max}
use Rattle.edm_values.proofs.OptionFacts.{none_or, some_value, chained, then_some-parts}
use Rattle.edm_values.proofs.TopPlaces.{among, taken-count, top, top-top}
use Rattle.edm_data.specs.Worlds.{World}
use Rattle.apply_ast.specs.Trees.{Expr, Limit, Pipe, Step, pipe, is_long}
use Rattle.context_typing.specs.Shapes.{Shape}
use Rattle.context_typing.specs.Typing.{Customs, steps_shape, step_shape, is_typed}
use Rattle.apply_meaning.specs.Instances.{Instance, val}
use Rattle.apply_meaning.specs.Meaning.{Outcome, mean, step_mean, values}
use Rattle.rewrite_laws.specs.TreeEquality.{expr_same}
use Rattle.rewrite_laws.specs.Rewrites.{join_counts}
use Rattle.rewrite_laws.specs.RewriteLaws.{SameMeaning, KeepsMeaningInPlace}
use Rattle.rewrite_laws.proofs.RuleLemmas.{chain-assoc}
use Rattle.rewrite_laws.proofs.SameExpressions.{same-exprs}

-- the first n from the top
abbrev top_step : ℕ → Expr → Step
top_step n e = Step.TopBy (record { bottom = false; limit = Limit.Count n; expr = e })

-- refused where a value is Beyond, and else the first n by rank
abbrev first_by : World → ℕ → Expr → List Instance → Outcome
first_by w n e l = if list_any is_beyond (values w e l) then None else Some (top (λ i. val w i e) false n l)

top-first : (w : World) (c : Customs) (S : Shape) (n : ℕ) (e : Expr) (l : List Instance) → step_mean w c S (top_step n e) l ≡ first_by w n e l
unfolding mean
top-first w c S n e l =
    ap (λ ks. option_map (at_places l) (if list_any is_beyond (values w e l) then None else Some (filter (among ks) (places (length (values w e l)))))) (taken-count n false (values w e l))
    ∙ go (list_any is_beyond (values w e l))
  where
    go : (b : Bool) → option_map (at_places l) (if b then None else Some (filter (among (take n (ranked false (values w e l)))) (places (length (values w e l)))))
        ≡ (if b then None else Some (top (λ i. val w i e) false n l))
    go true = refl
    go false = refl

-- what holds of no element holds of none at some places
none-at : {X Y : Type 0} (q : Y → Bool) (f : X → Y) (l : List X) (k : ℕ) (x : X) → list_any q (map f l) ≡ false → slice_get l k ≡ Some x → q (f x) ≡ false
none-at q f [] k x h e = none_or x e
none-at q f (y ∷ l) zero x h e = ap (λ z. q (f z)) (sym (some_value e)) ∙ (or_parts (q (f y)) _ h).0
none-at q f (y ∷ l) (suc k) x h e = none-at q f l k x (or_parts (q (f y)) _ h).1 e

none-at_places : {X Y : Type 0} (q : Y → Bool) (f : X → Y) (l : List X) (ks : List ℕ) → list_any q (map f l) ≡ false → list_any q (map f (at_places l ks)) ≡ false
none-at_places q f l [] h = refl
none-at_places {X} q f l (k ∷ ks) h = go (slice_get l k) refl (none-at_places q f l ks h)
  where
    go : (o : Option X) → slice_get l k ≡ o → list_any q (map f (at_places l ks)) ≡ false → list_any q (map f (cons_option o (at_places l ks))) ≡ false
    go None e g = g
    go (Some x) e g = or_from _ _ (none-at q f l k x h e) g

-- a selection from a selection
first-first : (w : World) (m n : ℕ) (e : Expr) (l : List Instance) → option_and_then (first_by w m e) (first_by w n e l) ≡ first_by w (min n m) e l
first-first w m n e l = go (list_any is_beyond (values w e l)) refl
  where
    go : (b : Bool) → list_any is_beyond (values w e l) ≡ b → option_and_then (first_by w m e) (if b then None else Some (top (λ i. val w i e) false n l)) ≡ (if b then None else Some (top (λ i. val w i e) false (min n m) l))
    go true q = refl
    go false q = ap (λ b. if b then None else Some (top (λ i. val w i e) false m (top (λ i. val w i e) false n l))) (none-at_places is_beyond (λ i. val w i e) l (filter (among (take n (ranked false (values w e l)))) (places (length (values w e l)))) q) ∙ ap (λ z. Some z) (top-top (λ i. val w i e) false m n l)

count-typed : (w : World) (c : Customs) (S S1 : Shape) (n : ℕ) (e : Expr) → step_shape w.model c S (top_step n e) ≡ Some S1 → (nat_le n integer_max ≡ true) × (is_typed w.model S e ≡ true) × (S ≡ S1)
unfolding steps_shape
count-typed w c S S1 n e h =
    let t = then_some-parts (nat_le n integer_max && is_typed w.model S e) S S1 h in
    let p = and_parts (nat_le n integer_max) _ t.0 in
    (p.0, p.1, t.1)

least-typed : (m n k : ℕ) → nat_le m k ≡ true → nat_le (min m n) k ≡ true
least-typed m n k h = let l = leb-true m k h in let g : min m n ≤ k = omega arith in le-leb (min m n) k g

-- the lesser count is typed and means the same
lesser-same : (A : World → Type 0) (w : World) (c : Customs) (S S' : Shape) (n m : ℕ) (e : Expr) (p : Pipe) → steps_shape w.model c S (Pipe.Then (top_step n e) (Pipe.Then (top_step m e) p)) ≡ Some S'
    → SameMeaning A w c S (Pipe.Then (top_step n e) (Pipe.Then (top_step m e) p)) (Pipe.Then (top_step (min n m) e) p)
unfolding mean steps_shape
lesser-same A w c S S' n m e p h =
    let first = chained (λ T. steps_shape w.model c T (Pipe.Then (top_step m e) p)) (step_shape w.model c S (top_step n e)) S' h in
    let t = count-typed w c S first.0 n e first.1 in
    let h' : steps_shape w.model c S (Pipe.Then (top_step m e) p) ≡ Some S' = ap (λ T. steps_shape w.model c T (Pipe.Then (top_step m e) p)) t.2 ∙ first.2 in
    let second = chained (λ T. steps_shape w.model c T p) (step_shape w.model c S (top_step m e)) S' h' in
    let u = count-typed w c S second.0 m e second.1 in
    let e' : step_shape w.model c S (top_step (min n m) e) ≡ Some S = ap (λ b. then_some b S) (and_from _ _ (least-typed n m integer_max t.0) t.1) in (
      (λ x z. z),
      ap (option_and_then (λ T. steps_shape w.model c T p)) e' ∙ ap (λ T. steps_shape w.model c T p) u.2 ∙ second.2 ∙ sym h,
      λ a l f. sym (
          ap (λ T. option_and_then (λ r. mean w c T (Pipe.Then (top_step m e) p) r) (step_mean w c S (top_step n e) l)) (ap (λ o. unwrap_or o S) first.1 ∙ sym t.2)
          ∙ ap (λ T. option_and_then (λ r. option_and_then (mean w c T p) (step_mean w c S (top_step m e) r)) (step_mean w c S (top_step n e) l)) (ap (λ o. unwrap_or o S) second.1 ∙ sym u.2)
          ∙ chain-assoc (mean w c S p) (step_mean w c S (top_step m e)) (step_mean w c S (top_step n e) l)
          ∙ ap (option_and_then (mean w c S p)) (
          (λ i. option_and_then (λ r. top-first w c S m e r i) (top-first w c S n e l i)) ∙ first-first w m n e l ∙ sym (top-first w c S (min n m) e l))
          ∙ sym (ap (λ T. option_and_then (mean w c T p) (step_mean w c S (top_step (min n m) e) l)) (ap (λ o. unwrap_or o S) e'))),
    )

pub join_counts-keeps_meaning : (A : World → Type 0) → KeepsMeaningInPlace A join_counts
join_counts-keeps_meaning A w c S S' before (Step.TopBy t) (Step.TopBy u ∷ ss) ss' k law e got = go t.bottom t.limit u.bottom u.limit e got
  where
    step : Bool → Limit → Expr → Step
    step b l e = Step.TopBy (record { bottom = b; limit = l; expr = e })

    go : (b : Bool) (l : Limit) (b' : Bool) (l' : Limit) → steps_shape w.model c S (pipe (step b l t.expr ∷ step b' l' u.expr ∷ ss)) ≡ Some S' → join_counts w.model c S before (step b l t.expr) (step b' l' u.expr ∷ ss) ≡ Some ss'
        → IsTrue (before || is_long (pipe ss')) × SameMeaning A w c S (pipe (step b l t.expr ∷ step b' l' u.expr ∷ ss)) (pipe ss')
    go false (Limit.Count n) false (Limit.Count m) h g =
        let r = then_some-parts (expr_same t.expr u.expr) (top_step (min n m) t.expr ∷ ss) ss' g in
        let same = same-exprs t.expr u.expr r.0 in
        let K : List Step → Type 0 = λ z. IsTrue (before || is_long (pipe z)) × SameMeaning A w c S (pipe (top_step n t.expr ∷ top_step m u.expr ∷ ss)) (pipe z) in
        let M : Expr → Type 0 = λ x. SameMeaning A w c S (pipe (top_step n t.expr ∷ top_step m x ∷ ss)) (pipe (top_step (min n m) t.expr ∷ ss)) in
        let h' : steps_shape w.model c S (Pipe.Then (top_step n t.expr) (Pipe.Then (top_step m t.expr) (pipe ss))) ≡ Some S' = ap (λ x. steps_shape w.model c S (pipe (top_step n t.expr ∷ top_step m x ∷ ss))) same ∙ h in
        subst K r.1 (or_right before true refl, subst M same (lesser-same A w c S S' n m t.expr (pipe ss) h'))
    go b l b' l' h g = none_or ss' g
join_counts-keeps_meaning A w c S S' before s ss ss' k law e got = none_or ss' got
