-- What each rule makes, by the form of the step at its place.
use Rattle.std.proofs.Common.{◌≡◌, refl, sym, ◌∙◌, ap, arith, ℕ, min, ◌<◌, ◌-◌, Bool, true, false, List, [], ◌∷◌, Option, Some, None, drop, length, map, take}
use Rattle.std.specs.Prelude.{option_and_then, if◌then◌else◌}
use Rattle.std.specs.Bool.{then_some}
use Rattle.std.proofs.lemmas.List.{drop-map, length-drop, length-map, take_all}
use Rattle.edm_values.proofs.OptionFacts.{none_or, some_value}
use Rattle.edm_model.specs.Models.{Model}
use Rattle.apply_ast.specs.Trees.{Expr, Limit, Named, OrderItem, Step}
use Rattle.apply_ast.specs.declared.expressions.BinOp.TheVariants as BinOp
use Rattle.context_typing.specs.Shapes.{Shape}
use Rattle.context_typing.specs.Typing.{Customs, after, is_sure, order_sure}
use Rattle.rewrite_laws.specs.TreeEquality.{expr_same}
use Rattle.rewrite_laws.specs.Rewrites.{passing, split_conjunction, pass_compute, pass_order, drop_order, join_counts}
use Rattle.rewrite_forms.specs.Forms.{operands, computed_by, ordered_by, begins_with_filter, begins_with_aggregate, count_from_top, count_to, first_count}
use Rattle.rewrite_rules.specs.Conditions.{names_none}

-- a list is not empty where what it stands for is not
pub made-some : {X Y : Type 0} (f : X → Y) (xs : List X) (ys : List Y) → map f xs ≡ ys → 0 < length ys → 0 < length xs
made-some f xs ys e h =
    let n = length-map xs f in
    let k = ap length e in
    omega (arith, n, k, h)

-- steps that begin with an aggregation are not empty
pub begins-some : (ss : List Step) → begins_with_aggregate ss ≡ true → 0 < length ss
begins-some [] h = cc
begins-some (s ∷ ss) h = omega arith

-- the steps behind the first, as a slice has them
pub behind-first : {X : Type 0} (f : X → Step) (xs : List X) → map f (take (length xs - 1) (drop 1 xs)) ≡ drop 1 (map f xs)
behind-first f xs =
    let n = length-drop 1 xs in
    ap (map f) (take_all (length xs - 1) (drop 1 xs) (omega (arith, n))) ∙ sym (drop-map f 1 xs)

-- no filter behind a step passes it where none stands there
pub passing-none : (m : Model) (S : Shape) (test : Expr → Bool) (x : Step) (ss : List Step) → begins_with_filter ss ≡ false → passing m S test x ss ≡ None
passing-none m S test x [] h = refl
passing-none m S test x (Step.Filter b ∷ ss) h = cc
passing-none m S test x (s ∷ ss) h = refl

module _ (m : Model) (c : Customs) (S : Shape) (before : Bool) where
  pub split-form : (s : Step) (ss : List Step) → split_conjunction m c S before s ss ≡ option_and_then (λ x. then_some (is_sure m S x.1) (Step.Filter x.0 ∷ Step.Filter x.1 ∷ ss)) (operands s)
  split-form (Step.Filter (Expr.Binary BinOp.And a b)) ss = refl
  split-form (Step.Filter (Expr.Binary op a b)) ss = refl
  split-form (Step.Filter e) ss = refl
  split-form s ss = refl

  pub split-answer : (s : Step) (ss : List Step) (x : Expr × Expr) → operands s ≡ Some x → is_sure m S x.1 ≡ true → split_conjunction m c S before s ss ≡ Some (Step.Filter x.0 ∷ Step.Filter x.1 ∷ ss)
  split-answer s ss x e h = split-form s ss ∙ ap (option_and_then (λ x. then_some (is_sure m S x.1) (Step.Filter x.0 ∷ Step.Filter x.1 ∷ ss))) e ∙ ap (λ b. then_some b (Step.Filter x.0 ∷ Step.Filter x.1 ∷ ss)) h

  pub split-risky : (s : Step) (ss : List Step) (x : Expr × Expr) → operands s ≡ Some x → is_sure m S x.1 ≡ false → split_conjunction m c S before s ss ≡ None
  split-risky s ss x e h = split-form s ss ∙ ap (option_and_then (λ x. then_some (is_sure m S x.1) (Step.Filter x.0 ∷ Step.Filter x.1 ∷ ss))) e ∙ ap (λ b. then_some b (Step.Filter x.0 ∷ Step.Filter x.1 ∷ ss)) h

  pub split-none : (s : Step) (ss : List Step) → operands s ≡ None → split_conjunction m c S before s ss ≡ None
  split-none s ss e = split-form s ss ∙ ap (option_and_then (λ x. then_some (is_sure m S x.1) (Step.Filter x.0 ∷ Step.Filter x.1 ∷ ss))) e

  pub compute-form : (s : Step) (ss : List Step) (ns : List Named) → computed_by s ≡ Some ns → pass_compute m c S before s ss ≡ passing m (after m c S s) (names_none ns) s ss
  compute-form (Step.Compute ns') ss ns e = ap (λ z. passing m (after m c S (Step.Compute ns')) (names_none z) (Step.Compute ns') ss) (some_value e)
  compute-form s ss ns e = none_or ns e

  pub compute-form_none : (s : Step) (ss : List Step) → computed_by s ≡ None → pass_compute m c S before s ss ≡ None
  compute-form_none (Step.Compute ns') ss e = cc
  compute-form_none s ss e = refl

  pub order-form : (s : Step) (ss : List Step) (items : List OrderItem) → ordered_by s ≡ Some items → order_sure m S items ≡ true → pass_order m c S before s ss ≡ passing m S (λ b. true) s ss
  order-form (Step.OrderBy items') ss items e h = ap (λ b. if b then passing m S (λ b. true) (Step.OrderBy items') ss else None) (ap (order_sure m S) (some_value e) ∙ h)
  order-form s ss items e h = none_or items e

  pub order-form_risky : (s : Step) (ss : List Step) (items : List OrderItem) → ordered_by s ≡ Some items → order_sure m S items ≡ false → pass_order m c S before s ss ≡ None
  order-form_risky (Step.OrderBy items') ss items e h = ap (λ b. if b then passing m S (λ b. true) (Step.OrderBy items') ss else None) (ap (order_sure m S) (some_value e) ∙ h)
  order-form_risky s ss items e h = none_or items e

  pub order-form_none : (s : Step) (ss : List Step) → ordered_by s ≡ None → pass_order m c S before s ss ≡ None
  order-form_none (Step.OrderBy items') ss e = cc
  order-form_none s ss e = refl

  pub drop-form : (s : Step) (ss : List Step) (items : List OrderItem) → ordered_by s ≡ Some items → begins_with_aggregate ss ≡ true → drop_order m c S before s ss ≡ then_some (order_sure m S items) ss
  drop-form (Step.OrderBy items') (Step.Aggregate as' ∷ ss) items e h = ap (λ z. then_some (order_sure m S z) (Step.Aggregate as' ∷ ss)) (some_value e)
  drop-form (Step.OrderBy items') ss items e h = cc
  drop-form s ss items e h = none_or items e

  pub drop-form_none : (s : Step) (ss : List Step) → ordered_by s ≡ None → drop_order m c S before s ss ≡ None
  drop-form_none (Step.OrderBy items) ss e = cc
  drop-form_none s ss e = refl

  pub drop-form_other : (s : Step) (ss : List Step) → begins_with_aggregate ss ≡ false → drop_order m c S before s ss ≡ None
  drop-form_other (Step.OrderBy items) (Step.Aggregate as' ∷ ss) h = cc
  drop-form_other (Step.OrderBy items) ss h = refl
  drop-form_other s ss h = refl

  -- two counts in a row, by what each is
  pub count-form : (s : Step) (ss : List Step) → join_counts m c S before s ss
      ≡ option_and_then (λ x. option_and_then (λ y. then_some (expr_same x.1 y.1) (Step.TopBy (record { bottom = false; limit = Limit.Count (min x.0 y.0); expr = x.1 }) ∷ drop 1 ss)) (first_count ss)) (count_from_top s)
  count-form (Step.TopBy t) (Step.TopBy u ∷ ss) = go t.bottom t.limit u.bottom u.limit
    where
      step : Bool → Limit → Expr → Step
      step b l e = Step.TopBy (record { bottom = b; limit = l; expr = e })

      go : (b : Bool) (l : Limit) (b' : Bool) (l' : Limit) → join_counts m c S before (step b l t.expr) (step b' l' u.expr ∷ ss)
          ≡ option_and_then (λ x. option_and_then (λ y. then_some (expr_same x.1 y.1) (Step.TopBy (record { bottom = false; limit = Limit.Count (min x.0 y.0); expr = x.1 }) ∷ ss)) (count_from_top (step b' l' u.expr))) (count_from_top (step b l t.expr))
      go false (Limit.Count n) false (Limit.Count k) = refl
      go false (Limit.Count n) false (Limit.Sum x) = refl
      go false (Limit.Count n) false (Limit.Percent p) = refl
      go false (Limit.Count n) true l' = refl
      go false (Limit.Sum x) b' l' = refl
      go false (Limit.Percent p) b' l' = refl
      go true l b' l' = refl
  count-form (Step.TopBy t) ss = no-second (count_from_top (Step.TopBy t)) ss refl
    where
      no-second : (o : Option (ℕ × Expr)) (ss : List Step) → first_count ss ≡ None → None ≡ option_and_then (λ x. option_and_then (λ y. then_some (expr_same x.1 y.1) (Step.TopBy (record { bottom = false; limit = Limit.Count (min x.0 y.0); expr = x.1 }) ∷ drop 1 ss)) (first_count ss)) o
      no-second None ss h = refl
      no-second (Some x) ss h = sym (ap (option_and_then (λ y. then_some (expr_same x.1 y.1) (Step.TopBy (record { bottom = false; limit = Limit.Count (min x.0 y.0); expr = x.1 }) ∷ drop 1 ss))) h)
  count-form s ss = refl

  -- ---- what the program gives, where the shape that it has is the one there

  module _ (T : Shape) (there : T ≡ S) (s : Step) (ss : List Step) where
    pub split-given : (x : Expr × Expr) → operands s ≡ Some x → is_sure m T x.1 ≡ true → Some (Step.Filter x.0 ∷ Step.Filter x.1 ∷ ss) ≡ split_conjunction m c S before s ss
    split-given x o h = sym (split-answer s ss x o (ap (λ Z. is_sure m Z x.1) (sym there) ∙ h))

    pub split-kept : (x : Expr × Expr) → operands s ≡ Some x → is_sure m T x.1 ≡ false → None ≡ split_conjunction m c S before s ss
    split-kept x o h = sym (split-risky s ss x o (ap (λ Z. is_sure m Z x.1) (sym there) ∙ h))

    pub order-given : (items : List OrderItem) → ordered_by s ≡ Some items → order_sure m T items ≡ true → passing m T (λ b. true) s ss ≡ pass_order m c S before s ss
    order-given items o h = ap (λ Z. passing m Z (λ b. true) s ss) there ∙ sym (order-form s ss items o (ap (λ Z. order_sure m Z items) (sym there) ∙ h))

    pub order-kept : (items : List OrderItem) → ordered_by s ≡ Some items → order_sure m T items ≡ false → None ≡ pass_order m c S before s ss
    order-kept items o h = sym (order-form_risky s ss items o (ap (λ Z. order_sure m Z items) (sym there) ∙ h))

    pub drop-given : (items : List OrderItem) → ordered_by s ≡ Some items → begins_with_aggregate ss ≡ true → order_sure m T items ≡ true → Some ss ≡ drop_order m c S before s ss
    drop-given items o a h = sym (drop-form s ss items o a ∙ ap (λ b. then_some b ss) (ap (λ Z. order_sure m Z items) (sym there) ∙ h))

    pub drop-kept : (items : List OrderItem) → ordered_by s ≡ Some items → begins_with_aggregate ss ≡ true → order_sure m T items ≡ false → None ≡ drop_order m c S before s ss
    drop-kept items o a h = sym (drop-form s ss items o a ∙ ap (λ b. then_some b ss) (ap (λ Z. order_sure m Z items) (sym there) ∙ h))

  module _ (s : Step) (ss : List Step) where
    pub compute-given : (ns : List Named) (T : Shape) → computed_by s ≡ Some ns → T ≡ after m c S s → passing m T (names_none ns) s ss ≡ pass_compute m c S before s ss
    compute-given ns T o there = ap (λ Z. passing m Z (names_none ns) s ss) there ∙ sym (compute-form s ss ns o)

    pub compute-front : (ns : List Named) → computed_by s ≡ Some ns → begins_with_filter ss ≡ false → None ≡ pass_compute m c S before s ss
    compute-front ns o h = sym (compute-form s ss ns o ∙ passing-none m (after m c S s) (names_none ns) s ss h)

    pub order-front : (items : List OrderItem) → ordered_by s ≡ Some items → begins_with_filter ss ≡ false → None ≡ pass_order m c S before s ss
    order-front items o h = go (order_sure m S items) refl
      where
        go : (b : Bool) → order_sure m S items ≡ b → None ≡ pass_order m c S before s ss
        go true e = sym (order-form s ss items o e ∙ passing-none m S (λ b. true) s ss h)
        go false e = sym (order-form_risky s ss items o e)

    abbrev second : Expr → ℕ → Option (ℕ × Expr) → Option (List Step)
    second e n = option_and_then (λ y. then_some (expr_same e y.1) (count_to (min n y.0) e ∷ drop 1 ss))

    pub count-given : (n k : ℕ) (e u : Expr) → count_from_top s ≡ Some (n, e) → first_count ss ≡ Some (k, u) → expr_same e u ≡ true
        → Some (count_to (min n k) e ∷ drop 1 ss) ≡ join_counts m c S before s ss
    count-given n k e u a b h =
        sym (count-form s ss ∙ ap (option_and_then (λ x. second x.1 x.0 (first_count ss))) a ∙ ap (second e n) b
        ∙ ap (λ z. then_some z (count_to (min n k) e ∷ drop 1 ss)) h)

    pub count-different : (n k : ℕ) (e u : Expr) → count_from_top s ≡ Some (n, e) → first_count ss ≡ Some (k, u) → expr_same e u ≡ false → None ≡ join_counts m c S before s ss
    count-different n k e u a b h =
        sym (count-form s ss ∙ ap (option_and_then (λ x. second x.1 x.0 (first_count ss))) a ∙ ap (second e n) b
        ∙ ap (λ z. then_some z (count_to (min n k) e ∷ drop 1 ss)) h)

    pub count-none : count_from_top s ≡ None → None ≡ join_counts m c S before s ss
    count-none a = sym (count-form s ss ∙ ap (option_and_then (λ x. second x.1 x.0 (first_count ss))) a)

    pub count-alone : (n : ℕ) (e : Expr) → count_from_top s ≡ Some (n, e) → first_count ss ≡ None → None ≡ join_counts m c S before s ss
    count-alone n e a b = sym (count-form s ss ∙ ap (option_and_then (λ x. second x.1 x.0 (first_count ss))) a ∙ ap (second e n) b)
