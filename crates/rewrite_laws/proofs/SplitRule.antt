-- A conjunction becomes two filters.
use Rattle.std.proofs.Common.{◌≡◌, refl, sym, ◌∙◌, ap, subst, Bool, true, false, ◌&&◌, ◌||◌, not, List, [], ◌∷◌, Option, Some, None, IsTrue, filter, cond, if◌then◌else◌}
use Rattle.std.specs.Prelude.{option_and_then}
use Rattle.std.specs.Bool.{then_some}
use Rattle.std.specs.List.{list_any}
use Rattle.std.proofs.lemmas.Bool.{and_parts, or_right, or_parts, true≢false}
use Rattle.edm_values.specs.Lists.{is_some_and}
use Rattle.edm_values.specs.Literals.{is_boolean_kind}
use Rattle.edm_values.specs.Values.{is_beyond, is_value, both}
use Rattle.edm_values.specs.declared.EdmType.{EdmType}
use Rattle.edm_values.specs.declared.Value.{Value}
use Rattle.edm_values.proofs.OptionFacts.{none_or, chained, then_some-parts}
use Rattle.edm_values.proofs.ListFacts.{all-filter}
use Rattle.edm_data.specs.Worlds.{World}
use Rattle.apply_ast.specs.Trees.{Expr, Pipe, Step, pipe, is_long}
use Rattle.apply_ast.specs.declared.expressions.BinOp.{BinOp}
use Rattle.context_typing.specs.Typing.{steps_shape, step_shape, has_kind, expr_kind, binary_kind, null_comparison, is_null_literal, is_sure}
use Rattle.apply_meaning.specs.Instances.{Instance, val, fits}
use Rattle.apply_meaning.specs.Meaning.{mean, values}
use Rattle.apply_meaning.specs.MeaningLaws.{AllFit}
use Rattle.rewrite_laws.specs.Rewrites.{split_conjunction}
use Rattle.rewrite_laws.specs.RewriteLaws.{KeepsMeaningInPlace, SameMeaning}
use Rattle.rewrite_laws.proofs.RuleLemmas.{Laws, mean-filter, sure-filter, sure-none, has_kind-typed}

-- the operands of a typed conjunction are truth values
and-typed : (n m : Bool) (x y : Option EdmType)
    → is_some_and is_boolean_kind (if n then null_comparison BinOp.And m y else (if m then null_comparison BinOp.And false x else option_and_then (λ a. option_and_then (λ b. binary_kind BinOp.And a b) y) x)) ≡ true
    → (is_some_and is_boolean_kind x ≡ true) × (is_some_and is_boolean_kind y ≡ true)
and-typed true m x y h = cc
and-typed false true x y h = cc
and-typed false false None y h = cc
and-typed false false (Some a) None h = cc
and-typed false false (Some a) (Some b) h = and_parts (is_boolean_kind a) (is_boolean_kind b) (holds (is_boolean_kind a && is_boolean_kind b) h)
  where
    holds : (z : Bool) → is_some_and is_boolean_kind (then_some z EdmType.Bool) ≡ true → z ≡ true
    holds true h = refl
    holds false h = cc

-- a conjunction is true where both operands are, and Beyond where one is
true_alone : (v : Value) → is_value true v ≡ true → (is_beyond v ≡ false) × (is_value false v ≡ false)
true_alone (Value.Bool b) h = (refl, ap not h)
true_alone Value.Null h = absurd (true≢false (sym h))
true_alone (Value.Int z) h = absurd (true≢false (sym h))
true_alone (Value.Dec d) h = absurd (true≢false (sym h))
true_alone (Value.Text t) h = absurd (true≢false (sym h))
true_alone (Value.Day d) h = absurd (true≢false (sym h))
true_alone Value.Beyond h = absurd (true≢false (sym h))

true-and : (u v : Value) → is_value true (both u v) ≡ (is_value true u && is_value true v)
true-and u v = go (is_beyond u) (is_beyond v) (is_value false u) (is_value false v) (is_value true u) (is_value true v) (true_alone u) (true_alone v)
  where
    neither : (x y : Bool) → is_value true (if x then Value.Beyond else (if y then Value.Bool false else Value.Null)) ≡ false
    neither true y = refl
    neither false true = refl
    neither false false = refl

    go : (a b p q s t : Bool) → (s ≡ true → (a ≡ false) × (p ≡ false)) → (t ≡ true → (b ≡ false) × (q ≡ false))
        → is_value true (if a || b then Value.Beyond else (if p || q then Value.Bool false else (if s && t then Value.Bool true else Value.Null))) ≡ (s && t)
    go a b p q false t x y = neither (a || b) (p || q)
    go a b p q true false x y = neither (a || b) (p || q)
    go a b p q true true x y =
        let f = x refl in
        let g = y refl in
        λ i. is_value true (if f.0 i || g.0 i then Value.Beyond else (if f.1 i || g.1 i then Value.Bool false else Value.Bool true))

beyond-and : (u v : Value) → is_beyond v ≡ false → is_beyond (both u v) ≡ is_beyond u
beyond-and u v h = go (is_beyond u) (is_beyond v) h (is_value false u || is_value false v) (is_value true u && is_value true v)
  where
    go : (a b : Bool) → b ≡ false → (c d : Bool) → is_beyond (if a || b then Value.Beyond else (if c then Value.Bool false else (if d then Value.Bool true else Value.Null))) ≡ a
    go true b e c d = refl
    go false true e c d = absurd (true≢false e)
    go false false e true d = refl
    go false false e false true = refl
    go false false e false false = refl

-- a filter by two tests is two filters
filter-both : {X : Type 0} (p q r : X → Bool) → ((x : X) → r x ≡ (p x && q x)) → (xs : List X) → filter r xs ≡ filter q (filter p xs)
filter-both p q r h [] = refl
filter-both p q r h (x ∷ xs) = ap (λ b. cond b (x ∷ filter r xs) (filter r xs)) (h x) ∙ go (p x) (filter-both p q r h xs)
  where
    go : (a : Bool) → filter r xs ≡ filter q (filter p xs) → cond (a && q x) (x ∷ filter r xs) (filter r xs) ≡ filter q (cond a (x ∷ filter p xs) (filter p xs))
    go true e = λ i. cond (q x) (x ∷ e i) (e i)
    go false e = e

any-and : (w : World) (a b : Expr) (l : List Instance) → list_any is_beyond (values w b l) ≡ false → list_any is_beyond (values w (Expr.Binary BinOp.And a b) l) ≡ list_any is_beyond (values w a l)
any-and w a b [] h = refl
any-and w a b (i ∷ l) h = let t = or_parts (is_beyond (val w i b)) _ h in λ k. beyond-and (val w i a) (val w i b) t.0 k || any-and w a b l t.1 k

pub split_conjunction-keeps_meaning : (A : World → Type 0) → Laws A → KeepsMeaningInPlace A split_conjunction
unfolding mean steps_shape
split_conjunction-keeps_meaning A L w c S S' before (Step.Filter (Expr.Binary BinOp.And a b)) ss ss' k law e found =
    let t = then_some-parts (is_sure w.model S b) (Step.Filter a ∷ Step.Filter b ∷ ss) ss' found in
    let K : List Step → Type 0 = λ x. IsTrue (before || is_long (pipe x)) × SameMeaning A w c S (pipe (Step.Filter (Expr.Binary BinOp.And a b) ∷ ss)) (pipe x) in
    let x = chained (λ T. steps_shape w.model c T (pipe ss)) (step_shape w.model c S (Step.Filter (Expr.Binary BinOp.And a b))) S' e in
    let whole = (then_some-parts _ S x.0 x.1).0 in
    let typed = and-typed (is_null_literal a) (is_null_literal b) (expr_kind w.model S a) (expr_kind w.model S b) whole in
    subst K t.1 (or_right before true refl, ((λ n z. z), shapes typed.0 typed.1 whole, λ u l f. means u typed.1 t.0 l f))
  where
    P : Pipe
    P = pipe ss

    shapes : has_kind is_boolean_kind w.model S a ≡ true → has_kind is_boolean_kind w.model S b ≡ true → has_kind is_boolean_kind w.model S (Expr.Binary BinOp.And a b) ≡ true
        → steps_shape w.model c S (Pipe.Then (Step.Filter a) (Pipe.Then (Step.Filter b) (pipe ss))) ≡ steps_shape w.model c S (Pipe.Then (Step.Filter (Expr.Binary BinOp.And a b)) (pipe ss))
    shapes ta tb tc =
        ap (λ z. option_and_then (λ T. steps_shape w.model c T (Pipe.Then (Step.Filter b) (pipe ss))) (then_some z S)) ta
        ∙ ap (λ z. option_and_then (λ T. steps_shape w.model c T (pipe ss)) (then_some z S)) tb
        ∙ sym (ap (λ z. option_and_then (λ T. steps_shape w.model c T (pipe ss)) (then_some z S)) tc)

    means : A w → has_kind is_boolean_kind w.model S b ≡ true → is_sure w.model S b ≡ true → (l : List Instance) → AllFit w S l
        → mean w c S (Pipe.Then (Step.Filter a) (Pipe.Then (Step.Filter b) (pipe ss))) l ≡ mean w c S (Pipe.Then (Step.Filter (Expr.Binary BinOp.And a b)) (pipe ss)) l
    means u tb sb l f =
        mean-filter A L w c u S a (Pipe.Then (Step.Filter b) (pipe ss)) l
        ∙ go (not (list_any is_beyond (values w a l)))
        ∙ sym (ap (option_and_then (mean w c S (pipe ss))) (λ i. then_some (not (any-and w a b l (sure-none A L w c u S b l (has_kind-typed w.model S b tb) sb f) i)) (filter-both (λ i. is_value true (val w i a)) (λ i. is_value true (val w i b)) (λ i. is_value true (val w i (Expr.Binary BinOp.And a b))) (λ i. true-and (val w i a) (val w i b)) l i)))
        ∙ sym (mean-filter A L w c u S (Expr.Binary BinOp.And a b) (pipe ss) l)
      where
        go : (z : Bool) → option_and_then (mean w c S (Pipe.Then (Step.Filter b) (pipe ss))) (then_some z (filter (λ i. is_value true (val w i a)) l))
            ≡ option_and_then (mean w c S (pipe ss)) (then_some z (filter (λ i. is_value true (val w i b)) (filter (λ i. is_value true (val w i a)) l)))
        go true =
            let fa = all-filter (fits w S) (λ i. is_value true (val w i a)) l f in
            mean-filter A L w c u S b (pipe ss) (filter (λ i. is_value true (val w i a)) l) ∙ ap (option_and_then (mean w c S (pipe ss))) (sure-filter A L w c u S b (filter (λ i. is_value true (val w i a)) l) tb sb fa)
        go false = refl
split_conjunction-keeps_meaning A L w c S S' before s ss ss' k law e found = none_or ss' found
