-- Rules of an order: a filter passes it, and it is dropped before an aggregation.
use Rattle.std.proofs.Common.{◌≡◌, refl, sym, ◌∙◌, ap, subst, Bool, true, false, ◌&&◌, ◌||◌, not, List, [], ◌∷◌, Some, None, IsTrue, map, filter, if◌then◌else◌}
use Rattle.std.specs.Prelude.{option_and_then, unwrap_or}
use Rattle.std.specs.Bool.{then_some}
use Rattle.std.specs.List.{list_all, list_any}
use Rattle.std.proofs.lemmas.Bool.{and_parts, or_from, or_right}
use Rattle.std.proofs.lemmas.List.Folds.{list_any-append}
use Rattle.edm_values.specs.Lists.{is_nonempty, sorted}
use Rattle.edm_values.specs.Literals.{is_boolean_kind}
use Rattle.edm_values.specs.Values.{is_beyond, is_value}
use Rattle.edm_values.proofs.EachLemmas.{map-agree}
use Rattle.edm_values.proofs.OptionFacts.{none_or, chained, then_some-parts}
use Rattle.edm_values.proofs.Reorderings.{reorders-map, any-reorders}
use Rattle.edm_values.proofs.SortedLists.{filter-sorted}
use Rattle.edm_values.proofs.ListFacts.{all-filter}
use Rattle.edm_data.specs.Worlds.{World}
use Rattle.apply_ast.specs.Trees.{Expr, OrderItem, AggItem, Step, pipe, is_long}
use Rattle.context_typing.specs.Shapes.{Shape}
use Rattle.context_typing.specs.Typing.{Customs, steps_shape, step_shape, after, has_kind, is_typed, is_sure, order_sure}
use Rattle.apply_meaning.specs.Instances.{Instance, val, fits, no_instance}
use Rattle.apply_meaning.specs.Meaning.{mean, step_mean, values, order_before, order_values, item_value}
use Rattle.apply_meaning.specs.MeaningLaws.{AllFit}
use Rattle.apply_meaning.proofs.InstanceOrders.{order_before_order, reorders-ordered_by, item_value-reorders}
use Rattle.rewrite_laws.specs.Rewrites.{passing, pass_order, drop_order}
use Rattle.rewrite_laws.specs.RewriteLaws.{SameMeaning, KeepsMeaningInPlace}
use Rattle.rewrite_laws.proofs.RuleLemmas.{Laws, sure-none, Commutes, passing-keeps_meaning}

module _ (A : World → Type 0) (L : Laws A) (w : World) (c : Customs) (a : A w) (S : Shape) (items : List OrderItem) where
  -- the items are Beyond on no instance that fits
  items-none : list_all (λ x. is_typed w.model S x.expr) items ≡ true → order_sure w.model S items ≡ true → (l : List Instance) → AllFit w S l → list_any is_beyond (order_values w items l) ≡ false
  items-none t s l f = go items t s
    where
      go : (xs : List OrderItem) → list_all (λ x. is_typed w.model S x.expr) xs ≡ true → order_sure w.model S xs ≡ true → list_any is_beyond (order_values w xs l) ≡ false
      go [] t s = refl
      go (x ∷ xs) t s =
          let p = and_parts (is_typed w.model S x.expr) _ t in
          let q = and_parts (is_sure w.model S x.expr) _ s in
          list_any-append is_beyond (values w x.expr l) (order_values w xs l) ∙ or_from _ _ (sure-none A L w c a S x.expr l p.0 q.0 f) (go xs p.1 q.1)

  -- an order by sure expressions is a sort
  pub order-sorts : list_all (λ x. is_typed w.model S x.expr) items ≡ true → order_sure w.model S items ≡ true → (l : List Instance) → AllFit w S l → step_mean w c S (Step.OrderBy items) l ≡ Some (sorted (order_before w items) l)
  unfolding mean
  order-sorts t s l f = ap (λ b. then_some (not b) (sorted (order_before w items) l)) (items-none t s l f)

  -- a filter commutes with a sort
  order-commutes : list_all (λ x. is_typed w.model S x.expr) items ≡ true → order_sure w.model S items ≡ true → (b : Expr) → Commutes w c S (Step.OrderBy items) b
  unfolding mean
  order-commutes t s b l f =
      ap (option_and_then (step_mean w c S (Step.Filter b))) (order-sorts t s l f)
      ∙ (λ i. then_some (not (sym (any-reorders is_beyond (reorders-map (λ j. val w j b) (reorders-ordered_by w items l))) i)) (filter-sorted (order_before w items) (order_before_order w items) (λ j. is_value true (val w j b)) l i))
      ∙ go (not (list_any is_beyond (values w b l)))
    where
      go : (z : Bool) → then_some z (sorted (order_before w items) (filter (λ j. is_value true (val w j b)) l)) ≡ option_and_then (step_mean w c S (Step.OrderBy items)) (then_some z (filter (λ j. is_value true (val w j b)) l))
      go true = sym (order-sorts t s (filter (λ j. is_value true (val w j b)) l) (all-filter (fits w S) (λ j. is_value true (val w j b)) l f))
      go false = refl

-- what a typed order has
pub order-typed : (w : World) (c : Customs) (S S1 : Shape) (items : List OrderItem) → step_shape w.model c S (Step.OrderBy items) ≡ Some S1 → (list_all (λ x. is_typed w.model S x.expr) items ≡ true) × (S ≡ S1)
unfolding steps_shape
order-typed w c S S1 items e = let t = then_some-parts (is_nonempty items && list_all (λ x. is_typed w.model S x.expr) items) S S1 e in ((and_parts (is_nonempty items) _ t.0).1, t.1)

pub pass_order-keeps_meaning : (A : World → Type 0) → Laws A → KeepsMeaningInPlace A pass_order
unfolding steps_shape
pass_order-keeps_meaning A L w c S S' before (Step.OrderBy items) ss ss' k law e got = choose (order_sure w.model S items) refl got
  where
    choose : (z : Bool) → order_sure w.model S items ≡ z → (if z then passing w.model S (λ b. true) (Step.OrderBy items) ss else None) ≡ Some ss'
        → IsTrue (before || is_long (pipe ss')) × SameMeaning A w c S (pipe (Step.OrderBy items ∷ ss)) (pipe ss')
    choose false q z = none_or ss' z
    choose true q z =
        let S1 = chained (λ T. steps_shape w.model c T (pipe ss)) (step_shape w.model c S (Step.OrderBy items)) S' e in
        let t = order-typed w c S S1.0 items S1.1 in
        passing-keeps_meaning A L w c k S S1.0 S' law (Step.OrderBy items) S1.1 S before ss ss' (λ b. true) t.1 e z
        (λ b s h. (ap (λ T. has_kind is_boolean_kind w.model T b) t.1 ∙ h, λ a. order-commutes A L w c a S items t.0 q b))
pass_order-keeps_meaning A L w c S S' before s ss ss' k law e got = none_or ss' got

-- ---- before an aggregation

aggregates_agree : (w : World) (c : Customs) (S : Shape) (items : List OrderItem) (as' : List AggItem) (l : List Instance) → step_mean w c S (Step.Aggregate as') (sorted (order_before w items) l) ≡ step_mean w c S (Step.Aggregate as') l
unfolding mean
aggregates_agree w c S items as' l = λ i. Some (record no_instance { columns = same as' i } ∷ [])
  where
    same : (xs : List AggItem) → map (item_value w c S (sorted (order_before w items) l)) xs ≡ map (item_value w c S l) xs
    same xs = map-agree (item_value w c S (sorted (order_before w items) l)) (item_value w c S l) xs (λ x. sym (item_value-reorders w c S x (reorders-ordered_by w items l)))

pub drop_order-keeps_meaning : (A : World → Type 0) → Laws A → KeepsMeaningInPlace A drop_order
unfolding mean steps_shape
drop_order-keeps_meaning A L w c S S' before (Step.OrderBy items) (Step.Aggregate as' ∷ ss) ss' k law e got =
    let g = then_some-parts (order_sure w.model S items) (Step.Aggregate as' ∷ ss) ss' got in
    let S1 = chained (λ T. steps_shape w.model c T (pipe (Step.Aggregate as' ∷ ss))) (step_shape w.model c S (Step.OrderBy items)) S' e in
    let t = order-typed w c S S1.0 items S1.1 in
    let K : List Step → Type 0 = λ z. IsTrue (before || is_long (pipe z)) × SameMeaning A w c S (pipe (Step.OrderBy items ∷ Step.Aggregate as' ∷ ss)) (pipe z) in
    subst K g.1 (
      or_right before true refl,
      (
        (λ n z. z),
        ap (λ T. steps_shape w.model c T (pipe (Step.Aggregate as' ∷ ss))) t.1 ∙ S1.2 ∙ sym e,
        λ a l f. sym (
            ap (option_and_then (mean w c (after w.model c S (Step.OrderBy items)) (pipe (Step.Aggregate as' ∷ ss)))) (order-sorts A L w c a S items t.0 g.0 l f)
            ∙ ap (λ T. mean w c T (pipe (Step.Aggregate as' ∷ ss)) (sorted (order_before w items) l)) (ap (λ o. unwrap_or o S) S1.1 ∙ sym t.1)
            ∙ ap (option_and_then (mean w c (after w.model c S (Step.Aggregate as')) (pipe ss))) (aggregates_agree w c S items as' l)),
      ),
    )
drop_order-keeps_meaning A L w c S S' before s ss ss' k law e got = none_or ss' got
