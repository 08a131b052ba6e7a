-- What the rules that drop a step, split a filter, move it past a computation or an order, and join counts make at their place is put as what was there.
use Rattle.std.proofs.Common.{◌≡◌, refl, sym, ◌∙◌, ap, subst, ℕ, min, Bool, true, false, not, ◌&&◌, ◌||◌, List, [], ◌∷◌, ◌++◌, Option, Some, None, map, arith, if◌then◌else◌}
use Rattle.std.specs.Prelude.{option_and_then}
use Rattle.std.specs.Bool.{then_some}
use Rattle.std.specs.List.{list_any}
use Rattle.std.proofs.lemmas.List.{map-append}
use Rattle.edm_values.specs.Lists.{is_nonempty}
use Rattle.edm_values.proofs.OptionFacts.{chained, if_else-parts, none_or, some_value, then_some-parts}
use Rattle.edm_model.specs.Models.{Model}
use Rattle.apply_ast.specs.Trees.{Expr, Limit, Pipe, Step, TopStep, pipe}
use Rattle.apply_ast.specs.declared.expressions.BinOp.TheVariants as BinOp
use Rattle.context_typing.specs.Typing.{Customs, after, is_sure, order_sure, steps_shape}
use Rattle.rewrite_laws.specs.Rewrites.{drop_identity, drop_order, drop_true, is_among, join_counts, pass_compute, pass_order, passing, paths, split_conjunction, top_count}
use Rattle.rewrite_laws.specs.TreeEquality.{expr_same}
use Rattle.rewrite_laws.proofs.SameExpressions.{same-exprs}
use Rattle.walk_laws.specs.Walks.{Rules, All, Segment, joined_count, judged, last_count, parts, put_filter, put_selection, put_steps, put_tests, segment, selection, settled_step, without_orders}
use Rattle.walk_laws.proofs.SameOnShapes.{after-order, after-selection, alike-computed, alike-same}
use Rattle.walk_laws.proofs.WalkPassing.{PutsSame, passing-put}
use Rattle.walk_laws.proofs.WalkPuts.{one-filter, put_tests-append}

module _ (flat : Bool) (w : Rules) (m : Model) (c : Customs) where
  pub identity-put : PutsSame false flat w m c drop_identity
  unfolding put_steps steps_shape
  identity-put S before Step.Identity ss ss' gs u e = ap (λ l. put_steps w m c S (pipe l) gs) (sym (then_some-parts (before || is_nonempty ss) ss ss' e).1)
  identity-put S before s ss ss' gs u e = none_or ss' e

  pub split-put : PutsSame false flat w m c split_conjunction
  split-put S before (Step.Filter (Expr.Binary BinOp.And a b)) ss ss' gs u e =
      let t = then_some-parts (is_sure m S b) (Step.Filter a ∷ Step.Filter b ∷ ss) ss' e in
      let J = judged m S in
      ap (λ l. put_steps w m c S (pipe l) gs) (sym t.1)
      ∙ one-filter w m c S a (Pipe.Then (Step.Filter b) (pipe ss)) gs
      ∙ one-filter w m c S b (pipe ss) (put_filter m S a gs)
      ∙ ap (put_steps w m c S (pipe ss)) (
      sym (put_tests-append (map J (parts m S a)) (map J (parts m S b)) gs)
      ∙ ap (λ l. put_tests l gs) (sym (map-append J (parts m S a) (parts m S b)))
      ∙ sym (ap (λ z. put_tests (map J (if z then parts m S a ++ parts m S b else Expr.Binary BinOp.And a b ∷ [])) gs) t.0))
      ∙ sym (one-filter w m c S (Expr.Binary BinOp.And a b) (pipe ss) gs)
  split-put S before s ss ss' gs u e = none_or ss' e

  pub true-put : PutsSame false flat w m c drop_true
  unfolding put_steps steps_shape
  true-put S before (Step.Filter (Expr.Bool' true)) ss ss' gs u e =
      ap (λ l. put_steps w m c S (pipe l) gs) (sym (some_value e)) ∙ sym (one-filter w m c S (Expr.Bool' true) (pipe ss) gs)
  true-put S before s ss ss' gs u e = none_or ss' e

  pub compute-put : PutsSame true flat w m c pass_compute
  compute-put S before (Step.Compute ns) ss ss' gs u e =
      let test : Expr → Bool = λ b. not (list_any (is_among (map (λ x. x.name ∷ []) ns)) (paths b)) in
      passing-put w m c S (Step.Compute ns) test (record {
        put = λ gs. refl;
        lets = refl;
        passes = λ b. refl;
        alike = λ b t. alike-computed m c S ns b t;
      }) ss ss' true gs (u.unsplit refl) e
  compute-put S before s ss ss' gs u e = none_or ss' e

  pub order-put : PutsSame true flat w m c pass_order
  order-put S before (Step.OrderBy items) ss ss' gs u e =
      let t = if_else-parts (order_sure m S items) (passing m S (λ b. true) (Step.OrderBy items) ss) ss' e in
      let k = after-order m c S items in
      passing-put w m c S (Step.OrderBy items) (λ b. true) (record {
        put = λ gs. refl;
        lets = t.0;
        passes = λ b. refl;
        alike = λ b h. alike-same m S (after m c S (Step.OrderBy items)) b k;
      }) ss ss' true gs (u.unsplit refl) (ap (λ U. passing m U (λ b. true) (Step.OrderBy items) ss) k ∙ t.1)
  order-put S before s ss ss' gs u e = none_or ss' e

module _ (flat : Bool) (m : Model) (c : Customs) where
  pub aggregate-put : PutsSame true flat All m c drop_order
  unfolding put_steps
  aggregate-put S before (Step.OrderBy items) (Step.Aggregate as' ∷ ss) ss' gs u e =
      let t = then_some-parts (order_sure m S items) (Step.Aggregate as' ∷ ss) ss' e in
      let g = segment All m c S (Step.OrderBy items) (settled_step All m c S (Step.OrderBy items)) in
      let own : Segment → List Segment → List Segment = λ h gs. h ∷ gs in
      ap (λ l. put_steps All m c S (pipe l) gs) (sym t.1)
      ∙ ap (λ l. put_steps All m c (after m c S (Step.Aggregate as')) (pipe ss) (segment All m c S (Step.Aggregate as') (settled_step All m c S (Step.Aggregate as')) ∷ l)) (sym (ap (λ b. if b && true then without_orders gs else g ∷ gs) t.0))
      ∙ ap (λ U. put_steps All m c (after m c U (Step.Aggregate as')) (pipe ss) (segment All m c U (Step.Aggregate as') (settled_step All m c U (Step.Aggregate as')) ∷ without_orders (g ∷ gs))) (sym (after-order m c S items))
  aggregate-put S before s ss ss' gs u e = none_or ss' e

-- ---- counts from the top

-- another number has the same bottom
count_again : (b : Bool) (l : Limit) (n j : ℕ) → top_count b l ≡ Some n → top_count b (Limit.Count j) ≡ Some j
count_again false l n j e = refl
count_again true l n j e = none_or n e

least-again : (a b d : ℕ) → min (min a b) d ≡ min a (min b d)
least-again a b d = omega arith

-- where nothing is made, nothing is made of another number
no-count : {X : Type 0} (f g : ℕ → X) (z : Bool) (o : Option ℕ) → option_and_then (λ n. then_some z (f n)) o ≡ None → option_and_then (λ n. then_some z (g n)) o ≡ None
no-count f g z None e = refl
no-count f g false (Some n) e = refl
no-count f g true (Some n) e = none_or (f n) (sym e)

module _ (t u : TopStep) (n k : ℕ) (ct : top_count t.bottom t.limit ≡ Some n) (cu : top_count u.bottom u.limit ≡ Some k) (same : expr_same t.expr u.expr ≡ true) where
  -- the count that stands for both
  abbrev both : TopStep
  both = record t { limit = Limit.Count (min n k) }

  counted : top_count both.bottom both.limit ≡ Some (min n k)
  counted = count_again t.bottom t.limit n (min n k) ct

  two-counts : joined_count (Some (Step.TopBy t)) u ≡ Some both
  two-counts = λ i. option_and_then (λ n. option_and_then (λ k. then_some (same i) (record t { limit = Limit.Count (min n k) })) (cu i)) (ct i)

  -- behind a step that takes neither
  behind-other : (gs : List Segment) → put_selection u (selection t ∷ gs) ≡ selection both ∷ gs
  behind-other gs = ap (λ o. elim o [ None ↦ selection u ∷ selection t ∷ gs | Some w ↦ selection w ∷ gs ]) two-counts

  -- the last step takes both, or neither
  no-last : (b : Bool) (h : Option Step) → (if b then None else joined_count h t) ≡ None → (if b then None else joined_count h both) ≡ None
  no-last true h e = refl
  no-last false (Some (Step.TopBy x)) e =
      ap (λ o. option_and_then (λ n. option_and_then (λ k. then_some (expr_same x.expr t.expr) (record x { limit = Limit.Count (min n k) })) o) (top_count x.bottom x.limit)) counted
      ∙ no-count (λ j. record x { limit = Limit.Count (min j n) }) (λ j. record x { limit = Limit.Count (min j (min n k)) }) (expr_same x.expr t.expr) (top_count x.bottom x.limit)
      (sym (ap (λ o. option_and_then (λ n. option_and_then (λ k. then_some (expr_same x.expr t.expr) (record x { limit = Limit.Count (min n k) })) o) (top_count x.bottom x.limit)) ct) ∙ e)
  no-last false h e = refl

  last-again : (b : Bool) (h : Option Step) (w : TopStep) → (if b then None else joined_count h t) ≡ Some w → (w' : TopStep) × (joined_count (Some (Step.TopBy w)) u ≡ Some w') × ((if b then None else joined_count h both) ≡ Some w')
  last-again true h w e = none_or w e
  last-again false (Some (Step.TopBy x)) w e =
      let first = chained (λ n. option_and_then (λ k. then_some (expr_same x.expr t.expr) (record x { limit = Limit.Count (min n k) })) (top_count t.bottom t.limit)) (top_count x.bottom x.limit) w e in
      let j = first.0 in
      let parts' = then_some-parts (expr_same x.expr t.expr) (record x { limit = Limit.Count (min j n) }) w
      (sym (ap (λ o. option_and_then (λ k. then_some (expr_same x.expr t.expr) (record x { limit = Limit.Count (min j k) })) o) ct) ∙ first.2) in
      let y : TopStep = record x { limit = Limit.Count (min j n) } in
      let P : TopStep → Type 0 = λ w. joined_count (Some (Step.TopBy w)) u ≡ Some (record x { limit = Limit.Count (min j (min n k)) }) in
      let exprs : expr_same x.expr u.expr ≡ true = ap (λ z. expr_same z u.expr) (same-exprs x.expr t.expr parts'.0) ∙ same in
      let there : P y = (λ i. option_and_then (λ n. option_and_then (λ k. then_some (exprs i) (record y { limit = Limit.Count (min n k) })) (cu i)) (count_again x.bottom x.limit j (min j n) first.1 i))
      ∙ ap (λ l. Some (record x { limit = Limit.Count l })) (least-again j n k) in (
        record x { limit = Limit.Count (min j (min n k)) },
        subst P parts'.1 there,
        λ i. option_and_then (λ n. option_and_then (λ k. then_some (parts'.0 i) (record x { limit = Limit.Count (min n k) })) (counted i)) (first.1 i),
      )
  last-again false h w e = none_or w e

  pub counts-put : (gs : List Segment) → put_selection both gs ≡ put_selection u (put_selection t gs)
  counts-put [] = sym (behind-other [])
  counts-put (g ∷ gs) = go (last_count g t) refl
    where
      go : (o : Option TopStep) → last_count g t ≡ o → put_selection both (g ∷ gs) ≡ put_selection u (elim o [ None ↦ selection t ∷ g ∷ gs | Some w ↦ selection w ∷ gs ])
      go None e =
          ap (λ o. elim o [ None ↦ selection both ∷ g ∷ gs | Some w ↦ selection w ∷ gs ]) (no-last (is_nonempty g.tests) (g.head []) e)
          ∙ sym (behind-other (g ∷ gs))
      go (Some w) e =
          let l = last-again (is_nonempty g.tests) (g.head []) w e in
          ap (λ o. elim o [ None ↦ selection both ∷ g ∷ gs | Some w ↦ selection w ∷ gs ]) l.2
          ∙ sym (ap (λ o. elim o [ None ↦ selection u ∷ selection w ∷ gs | Some w' ↦ selection w' ∷ gs ]) l.1)

module _ (flat : Bool) (m : Model) (c : Customs) where
  pub count-put : PutsSame true flat All m c join_counts
  unfolding put_steps
  count-put S before (Step.TopBy t) (Step.TopBy u ∷ ss) ss' gs h e =
      let a = chained (λ n. option_and_then (λ k. then_some (expr_same t.expr u.expr) (Step.TopBy (record t { limit = Limit.Count (min n k) }) ∷ ss)) (top_count u.bottom u.limit)) (top_count t.bottom t.limit) ss' e in
      let b = chained (λ k. then_some (expr_same t.expr u.expr) (Step.TopBy (record t { limit = Limit.Count (min a.0 k) }) ∷ ss)) (top_count u.bottom u.limit) ss' a.2 in
      let v : TopStep = record t { limit = Limit.Count (min a.0 b.0) } in
      let d = then_some-parts (expr_same t.expr u.expr) (Step.TopBy v ∷ ss) ss' b.2 in
      ap (λ l. put_steps All m c S (pipe l) gs) (sym d.1)
      ∙ ap (λ U. put_steps All m c U (pipe ss) (put_selection v gs)) (after-selection m c S v)
      ∙ ap (put_steps All m c S (pipe ss)) (counts-put t u a.0 b.0 a.1 b.1 d.0 gs)
      ∙ sym (ap (λ U. put_steps All m c U (pipe ss) (put_selection u (put_selection t gs))) (after-selection m c S u))
      ∙ sym (ap (λ U. put_steps All m c (after m c U (Step.TopBy u)) (pipe ss) (put_selection u (put_selection t gs))) (after-selection m c S t))
  count-put S before s ss ss' gs h e = none_or ss' e
