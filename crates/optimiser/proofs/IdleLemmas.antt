-- Steps at the end of segments: the forms of the code, and those of the definition.
use Rattle.std.proofs.Common.{◌≡◌, refl, sym, ◌∙◌, ap, ℕ, min, Bool, true, false, not, ◌&&◌, ◌||◌, List, [], ◌∷◌, ◌++◌, Option, Some, None, map, if◌then◌else◌}
use Rattle.std.specs.Prelude.{option_map, option_and_then, slice_get}
use Rattle.std.specs.Bool.{then_some}
use Rattle.std.proofs.Math.Bool.{and-true}
use Rattle.edm_values.specs.Lists.{is_nonempty}
use Rattle.edm_values.specs.Names.{Path}
use Rattle.edm_model.specs.Models.{Model}
use Rattle.apply_ast.specs.Trees.{Expr, Limit, Step, TopStep}
use Rattle.apply_ast.specs.Views.{expr_of, top_of}
use Rattle.context_typing.specs.Shapes.{Shape}
use Rattle.context_typing.specs.Typing.{Customs}
use Rattle.rewrite_laws.specs.Rewrites.{is_among}
use Rattle.rewrite_forms.specs.Forms.{count_by}
use Rattle.edm_values.proofs.OptionFacts.{none_or, some_value}
use Rattle.rewrite_laws.specs.TreeEquality.{expr_same}
use Rattle.optimiser.specs.HeldSegments.{made, segment_of, test_of, written}
use Rattle.optimiser.specs.IdleForms.{frame, head_idle, head_selection, selected, step_idle, without}
use Rattle.walk_laws.specs.Walks as spec
use Rattle.optimiser.specs.declared.held.Head.{Head}
use Rattle.optimiser.specs.declared.held.Head.TheVariants as head
use Rattle.optimiser.specs.declared.held.Segment.{Segment}

-- a step is idle at the end, as the definition has it
abbrev idle_test : Option Path → Bool → Option Step → Bool
idle_test None lets h = lets && spec.is_order h
idle_test (Some p) lets h = (lets && spec.is_order h) || spec.is_beside p h

and-false : (b : Bool) → (b && false) ≡ false
and-false true = refl
and-false false = refl

and-both : (a b c : Bool) → (a && b && c) ≡ (a && (b && c))
and-both true b c = refl
and-both false b c = refl

neither : (b c : Bool) → c ≡ ((b && false) || c)
neither true c = refl
neither false c = refl

either : (b : Bool) → b ≡ ((b && true) || false)
either true = refl
either false = refl

-- a step with no part in it
still : (q : Option Path) (lets : Bool) (h : Option Step) → spec.is_order h ≡ false → ((p : Path) → spec.is_beside p h ≡ false) → false ≡ idle_test q lets h
still None lets h order beside = sym (ap (λ b. lets && b) order ∙ and-false lets)
still (Some p) lets h order beside = sym ((λ i. (lets && order i) || beside p i) ∙ sym (neither lets false))

module _ (r : spec.Rules) (m : Model) (c : Customs) (S : Shape) (es : List Expr) where
  pub idle-form : (q : Option Path) (lets : Bool) (s : Step) → step_idle q lets s ≡ idle_test q lets (Some (spec.settled_step r m c S s es))
  unfolding spec.put_steps
  idle-form None lets (Step.OrderBy items) = sym (and-true lets)
  idle-form (Some p) lets (Step.OrderBy items) = either lets
  idle-form None lets (Step.Compute ns) = sym (and-false lets)
  idle-form (Some p) lets (Step.Compute ns) = neither lets (not (is_among (map (λ x. x.name ∷ []) ns) p))
  idle-form q lets Step.Identity = still q lets (Some Step.Identity) refl (λ p. refl)
  idle-form q lets (Step.Filter e) = still q lets (Some (Step.Filter e)) refl (λ p. refl)
  idle-form q lets (Step.Skip n) = still q lets (Some (Step.Skip n)) refl (λ p. refl)
  idle-form q lets (Step.Top n) = still q lets (Some (Step.Top n)) refl (λ p. refl)
  idle-form q lets (Step.Aggregate as') = still q lets (Some (Step.Aggregate as')) refl (λ p. refl)
  idle-form q lets (Step.TopBy t) = still q lets (Some (Step.TopBy t)) refl (λ p. refl)
  idle-form q lets (Step.Traverse t) = still q lets (Some (Step.Traverse t)) refl (λ p. refl)
  idle-form q lets (Step.GroupBy ks T) = still q lets (Some (spec.settled_step r m c S (Step.GroupBy ks T) es)) refl (λ p. refl)
  idle-form q lets (Step.Concat ps) = still q lets (Some (spec.settled_step r m c S (Step.Concat ps) es)) refl (λ p. refl)
  idle-form q lets (Step.Join outer n a T) = still q lets (Some (spec.settled_step r m c S (Step.Join outer n a T) es)) refl (λ p. refl)
  idle-form q lets (Step.Climb up h p' T d keep) = still q lets (Some (spec.settled_step r m c S (Step.Climb up h p' T d keep) es)) refl (λ p. refl)

  -- a selection stays as it is
  pub selected-form : (s : Step) → selected (Some s) ≡ selected (Some (spec.settled_step r m c S s es))
  unfolding spec.put_steps
  selected-form Step.Identity = refl
  selected-form (Step.Filter e) = refl
  selected-form (Step.Compute ns) = refl
  selected-form (Step.OrderBy items) = refl
  selected-form (Step.Skip n) = refl
  selected-form (Step.Top n) = refl
  selected-form (Step.Aggregate as') = refl
  selected-form (Step.TopBy t) = refl
  selected-form (Step.Traverse t) = refl
  selected-form (Step.GroupBy ks T) = refl
  selected-form (Step.Concat ps) = refl
  selected-form (Step.Join outer n a T) = refl
  selected-form (Step.Climb up h p' T d keep) = refl

module _ (r : spec.Rules) (m : Model) (c : Customs) (ss : List Step) where
  head-idle : (q : Option Path) (lets : Bool) (h : Head) (xs : List Expr) → head_idle q lets (written ss h) ≡ idle_test q lets (made m (frame r c ss) h xs [])
  head-idle q lets head.Front xs = still q lets None refl (λ p. refl)
  head-idle q lets (head.Count t) xs = still q lets (Some (Step.TopBy (top_of t))) refl (λ p. refl)
  head-idle q lets (head.Written k S) xs = go (slice_get ss k)
    where
      go : (o : Option Step) → head_idle q lets o ≡ idle_test q lets (option_map (λ s. spec.settled_step r m c S s (xs ++ [])) o)
      go None = still q lets None refl (λ p. refl)
      go (Some s) = idle-form r m c S (xs ++ []) q lets s

  -- a segment is idle, as the program tests it
  abbrev pub idle_seen : Option Path → Segment → Bool
  idle_seen q g = not (is_nonempty (map test_of g.tests.items)) && head_idle q g.lets (written ss g.head)

  dropped-form : (q : Option Path) (g : spec.Segment) (gs : List spec.Segment) → without q (g ∷ gs) ≡ (if not (is_nonempty g.tests) && idle_test q g.lets (spec.head_of g) then without q gs else g ∷ gs)
  dropped-form None g gs = ap (λ z. if z then without None gs else g ∷ gs) (and-both (not (is_nonempty g.tests)) g.lets (spec.is_order (spec.head_of g)))
  dropped-form (Some p) g gs = refl

  -- the last segment is dropped where it is idle
  pub drops : (q : Option Path) (g : Segment) (gs : List spec.Segment) (b : Bool) → idle_seen q g ≡ b → without q (segment_of m (frame r c ss) g ∷ gs) ≡ (if b then without q gs else segment_of m (frame r c ss) g ∷ gs)
  drops q g gs b e =
      dropped-form q (segment_of m (frame r c ss) g) gs
      ∙ ap (λ z. if z then without q gs else segment_of m (frame r c ss) g ∷ gs)
      (ap (λ z. not (is_nonempty (map test_of g.tests.items)) && z) (sym (head-idle q g.lets g.head _)) ∙ e)

  -- ---- two counts that become one

  joined-form : (h : Option Step) (t : TopStep) → option_and_then (λ u. spec.joined_count (Some (Step.TopBy u)) t) (selected h) ≡ spec.joined_count h t
  joined-form None t = refl
  joined-form (Some (Step.TopBy u)) t = refl
  joined-form (Some s) t = refl

  head-selected : (h : Head) (xs : List Expr) → head_selection ss h ≡ selected (made m (frame r c ss) h xs [])
  head-selected head.Front xs = refl
  head-selected (head.Count t) xs = refl
  head-selected (head.Written k S) xs = go (slice_get ss k)
    where
      go : (o : Option Step) → selected o ≡ selected (option_map (λ s. spec.settled_step r m c S s (xs ++ [])) o)
      go None = refl
      go (Some s) = selected-form r m c S (xs ++ []) s

  -- the count that stands for the last step and another, as the program finds it
  pub last-form : (g : Segment) (t : TopStep) (b : Bool) → is_nonempty (map test_of g.tests.items) ≡ b
      → (if b then None else option_and_then (λ u. spec.joined_count (Some (Step.TopBy u)) t) (head_selection ss g.head)) ≡ spec.last_count (segment_of m (frame r c ss) g) t
  last-form g t b e =
      (λ i. if sym e i then None else option_and_then (λ u. spec.joined_count (Some (Step.TopBy u)) t) (head-selected g.head (map expr_of g.entered.items) i))
      ∙ ap (λ o. if is_nonempty (map test_of g.tests.items) then None else o) (joined-form (made m (frame r c ss) g.head (map expr_of g.entered.items) []) t)

-- ---- the count that stands for two

abbrev top : Bool → Limit → Expr → TopStep
top b l e = record { bottom = b; limit = l; expr = e }

abbrev both : TopStep → TopStep → Option TopStep
both u t = spec.joined_count (Some (Step.TopBy u)) t

pub joined-both : (u t : TopStep) (n k : ℕ) (by other : Expr) → Some (n, by) ≡ count_by u → Some (k, other) ≡ count_by t → (b : Bool) → b ≡ expr_same by other → then_some b (top false (Limit.Count (min n k)) by) ≡ both u t
joined-both u t n k by other e f b same = go u.bottom u.limit u.expr e
  where
    second : (x : Expr) (n' : ℕ) (b' : Bool) (l' : Limit) (y : Expr) → Some (k, other) ≡ count_by (top b' l' y) → n ≡ n' → by ≡ x → then_some b (top false (Limit.Count (min n k)) by) ≡ both (top false (Limit.Count n') x) (top b' l' y)
    second x n' false (Limit.Count k') y f en ex =
        let z = some_value f in
        λ i. then_some ((same ∙ (λ i. expr_same (ex i) ((z i).1))) i) (top false (Limit.Count (min (en i) ((z i).0))) (ex i))
    second x n' false l' y f en ex = none_or (k, other) (sym f)
    second x n' true l' y f en ex = none_or (k, other) (sym f)

    go : (b' : Bool) (l' : Limit) (x : Expr) → Some (n, by) ≡ count_by (top b' l' x) → then_some b (top false (Limit.Count (min n k)) by) ≡ both (top b' l' x) t
    go false (Limit.Count n') x e = let z = some_value e in second x n' t.bottom t.limit t.expr f (ap (λ y. y.0) z) (ap (λ y. y.1) z)
    go false l' x e = none_or (n, by) (sym e)
    go true l' x e = none_or (n, by) (sym e)

pub first-none : (u t : TopStep) → None ≡ count_by u → None ≡ both u t
first-none u t e = go u.bottom u.limit u.expr e
  where
    go : (b' : Bool) (l' : Limit) (x : Expr) → None ≡ count_by (top b' l' x) → None ≡ both (top b' l' x) t
    go false (Limit.Count n') x e = none_or (n', x) e
    go false l' x e = refl
    go true l' x e = refl

pub second-none : (u t : TopStep) → None ≡ count_by t → None ≡ both u t
second-none u t e = go u.bottom u.limit u.expr
  where
    second : (n : ℕ) (x : Expr) (b' : Bool) (l' : Limit) (y : Expr) → None ≡ count_by (top b' l' y) → None ≡ both (top false (Limit.Count n) x) (top b' l' y)
    second n x false (Limit.Count k) y f = none_or (k, y) f
    second n x false l' y f = refl
    second n x true l' y f = refl

    go : (b' : Bool) (l' : Limit) (x : Expr) → None ≡ both (top b' l' x) t
    go false (Limit.Count n) x = second n x t.bottom t.limit t.expr e
    go false l' x = refl
    go true l' x = refl
