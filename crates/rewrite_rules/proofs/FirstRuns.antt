-- The nearest filter that may pass a step, searched from the front of the filters behind it.
use Rattle.std.proofs.Common.{◌≡◌, refl, sym, ◌∙◌, ap, subst, arith, ℕ, suc, Bool, true, false, ◌&&◌, ◌||◌, not, ◌==◌, ◌<◌, ◌≤◌, List, [], ◌∷◌, ◌++◌, Option, Some, None, map, filter, find, take, drop, get_or, cond, append_assoc, append-nil, true≢false, length, length-append, ◌+◌, ◌-◌, add-one}
use Rattle.std.specs.Prelude.{option_map}
use Rattle.std.specs.List.{list_all}
use Rattle.std.proofs.lemmas.Bool.{and_parts, eqb-true}
use Rattle.std.proofs.lemmas.List.{length-map, length-take-le, take-map, drop-map, take_all, length-drop}
use Rattle.std.proofs.lemmas.List.Folds.{list_all-append}
use Rattle.std.proofs.Math.ListN.{drop_of_length-le}
use Rattle.edm_values.specs.Lists.{is_nonempty}
use Rattle.edm_values.proofs.EachLemmas.{each-filter}
use Rattle.edm_values.proofs.OptionFacts.{none_or, some_value}
use Rattle.edm_model.specs.Models.{Model}
use Rattle.apply_ast.specs.Trees.{Expr, Step}
use Rattle.context_typing.specs.Shapes.{Shape}
use Rattle.context_typing.specs.Typing.{is_sure}
use Rattle.rewrite_laws.specs.Rewrites.{FilterRun, behind, longer, runs, movable, passing}
use Rattle.rewrite_rules.specs.Conditions.{entered, moved, nearest, place_and_filter}
use Rattle.rewrite_forms.specs.Forms.{filtered_by}
use Rattle.rewrite_laws.proofs.FilterRuns.{IsRunOf, runs-each, found-each}
use Rattle.rewrite_forms.proofs.CutLists.{dropped-next, mapped-next}

-- a run with more filters before it
abbrev pub behind_filters : List Expr → FilterRun → FilterRun
behind_filters es r = record r { between = es ++ r.between }

-- the last filter may pass those between
abbrev pub may_pass : Model → Shape → FilterRun → Bool
may_pass m S r = not (is_nonempty r.between) || (list_all (is_sure m S) r.between && is_sure m S r.last)

-- the expressions of the filters among steps
abbrev pub filter_exprs : List Step → List Expr
filter_exprs [] = []
filter_exprs (Step.Filter e ∷ ss) = e ∷ filter_exprs ss
filter_exprs (s ∷ ss) = filter_exprs ss

exprs-append : (ss : List Step) (b : Expr) → filter_exprs (ss ++ Step.Filter b ∷ []) ≡ filter_exprs ss ++ b ∷ []
exprs-append [] b = refl
exprs-append (Step.Filter e ∷ ss) b = ap (λ l. e ∷ l) (exprs-append ss b)
exprs-append (_ ∷ ss) b = exprs-append ss b

-- a successor is not zero
more-than_zero : (k : ℕ) → (suc k == 0) ≡ false
more-than_zero k = go (suc k == 0) refl
  where
    go : (b : Bool) → (suc k == 0) ≡ b → b ≡ false
    go true e = absurd (let z : suc k ≡ 0 = eqb-true (suc k) 0 e in omega arith)
    go false e = refl

module _ (m : Model) (S : Shape) (test : Expr → Bool) where
  -- the nearest run, with these filters before it
  abbrev pub found_behind : List Expr → List Step → Option FilterRun
  found_behind es ss = find (λ r. test r.last) (filter (may_pass m S) (map (behind_filters es) (runs ss)))

  same-runs : (rs : List FilterRun) → map (behind_filters []) rs ≡ rs
  same-runs [] = refl
  same-runs (r ∷ rs) = ap (λ l. r ∷ l) (same-runs rs)

  -- nothing was passed yet
  pub found-start : (ss : List Step) → find (λ r. test r.last) (movable m S ss) ≡ found_behind [] ss
  found-start ss = ap (λ l. find (λ r. test r.last) (filter (may_pass m S) l)) (sym (same-runs (runs ss)))

  longer-runs : (es : List Expr) (b : Expr) (rs : List FilterRun) → map (behind_filters es) (map (longer b) rs) ≡ map (behind_filters (es ++ b ∷ [])) rs
  longer-runs es b [] = refl
  longer-runs es b (r ∷ rs) = λ i. (record r { between = sym (append_assoc es (b ∷ []) r.between) i }) ∷ longer-runs es b rs i

  first-filtered : (r : FilterRun) (rs : List FilterRun) → find (λ r. test r.last) (filter (may_pass m S) (r ∷ rs)) ≡ cond (may_pass m S r && test r.last) (Some r) (find (λ r. test r.last) (filter (may_pass m S) rs))
  first-filtered r rs = go (may_pass m S r)
    where
      go : (a : Bool) → find (λ r. test r.last) (cond a (r ∷ filter (may_pass m S) rs) (filter (may_pass m S) rs)) ≡ cond (a && test r.last) (Some r) (find (λ r. test r.last) (filter (may_pass m S) rs))
      go true = refl
      go false = refl

  -- the next filter passes, or else those behind it are searched
  pub found-next : (es : List Expr) (b : Expr) (ss : List Step) → found_behind es (Step.Filter b ∷ ss)
      ≡ cond (may_pass m S (record { between = es; last = b; rest = ss }) && test b) (Some (record { between = es; last = b; rest = ss })) (found_behind (es ++ b ∷ []) ss)
  found-next es b ss =
      first-filtered (record { between = es ++ []; last = b; rest = ss }) (map (behind_filters es) (map (longer b) (runs ss)))
      ∙ (λ i. cond (may_pass m S (record { between = append-nil es i; last = b; rest = ss }) && test b) (Some (record { between = append-nil es i; last = b; rest = ss }))
      (find (λ r. test r.last) (filter (may_pass m S) (longer-runs es b (runs ss) i))))

  -- behind a filter that is not sure nothing is found
  pub found-none : (es : List Expr) (ss : List Step) → list_all (is_sure m S) es ≡ false → found_behind es ss ≡ None
  found-none es ss h = none (runs ss)
    where
      blocked : (es : List Expr) (bs : List Expr) (z : Bool) → list_all (is_sure m S) es ≡ false → (not (is_nonempty (es ++ bs)) || (list_all (is_sure m S) (es ++ bs) && z)) ≡ false
      blocked [] bs z h = absurd (true≢false h)
      blocked (e ∷ es) bs z h = ap (λ a. a && z) (list_all-append (is_sure m S) (e ∷ es) bs ∙ ap (λ a. a && list_all (is_sure m S) bs) h)

      none : (rs : List FilterRun) → find (λ r. test r.last) (filter (may_pass m S) (map (behind_filters es) rs)) ≡ None
      none [] = refl
      none (r ∷ rs) =
          first-filtered (behind_filters es r) (map (behind_filters es) rs)
          ∙ ap (λ a. cond (a && test r.last) (Some (behind_filters es r)) (find (λ r. test r.last) (filter (may_pass m S) (map (behind_filters es) rs)))) (blocked es r.between (is_sure m S r.last) h)
          ∙ none rs

  -- no filter comes next
  pub found-other : (es : List Expr) (s : Step) (ss : List Step) → filtered_by s ≡ None → found_behind es (s ∷ ss) ≡ None
  found-other es (Step.Filter b) ss h = cc
  found-other es s ss h = refl

  -- ---- a search over steps: those that were passed, and those that are left

  -- the steps that were passed are sure filters, and what is found is found behind them
  pub record Searched (all passed left : List Step) : Type 0 where
    pub found : find (λ r. test r.last) (movable m S all) ≡ found_behind (filter_exprs passed) left
    pub sure : list_all (is_sure m S) (filter_exprs passed) ≡ true
    pub filters : length (filter_exprs passed) ≡ length passed

  pub searched-start : (all : List Step) → Searched all [] all
  searched-start all = record { found = found-start all; sure = refl; filters = refl }

  module _ (all passed left : List Step) (b : Expr) (s : Searched all passed (Step.Filter b ∷ left)) where
    abbrev run : FilterRun
    run = record { between = filter_exprs passed; last = b; rest = left }

    may-pass : (es : List Expr) (z : Bool) → list_all (is_sure m S) es ≡ true → (not (is_nonempty es) || (list_all (is_sure m S) es && z)) ≡ (not (is_nonempty es) || z)
    may-pass [] z h = refl
    may-pass (e ∷ es) z h = ap (λ a. a && z) h

    -- the next filter passes
    pub searched-here : (not (is_nonempty (filter_exprs passed)) || is_sure m S b) ≡ true → test b ≡ true → nearest m S test all ≡ Some (length passed, b)
    searched-here h t =
        ap (option_map place_and_filter) (s.found ∙ found-next (filter_exprs passed) b left
        ∙ (λ i. cond ((may-pass (filter_exprs passed) (is_sure m S b) s.sure ∙ h) i && t i) (Some run) (found_behind (filter_exprs passed ++ b ∷ []) left)))
        ∙ ap (λ n. Some (n, b)) s.filters

    searched-not : ((not (is_nonempty (filter_exprs passed)) || is_sure m S b) && test b) ≡ false → find (λ r. test r.last) (movable m S all) ≡ found_behind (filter_exprs passed ++ b ∷ []) left
    searched-not h =
        s.found ∙ found-next (filter_exprs passed) b left
        ∙ ap (λ a. cond a (Some run) (found_behind (filter_exprs passed ++ b ∷ []) left)) (ap (λ a. a && test b) (may-pass (filter_exprs passed) (is_sure m S b) s.sure) ∙ h)

    -- it does not pass, and is sure
    pub searched-past : ((not (is_nonempty (filter_exprs passed)) || is_sure m S b) && test b) ≡ false → is_sure m S b ≡ true → Searched all (passed ++ Step.Filter b ∷ []) left
    searched-past h u = record {
      found = searched-not h ∙ ap (λ es. found_behind es left) (sym (exprs-append passed b));
      sure = ap (list_all (is_sure m S)) (exprs-append passed b) ∙ list_all-append (is_sure m S) (filter_exprs passed) (b ∷ []) ∙ (λ i. s.sure i && (u i && true));
      filters = ap length (exprs-append passed b) ∙ length-append (filter_exprs passed) (b ∷ []) ∙ ap (λ n. n + 1) s.filters ∙ sym (length-append passed (Step.Filter b ∷ []));
    }

    -- it does not pass, and is not sure
    pub searched-stop : ((not (is_nonempty (filter_exprs passed)) || is_sure m S b) && test b) ≡ false → is_sure m S b ≡ false → find (λ r. test r.last) (movable m S all) ≡ None
    searched-stop h u =
        searched-not h ∙ found-none (filter_exprs passed ++ b ∷ []) left (list_all-append (is_sure m S) (filter_exprs passed) (b ∷ []) ∙ (λ i. s.sure i && (u i && true)))

  -- no filter comes next
  pub searched-other : (all passed left : List Step) (x : Step) → Searched all passed (x ∷ left) → filtered_by x ≡ None → find (λ r. test r.last) (movable m S all) ≡ None
  searched-other all passed left x s h = s.found ∙ found-other (filter_exprs passed) x left h

  -- ---- the search over the steps that the program has, one after another

  filter-is : (s : Step) (b : Expr) → filtered_by s ≡ Some b → s ≡ Step.Filter b
  filter-is (Step.Filter e) b h = ap Step.Filter (some_value h)
  filter-is s b h = none_or b h

  -- the first filter has none before it
  none-before : (es : List Expr) (n : ℕ) → length es ≡ n → (n == 0) ≡ not (is_nonempty es)
  none-before [] n e = ap (λ k. k == 0) (sym e)
  none-before (b ∷ es) n e = ap (λ k. k == 0) (sym e) ∙ more-than_zero (length es)

  module _ {X : Type 0} (f : X → Step) (xs : List X) (i : ℕ) (d : X) (h : i < length xs) (is : d ≡ get_or xs i d) (w : Searched (map f xs) (map f (take i xs)) (map f (drop i xs))) where
    here : Searched (map f xs) (map f (take i xs)) (f d ∷ map f (drop (i + 1) xs))
    here = subst (λ l. Searched (map f xs) (map f (take i xs)) l) (dropped-next f xs i d h is) w

    here_by : (b : Expr) → filtered_by (f d) ≡ Some b → Searched (map f xs) (map f (take i xs)) (Step.Filter b ∷ map f (drop (i + 1) xs))
    here_by b e = subst (λ s. Searched (map f xs) (map f (take i xs)) (s ∷ map f (drop (i + 1) xs))) (filter-is (f d) b e) here

    passed-length : length (map f (take i xs)) ≡ i
    passed-length = length-map (take i xs) f ∙ length-take-le i xs (omega arith)

    first-here : (i == 0) ≡ not (is_nonempty (filter_exprs (map f (take i xs))))
    first-here = none-before (filter_exprs (map f (take i xs))) i (w.filters ∙ passed-length)

    pub search-other : filtered_by (f d) ≡ None → None ≡ nearest m S test (map f xs)
    search-other e = sym (ap (option_map place_and_filter) (searched-other (map f xs) (map f (take i xs)) (map f (drop (i + 1) xs)) (f d) here e))

    pub search-here : (b : Expr) → filtered_by (f d) ≡ Some b → (((i == 0) || is_sure m S b) && test b) ≡ true → Some (i, b) ≡ nearest m S test (map f xs)
    search-here b e u =
        let p = and_parts ((i == 0) || is_sure m S b) (test b) u in
        ap (λ n. Some (n, b)) (sym passed-length)
        ∙ sym (searched-here (map f xs) (map f (take i xs)) (map f (drop (i + 1) xs)) b (here_by b e) (ap (λ a. a || is_sure m S b) (sym first-here) ∙ p.0) p.1)

    pub search-stop : (b : Expr) → filtered_by (f d) ≡ Some b → (((i == 0) || is_sure m S b) && test b) ≡ false → is_sure m S b ≡ false → None ≡ nearest m S test (map f xs)
    search-stop b e u v =
        sym (ap (option_map place_and_filter) (searched-stop (map f xs) (map f (take i xs)) (map f (drop (i + 1) xs)) b (here_by b e) (ap (λ a. (a || is_sure m S b) && test b) (sym first-here) ∙ u) v))

    pub search-past : (b : Expr) → filtered_by (f d) ≡ Some b → (((i == 0) || is_sure m S b) && test b) ≡ false → is_sure m S b ≡ true → Searched (map f xs) (map f (take (i + 1) xs)) (map f (drop (i + 1) xs))
    search-past b e u v =
        let t = searched-past (map f xs) (map f (take i xs)) (map f (drop (i + 1) xs)) b (here_by b e) (ap (λ a. (a || is_sure m S b) && test b) (sym first-here) ∙ u) v in
        subst (λ l. Searched (map f xs) l (map f (drop (i + 1) xs))) (ap (λ s. map f (take i xs) ++ s ∷ []) (sym (filter-is (f d) b e)) ∙ sym (mapped-next f xs i d h is)) t

  -- the search is at its end
  pub search-end : {X : Type 0} (f : X → Step) (xs : List X) (i : ℕ) → length xs ≤ i → Searched (map f xs) (map f (take i xs)) (map f (drop i xs)) → None ≡ nearest m S test (map f xs)
  search-end f xs i h w =
      let w' = subst (λ l. Searched (map f xs) (map f (take i xs)) (map f l)) (drop_of_length-le xs h) w in
      sym (ap (option_map place_and_filter) w'.found)

-- ---- the steps after a filter has passed a step

taken-filters : (es : List Expr) (ss : List Step) → take (length es) (map Step.Filter es ++ ss) ≡ map Step.Filter es
taken-filters [] ss = refl
taken-filters (e ∷ es) ss = ap (λ l. Step.Filter e ∷ l) (taken-filters es ss)

dropped-filters : (es : List Expr) (ss : List Step) → drop (length es) (map Step.Filter es ++ ss) ≡ ss
dropped-filters [] ss = refl
dropped-filters (e ∷ es) ss = dropped-filters es ss

dropped-one_more : (es : List Expr) (s : Step) (ss : List Step) → drop (suc (length es)) (map Step.Filter es ++ s ∷ ss) ≡ ss
dropped-one_more [] s ss = refl
dropped-one_more (e ∷ es) s ss = dropped-one_more es s ss

-- a list with one more is not empty
pub one-more : {X Y : Type 0} (f : X → Y) (xs ys : List X) (z : Y) → map f ys ≡ map f xs ++ z ∷ [] → 0 < length ys
one-more f xs ys z e =
    let a = length-map ys f in
    let n = length-append (map f xs) (z ∷ []) in
    let k = ap length e in
    omega (arith, a, n, k)

-- a list that has grown is not empty
pub grown-some : {X Y : Type 0} (f : X → Y) (xs ys : List X) (zs : List Y) → map f ys ≡ map f xs ++ zs → 0 < length xs → 0 < length ys
grown-some f xs ys zs e h =
    let a = length-map xs f in
    let b = length-map ys f in
    let n = length-append (map f xs) zs in
    let k = ap length e in
    omega (arith, a, b, n, k, h)

-- the steps that the program puts together
pub moved-parts : {X : Type 0} (f : X → Step) (s : Step) (xs : List X) (k : ℕ) (d : X) → k < length xs → d ≡ get_or xs k d
    → f d ∷ s ∷ map f (take k xs) ++ map f (take (length xs - (k + 1)) (drop (k + 1) xs)) ≡ moved s (map f xs) k
moved-parts f s xs k d h is =
    let n = length-drop (k + 1) xs in
    ap (λ l. f d ∷ s ∷ map f (take k xs) ++ map f l) (take_all (length xs - (k + 1)) (drop (k + 1) xs) (omega (arith, n)))
    ∙ sym (λ i. take 1 ((drop-map f k xs ∙ dropped-next f xs k d h is) i) ++ s ∷ take-map f k xs i ++ (ap (λ n. drop n (map f xs)) (sym (add-one k)) ∙ drop-map f (k + 1) xs) i)

-- a filter behind others passes the step
moved-run : (x : Step) (es : List Expr) (b : Expr) (ss : List Step) → moved x (map Step.Filter es ++ Step.Filter b ∷ ss) (length es) ≡ Step.Filter b ∷ x ∷ map Step.Filter es ++ ss
moved-run x es b ss =
    λ i. take 1 (dropped-filters es (Step.Filter b ∷ ss) i) ++ x ∷ taken-filters es (Step.Filter b ∷ ss) i ++ dropped-one_more es (Step.Filter b) ss i

module _ (m : Model) (S : Shape) (test : Expr → Bool) (x : Step) (ss : List Step) where
  run-of : (r : FilterRun) → find (λ r. test r.last) (movable m S ss) ≡ Some r → IsRunOf ss r
  run-of r e = found-each (IsRunOf ss) (λ r. test r.last) (movable m S ss) r (each-filter (IsRunOf ss) (may_pass m S) (runs ss) (runs-each ss)) e

  moved-by : (r : FilterRun) → IsRunOf ss r → moved x ss (length r.between) ≡ Step.Filter r.last ∷ behind x r
  moved-by r e = ap (λ l. moved x l (length r.between)) e ∙ moved-run x r.between r.last r.rest

  -- the nearest filter passes
  pub nearest-moved : (k : ℕ) (b : Expr) → Some (k, b) ≡ nearest m S test ss → Some (moved x ss k) ≡ passing m S test x ss
  nearest-moved k b e = go (find (λ r. test r.last) (movable m S ss)) refl e
    where
      go : (o : Option FilterRun) → find (λ r. test r.last) (movable m S ss) ≡ o → Some (k, b) ≡ option_map place_and_filter o → Some (moved x ss k) ≡ option_map (λ r. Step.Filter r.last ∷ behind x r) o
      go None is e = none_or (k, b) (sym e)
      go (Some r) is e = ap (λ n. Some (moved x ss n)) (ap (λ y. y.0) (some_value e)) ∙ ap Some (moved-by r (run-of r is))

-- there is none
pub nearest-none : (m : Model) (S : Shape) (test : Expr → Bool) (ss : List Step) → None ≡ nearest m S test ss → (made : FilterRun → List Step) → None ≡ option_map made (find (λ r. test r.last) (movable m S ss))
nearest-none m S test ss e made = go (find (λ r. test r.last) (movable m S ss)) e
  where
    go : (o : Option FilterRun) → ◌≡◌ {A = Option (ℕ × Expr)} None (option_map place_and_filter o) → ◌≡◌ {A = Option (List Step)} None (option_map made o)
    go None e = refl
    go (Some r) e = none_or (place_and_filter r) e

-- ---- the steps after a filter has gone into a step

-- the steps that the program puts together
pub entered-parts : {X : Type 0} (f : X → Step) (s : Step) (xs : List X) (k : ℕ) → k < length xs
    → s ∷ map f (take k xs) ++ map f (take (length xs - (k + 1)) (drop (k + 1) xs)) ≡ entered s (map f xs) k
entered-parts f s xs k h =
    let n = length-drop (k + 1) xs in
    ap (λ l. s ∷ map f (take k xs) ++ map f l) (take_all (length xs - (k + 1)) (drop (k + 1) xs) (omega (arith, n)))
    ∙ sym (λ i. s ∷ take-map f k xs i ++ (ap (λ n. drop n (map f xs)) (sym (add-one k)) ∙ drop-map f (k + 1) xs) i)

-- a filter behind others goes in
entered-run : (x : Step) (es : List Expr) (b : Expr) (ss : List Step) → entered x (map Step.Filter es ++ Step.Filter b ∷ ss) (length es) ≡ x ∷ map Step.Filter es ++ ss
entered-run x es b ss = λ i. x ∷ taken-filters es (Step.Filter b ∷ ss) i ++ dropped-one_more es (Step.Filter b) ss i

-- the nearest filter goes in: what is made of the step depends on what the filter tests
pub nearest-entered : (m : Model) (S : Shape) (test : Expr → Bool) (ss : List Step) (k : ℕ) (b : Expr) → Some (k, b) ≡ nearest m S test ss → (made : Expr → Step)
    → Some (entered (made b) ss k) ≡ option_map (λ r. behind (made r.last) r) (find (λ r. test r.last) (movable m S ss))
nearest-entered m S test ss k b e made = go (find (λ r. test r.last) (movable m S ss)) refl e
  where
    go : (o : Option FilterRun) → find (λ r. test r.last) (movable m S ss) ≡ o → Some (k, b) ≡ option_map place_and_filter o → Some (entered (made b) ss k) ≡ option_map (λ r. behind (made r.last) r) o
    go None is e = none_or (k, b) (sym e)
    go (Some r) is e =
        let y = some_value e in
        ap (λ y. Some (entered (made y.1) ss y.0)) y
        ∙ ap Some (ap (λ l. entered (made r.last) l (length r.between)) (run-of m S test (made r.last) ss r is) ∙ entered-run (made r.last) r.between r.last r.rest)
