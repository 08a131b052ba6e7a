-- Of the nearest filter that may pass and meets a condition, those between do not meet it.
use Rattle.std.proofs.Common.{◌≡◌, refl, sym, ◌∙◌, ap, subst, Bool, true, false, not, ◌&&◌, ◌||◌, List, [], ◌∷◌, Some, map, filter, find, cond, inl, inr, ◌⊎◌}
use Rattle.std.specs.List.{list_all}
use Rattle.edm_values.specs.Lists.{is_nonempty}
use Rattle.edm_values.proofs.EachLemmas.{Each}
use Rattle.edm_values.proofs.OptionFacts.{mapped, none_or}
use Rattle.edm_values.proofs.SearchFacts.{chosen, find-mapped}
use Rattle.edm_model.specs.Models.{Model}
use Rattle.apply_ast.specs.Trees.{Expr, Step}
use Rattle.context_typing.specs.Shapes.{Shape}
use Rattle.context_typing.specs.Typing.{is_sure}
use Rattle.rewrite_laws.proofs.JoinedResults.{filter-mapped}
use Rattle.rewrite_laws.specs.Rewrites.{FilterRun, longer, movable, runs}

-- a run of filters
abbrev pub run_at : List Expr → Expr → List Step → FilterRun
run_at es b ss = record { between = es; last = b; rest = ss }

none-kept : {X : Type 0} (t : X → Bool) → ((x : X) → t x ≡ false) → (xs : List X) → filter t xs ≡ []
none-kept t h [] = refl
none-kept t h (x ∷ xs) = ap (λ b. cond b (x ∷ filter t xs) (filter t xs)) (h x) ∙ none-kept t h xs

module _ (m : Model) (S : Shape) (test : Expr → Bool) where
  -- none of the filters passes the test
  abbrev pub Refused : List Expr → Type 0
  Refused es = Each (λ e. test e ≡ false) es

  -- a run whose filters are all sure
  abbrev all_sure : FilterRun → Bool
  all_sure r = list_all (is_sure m S) r.between && is_sure m S r.last

  abbrev last_passes : FilterRun → Bool
  last_passes r = test r.last

  -- behind a sure filter the runs of sure filters are those behind it, and behind another there is none
  sure-runs : (t : FilterRun → Bool) (b : Expr) → ((r : FilterRun) → t (longer b r) ≡ all_sure (longer b r)) → (rs : List FilterRun) → filter t (map (longer b) rs) ≡ cond (is_sure m S b) (map (longer b) (filter all_sure rs)) []
  sure-runs t b h rs = go (is_sure m S b) refl
    where
      go : (z : Bool) → is_sure m S b ≡ z → filter t (map (longer b) rs) ≡ cond z (map (longer b) (filter all_sure rs)) []
      go true e = filter-mapped (longer b) t all_sure (λ r. h r ∙ ap (λ z. (z && list_all (is_sure m S) r.between) && is_sure m S r.last) e) rs
      go false e =
          filter-mapped (longer b) t (λ r. false) (λ r. h r ∙ ap (λ z. (z && list_all (is_sure m S) r.between) && is_sure m S r.last) e) rs
          ∙ ap (map (longer b)) (none-kept (λ (r : FilterRun). false) (λ r. refl) rs)

  -- the filter at the front is found, or one of those behind it
  front-refused : (b : Expr) (ss : List Step) (y : Bool) (r : FilterRun) → ((r : FilterRun) → find last_passes (filter all_sure (runs ss)) ≡ Some r → Refused r.between)
      → find last_passes (run_at [] b ss ∷ cond y (map (longer b) (filter all_sure (runs ss))) []) ≡ Some r → Refused r.between
  front-refused b ss y r f e = go (chosen (test b) (run_at [] b ss) r (find last_passes (cond y (map (longer b) (filter all_sure (runs ss))) [])) e)
    where
      later : (y : Bool) → test b ≡ false → find last_passes (cond y (map (longer b) (filter all_sure (runs ss))) []) ≡ Some r → Refused r.between
      later true t h =
          let x = mapped (longer b) (find last_passes (filter all_sure (runs ss))) r (sym (find-mapped last_passes last_passes (longer b) (λ r. refl) (filter all_sure (runs ss))) ∙ h) in
          subst (λ r. Refused r.between) x.2 (t, f x.0 x.1)
      later false t h = none_or r h

      go : ((test b ≡ true) × (run_at [] b ss ≡ r)) ⊎ ((test b ≡ false) × (find last_passes (cond y (map (longer b) (filter all_sure (runs ss))) []) ≡ Some r)) → Refused r.between
      go (inl h) = subst (λ r. Refused r.between) h.1 tt
      go (inr h) = later y h.0 h.1

  -- among runs of sure filters
  sure-refused : (ss : List Step) (r : FilterRun) → find last_passes (filter all_sure (runs ss)) ≡ Some r → Refused r.between
  sure-refused [] r e = none_or r e
  sure-refused (Step.Filter b ∷ ss) r e =
      let P : List FilterRun → Type 0 = λ l. find last_passes (cond (is_sure m S b) (run_at [] b ss ∷ l) l) ≡ Some r in
      go (is_sure m S b) (sure-refused ss) (subst P (sure-runs all_sure b (λ r. refl) (runs ss)) e)
    where
      go : (y : Bool) → ((r : FilterRun) → find last_passes (filter all_sure (runs ss)) ≡ Some r → Refused r.between)
          → find last_passes (cond y (run_at [] b ss ∷ cond y (map (longer b) (filter all_sure (runs ss))) []) (cond y (map (longer b) (filter all_sure (runs ss))) [])) ≡ Some r → Refused r.between
      go true f h = front-refused b ss true r f h
      go false f h = none_or r h
  sure-refused (s ∷ ss) r e = none_or r e

  -- of the nearest filter that may pass and passes the test, those between do not pass it
  pub nearest-refused : (ss : List Step) (r : FilterRun) → find last_passes (movable m S ss) ≡ Some r → Refused r.between
  nearest-refused [] r e = none_or r e
  nearest-refused (Step.Filter b ∷ ss) r e =
      let may : FilterRun → Bool = λ r. not (is_nonempty r.between) || (list_all (is_sure m S) r.between && is_sure m S r.last) in
      let P : List FilterRun → Type 0 = λ l. find last_passes (run_at [] b ss ∷ l) ≡ Some r in
      front-refused b ss (is_sure m S b) r (sure-refused ss) (subst P (sure-runs may b (λ r. refl) (runs ss)) e)
  nearest-refused (s ∷ ss) r e = none_or r e
