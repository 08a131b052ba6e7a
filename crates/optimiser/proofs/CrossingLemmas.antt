-- Filters that cross concatenations.
use Rattle.std.proofs.Common.{◌≡◌, refl, sym, ◌∙◌, ap, ℕ, ◌+◌, ◌<◌, ◌≤◌, true, false, ◌&&◌, List, [], ◌∷◌, ◌++◌, Bool, map, take, drop, length, get_or}
use Rattle.std.specs.List.{list_all}
use Rattle.std.proofs.lemmas.Bool.{and_from, and_parts}
use Rattle.std.proofs.lemmas.List.{append_assoc, drop_all, map-append, take-append-drop, take_all}
use Rattle.edm_values.proofs.ListFacts.{all-append, all-parts}
use Rattle.edm_model.specs.Models.{Model}
use Rattle.apply_ast.specs.Trees.{Expr, Pipe, Pipes, Step, pipe}
use Rattle.context_typing.specs.Shapes.{Shape}
use Rattle.context_typing.specs.Typing.{Customs, after}
use Rattle.rewrite_forms.proofs.CutLists.{dropped-next, mapped-next, mapped-whole}
use Rattle.rewrite_laws.specs.Rewrites.{branches, is_identity, pipe_or_identity}
use Rattle.walk_laws.specs.Crossing.{all_cross, branch_crossed, crosses, is_sure_test, step_crossed, sure_test}
use Rattle.walk_laws.specs.Factored.{is_one}
use Rattle.walk_laws.specs.FiltersOut.{gives_alone}
use Rattle.walk_laws.specs.Walks.{All, shape_behind, step_lets, step_passed}
use Rattle.optimiser.specs.CrossingForms.{crosses_by, goes, moved}
use Rattle.optimiser.specs.declared.crossing.Crossing.{Crossing}
use Rattle.optimiser.specs.declared.crossing.Way.{Way}
use Rattle.optimiser.proofs.KnownLemmas.{behind-append}

module _ (m : Model) (c : Customs) where
  pub identity-crossed : (S : Shape) (s : Step) (e : Expr) → is_identity s ≡ true → step_crossed m c S s e ≡ true
  identity-crossed S Step.Identity e h = refl
  identity-crossed S s e h = cc

  pub lets-crossed : (S : Shape) (s : Step) (e : Expr) → step_lets m c S s ≡ true → step_passed All s (sure_test e) ≡ true → step_crossed m c S s e ≡ true
  lets-crossed S Step.Identity e h k = refl
  lets-crossed S s e h k = and_from (step_lets m c S s) (step_passed All s (sure_test e)) h k

  -- one more step of a branch
  pub next-crossed : {X : Type 0} (f : X → Step) (xs : List X) (i : ℕ) (d : X) (S S' : Shape) (e : Expr) → i < length xs → d ≡ get_or xs i d → step_crossed m c S (f d) e ≡ true → S' ≡ after m c S (f d)
      → branch_crossed m c S' (pipe (map f (drop (i + 1) xs))) e ≡ true → branch_crossed m c S (pipe (map f (drop i xs))) e ≡ true
  next-crossed f xs i d S S' e h is one next more =
      ap (λ l. branch_crossed m c S (pipe l) e) (dropped-next f xs i d h is)
      ∙ and_from (step_crossed m c S (f d) e) (branch_crossed m c (after m c S (f d)) (pipe (map f (drop (i + 1) xs))) e) one (ap (λ Z. branch_crossed m c Z (pipe (map f (drop (i + 1) xs))) e) (sym next) ∙ more)

  -- behind all steps of a branch
  pub end-crossed : {X : Type 0} (f : X → Step) (xs : List X) (i : ℕ) (S : Shape) (e : Expr) → length xs ≤ i → is_sure_test m S e ≡ true → branch_crossed m c S (pipe (map f (drop i xs))) e ≡ true
  end-crossed f xs i S e end sure = ap (λ l. branch_crossed m c S (pipe (map f l)) e) (drop_all i xs end) ∙ sure

  -- one more branch
  pub more-crossed : {X : Type 0} (f : X → Pipe) (xs : List X) (i : ℕ) (d : X) (S : Shape) (e : Expr) (ws : List Way) (w : Way) → i < length xs → d ≡ get_or xs i d
      → (list_all (goes m e) ws ≡ true → list_all (λ p. branch_crossed m c S p e) (map f (take i xs)) ≡ true) → (goes m e w ≡ true → branch_crossed m c S (f d) e ≡ true)
      → list_all (goes m e) (ws ++ w ∷ []) ≡ true → list_all (λ p. branch_crossed m c S p e) (map f (take (i + 1) xs)) ≡ true
  more-crossed f xs i d S e ws w h is so-far one all =
      let t = all-parts (goes m e) ws (w ∷ []) all in
      ap (list_all (λ p. branch_crossed m c S p e)) (mapped-next f xs i d h is)
      ∙ all-append (λ p. branch_crossed m c S p e) (map f (take i xs)) (f d ∷ []) (so-far t.0) (and_from (branch_crossed m c S (f d) e) true (one (and_parts (goes m e w) true t.1).0) refl)

  -- filters that go through all branches cross the concatenation
  pub all-crossing : (S : Shape) (ps : Pipes) (ws : List Way) (fs : List Step) → ((e : Expr) → list_all (goes m e) ws ≡ true → list_all (λ p. branch_crossed m c S p e) (branches ps) ≡ true) → list_all (crosses_by m S ws) fs ≡ true → list_all (crosses m c S ps) fs ≡ true
  all-crossing S ps ws [] g h = refl
  all-crossing S ps ws (Step.Filter e ∷ fs) g h =
      let t = and_parts (is_one e && is_sure_test m S e && list_all (goes m e) ws) (list_all (crosses_by m S ws) fs) h in
      let u = and_parts (is_one e && is_sure_test m S e) (list_all (goes m e) ws) t.0 in
      and_from (crosses m c S ps (Step.Filter e)) (list_all (crosses m c S ps) fs) (and_from (is_one e && is_sure_test m S e) (list_all (λ p. branch_crossed m c S p e) (branches ps)) u.0 (g e u.1)) (all-crossing S ps ws fs g t.1)
  all-crossing S ps ws (s ∷ fs) g h = cc

  -- the shape behind one more step
  pub behind-more : {X : Type 0} (f : X → Step) (xs : List X) (i : ℕ) (d : X) (S Z Z' : Shape) → i < length xs → d ≡ get_or xs i d → Z ≡ shape_behind m c S (pipe (map f (take i xs))) → Z' ≡ after m c Z (f d) → Z' ≡ shape_behind m c S (pipe (map f (take (i + 1) xs)))
  behind-more f xs i d S Z Z' h is at next =
      next ∙ ap (λ Y. after m c Y (f d)) at ∙ sym (behind-append m c (map f (take i xs)) (f d) S) ∙ ap (λ l. shape_behind m c S (pipe l)) (sym (mapped-next f xs i d h is))

-- what stands around filters behind a step
pub cut-whole : {X : Type 0} (f : X → Step) (xs : List X) (i n : ℕ) (d : X) → i < length xs → d ≡ get_or xs i d → map f xs ≡ map f (take i xs) ++ f d ∷ (map f (take n (drop (i + 1) xs)) ++ map f (drop n (drop (i + 1) xs)))
cut-whole f xs i n d h is =
    let r = drop (i + 1) xs in
    mapped-whole f xs i d h is ∙ ap (λ l. map f (take i xs) ++ f d ∷ l) (ap (map f) (sym (take-append-drop n r)) ∙ map-append f (take n r) (drop n r))

-- filters, a step and others, put behind steps one after the other
pub put-moved : (as' fs zs : List Step) (s : Step) → as' ++ fs ++ s ∷ [] ++ zs ≡ as' ++ (fs ++ s ∷ zs)
put-moved as' fs zs s = append_assoc (as' ++ fs) (s ∷ []) zs ∙ append_assoc as' fs (s ∷ zs)

-- one more filter
pub more-crossing : {X : Type 0} (f : X → Step) (p : Step → Bool) (xs : List X) (i : ℕ) (d : X) → i < length xs → d ≡ get_or xs i d → list_all p (map f (take i xs)) ≡ true → p (f d) ≡ true → list_all p (map f (take (i + 1) xs)) ≡ true
more-crossing f p xs i d h is so-far one = ap (list_all p) (mapped-next f xs i d h is) ∙ all-append p (map f (take i xs)) (f d ∷ []) so-far (and_from (p (f d)) true one refl)

-- the steps are not none
pub long-moved : (as' fs : List Step) (s : Step) (zs : List Step) → pipe_or_identity (as' ++ (fs ++ s ∷ zs)) ≡ pipe (as' ++ (fs ++ s ∷ zs))
long-moved [] [] s zs = refl
long-moved [] (x ∷ fs) s zs = refl
long-moved (x ∷ as') fs s zs = refl
