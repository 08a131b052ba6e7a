-- What is known of steps: shapes that are told the same, and lists of steps.
use Rattle.std.proofs.Common.{◌≡◌, subst, add-one, arith, drop-cons, refl, sym, ◌∙◌, ap, ℕ, zero, suc, ◌+◌, ◌<◌, ◌==◌, Bool, true, false, ◌&&◌, List, [], ◌∷◌, ◌++◌, drop, get_or, length, map, take, Option, Some, None}
use Rattle.std.specs.Prelude.{IfSome, option_and_then, option_map, is_some, unwrap_or, if◌then◌else◌}
use Rattle.std.specs.List.{list_all}
use Rattle.std.specs.Global.{Vec}
use Rattle.std.specs.Cmp.Lexicographic.{pointwise}
use Rattle.std.proofs.lemmas.Bool.{and_from, and_parts, eq-eqb, eqb-true}
use Rattle.edm_values.specs.Lists.{all_some}
use Rattle.edm_values.specs.declared.EdmType.{EdmType}
use Rattle.edm_values.proofs.OptionFacts.{some_value}
use Rattle.edm_values.proofs.SameTexts.{lists_self, same_lists}
use Rattle.edm_model.specs.Models.{Model}
use Rattle.edm_model.specs.Soundness.{IsSound}
use Rattle.apply_ast.specs.Trees.{Pipe, Step, pipe, is_long}
use Rattle.apply_ast.specs.Views.{pipes_from}
use Rattle.context_typing.specs.Paths.{is_none_or, same_path}
use Rattle.context_typing.specs.Shapes.{ColumnShape, PrefixShape, RootShape, Shape}
use Rattle.context_typing.specs.ShapeTypes.{has_types}
use Rattle.context_typing.specs.Typing.{Customs, after, branch_shapes, concat_shape, step_shape, steps_shape}
use Rattle.context_typing.proofs.PathLemmas.{path-self, same_paths}
use Rattle.context_typing.proofs.TypesKept.{step-types}
use Rattle.context_typing.proofs.TypingEquations.{step_shape-Concat}
use Rattle.rewrite_forms.proofs.CutLists.{dropped-next, mapped-next}
use Rattle.rewrite_laws.specs.Rewrites.{branches}
use Rattle.rewrite_laws.specs.TreeEquality.{option_same, same_bool}
use Rattle.rewrite_laws.proofs.SameExpressions.{same-bool}
use Rattle.walk_laws.specs.Walks.{shape_behind}
use Rattle.optimiser.specs.KnownSteps.{are_known, branches_known, column_same, ends_known, inside_known, is_behind, is_concat, is_known, prefix_same, root_same, shape_same, type_same}
use Rattle.optimiser.proofs.TypedInside.{chain-there}
use Rattle.optimiser.specs.WalkForms.{branches_typed}
use Rattle.optimiser.specs.declared.known.Known.{Known, out-Known}

-- ---- shapes that are told the same

bool-self : (a : Bool) → same_bool a a ≡ true
bool-self true = refl
bool-self false = refl

number-self : (n : ℕ) → (n == n) ≡ true
number-self n = eq-eqb n n refl

type-same : (a b : EdmType) → type_same a b ≡ true → a ≡ b
type-same EdmType.Bool EdmType.Bool e = refl
type-same EdmType.Int EdmType.Int e = refl
type-same (EdmType.Dec s p) (EdmType.Dec s' p') e = let x = and_parts (s == s') _ e in λ i. EdmType.Dec (eqb-true s s' x.0 i) (eqb-true p p' x.1 i)
type-same EdmType.Text EdmType.Text e = refl
type-same EdmType.Day EdmType.Day e = refl
type-same _ _ e = cc

type-self : (a : EdmType) → type_same a a ≡ true
type-self EdmType.Bool = refl
type-self EdmType.Int = refl
type-self (EdmType.Dec s p) = and_from _ _ (number-self s) (number-self p)
type-self EdmType.Text = refl
type-self EdmType.Day = refl

root-same : (x y : RootShape) → root_same x y ≡ true → x ≡ y
root-same x y e = let p = and_parts (x.of == y.of) _ e in λ i. record { of = eqb-true x.of y.of p.0 i; absent = same-bool x.absent y.absent p.1 i }

root-self : (x : RootShape) → root_same x x ≡ true
root-self x = and_from _ _ (number-self x.of) (bool-self x.absent)

roots-same : (x y : Option RootShape) → option_same root_same x y ≡ true → x ≡ y
roots-same None None e = refl
roots-same (Some x) (Some y) e = ap Some (root-same x y e)
roots-same None (Some y) e = cc
roots-same (Some x) None e = cc

roots-self : (x : Option RootShape) → option_same root_same x x ≡ true
roots-self None = refl
roots-self (Some x) = root-self x

prefix-same : (x y : PrefixShape) → prefix_same x y ≡ true → x ≡ y
prefix-same x y e =
    let p = and_parts (same_path x.path y.path && x.of == y.of) _ e in
    let q = and_parts (same_path x.path y.path) _ p.0 in
    λ i. record { path = same_paths x.path y.path q.0 i; of = eqb-true x.of y.of q.1 i; absent = same-bool x.absent y.absent p.1 i }

prefix-self : (x : PrefixShape) → prefix_same x x ≡ true
prefix-self x = and_from _ _ (and_from _ _ (path-self x.path) (number-self x.of)) (bool-self x.absent)

column-same : (x y : ColumnShape) → column_same x y ≡ true → x ≡ y
column-same x y e =
    let p = and_parts _ (same_bool x.risky y.risky) e in
    let q = and_parts _ (same_bool x.absent y.absent) p.0 in
    let r = and_parts _ (same_bool x.declared y.declared) q.0 in
    let s = and_parts (same_path x.path y.path) _ r.0 in
    λ i. record { path = same_paths x.path y.path s.0 i; kind = type-same x.kind y.kind s.1 i; declared = same-bool x.declared y.declared r.1 i; absent = same-bool x.absent y.absent q.1 i; risky = same-bool x.risky y.risky p.1 i }

column-self : (x : ColumnShape) → column_same x x ≡ true
column-self x = and_from _ _ (and_from _ _ (and_from _ _ (and_from _ _ (path-self x.path) (type-self x.kind)) (bool-self x.declared)) (bool-self x.absent)) (bool-self x.risky)

shape-same : (S T : Shape) → shape_same S T ≡ true → S ≡ T
shape-same S T e =
    let p = and_parts _ (pointwise column_same S.columns T.columns) e in
    let q = and_parts (option_same root_same S.root T.root) _ p.0 in
    λ i. record { root = roots-same S.root T.root q.0 i; prefixes = same_lists prefix_same prefix-same S.prefixes T.prefixes q.1 i; columns = same_lists column_same column-same S.columns T.columns p.1 i }

shape-self : (S : Shape) → shape_same S S ≡ true
shape-self S = and_from _ _ (and_from _ _ (roots-self S.root) (lists_self prefix_same prefix-self S.prefixes)) (lists_self column_same column-self S.columns)

-- a shape that is given is this one
pub kept-is : (o : Option Shape) (S : Shape) → IfSome o (λ Z. Z ≡ S) → (Z : Shape) → o ≡ Some Z → Z ≡ S
kept-is None S h Z e = cc
kept-is (Some Y) S h Z e = sym (some_value e) ∙ h

-- a list that a loop makes, with one element more
pub one-more : {X Y : Type 0} (g : X → Y) (xs : List X) (i : ℕ) (d : X) (ys : List Y) (y : Y) → i < length xs → d ≡ get_or xs i d → ys ≡ map g (take i xs) → y ≡ g d → ys ++ y ∷ [] ≡ map g (take (i + 1) xs)
one-more g xs i d ys y h is so e = (λ k. so k ++ e k ∷ []) ∙ sym (mapped-next g xs i d h is)

module _ (m : Model) (c : Customs) where
  -- ---- typed pipelines

  -- the shape behind a typed pipeline
  pub typed-behind : (p : Pipe) (S : Shape) → is_some (steps_shape m c S p) ≡ true → steps_shape m c S p ≡ Some (shape_behind m c S p)
  unfolding steps_shape
  typed-behind Pipe.End S h = refl
  typed-behind (Pipe.Then s p) S h = go (typed-behind p) (step_shape m c S s) refl h
    where
      go : ((Z : Shape) → is_some (steps_shape m c Z p) ≡ true → steps_shape m c Z p ≡ Some (shape_behind m c Z p))
          → (o : Option Shape) → step_shape m c S s ≡ o → is_some (option_and_then (λ S'. steps_shape m c S' p) o) ≡ true → option_and_then (λ S'. steps_shape m c S' p) o ≡ Some (shape_behind m c (unwrap_or (step_shape m c S s) S) p)
      go rest None e h = cc
      go rest (Some Z) e h = rest Z h ∙ ap (λ o. Some (shape_behind m c (unwrap_or o S) p)) (sym e)

  -- the shapes behind typed branches
  pub branches-behind : (S : Shape) (ps : List Pipe) → is_some (all_some (branch_shapes m c S (pipes_from ps))) ≡ true → all_some (branch_shapes m c S (pipes_from ps)) ≡ Some (map (shape_behind m c S) ps)
  unfolding steps_shape
  branches-behind S [] h = refl
  branches-behind S (p ∷ ps) h = long (λ t. branches-behind S ps t) (is_long p) h
    where
      IsRest : Type 0
      IsRest = is_some (all_some (branch_shapes m c S (pipes_from ps))) ≡ true → all_some (branch_shapes m c S (pipes_from ps)) ≡ Some (map (shape_behind m c S) ps)

      more : IsRest → (r : Option (List Shape)) → r ≡ all_some (branch_shapes m c S (pipes_from ps)) → (Z : Shape) → is_some (option_map (λ Ss. Z ∷ Ss) r) ≡ true → option_map (λ Ss. Z ∷ Ss) r ≡ Some (Z ∷ map (shape_behind m c S) ps)
      more rest None e Z h = cc
      more rest (Some Ss) e Z h = ap (option_map (λ Ss. Z ∷ Ss)) (e ∙ rest (sym (ap is_some e)))

      typed : IsRest → (o : Option Shape) → steps_shape m c S p ≡ o → is_some (all_some (o ∷ branch_shapes m c S (pipes_from ps))) ≡ true → all_some (o ∷ branch_shapes m c S (pipes_from ps)) ≡ Some (shape_behind m c S p ∷ map (shape_behind m c S) ps)
      typed rest None e h = cc
      typed rest (Some Z) e h =
          more rest (all_some (branch_shapes m c S (pipes_from ps))) refl Z h
          ∙ ap (λ o. Some (unwrap_or o Z ∷ map (shape_behind m c S) ps)) (sym e ∙ typed-behind p S (ap is_some e))

      long : IsRest → (b : Bool) → is_some (all_some ((if b then steps_shape m c S p else None) ∷ branch_shapes m c S (pipes_from ps))) ≡ true
          → all_some ((if b then steps_shape m c S p else None) ∷ branch_shapes m c S (pipes_from ps)) ≡ Some (shape_behind m c S p ∷ map (shape_behind m c S) ps)
      long rest true h = typed rest (steps_shape m c S p) refl h
      long rest false h = cc

  -- the same as a walk asks for them
  pub all-behind : (S : Shape) (ps : List Pipe) → branches_typed m c S ps ≡ true → all_some (map (steps_shape m c S) ps) ≡ Some (map (shape_behind m c S) ps)
  all-behind S [] h = refl
  all-behind S (p ∷ ps) h =
      let x = and_parts (is_some (steps_shape m c S p)) _ h in
      ap (λ o. all_some (o ∷ map (steps_shape m c S) ps)) (typed-behind p S x.0) ∙ ap (option_map (λ Ss. shape_behind m c S p ∷ Ss)) (all-behind S ps x.1)

  -- the shape behind a typed concatenation
  pub concat-behind : (S : Shape) (ps : List Pipe) (Ss : List Shape) (s : Step) → s ≡ Step.Concat (pipes_from ps) → is_some (step_shape m c S s) ≡ true → Ss ≡ map (shape_behind m c S) ps → step_shape m c S s ≡ concat_shape m Ss
  concat-behind S ps Ss s e typed ends =
      let whole : step_shape m c S s ≡ option_and_then (concat_shape m) (all_some (branch_shapes m c S (pipes_from ps))) = ap (step_shape m c S) e ∙ step_shape-Concat m c S (pipes_from ps) in
      whole ∙ ap (option_and_then (concat_shape m)) (branches-behind S ps (chain-there (concat_shape m) _ (sym (ap is_some whole) ∙ typed)) ∙ ap Some (sym ends))

  pub concat-after : (S : Shape) (ps : List Pipe) (Ss : List Shape) (s : Step) → s ≡ Step.Concat (pipes_from ps) → is_some (step_shape m c S s) ≡ true → Ss ≡ map (shape_behind m c S) ps → unwrap_or (concat_shape m Ss) S ≡ after m c S s
  concat-after S ps Ss s e typed ends = ap (λ o. unwrap_or o S) (sym (concat-behind S ps Ss s e typed ends))

  -- the types of the shape behind a typed step
  pub after-types : IsSound m → (S : Shape) (s : Step) → has_types m S ≡ true → is_some (step_shape m c S s) ≡ true → has_types m (after m c S s) ≡ true
  after-types sound S s types typed = go (step_shape m c S s) refl
    where
      go : (o : Option Shape) → step_shape m c S s ≡ o → has_types m (unwrap_or o S) ≡ true
      go None e = types
      go (Some Z) e = step-types m c sound s S Z types e

  -- the shapes at the ends of branches
  pub ends-of : {X : Type 0} (S : Shape) (f : X → Pipe) (xs : List X) → map (λ x. shape_behind m c S (f x)) xs ≡ map (shape_behind m c S) (map f xs)
  ends-of S f [] = refl
  ends-of S f (x ∷ xs) = ap (λ l. shape_behind m c S (f x) ∷ l) (ends-of S f xs)

  -- ---- one step

  pub behind-is : (S : Shape) (s : Step) (k : Known) (S' : Shape) → is_known m c S s k ≡ true → (out-Known k).behind ≡ Some S' → (S' ≡ after m c S s) × (has_types m S' ≡ true)
  behind-is S s k S' h e =
      let x = and_parts _ (inside_known m c S s (out-Known k).inside.items) h in
      let y = and_parts (is_none_or (is_behind m c S s) (out-Known k).behind) _ x.0 in
      let z = and_parts (has_types m S') _ (sym (ap (is_none_or (is_behind m c S s)) e) ∙ y.0) in
      (sym (shape-same (after m c S s) S' z.1), z.0)

  pub known-ends : (S : Shape) (s : Step) (k : Known) → is_known m c S s k ≡ true → ends_known m c S s (out-Known k).ends.items ≡ true
  known-ends S s k h = (and_parts (is_none_or (is_behind m c S s) (out-Known k).behind) _ (and_parts _ (inside_known m c S s (out-Known k).inside.items) h).0).1

  pub known-inside : (S : Shape) (s : Step) (k : Known) → is_known m c S s k ≡ true → inside_known m c S s (out-Known k).inside.items ≡ true
  known-inside S s k h = (and_parts _ (inside_known m c S s (out-Known k).inside.items) h).1

  behind-known : (S : Shape) (s : Step) (o : Option Shape) (S' : Shape) → S' ≡ after m c S s → has_types m S' ≡ true → ((Z : Shape) → o ≡ Some Z → Z ≡ S') → is_none_or (is_behind m c S s) o ≡ true
  behind-known S s None S' e types h = refl
  behind-known S s (Some Z) S' e types h =
      let same : Z ≡ after m c S s = h Z refl ∙ e in
      and_from _ _ (ap (has_types m) (h Z refl) ∙ types) (ap (shape_same (after m c S s)) same ∙ shape-self (after m c S s))

  unbranched-ends : (S : Shape) (s : Step) (Ss : List Shape) → is_concat s ≡ false → ends_known m c S s Ss ≡ true
  unbranched-ends S (Step.Concat ps) Ss h = cc
  unbranched-ends S s Ss h = refl

  unbranched-inside : (S : Shape) (s : Step) (ls : List (Vec Known)) → is_concat s ≡ false → inside_known m c S s ls ≡ true
  unbranched-inside S (Step.Concat ps) ls h = cc
  unbranched-inside S s ls h = refl

  -- a step that is no concatenation
  pub unbranched-known : (S : Shape) (s : Step) (k : Known) (o : Option Shape) (S' : Shape) → is_concat s ≡ false → (out-Known k).behind ≡ o → S' ≡ after m c S s → has_types m S' ≡ true → ((Z : Shape) → o ≡ Some Z → Z ≡ S') → is_known m c S s k ≡ true
  unbranched-known S s k o S' plain is e types h =
      and_from _ _ (and_from _ _ (ap (is_none_or (is_behind m c S s)) is ∙ behind-known S s o S' e types h) (unbranched-ends S s _ plain)) (unbranched-inside S s _ plain)

  ends-self : (S : Shape) (ps : List Pipe) → pointwise shape_same (map (shape_behind m c S) ps) (map (shape_behind m c S) ps) ≡ true
  ends-self S ps = lists_self shape_same shape-self (map (shape_behind m c S) ps)

  pub branches-from : (ps : List Pipe) → branches (pipes_from ps) ≡ ps
  branches-from [] = refl
  branches-from (p ∷ ps) = ap (λ l. p ∷ l) (branches-from ps)

  -- a concatenation
  pub concat-known : (S : Shape) (ps : List Pipe) (s : Step) (k : Known) (S' : Shape) → s ≡ Step.Concat (pipes_from ps) → (out-Known k).behind ≡ Some S' → S' ≡ after m c S s → has_types m S' ≡ true
      → (out-Known k).ends.items ≡ map (shape_behind m c S) ps → list_all (has_types m) (out-Known k).ends.items ≡ true → branches_known m c S (pipes_from ps) (out-Known k).inside.items ≡ true → is_known m c S s k ≡ true
  concat-known S ps s k S' e is at types ends end_types inside =
      and_from _ _
      (and_from _ _ (ap (is_none_or (is_behind m c S s)) is ∙ and_from _ _ types (ap (shape_same (after m c S s)) at ∙ shape-self (after m c S s)))
      (ap (λ s. ends_known m c S s (out-Known k).ends.items) e
      ∙ and_from _ _ end_types ((λ i. pointwise shape_same (map (shape_behind m c S) (branches-from ps i)) (ends i)) ∙ ends-self S ps)))
      (ap (λ s. inside_known m c S s (out-Known k).inside.items) e ∙ inside)

  -- the shapes at the ends of the branches of a typed concatenation
  pub ends-given : (S : Shape) (ps : List Pipe) (s : Step) (Ss : List Shape) → s ≡ Step.Concat (pipes_from ps) → ends_known m c S s Ss ≡ true → (Ss ≡ map (shape_behind m c S) ps) × (list_all (has_types m) Ss ≡ true)
  ends-given S ps s Ss e h =
      let x = and_parts (list_all (has_types m) Ss) _ (sym (ap (λ s. ends_known m c S s Ss) e) ∙ h) in
      (sym (same_lists shape_same shape-same (map (shape_behind m c S) ps) Ss (ap (λ l. pointwise shape_same (map (shape_behind m c S) l) Ss) (sym (branches-from ps)) ∙ x.1)), x.0)

  -- ---- several steps

  pub behind-append : (xs : List Step) (s : Step) (S : Shape) → shape_behind m c S (pipe (xs ++ s ∷ [])) ≡ after m c (shape_behind m c S (pipe xs)) s
  behind-append [] s S = refl
  behind-append (x ∷ xs) s S = behind-append xs s (after m c S x)

  known-append : (xs : List Step) (s : Step) (ks : List Known) (k : Known) (S : Shape) → are_known m c S (pipe xs) ks ≡ true → is_known m c (shape_behind m c S (pipe xs)) s k ≡ true → are_known m c S (pipe (xs ++ s ∷ [])) (ks ++ k ∷ []) ≡ true
  known-append [] s [] k S h e = and_from _ _ e refl
  known-append [] s (x ∷ ks) k S h e = cc
  known-append (x ∷ xs) s [] k S h e = cc
  known-append (x ∷ xs) s (y ∷ ks) k S h e = let p = and_parts (is_known m c S x y) _ h in and_from _ _ p.0 (known-append xs s ks k (after m c S x) p.1 e)

  -- one step more is known
  pub more-known : {X : Type 0} (f : X → Step) (xs : List X) (i : ℕ) (d : X) (ks : List Known) (k : Known) (S Z Z' : Shape) → i < length xs → d ≡ get_or xs i d → Z ≡ shape_behind m c S (pipe (map f (take i xs))) → are_known m c S (pipe (map f (take i xs))) ks ≡ true
      → is_known m c Z (f d) k ≡ true → Z' ≡ after m c Z (f d) → (Z' ≡ shape_behind m c S (pipe (map f (take (i + 1) xs)))) × (are_known m c S (pipe (map f (take (i + 1) xs))) (ks ++ k ∷ []) ≡ true)
  more-known f xs i d ks k S Z Z' h is at known one next = (
    next ∙ ap (λ Z. after m c Z (f d)) at ∙ sym (behind-append (map f (take i xs)) (f d) S) ∙ ap (λ l. shape_behind m c S (pipe l)) (sym (mapped-next f xs i d h is)),
    ap (λ l. are_known m c S (pipe l) (ks ++ k ∷ [])) (mapped-next f xs i d h is) ∙ known-append (map f (take i xs)) (f d) ks k S known (ap (λ Z. is_known m c Z (f d) k) (sym at) ∙ one),
  )

  -- as many are known as there are
  pub known-length : {X : Type 0} (f : X → Step) (xs : List X) (ks : List Known) (S : Shape) → are_known m c S (pipe (map f xs)) ks ≡ true → length ks ≡ length xs
  known-length f [] [] S h = refl
  known-length f [] (k ∷ ks) S h = cc
  known-length f (x ∷ xs) [] S h = cc
  known-length f (x ∷ xs) (k ∷ ks) S h = ap suc (known-length f xs ks (after m c S (f x)) (and_parts (is_known m c S (f x) k) _ h).1)

  pub within : {X : Type 0} (f : X → Step) (xs : List X) (ks : List Known) (S : Shape) (i : ℕ) → are_known m c S (pipe (map f xs)) ks ≡ true → i < length xs → i < length ks
  within f xs ks S i h lt = subst (λ n. i < n) (sym (known-length f xs ks S h)) lt

  -- the next step, and those behind it
  pub next-known : {X : Type 0} (f : X → Step) (S S' : Shape) (xs : List X) (i : ℕ) (d : X) (ks : List Known) (k : Known) → i < length xs → d ≡ get_or xs i d → i < length ks → k ≡ get_or ks i k → are_known m c S (pipe (map f (drop i xs))) (drop i ks) ≡ true
      → (is_known m c S (f d) k ≡ true) × (S' ≡ after m c S (f d) → are_known m c S' (pipe (map f (drop (i + 1) xs))) (drop (i + 1) ks) ≡ true)
  next-known f S S' xs i d ks k h is hk isk known =
      let both = and_parts (is_known m c S (f d) k) _ (sym (λ j. are_known m c S (pipe (dropped-next f xs i d h is j)) (split j)) ∙ known) in
      (both.0, λ next. ap (λ Z. are_known m c Z (pipe (map f (drop (i + 1) xs))) (drop (i + 1) ks)) next ∙ both.1)
    where
      split : drop i ks ≡ k ∷ drop (i + 1) ks
      split = drop-cons ks i k hk ∙ ap (λ n. get_or ks i k ∷ drop n ks) (sym (add-one i)) ∙ ap (λ x. x ∷ drop (i + 1) ks) (sym isk)

  -- ---- branches

  branches-append : (ps : List Pipe) (p : Pipe) (ls : List (Vec Known)) (l : Vec Known) (S : Shape) → branches_known m c S (pipes_from ps) ls ≡ true → are_known m c S p l.items ≡ true → branches_known m c S (pipes_from (ps ++ p ∷ [])) (ls ++ l ∷ []) ≡ true
  branches-append [] p [] l S h e = and_from _ _ e refl
  branches-append [] p (x ∷ ls) l S h e = cc
  branches-append (q ∷ ps) p [] l S h e = cc
  branches-append (q ∷ ps) p (x ∷ ls) l S h e = let y = and_parts (are_known m c S q x.items) _ h in and_from _ _ y.0 (branches-append ps p ls l S y.1 e)

  pub branches-length : {X : Type 0} (f : X → Pipe) (xs : List X) (ls : List (Vec Known)) (S : Shape) → branches_known m c S (pipes_from (map f xs)) ls ≡ true → length ls ≡ length xs
  branches-length f [] [] S h = refl
  branches-length f [] (l ∷ ls) S h = cc
  branches-length f (x ∷ xs) [] S h = cc
  branches-length f (x ∷ xs) (l ∷ ls) S h = ap suc (branches-length f xs ls S (and_parts (are_known m c S (f x) l.items) _ h).1)

  -- one branch more
  pub more-branches : {X : Type 0} (f : X → Pipe) (xs : List X) (i : ℕ) (d : X) (ls : List (Vec Known)) (l : Vec Known) (S : Shape) → i < length xs → d ≡ get_or xs i d → branches_known m c S (pipes_from (map f (take i xs))) ls ≡ true → are_known m c S (f d) l.items ≡ true
      → branches_known m c S (pipes_from (map f (take (i + 1) xs))) (ls ++ l ∷ []) ≡ true
  more-branches f xs i d ls l S h is known one = ap (λ ps. branches_known m c S (pipes_from ps) (ls ++ l ∷ [])) (mapped-next f xs i d h is) ∙ branches-append (map f (take i xs)) (f d) ls l S known one

  -- one of the branches
  pub branch-known : {X : Type 0} (f : X → Pipe) (xs : List X) (ls : List (Vec Known)) (i : ℕ) (d : X) (l : Vec Known) (S : Shape) → i < length xs → d ≡ get_or xs i d → l ≡ get_or ls i l → branches_known m c S (pipes_from (map f xs)) ls ≡ true → are_known m c S (f d) l.items ≡ true
  branch-known f [] ls i d l S h is isl known = absurd (omega (arith, h))
  branch-known f (x ∷ xs) [] i d l S h is isl known = cc
  branch-known f (x ∷ xs) (y ∷ ls) zero d l S h is isl known = (λ j. are_known m c S (f (is j)) (isl j).items) ∙ (and_parts (are_known m c S (f x) y.items) _ known).0
  branch-known f (x ∷ xs) (y ∷ ls) (suc i) d l S h is isl known =
      let lt : i < length xs = omega (arith, h) in
      branch-known f xs ls i d l S lt is isl (and_parts (are_known m c S (f x) y.items) _ known).1
