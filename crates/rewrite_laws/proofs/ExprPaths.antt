-- Values, types and sureness of an expression depend on its paths alone, also where each path is changed.
use Rattle.std.proofs.Common.{◌≡◌, refl, sym, ◌∙◌, ap, Bool, true, false, ◌&&◌, not, if◌then◌else◌}
use Rattle.std.specs.Prelude.{option_and_then, option_map, unwrap_or}
use Rattle.std.specs.Bool.{then_some}
use Rattle.std.specs.List.{list_all}
use Rattle.std.proofs.lemmas.Bool.{and_parts}
use Rattle.edm_values.specs.Lists.{first_some, is_some_and}
use Rattle.edm_values.specs.Literals.{same_kind}
use Rattle.edm_values.specs.Names.{Path}
use Rattle.edm_values.specs.Values.{negated, negation}
use Rattle.edm_values.specs.declared.EdmType.{EdmType}
use Rattle.edm_values.specs.declared.Value.{Value}
use Rattle.edm_values.proofs.ListFacts.{all-parts}
use Rattle.edm_model.specs.Models.{Model}
use Rattle.edm_data.specs.Worlds.{World}
use Rattle.apply_ast.specs.Trees.{Expr}
use Rattle.apply_ast.specs.declared.expressions.UnOp.{UnOp}
use Rattle.context_typing.specs.Paths.{at_path, at_longest}
use Rattle.context_typing.specs.Shapes.{Shape}
use Rattle.context_typing.specs.Typing.{expr_kind, path_kind, is_sure, is_risky, unary_kind, binary_kind, call1_kind, null_comparison, is_arithmetic, is_null_literal}
use Rattle.apply_meaning.specs.Instances.{Instance, val, value_behind, lookup, binary, call1, call2}
use Rattle.rewrite_laws.specs.Rewrites.{paths, with_paths}

-- a look-up depends on the column at the path and on the longest prefix
pub lookup-same : (w : World) (i j : Instance) (p : Path) → at_path (λ c. c.0) j.columns p ≡ at_path (λ c. c.0) i.columns p → at_longest (λ x. x.0) j.prefixes p ≡ at_longest (λ x. x.0) i.prefixes p
    → lookup w j p ≡ lookup w i p
lookup-same w i j p e k = λ n. unwrap_or (first_some (option_map (λ c. c.1) (e n)) (option_and_then (λ x. option_and_then (value_behind w x.1) (x.0).1) (k n))) Value.Null

-- the value of an expression with changed paths, on an instance where those have the values of the old ones
pub val-moved : (w : World) (i j : Instance) (f : Path → Path) (q : Path → Bool) → ((p : Path) → q p ≡ true → lookup w j (f p) ≡ lookup w i p) → (e : Expr) → list_all q (paths e) ≡ true → val w j (with_paths f e) ≡ val w i e
val-moved w i j f q h Expr.Null a = refl
val-moved w i j f q h (Expr.Bool' b) a = refl
val-moved w i j f q h (Expr.Int n) a = refl
val-moved w i j f q h (Expr.Dec m s) a = refl
val-moved w i j f q h (Expr.Text bs) a = refl
val-moved w i j f q h (Expr.Day y m d) a = refl
val-moved w i j f q h (Expr.Path' p) a = h p (and_parts (q p) _ a).0
val-moved w i j f q h (Expr.Unary UnOp.Neg e) a = ap (λ v. negated v) (val-moved w i j f q h e a)
val-moved w i j f q h (Expr.Unary UnOp.Not e) a = ap (λ v. negation v) (val-moved w i j f q h e a)
val-moved w i j f q h (Expr.Binary op d e) a = let t = all-parts q (paths d) (paths e) a in λ k. binary op (val-moved w i j f q h d t.0 k) (val-moved w i j f q h e t.1 k)
val-moved w i j f q h (Expr.Call1 g e) a = ap (call1 g) (val-moved w i j f q h e a)
val-moved w i j f q h (Expr.Call2 g d e) a = let t = all-parts q (paths d) (paths e) a in λ k. call2 g (val-moved w i j f q h d t.0 k) (val-moved w i j f q h e t.1 k)

null-moved : (f : Path → Path) (e : Expr) → is_null_literal (with_paths f e) ≡ is_null_literal e
null-moved f Expr.Null = refl
null-moved f (Expr.Path' p) = refl
null-moved f _ = refl

-- its type, on a shape where they have the types of the old ones
pub kind-moved : (m : Model) (S T : Shape) (f : Path → Path) (q : Path → Bool) → ((p : Path) → q p ≡ true → path_kind m T (f p) ≡ path_kind m S p) → (e : Expr) → list_all q (paths e) ≡ true → expr_kind m T (with_paths f e) ≡ expr_kind m S e
kind-moved m S T f q h Expr.Null a = refl
kind-moved m S T f q h (Expr.Bool' b) a = refl
kind-moved m S T f q h (Expr.Int n) a = refl
kind-moved m S T f q h (Expr.Dec n s) a = refl
kind-moved m S T f q h (Expr.Text bs) a = refl
kind-moved m S T f q h (Expr.Day y n d) a = refl
kind-moved m S T f q h (Expr.Path' p) a = h p (and_parts (q p) _ a).0
kind-moved m S T f q h (Expr.Unary op e) a = ap (option_and_then (unary_kind op)) (kind-moved m S T f q h e a)
kind-moved m S T f q h (Expr.Binary op d e) a = let t = all-parts q (paths d) (paths e) a in λ k.
    if null-moved f d k then null_comparison op (null-moved f e k) (kind-moved m S T f q h e t.1 k) else
    (if null-moved f e k then null_comparison op false (kind-moved m S T f q h d t.0 k) else
    option_and_then (λ x. option_and_then (λ y. binary_kind op x y) (kind-moved m S T f q h e t.1 k)) (kind-moved m S T f q h d t.0 k))
kind-moved m S T f q h (Expr.Call1 g e) a = ap (option_and_then (call1_kind g)) (kind-moved m S T f q h e a)
kind-moved m S T f q h (Expr.Call2 g d e) a = let t = all-parts q (paths d) (paths e) a in λ k.
    then_some (is_some_and (same_kind EdmType.Text) (kind-moved m S T f q h d t.0 k) && is_some_and (same_kind EdmType.Text) (kind-moved m S T f q h e t.1 k)) EdmType.Bool

-- whether it is sure, where they are as risky as the old ones
pub sure-moved : (m : Model) (S T : Shape) (f : Path → Path) (q : Path → Bool) → ((p : Path) → q p ≡ true → path_kind m T (f p) ≡ path_kind m S p) → ((p : Path) → q p ≡ true → is_risky T (f p) ≡ is_risky S p)
    → (e : Expr) → list_all q (paths e) ≡ true → is_sure m T (with_paths f e) ≡ is_sure m S e
sure-moved m S T f q h g Expr.Null a = refl
sure-moved m S T f q h g (Expr.Bool' b) a = refl
sure-moved m S T f q h g (Expr.Int n) a = refl
sure-moved m S T f q h g (Expr.Dec n s) a = refl
sure-moved m S T f q h g (Expr.Text bs) a = refl
sure-moved m S T f q h g (Expr.Day y n d) a = refl
sure-moved m S T f q h g (Expr.Path' p) a = ap not (g p (and_parts (q p) _ a).0)
sure-moved m S T f q h g (Expr.Unary UnOp.Not e) a = sure-moved m S T f q h g e a
sure-moved m S T f q h g (Expr.Unary UnOp.Neg (Expr.Int n)) a = refl
sure-moved m S T f q h g (Expr.Unary UnOp.Neg e) a = λ k. sure-moved m S T f q h g e a k && is_some_and (λ k. not (same_kind k EdmType.Int)) (kind-moved m S T f q h e a k)
sure-moved m S T f q h g (Expr.Binary op d e) a = let t = all-parts q (paths d) (paths e) a in λ k. not (is_arithmetic op) && sure-moved m S T f q h g d t.0 k && sure-moved m S T f q h g e t.1 k
sure-moved m S T f q h g (Expr.Call1 c e) a = sure-moved m S T f q h g e a
sure-moved m S T f q h g (Expr.Call2 c d e) a = let t = all-parts q (paths d) (paths e) a in λ k. sure-moved m S T f q h g d t.0 k && sure-moved m S T f q h g e t.1 k

-- ---- the same expression

pub paths-kept : (e : Expr) → with_paths (λ p. p) e ≡ e
paths-kept Expr.Null = refl
paths-kept (Expr.Bool' b) = refl
paths-kept (Expr.Int n) = refl
paths-kept (Expr.Dec m s) = refl
paths-kept (Expr.Text bs) = refl
paths-kept (Expr.Day y m d) = refl
paths-kept (Expr.Path' p) = refl
paths-kept (Expr.Unary op e) = ap (Expr.Unary op) (paths-kept e)
paths-kept (Expr.Binary op d e) = λ k. Expr.Binary op (paths-kept d k) (paths-kept e k)
paths-kept (Expr.Call1 g e) = ap (Expr.Call1 g) (paths-kept e)
paths-kept (Expr.Call2 g d e) = λ k. Expr.Call2 g (paths-kept d k) (paths-kept e k)

pub val-same : (w : World) (i j : Instance) (q : Path → Bool) → ((p : Path) → q p ≡ true → lookup w j p ≡ lookup w i p) → (e : Expr) → list_all q (paths e) ≡ true → val w j e ≡ val w i e
val-same w i j q h e a = sym (ap (val w j) (paths-kept e)) ∙ val-moved w i j (λ p. p) q h e a

pub kind-same : (m : Model) (S T : Shape) (q : Path → Bool) → ((p : Path) → q p ≡ true → path_kind m T p ≡ path_kind m S p) → (e : Expr) → list_all q (paths e) ≡ true → expr_kind m T e ≡ expr_kind m S e
kind-same m S T q h e a = sym (ap (expr_kind m T) (paths-kept e)) ∙ kind-moved m S T (λ p. p) q h e a

pub sure-same : (m : Model) (S T : Shape) (q : Path → Bool) → ((p : Path) → q p ≡ true → path_kind m T p ≡ path_kind m S p) → ((p : Path) → q p ≡ true → is_risky T p ≡ is_risky S p)
    → (e : Expr) → list_all q (paths e) ≡ true → is_sure m T e ≡ is_sure m S e
sure-same m S T q h g e a = sym (ap (is_sure m T) (paths-kept e)) ∙ sure-moved m S T (λ p. p) q h g e a
