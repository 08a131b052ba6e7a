-- A computation leaves the types and values of paths that it does not make.
use Rattle.std.proofs.Common.{◌≡◌, refl, sym, ◌∙◌, ap, Bool, true, false, not, List, [], ◌∷◌, ◌++◌, map, Some, None, cond}
use Rattle.std.specs.Prelude.{option_map, unwrap_or}
use Rattle.std.specs.List.{list_any}
use Rattle.std.proofs.lemmas.Bool.{or_parts, not-true, false_from_ne_true, true≢false}
use Rattle.edm_values.specs.Lists.{all_some, first_some, is_some_and}
use Rattle.edm_values.specs.Names.{Path}
use Rattle.edm_values.specs.declared.Value.{Value}
use Rattle.edm_values.proofs.OptionFacts.{chained, then_some-parts, first_some-None}
use Rattle.edm_values.proofs.SearchFacts.{find-joined}
use Rattle.edm_model.specs.Models.{Model}
use Rattle.edm_data.specs.Worlds.{World}
use Rattle.apply_ast.specs.Trees.{Named}
use Rattle.context_typing.specs.Paths.{same_path, at_path}
use Rattle.context_typing.specs.Shapes.{Shape}
use Rattle.context_typing.specs.Typing.{path_kind, path_property, compute_shape, new_column, expr_kind, is_risky, is_sure, widened}
use Rattle.context_typing.proofs.PathLemmas.{same_paths, path-self}
use Rattle.context_typing.proofs.TypingLaw.{computed-paths, names_paths}
use Rattle.apply_meaning.specs.Instances.{extended, Instance, val, lookup, prefix_value}
use Rattle.apply_meaning.specs.Meaning.{column}
use Rattle.rewrite_laws.specs.Rewrites.{is_among}

-- a table without a path has no entry there
pub no-entry : {A : Type 0} (path : A → Path) (p : Path) (xs : List A) → list_any (same_path p) (map path xs) ≡ false → at_path path xs p ≡ None
no-entry path p [] h = refl
no-entry path p (x ∷ xs) h =
    let t = or_parts (same_path p (path x)) _ h in
    let other : same_path (path x) p ≡ false = false_from_ne_true _ (λ e. true≢false (sym (ap (λ z. same_path z (path x)) (sym (same_paths (path x) p e)) ∙ path-self (path x)) ∙ t.0)) in
    ap (λ b. cond b (Some x) (at_path path xs p)) other ∙ no-entry path p xs t.1

-- entries behind others
pub at-left : {A : Type 0} (path : A → Path) (xs ys : List A) (p : Path) → at_path path ys p ≡ None → at_path path (xs ++ ys) p ≡ at_path path xs p
at-left path xs ys p n = find-joined (λ x. same_path (path x) p) xs ys ∙ ap (first_some (at_path path xs p)) n ∙ first_some-None (at_path path xs p)

-- the path is none of the new columns
abbrev pub is_old : List Named → Path → Bool
is_old ns p = not (is_among (names_paths ns) p)

pub computed-kind : (m : Model) (S T : Shape) (ns : List Named) → compute_shape m S ns ≡ Some T → (p : Path) → is_old ns p ≡ true → path_kind m T p ≡ path_kind m S p
computed-kind m S T ns z p n =
    let t = chained _ (all_some (map (λ x. option_map (λ k. new_column x.name k (not (is_sure m S x.expr))) (expr_kind m S x.expr)) ns)) T z in
    let u = then_some-parts _ _ T t.2 in
    let none = no-entry (λ c. c.path) p t.0 (ap (list_any (same_path p)) (computed-paths m S ns t.0 t.1) ∙ not-true _ n) in
    ap (λ Z. path_kind m Z p) (sym u.1)
    ∙ ap (λ o. elim o [ Some c ↦ Some c.kind | None ↦ option_map (λ x. widened x.kind) (path_property m S p) ]) (at-left (λ c. c.path) S.columns t.0 p none)

pub computed-risk : (m : Model) (S T : Shape) (ns : List Named) → compute_shape m S ns ≡ Some T → (p : Path) → is_old ns p ≡ true → is_risky T p ≡ is_risky S p
computed-risk m S T ns z p n =
    let t = chained _ (all_some (map (λ x. option_map (λ k. new_column x.name k (not (is_sure m S x.expr))) (expr_kind m S x.expr)) ns)) T z in
    let u = then_some-parts _ _ T t.2 in
    let none = no-entry (λ c. c.path) p t.0 (ap (list_any (same_path p)) (computed-paths m S ns t.0 t.1) ∙ not-true _ n) in
    ap (λ Z. is_risky Z p) (sym u.1) ∙ ap (is_some_and (λ c. c.risky)) (at-left (λ c. c.path) S.columns t.0 p none)

-- an instance with the new columns
abbrev pub computed : World → List Named → Instance → Instance
computed w ns i = extended i (map (λ x. column x.name (val w i x.expr)) ns)

new-paths : (w : World) (i : Instance) (ns : List Named) → map (λ c. c.0) (map (λ x. column x.name (val w i x.expr)) ns) ≡ names_paths ns
new-paths w i [] = refl
new-paths w i (x ∷ ns) = ap (λ z. (x.name ∷ []) ∷ z) (new-paths w i ns)

pub computed-lookup : (w : World) (ns : List Named) (i : Instance) (p : Path) → is_old ns p ≡ true → lookup w (computed w ns i) p ≡ lookup w i p
computed-lookup w ns i p n =
    ap (λ o. unwrap_or (first_some (option_map (λ c. c.1) o) (prefix_value w i p)) Value.Null)
    (at-left (λ c. c.0) i.columns (map (λ x. column x.name (val w i x.expr)) ns) p (no-entry (λ c. c.0) p (map (λ x. column x.name (val w i x.expr)) ns) (ap (list_any (same_path p)) (new-paths w i ns) ∙ not-true _ n)))
