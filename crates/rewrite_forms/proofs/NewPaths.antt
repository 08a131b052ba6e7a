-- Paths that are new columns.
use Rattle.std.proofs.Common.{◌≡◌, refl, sym, ◌∙◌, ap, Bool, true, false, ◌&&◌, ◌||◌, List, [], ◌∷◌, length, get_or, map, arith}
use Rattle.std.specs.List.{list_any}
use Rattle.std.proofs.Math.Bool.{and-true}
use Rattle.edm_values.specs.Lists.{same_text}
use Rattle.edm_values.specs.Names.{Name, Path}
use Rattle.apply_ast.specs.Trees.{Named}
use Rattle.apply_ast.specs.Views.{named_of}
use Rattle.apply_ast.specs.declared.items.Named as of_named
use Rattle.rewrite_laws.specs.Rewrites.{is_among}
use Rattle.rewrite_forms.specs.Columns.{new_paths}

and-false : (b : Bool) → (b && false) ≡ false
and-false true = refl
and-false false = refl

among-one : (n : Name) (made : List of_named.Named) → is_among (new_paths (map named_of made)) (n ∷ []) ≡ list_any (λ x. same_text n x.name) made
among-one n [] = refl
among-one n (x ∷ xs) = λ i. and-true (same_text n x.name) i || among-one n xs i

among-longer : (a b : Name) (p : Path) (ns : List Named) → is_among (new_paths ns) (a ∷ b ∷ p) ≡ false
among-longer a b p [] = refl
among-longer a b p (x ∷ xs) = λ i. and-false (same_text a x.name) i || among-longer a b p xs i

among-none : (ns : List Named) → is_among (new_paths ns) [] ≡ false
among-none [] = refl
among-none (x ∷ xs) = among-none xs

-- a path of one name is one of the columns where the name is
pub new-one : (made : List of_named.Named) (p : Path) (n : Name) → length p ≡ 1 → n ≡ get_or p 0 n → list_any (λ x. same_text n x.name) made ≡ is_among (new_paths (map named_of made)) p
new-one made [] n h is = absurd (omega (arith, h))
new-one made (a ∷ []) n h is = sym (ap (λ k. is_among (new_paths (map named_of made)) (k ∷ [])) (sym is) ∙ among-one n made)
new-one made (a ∷ b ∷ p) n h is = absurd (omega (arith, h))

-- no other path is one
pub new-other : (ns : List Named) (p : Path) → (length p ≡ 1 → ⊥) → false ≡ is_among (new_paths ns) p
new-other ns [] h = sym (among-none ns)
new-other ns (a ∷ []) h = absurd (h refl)
new-other ns (a ∷ b ∷ p) h = sym (among-longer a b p ns)
