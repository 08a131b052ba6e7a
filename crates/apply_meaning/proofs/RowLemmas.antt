-- The entity at the empty prefix of a row, and what stands at the others.
use Rattle.std.proofs.Common.{◌≡◌, ℕ, suc, ◌<◌, length, take, refl, sym, ◌∙◌, ap, true, false, List, [], ◌∷◌, Option, Some, None, arith}
use Rattle.std.specs.Prelude.{option_and_then, find, if◌then◌else◌}
use Rattle.std.proofs.lemmas.Bool.{and_parts}
use Rattle.edm_values.specs.Lists.{is_nonempty}
use Rattle.edm_values.specs.Names.{Name, Path}
use Rattle.edm_data.specs.Worlds.{Entity}
use Rattle.context_typing.specs.Paths.{same_path, at_path}
use Rattle.apply_meaning.specs.RowViews.{with_root, have_paths}

abbrev pub Prefix : Type 0
Prefix = Path × Option Entity

not-empty : (p : Path) → is_nonempty p ≡ true → same_path p [] ≡ false
not-empty [] h = cc
not-empty (n ∷ p) h = refl

no-empty : (ps : List Prefix) → have_paths ps ≡ true → at_path (λ x. x.0) ps [] ≡ None
no-empty [] h = refl
no-empty (x ∷ ps) h =
    let t = and_parts (is_nonempty x.0) (have_paths ps) h in
    ap (λ b. if b then Some x else find (λ y. same_path y.0 []) ps) (not-empty x.0 t.0) ∙ no-empty ps t.1

-- the entity at the empty prefix
pub root-found : (root : Option Entity) (ps : List Prefix) → have_paths ps ≡ true → root ≡ option_and_then (λ x. x.1) (at_path (λ x. x.0) (with_root root ps) [])
root-found None ps h = sym (ap (option_and_then (λ (x : Prefix). x.1)) (no-empty ps h))
root-found (Some e) ps h = refl

beside-root : (root : Option Entity) (ps : List Prefix) (n : Name) (p : Path) → at_path (λ x. x.0) (with_root root ps) (n ∷ p) ≡ at_path (λ x. x.0) ps (n ∷ p)
beside-root None ps n p = refl
beside-root (Some e) ps n p = refl

-- a front that is not empty is no empty prefix
pub front-found : (all ps : List Prefix) (root : Option Entity) (p : Path) (k : ℕ) → all ≡ with_root root ps → k < length p → at_path (λ x. x.0) all (take (suc k) p) ≡ at_path (λ x. x.0) ps (take (suc k) p)
front-found all ps root [] k e l = absurd (omega (arith, l))
front-found all ps root (n ∷ p) k e l = ap (λ xs. at_path (λ (x : Prefix). x.0) xs (n ∷ take k p)) e ∙ beside-root root ps n (take k p)
