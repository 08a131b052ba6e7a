-- What the parts of an accepted tree pass.
use Rattle.std.proofs.Common.{◌≡◌, ℕ, zero, suc, ◌<◌, Bool, true, false, not, List, [], ◌∷◌, length, sym, subst, arith}
use Rattle.std.specs.Prelude.{◌||◌, option_map, unwrap_or, slice_get}
use Rattle.std.specs.List.{list_all}
use Rattle.std.proofs.lemmas.Bool.{false≢true}
use Rattle.serde_json.specs.Data.{Data, null}
use Rattle.edm_model.specs.LookUps.{IsType}
use Rattle.edm_schema.specs.JsonTrees.{Member}
use Rattle.edm_schema.specs.ModelTrees.{is_model, is_type, type_tree, type_members}
use Rattle.edm_model.specs.ModelFile.{model_of, type_of}
use Rattle.edm_schema.proofs.Mapped.{length-mapped}
use Rattle.edm_values.proofs.EachLemmas.{and-left, and-right}
use Rattle.edm_values.proofs.PlaceFacts.{all-place}

-- the second of two, where the first is denied
pub or_second : (a b : Bool) → (not a || b) ≡ true → a ≡ true → b ≡ true
or_second true b h e = h
or_second false b h e = absurd (false≢true e)

-- what the trees of all types pass, the tree at a place passes
pub tree_passes : (p : Data → Bool) (ms : List Member) (t : ℕ) → list_all (λ m. p m.1) ms ≡ true → t < length ms → p (unwrap_or (option_map (λ m. m.1) (slice_get ms t)) null) ≡ true
tree_passes p [] t h below = absurd (omega arith)
tree_passes p (m ∷ ms) zero h below = and-left (p m.1) (list_all (λ m. p m.1) ms) h
tree_passes p (m ∷ ms) (suc t) h below = tree_passes p ms t (and-right (p m.1) (list_all (λ m. p m.1) ms) h) (omega arith)

-- types are those of the tree
pub in_types : (d : Data) (t : ℕ) → IsType (model_of d) t → t < length (type_members d)
in_types d t below = subst (λ n. t < n) (length-mapped (type_of d) (type_members d)) below

pub of_types : (d : Data) (t : ℕ) → t < length (type_members d) → IsType (model_of d) t
of_types d t below = subst (λ n. t < n) (sym (length-mapped (type_of d) (type_members d))) below

-- each type passes
pub type_passes : (d : Data) → is_model d ≡ true → (t : ℕ) → t < length (type_members d) → is_type d t (type_tree d t) ≡ true
type_passes d h t below = all-place (λ k. is_type d k (type_tree d k)) (length (type_members d)) t (and-right _ _ (and-left _ _ (and-left _ _ h))) below
