-- Rows whose entities are of sets that the model has.
use Rattle.std.proofs.Common.{◌≡◌, ℕ, zero, suc, ◌<◌, length, refl, subst, ◌∙◌, ap, Bool, true, List, [], ◌∷◌, Option, Some, None, arith}
use Rattle.std.specs.Prelude.{Result, Ok, option_map, slice_get, is_some}
use Rattle.std.specs.List.{list_all}
use Rattle.std.proofs.lemmas.Bool.{and_from}
use Rattle.edm_values.specs.Names.{Path}
use Rattle.edm_model.specs.Models.{Model, EntitySet}
use Rattle.edm_model.specs.LookUps.{IsSet}
use Rattle.edm_data.specs.Worlds.{World, Entity}
use Rattle.edm_data.specs.References.{entity_type}
use Rattle.context_typing.specs.Paths.{is_none_or}
use Rattle.apply_meaning.specs.Instances.{Instance}
use Rattle.apply_meaning.specs.RowViews.{is_of}

pub ok_value : {X E : Type 0} {x y : X} → ◌≡◌ {A = Result X E} (Ok x) (Ok y) → x ≡ y
ok_value e = cc

within : {X : Type 0} (xs : List X) (k : ℕ) → k < length xs → is_some (slice_get xs k) ≡ true
within [] k l = absurd (omega (arith, l))
within (x ∷ xs) zero l = refl
within (x ∷ xs) (suc k) l = within xs k (omega (arith, l))

-- an entity of a set of the model has a type
pub set-typed : (w : World) (m : Model) (e : Entity) → m ≡ w.model → IsSet m e.set → is_some (entity_type w e) ≡ true
set-typed w m e k l = go (slice_get w.model.sets e.set) (within w.model.sets e.set (subst (λ m. IsSet m e.set) k l))
  where
    go : (o : Option EntitySet) → is_some o ≡ true → is_some (option_map (λ s. s.of) o) ≡ true
    go None h = h
    go (Some x) h = refl

-- what stands at each prefix is of the world
abbrev pub all_of : World → List (Path × Option Entity) → Bool
all_of w ps = list_all (λ x. is_none_or (λ e. is_some (entity_type w e)) x.1) ps

-- a row is of the world where its root is, and what stands at its other prefixes
pub rooted : (w : World) (i : Instance) (e : Entity) (ps : List (Path × Option Entity)) → i.prefixes ≡ ([], Some e) ∷ ps → is_some (entity_type w e) ≡ true → all_of w ps ≡ true → is_of w i ≡ true
rooted w i e ps k h t = ap (all_of w) k ∙ and_from (is_some (entity_type w e)) (all_of w ps) h t
