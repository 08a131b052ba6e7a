-- Joins on frames: what several runs returned, and what is still to be made of it.
use Rattle.std.proofs.Common.{◌≡◌, ◌+◌, ◌∙◌, ℕ, ap, refl, sym, List, [], ◌∷◌, ◌++◌, map, length, Option, Some, None, IsTrue, arith}
use Rattle.std.specs.Prelude.{if◌then◌else◌, option_map, sum}
use Rattle.std.specs.declared.result.Result.TheVariants.{Err}
use Rattle.std.proofs.lemmas.List.{length-map, map-append}
use Rattle.edm_values.specs.declared.refusals.Refused.{Refused}
use Rattle.edm_values.specs.declared.refusals.Refused.TheVariants.{Range, Memory}
use Rattle.edm_values.specs.Lists.{all_some}
use Rattle.apply_meaning.specs.Instances.{Instance, entity_instance, root_of}
use Rattle.apply_meaning.specs.Meaning.{Outcome, related_rows}
use Rattle.edm_data.specs.References.{related_by}
use Rattle.edm_data.specs.Worlds.{Entity, World}
use Rattle.edm_model.specs.Models.{Navigation}
use Rattle.row_frames.specs.Related.{related_to}
use Rattle.pipe_run.proofs.ListsInTurn.{all-long}
use Rattle.step_run.proofs.RunLevels.{sum-append}
use Rattle.frame_run.specs.HeldRows.{GivesHeld, GivesLists, owed, rows_of}
use Rattle.frame_run.specs.declared.held.Held.{Held}

-- what several runs returned is refused where one is
pub lists-refused : (e : Refused) (m : Outcome) (os : List Outcome) → GivesHeld (Err e) m → (m ≡ None → all_some os ≡ None) → GivesLists (Err e) os
lists-refused Range m os h k = k h
lists-refused Memory m os h k = tt

-- and so is the join
pub join-refused : (e : Refused) (os : List Outcome) (f : List (List Instance) → List Instance) (m : Outcome) → m ≡ option_map f (all_some os) → GivesLists (Err e) os → GivesHeld (Err e) m
join-refused Range os f m j h = j ∙ ap (option_map f) h
join-refused Memory os f m j h = tt

-- one result for each instance
pub results-long : (f : Instance → Outcome) (l : List Instance) (hs : List Held) → all_some (map f l) ≡ Some (map rows_of hs) → length hs ≡ length l
results-long f l hs h = sym (length-map hs rows_of) ∙ all-long f l (map rows_of hs) h

-- one result more
pub more-owed : (hs hs' : List Held) (h : Held) → hs' ≡ hs ++ h ∷ [] → sum (map owed hs') ≡ sum (map owed hs) + owed h
more-owed hs hs' h e =
    ap (λ xs. sum (map owed xs)) e
    ∙ ap sum (map-append owed hs (h ∷ []))
    ∙ sum-append (map owed hs) (owed h ∷ [])
    ∙ (let one : sum (owed h ∷ []) ≡ owed h = omega arith in ap (λ n. sum (map owed hs) + n) one)

pub more-rows : (hs hs' : List Held) (h : Held) → hs' ≡ hs ++ h ∷ [] → map rows_of hs' ≡ map rows_of hs ++ rows_of h ∷ []
more-rows hs hs' h e = ap (map rows_of) e ∙ map-append rows_of hs (h ∷ [])

related-at : (w : World) (v : Navigation) (r : Option Entity) → IsTrue v.many → map entity_instance (related_to w v r) ≡ elim r [ None ↦ [] | Some e ↦ map entity_instance (related_by w e v) ]
related-at w v None many = refl
related-at w v (Some e) many = ap (λ b. map entity_instance (if b then related_by w e v else [])) many

-- the instances of what is related to an instance's entity
pub related-instances : (w : World) (v : Navigation) (i : Instance) (r : Option Entity) → IsTrue v.many → r ≡ root_of i → map entity_instance (related_to w v r) ≡ related_rows w v i
related-instances w v i r many e = ap (λ o. map entity_instance (related_to w v o)) e ∙ related-at w v (root_of i) many
