-- Groupings whose inner pipelines only keep some of the instances of each group, or put them in order (Data Aggregation 4.0, sections 3.2.3 and 3.3).
use Rattle.std.specs.Prelude.{◌≡◌, ◌⊎◌, ℕ, Bool, List, [], ◌∷◌, Some, None, true, false, filter, get_or, map}
use Rattle.std.specs.declared.result.Result as result
use Rattle.std.specs.Global.{Vec}
use Rattle.std.specs.List.{list_any, zip}
use Rattle.edm_values.specs.declared.Seen.{Seen}
use Rattle.edm_values.specs.declared.Value.{Value}
use Rattle.edm_values.specs.declared.refusals.Refused.{Refused}
use Rattle.edm_values.specs.Names.{Path}
use Rattle.edm_values.specs.Refusals.{Returns}
use Rattle.edm_values.specs.Values.{is_beyond, is_value, value_in}
use Rattle.edm_data.specs.Worlds.{World}
use Rattle.apply_ast.specs.Trees.{Expr, Keys, Step}
use Rattle.context_typing.specs.Typing.{group_keys, key_paths}
use Rattle.apply_meaning.specs.Instances.{Instance, extended, no_instance}
use Rattle.apply_meaning.specs.Meaning.{Outcome, joined, key_list, keyed, values}
use Rattle.group_rollup.specs.Groupings.{has_beyond_key}
use Rattle.row_frames.specs.Keys.{seen_columns}
use Rattle.step_run.specs.Levels.{level_made, level_on, levels_of}
use Rattle.step_run.specs.declared.kept_groups.Kept.{Kept}

-- a transformation that only keeps some of the instances, or puts them in order
abbrev pub is_keeping : Step → Bool
is_keeping Step.Identity = true
is_keeping (Step.Filter b) = true
is_keeping (Step.OrderBy items) = true
is_keeping (Step.Skip n) = true
is_keeping (Step.Top n) = true
is_keeping (Step.TopBy t) = true
is_keeping s = false

-- the expressions that it reads
abbrev pub expressions : Step → List Expr
expressions (Step.Filter b) = b ∷ []
expressions (Step.OrderBy items) = map (λ x. x.expr) items
expressions (Step.TopBy t) = t.expr ∷ []
expressions s = []

-- their values on instances: a list for each
abbrev pub read_of : World → List Instance → Step → List (List Value)
read_of w l s = map (λ e. values w e l) (expressions s)

-- these are the values that each of the transformations reads
abbrev pub AreRead : World → List Instance → List Step → List (Vec (Vec Seen)) → Type 0
AreRead w l ss lists = map (λ r. seen_columns r.items) lists ≡ map (read_of w l) ss

-- whether a value is true, or a refusal where it is Beyond; `Memory` says nothing
abbrev pub GivesTruth : result.Result Bool Refused → Value → Type 0
GivesTruth r v = Returns (λ (b : Bool). (b ≡ is_value true v) × (is_beyond v ≡ false)) (is_beyond v ≡ true) r

-- the places at which a value is true, or a refusal where one is Beyond; `Memory` says nothing
abbrev pub GivesTrue : result.Result (Vec ℕ) Refused → List Value → List ℕ → Type 0
GivesTrue r vs ks =
    Returns (λ (v : Vec ℕ). (v.items ≡ filter (λ k. is_value true (value_in vs k)) ks) × (list_any is_beyond (map (value_in vs) ks) ≡ false)) (list_any is_beyond (map (value_in vs) ks) ≡ true) r

-- the instance at a place, with the columns of the key of the instance at another
abbrev pub with_key_at : World → List Path → List Instance → ℕ × ℕ → Instance
with_key_at w ks l x = extended (get_or l x.0 no_instance) (keyed ks (key_list w ks (get_or l x.1 no_instance)))

-- the instances that were kept, each with the columns of its group's key
abbrev pub kept_rows : World → List Path → List Instance → Kept → List Instance
kept_rows w ks l k = map (with_key_at w ks l) (zip k.places.items k.heads.items)

-- what was kept of the groups of a level, where it is known what the inner pipeline makes of them; `Memory` says nothing
abbrev pub GivesKept : result.Result Kept Refused → World → List Path → List Instance → Outcome → Type 0
GivesKept r w ks l m = Returns (λ (k : Kept). m ≡ Some (kept_rows w ks l k)) (m ≡ None) r

-- what an inner pipeline makes of the groups of all levels, or a refusal where a key is Beyond too; `Memory` says nothing
abbrev pub GivesLevelsMade : result.Result (List Instance) Refused → World → Keys → (List Instance → Outcome) → List Instance → Type 0
GivesLevelsMade r w ks f l =
    Returns (λ (rows : List Instance). (joined (map (level_made f l) (map (level_on w l) (levels_of ks))) ≡ Some rows) × (has_beyond_key w (key_paths (group_keys ks)) l ≡ false))
    ((joined (map (level_made f l) (map (level_on w l) (levels_of ks))) ≡ None) ⊎ (has_beyond_key w (key_paths (group_keys ks)) l ≡ true)) r
