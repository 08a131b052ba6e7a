-- The nodes of instances whose entities stand at places, and the instances whose node passes a test.
use Rattle.std.proofs.Common.{◌≡◌, ◌∙◌, ℕ, ◌<◌, refl, sym, ap, Bool, false, List, [], ◌∷◌, get_or, length, map, Option, Some, None}
use Rattle.std.specs.Prelude.{filter, option_and_then, option_map, slice_get, unwrap_or}
use Rattle.std.proofs.lemmas.List.{get_or-map, length-map}
use Rattle.std.proofs.lemmas.Option.{unwrap_or-slice_get}
use Rattle.edm_values.specs.Lists.{places}
use Rattle.edm_data.specs.Hierarchies.{rows_whose}
use Rattle.edm_data.specs.Worlds.{Entity}
use Rattle.apply_meaning.specs.Instances.{Instance, root_of}
use Rattle.hier_index.proofs.WalkLaws.{each_place_below, filter_same}

-- what follows from an entity follows from its place
by-place : (f : ℕ → Option ℕ) (o : Option Entity) → option_and_then (λ e. f e.at) o ≡ option_and_then f (option_map (λ e. e.at) o)
by-place f None = refl
by-place f (Some e) = refl

nodes-each : (f : ℕ → Option ℕ) (l : List Instance) → map (λ i. option_and_then (λ e. f e.at) (root_of i)) l ≡ map (option_and_then f) (map (λ i. option_map (λ e. e.at) (root_of i)) l)
nodes-each f [] = refl
nodes-each f (i ∷ l) = λ j. by-place f (root_of i) j ∷ nodes-each f l j

all-there : (f : ℕ → Option ℕ) (ks : List ℕ) → map (option_and_then f) (map (λ k. Some k) ks) ≡ map f ks
all-there f [] = refl
all-there f (k ∷ ks) = ap (λ l. f k ∷ l) (all-there f ks)

-- the nodes of instances whose entities stand at these places
pub nodes-there : (f : ℕ → Option ℕ) (l : List Instance) (ks : List ℕ) → map (λ i. option_map (λ e. e.at) (root_of i)) l ≡ map (λ k. Some k) ks → map (λ i. option_and_then (λ e. f e.at) (root_of i)) l ≡ map f ks
nodes-there f l ks e = nodes-each f l ∙ ap (map (option_and_then f)) e ∙ all-there f ks

node-there : (f : ℕ → Option ℕ) (ks : List ℕ) (i : ℕ) → i < length ks → f (get_or ks i 0) ≡ unwrap_or (slice_get (map f ks) i) None
node-there f ks i h = sym (unwrap_or-slice_get (map f ks) i None ∙ get_or-map f ks i 0 None h)

-- the instances whose node passes a test
pub rows-there : (test : ℕ → Bool) (f : ℕ → Option ℕ) (ks : List ℕ) → filter (λ i. unwrap_or (option_map test (f (get_or ks i 0))) false) (places (length ks)) ≡ rows_whose test (map f ks)
rows-there test f ks =
    filter_same _ _ (places (length ks)) (each_place_below (length ks) _ (λ i h. ap (λ o. unwrap_or (option_map test o) false) (node-there f ks i h)))
    ∙ ap (λ n. filter (λ i. unwrap_or (option_map test (unwrap_or (slice_get (map f ks) i) None)) false) (places n)) (sym (length-map ks f))
