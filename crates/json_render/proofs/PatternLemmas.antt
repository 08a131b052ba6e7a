-- What rows of one pattern have in common.
use Rattle.std.proofs.Common.{◌≡◌, ℕ, Bool, true, false, not, List, [], ◌++◌, Option, Some, None, refl, sym, ◌∙◌, ap}
use Rattle.std.specs.Prelude.{slice_get, option_and_then, option_map, unwrap_or, is_none, is_some}
use Rattle.std.proofs.lemmas.Bool.{false≢true}
use Rattle.std.proofs.lemmas.Option.{slice_get-map}
use Rattle.edm_values.specs.Names.{Path}
use Rattle.edm_data.specs.Worlds.{World, Entity}
use Rattle.apply_meaning.specs.Instances.{Instance}
use Rattle.json_render.specs.Bodies.{is_bound_to_none}
use Rattle.json_render.specs.Places.{NamedPart, next_parts}
use Rattle.json_render.specs.RowTexts.{SamePattern, bound_at, here_place, parts_at, prefix_set, prefixes_seen, property_parts, set_parts}
use Rattle.json_render.proofs.PlaceMembers.{here-prefixes}

-- a row has its own pattern
pub same-itself : (i : Instance) → SamePattern i i
same-itself i = record { columns = refl; prefixes = refl }

-- the set of the entity at a prefix
abbrev set_at : Instance → ℕ → Option ℕ
set_at i k = option_map (λ e. e.set) (bound_at i k)

from-set : (o : Option (Path × Option Entity)) → option_map (λ e. e.set) (option_and_then (λ x. x.1) o) ≡ option_and_then (λ x. x.1) (option_map prefix_set o)
from-set None = refl
from-set (Some x) = refl

pub same-set : (i j : Instance) → SamePattern i j → (k : ℕ) → set_at i k ≡ set_at j k
same-set i j s k =
    from-set (slice_get i.prefixes k) ∙ ap (option_and_then (λ x. x.1)) (sym (slice_get-map prefix_set i.prefixes k) ∙ ap (λ xs. slice_get xs k) s.prefixes ∙ slice_get-map prefix_set j.prefixes k)
    ∙ sym (from-set (slice_get j.prefixes k))

none-mapped : {X Y : Type 0} (f : X → Y) (o : Option X) → is_none o ≡ is_none (option_map f o)
none-mapped f None = refl
none-mapped f (Some x) = refl

-- and the same prefixes bound to none
pub same-none : (i j : Instance) → SamePattern i j → (k : ℕ) → is_none (bound_at i k) ≡ is_none (bound_at j k)
same-none i j s k = none-mapped (λ (e : Entity). e.set) (bound_at i k) ∙ ap is_none (same-set i j s k) ∙ sym (none-mapped (λ (e : Entity). e.set) (bound_at j k))

-- the test of an option that holds nothing
pub none-told : {X : Type 0} (r : Bool) (o : Option X) → is_some o ≡ not r → is_none o ≡ r
none-told true None h = refl
none-told false None h = absurd (false≢true h)
none-told true (Some x) h = absurd (false≢true (sym h))
none-told false (Some x) h = refl

pub bound-none : (i : Instance) (es : List NamedPart) → is_bound_to_none (prefixes_seen i es) ≡ unwrap_or (option_map (λ e. is_none e) (option_map (bound_at i) (here_place es))) false
bound-none i es = ap (λ o. unwrap_or (option_map (λ e. is_none e) o) false) (here-prefixes i es)

by-set : (w : World) (k : ℕ) (o : Option Entity) → unwrap_or (option_map (λ e. set_parts w.model k e.set) o) [] ≡ unwrap_or (option_map (set_parts w.model k) (option_map (λ e. e.set) o)) []
by-set w k None = refl
by-set w k (Some e) = refl

same-properties : (w : World) (i j : Instance) → SamePattern i j → (k : ℕ) → property_parts w i k ≡ property_parts w j k
same-properties w i j s k = by-set w k (bound_at i k) ∙ ap (λ o. unwrap_or (option_map (set_parts w.model k) o) []) (same-set i j s k) ∙ sym (by-set w k (bound_at j k))

-- and the same parts at each place
pub same-parts : (w : World) (i j : Instance) → SamePattern i j → (es : List NamedPart) → parts_at w i es ≡ parts_at w j es
same-parts w i j s es = go (here_place es)
  where
    go : (o : Option ℕ) → next_parts es ++ unwrap_or (option_map (property_parts w i) o) [] ≡ next_parts es ++ unwrap_or (option_map (property_parts w j) o) []
    go None = refl
    go (Some k) = ap (λ ps. next_parts es ++ ps) (same-properties w i j s k)
