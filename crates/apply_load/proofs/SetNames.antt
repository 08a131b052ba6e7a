-- The names of a model's sets, and the lines that show them.
use Rattle.std.proofs.Common.{◌≡◌, ℕ, ◌+◌, ◌<◌, ◌≤◌, List, [], ◌∷◌, ◌++◌, length, take, get_or, map, refl, sym, ap, ap₂, ◌∙◌, codes, arith}
use Rattle.std.proofs.lemmas.List.{take_all, take_more, map-append}
use Rattle.std.proofs.lemmas.Option.{slice_get-get_or, slice_get-map}
use Rattle.edm_values.specs.Lists.{places}
use Rattle.edm_values.proofs.TopPlaces.{length-places}
use Rattle.edm_data.proofs.PlaceLemmas.{get_or-places}
use Rattle.std.specs.Prelude.{slice_get, option_map, unwrap_or}
use Rattle.std.specs.declared.option.Option.{Option}
use Rattle.edm_model.specs.Models.{Model, EntitySet}
use Rattle.edm_model.specs.LookUps.{set_name}
use Rattle.edm_data.specs.Worlds.{entity_at}
use Rattle.edm_data.specs.DataFile.{DataReading}
use Rattle.context_typing.specs.Typing.{Customs}
use Rattle.apply_load.specs.Loads.{RefusedData, judged_data}
use Rattle.apply_load.specs.DataRefusals.{IsLineOf}
use Rattle.apply_load.specs.RefusedFiles.{data_line, fault_line, json_string}
use Rattle.edm_data.specs.Refusals.{Tells}
use Rattle.edm_data.specs.declared.DataRefused.{DataRefused}
use Rattle.edm_data.specs.declared.DataRefused.TheVariants as refused

-- the name of a set of the model
named : (m : Model) (names : List (List ℕ)) (s : ℕ) (name : List ℕ) → map (λ (e : EntitySet). e.name) m.sets ≡ names → name ≡ unwrap_or (slice_get names s) [] → name ≡ set_name m s
named m names s name h e =
    e ∙ ap (λ (ns : List (List ℕ)). unwrap_or (slice_get ns s) []) (sym h) ∙ ap (λ (o : Option (List ℕ)). unwrap_or o []) (slice_get-map (λ (e : EntitySet). e.name) m.sets s)

-- ---- the line of each refusal

module _ (names : List (List ℕ)) (line : List ℕ) where
  pub too_long_line : line ≡ codes "data TooLong\n" → IsLineOf names refused.TooLong line
  too_long_line l = record { told = λ m reading h t. l ∙ ap (data_line m) (sym t); no_memory = λ e. cc }

  pub json_line : line ≡ codes "data Json\n" → IsLineOf names refused.Json line
  json_line l = record { told = λ m reading h t. l ∙ ap (data_line m) (sym t); no_memory = λ e. cc }

  pub set_line : (name : List ℕ) → line ≡ codes "data Set " ++ json_string name ++ codes "\n" → IsLineOf names (refused.Set name) line
  set_line name l = record { told = λ m reading h t. l ∙ ap (data_line m) (sym t); no_memory = λ e. cc }

  module _ (s k : ℕ) (name : List ℕ) (is : name ≡ unwrap_or (slice_get names s) []) where
    pub shape_line : line ≡ fault_line (codes "Shape") name k → IsLineOf names (refused.Shape s k) line
    shape_line l = record {
      told = λ m reading h t. l ∙ ap (λ n. fault_line (codes "Shape") n k) (named m names s name h is) ∙ ap (data_line m) (sym t);
      no_memory = λ e. cc;
    }

    pub twice_key_line : line ≡ fault_line (codes "TwiceKey") name k → IsLineOf names (refused.TwiceKey s k) line
    twice_key_line l = record {
      told = λ m reading h t. l ∙ ap (λ n. fault_line (codes "TwiceKey") n k) (named m names s name h is) ∙ ap (data_line m) (sym t);
      no_memory = λ e. cc;
    }

    pub dangling_line : line ≡ fault_line (codes "Dangling") name k → IsLineOf names (refused.Dangling s k) line
    dangling_line l = record {
      told = λ m reading h t. l ∙ ap (λ n. fault_line (codes "Dangling") n k) (named m names s name h is) ∙ ap (data_line m) (sym t);
      no_memory = λ e. cc;
    }

pub ruleset line_forms = (too_long_line, json_line, set_line, shape_line, twice_key_line, dangling_line)

-- a refusal that tells the reading has its line
judged : (m : Model) (c : Customs) (e : DataRefused) (reading : DataReading) → (e ≡ refused.Memory → ⊥) → Tells e reading → judged_data m c reading ≡ RefusedData (data_line m reading)
judged m c refused.TooLong reading some t = rw t refl
judged m c refused.Json reading some t = rw t refl
judged m c (refused.Set name) reading some t = rw t refl
judged m c (refused.Shape s k) reading some t = rw t refl
judged m c (refused.TwiceKey s k) reading some t = rw t refl
judged m c (refused.Dangling s k) reading some t = rw t refl
judged m c refused.Memory reading some t = absurd (some refl)

-- the line of a refusal is that of the reading
pub line_told : (m : Model) (c : Customs) (names : List (List ℕ)) (e : DataRefused) (line : List ℕ) (reading : DataReading) → names ≡ map (λ (s : EntitySet). s.name) m.sets → IsLineOf names e line → Tells e reading → judged_data m c reading ≡ RefusedData line
line_told m c names e line reading h l t =
    judged m c e reading l.no_memory t ∙ ap RefusedData (sym (l.told m reading (sym h) t))

-- the set at a place
pub set_at : (n k s : ℕ) (xs : List ℕ) → xs ≡ places n → k < length xs → s ≡ get_or xs k s → (s ≡ k) × (k < n)
set_at n k s xs all within at =
    let size : length xs ≡ n = ap length all ∙ length-places n in
    let below : k < n = omega (arith, size) in
    (at ∙ ap (λ (ys : List ℕ). get_or ys k s) all ∙ get_or-places n k s below, below)

-- a name more
pub name_more : (m : Model) (names : List (List ℕ)) (i : ℕ) (s : ℕ) (name : List ℕ) → i < length m.sets → s ≡ i → name ≡ set_name m s → names ≡ map (λ (e : EntitySet). e.name) (take i m.sets) → names ++ name ∷ [] ≡ map (λ (e : EntitySet). e.name) (take (i + 1) m.sets)
name_more m names i s name within same is h =
    let d : EntitySet = record { name = []; of = 0 } in
    let here : set_name m s ≡ (get_or m.sets i d).name = ap (set_name m) same ∙ ap (λ (o : Option EntitySet). unwrap_or (option_map (λ (e : EntitySet). e.name) o) []) (slice_get-get_or m.sets i d within) in
    ap₂ (λ (u : List (List ℕ)) (v : List ℕ). u ++ v ∷ []) h (is ∙ here) ∙ sym (map-append (λ (e : EntitySet). e.name) (take i m.sets) (get_or m.sets i d ∷ [])) ∙ ap (map (λ (e : EntitySet). e.name)) (sym (take_more m.sets i d within))

-- all names
pub name_all : (m : Model) (names : List (List ℕ)) (i : ℕ) (xs : List ℕ) → xs ≡ places (length m.sets) → length xs ≤ i → names ≡ map (λ (e : EntitySet). e.name) (take i m.sets) → names ≡ map (λ (e : EntitySet). e.name) m.sets
name_all m names i xs all past h =
    let size : length xs ≡ length m.sets = ap length all ∙ length-places (length m.sets) in
    h ∙ ap (map (λ (e : EntitySet). e.name)) (take_all i m.sets (omega (arith, size)))

-- a refusal tells the reading, where each of its variants does
pub tells : (e : DataRefused) (r : DataReading) → (e ≡ refused.TooLong → r ≡ DataReading.TooLong) → (e ≡ refused.Json → r ≡ DataReading.NoJson) → ((name : List ℕ) → e ≡ refused.Set name → r ≡ DataReading.Set name) → ((s k : ℕ) → e ≡ refused.Shape s k → r ≡ DataReading.Shape (entity_at s k)) → ((s k : ℕ) → e ≡ refused.TwiceKey s k → r ≡ DataReading.TwiceKey (entity_at s k)) → ((s k : ℕ) → e ≡ refused.Dangling s k → r ≡ DataReading.Dangling (entity_at s k)) → Tells e r
tells refused.TooLong r a b c d f g = a refl
tells refused.Json r a b c d f g = b refl
tells (refused.Set name) r a b c d f g = c name refl
tells (refused.Shape s k) r a b c d f g = d s k refl
tells (refused.TwiceKey s k) r a b c d f g = f s k refl
tells (refused.Dangling s k) r a b c d f g = g s k refl
tells refused.Memory r a b c d f g = tt
