-- From the bytes that were read to what the files make.
use Rattle.std.proofs.Common.{◌≡◌, ℕ, ◌+◌, ◌<◌, ◌≤◌, Bool, true, false, not, List, length, take, nat_lt, None, Some, refl, sym, ap, subst, ◌∙◌, arith}
use Rattle.std.specs.Prelude.{find, option_map, unwrap_or, if◌then◌else◌}
use Rattle.std.specs.declared.option.Option.{Option}
use Rattle.std.proofs.lemmas.List.{take_all, length-take}
use Rattle.std.proofs.lemmas.Bool.Decides.{nat_tests}
use Rattle.apply_io.specs.Files.{Files, content, KeepsFiles}
use Rattle.edm_model.specs.Models.{Model}
use Rattle.edm_model.specs.ModelFile.{ModelReading, model_limit, model_reading}
use Rattle.edm_values.specs.declared.Value.{Value}
use Rattle.edm_model.specs.JsonTrees.{Member, json_of, is_object, members_in}
use Rattle.serde_json.specs.Data.{Data}
use Rattle.edm_data.specs.Worlds.{World, all_places}
use Rattle.edm_data.specs.DataFile.{DataReading, data_limit, data_reading, entities_reading, entities_in_tree, object_reading, rows_reading, items_of_sets, world_of, is_no_entity, is_set_member, keys_reading, has_earlier_key, references_reading, is_dangling, with_world, unless_found}
use Rattle.context_typing.specs.Typing.{Customs}
use Rattle.apply_load.specs.Transfers.{IsRead}
use Rattle.apply_store.specs.CustomReadings.{AreCustoms}
use Rattle.apply_load.specs.Loads.{FileNames, Outcome, Missing, RefusedModel, RefusedData, Loaded, untyped, typed, data_outcome, judged_data, IsModelOutcome, IsReadingOutcome, IsPairOutcome, IsFilesOutcome, FilesMake, MakesModel, RefusesModel, RefusesCustom, MakesWorld, RefusesData, Lacks}
use Rattle.apply_load.proofs.Fronts.{kept_files}

-- ---- a file that was read up to its limit is judged as the whole file

module _ (limit : ℕ) where
  long_model : (file : List ℕ) → limit ≡ model_limit → limit < length file → model_reading file ≡ ModelReading.TooLong
  long_model file is long =
      let past : nat_lt model_limit (length file) ≡ true = grind (arith, nat_tests) in rw past refl

  same_model : (t : Bool) (bytes file : List ℕ) → limit ≡ model_limit → nat_lt limit (length file) ≡ t → bytes ≡ take (limit + 1) file → model_reading file ≡ model_reading bytes
  same_model false bytes file is short e =
      let within : length file ≤ limit + 1 = grind (arith, nat_tests) in
      ap model_reading (sym (e ∙ take_all (limit + 1) file within))
  same_model true bytes file is long e =
      let past : limit < length file = grind (arith, nat_tests) in
      let size : length bytes ≡ length (take (limit + 1) file) = ap length e in
      long_model file is past ∙ sym (long_model bytes is (omega (arith, length-take (limit + 1) file)))

  pub MakesModel-read : (told : Option Files) (name bytes : List ℕ) (m : Model) → limit ≡ model_limit → IsRead limit told name bytes → model_reading bytes ≡ ModelReading.Model' m → MakesModel told name m
  MakesModel-read told name bytes m is h e = record {
    makes = λ files t.
        let f = h.whole files t in
        (f.0, f.1, same_model (nat_lt limit (length f.0)) bytes f.0 is refl f.2 ∙ e);
  }

  pub RefusesModel-read : (told : Option Files) (name bytes line : List ℕ) (reading : ModelReading) → limit ≡ model_limit → IsRead limit told name bytes → model_reading bytes ≡ reading → ((entities : Option (List ℕ)) → IsReadingOutcome reading entities (RefusedModel line)) → RefusesModel told name line
  RefusesModel-read told name bytes line reading is h e judged = record {
    refuses = λ files entities t.
        let f = h.whole files t in
        let P : ModelReading → Type 0 = λ r. IsReadingOutcome r entities (RefusedModel line) in
        (f.0, f.1, subst P (sym (same_model (nat_lt limit (length f.0)) bytes f.0 is refl f.2 ∙ e)) (judged entities));
  }

  long_data : (m : Model) (file : List ℕ) → limit ≡ data_limit → limit < length file → data_reading m file ≡ DataReading.TooLong
  long_data m file is long =
      let past : nat_lt data_limit (length file) ≡ true = grind (arith, nat_tests) in rw past refl

  same_data : (m : Model) (t : Bool) (bytes file : List ℕ) → limit ≡ data_limit → nat_lt limit (length file) ≡ t → bytes ≡ take (limit + 1) file → data_reading m file ≡ data_reading m bytes
  same_data m false bytes file is short e =
      let within : length file ≤ limit + 1 = grind (arith, nat_tests) in
      ap (data_reading m) (sym (e ∙ take_all (limit + 1) file within))
  same_data m true bytes file is long e =
      let past : limit < length file = grind (arith, nat_tests) in
      let size : length bytes ≡ length (take (limit + 1) file) = ap length e in
      long_data m file is past ∙ sym (long_data m bytes is (omega (arith, length-take (limit + 1) file)))

  pub MakesWorld-read : (told : Option Files) (name bytes : List ℕ) (m : Model) (w : World) → limit ≡ data_limit → IsRead limit told name bytes → data_reading m bytes ≡ DataReading.World' w → MakesWorld told name m w
  MakesWorld-read told name bytes m w is h e = record {
    makes = λ files t.
        let f = h.whole files t in
        (f.0, f.1, same_data m (nat_lt limit (length f.0)) bytes f.0 is refl f.2 ∙ e);
  }

  pub RefusesData-read : (told : Option Files) (name bytes line : List ℕ) (m : Model) (reading : DataReading) → limit ≡ data_limit → IsRead limit told name bytes → data_reading m bytes ≡ reading → ((c : Customs) → judged_data m c reading ≡ RefusedData line) → RefusesData told name m line
  RefusesData-read told name bytes line m reading is h e judged = record {
    refuses = λ files c t.
        let f = h.whole files t in
        (f.0, f.1, ap (judged_data m c) (same_data m (nat_lt limit (length f.0)) bytes f.0 is refl f.2 ∙ e) ∙ judged c);
  }

-- ---- both files

module _ (a b : Option Files) (names : FileNames) where
  pub FilesMake-refused_model : (line : List ℕ) → RefusesModel a names.model line → FilesMake a names (RefusedModel line)
  FilesMake-refused_model line h = record {
    make = λ files t.
        let f = h.refuses files (content files names.entities) t in
        let P : Option (List ℕ) → Type 0 = λ g. IsPairOutcome g (content files names.entities) (RefusedModel line) in
        subst P (sym f.1) f.2;
  }

  pub FilesMake-no_model : Lacks a names.model → FilesMake a names Missing
  FilesMake-no_model k = record {
    make = λ files t. let P : Option (List ℕ) → Type 0 = λ f. IsPairOutcome f (content files names.entities) Missing in subst P (sym (k.lacks files t)) refl;
  }

  of_model : (files : Files) (m : Model) (o : Outcome) → a ≡ Some files → MakesModel a names.model m → IsModelOutcome m (content files names.entities) o → IsFilesOutcome files names o
  of_model files m o t h is =
      let f = h.makes files t in
      let P : Option (List ℕ) → Type 0 = λ g. IsPairOutcome g (content files names.entities) o in
      let Q : ModelReading → Type 0 = λ r. IsReadingOutcome r (content files names.entities) o in
      subst P (sym f.1) (subst Q (sym f.2) is)

  pub FilesMake-refused_custom : (m : Model) (line : List ℕ) → MakesModel a names.model m → RefusesCustom m line → FilesMake a names (RefusedModel line)
  FilesMake-refused_custom m line h k = record {
    make = λ files t.
        let P : List ℕ → Type 0 = λ l. IsModelOutcome m (content files names.entities) (RefusedModel l) in
        of_model files m (RefusedModel line) t h (subst P (sym k.told) (untyped k.refused k.first));
  }

  module _ (m : Model) (c : Customs) (keeps : KeepsFiles a b) (h : MakesModel a names.model m) (all : AreCustoms m c) where
    of_data : (files : Files) (o : Outcome) → a ≡ Some files → data_outcome m c (content files names.entities) ≡ o → IsFilesOutcome files names o
    of_data files o t e =
        let P : Outcome → Type 0 = λ p. IsModelOutcome m (content files names.entities) p in
        of_model files m o t h (subst P e (typed c all))

    pub FilesMake-no_data : Lacks b names.entities → FilesMake a names Missing
    FilesMake-no_data k = record {
      make = λ files t. of_data files Missing t (ap (data_outcome m c) (k.lacks files (kept_files a b files keeps t)));
    }

    pub FilesMake-refused_data : (line : List ℕ) → RefusesData b names.entities m line → FilesMake a names (RefusedData line)
    FilesMake-refused_data line k = record {
      make = λ files t.
          let f = k.refuses files c (kept_files a b files keeps t) in
          of_data files (RefusedData line) t (ap (data_outcome m c) f.1 ∙ f.2);
    }

    pub FilesMake-world : (w : World) → MakesWorld b names.entities m w → FilesMake a names (Loaded w c)
    FilesMake-world w k = record {
      make = λ files t.
          let f = k.makes files (kept_files a b files keeps t) in
          of_data files (Loaded w c) t (ap (data_outcome m c) f.1 ∙ ap (judged_data m c) f.2);
    }

-- ---- the model of a world that was read

world-read : (r : DataReading) (next : World → DataReading) (w : World) → with_world r next ≡ DataReading.World' w → (v : World) × (r ≡ DataReading.World' v) × (next v ≡ DataReading.World' w)
world-read (DataReading.World' v) next w e = (v, refl, e)
world-read DataReading.TooLong next w e = absurd cc
world-read DataReading.NoJson next w e = absurd cc
world-read (DataReading.Set name) next w e = absurd cc
world-read (DataReading.Shape x) next w e = absurd cc
world-read (DataReading.TwiceKey x) next w e = absurd cc
world-read (DataReading.Dangling x) next w e = absurd cc

same_world : {X : Type 0} (o : Option X) (fault : X → DataReading) (v w : World) → ((x : X) → fault x ≡ DataReading.World' w → ⊥) → unless_found o fault (DataReading.World' v) ≡ DataReading.World' w → v ≡ w
same_world None fault v w other e = cc
same_world (Some x) fault v w other e = absurd (other x e)

tree_model : (m : Model) (d : Data) (w : World) → entities_in_tree m d ≡ DataReading.World' w → w.model ≡ m
tree_model m d w e = by (is_object d) e
  where
    rows : (rows : List (List (Option (List Value)))) → rows_reading m rows ≡ DataReading.World' w → w.model ≡ m
    rows rs e = sym (ap (λ (v : World). v.model) (same_world (find (is_no_entity rs) (all_places rs)) DataReading.Shape (world_of m rs) w (λ x f. cc) e))

    object : (o : Option Member) → unless_found o (λ x. DataReading.Set x.0) (rows_reading m (items_of_sets m d)) ≡ DataReading.World' w → w.model ≡ m
    object None e = rows (items_of_sets m d) e
    object (Some x) e = absurd cc

    by : (b : Bool) → (if b then object_reading m d else DataReading.NoJson) ≡ DataReading.World' w → w.model ≡ m
    by true e = object (find (λ x. not (is_set_member m x)) (members_in d)) e
    by false e = absurd cc

entities_model : (m : Model) (file : List ℕ) (w : World) → entities_reading m file ≡ DataReading.World' w → w.model ≡ m
entities_model m file w e = by (nat_lt data_limit (length file)) e
  where
    tree : (o : Option Data) → unwrap_or (option_map (entities_in_tree m) o) DataReading.NoJson ≡ DataReading.World' w → w.model ≡ m
    tree None e = absurd cc
    tree (Some d) e = tree_model m d w e

    by : (b : Bool) → (if b then DataReading.TooLong else unwrap_or (option_map (entities_in_tree m) (json_of file)) DataReading.NoJson) ≡ DataReading.World' w → w.model ≡ m
    by true e = absurd cc
    by false e = tree (json_of file) e

-- it is the model over which the file was read
pub data_model : (m : Model) (file : List ℕ) (w : World) → data_reading m file ≡ DataReading.World' w → w.model ≡ m
data_model m file w e =
    let keyed = world-read (with_world (entities_reading m file) keys_reading) references_reading w e in
    let plain = world-read (entities_reading m file) keys_reading keyed.0 keyed.1 in
    let a : keyed.0 ≡ w = same_world (find (is_dangling keyed.0) (all_places (keyed.0).entities)) DataReading.Dangling keyed.0 w (λ x f. cc) keyed.2 in
    let b : plain.0 ≡ keyed.0 = same_world (find (has_earlier_key plain.0) (all_places (plain.0).entities)) DataReading.TwiceKey plain.0 keyed.0 (λ x f. cc) plain.2 in
    ap (λ (v : World). v.model) (sym a) ∙ ap (λ (v : World). v.model) (sym b) ∙ entities_model m file plain.0 plain.1
