-- Two outcomes of one folder are of one kind, and where they are worlds they are one.
use Rattle.std.proofs.Common.{◌≡◌, ℕ, List, [], ◌∷◌, None, Some, refl, sym, ap, ap₂, ◌∙◌, arith}
use Rattle.std.specs.declared.option.Option.{Option}
use Rattle.std.specs.List.{AllZip}
use Rattle.apply_io.specs.Files.{Files, content}
use Rattle.edm_values.specs.Names.{Path}
use Rattle.edm_model.specs.Models.{Custom, Model}
use Rattle.edm_model.specs.LookUps.{all_customs}
use Rattle.edm_model.specs.ModelFile.{ModelReading, model_reading}
use Rattle.apply_grammar.specs.Limits.{PathText}
use Rattle.apply_grammar.proofs.ExprWhole.{path_text_read}
use Rattle.apply_grammar.proofs.OneTree.{one_expr}
use Rattle.context_typing.specs.Typing.{Customs, Reading}
use Rattle.apply_store.specs.CustomReadings.{AreCustoms, IsTypedReading}
use Rattle.apply_load.specs.Loads.{FileNames, Outcome, Missing, RefusedModel, RefusedData, Loaded, untyped, typed, data_outcome, IsModelOutcome, IsReadingOutcome, IsPairOutcome, IsFilesOutcome}
use Rattle.apply_store.proofs.FirstCustoms.{not_both}

-- ---- readings

one_path : (t : List ℕ) (p q : Path) → PathText t p → PathText t q → p ≡ q
one_path t p q h k =
    let same : Some p ≡ Some q = sym (path_text_read t p h) ∙ path_text_read t q k in cc

-- lists that stand beside one list in a way that leaves one item for each
one_zip : {A B : Type 0} (P : A → B → Type 0) → ((a : A) (b c : B) → P a b → P a c → b ≡ c) → (xs : List A) (ys zs : List B) → AllZip P xs ys → AllZip P xs zs → ys ≡ zs
one_zip P one [] [] [] h k = refl
one_zip P one [] [] (z ∷ zs) h k = absurd k
one_zip P one [] (y ∷ ys) zs h k = absurd h
one_zip P one (x ∷ xs) [] zs h k = absurd h
one_zip P one (x ∷ xs) (y ∷ ys) [] h k = absurd k
one_zip P one (x ∷ xs) (y ∷ ys) (z ∷ zs) h k = ap₂ (λ b bs. b ∷ bs) (one x y z h.0 k.0) (one_zip P one xs ys zs h.1 k.1)

one_reading : (m : Model) (u : ℕ × Custom) (r s : Reading) → IsTypedReading m u r → IsTypedReading m u s → r ≡ s
one_reading m u r s h k =
    let owner : r.owner ≡ s.owner = h.0 ∙ sym k.0 in
    let name : r.name ≡ s.name = sym (h.1).0 ∙ (k.1).0 in
    let of : r.of ≡ s.of = one_expr (u.1).of r.of s.of (((h.1).1).0).0 (((k.1).1).0).0 in
    let per : r.per ≡ s.per = one_zip PathText one_path (u.1).per r.per s.per (((h.1).1).1) (((k.1).1).1) in
    λ i. record { owner = owner i; name = name i; of = of i; per = per i }

-- the readings of a model's custom aggregates are one list
one_customs : (m : Model) (c d : Customs) → AreCustoms m c → AreCustoms m d → c ≡ d
one_customs m c d h k = one_zip (IsTypedReading m) (one_reading m) (all_customs m) c d h k

-- ---- outcomes

-- of which kind an outcome is
abbrev pub kind : Outcome → ℕ
kind Missing = 0
kind (RefusedModel line) = 1
kind (RefusedData line) = 2
kind (Loaded w c) = 3

-- two outcomes are of one kind, and one where they are worlds
pub record Alike (o p : Outcome) : Type 0 where
  pub kinds : kind o ≡ kind p
  pub worlds : kind o ≡ 3 → o ≡ p

alike : (o p : Outcome) → o ≡ p → Alike o p
alike o p e = record { kinds = ap kind e; worlds = λ _. e }

model_alike : (m : Model) (entities : Option (List ℕ)) (o p : Outcome) → IsModelOutcome m entities o → IsModelOutcome m entities p → Alike o p
model_alike m entities o p (untyped u h) (untyped v k) = record { kinds = refl; worlds = λ e. absurd (omega (arith, e)) }
model_alike m entities o p (untyped u h) (typed c all) = absurd (not_both m c u all h)
model_alike m entities o p (typed c all) (untyped u h) = absurd (not_both m c u all h)
model_alike m entities o p (typed c all) (typed d every) = alike _ _ (ap (λ (l : Customs). data_outcome m l entities) (one_customs m c d all every))

reading_alike : (r : ModelReading) (entities : Option (List ℕ)) (o p : Outcome) → IsReadingOutcome r entities o → IsReadingOutcome r entities p → Alike o p
reading_alike (ModelReading.Model' m) entities o p h k = model_alike m entities o p h k
reading_alike ModelReading.TooLong entities o p h k = alike o p (h ∙ sym k)
reading_alike ModelReading.NoJson entities o p h k = alike o p (h ∙ sym k)
reading_alike ModelReading.NoModel entities o p h k = alike o p (h ∙ sym k)

pair_alike : (file entities : Option (List ℕ)) (o p : Outcome) → IsPairOutcome file entities o → IsPairOutcome file entities p → Alike o p
pair_alike None entities o p h k = alike o p (h ∙ sym k)
pair_alike (Some file) entities o p h k = reading_alike (model_reading file) entities o p h k

pub files_alike : (files : Files) (names : FileNames) (o p : Outcome) → IsFilesOutcome files names o → IsFilesOutcome files names p → Alike o p
files_alike files names o p h k = pair_alike (content files names.model) (content files names.entities) o p h k
