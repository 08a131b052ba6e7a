-- What is read of custom aggregates (Data Aggregation 4.0, section 5.2).
use Rattle.std.specs.Prelude.{◌≡◌, ℕ, List, take, length, slice_get, Option, Some, None}
use Rattle.std.specs.List.{AllZip}
use Rattle.edm_values.specs.Names.{Path}
use Rattle.edm_model.specs.declared.parts.Custom.{Custom}
use Rattle.apply_ast.specs.Trees.{Expr}
use Rattle.apply_ast.specs.Views.{expr_of}
use Rattle.apply_grammar.specs.Limits.{ExprTextIn, PathText}
use Rattle.context_typing.specs.declared.customs.ReadCustom.{ReadCustom}

-- the expression and the paths are those of these texts
abbrev pub AreOfTexts : List ℕ → List (List ℕ) → Expr → List Path → Type 0
AreOfTexts of per e ps = ExprTextIn of e × AllZip PathText per ps

-- the paths are those of the texts, and no others are
pub record ArePathsOf (texts : List (List ℕ)) (ps : List Path) : Type 0 where
  pub are : AllZip PathText texts ps
  pub only : (qs : List Path) → AllZip PathText texts qs → qs ≡ ps

-- the paths of the texts, or that they have none
abbrev pub AnswersPaths : List (List ℕ) → Option (List Path) → Type 0
AnswersPaths texts (Some ps) = ArePathsOf texts ps
AnswersPaths texts None = (ps : List Path) → ¬ AllZip PathText texts ps

-- the texts of a custom aggregate's definition were read so, and no other reading is theirs
pub record IsRead (u : Custom) (r : ReadCustom) : Type 0 where
  pub id : r.id ≡ u.id
  pub texts : AreOfTexts u.of u.per (expr_of r.of) r.per
  pub only : (e : Expr) (ps : List Path) → AreOfTexts u.of u.per e ps → (e ≡ expr_of r.of) × (ps ≡ r.per)

-- they have no reading
abbrev pub HasNoReading : Custom → Type 0
HasNoReading u = (e : Expr) (ps : List Path) → ¬ AreOfTexts u.of u.per e ps

-- the reading of a custom aggregate's definition, or that it has none
abbrev pub AnswersReading : Custom → Option ReadCustom → Type 0
AnswersReading u (Some r) = IsRead u r
AnswersReading u None = HasNoReading u

-- the custom aggregates were read in their order, up to the first that has no reading
pub record AreRead (us : List Custom) (list : List ReadCustom) : Type 0 where
  pub read : AllZip IsRead (take (length list) us) list
  pub ended : (u : Custom) → slice_get us (length list) ≡ Some u → HasNoReading u
