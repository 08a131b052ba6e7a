-- The laws of the meaning of pipelines, as statements that a contract can name. Each is taken over the worlds that a condition admits.
use Rattle.std.specs.Prelude.{◌≡◌, ◌<◌, ℕ, false, IsTrue, List, length, Some}
use Rattle.std.specs.List.{list_all}
use Rattle.edm_model.specs.Models.{Navigation}
use Rattle.edm_model.specs.Soundness.{IsSound}
use Rattle.edm_data.specs.Worlds.{World}
use Rattle.edm_data.specs.Fitting.{FitsModel}
use Rattle.edm_values.specs.declared.EdmType.{EdmType}
use Rattle.edm_values.specs.Literals.{is_of_kind}
use Rattle.edm_values.specs.Values.{is_beyond}
use Rattle.edm_values.specs.Names.{Name}
use Rattle.apply_ast.specs.Trees.{Expr, HierName, Pipe}
use Rattle.edm_model.specs.LookUps.{HierarchyPlace, set_type}
use Rattle.context_typing.specs.Typing.{hierarchy_at, Customs, Types, expr_kind, join_navigation, is_typed, is_sure, is_quiet, is_lawful, customs_typed}
use Rattle.context_typing.specs.Shapes.{Shape, set_shape}
use Rattle.apply_meaning.specs.Instances.{Instance, rows, fits, val}
use Rattle.apply_meaning.specs.Meaning.{mean, related_rows}

-- a world of a sound model, each of whose lists has the form that the model says: every world that is loaded is one
pub record IsLoaded (w : World) : Type 0 where
  pub model : IsSound w.model
  pub lists : FitsModel w

-- instances that fit a shape
abbrev pub AllFit : World → Shape → List Instance → Type 0
AllFit w S l = IsTrue (list_all (fits w S) l)

-- the meaning of a typed pipeline on instances that fit fits the shape that it leads to
abbrev pub MeanFits : (World → Type 0) → Type 0
MeanFits IsAccepted =
    (w : World) (c : Customs) (S S' : Shape) (p : Pipe) (l r : List Instance) → IsAccepted w → IsTrue (customs_typed w.model c) → IsTrue (is_lawful w.model S)
    → Types w.model c S p S' → AllFit w S l → mean w c S p l ≡ Some r → AllFit w S' r

-- a typed expression has a value of its type on instances that fit
abbrev pub ValuesFit : (World → Type 0) → Type 0
ValuesFit IsAccepted =
    (w : World) (S : Shape) (e : Expr) (k : EdmType) (i : Instance) → IsAccepted w → expr_kind w.model S e ≡ Some k → IsTrue (fits w S i) → IsTrue (is_of_kind k (val w i e))

-- a sure expression is never Beyond on instances that fit
abbrev pub SureIsNotBeyond : (World → Type 0) → Type 0
SureIsNotBeyond IsAccepted =
    (w : World) (S : Shape) (e : Expr) (i : Instance) → IsAccepted w → IsTrue (is_typed w.model S e) → IsTrue (is_sure w.model S e) → IsTrue (fits w S i)
    → is_beyond (val w i e) ≡ false

-- a quiet pipeline is never refused on instances that fit a lawful shape
abbrev pub QuietIsNotRefused : (World → Type 0) → Type 0
QuietIsNotRefused IsAccepted =
    (w : World) (c : Customs) (S S' : Shape) (p : Pipe) (l : List Instance) → IsAccepted w → IsTrue (customs_typed w.model c) → IsTrue (is_lawful w.model S)
    → Types w.model c S p S' → IsTrue (is_quiet w.model c S p) → AllFit w S l → (r : List Instance) × (mean w c S p l ≡ Some r)

-- the instances of an entity set fit the set's own shape
abbrev pub RowsFit : (World → Type 0) → Type 0
RowsFit IsAccepted = (w : World) (s : ℕ) → IsAccepted w → s < length w.model.sets → AllFit w (set_shape (set_type w.model s)) (rows w s)

-- the instances of the nodes of a hierarchy fit the shape of the hierarchy's type
abbrev pub NodesFit : (World → Type 0) → Type 0
NodesFit IsAccepted = (w : World) (h : HierName) (f : HierarchyPlace) → IsAccepted w → hierarchy_at w.model h ≡ Some f → AllFit w (set_shape f.type) (rows w f.set)

-- the instances of the entities that are related to an instance's entity fit the shape of the navigation's target
abbrev pub RelatedFit : (World → Type 0) → Type 0
RelatedFit IsAccepted =
    (w : World) (S : Shape) (n : Name) (v : Navigation) (i : Instance) → IsAccepted w → join_navigation w.model S n ≡ Some v → AllFit w (set_shape v.target) (related_rows w v i)
