-- The laws of typing, as statements that a contract can name.
use Rattle.std.specs.Prelude.{◌≡◌, ℕ, IsTrue}
use Rattle.edm_model.specs.Models.{Model}
use Rattle.apply_ast.specs.Trees.{Pipe}
use Rattle.context_typing.specs.Shapes.{Shape, set_shape}
use Rattle.context_typing.specs.Typing.{Customs, Types, is_lawful}

-- a set's own shape is lawful
abbrev pub OwnIsLawful : Type 0
OwnIsLawful = (m : Model) (t : ℕ) → IsTrue (is_lawful m (set_shape t))

-- typing leads from lawful shapes to lawful ones, over the models that a condition admits
abbrev pub TypingKeepsLawful : (Model → Type 0) → Type 0
TypingKeepsLawful IsAccepted =
    (m : Model) (c : Customs) (S S' : Shape) (p : Pipe) → IsAccepted m → IsTrue (is_lawful m S) → Types m c S p S' → IsTrue (is_lawful m S')

-- typing leads from lawful shapes to lawful ones, over every model
abbrev pub TypingIsLawful : Type 0
TypingIsLawful = TypingKeepsLawful (λ m. Unit {0})

-- a pipeline leads from a shape to at most one
abbrev pub OneShape : Type 0
OneShape = (m : Model) (c : Customs) (S S' S'' : Shape) (p : Pipe) → Types m c S p S' → Types m c S p S'' → S' ≡ S''
