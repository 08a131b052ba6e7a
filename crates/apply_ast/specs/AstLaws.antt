-- The laws of printing and of the grammar, as statements that a contract can name.
use Rattle.std.specs.Prelude.{ℕ, IsTrue, List}
use Rattle.apply_ast.specs.Trees.{Pipe}
use Rattle.apply_ast.specs.Printing.{print}
use Rattle.apply_ast.specs.Grammar.{Text, is_writable}

-- a printed pipeline is a text of it
abbrev pub PrintsText : Type 0
PrintsText = (p : Pipe) → IsTrue (is_writable p) → Text p (print p)

-- a pipeline that has a text can be written
abbrev pub TextsAreWritable : Type 0
TextsAreWritable = (p : Pipe) (t : List ℕ) → Text p t → IsTrue (is_writable p)
