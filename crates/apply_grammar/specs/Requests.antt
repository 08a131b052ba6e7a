-- What a line is, as a request, and where it is none.
use Rattle.std.specs.Prelude.{ℕ, zero, suc, Bool, List, Result, Err}
use Rattle.apply_ast.specs.Views.{pipe_of}
use Rattle.apply_ast.specs.declared.steps.Request.{Request}
use Rattle.apply_grammar.specs.declared.refusals.GrammarRefused.{GrammarRefused}
use Rattle.apply_grammar.specs.declared.refusals.GrammarRefused.TheVariants as refused
use Rattle.apply_grammar.specs.Frames.{IsFrame, HasNoFrame}
use Rattle.apply_grammar.specs.Limits.{TextIn, IsSyntax}
use Rattle.apply_ast.specs.Trees.{Pipe}
use Rattle.edm_values.specs.Names.{Name}

-- what a line asks for: whether for the plan, the entity set, and the pipeline
abbrev pub Asked : Type 0
Asked = Bool × Name × Pipe

-- the line has a frame, and its text is one of the pipeline within the limits
pub record IsRequest (line : List ℕ) (asked : Asked) : Type 0 where
  pub text : List ℕ
  pub frame : IsFrame line asked.0 asked.1 text
  pub within : TextIn text asked.2

-- the line has no frame; or it has one, and k is where its text stops being a pipeline within the limits
abbrev pub IsNoRequest : List ℕ → ℕ → Type 0
IsNoRequest line zero = HasNoFrame line
IsNoRequest line (suc k) = (explain : Bool) × (set text : List ℕ) × IsFrame line explain set text × IsSyntax text (suc k)

-- what a request asks for
abbrev pub asked_of : Request → Asked
asked_of r = (r.explain, r.set, pipe_of r.pipe)

-- P holds of the number of a line that is no request
abbrev pub IfSyntax : Result Request GrammarRefused → (ℕ → Type 0) → Type 0
IfSyntax (Err (refused.Syntax k)) P = P k
IfSyntax _ P = Unit {0}
