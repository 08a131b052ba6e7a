-- What a reader of the program returned, against what reading gives.
use Rattle.std.specs.Prelude.{◌≡◌, ℕ, Option, Some, None, Result, Ok, Err}
use Rattle.apply_grammar.specs.declared.refusals.ExprRefused.{ExprRefused}
use Rattle.apply_grammar.specs.declared.refusals.ExprRefused.TheVariants as expr
use Rattle.apply_grammar.specs.declared.refusals.GrammarRefused.{GrammarRefused}
use Rattle.apply_grammar.specs.declared.refusals.GrammarRefused.TheVariants as request
use Rattle.apply_ast.specs.declared.steps.Pipe as of_pipe
use Rattle.apply_ast.specs.declared.steps.Request.{Request}
use Rattle.apply_grammar.specs.Requests.{Asked, asked_of}
use Rattle.apply_ast.specs.Trees.{Pipe}
use Rattle.apply_ast.specs.Views.{pipe_of}

-- a refusal where nothing is read, or for want of memory
abbrev pub Fails : {Y : Type 0} → ExprRefused → Option Y → Type 0
Fails expr.Syntax read = read ≡ None
Fails expr.Memory read = Unit {0}

-- seen by view it is what is read; or a refusal
abbrev pub Gives : {X Y : Type 0} → (X → Y) → Result X ExprRefused → Option Y → Type 0
Gives view (Ok x) read = read ≡ Some (view x)
Gives view (Err e) read = Fails e read

-- a refusal with the number of the first step that is none, or for want of memory
abbrev pub FailsPipe : GrammarRefused → Result Pipe ℕ → Type 0
FailsPipe request.TooLong read = ⊥
FailsPipe (request.Syntax k) read = read ≡ Err k
FailsPipe request.Memory read = Unit {0}

-- the pipeline that is read; or a refusal
abbrev pub GivesPipe : Result of_pipe.Pipe GrammarRefused → Result Pipe ℕ → Type 0
GivesPipe (Ok p) read = read ≡ Ok (pipe_of p)
GivesPipe (Err e) read = FailsPipe e read

-- the request that is read; or a refusal
abbrev pub GivesRequest : Result Request GrammarRefused → Result Asked ℕ → Type 0
GivesRequest (Ok r) read = read ≡ Ok (asked_of r)
GivesRequest (Err request.TooLong) read = ⊥
GivesRequest (Err (request.Syntax k)) read = read ≡ Err k
GivesRequest (Err request.Memory) read = Unit {0}
