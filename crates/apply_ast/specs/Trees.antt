-- The trees of requests (Data Aggregation 4.0, section 3; URL Conventions 4.01, section 5.1.1).
use Rattle.std.specs.Prelude.{ℕ, ℤ, pos, int_le, nat_le, Bool, true, false, ◌&&◌, List, [], ◌∷◌, Option, Some, None}
use Rattle.edm_values.specs.declared.Method.{Method}
use Rattle.edm_values.specs.Names.{Name, Path}
use Rattle.edm_values.specs.Values.{integer_max}
use Rattle.edm_values.specs.Parts.{mantissa_max, scale_max}
use Rattle.apply_ast.specs.declared.expressions.UnOp.{UnOp}
use Rattle.apply_ast.specs.declared.expressions.BinOp.{BinOp}
use Rattle.apply_ast.specs.declared.expressions.Fun1.{Fun1}
use Rattle.apply_ast.specs.declared.expressions.Fun2.{Fun2}

-- an expression
pub data Expr : Type 0 where
  Null : Expr
  Bool' : Bool → Expr
  Int : ℤ → Expr
  Dec : ℤ → ℕ → Expr
  Text : List ℕ → Expr
  Day : ℕ → ℕ → ℕ → Expr
  Path' : Path → Expr
  Unary : UnOp → Expr → Expr
  Binary : BinOp → Expr → Expr → Expr
  Call1 : Fun1 → Expr → Expr
  Call2 : Fun2 → Expr → Expr → Expr

-- an expression with the name that it gets
pub record Named : Type 0 where
  pub expr : Expr
  pub name : Name

-- an item of an order
pub record OrderItem : Type 0 where
  pub expr : Expr
  pub desc : Bool

-- an item of an aggregation; the last name is the result's
pub data AggItem : Type 0 where
  Count : Name → AggItem
  Standard : Expr → Method → Name → AggItem
  Custom : Name → Name → AggItem

-- a set of nodes and the qualifier of its hierarchy
pub record HierName : Type 0 where
  pub set : Name
  pub qualifier : Name

-- a literal number
pub data NumberLiteral : Type 0 where
  Int : ℤ → NumberLiteral
  Dec : ℤ → ℕ → NumberLiteral

-- what a selection from the top or the bottom reaches for
pub data Limit : Type 0 where
  Count : ℕ → Limit
  Sum : NumberLiteral → Limit
  Percent : ℕ → Limit

-- a selection by an expression
pub record TopStep : Type 0 where
  pub bottom : Bool
  pub limit : Limit
  pub expr : Expr

-- a walk over a hierarchy
pub record TraverseStep : Type 0 where
  pub hier : HierName
  pub path : Path
  pub post : Bool
  pub items : List OrderItem

-- pipelines and their steps, in one block, with the lists and options that they hold
mutual
  -- the steps of a pipeline; a pipeline has at least one
  pub data Pipe : Type 0 where
    End : Pipe
    Then : Step → Pipe → Pipe

  -- a transformation
  pub data Step : Type 0 where
    Identity : Step
    Filter : Expr → Step
    Compute : List Named → Step
    OrderBy : List OrderItem → Step
    Skip : ℕ → Step
    Top : ℕ → Step
    Aggregate : List AggItem → Step
    GroupBy : Keys → OptPipe → Step
    Concat : Pipes → Step
    Join : Bool → Name → Name → OptPipe → Step
    TopBy : TopStep → Step
    Climb : Bool → HierName → Path → Pipe → Option ℕ → Bool → Step
    Traverse : TraverseStep → Step

  -- an inner pipeline that may be left out
  pub data OptPipe : Type 0 where
    NoPipe : OptPipe
    SomePipe : Pipe → OptPipe

  -- the branches of a concatenation
  pub data Pipes : Type 0 where
    NoPipes : Pipes
    MorePipes : Pipe → Pipes → Pipes

  -- a key of a grouping
  pub data Key : Type 0 where
    Plain : Path → Key
    Rollup : Bool → List Path → Key
    Recursive : HierName → Path → OptPipe → Key

  -- the keys of a grouping
  pub data Keys : Type 0 where
    NoKeys : Keys
    MoreKeys : Key → Keys → Keys

-- the steps of a pipeline as a list, and back
abbrev pub steps : Pipe → List Step
steps End = []
steps (Then s p) = s ∷ steps p

-- a pipeline of steps
abbrev pub pipe : List Step → Pipe
pipe [] = End
pipe (s ∷ ss) = Then s (pipe ss)

-- at least one step
abbrev pub is_long : Pipe → Bool
is_long Pipe.End = false
is_long (Pipe.Then s p) = true

-- ---- which numbers stand in a request

-- an integer literal has no sign and at most 63 bits
abbrev pub is_int_literal : ℤ → Bool
is_int_literal n = int_le (pos 0) n && int_le n (pos integer_max)

-- a decimal literal has no sign, and from 1 to 9 digits after its point
abbrev pub is_dec_literal : ℤ → ℕ → Bool
is_dec_literal m s = int_le (pos 0) m && int_le m (pos mantissa_max) && nat_le 1 s && nat_le s scale_max

-- a greatest distance is at least 1 and has at most 63 bits
abbrev pub is_distance : Option ℕ → Bool
is_distance None = true
is_distance (Some d) = nat_le 1 d && nat_le d integer_max
