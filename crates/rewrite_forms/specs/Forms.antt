-- The forms of steps and expressions that the rules look for, as functions that the code has.
use Rattle.std.specs.Prelude.{ℕ, Bool, true, false, List, [], ◌∷◌, Option, Some, None, is_some, option_map}
use Rattle.edm_values.specs.Names.{Path}
use Rattle.apply_ast.specs.Trees.{Expr, Limit, Named, OrderItem, Step, TopStep}
use Rattle.apply_ast.specs.declared.expressions.BinOp.TheVariants as BinOp
use Rattle.rewrite_laws.specs.Rewrites.{top_count}

-- the expression is the literal true
abbrev pub is_true : Expr → Bool
is_true (Expr.Bool' b) = b
is_true e = false

-- the step is the filter that is always true
abbrev pub passes_all : Step → Bool
passes_all (Step.Filter e) = is_true e
passes_all s = false

-- the operands of a conjunction
abbrev pub conjuncts : Expr → Option (Expr × Expr)
conjuncts (Expr.Binary BinOp.And a b) = Some (a, b)
conjuncts e = None

-- the operands of a filter by a conjunction
abbrev pub operands : Step → Option (Expr × Expr)
operands (Step.Filter e) = conjuncts e
operands s = None

-- the number of a count from the top, and what it counts by
abbrev pub count_by : TopStep → Option (ℕ × Expr)
count_by t = option_map {U = ℕ × Expr} (λ n. (n, t.expr)) (top_count t.bottom t.limit)

-- the same of a step
abbrev pub count_from_top : Step → Option (ℕ × Expr)
count_from_top (Step.TopBy t) = count_by t
count_from_top s = None

-- a step is an aggregation
abbrev pub is_aggregate : Step → Bool
is_aggregate (Step.Aggregate items) = true
is_aggregate s = false

-- the first step is an aggregation
abbrev pub begins_with_aggregate : List Step → Bool
begins_with_aggregate [] = false
begins_with_aggregate (s ∷ ss) = is_aggregate s

-- the expression of a filter
abbrev pub filtered_by : Step → Option Expr
filtered_by (Step.Filter e) = Some e
filtered_by s = None

-- the items of a computation
abbrev pub computed_by : Step → Option (List Named)
computed_by (Step.Compute ns) = Some ns
computed_by s = None

-- the items of an order
abbrev pub ordered_by : Step → Option (List OrderItem)
ordered_by (Step.OrderBy items) = Some items
ordered_by s = None

-- the path of the nodes that a step walks over
abbrev pub walked_by : Step → Option Path
walked_by (Step.Traverse t) = Some t.path
walked_by s = None

-- what the first step counts by, from the top
abbrev pub first_count : List Step → Option (ℕ × Expr)
first_count [] = None
first_count (s ∷ ss) = count_from_top s

-- the first step is a filter
abbrev pub begins_with_filter : List Step → Bool
begins_with_filter [] = false
begins_with_filter (s ∷ ss) = is_some (filtered_by s)

-- the step that leaves so many from the top by an expression
abbrev pub count_to : ℕ → Expr → Step
count_to n e = Step.TopBy (record { bottom = false; limit = Limit.Count n; expr = e })
