-- The trees that the program's values are, and the lists of the family.
use Rattle.std.specs.Prelude.{List, [], ◌∷◌, Option, Some, None, map}
use Rattle.apply_ast.specs.Trees.{Expr, Named, OrderItem, AggItem, HierName, NumberLiteral, Limit, TopStep, TraverseStep, Pipe, Step, OptPipe, Pipes, Key, Keys, pipe}
use Rattle.apply_ast.specs.declared.expressions.Expr as of_expr
use Rattle.apply_ast.specs.declared.expressions.Expr.TheVariants as expr
use Rattle.apply_ast.specs.declared.items.Named as of_named
use Rattle.apply_ast.specs.declared.items.OrderItem as of_item
use Rattle.apply_ast.specs.declared.items.AggItem as of_agg
use Rattle.apply_ast.specs.declared.items.AggItem.TheVariants as agg
use Rattle.apply_ast.specs.declared.items.HierName as of_hier
use Rattle.apply_ast.specs.declared.items.Number as of_number
use Rattle.apply_ast.specs.declared.items.Number.TheVariants as number
use Rattle.apply_ast.specs.declared.items.Limit as of_limit
use Rattle.apply_ast.specs.declared.items.Limit.TheVariants as limit
use Rattle.apply_ast.specs.declared.items.TopStep as of_top
use Rattle.apply_ast.specs.declared.items.TraverseStep as of_traverse
use Rattle.apply_ast.specs.declared.steps.KeyItem as of_key
use Rattle.apply_ast.specs.declared.steps.KeyItem.TheOpen as layer
use Rattle.apply_ast.specs.declared.steps.Step as of_step
use Rattle.apply_ast.specs.declared.steps.ClimbStep as of_climb
use Rattle.apply_ast.specs.declared.steps.JoinStep as of_join
use Rattle.apply_ast.specs.declared.steps.Pipe as of_pipe
use Rattle.apply_ast.specs.declared.steps.KeyList as of_keys
use Rattle.apply_ast.specs.declared.steps.PipeList as of_pipes

-- ---- types that hold no pipeline

-- an expression
abbrev pub expr_of : of_expr.Expr → Expr
expr_of expr.Null = Expr.Null
expr_of (expr.Bool b) = Expr.Bool' b
expr_of (expr.Int n) = Expr.Int n
expr_of (expr.Dec d) = Expr.Dec d.mantissa d.scale
expr_of (expr.Text t) = Expr.Text t
expr_of (expr.Day d) = Expr.Day d.year d.month d.day
expr_of (expr.Path p) = Expr.Path' p
expr_of (expr.Unary' o p a) = Expr.Unary o (expr_of a)
expr_of (expr.Binary' o p a q b) = Expr.Binary o (expr_of a) (expr_of b)
expr_of (expr.Call1' f p a) = Expr.Call1 f (expr_of a)
expr_of (expr.Call2' f p a q b) = Expr.Call2 f (expr_of a) (expr_of b)

-- an item of a computation
abbrev pub named_of : of_named.Named → Named
named_of n = record { expr = expr_of n.expr; name = n.name }

-- an item of an order
abbrev pub item_of : of_item.OrderItem → OrderItem
item_of i = record { expr = expr_of i.expr; desc = i.desc }

-- an item of an aggregation
abbrev pub agg_of : of_agg.AggItem → AggItem
agg_of (agg.Count a) = AggItem.Count a
agg_of (agg.Standard e f a) = AggItem.Standard (expr_of e) f a
agg_of (agg.Custom n a) = AggItem.Custom n a

-- a hierarchy
abbrev pub hier_of : of_hier.HierName → HierName
hier_of h = record { set = h.set; qualifier = h.qualifier }

-- a literal number
abbrev pub number_literal_of : of_number.Number → NumberLiteral
number_literal_of (number.Int n) = NumberLiteral.Int n
number_literal_of (number.Dec d) = NumberLiteral.Dec d.mantissa d.scale

-- what a selection reaches for
abbrev pub limit_of : of_limit.Limit → Limit
limit_of (limit.Count n) = Limit.Count n
limit_of (limit.Sum x) = Limit.Sum (number_literal_of x)
limit_of (limit.Percent p) = Limit.Percent p

-- a selection
abbrev pub top_of : of_top.TopStep → TopStep
top_of t = record { bottom = t.bottom; limit = limit_of t.limit; expr = expr_of t.expr }

-- a walk
abbrev pub traverse_of : of_traverse.TraverseStep → TraverseStep
traverse_of t = record { hier = hier_of t.hier; path = t.path; post = t.post; items = map item_of t.items }

-- ---- the lists and options of the family

-- an inner pipeline that may be left out
abbrev pub inner_of : Option Pipe → OptPipe
inner_of None = OptPipe.NoPipe
inner_of (Some p) = OptPipe.SomePipe p

-- the branches of a concatenation
abbrev pub pipes_from : List Pipe → Pipes
pipes_from [] = Pipes.NoPipes
pipes_from (p ∷ ps) = Pipes.MorePipes p (pipes_from ps)

-- the keys of a grouping
abbrev pub keys_from : List Key → Keys
keys_from [] = Keys.NoKeys
keys_from (k ∷ ks) = Keys.MoreKeys k (keys_from ks)

-- ---- one layer of each type of the family, with the trees of its parts in their places

-- a key
abbrev pub key_layer : layer.KeyItem-F Key Step Step Step Keys Pipe Pipes → Key
key_layer (layer.Plain p) = Key.Plain p
key_layer (layer.Rollup all ps) = Key.Rollup all ps
key_layer (layer.Recursive h p i) = Key.Recursive (hier_of h) p (inner_of i)

-- a transformation
abbrev pub step_layer : layer.Step-F Key Step Step Step Keys Pipe Pipes → Step
step_layer layer.Identity = Step.Identity
step_layer (layer.Filter e) = Step.Filter (expr_of e)
step_layer (layer.Compute ns) = Step.Compute (map named_of ns)
step_layer (layer.OrderBy is) = Step.OrderBy (map item_of is)
step_layer (layer.Skip n) = Step.Skip n
step_layer (layer.Top n) = Step.Top n
step_layer (layer.Aggregate as') = Step.Aggregate (map agg_of as')
step_layer (layer.GroupBy ks i) = Step.GroupBy ks (inner_of i)
step_layer (layer.Concat ps) = Step.Concat ps
step_layer (layer.Join j) = j
step_layer (layer.TopBy t) = Step.TopBy (top_of t)
step_layer (layer.Climb c) = c
step_layer (layer.Traverse t) = Step.Traverse (traverse_of t)

-- a climb
abbrev pub climb_layer : layer.ClimbStep-F Key Step Step Step Keys Pipe Pipes → Step
climb_layer c = Step.Climb c.up (hier_of c.hier) c.path c.inner c.distance c.keep

-- a join
abbrev pub join_layer : layer.JoinStep-F Key Step Step Step Keys Pipe Pipes → Step
join_layer j = Step.Join j.outer j.nav j.alias (inner_of j.inner)

-- the keys of a grouping
abbrev pub keys_layer : layer.KeyList-F Key Step Step Step Keys Pipe Pipes → Keys
keys_layer l = keys_from l.all.items

-- the branches of a concatenation
abbrev pub pipes_layer : layer.PipeList-F Key Step Step Step Keys Pipe Pipes → Pipes
pipes_layer l = pipes_from l.all.items

-- a pipeline
abbrev pub pipe_layer : layer.Pipe-F Key Step Step Step Keys Pipe Pipes → Pipe
pipe_layer p = pipe p.steps

-- ---- the family

-- a key
abbrev pub key_of : of_key.KeyItem → Key
key_of = of_key.fold-KeyItem Key Step Step Step Keys Pipe Pipes key_layer step_layer climb_layer join_layer keys_layer pipe_layer pipes_layer

-- a transformation
abbrev pub step_of : of_step.Step → Step
step_of = of_step.fold-Step Key Step Step Step Keys Pipe Pipes key_layer step_layer climb_layer join_layer keys_layer pipe_layer pipes_layer

-- a climb
abbrev pub climb_of : of_climb.ClimbStep → Step
climb_of = of_climb.fold-ClimbStep Key Step Step Step Keys Pipe Pipes key_layer step_layer climb_layer join_layer keys_layer pipe_layer pipes_layer

-- a join
abbrev pub join_of : of_join.JoinStep → Step
join_of = of_join.fold-JoinStep Key Step Step Step Keys Pipe Pipes key_layer step_layer climb_layer join_layer keys_layer pipe_layer pipes_layer

-- a pipeline
abbrev pub pipe_of : of_pipe.Pipe → Pipe
pipe_of = of_pipe.fold-Pipe Key Step Step Step Keys Pipe Pipes key_layer step_layer climb_layer join_layer keys_layer pipe_layer pipes_layer

-- the keys of a grouping
abbrev pub keys_of : of_keys.KeyList → Keys
keys_of = of_keys.fold-KeyList Key Step Step Step Keys Pipe Pipes key_layer step_layer climb_layer join_layer keys_layer pipe_layer pipes_layer

-- the branches of a concatenation
abbrev pub pipes_of : of_pipes.PipeList → Pipes
pipes_of = of_pipes.fold-PipeList Key Step Step Step Keys Pipe Pipes key_layer step_layer climb_layer join_layer keys_layer pipe_layer pipes_layer

-- ---- the elements of the program's lists

-- the keys in a list of them
abbrev pub keys_in : of_keys.KeyList → List of_key.KeyItem
keys_in l = l.all.items

-- the branches in a list of them
abbrev pub pipes_in : of_pipes.PipeList → List of_pipe.Pipe
pipes_in l = (of_pipes.out-PipeList l).all.items

-- the steps in a pipeline
abbrev pub steps_in : of_pipe.Pipe → List of_step.Step
steps_in p = p.steps
