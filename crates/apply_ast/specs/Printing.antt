-- The printed texts of expressions and pipelines (Data Aggregation 4.0, the ABNF; URL Conventions 4.01, section 5.1.1).
use Rattle.std.specs.Prelude.{ℕ, zero, suc, ◌==◌, nat_lt, nat_le, Bool, List, [], ◌∷◌, ◌++◌, decimal, codes, Option, Some, None, map, flat_map, if◌then◌else◌}
use Rattle.std.specs.Fmt.{signed_decimal}
use Rattle.std.specs.List.{join_with_byte}
use Rattle.edm_values.specs.declared.Method.{Method}
use Rattle.edm_values.specs.Lists.{same_text}
use Rattle.edm_values.specs.Names.{Name, Path}
use Rattle.apply_ast.specs.Trees.{Expr, Named, OrderItem, AggItem, HierName, NumberLiteral, Limit, Pipe, Step, OptPipe, Pipes, Key, Keys}
use Rattle.edm_values.specs.Literals.{decimal_text, day_text}
use Rattle.apply_ast.specs.declared.expressions.UnOp.{UnOp}
use Rattle.apply_ast.specs.declared.expressions.BinOp.{BinOp}
use Rattle.apply_ast.specs.declared.expressions.Fun1.{Fun1}
use Rattle.apply_ast.specs.declared.expressions.Fun2.{Fun2}

-- a sign, with the blank behind `not`
abbrev pub sign_word : UnOp → List ℕ
sign_word UnOp.Neg = codes "-"
sign_word UnOp.Not = codes "not "

-- the words of operators
abbrev pub binop_word : BinOp → List ℕ
binop_word BinOp.Or = codes "or"
binop_word BinOp.And = codes "and"
binop_word BinOp.Eq = codes "eq"
binop_word BinOp.Ne = codes "ne"
binop_word BinOp.Gt = codes "gt"
binop_word BinOp.Ge = codes "ge"
binop_word BinOp.Lt = codes "lt"
binop_word BinOp.Le = codes "le"
binop_word BinOp.Add = codes "add"
binop_word BinOp.Sub = codes "sub"
binop_word BinOp.Mul = codes "mul"

-- the words of functions of one argument
abbrev pub fun1_word : Fun1 → List ℕ
fun1_word Fun1.Length = codes "length"
fun1_word Fun1.Year = codes "year"
fun1_word Fun1.Month = codes "month"
fun1_word Fun1.Day = codes "day"

-- the words of functions of two texts
abbrev pub fun2_word : Fun2 → List ℕ
fun2_word Fun2.StartsWith = codes "startswith"
fun2_word Fun2.EndsWith = codes "endswith"
fun2_word Fun2.Contains = codes "contains"

-- the words of methods
abbrev pub method_word : Method → List ℕ
method_word Method.Sum = codes "sum"
method_word Method.Min = codes "min"
method_word Method.Max = codes "max"
method_word Method.CountDistinct = codes "countdistinct"

-- the word of a join
abbrev pub join_word : Bool → List ℕ
join_word outer = if outer then codes "outerjoin" else codes "join"

-- the word of a climb
abbrev pub climb_word : Bool → List ℕ
climb_word up = if up then codes "ancestors" else codes "descendants"

-- the word of an order of nodes
abbrev pub walk_word : Bool → List ℕ
walk_word post = if post then codes "postorder" else codes "preorder"

-- what a selection reaches for, as a word
abbrev pub limit_word : Limit → List ℕ
limit_word (Limit.Count n) = codes "count"
limit_word (Limit.Sum x) = codes "sum"
limit_word (Limit.Percent p) = codes "percent"

-- the word of a selection
abbrev pub top_word : Bool → Limit → List ℕ
top_word bottom l = (if bottom then codes "bottom" else codes "top") ++ limit_word l

-- the level of an operator, and of an expression, from 1, the loosest, to 8
abbrev pub binop_level : BinOp → ℕ
binop_level BinOp.Or = 1
binop_level BinOp.And = 2
binop_level BinOp.Eq = 3
binop_level BinOp.Ne = 3
binop_level BinOp.Gt = 4
binop_level BinOp.Ge = 4
binop_level BinOp.Lt = 4
binop_level BinOp.Le = 4
binop_level BinOp.Add = 5
binop_level BinOp.Sub = 5
binop_level BinOp.Mul = 6

-- the level of an expression: that of its operator, 7 for a unary one, and else 8
abbrev pub level : Expr → ℕ
level (Expr.Binary op a b) = binop_level op
level (Expr.Unary op a) = 7
level e = 8

-- a text with each quote doubled
abbrev pub doubled : List ℕ → List ℕ
doubled = flat_map (λ b. if b == 39 then 39 ∷ 39 ∷ [] else b ∷ [])

-- a text in quotes, with each quote inside it doubled
abbrev pub quoted : List ℕ → List ℕ
quoted bs = 39 ∷ doubled bs ++ 39 ∷ []

-- a text in parentheses
abbrev pub enclosed : List ℕ → List ℕ
enclosed t = codes "(" ++ t ++ codes ")"

-- a text in parentheses where the test holds
abbrev pub enclosed_if : Bool → List ℕ → List ℕ
enclosed_if b t = if b then enclosed t else t

-- the byte before the text at this place of a list: none before the first
abbrev pub byte_before : ℕ → ℕ → List ℕ
byte_before c zero = []
byte_before c (suc i) = c ∷ []

-- texts, each behind a byte
abbrev pub each_behind_byte : ℕ → List (List ℕ) → List ℕ
each_behind_byte c = flat_map (λ t. c ∷ t)

-- a path
abbrev pub print_path : Path → List ℕ
print_path = join_with_byte 47

-- a call of a word on parts
abbrev pub call : List ℕ → List (List ℕ) → List ℕ
call w parts = w ++ enclosed (join_with_byte 44 parts)

-- an expression: a left operand of a looser level and a right operand of a level no tighter stand in parentheses
abbrev pub print_expr : Expr → List ℕ
print_expr Expr.Null = codes "null"
print_expr (Expr.Bool' b) = if b then codes "true" else codes "false"
print_expr (Expr.Int n) = signed_decimal n
print_expr (Expr.Dec m s) = decimal_text m s
print_expr (Expr.Text bs) = quoted bs
print_expr (Expr.Day y m d) = day_text y m d
print_expr (Expr.Path' p) = print_path p
print_expr (Expr.Unary op a) = sign_word op ++ enclosed_if (nat_lt (level a) 7) (print_expr a)
print_expr (Expr.Binary op a b) =
    enclosed_if (nat_lt (level a) (binop_level op)) (print_expr a) ++ (codes " " ++ (binop_word op ++ (codes " " ++ enclosed_if (nat_le (level b) (binop_level op)) (print_expr b))))
print_expr (Expr.Call1 f a) = call (fun1_word f) (print_expr a ∷ [])
print_expr (Expr.Call2 f a b) = call (fun2_word f) (print_expr a ∷ print_expr b ∷ [])

-- an item of a computation
abbrev pub print_named : Named → List ℕ
print_named x = print_expr x.expr ++ (codes " as " ++ x.name)

-- the direction of an order; ascending is left out
abbrev pub print_direction : Bool → List ℕ
print_direction desc = if desc then codes " desc" else []

-- an item of an order
abbrev pub print_item : OrderItem → List ℕ
print_item x = print_expr x.expr ++ print_direction x.desc

-- the name of a custom aggregate's result, where it is another than the aggregate's
abbrev pub own_name : Name → Name → List ℕ
own_name n a = if same_text n a then [] else codes " as " ++ a

-- an item of an aggregation; a custom aggregate's own name is left out
abbrev pub print_agg : AggItem → List ℕ
print_agg (AggItem.Count a) = codes "$count as " ++ a
print_agg (AggItem.Standard e f a) = print_expr e ++ (codes " with " ++ (method_word f ++ (codes " as " ++ a)))
print_agg (AggItem.Custom n a) = n ++ own_name n a

-- a hierarchy
abbrev pub print_hier : HierName → List ℕ
print_hier h = codes "$root/" ++ (h.set ++ (codes "," ++ h.qualifier))

-- a literal number
abbrev pub print_literal : NumberLiteral → List ℕ
print_literal (NumberLiteral.Int n) = signed_decimal n
print_literal (NumberLiteral.Dec m s) = decimal_text m s

-- what a selection reaches for
abbrev pub print_limit : Limit → List ℕ
print_limit (Limit.Count n) = decimal n
print_limit (Limit.Sum x) = print_literal x
print_limit (Limit.Percent p) = decimal p

-- the words for kept start nodes, if they are
abbrev pub print_keep : Bool → List (List ℕ)
print_keep keep = if keep then codes "keep start" ∷ [] else []

-- a greatest distance and the words for kept start nodes, if any
abbrev pub print_distance : Option ℕ → Bool → List (List ℕ)
print_distance None keep = print_keep keep
print_distance (Some d) keep = decimal d ∷ print_keep keep

-- the levels of a rollup, with the word for the grand total, if it is asked for
abbrev pub print_levels : Bool → List Path → List (List ℕ)
print_levels all ps = if all then codes "$all" ∷ map print_path ps else map print_path ps

unfoldable mutual
  -- the steps of a pipeline, and the parts of a list of keys or branches
  pub print_steps : Pipe → List (List ℕ)
  print_steps Pipe.End = []
  print_steps (Pipe.Then s p) = print_step s ∷ print_steps p

  -- an inner pipeline, if any
  pub print_inner : OptPipe → List (List ℕ)
  print_inner OptPipe.NoPipe = []
  print_inner (OptPipe.SomePipe p) = join_with_byte 47 (print_steps p) ∷ []

  -- the branches of a concatenation
  pub print_branches : Pipes → List (List ℕ)
  print_branches Pipes.NoPipes = []
  print_branches (Pipes.MorePipes p ps) = join_with_byte 47 (print_steps p) ∷ print_branches ps

  -- a key
  pub print_key : Key → List ℕ
  print_key (Key.Plain p) = print_path p
  print_key (Key.Rollup all ps) = call (codes "rollup") (print_levels all ps)
  print_key (Key.Recursive h p T) = call (codes "rolluprecursive") (print_hier h ∷ print_path p ∷ print_inner T)

  -- the keys of a grouping
  pub print_keys : Keys → List (List ℕ)
  print_keys Keys.NoKeys = []
  print_keys (Keys.MoreKeys k ks) = print_key k ∷ print_keys ks

  -- a transformation
  pub print_step : Step → List ℕ
  print_step Step.Identity = codes "identity"
  print_step (Step.Filter e) = call (codes "filter") (print_expr e ∷ [])
  print_step (Step.Compute ns) = call (codes "compute") (map print_named ns)
  print_step (Step.OrderBy items) = call (codes "orderby") (map print_item items)
  print_step (Step.Skip n) = call (codes "skip") (decimal n ∷ [])
  print_step (Step.Top n) = call (codes "top") (decimal n ∷ [])
  print_step (Step.Aggregate items) = call (codes "aggregate") (map print_agg items)
  print_step (Step.GroupBy ks T) = call (codes "groupby") (enclosed (join_with_byte 44 (print_keys ks)) ∷ print_inner T)
  print_step (Step.Concat ps) = call (codes "concat") (print_branches ps)
  print_step (Step.Join outer n a T) = call (join_word outer) ((n ++ (codes " as " ++ a)) ∷ print_inner T)
  print_step (Step.TopBy t) = call (top_word t.bottom t.limit) (print_limit t.limit ∷ print_expr t.expr ∷ [])
  print_step (Step.Climb up h p T d keep) = call (climb_word up) (print_hier h ∷ print_path p ∷ join_with_byte 47 (print_steps T) ∷ print_distance d keep)
  print_step (Step.Traverse t) = call (codes "traverse") (print_hier t.hier ∷ print_path t.path ∷ walk_word t.post ∷ map print_item t.items)

-- the printed text of a pipeline
abbrev pub print : Pipe → List ℕ
print p = join_with_byte 47 (print_steps p)
