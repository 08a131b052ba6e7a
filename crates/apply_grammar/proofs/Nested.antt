-- The grammar by the number of parentheses that may still be opened: the texts that reading goes down into. `Depths` says that these
-- are the texts of the grammar that keep the limit on open parentheses.
use Rattle.std.specs.Prelude.{◌≡◌, ℕ, zero, suc, ◌<◌, ◌≤◌, nat_le, ℤ, pos, negsuc, true, false, List, ◌∷◌, ◌++◌, length, codes, Option, Some, None, if◌then◌else◌}
use Rattle.std.specs.List.{list_all}
use Rattle.std.specs.Str.Parse.{digits_value}
use Rattle.std.specs.Char.{is_ascii_digit}
use Rattle.edm_values.specs.Lists.{same_text}
use Rattle.edm_values.specs.Values.{integer_max}
use Rattle.edm_values.specs.Parts.{mantissa_max, scale_max, is_day}
use Rattle.apply_ast.specs.Trees.{Expr, Named, OrderItem, AggItem, NumberLiteral, Limit, TopStep, TraverseStep, Pipe, Step, OptPipe, Pipes, Key, Keys}
use Rattle.apply_ast.specs.Printing.{binop_word, binop_level, level, quoted, fun1_word, fun2_word, method_word, join_word, climb_word, top_word}
use Rattle.apply_ast.specs.Grammar.{Language, word, ◌·◌, choice, given, empty, nothing, rws, comma, in_parentheses, listed, each_behind, name_text, path_text, sign_text, as_text, direction_text, hier_text, keep_text, order_text, has_two}
use Rattle.apply_grammar.specs.Limits.{operations, Bounds}
use Rattle.apply_grammar.specs.Reading.{is_literal}

-- a text in parentheses, where one may be opened
abbrev pub inside : ℕ → (ℕ → Language) → Language
inside zero A = nothing
inside (suc d) A = in_parentheses (A d)

-- digits, at least one, of a number that is at most so much
pub record Digits (most n : ℕ) (t : List ℕ) : Type 0 where
  pub some : 0 < length t
  pub digits : list_all is_ascii_digit t ≡ true
  pub value : digits_value 10 t ≡ n
  pub small : nat_le n most ≡ true

-- an integer literal
abbrev pub IntText : ℤ → Language
IntText (pos n) = Digits integer_max n
IntText (negsuc n) = nothing

-- digits, a point, and as many digits as the scale; all digits together are the mantissa
pub record Fraction (m s : ℕ) (t : List ℕ) : Type 0 where
  pub whole : List ℕ
  pub fraction : List ℕ
  pub cut : t ≡ whole ++ 46 ∷ fraction
  pub some : 0 < length whole
  pub digits : list_all is_ascii_digit whole ≡ true
  pub some_behind : 0 < length fraction
  pub digits_behind : list_all is_ascii_digit fraction ≡ true
  pub scale : length fraction ≡ s
  pub most : nat_le s scale_max ≡ true
  pub value : digits_value 10 (whole ++ fraction) ≡ m
  pub small : nat_le m mantissa_max ≡ true

-- a decimal literal
abbrev pub DecText : ℤ → ℕ → Language
DecText (pos m) s = Fraction m s
DecText (negsuc m) s = nothing

-- digits of a number, of exactly this width
pub record Wide (k n : ℕ) (t : List ℕ) : Type 0 where
  pub wide : length t ≡ k
  pub digits : list_all is_ascii_digit t ≡ true
  pub value : digits_value 10 t ≡ n

-- a date literal
pub record DateText (y m d : ℕ) (t : List ℕ) : Type 0 where
  pub year : List ℕ
  pub month : List ℕ
  pub day : List ℕ
  pub cut : t ≡ year ++ 45 ∷ (month ++ 45 ∷ day)
  pub of_year : Wide 4 y year
  pub of_month : Wide 2 m month
  pub of_day : Wide 2 d day
  pub is_date : is_day y m d ≡ true

-- in k pairs of parentheses
abbrev pub wrapped : ℕ → (ℕ → Language) → ℕ → Language
wrapped zero A d = A d
wrapped (suc k) A d = inside d (wrapped k A)

-- in parentheses, or bare where its level is at least this one
pub record Operand (least own : ℕ) (A : ℕ → Language) (d : ℕ) (t : List ℕ) : Type 0 where
  pub pairs : ℕ
  pub of : wrapped pairs A d t
  pub binds : pairs ≡ 0 → least ≤ own

-- the texts of an expression without parentheses round it
unfoldable pub bare : Bounds → Expr → ℕ → Language
bare limits Expr.Null d = word (codes "null")
bare limits (Expr.Bool' b) d = word (if b then codes "true" else codes "false")
bare limits (Expr.Int n) d = IntText n
bare limits (Expr.Dec m s) d = DecText m s
bare limits (Expr.Text bs) d = given (is_literal limits bs) (word (quoted bs))
bare limits (Expr.Day y m x) d = DateText y m x
bare limits (Expr.Path' p) d = path_text p
bare limits (Expr.Unary o a) d = sign_text o · Operand 7 (level a) (bare limits a) d
bare limits (Expr.Binary o a b) d = Operand (binop_level o) (level a) (bare limits a) d · rws · word (binop_word o) · rws · Operand (suc (binop_level o)) (level b) (bare limits b) d
bare limits (Expr.Call1 f a) d = word (fun1_word f) · inside d (Operand 1 (level a) (bare limits a))
bare limits (Expr.Call2 f a b) d = word (fun2_word f) · inside d (λ e. Operand 1 (level a) (bare limits a) e · comma · Operand 1 (level b) (bare limits b) e)

-- the texts of an expression at a level or a tighter one
abbrev pub At : Bounds → ℕ → Expr → ℕ → Language
At limits least e d = Operand least (level e) (bare limits e) d

-- those of an expression with no more operators and calls than one may have
pub record SmallExpr (limits : Bounds) (e : Expr) (d : ℕ) (t : List ℕ) : Type 0 where
  pub of : At limits 1 e d t
  pub small : operations e ≤ limits.operations

-- ---- items

-- an item of a computation
abbrev pub named_text : Bounds → ℕ → Named → Language
named_text limits d x = SmallExpr limits x.expr d · as_text x.name

-- an item of an order
abbrev pub item_text : Bounds → ℕ → OrderItem → Language
item_text limits d x = SmallExpr limits x.expr d · direction_text x.desc

-- an item of an aggregation
abbrev pub agg_text : Bounds → ℕ → AggItem → Language
agg_text limits d (AggItem.Count a) = word (codes "$count") · as_text a
agg_text limits d (AggItem.Standard e f a) = SmallExpr limits e d · rws · word (codes "with") · rws · word (method_word f) · as_text a
agg_text limits d (AggItem.Custom n a) = name_text n · choice (as_text a) (given (same_text n a) empty)

-- a literal number
abbrev pub literal_text : NumberLiteral → Language
literal_text (NumberLiteral.Int n) = IntText n
literal_text (NumberLiteral.Dec m s) = DecText m s

-- what a selection reaches for
abbrev pub limit_text : Limit → Language
limit_text (Limit.Count n) = Digits integer_max n
limit_text (Limit.Sum x) = literal_text x
limit_text (Limit.Percent p) = Digits 100 p

-- a greatest distance, at least 1
pub record Distance (n : ℕ) (t : List ℕ) : Type 0 where
  pub of : Digits integer_max n t
  pub some : nat_le 1 n ≡ true

-- a greatest distance, if any
abbrev pub distance_text : Option ℕ → Language
distance_text None = empty
distance_text (Some n) = comma · Distance n

-- a selection
abbrev pub top_text : Bounds → TopStep → ℕ → Language
top_text limits x d = limit_text x.limit · comma · SmallExpr limits x.expr d

-- a walk over a hierarchy
abbrev pub traverse_text : Bounds → TraverseStep → ℕ → Language
traverse_text limits x d = hier_text x.hier · comma · path_text x.path · comma · order_text x.post · each_behind comma (item_text limits d) x.items

-- a word and its arguments
abbrev pub call_text : List ℕ → ℕ → (ℕ → Language) → Language
call_text w d A = word w · inside d A

-- ---- pipelines

unfoldable mutual
  -- the texts of a pipeline
  pub Text : Bounds → Pipe → ℕ → Language
  Text limits Pipe.End d = nothing
  Text limits (Pipe.Then s p) d = step_text limits s d · rest_text limits p d

  -- the steps behind the first, each behind a slash
  pub rest_text : Bounds → Pipe → ℕ → Language
  rest_text limits Pipe.End d = empty
  rest_text limits (Pipe.Then s p) d = word (codes "/") · step_text limits s d · rest_text limits p d

  -- an inner pipeline behind a separator, if any
  pub inner_text : Bounds → OptPipe → ℕ → Language
  inner_text limits OptPipe.NoPipe d = empty
  inner_text limits (OptPipe.SomePipe p) d = comma · Text limits p d

  -- the branches behind the first
  pub more_branches_text : Bounds → Pipes → ℕ → Language
  more_branches_text limits Pipes.NoPipes d = empty
  more_branches_text limits (Pipes.MorePipes p ps) d = comma · Text limits p d · more_branches_text limits ps d

  -- the branches of a concatenation
  pub branches_text : Bounds → Pipes → ℕ → Language
  branches_text limits Pipes.NoPipes d = nothing
  branches_text limits (Pipes.MorePipes p ps) d = Text limits p d · more_branches_text limits ps d

  -- a key of a grouping
  pub key_text : Bounds → Key → ℕ → Language
  key_text limits (Key.Plain p) d = path_text p
  key_text limits (Key.Rollup true ps) d = call_text (codes "rollup") d (λ e. word (codes "$all") · comma · listed comma path_text ps)
  key_text limits (Key.Rollup false ps) d = given (nat_le 2 (length ps)) (call_text (codes "rollup") d (λ e. listed comma path_text ps))
  key_text limits (Key.Recursive h p T) d = call_text (codes "rolluprecursive") d (λ e. hier_text h · comma · path_text p · inner_text limits T e)

  -- the keys behind the first
  pub more_keys_text : Bounds → Keys → ℕ → Language
  more_keys_text limits Keys.NoKeys d = empty
  more_keys_text limits (Keys.MoreKeys k ks) d = comma · key_text limits k d · more_keys_text limits ks d

  -- the keys of a grouping
  pub keys_text : Bounds → Keys → ℕ → Language
  keys_text limits Keys.NoKeys d = nothing
  keys_text limits (Keys.MoreKeys k ks) d = key_text limits k d · more_keys_text limits ks d

  -- a transformation
  pub step_text : Bounds → Step → ℕ → Language
  step_text limits Step.Identity d = word (codes "identity")
  step_text limits (Step.Filter e) d = call_text (codes "filter") d (SmallExpr limits e)
  step_text limits (Step.Compute ns) d = call_text (codes "compute") d (λ k. listed comma (named_text limits k) ns)
  step_text limits (Step.OrderBy items) d = call_text (codes "orderby") d (λ k. listed comma (item_text limits k) items)
  step_text limits (Step.Skip n) d = call_text (codes "skip") d (λ k. Digits integer_max n)
  step_text limits (Step.Top n) d = call_text (codes "top") d (λ k. Digits integer_max n)
  step_text limits (Step.Aggregate items) d = call_text (codes "aggregate") d (λ k. listed comma (agg_text limits k) items)
  step_text limits (Step.GroupBy ks T) d = call_text (codes "groupby") d (λ k. inside k (keys_text limits ks) · inner_text limits T k)
  step_text limits (Step.Concat ps) d = given (has_two ps) (call_text (codes "concat") d (branches_text limits ps))
  step_text limits (Step.Join outer n a T) d = call_text (join_word outer) d (λ k. name_text n · as_text a · inner_text limits T k)
  step_text limits (Step.TopBy x) d = call_text (top_word x.bottom x.limit) d (top_text limits x)
  step_text limits (Step.Climb up h p T x keep) d = call_text (climb_word up) d (λ k. hier_text h · comma · path_text p · comma · Text limits T k · distance_text x · keep_text keep)
  step_text limits (Step.Traverse x) d = call_text (codes "traverse") d (traverse_text limits x)
