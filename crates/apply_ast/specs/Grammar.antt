-- The grammar of requests: which texts a tree has (Data Aggregation 4.0, the ABNF; URL Conventions 4.01, section 5.1.1).
use Rattle.std.specs.Prelude.{◌≡◌, ◌⊎◌, ℕ, zero, suc, ◌≤◌, ◌==◌, nat_le, ℤ, pos, Bool, true, false, ◌&&◌, ◌||◌, IsTrue, List, [], ◌∷◌, ◌++◌, length, codes, Option, Some, None, if◌then◌else◌}
use Rattle.std.specs.Str.Parse.{IsNumeral, digits_value}
use Rattle.std.specs.List.{list_all}
use Rattle.edm_values.specs.Lists.{is_nonempty, same_text}
use Rattle.edm_values.specs.Values.{integer_max}
use Rattle.edm_values.specs.Parts.{mantissa_max, scale_max, is_day}
use Rattle.edm_values.specs.Names.{Name, Path, is_name}
use Rattle.apply_ast.specs.Trees.{Expr, Named, OrderItem, AggItem, HierName, NumberLiteral, Limit, Pipe, Step, OptPipe, Pipes, Key, Keys, is_int_literal, is_dec_literal, is_long, is_distance}
use Rattle.apply_ast.specs.Printing.{binop_word, fun1_word, fun2_word, method_word, join_word, climb_word, walk_word, top_word, binop_level, level, quoted}
use Rattle.apply_ast.specs.declared.expressions.UnOp.{UnOp}

-- a set of texts
abbrev pub Language : Type 1
Language = List ℕ → Type 0

-- the text itself alone
abbrev pub word : List ℕ → Language
word w t = t ≡ w

-- a text of one language followed by a text of another, and where it is cut
pub record Joined (A B : Language) (t : List ℕ) : Type 0 where
  pub left : List ℕ
  pub right : List ℕ
  pub first : A left
  pub second : B right
  pub cut : t ≡ left ++ right

infixr 60 ◌·◌
-- a text of one language followed by a text of another
abbrev pub ◌·◌ : Language → Language → Language
◌·◌ A B = Joined A B

-- a text of one language or of another
abbrev pub choice : Language → Language → Language
choice A B t = A t ⊎ B t

-- a text of a language, where the test holds
abbrev pub given : Bool → Language → Language
given b A t = IsTrue b × A t

-- the empty text alone
abbrev pub empty : Language
empty = word []

-- no text
abbrev pub nothing : Language
nothing t = ⊥

-- a space or a tab
abbrev pub is_blank : ℕ → Bool
is_blank b = b == 32 || b == 9

-- blanks that may stand
abbrev pub bws : Language
bws t = IsTrue (list_all is_blank t)

-- at least one blank
abbrev pub rws : Language
rws t = bws t × IsTrue (is_nonempty t)

-- a comma with the blanks that may stand round it
abbrev pub comma : Language
comma = bws · word (codes ",") · bws

-- an opening parenthesis with the blanks that may follow
abbrev pub open_ : Language
open_ = word (codes "(") · bws

-- a closing parenthesis with the blanks that may precede
abbrev pub close : Language
close = bws · word (codes ")")

-- a text in parentheses
abbrev pub in_parentheses : Language → Language
in_parentheses A = open_ · A · close

-- at least one part, with the separator between each two
abbrev pub listed : {A : Type 0} → Language → (A → Language) → List A → Language
listed sep L [] = nothing
listed sep L (x ∷ []) = L x
listed sep L (x ∷ (y ∷ xs)) = L x · sep · listed sep L (y ∷ xs)

-- any number of parts, each behind a separator
abbrev pub each_behind : {A : Type 0} → Language → (A → Language) → List A → Language
each_behind sep L [] = empty
each_behind sep L (x ∷ xs) = sep · L x · each_behind sep L xs

-- the text of a name
abbrev pub name_text : Name → Language
name_text n = given (is_name n) (word n)

-- names with a slash between each two
abbrev pub path_text : Path → Language
path_text = listed (word (codes "/")) name_text

-- digits of a number, leading zeros included
abbrev pub digits_text : ℕ → Language
digits_text n t = IsNumeral 10 t × (digits_value 10 t ≡ n)

-- digits of a number within bounds
abbrev pub number_text : ℕ → ℕ → ℕ → Language
number_text least most n = given (nat_le least n && nat_le n most) (digits_text n)

-- an integer literal
abbrev pub int_text : ℤ → Language
int_text n t = (k : ℕ) × (n ≡ pos k) × number_text 0 integer_max k t

-- a decimal: digits, a point and as many digits as its scale; all digits together are the mantissa
abbrev pub dec_text : ℤ → ℕ → Language
dec_text m s t =
    (a b : List ℕ) × (t ≡ a ++ (codes "." ++ b)) × IsNumeral 10 a × IsNumeral 10 b × (length b ≡ s)
    × IsTrue (nat_le s scale_max && nat_le (digits_value 10 (a ++ b)) mantissa_max) × (m ≡ pos (digits_value 10 (a ++ b)))

-- digits of a number, of exactly this width
abbrev pub digits_of_width : ℕ → ℕ → Language
digits_of_width k n t = digits_text n t × (length t ≡ k)

-- a date literal
abbrev pub date_text : ℕ → ℕ → ℕ → Language
date_text y m d = given (is_day y m d) (digits_of_width 4 y · word (codes "-") · digits_of_width 2 m · word (codes "-") · digits_of_width 2 d)

-- any number of pairs of parentheses
abbrev pub wrapped : ℕ → Language → Language
wrapped zero A = A
wrapped (suc k) A = in_parentheses (wrapped k A)

-- an operand: in parentheses, or bare where its own level is at least the least one
pub record Operand (least own : ℕ) (A : Language) (t : List ℕ) : Type 0 where
  pub pairs : ℕ
  pub of : wrapped pairs A t
  pub binds : pairs ≡ 0 → least ≤ own

-- a minus and blanks that may follow; `not` and blanks that must
abbrev pub sign_text : UnOp → Language
sign_text UnOp.Neg = word (codes "-") · bws
sign_text UnOp.Not = word (codes "not") · rws

-- the texts of an expression without parentheses round it
unfoldable pub bare : Expr → Language
bare Expr.Null = word (codes "null")
bare (Expr.Bool' b) = word (if b then codes "true" else codes "false")
bare (Expr.Int n) = int_text n
bare (Expr.Dec m s) = dec_text m s
bare (Expr.Text bs) = word (quoted bs)
bare (Expr.Day y m d) = date_text y m d
bare (Expr.Path' p) = path_text p
bare (Expr.Unary op a) = sign_text op · Operand 7 (level a) (bare a)
bare (Expr.Binary op a b) = Operand (binop_level op) (level a) (bare a) · rws · word (binop_word op) · rws · Operand (suc (binop_level op)) (level b) (bare b)
bare (Expr.Call1 f a) = word (fun1_word f) · in_parentheses (Operand 1 (level a) (bare a))
bare (Expr.Call2 f a b) = word (fun2_word f) · in_parentheses (Operand 1 (level a) (bare a) · comma · Operand 1 (level b) (bare b))

-- the texts of an expression
abbrev pub expr_text : Expr → Language
expr_text e = Operand 1 (level e) (bare e)

-- the alias of a result
abbrev pub as_text : Name → Language
as_text n = rws · word (codes "as") · rws · name_text n

-- an item of a computation
abbrev pub named_text : Named → Language
named_text x = expr_text x.expr · as_text x.name

-- the direction of an order item; ascending may be left out
abbrev pub direction_text : Bool → Language
direction_text true = rws · word (codes "desc")
direction_text false = choice empty (rws · word (codes "asc"))

-- an item of an order
abbrev pub item_text : OrderItem → Language
item_text x = expr_text x.expr · direction_text x.desc

-- a custom aggregate without a name of its own has the aggregate's
abbrev pub agg_text : AggItem → Language
agg_text (AggItem.Count a) = word (codes "$count") · as_text a
agg_text (AggItem.Standard e f a) = expr_text e · rws · word (codes "with") · rws · word (method_word f) · as_text a
agg_text (AggItem.Custom n a) = name_text n · choice (as_text a) (given (same_text n a) empty)

-- a hierarchy by its set and its qualifier
abbrev pub hier_text : HierName → Language
hier_text h = word (codes "$root/") · name_text h.set · comma · name_text h.qualifier

-- a literal number
abbrev pub literal_text : NumberLiteral → Language
literal_text (NumberLiteral.Int n) = int_text n
literal_text (NumberLiteral.Dec m s) = dec_text m s

-- what a selection reaches for
abbrev pub limit_text : Limit → Language
limit_text (Limit.Count n) = number_text 0 integer_max n
limit_text (Limit.Sum x) = literal_text x
limit_text (Limit.Percent p) = number_text 0 100 p

-- a greatest distance, if any
abbrev pub distance_text : Option ℕ → Language
distance_text None = empty
distance_text (Some d) = comma · number_text 1 integer_max d

-- whether start nodes are kept
abbrev pub keep_text : Bool → Language
keep_text false = empty
keep_text true = comma · word (codes "keep") · rws · word (codes "start")

-- the order of a walk
abbrev pub order_text : Bool → Language
order_text post = word (walk_word post)

-- a word and its arguments
abbrev pub call_text : List ℕ → Language → Language
call_text w A = word w · in_parentheses A

-- at least one key
abbrev pub has_key : Keys → Bool
has_key Keys.NoKeys = false
has_key (Keys.MoreKeys k ks) = true

-- at least two branches
abbrev pub has_two : Pipes → Bool
has_two (Pipes.MorePipes p (Pipes.MorePipes q ps)) = true
has_two _ = false

unfoldable mutual
  -- the texts of a pipeline, and of what follows its first step
  pub Text : Pipe → Language
  Text Pipe.End = nothing
  Text (Pipe.Then s p) = step_text s · rest_text p

  -- the steps behind the first, each behind a slash
  pub rest_text : Pipe → Language
  rest_text Pipe.End = empty
  rest_text (Pipe.Then s p) = word (codes "/") · step_text s · rest_text p

  -- an inner pipeline behind a separator, if any
  pub inner_text : OptPipe → Language
  inner_text OptPipe.NoPipe = empty
  inner_text (OptPipe.SomePipe p) = comma · Text p

  -- the branches behind the first
  pub more_branches_text : Pipes → Language
  more_branches_text Pipes.NoPipes = empty
  more_branches_text (Pipes.MorePipes p ps) = comma · Text p · more_branches_text ps

  -- the branches of a concatenation
  pub branches_text : Pipes → Language
  branches_text Pipes.NoPipes = nothing
  branches_text (Pipes.MorePipes p ps) = Text p · more_branches_text ps

  -- a key of a grouping
  pub key_text : Key → Language
  key_text (Key.Plain p) = path_text p
  key_text (Key.Rollup true ps) = call_text (codes "rollup") (word (codes "$all") · comma · listed comma path_text ps)
  key_text (Key.Rollup false ps) = given (nat_le 2 (length ps)) (call_text (codes "rollup") (listed comma path_text ps))
  key_text (Key.Recursive h p T) = call_text (codes "rolluprecursive") (hier_text h · comma · path_text p · inner_text T)

  -- the keys behind the first
  pub more_keys_text : Keys → Language
  more_keys_text Keys.NoKeys = empty
  more_keys_text (Keys.MoreKeys k ks) = comma · key_text k · more_keys_text ks

  -- the keys of a grouping
  pub keys_text : Keys → Language
  keys_text Keys.NoKeys = nothing
  keys_text (Keys.MoreKeys k ks) = key_text k · more_keys_text ks

  -- a transformation (Data Aggregation 4.0, sections 3.2 to 3.5, 6.2 and 6.3)
  pub step_text : Step → Language
  step_text Step.Identity = word (codes "identity")
  step_text (Step.Filter e) = call_text (codes "filter") (expr_text e)
  step_text (Step.Compute ns) = call_text (codes "compute") (listed comma named_text ns)
  step_text (Step.OrderBy items) = call_text (codes "orderby") (listed comma item_text items)
  step_text (Step.Skip n) = call_text (codes "skip") (number_text 0 integer_max n)
  step_text (Step.Top n) = call_text (codes "top") (number_text 0 integer_max n)
  step_text (Step.Aggregate items) = call_text (codes "aggregate") (listed comma agg_text items)
  step_text (Step.GroupBy ks T) = call_text (codes "groupby") (in_parentheses (keys_text ks) · inner_text T)
  step_text (Step.Concat ps) = given (has_two ps) (call_text (codes "concat") (branches_text ps))
  step_text (Step.Join outer n a T) = call_text (join_word outer) (name_text n · as_text a · inner_text T)
  step_text (Step.TopBy t) = call_text (top_word t.bottom t.limit) (limit_text t.limit · comma · expr_text t.expr)
  step_text (Step.Climb up h p T d keep) = call_text (climb_word up) (hier_text h · comma · path_text p · comma · Text T · distance_text d · keep_text keep)
  step_text (Step.Traverse t) = call_text (codes "traverse") (hier_text t.hier · comma · path_text t.path · comma · order_text t.post · each_behind comma item_text t.items)

-- ---- which trees have a text: those whose names, literals and numbers and the lengths of whose lists are those of the grammar

-- a path of at least one name
abbrev pub is_path : Path → Bool
is_path p = list_all is_name p && is_nonempty p

-- the literals and paths of an expression are those of the grammar
abbrev pub expr_writable : Expr → Bool
expr_writable (Expr.Int n) = is_int_literal n
expr_writable (Expr.Dec m s) = is_dec_literal m s
expr_writable (Expr.Day y m d) = is_day y m d
expr_writable (Expr.Path' p) = is_path p
expr_writable (Expr.Unary op a) = expr_writable a
expr_writable (Expr.Binary op a b) = expr_writable a && expr_writable b
expr_writable (Expr.Call1 f a) = expr_writable a
expr_writable (Expr.Call2 f a b) = expr_writable a && expr_writable b
expr_writable e = true

-- those of an order item
abbrev pub item_writable : OrderItem → Bool
item_writable x = expr_writable x.expr

-- those of an item of a computation
abbrev pub named_writable : Named → Bool
named_writable x = expr_writable x.expr && is_name x.name

-- those of an item of an aggregation
abbrev pub agg_writable : AggItem → Bool
agg_writable (AggItem.Count a) = is_name a
agg_writable (AggItem.Standard e f a) = expr_writable e && is_name a
agg_writable (AggItem.Custom n a) = is_name n && is_name a

-- the names of a hierarchy's set and qualifier are names
abbrev pub hier_writable : HierName → Bool
hier_writable h = is_name h.set && is_name h.qualifier

-- the number of a selection is within its bounds
abbrev pub limit_writable : Limit → Bool
limit_writable (Limit.Count n) = nat_le n integer_max
limit_writable (Limit.Sum (NumberLiteral.Int n)) = is_int_literal n
limit_writable (Limit.Sum (NumberLiteral.Dec m s)) = is_dec_literal m s
limit_writable (Limit.Percent p) = nat_le p 100

unfoldable mutual
  -- each step of a pipeline can be written
  pub steps_writable : Pipe → Bool
  steps_writable Pipe.End = true
  steps_writable (Pipe.Then s p) = step_writable s && steps_writable p

  -- an inner pipeline can be written
  pub inner_writable : OptPipe → Bool
  inner_writable OptPipe.NoPipe = true
  inner_writable (OptPipe.SomePipe p) = is_long p && steps_writable p

  -- each branch can be written
  pub branches_writable : Pipes → Bool
  branches_writable Pipes.NoPipes = true
  branches_writable (Pipes.MorePipes p ps) = is_long p && steps_writable p && branches_writable ps

  -- a key can be written
  pub key_writable : Key → Bool
  key_writable (Key.Plain p) = is_path p
  key_writable (Key.Rollup all ps) = list_all is_path ps && nat_le (if all then 1 else 2) (length ps)
  key_writable (Key.Recursive h p T) = hier_writable h && is_path p && inner_writable T

  -- each key can be written
  pub keys_writable : Keys → Bool
  keys_writable Keys.NoKeys = true
  keys_writable (Keys.MoreKeys k ks) = key_writable k && keys_writable ks

  -- a step can be written
  pub step_writable : Step → Bool
  step_writable Step.Identity = true
  step_writable (Step.Filter e) = expr_writable e
  step_writable (Step.Compute ns) = list_all named_writable ns && is_nonempty ns
  step_writable (Step.OrderBy items) = list_all item_writable items && is_nonempty items
  step_writable (Step.Skip n) = nat_le n integer_max
  step_writable (Step.Top n) = nat_le n integer_max
  step_writable (Step.Aggregate items) = list_all agg_writable items && is_nonempty items
  step_writable (Step.GroupBy ks T) = has_key ks && keys_writable ks && inner_writable T
  step_writable (Step.Concat ps) = has_two ps && branches_writable ps
  step_writable (Step.Join outer n a T) = is_name n && is_name a && inner_writable T
  step_writable (Step.TopBy t) = limit_writable t.limit && expr_writable t.expr
  step_writable (Step.Climb up h p T d keep) = hier_writable h && is_path p && is_long T && steps_writable T && is_distance d
  step_writable (Step.Traverse t) = hier_writable t.hier && is_path t.path && list_all item_writable t.items

-- a pipeline can be written
abbrev pub is_writable : Pipe → Bool
is_writable p = is_long p && steps_writable p
