-- Reading pipelines from left to right.
use Rattle.std.specs.Prelude.{ℕ, zero, suc, nat_le, pos, Bool, true, false, List, [], ◌∷◌, ◌++◌, length, codes, Option, Some, None, Result, Ok, Err, if◌then◌else◌}
use Rattle.edm_values.specs.declared.Method.{Method}
use Rattle.edm_values.specs.Lists.{same_text}
use Rattle.edm_values.specs.Names.{Name, Path, goes_on_name}
use Rattle.edm_values.specs.Values.{integer_max}
use Rattle.apply_ast.specs.Trees.{Expr, Named, OrderItem, AggItem, HierName, NumberLiteral, Limit, TopStep, TraverseStep, Pipe, Step, OptPipe, Pipes, Key, Keys}
use Rattle.apply_ast.specs.Views.{pipes_from, keys_from}
use Rattle.apply_ast.specs.Printing.{method_word, join_word, climb_word}
use Rattle.apply_grammar.specs.declared.words.StepWord.{StepWord}
use Rattle.apply_grammar.specs.declared.words.StepWord.TheVariants as word
use Rattle.apply_grammar.specs.declared.words.LimitKind.{LimitKind}
use Rattle.apply_grammar.specs.declared.words.LimitKind.TheVariants as kind
use Rattle.apply_grammar.specs.Limits.{Bounds}
use Rattle.apply_grammar.specs.Reading as r
use Rattle.apply_grammar.specs.Reading.{◌>>=◌, Leaf, run, after, blanks_at, open_at, close_at, comma_at, word_behind, between_blanks, with_word, name_at, items_at, list_at, path_at, digits_at, value_behind, count_at, decimal_at, expr_at, spend}

-- a tree, the steps that may still come, and what is left of the text
abbrev pub Seen : Type 0 → Type 0
Seen X = Option (X × ℕ × List ℕ)

-- a reader of trees that may hold steps
abbrev pub Counted : Type 0 → Type 0
Counted X = ℕ → List ℕ → Seen X

-- a reader of pipelines
abbrev pub PipeReader : Type 0
PipeReader = Counted Pipe

-- ---- items

-- an expression of at most so many operators and calls
unfoldable pub small_at : Bounds → ℕ → List ℕ → Leaf Expr
small_at limits d t = expr_at limits d 1 limits.operations t >>= λ x. Some (x.0, x.2)

-- behind `as` between blanks
unfoldable pub as_at : List ℕ → Option (List ℕ)
as_at t = between_blanks (codes "as") t

-- behind `with` between blanks
unfoldable pub with_at : List ℕ → Option (List ℕ)
with_at t = between_blanks (codes "with") t

-- an item of a computation
unfoldable pub named_at : Bounds → ℕ → List ℕ → Leaf Named
named_at limits d t = do
  e ← small_at limits d t
  r ← as_at e.1
  n ← name_at r
  Some (record { expr = e.0; name = n.0 }, n.1)

-- the direction of an order item, ascending where none is written
unfoldable pub direction_at : List ℕ → Bool × List ℕ
direction_at t =
    r.branch (blanks_at t)
    (λ s. r.branch (word_behind (codes "asc") s) (λ u. (false, u)) (r.branch (word_behind (codes "desc") s) (λ u. (true, u)) (false, t)))
    (false, t)

-- an item of an order
unfoldable pub item_at : Bounds → ℕ → List ℕ → Leaf OrderItem
item_at limits d t = small_at limits d t >>= λ e. Some (record { expr = e.0; desc = (direction_at e.1).0 }, (direction_at e.1).1)

-- the method of this word
unfoldable pub method_of : List ℕ → Option Method
method_of w = with_word method_word (Method.Sum ∷ Method.Min ∷ Method.Max ∷ Method.CountDistinct ∷ []) w

-- the method behind `with`, and the name
unfoldable pub standard_at : Expr → List ℕ → Leaf AggItem
standard_at e t = do
  m ← method_of (run goes_on_name t).0
  r ← as_at (run goes_on_name t).1
  n ← name_at r
  Some (AggItem.Standard e m n.0, n.1)

-- a custom aggregate, which may have a name of its own
unfoldable pub custom_at : List ℕ → Leaf AggItem
custom_at t = name_at t >>= λ n. r.branch (as_at n.1) (λ s. name_at s >>= λ a. Some (AggItem.Custom n.0 a.0, a.1)) (Some (AggItem.Custom n.0 n.0, n.1))

-- an expression with its method, or a custom aggregate
unfoldable pub measure_at : Bounds → ℕ → List ℕ → Leaf AggItem
measure_at limits d t = small_at limits d t >>= λ e. r.branch (with_at e.1) (standard_at e.0) (custom_at t)

-- the name of a `$count`
unfoldable pub count_name_at : List ℕ → Leaf AggItem
count_name_at t = do
  c ← word_behind (codes "count") t
  r ← as_at c
  n ← name_at r
  Some (AggItem.Count n.0, n.1)

-- an item of an aggregation
unfoldable pub agg_at : Bounds → ℕ → List ℕ → Leaf AggItem
agg_at limits d t = r.branch (after 36 t) count_name_at (measure_at limits d t)

-- behind `$root/`
unfoldable pub root_at : List ℕ → Option (List ℕ)
root_at t = after 36 t >>= λ r. word_behind (codes "root") r >>= λ s. after 47 s

-- a hierarchy by its set and its qualifier
unfoldable pub hier_at : List ℕ → Leaf HierName
hier_at t = do
  u ← root_at t
  n ← name_at u
  c ← comma_at n.1
  q ← name_at c
  Some (record { set = n.0; qualifier = q.0 }, q.1)

-- a hierarchy and the path of a node
unfoldable pub node_at : List ℕ → Leaf (HierName × Path)
node_at t = do
  h ← hier_at t
  c ← comma_at h.1
  p ← path_at c
  Some ((h.0, p.0), p.1)

-- a literal number
unfoldable pub literal_at : List ℕ → Leaf NumberLiteral
literal_at t = do
  ds ← digits_at t
  r.branch (after 46 ds.1) (λ r. decimal_at ds.0 r >>= λ x. Some (NumberLiteral.Dec x.0.0 x.0.1, x.1)) (value_behind integer_max 0 ds.0 >>= λ n. Some (NumberLiteral.Int (pos n), ds.1))

-- what a selection reaches for
unfoldable pub limit_at : LimitKind → List ℕ → Leaf Limit
limit_at kind.Count t = count_at integer_max t >>= λ n. Some (Limit.Count n.0, n.1)
limit_at kind.Sum t = literal_at t >>= λ x. Some (Limit.Sum x.0, x.1)
limit_at kind.Percent t = count_at 100 t >>= λ p. Some (Limit.Percent p.0, p.1)

-- a selection of this form
unfoldable pub top_at : Bounds → ℕ → Bool → LimitKind → List ℕ → Leaf TopStep
top_at limits d bottom k t = do
  l ← limit_at k t
  c ← comma_at l.1
  e ← small_at limits d c
  Some (record { bottom = bottom; limit = l.0; expr = e.0 }, e.1)

-- the order of a walk
unfoldable pub order_at : List ℕ → Leaf Bool
order_at t = r.branch (word_behind (codes "preorder") t) (λ u. Some (false, u)) (word_behind (codes "postorder") t >>= λ u. Some (true, u))

-- a walk over a hierarchy
unfoldable pub traverse_at : Bounds → ℕ → List ℕ → Leaf TraverseStep
traverse_at limits d t = do
  x ← node_at t
  c ← comma_at x.1
  o ← order_at c
  is ← items_at comma_at (item_at limits d) (length o.1) o.1
  Some (record { hier = x.0.0; path = x.0.1; post = o.0; items = is.0 }, is.1)

-- a greatest distance, if one is written
unfoldable pub distance_at : List ℕ → Leaf (Option ℕ)
distance_at t =
    r.branch (comma_at t)
    (λ s. r.branch (digits_at s) (λ ds. value_behind integer_max 0 ds.0 >>= λ n. if nat_le 1 n then Some (Some n, ds.1) else None) (Some (None, t)))
    (Some (None, t))

-- whether start nodes are kept
unfoldable pub keep_at : List ℕ → Leaf Bool
keep_at t =
    r.branch (comma_at t)
    (λ s. word_behind (codes "keep") s >>= λ k. blanks_at k >>= λ b. word_behind (codes "start") b >>= λ u. Some (true, u))
    (Some (false, t))

-- behind `$all` and a comma, where the `$` was read
unfoldable pub all_at : List ℕ → Option (List ℕ)
all_at t = word_behind (codes "all") t >>= λ u. comma_at u

-- the paths of a rollup, behind its parenthesis
unfoldable pub rollup_at : List ℕ → Leaf Key
rollup_at t =
    r.branch (after 36 t)
    (λ s. all_at s >>= λ c. list_at comma_at path_at c >>= λ ps. Some (Key.Rollup true ps.0, ps.1))
    (list_at comma_at path_at t >>= λ ps. if nat_le 2 (length ps.0) then Some (Key.Rollup false ps.0, ps.1) else None)

-- ---- what holds pipelines

-- the parts behind a comma each; f is at least the length of the text
unfoldable pub more_at : {X : Type 0} → Counted X → ℕ → Counted (List X)
more_at item zero n t = Some ([], n, t)
more_at item (suc f) n t =
    r.branch (comma_at t) (λ s. item n s >>= λ x. more_at item f x.1 x.2 >>= λ xs. Some (x.0 ∷ xs.0, xs.1, xs.2)) (Some ([], n, t))

-- parts with a comma between each two
unfoldable pub some_at : {X : Type 0} → Counted X → Counted (List X)
some_at item n t = item n t >>= λ x. more_at item (length x.2) x.1 x.2 >>= λ xs. Some (x.0 ∷ xs.0, xs.1, xs.2)

-- a pipeline behind a comma, if there is one
unfoldable pub inner_at : PipeReader → Counted OptPipe
inner_at pipe n t = r.branch (comma_at t) (λ s. pipe n s >>= λ p. Some (OptPipe.SomePipe p.0, p.1, p.2)) (Some (OptPipe.NoPipe, n, t))

-- a recursive rollup, behind its parenthesis
unfoldable pub recursive_at : PipeReader → Counted Key
recursive_at pipe n t = node_at t >>= λ x. inner_at pipe n x.1 >>= λ i. Some (Key.Recursive x.0.0 x.0.1 i.0, i.1, i.2)

-- the closing parenthesis behind a tree that may hold steps
unfoldable pub ended : {X Y : Type 0} → (X → Y) → Seen X → Seen Y
ended f read = do
  x ← read
  r ← close_at x.2
  Some (f x.0, x.1, r)

-- the closing parenthesis behind a tree that holds none
unfoldable pub closed : {X Y : Type 0} → (X → Y) → ℕ → Leaf X → Seen Y
closed f n read = do
  x ← read
  r ← close_at x.1
  Some (f x.0, n, r)

-- a key that has parentheses, behind the opening one
unfoldable pub key_call_at : PipeReader → ℕ → List ℕ → Counted Key
key_call_at pipe zero w n t = None
key_call_at pipe (suc d) w n t =
    if same_text w (codes "rollup") then closed (λ k. k) n (rollup_at t) else
    if same_text w (codes "rolluprecursive") then ended (λ k. k) (recursive_at pipe n t) else
    None

-- a key of a grouping
unfoldable pub key_at : PipeReader → ℕ → Counted Key
key_at pipe d n t =
    r.branch (open_at (run goes_on_name t).1) (key_call_at pipe d (run goes_on_name t).0 n)
    (path_at t >>= λ p. Some (Key.Plain p.0, n, p.1))

-- the keys of a grouping in their parentheses
unfoldable pub keys_at : PipeReader → ℕ → Counted Keys
keys_at pipe zero n t = None
keys_at pipe (suc d) n t = open_at t >>= λ s. ended keys_from (some_at (key_at pipe d) n s)

-- the keys and what is done with each group
unfoldable pub groupby_at : PipeReader → PipeReader → ℕ → Counted Step
groupby_at pipe deep d n t = keys_at deep d n t >>= λ ks. ended (λ i. Step.GroupBy ks.0 i) (inner_at pipe ks.1 ks.2)

-- the branches of a concatenation, at least two
unfoldable pub branches_at : PipeReader → Counted Pipes
branches_at pipe n t = some_at pipe n t >>= λ ps. if nat_le 2 (length ps.0) then Some (pipes_from ps.0, ps.1, ps.2) else None

-- the two names of a join
unfoldable pub alias_at : List ℕ → Leaf (Name × Name)
alias_at t = do
  n ← name_at t
  r ← as_at n.1
  a ← name_at r
  Some ((n.0, a.0), a.1)

-- a join
unfoldable pub join_at : PipeReader → Bool → Counted Step
join_at pipe outer n t = alias_at t >>= λ x. ended (λ i. Step.Join outer x.0.0 x.0.1 i) (inner_at pipe n x.1)

-- the end of a climb: the distance, whether start nodes are kept, and the closing parenthesis
unfoldable pub climb_end_at : List ℕ → Leaf (Option ℕ × Bool)
climb_end_at t = do
  d ← distance_at t
  k ← keep_at d.1
  r ← close_at k.1
  Some ((d.0, k.0), r)

-- a climb
unfoldable pub climb_at : PipeReader → Bool → Counted Step
climb_at pipe up n t = do
  x ← node_at t
  c ← comma_at x.1
  p ← pipe n c
  e ← climb_end_at p.2
  Some (Step.Climb up x.0.0 x.0.1 p.0 e.0.0 e.0.1, p.1, e.1)

-- ---- steps

-- the word of a selection
abbrev pub selection_word : Bool → LimitKind → List ℕ
selection_word bottom k = (if bottom then codes "bottom" else codes "top") ++ elim k [ kind.Count ↦ codes "count" | kind.Sum ↦ codes "sum" | kind.Percent ↦ codes "percent" ]

-- the word of a step that has parentheses
abbrev pub word_of : StepWord → List ℕ
word_of word.Filter = codes "filter"
word_of word.Compute = codes "compute"
word_of word.OrderBy = codes "orderby"
word_of word.Skip = codes "skip"
word_of word.Top = codes "top"
word_of word.Aggregate = codes "aggregate"
word_of word.GroupBy = codes "groupby"
word_of word.Concat = codes "concat"
word_of (word.Join outer) = join_word outer
word_of (word.Climb up) = climb_word up
word_of (word.Traverse) = codes "traverse"
word_of (word.Select bottom k) = selection_word bottom k

-- the forms of steps that have parentheses
abbrev pub step_words : List StepWord
step_words =
    word.Filter ∷ word.Compute ∷ word.OrderBy ∷ word.Skip ∷ word.Top ∷ word.Aggregate ∷ word.GroupBy ∷ word.Concat ∷ word.Join false ∷ word.Join true
    ∷ word.Climb true ∷ word.Climb false ∷ word.Traverse ∷ word.Select false kind.Count ∷ word.Select true kind.Count ∷ word.Select false kind.Sum
    ∷ word.Select true kind.Sum ∷ word.Select false kind.Percent ∷ word.Select true kind.Percent ∷ []

-- the form of step that this word begins
unfoldable pub step_word_of : List ℕ → Option StepWord
step_word_of w = with_word word_of step_words w

-- what stands in the parentheses of a step, where d more may be open there; pipe k reads pipelines in k parentheses more
unfoldable pub call_at : Bounds → (ℕ → PipeReader) → ℕ → StepWord → Counted Step
call_at limits pipe d word.Filter n t = closed Step.Filter n (small_at limits d t)
call_at limits pipe d word.Compute n t = closed Step.Compute n (list_at comma_at (named_at limits d) t)
call_at limits pipe d word.OrderBy n t = closed Step.OrderBy n (list_at comma_at (item_at limits d) t)
call_at limits pipe d word.Skip n t = closed Step.Skip n (count_at integer_max t)
call_at limits pipe d word.Top n t = closed Step.Top n (count_at integer_max t)
call_at limits pipe d word.Aggregate n t = closed Step.Aggregate n (list_at comma_at (agg_at limits d) t)
call_at limits pipe d word.GroupBy n t = groupby_at (pipe 0) (pipe 2) d n t
call_at limits pipe d word.Concat n t = ended Step.Concat (branches_at (pipe 0) n t)
call_at limits pipe d (word.Join outer) n t = join_at (pipe 0) outer n t
call_at limits pipe d (word.Climb up) n t = climb_at (pipe 0) up n t
call_at limits pipe d word.Traverse n t = closed Step.Traverse n (traverse_at limits d t)
call_at limits pipe d (word.Select bottom k) n t = closed Step.TopBy n (top_at limits d bottom k t)

-- a step behind its word: nothing where no parenthesis may be opened
unfoldable pub body_at : Bounds → (ℕ → PipeReader) → ℕ → List ℕ → Counted Step
body_at limits pipe zero w n t = None
body_at limits pipe (suc d) w n t = step_word_of w >>= λ f. open_at t >>= λ s. call_at limits pipe d f n s

-- a step where d parentheses may be open
unfoldable pub step_at : Bounds → (ℕ → PipeReader) → ℕ → Counted Step
step_at limits pipe d n t = spend n (λ m.
    if same_text (run goes_on_name t).0 (codes "identity") then Some (Step.Identity, m, (run goes_on_name t).1) else
    body_at limits pipe d (run goes_on_name t).0 m (run goes_on_name t).1)

-- the steps behind slashes; f is at least n
unfoldable pub rest_at : Counted Step → ℕ → PipeReader
rest_at step zero n t = r.branch (after 47 t) (λ s. None) (Some (Pipe.End, n, t))
rest_at step (suc f) n t =
    r.branch (after 47 t) (λ s. step n s >>= λ x. rest_at step f x.1 x.2 >>= λ p. Some (Pipe.Then x.0 p.0, p.1, p.2)) (Some (Pipe.End, n, t))

-- a step and those behind it
unfoldable pub steps_at : Counted Step → PipeReader
steps_at step n t = step n t >>= λ x. rest_at step x.1 x.1 x.2 >>= λ p. Some (Pipe.Then x.0 p.0, p.1, p.2)

-- a pipeline behind k + 1 opening parentheses, where d may be open
unfoldable pub below : Bounds → ℕ → ℕ → PipeReader
below limits zero k n t = None
below limits (suc d) zero n t = steps_at (step_at limits (below limits d) d) n t
below limits (suc d) (suc k) n t = below limits d k n t

-- a pipeline where d parentheses may be open
abbrev pub pipe_at : Bounds → ℕ → PipeReader
pipe_at limits d = steps_at (step_at limits (below limits d) d)

-- ---- all of a text

-- a step behind which the text ends
abbrev pub whole_end : Step → List ℕ → Result Pipe ℕ
whole_end s [] = Ok (Pipe.Then s Pipe.End)
whole_end s (b ∷ t) = Err 1

-- a step before others
abbrev pub whole_more : Step → Result Pipe ℕ → Result Pipe ℕ
whole_more s (Ok p) = Ok (Pipe.Then s p)
whole_more s (Err k) = Err (suc k)

-- what follows a step that was read
abbrev pub whole_step : Seen Step → (ℕ → List ℕ → Result Pipe ℕ) → Result Pipe ℕ
whole_step None more = Err 1
whole_step (Some x) more = r.branch (after 47 x.2) (λ s. whole_more x.0 (more x.1 s)) (whole_end x.0 x.2)

-- the pipeline that is all of the text, or the number of the first step that is none; f is at least n
unfoldable pub whole_at : Counted Step → ℕ → ℕ → List ℕ → Result Pipe ℕ
whole_at step zero n t = Err 1
whole_at step (suc f) n t = whole_step (step n t) (whole_at step f)

-- the pipeline that is all of the text, with at most d open parentheses and n steps
unfoldable pub pipeline_at : Bounds → ℕ → ℕ → List ℕ → Result Pipe ℕ
pipeline_at limits d n t = whole_at (step_at limits (below limits d) d) n n t
