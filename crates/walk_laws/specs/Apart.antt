-- Concatenations of which no step ever comes out: two of their branches begin with different steps, or with steps of different kinds, whatever the rules but the ninth make of them.
use Rattle.std.specs.Prelude.{Bool, true, false, not, ◌&&◌, ◌||◌, [], Option, Some, None, option_map, if◌then◌else◌}
use Rattle.edm_values.specs.Lists.{is_some_and}
use Rattle.apply_ast.specs.Trees.{Key, Keys, Limit, OptPipe, Pipe, Pipes, Step}
use Rattle.rewrite_laws.specs.TreeEquality.{step_same}
use Rattle.walk_laws.specs.Factored.{is_one}

-- no rule changes a step, nor splits or drops it where it is a filter
abbrev pub is_firm : Step → Bool
is_firm (Step.Filter e) = is_one e
is_firm (Step.Compute ns) = true
is_firm (Step.Skip n) = true
is_firm (Step.Top n) = true
is_firm (Step.Aggregate as') = true
is_firm (Step.Traverse t) = true
is_firm s = false

-- no filter passes a step, but through all branches of a concatenation
abbrev pub is_end : Step → Bool
is_end (Step.Skip n) = true
is_end (Step.Top n) = true
is_end (Step.Aggregate as') = true
is_end (Step.TopBy t) = true
is_end (Step.Concat ps) = true
is_end (Step.Climb up h p T d keep) = true
is_end s = false

-- a step is dropped, or moves to the front
abbrev pub is_loose : Step → Bool
is_loose Step.Identity = true
is_loose (Step.Filter e) = true
is_loose s = false

-- a step that no filter passes stands before the first filter, so that no filter comes to the front
abbrev pub is_closed : Pipe → Bool
is_closed Pipe.End = false
is_closed (Pipe.Then s p) = is_end s || (not (is_loose s) && is_closed p)

-- the first step stays first, and as it is: nothing comes before a filter
abbrev pub is_fixed : Pipe → Bool
is_fixed Pipe.End = false
is_fixed (Pipe.Then s p) = is_firm s && (is_loose s || is_closed (Pipe.Then s p))

-- an order may be dropped
abbrev pub may_go : Step → Bool
may_go (Step.OrderBy items) = true
may_go s = is_loose s

-- the first step that stays, but filters, is this one
abbrev pub leads_to : Step → Pipe → Bool
leads_to x Pipe.End = false
leads_to x (Pipe.Then s p) = if may_go s then leads_to x p else step_same x s

-- the first step
abbrev pub first_of : Pipe → Option Step
first_of Pipe.End = None
first_of (Pipe.Then s p) = Some s

-- steps never come to begin with a step: they begin with another for good, or the first one that stays is another and no filter
abbrev pub never_begins : Step → Pipe → Bool
never_begins x p = (is_fixed p && not (is_some_and (step_same x) (first_of p))) || (not (is_loose x) && not (leads_to x p))

-- one of some branches never does
abbrev pub some_other : Step → Pipes → Bool
some_other x Pipes.NoPipes = false
some_other x (Pipes.MorePipes p ps) = never_begins x p || some_other x ps

-- a branch begins with a step for good, and one of the branches never does
abbrev pub is_apart_from : Pipes → Pipe → Bool
is_apart_from all p = is_fixed p && is_some_and (λ x. some_other x all) (first_of p)

-- so it is with one of some branches
abbrev pub begin_apart : Pipes → Pipes → Bool
begin_apart all Pipes.NoPipes = false
begin_apart all (Pipes.MorePipes p ps) = is_apart_from all p || begin_apart all ps

-- some climb
abbrev pub any_climb : Step
any_climb = Step.Climb false (record { set = []; qualifier = [] }) [] Pipe.End None false

-- a step without what rules change in it: the pipelines inside it, and the number of a count from the top. Of a grouping and a climb nothing else is asked
abbrev pub kind_of : Step → Step
kind_of (Step.GroupBy ks T) = Step.GroupBy Keys.NoKeys OptPipe.NoPipe
kind_of (Step.Concat ps) = Step.Concat Pipes.NoPipes
kind_of (Step.Join outer n a T) = Step.Join outer n a OptPipe.NoPipe
kind_of (Step.TopBy t) = Step.TopBy (record t { limit = Limit.Count 0 })
kind_of (Step.Climb up h p T d keep) = any_climb
kind_of s = s

-- a step that is neither dropped nor moved, unless it is an order, and out of which no other comes
abbrev pub is_solid : Step → Bool
is_solid Step.Identity = false
is_solid (Step.Filter e) = false
is_solid (Step.Concat ps) = false
is_solid s = true

-- an order
abbrev pub is_ordering : Step → Bool
is_ordering (Step.OrderBy items) = true
is_ordering s = false

-- an aggregation
abbrev pub is_aggregate : Step → Bool
is_aggregate (Step.Aggregate as') = true
is_aggregate s = false

-- the first step but orders is no aggregation, before which they are dropped
abbrev pub keeps_orders : Pipe → Bool
keeps_orders Pipe.End = false
keeps_orders (Pipe.Then s p) = if is_ordering s then keeps_orders p else not (is_aggregate s)

-- a step of the kind of the first one stays first: no filter comes to the front, and no order is dropped there
abbrev pub is_held : Pipe → Bool
is_held Pipe.End = false
is_held (Pipe.Then s p) = is_solid s && is_closed (Pipe.Then s p) && keeps_orders (Pipe.Then s p)

-- the kind of the first step
abbrev pub first_kind : Pipe → Option Step
first_kind p = option_map kind_of (first_of p)

-- steps never come to begin with one of a kind: neither the first step that stays, nor an order before it, is of it
abbrev pub never_first : Step → Pipe → Bool
never_first x Pipe.End = true
never_first x (Pipe.Then s p) = not (step_same x (kind_of s)) && (not (may_go s) || never_first x p)

-- one of some branches never does
abbrev pub some_never : Step → Pipes → Bool
some_never x Pipes.NoPipes = false
some_never x (Pipes.MorePipes p ps) = never_first x p || some_never x ps

-- a branch begins with a step of one kind for good, and one of the branches never does
abbrev pub is_unlike : Pipes → Pipe → Bool
is_unlike all p = is_held p && is_some_and (λ x. some_never x all) (first_kind p)

-- so it is with one of some branches
abbrev pub kinds_apart : Pipes → Pipes → Bool
kinds_apart all Pipes.NoPipes = false
kinds_apart all (Pipes.MorePipes p ps) = is_unlike all p || kinds_apart all ps

abbrev mutual
  -- the branches of each concatenation in a pipeline begin apart for good, inner pipelines included
  pub stays_apart : Pipe → Bool
  stays_apart Pipe.End = true
  stays_apart (Pipe.Then s p) = step_apart s && stays_apart p

  -- those in an inner pipeline
  pub inner_apart : OptPipe → Bool
  inner_apart OptPipe.NoPipe = true
  inner_apart (OptPipe.SomePipe p) = stays_apart p

  -- those in a key
  pub key_apart : Key → Bool
  key_apart (Key.Recursive h p T) = inner_apart T
  key_apart k = true

  -- those in keys
  pub keys_apart : Keys → Bool
  keys_apart Keys.NoKeys = true
  keys_apart (Keys.MoreKeys k ks) = key_apart k && keys_apart ks

  -- those in branches
  pub branches_apart : Pipes → Bool
  branches_apart Pipes.NoPipes = true
  branches_apart (Pipes.MorePipes p ps) = stays_apart p && branches_apart ps

  -- those of a step, and in it
  pub step_apart : Step → Bool
  step_apart (Step.GroupBy ks T) = keys_apart ks && inner_apart T
  step_apart (Step.Concat ps) = (begin_apart ps ps || kinds_apart ps ps) && branches_apart ps
  step_apart (Step.Join outer n a T) = inner_apart T
  step_apart (Step.Climb up h p T d keep) = stays_apart T
  step_apart s = true
