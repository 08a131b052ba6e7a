-- Concatenations out of whose branches filters alone come, and those of them before which these stay.
use Rattle.std.specs.Prelude.{Bool, true, false, not, ◌&&◌, ◌||◌, Option, Some, None, option_and_then, if◌then◌else◌}
use Rattle.std.specs.Bool.{then_some}
use Rattle.edm_values.specs.Lists.{is_some_and}
use Rattle.apply_ast.specs.Trees.{Key, Keys, OptPipe, Pipe, Pipes, Step}
use Rattle.walk_laws.specs.Apart.{branches_apart, is_aggregate, is_firm, is_loose, is_solid, kind_of, leads_to, may_go, some_never, step_apart}

-- no filter passes a step, nor goes into it
abbrev pub is_stop : Step → Bool
is_stop (Step.Skip n) = true
is_stop (Step.Top n) = true
is_stop (Step.Aggregate as') = true
is_stop (Step.TopBy t) = true
is_stop (Step.Climb up h p T d keep) = true
is_stop s = false

-- the first step but filters and `identity`
abbrev pub front_of : Pipe → Option Step
front_of Pipe.End = None
front_of (Pipe.Then s p) = if is_loose s then front_of p else Some s

-- one of some branches never leads to a step
abbrev pub some_beside : Step → Pipes → Bool
some_beside x Pipes.NoPipes = false
some_beside x (Pipes.MorePipes p ps) = not (leads_to x p) || some_beside x ps

-- a branch has no step but filters, or behind them one that no rule changes, and to which another branch never leads
abbrev pub has_own_front : Pipes → Option Step → Bool
has_own_front all None = true
has_own_front all (Some x) = is_firm x && some_beside x all

-- so it is with one of some branches
abbrev pub some_own : Pipes → Pipes → Bool
some_own all Pipes.NoPipes = false
some_own all (Pipes.MorePipes p ps) = has_own_front all (front_of p) || some_own all ps

-- the first step but filters, orders and `identity` is no aggregation, before which orders are dropped
abbrev pub lasts : Pipe → Bool
lasts Pipe.End = true
lasts (Pipe.Then s p) = if may_go s then lasts p else not (is_aggregate s)

-- the kind of a step, where a step of this kind stays
abbrev pub solid_kind : Step → Option Step
solid_kind s = then_some (is_solid s) (kind_of s)

-- the kind of the first step but filters and `identity`
abbrev pub front_kind : Pipe → Option Step
front_kind p = option_and_then solid_kind (front_of p)

-- where a step of this kind stays there
abbrev pub lasting_kind : Pipe → Option Step
lasting_kind p = if lasts p then front_kind p else None

-- one of some branches has such a step, and one of the branches never begins with one of its kind
abbrev pub some_lasting : Pipes → Pipes → Bool
some_lasting all Pipes.NoPipes = false
some_lasting all (Pipes.MorePipes p ps) = is_some_and (λ x. some_never x all) (lasting_kind p) || some_lasting all ps

-- no step but filters comes out of branches
abbrev pub gives_no_other : Pipes → Bool
gives_no_other ps = some_own ps ps || some_lasting ps ps

-- filters stay behind a step; with whether they stay before it
abbrev pub stays_behind : Bool → Step → Bool
stays_behind b s = is_stop s || (b && is_loose s)

abbrev mutual
  -- each concatenation in steps begins apart for good, or gives filters where it may. With whether it may anywhere, in branches, joins, groupings and climbs too, or else where filters stay before it, and with whether they stay where the steps begin
  pub may_give : Bool → Bool → Pipe → Bool
  may_give a b Pipe.End = true
  may_give a b (Pipe.Then s p) = (step_apart s || ((a || b) && gives_alone a s)) && may_give a (stays_behind b s) p

  -- nothing but filters comes out of the branches of a concatenation; where it may anywhere, nor of those in the pipelines inside a join, a grouping or a climb
  pub gives_alone : Bool → Step → Bool
  gives_alone a (Step.Concat ps) = gives_no_other ps && branches_give a ps
  gives_alone a (Step.GroupBy ks T) = a && (keys_give ks && inner_gives T)
  gives_alone a (Step.Join outer n x T) = a && inner_gives T
  gives_alone a (Step.Climb up h p T d keep) = a && may_give true true T
  gives_alone a s = false

  -- the same of an inner pipeline
  pub inner_gives : OptPipe → Bool
  inner_gives OptPipe.NoPipe = true
  inner_gives (OptPipe.SomePipe p) = may_give true true p

  -- the same of what chooses the nodes of a key
  pub key_gives : Key → Bool
  key_gives (Key.Recursive h p T) = inner_gives T
  key_gives k = true

  -- the same of keys
  pub keys_give : Keys → Bool
  keys_give Keys.NoKeys = true
  keys_give (Keys.MoreKeys k ks) = key_gives k && keys_give ks

  -- concatenations in branches begin apart, or where they may anywhere give filters
  pub branches_give : Bool → Pipes → Bool
  branches_give false ps = branches_apart ps
  branches_give true Pipes.NoPipes = true
  branches_give true (Pipes.MorePipes p ps) = may_give true true p && branches_give true ps

-- nothing but filters comes out of the branches of a concatenation, in which all stay apart
abbrev pub gives_filters : Step → Bool
gives_filters (Step.Concat ps) = gives_no_other ps && branches_apart ps
gives_filters s = false

-- each concatenation in steps begins apart for good, or gives filters that stay before it: none but filters and `identity` stand between it and the front, or a step that stops them. The inner pipelines begin apart. With whether filters stay where the steps begin
abbrev pub filters_stay : Bool → Pipe → Bool
filters_stay b Pipe.End = true
filters_stay b (Pipe.Then s p) = (step_apart s || (b && gives_filters s)) && filters_stay (stays_behind b s) p

-- a pipeline of this kind
abbrev pub gives_at_front : Pipe → Bool
gives_at_front p = filters_stay true p

-- each concatenation begins apart for good, or gives filters alone, in joins, groupings and climbs too
abbrev pub gives_anywhere : Pipe → Bool
gives_anywhere p = may_give true true p
