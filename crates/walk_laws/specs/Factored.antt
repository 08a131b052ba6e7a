-- Steps that come out of the branches of concatenations, all at once. That this is what the ninth rule makes, one rewrite after the other, of a pipeline whose filters rest is a law; no definition of plans names it.
use Rattle.std.specs.Prelude.{Bool, true, false, ◌&&◌, ◌||◌, List, [], ◌∷◌, ◌++◌, drop, map, slice_get, if◌then◌else◌}
use Rattle.std.specs.List.{list_all, list_any}
use Rattle.edm_values.specs.Lists.{is_some_and}
use Rattle.apply_ast.specs.Trees.{Expr, Key, Keys, Named, OptPipe, Pipe, Pipes, Step, is_long}
use Rattle.apply_ast.specs.declared.expressions.BinOp.TheVariants as BinOp
use Rattle.rewrite_laws.specs.Rewrites.{concat, is_among, paths, pipe_or_identity}
use Rattle.rewrite_laws.specs.TreeEquality.{step_same}

-- ---- pipelines whose filters rest

-- what stands before a filter: nothing that lets it pass, new columns, which a filter on one of them does not pass, or a step that it may pass
pub data Place : Type 0 where
  Free : Place
  Columns : List Named → Place
  Closed : Place

-- what stands before the steps behind a step
abbrev pub place_behind : Place → Step → Place
place_behind b (Step.Filter e) = b
place_behind b (Step.Compute ns) = Place.Columns ns
place_behind b (Step.OrderBy items) = Place.Closed
place_behind b (Step.Concat ps) = Place.Closed
place_behind b s = Place.Free

-- a filter is neither split nor always true
abbrev pub is_one : Expr → Bool
is_one (Expr.Binary BinOp.And a b) = false
is_one (Expr.Bool' true) = false
is_one e = true

-- none of the first eight rules moves a filter
abbrev pub filter_stays : Place → Expr → Bool
filter_stays Place.Free e = true
filter_stays (Place.Columns ns) e = list_any (is_among (map (λ x. x.name ∷ []) ns)) (paths e)
filter_stays Place.Closed e = false

-- the pipeline is `identity`
abbrev pub is_alone : Pipe → Bool
is_alone (Pipe.Then Step.Identity Pipe.End) = true
is_alone p = false

abbrev mutual
  -- the filters of steps rest, also where the steps come to stand behind what stands before them; no step but a concatenation has a pipeline inside it
  pub steps_rest : Place → Pipe → Bool
  steps_rest b Pipe.End = true
  steps_rest b (Pipe.Then s p) = step_rests b s && steps_rest (place_behind b s) p

  -- the filters of branches rest, also before the concatenation
  pub branches_rest : Place → Pipes → Bool
  branches_rest b Pipes.NoPipes = true
  branches_rest b (Pipes.MorePipes p ps) = (is_alone p || (is_long p && steps_rest b p)) && branches_rest b ps

  -- a filter rests, and so do those inside a step
  pub step_rests : Place → Step → Bool
  step_rests b Step.Identity = false
  step_rests b (Step.Filter e) = is_one e && filter_stays b e
  step_rests b (Step.GroupBy ks T) = false
  step_rests b (Step.Concat ps) = branches_rest b ps
  step_rests b (Step.Join outer n a T) = false
  step_rests b (Step.Climb up h p T d keep) = false
  step_rests b s = true

-- the filters of a pipeline rest
abbrev pub pipe_rests : Pipe → Bool
pipe_rests p = steps_rest Place.Free p

-- ---- steps that come out

-- all lists begin with a step
abbrev pub all_begin : Step → List (List Step) → Bool
all_begin x ls = list_all (λ l. is_some_and (step_same x) (slice_get l 0)) ls

-- the concatenation of branches
abbrev pub concat_of : List (List Step) → Step
concat_of ls = concat (map pipe_or_identity ls)

-- the steps with which all branches begin, and the concatenation of what is left; the first branch stands apart
abbrev pub taken_out : List Step → List (List Step) → List Step
taken_out [] ls = concat_of ([] ∷ ls) ∷ []
taken_out (x ∷ l) ls = if all_begin x ls then x ∷ taken_out l (map (drop 1) ls) else concat_of ((x ∷ l) ∷ ls) ∷ []

-- the same of all branches
abbrev pub before_concat : List (List Step) → List Step
before_concat [] = concat_of [] ∷ []
before_concat (l ∷ ls) = taken_out l ls

abbrev mutual
  -- steps, with those before each concatenation that come out of its branches
  pub factored_steps : Pipe → List Step
  factored_steps Pipe.End = []
  factored_steps (Pipe.Then s p) = factored_step s ++ factored_steps p

  -- the same of branches
  pub factored_branches : Pipes → List (List Step)
  factored_branches Pipes.NoPipes = []
  factored_branches (Pipes.MorePipes p ps) = factored_steps p ∷ factored_branches ps

  -- the same of a step; `identity` leaves none
  pub factored_step : Step → List Step
  factored_step Step.Identity = []
  factored_step (Step.Concat ps) = before_concat (factored_branches ps)
  factored_step s = s ∷ []

-- a pipeline, with the steps that come out of branches before the concatenations
abbrev pub factored : Pipe → Pipe
factored p = pipe_or_identity (factored_steps p)

-- ---- the same in joins, groupings and climbs too

abbrev mutual
  -- steps, with those before each concatenation that come out of its branches
  pub inside_steps : Pipe → List Step
  inside_steps Pipe.End = []
  inside_steps (Pipe.Then s p) = inside_step s ++ inside_steps p

  -- the same of branches
  pub inside_branches : Pipes → List (List Step)
  inside_branches Pipes.NoPipes = []
  inside_branches (Pipes.MorePipes p ps) = inside_steps p ∷ inside_branches ps

  -- the same of an inner pipeline
  pub inside_inner : OptPipe → OptPipe
  inside_inner OptPipe.NoPipe = OptPipe.NoPipe
  inside_inner (OptPipe.SomePipe p) = OptPipe.SomePipe (pipe_or_identity (inside_steps p))

  -- the same of what chooses the nodes of a key
  pub inside_key : Key → Key
  inside_key (Key.Recursive h p T) = Key.Recursive h p (inside_inner T)
  inside_key k = k

  -- the same of keys
  pub inside_keys : Keys → Keys
  inside_keys Keys.NoKeys = Keys.NoKeys
  inside_keys (Keys.MoreKeys k ks) = Keys.MoreKeys (inside_key k) (inside_keys ks)

  -- the same of a step; `identity` leaves none
  pub inside_step : Step → List Step
  inside_step Step.Identity = []
  inside_step (Step.Concat ps) = before_concat (inside_branches ps)
  inside_step (Step.GroupBy ks T) = Step.GroupBy (inside_keys ks) (inside_inner T) ∷ []
  inside_step (Step.Join outer n a T) = Step.Join outer n a (inside_inner T) ∷ []
  inside_step (Step.Climb up h p T d keep) = Step.Climb up h p (pipe_or_identity (inside_steps T)) d keep ∷ []
  inside_step s = s ∷ []

-- a pipeline, with the steps that come out of branches before the concatenations, in joins, groupings and climbs too
abbrev pub factored_inside : Pipe → Pipe
factored_inside p = pipe_or_identity (inside_steps p)
