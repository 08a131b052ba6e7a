-- The trees of the family's types, one equation for each variant.
use Rattle.std.proofs.Common.{◌≡◌, sym, ◌∙◌, ap, ℕ, Bool, List, Option, Some, None, map}
use Rattle.std.specs.Prelude.{option_map}
use Rattle.apply_ast.specs.Trees.{Pipe, Step, Key, Keys, Pipes, pipe}
use Rattle.apply_ast.specs.Views.{expr_of, named_of, item_of, agg_of, hier_of, top_of, traverse_of, inner_of, pipes_from, keys_from, key_layer, step_layer, climb_layer, join_layer, keys_layer, pipe_layer, pipes_layer, key_of, step_of, climb_of, join_of, keys_of, pipe_of, pipes_of, keys_in, pipes_in, steps_in}
use Rattle.apply_ast.specs.declared.expressions.Expr as of_expr
use Rattle.apply_ast.specs.declared.items.Named as of_named
use Rattle.apply_ast.specs.declared.items.OrderItem as of_item
use Rattle.apply_ast.specs.declared.items.AggItem as of_agg
use Rattle.apply_ast.specs.declared.items.HierName as of_hier
use Rattle.apply_ast.specs.declared.items.TopStep as of_top
use Rattle.apply_ast.specs.declared.items.TraverseStep as of_traverse
use Rattle.apply_ast.specs.declared.steps.KeyItem as of_key
use Rattle.apply_ast.specs.declared.steps.KeyItem.TheVariants as key
use Rattle.apply_ast.specs.declared.steps.KeyItem.TheOpen as layer
use Rattle.apply_ast.specs.declared.steps.Step as of_step
use Rattle.apply_ast.specs.declared.steps.Step.TheVariants as step
use Rattle.apply_ast.specs.declared.steps.ClimbStep as of_climb
use Rattle.apply_ast.specs.declared.steps.JoinStep as of_join
use Rattle.apply_ast.specs.declared.steps.Pipe as of_pipe
use Rattle.apply_ast.specs.declared.steps.KeyList as of_keys
use Rattle.apply_ast.specs.declared.steps.PipeList as of_pipes

pub key_of-Plain : (p : List (List ℕ)) → key_of (key.Plain p) ≡ Key.Plain p
key_of-Plain p = ap key_of (sym (key.rolls-Plain p)) ∙ of_key.fold-roll-KeyItem Key Step Step Step Keys Pipe Pipes key_layer step_layer climb_layer join_layer keys_layer pipe_layer pipes_layer (layer.Plain p)

pub key_of-Rollup : (all : Bool) (ps : List (List (List ℕ))) → key_of (key.Rollup all ps) ≡ Key.Rollup all ps
key_of-Rollup all ps = ap key_of (sym (key.rolls-Rollup all ps)) ∙ of_key.fold-roll-KeyItem Key Step Step Step Keys Pipe Pipes key_layer step_layer climb_layer join_layer keys_layer pipe_layer pipes_layer (layer.Rollup all ps)

pub key_of-Recursive : (h : of_hier.HierName) (p : List (List ℕ)) (i : Option of_pipe.Pipe) → key_of (key.Recursive h p i) ≡ Key.Recursive (hier_of h) p (inner_of (option_map pipe_of i))
key_of-Recursive h p None = ap key_of (sym (key.rolls-Recursive h p None)) ∙ of_key.fold-roll-KeyItem Key Step Step Step Keys Pipe Pipes key_layer step_layer climb_layer join_layer keys_layer pipe_layer pipes_layer (layer.Recursive h p None)
key_of-Recursive h p (Some q) = ap key_of (sym (key.rolls-Recursive h p (Some q))) ∙ of_key.fold-roll-KeyItem Key Step Step Step Keys Pipe Pipes key_layer step_layer climb_layer join_layer keys_layer pipe_layer pipes_layer (layer.Recursive h p (Some q))

pub step_of-Identity : step_of step.Identity ≡ Step.Identity
step_of-Identity = ap step_of (sym (step.rolls-Identity)) ∙ of_step.fold-roll-Step Key Step Step Step Keys Pipe Pipes key_layer step_layer climb_layer join_layer keys_layer pipe_layer pipes_layer layer.Identity

pub step_of-Filter : (e : of_expr.Expr) → step_of (step.Filter e) ≡ Step.Filter (expr_of e)
step_of-Filter e = ap step_of (sym (step.rolls-Filter e)) ∙ of_step.fold-roll-Step Key Step Step Step Keys Pipe Pipes key_layer step_layer climb_layer join_layer keys_layer pipe_layer pipes_layer (layer.Filter e)

pub step_of-Compute : (ns : List of_named.Named) → step_of (step.Compute ns) ≡ Step.Compute (map named_of ns)
step_of-Compute ns = ap step_of (sym (step.rolls-Compute ns)) ∙ of_step.fold-roll-Step Key Step Step Step Keys Pipe Pipes key_layer step_layer climb_layer join_layer keys_layer pipe_layer pipes_layer (layer.Compute ns)

pub step_of-OrderBy : (is : List of_item.OrderItem) → step_of (step.OrderBy is) ≡ Step.OrderBy (map item_of is)
step_of-OrderBy is = ap step_of (sym (step.rolls-OrderBy is)) ∙ of_step.fold-roll-Step Key Step Step Step Keys Pipe Pipes key_layer step_layer climb_layer join_layer keys_layer pipe_layer pipes_layer (layer.OrderBy is)

pub step_of-Skip : (n : ℕ) → step_of (step.Skip n) ≡ Step.Skip n
step_of-Skip n = ap step_of (sym (step.rolls-Skip n)) ∙ of_step.fold-roll-Step Key Step Step Step Keys Pipe Pipes key_layer step_layer climb_layer join_layer keys_layer pipe_layer pipes_layer (layer.Skip n)

pub step_of-Top : (n : ℕ) → step_of (step.Top n) ≡ Step.Top n
step_of-Top n = ap step_of (sym (step.rolls-Top n)) ∙ of_step.fold-roll-Step Key Step Step Step Keys Pipe Pipes key_layer step_layer climb_layer join_layer keys_layer pipe_layer pipes_layer (layer.Top n)

pub step_of-Aggregate : (as' : List of_agg.AggItem) → step_of (step.Aggregate as') ≡ Step.Aggregate (map agg_of as')
step_of-Aggregate as' = ap step_of (sym (step.rolls-Aggregate as')) ∙ of_step.fold-roll-Step Key Step Step Step Keys Pipe Pipes key_layer step_layer climb_layer join_layer keys_layer pipe_layer pipes_layer (layer.Aggregate as')

pub step_of-GroupBy : (ks : of_keys.KeyList) (i : Option of_pipe.Pipe) → step_of (step.GroupBy ks i) ≡ Step.GroupBy (keys_of ks) (inner_of (option_map pipe_of i))
step_of-GroupBy ks None = ap step_of (sym (step.rolls-GroupBy ks None)) ∙ of_step.fold-roll-Step Key Step Step Step Keys Pipe Pipes key_layer step_layer climb_layer join_layer keys_layer pipe_layer pipes_layer (layer.GroupBy ks None)
step_of-GroupBy ks (Some q) = ap step_of (sym (step.rolls-GroupBy ks (Some q))) ∙ of_step.fold-roll-Step Key Step Step Step Keys Pipe Pipes key_layer step_layer climb_layer join_layer keys_layer pipe_layer pipes_layer (layer.GroupBy ks (Some q))

pub step_of-Concat : (ps : of_pipes.PipeList) → step_of (step.Concat ps) ≡ Step.Concat (pipes_of ps)
step_of-Concat ps = ap step_of (sym (step.rolls-Concat ps)) ∙ of_step.fold-roll-Step Key Step Step Step Keys Pipe Pipes key_layer step_layer climb_layer join_layer keys_layer pipe_layer pipes_layer (layer.Concat ps)

pub step_of-Join : (j : of_join.JoinStep) → step_of (step.Join j) ≡ join_of j
step_of-Join j = ap step_of (sym (step.rolls-Join j)) ∙ of_step.fold-roll-Step Key Step Step Step Keys Pipe Pipes key_layer step_layer climb_layer join_layer keys_layer pipe_layer pipes_layer (layer.Join j)

pub step_of-TopBy : (t : of_top.TopStep) → step_of (step.TopBy t) ≡ Step.TopBy (top_of t)
step_of-TopBy t = ap step_of (sym (step.rolls-TopBy t)) ∙ of_step.fold-roll-Step Key Step Step Step Keys Pipe Pipes key_layer step_layer climb_layer join_layer keys_layer pipe_layer pipes_layer (layer.TopBy t)

pub step_of-Climb : (c : of_climb.ClimbStep) → step_of (step.Climb c) ≡ climb_of c
step_of-Climb c = ap step_of (sym (step.rolls-Climb c)) ∙ of_step.fold-roll-Step Key Step Step Step Keys Pipe Pipes key_layer step_layer climb_layer join_layer keys_layer pipe_layer pipes_layer (layer.Climb c)

pub step_of-Traverse : (t : of_traverse.TraverseStep) → step_of (step.Traverse t) ≡ Step.Traverse (traverse_of t)
step_of-Traverse t = ap step_of (sym (step.rolls-Traverse t)) ∙ of_step.fold-roll-Step Key Step Step Step Keys Pipe Pipes key_layer step_layer climb_layer join_layer keys_layer pipe_layer pipes_layer (layer.Traverse t)

-- a join of these parts; `join_of-is` has the parts of any join
pub join_of-parts : (outer : Bool) (nav alias : List ℕ) (i : Option of_pipe.Pipe) → join_of (of_join.roll-JoinStep (record { outer = outer; nav = nav; alias = alias; inner = i })) ≡ Step.Join outer nav alias (inner_of (option_map pipe_of i))
join_of-parts outer nav alias None = of_join.fold-roll-JoinStep Key Step Step Step Keys Pipe Pipes key_layer step_layer climb_layer join_layer keys_layer pipe_layer pipes_layer (record { outer = outer; nav = nav; alias = alias; inner = None })
join_of-parts outer nav alias (Some q) = of_join.fold-roll-JoinStep Key Step Step Step Keys Pipe Pipes key_layer step_layer climb_layer join_layer keys_layer pipe_layer pipes_layer (record { outer = outer; nav = nav; alias = alias; inner = Some q })

pub join_of-is : (j : of_join.JoinStep) → join_of j ≡ Step.Join (of_join.out-JoinStep j).outer (of_join.out-JoinStep j).nav (of_join.out-JoinStep j).alias (inner_of (option_map pipe_of (of_join.out-JoinStep j).inner))
join_of-is j = ap join_of (sym (of_join.roll-out-JoinStep j)) ∙ join_of-parts (of_join.out-JoinStep j).outer (of_join.out-JoinStep j).nav (of_join.out-JoinStep j).alias (of_join.out-JoinStep j).inner

pub climb_of-is : (c : of_climb.ClimbStep) → climb_of c ≡ Step.Climb c.up (hier_of c.hier) c.path (pipe_of c.inner) c.distance c.keep
climb_of-is c = of_climb.fold_out-ClimbStep Key Step Step Step Keys Pipe Pipes key_layer step_layer climb_layer join_layer keys_layer pipe_layer pipes_layer c

pub pipe_of-is : (p : of_pipe.Pipe) → pipe_of p ≡ pipe (map step_of (steps_in p))
pipe_of-is p = of_pipe.fold_out-Pipe Key Step Step Step Keys Pipe Pipes key_layer step_layer climb_layer join_layer keys_layer pipe_layer pipes_layer p

pub keys_of-is : (l : of_keys.KeyList) → keys_of l ≡ keys_from (map key_of (keys_in l))
keys_of-is l = of_keys.fold_out-KeyList Key Step Step Step Keys Pipe Pipes key_layer step_layer climb_layer join_layer keys_layer pipe_layer pipes_layer l

pub pipes_of-is : (l : of_pipes.PipeList) → pipes_of l ≡ pipes_from (map pipe_of (pipes_in l))
pipes_of-is l = ap pipes_of (sym (of_pipes.roll-out-PipeList l)) ∙ of_pipes.fold-roll-PipeList Key Step Step Step Keys Pipe Pipes key_layer step_layer climb_layer join_layer keys_layer pipe_layer pipes_layer (of_pipes.out-PipeList l)
