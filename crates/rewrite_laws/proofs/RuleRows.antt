-- Worked plans over the sample model by the rules through groups, concatenations, joins and hierarchies.
use Rattle.std.specs.Prelude.{refl, pos, true, false, [], ◌∷◌, None, codes}
use Rattle.edm_values.specs.declared.Method.{Method}
use Rattle.apply_ast.specs.Trees.{Expr, AggItem, Pipe, Step, OptPipe, Pipes, Key, Keys}
use Rattle.rewrite_laws.specs.Rewrites.{pipe_results}
use Rattle.apply_ast.proofs.TreeWords.{item, named, hier, traverse_step}
use Rattle.context_typing.specs.Typing.{steps_shape, is_quiet}
use Rattle.rewrite_laws.proofs.PlanRows.{Plans}
use Rattle.apply_ast.specs.declared.expressions.BinOp.TheVariants as BinOp

node_filter : Plans 2 (Pipe.Then (Step.GroupBy (Keys.MoreKeys (Key.Recursive (hier (codes "Orgs") (codes "OrgTree")) ((codes "OrgID") ∷ []) OptPipe.NoPipe) Keys.NoKeys) (OptPipe.SomePipe (Pipe.Then (Step.Aggregate ((AggItem.Standard (Expr.Path' ((codes "Amount") ∷ [])) Method.Sum (codes "T")) ∷ [])) Pipe.End))) (Pipe.Then (Step.Filter (Expr.Binary BinOp.Eq (Expr.Path' ((codes "OrgID") ∷ [])) (Expr.Text (codes "US")))) Pipe.End)) (Pipe.Then (Step.GroupBy (Keys.MoreKeys (Key.Recursive (hier (codes "Orgs") (codes "OrgTree")) ((codes "OrgID") ∷ []) (OptPipe.SomePipe (Pipe.Then (Step.Filter (Expr.Binary BinOp.Eq (Expr.Path' ((codes "ID") ∷ [])) (Expr.Text (codes "US")))) Pipe.End))) Keys.NoKeys) (OptPipe.SomePipe (Pipe.Then (Step.Aggregate ((AggItem.Standard (Expr.Path' ((codes "Amount") ∷ [])) Method.Sum (codes "T")) ∷ [])) Pipe.End))) Pipe.End)
unfolding pipe_results steps_shape is_quiet
node_filter = ((1, refl), refl)

equal_branches : Plans 2 (Pipe.Then (Step.Concat (Pipes.MorePipes (Pipe.Then (Step.Filter (Expr.Binary BinOp.Eq (Expr.Path' ((codes "ID") ∷ [])) (Expr.Int (pos 1)))) Pipe.End) (Pipes.MorePipes (Pipe.Then (Step.Filter (Expr.Binary BinOp.Eq (Expr.Path' ((codes "ID") ∷ [])) (Expr.Int (pos 1)))) Pipe.End) Pipes.NoPipes))) Pipe.End) (Pipe.Then (Step.Filter (Expr.Binary BinOp.Eq (Expr.Path' ((codes "ID") ∷ [])) (Expr.Int (pos 1)))) (Pipe.Then (Step.Concat (Pipes.MorePipes (Pipe.Then Step.Identity Pipe.End) (Pipes.MorePipes (Pipe.Then Step.Identity Pipe.End) Pipes.NoPipes))) Pipe.End))
unfolding pipe_results steps_shape is_quiet
equal_branches = ((1, refl), refl)

group_filter : Plans 2 (Pipe.Then (Step.GroupBy (Keys.MoreKeys (Key.Plain ((codes "Customer") ∷ (codes "Country") ∷ [])) Keys.NoKeys) (OptPipe.SomePipe (Pipe.Then (Step.Aggregate ((AggItem.Standard (Expr.Path' ((codes "Amount") ∷ [])) Method.Sum (codes "T")) ∷ [])) Pipe.End))) (Pipe.Then (Step.Filter (Expr.Binary BinOp.Eq (Expr.Path' ((codes "Customer") ∷ (codes "Country") ∷ [])) (Expr.Text (codes "US")))) Pipe.End)) (Pipe.Then (Step.Filter (Expr.Binary BinOp.Eq (Expr.Path' ((codes "Customer") ∷ (codes "Country") ∷ [])) (Expr.Text (codes "US")))) (Pipe.Then (Step.GroupBy (Keys.MoreKeys (Key.Plain ((codes "Customer") ∷ (codes "Country") ∷ [])) Keys.NoKeys) (OptPipe.SomePipe (Pipe.Then (Step.Aggregate ((AggItem.Standard (Expr.Path' ((codes "Amount") ∷ [])) Method.Sum (codes "T")) ∷ [])) Pipe.End))) Pipe.End))
unfolding pipe_results steps_shape is_quiet
group_filter = ((1, refl), refl)

sum_filter_stays : Plans 2 (Pipe.Then (Step.GroupBy (Keys.MoreKeys (Key.Plain ((codes "Customer") ∷ (codes "Country") ∷ [])) Keys.NoKeys) (OptPipe.SomePipe (Pipe.Then (Step.Aggregate ((AggItem.Standard (Expr.Path' ((codes "Amount") ∷ [])) Method.Sum (codes "T")) ∷ [])) Pipe.End))) (Pipe.Then (Step.Filter (Expr.Binary BinOp.Gt (Expr.Path' ((codes "T") ∷ [])) (Expr.Int (pos 5)))) Pipe.End)) (Pipe.Then (Step.GroupBy (Keys.MoreKeys (Key.Plain ((codes "Customer") ∷ (codes "Country") ∷ [])) Keys.NoKeys) (OptPipe.SomePipe (Pipe.Then (Step.Aggregate ((AggItem.Standard (Expr.Path' ((codes "Amount") ∷ [])) Method.Sum (codes "T")) ∷ [])) Pipe.End))) (Pipe.Then (Step.Filter (Expr.Binary BinOp.Gt (Expr.Path' ((codes "T") ∷ [])) (Expr.Int (pos 5)))) Pipe.End))
unfolding pipe_results steps_shape is_quiet
sum_filter_stays = ((0, refl), refl)

related_filter : Plans 0 (Pipe.Then (Step.Join false (codes "Sales") (codes "S") OptPipe.NoPipe) (Pipe.Then (Step.Filter (Expr.Binary BinOp.Gt (Expr.Path' ((codes "S") ∷ (codes "Amount") ∷ [])) (Expr.Int (pos 5)))) Pipe.End)) (Pipe.Then (Step.Join false (codes "Sales") (codes "S") (OptPipe.SomePipe (Pipe.Then (Step.Filter (Expr.Binary BinOp.Gt (Expr.Path' ((codes "Amount") ∷ [])) (Expr.Int (pos 5)))) Pipe.End))) Pipe.End)
unfolding pipe_results steps_shape is_quiet
related_filter = ((1, refl), refl)

outer_related_stays : Plans 0 (Pipe.Then (Step.Join true (codes "Sales") (codes "S") OptPipe.NoPipe) (Pipe.Then (Step.Filter (Expr.Binary BinOp.Gt (Expr.Path' ((codes "S") ∷ (codes "Amount") ∷ [])) (Expr.Int (pos 5)))) Pipe.End)) (Pipe.Then (Step.Join true (codes "Sales") (codes "S") OptPipe.NoPipe) (Pipe.Then (Step.Filter (Expr.Binary BinOp.Gt (Expr.Path' ((codes "S") ∷ (codes "Amount") ∷ [])) (Expr.Int (pos 5)))) Pipe.End))
unfolding pipe_results steps_shape is_quiet
outer_related_stays = ((0, refl), refl)

outer_filter : Plans 0 (Pipe.Then (Step.Join true (codes "Sales") (codes "S") OptPipe.NoPipe) (Pipe.Then (Step.Filter (Expr.Binary BinOp.Eq (Expr.Path' ((codes "Country") ∷ [])) (Expr.Text (codes "US")))) Pipe.End)) (Pipe.Then (Step.Filter (Expr.Binary BinOp.Eq (Expr.Path' ((codes "Country") ∷ [])) (Expr.Text (codes "US")))) (Pipe.Then (Step.Join true (codes "Sales") (codes "S") OptPipe.NoPipe) Pipe.End))
unfolding pipe_results steps_shape is_quiet
outer_filter = ((1, refl), refl)

rollup_all_stays : Plans 2 (Pipe.Then (Step.GroupBy (Keys.MoreKeys (Key.Rollup true (((codes "OrgID") ∷ []) ∷ [])) Keys.NoKeys) (OptPipe.SomePipe (Pipe.Then (Step.Aggregate ((AggItem.Count (codes "N")) ∷ [])) Pipe.End))) (Pipe.Then (Step.Filter (Expr.Binary BinOp.Eq (Expr.Path' ((codes "OrgID") ∷ [])) (Expr.Text (codes "US")))) Pipe.End)) (Pipe.Then (Step.GroupBy (Keys.MoreKeys (Key.Rollup true (((codes "OrgID") ∷ []) ∷ [])) Keys.NoKeys) (OptPipe.SomePipe (Pipe.Then (Step.Aggregate ((AggItem.Count (codes "N")) ∷ [])) Pipe.End))) (Pipe.Then (Step.Filter (Expr.Binary BinOp.Eq (Expr.Path' ((codes "OrgID") ∷ [])) (Expr.Text (codes "US")))) Pipe.End))
unfolding pipe_results steps_shape is_quiet
rollup_all_stays = ((0, refl), refl)

walk_filter : Plans 1 (Pipe.Then (Step.Traverse (traverse_step (hier (codes "Orgs") (codes "OrgTree")) ((codes "ID") ∷ []) false [])) (Pipe.Then (Step.Filter (Expr.Binary BinOp.Eq (Expr.Path' ((codes "ID") ∷ [])) (Expr.Text (codes "US")))) Pipe.End)) (Pipe.Then (Step.Filter (Expr.Binary BinOp.Eq (Expr.Path' ((codes "ID") ∷ [])) (Expr.Text (codes "US")))) (Pipe.Then (Step.Traverse (traverse_step (hier (codes "Orgs") (codes "OrgTree")) ((codes "ID") ∷ []) false [])) Pipe.End))
unfolding pipe_results steps_shape is_quiet
walk_filter = ((1, refl), refl)

idle_order : Plans 2 (Pipe.Then (Step.Climb true (hier (codes "Orgs") (codes "OrgTree")) ((codes "OrgID") ∷ []) (Pipe.Then (Step.Filter (Expr.Binary BinOp.Eq (Expr.Path' ((codes "ID") ∷ [])) (Expr.Int (pos 1)))) (Pipe.Then (Step.OrderBy ((item (Expr.Path' ((codes "ID") ∷ [])) false) ∷ [])) Pipe.End)) None false) Pipe.End) (Pipe.Then (Step.Climb true (hier (codes "Orgs") (codes "OrgTree")) ((codes "OrgID") ∷ []) (Pipe.Then (Step.Filter (Expr.Binary BinOp.Eq (Expr.Path' ((codes "ID") ∷ [])) (Expr.Int (pos 1)))) Pipe.End) None false) Pipe.End)
unfolding pipe_results steps_shape is_quiet
idle_order = ((1, refl), refl)

recursive_key_filter : Plans 2 (Pipe.Then (Step.GroupBy (Keys.MoreKeys (Key.Plain ((codes "CustomerID") ∷ [])) (Keys.MoreKeys (Key.Recursive (hier (codes "Orgs") (codes "OrgTree")) ((codes "OrgID") ∷ []) OptPipe.NoPipe) Keys.NoKeys)) (OptPipe.SomePipe (Pipe.Then (Step.Aggregate ((AggItem.Count (codes "N")) ∷ [])) Pipe.End))) (Pipe.Then (Step.Filter (Expr.Binary BinOp.Eq (Expr.Path' ((codes "CustomerID") ∷ [])) (Expr.Text (codes "C1")))) Pipe.End)) (Pipe.Then (Step.Filter (Expr.Binary BinOp.Eq (Expr.Path' ((codes "CustomerID") ∷ [])) (Expr.Text (codes "C1")))) (Pipe.Then (Step.GroupBy (Keys.MoreKeys (Key.Plain ((codes "CustomerID") ∷ [])) (Keys.MoreKeys (Key.Recursive (hier (codes "Orgs") (codes "OrgTree")) ((codes "OrgID") ∷ []) OptPipe.NoPipe) Keys.NoKeys)) (OptPipe.SomePipe (Pipe.Then (Step.Aggregate ((AggItem.Count (codes "N")) ∷ [])) Pipe.End))) Pipe.End))
unfolding pipe_results steps_shape is_quiet
recursive_key_filter = ((1, refl), refl)

joins_filtered : Plans 0 (Pipe.Then (Step.Join false (codes "Sales") (codes "S") OptPipe.NoPipe) (Pipe.Then (Step.Join false (codes "Sales") (codes "T") OptPipe.NoPipe) (Pipe.Then (Step.Join false (codes "Sales") (codes "U") OptPipe.NoPipe) (Pipe.Then (Step.Filter (Expr.Binary BinOp.Eq (Expr.Path' ((codes "Country") ∷ [])) (Expr.Text (codes "XX")))) Pipe.End)))) (Pipe.Then (Step.Filter (Expr.Binary BinOp.Eq (Expr.Path' ((codes "Country") ∷ [])) (Expr.Text (codes "XX")))) (Pipe.Then (Step.Join false (codes "Sales") (codes "S") OptPipe.NoPipe) (Pipe.Then (Step.Join false (codes "Sales") (codes "T") OptPipe.NoPipe) (Pipe.Then (Step.Join false (codes "Sales") (codes "U") OptPipe.NoPipe) Pipe.End))))
unfolding pipe_results steps_shape is_quiet
joins_filtered = ((3, refl), refl)

idle_order_alone : Plans 2 (Pipe.Then (Step.Climb true (hier (codes "Orgs") (codes "OrgTree")) ((codes "OrgID") ∷ []) (Pipe.Then (Step.OrderBy ((item (Expr.Path' ((codes "ID") ∷ [])) false) ∷ [])) Pipe.End) None true) Pipe.End) (Pipe.Then (Step.Climb true (hier (codes "Orgs") (codes "OrgTree")) ((codes "OrgID") ∷ []) (Pipe.Then Step.Identity Pipe.End) None true) Pipe.End)
unfolding pipe_results steps_shape is_quiet
idle_order_alone = ((1, refl), refl)

idle_node_stays : Plans 2 (Pipe.Then (Step.Compute ((named (Expr.Path' ((codes "OrgID") ∷ [])) (codes "O")) ∷ [])) (Pipe.Then (Step.Climb true (hier (codes "Orgs") (codes "OrgTree")) ((codes "O") ∷ []) (Pipe.Then (Step.Filter (Expr.Binary BinOp.Eq (Expr.Path' ((codes "ID") ∷ [])) (Expr.Int (pos 1)))) Pipe.End) None false) Pipe.End)) (Pipe.Then (Step.Compute ((named (Expr.Path' ((codes "OrgID") ∷ [])) (codes "O")) ∷ [])) (Pipe.Then (Step.Climb true (hier (codes "Orgs") (codes "OrgTree")) ((codes "O") ∷ []) (Pipe.Then (Step.Filter (Expr.Binary BinOp.Eq (Expr.Path' ((codes "ID") ∷ [])) (Expr.Int (pos 1)))) Pipe.End) None false) Pipe.End))
unfolding pipe_results steps_shape is_quiet
idle_node_stays = ((0, refl), refl)

rollup_first : Plans 2 (Pipe.Then (Step.GroupBy (Keys.MoreKeys (Key.Rollup false (((codes "Customer") ∷ (codes "Country") ∷ []) ∷ ((codes "CustomerID") ∷ []) ∷ [])) Keys.NoKeys) (OptPipe.SomePipe (Pipe.Then (Step.Aggregate ((AggItem.Count (codes "N")) ∷ [])) Pipe.End))) (Pipe.Then (Step.Filter (Expr.Binary BinOp.Eq (Expr.Path' ((codes "Customer") ∷ (codes "Country") ∷ [])) (Expr.Text (codes "US")))) Pipe.End)) (Pipe.Then (Step.Filter (Expr.Binary BinOp.Eq (Expr.Path' ((codes "Customer") ∷ (codes "Country") ∷ [])) (Expr.Text (codes "US")))) (Pipe.Then (Step.GroupBy (Keys.MoreKeys (Key.Rollup false (((codes "Customer") ∷ (codes "Country") ∷ []) ∷ ((codes "CustomerID") ∷ []) ∷ [])) Keys.NoKeys) (OptPipe.SomePipe (Pipe.Then (Step.Aggregate ((AggItem.Count (codes "N")) ∷ [])) Pipe.End))) Pipe.End))
unfolding pipe_results steps_shape is_quiet
rollup_first = ((1, refl), refl)

rollup_second_stays : Plans 2 (Pipe.Then (Step.GroupBy (Keys.MoreKeys (Key.Rollup false (((codes "Customer") ∷ (codes "Country") ∷ []) ∷ ((codes "CustomerID") ∷ []) ∷ [])) Keys.NoKeys) (OptPipe.SomePipe (Pipe.Then (Step.Aggregate ((AggItem.Count (codes "N")) ∷ [])) Pipe.End))) (Pipe.Then (Step.Filter (Expr.Binary BinOp.Eq (Expr.Path' ((codes "CustomerID") ∷ [])) (Expr.Text (codes "C1")))) Pipe.End)) (Pipe.Then (Step.GroupBy (Keys.MoreKeys (Key.Rollup false (((codes "Customer") ∷ (codes "Country") ∷ []) ∷ ((codes "CustomerID") ∷ []) ∷ [])) Keys.NoKeys) (OptPipe.SomePipe (Pipe.Then (Step.Aggregate ((AggItem.Count (codes "N")) ∷ [])) Pipe.End))) (Pipe.Then (Step.Filter (Expr.Binary BinOp.Eq (Expr.Path' ((codes "CustomerID") ∷ [])) (Expr.Text (codes "C1")))) Pipe.End))
unfolding pipe_results steps_shape is_quiet
rollup_second_stays = ((0, refl), refl)
