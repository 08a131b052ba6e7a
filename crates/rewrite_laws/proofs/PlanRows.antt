-- Worked plans over the sample model.
use Rattle.std.specs.Prelude.{refl, ℕ, pos, true, false, [], ◌∷◌, codes}
use Rattle.apply_ast.specs.Trees.{Expr, AggItem, Limit, Pipe, Step, OptPipe, Key, Keys}
use Rattle.context_typing.specs.Shapes.{set_shape}
use Rattle.rewrite_laws.specs.Rewrites.{IsPlanOf, pipe_results}
use Rattle.apply_ast.proofs.TreeWords.{item, named, top_step}
use Rattle.edm_model.specs.SampleModel.{sample_model}
use Rattle.context_typing.proofs.SampleCustoms.{sample_customs}
use Rattle.context_typing.specs.Typing.{steps_shape, is_quiet}
use Rattle.apply_ast.specs.declared.expressions.BinOp.TheVariants as BinOp

abbrev pub Plans : ℕ → Pipe → Pipe → Type 0
Plans s p q = IsPlanOf sample_model sample_customs (set_shape s) p q

split_and_passed : Plans 2 (Pipe.Then (Step.Compute ((named (Expr.Binary BinOp.Add (Expr.Path' ((codes "Amount") ∷ [])) (Expr.Int (pos 1))) (codes "X")) ∷ [])) (Pipe.Then (Step.Filter (Expr.Binary BinOp.And (Expr.Binary BinOp.Eq (Expr.Path' ((codes "ID") ∷ [])) (Expr.Int (pos 1))) (Expr.Binary BinOp.Gt (Expr.Path' ((codes "Amount") ∷ [])) (Expr.Int (pos 2))))) Pipe.End)) (Pipe.Then (Step.Filter (Expr.Binary BinOp.Eq (Expr.Path' ((codes "ID") ∷ [])) (Expr.Int (pos 1)))) (Pipe.Then (Step.Filter (Expr.Binary BinOp.Gt (Expr.Path' ((codes "Amount") ∷ [])) (Expr.Int (pos 2)))) (Pipe.Then (Step.Compute ((named (Expr.Binary BinOp.Add (Expr.Path' ((codes "Amount") ∷ [])) (Expr.Int (pos 1))) (codes "X")) ∷ [])) Pipe.End)))
unfolding pipe_results steps_shape is_quiet
split_and_passed = ((3, refl), refl)

new_column_stays : Plans 2 (Pipe.Then (Step.Compute ((named (Expr.Binary BinOp.Add (Expr.Path' ((codes "Amount") ∷ [])) (Expr.Int (pos 1))) (codes "X")) ∷ [])) (Pipe.Then (Step.Filter (Expr.Binary BinOp.Gt (Expr.Path' ((codes "X") ∷ [])) (Expr.Int (pos 2)))) Pipe.End)) (Pipe.Then (Step.Compute ((named (Expr.Binary BinOp.Add (Expr.Path' ((codes "Amount") ∷ [])) (Expr.Int (pos 1))) (codes "X")) ∷ [])) (Pipe.Then (Step.Filter (Expr.Binary BinOp.Gt (Expr.Path' ((codes "X") ∷ [])) (Expr.Int (pos 2)))) Pipe.End))
unfolding pipe_results steps_shape is_quiet
new_column_stays = ((0, refl), refl)

lesser_count : Plans 2 (Pipe.Then (Step.TopBy (top_step false (Limit.Count 3) (Expr.Path' ((codes "Amount") ∷ [])))) (Pipe.Then Step.Identity (Pipe.Then (Step.TopBy (top_step false (Limit.Count 2) (Expr.Path' ((codes "Amount") ∷ [])))) Pipe.End))) (Pipe.Then (Step.TopBy (top_step false (Limit.Count 2) (Expr.Path' ((codes "Amount") ∷ [])))) Pipe.End)
unfolding pipe_results steps_shape is_quiet
lesser_count = ((2, refl), refl)

order_dropped : Plans 2 (Pipe.Then (Step.OrderBy ((item (Expr.Path' ((codes "ID") ∷ [])) false) ∷ [])) (Pipe.Then (Step.Aggregate ((AggItem.Count (codes "N")) ∷ [])) Pipe.End)) (Pipe.Then (Step.Aggregate ((AggItem.Count (codes "N")) ∷ [])) Pipe.End)
unfolding pipe_results steps_shape is_quiet
order_dropped = ((1, refl), refl)

always_true : Plans 2 (Pipe.Then (Step.Filter (Expr.Bool' true)) Pipe.End) (Pipe.Then Step.Identity Pipe.End)
unfolding pipe_results steps_shape is_quiet
always_true = ((1, refl), refl)

always_true_dropped : Plans 2 (Pipe.Then (Step.Filter (Expr.Bool' true)) (Pipe.Then (Step.Top 1) Pipe.End)) (Pipe.Then (Step.Top 1) Pipe.End)
unfolding pipe_results steps_shape is_quiet
always_true_dropped = ((2, refl), refl)

alone : Plans 2 (Pipe.Then Step.Identity Pipe.End) (Pipe.Then Step.Identity Pipe.End)
unfolding pipe_results steps_shape is_quiet
alone = ((0, refl), refl)

both_pass : Plans 2 (Pipe.Then (Step.OrderBy ((item (Expr.Path' ((codes "ID") ∷ [])) false) ∷ [])) (Pipe.Then (Step.Filter (Expr.Binary BinOp.Gt (Expr.Binary BinOp.Add (Expr.Path' ((codes "Amount") ∷ [])) (Expr.Int (pos 1))) (Expr.Int (pos 2)))) (Pipe.Then (Step.Filter (Expr.Binary BinOp.Eq (Expr.Path' ((codes "ID") ∷ [])) (Expr.Int (pos 1)))) Pipe.End))) (Pipe.Then (Step.Filter (Expr.Binary BinOp.Gt (Expr.Binary BinOp.Add (Expr.Path' ((codes "Amount") ∷ [])) (Expr.Int (pos 1))) (Expr.Int (pos 2)))) (Pipe.Then (Step.Filter (Expr.Binary BinOp.Eq (Expr.Path' ((codes "ID") ∷ [])) (Expr.Int (pos 1)))) (Pipe.Then (Step.OrderBy ((item (Expr.Path' ((codes "ID") ∷ [])) false) ∷ [])) Pipe.End)))
unfolding pipe_results steps_shape is_quiet
both_pass = ((2, refl), refl)

inner_rewritten : Plans 2 (Pipe.Then (Step.GroupBy (Keys.MoreKeys (Key.Plain ((codes "CustomerID") ∷ [])) Keys.NoKeys) (OptPipe.SomePipe (Pipe.Then (Step.Filter (Expr.Bool' true)) (Pipe.Then (Step.OrderBy ((item (Expr.Path' ((codes "ID") ∷ [])) false) ∷ [])) (Pipe.Then (Step.Aggregate ((AggItem.Count (codes "N")) ∷ [])) Pipe.End))))) Pipe.End) (Pipe.Then (Step.GroupBy (Keys.MoreKeys (Key.Plain ((codes "CustomerID") ∷ [])) Keys.NoKeys) (OptPipe.SomePipe (Pipe.Then (Step.Aggregate ((AggItem.Count (codes "N")) ∷ [])) Pipe.End))) Pipe.End)
unfolding pipe_results steps_shape is_quiet
inner_rewritten = ((3, refl), refl)
