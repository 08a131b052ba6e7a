-- Worked printed texts.
use Rattle.std.specs.Prelude.{◌≡◌, refl, pos, true, false, [], ◌∷◌, Some, None, codes}
use Rattle.std.specs.Fmt.{digits}
use Rattle.edm_values.specs.declared.Method.{Method}
use Rattle.apply_ast.specs.Trees.{Expr, AggItem, NumberLiteral, Limit, Pipe, Step, OptPipe, Pipes, Key, Keys}
use Rattle.apply_ast.specs.Printing.{print, print_steps}
use Rattle.apply_ast.proofs.TreeWords.{item, named, hier, top_step, traverse_step}
use Rattle.apply_ast.specs.declared.expressions.UnOp.TheVariants as UnOp
use Rattle.apply_ast.specs.declared.expressions.BinOp.TheVariants as BinOp
use Rattle.apply_ast.specs.declared.expressions.Fun1.TheVariants as Fun1
use Rattle.apply_ast.specs.declared.expressions.Fun2.TheVariants as Fun2

-- filter(not ID eq 1)
filter_not_id_eq : print (Pipe.Then (Step.Filter (Expr.Binary BinOp.Eq (Expr.Unary UnOp.Not (Expr.Path' ((codes "ID") ∷ []))) (Expr.Int (pos 1)))) Pipe.End) ≡ codes "filter(not ID eq 1)"
unfolding digits print_steps
filter_not_id_eq = refl

-- filter(not (ID eq 1))
filter_not_id_eq_1 : print (Pipe.Then (Step.Filter (Expr.Unary UnOp.Not (Expr.Binary BinOp.Eq (Expr.Path' ((codes "ID") ∷ [])) (Expr.Int (pos 1))))) Pipe.End) ≡ codes "filter(not (ID eq 1))"
unfolding digits print_steps
filter_not_id_eq_1 = refl

-- compute(A sub (B sub C) as X)
compute_a_sub_b : print (Pipe.Then (Step.Compute ((named (Expr.Binary BinOp.Sub (Expr.Path' ((codes "A") ∷ [])) (Expr.Binary BinOp.Sub (Expr.Path' ((codes "B") ∷ [])) (Expr.Path' ((codes "C") ∷ [])))) (codes "X")) ∷ [])) Pipe.End) ≡ codes "compute(A sub (B sub C) as X)"
unfolding digits print_steps
compute_a_sub_b = refl

-- compute((A sub B) sub C as X)
compute_a_sub_b_sub : print (Pipe.Then (Step.Compute ((named (Expr.Binary BinOp.Sub (Expr.Binary BinOp.Sub (Expr.Path' ((codes "A") ∷ [])) (Expr.Path' ((codes "B") ∷ []))) (Expr.Path' ((codes "C") ∷ []))) (codes "X")) ∷ [])) Pipe.End) ≡ codes "compute(A sub B sub C as X)"
unfolding digits print_steps
compute_a_sub_b_sub = refl

-- filter((A or B) and C)
filter_a_or_b : print (Pipe.Then (Step.Filter (Expr.Binary BinOp.And (Expr.Binary BinOp.Or (Expr.Path' ((codes "A") ∷ [])) (Expr.Path' ((codes "B") ∷ []))) (Expr.Path' ((codes "C") ∷ [])))) Pipe.End) ≡ codes "filter((A or B) and C)"
unfolding digits print_steps
filter_a_or_b = refl

-- filter(A or (B and C))
filter_a_or_b_and : print (Pipe.Then (Step.Filter (Expr.Binary BinOp.Or (Expr.Path' ((codes "A") ∷ [])) (Expr.Binary BinOp.And (Expr.Path' ((codes "B") ∷ [])) (Expr.Path' ((codes "C") ∷ []))))) Pipe.End) ≡ codes "filter(A or B and C)"
unfolding digits print_steps
filter_a_or_b_and = refl

-- compute(-(A add B) as X)
compute_a_add_b : print (Pipe.Then (Step.Compute ((named (Expr.Unary UnOp.Neg (Expr.Binary BinOp.Add (Expr.Path' ((codes "A") ∷ [])) (Expr.Path' ((codes "B") ∷ [])))) (codes "X")) ∷ [])) Pipe.End) ≡ codes "compute(-(A add B) as X)"
unfolding digits print_steps
compute_a_add_b = refl

-- compute(-A mul B as X)
compute_a_mul_b : print (Pipe.Then (Step.Compute ((named (Expr.Binary BinOp.Mul (Expr.Unary UnOp.Neg (Expr.Path' ((codes "A") ∷ []))) (Expr.Path' ((codes "B") ∷ []))) (codes "X")) ∷ [])) Pipe.End) ≡ codes "compute(-A mul B as X)"
unfolding digits print_steps
compute_a_mul_b = refl

-- compute(--5 as X)
compute_5_x : print (Pipe.Then (Step.Compute ((named (Expr.Unary UnOp.Neg (Expr.Unary UnOp.Neg (Expr.Int (pos 5)))) (codes "X")) ∷ [])) Pipe.End) ≡ codes "compute(--5 as X)"
unfolding digits print_steps
compute_5_x = refl

-- filter((A mul (B add C)) ge 0.05)
filter_a_mul_b : print (Pipe.Then (Step.Filter (Expr.Binary BinOp.Ge (Expr.Binary BinOp.Mul (Expr.Path' ((codes "A") ∷ [])) (Expr.Binary BinOp.Add (Expr.Path' ((codes "B") ∷ [])) (Expr.Path' ((codes "C") ∷ [])))) (Expr.Dec (pos 5) 2))) Pipe.End) ≡ codes "filter(A mul (B add C) ge 0.05)"
unfolding digits print_steps
filter_a_mul_b = refl

-- filter(Name eq 'it's')
filter_name_eq_it : print (Pipe.Then (Step.Filter (Expr.Binary BinOp.Eq (Expr.Path' ((codes "Name") ∷ [])) (Expr.Text (codes "it's")))) Pipe.End) ≡ codes "filter(Name eq 'it''s')"
unfolding digits print_steps
filter_name_eq_it = refl

-- filter(Since lt 0987-01-02)
filter_since_lt_0987 : print (Pipe.Then (Step.Filter (Expr.Binary BinOp.Lt (Expr.Path' ((codes "Since") ∷ [])) (Expr.Day 987 1 2))) Pipe.End) ≡ codes "filter(Since lt 0987-01-02)"
unfolding digits print_steps
filter_since_lt_0987 = refl

-- filter((A eq B) eq C)
filter_a_eq_b : print (Pipe.Then (Step.Filter (Expr.Binary BinOp.Eq (Expr.Binary BinOp.Eq (Expr.Path' ((codes "A") ∷ [])) (Expr.Path' ((codes "B") ∷ []))) (Expr.Path' ((codes "C") ∷ [])))) Pipe.End) ≡ codes "filter(A eq B eq C)"
unfolding digits print_steps
filter_a_eq_b = refl

-- filter(A eq (B eq C))
filter_a_eq_b_eq : print (Pipe.Then (Step.Filter (Expr.Binary BinOp.Eq (Expr.Path' ((codes "A") ∷ [])) (Expr.Binary BinOp.Eq (Expr.Path' ((codes "B") ∷ [])) (Expr.Path' ((codes "C") ∷ []))))) Pipe.End) ≡ codes "filter(A eq (B eq C))"
unfolding digits print_steps
filter_a_eq_b_eq = refl

-- filter(startswith(Name,'a') and (length(Name) gt 2))
filter_startswith_name_a : print (Pipe.Then (Step.Filter (Expr.Binary BinOp.And (Expr.Call2 Fun2.StartsWith (Expr.Path' ((codes "Name") ∷ [])) (Expr.Text (codes "a"))) (Expr.Binary BinOp.Gt (Expr.Call1 Fun1.Length (Expr.Path' ((codes "Name") ∷ []))) (Expr.Int (pos 2))))) Pipe.End) ≡ codes "filter(startswith(Name,'a') and length(Name) gt 2)"
unfolding digits print_steps
filter_startswith_name_a = refl

-- filter(null eq null)
filter_null_eq_null : print (Pipe.Then (Step.Filter (Expr.Binary BinOp.Eq Expr.Null Expr.Null)) Pipe.End) ≡ codes "filter(null eq null)"
unfolding digits print_steps
filter_null_eq_null = refl

-- aggregate(Best,Best as B,$count as N,A add 1 with countdistinct as D)
aggregate_best_best_b : print (Pipe.Then (Step.Aggregate ((AggItem.Custom (codes "Best") (codes "Best")) ∷ (AggItem.Custom (codes "Best") (codes "B")) ∷ (AggItem.Count (codes "N")) ∷ (AggItem.Standard (Expr.Binary BinOp.Add (Expr.Path' ((codes "A") ∷ [])) (Expr.Int (pos 1))) Method.CountDistinct (codes "D")) ∷ [])) Pipe.End) ≡ codes "aggregate(Best,Best as B,$count as N,A add 1 with countdistinct as D)"
unfolding digits print_steps
aggregate_best_best_b = refl

-- orderby(A desc,B)
orderby_a_desc_b : print (Pipe.Then (Step.OrderBy ((item (Expr.Path' ((codes "A") ∷ [])) true) ∷ (item (Expr.Path' ((codes "B") ∷ [])) false) ∷ [])) Pipe.End) ≡ codes "orderby(A desc,B)"
unfolding digits print_steps
orderby_a_desc_b = refl

-- groupby((rollup($all,Customer/Country),ID),identity/top(1))
groupby_rollup_all_customer : print (Pipe.Then (Step.GroupBy (Keys.MoreKeys (Key.Rollup true (((codes "Customer") ∷ (codes "Country") ∷ []) ∷ [])) (Keys.MoreKeys (Key.Plain ((codes "ID") ∷ [])) Keys.NoKeys)) (OptPipe.SomePipe (Pipe.Then Step.Identity (Pipe.Then (Step.Top 1) Pipe.End)))) Pipe.End) ≡ codes "groupby((rollup($all,Customer/Country),ID),identity/top(1))"
unfolding digits print_steps
groupby_rollup_all_customer = refl

-- concat(identity,skip(2))
concat_identity_skip_2 : print (Pipe.Then (Step.Concat (Pipes.MorePipes (Pipe.Then Step.Identity Pipe.End) (Pipes.MorePipes (Pipe.Then (Step.Skip 2) Pipe.End) Pipes.NoPipes))) Pipe.End) ≡ codes "concat(identity,skip(2))"
unfolding digits print_steps
concat_identity_skip_2 = refl

-- groupby((rolluprecursive($root/Orgs,OrgTree,OrgID,filter(ID eq 'US'))),aggregate(Amount with sum as T))
groupby_rolluprecursive_orgid_filter : print (Pipe.Then (Step.GroupBy (Keys.MoreKeys (Key.Recursive (hier (codes "Orgs") (codes "OrgTree")) ((codes "OrgID") ∷ []) (OptPipe.SomePipe (Pipe.Then (Step.Filter (Expr.Binary BinOp.Eq (Expr.Path' ((codes "ID") ∷ [])) (Expr.Text (codes "US")))) Pipe.End))) Keys.NoKeys) (OptPipe.SomePipe (Pipe.Then (Step.Aggregate ((AggItem.Standard (Expr.Path' ((codes "Amount") ∷ [])) Method.Sum (codes "T")) ∷ [])) Pipe.End))) Pipe.End) ≡ codes "groupby((rolluprecursive($root/Orgs,OrgTree,OrgID,filter(ID eq 'US'))),aggregate(Amount with sum as T))"
unfolding digits print_steps
groupby_rolluprecursive_orgid_filter = refl

-- ancestors($root/Orgs,OrgTree,OrgID,filter(ID eq 1),1,keep start)
ancestors_orgid_filter_id : print (Pipe.Then (Step.Climb true (hier (codes "Orgs") (codes "OrgTree")) ((codes "OrgID") ∷ []) (Pipe.Then (Step.Filter (Expr.Binary BinOp.Eq (Expr.Path' ((codes "ID") ∷ [])) (Expr.Int (pos 1)))) Pipe.End) (Some 1) true) Pipe.End) ≡ codes "ancestors($root/Orgs,OrgTree,OrgID,filter(ID eq 1),1,keep start)"
unfolding digits print_steps
ancestors_orgid_filter_id = refl

-- descendants($root/Orgs,OrgTree,OrgID,identity,keep start)
descendants_orgid_identity_keep : print (Pipe.Then (Step.Climb false (hier (codes "Orgs") (codes "OrgTree")) ((codes "OrgID") ∷ []) (Pipe.Then Step.Identity Pipe.End) None true) Pipe.End) ≡ codes "descendants($root/Orgs,OrgTree,OrgID,identity,keep start)"
unfolding digits print_steps
descendants_orgid_identity_keep = refl

-- traverse($root/Orgs,OrgTree,ID,preorder,ID desc)
traverse_id_preorder_id : print (Pipe.Then (Step.Traverse (traverse_step (hier (codes "Orgs") (codes "OrgTree")) ((codes "ID") ∷ []) false ((item (Expr.Path' ((codes "ID") ∷ [])) true) ∷ []))) Pipe.End) ≡ codes "traverse($root/Orgs,OrgTree,ID,preorder,ID desc)"
unfolding digits print_steps
traverse_id_preorder_id = refl

-- outerjoin(Sales as S,filter(A gt 5)/top(1))
outerjoin_sales_s_filter : print (Pipe.Then (Step.Join true (codes "Sales") (codes "S") (OptPipe.SomePipe (Pipe.Then (Step.Filter (Expr.Binary BinOp.Gt (Expr.Path' ((codes "A") ∷ [])) (Expr.Int (pos 5)))) (Pipe.Then (Step.Top 1) Pipe.End)))) Pipe.End) ≡ codes "outerjoin(Sales as S,filter(A gt 5)/top(1))"
unfolding digits print_steps
outerjoin_sales_s_filter = refl

-- topsum(1.50,A)/bottompercent(10,A)
topsum_1_50_a : print (Pipe.Then (Step.TopBy (top_step false (Limit.Sum (NumberLiteral.Dec (pos 150) 2)) (Expr.Path' ((codes "A") ∷ [])))) (Pipe.Then (Step.TopBy (top_step true (Limit.Percent 10) (Expr.Path' ((codes "A") ∷ [])))) Pipe.End)) ≡ codes "topsum(1.50,A)/bottompercent(10,A)"
unfolding digits print_steps
topsum_1_50_a = refl

-- skip(0)/top(9223372036854775807)
skip_0_top_9223372036854775807 : print (Pipe.Then (Step.Skip 0) (Pipe.Then (Step.Top 9223372036854775807) Pipe.End)) ≡ codes "skip(0)/top(9223372036854775807)"
unfolding digits print_steps
skip_0_top_9223372036854775807 = refl

blanks : print (Pipe.Then (Step.Filter (Expr.Binary BinOp.Eq (Expr.Path' ((codes "ID") ∷ [])) (Expr.Int (pos 7)))) (Pipe.Then (Step.OrderBy ((item (Expr.Path' ((codes "ID") ∷ [])) false) ∷ [])) (Pipe.Then (Step.Compute ((named (Expr.Dec (pos 15) 1) (codes "X")) ∷ [])) Pipe.End))) ≡ codes "filter(ID eq 7)/orderby(ID)/compute(1.5 as X)"
unfolding digits print_steps
blanks = refl
