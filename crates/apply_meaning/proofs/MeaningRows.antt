-- Worked requests over the sample world: what each pipeline means there.
use Rattle.std.specs.Prelude.{◌≡◌, refl, ℕ, pos, true, false, List, [], ◌∷◌, Option, Some, None, codes, map, option_map}
use Rattle.edm_values.specs.declared.Value.{Value}
use Rattle.edm_values.specs.declared.Method.{Method}
use Rattle.edm_data.specs.Worlds.{Entity}
use Rattle.edm_values.specs.Names.{Path}
use Rattle.apply_ast.specs.Trees.{Expr, AggItem, NumberLiteral, Limit, Pipe, Step, OptPipe, Pipes, Key, Keys}
use Rattle.context_typing.specs.Shapes.{set_shape}
use Rattle.apply_meaning.specs.Instances.{Instance, rows}
use Rattle.apply_meaning.specs.Meaning.{Outcome, mean}
use Rattle.apply_ast.proofs.TreeWords.{item, named, hier, top_step, traverse_step}
use Rattle.edm_data.proofs.DataRows.{sample_world}
use Rattle.context_typing.proofs.SampleCustoms.{sample_customs}
use Rattle.edm_values.specs.Values.{dec}
use Rattle.context_typing.specs.Typing.{steps_shape}
use Rattle.apply_ast.specs.declared.expressions.BinOp.TheVariants as BinOp
use Rattle.apply_ast.specs.declared.expressions.Fun1.TheVariants as Fun1

-- the meaning of a pipeline on a set of the sample world, which is the type of the same number
abbrev pub run : ℕ → Pipe → Outcome
run s p = mean sample_world sample_customs (set_shape s) p (rows sample_world s)

-- the columns of the instances, and the places of the entities at their empty prefixes
abbrev pub columns_of : Outcome → Option (List (List (Path × Value)))
columns_of r = option_map (map (λ (i : Instance). i.columns)) r

abbrev pub prefixes_of : Outcome → Option (List (List (Path × Option Entity)))
prefixes_of r = option_map (map (λ (i : Instance). i.prefixes)) r

abbrev pub col : Path → Value → Path × Value
col p v = (p, v)

abbrev pub ent : Path → ℕ → ℕ → Path × Option Entity
ent p s k = (p, Some (record { set = s; at = k }))

abbrev pub none : Path → Path × Option Entity
none p = (p, None)

total : columns_of (run 2 (Pipe.Then (Step.Aggregate ((AggItem.Standard (Expr.Path' ((codes "Amount") ∷ [])) Method.Sum (codes "Total")) ∷ [])) Pipe.End)) ≡ (Some ((col ((codes "Total") ∷ []) (dec (pos 2600) 2) ∷ []) ∷ []))
unfolding mean steps_shape
total = refl

total_of_none : columns_of (run 2 (Pipe.Then (Step.Filter (Expr.Binary BinOp.Eq (Expr.Path' ((codes "ID") ∷ [])) (Expr.Int (pos 99)))) (Pipe.Then (Step.Aggregate ((AggItem.Standard (Expr.Path' ((codes "Amount") ∷ [])) Method.Sum (codes "T")) ∷ (AggItem.Count (codes "N")) ∷ [])) Pipe.End))) ≡ (Some ((col ((codes "T") ∷ []) Value.Null ∷ col ((codes "N") ∷ []) (Value.Int (pos 0)) ∷ []) ∷ []))
unfolding mean steps_shape
total_of_none = refl

by_country : columns_of (run 2 (Pipe.Then (Step.GroupBy (Keys.MoreKeys (Key.Plain ((codes "Customer") ∷ (codes "Country") ∷ [])) Keys.NoKeys) (OptPipe.SomePipe (Pipe.Then (Step.Aggregate ((AggItem.Standard (Expr.Path' ((codes "Amount") ∷ [])) Method.Sum (codes "T")) ∷ [])) Pipe.End))) Pipe.End)) ≡ (Some ((col ((codes "T") ∷ []) (dec (pos 1775) 2) ∷ col ((codes "Customer") ∷ (codes "Country") ∷ []) (Value.Text (codes "US")) ∷ []) ∷ (col ((codes "T") ∷ []) (dec (pos 825) 2) ∷ col ((codes "Customer") ∷ (codes "Country") ∷ []) (Value.Text (codes "NL")) ∷ []) ∷ (col ((codes "T") ∷ []) Value.Null ∷ col ((codes "Customer") ∷ (codes "Country") ∷ []) (Value.Text (codes "FR")) ∷ []) ∷ []))
unfolding mean steps_shape
by_country = refl

rollup : columns_of (run 2 (Pipe.Then (Step.GroupBy (Keys.MoreKeys (Key.Rollup false (((codes "Customer") ∷ (codes "Country") ∷ []) ∷ ((codes "Customer") ∷ (codes "Name") ∷ []) ∷ [])) Keys.NoKeys) (OptPipe.SomePipe (Pipe.Then (Step.Aggregate ((AggItem.Count (codes "N")) ∷ [])) Pipe.End))) Pipe.End)) ≡ (Some ((col ((codes "N") ∷ []) (Value.Int (pos 3)) ∷ col ((codes "Customer") ∷ (codes "Country") ∷ []) (Value.Text (codes "US")) ∷ col ((codes "Customer") ∷ (codes "Name") ∷ []) (Value.Text (codes "Joe")) ∷ []) ∷ (col ((codes "N") ∷ []) (Value.Int (pos 2)) ∷ col ((codes "Customer") ∷ (codes "Country") ∷ []) (Value.Text (codes "NL")) ∷ col ((codes "Customer") ∷ (codes "Name") ∷ []) (Value.Text (codes "Sue")) ∷ []) ∷ (col ((codes "N") ∷ []) (Value.Int (pos 1)) ∷ col ((codes "Customer") ∷ (codes "Country") ∷ []) (Value.Text (codes "FR")) ∷ col ((codes "Customer") ∷ (codes "Name") ∷ []) (Value.Text (codes "Luc")) ∷ []) ∷ (col ((codes "N") ∷ []) (Value.Int (pos 3)) ∷ col ((codes "Customer") ∷ (codes "Country") ∷ []) (Value.Text (codes "US")) ∷ []) ∷ (col ((codes "N") ∷ []) (Value.Int (pos 2)) ∷ col ((codes "Customer") ∷ (codes "Country") ∷ []) (Value.Text (codes "NL")) ∷ []) ∷ (col ((codes "N") ∷ []) (Value.Int (pos 1)) ∷ col ((codes "Customer") ∷ (codes "Country") ∷ []) (Value.Text (codes "FR")) ∷ []) ∷ []))
unfolding mean steps_shape
rollup = refl

rollup_all : columns_of (run 2 (Pipe.Then (Step.GroupBy (Keys.MoreKeys (Key.Rollup true (((codes "Customer") ∷ (codes "Country") ∷ []) ∷ [])) Keys.NoKeys) (OptPipe.SomePipe (Pipe.Then (Step.Aggregate ((AggItem.Count (codes "N")) ∷ [])) Pipe.End))) Pipe.End)) ≡ (Some ((col ((codes "N") ∷ []) (Value.Int (pos 3)) ∷ col ((codes "Customer") ∷ (codes "Country") ∷ []) (Value.Text (codes "US")) ∷ []) ∷ (col ((codes "N") ∷ []) (Value.Int (pos 2)) ∷ col ((codes "Customer") ∷ (codes "Country") ∷ []) (Value.Text (codes "NL")) ∷ []) ∷ (col ((codes "N") ∷ []) (Value.Int (pos 1)) ∷ col ((codes "Customer") ∷ (codes "Country") ∷ []) (Value.Text (codes "FR")) ∷ []) ∷ (col ((codes "N") ∷ []) (Value.Int (pos 6)) ∷ []) ∷ []))
unfolding mean steps_shape
rollup_all = refl

rollup_all_of_none : columns_of (run 2 (Pipe.Then (Step.Filter (Expr.Binary BinOp.Eq (Expr.Path' ((codes "ID") ∷ [])) (Expr.Int (pos 99)))) (Pipe.Then (Step.GroupBy (Keys.MoreKeys (Key.Rollup true (((codes "OrgID") ∷ []) ∷ [])) Keys.NoKeys) (OptPipe.SomePipe (Pipe.Then (Step.Aggregate ((AggItem.Count (codes "N")) ∷ [])) Pipe.End))) Pipe.End))) ≡ (Some [])
unfolding mean steps_shape
rollup_all_of_none = refl

rolled_over_nodes : columns_of (run 2 (Pipe.Then (Step.GroupBy (Keys.MoreKeys (Key.Recursive (hier (codes "Orgs") (codes "OrgTree")) ((codes "OrgID") ∷ []) OptPipe.NoPipe) Keys.NoKeys) (OptPipe.SomePipe (Pipe.Then (Step.Aggregate ((AggItem.Standard (Expr.Path' ((codes "Amount") ∷ [])) Method.Sum (codes "T")) ∷ [])) Pipe.End))) Pipe.End)) ≡ (Some ((col ((codes "T") ∷ []) (dec (pos 2500) 2) ∷ col ((codes "OrgID") ∷ []) (Value.Text (codes "Corp")) ∷ []) ∷ (col ((codes "T") ∷ []) (dec (pos 725) 2) ∷ col ((codes "OrgID") ∷ []) (Value.Text (codes "EMEA")) ∷ []) ∷ (col ((codes "T") ∷ []) (dec (pos 1775) 2) ∷ col ((codes "OrgID") ∷ []) (Value.Text (codes "US")) ∷ []) ∷ (col ((codes "T") ∷ []) (dec (pos 1000) 2) ∷ col ((codes "OrgID") ∷ []) (Value.Text (codes "West")) ∷ []) ∷ (col ((codes "T") ∷ []) (dec (pos 550) 2) ∷ col ((codes "OrgID") ∷ []) (Value.Text (codes "East")) ∷ []) ∷ []))
unfolding mean steps_shape
rolled_over_nodes = refl

rolled_then_filtered : columns_of (run 2 (Pipe.Then (Step.GroupBy (Keys.MoreKeys (Key.Recursive (hier (codes "Orgs") (codes "OrgTree")) ((codes "OrgID") ∷ []) OptPipe.NoPipe) Keys.NoKeys) (OptPipe.SomePipe (Pipe.Then (Step.Aggregate ((AggItem.Standard (Expr.Path' ((codes "Amount") ∷ [])) Method.Sum (codes "T")) ∷ [])) Pipe.End))) (Pipe.Then (Step.Filter (Expr.Binary BinOp.Eq (Expr.Path' ((codes "OrgID") ∷ [])) (Expr.Text (codes "US")))) Pipe.End))) ≡ (Some ((col ((codes "T") ∷ []) (dec (pos 1775) 2) ∷ col ((codes "OrgID") ∷ []) (Value.Text (codes "US")) ∷ []) ∷ []))
unfolding mean steps_shape
rolled_then_filtered = refl

rolled_over_shown : columns_of (run 2 (Pipe.Then (Step.GroupBy (Keys.MoreKeys (Key.Recursive (hier (codes "Orgs") (codes "OrgTree")) ((codes "OrgID") ∷ []) (OptPipe.SomePipe (Pipe.Then (Step.Filter (Expr.Binary BinOp.Eq (Expr.Path' ((codes "ID") ∷ [])) (Expr.Text (codes "US")))) Pipe.End))) Keys.NoKeys) (OptPipe.SomePipe (Pipe.Then (Step.Aggregate ((AggItem.Standard (Expr.Path' ((codes "Amount") ∷ [])) Method.Sum (codes "T")) ∷ [])) Pipe.End))) Pipe.End)) ≡ (Some ((col ((codes "T") ∷ []) (dec (pos 1775) 2) ∷ col ((codes "OrgID") ∷ []) (Value.Text (codes "US")) ∷ []) ∷ []))
unfolding mean steps_shape
rolled_over_shown = refl

rolled_over_lab : columns_of (run 2 (Pipe.Then (Step.GroupBy (Keys.MoreKeys (Key.Recursive (hier (codes "Orgs") (codes "OrgTree")) ((codes "OrgID") ∷ []) (OptPipe.SomePipe (Pipe.Then (Step.Filter (Expr.Binary BinOp.Eq (Expr.Path' ((codes "ID") ∷ [])) (Expr.Text (codes "Lab")))) Pipe.End))) Keys.NoKeys) (OptPipe.SomePipe (Pipe.Then (Step.Aggregate ((AggItem.Count (codes "N")) ∷ [])) Pipe.End))) Pipe.End)) ≡ (Some [])
unfolding mean steps_shape
rolled_over_lab = refl

postorder : prefixes_of (run 1 (Pipe.Then (Step.Traverse (traverse_step (hier (codes "Orgs") (codes "OrgTree")) ((codes "ID") ∷ []) true [])) Pipe.End)) ≡ (Some ((ent [] 1 1 ∷ []) ∷ (ent [] 1 3 ∷ []) ∷ (ent [] 1 4 ∷ []) ∷ (ent [] 1 2 ∷ []) ∷ (ent [] 1 0 ∷ []) ∷ (ent [] 1 5 ∷ []) ∷ []))
unfolding mean steps_shape
postorder = refl

preorder_descending : prefixes_of (run 1 (Pipe.Then (Step.Traverse (traverse_step (hier (codes "Orgs") (codes "OrgTree")) ((codes "ID") ∷ []) false ((item (Expr.Path' ((codes "ID") ∷ [])) true) ∷ []))) Pipe.End)) ≡ (Some ((ent [] 1 5 ∷ []) ∷ (ent [] 1 0 ∷ []) ∷ (ent [] 1 2 ∷ []) ∷ (ent [] 1 3 ∷ []) ∷ (ent [] 1 4 ∷ []) ∷ (ent [] 1 1 ∷ []) ∷ []))
unfolding mean steps_shape
preorder_descending = refl

ancestors_near : prefixes_of (run 2 (Pipe.Then (Step.Climb true (hier (codes "Orgs") (codes "OrgTree")) ((codes "OrgID") ∷ []) (Pipe.Then (Step.Filter (Expr.Binary BinOp.Eq (Expr.Path' ((codes "ID") ∷ [])) (Expr.Int (pos 1)))) Pipe.End) (Some 1) false) Pipe.End)) ≡ (Some ((ent [] 2 5 ∷ []) ∷ []))
unfolding mean steps_shape
ancestors_near = refl

ancestors_kept : columns_of (run 2 (Pipe.Then (Step.Climb true (hier (codes "Orgs") (codes "OrgTree")) ((codes "OrgID") ∷ []) (Pipe.Then (Step.Filter (Expr.Binary BinOp.Eq (Expr.Path' ((codes "ID") ∷ [])) (Expr.Int (pos 1)))) Pipe.End) None true) (Pipe.Then (Step.GroupBy (Keys.MoreKeys (Key.Plain ((codes "ID") ∷ [])) Keys.NoKeys) OptPipe.NoPipe) Pipe.End))) ≡ (Some ((col ((codes "ID") ∷ []) (Value.Int (pos 1)) ∷ []) ∷ (col ((codes "ID") ∷ []) (Value.Int (pos 4)) ∷ []) ∷ (col ((codes "ID") ∷ []) (Value.Int (pos 6)) ∷ []) ∷ []))
unfolding mean steps_shape
ancestors_kept = refl

descendants_once : columns_of (run 2 (Pipe.Then (Step.Climb false (hier (codes "Orgs") (codes "OrgTree")) ((codes "OrgID") ∷ []) (Pipe.Then (Step.Filter (Expr.Binary BinOp.Or (Expr.Binary BinOp.Eq (Expr.Path' ((codes "ID") ∷ [])) (Expr.Int (pos 6))) (Expr.Binary BinOp.Eq (Expr.Path' ((codes "ID") ∷ [])) (Expr.Int (pos 1))))) Pipe.End) None true) (Pipe.Then (Step.Aggregate ((AggItem.Count (codes "N")) ∷ [])) Pipe.End))) ≡ (Some ((col ((codes "N") ∷ []) (Value.Int (pos 4)) ∷ []) ∷ []))
unfolding mean steps_shape
descendants_once = refl

topcount : columns_of (run 2 (Pipe.Then (Step.TopBy (top_step false (Limit.Count 2) (Expr.Path' ((codes "Amount") ∷ [])))) (Pipe.Then (Step.GroupBy (Keys.MoreKeys (Key.Plain ((codes "ID") ∷ [])) Keys.NoKeys) OptPipe.NoPipe) Pipe.End))) ≡ (Some ((col ((codes "ID") ∷ []) (Value.Int (pos 1)) ∷ []) ∷ (col ((codes "ID") ∷ []) (Value.Int (pos 3)) ∷ []) ∷ []))
unfolding mean steps_shape
topcount = refl

toppercent : columns_of (run 2 (Pipe.Then (Step.TopBy (top_step false (Limit.Percent 50) (Expr.Path' ((codes "Amount") ∷ [])))) (Pipe.Then (Step.GroupBy (Keys.MoreKeys (Key.Plain ((codes "ID") ∷ [])) Keys.NoKeys) OptPipe.NoPipe) Pipe.End))) ≡ (Some ((col ((codes "ID") ∷ []) (Value.Int (pos 1)) ∷ []) ∷ (col ((codes "ID") ∷ []) (Value.Int (pos 3)) ∷ []) ∷ []))
unfolding mean steps_shape
toppercent = refl

bottomsum : columns_of (run 2 (Pipe.Then (Step.TopBy (top_step true (Limit.Sum (NumberLiteral.Int (pos 3))) (Expr.Path' ((codes "Amount") ∷ [])))) (Pipe.Then (Step.GroupBy (Keys.MoreKeys (Key.Plain ((codes "ID") ∷ [])) Keys.NoKeys) OptPipe.NoPipe) Pipe.End))) ≡ (Some ((col ((codes "ID") ∷ []) (Value.Int (pos 5)) ∷ []) ∷ (col ((codes "ID") ∷ []) (Value.Int (pos 6)) ∷ []) ∷ []))
unfolding mean steps_shape
bottomsum = refl

bottomcount : columns_of (run 2 (Pipe.Then (Step.TopBy (top_step true (Limit.Count 2) (Expr.Path' ((codes "Amount") ∷ [])))) (Pipe.Then (Step.GroupBy (Keys.MoreKeys (Key.Plain ((codes "ID") ∷ [])) Keys.NoKeys) OptPipe.NoPipe) Pipe.End))) ≡ (Some ((col ((codes "ID") ∷ []) (Value.Int (pos 5)) ∷ []) ∷ (col ((codes "ID") ∷ []) (Value.Int (pos 6)) ∷ []) ∷ []))
unfolding mean steps_shape
bottomcount = refl

topsum : columns_of (run 2 (Pipe.Then (Step.TopBy (top_step false (Limit.Sum (NumberLiteral.Int (pos 15))) (Expr.Path' ((codes "Amount") ∷ [])))) (Pipe.Then (Step.GroupBy (Keys.MoreKeys (Key.Plain ((codes "ID") ∷ [])) Keys.NoKeys) OptPipe.NoPipe) Pipe.End))) ≡ (Some ((col ((codes "ID") ∷ []) (Value.Int (pos 1)) ∷ []) ∷ (col ((codes "ID") ∷ []) (Value.Int (pos 3)) ∷ []) ∷ []))
unfolding mean steps_shape
topsum = refl

topsum_none : columns_of (run 2 (Pipe.Then (Step.TopBy (top_step false (Limit.Sum (NumberLiteral.Int (pos 100))) (Expr.Path' ((codes "Amount") ∷ [])))) (Pipe.Then (Step.GroupBy (Keys.MoreKeys (Key.Plain ((codes "ID") ∷ [])) Keys.NoKeys) OptPipe.NoPipe) Pipe.End))) ≡ (Some ((col ((codes "ID") ∷ []) (Value.Int (pos 1)) ∷ []) ∷ (col ((codes "ID") ∷ []) (Value.Int (pos 2)) ∷ []) ∷ (col ((codes "ID") ∷ []) (Value.Int (pos 3)) ∷ []) ∷ (col ((codes "ID") ∷ []) (Value.Int (pos 4)) ∷ []) ∷ (col ((codes "ID") ∷ []) (Value.Int (pos 5)) ∷ []) ∷ (col ((codes "ID") ∷ []) (Value.Int (pos 6)) ∷ []) ∷ []))
unfolding mean steps_shape
topsum_none = refl

bottompercent : columns_of (run 2 (Pipe.Then (Step.TopBy (top_step true (Limit.Percent 10) (Expr.Path' ((codes "Amount") ∷ [])))) (Pipe.Then (Step.GroupBy (Keys.MoreKeys (Key.Plain ((codes "ID") ∷ [])) Keys.NoKeys) OptPipe.NoPipe) Pipe.End))) ≡ (Some ((col ((codes "ID") ∷ []) (Value.Int (pos 5)) ∷ []) ∷ (col ((codes "ID") ∷ []) (Value.Int (pos 6)) ∷ []) ∷ []))
unfolding mean steps_shape
bottompercent = refl

toppercent_zero : columns_of (run 2 (Pipe.Then (Step.TopBy (top_step false (Limit.Percent 0) (Expr.Path' ((codes "Amount") ∷ [])))) (Pipe.Then (Step.GroupBy (Keys.MoreKeys (Key.Plain ((codes "ID") ∷ [])) Keys.NoKeys) OptPipe.NoPipe) Pipe.End))) ≡ (Some [])
unfolding mean steps_shape
toppercent_zero = refl

outerjoin : prefixes_of (run 0 (Pipe.Then (Step.Join true (codes "Sales") (codes "S") (OptPipe.SomePipe (Pipe.Then (Step.Filter (Expr.Binary BinOp.Gt (Expr.Path' ((codes "Amount") ∷ [])) (Expr.Int (pos 5)))) Pipe.End))) Pipe.End)) ≡ (Some ((ent [] 0 0 ∷ ent ((codes "S") ∷ []) 2 0 ∷ []) ∷ (ent [] 0 0 ∷ ent ((codes "S") ∷ []) 2 1 ∷ []) ∷ (ent [] 0 1 ∷ ent ((codes "S") ∷ []) 2 2 ∷ []) ∷ (ent [] 0 2 ∷ none ((codes "S") ∷ []) ∷ []) ∷ (ent [] 0 3 ∷ none ((codes "S") ∷ []) ∷ []) ∷ []))
unfolding mean steps_shape
outerjoin = refl

join : prefixes_of (run 0 (Pipe.Then (Step.Join false (codes "Sales") (codes "S") (OptPipe.SomePipe (Pipe.Then (Step.Filter (Expr.Binary BinOp.Gt (Expr.Path' ((codes "Amount") ∷ [])) (Expr.Int (pos 5)))) Pipe.End))) Pipe.End)) ≡ (Some ((ent [] 0 0 ∷ ent ((codes "S") ∷ []) 2 0 ∷ []) ∷ (ent [] 0 0 ∷ ent ((codes "S") ∷ []) 2 1 ∷ []) ∷ (ent [] 0 1 ∷ ent ((codes "S") ∷ []) 2 2 ∷ []) ∷ []))
unfolding mean steps_shape
join = refl

outerjoin_grouped : prefixes_of (run 0 (Pipe.Then (Step.Join true (codes "Sales") (codes "S") (OptPipe.SomePipe (Pipe.Then (Step.GroupBy (Keys.MoreKeys (Key.Plain ((codes "OrgID") ∷ [])) Keys.NoKeys) OptPipe.NoPipe) Pipe.End))) (Pipe.Then (Step.Filter (Expr.Binary BinOp.Eq (Expr.Path' ((codes "ID") ∷ [])) (Expr.Text (codes "C4")))) Pipe.End))) ≡ (Some ((ent [] 0 3 ∷ none ((codes "S") ∷ []) ∷ []) ∷ []))
unfolding mean steps_shape
outerjoin_grouped = refl

outerjoin_grouped_columns : columns_of (run 0 (Pipe.Then (Step.Join true (codes "Sales") (codes "S") (OptPipe.SomePipe (Pipe.Then (Step.GroupBy (Keys.MoreKeys (Key.Plain ((codes "OrgID") ∷ [])) Keys.NoKeys) OptPipe.NoPipe) Pipe.End))) Pipe.End)) ≡ (Some ((col ((codes "S") ∷ (codes "OrgID") ∷ []) (Value.Text (codes "West")) ∷ []) ∷ (col ((codes "S") ∷ (codes "OrgID") ∷ []) (Value.Text (codes "East")) ∷ []) ∷ (col ((codes "S") ∷ (codes "OrgID") ∷ []) (Value.Text (codes "US")) ∷ []) ∷ (col ((codes "S") ∷ (codes "OrgID") ∷ []) (Value.Text (codes "EMEA")) ∷ []) ∷ (col ((codes "S") ∷ (codes "OrgID") ∷ []) Value.Null ∷ []) ∷ (col ((codes "S") ∷ (codes "OrgID") ∷ []) (Value.Text (codes "West")) ∷ []) ∷ [] ∷ []))
unfolding mean steps_shape
outerjoin_grouped_columns = refl

past_range_dropped : columns_of (run 2 (Pipe.Then (Step.Compute ((named (Expr.Binary BinOp.Mul (Expr.Path' ((codes "Amount") ∷ [])) (Expr.Int (pos 100000000000000000))) (codes "X")) ∷ [])) (Pipe.Then (Step.Filter (Expr.Binary BinOp.Eq (Expr.Path' ((codes "ID") ∷ [])) (Expr.Int (pos 99)))) Pipe.End))) ≡ (Some [])
unfolding mean steps_shape
past_range_dropped = refl

past_range_filtered : columns_of (run 2 (Pipe.Then (Step.Compute ((named (Expr.Binary BinOp.Mul (Expr.Path' ((codes "Amount") ∷ [])) (Expr.Int (pos 100000000000000000))) (codes "X")) ∷ [])) (Pipe.Then (Step.Filter (Expr.Binary BinOp.Gt (Expr.Path' ((codes "X") ∷ [])) (Expr.Int (pos 0)))) Pipe.End))) ≡ None
unfolding mean steps_shape
past_range_filtered = refl

past_range_kept : columns_of (run 2 (Pipe.Then (Step.Compute ((named (Expr.Binary BinOp.Mul (Expr.Path' ((codes "Amount") ∷ [])) (Expr.Int (pos 100000000000000000))) (codes "X")) ∷ [])) (Pipe.Then (Step.Aggregate ((AggItem.Standard (Expr.Path' ((codes "ID") ∷ [])) Method.CountDistinct (codes "N")) ∷ [])) Pipe.End))) ≡ (Some ((col ((codes "N") ∷ []) (Value.Int (pos 6)) ∷ []) ∷ []))
unfolding mean steps_shape
past_range_kept = refl

concat_twice : columns_of (run 2 (Pipe.Then (Step.Concat (Pipes.MorePipes (Pipe.Then (Step.Filter (Expr.Binary BinOp.Eq (Expr.Path' ((codes "ID") ∷ [])) (Expr.Int (pos 1)))) Pipe.End) (Pipes.MorePipes (Pipe.Then (Step.Filter (Expr.Binary BinOp.Eq (Expr.Path' ((codes "ID") ∷ [])) (Expr.Int (pos 1)))) Pipe.End) Pipes.NoPipes))) (Pipe.Then (Step.GroupBy (Keys.MoreKeys (Key.Plain ((codes "ID") ∷ [])) Keys.NoKeys) (OptPipe.SomePipe (Pipe.Then (Step.Aggregate ((AggItem.Count (codes "N")) ∷ [])) Pipe.End))) Pipe.End))) ≡ (Some ((col ((codes "N") ∷ []) (Value.Int (pos 2)) ∷ col ((codes "ID") ∷ []) (Value.Int (pos 1)) ∷ []) ∷ []))
unfolding mean steps_shape
concat_twice = refl

concat_kinds : columns_of (run 2 (Pipe.Then (Step.Concat (Pipes.MorePipes (Pipe.Then (Step.Top 1) Pipe.End) (Pipes.MorePipes (Pipe.Then (Step.Aggregate ((AggItem.Standard (Expr.Path' ((codes "Amount") ∷ [])) Method.Sum (codes "T")) ∷ [])) Pipe.End) Pipes.NoPipes))) Pipe.End)) ≡ (Some ([] ∷ (col ((codes "T") ∷ []) (dec (pos 2600) 2) ∷ []) ∷ []))
unfolding mean steps_shape
concat_kinds = refl

custom : columns_of (run 2 (Pipe.Then (Step.Aggregate ((AggItem.Custom (codes "Best") (codes "Best")) ∷ [])) Pipe.End)) ≡ (Some ((col ((codes "Best") ∷ []) (dec (pos 1775) 2) ∷ []) ∷ []))
unfolding mean steps_shape
custom = refl

custom_of_none : columns_of (run 2 (Pipe.Then (Step.Filter (Expr.Binary BinOp.Eq (Expr.Path' ((codes "ID") ∷ [])) (Expr.Int (pos 99)))) (Pipe.Then (Step.Aggregate ((AggItem.Custom (codes "Best") (codes "B")) ∷ [])) Pipe.End))) ≡ (Some ((col ((codes "B") ∷ []) Value.Null ∷ []) ∷ []))
unfolding mean steps_shape
custom_of_none = refl

several_methods : columns_of (run 2 (Pipe.Then (Step.Aggregate ((AggItem.Standard (Expr.Path' ((codes "CustomerID") ∷ [])) Method.CountDistinct (codes "D")) ∷ (AggItem.Standard (Expr.Path' ((codes "Amount") ∷ [])) Method.Min (codes "L")) ∷ (AggItem.Standard (Expr.Path' ((codes "Amount") ∷ [])) Method.Max (codes "M")) ∷ [])) Pipe.End)) ≡ (Some ((col ((codes "D") ∷ []) (Value.Int (pos 3)) ∷ col ((codes "L") ∷ []) (dec (pos 100) 2) ∷ col ((codes "M") ∷ []) (dec (pos 1000) 2) ∷ []) ∷ []))
unfolding mean steps_shape
several_methods = refl

ordered : columns_of (run 2 (Pipe.Then (Step.OrderBy ((item (Expr.Path' ((codes "Amount") ∷ [])) true) ∷ (item (Expr.Path' ((codes "ID") ∷ [])) false) ∷ [])) (Pipe.Then (Step.Skip 1) (Pipe.Then (Step.Top 2) (Pipe.Then (Step.GroupBy (Keys.MoreKeys (Key.Plain ((codes "ID") ∷ [])) Keys.NoKeys) OptPipe.NoPipe) Pipe.End))))) ≡ (Some ((col ((codes "ID") ∷ []) (Value.Int (pos 3)) ∷ []) ∷ (col ((codes "ID") ∷ []) (Value.Int (pos 2)) ∷ []) ∷ []))
unfolding mean steps_shape
ordered = refl

years : columns_of (run 2 (Pipe.Then (Step.Filter (Expr.Binary BinOp.Eq (Expr.Call1 Fun1.Year (Expr.Path' ((codes "Customer") ∷ (codes "Since") ∷ []))) (Expr.Int (pos 2020)))) (Pipe.Then (Step.Aggregate ((AggItem.Count (codes "N")) ∷ [])) Pipe.End))) ≡ (Some ((col ((codes "N") ∷ []) (Value.Int (pos 2)) ∷ []) ∷ []))
unfolding mean steps_shape
years = refl

dashboard : columns_of (run 0 (Pipe.Then (Step.Join false (codes "Sales") (codes "S") OptPipe.NoPipe) (Pipe.Then (Step.GroupBy (Keys.MoreKeys (Key.Plain ((codes "Country") ∷ [])) Keys.NoKeys) (OptPipe.SomePipe (Pipe.Then (Step.Aggregate ((AggItem.Standard (Expr.Path' ((codes "S") ∷ (codes "Amount") ∷ [])) Method.Sum (codes "T")) ∷ [])) Pipe.End))) (Pipe.Then (Step.OrderBy ((item (Expr.Path' ((codes "T") ∷ [])) true) ∷ [])) (Pipe.Then (Step.Top 1) Pipe.End))))) ≡ (Some ((col ((codes "T") ∷ []) (dec (pos 1775) 2) ∷ col ((codes "Country") ∷ []) (Value.Text (codes "US")) ∷ []) ∷ []))
unfolding mean steps_shape
dashboard = refl

null_first : columns_of (run 2 (Pipe.Then (Step.OrderBy ((item (Expr.Path' ((codes "Amount") ∷ [])) false) ∷ [])) (Pipe.Then (Step.Top 1) (Pipe.Then (Step.Aggregate ((AggItem.Standard (Expr.Path' ((codes "ID") ∷ [])) Method.Max (codes "M")) ∷ [])) Pipe.End)))) ≡ (Some ((col ((codes "M") ∷ []) (Value.Int (pos 4)) ∷ []) ∷ []))
unfolding mean steps_shape
null_first = refl

skip_all : columns_of (run 2 (Pipe.Then (Step.Skip 6) (Pipe.Then (Step.Top 9223372036854775807) Pipe.End))) ≡ (Some [])
unfolding mean steps_shape
skip_all = refl

skipped_groups : columns_of (run 2 (Pipe.Then (Step.GroupBy (Keys.MoreKeys (Key.Plain ((codes "OrgID") ∷ [])) Keys.NoKeys) OptPipe.NoPipe) (Pipe.Then (Step.Skip 3) Pipe.End))) ≡ (Some ((col ((codes "OrgID") ∷ []) Value.Null ∷ []) ∷ (col ((codes "OrgID") ∷ []) (Value.Text (codes "US")) ∷ []) ∷ []))
unfolding mean steps_shape
skipped_groups = refl
