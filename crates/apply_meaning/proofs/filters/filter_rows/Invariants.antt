use Rattle.std.proofs.Common.{◌≡◌, ◌++◌, true, IsTrue}
use Rattle.std.specs.Prelude.{filter}
use Rattle.std.specs.List.{list_any}
use Rattle.std.specs.Vec.Iter.{into_iter_items}
use Rattle.edm_values.specs.Values.{is_value, is_beyond}
use Rattle.apply_ast.specs.Views.{expr_of}
use Rattle.apply_meaning.specs.Instances.{val}
use Rattle.apply_meaning.specs.Meaning.{values}
use Rattle.apply_meaning.specs.Running.{all_of}
use Rattle.apply_meaning.proofs.filters.filter_rows.Given as goal

-- what is true of the rows that are left, and of all rows, is told by what was kept
abbrev pub invariant-loop-row : goal.invariant-loop-row
invariant-loop-row l =
    (filter (λ i. is_value true (val l.store i (expr_of l.e))) l.fn.rows.items ≡ l.kept.items ++ filter (λ i. is_value true (val l.store i (expr_of l.e))) (into_iter_items l.row-iterator))
    × (list_any is_beyond (values l.store (expr_of l.e) l.fn.rows.items) ≡ list_any is_beyond (values l.store (expr_of l.e) (into_iter_items l.row-iterator)))
    × IsTrue (all_of l.store (into_iter_items l.row-iterator))
