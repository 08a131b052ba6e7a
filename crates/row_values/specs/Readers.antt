-- What is read of rows.
use Rattle.std.specs.Prelude.{ℕ, ◌<◌, IsTrue, get_or, length}
use Rattle.edm_values.specs.declared.Value.{Value}
use Rattle.edm_data.specs.Worlds.{World}
use Rattle.apply_ast.specs.Views.{expr_of}
use Rattle.apply_meaning.specs.Instances.{Instance, lookup, no_instance, val}
use Rattle.apply_meaning.specs.RowViews.{is_of}
use Rattle.row_values.specs.declared.seen.Asked.{Asked}
use Rattle.row_values.specs.declared.seen.Asked.TheVariants as asked
use Rattle.row_values.specs.declared.seen.RowReader.{RowReader}

-- the value of an expression or of a path on an instance
abbrev pub asked_of : World → Asked → Instance → Value
asked_of w (asked.Expr e) i = val w i (expr_of e.now)
asked_of w (asked.Path p) i = lookup w i p.now

-- the value on row k
abbrev pub value_at : RowReader → ℕ → Value
value_at r k = asked_of r.store.now r.asked (get_or r.rows.now k no_instance)

-- there is a row k, which is of the world
pub record CanRead (r : RowReader) (k : ℕ) : Type 0 where
  pub there : k < length r.rows.now
  pub of : IsTrue (is_of r.store.now (get_or r.rows.now k no_instance))
