-- Worked look-ups and expressions on an instance of the sample world.
use Rattle.std.specs.Prelude.{◌≡◌, refl, ℕ, pos, true, false, [], ◌∷◌, Some, None, codes}
use Rattle.edm_values.specs.declared.Value.{Value}
use Rattle.edm_values.specs.Names.{Path}
use Rattle.edm_values.specs.Values.{dec}
use Rattle.edm_data.specs.Worlds.{entity_at}
use Rattle.edm_data.proofs.DataRows.{sample_world}
use Rattle.apply_ast.specs.Trees.{Expr}
use Rattle.apply_ast.specs.declared.expressions.BinOp.TheVariants as BinOp
use Rattle.apply_ast.specs.declared.expressions.Fun1.TheVariants as Fun1
use Rattle.apply_meaning.specs.Instances.{Instance, lookup, val, extended}

-- a sale beside another one and the last customer, beside nothing under two more names, with two columns
abbrev pub sale : ℕ → Instance
sale k = record {
  prefixes =
      ([], Some (entity_at 2 k)) ∷ (codes "S" ∷ [], Some (entity_at 2 1)) ∷ (codes "S" ∷ codes "T" ∷ [], Some (entity_at 0 3))
      ∷ (codes "Org" ∷ [], None) ∷ (codes "N" ∷ [], None) ∷ [];
  columns = (codes "P" ∷ [], Value.Int (pos 7)) ∷ (codes "Customer" ∷ codes "Country" ∷ [], Value.Text (codes "XX")) ∷ [];
}

abbrev pub found : ℕ → Path → Value
found k p = lookup sample_world (sale k) p

own_property : found 0 (codes "Amount" ∷ []) ≡ dec (pos 1000) 2
own_property = refl

one_reference : found 0 (codes "Customer" ∷ codes "Name" ∷ []) ≡ Value.Text (codes "Joe")
one_reference = refl

two_references : found 0 (codes "S" ∷ codes "Org" ∷ codes "Superordinate" ∷ codes "ID" ∷ []) ≡ Value.Text (codes "US")
two_references = refl

-- a column comes before what its path leads to
column_first : found 0 (codes "Customer" ∷ codes "Country" ∷ []) ≡ Value.Text (codes "XX")
column_first = refl

-- the longest prefix decides
longer_prefix : found 0 (codes "S" ∷ codes "T" ∷ codes "ID" ∷ []) ≡ Value.Text (codes "C4")
longer_prefix = refl

shorter_prefix : found 0 (codes "S" ∷ codes "Customer" ∷ codes "ID" ∷ []) ≡ Value.Text (codes "C1")
shorter_prefix = refl

-- also where it has no entity, though the sale at the empty prefix has an organisation
prefix_of_nothing : found 0 (codes "Org" ∷ codes "ID" ∷ []) ≡ Value.Null
prefix_of_nothing = refl

whole_prefix : found 0 (codes "S" ∷ codes "T" ∷ []) ≡ Value.Null
whole_prefix = refl

-- the root of organisations has none above it
null_reference : found 0 (codes "S" ∷ codes "Org" ∷ codes "Superordinate" ∷ codes "Superordinate" ∷ codes "Superordinate" ∷ codes "ID" ∷ []) ≡ Value.Null
null_reference = refl

no_property : found 0 (codes "Customer" ∷ codes "Nope" ∷ []) ≡ Value.Null
no_property = refl

behind_property : found 0 (codes "ID" ∷ codes "ID" ∷ []) ≡ Value.Null
behind_property = refl

collection : found 0 (codes "Customer" ∷ codes "Sales" ∷ codes "ID" ∷ []) ≡ Value.Null
collection = refl

new_column : lookup sample_world (extended (sale 0) ((codes "Amount" ∷ [], Value.Null) ∷ [])) (codes "Amount" ∷ []) ≡ Value.Null
new_column = refl

-- the amount of the fourth sale is null
null_equals_null : val sample_world (sale 3) (Expr.Binary BinOp.Eq (Expr.Path' (codes "Amount" ∷ [])) Expr.Null) ≡ Value.Bool true
null_equals_null = refl

null_is_not_more : val sample_world (sale 3) (Expr.Binary BinOp.Ge (Expr.Path' (codes "Amount" ∷ [])) Expr.Null) ≡ Value.Bool false
null_is_not_more = refl

sum_of_scales : val sample_world (sale 0) (Expr.Binary BinOp.Mul (Expr.Path' (codes "Amount" ∷ [])) (Expr.Dec (pos 5) 1)) ≡ dec (pos 5000) 3
sum_of_scales = refl

-- `and` beside a number past its range is past its range, also where the other operand is false
past_range_of_both : val sample_world (sale 0) (Expr.Binary BinOp.And (Expr.Bool' false) (Expr.Binary BinOp.Gt (Expr.Binary BinOp.Add (Expr.Int (pos 9223372036854775807)) (Expr.Int (pos 1))) (Expr.Int (pos 0)))) ≡ Value.Beyond
past_range_of_both = refl

year_of_null : val sample_world (sale 3) (Expr.Call1 Fun1.Year (Expr.Path' (codes "Customer" ∷ codes "Since" ∷ []))) ≡ Value.Null
year_of_null = refl
