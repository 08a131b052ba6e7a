-- Aggregates of lists of values (Data Aggregation 4.0, section 3.2.1).
use Rattle.std.specs.Prelude.{ℤ, pos, not, List, length, filter, if◌then◌else◌}
use Rattle.std.specs.List.{list_any, list_all}
use Rattle.edm_values.specs.declared.EdmType.{EdmType}
use Rattle.edm_values.specs.declared.Value.{Value}
use Rattle.edm_values.specs.declared.Method.{Method}
use Rattle.edm_values.specs.Lists.{is_nonempty, sorted, distinct, first_or}
use Rattle.edm_values.specs.Values.{is_beyond, is_null, is_integer, same_value, total, value_before, integer, dec}

-- the number of a numeric type with this mantissa, or `Beyond` where it is past the type's range
abbrev pub number_in : EdmType → ℤ → Value
number_in (EdmType.Dec scale precision) m = dec m scale
number_in _ m = integer m

-- the exact sum of numbers of one type, or `Beyond` where it is past the type's range
abbrev pub exact_sum : List Value → Value
exact_sum vs = let n = total vs in if list_all is_integer vs then integer n.0 else dec n.0 n.1

-- the aggregate of values that are neither null nor Beyond; only the whole sum is tested against the range
abbrev pub aggregate_of : Method → List Value → Value
aggregate_of Method.Sum vs = if is_nonempty vs then exact_sum vs else Value.Null
aggregate_of Method.Min vs = first_or Value.Null (sorted value_before vs)
aggregate_of Method.Max vs = first_or Value.Null (sorted (λ a b. value_before b a) vs)
aggregate_of Method.CountDistinct vs = Value.Int (pos (length (distinct same_value vs)))

-- the aggregate of a list of values, in which nulls are skipped (Data Aggregation 4.0, section 3.2.1)
abbrev pub aggregate : Method → List Value → Value
aggregate m vs = if list_any is_beyond vs then Value.Beyond else aggregate_of m (filter (λ v. not (is_null v)) vs)
