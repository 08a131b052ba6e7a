-- Keys that are seen, in the order of values.
use Rattle.std.specs.Prelude.{Bool}
use Rattle.std.specs.declared.cmp.Ordering.{Ordering}
use Rattle.std.specs.Cmp.{IsTotalOrder}
use Rattle.std.specs.Ordering.{is_eq}
use Rattle.edm_values.specs.Values.{seen_value, value_cmp}
use Rattle.edm_values.specs.OrderLaws.{value_cmp_total}
use Rattle.edm_data.specs.declared.keys.Key.{Key}

-- the order of keys
abbrev pub key_cmp : Key → Key → Ordering
key_cmp a b = value_cmp (seen_value a.value) (seen_value b.value)

-- two keys are one
abbrev pub same_key : Key → Key → Bool
same_key a b = is_eq (key_cmp a b)

-- it is a total order
pub key_cmp_total : IsTotalOrder key_cmp
key_cmp_total = record {
  antisymm = λ a b. value_cmp_total.antisymm (seen_value a.value) (seen_value b.value);
  trans = λ a b c. value_cmp_total.trans (seen_value a.value) (seen_value b.value) (seen_value c.value);
  congr = λ a b c. value_cmp_total.congr (seen_value a.value) (seen_value b.value) (seen_value c.value);
}
