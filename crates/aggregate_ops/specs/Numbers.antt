-- The numbers of key lists and of values: their hashes by SipHash-1-3, and what these give the hash of a table.
use Rattle.std.specs.Prelude.{◌≡◌, ℕ, List, fold, flat_map, IsTrue}
use Rattle.std.proofs.Common.{ap}
use Rattle.std.specs.Cmp.{IsEquivalence, eq_by_cmp_equiv}
use Rattle.std.specs.Cmp.Lexicographic.{lists_equiv}
use Rattle.std.specs.Hash as fed
use Rattle.std.specs.Hash.DefaultHasher as sip
use Rattle.edm_values.specs.declared.Value.{Value}
use Rattle.edm_values.specs.Keys.{hash_writes}
use Rattle.edm_values.specs.OrderLaws.{same_value_is, value_cmp_total}
use Rattle.edm_values.specs.Values.{same_value}
use Rattle.apply_meaning.specs.Meaning.{same_keys}
use Rattle.apply_meaning.proofs.InstanceOrders.{same_keys_tests}

-- the number of a value
unfoldable pub value_number : Value → ℕ
value_number v = sip.finish (fold sip.write sip.initial (hash_writes v))

-- the number of a key list
unfoldable pub key_number : List Value → ℕ
key_number k = sip.finish (fold sip.write sip.initial (flat_map hash_writes k))

-- what a value gives the hash of a table
abbrev pub value_writes : Value → List (List ℕ)
value_writes v = fed.u64 (value_number v)

-- what a key list gives the hash of a table
abbrev pub key_writes : List Value → List (List ℕ)
key_writes k = fed.u64 (key_number k)

-- sameness of values, and of key lists, is an equivalence
pub same_value_equiv : IsEquivalence same_value
same_value_equiv = eq_by_cmp_equiv value_cmp_total

pub same_keys_equiv : IsEquivalence same_keys
same_keys_equiv = lists_equiv same_value_equiv

-- the same value gives a hash the same
pub value_writes_alike : (x y : Value) → IsTrue (same_value x y) → value_writes x ≡ value_writes y
value_writes_alike x y h = ap value_writes (same_value_is x y h)

-- the same number
pub key_number_alike : (x y : List Value) → IsTrue (same_keys x y) → key_number x ≡ key_number y
key_number_alike x y h = ap key_number (same_keys_tests.same x y h)

-- the same key list gives a hash the same
pub key_writes_alike : (x y : List Value) → IsTrue (same_keys x y) → key_writes x ≡ key_writes y
key_writes_alike x y h = ap fed.u64 (key_number_alike x y h)
