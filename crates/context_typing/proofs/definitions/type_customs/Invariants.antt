use Rattle.std.proofs.Common.{◌≡◌, Some, All, map, take, length}
use Rattle.context_typing.specs.Readings.{IsTypedCustom, read_kind}
use Rattle.context_typing.proofs.definitions.type_customs.Given as goal

abbrev pub invariant-loop-read : goal.invariant-loop-read
invariant-loop-read l = record {
  count : length l.all.items ≡ length l.yielded;
  reads : map (λ x. x.read) l.all.items ≡ take (length l.yielded) l.fn.list.items;
  typed : All (IsTypedCustom l.m) l.all.items;
  kinds : All (λ x. read_kind l.m x.read ≡ Some x.kind) l.all.items;
}
