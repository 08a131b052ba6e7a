use Rattle.std.proofs.Common.{◌≡◌, Some, map, take}
use Rattle.edm_values.specs.Lists.{all_some}
use Rattle.apply_ast.specs.Views.{named_of}
use Rattle.context_typing.specs.Steps.{named_column}
use Rattle.context_typing.proofs.items.named_columns.Given as goal

abbrev pub invariant-loop-item : goal.invariant-loop-item
invariant-loop-item l = all_some (map (named_column l.m l.shape) (map named_of (take l.item-index l.items))) ≡ Some l.columns
