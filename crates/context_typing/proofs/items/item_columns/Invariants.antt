use Rattle.std.proofs.Common.{◌≡◌, Some, map, take}
use Rattle.edm_values.specs.Lists.{all_some}
use Rattle.apply_ast.specs.Views.{agg_of}
use Rattle.context_typing.specs.Readings.{readings}
use Rattle.context_typing.specs.Typing.{item_column}
use Rattle.context_typing.proofs.items.item_columns.Given as goal

abbrev pub invariant-loop-item : goal.invariant-loop-item
invariant-loop-item l = all_some (map (item_column l.m (readings l.c) l.shape) (map agg_of (take l.item-index l.items))) ≡ Some l.columns
