use Rattle.std.proofs.Common.{◌≡◌, Some, false, map, take}
use Rattle.edm_values.specs.Lists.{all_some}
use Rattle.apply_ast.specs.Views.{key_of, keys_from}
use Rattle.context_typing.specs.Grouping.{typed_key}
use Rattle.context_typing.specs.Typing.{plain_paths}
use Rattle.context_typing.proofs.grouping.plain_columns.Given as goal

abbrev pub invariant-loop-key : goal.invariant-loop-key
invariant-loop-key l = all_some (map (typed_key l.m l.shape false) (plain_paths (keys_from (map key_of (take l.key-index l.keys))))) ≡ Some l.columns.items
