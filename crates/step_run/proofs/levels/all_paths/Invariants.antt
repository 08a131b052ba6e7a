use Rattle.std.proofs.Common.{◌≡◌, ◌++◌, take}
use Rattle.apply_ast.specs.Views.{keys_of}
use Rattle.context_typing.specs.Typing.{plain_paths}
use Rattle.step_run.proofs.levels.all_paths.Given as goal

-- the plain paths, and the others so far
abbrev pub invariant-loop-path : goal.invariant-loop-path
invariant-loop-path l = l.paths.items ≡ plain_paths (keys_of l.keys) ++ take l.path-index l.others
