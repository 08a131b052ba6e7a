use Rattle.context_typing.specs.Paths.{same_path}
use Rattle.rewrite_forms.proofs.SameLists.{SameFrom}
use Rattle.rewrite_forms.proofs.same_items.same_paths.Given as goal

-- the paths so far are equal
abbrev pub invariant-loop-i : goal.invariant-loop-i
invariant-loop-i l = SameFrom same_path l.a l.b l.i
