use Rattle.std.proofs.Common.{◌≡◌, take}
use Rattle.std.specs.Prelude.{nat_eq}
use Rattle.indexmap.specs.IndexSet.{insert_all}
use Rattle.numbered_groups.specs.Found.{AreTold}
use Rattle.numbered_groups.proofs.indexes.CodeIndex.insert_all.Given as goal

-- the codes so far have their numbers
abbrev pub invariant-loop-code : goal.invariant-loop-code
invariant-loop-code l = record {
  heads : l.self.heads ≡ insert_all nat_eq l.fn.self.heads (take l.code-index l.codes);
  told : AreTold l.self.heads l.numbers.items (take l.code-index l.codes);
}
