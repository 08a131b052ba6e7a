-- How the bytes of a source were read.
use Rattle.std.specs.Prelude.{ℕ, List}
use Rattle.std.specs.declared.option.Option.{Option}
use Rattle.std.specs.Io.KnownBytes.{Consumes}

-- From one state of a source to another these bytes were taken, the last of them by one read: the source stood in a state between. What is left in a state, and from which states to which one read leads, are parameters.
pub record EndsInOneRead {A : Type 0} (left : A → Option (List ℕ)) (reads_once : A → A → Type 0) (before after : A) (earlier last : List ℕ) : Type 0 where
  pub between : A
  pub taken : Consumes (left before) (left between) earlier
  pub given : Consumes (left between) (left after) last
  pub once : reads_once between after
