-- What stands in place of each path of an expression.
use Rattle.std.specs.Prelude.{Bool, true, nat_lt, [], ◌∷◌, drop, length}
use Rattle.edm_values.specs.Names.{Path}
use Rattle.rewrite_forms.specs.declared.path_copies.Change.{Change}
use Rattle.rewrite_forms.specs.declared.path_copies.Change.TheVariants as change

-- what stands in place of a path
abbrev pub changed : Change → Path → Path
changed change.WithoutFirst p = drop 1 p
changed (change.Alone n) p = n.now ∷ []

-- a name is left in place of a path
abbrev pub is_left : Change → Path → Bool
is_left change.WithoutFirst p = nat_lt 1 (length p)
is_left (change.Alone n) p = true
