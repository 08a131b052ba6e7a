-- What the literals of selections state.
use Rattle.edm_values.specs.Values.{Number}
use Rattle.apply_ast.specs.Trees.{NumberLiteral}

-- the number that a literal states
abbrev pub literal_number : NumberLiteral → Number
literal_number (NumberLiteral.Int n) = (n, 0)
literal_number (NumberLiteral.Dec m s) = (m, s)
