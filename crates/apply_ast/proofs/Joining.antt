-- A text of two parts.
use Rattle.std.proofs.Common.{◌≡◌, ℕ, List, ◌++◌}
use Rattle.apply_ast.specs.Grammar.{Language, Joined}

pub parts : {A B : Language} (a b : List ℕ) {t : List ℕ} → A a → B b → t ≡ a ++ b → Joined A B t
parts a b h k e = record { left = a; right = b; first = h; second = k; cut = e }
