-- Pipelines that are told the same are the same.
use Rattle.std.proofs.Common.{◌≡◌, refl, true}
use Rattle.std.proofs.lemmas.Bool.{and_parts}
use Rattle.apply_ast.specs.Trees.{Pipe}
use Rattle.rewrite_laws.specs.TreeEquality.{pipe_same, step_same}
use Rattle.rewrite_laws.proofs.SameTrees.{same-steps}

pub same_pipes : (p q : Pipe) → pipe_same p q ≡ true → p ≡ q
same_pipes Pipe.End Pipe.End e = refl
same_pipes (Pipe.Then s p) (Pipe.Then t q) e = let x = and_parts (step_same s t) _ e in λ i. Pipe.Then (same-steps s t x.0 i) (same_pipes p q x.1 i)
same_pipes _ _ e = cc
