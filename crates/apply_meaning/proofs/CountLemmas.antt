-- How many rows a plain pipeline makes, from one transformation to the next.
use Rattle.std.proofs.Common.{◌≡◌, ◌∙◌, ap, ◌+◌, ◌≤◌, List, Some, None, Ok, Err, arith}
use Rattle.std.specs.Prelude.{OnOk, unwrap_or}
use Rattle.std.specs.declared.result.Result as result
use Rattle.edm_data.specs.Worlds.{World}
use Rattle.apply_ast.specs.Trees.{Pipe, Step}
use Rattle.context_typing.specs.Shapes.{Shape}
use Rattle.context_typing.specs.Typing.{Customs, after}
use Rattle.apply_meaning.proofs.RunLemmas.{Turn}
use Rattle.apply_meaning.specs.Counts.{pipe_made, rows_made}
use Rattle.apply_meaning.specs.Instances.{Instance}
use Rattle.apply_meaning.specs.Meaning.{step_mean}

-- a pipeline makes what its first transformation makes and what the rest makes
pub turn-made : (w : World) (c : Customs) (S S' : Shape) (P : Pipe) (s : Step) (p : Pipe) (l r : List Instance) → P ≡ Pipe.Then s p → (t : Turn w c S S' P s p l) → step_mean w c S s l ≡ Some r
    → pipe_made w c S P l ≡ rows_made s l + pipe_made w c t.between p r
turn-made w c S S' P s p l r e t m =
    ap (λ P. pipe_made w c S P l) e
    ∙ ap (λ o. rows_made s l + elim o [ None ↦ 0 | Some r ↦ pipe_made w c (after w.model c S s) p r ]) m
    ∙ ap (λ o. rows_made s l + pipe_made w c (unwrap_or o S) p r) t.first.typed

-- and no fewer than its first transformation
pub made-least : (w : World) (c : Customs) (S : Shape) (P : Pipe) (s : Step) (p : Pipe) (l : List Instance) → P ≡ Pipe.Then s p → rows_made s l ≤ pipe_made w c S P l
made-least w c S P s p l e =
    let whole : pipe_made w c S P l ≡ rows_made s l + elim (step_mean w c S s l) [ None ↦ 0 | Some r ↦ pipe_made w c (after w.model c S s) p r ] = ap (λ P. pipe_made w c S P l) e in
    omega (arith, whole)

-- what holds whatever a call returned holds where it returned a value
pub always : {T E P : Type 0} (r : result.Result T E) → P → OnOk r P
always (Ok x) p = p
always (Err e) p = tt
