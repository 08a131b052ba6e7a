-- Branches and keys in the program, from one to the next.
use Rattle.std.proofs.Common.{◌≡◌, ℕ, suc, ◌+◌, ◌<◌, sym, ◌∙◌, ap, List, length, drop, map, get_or, drop-cons, add-one}
use Rattle.apply_ast.specs.Trees.{Keys, Pipes}
use Rattle.apply_ast.specs.Views.{key_of, keys_from, pipe_of, pipes_from}
use Rattle.apply_ast.specs.declared.steps.KeyItem as of_key
use Rattle.apply_ast.specs.declared.steps.Pipe as of_pipe

-- the next key of a grouping in the program
pub next-key_item : (ks : List of_key.KeyItem) (i : ℕ) (d : of_key.KeyItem) → i < length ks → d ≡ get_or ks i d → keys_from (map key_of (drop i ks)) ≡ Keys.MoreKeys (key_of d) (keys_from (map key_of (drop (i + 1) ks)))
next-key_item ks i d h e =
    ap (λ t. keys_from (map key_of t)) (drop-cons ks i d h)
    ∙ ap (λ x. Keys.MoreKeys (key_of x) (keys_from (map key_of (drop (suc i) ks)))) (sym e)
    ∙ ap (λ n. Keys.MoreKeys (key_of d) (keys_from (map key_of (drop n ks)))) (sym (add-one i))

-- the next branch of a concatenation
pub next-branch : (ps : List of_pipe.Pipe) (i : ℕ) (d : of_pipe.Pipe) → i < length ps → d ≡ get_or ps i d → pipes_from (map pipe_of (drop i ps)) ≡ Pipes.MorePipes (pipe_of d) (pipes_from (map pipe_of (drop (i + 1) ps)))
next-branch ps i d h e =
    ap (λ t. pipes_from (map pipe_of t)) (drop-cons ps i d h)
    ∙ ap (λ x. Pipes.MorePipes (pipe_of x) (pipes_from (map pipe_of (drop (suc i) ps)))) (sym e)
    ∙ ap (λ n. Pipes.MorePipes (pipe_of d) (pipes_from (map pipe_of (drop n ps)))) (sym (add-one i))
