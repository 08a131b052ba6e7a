-- The first cycle among the hierarchies that a pipeline names, from one transformation, key or branch to the next.
use Rattle.std.proofs.Common.{◌≡◌, ℕ, suc, ◌+◌, ◌<◌, sym, ◌∙◌, ap, List, ◌++◌, length, drop, map, get_or, drop-cons, add-one, Some, None}
use Rattle.edm_values.specs.Lists.{first_some}
use Rattle.edm_values.proofs.SearchFacts.{find_map-append}
use Rattle.edm_data.specs.Worlds.{World, Entity}
use Rattle.apply_ast.specs.Trees.{HierName, Keys, Pipe, Pipes, pipe}
use Rattle.apply_ast.specs.Views.{key_of, keys_from, pipe_of, pipes_from, step_of}
use Rattle.apply_ast.specs.declared.steps.KeyItem as of_key
use Rattle.apply_ast.specs.declared.steps.Pipe as of_pipe
use Rattle.apply_ast.specs.declared.steps.Step as of_step
use Rattle.hier_states.specs.States.{cycle_at, first_cycle}

-- ---- joined lists

-- where the former part has a cycle, it is the first
pub cycle-here : (w : World) (hs gs : List HierName) (e : Entity) → Some e ≡ first_cycle w hs → Some e ≡ first_cycle w (hs ++ gs)
cycle-here w hs gs e is = sym (find_map-append (cycle_at w) hs gs ∙ ap (λ o. first_some o (first_cycle w gs)) (sym is))

-- where it has none, the first is that of the latter part
pub cycle-later : (w : World) (hs gs : List HierName) → None ≡ first_cycle w hs → first_cycle w (hs ++ gs) ≡ first_cycle w gs
cycle-later w hs gs none = find_map-append (cycle_at w) hs gs ∙ ap (λ o. first_some o (first_cycle w gs)) (sym none)

-- ---- the next transformation, key and branch of the program

pub next-step : (ss : List of_step.Step) (i : ℕ) (d : of_step.Step) → i < length ss → d ≡ get_or ss i d → pipe (map step_of (drop i ss)) ≡ Pipe.Then (step_of d) (pipe (map step_of (drop (i + 1) ss)))
next-step ss i d h e =
    ap (λ t. pipe (map step_of t)) (drop-cons ss i d h)
    ∙ ap (λ x. Pipe.Then (step_of x) (pipe (map step_of (drop (suc i) ss)))) (sym e)
    ∙ ap (λ n. Pipe.Then (step_of d) (pipe (map step_of (drop n ss)))) (sym (add-one i))

pub next-key : (ks : List of_key.KeyItem) (i : ℕ) (d : of_key.KeyItem) → i < length ks → d ≡ get_or ks i d → keys_from (map key_of (drop i ks)) ≡ Keys.MoreKeys (key_of d) (keys_from (map key_of (drop (i + 1) ks)))
next-key ks i d h e =
    ap (λ t. keys_from (map key_of t)) (drop-cons ks i d h)
    ∙ ap (λ x. Keys.MoreKeys (key_of x) (keys_from (map key_of (drop (suc i) ks)))) (sym e)
    ∙ ap (λ n. Keys.MoreKeys (key_of d) (keys_from (map key_of (drop n ks)))) (sym (add-one i))

pub next-branch : (ps : List of_pipe.Pipe) (i : ℕ) (d : of_pipe.Pipe) → i < length ps → d ≡ get_or ps i d → pipes_from (map pipe_of (drop i ps)) ≡ Pipes.MorePipes (pipe_of d) (pipes_from (map pipe_of (drop (i + 1) ps)))
next-branch ps i d h e =
    ap (λ t. pipes_from (map pipe_of t)) (drop-cons ps i d h)
    ∙ ap (λ x. Pipes.MorePipes (pipe_of x) (pipes_from (map pipe_of (drop (suc i) ps)))) (sym e)
    ∙ ap (λ n. Pipes.MorePipes (pipe_of d) (pipes_from (map pipe_of (drop n ps)))) (sym (add-one i))
