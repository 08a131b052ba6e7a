-- Whether concatenations give filters alone, step by step, branch by branch and key by key.
use Rattle.std.proofs.Common.{◌≡◌, sym, ◌∙◌, ap, Bool, true, ◌&&◌, ◌||◌}
use Rattle.apply_ast.specs.Trees.{Key, Keys, Pipe, Pipes, Step}
use Rattle.walk_laws.specs.Apart.{step_apart}
use Rattle.walk_laws.specs.FiltersOut.{branches_give, gives_alone, gives_anywhere, key_gives, keys_give, may_give, stays_behind}

-- whether filters stay where the steps begin does not matter
stays-either : (a b : Bool) (p : Pipe) → may_give true a p ≡ may_give true b p
stays-either a b Pipe.End = λ i. true
stays-either a b (Pipe.Then s p) = ap (λ z. (step_apart s || gives_alone true s) && z) (stays-either (stays_behind a s) (stays_behind b s) p)

pub anywhere-next : {b : Bool} (s : Step) → b ≡ (step_apart s || gives_alone true s) → (p : Pipe) → {v : Bool} → b ≡ v → gives_anywhere (Pipe.Then s p) ≡ (v && gives_anywhere p)
anywhere-next s e p h = (λ i. (sym e ∙ h) i && stays-either (stays_behind true s) true p i)

pub branch-next : {b : Bool} (p : Pipe) → b ≡ gives_anywhere p → (ps : Pipes) → {v : Bool} → b ≡ v → branches_give true (Pipes.MorePipes p ps) ≡ (v && branches_give true ps)
branch-next p e ps h = λ i. (sym e ∙ h) i && branches_give true ps

pub key-next : {b : Bool} (k : Key) → b ≡ key_gives k → (ks : Keys) → {v : Bool} → b ≡ v → keys_give (Keys.MoreKeys k ks) ≡ (v && keys_give ks)
key-next k e ks h = λ i. (sym e ∙ h) i && keys_give ks
