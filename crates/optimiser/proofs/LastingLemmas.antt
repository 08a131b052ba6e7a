-- Whether no step but filters comes out of branches, step by step and branch by branch.
use Rattle.std.proofs.Common.{◌≡◌, sym, ◌∙◌, ap, Bool, true, false, not, ◌||◌, if◌then◌else◌}
use Rattle.edm_values.specs.Lists.{is_some_and}
use Rattle.apply_ast.specs.Trees.{Pipe, Pipes, Step}
use Rattle.walk_laws.specs.Apart.{is_aggregate, may_go, some_never}
use Rattle.walk_laws.specs.FiltersOut.{lasting_kind, lasts, some_lasting}

pub lasts-next : {b : Bool} (s : Step) → b ≡ may_go s → b ≡ true → (p : Pipe) → lasts (Pipe.Then s p) ≡ lasts p
lasts-next s e h p = ap (λ z. if z then lasts p else not (is_aggregate s)) (sym e ∙ h)

pub lasts-stop : {b : Bool} (s : Step) → b ≡ may_go s → b ≡ false → (p : Pipe) → lasts (Pipe.Then s p) ≡ not (is_aggregate s)
lasts-stop s e h p = ap (λ z. if z then lasts p else not (is_aggregate s)) (sym e ∙ h)

pub lasting-found : {b : Bool} (all : Pipes) (p : Pipe) → b ≡ is_some_and (λ x. some_never x all) (lasting_kind p) → b ≡ true → (ps : Pipes) → some_lasting all (Pipes.MorePipes p ps) ≡ true
lasting-found all p e h ps = ap (λ z. z || some_lasting all ps) (sym e ∙ h)

pub lasting-next : {b : Bool} (all : Pipes) (p : Pipe) → b ≡ is_some_and (λ x. some_never x all) (lasting_kind p) → b ≡ false → (ps : Pipes) → some_lasting all (Pipes.MorePipes p ps) ≡ some_lasting all ps
lasting-next all p e h ps = ap (λ z. z || some_lasting all ps) (sym e ∙ h)
