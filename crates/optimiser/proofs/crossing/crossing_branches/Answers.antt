use Rattle.std.proofs.Common.{◌≡◌, sym, ◌∙◌, ap, subst, true, map, take}
use Rattle.std.specs.List.{list_all}
use Rattle.std.specs.Prelude.{IfSome, IsTrue}
use Rattle.std.proofs.lemmas.Bool.{and_from}
use Rattle.apply_ast.specs.Trees.{Expr, Step}
use Rattle.apply_ast.specs.Views.{pipe_of, pipes_in, pipes_of, step_of}
use Rattle.apply_ast.proofs.ViewEquations.{pipes_of-is}
use Rattle.context_typing.specs.Readings.{readings}
use Rattle.rewrite_laws.specs.Rewrites.{branches}
use Rattle.walk_laws.specs.Crossing.{all_cross, branch_crossed}
use Rattle.walk_laws.specs.FiltersOut.{gives_alone}
use Rattle.optimiser.specs.CrossingForms.{crosses_by, goes}
use Rattle.optimiser.proofs.CrossingLemmas.{all-crossing}
use Rattle.optimiser.proofs.KnownLemmas.{branches-from}
use Rattle.optimiser.proofs.crossing.crossing_branches.Goals as goal

pub returns-in-Some-clause-value : goal.returns-in-Some-clause-value
returns-in-Some-clause-value c some =
    let m = c.args.m.now in
    let cs = readings c.args.c.now in
    let S = c.args.shape.now in
    let ps = pipes_of c.args.branches.now in
    let fs = map step_of (take c.count_crossing.result c.args.behind.now) in
    let inside : branches ps ≡ map pipe_of (pipes_in c.args.branches.now) = ap branches (pipes_of-is c.args.branches.now) ∙ branches-from m cs (map pipe_of (pipes_in c.args.branches.now)) in
    let crossed : (e : Expr) → list_all (goes m e) c.in-Some.ways.items ≡ true → list_all (λ p. branch_crossed m cs S p e) (branches ps) ≡ true = λ e h. ap (list_all (λ p. branch_crossed m cs S p e)) inside ∙ subst (λ o. IfSome o (λ v. IsTrue (list_all (goes m e) v.items) → IsTrue (list_all (λ p. branch_crossed m cs S p e) (map pipe_of (pipes_in c.args.branches.now))))) c.in-Some.is (c.in_ok-ways.ensures.value e) h in
    ap (λ s. all_cross m cs S s fs) c.requires.concat
    ∙ and_from _ _ (sym (ap (λ s. gives_alone true s) c.requires.concat) ∙ c.requires.gives) (all-crossing m cs S ps c.in-Some.ways.items fs crossed (sym (ap (λ ws. list_all (crosses_by m S ws) fs) c.as_slice.ensures.value) ∙ c.count_crossing.ensures.value))
