use Rattle.std.proofs.Common.{◌≡◌, sym, ◌∙◌, ap, ◌+◌, ◌∷◌, ◌++◌, drop, map, take}
use Rattle.apply_ast.specs.Views.{step_of}
use Rattle.optimiser.proofs.CrossingLemmas.{cut-whole}
use Rattle.optimiser.proofs.crossing.crossing_at.Goals as goal

pub returns-clause-whole : goal.returns-clause-whole
returns-clause-whole c =
    let xs = c.args.steps.now in
    let i = c.args.at in
    let n = c.args.count in
    let s = step_of c.args.concat.now in
    cut-whole step_of xs i n c.args.concat.now c.requires.within c.requires.concat
    ∙ (λ j. map step_of (take i xs) ++ s ∷ (map step_of (take n (sym c.behind-rest.ensures j)) ++ map step_of ((ap (drop n) (sym c.behind-rest.ensures) ∙ sym c.behind.ensures) j)))
