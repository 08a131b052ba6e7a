use Rattle.std.proofs.Common.{◌∙◌, ap, ◌++◌, ◌+◌, ◌-◌, length, map, take, drop}
use Rattle.apply_ast.specs.Views.{step_of}
use Rattle.rewrite_rules.proofs.FirstRuns.{entered-parts, grown-some}
use Rattle.rewrite_rules.proofs.filters.entered.Goals as goal

pub returns-clause-value : goal.returns-clause-value
returns-clause-value c =
    let xs = c.args.rest.now in
    let k = c.args.k in
    c.in_ok-put_copies.ensures.steps
    ∙ ap (λ l. l ++ map step_of (take (length xs - (k + 1)) (drop (k + 1) xs))) c.in_ok-steps.ensures.value
    ∙ entered-parts step_of (step_of c.args.made) xs k c.requires

pub returns-clause-some : goal.returns-clause-some
returns-clause-some c =
    grown-some step_of c.in_ok-steps.steps.items c.put_copies.new.out.items (map step_of (take (length c.args.rest.now - (c.args.k + 1)) (drop (c.args.k + 1) c.args.rest.now))) c.in_ok-put_copies.ensures.steps c.in_ok-steps.ensures.some
