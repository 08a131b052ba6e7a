use Rattle.std.proofs.Common.{sym, ◌∙◌, ap, Some}
use Rattle.std.specs.Prelude.{option_map}
use Rattle.apply_ast.specs.Trees.{Key, Step}
use Rattle.apply_ast.specs.Views.{expr_of, hier_of, inner_of, key_of, pipe_of}
use Rattle.apply_ast.proofs.ViewEquations.{key_of-Recursive, step_of-Filter}
use Rattle.rewrite_laws.specs.Rewrites.{ended_inner, ended_key}
use Rattle.rewrite_rules.proofs.nodes.ended_key.Goals as goal

pub returns-in_ok-chosen-in-Recursive : goal.returns-in_ok-chosen-in-Recursive
returns-in_ok-chosen-in-Recursive c =
    let made =
    c.in_ok-chosen-in-Recursive.ensures.value
    ∙ ap (ended_inner (inner_of (option_map pipe_of c.in-Recursive.chosen))) (step_of-Filter c.in_ok-copy-in-Recursive.field-0 ∙ ap Step.Filter c.in_ok-copy-in-Recursive.ensures.value) in
    key_of-Recursive c.in_ok-hier-in-Recursive.hier c.in_ok-path-in-Recursive.path (Some c.in_ok-chosen-in-Recursive.chosen)
    ∙ (λ i. Key.Recursive (hier_of (c.in_ok-hier-in-Recursive.ensures.value i)) (c.in_ok-path-in-Recursive.ensures.value i) (made i))
    ∙ sym (ap (ended_key (Step.Filter (expr_of c.args.test.now))) (ap key_of c.in-Recursive.is ∙ key_of-Recursive c.in-Recursive.hier c.in-Recursive.path c.in-Recursive.chosen))
