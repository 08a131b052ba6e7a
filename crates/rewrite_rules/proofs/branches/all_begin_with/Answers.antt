use Rattle.std.proofs.Common.{sym, ◌∙◌}
use Rattle.std.proofs.lemmas.List.Folds.{list_all-map}
use Rattle.apply_ast.specs.Views.{pipe_of, step_of}
use Rattle.rewrite_rules.specs.Branches.{begins_with}
use Rattle.rewrite_rules.proofs.branches.all_begin_with.Goals as goal

pub returns : goal.returns
returns c = c.each_begins_with.ensures ∙ sym (list_all-map (begins_with (step_of c.args.step.now)) pipe_of c.args.branches.now)
