use Rattle.std.proofs.Common.{◌∙◌, ap, sym}
use Rattle.edm_values.specs.Values.{seen_value}
use Rattle.apply_ast.specs.Views.{expr_of}
use Rattle.frame_run.specs.HeldRows.{entity_list}
use Rattle.frame_run.proofs.FrontLemmas.{keyed-only, keyed-quiet}
use Rattle.frame_run.proofs.front.is_only.Goals as goal

pub returns-clause-only : goal.returns-clause-only
returns-clause-only c =
    keyed-only c.args.store.now c.args.set c.args.n c.args.path.now (expr_of c.args.e.now) (seen_value c.args.value) c.args.kind c.requires.says c.requires.key c.requires.exact
    c.requires.all c.model-model.ensures.distinct
    ∙ ap (entity_list c.args.set) (sym c.requires.found)

pub returns-clause-quiet : goal.returns-clause-quiet
returns-clause-quiet c =
    keyed-quiet c.args.store.now c.args.set c.args.n c.args.path.now (expr_of c.args.e.now) (seen_value c.args.value) c.args.kind c.requires.says c.requires.key c.requires.exact
