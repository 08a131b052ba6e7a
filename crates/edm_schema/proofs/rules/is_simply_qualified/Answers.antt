use Rattle.std.proofs.Common.{◌∙◌}
use Rattle.edm_values.specs.Names.{is_name}
use Rattle.edm_schema.specs.ModelTrees.{is_of_term, qualifier}
use Rattle.edm_schema.proofs.QualifiedNames.{some_tested, none_tested}
use Rattle.edm_schema.proofs.rules.is_simply_qualified.Goals as goal

pub returns-in-Some : goal.returns-in-Some
returns-in-Some c =
    let term = c.args.term.now in
    let name = c.args.name.now in
    c.is_name.ensures.value ∙ some_tested is_name (is_of_term term name) c.in-Some.after.now (qualifier term name) c.in-Some.ensures

pub returns-in-None : goal.returns-in-None
returns-in-None c =
    let term = c.args.term.now in
    let name = c.args.name.now in
    none_tested is_name (is_of_term term name) (qualifier term name) c.in-None.ensures
