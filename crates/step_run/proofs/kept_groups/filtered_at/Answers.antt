use Rattle.std.proofs.Common.{map, length}
use Rattle.edm_values.specs.Values.{seen_value}
use Rattle.apply_ast.specs.Views.{expr_of}
use Rattle.step_run.proofs.KeptPlaces.{seen-within, true-placed, true-within}
use Rattle.step_run.proofs.kept_groups.filtered_at.Goals as goal

pub true_places-requires : goal.true_places-requires
true_places-requires g c = seen-within c.args.context.now.world (expr_of c.args.e.now) c.args.rows.now c.args.places.now c.first_list-seen.result.now (c.first_list-seen.ensures _ c.requires.lists) c.requires.within

pub returns-clause-mean : goal.returns-clause-mean
returns-clause-mean g c =
    true-placed c.args.context.now.world (expr_of c.args.e.now) c.args.rows.now (map seen_value c.first_list-seen.result.now) (c.first_list-seen.ensures _ c.requires.lists) c.true_places.result c.args.places.now c.requires.within c.true_places.ensures

pub returns-clause-within : goal.returns-clause-within
returns-clause-within g c = true-within (length c.args.rows.now) c.true_places.result (map seen_value c.first_list-seen.result.now) c.args.places.now c.requires.within c.true_places.ensures
