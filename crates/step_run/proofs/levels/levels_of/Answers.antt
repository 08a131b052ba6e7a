use Rattle.std.proofs.Common.{◌∙◌, ap, sym}
use Rattle.apply_ast.specs.Views.{keys_of}
use Rattle.group_rollup.specs.Groupings.{has_beyond_key}
use Rattle.step_run.proofs.LevelPlaces.{all-paths, are-levels}
use Rattle.step_run.proofs.levels.levels_of.Goals as goal

pub returns : goal.returns
returns g c =
    let w = c.args.context.now.world in
    let ks = keys_of c.args.keys.now in
    let l = c.args.rows.now in
    let k = c.in_ok-keys.keys in
    let K = c.in_ok-keys.ensures in
    record {
      levels = (
        are-levels w ks k l c.in_ok-found.found.items c.in_ok-with_paths.field-0.items K c.in_ok-found.ensures.0 c.in_ok-with_paths.ensures,
        ap (λ ps. has_beyond_key w ps l) (sym (all-paths ks k K)) ∙ c.in_ok-found.ensures.1,
      );
    }

pub with_paths-requires-clause-all : goal.with_paths-requires-clause-all
with_paths-requires-clause-all g c = c.requires.all ∙ sym (all-paths (keys_of c.args.keys.now) c.in_ok-keys.keys c.in_ok-keys.ensures)
