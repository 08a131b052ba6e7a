use Rattle.std.proofs.Common.{◌∙◌, ap, sym, map}
use Rattle.apply_ast.specs.Views.{agg_of, keys_of}
use Rattle.group_rollup.specs.Groupings.{has_beyond_key}
use Rattle.step_run.proofs.GroupTotalLaws.{apart-levels, levels-totals}
use Rattle.step_run.proofs.LevelPlaces.{all-paths}
use Rattle.step_run.proofs.group_totals.total_groups.Goals as goal

pub frame_of_levels-requires-clause-apart : goal.frame_of_levels-requires-clause-apart
frame_of_levels-requires-clause-apart g c κs within =
    apart-levels c.args.context.now.world (keys_of c.args.totals.now.keys.now) c.in_ok-keys.keys (map agg_of c.args.totals.now.items.now) c.args.rows.now c.in_ok-keys.ensures c.requires.ready.apart

pub returns : goal.returns
returns g c =
    let w = c.args.context.now.world in
    let ks = keys_of c.args.totals.now.keys.now in
    let l = c.args.rows.now in
    let k = c.in_ok-keys.keys in
    (c.in_ok-frame_of_levels.ensures ∙ levels-totals w ks k (map agg_of c.args.totals.now.items.now) l c.in_ok-keys.ensures, ap (λ ps. has_beyond_key w ps l) (sym (all-paths ks k c.in_ok-keys.ensures)) ∙ c.in_ok-levels.ensures.1)
