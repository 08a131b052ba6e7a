use Rattle.std.proofs.Common.{◌∙◌, ap, sym}
use Rattle.std.specs.Prelude.{option_map}
use Rattle.std.proofs.lemmas.Option.{slice_get-map}
use Rattle.apply_meaning.specs.Meaning.{level_paths}
use Rattle.step_run.specs.Levels.{level_on, part_of}
use Rattle.step_run.proofs.kept_groups.level_ready.Goals as goal

pub returns : goal.returns
returns g c =
    let r = c.requires.ready in
    let w = c.args.context.now.world in
    let l = c.args.frame.now in
    let all = level_paths c.args.keys.now.plain (part_of c.args.keys.now.rollup) in
    (r.0, r.1, r.2 c.args.k (level_on w l c.args.paths.now) (slice_get-map (level_on w l) all c.args.k ∙ ap (option_map (level_on w l)) (sym c.requires.at)))
