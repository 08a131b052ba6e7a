use Rattle.std.proofs.Common.{◌+◌, ◌∙◌, ◌++◌, List, ap, sym, map, drop, arith}
use Rattle.std.specs.Prelude.{flat_map}
use Rattle.std.proofs.Math.ListN.{drop_of_length-le}
use Rattle.std.proofs.lemmas.List.{append-nil, append_assoc}
use Rattle.edm_values.specs.Names.{Path}
use Rattle.apply_ast.specs.Views.{agg_of}
use Rattle.apply_meaning.specs.Instances.{Instance}
use Rattle.apply_meaning.specs.Meaning.{level_paths}
use Rattle.step_run.specs.GroupTotals.{level_totals}
use Rattle.step_run.specs.Levels.{level_on, part_of}
use Rattle.step_run.proofs.GroupLemmas.{next-flat}
use Rattle.step_run.proofs.GroupTotalLaws.{level-at}
use Rattle.step_run.proofs.group_totals.frame_of_levels.Goals as goal

pub level_frame-requires-clause-numbered : goal.level_frame-requires-clause-numbered
level_frame-requires-clause-numbered g c κs within =
    let all = level_paths c.args.keys.now.plain (part_of c.args.keys.now.rollup) in
    (level-at c.args.context.now.world (map agg_of c.args.items.now) c.args.rows.now all c.args.levels.now c.loop-k.k c.paths_at-own.result.now c.index-levels-k.result c.requires.numbered c.requires.apart c.loop-k-test.true c.index-levels-k.is c.paths_at-own.ensures.value).numbered

pub level_frame-requires-clause-apart : goal.level_frame-requires-clause-apart
level_frame-requires-clause-apart g c κs within =
    let all = level_paths c.args.keys.now.plain (part_of c.args.keys.now.rollup) in
    (level-at c.args.context.now.world (map agg_of c.args.items.now) c.args.rows.now all c.args.levels.now c.loop-k.k c.paths_at-own.result.now c.index-levels-k.result c.requires.numbered c.requires.apart c.loop-k-test.true c.index-levels-k.is c.paths_at-own.ensures.value).apart

pub loop-k-preserved : goal.loop-k-preserved
loop-k-preserved g c =
    let w = c.args.context.now.world in
    let items = map agg_of c.args.items.now in
    let l = c.args.rows.now in
    let all = level_paths c.args.keys.now.plain (part_of c.args.keys.now.rollup) in
    let made : List Path → List Instance = λ level. level_totals w items l (level_on w l level) in
    let own = c.paths_at-own.result.now in
    let k = c.loop-k.k in
    let u = level-at w items l all c.args.levels.now k own c.index-levels-k.result c.requires.numbered c.requires.apart c.loop-k-test.true c.index-levels-k.is c.paths_at-own.ensures.value in
    let next = next-flat made all k own u.within u.here in
    let rest = flat_map made (drop (k + 1) all) in
    c.loop-k.invariant
    ∙ ap (λ xs. c.loop-k.all ++ xs) next
    ∙ sym (append_assoc c.loop-k.all (made own) rest)
    ∙ ap (λ xs. (c.loop-k.all ++ xs) ++ rest) (sym c.in_ok-level_frame.ensures)
    ∙ ap (λ xs. xs ++ rest) (sym c.in_ok-all.ensures.value)

pub returns : goal.returns
returns g c =
    let w = c.args.context.now.world in
    let items = map agg_of c.args.items.now in
    let l = c.args.rows.now in
    let all = level_paths c.args.keys.now.plain (part_of c.args.keys.now.rollup) in
    let made : List Path → List Instance = λ level. level_totals w items l (level_on w l level) in
    let counted = c.requires.numbered.count in
    let test = c.loop-k-test.false in
    sym (c.loop-k.invariant ∙ ap (λ ys. c.loop-k.all ++ flat_map made ys) (drop_of_length-le all (omega (arith, counted, test))) ∙ append-nil c.loop-k.all)
