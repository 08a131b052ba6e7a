use Rattle.std.proofs.Common.{rules, ◌≡◌, ◌+◌, ◌∙◌, ◌++◌, ◌∷◌, [], ap, sym, drop, length, arith, Some}
use Rattle.std.specs.Prelude.{slice_get, zip}
use Rattle.std.specs.Vec.Iter.{into_iter_items}
use Rattle.std.proofs.lemmas.List.{append_assoc}
use Rattle.apply_meaning.specs.Meaning.{level_paths}
use Rattle.step_run.specs.Levels.{part_of}
use Rattle.step_run.proofs.GroupLemmas.{length-more}
use Rattle.step_run.proofs.LevelPlaces.{zip-next}
use Rattle.step_run.proofs.levels.with_paths.Goals as goal

pub loop-groups-preserved : goal.loop-groups-preserved
loop-groups-preserved c =
    let all = level_paths c.args.keys.now.plain (part_of c.args.keys.now.rollup) in
    let levels = c.loop-groups.levels.items in
    let n = length levels in
    let p = c.paths_at-paths.result.now in
    let rest = into_iter_items c.next.new.self in
    let next : into_iter_items c.loop-groups.groups-iterator ≡ c.in-Some.groups ∷ rest = search rules in
    let count : c.len-in-loop-groups.result ≡ n = search rules in
    let at : slice_get all n ≡ Some p = ap (slice_get all) (sym count) ∙ sym c.paths_at-paths.ensures.value in
    let pushed : c.push.new.self.items ≡ levels ++ (p, c.in-Some.groups) ∷ [] = search rules in
    let long = ap length pushed ∙ length-more levels (p, c.in-Some.groups) in
    let fewer = ap length next in
    let left = c.loop-groups.invariant.1 in (
      c.loop-groups.invariant.0
          ∙ ap (λ r. levels ++ zip (drop n all) r) next
          ∙ ap (λ xs. levels ++ xs) (zip-next all n p c.in-Some.groups rest at)
          ∙ sym (append_assoc levels ((p, c.in-Some.groups) ∷ []) (zip (drop (n + 1) all) rest))
          ∙ (λ i. sym pushed i ++ zip (drop (sym long i) all) rest),
      omega (arith, long, fewer, left),
    )
