use Rattle.std.proofs.Common.{◌+◌, ◌-◌, ◌∙◌, ap, length, map, sym}
use Rattle.apply_meaning.specs.Meaning.{key_list}
use Rattle.group_rollup.specs.Groupings.{front_groups, has_beyond_key}
use Rattle.group_rollup.proofs.LevelLemmas.{levels-are}
use Rattle.group_rollup.proofs.groupings.rollup_list.Goals as goal

pub returns : goal.returns
returns g c =
    let w = c.args.store.now in
    let ks = c.args.keys.now in
    let ps = c.args.levels.now in
    let l = c.args.list.now in
    let paths = c.as_slice-paths.ensures.value ∙ c.in_ok-paths.ensures in
    record {
      value = (
        c.in_ok-found.ensures.0
            ∙ (λ i. front_groups (c.least_front-least.ensures i) (length (paths i) + 1 - c.least_front-least.ensures i) (map (key_list w (paths i)) l))
            ∙ levels-are w ks ps l c.args.with_all,
        sym (ap (λ all. has_beyond_key w all l) paths) ∙ c.in_ok-found.ensures.1,
      );
    }
