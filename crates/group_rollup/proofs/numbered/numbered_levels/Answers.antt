use Rattle.std.proofs.Common.{rules, ◌≡◌, ◌∙◌, ◌+◌, ◌++◌, ap, arith, length, map, subst, sym}
use Rattle.std.proofs.lemmas.List.{length-map}
use Rattle.apply_meaning.specs.Meaning.{key_list}
use Rattle.numbered_groups.specs.Numbered.{AreKeyCodes, AreNumberedLevels}
use Rattle.group_rollup.specs.Groupings.{has_beyond_key}
use Rattle.group_rollup.proofs.NumberedLemmas.{codes-long, no-levels, numbered-levels}
use Rattle.group_rollup.proofs.numbered.numbered_levels.Goals as goal

pub returns-then-codes-least : goal.returns-then-codes-least
returns-then-codes-least g c =
    let w = c.args.store.now in
    let ks = c.args.keys.now in
    let ps = c.args.levels.now in
    let l = c.args.list.now in
    let paths = c.as_slice.ensures.value ∙ c.in_ok-paths.ensures in
    let size : length c.as_slice-codes.result.now ≡ length (ks ++ ps) = ap length c.as_slice-codes.ensures.value ∙ c.in_ok-codes.ensures.0.1 ∙ ap length paths in
    record {
      value = (
        no-levels ks ps w l c.args.with_all c.least_front-least.result c.new.result.items c.least_front-least.ensures (omega (arith, size, c.if-codes-least.true)) c.new.ensures.items,
        sym (ap (λ all. has_beyond_key w all l) paths) ∙ c.in_ok-codes.ensures.1,
      );
    }

pub number_levels-requires-clause-long : goal.number_levels-requires-clause-long
number_levels-requires-clause-long g c κs within =
    codes-long c.args.store.now c.as_slice.result.now c.args.list.now c.as_slice-codes.result.now c.len.result
    (subst (AreKeyCodes (map (key_list c.args.store.now c.as_slice.result.now) c.args.list.now)) (sym c.as_slice-codes.ensures.value) c.in_ok-codes.ensures.0.0) c.len.ensures.value

pub returns : goal.returns
returns g c =
    let w = c.args.store.now in
    let ks = c.args.keys.now in
    let ps = c.args.levels.now in
    let l = c.args.list.now in
    let found = c.in_ok-number_levels.field-0.items in
    let least = c.least_front-least.result in
    let own = map (key_list w c.as_slice.result.now) l in
    let paths = c.as_slice.ensures.value ∙ c.in_ok-paths.ensures in
    let size : length c.as_slice-codes.result.now ≡ length c.as_slice.result.now = ap length c.as_slice-codes.ensures.value ∙ c.in_ok-codes.ensures.0.1 in
    let codes = subst (AreKeyCodes own) (sym c.as_slice-codes.ensures.value) c.in_ok-codes.ensures.0.0 in
    let levels = c.in_ok-number_levels.ensures.value own (length-map l (key_list w c.as_slice.result.now) ∙ sym c.len.ensures.value) codes in
    let sized = subst (λ n. AreNumberedLevels least n own found) size levels in
    record {
      value = (
        numbered-levels ks ps w l c.args.with_all least found c.least_front-least.ensures (subst (λ all. AreNumberedLevels least (length all) (map (key_list w all) l) found) paths sized),
        sym (ap (λ all. has_beyond_key w all l) paths) ∙ c.in_ok-codes.ensures.1,
      );
    }
