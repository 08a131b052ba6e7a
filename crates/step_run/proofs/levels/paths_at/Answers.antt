use Rattle.std.proofs.Common.{rules, ◌≡◌, ◌<◌, ◌∙◌, ◌++◌, ◌-◌, ap, sym, subst, arith, length, length-append, take, Some}
use Rattle.std.specs.Prelude.{slice_get}
use Rattle.context_typing.specs.Typing.{rollup_paths}
use Rattle.apply_meaning.specs.Meaning.{level_paths}
use Rattle.step_run.specs.Levels.{part_of}
use Rattle.step_run.proofs.LevelPlaces.{front-of-all, level-place}
use Rattle.step_run.proofs.levels.paths_at.Goals as goal

pub slice_bounds-result-count : goal.slice_bounds-result-count
slice_bounds-result-count c =
    let ks = c.args.keys.now.plain in
    let ps = c.in-Some.field-0.paths.now in
    let e : c.args.keys.now.rollup ≡ Some (c.in-Some.field-0.with_all, ps) = search rules in
    let within = (level-place ks ps c.in-Some.field-0.with_all c.args.k (subst (λ r. c.args.k < length (level_paths ks (part_of r))) e c.requires.within)).within in
    let long = ap length (c.requires.all ∙ ap (λ r. ks ++ rollup_paths (part_of r)) e) ∙ length-append ks ps in
    omega (arith, within, long)

pub returns-in-Some : goal.returns-in-Some
returns-in-Some c =
    let ks = c.args.keys.now.plain in
    let ps = c.in-Some.field-0.paths.now in
    let k = c.args.k in
    let e : c.args.keys.now.rollup ≡ Some (c.in-Some.field-0.with_all, ps) = search rules in
    let at = level-place ks ps c.in-Some.field-0.with_all k (subst (λ r. k < length (level_paths ks (part_of r))) e c.requires.within) in
    let all = c.requires.all ∙ ap (λ r. ks ++ rollup_paths (part_of r)) e in
    record { value = ap Some (ap (λ xs. take (length xs - k) xs) all ∙ front-of-all ks ps k at.within) ∙ sym at.paths ∙ ap (λ r. slice_get (level_paths ks (part_of r)) k) (sym e) }
