use Rattle.std.proofs.Common.{◌≡◌, ◌∙◌, ap, sym, drop, take, length, ◌-◌, ◌+◌, arith, true, ℕ, map}
use Rattle.std.specs.Prelude.{option_and_then, option_map, slice_get}
use Rattle.std.proofs.lemmas.List.{take_all, length-drop}
use Rattle.std.proofs.lemmas.Result.{IfOk-weaker}
use Rattle.apply_meaning.specs.Instances.{prefix_value, value_behind}
use Rattle.apply_meaning.specs.RowViews.{have_paths}
use Rattle.apply_meaning.proofs.LookupForms.{front_value, fronts-whole, front-root, next-hit, next-shorter}
use Rattle.row_frames.specs.Frames.{bound_in, instance_at, prefix_at, prefixes_at, root_at}
use Rattle.row_frames.proofs.TableLemmas.{root-of, prefixes-of, told-so}
use Rattle.row_frames.proofs.readers.front_property.Goals as goal

pub loop-n-init : goal.loop-n-init
loop-n-init c = λ k. sym (fronts-whole c.args.store.now (instance_at c.args.table.now k) c.args.names.now)

pub loop-n-preserved : goal.loop-n-preserved
loop-n-preserved c = λ k.
    let t = c.args.table.now in
    let paths : have_paths (prefixes_at t k) ≡ true = ap (λ ps. have_paths (map (prefix_at k) ps)) (sym c.as_slice.ensures.value) ∙ c.have_paths.ensures k in
    c.loop-n.invariant k
    ∙ next-shorter c.args.store.now (instance_at t k) _ c.args.names.now c.loop-n.n (prefixes-of t k _ paths c.as_slice-in-loop-n.ensures.value) (omega arith) (omega arith)
    (c.prefix_place.ensures k ∙ ap (option_map (λ n. bound_in (slice_get c.as_slice-in-loop-n.result.now n) k)) c.in_default.is)

pub returns-in-Some : goal.returns-in-Some
returns-in-Some c =
    let w = c.args.store.now in
    let t = c.args.table.now in
    let names = c.args.names.now in
    let n = c.loop-n.n - 1 + 1 in
    let rest = take (length names - n) (drop n names) in
    let whole : rest ≡ drop n names = take_all (length names - n) (drop n names) (let h = length-drop n names in omega (arith, h)) in
    let same : (k : ℕ) → prefix_value w (instance_at t k) names ≡ option_and_then (value_behind w rest) (bound_in (slice_get t.prefixes.items c.in-Some.c) k) = λ k.
    let paths : have_paths (prefixes_at t k) ≡ true = ap (λ ps. have_paths (map (prefix_at k) ps)) (sym c.as_slice.ensures.value) ∙ c.have_paths.ensures k in
    c.loop-n.invariant k
    ∙ next-hit w (instance_at t k) _ names c.loop-n.n _ (prefixes-of t k _ paths c.as_slice-in-loop-n.ensures.value) (omega arith) (omega arith)
    (c.prefix_place.ensures k ∙ ap (option_map (λ n. bound_in (slice_get c.as_slice-in-loop-n.result.now n) k)) c.in-Some.is)
    ∙ ap (λ ps. option_and_then (value_behind w (drop n names)) (bound_in (slice_get ps c.in-Some.c) k)) c.as_slice-in-loop-n.ensures.value
    ∙ ap (λ p. option_and_then (value_behind w p) (bound_in (slice_get t.prefixes.items c.in-Some.c) k)) (sym whole) in
    IfOk-weaker c.prefix_property.result _ _ (λ o h. told-so w t (λ k. prefix_value w (instance_at t k) names) (λ k. option_and_then (value_behind w rest) (bound_in (slice_get t.prefixes.items c.in-Some.c) k)) o same h) c.prefix_property.ensures

pub returns : goal.returns
returns c =
    let w = c.args.store.now in
    let t = c.args.table.now in
    let names = c.args.names.now in
    let none : c.loop-n.n ≡ 0 = omega arith in
    let same : (k : ℕ) → prefix_value w (instance_at t k) names ≡ option_and_then (value_behind w names) (root_at t.roots k) = λ k.
    let paths : have_paths (prefixes_at t k) ≡ true = ap (λ ps. have_paths (map (prefix_at k) ps)) (sym c.as_slice.ensures.value) ∙ c.have_paths.ensures k in
    c.loop-n.invariant k
    ∙ ap (front_value w (instance_at t k) names) none
    ∙ front-root w (instance_at t k) names
    ∙ ap (option_and_then (value_behind w names)) (sym (root-of t k paths)) in
    IfOk-weaker c.root_property.result _ _ (λ o h. told-so w t (λ k. prefix_value w (instance_at t k) names) (λ k. option_and_then (value_behind w names) (root_at t.roots k)) o same h) c.root_property.ensures
