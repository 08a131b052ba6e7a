use Rattle.std.proofs.Common.{◌≡◌, ◌∙◌, ap, sym, subst, drop, length, ◌-◌, ◌+◌, arith}
use Rattle.std.specs.Prelude.{option_and_then, unwrap_or, IfSome}
use Rattle.std.proofs.lemmas.List.{take_all, length-drop}
use Rattle.edm_values.specs.declared.Value.{Value}
use Rattle.edm_model.specs.LookUps.{IsSet}
use Rattle.apply_meaning.specs.Instances.{value_behind}
use Rattle.apply_meaning.proofs.LookupForms.{front_value, fronts-whole, front-root, root-is_of, next-bound, next-hit, next-shorter}
use Rattle.row_frames.specs.Frames.{instance_at}
use Rattle.row_frames.proofs.TableLemmas.{root-of, prefixes-of}
use Rattle.row_frames.proofs.lookups.prefix_value.Goals as goal

pub loop-n-init : goal.loop-n-init
loop-n-init c = sym (fronts-whole c.args.store.now (instance_at c.args.table.now c.args.k) c.args.names.now)

pub value_behind-requires : goal.value_behind-requires
value_behind-requires c =
    let t = c.args.table.now in
    next-bound c.args.store.now (instance_at t c.args.k) _ c.args.names.now c.loop-n.n c.in-Some.bound c.requires.of
    (prefixes-of t c.args.k _ c.requires.row.paths c.as_slice.ensures.value) (omega arith) (omega arith) (sym c.in-Some.ensures)

pub returns-in-Some : goal.returns-in-Some
returns-in-Some c =
    let w = c.args.store.now in
    let t = c.args.table.now in
    let i = instance_at t c.args.k in
    let names = c.args.names.now in
    let k = c.loop-n.n - 1 + 1 in
    c.value_behind.ensures.value
    ∙ ap (λ p. unwrap_or (option_and_then (value_behind w p) c.in-Some.bound) Value.Null) (take_all (length names - k) (drop k names) (let h = length-drop k names in omega (arith, h)))
    ∙ ap (λ o. unwrap_or o Value.Null) (sym (next-hit w i _ names c.loop-n.n c.in-Some.bound (prefixes-of t c.args.k _ c.requires.row.paths c.as_slice.ensures.value) (omega arith) (omega arith) (sym c.in-Some.ensures)))
    ∙ ap (λ o. unwrap_or o Value.Null) (sym c.loop-n.invariant)

pub loop-n-preserved : goal.loop-n-preserved
loop-n-preserved c =
    let t = c.args.table.now in
    c.loop-n.invariant
    ∙ next-shorter c.args.store.now (instance_at t c.args.k) _ c.args.names.now c.loop-n.n (prefixes-of t c.args.k _ c.requires.row.paths c.as_slice.ensures.value) (omega arith) (omega arith) (sym c.prefix_in.ensures ∙ c.in_default.is)

pub value_behind-requires-2 : goal.value_behind-requires-2
value_behind-requires-2 c =
    let t = c.args.table.now in
    subst (λ o. IfSome o (λ e. IsSet c.args.store.now.model e.set)) (sym (c.root_at.ensures ∙ root-of t c.args.k c.requires.row.paths))
    (root-is_of c.args.store.now (instance_at t c.args.k) c.requires.of)

pub returns : goal.returns
returns c =
    let w = c.args.store.now in
    let t = c.args.table.now in
    let i = instance_at t c.args.k in
    let names = c.args.names.now in
    let none : 0 ≡ c.loop-n.n = omega arith in
    c.value_behind-2.ensures.value
    ∙ ap (λ o. unwrap_or (option_and_then (value_behind w names) o) Value.Null) (c.root_at.ensures ∙ root-of t c.args.k c.requires.row.paths)
    ∙ ap (λ o. unwrap_or o Value.Null) (sym (front-root w i names))
    ∙ ap (λ k. unwrap_or (front_value w i names k) Value.Null) none
    ∙ ap (λ o. unwrap_or o Value.Null) (sym c.loop-n.invariant)
