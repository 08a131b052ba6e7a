use Rattle.std.proofs.Common.{◌≡◌, ◌∙◌, ap, sym, subst, drop, length, ◌-◌, ◌+◌, arith}
use Rattle.std.specs.Prelude.{option_and_then, unwrap_or, IfSome}
use Rattle.std.proofs.lemmas.List.{take_all, length-drop}
use Rattle.edm_values.specs.declared.Value.{Value}
use Rattle.edm_model.specs.LookUps.{IsSet}
use Rattle.apply_meaning.specs.Instances.{value_behind}
use Rattle.apply_meaning.proofs.LookupForms.{front_value, fronts-whole, front-root, root-is_of, next-bound, next-hit, next-shorter}
use Rattle.apply_meaning.proofs.lookups.prefix_value.Goals as goal

pub loop-k-init : goal.loop-k-init
loop-k-init c = sym (fronts-whole c.args.store.now c.args.row.now c.args.names.now)

pub value_behind-requires : goal.value_behind-requires
value_behind-requires c = next-bound c.args.store.now c.args.row.now _ c.args.names.now c.loop-k.k c.in-Some.bound c.requires c.prefixes.ensures.prefixes (omega arith) (omega arith) (sym c.in-Some.ensures)

pub returns-in-Some : goal.returns-in-Some
returns-in-Some c =
    let w = c.args.store.now in
    let i = c.args.row.now in
    let names = c.args.names.now in
    let k = c.loop-k.k - 1 + 1 in
    c.value_behind.ensures.value
    ∙ ap (λ p. unwrap_or (option_and_then (value_behind w p) c.in-Some.bound) Value.Null) (take_all (length names - k) (drop k names) (let h = length-drop k names in omega (arith, h)))
    ∙ ap (λ o. unwrap_or o Value.Null) (sym (next-hit w i _ names c.loop-k.k c.in-Some.bound c.prefixes.ensures.prefixes (omega arith) (omega arith) (sym c.in-Some.ensures)))
    ∙ ap (λ o. unwrap_or o Value.Null) (sym c.loop-k.invariant)

pub loop-k-preserved : goal.loop-k-preserved
loop-k-preserved c = c.loop-k.invariant ∙ next-shorter c.args.store.now c.args.row.now _ c.args.names.now c.loop-k.k c.prefixes.ensures.prefixes (omega arith) (omega arith) (sym c.prefix_at.ensures ∙ c.in_default.is)

pub value_behind-requires-2 : goal.value_behind-requires-2
value_behind-requires-2 c = subst (λ o. IfSome o (λ e. IsSet c.args.store.now.model e.set)) (sym c.root.ensures.value) (root-is_of c.args.store.now c.args.row.now c.requires)

pub returns : goal.returns
returns c =
    let w = c.args.store.now in
    let i = c.args.row.now in
    let names = c.args.names.now in
    let none : 0 ≡ c.loop-k.k = omega arith in
    c.value_behind-2.ensures.value
    ∙ ap (λ o. unwrap_or (option_and_then (value_behind w names) o) Value.Null) c.root.ensures.value
    ∙ ap (λ o. unwrap_or o Value.Null) (sym (front-root w i names))
    ∙ ap (λ k. unwrap_or (front_value w i names k) Value.Null) none
    ∙ ap (λ o. unwrap_or o Value.Null) (sym c.loop-k.invariant)
