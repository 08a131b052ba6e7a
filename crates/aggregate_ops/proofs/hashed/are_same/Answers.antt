use Rattle.std.proofs.Common.{◌≢◌, ◌∙◌, ◌<◌, ℕ, List, length, get_or, ap, sym, arith, ⊎_elim}
use Rattle.std.proofs.lemmas.Bool.{cases_eq}
use Rattle.edm_values.specs.declared.Value.{Value}
use Rattle.edm_values.specs.Values.{same_value}
use Rattle.aggregate_ops.specs.Columns.{key_values}
use Rattle.aggregate_ops.proofs.SameLemmas.{lists_differ, lists_same}
use Rattle.aggregate_ops.proofs.hashed.are_same.Goals as goal

pub returns-then-not-is_same : goal.returns-then-not-is_same
returns-then-not-is_same c =
    let a : List Value = key_values c.args.a.now in
    let b : List Value = key_values c.args.b.now in
    let k : ℕ = c.loop-k.k in
    let there : k < length a = omega arith in
    lists_differ a b k Value.Null there (omega arith) (sym (λ i. same_value (c.value_at.ensures i) (c.value_at-in-loop-k.ensures i)) ∙ sym c.is_same.ensures ∙ c.if-not-is_same.true)

pub loop-k-preserved : goal.loop-k-preserved
loop-k-preserved c =
    let a : List Value = key_values c.args.a.now in
    let b : List Value = key_values c.args.b.now in
    let k : ℕ = c.loop-k.k in
    let here = sym (λ i. same_value (c.value_at.ensures i) (c.value_at-in-loop-k.ensures i)) ∙ sym c.is_same.ensures ∙ c.if-not-is_same.false in
    λ j h. ⊎_elim
    (λ last. ap (λ n. same_value (get_or a n Value.Null) (get_or b n Value.Null)) last ∙ here)
    (λ other. let ne : j ≢ k = other in c.loop-k.invariant j (omega arith))
    (cases_eq j k)

pub returns : goal.returns
returns c = lists_same (key_values c.args.a.now) (key_values c.args.b.now) Value.Null (omega arith) (λ i h. c.loop-k.invariant i (omega arith))
