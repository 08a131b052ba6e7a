use Rattle.std.proofs.Common.{◌≡◌, ◌<◌, ◌∙◌, sym, ap, arith, is_eq, true}
use Rattle.edm_values.specs.Values.{same_value, seen_value, value_cmp}
use Rattle.edm_model.specs.LookUps.{key_at, key_of, set_type}
use Rattle.edm_data.specs.References.{count, key, property}
use Rattle.edm_data.specs.Worlds.{entity_at}
use Rattle.hier_rows.proofs.KeyLaws.{found-by-key}
use Rattle.hier_rows.proofs.tried_nodes.has_key.Goals as goal
use Rattle.edm_data.proofs.TableLemmas.{key_place}

pub returns : goal.returns
returns c = λ taken.
    let w = c.args.store.now in
    let s = c.args.set in
    let k = c.args.node in
    let v = seen_value c.args.key in
    let less : k < count w s = let there = c.if-node-count.false in let number = c.count.ensures.value in omega (arith, there, number) in
    let place : c.key_of-place.result.at ≡ key_at w.model s =
    ap (λ p. p.at) c.key_of-place.ensures.value
    ∙ ap (λ t. (key_of c.model-model.result.now t).at) c.set_type.ensures.value
    ∙ ap (λ m. (key_of m (set_type m s)).at) c.model-model.ensures.value
    ∙ key_place w.model s c.requires in
    let same : same_value v (key w (entity_at s k)) ≡ true =
    ap (λ p. is_eq (value_cmp v (property w (entity_at s k) p))) (sym place)
    ∙ ap (λ x. is_eq (value_cmp v x)) (sym c.property.ensures.value)
    ∙ ap is_eq (sym c.order.ensures.value)
    ∙ sym c.is_eq.ensures
    ∙ taken in
    found-by-key w s k v c.model-model.ensures.distinct less same
