use Rattle.std.proofs.Common.{◌≡◌, ◌∙◌, sym, refl, ap, arith, length, take, position, option_map, slice_get, Some, None}
use Rattle.std.proofs.lemmas.Option.{slice_get_read}
use Rattle.serde_json.specs.View.{view}
use Rattle.edm_values.specs.Values.{seen_value}
use Rattle.data_diagnosis.specs.EntityFaults.{key_in, same_key}
use Rattle.data_diagnosis.proofs.Searches.{position-found}
use Rattle.data_diagnosis.proofs.SetKeys.{earlier_place-is}
use Rattle.data_diagnosis.proofs.keys.earlier_with_key.Goals as goal

pub returns-then-are_same : goal.returns-then-are_same
returns-then-are_same c =
    let at : slice_get c.args.items.now c.args.at ≡ Some c.index-items-at.result = slice_get_read c.args.items.now (length c.args.items.now) c.args.at c.index-items-at.result refl c.requires.within c.index-items-at.is in
    record { value = sym (earlier_place-is c.args.model.now c.args.s c.args.items.now c.args.at _ at ∙ rw (← c.in_ok-key.ensures) (position-found (λ y. same_key (option_map seen_value c.in_ok-key.key) (key_in c.args.model.now c.args.s (view y))) c.args.items.now c.loop-k.k c.args.at c.index-items-k.result c.loop-k-test.true (omega arith) c.index-items-k.is c.loop-k.invariant (ap (same_key (option_map seen_value c.in_ok-key.key)) (sym c.in_ok-key_of.ensures) ∙ sym c.are_same.ensures ∙ c.if-are_same.true))) }

pub returns : goal.returns
returns c =
    let at : slice_get c.args.items.now c.args.at ≡ Some c.index-items-at.result = slice_get_read c.args.items.now (length c.args.items.now) c.args.at c.index-items-at.result refl c.requires.within c.index-items-at.is in
    let over : c.loop-k.k ≡ c.args.at = omega arith in
    let none : position (λ y. same_key (option_map seen_value c.in_ok-key.key) (key_in c.args.model.now c.args.s (view y))) (take c.args.at c.args.items.now) ≡ None = rw over at c.loop-k.invariant in
    record { value = sym (earlier_place-is c.args.model.now c.args.s c.args.items.now c.args.at _ at ∙ rw (← c.in_ok-key.ensures) none) }
