use Rattle.std.proofs.Common.{rules, ◌≡◌, ◌<◌, ◌∷◌, ◌∙◌, [], ap, subst, sym}
use Rattle.std.specs.Prelude.{All, slice_get}
use Rattle.std.proofs.lemmas.List.{nil_from_length}
use Rattle.std.specs.Vec.Iter.{into_iter_items}
use Rattle.value_codes.specs.Codes.{CodeList}
use Rattle.numbered_groups.proofs.SeenLemmas.{seen-below, seen-codes, seen-step}
use Rattle.numbered_groups.proofs.seen.numbers_of.Goals as goal

pub loop-value-preserved : goal.loop-value-preserved
loop-value-preserved c =
    let v = c.in-Some.value in
    let rest = into_iter_items c.next.new.self in
    let next : into_iter_items c.loop-value.value-iterator ≡ v ∷ rest = search rules in
    let stored = c.in_ok-at.ensures.stored in
    let number : c.in_ok-number.number ≡ c.in_ok-at.at = search rules in
    seen-step c.args.hashed.items (into_iter_items c.loop-value.value-iterator) rest c.loop-value.known.keys c.insert_full.new.self.keys c.loop-value.codes.items c.push.new.self.items v stored.0 c.in_ok-number.number
    next c.in_ok-at.ensures.keys (ap (slice_get c.insert_full.new.self.keys) number ∙ stored.1) stored.2 c.in_ok-push.ensures.items c.loop-value.invariant

pub new-requires : goal.new-requires
new-requires c =
    let none : into_iter_items c.loop-value.value-iterator ≡ [] = nil_from_length (into_iter_items c.loop-value.value-iterator) (sym c.loop-value.value-iterator.rest.ok.0 ∙ c.in-None.ensures.steps.0) in
    record {
      below = subst (λ m. All (λ n. n < m) c.loop-value.codes.items) (sym c.len-bound.ensures.len) (seen-below c.args.hashed.items (into_iter_items c.loop-value.value-iterator) c.loop-value.known.keys c.loop-value.codes.items none c.loop-value.invariant);
    }

pub returns : goal.returns
returns c =
    let none : into_iter_items c.loop-value.value-iterator ≡ [] = nil_from_length (into_iter_items c.loop-value.value-iterator) (sym c.loop-value.value-iterator.rest.ok.0 ∙ c.in-None.ensures.steps.0) in
    seen-codes c.args.hashed.items (into_iter_items c.loop-value.value-iterator) c.loop-value.known.keys c.loop-value.codes.items c.new.result none (ap (λ (k : CodeList). k.codes) c.new.ensures.value) c.loop-value.invariant
