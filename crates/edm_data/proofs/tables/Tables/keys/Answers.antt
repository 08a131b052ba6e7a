use Rattle.std.proofs.Common.{◌≡◌, ◌<◌, ◌∷◌, [], length, get_or, sym, ap, ◌∙◌, arith}
use Rattle.std.proofs.lemmas.List.{map-append, take_more}
use Rattle.edm_values.specs.declared.Value.{Value}
use Rattle.edm_values.specs.Values.{seen_value}
use Rattle.edm_model.specs.LookUps.{key_at}
use Rattle.edm_data.specs.Worlds.{entity_at}
use Rattle.edm_data.specs.References.{entities_of, keys_of, property}
use Rattle.edm_data.specs.declared.keys.Key.{Key}
use Rattle.edm_data.proofs.KeyedLemmas.{key_number}
use Rattle.edm_data.proofs.TableLemmas.{key_there}
use Rattle.edm_data.proofs.tables.Tables.keys.Goals as goal

pub loop-at-preserved : goal.loop-at-preserved
loop-at-preserved c =
    let w = c.args.self.now in
    let s = c.args.s in
    let at = c.loop-at.at in
    let within : at < length (keys_of w s) = rw key_number (let size = c.count-count.ensures in omega (arith, size)) in
    let here : seen_value c.value-value.result ≡ get_or (keys_of w s) at Value.Null = c.value-value.ensures ∙ ap (property w (entity_at s at)) c.key_place-place.ensures ∙ key_there (entities_of w s) (key_at w.model s) at in
    rw (c.in_ok-push.ensures.items, map-append (λ (k : Key). seen_value k.value) c.loop-at.keys.items (record { value = c.value-value.result } ∷ []), c.loop-at.invariant, here) (sym (take_more (keys_of w s) at Value.Null within))
