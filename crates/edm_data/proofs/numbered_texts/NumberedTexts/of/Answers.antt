use Rattle.std.proofs.Common.{rules, ◌≡◌, ◌<◌, ◌∙◌, [], ◌∷◌, ◌++◌, ap, sym, subst, length, map, take, arith, slice_get}
use Rattle.std.specs.Prelude.{All}
use Rattle.std.proofs.lemmas.List.{take_all, take_more}
use Rattle.edm_data.specs.NumberedTexts.{IsPool, numbered_texts}
use Rattle.edm_data.proofs.PoolLemmas.{Told, apart-pool, told-next, told-texts, told-there}
use Rattle.edm_data.proofs.numbered_texts.NumberedTexts.of.Goals as goal

-- one text more
pub loop-place-preserved : goal.loop-place-preserved
loop-place-preserved c =
    let texts = c.args.texts.now in
    let k = c.loop-place.place in
    let stored = c.in_ok-at.ensures.stored in
    let number : c.in-Some.number ≡ c.in_ok-at.at = search rules in
    let next = told-next (λ t. t.now) c.loop-place.known.keys c.insert_full.new.self.keys c.loop-place.numbers.items c.push.new.self.items (take k texts) c.get.result stored.0 c.in-Some.number
    c.in_ok-at.ensures.keys (ap (slice_get c.insert_full.new.self.keys) number ∙ stored.1) stored.2 c.in_ok-push.ensures.items c.loop-place.invariant in
    subst (Told (map (λ t. t.now) c.insert_full.new.self.keys) c.push.new.self.items) (ap (λ t. take k texts ++ t ∷ []) c.get.ensures ∙ sym (take_more texts k [] (omega (arith, c.len-place-end.ensures)))) next

pub invariant_of-result : goal.invariant_of-result
invariant_of-result c =
    let keys = c.loop-place.known.keys in
    let pool : c.in_ok-pool.pool ≡ map (λ t. t.now) keys = c.in_ok-pool.ensures ∙ ap (map (λ t. t.now)) c.as_slice.ensures.keys in
    subst (λ p. All (λ n. n < length p) c.loop-place.numbers.items × IsPool p) (sym pool)
    (told-there (map (λ t. t.now) keys) c.loop-place.numbers.items (take c.loop-place.place c.args.texts.now) c.loop-place.invariant, apart-pool (λ t. t.now) keys c.as_slice.ensures.unique)

pub returns : goal.returns
returns c =
    let keys = c.loop-place.known.keys in
    let texts = c.args.texts.now in
    let pool : c.in_ok-pool.pool ≡ map (λ t. t.now) keys = c.in_ok-pool.ensures ∙ ap (map (λ t. t.now)) c.as_slice.ensures.keys in
    ap (λ p. numbered_texts (record { pool = p; numbers = c.loop-place.numbers.items })) pool
    ∙ told-texts (map (λ t. t.now) keys) c.loop-place.numbers.items (take c.loop-place.place texts) c.loop-place.invariant
    ∙ take_all c.loop-place.place texts (omega (arith, c.len-place-end.ensures, c.loop-place-test.false))
