use Rattle.std.proofs.Common.{◌≡◌, ◌∙◌, ◌∷◌, [], ap, arith, length, map, sym}
use Rattle.std.specs.Prelude.{option_map, slice_get}
use Rattle.context_typing.specs.Paths.{at_path}
use Rattle.row_frames.specs.Frames.{cell_in, column_at}
use Rattle.row_frames.proofs.OwnLemmas.{one-element, own-at}
use Rattle.row_frames.proofs.own.table_property.Goals as goal

pub returns-in-Some-set_property-clause-value : goal.returns-in-Some-set_property-clause-value
returns-in-Some-set_property-clause-value c =
    let t = c.args.table.now in
    let long : length c.names.result.now ≡ 1 = let low = c.in-len1.len_at_least in let high = c.in-len1.len_below in omega (arith, low, high) in
    let one : c.args.path.now ≡ c.name-item.result ∷ [] = sym c.names.ensures.names ∙ one-element c.names.result.now c.name-item.result long c.name-item.is in
    own-at c.args.store.now c.in-Some.set c.in-Some-set_property.p.at c.args.path.now c.name-item.result t one (let z = c.len.ensures in let none = c.if-len-gt0.false in omega (arith, z, none))
    (λ k. (λ i. option_map (λ x. x.1) (at_path (λ x. x.0) (map (column_at k) (sym c.as_slice.ensures.value i)) (sym c.names-2.ensures.names i))) ∙ c.column_place.ensures k ∙ ap (option_map (λ x. cell_in (slice_get c.as_slice.result.now x) k)) c.in_default-column_place.is)
    (λ k. c.in-Some.ensures.set k) c.in-Some-set_property.ensures
