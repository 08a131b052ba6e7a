use Rattle.std.proofs.Common.{◌<◌, ◌-◌, sym, ◌∙◌, ap, arith, length}
use Rattle.std.proofs.Math.Seq.{map-set_same}
use Rattle.std.proofs.lemmas.List.Folds.{list_all-map}
use Rattle.optimiser.specs.HeldSegments.{is_right, outline}
use Rattle.optimiser.proofs.HeldLists.{all-at, put-at}
use Rattle.optimiser.proofs.putting.put_test.Goals as goal

pub take-requires : goal.take-requires
take-requires c =
    let m = c.args.m.now in
    let gs = c.args.segments.now.items in
    let g = c.index_mut-last.result.now in
    let n = ap length c.as_slice.ensures.value in
    let at : c.unpassed-k.result - 1 < length gs = omega (arith, n, c.unpassed-k.ensures.within, c.if-k-gt0.true) in
    ap (λ x. is_right m x.entry) c.index_mut-last.ensures.value
    ∙ all-at (λ x. is_right m x.entry) gs (c.unpassed-k.result - 1) g at (sym (list_all-map (λ x. is_right m x.1) outline gs) ∙ c.requires.right)

pub returns-in_ok-take-clause-value : goal.returns-in_ok-take-clause-value
returns-in_ok-take-clause-value c w =
    let m = c.args.m.now in
    let g = c.index_mut-last.result.now in
    put-at m w c.args.test c.args.segments.now.items c.as_slice.result.now c.unpassed-k.result g _ c.as_slice.ensures.value (c.unpassed-k.ensures.place m w) c.unpassed-k.ensures.within c.if-k-gt0.true c.index_mut-last.ensures.value (c.in_ok-take.ensures.value w)

pub returns-in_ok-take-clause-kept : goal.returns-in_ok-take-clause-kept
returns-in_ok-take-clause-kept c =
    map-set_same outline c.args.segments.now.items (c.unpassed-k.result - 1) _ c.index_mut-last.result.now (c.in_ok-take.ensures.kept ∙ ap outline c.index_mut-last.ensures.value)
