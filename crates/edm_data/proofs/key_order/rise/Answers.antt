use Rattle.std.proofs.Common.{◌≡◌, ◌-◌, get_or, sym, ap, ◌∙◌}
use Rattle.std.specs.declared.cmp.Ordering.TheVariants.{Less}
use Rattle.edm_data.proofs.RisingLemmas.{less_from, rise-one, rise-more}
use Rattle.edm_data.proofs.key_order.rise.Goals as goal

pub loop-k-init : goal.loop-k-init
loop-k-init g c = rise-one g.K.Ord.cmp c.args.keys.now

pub loop-k-preserved : goal.loop-k-preserved
loop-k-preserved g c =
    let keys = c.args.keys.now in
    let k = c.loop-k.k in
    let a = c.index-keys-k.result in
    let b = c.index-keys-k-in-loop-k.result in
    let less : g.K.Ord.cmp a b ≡ Less = sym c.cmp.ensures ∙ less_from c.cmp.result (sym c.is_lt.ensures ∙ c.if-not-is_lt.false) in
    let placed : g.K.Ord.cmp (get_or keys (k - 1) a) (get_or keys k b) ≡ Less = ap (λ x. g.K.Ord.cmp x (get_or keys k b)) (sym c.index-keys-k.is) ∙ ap (g.K.Ord.cmp a) (sym c.index-keys-k-in-loop-k.is) ∙ less in
    rise-more g.met.K.Ord.total keys k a b c.loop-k.auto.k c.loop-k-test.true placed c.loop-k.invariant
