use Rattle.std.proofs.Common.{◌∙◌, ap, sym, arith}
use Rattle.std.proofs.lemmas.List.{get_or_default}
use Rattle.std.specs.Prelude.{option_map}
use Rattle.context_typing.proofs.PathLemmas.{same_paths}
use Rattle.json_render.specs.RowTexts.{prefix_set}
use Rattle.json_render.proofs.Agreement.{agree_more}
use Rattle.json_render.proofs.patterns.same_prefixes.Goals as goal

pub loop-k-preserved : goal.loop-k-preserved
loop-k-preserved c =
    let path = sym c.names.ensures.names ∙ same_paths _ _ (sym c.same_path.ensures.value ∙ c.if-not-same_path.false) ∙ c.names-in-loop-k.ensures.names ∙ ap (λ x. x.0) (sym c.index-b-k.is) in
    let set = c.same_set.ensures c.if-not-same_set.false
    ∙ ap (λ x. option_map (λ e. e.set) x.1) (get_or_default c.args.b.now c.loop-k.k c.index-b-k-else-not-same_path.result c.index-b-k.result (omega arith) ∙ sym c.index-b-k.is) in
    agree_more prefix_set c.args.a.now c.args.b.now c.loop-k.k c.index-a-k.result c.index-b-k.result (omega arith) (omega arith) c.index-a-k.is c.index-b-k.is
    (λ i. (path i, set i)) c.loop-k.invariant
