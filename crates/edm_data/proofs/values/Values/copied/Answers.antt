use Rattle.std.proofs.Common.{◌≡◌, ◌∷◌, [], ◌++◌, take, get_or, sym, ap, ◌∙◌, arith}
use Rattle.std.proofs.lemmas.List.{take_more}
use Rattle.std.proofs.lemmas.Option.{unwrap_or-slice_get}
use Rattle.edm_values.specs.declared.Value.{Value}
use Rattle.edm_data.proofs.values.Values.copied.Goals as goal

pub loop-place-preserved : goal.loop-place-preserved
loop-place-preserved c =
    let vs = c.args.self.now in
    let k = c.loop-place.place in
    let here : c.in_ok-own.field-0 ≡ get_or vs k Value.Null = c.in_ok-own.ensures.value ∙ c.get.ensures ∙ unwrap_or-slice_get vs k Value.Null in
    c.in_ok-push.ensures.items ∙ ap (λ l. l ++ c.in_ok-own.field-0 ∷ []) c.loop-place.invariant ∙ ap (λ v. take k vs ++ v ∷ []) here ∙ sym (take_more vs k Value.Null (omega (arith, c.len-place-end.ensures)))
