use Rattle.std.proofs.Common.{◌∙◌, ◌++◌, ap, arith, get_or, length}
use Rattle.std.proofs.lemmas.List.{take_all}
use Rattle.edm_values.specs.declared.Value.{Value}
use Rattle.aggregate_ops.proofs.SameLemmas.{put-more}
use Rattle.aggregate_ops.proofs.hashed.HashedKey.put_values.Goals as goal

pub loop-k-preserved : goal.loop-k-preserved
loop-k-preserved c =
    let own = c.self.view_is in
    put-more _ _ c.args.values.now.items c.args.self.now c.loop-k.k _ (omega (arith, ap length own)) (c.in_ok-own.ensures.value ∙ c.value_at.ensures ∙ ap (λ ks. get_or ks c.loop-k.k Value.Null) own) c.loop-k.invariant c.in_ok-push.ensures.items

pub returns : goal.returns
returns c = c.loop-k.invariant ∙ ap (λ ks. c.args.values.now.items ++ ks) (take_all c.loop-k.k c.args.self.now (omega (arith, ap length c.self.view_is)))
