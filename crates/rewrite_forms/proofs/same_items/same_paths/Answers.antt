use Rattle.std.proofs.Common.{sym, ◌∙◌, arith}
use Rattle.context_typing.specs.Paths.{same_path}
use Rattle.rewrite_forms.proofs.SameLists.{same-end, same-next, same-stop}
use Rattle.rewrite_forms.proofs.same_items.same_paths.Goals as goal

pub loop-i-preserved : goal.loop-i-preserved
loop-i-preserved c =
    same-next same_path c.args.a.now c.args.b.now c.loop-i.i c.index-a-i.result c.index-b-i.result (omega arith) c.index-a-i.is (omega arith) c.index-b-i.is c.loop-i.invariant
    (sym (c.same_path.ensures.value ∙ (λ i. same_path (c.names.ensures.names i) (c.names-in-loop-i.ensures.names i))) ∙ c.if-not-same_path.false)

pub returns-then-not-same_path : goal.returns-then-not-same_path
returns-then-not-same_path c =
    same-stop same_path c.args.a.now c.args.b.now c.loop-i.i c.index-a-i.result c.index-b-i.result (omega arith) c.index-a-i.is (omega arith) c.index-b-i.is c.loop-i.invariant
    (sym (c.same_path.ensures.value ∙ (λ i. same_path (c.names.ensures.names i) (c.names-in-loop-i.ensures.names i))) ∙ c.if-not-same_path.true)

pub returns : goal.returns
returns c = same-end same_path c.args.a.now c.args.b.now c.loop-i.i (omega arith) (omega arith) c.loop-i.invariant
