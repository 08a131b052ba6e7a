use Rattle.std.proofs.Common.{◌≡◌, ◌∙◌, IfOk, Option, subst, sym}
use Rattle.context_typing.specs.Shapes.{Shape}
use Rattle.context_typing.proofs.MergeFacts.{concat-joined, concat-refused}
use Rattle.context_typing.proofs.merging.concat_shape.Goals as goal

pub returns-then-may_join : goal.returns-then-may_join
returns-then-may_join c =
    let P : Option Shape → Type 0 = λ r. IfOk c.joined_branches.result (λ o. o ≡ r) in
    record { value = subst P (concat-joined c.args.m.now c.args.shapes.now (sym c.may_join.ensures ∙ c.if-may_join.true)) c.joined_branches.ensures }

pub returns-else-may_join : goal.returns-else-may_join
returns-else-may_join c = record { value = concat-refused c.args.m.now c.args.shapes.now (sym c.may_join.ensures ∙ c.if-may_join.false) }
