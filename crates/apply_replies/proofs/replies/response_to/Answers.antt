use Rattle.std.proofs.Common.{sym}
use Rattle.apply_grammar.specs.Requests.{asked_of}
use Rattle.context_typing.specs.Readings.{readings}
use Rattle.apply_replies.specs.Replies.{no_set, no_type}
use Rattle.apply_replies.proofs.Responding.{respond, untyped-over}
use Rattle.apply_replies.proofs.replies.response_to.Goals as goal

pub returns-in_default-clause-response : goal.returns-in_default-clause-response
returns-in_default-clause-response g c =
    respond c.args.store.now.world (readings c.args.store.now.customs) (asked_of c.args.request.now) _ _
    (no_set (sym (rw (c.model.ensures.value, c.text-set_name.ensures.value) at c.in_default.ensures.value))) (rw c.text-set_name.ensures.value at c.in_ok-not_found.ensures)

pub returns-in_ok-untyped-in-Err-At-clause-response : goal.returns-in_ok-untyped-in-Err-At-clause-response
returns-in_ok-untyped-in-Err-At-clause-response g c =
    respond c.args.store.now.world (readings c.args.store.now.customs) (asked_of c.args.request.now) _ _
    (no_type c.in-Some.set c.in-Err-At.k (sym (rw (c.model.ensures.value, c.text-set_name.ensures.value) at c.in-Some.ensures.value))
    (untyped-over c.args.store.now.world (asked_of c.args.request.now) c.in-Some.set _ _ _ c.model-2.ensures.value c.customs.ensures.value c.in-Err-At.k (rw c.in-Err-At.field-0-is at c.in-Err-At.ensures.untyped)))
    (rw c.in-Err-At.k-is at c.in_ok-untyped-in-Err-At.ensures)
