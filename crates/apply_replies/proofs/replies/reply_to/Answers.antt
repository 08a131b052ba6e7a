use Rattle.std.proofs.Common.{ap, Err}
use Rattle.apply_grammar.specs.Requests.{asked_of}
use Rattle.apply_replies.proofs.Reasons.{reply-found, reply-stops, reply-long, reply-memory, request-within}
use Rattle.apply_replies.proofs.replies.reply_to.Goals as goal

pub returns-in-Ok-clause-reply : goal.returns-in-Ok-clause-reply
returns-in-Ok-clause-reply g c = reply-found c.response_to.result _ _ _ _ _ c.in-Ok.ensures.too_long c.in-Ok.ensures.found c.response_to.ensures.response c.made.ensures

pub returns-in-Ok-clause-steps : goal.returns-in-Ok-clause-steps
returns-in-Ok-clause-steps g c = λ n bounds. c.response_to.ensures.steps n (bounds (request-within _ _ c.in-Ok.ensures.too_long) (asked_of c.in-Ok.request) c.in-Ok.ensures.found)

pub returns-in-Err-TooLong-clause-reply : goal.returns-in-Err-TooLong-clause-reply
returns-in-Err-TooLong-clause-reply g c = reply-long _ _ _ _ (c.in-Err-TooLong.ensures.too_long.0 (ap Err c.in-Err-TooLong.field-0-is)) c.too_long.ensures

pub returns-in-Err-Syntax-clause-reply : goal.returns-in-Err-Syntax-clause-reply
returns-in-Err-Syntax-clause-reply g c =
    reply-stops c.no_request.result _ _ _ _ _ (rw c.in-Err-Syntax.field-0-is at c.in-Err-Syntax.ensures.too_long) (rw c.in-Err-Syntax.field-0-is at c.in-Err-Syntax.ensures.syntax) c.no_request.ensures c.made-in-Err-Syntax.ensures

pub returns-in-Err-Memory-clause-reply : goal.returns-in-Err-Memory-clause-reply
returns-in-Err-Memory-clause-reply g c =
    reply-memory _ _ _ _ (rw c.in-Err-Memory.field-0-is at c.in-Err-Memory.ensures.too_long) c.out_of_memory.ensures
