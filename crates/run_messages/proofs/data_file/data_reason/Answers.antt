use Rattle.std.proofs.Common.{Err, ap}
use Rattle.run_messages.proofs.ReasonLaws.{data_told}
use Rattle.run_messages.proofs.data_file.data_reason.Goals as goal

pub returns : goal.returns
returns c =
    record {
      value = let e = c.in-Err.ensures in
          data_told c.args.model_bytes.now c.args.bytes.now c.in-Ok-Ok.given c.in-Err.refused c.refusal_reason.result c.in-Ok-Ok.ensures.ok
          (λ q. e.too_long (ap Err q)) (λ q. e.json (ap Err q)) (λ name q. e.set name (ap Err q)) (λ s k q. e.shape s k (ap Err q)) (λ s k q. e.twice_key s k (ap Err q)) (λ s k q. e.dangling s k (ap Err q))
          c.refusal_reason.ensures;
    }
