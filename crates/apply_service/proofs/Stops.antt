-- One stop is no other, and none where the stream was read to its end.
use Rattle.std.proofs.Common.{Err, Ok}
use Rattle.std.specs.Prelude.{IsErrOf}
use Rattle.apply_service.specs.declared.stream.Stop.{Stop}
use Rattle.apply_service.specs.declared.stream.Stop.TheVariants.{Read, Write, Limit}

pub read-no_write : {T X : Type 0} → IsErrOf {T = T} (Err Read) Write → X
read-no_write h = absurd cc

pub read-no_limit : {T X : Type 0} → IsErrOf {T = T} (Err Read) Limit → X
read-no_limit h = absurd cc

pub write-no_read : {T X : Type 0} → IsErrOf {T = T} (Err Write) Read → X
write-no_read h = absurd cc

pub write-no_limit : {T X : Type 0} → IsErrOf {T = T} (Err Write) Limit → X
write-no_limit h = absurd cc

pub limit-no_read : {T X : Type 0} → IsErrOf {T = T} (Err Limit) Read → X
limit-no_read h = absurd cc

pub limit-no_write : {T X : Type 0} → IsErrOf {T = T} (Err Limit) Write → X
limit-no_write h = absurd cc

pub ok-no_stop : {T X : Type 0} {x : T} {s : Stop} → IsErrOf (Ok x) s → X
ok-no_stop h = absurd cc
