use Rattle.std.proofs.Common.{◌≡◌, length, map, take}
use Rattle.std.proofs.lemmas.Result.{IfOk-weaker}
use Rattle.edm_model.specs.IdLists.{custom_list}
use Rattle.custom_readings.proofs.ReadLists.{first-ids}
use Rattle.custom_readings.proofs.readings.read_customs.Goals as goal

pub returns-clause-ids : goal.returns-clause-ids
returns-clause-ids c =
    IfOk-weaker c.read_list.result _ (λ l. map (λ r. r.id) l.items ≡ take (length l.items) (map (λ u. u.id) (custom_list c.args.m.now))) (λ l are. first-ids (custom_list c.args.m.now) l.items (rw c.customs-customs.ensures.value at are)) c.read_list.ensures
