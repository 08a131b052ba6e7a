use Rattle.std.proofs.Common.{◌≡◌, sym, subst, map, false}
use Rattle.std.specs.Prelude.{IfOk, IfSome}
use Rattle.std.specs.List.{list_any}
use Rattle.edm_values.specs.Values.{is_beyond}
use Rattle.row_frames.specs.Frames.{leaf_value}
use Rattle.row_frames.proofs.text_codes.leaf_codes.Goals as goal

pub returns-in-Own-clause-within : goal.returns-in-Own-clause-within
returns-in-Own-clause-within g c = λ w. subst (λ l. IfOk c.values_codes.result (λ o. IfSome o (λ _. list_any is_beyond (map (λ x. leaf_value w c.args.table.now x.row l) c.args.picks.now) ≡ false))) (sym c.in-Own.is) c.values_codes.ensures.within

pub returns-in-Linked-clause-within : goal.returns-in-Linked-clause-within
returns-in-Linked-clause-within g c = λ w. subst (λ l. IfOk c.values_codes-in-Linked.result (λ o. IfSome o (λ _. list_any is_beyond (map (λ x. leaf_value w c.args.table.now x.row l) c.args.picks.now) ≡ false))) (sym c.in-Linked.is) c.values_codes-in-Linked.ensures.within
