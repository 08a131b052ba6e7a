use Rattle.std.proofs.Common.{◌≡◌, ◌∙◌, [], ap, false, flat_map, subst, ℕ, IfSome}
use Rattle.std.specs.Prelude.{filter, if◌then◌else◌, nat_eq, slice_index_or}
use Rattle.std.specs.List.{list_any}
use Rattle.std.proofs.lemmas.Result.{IfOk-weaker}
use Rattle.edm_values.specs.Lists.{places}
use Rattle.edm_data.specs.LinkLists.{linking_to}
use Rattle.hier_rows.proofs.SetLaws.{linking-places}
use Rattle.hier_rows.proofs.set_climbs.linking_in_set.Goals as goal

pub returns-in-Some : goal.returns-in-Some
returns-in-Some c = IfOk-weaker c.in_order.result _ _
    (λ v e. e ∙ ap (λ l. filter (λ k. list_any (nat_eq k) l) (places c.args.count)) c.as_slice.ensures.value
    ∙ linking-places (λ (x : ℕ). slice_index_or c.args.marks.now x false) c.args.nodes c.args.count c.args.links.now c.in-Some.found.items
    (subst (λ o. IfSome o (λ v. v.items ≡ flat_map (λ x. if slice_index_or c.args.marks.now x false then linking_to x c.args.links.now else []) (places c.args.nodes))) c.in-Some.is c.in_ok-found.ensures)
    c.requires)
    c.in_order.ensures
