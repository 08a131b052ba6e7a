use Rattle.std.proofs.Common.{◌∙◌, ◌<◌, ap, false, map, subst, sym, ℕ, IfSome}
use Rattle.std.specs.Prelude.{slice_index_or}
use Rattle.std.proofs.lemmas.Result.{IfOk-weaker}
use Rattle.edm_values.specs.Lists.{places}
use Rattle.edm_data.specs.Hierarchies.{rows_whose}
use Rattle.edm_data.specs.LinkLists.{link_in}
use Rattle.hier_rows.specs.Sources.{node_at, own_at}
use Rattle.hier_rows.proofs.SetLaws.{places-whose}
use Rattle.hier_rows.proofs.set_climbs.marked_in_set.Goals as goal

pub returns-in-Own : goal.returns-in-Own
returns-in-Own c = IfOk-weaker c.own_in_set.result _ _
    (λ v e. e ∙ places-whose (λ (x : ℕ). slice_index_or c.args.marks.now x false) (own_at c.in-Own.own) c.args.count
    ∙ ap (λ s. rows_whose (λ x. slice_index_or c.args.marks.now x false) (map (node_at s) (places c.args.count))) (sym c.in-Own.is))
    c.own_in_set.ensures

pub linking_in_set-requires : goal.linking_in_set-requires
linking_in_set-requires c = λ k. subst (λ s. IfSome (node_at s k) (λ x. x < c.args.nodes)) c.in-Linked.is (c.requires k)

pub returns-in-Linked : goal.returns-in-Linked
returns-in-Linked c = IfOk-weaker c.linking_in_set.result _ _
    (λ v e. e ∙ places-whose (λ (x : ℕ). slice_index_or c.args.marks.now x false) (link_in c.in-Linked.links) c.args.count
    ∙ ap (λ s. rows_whose (λ x. slice_index_or c.args.marks.now x false) (map (node_at s) (places c.args.count))) (sym c.in-Linked.is))
    c.linking_in_set.ensures
