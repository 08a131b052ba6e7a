use Rattle.std.proofs.Common.{◌∙◌, ap, length, sym, subst, IsTrue}
use Rattle.std.specs.Prelude.{nat_lt}
use Rattle.std.specs.List.{list_all}
use Rattle.edm_values.specs.Lists.{at_places}
use Rattle.apply_ast.specs.Views.{agg_of}
use Rattle.step_run.specs.Totals.{AreNodeLists}
use Rattle.std.proofs.Common.{map}
use Rattle.step_run.proofs.keyed_totals.rows_of_key.Goals as goal

pub places_at-requires : goal.places_at-requires
places_at-requires g c = subst (λ n. IsTrue (list_all (λ r. nat_lt r n) c.places.result.now)) (ap length c.in_ok-order.ensures.nodes ∙ c.requires.long) c.places.ensures.within

pub returns-clause-own : goal.returns-clause-own
returns-clause-own g c =
    let w = c.args.context.now.world in
    let l = at_places c.args.rows.now c.args.members.now in
    let items = map agg_of c.args.items.now in
    record {
      long = ap length c.in_ok-order.ensures.nodes ∙ c.requires.long;
      rows_within = subst (λ n. IsTrue (list_all (λ r. nat_lt r n) c.in_ok-order.order.rows)) (ap length c.in_ok-order.ensures.nodes ∙ c.requires.long) (subst (λ ks. IsTrue (list_all (λ r. nat_lt r (length c.in_ok-order.order.nodes)) ks)) c.places.ensures.value c.places.ensures.within);
      places_are = c.in_ok-places.ensures ∙ ap (at_places c.args.members.now) c.places.ensures.value;
      known_are = subst (λ ps. AreNodeLists w l ps c.in_ok-order.order.nodes items c.in_ok-known.known.items) (sym c.in_ok-order.ensures.parents)
          (subst (λ ns. AreNodeLists w l c.args.index.now ns items c.in_ok-known.known.items) (sym c.in_ok-order.ensures.nodes) c.in_ok-known.ensures);
    }
