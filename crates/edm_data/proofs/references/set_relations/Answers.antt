use Rattle.std.proofs.Common.{◌≡◌, ◌+◌, ◌≤◌, ◌||◌, [], length, refl, sym, ap, subst, ◌∙◌, arith}
use Rattle.edm_data.specs.Links.{AreRelations, IsFirstOf, IsLeast, IsOfNav, nav_dangles, relation_in}
use Rattle.edm_data.specs.DataFile.{is_dangling}
use Rattle.edm_data.specs.References.{count, navigations_in}
use Rattle.edm_data.specs.Worlds.{entity_at}
use Rattle.edm_data.proofs.ReferenceLemmas.{IsNavAt, nav_item, nav_number}
use Rattle.edm_data.proofs.RelationLemmas.{any_dangles, any_dangles-more, any_dangles-all, earlier-None, from_none, least-none, least-or, least-same, of-more, HasRelations-all}
use Rattle.edm_data.proofs.references.set_relations.Goals as goal

pub loop-n-init : goal.loop-n-init
loop-n-init c =
    let empty : c.new-relations.result ≡ [] = c.new-relations.ensures in
    record {
      kept = subst (AreRelations c.args.keyed.now c.args.s) (sym empty) (λ n r h. cc);
      len = λ h. ap length empty;
      of = λ h n less. absurd (omega arith);
      least = least-none (any_dangles c.args.keyed.now c.args.s 0) (count c.args.keyed.now c.args.s) (λ k less. refl);
    }

pub add_relation-requires-clause-of : goal.add_relation-requires-clause-of
add_relation-requires-clause-of c =
    let nav = subst (λ w. IsNavAt w.model c.args.s c.loop-n.n-index c.n-item.result) c.tables.ensures.value (nav_item c.tables.result.now.model c.args.s c.navs-n-items.result.now c.loop-n.n-index c.n-item.result c.navs-n-items.ensures.there c.navs-n-items.ensures.value c.loop-n-test.true c.n-item.is) in
    nav.of

pub add_relation-requires-clause-there : goal.add_relation-requires-clause-there
add_relation-requires-clause-there c =
    let nav = subst (λ w. IsNavAt w.model c.args.s c.loop-n.n-index c.n-item.result) c.tables.ensures.value (nav_item c.tables.result.now.model c.args.s c.navs-n-items.result.now c.loop-n.n-index c.n-item.result c.navs-n-items.ensures.there c.navs-n-items.ensures.value c.loop-n-test.true c.n-item.is) in
    nav.there

pub loop-n-preserved : goal.loop-n-preserved
loop-n-preserved c =
    let w = c.args.keyed.now in
    let s = c.args.s in
    let i = c.loop-n.n-index in
    let old = c.loop-n.relations in
    let new = c.add_relation.new.relations in
    let nav = subst (λ w. IsNavAt w.model s i c.n-item.result) c.tables.ensures.value (nav_item c.tables.result.now.model s c.navs-n-items.result.now i c.n-item.result c.navs-n-items.ensures.there c.navs-n-items.ensures.value c.loop-n-test.true c.n-item.is) in
    let at : c.n-item.result.at ≡ i = nav.at in
    let here : IsLeast (nav_dangles w s i) (count w s) c.in_ok-found.found = subst (λ n. IsLeast (nav_dangles w s n) (count w s) c.in_ok-found.found) at c.in_ok-found.ensures.first in
    let both : IsLeast (any_dangles w s (i + 1)) (count w s) c.earlier-first.result = subst (IsLeast (any_dangles w s (i + 1)) (count w s)) (sym c.earlier-first.ensures) (least-same (λ k. any_dangles w s i k || nav_dangles w s i k) (any_dangles w s (i + 1)) (count w s) _ (any_dangles-more w s i) (least-or (any_dangles w s i) (nav_dangles w s i) (count w s) c.loop-n.first c.in_ok-found.found c.loop-n.invariant.least here)) in
    record {
      kept = c.in_ok-found.ensures.kept;
      len = λ h.
          let none = earlier-None c.loop-n.first c.in_ok-found.found (sym c.earlier-first.ensures ∙ h) in
          from_none c.in_ok-found.found (length new ≡ length old + 1) none.1 c.in_ok-found.ensures.len ∙ ap (λ n. n + 1) (c.loop-n.invariant.len none.0);
      of = λ h.
          let none = earlier-None c.loop-n.first c.in_ok-found.found (sym c.earlier-first.ensures ∙ h) in
          let last : IsOfNav w.model s c.n-item.result.at (relation_in new (length old)) = from_none c.in_ok-found.found (IsOfNav w.model s c.n-item.result.at (relation_in new (length old))) none.1 c.in_ok-found.ensures.last in
          of-more w s i old new (c.loop-n.invariant.len none.0) c.in_ok-found.ensures.before (subst (λ n. IsOfNav w.model s n (relation_in new (length old))) at last) (c.loop-n.invariant.of none.0);
      least = both;
    }

pub returns-in-None-clause-ok : goal.returns-in-None-clause-ok
returns-in-None-clause-ok c =
    let w = c.args.keyed.now in
    let number = subst (λ w. length c.navs-n-items.result.now ≡ length (navigations_in w.model c.args.s)) c.tables.ensures.value (nav_number c.tables.result.now.model c.args.s c.navs-n-items.result.now (rw c.tables.ensures.value c.requires) c.navs-n-items.ensures.value) in
    let over : length c.navs-n-items.result.now ≤ c.loop-n.n-index = omega arith in
    HasRelations-all w c.args.s c.loop-n.n-index c.loop-n.relations (rw number at over) (c.loop-n.invariant.len c.in-None.is) c.loop-n.invariant.kept (c.loop-n.invariant.of c.in-None.is)

pub returns-in-None-clause-sound : goal.returns-in-None-clause-sound
returns-in-None-clause-sound c = λ k less.
    let w = c.args.keyed.now in
    let number = subst (λ w. length c.navs-n-items.result.now ≡ length (navigations_in w.model c.args.s)) c.tables.ensures.value (nav_number c.tables.result.now.model c.args.s c.navs-n-items.result.now (rw c.tables.ensures.value c.requires) c.navs-n-items.ensures.value) in
    let over : length c.navs-n-items.result.now ≤ c.loop-n.n-index = omega arith in
    sym (any_dangles-all w c.args.s c.loop-n.n-index k (rw number at over)) ∙ c.loop-n.invariant.least.none c.in-None.is k less

pub returns-in-Some-clause-dangling : goal.returns-in-Some-clause-dangling
returns-in-Some-clause-dangling c = λ k is.
    let w = c.args.keyed.now in
    let s = c.args.s in
    let number = subst (λ w. length c.navs-n-items.result.now ≡ length (navigations_in w.model c.args.s)) c.tables.ensures.value (nav_number c.tables.result.now.model c.args.s c.navs-n-items.result.now (rw c.tables.ensures.value c.requires) c.navs-n-items.ensures.value) in
    let over : length c.navs-n-items.result.now ≤ c.loop-n.n-index = omega arith in
    let same : c.in-Some.k ≡ k = cc in
    let all = least-same (any_dangles w s c.loop-n.n-index) (λ q. is_dangling w (entity_at s q)) (count w s) c.loop-n.first (λ q. any_dangles-all w s c.loop-n.n-index q (rw number at over)) c.loop-n.invariant.least in
    subst (IsFirstOf (λ q. is_dangling w (entity_at s q)) (count w s)) same (all.some c.in-Some.k c.in-Some.is)
