use Rattle.std.proofs.Common.{◌≡◌, ◌∙◌, ap, sym, subst, length, true, IsTrue}
use Rattle.std.specs.Prelude.{IfOk, nat_lt, option_map}
use Rattle.std.specs.List.{list_all}
use Rattle.edm_values.specs.Lists.{at_places}
use Rattle.apply_ast.specs.Views.{expr_of}
use Rattle.apply_meaning.specs.Meaning.{values}
use Rattle.apply_meaning.specs.RowViews.{is_of}
use Rattle.apply_meaning.specs.Running.{all_of}
use Rattle.apply_meaning.proofs.RootLemmas.{all-at_places}
use Rattle.row_values.proofs.PlacedLemmas.{length-places, places-twice, places-within, seen-all, seen-at}
use Rattle.row_values.proofs.placed.PlacedRows.values_at.Goals as goal

pub values_at-requires-clause-of : goal.values_at-requires-clause-of
values_at-requires-clause-of c =
    let w = c.args.store.now in
    let s = c.self.inside in
    let all = seen-all s.list.now c.args.self.now (option_map (λ p. p.now) s.places) (ap (option_map (λ p. p.now)) c.in-None.is) c.self.view_is in
    all-at_places (is_of w) s.list.now c.args.places.now (subst (λ l. all_of w l ≡ true) (sym all) c.requires.of)

pub places_of-requires : goal.places_of-requires
places_of-requires c =
    let s = c.self.inside in
    let own = c.in-Some.own.now in
    let at = seen-at s.list.now c.args.self.now (option_map (λ p. p.now) s.places) own (ap (option_map (λ p. p.now)) c.in-Some.is) c.self.invariant c.self.view_is in
    subst (λ n. IsTrue (list_all (λ k. nat_lt k n) c.args.places.now)) (sym (ap length at.0) ∙ length-places s.list.now own at.1) c.requires.within

pub values_at-requires-in-Some-clause-of : goal.values_at-requires-in-Some-clause-of
values_at-requires-in-Some-clause-of c =
    let w = c.args.store.now in
    let s = c.self.inside in
    let own = c.in-Some.own.now in
    let at = seen-at s.list.now c.args.self.now (option_map (λ p. p.now) s.places) own (ap (option_map (λ p. p.now)) c.in-Some.is) c.self.invariant c.self.view_is in
    let size = subst (λ n. IsTrue (list_all (λ k. nat_lt k n) c.args.places.now)) (sym (ap length at.0) ∙ length-places s.list.now own at.1) c.requires.within in
    let same =
    ap (at_places s.list.now) (c.as_slice.ensures.value ∙ c.in_ok-inner-in-Some.ensures) ∙ places-twice s.list.now own c.args.places.now at.1 size
    ∙ ap (λ l. at_places l c.args.places.now) at.0 in
    subst (λ l. all_of w l ≡ true) (sym same) (all-at_places (is_of w) c.args.self.now c.args.places.now c.requires.of)

pub values_at-requires-in-Some-clause-within : goal.values_at-requires-in-Some-clause-within
values_at-requires-in-Some-clause-within c =
    let s = c.self.inside in
    let own = c.in-Some.own.now in
    let at = seen-at s.list.now c.args.self.now (option_map (λ p. p.now) s.places) own (ap (option_map (λ p. p.now)) c.in-Some.is) c.self.invariant c.self.view_is in
    subst (λ ks. IsTrue (list_all (λ k. nat_lt k (length s.list.now)) ks)) (sym (c.as_slice.ensures.value ∙ c.in_ok-inner-in-Some.ensures)) (places-within s.list.now own c.args.places.now at.1)

pub returns-in_ok-inner-in-Some : goal.returns-in_ok-inner-in-Some
returns-in_ok-inner-in-Some c =
    let s = c.self.inside in
    let own = c.in-Some.own.now in
    let at = seen-at s.list.now c.args.self.now (option_map (λ p. p.now) s.places) own (ap (option_map (λ p. p.now)) c.in-Some.is) c.self.invariant c.self.view_is in
    let size = subst (λ n. IsTrue (list_all (λ k. nat_lt k n) c.args.places.now)) (sym (ap length at.0) ∙ length-places s.list.now own at.1) c.requires.within in
    let same =
    ap (at_places s.list.now) (c.as_slice.ensures.value ∙ c.in_ok-inner-in-Some.ensures) ∙ places-twice s.list.now own c.args.places.now at.1 size
    ∙ ap (λ l. at_places l c.args.places.now) at.0 in
    record { value = subst (λ l. IfOk c.values_at-in-Some.result (λ vs. vs.items ≡ values c.args.store.now (expr_of c.args.e.now) l)) same c.values_at-in-Some.ensures.value }
