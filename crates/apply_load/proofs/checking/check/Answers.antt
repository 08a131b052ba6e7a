use Rattle.std.proofs.Common.{rules, ◌≡◌, ◌∙◌, ◌<◌, ap, sym, subst, length, get_or, arith}
use Rattle.edm_model.specs.Models.{Part}
use Rattle.edm_model.specs.IdLists.{hierarchy_parts}
use Rattle.edm_data.specs.Worlds.{World}
use Rattle.hier_states.specs.States.{IsStateOf}
use Rattle.hier_states.specs.declared.states.HierState.{HierState}
use Rattle.apply_load.proofs.Beside.{zip-length, zip-at}
use Rattle.apply_load.proofs.checking.check.Goals as goal

pub bounds-states-k : goal.bounds-states-k
bounds-states-k c =
    let w = c.args.store.now.world in
    let same = zip-length (IsStateOf w) (hierarchy_parts w.model) c.hiers-states.result.now c.hiers-states.ensures.states in
    let ids : c.hiers-ids.result.now ≡ hierarchy_parts w.model = c.hiers-ids.ensures.value ∙ ap hierarchy_parts c.model.ensures.value in
    omega (arith, c.loop-k-test.true, same, ap length ids)

pub offset_bounds-states-k : goal.offset_bounds-states-k
offset_bounds-states-k c =
    let within : c.loop-k.k < length c.hiers-states.result.now =
    let w = c.args.store.now.world in
    let same = zip-length (IsStateOf w) (hierarchy_parts w.model) c.hiers-states.result.now c.hiers-states.ensures.states in
    let ids : c.hiers-ids.result.now ≡ hierarchy_parts w.model = c.hiers-ids.ensures.value ∙ ap hierarchy_parts c.model.ensures.value in
    omega (arith, c.loop-k-test.true, same, ap length ids) in
    search (rules, within)

pub push_line-requires-clause-state : goal.push_line-requires-clause-state
push_line-requires-clause-state c =
    let w = c.args.store.now.world in
    let ids : c.hiers-ids.result.now ≡ hierarchy_parts w.model = c.hiers-ids.ensures.value ∙ ap hierarchy_parts c.model.ensures.value in
    let at = zip-at (IsStateOf w) (hierarchy_parts w.model) c.hiers-states.result.now c.loop-k.k c.index-ids-k.result c.index-states-k.result c.hiers-states.ensures.states (omega (arith, c.loop-k-test.true, ap length ids)) in
    let place : c.index-ids-k.result ≡ get_or (hierarchy_parts w.model) c.loop-k.k c.index-ids-k.result = c.index-ids-k.is ∙ ap (λ l. get_or l c.loop-k.k c.index-ids-k.result) ids in
    let P : Part → Type 0 = λ p. IsStateOf w p (get_or c.hiers-states.result.now c.loop-k.k c.index-states-k.result) in
    let Q : HierState → Type 0 = λ h. IsStateOf w c.index-ids-k.result h in
    let R : World → Type 0 = λ v. IsStateOf v c.index-ids-k.result c.index-states-k.result in
    subst R (sym c.data-in-loop-k.ensures.value) (subst Q (sym c.index-states-k.is) (subst P (sym place) at))
