use Rattle.std.proofs.Common.{rules, ◌≡◌, ◌+◌, ◌∙◌, [], length, get_or, subst, ap, sym, arith, ℕ, List}
use Rattle.std.specs.Prelude.{slice_index}
use Rattle.std.proofs.lemmas.List.{get_or_read}
use Rattle.edm_values.specs.declared.Value.{Value}
use Rattle.aggregate_ops.specs.Fronts.{with_first}
use Rattle.aggregate_ops.proofs.NumberLemmas.{AreStepsTo, step_at, steps-begin, steps-done, steps-next}
use Rattle.aggregate_ops.proofs.fronts.next_fronts.Goals as goal

pub loop-i-init : goal.loop-i-init
loop-i-init c = steps-begin c.args.front c.args.groups.now c.args.before.now c.with_hasher-steps.result.keys c.new-firsts.result.items c.in_ok-numbers.numbers.items (search rules) c.new-firsts.ensures.items (ap length c.in_ok-numbers.ensures.items)

pub loop-i-preserved : goal.loop-i-preserved
loop-i-preserved c =
    let n = c.args.front in
    let groups = c.args.groups.now in
    let before = c.args.before.now in
    let i = c.loop-i.i in
    let stored = c.in_ok-number.ensures.stored in
    let read = get_or_read groups i c.index-groups-i.result c.loop-i-test.true c.index-groups-i.is ([], []) in
    let own : c.of-step.result ≡ step_at n groups before i =
    c.of-step.ensures ∙ ap (λ v. record { before = slice_index before i; value = v }) (c.value.ensures ∙ ap (λ g. get_or g.0 n Value.Null) read) in
    let next = steps-next n groups before c.loop-i.steps.keys c.insert_full.new.self.keys c.loop-i.firsts.items c.loop-i.numbers.items i c.in_ok-number.number c.in_ok-number.is_new c.of-step.result stored.0
    c.requires.before c.requires.long c.loop-i-test.true c.loop-i.invariant own c.in_ok-number.ensures.keys stored.1 stored.2 c.in_ok-number.ensures.added in
    let P : List ℕ → Type 0 = λ fs. AreStepsTo n groups before c.insert_full.new.self.keys fs c.push.new.self.items (i + 1) in
    let Q : List ℕ → Type 0 = λ ns. AreStepsTo n groups before c.insert_full.new.self.keys (with_first c.in_ok-number.is_new c.loop-i.firsts.items i) ns (i + 1) in
    subst P (sym c.in_ok-put_first.ensures) (subst Q (sym c.in_ok-push.ensures.items) next)

pub returns : goal.returns
returns c = steps-done c.args.front c.args.groups.now c.args.before.now c.loop-i.steps.keys c.loop-i.firsts.items c.loop-i.numbers.items c.loop-i.i c.loop-i.invariant (omega arith)
