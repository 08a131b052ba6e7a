use Rattle.std.proofs.Common.{◌≡◌, ◌<◌, ◌∙◌, ℕ, [], ap, length, map, get_or, take, arith}
use Rattle.std.proofs.lemmas.List.{get_or_default, take_all}
use Rattle.std.proofs.lemmas.List.Elements.{All-get_or}
use Rattle.std.proofs.lemmas.Simd.{map-map}
use Rattle.edm_values.specs.Lists.{places}
use Rattle.numbered_groups.specs.Numbered.{places_with}
use Rattle.step_run.proofs.GroupMembers.{members-long, members-more}
use Rattle.step_run.proofs.kept_groups.members_of.Goals as goal

pub loop-k-init : goal.loop-k-init
loop-k-init c =
    c.in_ok-lists.ensures
    ∙ ap (map (λ n. [])) (c.as_slice.ensures.value ∙ c.in_ok-counts.ensures)
    ∙ map-map (λ n. []) (λ j. length (places_with c.args.groups.now.numbers j)) (places (length c.args.groups.now.firsts))

pub index_mut-requires : goal.index_mut-requires
index_mut-requires c =
    let n = length c.args.groups.now.firsts in
    let xs = c.numbers-numbers.result.now in
    let size = members-long c.loop-k.lists.items (take c.loop-k.k xs) n c.loop-k.invariant in
    let small = All-get_or (λ a. a < n) xs c.loop-k.k 0 c.loop-k-test.true c.numbers-numbers.ensures.there in
    omega (arith, size, small)

pub loop-k-preserved : goal.loop-k-preserved
loop-k-preserved c =
    let n = length c.args.groups.now.firsts in
    let ns = c.args.groups.now.numbers in
    let xs = c.numbers-numbers.result.now in
    let k = c.loop-k.k in
    let at : ℕ = get_or xs k 0 in
    let small : at < n = All-get_or (λ a. a < n) xs k 0 c.loop-k-test.true c.numbers-numbers.ensures.there in
    members-more xs n k at c.loop-k.lists.items c.index_mut.result.now c.push.new.self c.loop-k-test.true (get_or_default xs k 0 at c.loop-k-test.true) small c.index_mut.ensures.value c.in_ok-push.ensures.items c.loop-k.invariant

pub returns-clause-lists : goal.returns-clause-lists
returns-clause-lists c =
    let xs = c.numbers-numbers.result.now in
    let all : take c.loop-k.k xs ≡ c.args.groups.now.numbers = take_all c.loop-k.k xs (omega (arith, c.loop-k-test.false)) ∙ c.numbers-numbers.ensures.value in
    c.loop-k.invariant ∙ ap (λ ns. map (places_with ns) (places (length c.args.groups.now.firsts))) all

pub returns-clause-size : goal.returns-clause-size
returns-clause-size c = members-long c.loop-k.lists.items (take c.loop-k.k c.numbers-numbers.result.now) (length c.args.groups.now.firsts) c.loop-k.invariant
