use Rattle.std.proofs.Common.{◌≡◌, ◌<◌, ◌∙◌, ◌+◌, ℕ, length, ap, sym, arith, take, nat_eq}
use Rattle.std.specs.Prelude.{count_by}
use Rattle.std.proofs.lemmas.Grind.{get_or_default_zero}
use Rattle.std.proofs.lemmas.List.{take_all, length-set, length-take}
use Rattle.std.proofs.lemmas.List.Sums.{count_by-le-length}
use Rattle.edm_values.specs.Lists.{is_some_and}
use Rattle.edm_schema.specs.JsonTrees as tree
use Rattle.edm_schema.specs.ModelTrees.{leads_to, type_members, set_members}
use Rattle.edm_schema.specs.MemberLists.{member_seen, root_of}
use Rattle.edm_schema.specs.declared.members.Member.{Member}
use Rattle.edm_schema.proofs.SetCounts.{counted_more, listed_at, count_by-map}
use Rattle.edm_schema.proofs.rules.set_counts.Goals as goal

pub overflow_add-index_mut : goal.overflow_add-index_mut
overflow_add-index_mut c =
    let d = root_of c.args.schema.now in
    let sets = c.args.schema.now.sets.items in
    let place = c.in-Some.place in
    let counts = c.loop-member.counts.items in
    let is_for = λ (k : ℕ) (m : Member). leads_to d k (member_seen m).1 in
    let there : place < length counts = omega (arith, c.loop-member.invariant.size, c.in-Some.ensures.there) in
    let small : place < length (type_members d) = c.in-Some.ensures.there in
    let is : c.index_mut.result.now ≡ count_by (is_for place) (take c.loop-member.member-index sets) = c.index_mut.ensures.value ∙ (get_or_default_zero counts place c.index_mut.result.now there ∙ c.loop-member.invariant.counted place small) in
    omega (arith, count_by-le-length (is_for place) (take c.loop-member.member-index sets), length-take c.loop-member.member-index sets, c.args.schema.now.sets.ok.0)

pub loop-member-preserved : goal.loop-member-preserved
loop-member-preserved c =
    let d = root_of c.args.schema.now in
    let items = c.deref-member-items.ensures.value in
    record {
      size = length-set c.loop-member.counts.items c.in-Some.place (c.index_mut.result.now + 1) ∙ c.loop-member.invariant.size;
      counted = counted_more (λ (k : ℕ) (m : Member). leads_to d k (member_seen m).1) c.args.schema.now.sets.items c.loop-member.member-index c.member-item.result c.in-Some.place c.index_mut.result.now (length (type_members d)) c.loop-member.counts.items (rw items at c.loop-member-test.true) (rw items at c.member-item.is) (λ k. ap (is_some_and (nat_eq k)) (sym c.in-Some.ensures.value)) c.in-Some.ensures.there c.loop-member.invariant.size c.index_mut.ensures.value c.loop-member.invariant.counted;
    }

pub returns : goal.returns
returns c =
    record {
      value = let d = root_of c.args.schema.now in
          let sets = c.args.schema.now.sets.items in
          let is_for = λ (k : ℕ) (m : tree.Member). leads_to d k m.1 in
          let all : take c.loop-member.member-index sets ≡ sets = take_all c.loop-member.member-index sets (omega (arith, c.deref-member-items.ensures.len, ap length c.deref-member-items.ensures.value)) in
          listed_at (λ k. count_by (is_for k) (set_members d)) (length (type_members d)) c.loop-member.counts.items c.loop-member.invariant.size (λ k below.
          c.loop-member.invariant.counted k below
          ∙ (ap (count_by (λ (m : Member). is_for k (member_seen m))) all
          ∙ (sym (count_by-map (is_for k) member_seen sets) ∙ ap (count_by (is_for k)) c.requires.sets)));
    }
