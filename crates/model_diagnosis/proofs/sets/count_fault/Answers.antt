-- An entity type with no set or several.
use Rattle.std.proofs.Common.{◌≡◌, ◌<◌, ◌==◌, true, false, not, length, sym, ◌∙◌, ap, subst, arith}
use Rattle.std.specs.Prelude.{count_by}
use Rattle.std.specs.List.{list_all}
use Rattle.std.proofs.lemmas.Bool.Decides.{nat_tests}
use Rattle.std.proofs.lemmas.Bool.{and_from}
use Rattle.edm_values.specs.Lists.{exactly_one, places}
use Rattle.edm_schema.specs.JsonTrees as tree
use Rattle.edm_schema.specs.ModelTrees.{leads_to, set_members, type_members}
use Rattle.edm_schema.specs.MemberLists.{root_of}
use Rattle.edm_schema.proofs.Counted.{all_places_more}
use Rattle.edm_schema.proofs.Mapped.{length-mapped}
use Rattle.model_diagnosis.proofs.Found.{any_type, as_many, count_at}
use Rattle.model_diagnosis.proofs.sets.count_fault.Goals as goal
use Rattle.edm_values.proofs.TopPlaces.{length-places}

pub index-requires-then-index-ne1 : goal.index-requires-then-index-ne1
index-requires-then-index-ne1 c =
    let d = root_of c.args.schema.now in
    let size = ap length c.in_ok-counts.ensures.value ∙ (length-mapped (λ k. count_by (λ (m : tree.Member). leads_to d k m.1) (set_members d)) (places (length (type_members d))) ∙ length-places (length (type_members d))) in
    omega (arith, size, c.len-k-end.ensures, as_many c.args.schema.now c.requires)

pub returns-then-index-ne1-clause-found : goal.returns-then-index-ne1-clause-found
returns-then-index-ne1-clause-found c =
    let s = c.args.schema.now in
    let d = root_of s in
    let size = ap length c.in_ok-counts.ensures.value ∙ (length-mapped (λ k. count_by (λ (m : tree.Member). leads_to d k m.1) (set_members d)) (places (length (type_members d))) ∙ length-places (length (type_members d))) in
    let below : c.loop-k.k < length (type_members d) = omega (arith, size, c.len-k-end.ensures) in
    let within : c.loop-k.k < length s.types.items = omega (arith, below, as_many s c.requires) in
    let count = count_at (λ k. count_by (λ (m : tree.Member). leads_to d k m.1) (set_members d)) (length (type_members d)) c.loop-k.k c.in_ok-counts.counts.items c.index.result.now c.in_ok-counts.ensures.value below c.index.ensures in
    let other : (c.index.result.now == 1) ≡ false = grind (arith, nat_tests) in
    any_type s c.requires (λ k. not (exactly_one (λ (m : tree.Member). leads_to d k m.1) (set_members d))) c.loop-k.k c.index-then-index-ne1.result.now c.index-then-index-ne1.ensures within (ap not (ap (λ n. n == 1) (sym count) ∙ other))

pub loop-k-preserved : goal.loop-k-preserved
loop-k-preserved c =
    let d = root_of c.args.schema.now in
    let size = ap length c.in_ok-counts.ensures.value ∙ (length-mapped (λ k. count_by (λ (m : tree.Member). leads_to d k m.1) (set_members d)) (places (length (type_members d))) ∙ length-places (length (type_members d))) in
    let below : c.loop-k.k < length (type_members d) = omega (arith, size, c.len-k-end.ensures) in
    let count = count_at (λ k. count_by (λ (m : tree.Member). leads_to d k m.1) (set_members d)) (length (type_members d)) c.loop-k.k c.in_ok-counts.counts.items c.index.result.now c.in_ok-counts.ensures.value below c.index.ensures in
    let one : (c.index.result.now == 1) ≡ true = grind (arith, nat_tests) in
    let here : exactly_one (λ (m : tree.Member). leads_to d c.loop-k.k m.1) (set_members d) ≡ true = ap (λ n. n == 1) (sym count) ∙ one in
    all_places_more (λ k. exactly_one (λ (m : tree.Member). leads_to d k m.1) (set_members d)) c.loop-k.k ∙ and_from _ _ c.loop-k.invariant here

pub returns-clause-none : goal.returns-clause-none
returns-clause-none c =
    let d = root_of c.args.schema.now in
    let size = ap length c.in_ok-counts.ensures.value ∙ (length-mapped (λ k. count_by (λ (m : tree.Member). leads_to d k m.1) (set_members d)) (places (length (type_members d))) ∙ length-places (length (type_members d))) in
    let all : c.loop-k.k ≡ length (type_members d) = omega (arith, size, c.len-k-end.ensures) in
    subst (λ n. list_all (λ k. exactly_one (λ (m : tree.Member). leads_to d k m.1) (set_members d)) (places n) ≡ true) all c.loop-k.invariant
