use Rattle.std.proofs.Common.{◌≡◌, ◌==◌, true, false, length, refl, sym, ◌∙◌, ap, rules}
use Rattle.std.specs.Prelude.{count_by}
use Rattle.std.specs.List.{list_all}
use Rattle.std.proofs.lemmas.List.Folds.{list_all-map}
use Rattle.edm_values.specs.Lists.{places}
use Rattle.edm_schema.specs.ModelTrees.{is_entity_set, leads_to, set_members, type_members}
use Rattle.edm_schema.specs.MemberLists.{root_of}
use Rattle.edm_schema.proofs.rules.has_one_set_each.Goals as goal

pub returns-then-not-are_entity_sets : goal.returns-then-not-are_entity_sets
returns-then-not-are_entity_sets c =
    let d = root_of c.args.schema.now in
    let fails : c.are_entity_sets.result ≡ false = search rules in
    let all : list_all (λ m. is_entity_set d m.1) (set_members d) ≡ false = sym c.are_entity_sets.ensures ∙ fails in
    rw all refl

pub returns : goal.returns
returns c =
    let d = root_of c.args.schema.now in
    let holds : c.are_entity_sets.result ≡ true = search rules in
    let all : list_all (λ m. is_entity_set d m.1) (set_members d) ≡ true = sym c.are_entity_sets.ensures ∙ holds in
    let counts = rw c.deref.ensures.value at c.are_ones.ensures in
    rw all (counts ∙ (ap (list_all (λ count. count == 1)) c.in_ok-counts.ensures.value ∙ list_all-map (λ count. count == 1) (λ k. count_by (λ m. leads_to d k m.1) (set_members d)) (places (length (type_members d)))))
