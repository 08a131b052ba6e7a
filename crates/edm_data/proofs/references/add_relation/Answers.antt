use Rattle.std.proofs.Common.{◌≡◌, ℕ, true, false, Some, None, Err, sym, ap, subst, ◌∙◌}
use Rattle.std.specs.Option.{option_map}
use Rattle.edm_model.specs.Models.{Model}
use Rattle.edm_model.specs.LookUps.{navigation_on, dependent_of, set_of_type}
use Rattle.edm_data.specs.Links.{IsFirstOf, IsLeast, misses, nav_dangles, pair_in, relation_in}
use Rattle.edm_data.specs.References.{count}
use Rattle.edm_data.proofs.RelationLemmas.{AreRelations-more, IsRelation-from, least-none, least-same, least-some, pair-many, pair-one, relation_by, option-before, option-last, subst-some}
use Rattle.edm_data.proofs.references.add_relation.Goals as goal

pub returns-then-nav_many-clause-kept : goal.returns-then-nav_many-clause-kept
returns-then-nav_many-clause-kept c = AreRelations-more c.args.keyed.now c.args.s c.args.relations.now c.push_none.new.self None c.in_ok-push_none.ensures c.requires.kept (λ r h. cc)

pub returns-then-nav_many-clause-before : goal.returns-then-nav_many-clause-before
returns-then-nav_many-clause-before c = option-before c.args.relations.now c.push_none.new.self None c.in_ok-push_none.ensures

pub returns-then-nav_many-clause-last : goal.returns-then-nav_many-clause-last
returns-then-nav_many-clause-last c =
    let w = c.args.keyed.now in
    let same : c.model-model.result.now ≡ w.model = c.model-model.ensures.value ∙ ap (λ x. x.model) c.tables.ensures.value in
    let many : option_map (λ v. v.many) (navigation_on w.model c.args.n) ≡ Some true = sym (ap (λ (m : Model). option_map (λ v. v.many) (navigation_on m c.args.n)) same) ∙ c.nav_many.ensures.value ∙ ap Some c.if-nav_many.true in
    ap pair_in (option-last c.args.relations.now c.push_none.new.self None c.in_ok-push_none.ensures) ∙ sym ((pair-many w c.args.s c.args.n c.requires.set c.requires.of many).0)

pub returns-in-Some-clause-kept : goal.returns-in-Some-clause-kept
returns-in-Some-clause-kept c =
    let old = c.args.relations.now in
    AreRelations-more c.args.keyed.now c.args.s old c.push_shared.new.self (relation_in old c.in-Some.same) c.in_ok-push_shared.ensures c.requires.kept (λ r h. c.requires.kept c.in-Some.same r h)

pub returns-in-Some-clause-before : goal.returns-in-Some-clause-before
returns-in-Some-clause-before c = option-before c.args.relations.now c.push_shared.new.self (relation_in c.args.relations.now c.in-Some.same) c.in_ok-push_shared.ensures

pub returns-in-Some-clause-first : goal.returns-in-Some-clause-first
returns-in-Some-clause-first c =
    let w = c.args.keyed.now in
    let s = c.args.s in
    let n = c.args.n in
    let p = c.place-property.result in
    let same : c.model-model.result.now ≡ w.model = c.model-model.ensures.value ∙ ap (λ x. x.model) c.tables.ensures.value in
    let many : option_map (λ v. v.many) (navigation_on w.model n) ≡ Some false = sym (ap (λ (m : Model). option_map (λ v. v.many) (navigation_on m n)) same) ∙ c.nav_many.ensures.value ∙ ap Some c.if-nav_many.false in
    let dependent : option_map (λ v. dependent_of n v) (navigation_on w.model n) ≡ Some c.nav_dependent.result = sym (ap (λ (m : Model). option_map (λ v. dependent_of n v) (navigation_on m n)) same) ∙ c.nav_dependent.ensures.value in
    let target : option_map (λ v. v.target) (navigation_on w.model n) ≡ Some c.nav_target.result = sym (ap (λ (m : Model). option_map (λ v. v.target) (navigation_on m n)) same) ∙ c.nav_target.ensures.value in
    let set : c.type_set-target.result ≡ set_of_type w.model c.nav_target.result = c.type_set-target.ensures.value ∙ ap (λ (m : Model). set_of_type m c.nav_target.result) same in
    let one = pair-one w s c.nav_target.result p n c.nav_dependent.result c.requires.set c.requires.of many dependent target c.place-property.ensures.value in
    least-none (nav_dangles w s n.at) (count w s) (λ k less. one.1 k ∙ ap (λ (t : ℕ). misses w s p t k) (sym set) ∙ relation_by w s p c.type_set-target.result c.args.relations.now c.in-Some.same c.requires.kept c.in-Some.ensures.there k less)

pub returns-in-Some-clause-last : goal.returns-in-Some-clause-last
returns-in-Some-clause-last c =
    let w = c.args.keyed.now in
    let s = c.args.s in
    let n = c.args.n in
    let p = c.place-property.result in
    let same : c.model-model.result.now ≡ w.model = c.model-model.ensures.value ∙ ap (λ x. x.model) c.tables.ensures.value in
    let many : option_map (λ v. v.many) (navigation_on w.model n) ≡ Some false = sym (ap (λ (m : Model). option_map (λ v. v.many) (navigation_on m n)) same) ∙ c.nav_many.ensures.value ∙ ap Some c.if-nav_many.false in
    let dependent : option_map (λ v. dependent_of n v) (navigation_on w.model n) ≡ Some c.nav_dependent.result = sym (ap (λ (m : Model). option_map (λ v. dependent_of n v) (navigation_on m n)) same) ∙ c.nav_dependent.ensures.value in
    let target : option_map (λ v. v.target) (navigation_on w.model n) ≡ Some c.nav_target.result = sym (ap (λ (m : Model). option_map (λ v. v.target) (navigation_on m n)) same) ∙ c.nav_target.ensures.value in
    let set : c.type_set-target.result ≡ set_of_type w.model c.nav_target.result = c.type_set-target.ensures.value ∙ ap (λ (m : Model). set_of_type m c.nav_target.result) same in
    let one = pair-one w s c.nav_target.result p n c.nav_dependent.result c.requires.set c.requires.of many dependent target c.place-property.ensures.value in
    let old = c.args.relations.now in
    let found : pair_in (relation_in old c.in-Some.same) ≡ Some (p, c.type_set-target.result) = c.in-Some.ensures.there in
    let pair : Some (p, c.type_set-target.result) ≡ Some (p, set_of_type w.model c.nav_target.result) = ap (λ (t : ℕ). Some (p, t)) set in
    ap pair_in (option-last old c.push_shared.new.self (relation_in old c.in-Some.same) c.in_ok-push_shared.ensures) ∙ found ∙ pair ∙ sym one.0

pub returns-in_ok-push-in-Ok-clause-kept : goal.returns-in_ok-push-in-Ok-clause-kept
returns-in_ok-push-in-Ok-clause-kept c =
    let w = c.args.keyed.now in
    let s = c.args.s in
    let r = c.in_ok-new-in-Ok.field-0 in
    AreRelations-more w s c.args.relations.now c.push.new.self (Some r) c.in_ok-push-in-Ok.ensures c.requires.kept (λ x h. subst-some w s r x h (IsRelation-from w s c.place-property.result c.type_set-target.result c.in-Ok.links r c.in_ok-new-in-Ok.ensures.property c.in_ok-new-in-Ok.ensures.target c.in_ok-new-in-Ok.ensures.links c.in-Ok.ensures.counted c.in-Ok.ensures.links c.in-Ok.ensures.sound))

pub returns-in_ok-push-in-Ok-clause-before : goal.returns-in_ok-push-in-Ok-clause-before
returns-in_ok-push-in-Ok-clause-before c = option-before c.args.relations.now c.push.new.self (Some c.in_ok-new-in-Ok.field-0) c.in_ok-push-in-Ok.ensures

pub returns-in_ok-push-in-Ok-clause-last : goal.returns-in_ok-push-in-Ok-clause-last
returns-in_ok-push-in-Ok-clause-last c =
    let w = c.args.keyed.now in
    let s = c.args.s in
    let n = c.args.n in
    let p = c.place-property.result in
    let same : c.model-model.result.now ≡ w.model = c.model-model.ensures.value ∙ ap (λ x. x.model) c.tables.ensures.value in
    let many : option_map (λ v. v.many) (navigation_on w.model n) ≡ Some false = sym (ap (λ (m : Model). option_map (λ v. v.many) (navigation_on m n)) same) ∙ c.nav_many.ensures.value ∙ ap Some c.if-nav_many.false in
    let dependent : option_map (λ v. dependent_of n v) (navigation_on w.model n) ≡ Some c.nav_dependent.result = sym (ap (λ (m : Model). option_map (λ v. dependent_of n v) (navigation_on m n)) same) ∙ c.nav_dependent.ensures.value in
    let target : option_map (λ v. v.target) (navigation_on w.model n) ≡ Some c.nav_target.result = sym (ap (λ (m : Model). option_map (λ v. v.target) (navigation_on m n)) same) ∙ c.nav_target.ensures.value in
    let set : c.type_set-target.result ≡ set_of_type w.model c.nav_target.result = c.type_set-target.ensures.value ∙ ap (λ (m : Model). set_of_type m c.nav_target.result) same in
    let one = pair-one w s c.nav_target.result p n c.nav_dependent.result c.requires.set c.requires.of many dependent target c.place-property.ensures.value in
    let r = c.in_ok-new-in-Ok.field-0 in
    let by : pair_in (Some r) ≡ Some (p, r.target) = ap (λ (q : ℕ). Some (q, r.target)) c.in_ok-new-in-Ok.ensures.property in
    let to : Some (p, r.target) ≡ Some (p, set_of_type w.model c.nav_target.result) = ap (λ (t : ℕ). Some (p, t)) (c.in_ok-new-in-Ok.ensures.target ∙ set) in
    ap pair_in (option-last c.args.relations.now c.push.new.self (Some r) c.in_ok-push-in-Ok.ensures) ∙ by ∙ to ∙ sym one.0

pub returns-in-Err-Dangling-clause-first : goal.returns-in-Err-Dangling-clause-first
returns-in-Err-Dangling-clause-first c =
    let w = c.args.keyed.now in
    let s = c.args.s in
    let n = c.args.n in
    let p = c.place-property.result in
    let t = c.type_set-target.result in
    let same : c.model-model.result.now ≡ w.model = c.model-model.ensures.value ∙ ap (λ x. x.model) c.tables.ensures.value in
    let many : option_map (λ v. v.many) (navigation_on w.model n) ≡ Some false = sym (ap (λ (m : Model). option_map (λ v. v.many) (navigation_on m n)) same) ∙ c.nav_many.ensures.value ∙ ap Some c.if-nav_many.false in
    let dependent : option_map (λ v. dependent_of n v) (navigation_on w.model n) ≡ Some c.nav_dependent.result = sym (ap (λ (m : Model). option_map (λ v. dependent_of n v) (navigation_on m n)) same) ∙ c.nav_dependent.ensures.value in
    let target : option_map (λ v. v.target) (navigation_on w.model n) ≡ Some c.nav_target.result = sym (ap (λ (m : Model). option_map (λ v. v.target) (navigation_on m n)) same) ∙ c.nav_target.ensures.value in
    let set : t ≡ set_of_type w.model c.nav_target.result = c.type_set-target.ensures.value ∙ ap (λ (m : Model). set_of_type m c.nav_target.result) same in
    let one = pair-one w s c.nav_target.result p n c.nav_dependent.result c.requires.set c.requires.of many dependent target c.place-property.ensures.value in
    let first : IsFirstOf (misses w s p t) (count w s) c.in-Err-Dangling.k = c.in-Err-Dangling.ensures.dangling c.in-Err-Dangling.k (ap Err c.in-Err-Dangling.field-0-is) in
    let least : IsLeast (nav_dangles w s n.at) (count w s) (Some c.in-Err-Dangling.k) = least-same (misses w s p t) (nav_dangles w s n.at) (count w s) (Some c.in-Err-Dangling.k) (λ k. ap (λ (q : ℕ). misses w s p q k) set ∙ sym (one.1 k)) (least-some (misses w s p t) (count w s) c.in-Err-Dangling.k first) in
    subst (IsLeast (nav_dangles w s n.at) (count w s)) (ap Some (sym c.in-Err-Dangling.k-is)) least
