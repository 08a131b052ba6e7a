-- Kept groups, and what they say of the world.
use Rattle.std.proofs.Common.{◌≡◌, ℕ, ◌+◌, ◌<◌, ◌≤◌, Bool, true, false, cond, List, [], ◌∷◌, ◌++◌, length, map, filter, nat_eq, refl, sym, ◌∙◌, ap, subst, arith, ⊎_elim, Some, None}
use Rattle.std.specs.declared.option.Option.{Option}
use Rattle.std.specs.Option.{option_map, unwrap_or}
use Rattle.std.specs.Prelude.{◌==◌, ◌&&◌, if◌then◌else◌}
use Rattle.std.specs.List.{slice_get}
use Rattle.std.proofs.lemmas.Bool.{cases_lt}
use Rattle.std.proofs.lemmas.Option.{slice_get_past}
use Rattle.std.proofs.lemmas.List.Elements.{filter_agree}
use Rattle.edm_values.specs.Lists.{places, is_some_and}
use Rattle.edm_model.specs.Models.{Navigation, Part}
use Rattle.edm_model.specs.LookUps.{navigation_at, navigation_on, partner_of, set_of_type, set_type, IsSet}
use Rattle.edm_data.specs.Worlds.{World, Entity, entity_at}
use Rattle.edm_data.specs.References.{count, follow, refers_to, related_by}
use Rattle.edm_data.specs.LinkLists.{LinkList, link_in, linking_before, linking_to}
use Rattle.edm_data.specs.Links.{IsGroup, is_link_to, linking, KeptRelation, NavRelations, HasReferences, followed, kept_relation}
use Rattle.edm_data.proofs.RelationLemmas.{follow_is}
use Rattle.edm_data.proofs.PlaceLemmas.{slice_get-push_before}
use Rattle.edm_data.proofs.ReferenceLemmas.{nav_same}
use Rattle.edm_values.proofs.ListFacts.{slice_get-last}

-- ---- filters

filter-map : {X Y : Type 0} (f : X → Y) (p : Y → Bool) (xs : List X) → filter p (map f xs) ≡ map f (filter (λ x. p (f x)) xs)
filter-map f p [] = refl
filter-map f p (x ∷ xs) = elim (p (f x)) as (λ b. cond b (f x ∷ filter p (map f xs)) (filter p (map f xs)) ≡ map f (cond b (x ∷ filter (λ y. p (f y)) xs) (filter (λ y. p (f y)) xs))) [ true ↦ ap (λ l. f x ∷ l) (filter-map f p xs) | false ↦ filter-map f p xs ]

filter-none : {X : Type 0} (p : X → Bool) → ((x : X) → p x ≡ false) → (xs : List X) → filter p xs ≡ []
filter-none p e [] = refl
filter-none p e (x ∷ xs) = rw (e x) (filter-none p e xs)

-- ---- one group

-- by a collection-valued one it is related to those that are linked to it
many_related : (w : World) (e : Entity) (t : ℕ) (p : Part) (o : Option Navigation) → option_map (λ v. v.many) o ≡ Some true → option_map (λ v. v.target) o ≡ Some t → option_map partner_of o ≡ Some p
    → map (entity_at (unwrap_or (option_map (λ v. set_of_type w.model v.target) o) 0)) (linking (λ k. follow w (entity_at (set_of_type w.model t) k) p.at) e (count w (set_of_type w.model t))) ≡ unwrap_or (option_map (λ v. if v.many then related_by w e v else []) o) []
many_related w e t p None many target partner = cc
many_related w e t p (Some v) many target partner =
    let m : v.many ≡ true = cc in
    let to : t ≡ v.target = cc in
    let inside : partner_of v ≡ p = cc in
    let at : p.at ≡ v.partner = sym (ap (λ q. q.at) inside) in
    rw (m, to, at) (sym (filter-map (entity_at (set_of_type w.model v.target)) (λ x. refers_to w v.partner x e) (places (count w (set_of_type w.model v.target)))))

pub linking-same : (a b : ℕ → Option Entity) (e : Entity) (m : ℕ) → ((k : ℕ) → a k ≡ b k) → linking a e m ≡ linking b e m
linking-same a b e m same = filter_agree (λ k. is_link_to e (a k)) (λ k. is_link_to e (b k)) (λ k. ap (is_link_to e) (same k)) (places m)

-- ---- the places of a relation

link_is : (e : Entity) (t : ℕ) (o : Option ℕ) → is_link_to e (option_map (entity_at t) o) ≡ (e.set == t && is_some_and (nat_eq e.at) o)
link_is e t None = elim (e.set == t) as (λ b. false ≡ (b && false)) [ true ↦ refl | false ↦ refl ]
link_is e t (Some x) = refl

linking_by : (e : Entity) (t : ℕ) (links : LinkList) (n : ℕ) → linking (λ k. option_map (entity_at t) (link_in links k)) e n ≡ (if e.set == t then linking_before e.at links n else [])
linking_by e t links n =
    filter_agree (λ k. is_link_to e (option_map (entity_at t) (link_in links k))) (λ k. e.set == t && is_some_and (nat_eq e.at) (link_in links k)) (λ k. link_is e t (link_in links k)) (places n)
    ∙ (elim (e.set == t) as (λ b. filter (λ k. b && is_some_and (nat_eq e.at) (link_in links k)) (places n) ≡ (if b then linking_before e.at links n else [])) [ true ↦ refl | false ↦ filter-none (λ k. false) (λ k. refl) (places n) ])

-- the places of the entities that refer to one by a relation
abbrev pub linking_in : Option KeptRelation → Entity → List ℕ
linking_in o e = unwrap_or (option_map (λ r. if e.set == r.target then linking_to e.at r.links else []) o) []

linking_is : (w : World) (s n : ℕ) (e : Entity) (o : Option KeptRelation) → ((r : KeptRelation) → o ≡ Some r → length r.links ≡ count w s) → linking (followed o) e (count w s) ≡ linking_in o e
linking_is w s n e None size = filter-none (λ k. false) (λ k. refl) (places (count w s))
linking_is w s n e (Some r) size = linking_by e r.target r.links (count w s) ∙ ap (λ m. if e.set == r.target then linking_before e.at r.links m else []) (sym (size r refl))

-- the entities that a collection-valued navigation relates one to, by the relation of its partner
pub IsGroup-relation : (w : World) (s t from k : ℕ) (n p : Part) (sets : List NavRelations) → IsSet w.model s → n.of ≡ set_type w.model s → option_map (λ v. v.many) (navigation_on w.model n) ≡ Some true → option_map (λ v. v.target) (navigation_on w.model n) ≡ Some t → option_map partner_of (navigation_on w.model n) ≡ Some p
    → from ≡ set_of_type w.model t → HasReferences w sets → IsGroup w s n.at k (linking_in (kept_relation sets from p.at) (entity_at s k))
IsGroup-relation w s t from k n p sets there of many target partner set has =
    let e = entity_at s k in
    let same_nav = nav_same w.model s n there of in
    let related : IsGroup w s n.at k (linking (λ j. follow w (entity_at (set_of_type w.model t) j) p.at) e (count w (set_of_type w.model t))) = many_related w e t p (navigation_at w.model s n.at) (sym (ap (option_map (λ v. v.many)) same_nav) ∙ many) (sym (ap (option_map (λ v. v.target)) same_nav) ∙ target) (sym (ap (option_map partner_of) same_nav) ∙ partner) in
    let relations = has.each from in
    let o = kept_relation sets from p.at in
    let found : linking (followed o) e (count w from) ≡ linking (λ j. follow w (entity_at from j) p.at) e (count w from) = linking-same (followed o) (λ j. follow w (entity_at from j) p.at) e (count w from) (λ j. follow_is w from p.at j (unwrap_or (slice_get sets from) []) relations) in
    let here : linking (λ j. follow w (entity_at from j) p.at) e (count w from) ≡ linking (λ j. follow w (entity_at (set_of_type w.model t) j) p.at) e (count w (set_of_type w.model t)) = ap (λ q. linking (λ j. follow w (entity_at q j) p.at) e (count w q)) set in
    let kept : linking_in o e ≡ linking (followed o) e (count w from) = sym (linking_is w from p.at e o (λ r at. (relations.kept p.at r at).counted)) in
    subst (IsGroup w s n.at k) (sym (kept ∙ found ∙ here)) related

-- ---- one element more

-- what holds of each element holds after one more
pub each-more : {X : Type 0} (P : ℕ → Option X → Type 0) (old new : List X) (x : X) (i : ℕ) → new ≡ old ++ x ∷ [] → length old ≡ i → P i (Some x) → ((n : ℕ) → n < i → P n (slice_get old n)) → (n : ℕ) → n < i + 1 → P n (slice_get new n)
each-more P old new x i grown size here before n h = ⊎_elim
    (λ less. subst (P n) (sym (ap (λ l. slice_get l n) grown ∙ slice_get-push_before old x n (omega (arith, less)))) (before n less))
    (λ more. let same : n ≡ length old = omega (arith, more) in subst (P n) (sym (ap (λ l. slice_get l n) grown ∙ ap (slice_get (old ++ x ∷ [])) same ∙ slice_get-last old x)) (subst (λ j. P j (Some x)) (sym (same ∙ size)) here))
    (cases_lt n i)

-- what holds of each element and past the end holds everywhere
pub each-all : {X : Type 0} (P : ℕ → Option X → Type 0) (xs : List X) (i : ℕ) → length xs ≡ i → ((n : ℕ) → n < i → P n (slice_get xs n)) → ((n : ℕ) → i ≤ n → P n None) → (n : ℕ) → P n (slice_get xs n)
each-all P xs i size each past n = ⊎_elim (each n)
    (λ more. subst (P n) (sym (slice_get_past xs n (omega (arith, more)))) (past n more))
    (cases_lt n i)
