-- Relations of navigations, and what they say of the world.
use Rattle.std.proofs.Common.{◌≡◌, ℕ, zero, suc, ◌+◌, ◌<◌, ◌≤◌, Bool, true, false, ◌||◌, List, [], ◌∷◌, ◌++◌, length, take, refl, sym, ◌∙◌, ap, subst, arith, add-one, ⊎_elim, Some, None}
use Rattle.std.specs.Prelude.{IfNone, if◌then◌else◌, min}
use Rattle.std.specs.declared.option.Option.{Option}
use Rattle.std.specs.Option.{option_map, option_and_then, unwrap_or}
use Rattle.std.specs.List.{slice_get, list_any}
use Rattle.std.proofs.lemmas.Bool.{cases_lt, or_left, or_right, or_from}
use Rattle.std.proofs.lemmas.List.{take_all, length_push}
use Rattle.std.proofs.lemmas.Option.{slice_get_past, none-some}
use Rattle.edm_values.specs.Lists.{is_some_and}
use Rattle.edm_model.specs.Models.{Navigation, Part}
use Rattle.edm_model.specs.LookUps.{navigation_at, navigation_on, dependent_of, set_of_type, set_type, IsSet}
use Rattle.edm_data.specs.Worlds.{World, Entity, entity_at}
use Rattle.edm_data.specs.References.{count, entities_of, referred, follow, navigations_in}
use Rattle.edm_data.specs.DataFile.{dangles, is_dangling}
use Rattle.edm_data.specs.LinkLists.{LinkList, link_in}
use Rattle.edm_data.specs.Links.{reached, misses, KeptRelation, IsRelation, IsFirstOf, IsLeast, earlier, nav_dangles, NavRelations, relation_in, pair_in, pair_of, AreRelations, IsOfNav, HasRelations, followed}
use Rattle.edm_data.proofs.PlaceLemmas.{slice_get-push_before}
use Rattle.edm_data.proofs.ReferenceLemmas.{nav_at, nav_same}
use Rattle.edm_values.proofs.ListFacts.{slice_get-last}

-- ---- one element more

pub option-before : {X : Type 0} (old new : List (Option X)) (o : Option X) → new ≡ old ++ o ∷ [] → (k : ℕ) → k < length old → unwrap_or (slice_get new k) None ≡ unwrap_or (slice_get old k) None
option-before old new o grown k h = ap (λ x. unwrap_or x None) (ap (λ l. slice_get l k) grown ∙ slice_get-push_before old o k h)

pub option-last : {X : Type 0} (old new : List (Option X)) (o : Option X) → new ≡ old ++ o ∷ [] → unwrap_or (slice_get new (length old)) None ≡ o
option-last old new o grown = ap (λ x. unwrap_or x None) (ap (λ l. slice_get l (length old)) grown ∙ slice_get-last old o)

pub links-more : (f : ℕ → Option Entity) (t i : ℕ) (old new : LinkList) (o : Option ℕ) → new ≡ old ++ o ∷ [] → length old ≡ i → option_map (entity_at t) o ≡ f i → ((k : ℕ) → k < i → option_map (entity_at t) (link_in old k) ≡ f k) → (k : ℕ) → k < i + 1 → option_map (entity_at t) (link_in new k) ≡ f k
links-more f t i old new o grown size here before k h = ⊎_elim
    (λ less. ap (option_map (entity_at t)) (option-before old new o grown k (omega (arith, less))) ∙ before k less)
    (λ more. let same : k ≡ i = omega arith in ap (λ q. option_map (entity_at t) (link_in new q)) (same ∙ sym size) ∙ ap (option_map (entity_at t)) (option-last old new o grown) ∙ here ∙ ap f (sym same))
    (cases_lt k i)

-- past the end of a set nothing is referred to
pub reached-past : (w : World) (s k p t : ℕ) → count w s ≤ k → reached w (entity_at s k) p t ≡ None
reached-past w s k p t past = rw (slice_get_past (entities_of w s) k past) refl

-- the relation of links that are those of the set
pub IsRelation-from : (w : World) (s p t : ℕ) (links : LinkList) (r : KeptRelation) → r.property ≡ p → r.target ≡ t → r.links ≡ links → length links ≡ count w s → ((k : ℕ) → k < count w s → option_map (entity_at t) (link_in links k) ≡ reached w (entity_at s k) p t) → ((k : ℕ) → k < count w s → misses w s p t k ≡ false) → IsRelation w s r
IsRelation-from w s p t links r by to are size each sound = record {
  links = λ k. rw (by, to, are) (⊎_elim (each k) (λ more. ap (λ o. option_map (entity_at t) (unwrap_or o None)) (slice_get_past links k (rw size more)) ∙ sym (reached-past w s k p t more)) (cases_lt k (count w s)));
  counted = ap length are ∙ size;
  sound = λ k h. rw (by, to) (sound k h);
}

-- ---- navigations and their pairs

pub pair-many : (w : World) (s : ℕ) (n : Part) → IsSet w.model s → n.of ≡ set_type w.model s → option_map (λ v. v.many) (navigation_on w.model n) ≡ Some true → (pair_of w.model s n.at ≡ None) × ((k : ℕ) → nav_dangles w s n.at k ≡ false)
pair-many w s n there of many = inside (navigation_at w.model s n.at) (sym (ap (option_map (λ v. v.many)) (nav_same w.model s n there of)) ∙ many) where
  inside : (o : Option Navigation) → option_map (λ v. v.many) o ≡ Some true → (option_and_then {U = ℕ × ℕ} (λ v. if v.many then None else Some (v.dependent, set_of_type w.model v.target)) o ≡ None) × ((k : ℕ) → is_some_and (dangles w (entity_at s k)) o ≡ false)
  inside None h = cc
  inside (Some v) h = let many : v.many ≡ true = cc in (rw many refl, λ k. rw many refl)

pub pair-one : (w : World) (s t p : ℕ) (n q : Part) → IsSet w.model s → n.of ≡ set_type w.model s → option_map (λ v. v.many) (navigation_on w.model n) ≡ Some false → option_map (λ v. dependent_of n v) (navigation_on w.model n) ≡ Some q → option_map (λ v. v.target) (navigation_on w.model n) ≡ Some t → p ≡ q.at → (pair_of w.model s n.at ≡ Some (p, set_of_type w.model t)) × ((k : ℕ) → nav_dangles w s n.at k ≡ misses w s p (set_of_type w.model t) k)
pair-one w s t p n q there of many dependent target by =
    let same = sym (nav_same w.model s n there of) in
    inside (navigation_at w.model s n.at) (ap (option_map (λ v. v.many)) same ∙ many) (ap (option_map (λ v. dependent_of n v)) same ∙ dependent) (ap (option_map (λ v. v.target)) same ∙ target) where
      inside : (o : Option Navigation) → option_map (λ v. v.many) o ≡ Some false → option_map (λ v. dependent_of n v) o ≡ Some q → option_map (λ v. v.target) o ≡ Some t → (option_and_then {U = ℕ × ℕ} (λ v. if v.many then None else Some (v.dependent, set_of_type w.model v.target)) o ≡ Some (p, set_of_type w.model t)) × ((k : ℕ) → is_some_and (dangles w (entity_at s k)) o ≡ misses w s p (set_of_type w.model t) k)
      inside None h i j = cc
      inside (Some v) h i j =
          let one : v.many ≡ false = cc in
          let part : dependent_of n v ≡ q = cc in
          let at : v.dependent ≡ p = ap (λ x. x.at) part ∙ sym by in
          let to : v.target ≡ t = cc in
          (rw (one, at, to) refl, λ k. rw (one, at, to) refl)

-- two pairs that are one
inner_pair : (x y : ℕ × ℕ) → Some x ≡ Some y → x ≡ y
inner_pair x y h = cc

pub pair_same : (x y : ℕ × ℕ) → Some x ≡ Some y → (x.0 ≡ y.0) × (x.1 ≡ y.1)
pair_same x y h = let p = inner_pair x y h in (ap (λ (z : ℕ × ℕ). z.0) p, ap (λ (z : ℕ × ℕ). z.1) p)

-- a relation with a pair has its links by it
pub relation_by : (w : World) (s p t : ℕ) (os : NavRelations) (n : ℕ) → AreRelations w s os → pair_in (relation_in os n) ≡ Some (p, t) → (k : ℕ) → k < count w s → misses w s p t k ≡ false
relation_by w s p t os n are pair = inside (relation_in os n) refl pair where
  inside : (o : Option KeptRelation) → relation_in os n ≡ o → pair_in o ≡ Some (p, t) → (k : ℕ) → k < count w s → misses w s p t k ≡ false
  inside None at h = cc
  inside (Some r) at h = λ k less.
      let same = pair_same (r.property, r.target) (p, t) h in
      rw (sym same.0, sym same.1) ((are n r at).sound k less)

-- ---- one navigation more

pub AreRelations-more : (w : World) (s : ℕ) (old new : NavRelations) (o : Option KeptRelation) → new ≡ old ++ o ∷ [] → AreRelations w s old → ((r : KeptRelation) → o ≡ Some r → IsRelation w s r) → AreRelations w s new
AreRelations-more w s old new o grown before here n r at = ⊎_elim
    (λ less. before n r (sym (option-before old new o grown n less) ∙ at))
    (λ more. ⊎_elim
    (λ last. let is : n ≡ length old = omega (arith, more, last) in here r (sym (option-last old new o grown) ∙ ap (relation_in new) (sym is) ∙ at))
    (λ past. let size : length new ≡ length old + 1 = ap length grown ∙ length_push old o in let far : length new ≤ n = omega (arith, past) in let none : relation_in new n ≡ None = ap (λ x. unwrap_or x None) (slice_get_past new n far) in absurd (none-some r (sym none ∙ at)))
    (cases_lt n (length old + 1)))
    (cases_lt n (length old))

-- ---- the first place

-- no place
pub least-none : (p : ℕ → Bool) (n : ℕ) → ((k : ℕ) → k < n → p k ≡ false) → IsLeast p n None
least-none p n all = record { none = λ _. all; some = λ k h. cc }

pub least-some : (p : ℕ → Bool) (n f : ℕ) → IsFirstOf p n f → IsLeast p n (Some f)
least-some p n f first = record { none = λ h. cc; some = λ k h. let same : f ≡ k = cc in subst (IsFirstOf p n) same first }

pub least-same : (p q : ℕ → Bool) (n : ℕ) (o : Option ℕ) → ((k : ℕ) → p k ≡ q k) → IsLeast p n o → IsLeast q n o
least-same p q n o same least = record {
  none = λ h k less. sym (same k) ∙ least.none h k less;
  some = λ k h. let first = least.some k h in record { within = first.within; here = sym (same k) ∙ first.here; before = λ j less. sym (same j) ∙ first.before j less };
}

pub or_none : (a b : Bool) → b ≡ false → (a || b) ≡ a
or_none true b h = refl
or_none false b h = h

first_left : (p q : ℕ → Bool) (n a : ℕ) → IsFirstOf p n a → ((k : ℕ) → k < a → q k ≡ false) → IsFirstOf (λ k. p k || q k) n a
first_left p q n a first none = record { within = first.within; here = or_left (p a) (q a) first.here; before = λ k less. or_from (p k) (q k) (first.before k less) (none k less) }

first_right : (p q : ℕ → Bool) (n b : ℕ) → IsFirstOf q n b → ((k : ℕ) → k < b → p k ≡ false) → IsFirstOf (λ k. p k || q k) n b
first_right p q n b first none = record { within = first.within; here = or_right (p b) (q b) first.here; before = λ k less. or_from (p k) (q k) (none k less) (first.before k less) }

first_of_two : (p q : ℕ → Bool) (n a b : ℕ) → IsFirstOf p n a → IsFirstOf q n b → IsFirstOf (λ k. p k || q k) n (min a b)
first_of_two p q n a b x y = ⊎_elim
    (λ less. let is : min a b ≡ a = omega arith in rw is (first_left p q n a x (λ k h. y.before k (omega (arith, h)))))
    (λ more. let is : min a b ≡ b = omega arith in rw is (first_right p q n b y (λ k h. x.before k (omega (arith, h)))))
    (cases_lt a b)

-- the first place of one test or another
pub least-or : (p q : ℕ → Bool) (n : ℕ) (a b : Option ℕ) → IsLeast p n a → IsLeast q n b → IsLeast (λ k. p k || q k) n (earlier a b)
least-or p q n None None x y = least-none (λ k. p k || q k) n (λ k less. or_from (p k) (q k) (x.none refl k less) (y.none refl k less))
least-or p q n (Some a) None x y = let first = x.some a refl in least-some (λ k. p k || q k) n a (first_left p q n a first (λ k less. y.none refl k (let e = first.within in omega (arith, e))))
least-or p q n None (Some b) x y = let first = y.some b refl in least-some (λ k. p k || q k) n b (first_right p q n b first (λ k less. x.none refl k (let e = first.within in omega (arith, e))))
least-or p q n (Some a) (Some b) x y = least-some (λ k. p k || q k) n (min a b) (first_of_two p q n a b (x.some a refl) (y.some b refl))

-- there is no first place of either
pub earlier-None : (a b : Option ℕ) → earlier a b ≡ None → (a ≡ None) × (b ≡ None)
earlier-None None None h = (refl, refl)
earlier-None None (Some b) h = cc
earlier-None (Some a) None h = cc
earlier-None (Some a) (Some b) h = cc

-- ---- the navigations of a set's type, one after another

any-suc : {X : Type 0} (p : X → Bool) (xs : List X) (i : ℕ) → list_any p (take (suc i) xs) ≡ (list_any p (take i xs) || is_some_and p (slice_get xs i))
any-suc p [] zero = refl
any-suc p [] (suc i) = refl
any-suc p (x ∷ xs) zero = elim (p x) as (λ b. (b || false) ≡ (false || b)) [ true ↦ refl | false ↦ refl ]
any-suc p (x ∷ xs) (suc i) = elim (p x) as (λ b. (b || list_any p (take (suc i) xs)) ≡ ((b || list_any p (take i xs)) || is_some_and p (slice_get xs i))) [ true ↦ refl | false ↦ any-suc p xs i ]

-- some of the first navigations dangles
abbrev pub any_dangles : World → ℕ → ℕ → ℕ → Bool
any_dangles w s i k = list_any (dangles w (entity_at s k)) (take i (navigations_in w.model s))

pub any_dangles-more : (w : World) (s i k : ℕ) → (any_dangles w s i k || nav_dangles w s i k) ≡ any_dangles w s (i + 1) k
any_dangles-more w s i k = rw add-one (ap (λ o. any_dangles w s i k || is_some_and (dangles w (entity_at s k)) o) (nav_at w.model s i) ∙ sym (any-suc (dangles w (entity_at s k)) (navigations_in w.model s) i))

pub any_dangles-all : (w : World) (s i k : ℕ) → length (navigations_in w.model s) ≤ i → any_dangles w s i k ≡ is_dangling w (entity_at s k)
any_dangles-all w s i k all = ap (list_any (dangles w (entity_at s k))) (take_all i (navigations_in w.model s) all)

-- no navigation, and so no relation, stands past the end
pub pair-past : (w : World) (s n : ℕ) → length (navigations_in w.model s) ≤ n → pair_of w.model s n ≡ None
pair-past w s n past = ap (option_and_then (λ v. if v.many then None else Some (v.dependent, set_of_type w.model v.target))) (nav_at w.model s n ∙ slice_get_past (navigations_in w.model s) n past)

pub HasRelations-all : (w : World) (s i : ℕ) (os : NavRelations) → length (navigations_in w.model s) ≤ i → length os ≡ i → AreRelations w s os → ((n : ℕ) → n < i → IsOfNav w.model s n (relation_in os n)) → HasRelations w s os
HasRelations-all w s i os all size kept each = record {
  kept = kept;
  of = λ n. ⊎_elim (each n) (λ more.
      let far : length os ≤ n = omega (arith, more) in
      let past : length (navigations_in w.model s) ≤ n = omega (arith, more) in
      ap (λ x. pair_in (unwrap_or x None)) (slice_get_past os n far) ∙ sym (pair-past w s n past)) (cases_lt n i);
}

pub of-more : (w : World) (s i : ℕ) (old new : NavRelations) → length old ≡ i → ((m : ℕ) → m < length old → relation_in new m ≡ relation_in old m) → IsOfNav w.model s i (relation_in new (length old)) → ((n : ℕ) → n < i → IsOfNav w.model s n (relation_in old n)) → (n : ℕ) → n < i + 1 → IsOfNav w.model s n (relation_in new n)
of-more w s i old new size same last before n h = ⊎_elim
    (λ less. ap pair_in (same n (omega (arith, less))) ∙ before n less)
    (λ more. let is : n ≡ i = omega (arith, more) in ap (λ m. pair_in (relation_in new m)) (is ∙ sym size) ∙ last ∙ ap (pair_of w.model s) (sym is))
    (cases_lt n i)

-- a set that is none of the model has no relations
pub HasRelations-none : (w : World) (s : ℕ) → length w.model.sets ≤ s → HasRelations w s []
HasRelations-none w s past = record {
  kept = λ n r h. cc;
  of = λ n. sym (ap (λ o. option_and_then (λ v. if v.many then None else Some (v.dependent, set_of_type w.model v.target)) (option_and_then (λ t. slice_get t.navigations n) (option_and_then (λ es. slice_get w.model.types es.of) o))) (slice_get_past w.model.sets s past));
}

-- ---- what an entity refers to

follow_by : (w : World) (s n k : ℕ) (o : Option KeptRelation) (v : Option Navigation) → ((r : KeptRelation) → o ≡ Some r → IsRelation w s r) → pair_in o ≡ option_and_then {U = ℕ × ℕ} (λ v. if v.many then None else Some (v.dependent, set_of_type w.model v.target)) v → followed o k ≡ option_and_then (λ x. if x.many then None else referred w (entity_at s k) x) v
follow_by w s n k None None are pair = refl
follow_by w s n k (Some r) None are pair = cc
follow_by w s n k o (Some v) are pair = by_many (v.many) refl where
  one : (x : Option KeptRelation) → o ≡ x → pair_in x ≡ Some (v.dependent, set_of_type w.model v.target) → followed x k ≡ referred w (entity_at s k) v
  one None at h = cc
  one (Some r) at h =
      let same = pair_same (r.property, r.target) (v.dependent, set_of_type w.model v.target) h in
      (are r at).links k ∙ ap (λ p. reached w (entity_at s k) p r.target) same.0 ∙ ap (reached w (entity_at s k) v.dependent) same.1

  none : (x : Option KeptRelation) → pair_in x ≡ None → followed x k ≡ None
  none None h = refl
  none (Some r) h = cc

  by_many : (b : Bool) → v.many ≡ b → followed o k ≡ (if v.many then None else referred w (entity_at s k) v)
  by_many true many = rw many (none o (pair ∙ rw many refl))
  by_many false many = rw many (one o refl (pair ∙ rw many refl))

-- a relation leads to what the entity refers to
pub follow_is : (w : World) (s n k : ℕ) (os : NavRelations) → HasRelations w s os → followed (relation_in os n) k ≡ follow w (entity_at s k) n
follow_is w s n k os has = follow_by w s n k (relation_in os n) (navigation_at w.model s n) (λ r at. has.kept n r at) (has.of n)

pub subst-some : (w : World) (s : ℕ) (r x : KeptRelation) → Some r ≡ Some x → IsRelation w s r → IsRelation w s x
subst-some w s r x h is = let same : r ≡ x = cc in subst (IsRelation w s) same is

pub from_none : {X : Type 0} (o : Option X) (P : Type 0) → o ≡ None → IfNone o P → P
from_none None P h p = p
from_none (Some x) P h p = cc
