-- Names of navigation properties, from the entities of a set.
use Rattle.std.proofs.Common.{◌≡◌, ℕ, zero, suc, ◌+◌, ◌<◌, refl, sym, ◌∙◌, ap, subst, List, [], ◌∷◌, ◌++◌, Option, Some, None, length, drop, drop-cons, take, get_or, add-one, arith, true, false, Bool}
use Rattle.std.specs.Prelude.{IfSome, option_and_then, option_map, if◌then◌else◌}
use Rattle.edm_values.specs.Values.{is_null}
use Rattle.edm_values.specs.Names.{Name, Path}
use Rattle.edm_values.proofs.OptionFacts.{mapped}
use Rattle.edm_model.specs.Models.{Navigation, Part}
use Rattle.edm_model.specs.LookUps.{IsSet, found_part, navigation_at, navigation_named, navigation_on, set_of_type, set_type}
use Rattle.edm_data.specs.Worlds.{World, Entity, entity_at}
use Rattle.edm_data.specs.References.{by_key, follow, property, referred}
use Rattle.edm_data.proofs.ReferenceLemmas.{nav_same}
use Rattle.context_typing.specs.Paths.{at_path}
use Rattle.apply_meaning.specs.Instances.{Instance, named_reference, prefix_value, value_behind}
use Rattle.apply_meaning.proofs.LookupForms.{follow-named, front_value, front-root, front-shorter, fronts-whole}
use Rattle.row_frames.specs.Hops.{IsHop, Lead, one_hop, reached}

-- ---- one name

-- what is found by a key is of the set
keyed-set : (w : World) (s : ℕ) (o : Option ℕ) → IfSome (option_map (entity_at s) o) (λ y. y.set ≡ s)
keyed-set w s None = tt
keyed-set w s (Some k) = refl

referred-set : (w : World) (e : Entity) (v : Navigation) (many b : Bool) → IfSome (if many then None else (if b then None else by_key w (set_of_type w.model v.target) (property w e v.dependent))) (λ y. y.set ≡ set_of_type w.model v.target)
referred-set w e v true b = tt
referred-set w e v false true = tt
referred-set w e v false false = keyed-set w (set_of_type w.model v.target) _

followed-set : (w : World) (e : Entity) (k : ℕ) (v : Navigation) → navigation_at w.model e.set k ≡ Some v → IfSome (follow w e k) (λ y. y.set ≡ set_of_type w.model v.target)
followed-set w e k v h =
    subst (λ o. IfSome (option_and_then (λ x. if x.many then None else referred w e x) o) (λ y. y.set ≡ set_of_type w.model v.target)) (sym h)
    (referred-set w e v v.many (is_null (property w e v.dependent)))

-- a name that was found as a navigation of a set's type
pub is-hop : (w : World) (s t s' : ℕ) (name : Name) (n : Part) → IsSet w.model s → Some n ≡ found_part (set_type w.model s) (navigation_named w.model (set_type w.model s) name)
    → option_map (λ v. v.target) (navigation_on w.model n) ≡ Some t → s' ≡ set_of_type w.model t → IsHop w s name n s'
is-hop w s t s' name n there found target is = record {
  same = λ e h. sym (follow-named w e name (set_type w.model s) n.at n (subst (IsSet w.model) (sym h) there) (ap (set_type w.model) (sym h)) found refl);
  set = λ e h.
      let v = mapped (λ (v : Navigation). v.target) (navigation_on w.model n) t target in
      let of = mapped (λ (x : ℕ × Navigation). record { of = set_type w.model s; at = x.0 }) (navigation_named w.model (set_type w.model s) name) n (sym found) in
      let here = nav_same w.model e.set n (subst (IsSet w.model) (sym h) there) (ap (λ (p : Part). p.of) (sym of.2) ∙ ap (set_type w.model) (sym h)) in
      subst (λ z. IfSome (follow w e n.at) (λ y. y.set ≡ z)) (ap (set_of_type w.model) v.2 ∙ sym is) (followed-set w e n.at v.0 (sym here ∙ v.1));
}

-- ---- names, one after the other

reached-more : (w : World) (o : Option Entity) (ns : List Part) (n : Part) → reached w o (ns ++ n ∷ []) ≡ one_hop w n (reached w o ns)
reached-more w o [] n = refl
reached-more w o (m ∷ ns) n = reached-more w (one_hop w m o) ns n

pub lead-none : (w : World) (s : ℕ) (names : Path) → Lead w s names names [] s
lead-none w s names = record { same = λ e h n. refl; set = λ e h. h }

first-name : (w : World) (m n : Name) (rest : Path) (e : Entity) → value_behind w (m ∷ (rest ++ n ∷ [])) e ≡ option_and_then (value_behind w (rest ++ n ∷ [])) (named_reference w m e)
first-name w m n [] e = refl
first-name w m n (x ∷ rest) e = refl

behind-hop : (w : World) (s s' : ℕ) (m n : Name) (rest : Path) (p : Part) (o : Option Entity) → IsHop w s m p s' → IfSome o (λ y. y.set ≡ s)
    → option_and_then (value_behind w (m ∷ (rest ++ n ∷ []))) o ≡ option_and_then (value_behind w (rest ++ n ∷ [])) (one_hop w p o)
behind-hop w s s' m n rest p None H h = refl
behind-hop w s s' m n rest p (Some e) H h = first-name w m n rest e ∙ ap (option_and_then (value_behind w (rest ++ n ∷ []))) (H.same e h)

set-hop : (w : World) (s s' : ℕ) (m : Name) (p : Part) (o : Option Entity) → IsHop w s m p s' → IfSome o (λ y. y.set ≡ s) → IfSome (one_hop w p o) (λ y. y.set ≡ s')
set-hop w s s' m p None H h = tt
set-hop w s s' m p (Some e) H h = H.set e h

-- one name more
pub lead-more : (w : World) (s at s' : ℕ) (names : Path) (i : ℕ) (m : Name) (p : Part) (ns ns' : List Part) → Lead w s names (drop i names) ns at → i < length names → m ≡ get_or names i m → IsHop w at m p s' → ns' ≡ ns ++ p ∷ []
    → Lead w s names (drop (i + 1) names) ns' s'
lead-more w s at s' names i m p ns ns' L l e H is =
    let next : drop i names ≡ m ∷ drop (i + 1) names = drop-cons names i m l ∙ (λ j. sym e j ∷ drop (sym (add-one i) j) names) in
    let more : (x : Entity) → one_hop w p (reached w (Some x) ns) ≡ reached w (Some x) ns' = λ x. sym (ap (reached w (Some x)) is ∙ reached-more w (Some x) ns p) in record {
      same = λ x h n.
          L.same x h n
          ∙ ap (λ q. option_and_then (value_behind w (q ++ n ∷ [])) (reached w (Some x) ns)) next
          ∙ behind-hop w at s' m n (drop (i + 1) names) p (reached w (Some x) ns) H (L.set x h)
          ∙ ap (option_and_then (value_behind w (drop (i + 1) names ++ n ∷ []))) (more x);
      set = λ x h. subst (λ o. IfSome o (λ y. y.set ≡ s')) (more x) (set-hop w at s' m p (reached w (Some x) ns) H (L.set x h));
    }

-- all names
pub lead-all : (w : World) (s at : ℕ) (names : Path) (i : ℕ) (ns : List Part) → Lead w s names (drop i names) ns at → length names < i + 1 → Lead w s names [] ns at
lead-all w s at names i ns L h = subst (λ q. Lead w s names q ns at) (none-left names i h) L
  where
    none-left : (p : Path) (i : ℕ) → length p < i + 1 → drop i p ≡ []
    none-left [] zero h = refl
    none-left [] (suc i) h = refl
    none-left (n ∷ p) zero h = absurd (omega (arith, h))
    none-left (n ∷ p) (suc i) h = none-left p i (omega (arith, h))

-- ---- paths from the empty prefix

no-front : (w : World) (i : Instance) (e : Entity) (n : Name) (q : Path) (k : ℕ) → i.prefixes ≡ ([], Some e) ∷ [] → front_value w i (n ∷ q) k ≡ front_value w i (n ∷ q) 0
no-front w i e n q zero h = refl
no-front w i e n q (suc k) h =
    front-shorter w i (n ∷ q) k (λ j. option_map (λ (x : Path × Option Entity). x.1) (at_path (λ (x : Path × Option Entity). x.0) (h j) (n ∷ (take k q))))
    ∙ no-front w i e n q k h

-- where the only prefix is the empty one, a path leads from its entity
pub alone-behind : (w : World) (i : Instance) (e : Entity) (n : Name) (q : Path) → i.prefixes ≡ ([], Some e) ∷ [] → prefix_value w i (n ∷ q) ≡ value_behind w (n ∷ q) e
alone-behind w i e n q h =
    sym (fronts-whole w i (n ∷ q))
    ∙ no-front w i e n q (length (n ∷ q)) h
    ∙ front-root w i (n ∷ q)
    ∙ ap (λ ps. option_and_then (value_behind w (n ∷ q)) (option_and_then (λ (x : Path × Option Entity). x.1) (at_path (λ (x : Path × Option Entity). x.0) ps []))) h
