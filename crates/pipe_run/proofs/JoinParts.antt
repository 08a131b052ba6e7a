-- What a typed join takes: a navigation property of the type at the empty prefix, and an alias that no instance has.
use Rattle.std.proofs.Common.{◌≡◌, ℕ, sym, ◌∙◌, ap, Bool, true, List, Option, Some, None}
use Rattle.std.specs.Prelude.{option_and_then, if◌then◌else◌}
use Rattle.std.specs.Bool.{then_some}
use Rattle.std.specs.List.{list_all}
use Rattle.std.proofs.lemmas.Option.{slice_get_within}
use Rattle.edm_values.specs.Names.{Name}
use Rattle.edm_values.proofs.OptionFacts.{chained, if_else-parts, some_value, then_some-parts}
use Rattle.edm_model.specs.Models.{EntityType, Model, Navigation, Part}
use Rattle.edm_model.specs.LookUps.{IsType, found_part, item_named, many_named, navigation_named, navigation_on, type_at}
use Rattle.apply_ast.specs.Trees.{OptPipe, Step}
use Rattle.context_typing.proofs.LookUpFacts.{navigation_found}
use Rattle.context_typing.proofs.TypingEquations.{step_shape-Join}
use Rattle.context_typing.specs.Readings.{readings}
use Rattle.context_typing.specs.Shapes.{Shape, set_shape}
use Rattle.context_typing.specs.Typing.{Customs, inner_shape, is_free, join_navigation, joined_shape, root_type, step_shape}
use Rattle.apply_meaning.specs.Instances.{Instance}
use Rattle.join_concat.proofs.JoinLemmas.{fit-free, fit-root}
use Rattle.join_concat.specs.Joins.{has_root_of, is_free_of}
use Rattle.step_run.specs.Conditions.{StepReadyFrom}
use Rattle.step_run.specs.Contexts.{Context}

-- the parts of a typed join: the type at the empty prefix, its navigation property with its place, the shape of what is related, and the alias, which is free
pub record JoinTyped (m : Model) (c : Customs) (S S' : Shape) (outer : Bool) (n a : Name) (T : OptPipe) : Type 0 where
  pub of : ℕ
  pub at : ℕ
  pub navigation : Navigation
  pub related : Shape
  pub root_is : root_type S ≡ Some of
  pub named : navigation_named m of n ≡ Some (at, navigation)
  pub many : navigation.many ≡ true
  pub inner : inner_shape m c (set_shape navigation.target) (set_shape navigation.target) T ≡ Some related
  pub free : is_free m S a ≡ true
  pub shape : joined_shape outer a S related ≡ S'

pub join-typed : (m : Model) (c : Customs) (S S' : Shape) (outer : Bool) (n a : Name) (T : OptPipe) → step_shape m c S (Step.Join outer n a T) ≡ Some S' → JoinTyped m c S S' outer n a T
join-typed m c S S' outer n a T t =
    let v = chained (λ v. option_and_then (λ R. then_some (is_free m S a) (joined_shape outer a S R)) (inner_shape m c (set_shape v.target) (set_shape v.target) T)) (join_navigation m S n) S' (sym (step_shape-Join m c S outer n a T) ∙ t) in
    let R = chained (λ R. then_some (is_free m S a) (joined_shape outer a S R)) (inner_shape m c (set_shape (v.0).target) (set_shape (v.0).target) T) S' v.2 in
    let s = then_some-parts (is_free m S a) (joined_shape outer a S R.0) S' R.2 in
    let o = chained (λ t. many_named m t n) (root_type S) v.0 v.1 in
    let x = chained (λ (x : ℕ × Navigation). if (x.1).many then Some x.1 else None) (navigation_named m o.0 n) v.0 o.2 in
    let k = if_else-parts ((x.0).1).many (Some (x.0).1) v.0 x.2 in
    let own : (x.0).1 ≡ v.0 = some_value k.1 in
    record {
      of = o.0;
      at = (x.0).0;
      navigation = v.0;
      related = R.0;
      root_is = o.1;
      named = x.1 ∙ ap (λ (u : Navigation). Some ((x.0).0, u)) own;
      many = ap (λ (u : Navigation). u.many) (sym own) ∙ k.0;
      inner = R.1;
      free = s.0;
      shape = s.1;
    }

-- a type that has a navigation property of a name is there
pub named-there : (m : Model) (t : ℕ) (n : Name) (x : ℕ × Navigation) → navigation_named m t n ≡ Some x → IsType m t
named-there m t n x h =
    let e = chained (λ (e : EntityType). item_named (λ (v : Navigation). v.name) n e.navigations) (type_at m t) x h in
    slice_get_within m.types t e.0 e.1

-- what is found by the name, by other names
pub found-as : (m m' : Model) (t t' : ℕ) (n n' : Name) (o : Option Part) → o ≡ found_part t' (navigation_named m' t' n') → m' ≡ m → t' ≡ t → n' ≡ n → o ≡ found_part t (navigation_named m t n)
found-as m m' t t' n n' o e em et en = e ∙ (λ i. found_part (et i) (navigation_named (em i) (et i) (en i)))

-- what the name finds is what a join takes, wherever the type is at the empty prefix
pub named-taken : (m : Model) (t : ℕ) (n : Name) (at : ℕ) (v : Navigation) (id : Part) → navigation_named m t n ≡ Some (at, v) → v.many ≡ true → Some id ≡ found_part t (navigation_named m t n)
    → (S : Shape) → root_type S ≡ Some t → join_navigation m S n ≡ navigation_on m id
named-taken m t n at v id h many e S r =
    let f = navigation_found m t n id e in
    let own : (f.0).1 ≡ v = ap (λ (x : ℕ × Navigation). x.1) (some_value (sym f.1 ∙ h)) in
    ap (option_and_then (λ t. many_named m t n)) r
    ∙ ap (option_and_then (λ (x : ℕ × Navigation). if (x.1).many then Some x.1 else None)) h
    ∙ ap (λ b. if b then Some v else None) many
    ∙ ap Some (sym own) ∙ sym f.2

-- what a join may take of instances: the navigation property of the type at the empty prefix, which their entities are of, and an alias that is free in them
pub record JoinReady (x : Context) (root : Option ℕ) (n a : Name) (l : List Instance) : Type 0 where
  pub of : ℕ
  pub at : ℕ
  pub navigation : Navigation
  pub root_is : root ≡ Some of
  pub named : navigation_named x.world.model of n ≡ Some (at, navigation)
  pub many : navigation.many ≡ true
  pub roots : list_all (has_root_of x.world of) l ≡ true
  pub free : list_all (is_free_of a) l ≡ true

pub join-ready : (x : Context) (root : Option ℕ) (outer : Bool) (n a : Name) (T : OptPipe) (l : List Instance) → StepReadyFrom x root (Step.Join outer n a T) l → JoinReady x root n a l
join-ready x root outer n a T l h =
    let J = join-typed x.world.model (readings x.customs) h.0 h.1 outer n a T (h.2).runs.typed in
    record {
      of = J.of;
      at = J.at;
      navigation = J.navigation;
      root_is = sym (h.2).root_is ∙ J.root_is;
      named = J.named;
      many = J.many;
      roots = fit-root x.world h.0 J.of l J.root_is (h.2).runs.fit;
      free = fit-free x.world h.0 a l J.free (h.2).runs.fit;
    }
