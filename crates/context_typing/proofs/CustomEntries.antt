-- The custom aggregates of a sound model, and their readings with typings.
use Rattle.std.proofs.Common.{◌≡◌, refl, sym, ◌∙◌, ap, subst, ℕ, zero, suc, ◌+◌, ◌<◌, Bool, true, false, ◌&&◌, List, [], ◌∷◌, ◌++◌, Option, Some, None, map, take, length, get_or, arith, add-zero}
use Rattle.std.specs.Prelude.{◌≤◌, All, Ok, Err, find, is_none, is_some, option_and_then, option_map, slice_get}
use Rattle.std.specs.Bool.{then_some}
use Rattle.std.specs.List.{enumerate_from, list_all}
use Rattle.std.proofs.lemmas.List.{get_or-map, get_or-take, length-map, length-take, take_more, map-append}
use Rattle.std.proofs.lemmas.List.Elements.{All-nil, All-cons, All-get_or, All-map, All-weaker}
use Rattle.edm_values.specs.declared.EdmType.{EdmType}
use Rattle.edm_values.specs.Lists.{all_some, are_distinct, places}
use Rattle.edm_values.specs.Names.{Name, Path}
use Rattle.edm_values.proofs.OptionFacts.{none_or, some_value, no-then_some}
use Rattle.edm_values.proofs.PlaceFacts.{All-flat_map_below}
use Rattle.edm_model.specs.Models.{Model, Part, Property, Custom as ModelCustom}
use Rattle.edm_model.specs.LookUps.{customs_of_type, property_on, IsType}
use Rattle.edm_model.specs.IdLists.{custom_list, custom_entry, customs_in}
use Rattle.edm_model.specs.Soundness.{IsSound}
use Rattle.edm_model.specs.declared.parts.Custom.{Custom}
use Rattle.edm_model.proofs.IdLaws.{places_within}
use Rattle.apply_ast.specs.Views.{expr_of}
use Rattle.context_typing.specs.Answers.{AnswersCustom, IfUntyped, IsEntry, custom_of, per_typed, reading_for}
use Rattle.context_typing.specs.Readings.{IsTypedCustom, custom_typing, read_kind, reading_of}
use Rattle.context_typing.specs.Typing.{custom_kind, custom_risky, key_column, path_kind, path_property, widened}
use Rattle.context_typing.specs.declared.customs.ReadCustom.{ReadCustom}
use Rattle.context_typing.specs.declared.definitions.CustomRefused.{CustomRefused}
use Rattle.context_typing.specs.declared.definitions.CustomRefused.TheVariants as custom
use Rattle.context_typing.specs.declared.customs.TypedCustom.{TypedCustom}
use Rattle.context_typing.specs.Grouping.{typed_key}
use Rattle.context_typing.specs.Paths.{same_path}
use Rattle.context_typing.specs.Shapes.{ColumnShape, set_shape}
use Rattle.context_typing.proofs.GroupFacts.{key-paths-of, typed-all}
use Rattle.context_typing.proofs.LookUpFacts.{property_from, property_from-all, property_from-less, property_from-root}
use Rattle.context_typing.proofs.PathOrders.{find-first}

-- ---- the list of a model's custom aggregates

enumerated : {X : Type 0} (all : List X) (n : ℕ) (xs : List X) → ((i : ℕ) → slice_get all (n + i) ≡ slice_get xs i) → All (λ x. slice_get all x.0 ≡ Some x.1) (enumerate_from n xs)
enumerated all n [] h = All-nil (λ x. slice_get all x.0 ≡ Some x.1)
enumerated all n (x ∷ xs) h =
    All-cons (λ x. slice_get all x.0 ≡ Some x.1) (n, x) (enumerate_from (n + 1) xs) (ap (slice_get all) (sym (add-zero n)) ∙ h 0)
    (enumerated all (n + 1) xs (λ i. let e : n + 1 + i ≡ n + suc i = omega arith in ap (slice_get all) e ∙ h (suc i)))

pub entries : (m : Model) → IsSound m → All (IsEntry m) (custom_list m)
entries m sound = All-flat_map_below (IsEntry m) (customs_in m) (length m.types) of_type (places (length m.types)) (places_within (length m.types))
  where
    of_type : (t : ℕ) → IsType m t → All (IsEntry m) (customs_in m t)
    of_type t is =
        let us = customs_of_type m t in
        let here : ℕ × ModelCustom → Type 0 = λ x. slice_get us x.0 ≡ Some x.1 in
        All-map (IsEntry m) (custom_entry t) (enumerate_from 0 us)
        (All-weaker here (λ x. IsEntry m (custom_entry t x)) (λ x e. record { there = is; own = refl; at = e; named = sound.customs_found t x.0 x.1 e }) (enumerate_from 0 us)
        (enumerated us 0 us (λ i. let e : 0 + i ≡ i = omega arith in ap (slice_get us) e)))

-- ---- one reading

pub read-kind-is : (m : Model) (u : Custom) (r : ReadCustom) → IsEntry m u → r.id ≡ u.id → read_kind m r ≡ custom_kind m (custom_of u) (reading_for u r)
read-kind-is m u r entry id =
    let at = λ (p : Part) (t : ℕ). option_and_then (λ v. custom_kind m v (record { owner = t; name = v.name; of = expr_of r.of; per = r.per })) (slice_get (customs_of_type m t) p.at) in
    ap (λ p. at p p.of) id ∙ ap (at u.id) entry.own ∙ ap (option_and_then (λ v. custom_kind m v (record { owner = u.owner; name = v.name; of = expr_of r.of; per = r.per }))) entry.at

pub typed-custom : (m : Model) (u : Custom) (r : ReadCustom) (k : EdmType) (risky : Bool) (x : TypedCustom) → IsEntry m u → r.id ≡ u.id → custom_kind m (custom_of u) (reading_for u r) ≡ Some k → custom_risky m (custom_of u) (reading_for u r) ≡ risky
    → x.read ≡ r → x.owner ≡ u.owner → reading_of x ≡ reading_for u r → x.kind ≡ k → x.risky ≡ risky → IsTypedCustom m x
typed-custom m u r k risky x entry id kind risk read owner reading xk xr = (
  ap (λ r. (r.id).of) read ∙ ap (λ p. p.of) id ∙ entry.own ∙ sym owner,
  ap (custom_typing m) reading ∙ ap (option_map {U = ℕ × Option EdmType × Bool} (λ v. (v.0, custom_kind m v.1 (reading_for u r), custom_risky m v.1 (reading_for u r)))) entry.named
      ∙ (λ i. Some ((sym (ap (λ r. (r.id).at) read ∙ ap (λ p. p.at) id)) i, (kind ∙ ap Some (sym xk)) i, (risk ∙ sym xr) i)),
)

-- the typing of a definition, with the name and the risk
abbrev typing_for : Model → Custom → ReadCustom → Option (Name × EdmType × Bool)
typing_for m u r = option_map {U = Name × EdmType × Bool} (λ k. (u.name, k, custom_risky m (custom_of u) (reading_for u r))) (custom_kind m (custom_of u) (reading_for u r))

typing-parts : (n n' : Name) (k : EdmType) (b b' : Bool) (o : Option EdmType) → Some (n, k, b) ≡ option_map {U = Name × EdmType × Bool} (λ k. (n', k, b')) o → (o ≡ Some k) × (n' ≡ n) × (b' ≡ b)
typing-parts n n' k b b' None e = none_or _ (sym e)
typing-parts n n' k b b' (Some j) e =
    let s = sym (some_value e) in
    ((λ i. Some ((s i).1)), (λ i. (s i).0), (λ i. (s i).2))

pub answers-typed : (m : Model) (u : Custom) (r : ReadCustom) (n : Name) (k : EdmType) (risky : Bool) → IsEntry m u → r.id ≡ u.id → Some (n, k, risky) ≡ typing_for m u r
    → AnswersCustom m r (Ok (record { read = r; owner = u.owner; name = n; kind = k; risky = risky }))
answers-typed m u r n k risky entry id e =
    let t = typing-parts n u.name k risky (custom_risky m (custom_of u) (reading_for u r)) (custom_kind m (custom_of u) (reading_for u r)) e in
    let x : TypedCustom = record { read = r; owner = u.owner; name = n; kind = k; risky = risky } in
    let same : reading_of x ≡ reading_for u r = λ i. record { owner = u.owner; name = (sym t.1) i; of = expr_of r.of; per = r.per } in
    (refl, typed-custom m u r k risky x entry id t.0 t.2 refl refl same refl refl, read-kind-is m u r entry id ∙ t.0)

-- ---- many readings

-- the readings are no more than the model's custom aggregates, and have their ids
pub ids-within : {X Y Z : Type 0} (f : X → Z) (g : Y → Z) (xs : List X) (ys : List Y) → map f xs ≡ take (length xs) (map g ys) → length xs ≤ length ys
ids-within f g xs ys e =
    let n : length xs ≡ length (take (length xs) (map g ys)) = sym (length-map xs f) ∙ ap length e in
    omega (arith, n, length-take (length xs) (map g ys), length-map ys g)

pub id-at : {X Y Z : Type 0} (f : X → Z) (g : Y → Z) (xs : List X) (ys : List Y) (i : ℕ) (x : X) (y : Y) → i < length xs → map f xs ≡ take (length xs) (map g ys) → f (get_or xs i x) ≡ g (get_or ys i y)
id-at f g xs ys i x y h e =
    let within = ids-within f g xs ys e in
    sym (get_or-map f xs i x (f x) h) ∙ ap (λ l. get_or l i (f x)) e ∙ get_or-take (length xs) (map g ys) i (f x) h ∙ get_or-map g ys i y (f x) (omega (arith, within))

-- the custom aggregate of the model at the place of a reading
pub entry-at : (m : Model) → IsSound m → (list : List ReadCustom) (us : List Custom) (i j : ℕ) (u : Custom) → map (λ r. r.id) list ≡ take (length list) (map (λ u. u.id) (custom_list m)) → us ≡ custom_list m → i < length list → j ≡ i → u ≡ get_or us j u → IsEntry m u
entry-at m sound list us i j u e us-is h ji u-is =
    let within = ids-within (λ r. r.id) (λ u. u.id) list (custom_list m) e in
    let k : i < length (custom_list m) = omega (arith, within) in
    subst (IsEntry m) (sym (u-is ∙ (λ n. get_or (us-is n) (ji n) u))) (All-get_or (IsEntry m) (custom_list m) i u k (entries m sound))

-- it has the id of the reading
pub same-ids : (m : Model) (list : List ReadCustom) (us : List Custom) (i j : ℕ) (r : ReadCustom) (u : Custom) → map (λ r. r.id) list ≡ take (length list) (map (λ u. u.id) (custom_list m)) → us ≡ custom_list m → i < length list → j ≡ i → r ≡ get_or list i r → u ≡ get_or us j u → r.id ≡ u.id
same-ids m list us i j r u e us-is h ji r-is u-is =
    ap (λ r. r.id) r-is ∙ id-at (λ r. r.id) (λ u. u.id) list (custom_list m) i r u h e ∙ ap (λ u. u.id) (sym (u-is ∙ (λ n. get_or (us-is n) (ji n) u)))

pub reads-next : (all : List TypedCustom) (list : List ReadCustom) (i : ℕ) (x : TypedCustom) (r : ReadCustom) → map (λ x. x.read) all ≡ take i list → i < length list → x.read ≡ r → r ≡ get_or list i r → map (λ x. x.read) (all ++ x ∷ []) ≡ take (i + 1) list
reads-next all list i x r before h read is =
    map-append (λ x. x.read) all (x ∷ []) ∙ (λ j. before j ++ (read ∙ is) j ∷ []) ∙ sym (take_more list i r h)

pub first-untyped : (m : Model) (all : List TypedCustom) (list : List ReadCustom) (i : ℕ) (r : ReadCustom) → map (λ x. x.read) all ≡ take i list → All (λ x. read_kind m x.read ≡ Some x.kind) all → i < length list → length all ≡ i → r ≡ get_or list i r → read_kind m r ≡ None
    → option_map (λ r. r.id) (find (λ r. is_none (read_kind m r)) list) ≡ Some r.id
first-untyped m all list i r reads typed h count is none =
    ap (option_map (λ r. r.id)) (find-first (λ r. is_none (read_kind m r)) list i r h (ap (λ r. is_none (read_kind m r)) (sym is) ∙ ap is_none none) before ∙ ap Some (sym is))
  where
    before : (j : ℕ) → j < i → is_none (read_kind m (get_or list j r)) ≡ false
    before j k = go all typed reads (omega (arith, count))
      where
        go : (all : List TypedCustom) → All (λ x. read_kind m x.read ≡ Some x.kind) all → map (λ x. x.read) all ≡ take i list → j < length all → is_none (read_kind m (get_or list j r)) ≡ false
        go [] typed reads l = absurd (omega arith)
        go (y ∷ ys) typed reads l =
            let x = get_or (y ∷ ys) j y in
            let e : read_kind m x.read ≡ Some x.kind = All-get_or (λ x. read_kind m x.read ≡ Some x.kind) (y ∷ ys) j y l typed in
            let same : get_or list j r ≡ x.read = sym (get_or-take i list j r k) ∙ ap (λ l. get_or l j r) (sym reads) ∙ get_or-map (λ x. x.read) (y ∷ ys) j y r l in
            ap (λ r. is_none (read_kind m r)) same ∙ ap is_none e

-- ---- the paths that a custom aggregate groups by

pub set-property : (m : Model) (t : ℕ) (p : Path) → path_property m (set_shape t) p ≡ property_on m t p
set-property m t [] = property_from-all m (set_shape t) [] ∙ property_from-root m (set_shape t) [] t refl
set-property m t (n ∷ q) = property_from-all m (set_shape t) (n ∷ q) ∙ go (length (n ∷ q))
  where
    go : (k : ℕ) → property_from m (set_shape t) (n ∷ q) k ≡ property_on m t (n ∷ q)
    go zero = property_from-root m (set_shape t) (n ∷ q) t refl
    go (suc k) = property_from-less m (set_shape t) (n ∷ q) (suc k) k (omega arith) refl ∙ go k

set-typed : (m : Model) (t : ℕ) (p : Path) → is_some (path_kind m (set_shape t) p) ≡ is_some (property_on m t p)
set-typed m t p = mapped-some (path_property m (set_shape t) p) ∙ ap is_some (set-property m t p)
  where
    mapped-some : (o : Option Property) → is_some (option_map (λ x. widened x.kind) o) ≡ is_some o
    mapped-some None = refl
    mapped-some (Some x) = refl

all-typed : (m : Model) (t : ℕ) (ps : List Path) → list_all (λ p. is_some (path_kind m (set_shape t) p)) ps ≡ list_all (λ p. is_some (property_on m t p)) ps
all-typed m t [] = refl
all-typed m t (p ∷ ps) = λ i. set-typed m t p i && all-typed m t ps i

some-parts : {X : Type 0} (b : Bool) (x y : X) → Some x ≡ then_some b y → (b ≡ true) × (x ≡ y)
some-parts true x y e = (refl, some_value e)
some-parts false x y e = none_or x (sym e)

pub per-some : (m : Model) (t : ℕ) (ps : List Path) (cs : List ColumnShape) → Some cs ≡ all_some (map (typed_key m (set_shape t) false) ps) → are_distinct same_path (map (λ c. c.path) cs) ≡ per_typed m t ps
per-some m t ps cs e =
    let x = some-parts (list_all (λ p. is_some (path_kind m (set_shape t) p)) ps) cs (map (key_column m (set_shape t) false) ps) (e ∙ typed-all m (set_shape t) false ps) in
    ap (λ l. are_distinct same_path (map (λ c. c.path) l)) x.1 ∙ ap (are_distinct same_path) (key-paths-of m (set_shape t) false ps)
    ∙ ap (λ b. b && are_distinct same_path ps) (sym x.0 ∙ all-typed m t ps)

pub per-none : (m : Model) (t : ℕ) (ps : List Path) → None ≡ all_some (map (typed_key m (set_shape t) false) ps) → false ≡ per_typed m t ps
per-none m t ps e =
    ap (λ b. b && are_distinct same_path ps) (sym (no-then_some (list_all (λ p. is_some (path_kind m (set_shape t) p)) ps) (map (key_column m (set_shape t) false) ps) (e ∙ typed-all m (set_shape t) false ps)) ∙ all-typed m t ps)

pub refused-first : (X : Type 0) (m : Model) (all : List TypedCustom) (list : List ReadCustom) (i : ℕ) (r : ReadCustom) (e : CustomRefused) → map (λ x. x.read) all ≡ take i list → All (λ x. read_kind m x.read ≡ Some x.kind) all → i < length list → length all ≡ i → r ≡ get_or list i r
    → AnswersCustom m r (Err e) → IfUntyped {X = X} (Err e) (λ id. option_map (λ r. r.id) (find (λ r. is_none (read_kind m r)) list) ≡ Some id)
refused-first X m all list i r (custom.At id) reads typed h count is a =
    first-untyped m all list i r reads typed h count is a.1 ∙ ap Some (sym a.0)
refused-first X m all list i r custom.Memory reads typed h count is a = tt
