-- From what was read of a model's custom aggregates to their typed readings, or to the first that has none.
use Rattle.std.proofs.Common.{◌≡◌, ℕ, zero, suc, ◌<◌, ◌≤◌, ◌&&◌, Bool, true, false, List, [], ◌∷◌, Option, Some, None, Err, refl, sym, ap, subst, ◌∙◌, map, take, length, get_or, arith, cond}
use Rattle.std.specs.Prelude.{All, find, is_none, is_some, slice_get, option_map, unwrap_or}
use Rattle.std.specs.List.{AllZip, enumerate_from}
use Rattle.std.proofs.lemmas.Bool.{eq-eqb}
use Rattle.std.proofs.lemmas.List.{length-map, take-map, take_all}
use Rattle.std.proofs.lemmas.List.Elements.{All-get_or, All-head, All-tail, All-take}
use Rattle.edm_values.specs.declared.EdmType.{EdmType}
use Rattle.edm_values.specs.Lists.{same_text}
use Rattle.edm_values.proofs.OptionFacts.{none_or, some_value, mapped, chained}
use Rattle.edm_values.proofs.SameTexts.{same_texts}
use Rattle.edm_values.proofs.SearchFacts.{found-passes}
use Rattle.edm_model.specs.Models.{EntityType, Model, Part}
use Rattle.edm_model.specs.Models as seen
use Rattle.edm_model.specs.LookUps.{custom_named, customs_of_type, item_named, type_at}
use Rattle.edm_model.specs.IdLists.{custom_list}
use Rattle.edm_model.specs.Soundness.{IsSound}
use Rattle.edm_model.specs.declared.parts.Custom.{Custom}
use Rattle.context_typing.specs.Answers.{IfUntyped, IsEntry, custom_of, reading_for}
use Rattle.context_typing.specs.Readings.{AreTypedOver, IsTypedCustom, read_kind, reading_of, readings, same_part}
use Rattle.context_typing.specs.Typing.{Customs, Reading, custom_kind, custom_risky, customs_typed}
use Rattle.context_typing.specs.declared.customs.ReadCustom.{ReadCustom}
use Rattle.context_typing.specs.declared.definitions.CustomRefused.{CustomRefused}
use Rattle.context_typing.specs.declared.definitions.CustomRefused.TheVariants as custom
use Rattle.context_typing.specs.declared.customs.TypedCustom.{TypedCustom}
use Rattle.context_typing.proofs.CustomEntries.{entries, read-kind-is}
use Rattle.context_typing.proofs.WholeCustoms.{customs_are_typed}
use Rattle.context_typing.proofs.CustomFacts.{same_part-is}
use Rattle.custom_readings.specs.Readings.{AreRead, HasNoReading, IsRead}
use Rattle.custom_readings.proofs.ReadLists.{first-ids}
use Rattle.apply_store.specs.CustomReadings.{IsTypedReading, AreCustoms, IsFirstUntyped}
use Rattle.apply_store.specs.FirstCustoms.{HasReading, IsFirstId, NamesFirst, owned}
use Rattle.edm_model.specs.LookUps.{IsType}
use Rattle.apply_store.proofs.FirstCustoms.{customs-owned}
use Rattle.apply_store.proofs.Named.{item_at}

-- ---- typed readings

module _ (m : Model) where
  -- a custom aggregate that was typed
  typed-reading : (u : Custom) (x : TypedCustom) → IsEntry m u → IsRead u x.read → IsTypedCustom m x → IsTypedReading m (owned u) (reading_of x)
  typed-reading u x entry read typed =
      let f : ℕ × seen.Custom → ℕ × Option EdmType × Bool = λ v. (v.0, custom_kind m v.1 (reading_of x), custom_risky m v.1 (reading_of x)) in
      let v = mapped f (custom_named m x.owner x.name) (x.read.id.at, Some x.kind, x.risky) typed.1 in
      let t = chained (λ (e : EntityType). item_named (λ (c : seen.Custom). c.name) x.name e.customs) (type_at m x.owner) v.0 v.1 in
      let passes = found-passes (λ (y : ℕ × seen.Custom). same_text (y.1).name x.name) (enumerate_from 0 (t.0).customs) v.0 t.2 in
      let owner : x.owner ≡ u.owner = sym typed.0 ∙ ap (λ (p : Part). p.of) read.id ∙ entry.own in
      let at : v.0.0 ≡ u.id.at = ap (λ (z : ℕ × Option EdmType × Bool). z.0) v.2 ∙ ap (λ (p : Part). p.at) read.id in
      let found : slice_get (customs_of_type m x.owner) v.0.0 ≡ Some v.0.1 =
      ap (λ (o : Option EntityType). slice_get (unwrap_or (option_map (λ (e : EntityType). e.customs) o) []) v.0.0) t.1 ∙ item_at (λ (c : seen.Custom). c.name) x.name (t.0).customs v.0 t.2 in
      let same : v.0.1 ≡ custom_of u = some_value (sym found ∙ (λ i. slice_get (customs_of_type m (owner i)) (at i)) ∙ entry.at) in (
        owner,
        (sym (ap (λ (c : seen.Custom). c.name) same) ∙ same_texts (v.0.1).name x.name passes, read.texts),
        ap is_some (sym (ap (λ (c : seen.Custom). custom_kind m c (reading_of x)) same) ∙ ap (λ (z : ℕ × Option EdmType × Bool). z.1) v.2),
      )

  typed-zip : (us : List Custom) (c : List TypedCustom) → All (IsEntry m) us → AllZip IsRead us (map (λ x. x.read) c) → All (IsTypedCustom m) c → AllZip (IsTypedReading m) (map owned us) (readings c)
  typed-zip [] [] es z typed = tt
  typed-zip [] (x ∷ c) es z typed = absurd z
  typed-zip (u ∷ us) [] es z typed = absurd z
  typed-zip (u ∷ us) (x ∷ c) es z typed = (
    typed-reading u x (All-head (IsEntry m) u us es) z.0 (All-head (IsTypedCustom m) x c typed),
    typed-zip us c (All-tail (IsEntry m) u us es) z.1 (All-tail (IsTypedCustom m) x c typed),
  )

  -- one that was read and has a typing
  kind-reading : (u : Custom) (r : ReadCustom) (k : EdmType) → IsEntry m u → IsRead u r → read_kind m r ≡ Some k → IsTypedReading m (owned u) (reading_for u r)
  kind-reading u r k entry read e = (refl, (refl, read.texts), ap is_some (sym (read-kind-is m u r entry read.id) ∙ e))

  -- one that was read and has none
  no-kind-reading : (u : Custom) (r : ReadCustom) → IsEntry m u → IsRead u r → read_kind m r ≡ None → (s : Reading) → ¬ IsTypedReading m (owned u) s
  no-kind-reading u r entry read e s t =
      let o = read.only s.of s.per (t.1).1 in
      let same : custom_kind m (custom_of u) s ≡ custom_kind m (custom_of u) (reading_for u r) =
      (λ i. custom_kind m (custom_of u) (record { owner = t.0 i; name = sym (t.1).0 i; of = o.0 i; per = o.1 i })) in
      let none : false ≡ true = sym (ap is_some (same ∙ sym (read-kind-is m u r entry read.id) ∙ e)) ∙ t.2 in
      cc

  -- one that has no reading
  unread : (u : Custom) → HasNoReading u → (s : Reading) → ¬ IsTypedReading m (owned u) s
  unread u none s t = none s.of s.per (t.1).1

  -- ---- the first without a typed reading

  record FirstAt (us : List Custom) (id : Part) : Type 0 where
    place : ℕ
    before : Customs
    typed : AllZip (IsTypedReading m) (map owned (take place us)) before
    custom : Custom
    stands : slice_get us place ≡ Some custom
    is : custom.id ≡ id
    entry : IsEntry m custom
    untyped : (s : Reading) → ¬ IsTypedReading m (owned custom) s
    read : HasReading (owned custom)

  first-at : (us : List Custom) (list : List ReadCustom) (id : Part) → All (IsEntry m) us → AllZip IsRead (take (length list) us) list → option_map (λ r. r.id) (find (λ r. is_none (read_kind m r)) list) ≡ Some id → FirstAt us id
  first-at us [] id es z e = none_or id e
  first-at [] (r ∷ list) id es z e = absurd z
  first-at (u ∷ us) (r ∷ list) id es z e = by (first-at us list id (All-tail (IsEntry m) u us es) z.1) (read_kind m r) refl e
    where
      by : (option_map (λ r. r.id) (find (λ r. is_none (read_kind m r)) list) ≡ Some id → FirstAt us id) → (k : Option EdmType) → read_kind m r ≡ k → option_map (λ r. r.id) (cond (is_none k) (Some r) (find (λ r. is_none (read_kind m r)) list)) ≡ Some id → FirstAt (u ∷ us) id
      by more None k f = record {
        place = 0;
        before = [];
        typed = tt;
        custom = u;
        stands = refl;
        is = sym z.0.id ∙ some_value f;
        entry = All-head (IsEntry m) u us es;
        untyped = no-kind-reading u r (All-head (IsEntry m) u us es) z.0 k;
        read = (_, _, z.0.texts);
      }
      by more (Some k) h f =
          let rest = more f in
          record {
            place = suc rest.place;
            before = reading_for u r ∷ rest.before;
            typed = (kind-reading u r k (All-head (IsEntry m) u us es) z.0 h, rest.typed);
            custom = rest.custom;
            stands = rest.stands;
            is = rest.is;
            entry = rest.entry;
            untyped = rest.untyped;
            read = rest.read;
          }

  first-from : (place : ℕ) (before : Customs) (u : Custom) → AllZip (IsTypedReading m) (map owned (take place (custom_list m))) before → slice_get (custom_list m) place ≡ Some u → ((s : Reading) → ¬ IsTypedReading m (owned u) s) → IsFirstUntyped m (owned u)
  first-from place before u zip stands none =
      let P : List (ℕ × seen.Custom) → Type 0 = λ l. AllZip (IsTypedReading m) (take place l) before in
      let Q : List (ℕ × seen.Custom) → Type 0 = λ l. AllZip (IsTypedReading m) l before in
      record {
        place = place;
        before = before;
        typed = subst P (customs-owned m) (subst Q (sym (take-map owned place (custom_list m))) zip);
        stands = ap (λ l. slice_get l place) (sym (customs-owned m)) ∙ get-mapped place (custom_list m) ∙ ap (option_map owned) stands;
        untyped = none;
      }
    where
      get-mapped : (k : ℕ) (us : List Custom) → slice_get (map owned us) k ≡ option_map owned (slice_get us k)
      get-mapped k [] = refl
      get-mapped zero (u ∷ us) = refl
      get-mapped (suc k) (u ∷ us) = get-mapped k us

  -- ---- of its id

  id-same : (a b : Part) → a ≡ b → same_part a b ≡ true
  id-same a b e = ap (λ p. same_part p b) e ∙ (λ i. eq-eqb b.of b.of refl i && eq-eqb b.at b.at refl i)

  found-id : (us : List Custom) (k : ℕ) (u : Custom) (id : Part) → slice_get us k ≡ Some u → u.id ≡ id → (v : Custom) × (find (λ u. same_part u.id id) us ≡ Some v)
  found-id [] k u id e is = none_or u e
  found-id (x ∷ us) zero u id e is = by (same_part x.id id) refl
    where
      same : x.id ≡ id
      same = ap (λ (u : Custom). u.id) (some_value e) ∙ is

      by : (b : Bool) → same_part x.id id ≡ b → (v : Custom) × (cond b (Some x) (find (λ u. same_part u.id id) us) ≡ Some v)
      by true h = (x, refl)
      by false h = let no : false ≡ true = sym h ∙ id-same x.id id same in absurd cc
  found-id (x ∷ us) (suc k) u id e is = by (found-id us k u id e is) (same_part x.id id)
    where
      by : (v : Custom) × (find (λ u. same_part u.id id) us ≡ Some v) → (b : Bool) → (v : Custom) × (cond b (Some x) (find (λ u. same_part u.id id) us) ≡ Some v)
      by more true = (x, refl)
      by more false = more

  entry-found : (us : List Custom) (t : Custom → Bool) (u : Custom) → All (IsEntry m) us → find t us ≡ Some u → IsEntry m u
  entry-found [] t u es e = none_or u e
  entry-found (x ∷ us) t u es e = by (entry-found us t u (All-tail (IsEntry m) x us es)) (t x) e
    where
      by : (find t us ≡ Some u → IsEntry m u) → (b : Bool) → cond b (Some x) (find t us) ≡ Some u → IsEntry m u
      by more true f = let P : Custom → Type 0 = IsEntry m in subst P (some_value f) (All-head (IsEntry m) x us es)
      by more false f = more f

  owned-same : (u v : Custom) → IsEntry m u → IsEntry m v → u.id ≡ v.id → owned u ≡ owned v
  owned-same u v a b e =
      let owner : u.owner ≡ v.owner = sym a.own ∙ ap (λ (p : Part). p.of) e ∙ b.own in
      let custom : custom_of u ≡ custom_of v = some_value (sym a.at ∙ (λ i. slice_get (customs_of_type m (owner i)) (e i).at) ∙ b.at) in
      λ i. (owner i, custom i)

  -- ---- what the calls have to say

  module _ (sound : IsSound m) (list : List ReadCustom) (are : AreRead (custom_list m) list) where
    zip-typed : (c : List TypedCustom) → map (λ x. x.read) c ≡ list → AreTypedOver m c → AllZip (IsTypedReading m) (map owned (take (length list) (custom_list m))) (readings c)
    zip-typed c reads typed =
        let P : List ReadCustom → Type 0 = λ l. AllZip IsRead (take (length list) (custom_list m)) l in
        typed-zip (take (length list) (custom_list m)) c (All-take (IsEntry m) (length list) (custom_list m) (entries m sound)) (subst P (sym reads) are.read) typed

    pub all-typed : (c : List TypedCustom) → map (λ x. x.read) c ≡ list → AreTypedOver m c → length (custom_list m) ≤ length list → AreCustoms m (readings c)
    all-typed c reads typed past =
        let P : List Custom → Type 0 = λ us. AllZip (IsTypedReading m) (map owned us) (readings c) in
        let Q : List (ℕ × seen.Custom) → Type 0 = λ l. AllZip (IsTypedReading m) l (readings c) in
        subst Q (customs-owned m) (subst P (take_all (length list) (custom_list m) past) (zip-typed c reads typed))

    -- each custom aggregate has its type
    pub whole-typed : (c : List TypedCustom) → map (λ x. x.read) c ≡ list → AreTypedOver m c → length (custom_list m) ≤ length list → customs_typed m (readings c) ≡ true
    whole-typed c reads typed past =
        let ids = map (λ (u : Custom). u.id) (custom_list m) in
        let short : length ids ≤ length list = omega (arith, past, length-map (custom_list m) (λ (u : Custom). u.id)) in
        customs_are_typed m c typed (sym (read-ids c) ∙ ap (map (λ (r : ReadCustom). r.id)) reads ∙ first-ids (custom_list m) list are ∙ take_all (length list) ids short)
      where
        read-ids : (c : List TypedCustom) → map (λ (r : ReadCustom). r.id) (map (λ (x : TypedCustom). x.read) c) ≡ map (λ x. x.read.id) c
        read-ids [] = refl
        read-ids (x ∷ c) = ap (λ l. x.read.id ∷ l) (read-ids c)

    pub first-unread : (c : List TypedCustom) (u : Custom) → map (λ x. x.read) c ≡ list → AreTypedOver m c → slice_get (custom_list m) (length list) ≡ Some u → IsFirstUntyped m (owned u)
    first-unread c u reads typed stands = first-from (length list) (readings c) u (zip-typed c reads typed) stands (unread u (are.ended u stands))

    pub first-untyped : (id : Part) → option_map (λ r. r.id) (find (λ r. is_none (read_kind m r)) list) ≡ Some id → IsFirstId m id
    first-untyped id e =
        let f = first-at (custom_list m) list id (entries m sound) are.read e in
        let v = found-id (custom_list m) f.place f.custom id f.stands f.is in
        let entry = entry-found (custom_list m) (λ u. same_part u.id id) v.0 (entries m sound) v.1 in
        let same = owned-same f.custom v.0 f.entry entry (f.is ∙ sym (same_part-is (v.0).id id (found-passes (λ u. same_part u.id id) (custom_list m) v.0 v.1))) in
        let P : ℕ × seen.Custom → Type 0 = IsFirstUntyped m in
        record {
          custom = v.0;
          found = v.1;
          there = entry.there;
          first = subst P same (first-from f.place f.before f.custom f.typed f.stands f.untyped);
          read = subst HasReading same f.read;
        }

    pub names-first : (X : Type 0) (r : CustomRefused) → IfUntyped {X = X} (Err r) (λ id. option_map (λ r. r.id) (find (λ r. is_none (read_kind m r)) list) ≡ Some id) → NamesFirst m r
    names-first X (custom.At id) h = first-untyped id h
    names-first X custom.Memory h = tt

  -- the type of a custom aggregate of the model
  pub owner-there : IsSound m → (us : List Custom) (i : ℕ) (u : Custom) → us ≡ custom_list m → i < length us → u ≡ get_or us i u → IsType m u.owner
  owner-there sound us i u all within is =
      let P : List Custom → Type 0 = All (IsEntry m) in
      let Q : Custom → Type 0 = IsEntry m in
      (subst Q (sym is) (All-get_or (IsEntry m) us i u within (subst P (sym all) (entries m sound)))).there
