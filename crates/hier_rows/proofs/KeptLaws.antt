-- Nodes that the data keeps: values of properties are not Beyond, no key is null, and the node that is kept is the one that has the key.
use Rattle.std.proofs.Common.{◌≡◌, ℕ, zero, suc, ◌<◌, ◌≤◌, refl, sym, ◌∙◌, ap, Bool, true, false, List, [], ◌∷◌, length, map, arith, Option, Some, None, ⊎_elim}
use Rattle.std.specs.Prelude.{if◌then◌else◌, option_and_then, option_map, position, slice_get, unwrap_or}
use Rattle.std.specs.List.{All, list_any}
use Rattle.std.specs.Option.{is_some}
use Rattle.std.proofs.lemmas.Bool.{and_parts, cases_lt, false≢true, le-ltb, lt-ltb, or_from}
use Rattle.std.proofs.lemmas.List.Elements.{All-head, All-tail}
use Rattle.std.proofs.lemmas.Option.{slice_get_past}
use Rattle.edm_values.specs.declared.Value.{Value}
use Rattle.edm_values.specs.Literals.{is_of_kind}
use Rattle.edm_values.specs.Names.{Path}
use Rattle.edm_values.specs.OrderLaws.{same_value_is, same_value_itself}
use Rattle.edm_values.specs.Values.{is_beyond, is_null, same_value, value_in}
use Rattle.edm_values.proofs.SearchFacts.{is_some-position}
use Rattle.edm_values.proofs.TopPlaces.{element-there}
use Rattle.edm_model.specs.LookUps.{IsSet, key_at, key_of, navigation_at, properties_of, set_type}
use Rattle.edm_model.specs.Models.{Navigation, Part, Property}
use Rattle.edm_data.specs.DataFile.{World', keys_reading}
use Rattle.edm_data.specs.Fitting.{FitsModel, are_values_of, is_value_of}
use Rattle.edm_data.specs.LinkLists.{LinkList, link_in}
use Rattle.edm_data.specs.References.{by_key, count, entities_of, follow, key, keys_of, property, referred}
use Rattle.edm_data.specs.Worlds.{World, Entity, entity_at}
use Rattle.edm_data.proofs.ReferenceLemmas.{nav_same}
use Rattle.edm_data.proofs.TableLemmas.{key_place}
use Rattle.apply_meaning.specs.Instances.{Instance, root_of}
use Rattle.apply_meaning.specs.MeaningLaws.{IsLoaded}
use Rattle.row_frames.specs.Own.{IsOwn}
use Rattle.hier_rows.specs.HierRows.{IsReferenceBy, node_by, node_in, path_values}
use Rattle.hier_rows.specs.Sources.{node_at, referred_by}
use Rattle.hier_rows.specs.declared.sources.Source.{Source}
use Rattle.hier_rows.specs.declared.sources.Source.TheVariants as source
use Rattle.hier_rows.proofs.KeyLaws.{found-by-key}

-- ---- no value is Beyond

quiet-value : (p : Property) (v : Value) → is_value_of p v ≡ true → is_beyond v ≡ false
quiet-value p Value.Null h = refl
quiet-value p (Value.Bool b) h = refl
quiet-value p (Value.Int z) h = refl
quiet-value p (Value.Dec d) h = refl
quiet-value p (Value.Text t) h = refl
quiet-value p (Value.Day d) h = refl
quiet-value p Value.Beyond h = absurd (false≢true (and_parts (is_of_kind p.kind Value.Beyond) false h).1)

quiet-row : (ps : List Property) (vs : List Value) (k : ℕ) → are_values_of ps vs ≡ true → is_beyond (value_in vs k) ≡ false
quiet-row ps [] k h = refl
quiet-row [] (v ∷ vs) k h = absurd (false≢true h)
quiet-row (p ∷ ps) (v ∷ vs) zero h = quiet-value p v (and_parts (is_value_of p v) (are_values_of ps vs) h).0
quiet-row (p ∷ ps) (v ∷ vs) (suc k) h = quiet-row ps vs k (and_parts (is_value_of p v) (are_values_of ps vs) h).1

pub property-quiet : (w : World) (e : Entity) (q : ℕ) → FitsModel w → is_beyond (property w e q) ≡ false
property-quiet w e q F = go (slice_get (entities_of w e.set) e.at) refl
  where
    go : (o : Option (List Value)) → slice_get (entities_of w e.set) e.at ≡ o → is_beyond (property w e q) ≡ false
    go None h = ap (λ o. is_beyond (value_in (unwrap_or o []) q)) h
    go (Some vs) h = ap (λ o. is_beyond (value_in (unwrap_or o []) q)) h ∙ quiet-row (properties_of w.model (set_type w.model e.set)) vs q (F.rows e.set e.at vs h)

-- the values of a path that is a property of the instances' entities
pub own-quiet : (w : World) (p : Path) (s q : ℕ) (l : List Instance) → FitsModel w → All (IsOwn w p s q) l → list_any is_beyond (path_values w p l) ≡ false
own-quiet w p s q [] F own = refl
own-quiet w p s q (i ∷ l) F own =
    let here = All-head (IsOwn w p s q) i l own in
    or_from _ _ (ap is_beyond here.value ∙ property-quiet w (entity_at s here.at) q F) (own-quiet w p s q l F (All-tail (IsOwn w p s q) i l own))

-- ---- no key is null

full-value : (p : Property) (v : Value) → p.nullable ≡ false → is_value_of p v ≡ true → is_null v ≡ false
full-value p Value.Null n h = absurd (false≢true (sym n ∙ h))
full-value p (Value.Bool b) n h = refl
full-value p (Value.Int z) n h = refl
full-value p (Value.Dec d) n h = refl
full-value p (Value.Text t) n h = refl
full-value p (Value.Day d) n h = refl
full-value p Value.Beyond n h = refl

full-row : (ps : List Property) (vs : List Value) (k : ℕ) (p : Property) → are_values_of ps vs ≡ true → slice_get ps k ≡ Some p → p.nullable ≡ false → is_null (value_in vs k) ≡ false
full-row [] vs k p h e n = cc
full-row (q ∷ ps) [] k p h e n = absurd (false≢true h)
full-row (q ∷ ps) (v ∷ vs) zero p h e n =
    let same : q ≡ p = cc in
    full-value q v (ap (λ (r : Property). r.nullable) same ∙ n) (and_parts (is_value_of q v) (are_values_of ps vs) h).0
full-row (q ∷ ps) (v ∷ vs) (suc k) p h e n = full-row ps vs k p (and_parts (is_value_of q v) (are_values_of ps vs) h).1 e n

other-value : (v : Value) → is_null v ≡ false → same_value Value.Null v ≡ false
other-value v h = go (same_value Value.Null v) refl
  where
    go : (b : Bool) → same_value Value.Null v ≡ b → same_value Value.Null v ≡ false
    go false e = e
    go true e = absurd (false≢true (sym h ∙ ap is_null (sym (same_value_is Value.Null v e))))

no-null : (ps : List Property) (k : ℕ) (p : Property) (rows : List (List Value)) → slice_get ps k ≡ Some p → p.nullable ≡ false → ((j : ℕ) (vs : List Value) → slice_get rows j ≡ Some vs → are_values_of ps vs ≡ true) → list_any (same_value Value.Null) (map (λ vs. value_in vs k) rows) ≡ false
no-null ps k p [] e n h = refl
no-null ps k p (vs ∷ rows) e n h = or_from _ _ (other-value (value_in vs k) (full-row ps vs k p (h 0 vs refl) e n)) (no-null ps k p rows e n (λ j us i. h (suc j) us i))

-- null is the key of no entity
pub null-free : (w : World) (s : ℕ) → IsLoaded w → IsSet w.model s → by_key w s Value.Null ≡ None
null-free w s L there =
    let m = w.model in
    let t = set_type m s in
    let type = L.model.set_types s there in
    let found = element-there (properties_of m t) (key_of m t).at (L.model.keys t type).1 in
    let at : (key_of m t).at ≡ key_at m s = key_place m s there in
    let none : list_any (same_value Value.Null) (keys_of w s) ≡ false =
    no-null (properties_of m t) (key_at m s) found.0 (entities_of w s) (ap (λ k. slice_get (properties_of m t) k) (sym at) ∙ found.1) (L.model.keys_not_null t found.0 found.1) (λ j vs e. L.lists.rows s j vs e) in
    go (position (same_value Value.Null) (keys_of w s)) (is_some-position (same_value Value.Null) (keys_of w s) ∙ none)
  where
    go : (o : Option ℕ) → is_some o ≡ false → option_map (entity_at s) o ≡ None
    go None h = refl
    go (Some k) h = absurd (false≢true (sym h))

-- ---- what an entity refers to

-- what a value refers to is the entity that has it as its key
pub referred-by-key : (w : World) (s : ℕ) (v : Value) → IsLoaded w → IsSet w.model s → referred_by w s v ≡ by_key w s v
referred-by-key w s Value.Null L there = sym (null-free w s L there)
referred-by-key w s (Value.Bool b) L there = refl
referred-by-key w s (Value.Int z) L there = refl
referred-by-key w s (Value.Dec d) L there = refl
referred-by-key w s (Value.Text t) L there = refl
referred-by-key w s (Value.Day d) L there = refl
referred-by-key w s Value.Beyond L there = refl

-- a navigation leads to what the value of its dependent property refers to
pub follows : (w : World) (of q s : ℕ) (n : Part) → IsSet w.model of → n.of ≡ set_type w.model of → IsReferenceBy w.model n q s → (k : ℕ) → follow w (entity_at of k) n.at ≡ referred_by w s (property w (entity_at of k) q)
follows w of q s n there type R k =
    let e : Entity = entity_at of k in
    let at : navigation_at w.model of n.at ≡ Some R.navigation = sym (nav_same w.model of n there type) ∙ R.is in
    ap (option_and_then (λ (x : Navigation). if x.many then None else referred w e x)) at
    ∙ ap (λ b. if b then None else referred w e R.navigation) R.one
    ∙ (λ i. referred_by w (R.target i) (property w e (R.dependent i)))

-- ---- the node that is kept

-- of an entity whose key is the value
own-node : (w : World) (s count' k : ℕ) → IsLoaded w → keys_reading w ≡ World' w → IsSet w.model s → count' ≡ count w s → node_at (source.Own count') k ≡ node_by w s (property w (entity_at s k) (key_at w.model s))
own-node w s count' k L distinct there is = ⊎_elim
    (λ (less : k < count').
    let low : k < count w s = omega (arith, is) in
    ap (λ b. if b then Some k else None) (lt-ltb k count' less)
    ∙ sym (ap (option_map (λ e. e.at)) (found-by-key w s k (key w (entity_at s k)) distinct low (same_value_itself (key w (entity_at s k))))))
    (λ (past : count' ≤ k).
    let high : length (entities_of w s) ≤ k = omega (arith, is) in
    ap (λ b. if b then Some k else None) (le-ltb k count' past)
    ∙ sym (ap (λ o. node_by w s (value_in (unwrap_or o []) (key_at w.model s))) (slice_get_past (entities_of w s) k high) ∙ ap (option_map (λ e. e.at)) (null-free w s L there)))
    (cases_lt k count')

-- of the set itself, by its key
pub source-own : (w : World) (of s q count' : ℕ) → IsLoaded w → keys_reading w ≡ World' w → IsSet w.model s → of ≡ s → q ≡ (key_of w.model (set_type w.model s)).at → count' ≡ count w s → (k : ℕ) → node_at (source.Own count') k ≡ node_by w s (property w (entity_at of k) q)
source-own w of s q count' L distinct there same by is k =
    own-node w s count' k L distinct there is ∙ (λ i. node_by w s (property w (entity_at (sym same i) k) (sym (by ∙ key_place w.model s there) i)))

-- of what refers to the set
pub source-linked : (w : World) (of s q : ℕ) (n : Part) (links : LinkList) → IsLoaded w → IsSet w.model s
    → ((k : ℕ) → link_in links k ≡ option_map (λ e. e.at) (follow w (entity_at of k) n.at))
    → ((k : ℕ) → follow w (entity_at of k) n.at ≡ referred_by w s (property w (entity_at of k) q))
    → (k : ℕ) → node_at (source.Linked links) k ≡ node_by w s (property w (entity_at of k) q)
source-linked w of s q n links L there kept to k =
    kept k ∙ ap (option_map (λ e. e.at)) (to k ∙ referred-by-key w s (property w (entity_at of k) q) L there)

-- ---- the nodes of instances

pub node-kept : (w : World) (p : Path) (of q s : ℕ) (x : Source) (i : Instance) → ((k : ℕ) → node_at x k ≡ node_by w s (property w (entity_at of k) q)) → IsOwn w p of q i → option_and_then (λ e. node_at x e.at) (root_of i) ≡ node_in w s p i
node-kept w p of q s x i kept own =
    ap (option_and_then (λ (e : Entity). node_at x e.at)) own.root ∙ kept own.at ∙ ap (node_by w s) (sym own.value)

pub nodes-kept : (w : World) (p : Path) (of q s : ℕ) (x : Source) (l : List Instance) → ((k : ℕ) → node_at x k ≡ node_by w s (property w (entity_at of k) q)) → All (IsOwn w p of q) l
    → map (λ i. option_and_then (λ e. node_at x e.at) (root_of i)) l ≡ map (node_in w s p) l
nodes-kept w p of q s x [] kept own = refl
nodes-kept w p of q s x (i ∷ l) kept own =
    λ j. node-kept w p of q s x i kept (All-head (IsOwn w p of q) i l own) j ∷ nodes-kept w p of q s x l kept (All-tail (IsOwn w p of q) i l own) j
