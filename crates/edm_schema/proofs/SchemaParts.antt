-- The lists of members that are made of a schema and of an entity type.
use Rattle.std.proofs.Common.{◌≡◌, ℕ, zero, suc, ◌+◌, ◌<◌, true, false, not, cond, List, [], ◌∷◌, ◌++◌, map, length, take, get_or, Some, None, refl, sym, ◌∙◌, ap, subst, arith, codes, append-nil}
use Rattle.std.specs.Prelude.{◌&&◌, if◌then◌else◌, filter, Option, option_map, unwrap_or, slice_get}
use Rattle.std.specs.List.{All}
use Rattle.std.proofs.lemmas.List.{map-append, take_more}
use Rattle.std.proofs.lemmas.List.Elements.{All-head, All-tail, filter-append}
use Rattle.std.proofs.lemmas.Option.{slice_get-map, slice_get-get_or}
use Rattle.std.proofs.lemmas.Simd.{map-map}
use Rattle.serde_json.specs.Data.{Data, null}
use Rattle.serde_json.specs.Find.{get}
use Rattle.serde_json.specs.View.{view}
use Rattle.edm_values.specs.Lists.{same_text, is_some_and}
use Rattle.edm_schema.specs.JsonTrees as tree
use Rattle.edm_schema.specs.JsonTrees.{members_in, only, lacks}
use Rattle.edm_schema.specs.ModelTrees.{is_unread, is_object_of_kind, namespace, schema, type_tree, members_besides_kind, is_own, is_property, is_navigation, is_of_term, qualifier, hierarchy_term, aggregate_term, definition_term, key_name, own_members, property_members, navigation_members, term_members, type_place, is_navigable, is_constrained, has_partner}
use Rattle.edm_schema.specs.MemberLists.{member_seen, tree_of, type_seen, root_of, qualified_members, AreInOrder, IsTypeTree, IsSchema}
use Rattle.edm_schema.specs.NameOrders.{AreOrdered}
use Rattle.edm_schema.specs.declared.members.Member.{Member}
use Rattle.edm_schema.specs.declared.schema.Schema.{Schema}
use Rattle.edm_schema.specs.declared.schema.TypeTree.{TypeTree}
use Rattle.edm_schema.proofs.Ordered.{filter_ordered, qualified_ordered}
use Rattle.edm_values.proofs.ListFacts.{filter-twice}

-- members in order, as the program holds them
pub seen_in_order : (items : List Member) (ms : List tree.Member) → map member_seen items ≡ ms → AreOrdered (map (λ m. m.0) ms) → AreInOrder items
seen_in_order items ms same ordered = subst AreOrdered (ap (map (λ (m : tree.Member). m.0)) (sym same) ∙ map-map (λ (m : tree.Member). m.0) member_seen items) ordered

-- the members of a term in order of their qualifiers
qualified_in_order : (term : List ℕ) (t : Data) → AreOrdered (map (λ m. m.0) (members_in t)) → AreOrdered (map (λ m. m.0) (qualified_members term t))
qualified_in_order term t ordered = subst AreOrdered (sym (map-map (λ (m : tree.Member). m.0) (λ (m : tree.Member). (qualifier term m.0, m.1)) (term_members term t))) (qualified_ordered term (members_in t) ordered)

-- the lists of an entity type, made of each other
pub type_parts : (t : TypeTree)
    → t.key.now ≡ key_name (tree_of t)
    → map member_seen t.members.items ≡ members_in (tree_of t)
    → map member_seen t.own.items ≡ filter (λ m. is_own m.0) (map member_seen t.members.items)
    → map member_seen t.properties.items ≡ filter (λ m. is_property m.1) (map member_seen t.own.items)
    → map member_seen t.navigations.items ≡ filter (λ m. is_navigation m.1) (map member_seen t.own.items)
    → map member_seen t.hierarchies.items ≡ map (λ m. (qualifier hierarchy_term m.0, m.1)) (filter (λ m. is_of_term hierarchy_term m.0) (map member_seen t.members.items))
    → map member_seen t.aggregates.items ≡ map (λ m. (qualifier aggregate_term m.0, m.1)) (filter (λ m. is_of_term aggregate_term m.0) (map member_seen t.members.items))
    → map member_seen t.definitions.items ≡ map (λ m. (qualifier definition_term m.0, m.1)) (filter (λ m. is_of_term definition_term m.0) (map member_seen t.members.items))
    → AreOrdered (map (λ m. m.0) (members_in (tree_of t)))
    → IsTypeTree t
type_parts t key members own properties navigations hierarchies aggregates definitions ordered =
    let T = tree_of t in
    let owned = own ∙ ap (filter (λ (m : tree.Member). is_own m.0)) members in
    let own_order = filter_ordered (λ (m : tree.Member). m.0) (λ m. is_own m.0) (members_in T) ordered in
    let props = properties ∙ (ap (filter (λ (m : tree.Member). is_property m.1)) owned ∙ filter-twice (λ (m : tree.Member). is_own m.0) (λ m. is_property m.1) (members_in T)) in
    let navs = navigations ∙ (ap (filter (λ (m : tree.Member). is_navigation m.1)) owned ∙ filter-twice (λ (m : tree.Member). is_own m.0) (λ m. is_navigation m.1) (members_in T)) in
    let qualified = λ (term : List ℕ). ap (λ (ms : List tree.Member). map {B = tree.Member} (λ m. (qualifier term m.0, m.1)) (filter (λ m. is_of_term term m.0) ms)) members in
    let aggs = aggregates ∙ qualified aggregate_term in
    record {
      key = key;
      members = members;
      own = owned;
      properties = props;
      navigations = navs;
      hierarchies = hierarchies ∙ qualified hierarchy_term;
      aggregates = aggs;
      definitions = definitions ∙ qualified definition_term;
      own_ordered = seen_in_order t.own.items (own_members T) owned own_order;
      properties_ordered = seen_in_order t.properties.items (property_members T) props (filter_ordered (λ (m : tree.Member). m.0) (λ m. is_own m.0 && is_property m.1) (members_in T) ordered);
      navigations_ordered = seen_in_order t.navigations.items (navigation_members T) navs (filter_ordered (λ (m : tree.Member). m.0) (λ m. is_own m.0 && is_navigation m.1) (members_in T) ordered);
      aggregates_ordered = seen_in_order t.aggregates.items (qualified_members aggregate_term T) aggs (qualified_in_order aggregate_term T ordered);
    }

-- the trees of types in order
trees_in_order : (ms : List Member) → All (λ m. AreOrdered (map (λ n. n.0) (members_in (view m.value.now)))) ms → (t : ℕ) → t < length (map member_seen ms) → AreOrdered (map (λ n. n.0) (members_in (unwrap_or (option_map (λ m. m.1) (slice_get (map member_seen ms) t)) null)))
trees_in_order [] h t below = absurd (omega arith)
trees_in_order (m ∷ ms) h zero below = All-head (λ m. AreOrdered (map (λ n. n.0) (members_in (view m.value.now)))) m ms h
trees_in_order (m ∷ ms) h (suc t) below = trees_in_order ms (All-tail (λ m. AreOrdered (map (λ n. n.0) (members_in (view m.value.now)))) m ms h) t (omega arith)

-- the parts of a schema, made of each other
pub schema_parts : (s : Schema) (read typed : List Member)
    → s.namespace.now ≡ namespace (root_of s)
    → map member_seen s.members.items ≡ members_in (unwrap_or (get s.namespace.now (root_of s)) null)
    → AreOrdered (map (λ m. m.0) (map member_seen s.members.items))
    → map member_seen read ≡ filter (λ m. not (is_unread m.0)) (map member_seen s.members.items)
    → map member_seen s.containers.items ≡ filter (λ m. is_object_of_kind (codes "EntityContainer") m.1) (map member_seen read)
    → map member_seen typed ≡ filter (λ m. is_object_of_kind (codes "EntityType") m.1) (map member_seen read)
    → map type_seen s.types.items ≡ map member_seen typed
    → All IsTypeTree s.types.items
    → All (λ m. AreOrdered (map (λ n. n.0) (members_in (view m.value.now)))) typed
    → map member_seen s.sets.items ≡ members_besides_kind (unwrap_or (option_map (λ m. m.1) (only (map member_seen s.containers.items))) null)
    → AreOrdered (map (λ m. m.0) (members_in (unwrap_or (option_map (λ m. m.1) (only (map member_seen s.containers.items))) null)))
    → IsSchema s
schema_parts s read typed name members ordered reads containers types typed_seen each each_ordered sets sets_ordered =
    let d = root_of s in
    let all = members ∙ ap (λ n. members_in (unwrap_or (get n d) null)) name in
    let kind = λ (k : List ℕ). ap (filter (λ (m : tree.Member). is_object_of_kind k m.1)) (reads ∙ ap (filter (λ (m : tree.Member). not (is_unread m.0))) all) ∙ filter-twice (λ (m : tree.Member). not (is_unread m.0)) (λ m. is_object_of_kind k m.1) (members_in (schema d)) in
    let contained = containers ∙ kind (codes "EntityContainer") in
    let typed_is = types ∙ kind (codes "EntityType") in
    let in_schema : AreOrdered (map (λ m. m.0) (members_in (schema d))) = subst (λ (ms : List tree.Member). AreOrdered (map (λ m. m.0) ms)) all ordered in
    let seen = typed_seen ∙ typed_is in
    let type_order = filter_ordered (λ (m : tree.Member). m.0) (λ m. not (is_unread m.0) && is_object_of_kind (codes "EntityType") m.1) (members_in (schema d)) in_schema in
    record {
      namespace = name;
      members = all;
      containers = contained;
      types = seen;
      each = each;
      sets = sets ∙ ap (λ (cs : List tree.Member). members_besides_kind (unwrap_or (option_map (λ (m : tree.Member). m.1) (only cs)) null)) contained;
      types_ordered = subst AreOrdered (ap (map (λ (m : tree.Member). m.0)) (sym seen) ∙ map-map (λ (m : tree.Member). m.0) type_seen s.types.items) type_order;
      in_order = record {
        of_schema = in_schema;
        of_container = subst (λ (cs : List tree.Member). AreOrdered (map (λ m. m.0) (members_in (unwrap_or (option_map (λ (m : tree.Member). m.1) (only cs)) null)))) contained sets_ordered;
        of_types = λ t below. subst (λ (ts : List tree.Member). t < length ts → AreOrdered (map (λ n. n.0) (members_in (unwrap_or (option_map (λ (m : tree.Member). m.1) (slice_get ts t)) null)))) typed_is (trees_in_order typed each_ordered t) below;
      };
    }

-- the entity sets of a container, made of its members
pub set_parts : (o : Option tree.Member) (c : tree.Member) (members read sets : List Member)
    → Some c ≡ o
    → map member_seen members ≡ members_in c.1
    → map member_seen read ≡ filter (λ m. not (is_unread m.0)) (map member_seen members)
    → map member_seen sets ≡ filter (λ m. not (same_text m.0 (codes "$Kind"))) (map member_seen read)
    → map member_seen sets ≡ members_besides_kind (unwrap_or (option_map (λ m. m.1) o) null)
set_parts o c members read sets here all reads kept =
    kept ∙ (ap (filter (λ (m : tree.Member). not (same_text m.0 (codes "$Kind")))) (reads ∙ ap (filter (λ (m : tree.Member). not (is_unread m.0))) all)
    ∙ (filter-twice (λ (m : tree.Member). not (is_unread m.0)) (λ m. not (same_text m.0 (codes "$Kind"))) (members_in c.1)
    ∙ ap (λ (p : Option tree.Member). members_besides_kind (unwrap_or (option_map (λ (m : tree.Member). m.1) p) null)) here))

abbrev qualified : List ℕ → List Member → List tree.Member
qualified term ms = map (λ m. (qualifier term m.0, m.1)) (filter (λ m. is_of_term term m.0) (map member_seen ms))

-- a member that is not of the term
pub not_qualified : (term : List ℕ) (ms : List Member) (i : ℕ) (m : Member) → i < length ms → m ≡ get_or ms i m → None ≡ (if is_of_term term m.name.now then Some (qualifier term m.name.now) else None) → qualified term (take (i + 1) ms) ≡ qualified term (take i ms)
not_qualified term ms i m within is none =
    let fails : is_of_term term m.name.now ≡ false = elim (is_of_term term m.name.now) as (λ b. None ≡ (if b then Some (qualifier term m.name.now) else None) → b ≡ false) [ true ↦ λ e. cc | false ↦ λ e. refl ] none in
    let last : filter (λ m. is_of_term term m.0) (member_seen (get_or ms i m) ∷ []) ≡ [] = ap (λ (x : Member). filter (λ m. is_of_term term m.0) (member_seen x ∷ [])) (sym is) ∙ ap (λ b. cond b (member_seen m ∷ []) []) fails in
    ap (qualified term) (take_more ms i m within)
    ∙ (ap (λ (xs : List tree.Member). map {B = tree.Member} (λ m. (qualifier term m.0, m.1)) (filter (λ m. is_of_term term m.0) xs)) (map-append member_seen (take i ms) (get_or ms i m ∷ []))
    ∙ (ap (map {B = tree.Member} (λ m. (qualifier term m.0, m.1))) (filter-append (λ (m : tree.Member). is_of_term term m.0) (map member_seen (take i ms)) (member_seen (get_or ms i m) ∷ []) ∙ (ap (λ (xs : List tree.Member). filter (λ m. is_of_term term m.0) (map member_seen (take i ms)) ++ xs) last ∙ append-nil _))))

-- the tree of the type at a place
pub tree_at : (s : Schema) → IsSchema s → (k : ℕ) (t : TypeTree) → t ≡ get_or s.types.items k t → k < length s.types.items → tree_of t ≡ type_tree (root_of s) k
tree_at s h k t is within =
    sym (ap (λ (ms : List tree.Member). unwrap_or (option_map (λ m. m.1) (slice_get ms k)) null) (sym h.types)
    ∙ (ap (λ (o : Option tree.Member). unwrap_or (option_map (λ m. m.1) o) null) (slice_get-map type_seen s.types.items k ∙ ap (option_map type_seen) (slice_get-get_or s.types.items k t within))
    ∙ ap tree_of (sym is)))

-- ---- navigation properties that lead to an entity type

-- one that leads nowhere
pub leads_nowhere : (d t n : Data) (k : ℕ) → None ≡ type_place d n → false ≡ is_navigable d k t n
leads_nowhere d t n k h = ap (is_some_and (λ p. if lacks (codes "$Collection") n then is_constrained t (type_tree d p) n else has_partner d k (type_tree d p) n)) h

-- one to a single entity
pub leads_to_one : (d t n target : Data) (k p : ℕ) → Some p ≡ type_place d n → target ≡ type_tree d p → true ≡ lacks (codes "$Collection") n → is_constrained t target n ≡ is_navigable d k t n
leads_to_one d t n target k p h e l =
    ap (λ x. is_constrained t x n) e
    ∙ (ap (λ b. if b then is_constrained t (type_tree d p) n else has_partner d k (type_tree d p) n) l
    ∙ ap (is_some_and (λ q. if lacks (codes "$Collection") n then is_constrained t (type_tree d q) n else has_partner d k (type_tree d q) n)) h)

-- one to a collection
pub leads_to_many : (d t n target : Data) (k p : ℕ) → Some p ≡ type_place d n → target ≡ type_tree d p → false ≡ lacks (codes "$Collection") n → has_partner d k target n ≡ is_navigable d k t n
leads_to_many d t n target k p h e l =
    ap (λ x. has_partner d k x n) e
    ∙ (ap (λ b. if b then is_constrained t (type_tree d p) n else has_partner d k (type_tree d p) n) l
    ∙ ap (is_some_and (λ q. if lacks (codes "$Collection") n then is_constrained t (type_tree d q) n else has_partner d k (type_tree d q) n)) h)
