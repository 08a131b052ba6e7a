-- The sample model as a JSON tree, and edits of trees.
use Rattle.std.proofs.Common.{ℕ, true, not, List, [], ◌∷◌, codes, nat_eq}
use Rattle.std.specs.Prelude.{if◌then◌else◌, filter, unwrap_or}
use Rattle.std.specs.List.{slice_split}
use Rattle.std.specs.Cmp.Lexicographic.{slice_cmp}
use Rattle.std.specs.Ordering.{nat_cmp, is_lt}
use Rattle.serde_json.specs.Data.{Data, null, boolean, number, string, unsigned}
use Rattle.serde_json.specs.Find.{get}
use Rattle.edm_values.specs.Lists.{same_text}
use Rattle.edm_schema.specs.JsonTrees.{Member, object_of, array_of, members_in}

-- ---- edits

-- members in byte order of names with this one among them, in the place of the one of its name
abbrev with_member : Member → List Member → List Member
with_member m [] = m ∷ []
with_member m (x ∷ xs) = if same_text m.0 x.0 then m ∷ xs else (if is_lt (slice_cmp nat_cmp m.0 x.0) then m ∷ (x ∷ xs) else x ∷ with_member m xs)

-- the object without the member of this name
abbrev without : List ℕ → Data → Data
without name d = object_of (filter (λ m. not (same_text m.0 name)) (members_in d))

-- the tree with a change in the place that a path of names leads to
abbrev changed : List (List ℕ) → (Data → Data) → Data → Data
changed [] change d = change d
changed (n ∷ path) change d = object_of (with_member (n, changed path change (unwrap_or (get n d) null)) (members_in d))

-- the names of a path, which stand between `/`
abbrev names_of : List ℕ → List (List ℕ)
names_of path = slice_split (nat_eq 47) path

-- the tree with this value in the place that a path leads to
abbrev pub put : List ℕ → Data → Data → Data
put path x d = changed (names_of path) (λ _. x) d

-- the tree without the member of this name in the object that a path leads to
abbrev pub remove : List ℕ → List ℕ → Data → Data
remove path name d = changed (names_of path) (without name) d

-- ---- the sample

-- the entity sets
abbrev container_tree : Data
container_tree = object_of (
    (codes "$Kind", string (codes "EntityContainer")) ∷
    (codes "Customers", object_of ((codes "$Collection", boolean true) ∷ (codes "$Type", string (codes "W.Customer")) ∷ [])) ∷
    (codes "Orgs", object_of ((codes "$Collection", boolean true) ∷ (codes "$Type", string (codes "W.Org")) ∷ [])) ∷
    (codes "Sales", object_of ((codes "$Collection", boolean true) ∷ (codes "$Type", string (codes "W.Sale")) ∷ [])) ∷
    [])

-- a customer, with its sales
abbrev customer_tree : Data
customer_tree = object_of (
    (codes "$Key", array_of (string (codes "ID") ∷ [])) ∷
    (codes "$Kind", string (codes "EntityType")) ∷
    (codes "Country", object_of []) ∷
    (codes "ID", object_of []) ∷
    (codes "Name", object_of []) ∷
    (codes "Sales", object_of ((codes "$Collection", boolean true) ∷ (codes "$Kind", string (codes "NavigationProperty")) ∷ (codes "$Partner", string (codes "Customer")) ∷ (codes "$Type", string (codes "W.Sale")) ∷ [])) ∷
    (codes "Since", object_of ((codes "$Nullable", boolean true) ∷ (codes "$Type", string (codes "Edm.Date")) ∷ [])) ∷
    [])

-- an organisation, with the one above it
abbrev org_tree : Data
org_tree = object_of (
    (codes "$Key", array_of (string (codes "ID") ∷ [])) ∷
    (codes "$Kind", string (codes "EntityType")) ∷
    (codes "@Org.OData.Aggregation.V1.RecursiveHierarchy#OrgTree", object_of ((codes "NodeProperty", string (codes "ID")) ∷ (codes "ParentNavigationProperty", string (codes "Superordinate")) ∷ [])) ∷
    (codes "ID", object_of []) ∷
    (codes "ParentID", object_of ((codes "$Nullable", boolean true) ∷ [])) ∷
    (codes "Superordinate", object_of ((codes "$Kind", string (codes "NavigationProperty")) ∷ (codes "$Nullable", boolean true) ∷ (codes "$ReferentialConstraint", object_of ((codes "ParentID", string (codes "ID")) ∷ [])) ∷ (codes "$Type", string (codes "W.Org")) ∷ [])) ∷
    [])

-- a sale, with its customer and its organisation
abbrev sale_tree : Data
sale_tree = object_of (
    (codes "$Key", array_of (string (codes "ID") ∷ [])) ∷
    (codes "$Kind", string (codes "EntityType")) ∷
    (codes "@Local.Apply.V1.Definition#Best", object_of ((codes "Of", string (codes "Amount")) ∷ (codes "Per", array_of (string (codes "CustomerID") ∷ [])) ∷ (codes "Then", string (codes "max")) ∷ (codes "With", string (codes "sum")) ∷ [])) ∷
    (codes "@Org.OData.Aggregation.V1.CustomAggregate#Best", string (codes "Edm.Decimal")) ∷
    (codes "Amount", object_of ((codes "$Nullable", boolean true) ∷ (codes "$Precision", number (unsigned 16)) ∷ (codes "$Scale", number (unsigned 2)) ∷ (codes "$Type", string (codes "Edm.Decimal")) ∷ [])) ∷
    (codes "Customer", object_of ((codes "$Kind", string (codes "NavigationProperty")) ∷ (codes "$Partner", string (codes "Sales")) ∷ (codes "$ReferentialConstraint", object_of ((codes "CustomerID", string (codes "ID")) ∷ [])) ∷ (codes "$Type", string (codes "W.Customer")) ∷ [])) ∷
    (codes "CustomerID", object_of []) ∷
    (codes "ID", object_of ((codes "$Type", string (codes "Edm.Int64")) ∷ [])) ∷
    (codes "Org", object_of ((codes "$Kind", string (codes "NavigationProperty")) ∷ (codes "$Nullable", boolean true) ∷ (codes "$ReferentialConstraint", object_of ((codes "OrgID", string (codes "ID")) ∷ [])) ∷ (codes "$Type", string (codes "W.Org")) ∷ [])) ∷
    (codes "OrgID", object_of ((codes "$Nullable", boolean true) ∷ [])) ∷
    [])

-- the three types and their sets
abbrev pub sample_tree : Data
sample_tree = object_of (
    (codes "$EntityContainer", string (codes "W.C")) ∷
    (codes "$Version", string (codes "4.01")) ∷
    (codes "W", object_of ((codes "C", container_tree) ∷ (codes "Customer", customer_tree) ∷ (codes "Org", org_tree) ∷ (codes "Sale", sale_tree) ∷ [])) ∷
    [])
