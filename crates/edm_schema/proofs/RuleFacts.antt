-- Tests of each member of a list, by what the members are.
use Rattle.std.proofs.Common.{◌≡◌, ℕ, Bool, true, false, not, cond, List, [], ◌∷◌, map, refl, sym, ◌∙◌, ap}
use Rattle.std.specs.Prelude.{◌&&◌, ◌||◌, filter, is_some, position}
use Rattle.std.specs.List.{list_all, list_any}
use Rattle.std.proofs.lemmas.List.Folds.{list_all-map}
use Rattle.serde_json.specs.Data.{Data}
use Rattle.edm_values.specs.Lists.{same_text}
use Rattle.edm_schema.specs.JsonTrees as tree
use Rattle.edm_schema.specs.JsonTrees.{members_in}
use Rattle.edm_schema.specs.ModelTrees.{is_own, is_of_term, own_members, qualifier, term_members}
use Rattle.edm_schema.specs.MemberLists.{member_seen, type_seen, qualified_members}
use Rattle.edm_schema.specs.declared.members.Member.{Member}
use Rattle.edm_schema.specs.declared.schema.TypeTree.{TypeTree}
use Rattle.edm_schema.proofs.Mapped.{list_any-map}
use Rattle.edm_values.proofs.SearchFacts.{is_some-position}

-- each of these members passes where each that is seen does
pub all_seen_pass : (p : tree.Member → Bool) (items : List Member) (ms : List tree.Member) → map member_seen items ≡ ms → list_all (λ m. p (member_seen m)) items ≡ list_all p ms
all_seen_pass p items ms same = sym (list_all-map p member_seen items) ∙ ap (list_all p) same

-- so of the members of a term, by their qualifiers
pub all_qualified_pass : (p : tree.Member → Bool) (term : List ℕ) (t : Data) (items : List Member) → map member_seen items ≡ qualified_members term t → list_all (λ m. p (member_seen m)) items ≡ list_all (λ m. p (qualifier term m.0, m.1)) (term_members term t)
all_qualified_pass p term t items same = all_seen_pass p items (qualified_members term t) same ∙ list_all-map p (λ (m : tree.Member). (qualifier term m.0, m.1)) (term_members term t)

any_filter : {X : Type 0} (p q : X → Bool) (xs : List X) → list_any q (filter p xs) ≡ list_any (λ x. p x && q x) xs
any_filter p q [] = refl
any_filter p q (x ∷ xs) = elim (p x) as (λ b. list_any q (cond b (x ∷ filter p xs) (filter p xs)) ≡ ((b && q x) || list_any (λ x. p x && q x) xs)) [ true ↦ ap (λ t. q x || t) (any_filter p q xs) | false ↦ any_filter p q xs ]

-- a member of these has the name
pub has_name : (items : List Member) (ms : List tree.Member) (n : List ℕ) → map member_seen items ≡ ms → is_some (position (λ m. same_text m.name.now n) items) ≡ list_any (λ m. same_text m.0 n) ms
has_name items ms n same = is_some-position (λ m. same_text m.name.now n) items ∙ (sym (list_any-map (λ (m : tree.Member). same_text m.0 n) member_seen items) ∙ ap (list_any (λ (m : tree.Member). same_text m.0 n)) same)

-- a property or navigation of a type has the name
pub own_has_name : (items : List Member) (t : Data) (n : List ℕ) → map member_seen items ≡ own_members t → is_some (position (λ m. same_text m.name.now n) items) ≡ list_any (λ m. is_own m.0 && same_text m.0 n) (members_in t)
own_has_name items t n same = has_name items (own_members t) n same ∙ any_filter (λ (m : tree.Member). is_own m.0) (λ m. same_text m.0 n) (members_in t)

-- a member of a term has the qualifier
pub term_has_name : (term : List ℕ) (items : List Member) (t : Data) (n : List ℕ) → map member_seen items ≡ qualified_members term t → is_some (position (λ m. same_text m.name.now n) items) ≡ list_any (λ m. is_of_term term m.0 && same_text (qualifier term m.0) n) (members_in t)
term_has_name term items t n same =
    has_name items (qualified_members term t) n same
    ∙ (list_any-map (λ (m : tree.Member). same_text m.0 n) (λ (m : tree.Member). (qualifier term m.0, m.1)) (term_members term t)
    ∙ any_filter (λ (m : tree.Member). is_of_term term m.0) (λ m. same_text (qualifier term m.0) n) (members_in t))

pub denied : (a b : Bool) → a ≡ not b → b ≡ not a
denied true true e = cc
denied true false e = refl
denied false true e = refl
denied false false e = cc

-- each of these types passes where each that is seen does
pub all_types_pass : (p : tree.Member → Bool) (items : List TypeTree) (ms : List tree.Member) → map type_seen items ≡ ms → list_all (λ t. p (type_seen t)) items ≡ list_all p ms
all_types_pass p items ms same = sym (list_all-map p type_seen items) ∙ ap (list_all p) same
