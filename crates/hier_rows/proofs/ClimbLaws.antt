-- The places that a climb keeps: they are those of the nodes of the instances, and the instances there are what the climb means.
use Rattle.std.proofs.Common.{◌≡◌, ℕ, ◌<◌, refl, sym, ◌∙◌, ap, Bool, true, false, List, [], ◌∷◌, ◌++◌, map, Option, Some, None, IfSome}
use Rattle.std.specs.Prelude.{filter_map, if◌then◌else◌, option_map}
use Rattle.std.specs.Bool.{then_some}
use Rattle.std.specs.List.{cons_option, list_any}
use Rattle.std.proofs.lemmas.List.{map-append}
use Rattle.std.proofs.lemmas.List.Elements.{All-cons, All-head, All-nil, All-tail}
use Rattle.edm_values.proofs.ListFacts.{none-append}
use Rattle.edm_values.specs.declared.Value.{Value}
use Rattle.edm_values.specs.Lists.{at_places}
use Rattle.edm_values.specs.Names.{Path}
use Rattle.edm_values.specs.Values.{is_beyond}
use Rattle.edm_model.specs.LookUps.{HierarchyPlace}
use Rattle.edm_data.specs.Hierarchies.{ancestor_rows, descendant_rows}
use Rattle.edm_data.specs.Worlds.{World}
use Rattle.apply_meaning.specs.Instances.{Instance, lookup}
use Rattle.apply_meaning.specs.Meaning.{climbed, node, refused_at_beyond}
use Rattle.hier_rows.specs.HierRows.{AreNodesBelow, AreOptionsBelow, IsNodesOf, climb_outcome, node_in, path_values}
use Rattle.hier_rows.proofs.NodeLaws.{nodes-are, not-refused}

-- what there is of mapped options
pub present-map : {X Y : Type 0} (g : X → Option Y) (xs : List X) → filter_map (λ n. n) (map g xs) ≡ filter_map g xs
present-map g [] = refl
present-map g (x ∷ xs) = ap (cons_option (g x)) (present-map g xs)

-- what there is of nodes that are below a number is below it
pub present-within : (n : ℕ) (nodes : List (Option ℕ)) → AreOptionsBelow n nodes → AreNodesBelow n (filter_map (λ x. x) nodes)
present-within n [] a = All-nil _
present-within n (o ∷ nodes) a = go o (All-head (λ x. IfSome x (λ y. y < n)) o nodes a) (present-within n nodes (All-tail (λ x. IfSome x (λ y. y < n)) o nodes a))
  where
    go : (o : Option ℕ) → IfSome o (λ y. y < n) → AreNodesBelow n (filter_map (λ x. x) nodes) → AreNodesBelow n (cons_option o (filter_map (λ x. x) nodes))
    go None h r = r
    go (Some x) h r = All-cons (λ y. y < n) x (filter_map (λ x. x) nodes) h r

values-joined : (w : World) (p : Path) (l starts : List Instance) → list_any is_beyond (path_values w p (l ++ starts)) ≡ list_any is_beyond (path_values w p l ++ path_values w p starts)
values-joined w p l starts = ap (list_any is_beyond) (map-append (λ i. lookup w i p) l starts)

-- the places that are kept of the nodes of the instances
pub climb-gives : (w : World) (up : Bool) (f : HierarchyPlace) (p : Path) (limit : Option ℕ) (keep : Bool) (starts l : List Instance) (s : ℕ) (parents own first : List (Option ℕ)) (from ks : List ℕ)
    → IsNodesOf w f s parents → own ≡ map (node_in w s p) l → list_any is_beyond (path_values w p l) ≡ false
    → first ≡ map (node_in w s p) starts → list_any is_beyond (path_values w p starts) ≡ false → from ≡ filter_map (λ n. n) first
    → ks ≡ (if up then ancestor_rows else descendant_rows) parents limit keep from own → climb_outcome w up f p limit keep starts l ≡ Some ks
climb-gives w up f p limit keep starts l s parents own first from ks N o quiet-own a quiet-start fr k =
    let quiet = values-joined w p l starts ∙ none-append is_beyond (path_values w p l) (path_values w p starts) quiet-own quiet-start in
    let own-is : own ≡ map (node w f p) l = o ∙ nodes-are w f s p l N.0 in
    let from-is : from ≡ filter_map (node w f p) starts = fr ∙ ap (filter_map (λ n. n)) (a ∙ nodes-are w f s p starts N.0) ∙ present-map (node w f p) starts in
    not-refused (path_values w p (l ++ starts)) _ quiet
    ∙ sym (ap (λ z. Some z) (k ∙ (λ i. (if up then ancestor_rows else descendant_rows) (N.1 i) limit keep (from-is i) (own-is i))))

then-mapped : {A B : Type 0} (g : A → B) (b : Bool) (x : A) → then_some b (g x) ≡ option_map g (then_some b x)
then-mapped g true x = refl
then-mapped g false x = refl

-- the instances at the places of some that are refused at the same values
pub refused-mapped : {A B : Type 0} (g : A → B) (vs : List Value) (x : A) → refused_at_beyond vs (g x) ≡ option_map g (refused_at_beyond vs x)
refused-mapped g vs x = then-mapped g _ x

-- what a climb means is the instances at the places that are kept
pub climb-mean : (w : World) (up : Bool) (f : HierarchyPlace) (p : Path) (limit : Option ℕ) (keep : Bool) (starts l : List Instance)
    → refused_at_beyond (map (λ i. lookup w i p) (l ++ starts)) (climbed w up f p limit keep starts l) ≡ option_map (at_places l) (climb_outcome w up f p limit keep starts l)
climb-mean w up f p limit keep starts l = refused-mapped (at_places l) (path_values w p (l ++ starts)) _
