-- A concatenation, path by path: the columns and prefixes of all branches in one table, and what the branches have at each of its paths.
use Rattle.std.specs.Prelude.{Bool, ◌&&◌, ◌||◌, ◌==◌, List, [], ◌∷◌, ◌++◌, Option, Some, None, flat_map, fold, length, map, nat_le, option_and_then, option_map}
use Rattle.std.specs.Bool.{then_some}
use Rattle.std.specs.List.{list_all, list_any}
use Rattle.edm_values.specs.Lists.{distinct, find_map}
use Rattle.edm_values.specs.Literals.{same_kind}
use Rattle.edm_values.specs.Names.{Path}
use Rattle.edm_model.specs.Models.{Model}
use Rattle.context_typing.specs.Paths.{is_none_or, same_path, at_path}
use Rattle.context_typing.specs.Shapes.{RootShape, PrefixShape, ColumnShape, Shape}
use Rattle.context_typing.specs.Typing.{column_at, is_risky, prefix_at, path_kind, merged_column, merged_prefix, merged_root}

-- a table with one more entry: the first of each path stands, and those of one path are alike
abbrev pub add_entry : {X : Type 0} → (X → Path) → (X → X → Bool) → Option (List X) → X → Option (List X)
add_entry path alike None x = None
add_entry path alike (Some t) x = elim (at_path path t (path x)) [ Some d ↦ then_some (alike d x) t | None ↦ Some (t ++ x ∷ []) ]

-- ---- columns

-- the table of columns with one more: two of one path have one kind
abbrev pub add_column : Option (List ColumnShape) → ColumnShape → Option (List ColumnShape)
add_column = add_entry (λ c. c.path) (λ d c. same_kind d.kind c.kind)

-- the table with the columns of a branch
abbrev pub add_columns : Option (List ColumnShape) → Shape → Option (List ColumnShape)
add_columns o S = fold add_column o S.columns

-- each branch types the column's path with its kind, or not at all
abbrev pub column_agrees : Model → List Shape → ColumnShape → Bool
column_agrees m Ss c = list_all (λ S. is_none_or (same_kind c.kind) (path_kind m S c.path)) Ss

-- a column of the table as the concatenation has it, where the branches agree
abbrev pub joined_column : Model → List Shape → ColumnShape → Option ColumnShape
joined_column m Ss c = then_some (column_agrees m Ss c) (merged_column Ss c)

-- how branches have a column: whether each that has it declares it, whether one lacks it or may, and whether its values in one may be Beyond
pub record Joined : Type 0 where
  pub declared : Bool
  pub absent : Bool
  pub risky : Bool

-- how a branch has a column, where the branch types the column's path with its kind or not at all
abbrev pub in_branch : Model → Shape → ColumnShape → Option Joined
in_branch m S c =
    then_some (is_none_or (same_kind c.kind) (path_kind m S c.path))
    (record { declared = is_none_or (λ y. y.declared) (column_at S c.path); absent = is_none_or (λ y. y.absent) (column_at S c.path); risky = is_risky S c.path })

-- how two lists of branches together have a column
abbrev pub both : Joined → Joined → Joined
both a b = record { declared = a.declared && b.declared; absent = a.absent || b.absent; risky = a.risky || b.risky }

-- how all branches have a column, where they agree
abbrev pub in_branches : Model → List Shape → ColumnShape → Option Joined
in_branches m Ss c =
    then_some (column_agrees m Ss c)
    (record { declared = list_all (λ S. is_none_or (λ y. y.declared) (column_at S c.path)) Ss; absent = list_any (λ S. is_none_or (λ y. y.absent) (column_at S c.path)) Ss; risky = list_any (λ S. is_risky S c.path) Ss })

-- the columns of all branches, one branch after another
abbrev pub all_columns : List Shape → List ColumnShape
all_columns Ss = flat_map (λ S. S.columns) Ss

-- the columns of the concatenation, where the branches agree
abbrev pub concat_columns : Model → List Shape → Option (List ColumnShape)
concat_columns m Ss = then_some (list_all (column_agrees m Ss) (all_columns Ss)) (map (merged_column Ss) (distinct (λ x y. same_path x.path y.path) (all_columns Ss)))

-- ---- prefixes

-- the table of prefixes with one more: two of one path have one entity type
abbrev pub add_prefix : Option (List PrefixShape) → PrefixShape → Option (List PrefixShape)
add_prefix = add_entry (λ x. x.path) (λ y x. y.of == x.of)

-- the table with the prefixes of a branch
abbrev pub add_prefixes : Option (List PrefixShape) → Shape → Option (List PrefixShape)
add_prefixes o S = fold add_prefix o S.prefixes

-- each branch has the prefix with its entity type, or not at all
abbrev pub prefix_agrees : List Shape → PrefixShape → Bool
prefix_agrees Ss x = list_all (λ S. is_none_or (λ y. y.of == x.of) (prefix_at S x.path)) Ss

-- a prefix of the table as the concatenation has it, where the branches agree
abbrev pub joined_prefix : List Shape → PrefixShape → Option PrefixShape
joined_prefix Ss x = then_some (prefix_agrees Ss x) (merged_prefix Ss x)

-- whether a branch lacks the prefix or may, where it has the prefix with its entity type or not at all
abbrev pub lacks_prefix : Shape → PrefixShape → Option Bool
lacks_prefix S x = then_some (is_none_or (λ y. y.of == x.of) (prefix_at S x.path)) (is_none_or (λ y. y.absent) (prefix_at S x.path))

-- whether one of the branches lacks the prefix or may, where they agree
abbrev pub some_lack_prefix : List Shape → PrefixShape → Option Bool
some_lack_prefix Ss x = then_some (prefix_agrees Ss x) (list_any (λ S. is_none_or (λ y. y.absent) (prefix_at S x.path)) Ss)

-- the prefixes of all branches, one branch after another
abbrev pub all_prefixes_of : List Shape → List PrefixShape
all_prefixes_of Ss = flat_map (λ S. S.prefixes) Ss

-- the prefixes of the concatenation, where the branches agree
abbrev pub concat_prefixes : List Shape → Option (List PrefixShape)
concat_prefixes Ss = then_some (list_all (prefix_agrees Ss) (all_prefixes_of Ss)) (map (merged_prefix Ss) (distinct (λ x y. same_path x.path y.path) (all_prefixes_of Ss)))

-- ---- the root

-- each branch has the root with this entity type, or not at all
abbrev pub root_agrees : List Shape → RootShape → Bool
root_agrees Ss r = list_all (λ S. is_none_or (λ y. y.of == r.of) (prefix_at S [])) Ss

-- the branches agree on the root of each
abbrev pub roots_agree : List Shape → Bool
roots_agree Ss = list_all (λ S. is_none_or (root_agrees Ss) S.root) Ss

-- ---- the whole

-- there are branches enough, and their roots agree
abbrev pub may_join : List Shape → Bool
may_join Ss = nat_le 2 (length Ss) && roots_agree Ss

-- the prefixes and the columns of the branches with their root, where those agree
abbrev pub joined_branches : Model → List Shape → Option Shape
joined_branches m Ss =
    option_and_then (λ ps. option_map (λ cs. record { root = option_map (merged_root Ss) (find_map (λ S. S.root) Ss); prefixes = ps; columns = cs }) (concat_columns m Ss)) (concat_prefixes Ss)
