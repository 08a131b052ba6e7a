-- What is known of the steps of a pipeline: the shapes at the ends of branches, and those behind steps.
use Rattle.std.specs.Prelude.{◌==◌, Bool, true, false, ◌&&◌, List, [], ◌∷◌, map}
use Rattle.std.specs.List.{list_all}
use Rattle.std.specs.Cmp.Lexicographic.{pointwise}
use Rattle.std.specs.Global.{Vec}
use Rattle.edm_values.specs.declared.EdmType.{EdmType}
use Rattle.edm_model.specs.Models.{Model}
use Rattle.apply_ast.specs.Trees.{Pipe, Pipes, Step}
use Rattle.context_typing.specs.Paths.{is_none_or, same_path}
use Rattle.context_typing.specs.Shapes.{ColumnShape, PrefixShape, RootShape, Shape}
use Rattle.context_typing.specs.ShapeTypes.{has_types}
use Rattle.context_typing.specs.Typing.{Customs, after}
use Rattle.rewrite_laws.specs.Rewrites.{branches}
use Rattle.rewrite_laws.specs.TreeEquality.{option_same, same_bool}
use Rattle.walk_laws.specs.Walks.{shape_behind}
use Rattle.optimiser.specs.declared.known.Known.{Known, out-Known}

-- ---- shapes that are the same, as a test

-- two types are the same
abbrev pub type_same : EdmType → EdmType → Bool
type_same EdmType.Bool EdmType.Bool = true
type_same EdmType.Int EdmType.Int = true
type_same (EdmType.Dec s p) (EdmType.Dec s' p') = s == s' && p == p'
type_same EdmType.Text EdmType.Text = true
type_same EdmType.Day EdmType.Day = true
type_same a b = false

-- two roots are the same
abbrev pub root_same : RootShape → RootShape → Bool
root_same x y = x.of == y.of && same_bool x.absent y.absent

-- two prefixes are the same
abbrev pub prefix_same : PrefixShape → PrefixShape → Bool
prefix_same x y = same_path x.path y.path && x.of == y.of && same_bool x.absent y.absent

-- two columns are the same
abbrev pub column_same : ColumnShape → ColumnShape → Bool
column_same x y = same_path x.path y.path && type_same x.kind y.kind && same_bool x.declared y.declared && same_bool x.absent y.absent && same_bool x.risky y.risky

-- two shapes are the same
abbrev pub shape_same : Shape → Shape → Bool
shape_same S T = option_same root_same S.root T.root && pointwise prefix_same S.prefixes T.prefixes && pointwise column_same S.columns T.columns

-- ---- what is known

-- these are the shapes at the ends of branches, and their types are the model's
abbrev pub are_ends : Model → Customs → Shape → List Pipe → List Shape → Bool
are_ends m c S ps Ss = list_all (has_types m) Ss && pointwise shape_same (map (shape_behind m c S) ps) Ss

-- this is the shape behind a step, and its types are the model's
abbrev pub is_behind : Model → Customs → Shape → Step → Shape → Bool
is_behind m c S s S' = has_types m S' && shape_same (after m c S s) S'

-- a step is a concatenation
abbrev pub is_concat : Step → Bool
is_concat (Step.Concat ps) = true
is_concat s = false

-- of a concatenation, these are the shapes at the ends of its branches
abbrev pub ends_known : Model → Customs → Shape → Step → List Shape → Bool
ends_known m c S (Step.Concat ps) Ss = are_ends m c S (branches ps) Ss
ends_known m c S s Ss = true

abbrev mutual
  -- what is known of the steps of a pipeline is so
  pub are_known : Model → Customs → Shape → Pipe → List Known → Bool
  are_known m c S Pipe.End [] = true
  are_known m c S Pipe.End (k ∷ ks) = false
  are_known m c S (Pipe.Then s p) [] = false
  are_known m c S (Pipe.Then s p) (k ∷ ks) = (is_none_or (is_behind m c S s) (out-Known k).behind && ends_known m c S s (out-Known k).ends.items && inside_known m c S s (out-Known k).inside.items) && are_known m c (after m c S s) p ks

  -- what is known of the steps inside a concatenation is so
  pub inside_known : Model → Customs → Shape → Step → List (Vec Known) → Bool
  inside_known m c S (Step.Concat ps) ls = branches_known m c S ps ls
  inside_known m c S s ls = true

  -- what is known of the steps of branches is so
  pub branches_known : Model → Customs → Shape → Pipes → List (Vec Known) → Bool
  branches_known m c S Pipes.NoPipes [] = true
  branches_known m c S Pipes.NoPipes (l ∷ ls) = false
  branches_known m c S (Pipes.MorePipes p ps) [] = false
  branches_known m c S (Pipes.MorePipes p ps) (l ∷ ls) = are_known m c S p l.items && branches_known m c S ps ls

-- what is known of a step is so
abbrev pub is_known : Model → Customs → Shape → Step → Known → Bool
is_known m c S s k = is_none_or (is_behind m c S s) (out-Known k).behind && ends_known m c S s (out-Known k).ends.items && inside_known m c S s (out-Known k).inside.items
