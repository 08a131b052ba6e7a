-- Instances and the values of expressions on them (Data Aggregation 4.0, section 3.1; URL Conventions 4.01, section 5.1.1).
use Rattle.std.specs.Prelude.{ℕ, ◌==◌, nat_lt, Bool, not, ◌&&◌, ◌||◌, List, [], ◌∷◌, ◌++◌, Option, Some, None, map, slice_get, is_some, is_none, option_map, option_and_then, unwrap_or}
use Rattle.std.specs.List.{list_any, list_all}
use Rattle.edm_values.specs.declared.Value.{Value}
use Rattle.edm_values.specs.Lists.{is_nonempty, is_some_and, first_some, are_distinct}
use Rattle.edm_values.specs.Literals.{is_of_kind}
use Rattle.edm_values.specs.Values.{is_beyond, same_value, plus, minus, times, negated, equal, not_equal, greater, greater_or_equal, less, less_or_equal, both, either, negation, text_length, year, month, day, startswith, endswith, contains, dec, date}
use Rattle.edm_values.specs.Names.{Name, Path}
use Rattle.apply_ast.specs.Trees.{Expr}
use Rattle.edm_model.specs.Models.{Property}
use Rattle.edm_model.specs.LookUps.{property_on, property_named, one_named}
use Rattle.edm_data.specs.Worlds.{World, Entity}
use Rattle.edm_data.specs.References.{entities_in, count, referred, property, entity_type}
use Rattle.context_typing.specs.Paths.{is_none_or, same_path, is_proper_prefix, at_path, at_longest}
use Rattle.context_typing.specs.Shapes.{PrefixShape, ColumnShape, Shape}
use Rattle.context_typing.specs.Typing.{all_prefixes, prefix_at, column_at, is_member, is_lawful}
use Rattle.apply_ast.specs.declared.expressions.UnOp.TheVariants as UnOp
use Rattle.apply_ast.specs.declared.expressions.BinOp.{BinOp}
use Rattle.apply_ast.specs.declared.expressions.Fun1.{Fun1}
use Rattle.apply_ast.specs.declared.expressions.Fun2.{Fun2}

-- ---- values behind an entity (URL Conventions 4.01, section 5.1.1.15)

-- the value of the property of this name of an entity, if there is one
abbrev pub named_value : World → Name → Entity → Option Value
named_value w n e = option_map (λ p. property w e p.0) (option_and_then (λ t. property_named w.model t n) (entity_type w e))

-- what an entity refers to by the single-valued navigation of this name
abbrev pub named_reference : World → Name → Entity → Option Entity
named_reference w n e = option_and_then (referred w e) (option_and_then (λ t. one_named w.model t n) (entity_type w e))

-- the value that a path leads to from an entity, if it leads to one
abbrev pub value_behind : World → Path → Entity → Option Value
value_behind w [] e = None
value_behind w (n ∷ []) e = named_value w n e
value_behind w (n ∷ (n' ∷ p)) e = option_and_then (value_behind w (n' ∷ p)) (named_reference w n e)

-- the value that a path leads to from an entity; null where a reference is null or the rest names no property
abbrev pub value_on : World → Entity → Path → Value
value_on w e p = unwrap_or (value_behind w p e) Value.Null

-- the property that a path leads to from an entity
abbrev pub entity_property : World → Path → Entity → Option Property
entity_property w p e = option_and_then (λ t. property_on w.model t p) (entity_type w e)

-- ---- instances

-- an instance has an entity, or none, at each of its prefixes, and a value at each of its columns
pub record Instance : Type 0 where
  pub prefixes : List (Path × Option Entity)
  pub columns : List (Path × Value)

-- the instance of an entity of a set
abbrev pub entity_instance : Entity → Instance
entity_instance e = record { prefixes = ([], Some e) ∷ []; columns = [] }

-- the instances of an entity set in data order (Data Aggregation 4.0, section 3.1)
abbrev pub rows : World → ℕ → List Instance
rows w s = map entity_instance (entities_in w s)

-- the instance without prefixes and columns
abbrev pub no_instance : Instance
no_instance = record { prefixes = []; columns = [] }

-- the entity at the empty prefix
abbrev pub root_of : Instance → Option Entity
root_of i = option_and_then (λ x. x.1) (at_path (λ x. x.0) i.prefixes [])

-- an instance with more columns
abbrev pub extended : Instance → List (Path × Value) → Instance
extended i cs = record i { columns = i.columns ++ cs }

-- the value of a column of an instance
abbrev pub column_value : Instance → Path → Option Value
column_value i p = option_map (λ c. c.1) (at_path (λ c. c.0) i.columns p)

-- what a path leads to from the entity at the longest prefix
abbrev pub prefix_value : World → Instance → Path → Option Value
prefix_value w i p = option_and_then (λ x. option_and_then (value_behind w x.1) (x.0).1) (at_longest (λ x. x.0) i.prefixes p)

-- the value of a path: its column, or else what it leads to from the entity at the longest prefix
abbrev pub lookup : World → Instance → Path → Value
lookup w i p = unwrap_or (first_some (column_value i p) (prefix_value w i p)) Value.Null

-- ---- values of expressions

-- the value of a binary operation
abbrev pub binary : BinOp → Value → Value → Value
binary BinOp.Or = either
binary BinOp.And = both
binary BinOp.Eq = equal
binary BinOp.Ne = not_equal
binary BinOp.Gt = greater
binary BinOp.Ge = greater_or_equal
binary BinOp.Lt = less
binary BinOp.Le = less_or_equal
binary BinOp.Add = plus
binary BinOp.Sub = minus
binary BinOp.Mul = times

-- the value of a function of one argument
abbrev pub call1 : Fun1 → Value → Value
call1 Fun1.Length = text_length
call1 Fun1.Year = year
call1 Fun1.Month = month
call1 Fun1.Day = day

-- the value of a function of two texts
abbrev pub call2 : Fun2 → Value → Value → Value
call2 Fun2.StartsWith = startswith
call2 Fun2.EndsWith = endswith
call2 Fun2.Contains = contains

-- the value of an expression on an instance
abbrev pub val : World → Instance → Expr → Value
val w i Expr.Null = Value.Null
val w i (Expr.Bool' b) = Value.Bool b
val w i (Expr.Int n) = Value.Int n
val w i (Expr.Dec m s) = dec m s
val w i (Expr.Text bs) = Value.Text bs
val w i (Expr.Day y m d) = date y m d
val w i (Expr.Path' p) = lookup w i p
val w i (Expr.Unary UnOp.Neg a) = negated (val w i a)
val w i (Expr.Unary UnOp.Not a) = negation (val w i a)
val w i (Expr.Binary op a b) = binary op (val w i a) (val w i b)
val w i (Expr.Call1 f a) = call1 f (val w i a)
val w i (Expr.Call2 f a b) = call2 f (val w i a) (val w i b)

-- ---- instances of a shape

-- an entity of this type that the world has
abbrev pub is_entity : World → ℕ → Entity → Bool
is_entity w t e = is_some_and (λ t'. t' == t) (entity_type w e) && nat_lt e.at (count w e.set)

-- a name of a property or navigation property of the entity at the empty prefix
abbrev pub is_root_member : World → Instance → Name → Bool
is_root_member w i n = is_some_and (λ t. is_member w.model t n) (option_and_then (entity_type w) (root_of i))

-- a path that is a proper prefix of that of a column or of a prefix
abbrev pub leads_on : Shape → Path → Bool
leads_on S p = list_any (λ c. is_proper_prefix p c.path) S.columns || list_any (λ y. is_proper_prefix p y.path) S.prefixes

-- a prefix that a shape lacks: bound to none, not the empty one, on the way to a column or prefix of the shape, and beginning with no member of the entity at the empty prefix
abbrev pub is_passing : World → Shape → Instance → Path × Option Entity → Bool
is_passing w S i x =
    is_none x.1 && is_nonempty x.0 && leads_on S x.0 && not (is_some_and (is_root_member w i) (slice_get x.0 0))

-- what stands at a prefix of this type: an entity of it, or none where the prefix is not the empty one
abbrev pub entity_fits : World → ℕ → Path → Option Entity → Bool
entity_fits w t p None = is_nonempty p
entity_fits w t p (Some e) = is_entity w t e

-- the prefix is that of the shape, or passes where the shape has none
abbrev pub prefix_fits_at : World → Shape → Instance → Path × Option Entity → Option PrefixShape → Bool
prefix_fits_at w S i x None = is_passing w S i x
prefix_fits_at w S i x (Some y) = entity_fits w y.of x.0 x.1

-- what stands at a prefix of an instance fits the shape
abbrev pub prefix_fits : World → Shape → Instance → Path × Option Entity → Bool
prefix_fits w S i x = prefix_fits_at w S i x (prefix_at S x.0)

-- a column whose path leads from the entity at the empty prefix to a property has the value found there
abbrev pub is_rooted : World → Instance → Path × Value → Bool
is_rooted w i c = is_none_or (λ e. is_none_or (λ q. same_value c.1 (value_on w e c.0)) (entity_property w c.0 e)) (root_of i)

-- a column has a value of its type, which is not Beyond where it is not risky
abbrev pub column_fits : World → Instance → Path × Value → ColumnShape → Bool
column_fits w i c k = is_of_kind k.kind c.1 && (k.risky || not (is_beyond c.1)) && is_rooted w i c

-- an instance has the prefixes of a shape but those that may be absent
abbrev pub has_prefixes : Shape → Instance → Bool
has_prefixes S i = list_all (λ x. x.absent || is_some (at_path (λ y. y.0) i.prefixes x.path)) (all_prefixes S)

-- an instance has the columns of a shape but those that may be absent
abbrev pub has_columns : Shape → Instance → Bool
has_columns S i = list_all (λ c. c.absent || is_some (at_path (λ y. y.0) i.columns c.path)) S.columns

-- whether an instance fits a shape: the shape is lawful, prefixes differ and columns differ, none is missing that must be there, and what stands at each fits
abbrev pub fits : World → Shape → Instance → Bool
fits w S i =
    is_lawful w.model S
    && are_distinct same_path (map (λ x. x.0) i.prefixes) && are_distinct same_path (map (λ c. c.0) i.columns)
    && has_prefixes S i && has_columns S i
    && list_all (λ c. is_some_and (column_fits w i c) (column_at S c.0)) i.columns && list_all (prefix_fits w S i) i.prefixes
