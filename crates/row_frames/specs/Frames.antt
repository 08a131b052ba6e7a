-- Frames: lists of instances that are kept by columns.
use Rattle.std.specs.Prelude.{◌≡◌, ◌<◌, ℕ, Bool, IsTrue, List, Option, Some, None, get_or, length, map, option_map, slice_get, unwrap_or}
use Rattle.std.specs.declared.result.Result as result
use Rattle.std.specs.Arc.{arc_value}
use Rattle.std.specs.Global.{Vec}
use Rattle.std.specs.List.{All}
use Rattle.edm_values.specs.declared.Value.{Value}
use Rattle.edm_values.specs.declared.refusals.Refused.{Refused}
use Rattle.edm_values.specs.Values.{seen_value, negated, negation, value_in}
use Rattle.edm_values.specs.Names.{Path}
use Rattle.edm_values.specs.Refusals.{Returns}
use Rattle.edm_data.specs.LinkLists.{link_in}
use Rattle.edm_data.specs.Worlds.{World, Entity, entity_at}
use Rattle.apply_ast.specs.declared.expressions.UnOp.TheVariants as UnOp
use Rattle.apply_ast.specs.Trees.{Expr}
use Rattle.apply_meaning.specs.Instances.{Instance, no_instance, lookup, val, binary, call1, call2}
use Rattle.apply_meaning.specs.Meaning.{Outcome}
use Rattle.apply_meaning.specs.RowViews.{is_of, row_instance, IsRow}
use Rattle.row_frames.specs.Answers.{answer_of}
use Rattle.row_frames.specs.Hops.{property_in, reached}
use Rattle.row_frames.specs.Told.{told_at}
use Rattle.row_frames.specs.declared.tables.Roots.{Roots}
use Rattle.row_frames.specs.declared.tables.Roots.TheVariants as roots
use Rattle.row_frames.specs.declared.tables.Prefix.{Prefix}
use Rattle.row_frames.specs.declared.tables.Column.{Column}
use Rattle.row_frames.specs.declared.tables.Table.{Table}
use Rattle.row_frames.specs.declared.tables.Pick.{Pick}
use Rattle.row_frames.specs.declared.readers.Leaf.{Leaf}
use Rattle.row_frames.specs.declared.readers.Leaf.TheVariants as leaf
use Rattle.row_frames.specs.declared.readers.Bound as of_bound
use Rattle.row_frames.specs.declared.readers.Bound.TheVariants as bound
use Rattle.row_frames.specs.declared.readers.TableReader.{TableReader}

-- the place of a row's entity in its set
abbrev pub place_in : Roots → ℕ → ℕ
place_in roots.Without k = k
place_in (roots.Whole s) k = k
place_in (roots.Listed s places) k = get_or (arc_value places).items k 0

-- the entity at the empty prefix of a row
abbrev pub root_at : Roots → ℕ → Option Entity
root_at roots.Without k = None
root_at (roots.Whole s) k = Some (entity_at s k)
root_at (roots.Listed s places) k = Some (entity_at s (get_or (arc_value places).items k 0))

-- the place, in its set, of what stands at a prefix in a row
abbrev pub bound_place : ℕ → Prefix → Option ℕ
bound_place k p = unwrap_or (slice_get (arc_value p.places).items k) None

-- what stands at a prefix in a row
abbrev pub prefix_at : ℕ → Prefix → Path × Option Entity
prefix_at k p = (p.path, option_map (entity_at p.set) (bound_place k p))

-- the value of a column in a row
abbrev pub column_at : ℕ → Column → Path × Value
column_at k c = (c.path, unwrap_or (slice_get (arc_value c.values).items k) Value.Null)

-- the path and the values of a column
abbrev pub listed : Column → Path × List Value
listed c = (c.path, (arc_value c.values).items)

abbrev pub prefixes_at : Table → ℕ → List (Path × Option Entity)
prefixes_at t k = map (prefix_at k) t.prefixes.items

abbrev pub columns_at : Table → ℕ → List (Path × Value)
columns_at t k = map (column_at k) t.columns.items

-- the instance that is a row of a table
abbrev pub instance_at : Table → ℕ → Instance
instance_at t k = row_instance (root_at t.roots k) (prefixes_at t k) (columns_at t k)

-- each row of a table is a row
abbrev pub IsTable : Table → Type 0
IsTable t = (k : ℕ) → IsRow (prefixes_at t k) (columns_at t k)

-- the instance that is picked
abbrev pub picked_in : Option Table → ℕ → Instance
picked_in None k = no_instance
picked_in (Some t) k = instance_at t k

abbrev pub picked : List Table → Pick → Instance
picked ts x = picked_in (slice_get ts x.table) x.row

-- the instances that are picked, in their order
abbrev pub all_picked : List Table → List Pick → List Instance
all_picked ts xs = map (picked ts) xs

-- a list that was made, where the meaning is known: `Memory` says nothing
abbrev pub GivesFrame : result.Result (List Instance) Refused → Outcome → Type 0
GivesFrame r m = Returns (λ l. m ≡ Some l) (m ≡ None) r

-- picks that were kept, where the meaning is known
abbrev pub GivesPicks : List Table → result.Result (Vec Pick) Refused → Outcome → Type 0
GivesPicks ts r m = Returns (λ (xs : Vec Pick). m ≡ Some (all_picked ts xs.items)) (m ≡ None) r

-- ---- bound expressions

-- the value of a column that may be there
abbrev pub cell_in : Option Column → ℕ → Value
cell_in None k = Value.Null
cell_in (Some c) k = (column_at k c).1

-- what stands, in a row, at a prefix that may be there
abbrev pub bound_in : Option Prefix → ℕ → Option Entity
bound_in None k = None
bound_in (Some p) k = (prefix_at k p).1

-- the place of it in its set
abbrev pub bound_place_in : Option Prefix → ℕ → Option ℕ
bound_place_in None k = None
bound_place_in (Some p) k = bound_place k p

-- the value of an entity that may be there, among those of its set
abbrev pub value_at : List Value → Option ℕ → Value
value_at vs None = Value.Null
value_at vs (Some k) = value_in vs k

-- the value of a leaf in a row of a table
abbrev pub leaf_value : World → Table → ℕ → Leaf → Value
leaf_value w t k (leaf.Literal v) = seen_value v
leaf_value w t k (leaf.Column c) = cell_in (slice_get t.columns.items c) k
leaf_value w t k (leaf.Own values) = value_in values (place_in t.roots k)
leaf_value w t k (leaf.Ints list) = value_in (map Value.Int list.now) (place_in t.roots k)
leaf_value w t k (leaf.Decs list) = value_in (map Value.Dec list.now) (place_in t.roots k)
leaf_value w t k (leaf.Linked links values) = value_at values (link_in links (place_in t.roots k))
leaf_value w t k (leaf.Property hops p) = property_in w (reached w (root_at t.roots k) hops.items) p.at
leaf_value w t k (leaf.At c values) = value_at values (bound_place_in (slice_get t.prefixes.items c) k)
leaf_value w t k (leaf.Behind c hops p) = property_in w (reached w (bound_in (slice_get t.prefixes.items c) k) hops.items) p.at
leaf_value w t k (leaf.Path p) = lookup w (instance_at t k) p.now

-- the place of the entity that has the property that a leaf is: that of the row's entity, or of what this refers to
abbrev pub owner : Leaf → ℕ → Option ℕ
owner (leaf.Own values) k = Some k
owner (leaf.Linked links values) k = link_in links k
owner (leaf.Literal v) k = None
owner (leaf.Column c) k = None
owner (leaf.Ints list) k = None
owner (leaf.Decs list) k = None
owner (leaf.Property hops p) k = None
owner (leaf.At c values) k = None
owner (leaf.Behind c hops p) k = None
owner (leaf.Path p) k = None

-- the value of a bound expression in a row of a table
abbrev pub bound_value : World → Table → ℕ → of_bound.Bound → Value
bound_value w t k (bound.Leaf l) = leaf_value w t k l
bound_value w t k (bound.Told l d) = told_at d (owner l (place_in t.roots k))
bound_value w t k (bound.Unary' UnOp.Neg p a) = negated (bound_value w t k a)
bound_value w t k (bound.Unary' UnOp.Not p a) = negation (bound_value w t k a)
bound_value w t k (bound.Binary' op p a q b) = binary op (bound_value w t k a) (bound_value w t k b)
bound_value w t k (bound.Call1' f p a) = call1 f (bound_value w t k a)
bound_value w t k (bound.Call2' f p a q b) = call2 f (bound_value w t k a) (bound_value w t k b)

-- the bound expression has the values of the expression in each row of the table
abbrev pub IsBound : World → Table → Expr → of_bound.Bound → Type 0
IsBound w t e b = (k : ℕ) → val w (instance_at t k) e ≡ bound_value w t k b

-- the reader is over the world, and its expression is bound to its table
pub record IsReaderOf (w : World) (e : Expr) (r : TableReader) : Type 0 where
  pub world : r.store.now ≡ w
  pub values : IsBound w r.table.now e r.bound

-- an expression that is bound to each of the tables
pub record IsReader (w : World) (ts : List Table) (e : Expr) (rs : List TableReader) : Type 0 where
  pub tables : map (λ r. r.table.now) rs ≡ ts
  pub bound : All (IsReaderOf w e) rs

-- ---- what readers read

-- the value of what is bound to a table, in a row of it
abbrev pub read_in : Option TableReader → ℕ → Value
read_in None k = Value.Null
read_in (Some r) k = bound_value r.store.now r.table.now k r.bound

-- the value in the row that is picked
abbrev pub read_at : List TableReader → Pick → Value
read_at rs x = read_in (slice_get rs x.table) x.row

-- a row of the reader's table is one of its world
pub record CanRead (r : TableReader) (k : ℕ) : Type 0 where
  pub row : IsRow (prefixes_at r.table.now k) (columns_at r.table.now k)
  pub of : IsTrue (is_of r.store.now (instance_at r.table.now k))

-- the row that is picked is of a table that is read
pub record IsReadable (rs : List TableReader) (x : Pick) : Type 0 where
  pub within : x.table < length rs
  pub read : (d : TableReader) → CanRead (get_or rs x.table d) x.row

-- these are the values in the rows that are picked
pub record AreRead (rs : List TableReader) (xs : List Pick) (vs : List Value) : Type 0 where
  pub read : vs ≡ map (read_at rs) xs

-- the values in rows that are picked, which stand at places, with these places
abbrev pub all_read : List TableReader → List (Pick × ℕ) → List (Value × ℕ)
all_read rs xs = map (λ x. (read_at rs x.0, x.1)) xs

-- and these say whether they are true
pub record AreAnswers (rs : List TableReader) (xs : List Pick) (bs : List (Option Bool)) : Type 0 where
  pub answers : bs ≡ map (λ x. answer_of (read_at rs x)) xs

-- a row of the first table
abbrev pub first_pick : ℕ → Pick
first_pick k = record { table = 0; row = k }
