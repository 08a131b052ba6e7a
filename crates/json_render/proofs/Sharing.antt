-- Data, rows and shapes, which threads share: none of them has anything that one thread alone may read.
use Rattle.std.proofs.Crossing.{crosses}
use Rattle.std.proofs.MapsCrossing as maps
use denote.Ref.{NamedLft}
use denote.Param.Send.{IsSync, sendable}
use Rattle.edm_values.specs.contracts.Text as text_type
use Rattle.apply_ast.specs.contracts.names.Name as name_type
use Rattle.apply_ast.specs.contracts.names.Path as path_type
use Rattle.edm_model.specs.contracts.parts.Texts as texts_type
use Rattle.edm_model.specs.contracts.parts.Property as property_type
use Rattle.edm_model.specs.contracts.parts.Navigation as navigation_type
use Rattle.edm_model.specs.contracts.parts.Hierarchy as hierarchy_type
use Rattle.edm_model.specs.contracts.parts.Definition as definition_type
use Rattle.edm_model.specs.contracts.parts.EntityType as entity_type_type
use Rattle.edm_model.specs.contracts.parts.EntitySet as entity_set_type
use Rattle.edm_model.specs.contracts.parts.Custom as custom_type
use Rattle.edm_model.specs.contracts.model.Model as model_type
use Rattle.edm_data.specs.contracts.texts.Texts as kept_texts_type
use Rattle.edm_data.specs.contracts.numbered_texts.NumberedTexts as numbered_texts_type
use Rattle.edm_data.specs.contracts.places.Places as places_type
use Rattle.edm_data.specs.contracts.links.Links as links_type
use Rattle.edm_data.specs.contracts.values.Values as values_type
use Rattle.edm_data.specs.contracts.columns.Column as column_type
use Rattle.edm_data.specs.contracts.table.Table as table_type
use Rattle.edm_data.specs.contracts.tables.Tables as tables_type
use Rattle.edm_data.specs.contracts.keyed.Keyed as keyed_type
use Rattle.edm_data.specs.contracts.relations.Relation as relation_type
use Rattle.edm_data.specs.contracts.relations.Relations as relations_type
use Rattle.edm_data.specs.contracts.data.Data as data_type
use Rattle.context_typing.specs.contracts.columns.ColumnList as column_list_type
use Rattle.context_typing.specs.contracts.columns.ColumnShape as shape_column_type
use Rattle.context_typing.specs.contracts.shapes.PrefixList as prefix_list_type
use Rattle.context_typing.specs.contracts.shapes.PrefixShape as prefix_type
use Rattle.context_typing.specs.contracts.shapes.RootShape as root_type
use Rattle.context_typing.specs.contracts.shapes.Shape as shape_type
use Rattle.apply_meaning.specs.contracts.rows.Row as row_type
use Rattle.row_frames.specs.contracts.tables.Table as frame_table_type
use Rattle.row_frames.specs.contracts.shown.FrameRows as frame_rows_type
use Rattle.json_render.specs.contracts.shown.ShownRows as rows_type

text-sync : IsSync text_type.the_row
text-sync = search (sendable, crosses, maps.crosses) depth 60 fits 20000

name-sync : IsSync name_type.the_row
name-sync = search (sendable, crosses, maps.crosses) depth 60 fits 20000

path-sync : IsSync path_type.the_row
path-sync = search (sendable, crosses, maps.crosses, name-sync) depth 60 fits 20000

texts-sync : IsSync texts_type.the_row
texts-sync = search (sendable, crosses, maps.crosses, text-sync) depth 60 fits 20000

property-sync : IsSync property_type.the_row
property-sync = search (sendable, crosses, maps.crosses, text-sync) depth 60 fits 20000

navigation-sync : IsSync navigation_type.the_row
navigation-sync = search (sendable, crosses, maps.crosses, text-sync) depth 60 fits 20000

hierarchy-sync : IsSync hierarchy_type.the_row
hierarchy-sync = search (sendable, crosses, maps.crosses, text-sync) depth 60 fits 20000

definition-sync : IsSync definition_type.the_row
definition-sync = search (sendable, crosses, maps.crosses, text-sync, texts-sync) depth 60 fits 20000

entity_type-sync : IsSync entity_type_type.the_row
entity_type-sync = search (sendable, crosses, maps.crosses, text-sync, property-sync, navigation-sync, hierarchy-sync, definition-sync) depth 60 fits 20000

entity_set-sync : IsSync entity_set_type.the_row
entity_set-sync = search (sendable, crosses, maps.crosses, text-sync) depth 60 fits 20000

custom-sync : IsSync custom_type.the_row
custom-sync = search (sendable, crosses, maps.crosses, text-sync, texts-sync) depth 60 fits 20000

model-sync : IsSync model_type.the_row
model-sync = search (sendable, crosses, maps.crosses, entity_type-sync, entity_set-sync, custom-sync) depth 60 fits 20000

kept_texts-sync : IsSync kept_texts_type.the_row
kept_texts-sync = search (sendable, crosses, maps.crosses) depth 60 fits 20000

numbered_texts-sync : IsSync numbered_texts_type.the_row
numbered_texts-sync = search (sendable, crosses, maps.crosses, kept_texts-sync) depth 60 fits 20000

places-sync : IsSync places_type.the_row
places-sync = search (sendable, crosses, maps.crosses) depth 60 fits 20000

links-sync : IsSync links_type.the_row
links-sync = search (sendable, crosses, maps.crosses, places-sync) depth 60 fits 20000

values-sync : IsSync values_type.the_row
values-sync = search (sendable, crosses, maps.crosses, text-sync, kept_texts-sync, numbered_texts-sync) depth 60 fits 20000

column-sync : IsSync column_type.the_row
column-sync = search (sendable, crosses, maps.crosses, places-sync, values-sync) depth 60 fits 20000

table-sync : IsSync table_type.the_row
table-sync = search (sendable, crosses, maps.crosses, column-sync) depth 60 fits 20000

tables-sync : IsSync tables_type.the_row
tables-sync = search (sendable, crosses, maps.crosses, model-sync, table-sync) depth 60 fits 20000

keyed-sync : IsSync keyed_type.the_row
keyed-sync = search (sendable, crosses, maps.crosses, tables-sync) depth 60 fits 20000

relation-sync : IsSync relation_type.the_row
relation-sync = search (sendable, crosses, maps.crosses, links-sync) depth 60 fits 20000

relations-sync : IsSync relations_type.the_row
relations-sync = search (sendable, crosses, maps.crosses, relation-sync) depth 60 fits 20000

pub data-sync : IsSync data_type.the_row
data-sync = search (sendable, crosses, maps.crosses, keyed-sync, relations-sync) depth 60 fits 20000

pub row-sync : IsSync row_type.the_row
row-sync = search (sendable, crosses, maps.crosses, text-sync, path-sync) depth 60 fits 20000

frame_table-sync : IsSync frame_table_type.the_row
frame_table-sync = search (sendable, crosses, maps.crosses, text-sync, path-sync) depth 60 fits 20000

frame_rows-sync : (a : NamedLft) → IsSync (frame_rows_type.the_row a)
frame_rows-sync a = search (sendable, crosses, maps.crosses, frame_table-sync) depth 60 fits 20000

pub rows-sync : (a : NamedLft) → IsSync (rows_type.the_row a)
rows-sync a = search (sendable, crosses, maps.crosses, row-sync, frame_rows-sync) depth 60 fits 20000

root-sync : IsSync root_type.the_row
root-sync = search (sendable, crosses, maps.crosses) depth 60 fits 20000

prefix-sync : IsSync prefix_type.the_row
prefix-sync = search (sendable, crosses, maps.crosses, path-sync) depth 60 fits 20000

prefix_list-sync : IsSync prefix_list_type.the_row
prefix_list-sync = search (sendable, crosses, maps.crosses, prefix-sync) depth 60 fits 20000

shape_column-sync : IsSync shape_column_type.the_row
shape_column-sync = search (sendable, crosses, maps.crosses, path-sync) depth 60 fits 20000

column_list-sync : IsSync column_list_type.the_row
column_list-sync = search (sendable, crosses, maps.crosses, shape_column-sync) depth 60 fits 20000

pub shape-sync : IsSync shape_type.the_row
shape-sync = search (sendable, crosses, maps.crosses, root-sync, prefix_list-sync, column_list-sync) depth 60 fits 20000
