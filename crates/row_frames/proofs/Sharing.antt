-- Types that threads share: none of them has anything that one thread alone may read.
use Rattle.std.proofs.Crossing.{crosses}
use Rattle.std.proofs.MapsCrossing as maps
use Rattle.std.proofs.Common.{subst}
use base.Shift.{Keyless}
use denote.RattleType.{RattleType}
use denote.Param.Send.{IsSync, sendable}
use denote.Param.SendFields.{as_row_sync, variants_sync}
use denote.Hole.Fix.{holes}
use denote.Hole.FixLaws.{layer_row}
use denote.Hole.FixSend.{fix_sync}
use Rattle.edm_values.specs.contracts.Text as text_type
use Rattle.apply_ast.specs.contracts.names.Name as name_type
use Rattle.apply_ast.specs.contracts.names.Path as path_type
use Rattle.apply_ast.specs.contracts.expressions.Expr as expr_type
use Rattle.apply_ast.specs.contracts.expressions.Expr.TheKnot as knot
use Rattle.apply_ast.specs.declared.expressions.Expr.TheBlock.{the_members, member-Expr}
use Rattle.edm_model.specs.contracts.parts.Texts as texts_type
use Rattle.edm_model.specs.contracts.parts.Property as property_type
use Rattle.edm_model.specs.contracts.parts.Navigation as navigation_type
use Rattle.edm_model.specs.contracts.parts.Hierarchy as hierarchy_type
use Rattle.edm_model.specs.contracts.parts.Definition as definition_type
use Rattle.edm_model.specs.contracts.parts.EntityType as entity_type_type
use Rattle.edm_model.specs.contracts.parts.EntitySet as entity_set_type
use Rattle.edm_model.specs.contracts.parts.Custom as custom_type
use Rattle.edm_model.specs.contracts.parts.Ids as ids_type
use Rattle.edm_model.specs.contracts.model.Model as model_type
use Rattle.edm_data.specs.contracts.texts.Texts as kept_texts_type
use Rattle.edm_data.specs.contracts.numbered_texts.NumberedTexts as numbered_texts_type
use Rattle.edm_data.specs.contracts.places.Places as places_type
use Rattle.edm_data.specs.contracts.links.Links as links_type
use Rattle.edm_data.specs.contracts.values.Values as values_type
use Rattle.edm_data.specs.contracts.columns.Column as column_type
use Rattle.edm_data.specs.contracts.table.Table as table_type
use Rattle.edm_data.specs.contracts.tables.Tables as tables_type
use Rattle.edm_data.specs.contracts.keyed.Keyed as keyed_type
use Rattle.edm_data.specs.contracts.relations.Relation as relation_type
use Rattle.edm_data.specs.contracts.relations.Relations as relations_type
use Rattle.edm_data.specs.contracts.data.Data as data_type
use Rattle.apply_meaning.specs.contracts.rows.Row as row_type

pub text-sync : IsSync text_type.the_row
text-sync = search (sendable, crosses, maps.crosses) depth 60 fits 20000

pub name-sync : IsSync name_type.the_row
name-sync = search (sendable, crosses, maps.crosses) depth 60 fits 20000

pub path-sync : IsSync path_type.the_row
path-sync = search (sendable, crosses, maps.crosses, name-sync) depth 60 fits 20000

layer-sync : (h : the_members → RattleType) → ((j : the_members) → IsSync (h j)) → (i : the_members) → IsSync (layer_row knot.ring i h)
layer-sync h all member-Expr = variants_sync (knot.type-Expr (h member-Expr) (h member-Expr) (h member-Expr) (h member-Expr) (h member-Expr) (h member-Expr)) (search (sendable, crosses, maps.crosses, as_row_sync, variants_sync, text-sync, path-sync, all) depth 60 fits 20000)

hole-sync : (i : the_members) → IsSync (holes knot.ring i)
hole-sync = fix_sync knot.ring (λ i. record { sync = λ h all. layer-sync h all i })

the_hole-sync : IsSync expr_type.the_hole
the_hole-sync = hole-sync member-Expr

pub expr-sync : IsSync expr_type.the_row
expr-sync = record { shared = λ x b o κ. subst (λ s. Keyless (s b o κ)) (expr_type.shr_is x) (the_hole-sync.shared x b o κ) }

pub texts-sync : IsSync texts_type.the_row
texts-sync = search (sendable, crosses, maps.crosses, text-sync) depth 60 fits 20000

pub property-sync : IsSync property_type.the_row
property-sync = search (sendable, crosses, maps.crosses, text-sync) depth 60 fits 20000

pub navigation-sync : IsSync navigation_type.the_row
navigation-sync = search (sendable, crosses, maps.crosses, text-sync) depth 60 fits 20000

pub hierarchy-sync : IsSync hierarchy_type.the_row
hierarchy-sync = search (sendable, crosses, maps.crosses, text-sync) depth 60 fits 20000

pub definition-sync : IsSync definition_type.the_row
definition-sync = search (sendable, crosses, maps.crosses, text-sync, texts-sync) depth 60 fits 20000

pub entity_type-sync : IsSync entity_type_type.the_row
entity_type-sync = search (sendable, crosses, maps.crosses, text-sync, property-sync, navigation-sync, hierarchy-sync, definition-sync) depth 60 fits 20000

pub entity_set-sync : IsSync entity_set_type.the_row
entity_set-sync = search (sendable, crosses, maps.crosses, text-sync) depth 60 fits 20000

pub custom-sync : IsSync custom_type.the_row
custom-sync = search (sendable, crosses, maps.crosses, text-sync, texts-sync) depth 60 fits 20000

pub ids-sync : IsSync ids_type.the_row
ids-sync = search (sendable, crosses, maps.crosses, custom-sync) depth 60 fits 20000

pub model-sync : IsSync model_type.the_row
model-sync = search (sendable, crosses, maps.crosses, entity_type-sync, entity_set-sync, custom-sync) depth 60 fits 20000

pub kept_texts-sync : IsSync kept_texts_type.the_row
kept_texts-sync = search (sendable, crosses, maps.crosses) depth 60 fits 20000

pub numbered_texts-sync : IsSync numbered_texts_type.the_row
numbered_texts-sync = search (sendable, crosses, maps.crosses, kept_texts-sync) depth 60 fits 20000

pub places-sync : IsSync places_type.the_row
places-sync = search (sendable, crosses, maps.crosses) depth 60 fits 20000

pub links-sync : IsSync links_type.the_row
links-sync = search (sendable, crosses, maps.crosses, places-sync) depth 60 fits 20000

pub values-sync : IsSync values_type.the_row
values-sync = search (sendable, crosses, maps.crosses, text-sync, kept_texts-sync, numbered_texts-sync) depth 60 fits 20000

pub column-sync : IsSync column_type.the_row
column-sync = search (sendable, crosses, maps.crosses, places-sync, values-sync) depth 60 fits 20000

pub table-sync : IsSync table_type.the_row
table-sync = search (sendable, crosses, maps.crosses, column-sync) depth 60 fits 20000

pub tables-sync : IsSync tables_type.the_row
tables-sync = search (sendable, crosses, maps.crosses, model-sync, table-sync) depth 60 fits 20000

pub keyed-sync : IsSync keyed_type.the_row
keyed-sync = search (sendable, crosses, maps.crosses, tables-sync) depth 60 fits 20000

pub relation-sync : IsSync relation_type.the_row
relation-sync = search (sendable, crosses, maps.crosses, links-sync) depth 60 fits 20000

pub relations-sync : IsSync relations_type.the_row
relations-sync = search (sendable, crosses, maps.crosses, relation-sync) depth 60 fits 20000

pub data-sync : IsSync data_type.the_row
data-sync = search (sendable, crosses, maps.crosses, keyed-sync, relations-sync) depth 60 fits 20000

pub row-sync : IsSync row_type.the_row
row-sync = search (sendable, crosses, maps.crosses, text-sync, path-sync) depth 60 fits 20000
