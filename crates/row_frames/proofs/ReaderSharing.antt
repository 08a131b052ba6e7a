-- Expressions that are bound to tables, which threads share: none of them has anything that one thread alone may read.
use Rattle.std.proofs.Crossing.{crosses}
use Rattle.std.proofs.MapsCrossing as maps
use Rattle.std.proofs.Common.{subst}
use base.Shift.{Keyless}
use denote.Ref.{NamedLft}
use denote.RattleType.{RattleType}
use denote.Param.Send.{IsSync, sendable}
use denote.Param.SendFields.{as_row_sync, declared_sync, variants_sync}
use denote.Hole.Fix.{holes}
use denote.Hole.FixLaws.{layer_row}
use denote.Hole.FixSend.{fix_sync}
use Rattle.edm_values.specs.contracts.Seen as seen_type
use Rattle.edm_data.specs.contracts.linked_places.LinkedPlaces as links_type
use Rattle.edm_data.specs.contracts.property_values.PropertyValues as values_type
use Rattle.row_frames.proofs.Sharing.{column-sync, data-sync, path-sync, relation-sync, text-sync}
use Rattle.row_frames.specs.contracts.picks.Part as part_type
use Rattle.row_frames.specs.contracts.tables.Table as table_type
use Rattle.row_frames.specs.contracts.told.TextValues as told_type
use Rattle.row_frames.specs.contracts.readers.Leaf as leaf_type
use Rattle.row_frames.specs.contracts.readers.Bound as bound_type
use Rattle.row_frames.specs.contracts.readers.Bound.TheKnot as knot
use Rattle.row_frames.specs.contracts.readers.TableReader as reader_type
use Rattle.row_frames.specs.declared.readers.Bound.TheBlock.{the_members, member-Bound}

pub table-sync : IsSync table_type.the_row
table-sync = search (sendable, crosses, maps.crosses, text-sync, path-sync) depth 60 fits 20000

pub seen-sync : (a : NamedLft) → IsSync (seen_type.the_row a)
seen-sync a = search (sendable, crosses, maps.crosses) depth 60 fits 20000

pub values-sync : (a : NamedLft) → IsSync (values_type.the_row a)
values-sync a = search (sendable, crosses, maps.crosses, column-sync) depth 60 fits 20000

pub links-sync : (a : NamedLft) → IsSync (links_type.the_row a)
links-sync a = search (sendable, crosses, maps.crosses, relation-sync) depth 60 fits 20000

pub told-sync : (a : NamedLft) → IsSync (told_type.the_row a)
told-sync a = search (sendable, crosses, maps.crosses, seen-sync) depth 60 fits 20000

pub leaf-sync : (a : NamedLft) → IsSync (leaf_type.the_row a)
leaf-sync a = search (sendable, crosses, maps.crosses, path-sync, seen-sync, values-sync, links-sync) depth 60 fits 20000

layer-sync : (a : NamedLft) (h : the_members → RattleType) → ((j : the_members) → IsSync (h j)) → (i : the_members) → IsSync (layer_row (knot.ring a) i h)
layer-sync a h all member-Bound = variants_sync (knot.type-Bound a (h member-Bound) (h member-Bound) (h member-Bound) (h member-Bound) (h member-Bound) (h member-Bound)) (search (sendable, crosses, maps.crosses, as_row_sync, variants_sync, leaf-sync, told-sync, all) depth 60 fits 20000)

hole-sync : (a : NamedLft) (i : the_members) → IsSync (holes (knot.ring a) i)
hole-sync a = fix_sync (knot.ring a) (λ i. record { sync = λ h all. layer-sync a h all i })

the_hole-sync : (a : NamedLft) → IsSync (bound_type.the_hole a)
the_hole-sync a = hole-sync a member-Bound

pub bound-sync : (a : NamedLft) → IsSync (bound_type.the_row a)
bound-sync a = record { shared = λ x b o κ. subst (λ s. Keyless (s b o κ)) (bound_type.shr_is a x) ((the_hole-sync a).shared x b o κ) }

pub reader-sync : (a : NamedLft) → IsSync (reader_type.the_row a)
reader-sync a = declared_sync (reader_type.the_type a) (search (sendable, crosses, maps.crosses, as_row_sync, data-sync, table-sync, bound-sync) depth 60)

pub part-sync : (a : NamedLft) → IsSync (part_type.the_row a)
part-sync a = search (sendable, crosses, maps.crosses) depth 60 fits 20000
