-- Rows that fit a shape have entities of the world, and a lawful shape has columns of different paths.
use Rattle.std.proofs.Common.{◌≡◌, ℕ, ◌<◌, true, ◌==◌, ◌&&◌, List, Option, Some, None, length, map, refl}
use Rattle.std.specs.Prelude.{IsTrue, nat_lt, slice_index_or, is_some}
use Rattle.std.specs.List.{list_all}
use Rattle.std.proofs.lemmas.Bool.{and_parts, false≢true}
use Rattle.std.proofs.lemmas.Option.{slice_get-get_or}
use Rattle.edm_values.specs.Lists.{are_distinct, is_some_and}
use Rattle.edm_values.proofs.OptionFacts.{and_5, and_7, some_and-there}
use Rattle.edm_values.specs.Names.{Path}
use Rattle.edm_values.proofs.ListFacts.{all-at, all-each}
use Rattle.edm_data.specs.Worlds.{World, Entity}
use Rattle.edm_data.specs.References.{count, entity_type}
use Rattle.context_typing.specs.Paths.{is_none_or, same_path}
use Rattle.context_typing.specs.Shapes.{PrefixShape, Shape}
use Rattle.context_typing.specs.Typing.{all_prefixes, are_apart, column_at, columns_differ, has_paths, has_shorter_prefixes, is_lawful, keeps_kind, prefix_at, prefixes_differ}
use Rattle.apply_meaning.specs.Instances.{Instance, column_fits, fits, has_columns, has_prefixes, no_instance, prefix_fits, prefix_fits_at}
use Rattle.apply_meaning.specs.MeaningLaws.{AllFit}
use Rattle.apply_meaning.specs.RowViews.{is_of}

bound-of : (w : World) (S : Shape) (i : Instance) (p : Path) (x : Option Entity) (o : Option PrefixShape) → prefix_fits_at w S i (p, x) o ≡ true → is_none_or (λ e. is_some (entity_type w e)) x ≡ true
bound-of w S i p None o h = refl
bound-of w S i p (Some e) None h = absurd (false≢true h)
bound-of w S i p (Some e) (Some y) h = some_and-there (λ t'. t' == y.of) (entity_type w e) (and_parts (is_some_and (λ t'. t' == y.of) (entity_type w e)) (nat_lt e.at (count w e.set)) h).0

fit-parts : (w : World) (S : Shape) (i : Instance) → fits w S i ≡ true → (is_lawful w.model S ≡ true) × (list_all (prefix_fits w S i) i.prefixes ≡ true)
fit-parts w S i h =
    let p = and_7 (is_lawful w.model S) (are_distinct same_path (map (λ x. x.0) i.prefixes)) (are_distinct same_path (map (λ c. c.0) i.columns)) (has_prefixes S i) (has_columns S i)
    (list_all (λ c. is_some_and (column_fits w i c) (column_at S c.0)) i.columns) (list_all (prefix_fits w S i) i.prefixes) h in
    (p.0, p.6)

pub row-of : (w : World) (S : Shape) (i : Instance) → fits w S i ≡ true → IsTrue (is_of w i)
row-of w S i h = all-each (prefix_fits w S i) (λ x. is_none_or (λ e. is_some (entity_type w e)) x.1) i.prefixes (fit-parts w S i h).1 (λ x g. bound-of w S i x.0 x.1 (prefix_at S x.0) g)

pub row-columns : (w : World) (S : Shape) (i : Instance) → fits w S i ≡ true → IsTrue (columns_differ S.columns)
row-columns w S i h =
    let p = and_parts (prefixes_differ S && columns_differ S.columns && list_all (has_shorter_prefixes S) (all_prefixes S) && are_apart w.model S && list_all (keeps_kind w.model S) S.columns) (has_paths S) (fit-parts w S i h).0 in
    (and_5 (prefixes_differ S) (columns_differ S.columns) (list_all (has_shorter_prefixes S) (all_prefixes S)) (are_apart w.model S) (list_all (keeps_kind w.model S) S.columns) p.0).1

pub row-fits : (w : World) (S : Shape) (rows : List Instance) (k : ℕ) → AllFit w S rows → k < length rows → fits w S (slice_index_or rows k no_instance) ≡ true
row-fits w S rows k h l = all-at (fits w S) rows k (slice_index_or rows k no_instance) h (slice_get-get_or rows k no_instance l)
