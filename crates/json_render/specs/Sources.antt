-- Rows that are read where they stand.
use Rattle.std.specs.Prelude.{List}
use Rattle.apply_meaning.specs.Instances.{Instance}
use Rattle.json_render.specs.declared.shown.RowSource.{RowSource}
use Rattle.json_render.specs.declared.shown.RowSource.TheVariants as row_source
use Rattle.json_render.specs.declared.shown.ListSource.{ListSource}
use Rattle.json_render.specs.declared.shown.ListSource.TheVariants as list_source

-- the instance of a row, or one of a frame
abbrev pub shown : RowSource → Instance
shown (row_source.Row row) = row.now
shown (row_source.Frame row) = row

-- the instances of rows, or of a frame
abbrev pub all_shown : ListSource → List Instance
all_shown (list_source.Rows rows) = rows.now
all_shown (list_source.Frame rows) = rows
