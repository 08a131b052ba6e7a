use Rattle.std.proofs.Common.{List, subst}
use Rattle.std.specs.List.{AllZip}
use Rattle.row_frames.specs.declared.tables.Prefix.{Prefix}
use Rattle.row_frames.specs.declared.tables.Column.{Column}
use Rattle.row_frames.specs.Gathered.{IsColumnOf, IsPartOf}
use Rattle.row_frames.proofs.gathered.gathered.Goals as goal

pub returns : goal.returns
returns c = record {
  roots = c.in_ok-gathered_roots.ensures;
  prefixes = subst (λ (ps : List Prefix). AllZip (IsPartOf c.args.rows.now) ps c.in_ok-gathered_prefixes.field-0.items) c.as_slice.ensures.value c.in_ok-gathered_prefixes.ensures;
  columns = subst (λ (cs : List Column). AllZip (IsColumnOf c.args.rows.now) cs c.in_ok-gathered_columns.field-0.items) c.as_slice-2.ensures.value c.in_ok-gathered_columns.ensures;
}
