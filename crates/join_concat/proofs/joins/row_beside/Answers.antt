use Rattle.std.proofs.Common.{◌∙◌, ap, sym}
use Rattle.std.specs.List.{list_any}
use Rattle.context_typing.specs.Paths.{begins}
use Rattle.apply_meaning.specs.Instances.{root_of}
use Rattle.apply_meaning.specs.RowViews.{with_root}
use Rattle.join_concat.proofs.BesideLemmas.{differ-beside, free-parts, paths-beside, root-differs, root-free}
use Rattle.join_concat.proofs.joins.row_beside.Goals as goal

pub make-requires : goal.make-requires
make-requires g c =
    let a = c.args.alias.now in
    let free = free-parts a c.args.row.now c.requires.free in
    let own = c.prefixes.result.now in
    let others = with_root c.root.result c.prefixes-2.result.now in
    let apart = root-free a (root_of c.args.row.now) own (sym (ap (list_any (λ x. begins a x.0)) c.prefixes.ensures.prefixes) ∙ free.0) in
    let none = ap (list_any (λ x. begins a x.0)) c.columns.ensures.columns ∙ free.1 in
    rw (c.in_ok-prefixes-2.ensures, c.in_ok-prefixes.ensures.value, c.in_ok-columns-2.ensures, c.in_ok-columns.ensures.value) (record {
      paths = paths-beside a own others c.prefixes.ensures.paths;
      prefixes = differ-beside a own others c.prefixes.ensures.differ (root-differs c.root.result c.prefixes-2.result.now c.prefixes-2.ensures.paths c.prefixes-2.ensures.differ) apart;
      columns = differ-beside a c.columns.result.now c.columns-2.result.now c.columns.ensures.differ c.columns-2.ensures.differ none;
    })
