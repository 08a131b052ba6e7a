use Rattle.std.proofs.Common.{◌∙◌, ◌∷◌, [], None, ap, refl, sym}
use Rattle.std.specs.List.{list_any}
use Rattle.context_typing.specs.Paths.{begins}
use Rattle.apply_meaning.specs.Instances.{root_of}
use Rattle.join_concat.proofs.BesideLemmas.{differ-beside, free-parts, paths-beside, root-free}
use Rattle.join_concat.proofs.joins.row_beside_none.Goals as goal

pub make-requires : goal.make-requires
make-requires g c =
    let a = c.args.alias.now in
    let free = free-parts a c.args.row.now c.requires.free in
    let own = c.prefixes.result.now in
    let apart = root-free a (root_of c.args.row.now) own (sym (ap (list_any (λ x. begins a x.0)) c.prefixes.ensures.prefixes) ∙ free.0) in
    rw (c.in_ok-push.ensures.items, c.in_ok-prefixes.ensures.value, c.in_ok-beneath.ensures, c.in_ok-columns.ensures.value) (record {
      paths = paths-beside a own (([], None) ∷ []) c.prefixes.ensures.paths;
      prefixes = differ-beside a own (([], None) ∷ []) c.prefixes.ensures.differ refl apart;
      columns = c.columns.ensures.differ;
    })
