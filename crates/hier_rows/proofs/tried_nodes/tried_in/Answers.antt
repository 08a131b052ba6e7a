use Rattle.std.proofs.Common.{◌≡◌, ◌<◌, get_or, length, true, sym, subst, arith}
use Rattle.std.specs.Prelude.{IfSome}
use Rattle.std.proofs.lemmas.Option.{slice_get-get_or}
use Rattle.edm_values.proofs.ListFacts.{all-at}
use Rattle.edm_model.specs.LookUps.{IsSet}
use Rattle.apply_meaning.specs.Instances.{no_instance}
use Rattle.apply_meaning.specs.RowViews.{is_of}
use Rattle.apply_meaning.proofs.LookupForms.{root-is_of}
use Rattle.hier_rows.proofs.tried_nodes.tried_in.Goals as goal

pub tried_from-requires : goal.tried_from-requires
tried_from-requires c =
    let w = c.args.store.now in
    let l = c.args.list.now in
    let some : 0 < length l = let n = c.len.ensures.value in let t = c.if-len-eq0.false in omega (arith, n, t) in
    let first = get_or l 0 no_instance in
    let of : is_of w first ≡ true = all-at (is_of w) l 0 first c.requires (slice_get-get_or l 0 no_instance some) in
    subst (λ o. IfSome o (λ e. IsSet w.model e.set)) (sym c.root.ensures.value) (root-is_of w first of)
