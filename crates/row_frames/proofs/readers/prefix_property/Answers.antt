use Rattle.std.proofs.Common.{◌∙◌, ap, subst, sym}
use Rattle.std.specs.Prelude.{IfSome, option_map, slice_get}
use Rattle.row_frames.specs.declared.tables.Prefix.{Prefix}
use Rattle.row_frames.specs.Frames.{bound_in}
use Rattle.row_frames.specs.Hops.{IsBehind}
use Rattle.row_frames.proofs.TableLemmas.{behind-there, bound-set, set-is}
use Rattle.row_frames.proofs.readers.prefix_property.Goals as goal

pub returns-in-Some-2 : goal.returns-in-Some-2
returns-in-Some-2 c = λ k.
    let t = c.args.table.now in
    let s = c.in-Some.set in
    let o = slice_get t.prefixes.items c.args.c in
    let b = subst (λ o. IfSome o (IsBehind c.args.store.now s c.args.names.now)) c.in-Some-2.is c.in_ok-behind.ensures in
    let h = set-is o s (sym (c.prefix_set.ensures ∙ ap (λ ps. option_map (λ (p : Prefix). p.set) (slice_get ps c.args.c)) c.as_slice.ensures.value) ∙ c.in-Some.is) in
    behind-there c.args.store.now s c.args.names.now c.in-Some-2.behind b (bound_in o k) (bound-set o s k h)
    ∙ c.prefix_leaf.ensures t k h
