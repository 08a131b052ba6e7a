use Rattle.std.proofs.Common.{◌≡◌, ◌∙◌, ap, sym, get_or, map, take, Some}
use Rattle.std.specs.Prelude.{nat_eq, slice_get}
use Rattle.std.proofs.lemmas.List.{take_more}
use Rattle.indexmap.specs.IndexSet.{insert_key}
use Rattle.numbered_groups.proofs.IndexLemmas.{all-next, told-next}
use Rattle.numbered_groups.proofs.indexes.CodeIndex.insert_all.Goals as goal

pub loop-code-preserved : goal.loop-code-preserved
loop-code-preserved c =
    let codes = c.args.codes.now in
    let i = c.loop-code.code-index in
    let x = get_or codes i 0 in
    let n = c.in_ok-insert.field-0 in
    let heads : c.insert.new.self.heads ≡ insert_key nat_eq c.loop-code.self.heads x = c.in_ok-insert.ensures.heads in
    let at : slice_get c.insert.new.self.heads n ≡ Some x = c.in_ok-insert.ensures.at in
    record {
      heads = heads ∙ ap (λ hs. insert_key nat_eq hs x) c.loop-code.invariant.heads ∙ sym (all-next c.args.self.now.heads codes i 0 c.loop-code-test.true);
      told =
          (λ k. map (slice_get (heads k)) (c.in_ok-push.ensures.items k))
          ∙ told-next c.loop-code.self.heads c.loop-code.numbers.items (take i codes) x n c.loop-code.invariant.told (ap (λ hs. slice_get hs n) (sym heads) ∙ at)
          ∙ ap (map Some) (sym (take_more codes i 0 c.loop-code-test.true));
    }
