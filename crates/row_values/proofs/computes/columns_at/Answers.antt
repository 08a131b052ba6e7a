use Rattle.std.proofs.Common.{◌≡◌, ◌∙◌, ◌++◌, ◌∷◌, []}
use Rattle.std.specs.Global.{Vec}
use Rattle.edm_values.specs.declared.Value.{Value}
use Rattle.row_values.proofs.Columns.{column-read}
use Rattle.row_values.proofs.computes.columns_at.Goals as goal

pub loop-k-preserved : goal.loop-k-preserved
loop-k-preserved c =
    let path : c.in_ok-copy.field-0 ≡ c.index-paths-k.result = c.in_ok-copy.ensures.value in
    let value : c.in_ok-value.value ≡ c.index.result.now = c.in_ok-value.ensures.value ∙ c.seen.ensures.value in
    c.in_ok-push.ensures.items
    ∙ (λ i. c.loop-k.invariant i ++ (path i, value i) ∷ [])
    ∙ column-read (λ (l : Vec Value). l.items) c.args.paths.now c.args.lists.now c.loop-k.k c.args.at c.index-paths-k.result c.index-lists-k.result c.index.result.now
    c.loop-k-test.true c.requires.lists c.requires.within c.index-paths-k.is c.index-lists-k.is c.index.ensures
