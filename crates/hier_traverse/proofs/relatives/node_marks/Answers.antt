use Rattle.std.proofs.Common.{◌∙◌, ℕ, Bool, length}
use Rattle.edm_data.proofs.KeyedLemmas.{IfOk-then}
use Rattle.hier_traverse.specs.Relatives.{is_taken}
use Rattle.hier_traverse.proofs.RowLaws.{rows_same, mark_is}
use Rattle.hier_traverse.proofs.relatives.node_marks.Goals as goal

pub returns : goal.returns
returns c =
    let x = c.args.x.now in
    let starts = c.args.starts.now in
    let test : ℕ → Bool = is_taken c.relation_to.result x c.args.d c.args.keep starts in
    record {
      value = IfOk-then c.marks.result _ _ (λ marks e nodes rows.
          rows_same (length x) _ test nodes rows (mark_is (length x) test marks.items e)
          ∙ c.relation_to.ensures x c.args.d c.args.keep starts nodes) c.marks.ensures;
    }
