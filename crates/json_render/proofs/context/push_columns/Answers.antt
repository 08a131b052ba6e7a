use Rattle.std.proofs.Common.{◌∙◌, ◌∷◌, ◌++◌, [], ap, arith}
use Rattle.std.proofs.lemmas.List.{append-nil}
use Rattle.json_render.specs.ItemTexts.{column_paths, prefix_paths}
use Rattle.json_render.specs.Places.{named_parts}
use Rattle.json_render.proofs.PlaceItems.{columns-pushed, path-more, prefixes-pushed}
use Rattle.json_render.proofs.context.push_columns.Goals as goal

pub loop-column-preserved : goal.loop-column-preserved
loop-column-preserved c =
    let old = c.loop-column.entries.items in
    let new = c.push.new.self.items in
    record {
      prefixes = prefixes-pushed old new c.whole.result c.in_ok-push.ensures.items ∙ ap (λ e. prefix_paths (named_parts old) ++ prefix_paths (e ∷ [])) c.whole.ensures ∙ append-nil (prefix_paths (named_parts old)) ∙ c.loop-column.invariant.prefixes;
      columns = path-more (λ x. x.path) c.args.columns.now c.loop-column.column-index c.column-item.result (column_paths (named_parts c.args.entries.now.items)) (column_paths (named_parts old)) (column_paths (named_parts new)) c.names.result.now (omega arith) c.column-item.is
          (c.names.ensures.names ∙ ap (λ x. x.path) c.column.view_is) (columns-pushed old new c.whole.result c.in_ok-push.ensures.items ∙ ap (λ e. column_paths (named_parts old) ++ column_paths (e ∷ [])) c.whole.ensures) c.loop-column.invariant.columns;
    }
