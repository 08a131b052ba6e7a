use Rattle.std.proofs.Common.{◌∙◌, ◌∷◌, ◌++◌, [], ap, arith}
use Rattle.std.proofs.lemmas.List.{append-nil}
use Rattle.json_render.specs.ItemTexts.{column_paths, prefix_paths}
use Rattle.json_render.specs.Places.{named_parts}
use Rattle.json_render.proofs.PlaceItems.{columns-pushed, path-more, prefixes-pushed}
use Rattle.json_render.proofs.context.push_prefixes.Goals as goal

pub loop-prefix-preserved : goal.loop-prefix-preserved
loop-prefix-preserved c =
    let old = c.loop-prefix.entries.items in
    let new = c.push.new.self.items in
    record {
      prefixes = path-more (λ x. x.path) c.args.prefixes.now c.loop-prefix.prefix-index c.prefix-item.result (prefix_paths (named_parts c.args.entries.now.items)) (prefix_paths (named_parts old)) (prefix_paths (named_parts new)) c.names.result.now (omega arith) c.prefix-item.is
          (c.names.ensures.names ∙ ap (λ x. x.path) c.prefix.view_is) (prefixes-pushed old new c.whole.result c.in_ok-push.ensures.items ∙ ap (λ e. prefix_paths (named_parts old) ++ prefix_paths (e ∷ [])) c.whole.ensures) c.loop-prefix.invariant.prefixes;
      columns = columns-pushed old new c.whole.result c.in_ok-push.ensures.items ∙ ap (λ e. column_paths (named_parts old) ++ column_paths (e ∷ [])) c.whole.ensures ∙ append-nil (column_paths (named_parts old)) ∙ c.loop-prefix.invariant.columns;
    }
