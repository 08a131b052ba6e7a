use Rattle.std.proofs.Common.{◌≡◌, ◌++◌, length, refl, sym, ◌∙◌, ap}
use Rattle.std.proofs.lemmas.Bool.{le-ltb, lt-ltb}
use Rattle.std.proofs.lemmas.List.{append-nil}
use Rattle.std.proofs.lemmas.Option.{slice_get_read}
use Rattle.std.specs.Prelude.{nat_lt, slice_index_or}
use Rattle.serde_json.specs.Written.{comma_if}
use Rattle.json_render.specs.RowRuns.{row_text}
use Rattle.json_render.specs.RowTexts.{template_text}
use Rattle.apply_meaning.specs.Instances.{fits, no_instance}
use Rattle.json_render.proofs.FitRows.{row-fits, row-of}
use Rattle.json_render.proofs.RowLines.{line-written}
use Rattle.json_render.proofs.body.push_row.Goals.{then-k-gt0+in_ok-push, else-k-gt0}
use Rattle.json_render.proofs.body.push_row.Goals as goal

pub push_row-requires-clause-entities : goal.push_row-requires-clause-entities
push_row-requires-clause-entities c =
    row-of c.args.store.now c.args.shape.now c.at-row.result (ap (fits c.args.store.now c.args.shape.now) c.at-row.ensures ∙ row-fits c.args.store.now c.args.shape.now c.args.rows.now c.args.k c.requires.fit c.requires.there)

pub returns-clause-ok : goal.returns-clause-ok
returns-clause-ok c =
    let w = c.args.store.now in
    let s = c.args.shape.now in
    let i = slice_index_or c.args.rows.now c.args.k no_instance in
    let read = c.at-row.ensures in
    let text : template_text w c.at-row.result c.index-found.result.now.template ≡ row_text w s i = ap (λ r. template_text w r c.index-found.result.now.template) read ∙ c.in_ok-place.ensures.serves.text c.index-found.result.now (slice_get_read c.template_at.new.known.items (length c.template_at.new.known.items) c.in_ok-place.place c.index-found.result.now refl c.in_ok-place.ensures.serves.within c.index-found.ensures) in
    let comma : c.if-k-gt0.body.items ≡ c.args.body.now.items ++ comma_if (nat_lt 0 c.args.k) = elim c.if-k-gt0.branch [
      | then-k-gt0+in_ok-push w' ↦ (λ j. (w'.body-is j).items) ∙ w'.in_ok-push.ensures.items ∙ ap (λ b. c.args.body.now.items ++ comma_if b) (sym (lt-ltb 0 c.args.k w'.if-k-gt0.true))
      | else-k-gt0 w' ↦ (λ j. (w'.body-is j).items) ∙ sym (append-nil c.args.body.now.items) ∙ ap (λ b. c.args.body.now.items ++ comma_if b) (sym (le-ltb 0 c.args.k w'.if-k-gt0.false))
    ] in
    line-written c.args.body.now.items (comma_if (nat_lt 0 c.args.k)) c.if-k-gt0.body.items (row_text w s i) c.push_row.new.out.items comma (c.in_ok-push_row.ensures ∙ ap (λ xs. c.if-k-gt0.body.items ++ xs) text)
