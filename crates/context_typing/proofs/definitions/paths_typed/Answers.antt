use Rattle.std.proofs.Common.{◌∙◌, ◌++◌, ap, sym, map, false}
use Rattle.std.specs.Prelude.{option_map}
use Rattle.edm_values.specs.Lists.{all_some}
use Rattle.context_typing.specs.Grouping.{typed_key}
use Rattle.context_typing.specs.Typing.{columns_differ}
use Rattle.context_typing.proofs.CustomEntries.{per-some, per-none}
use Rattle.context_typing.proofs.definitions.paths_typed.Goals as goal

pub returns-in-Some : goal.returns-in-Some
returns-in-Some c =
    c.differ-in-Some.ensures ∙ ap columns_differ (c.in_ok-with_all-in-Some.ensures ∙ ap (λ l. l ++ c.in-Some.columns.items) c.empty.ensures)
    ∙ per-some c.args.m.now c.args.of c.args.paths.now c.in-Some.columns.items
    (ap (option_map (λ v. v.items)) (sym c.in-Some.is) ∙ c.in_ok-columns.ensures ∙ ap (λ S. all_some (map (typed_key c.args.m.now S false) c.args.paths.now)) c.set_shape-shape.ensures.value)

pub returns : goal.returns
returns c =
    per-none c.args.m.now c.args.of c.args.paths.now
    (ap (option_map (λ v. v.items)) (sym c.in-None.is) ∙ c.in_ok-columns.ensures ∙ ap (λ S. all_some (map (typed_key c.args.m.now S false) c.args.paths.now)) c.set_shape-shape.ensures.value)
