use Rattle.std.proofs.Common.{◌∙◌, ◌||◌, ap, sym}
use Rattle.std.specs.List.{list_any}
use Rattle.std.proofs.lemmas.Bool.{or_left}
use Rattle.context_typing.specs.Paths.{is_prefix}
use Rattle.context_typing.proofs.GroupFacts.{overlaps-parts}
use Rattle.context_typing.proofs.grouping.overlaps.Goals as goal

pub returns-then-any_begins_with : goal.returns-then-any_begins_with
returns-then-any_begins_with c =
    let keys = c.args.keys.now in
    let p = c.args.path.now in
    c.if-any_begins_with.true ∙ sym (or_left (list_any (λ x. is_prefix p x.path) keys) (list_any (λ x. is_prefix x.path p) keys) (sym c.any_begins_with.ensures ∙ c.if-any_begins_with.true)) ∙ overlaps-parts keys p

pub returns-else-any_begins_with : goal.returns-else-any_begins_with
returns-else-any_begins_with c =
    let keys = c.args.keys.now in
    let p = c.args.path.now in
    c.any_is_prefix_of.ensures ∙ ap (λ b. b || list_any (λ x. is_prefix x.path p) keys) (sym (sym c.any_begins_with.ensures ∙ c.if-any_begins_with.false)) ∙ overlaps-parts keys p
