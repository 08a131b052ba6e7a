use Rattle.std.proofs.Common.{◌∙◌, ap, sym, false}
use Rattle.std.specs.Prelude.{is_none, option_map, unwrap_or}
use Rattle.json_render.specs.Places.{named_parts}
use Rattle.json_render.specs.RowTexts.{bound_at}
use Rattle.json_render.proofs.PatternLemmas.{bound-none, none-told, same-none}
use Rattle.json_render.proofs.members.is_unbound.Goals as goal

pub returns-in-Some : goal.returns-in-Some
returns-in-Some c = λ i s.
    bound-none i (named_parts c.args.place.now) ∙ ap (λ o. unwrap_or (option_map (λ e. is_none e) (option_map (bound_at i) o)) false) (sym c.prefix_here.ensures ∙ c.in-Some.is)
    ∙ sym (same-none c.args.row.now i s c.in-Some.k) ∙ ap is_none (sym c.bound.ensures) ∙ none-told c.is_none.result c.bound.result c.is_none.ensures

pub returns-in-None : goal.returns-in-None
returns-in-None c = λ i s.
    bound-none i (named_parts c.args.place.now) ∙ ap (λ o. unwrap_or (option_map (λ e. is_none e) (option_map (bound_at i) o)) false) (sym c.prefix_here.ensures ∙ c.in-None.is)
