use Rattle.std.proofs.Common.{◌≡◌, ◌∙◌, Some, ap, map, sym, subst, List, IsTrue}
use Rattle.std.specs.Prelude.{IfOk, ◌==◌}
use Rattle.edm_values.specs.Lists.{is_some_and}
use Rattle.edm_data.specs.References.{entity_type}
use Rattle.edm_data.specs.Worlds.{Entity}
use Rattle.context_typing.specs.Paths.{is_none_or}
use Rattle.row_frames.specs.Frames.{first_pick}
use Rattle.row_frames.specs.Related.{related_to}
use Rattle.row_frames.proofs.RelatedLemmas.{entity-typed, related-is}
use Rattle.row_frames.proofs.related.related_picks.Goals as goal

pub returns-in_ok-found-in-Some : goal.returns-in_ok-found-in-Some
returns-in_ok-found-in-Some c = λ v h.
    let w = c.args.store.now in
    let e = c.in-Some.entity in
    let t = c.args.nav.of in
    let typed = entity-typed w t e (subst (λ o. IsTrue (is_none_or (λ e. is_some_and (λ x. x == t) (entity_type w e)) o)) c.in-Some.is c.requires.of) in
    let same = c.as_slice.ensures.value ∙ c.in_ok-found-in-Some.ensures.value ∙ related-is w c.args.nav v e h typed.0 typed.1 ∙ ap (related_to w v) (sym c.in-Some.is) in
    subst (λ (es : List Entity). IfOk c.entity_picks.result (λ xs. xs.items ≡ map (λ e. first_pick e.at) es)) same c.entity_picks.ensures
