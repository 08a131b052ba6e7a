use Rattle.std.proofs.Common.{◌≡◌, sym, ◌∙◌, ap, ◌==◌, false, Some, map}
use Rattle.std.specs.Prelude.{option_and_then, option_map}
use Rattle.std.proofs.lemmas.Result.{IfOk-weaker}
use Rattle.apply_ast.specs.Trees.{Step}
use Rattle.apply_ast.specs.Views.{step_of, top_of}
use Rattle.optimiser.specs.HeldSegments.{segment_of}
use Rattle.optimiser.specs.IdleForms.{frame}
use Rattle.walk_laws.specs.Walks as spec
use Rattle.optimiser.proofs.HeldLists.{no-tests}
use Rattle.optimiser.proofs.IdleLemmas.{last-form}
use Rattle.optimiser.proofs.idle.last_count.Goals as goal

pub returns-in-Some : goal.returns-in-Some
returns-in-Some c m r cs =
    let g = c.args.segment.now in
    let t = top_of c.args.top.now in
    let ss = map step_of c.args.steps.now in
    let none = no-tests g.tests.items (ap (λ l. l == 0) (sym g.tests.ok.0) ∙ sym c.is_empty.ensures ∙ c.if-not-is_empty.false) in
    IfOk-weaker c.joined.result (λ o. option_map top_of o ≡ spec.joined_count (Some (Step.TopBy (top_of c.in-Some.first.now))) t) (λ o. option_map top_of o ≡ spec.last_count (segment_of m (frame r cs ss) g) t)
    (λ o h. h ∙ ap (option_and_then (λ u. spec.joined_count (Some (Step.TopBy u)) t)) c.in-Some.ensures ∙ last-form r m cs ss g t false none)
    c.joined.ensures

pub returns-in-None : goal.returns-in-None
returns-in-None c m r cs =
    let g = c.args.segment.now in
    let t = top_of c.args.top.now in
    let ss = map step_of c.args.steps.now in
    let none = no-tests g.tests.items (ap (λ l. l == 0) (sym g.tests.ok.0) ∙ sym c.is_empty.ensures ∙ c.if-not-is_empty.false) in
    ap (option_and_then (λ u. spec.joined_count (Some (Step.TopBy u)) t)) c.in-None.ensures ∙ last-form r m cs ss g t false none
