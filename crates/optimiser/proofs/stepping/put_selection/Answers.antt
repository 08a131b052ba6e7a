use Rattle.std.proofs.Common.{◌≡◌, sym, ◌∙◌, ap, None, map}
use Rattle.std.specs.Prelude.{option_map}
use Rattle.std.proofs.lemmas.Result.{on_ok_weaker}
use Rattle.apply_ast.specs.Views.{step_of, top_of}
use Rattle.context_typing.specs.Readings.{readings}
use Rattle.optimiser.specs.HeldSegments.{is_right, is_there, segments_of}
use Rattle.optimiser.specs.IdleForms.{frame, joined_last}
use Rattle.walk_laws.specs.Walks as spec
use Rattle.optimiser.proofs.HeldLists.{kept-part}
use Rattle.optimiser.proofs.SteppingLemmas.{unjoined}
use Rattle.optimiser.proofs.stepping.put_selection.Goals as goal

pub returns-in-None-clause-value : goal.returns-in-None-clause-value
returns-in-None-clause-value c =
    let m = c.args.m.now in
    let cs = readings c.args.c.now in
    let ss = map step_of c.args.steps.now in
    let w = frame spec.Rules.All cs ss in
    let t = top_of c.args.top.now in
    let none : None ≡ joined_last (segments_of m w c.args.segments.now.items) t =
    ap (option_map top_of) (sym c.in-None.is) ∙ c.in_ok-count.ensures m spec.Rules.All cs ∙ ap (λ l. joined_last (segments_of m w l) t) c.as_slice.ensures.value in
    on_ok_weaker c.put_head.result
    (λ p. p ∙ unjoined m cs c.args.shape.now (segments_of m w c.args.segments.now.items) (step_of c.args.step.now) t c.requires.top none)
    (c.put_head.ensures.value ss c.requires.there)

pub returns-in-Some-clause-right : goal.returns-in-Some-clause-right
returns-in-Some-clause-right c =
    let m = c.args.m.now in
    c.put_count.ensures.right m (kept-part (λ x. is_right m x.1) c.args.segments.now.items c.pop.new.self.items _ c.pop.ensures.items c.requires.right)

pub returns-in-Some-clause-there : goal.returns-in-Some-clause-there
returns-in-Some-clause-there c ks here there =
    let m = c.args.m.now in
    let cs = readings c.args.c.now in
    let ss = map step_of c.args.steps.now in
    c.put_count.ensures.there m cs ss ks (kept-part (λ x. is_there m cs ss ks x.0) c.args.segments.now.items c.pop.new.self.items _ c.pop.ensures.items there)
