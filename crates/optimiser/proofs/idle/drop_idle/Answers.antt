use Rattle.std.proofs.Common.{◌≡◌, sym, ◌∙◌, ap, ◌-◌, Some, length, map, take, true, false}
use Rattle.std.specs.Prelude.{option_map, slice_get}
use Rattle.apply_ast.specs.Views.{step_of}
use Rattle.optimiser.specs.HeldSegments.{segments_of}
use Rattle.optimiser.specs.IdleForms.{frame, without}
use Rattle.optimiser.proofs.HeldLists.{kept-part, last-first}
use Rattle.optimiser.proofs.IdleLemmas.{drops}
use Rattle.optimiser.proofs.idle.drop_idle.Goals as goal

pub returns-then-not-is_idle-clause-value : goal.returns-then-not-is_idle-clause-value
returns-then-not-is_idle-clause-value c m r cs =
    let ss = map step_of c.args.steps.now in
    let q = option_map (λ p. p.now) c.args.climbed in
    let gs = c.loop-last.segments.items in
    let g = c.in-Some.last.now in
    let there : Some g ≡ slice_get gs (length gs - 1) = c.in-Some.ensures.value ∙ ap (λ l. slice_get l (length l - 1)) c.deref.ensures.value in
    let all = last-first m (frame r cs ss) gs g there in
    sym (ap (without q) all ∙ drops r m cs ss q g (segments_of m (frame r cs ss) (take (length gs - 1) gs)) false (sym c.is_idle.ensures ∙ c.if-not-is_idle.true) ∙ sym all) ∙ c.loop-last.invariant.same m r cs

pub loop-last-preserved-else-not-is_idle : goal.loop-last-preserved-else-not-is_idle
loop-last-preserved-else-not-is_idle c = record {
  same = λ m r cs.
      let ss = map step_of c.args.steps.now in
      let q = option_map (λ p. p.now) c.args.climbed in
      let gs = c.loop-last.segments.items in
      let g = c.in-Some.last.now in
      let there : Some g ≡ slice_get gs (length gs - 1) = c.in-Some.ensures.value ∙ ap (λ l. slice_get l (length l - 1)) c.deref.ensures.value in
      let rest : c.pop.new.self.items ≡ take (length gs - 1) gs = c.pop.ensures.rest ∙ ap (λ n. take (n - 1) gs) c.loop-last.segments.ok.0 in
      ap (λ l. without q (segments_of m (frame r cs ss) l)) rest
      ∙ sym (ap (without q) (last-first m (frame r cs ss) gs g there) ∙ drops r m cs ss q g (segments_of m (frame r cs ss) (take (length gs - 1) gs)) true (sym c.is_idle.ensures ∙ c.if-not-is_idle.false))
      ∙ c.loop-last.invariant.same m r cs;
  kept = λ p h. kept-part p c.loop-last.segments.items c.pop.new.self.items _ c.pop.ensures.items (c.loop-last.invariant.kept p h);
}
