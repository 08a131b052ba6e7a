use Rattle.std.proofs.Common.{◌≡◌, ◌<◌, ◌∙◌, ℕ, ap, sym, subst, get_or, length, map, IsTrue, arith}
use Rattle.std.specs.Prelude.{All, nat_lt}
use Rattle.std.specs.Global.{Vec}
use Rattle.std.specs.List.{list_all}
use Rattle.std.proofs.lemmas.List.{get_or_default}
use Rattle.std.proofs.lemmas.Result.{err_from_is_err_and}
use Rattle.edm_values.specs.Lists.{at_places}
use Rattle.apply_ast.specs.Trees.{pipe}
use Rattle.apply_ast.specs.Views.{step_of}
use Rattle.context_typing.specs.Readings.{readings}
use Rattle.context_typing.specs.Shapes.{Shape}
use Rattle.context_typing.specs.Typing.{no_shape}
use Rattle.apply_meaning.specs.Meaning.{mean}
use Rattle.step_run.proofs.KeptSteps.{all-kept, group-runs, head-within, kept-err, member-at, member-within, more-kept, next-kept, refused-group}
use Rattle.step_run.proofs.kept_groups.kept_of.Goals as goal

pub kept_places-requires-clause-within : goal.kept_places-requires-clause-within
kept_places-requires-clause-within g c κs within =
    let n = c.args.groups.now in
    let l = c.args.rows.now in
    let test = c.loop-k-test.true in
    let counted = c.len-k-end.ensures.value in
    let own = c.as_slice-own.ensures.value ∙ member-at c.as_slice-members.result.now n.numbers (length n.firsts) c.loop-k.k c.index-members-k.result (ap (map (λ (v : Vec ℕ). v.items)) c.as_slice-members.ensures.value ∙ c.in_ok-members.ensures.lists) (omega (arith, test, counted)) c.index-members-k.is in
    subst (λ ks. IsTrue (list_all (λ k. nat_lt k (length l)) ks)) (sym own) (member-within c.args.context.now.world c.args.paths.now l n c.requires.numbered c.loop-k.k)

pub returns-in_err-own-clause-mean : goal.returns-in_err-own-clause-mean
returns-in_err-own-clause-mean g c = λ S G R.
    let w = c.args.context.now.world in
    let ks = c.args.paths.now in
    let n = c.args.groups.now in
    let l = c.args.rows.now in
    let F = mean w (readings c.args.context.now.customs) S (pipe (map step_of c.args.steps.now)) in
    let k = c.loop-k.k in
    let test = c.loop-k-test.true in
    let counted = c.len-k-end.ensures.value in
    let h : k < length n.firsts = omega (arith, test, counted) in
    let there = subst (λ fs. All (λ f. f < length n.numbers) fs) c.firsts-firsts.ensures.value c.firsts-firsts.ensures.there in
    let own = c.as_slice-own.ensures.value ∙ member-at c.as_slice-members.result.now n.numbers (length n.firsts) k c.index-members-k.result (ap (map (λ (v : Vec ℕ). v.items)) c.as_slice-members.ensures.value ∙ c.in_ok-members.ensures.lists) h c.index-members-k.is in
    let p = err_from_is_err_and c.from_residual-in_err-own.result c.from_residual-in_err-own.ensures.1 in
    rw (p.1, p.2) (kept-err c.in_err-own.field-0.0 w ks l (F (at_places l c.as_slice-own.result.now)) _ (c.in_err-own.ensures.mean S G (group-runs c.as_slice-own.result.now R))
    (λ none. refused-group w ks l n c.requires.numbered there F k h c.loop-k.kept c.as_slice-own.result.now _ own none (c.loop-k.invariant.3 S G R)))

pub loop-k-preserved : goal.loop-k-preserved
loop-k-preserved g c =
    let w = c.args.context.now.world in
    let ks = c.args.paths.now in
    let n = c.args.groups.now in
    let l = c.args.rows.now in
    let k = c.loop-k.k in
    let test = c.loop-k-test.true in
    let counted = c.len-k-end.ensures.value in
    let h : k < length n.firsts = omega (arith, test, counted) in
    let there = subst (λ fs. All (λ f. f < length n.numbers) fs) c.firsts-firsts.ensures.value c.firsts-firsts.ensures.there in
    let own = c.as_slice-own.ensures.value ∙ member-at c.as_slice-members.result.now n.numbers (length n.firsts) k c.index-members-k.result (ap (map (λ (v : Vec ℕ). v.items)) c.as_slice-members.ensures.value ∙ c.in_ok-members.ensures.lists) h c.index-members-k.is in
    let first = get_or c.firsts-firsts.result.now k 0 in
    let is : first ≡ get_or n.firsts k first = ap (λ fs. get_or fs k 0) c.firsts-firsts.ensures.value ∙ get_or_default n.firsts k 0 first h in
    let F = λ (S : Shape). mean w (readings c.args.context.now.customs) S (pipe (map step_of c.args.steps.now)) in
    let m = more-kept (length l) first c.loop-k.kept c.in_ok-kept.kept c.in_ok-own.own.items (head-within w ks l n c.requires.numbered there (F no_shape) k h first is) c.in_ok-own.ensures.within c.in_ok-kept.ensures.places c.in_ok-kept.ensures.heads c.loop-k.invariant.0 c.loop-k.invariant.1 c.loop-k.invariant.2 in (
      m.0,
      m.1,
      m.2,
      λ S G R. next-kept w ks l n c.requires.numbered there (F S) k h c.loop-k.kept c.in_ok-kept.kept c.as_slice-own.result.now c.in_ok-own.own.items first _ c.loop-k.invariant.2 own is
          (c.in_ok-own.ensures.mean S G (group-runs c.as_slice-own.result.now R)) c.in_ok-own.ensures.within c.in_ok-kept.ensures.places c.in_ok-kept.ensures.heads (c.loop-k.invariant.3 S G R),
    )

pub returns-clause-mean : goal.returns-clause-mean
returns-clause-mean g c = λ S G R.
    let w = c.args.context.now.world in
    let n = c.args.groups.now in
    let test = c.loop-k-test.false in
    let counted = c.len-k-end.ensures.value in
    all-kept w c.args.paths.now c.args.rows.now n c.requires.numbered (mean w (readings c.args.context.now.customs) S (pipe (map step_of c.args.steps.now))) c.loop-k.k c.loop-k.kept _ (omega (arith, test, counted)) (c.loop-k.invariant.3 S G R)
