use Rattle.std.proofs.Common.{◌≡◌, ℕ, List, None, Some, arith, subst}
use Rattle.std.specs.declared.option.Option.{Option}
use Rattle.std.proofs.lemmas.Result.{IfOk-weaker}
use Rattle.edm_model.specs.LookUps.{set_name}
use Rattle.edm_data.specs.Worlds.{World}
use Rattle.context_typing.specs.Readings.{readings}
use Rattle.frame_run.specs.HeldRows.{rows_of}
use Rattle.json_render.specs.Bodies.{body}
use Rattle.apply_replies.proofs.Responding.{body-of_plan}
use Rattle.apply_replies.proofs.replies.body_of.Goals as goal

pub run_unmade-requires-clause-typed : goal.run_unmade-requires-clause-typed
run_unmade-requires-clause-typed g c = λ _ _. rw c.data.ensures.value c.customs.ensures.typed

pub run_unmade-requires-clause-customs : goal.run_unmade-requires-clause-customs
run_unmade-requires-clause-customs g c = λ _ _. rw c.data.ensures.value c.customs.ensures.whole

pub run_unmade-requires-clause-plan : goal.run_unmade-requires-clause-plan
run_unmade-requires-clause-plan g c = λ _ _. rw (c.data.ensures.value, c.customs.ensures.value) c.requires.plan

pub run_unmade-requires-clause-set : goal.run_unmade-requires-clause-set
run_unmade-requires-clause-set g c = λ _ _. rw c.data.ensures.value c.requires.set

pub run_unmade-requires-clause-ready : goal.run_unmade-requires-clause-ready
run_unmade-requires-clause-ready g c = λ _ _. rw (c.data.ensures.value, c.hiers.ensures.value) c.requires.ready

pub rows_fit-requires-clause-mean : goal.rows_fit-requires-clause-mean
rows_fit-requires-clause-mean g c = rw (c.data.ensures.value, c.customs.ensures.value) at c.in_ok-held.ensures.mean

pub held_body-requires-clause-set : goal.held_body-requires-clause-set
held_body-requires-clause-set g c = λ _ _. rw (c.data-2.ensures.value, c.typed-typed.ensures.value) c.rows_fit.ensures.set

pub returns-in_err-held-clause-steps : goal.returns-in_err-held-clause-steps
returns-in_err-held-clause-steps g c = let spent = rw (c.data.ensures.value, c.customs.ensures.value) at c.run_unmade.ensures.steps in omega (arith, spent)

pub returns-clause-steps : goal.returns-clause-steps
returns-clause-steps g c = let spent = rw (c.data.ensures.value, c.customs.ensures.value) at c.run_unmade.ensures.steps in omega (arith, spent)

pub returns-clause-ok : goal.returns-clause-ok
returns-clause-ok g c =
    let w = c.args.store.now.world in
    let t = c.typed-typed.result.now in
    let l = rows_of c.in_ok-held.held in
    let P : Option (List ℕ) → World → Type 0 = λ b x. body x (set_name x.model t.set) t.shape l ≡ b in
    IfOk-weaker c.held_body.result _ _ (λ b h.
    body-of_plan w (readings c.args.store.now.customs) c.args.plan.now t l (Some b.items) c.requires.plan c.typed-typed.ensures.value
    (rw (c.data.ensures.value, c.customs.ensures.value) at c.in_ok-held.ensures.mean) (subst (P (Some b.items)) c.data-2.ensures.value h))
    c.held_body.ensures.ok

pub returns-clause-range : goal.returns-clause-range
returns-clause-range g c = λ refused.
    let w = c.args.store.now.world in
    let t = c.typed-typed.result.now in
    let l = rows_of c.in_ok-held.held in
    let P : World → Type 0 = λ x. body x (set_name x.model t.set) t.shape l ≡ None in
    body-of_plan w (readings c.args.store.now.customs) c.args.plan.now t l None c.requires.plan c.typed-typed.ensures.value
    (rw (c.data.ensures.value, c.customs.ensures.value) at c.in_ok-held.ensures.mean) (subst P c.data-2.ensures.value (c.held_body.ensures.range refused))
