use Rattle.std.proofs.Common.{◌∙◌, ◌<◌, Some, false, ap, sym, length, arith}
use Rattle.apply_ast.specs.Views.{key_of}
use Rattle.apply_ast.proofs.ViewEquations.{key_of-Plain, key_of-Rollup, key_of-Recursive}
use Rattle.context_typing.specs.Grouping.{plain_of, typed_key}
use Rattle.context_typing.proofs.GroupFacts.{plain-next, plain-same, plain-missing}
use Rattle.context_typing.proofs.grouping.plain_columns.Goals as goal
use Rattle.context_typing.proofs.grouping.plain_columns.Goals.{in-Plain+in_ok-column-in-Plain+in-Some+in_ok-push-in-Some, in-Rollup, in-Recursive}

pub returns-in-None : goal.returns-in-None
returns-in-None c =
    plain-missing key_of (typed_key c.args.m.now c.args.shape.now false) c.args.keys.now c.loop-key.key-index c.key-item.result (omega arith) c.in-Plain.path
    (ap key_of (sym c.key-item.is ∙ c.in-Plain.is) ∙ key_of-Plain c.in-Plain.path) (sym c.in-None.is ∙ c.in_ok-column-in-Plain.ensures)

pub loop-key-preserved : goal.loop-key-preserved
loop-key-preserved c =
    let f = typed_key c.args.m.now c.args.shape.now false in
    let keys = c.args.keys.now in
    let i = c.loop-key.key-index in
    let d = c.key-item.result in
    let within : i < length keys = omega arith in
    elim c.match-key.branch [
      | in-Plain+in_ok-column-in-Plain+in-Some+in_ok-push-in-Some w ↦
          plain-next key_of f keys i d within w.in-Plain.path c.loop-key.columns.items w.in-Some.column (ap key_of (sym c.key-item.is ∙ w.in-Plain.is) ∙ key_of-Plain w.in-Plain.path) c.loop-key.invariant
          (sym w.in_ok-column-in-Plain.ensures ∙ w.in-Some.is) ∙ ap Some (sym (ap (λ v. v.items) w.columns-is ∙ w.in_ok-push-in-Some.ensures.items))
      | in-Rollup w ↦ plain-same key_of f keys i d within (ap plain_of (ap key_of (sym c.key-item.is ∙ w.in-Rollup.is) ∙ key_of-Rollup _ _)) ∙ c.loop-key.invariant ∙ ap (λ v. Some v.items) (sym w.columns-is)
      | in-Recursive w ↦ plain-same key_of f keys i d within (ap plain_of (ap key_of (sym c.key-item.is ∙ w.in-Recursive.is) ∙ key_of-Recursive _ _ _)) ∙ c.loop-key.invariant ∙ ap (λ v. Some v.items) (sym w.columns-is)
    ]
