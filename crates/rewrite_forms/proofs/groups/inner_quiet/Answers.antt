use Rattle.std.proofs.Common.{◌≡◌, sym, ◌∙◌, ap, subst, Bool}
use Rattle.std.specs.Prelude.{IfOk, option_map}
use Rattle.apply_ast.specs.Views.{inner_of, pipe_of}
use Rattle.context_typing.specs.Readings.{readings}
use Rattle.context_typing.specs.Typing.{inner_quiet}
use Rattle.context_typing.proofs.TypingEquations.{inner_quiet-NoPipe, inner_quiet-SomePipe}
use Rattle.rewrite_forms.proofs.groups.inner_quiet.Goals as goal

pub returns-in-Some : goal.returns-in-Some
returns-in-Some c =
    let m = c.args.m.now in
    let cs = readings c.args.c.now in
    let S = c.args.shape.now in
    record {
      value = subst (λ (R : Bool). IfOk c.is_quiet.result (λ quiet. quiet ≡ R))
          (sym (inner_quiet-SomePipe m cs S (pipe_of c.in-Some.pipe)) ∙ ap (λ o. inner_quiet m cs S (inner_of (option_map pipe_of o))) (sym c.in-Some.is))
          c.is_quiet.ensures.value;
    }

pub returns-in-None : goal.returns-in-None
returns-in-None c =
    let m = c.args.m.now in
    let cs = readings c.args.c.now in
    let S = c.args.shape.now in
    record { value = sym (inner_quiet-NoPipe m cs S) ∙ ap (λ o. inner_quiet m cs S (inner_of (option_map pipe_of o))) (sym c.in-None.is) }
