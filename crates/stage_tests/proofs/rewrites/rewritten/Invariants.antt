use Rattle.edm_model.specs.LookUps.{IsSet}
use Rattle.context_typing.specs.Answers.{IsTyping}
use Rattle.context_typing.specs.Readings.{readings}
use Rattle.stage_tests.proofs.rewrites.rewritten.Given as goal

-- what was reached has a typing over the model
abbrev pub invariant-rewrites : goal.invariant-rewrites
invariant-rewrites l = IsSet l.m l.current.set × IsTyping l.m (readings l.c) l.current
