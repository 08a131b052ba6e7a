use Rattle.std.proofs.Common.{sym, ◌∙◌, ◌∷◌, ◌++◌, [], map}
use Rattle.std.specs.Prelude.{option_map}
use Rattle.apply_ast.specs.Views.{hier_of, inner_of, key_of, pipe_of}
use Rattle.context_typing.specs.Readings.{readings}
use Rattle.optimiser.proofs.HeadLemmas.{nodes-enter, nodes-none}
use Rattle.optimiser.proofs.heads.nodes_entry.Goals as goal

pub returns-in_ok-push-in-Some-2-clause-value : goal.returns-in_ok-push-in-Some-2-clause-value
returns-in_ok-push-in-Some-2-clause-value c =
    nodes-enter c.args.m.now (readings c.args.c.now) (map key_of c.args.keys.now) c.args.may (hier_of c.in-Some.hier.now) c.in-Some.path.now (inner_of (option_map pipe_of c.in-Some.chosen.now)) c.in-Some-2.shape c.in-Some-2.key c.push.new.self.items
    c.if-not-may.false c.in-Some.ensures.value (sym c.in-Some-2.is ∙ c.in_ok-shape-in-Some.ensures.value)
    (c.in_ok-push-in-Some-2.ensures.items ∙ (λ i. c.new-paths.ensures.items i ++ c.in_ok-copy-in-Some-2.ensures.value i ∷ []))

pub returns-in-None-clause-value : goal.returns-in-None-clause-value
returns-in-None-clause-value c = nodes-none c.args.m.now (readings c.args.c.now) (map key_of c.args.keys.now) c.args.may c.if-not-may.false c.in-None.ensures.value
