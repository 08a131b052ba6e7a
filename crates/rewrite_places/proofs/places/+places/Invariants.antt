use Rattle.std.proofs.Common.{◌≡◌, true, false, map, take, drop}
use Rattle.std.specs.Prelude.{is_none}
use Rattle.std.specs.List.{list_all}
use Rattle.apply_ast.specs.Views.{key_of, pipe_of, step_of}
use Rattle.context_typing.specs.Readings.{readings}
use Rattle.rewrite_places.specs.Places.{first_in_key, first_in_pipe}
use Rattle.rewrite_rules.specs.RuleNames.{rule_of}
use Rattle.rewrite_places.proofs.FirstPlaces.{Walked}
use Rattle.rewrite_places.proofs.places.+places.Given as goal

-- no key so far has a place
abbrev pub invariant-in_keys-loop-i : goal.invariant-in_keys-loop-i
invariant-in_keys-loop-i l = list_all (λ k. is_none (first_in_key (rule_of l.rule) l.m (readings l.c) (key_of k))) (take l.i l.all) ≡ true

-- no branch so far has a place
abbrev pub invariant-in_branches-loop-i : goal.invariant-in_branches-loop-i
invariant-in_branches-loop-i l = list_all (λ p. is_none (first_in_pipe (rule_of l.rule) l.m (readings l.c) l.shape false (pipe_of p))) (take l.i l.all) ≡ true

-- no step so far has a place
abbrev pub invariant-in_pipe-loop-i : goal.invariant-in_pipe-loop-i
invariant-in_pipe-loop-i l = Walked (rule_of l.rule) l.m (readings l.c) l.start (map step_of (take l.i l.steps)) (map step_of (drop l.i l.steps))
