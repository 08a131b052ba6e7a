-- The rules that a walk has.
use Rattle.walk_laws.specs.Walks as spec
use Rattle.optimiser.specs.declared.rules.Rules.{Rules}
use Rattle.optimiser.specs.declared.rules.Rules.TheVariants as named

-- the rules of this name
abbrev pub rules_named : Rules → spec.Rules
rules_named named.Early = spec.Rules.Early
rules_named named.All = spec.Rules.All
