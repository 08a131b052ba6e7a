-- A refusal of a part is one of the whole.
use Rattle.std.proofs.Common.{◌≡◌, Option, None}
use Rattle.apply_grammar.specs.declared.refusals.ExprRefused.{ExprRefused}
use Rattle.apply_grammar.specs.declared.refusals.ExprRefused.TheVariants as expr
use Rattle.apply_grammar.specs.Gives.{Fails}

pub fails_on : {X Y : Type 0} (e : ExprRefused) {part : Option X} {whole : Option Y} → Fails e part → (part ≡ None → whole ≡ None) → Fails e whole
fails_on expr.Syntax h k = k h
fails_on expr.Memory h k = tt
