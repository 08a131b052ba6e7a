use Rattle.std.proofs.Common.{◌∙◌, sym}
use Rattle.edm_values.proofs.OptionFacts.{some_value}
use Rattle.context_typing.proofs.laws.one_shape.Goals as goal

pub returns : goal.returns
returns c = record { value = λ m cs S S' S'' p h k. some_value (sym h.1 ∙ k.1) }
