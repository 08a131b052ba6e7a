use Rattle.context_typing.proofs.LawfulShapes.{own_is_lawful}
use Rattle.context_typing.proofs.laws.set_shape_is_lawful.Goals as goal

pub returns : goal.returns
returns c = record { value = own_is_lawful }
