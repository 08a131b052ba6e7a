use Rattle.context_typing.proofs.TypingLaw.{typing_keeps_lawful}
use Rattle.context_typing.proofs.laws.typing_keeps_lawful.Goals as goal

pub returns : goal.returns
returns c = record { value = typing_keeps_lawful }
