use Rattle.std.proofs.Common.{◌+◌, subst}
use Rattle.std.specs.Prelude.{IfSome}
use Rattle.row_frames.specs.CodeParts.{AreCodesOf}
use Rattle.std.specs.Prelude.{option_map}
use Rattle.row_frames.specs.TextCodes.{IsCodeThere}
use Rattle.row_frames.proofs.text_codes.text_codes.Goals as goal

pub new-requires : goal.new-requires
new-requires g c = record { below = (subst (λ o. IfSome o (λ v. AreCodesOf (IsCodeThere c.args.table.now c.args.texts.now (option_map (λ l. l.now) c.args.links)) (c.in-Ok.null + 1) c.args.picks.now v.items)) c.in-Some.is c.in_ok-found.ensures).below }

pub returns-in-Some : goal.returns-in-Some
returns-in-Some g c = rw c.new.ensures.value (subst (λ o. IfSome o (λ v. AreCodesOf (IsCodeThere c.args.table.now c.args.texts.now (option_map (λ l. l.now) c.args.links)) (c.in-Ok.null + 1) c.args.picks.now v.items)) c.in-Some.is c.in_ok-found.ensures).coded
