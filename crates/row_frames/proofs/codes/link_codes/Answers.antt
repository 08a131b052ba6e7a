use Rattle.std.proofs.Common.{◌+◌, subst}
use Rattle.std.specs.Prelude.{IfSome}
use Rattle.row_frames.specs.CodeParts.{AreCodesOf}
use Rattle.row_frames.specs.LinkCodes.{IsLinkCode}
use Rattle.row_frames.proofs.codes.link_codes.Goals as goal

pub new-requires : goal.new-requires
new-requires g c = record { below = (subst (λ o. IfSome o (λ v. AreCodesOf (IsLinkCode c.args.tables.now c.args.links.now) (c.args.count + 1) c.args.picks.now v.items)) c.in-Some.is c.in_ok-found.ensures).below }

pub returns-in-Some : goal.returns-in-Some
returns-in-Some g c = rw c.new.ensures.value (subst (λ o. IfSome o (λ v. AreCodesOf (IsLinkCode c.args.tables.now c.args.links.now) (c.args.count + 1) c.args.picks.now v.items)) c.in-Some.is c.in_ok-found.ensures).coded
