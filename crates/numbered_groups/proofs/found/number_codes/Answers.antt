use Rattle.std.proofs.Common.{subst, sym}
use Rattle.par_stages.specs.Placed.{placed}
use Rattle.numbered_groups.specs.Found.{AreFoundIn}
use Rattle.numbered_groups.proofs.FoundLemmas.{found-all}
use Rattle.numbered_groups.proofs.found.number_codes.Goals as goal

pub returns : goal.returns
returns g c = found-all c.args.codes.now _ c.len-count.result c.len-count.ensures (subst (λ s. AreFoundIn s (placed 0 c.args.codes.now)) (sym c.found.view_is) c.in_ok-found.ensures.stands)
