use Rattle.std.proofs.Common.{arith, subst, sym}
use Rattle.row_frames.specs.Hops.{Lead}
use Rattle.row_frames.proofs.HopLemmas.{lead-all, lead-more, lead-none}
use Rattle.row_frames.proofs.hops.hops_over.Goals as goal

pub loop-name-init : goal.loop-name-init
loop-name-init c = (subst (λ ns. Lead c.args.store.now c.args.set c.args.names.now c.args.names.now ns c.args.set) (sym c.in_ok-hops.ensures.items) (lead-none c.args.store.now c.args.set c.args.names.now), c.requires)

pub hop-requires : goal.hop-requires
hop-requires c = c.loop-name.invariant.1

pub loop-name-preserved : goal.loop-name-preserved
loop-name-preserved c = (
  lead-more c.args.store.now c.args.set c.loop-name.at _ c.args.names.now c.loop-name.name-index c.name-item.result _ c.loop-name.hops.items c.push.new.self.items c.loop-name.invariant.0 c.loop-name-test.true c.name-item.is
      c.in-Some.ensures.hop c.in_ok-push.ensures.items,
  c.in-Some.ensures.there,
)

pub returns-clause-hops : goal.returns-clause-hops
returns-clause-hops c = lead-all c.args.store.now c.args.set c.loop-name.at c.args.names.now c.loop-name.name-index c.loop-name.hops.items c.loop-name.invariant.0 (omega arith)

pub returns-clause-there : goal.returns-clause-there
returns-clause-there c = c.loop-name.invariant.1
