use Rattle.std.proofs.Common.{[], subst}
use Rattle.std.specs.Prelude.{IfSome}
use Rattle.row_frames.specs.Hops.{Lead}
use Rattle.row_frames.proofs.TableLemmas.{behind-value}
use Rattle.row_frames.proofs.hops.property_behind.Goals as goal

pub returns-in-Some-set_property : goal.returns-in-Some-set_property
returns-in-Some-set_property c =
    let led = subst (λ o. IfSome o (λ h. Lead c.args.store.now c.args.set c.in-Some.front.now [] h.0.items h.1)) c.in-Some-2.is c.in_ok-hops.ensures.hops in
    record {
      value = behind-value c.args.store.now c.args.set c.in-Some-2.target c.args.names.now c.in-Some.front.now c.in-Some.last.now c.in-Some-2.hops.items c.in-Some-set_property.property
          c.in-Some.ensures.cases.0 led c.in-Some-set_property.ensures;
      target = led.set;
    }
