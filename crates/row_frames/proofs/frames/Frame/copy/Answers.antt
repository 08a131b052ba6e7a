use Rattle.std.proofs.Common.{◌∙◌, subst}
use Rattle.std.specs.List.{AllZip}
use Rattle.row_frames.specs.Joined.{IsShared}
use Rattle.row_frames.proofs.JoinedLemmas.{shared-all, shared-picked, shared-within}
use Rattle.row_frames.proofs.frames.Frame.copy.Goals as goal

pub invariant_of-result : goal.invariant_of-result
invariant_of-result c =
    let ts = c.self.inside.tables.items in
    let z = subst (λ l. AllZip IsShared l c.in_ok-tables.tables.items) c.as_slice.ensures.value c.in_ok-tables.ensures in (
      shared-all ts c.in_ok-tables.tables.items z c.self.invariant.0,
      shared-within ts c.in_ok-tables.tables.items c.self.inside.picks c.in_ok-picks.picks z c.in_ok-picks.ensures c.self.invariant.1,
    )

pub returns : goal.returns
returns c =
    let ts = c.self.inside.tables.items in
    let z = subst (λ l. AllZip IsShared l c.in_ok-tables.tables.items) c.as_slice.ensures.value c.in_ok-tables.ensures in
    record { value = shared-picked ts c.in_ok-tables.tables.items c.self.inside.picks c.in_ok-picks.picks z c.in_ok-picks.ensures ∙ c.self.view_is }
