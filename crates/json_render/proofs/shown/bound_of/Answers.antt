use Rattle.std.proofs.Common.{◌∙◌, ap, sym}
use Rattle.apply_meaning.specs.Instances.{root_of}
use Rattle.json_render.specs.RowTexts.{bound_at}
use Rattle.json_render.proofs.SlotLemmas.{bound-root}
use Rattle.json_render.proofs.shown.bound_of.Goals as goal

pub returns-in-Some : goal.returns-in-Some
returns-in-Some c =
    bound-root c.args.row.now (root_of c.args.row.now) c.prefixes-prefixes.result.now c.in-Some.root c.prefixes-prefixes.ensures.prefixes (sym c.root.ensures.value ∙ c.in-Some.is)
    ∙ ap (bound_at c.args.row.now) (sym c.if-k-eq0.true)
