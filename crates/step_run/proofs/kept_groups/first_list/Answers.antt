use Rattle.std.proofs.Common.{◌∙◌, ap, map}
use Rattle.edm_values.specs.Values.{seen_value}
use Rattle.step_run.proofs.KeptSteps.{first-read}
use Rattle.step_run.proofs.kept_groups.first_list.Goals as goal

pub returns : goal.returns
returns c = λ vs read. ap (map seen_value) c.as_slice.ensures.value ∙ first-read c.args.lists.now vs c.index-lists-0.result read c.index-lists-0.is
