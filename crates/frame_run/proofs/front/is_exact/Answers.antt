use Rattle.std.proofs.Common.{subst, sym}
use Rattle.edm_values.specs.Values.{seen_value}
use Rattle.edm_values.specs.declared.Seen.{Seen}
use Rattle.frame_run.specs.Front.{IsSought}
use Rattle.frame_run.proofs.FrontLemmas.{text-sought}
use Rattle.frame_run.proofs.front.is_exact.Goals as goal

pub returns-in-Text : goal.returns-in-Text
returns-in-Text c = λ e x k h. subst (λ (v : Seen). IsSought (seen_value v) x) (sym c.in-Text.is) (text-sought c.in-Text.field-0.now x h)
