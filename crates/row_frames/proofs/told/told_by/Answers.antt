use Rattle.std.proofs.Common.{◌∙◌, ap, map, refl}
use Rattle.edm_values.specs.Values.{seen_value}
use Rattle.row_frames.specs.Frames.{owner, place_in}
use Rattle.row_frames.specs.Told.{operated}
use Rattle.row_frames.proofs.ToldLemmas.{told-by}
use Rattle.row_frames.proofs.told.told_by.Goals as goal

pub returns : goal.returns
returns c = λ w t k.
    told-by (operated c.args.o.now) c.args.told (record { numbers = c.args.told.numbers; values = c.in_ok-values.values; null = c.applied-null.result }) refl
    (c.in_ok-values.ensures ∙ ap (λ vs. map (operated c.args.o.now) (map (λ v. seen_value v) vs)) c.as_slice.ensures.value)
    c.applied-null.ensures
    (owner c.args.leaf (place_in t.roots k))
