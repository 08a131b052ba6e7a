use Rattle.std.proofs.Common.{◌∙◌, ap}
use Rattle.std.specs.Prelude.{unwrap_or}
use Rattle.edm_schema.proofs.MemberNames.{place_among}
use Rattle.edm_model.proofs.build.property_place.Goals as goal

pub returns : goal.returns
returns c =
    let items = c.args.t.now.properties.items in
    c.unwrap_or.ensures ∙ ap (λ o. unwrap_or o 0) ((rw c.as_slice.ensures.value at c.find_named.ensures.value) ∙ place_among items _ c.args.name.now c.requires.properties)
