use Rattle.std.proofs.Common.{◌∙◌, ap, sym}
use Rattle.std.specs.Prelude.{find, is_some}
use Rattle.std.specs.Option.{option_copied}
use Rattle.std.proofs.lemmas.Bool.{true≢false}
use Rattle.edm_model.specs.IdLists.{custom_list}
use Rattle.context_typing.specs.Readings.{same_part}
use Rattle.custom_agg.proofs.DefinitionLemmas.{definition-is, definition-there}
use Rattle.custom_agg.proofs.definitions.definition.Goals as goal

pub unreachable-requires : goal.unreachable-requires
unreachable-requires c =
    let list = c.customs.ensures.value ∙ ap custom_list c.model.ensures.value in
    let found = c.find_custom.ensures ∙ ap (find (λ u. same_part u.id c.args.id)) list in
    true≢false (sym (definition-there c.args.store.now.model c.args.id c.requires) ∙ ap is_some (sym found ∙ ap option_copied c.in-None.is))

pub returns : goal.returns
returns c =
    let list = c.customs.ensures.value ∙ ap custom_list c.model.ensures.value in
    let found = c.find_custom.ensures ∙ ap (find (λ u. same_part u.id c.args.id)) list in
    definition-is c.args.store.now.model c.data_is_loaded.ensures.value.model c.args.id c.in-Some.custom.now (sym found ∙ ap option_copied c.in-Some.is)
