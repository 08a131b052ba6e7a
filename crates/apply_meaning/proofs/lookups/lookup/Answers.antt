use Rattle.std.proofs.Common.{◌∙◌, ap, sym}
use Rattle.std.specs.Prelude.{unwrap_or, option_map}
use Rattle.edm_values.specs.declared.Value.{Value}
use Rattle.edm_values.specs.Lists.{first_some}
use Rattle.context_typing.specs.Paths.{at_path}
use Rattle.apply_meaning.specs.Instances.{prefix_value, lookup}
use Rattle.apply_meaning.proofs.lookups.lookup.Goals as goal

pub returns-in-None : goal.returns-in-None
returns-in-None c =
    record {
      value = let w = c.args.store.now in
          let i = c.args.row.now in
          let p = c.names-names.result.now in
          c.prefix_value.ensures
          ∙ ap (λ o. unwrap_or (first_some o (prefix_value w i p)) Value.Null)
          (ap (option_map (λ v. v.now)) (sym c.in-None.is) ∙ c.column_at.ensures ∙ ap (λ cs. option_map (λ x. x.1) (at_path (λ x. x.0) cs p)) c.columns.ensures.columns)
          ∙ ap (lookup w i) c.names-names.ensures.names;
    }
