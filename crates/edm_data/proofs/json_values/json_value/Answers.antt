use Rattle.std.proofs.Common.{◌≡◌, None, sym, ap, ◌∙◌, rules}
use Rattle.std.specs.Option.{option_map}
use Rattle.serde_json.specs.Find.{as_str, as_bool}
use Rattle.serde_json.specs.View.{view}
use Rattle.edm_values.specs.Values.{seen_value}
use Rattle.edm_data.specs.DataFile.{whole_value}
use Rattle.edm_data.proofs.JsonValueLemmas.{number_is, no_value}
use Rattle.edm_data.proofs.json_values.json_value.Goals as goal

pub returns-in-Some-as_i64 : goal.returns-in-Some-as_i64
returns-in-Some-as_i64 c =
    let held : option_map seen_value c.number_value.result ≡ whole_value c.args.kind c.in-Some-as_i64.n = search rules in
    held ∙ number_is c.args.kind (view c.args.value.now) c.in-Some-as_i64.n (sym c.as_i64.ensures ∙ c.in-Some-as_i64.is)

pub returns-in-None : goal.returns-in-None
returns-in-None c =
    let text : as_str (view c.args.value.now) ≡ None = sym c.as_str.ensures ∙ ap (option_map (λ s. s.now)) c.in_default.is in
    let flag : as_bool (view c.args.value.now) ≡ None = sym c.as_bool.ensures ∙ c.in_default-as_bool.is in
    sym (no_value c.args.kind (view c.args.value.now) c.requires text flag (sym c.as_i64.ensures ∙ c.in-None.is))
