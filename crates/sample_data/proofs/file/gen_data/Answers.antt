use Rattle.std.proofs.Common.{ap, ◌∙◌, string_bytes}
use Rattle.std.proofs.lemmas.Str.{IsUtf8-string_bytes}
use Rattle.serde_json.specs.View.{view}
use Rattle.edm_model.specs.SampleModel.{sample_model}
use Rattle.edm_data.specs.DataFile.{data_reading}
use Rattle.sample_data.proofs.GeneratedFile.{file_is_read}
use Rattle.sample_data.proofs.file.gen_data.Goals as goal

pub returns : goal.returns
returns c =
    record {
      value = let text = c.in_ok-to_string.field-0 in
          ap (λ v. data_reading sample_model v.items) c.into_bytes.ensures.value
          ∙ file_is_read c.args.n (string_bytes text) (view c.in_ok-tree.tree) c.requires.few c.in_ok-tree.ensures (IsUtf8-string_bytes text) c.in_ok-to_string.ensures.text c.in_ok-to_string.ensures.reads_back;
    }
