-- The text of the generated tree is a data file of the generated world.
use Rattle.std.proofs.Common.{◌≡◌, ℕ, ◌≤◌, List, length, sym, ◌∙◌, ap, subst, arith, false, Some}
use Rattle.std.specs.Str.{IsUtf8}
use Rattle.serde_json.specs.Data.{Data, depth}
use Rattle.serde_json.specs.Read.{read, max_depth}
use Rattle.serde_json.specs.Written.{compact_text, has_float}
use Rattle.edm_model.specs.SampleModel.{sample_model}
use Rattle.edm_data.specs.DataFile.{World', data_limit, data_reading, entities_in_tree, keys_reading, references_reading, with_world}
use Rattle.sample_data.specs.Generator.{generated_tree, generated_world}
use Rattle.edm_data.proofs.LoadLemmas.{with_tree}
use Rattle.sample_data.proofs.FileLengths.{file_most}
use Rattle.sample_data.proofs.GeneratedTree.{generated_depth, generated_is_read, generated_whole}

pub file_is_read : (n : ℕ) (file : List ℕ) (d : Data) → n ≤ 200000 → d ≡ generated_tree n → IsUtf8 file → (has_float d ≡ false → file ≡ compact_text d) → (depth d ≤ max_depth → read file ≡ Some d)
    → data_reading sample_model file ≡ World' (generated_world n)
file_is_read n file d few is utf8 text reads =
    let whole = ap has_float is ∙ generated_whole n in
    let short : length file ≤ data_limit = omega (arith, ap length (text whole ∙ ap compact_text is), file_most n few) in
    let shallow = subst (λ t. depth t ≤ max_depth) (sym is) (generated_depth n) in
    ap (λ r. with_world (with_world r keys_reading) references_reading) (with_tree sample_model file d short utf8 (reads shallow) ∙ ap (entities_in_tree sample_model) is)
    ∙ generated_is_read n (omega arith)
