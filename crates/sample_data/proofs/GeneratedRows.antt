-- Worked examples of the generated world: the sequence that is drawn, and that its data files are read as it.
use Rattle.std.proofs.Common.{◌≡◌, [], ◌∷◌, map, refl, pos}
use Rattle.std.specs.Fmt.{digits}
use Rattle.std.specs.Str.{is_utf8, chars}
use Rattle.serde_json.specs.Written.{compact_text}
use Rattle.serde_json.proofs.OnLiterals.{serde_json_on_literals}
use Rattle.edm_values.specs.Values.{total}
use Rattle.edm_model.specs.SampleModel.{sample_model}
use Rattle.edm_data.specs.References.{property, entities_in}
use Rattle.edm_data.specs.DataFile.{data_tree_reading, data_reading, World'}
use Rattle.sample_data.specs.Generator.{generated_world, generated_tree, amount, buyer, drawn}

first_three : map drawn (1 ∷ 2 ∷ 3 ∷ []) ≡ 12345 ∷ 1406932606 ∷ 654583775 ∷ []
first_three = refl

first_amounts : map amount (1 ∷ 2 ∷ 3 ∷ []) ≡ 2345 ∷ 2606 ∷ 3775 ∷ []
first_amounts = refl

first_buyers : map buyer (1 ∷ 2 ∷ 3 ∷ []) ≡ 0 ∷ 4 ∷ 4 ∷ []
first_buyers = refl

generated_is_read : data_tree_reading sample_model (generated_tree 3) ≡ World' (generated_world 3)
unfolding digits
generated_is_read = refl

generated_text : data_reading sample_model (compact_text (generated_tree 2)) ≡ World' (generated_world 2)
unfolding digits serde_json_on_literals is_utf8 chars
generated_text = refl

generated_total : total (map (λ e. property (generated_world 3) e 0) (entities_in (generated_world 3) 2)) ≡ (pos 8726, 2)
generated_total = refl
