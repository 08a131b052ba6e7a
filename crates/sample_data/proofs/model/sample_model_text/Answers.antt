use Rattle.edm_model.proofs.ModelRows.{sample_text}
use Rattle.sample_data.proofs.model.sample_model_text.Goals as goal

pub returns : goal.returns
returns c = record { value = sample_text }
