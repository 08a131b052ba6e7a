use Rattle.std.proofs.Common.{◌≡◌, true, false, None, refl, sym, ◌∙◌}
use Rattle.std.proofs.lemmas.Bool.{false≢true}
use Rattle.std.specs.Prelude.{if◌then◌else◌}
use Rattle.std.specs.Str.{is_utf8}
use Rattle.std.proofs.lemmas.Str.{IsUtf8-from_is_utf8, is_utf8-from_IsUtf8}
use Rattle.serde_json.specs.Read.{read}
use Rattle.edm_model.proofs.read.parse.Goals as goal

pub returns-in-Ok-clause-ok : goal.returns-in-Ok-clause-ok
returns-in-Ok-clause-ok c = rw (is_utf8-from_IsUtf8 c.args.file.now c.in-Ok.ensures.ok.0) c.in-Ok.ensures.ok.1

pub returns-else-is_memory-clause-json : goal.returns-else-is_memory-clause-json
returns-else-is_memory-clause-json c =
    λ _. elim (is_utf8 c.args.file.now) as (λ b. is_utf8 c.args.file.now ≡ b → (if b then read c.args.file.now else None) ≡ None) [
      | true ↦ λ e. c.in-Err.ensures.err (λ m. false≢true (sym c.if-is_memory.false ∙ c.is_memory.ensures.1 m)) (IsUtf8-from_is_utf8 c.args.file.now e)
      | false ↦ λ e. refl
    ] refl
