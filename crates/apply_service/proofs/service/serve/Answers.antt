use Rattle.std.proofs.Common.{refl, ap, Err, string_bytes}
use Rattle.serve_options.specs.Command.{texts_of}
use Rattle.serve_options.specs.Seen.{mode_seen, settings_seen}
use Rattle.apply_service.proofs.Counts.{gen-within}
use Rattle.apply_service.proofs.Saying.{says-serve, says-check, says-gen, says-usage, says-memory}
use Rattle.apply_service.proofs.service.serve.Goals as goal

pub returns-in-Serve-clause-says : goal.returns-in-Serve-clause-says
returns-in-Serve-clause-says g c =
    says-serve _ _ _ _ _ (λ e. ap g.S.Source.left e) (λ e. ap g.K.Sink.held e) (settings_seen c.in-Ok.options) c.in-Ok.ensures.ok (string_bytes c.in-Serve.files.model) (string_bytes c.in-Serve.files.entities) (ap mode_seen c.in-Serve.is) (rw (c.as_str.ensures.value, c.as_str-in-Serve.ensures.value) at c.serve_files.ensures.says)

pub returns-in-Check-clause-says : goal.returns-in-Check-clause-says
returns-in-Check-clause-says g c =
    says-check _ _ _ _ _ (λ e. ap g.S.Source.left e) (λ e. ap g.K.Sink.held e) (settings_seen c.in-Ok.options) c.in-Ok.ensures.ok (string_bytes c.in-Check.files.model) (string_bytes c.in-Check.files.entities) (ap mode_seen c.in-Check.is) (rw (c.as_str-in-Check.ensures.value, c.as_str-in-Check-2.ensures.value) at c.check_files.ensures.says) refl refl

pub returns-in-Err-Usage-clause-says : goal.returns-in-Err-Usage-clause-says
returns-in-Err-Usage-clause-says g c =
    says-usage _ _ _ _ _ (λ e. ap g.S.Source.left e) (λ e. ap g.K.Sink.held e) refl (c.in-Err-Usage.ensures.usage (ap Err c.in-Err-Usage.field-0-is)) refl refl refl refl

pub returns-in-Err-Memory-clause-says : goal.returns-in-Err-Memory-clause-says
returns-in-Err-Memory-clause-says g c =
    says-memory _ _ _ _ _ (λ e. ap g.S.Source.left e) (λ e. ap g.K.Sink.held e) refl refl refl refl refl

pub returns-clause-says : goal.returns-clause-says
returns-clause-says g c =
    says-gen _ _ _ _ _ (λ e. ap g.S.Source.left e) (λ e. ap g.K.Sink.held e) (settings_seen c.in-Ok.options) c.in-Ok.ensures.ok c.in-Gen.count (ap mode_seen c.in-Gen.is) c.answer_generated.ensures.says refl refl

pub answer_generated-requires-clause-few : goal.answer_generated-requires-clause-few
answer_generated-requires-clause-few g c =
    λ _ _. (gen-within (texts_of c.args.words.now) (settings_seen c.in-Ok.options) c.in-Gen.count c.in-Ok.ensures.ok (ap mode_seen c.in-Gen.is)).1

pub answer_generated-requires-clause-some : goal.answer_generated-requires-clause-some
answer_generated-requires-clause-some g c =
    λ _ _. (gen-within (texts_of c.args.words.now) (settings_seen c.in-Ok.options) c.in-Gen.count c.in-Ok.ensures.ok (ap mode_seen c.in-Gen.is)).0
