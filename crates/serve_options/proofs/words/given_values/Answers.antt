-- The outcome of the parse is that of the command that is stated.
use Rattle.std.proofs.Common.{◌≡◌, ◌∙◌, sym, ap, ap₂, subst, Some, []}
use Rattle.clap.specs.Words.{is_simple_and_free, fault_of, HasKind}
use Rattle.clap.specs.Matches.{found_of}
use Rattle.clap.specs.Simple.{App, is_simple, matches_of}
use Rattle.clap.specs.Walk.{rows_of}
use Rattle.serve_options.specs.Command.{serve_app, texts_of, values_in, values_unless}
use Rattle.serve_options.proofs.CommandLaws.{asked, is_free, is_plain, refused}
use Rattle.serve_options.proofs.words.given_values.Goals as goal

pub returns-in-Ok-clause-ok : goal.returns-in-Ok-clause-ok
returns-in-Ok-clause-ok c =
    let command_is = c.in_ok-command.ensures in
    let texts = texts_of c.args.words.now in
    let none : fault_of serve_app texts ≡ [] = ap (λ (a : App). fault_of a texts) (sym command_is) ∙ c.in-Ok.ensures.kinds (ap is_simple_and_free command_is ∙ is_free) in
    let rows : rows_of (found_of c.in-Ok.matches) ≡ matches_of serve_app texts = (c.in-Ok.ensures.matches (ap is_simple command_is ∙ is_plain)).0 ∙ ap (λ (a : App). matches_of a texts) command_is in
    ap₂ values_unless none (ap values_in (sym rows)) ∙ ap Some (sym c.found_values.ensures)

pub returns-in-Err-clause-err : goal.returns-in-Err-clause-err
returns-in-Err-clause-err c = λ other.
    let command_is = c.in_ok-command.ensures in
    let texts = texts_of c.args.words.now in
    let kind = c.in-Err.ensures.kinds (ap is_simple_and_free command_is ∙ is_free) in
    refused (fault_of serve_app texts) c.in-Err.error (values_in (matches_of serve_app texts))
    (subst (λ (a : App). HasKind (fault_of a texts) c.in-Err.error) command_is kind) other

pub returns-in-Err-clause-help : goal.returns-in-Err-clause-help
returns-in-Err-clause-help c = λ is_help.
    let command_is = c.in_ok-command.ensures in
    let texts = texts_of c.args.words.now in
    let kind = c.in-Err.ensures.kinds (ap is_simple_and_free command_is ∙ is_free) in
    asked (fault_of serve_app texts) c.in-Err.error (subst (λ (a : App). HasKind (fault_of a texts) c.in-Err.error) command_is kind) is_help
