-- Each getter reads the first value of its option.
use Rattle.std.proofs.Common.{◌∙◌}
use Rattle.clap.specs.Matches.{found_of}
use Rattle.clap.proofs.WalkLemmas.{first_value-rows}
use Rattle.serve_options.proofs.words.found_values.Goals as goal

pub returns : goal.returns
returns c =
    let model = c.get_str.ensures ∙ first_value-rows (found_of c.args.matches.now) _ in
    let entities = c.get_str-2.ensures ∙ first_value-rows (found_of c.args.matches.now) _ in
    let workers = c.get_str-3.ensures ∙ first_value-rows (found_of c.args.matches.now) _ in
    let max_bytes = c.get_str-4.ensures ∙ first_value-rows (found_of c.args.matches.now) _ in
    let plan = c.get_str-5.ensures ∙ first_value-rows (found_of c.args.matches.now) _ in
    let mode = c.get_str-6.ensures ∙ first_value-rows (found_of c.args.matches.now) _ in
    let count = c.get_str-7.ensures ∙ first_value-rows (found_of c.args.matches.now) _ in
    λ i. record { model = model i; data_file = entities i; workers = workers i; max_bytes = max_bytes i; plan = plan i; mode = mode i; count = count i }
