-- Each step adds the rule of its option.
use Rattle.std.proofs.Common.{ap, ◌∙◌, ◌≡◌, true, codes, ℕ, List}
use Rattle.clap.specs.Simple.{App, app_of, app_of_fields, new_app, on_top, with_rule}
use Rattle.serve_options.specs.Command.{option_rule, serve_app}
use Rattle.serve_options.proofs.words.command.Goals as goal

abbrev unnamed : App → App
unnamed = on_top (λ s. record s { no_binary_name = true })

abbrev added : List ℕ → App → App
added name a = with_rule a (option_rule name)

pub returns : goal.returns
unfolding serve_app
returns c =
    let bare : app_of c.about-bare.result ≡ unnamed (new_app (codes "apply_serve")) = ap app_of_fields c.about-bare.ensures ∙ ap app_of_fields c.no_binary_name.ensures ∙ ap unnamed c.new.ensures.app in
    let model = c.in_ok-with_model.ensures ∙ ap (added (codes "model")) bare in
    let entities = c.in_ok-with_entities.ensures ∙ ap (added (codes "data")) model in
    let workers = c.in_ok-with_workers.ensures ∙ ap (added (codes "workers")) entities in
    let max_bytes = c.in_ok-with_max_bytes.ensures ∙ ap (added (codes "max-bytes")) workers in
    let plan = c.in_ok-with_plan.ensures ∙ ap (added (codes "plan")) max_bytes in
    let mode = c.in_ok-with_mode.ensures ∙ ap (added (codes "mode")) plan in
    c.in_ok-with_count.ensures ∙ ap (added (codes "count")) mode
