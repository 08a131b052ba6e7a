use Rattle.std.proofs.Common.{◌≡◌, ◌≤◌, length, sym, subst, ◌∙◌}
use Rattle.std.proofs.lemmas.Bool.{false≢true}
use Rattle.serde_json.specs.View.{view}
use Rattle.edm_data.specs.DataFile.{entities_reading, entities_in_tree, data_limit, World'}
use Rattle.edm_data.specs.Refusals.{Tells}
use Rattle.edm_data.proofs.KeyedLemmas.{IfOk-then}
use Rattle.edm_data.proofs.LoadLemmas.{with_tree, with_no_tree, IfErr-then}
use Rattle.edm_data.proofs.load.read_entities.Goals as goal

pub returns-in-Err-clause-refused : goal.returns-in-Err-clause-refused
returns-in-Err-clause-refused c =
    let within : length c.args.bytes.now ≤ data_limit = c.if-bytes-gt-DATA_LIMIT.false in
    with_no_tree c.args.model c.args.bytes.now within (c.in-Err.ensures.err (λ memory. false≢true (sym c.if-is_memory.false ∙ c.is_memory.ensures.1 memory)))

pub returns-clause-ok : goal.returns-clause-ok
returns-clause-ok c =
    let m = c.args.model in
    let d = view c.in-Ok.root in
    let within : length c.args.bytes.now ≤ data_limit = c.if-bytes-gt-DATA_LIMIT.false in
    let tree = with_tree m c.args.bytes.now d within c.in-Ok.ensures.ok.0 c.in-Ok.ensures.ok.1 in
    IfOk-then c.read_tables.result (λ tables. entities_in_tree m d ≡ World' tables) (λ tables. entities_reading m c.args.bytes.now ≡ World' tables) (λ tables is. tree ∙ is) c.read_tables.ensures.ok

pub returns-clause-refused : goal.returns-clause-refused
returns-clause-refused c =
    let m = c.args.model in
    let d = view c.in-Ok.root in
    let within : length c.args.bytes.now ≤ data_limit = c.if-bytes-gt-DATA_LIMIT.false in
    let tree = with_tree m c.args.bytes.now d within c.in-Ok.ensures.ok.0 c.in-Ok.ensures.ok.1 in
    IfErr-then c.read_tables.result (λ refused. Tells refused (entities_in_tree m d)) (λ refused. Tells refused (entities_reading m c.args.bytes.now)) (λ refused tells. subst (Tells refused) (sym tree) tells) c.read_tables.ensures.refused
