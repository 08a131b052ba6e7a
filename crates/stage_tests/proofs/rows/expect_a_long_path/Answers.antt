use Rattle.std.proofs.Common.{ap}
use Rattle.edm_data.specs.Worlds.{Entity}
use Rattle.apply_meaning.specs.Instances.{Instance}
use Rattle.stage_tests.proofs.RowFacts.{all_of, ok_value, rooted, set-typed}
use Rattle.stage_tests.proofs.rows.expect_a_long_path.Goals as goal

pub lookup-requires : goal.lookup-requires
lookup-requires g c =
    let org : Entity = record { set = c.in-Some.orgs; at = 0 } in
    rooted c.args.store.now c.in_ok-row.row org _
    (ap (λ (i : Instance). i.prefixes) (ok_value c.in_ok-row.ensures.row))
    (set-typed c.args.store.now c.model.result.now org c.model.ensures.value c.in-Some.ensures.there)
    (ap (all_of c.args.store.now) c.new.ensures.items)
