use Rattle.std.proofs.Common.{rules, ◌≡◌, ap, arith, length, map}
use Rattle.join_concat.specs.Joins.{bound_rows}
use Rattle.frame_run.specs.HeldRows.{rows_of}
use Rattle.frame_run.proofs.joins.joined_lists.Goals as goal

pub returns-in_ok-made-in-Some-clause-steps : goal.returns-in_ok-made-in-Some-clause-steps
returns-in_ok-made-in-Some-clause-steps g c =
    let same : c.in_ok-made-in-Some.made ≡ bound_rows c.args.outer c.args.alias.now c.args.frame (map rows_of c.args.results.items) = search rules in
    let long = ap length same in
    omega (arith, long)
