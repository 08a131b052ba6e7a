use Rattle.std.proofs.Common.{◌∙◌, ◌≡◌, take, ap, arith, length, rules}
use Rattle.std.specs.Prelude.{min}
use Rattle.std.proofs.lemmas.List.{take_min}
use Rattle.row_frames.proofs.picks.first_of.Goals as goal

pub returns : goal.returns
returns c =
    let xs = c.args.list.now in
    let most : c.min-most.result ≡ min c.args.n (length xs) = omega arith in
    let made : c.split_at.result.0.now ≡ take c.min-most.result xs = search rules in
    made ∙ ap (λ m. take m xs) most ∙ take_min c.args.n xs
