use Rattle.std.proofs.Common.{◌∙◌, ◌≡◌, drop, ap, arith, length, rules}
use Rattle.std.specs.Prelude.{min}
use Rattle.std.proofs.lemmas.List.{drop_min}
use Rattle.row_frames.proofs.picks.later_of.Goals as goal

pub returns : goal.returns
returns c =
    let xs = c.args.list.now in
    let most : c.min-most.result ≡ min c.args.n (length xs) = omega arith in
    let made : c.split_at.result.1.now ≡ drop c.min-most.result xs = search rules in
    made ∙ ap (λ m. drop m xs) most ∙ drop_min c.args.n xs
