-- The product fits in 128 bits.
use Rattle.std.proofs.Common.{◌+◌, ◌^◌, ap, lit<}
use Rattle.edm_values.proofs.NumberLaws.{product_wide}
use Rattle.edm_values.proofs.numbers.product.Goals as goal

pub returns : goal.returns
returns c =
    ap (λ z. (z, c.args.a.1 + c.args.b.1)) (product_wide c.args.a.0 c.args.b.0 (2 ^ 63) (2 ^ 63) c.requires.left c.requires.right (lit< tt) (lit< tt) (lit< tt))
