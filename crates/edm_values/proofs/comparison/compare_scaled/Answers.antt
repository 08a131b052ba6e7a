-- Numbers of one scale compare by their mantissas.
use Rattle.std.proofs.Common.{rules, ◌≡◌, sym, ◌∙◌}
use Rattle.std.specs.Ordering.{int_cmp}
use Rattle.edm_values.proofs.ValueLaws.{same_scale_cmp}
use Rattle.edm_values.proofs.comparison.compare_scaled.Goals as goal

pub returns-then-s-t : goal.returns-then-s-t
returns-then-s-t c =
    let plain : c.cmp.result ≡ int_cmp c.args.m c.args.n = search rules in
    rw (← c.if-s-t.true) (plain ∙ sym (same_scale_cmp c.args.m c.args.n c.args.s))
