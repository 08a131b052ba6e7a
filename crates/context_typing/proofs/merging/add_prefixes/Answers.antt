use Rattle.std.proofs.Common.{◌∙◌, Some, ap, sym, arith}
use Rattle.std.specs.Prelude.{option_map, ◌==◌}
use Rattle.context_typing.specs.Paths.{at_path}
use Rattle.context_typing.proofs.MergeFacts.{prefix-refused}
use Rattle.context_typing.proofs.merging.add_prefixes.Goals as goal

pub returns-in-Some-false : goal.returns-in-Some-false
returns-in-Some-false c =
    let x = c.prefix-item.result in
    prefix-refused c.args.table.items c.args.prefixes.now c.loop-prefix.table.items c.loop-prefix.prefix-index x (omega arith) c.prefix-item.is c.loop-prefix.invariant
    (ap (λ t. option_map (λ y. y.of == x.of) (at_path (λ y. y.path) t x.path)) (sym c.deref.ensures.value) ∙ sym c.is_of_type.ensures ∙ c.in-Some-false.is ∙ ap Some c.in-Some-false.field-0-test)
