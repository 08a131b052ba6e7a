use Rattle.std.proofs.Common.{◌≡◌, false, length, sym, ◌∙◌, ap, subst, arith, rules}
use Rattle.std.specs.List.{list_all}
use Rattle.std.proofs.lemmas.List.{take_all}
use Rattle.std.proofs.lemmas.List.Folds.{list_all_at}
use Rattle.edm_schema.specs.JsonTrees as tree
use Rattle.edm_schema.specs.ModelTrees.{has_simple_parts}
use Rattle.edm_schema.specs.MemberLists.{tree_of, IsTypeTree}
use Rattle.edm_schema.specs.declared.schema.TypeTree.{TypeTree}
use Rattle.edm_schema.proofs.RuleFacts.{all_types_pass}
use Rattle.edm_schema.proofs.rules.have_simple_parts.Goals as goal

pub has_simple_parts-requires : goal.has_simple_parts-requires
has_simple_parts-requires c =
    let items = c.deref-t-items.ensures.value in
    subst IsTypeTree (sym (rw items at c.t-item.is)) (c.requires.each c.loop-t.t-index c.t-item.result (rw items at c.loop-t-test.true))

pub returns-then-not-has_simple_parts : goal.returns-then-not-has_simple_parts
returns-then-not-has_simple_parts c =
    let types = c.args.schema.now.types.items in
    let items = c.deref-t-items.ensures.value in
    let simple = λ (t : TypeTree). has_simple_parts (tree_of t) in
    let fails : c.has_simple_parts.result ≡ false = search rules in
    let here = ap simple (sym (rw items at c.t-item.is)) ∙ (sym c.has_simple_parts.ensures ∙ fails) in
    sym (sym (all_types_pass (λ (m : tree.Member). has_simple_parts m.1) types _ c.requires.types) ∙ list_all_at simple types c.loop-t.t-index c.t-item.result (rw items at c.loop-t-test.true) here)

pub returns : goal.returns
returns c =
    let types = c.args.schema.now.types.items in
    sym c.loop-t.invariant
    ∙ (ap (list_all (λ (t : TypeTree). has_simple_parts (tree_of t))) (take_all c.loop-t.t-index types (omega (arith, c.deref-t-items.ensures.len, ap length c.deref-t-items.ensures.value)))
    ∙ all_types_pass (λ (m : tree.Member). has_simple_parts m.1) types _ c.requires.types)
