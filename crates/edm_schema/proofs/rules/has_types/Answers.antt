use Rattle.std.proofs.Common.{◌≡◌, true, false, length, refl, sym, ◌∙◌, ap, subst, arith, rules}
use Rattle.edm_schema.specs.ModelTrees.{is_type, type_tree, type_members}
use Rattle.edm_schema.specs.MemberLists.{root_of, type_seen, IsTypeTree}
use Rattle.edm_schema.proofs.Counted.{all_places_at, all_places_more}
use Rattle.edm_schema.proofs.Mapped.{length-mapped}
use Rattle.edm_schema.proofs.SchemaParts.{tree_at}
use Rattle.edm_schema.proofs.rules.has_types.Goals as goal

pub is_type-requires-clause-t : goal.is_type-requires-clause-t
is_type-requires-clause-t c = subst IsTypeTree (sym c.index.ensures) (c.requires.each c.loop-k.k c.index.result.now (omega (arith, c.len-k-end.ensures)))

pub returns-then-not-is_type : goal.returns-then-not-is_type
returns-then-not-is_type c =
    let d = root_of c.args.schema.now in
    let fails : c.is_type.result ≡ false = search rules in
    let within = c.loop-k-test.true in
    let size = sym (length-mapped type_seen c.args.schema.now.types.items) ∙ ap length c.requires.types in
    let tree = tree_at c.args.schema.now c.requires c.loop-k.k c.index.result.now c.index.ensures (omega (arith, c.len-k-end.ensures)) in
    sym (all_places_at (λ k. is_type d k (type_tree d k)) (length (type_members d)) c.loop-k.k (omega (arith, c.len-k-end.ensures, size)) (ap (is_type d c.loop-k.k) (sym tree) ∙ (sym c.is_type.ensures ∙ fails)))

pub loop-k-preserved : goal.loop-k-preserved
loop-k-preserved c =
    let d = root_of c.args.schema.now in
    let holds : c.is_type.result ≡ true = search rules in
    let tree = tree_at c.args.schema.now c.requires c.loop-k.k c.index.result.now c.index.ensures (omega (arith, c.len-k-end.ensures)) in
    let here : is_type d c.loop-k.k (type_tree d c.loop-k.k) ≡ true = ap (is_type d c.loop-k.k) (sym tree) ∙ (sym c.is_type.ensures ∙ holds) in
    all_places_more (λ k. is_type d k (type_tree d k)) c.loop-k.k ∙ rw (c.loop-k.invariant, here) refl
