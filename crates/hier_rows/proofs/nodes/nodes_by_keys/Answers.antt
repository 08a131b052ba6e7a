use Rattle.std.proofs.Common.{ℕ, ◌+◌, ◌∙◌, List, Option, ap, length, map, subst, sym, arith}
use Rattle.std.specs.List.{list_any}
use Rattle.std.proofs.lemmas.List.{length-map}
use Rattle.edm_values.specs.declared.Seen.{Seen}
use Rattle.edm_values.specs.Values.{is_beyond, seen_value}
use Rattle.edm_data.specs.References.{count}
use Rattle.apply_meaning.specs.Instances.{lookup}
use Rattle.hier_rows.specs.HierRows.{AreOptionsBelow}
use Rattle.hier_rows.proofs.NodeLaws.{nodes-within}
use Rattle.hier_rows.proofs.KeyNodes.{AreLeft, next-key, no-key, nodes-of-keys}
use Rattle.hier_rows.proofs.nodes.nodes_by_keys.Goals as goal

pub root-requires : goal.root-requires
root-requires c =
    let long = sym (length-map c.args.keys.now (λ (v : Seen). seen_value v)) ∙ ap length c.requires.keys ∙ length-map c.args.list.now (λ i. lookup c.args.store.now i c.args.path.now) in
    omega (arith, long, c.loop-k-test.true)

pub loop-k-preserved : goal.loop-k-preserved
loop-k-preserved c =
    let w = c.args.store.now in
    let keys = c.args.keys.now in
    let made = c.in_ok-node_by.ensures in
    subst (λ got. AreLeft w c.args.set keys got (c.loop-k.k + 1)) (sym {A = List (Option ℕ)} c.in_ok-push.ensures.items)
    (next-key w c.args.set keys c.loop-k.nodes.items c.loop-k.k c.index-keys-k.result c.in_ok-node_by.field-0 c.loop-k-test.true c.index-keys-k.is made.0 made.1 c.loop-k.invariant)

pub returns-clause-nodes : goal.returns-clause-nodes
returns-clause-nodes c =
    let w = c.args.store.now in
    let end = no-key w c.args.set c.args.keys.now c.loop-k.nodes.items c.loop-k.k (omega (arith, c.loop-k-test.false)) c.loop-k.invariant in
    (end.0 ∙ nodes-of-keys w c.args.set c.args.path.now c.args.list.now (map (λ (v : Seen). seen_value v) c.args.keys.now) c.requires.keys, ap (list_any is_beyond) (sym c.requires.keys) ∙ end.1)

pub returns-clause-within : goal.returns-clause-within
returns-clause-within c =
    let w = c.args.store.now in
    let end = no-key w c.args.set c.args.keys.now c.loop-k.nodes.items c.loop-k.k (omega (arith, c.loop-k-test.false)) c.loop-k.invariant in
    subst (AreOptionsBelow (count w c.args.set)) (sym (end.0 ∙ nodes-of-keys w c.args.set c.args.path.now c.args.list.now (map (λ (v : Seen). seen_value v) c.args.keys.now) c.requires.keys)) (nodes-within w c.args.set c.args.path.now c.args.list.now)
