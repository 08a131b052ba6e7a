use Rattle.std.proofs.Common.{◌≡◌, ◌∙◌, ◌<◌, ◌≤◌, ◌∷◌, ◌++◌, [], ℕ, List, ap, arith, length, map, slice_index, subst, sym, Option}
use Rattle.edm_values.specs.declared.Value.{Value}
use Rattle.std.specs.Prelude.{All}
use Rattle.aggregate_ops.specs.KeyTables.{IsWide}
use Rattle.aggregate_ops.proofs.KeyGroups.{wide-lists}
use Rattle.rollup_rec.specs.Rollups.{groups_under, width_of}
use Rattle.rollup_rec.proofs.RollLaws.{rolled_with, rolled_without}
use Rattle.rollup_rec.proofs.rollups.roll.Goals as goal
use Rattle.rollup_rec.proofs.rollups.roll.Goals.{then-len-gt0+in_ok-push, else-len-gt0}

pub groups_under-requires-clause-width : goal.groups_under-requires-clause-width
groups_under-requires-clause-width g c κs within =
    let keys = c.args.keys.now in
    let wide = wide-lists (width_of keys) keys c.requires.width in
    let P : List (List Value) → Type 0 = λ ks. All (IsWide (width_of keys)) ks in
    subst (λ n. All (IsWide n) c.as_slice-hashed.result.now) (sym c.width_of-width.ensures) (subst P (sym (c.as_slice-hashed.ensures.value ∙ c.in_ok-hashed.ensures.value)) wide)

pub loop-node-preserved : goal.loop-node-preserved
loop-node-preserved g c =
    let parents : List (Option ℕ) = c.args.x.now in
    let nodes : List (Option ℕ) = c.args.nodes.now in
    let lists : List (List Value) = map (λ k. k.items) c.args.keys.now in
    let shown : List ℕ = c.args.shown.now in
    let i : ℕ = c.loop-node.node-index in
    let there : i < length shown = omega arith in
    let node : ℕ = slice_index shown i in
    let found : c.in_ok-groups.groups ≡ groups_under parents nodes lists node =
    c.in_ok-groups.ensures ∙ (λ i. groups_under (c.in_ok-rows.ensures.parents i) (c.in_ok-rows.ensures.nodes i) ((c.as_slice-hashed.ensures.value ∙ c.in_ok-hashed.ensures.value) i) node) in
    let long : c.len.result ≡ length (groups_under parents nodes lists node) = c.len.ensures.value ∙ ap length found in
    elim c.if-len-gt0.branch [
      | then-len-gt0+in_ok-push w ↦
          let some : 0 < length (groups_under parents nodes lists node) = omega arith in
          ap (λ v. v.items) w.rolled-is ∙ w.in_ok-push.ensures.items ∙ (λ j. c.loop-node.invariant j ++ (node, found j) ∷ []) ∙ sym (rolled_with parents nodes lists shown i there some)
      | else-len-gt0 w ↦
          let none : length (groups_under parents nodes lists node) ≤ 0 = omega arith in
          ap (λ v. v.items) w.rolled-is ∙ c.loop-node.invariant ∙ sym (rolled_without parents nodes lists shown i there none)
    ]
