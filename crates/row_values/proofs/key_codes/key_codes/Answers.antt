use Rattle.std.proofs.Common.{rules, ◌≡◌, ◌∙◌, ◌+◌, ◌||◌, ◌∷◌, [], ap, arith, length, length-append, sym}
use Rattle.std.specs.Prelude.{flat_map}
use Rattle.std.specs.List.{list_any}
use Rattle.std.proofs.lemmas.List.{take_all}
use Rattle.edm_values.specs.Values.{is_beyond}
use Rattle.row_frames.specs.Keys.{key_column}
use Rattle.row_values.proofs.KeyCodeLemmas.{keys-coded, more-beyond, more-codes, or-false, or-true}
use Rattle.row_values.proofs.key_codes.key_codes.Goals as goal
use Rattle.row_values.proofs.key_codes.key_codes.Goals.{then-past, else-past}

pub loop-path-preserved : goal.loop-path-preserved
loop-path-preserved g c =
    let w = c.args.store.now in
    let ps = c.args.paths.now in
    let l = c.args.list.now in
    let n = c.loop-path.path-index in
    let there = c.loop-path-test.true in
    let beyond : c.if-past.beyond ≡ (c.loop-path.beyond || c.in_ok-codes.past) = elim c.if-past.branch [
      | then-past x ↦ x.beyond-is ∙ or-true c.loop-path.beyond ∙ ap (λ b. c.loop-path.beyond || b) (sym x.if-past.true)
      | else-past x ↦ x.beyond-is ∙ or-false c.loop-path.beyond ∙ ap (λ b. c.loop-path.beyond || b) (sym x.if-past.false)
    ] in
    record {
      size = ap length c.in_ok-push.ensures.items ∙ length-append c.loop-path.found.items (c.in_ok-codes.codes ∷ []) ∙ ap (λ k. k + 1) c.loop-path.invariant.size;
      codes = more-codes w ps l c.loop-path.found.items c.push.new.self.items c.path-item.result c.in_ok-codes.codes n c.loop-path.invariant.size there c.path-item.is c.loop-path.invariant.codes c.in_ok-codes.ensures.codes c.in_ok-push.ensures.items;
      beyond = more-beyond w ps l c.path-item.result n c.loop-path.beyond c.in_ok-codes.past c.if-past.beyond there c.path-item.is c.loop-path.invariant.beyond c.in_ok-codes.ensures.beyond beyond;
    }

pub returns-clause-codes : goal.returns-clause-codes
returns-clause-codes g c =
    keys-coded c.args.store.now c.args.paths.now c.args.list.now c.loop-path.found.items (omega (arith, c.loop-path.invariant.size, c.loop-path.auto.path-index-end, c.loop-path-test.false)) c.loop-path.invariant.codes

pub returns-clause-beyond : goal.returns-clause-beyond
returns-clause-beyond g c =
    c.loop-path.invariant.beyond
    ∙ ap (λ ps. list_any is_beyond (flat_map (key_column c.args.store.now c.args.list.now) ps)) (take_all c.loop-path.path-index c.args.paths.now c.loop-path-test.false)

pub returns-clause-count : goal.returns-clause-count
returns-clause-count g c = omega (arith, c.loop-path.invariant.size, c.loop-path.auto.path-index-end, c.loop-path-test.false)
