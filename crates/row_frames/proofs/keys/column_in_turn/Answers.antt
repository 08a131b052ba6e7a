use Rattle.std.proofs.Common.{◌≡◌, ◌∙◌, map, subst, sym}
use Rattle.std.proofs.lemmas.Result.{IfOk-weaker}
use Rattle.edm_values.specs.Values.{seen_value}
use Rattle.apply_ast.specs.Trees as tree
use Rattle.row_frames.specs.Frames.{all_picked, AreRead, IsReader}
use Rattle.row_frames.specs.Keys as keys
use Rattle.row_frames.proofs.ReadLemmas.{all-read, all-readable}
use Rattle.row_frames.proofs.keys.column_in_turn.Goals as goal

pub seen_in_turn-requires : goal.seen_in_turn-requires
seen_in_turn-requires c =
    let reader = subst (IsReader c.args.store.now c.args.tables.now (tree.Expr.Path' c.args.path.now)) (sym c.as_slice.ensures.value) c.in_ok-readers.ensures in
    all-readable c.args.store.now (tree.Expr.Path' c.args.path.now) c.args.tables.now c.as_slice.result.now c.args.picks.now reader c.requires.tables c.requires.within c.requires.of

pub returns : goal.returns
returns c =
    let w = c.args.store.now in
    let e = tree.Expr.Path' c.args.path.now in
    let reader = subst (IsReader w c.args.tables.now e) (sym c.as_slice.ensures.value) c.in_ok-readers.ensures in
    IfOk-weaker c.seen_in_turn.result (λ vs. AreRead c.as_slice.result.now c.args.picks.now (map (λ v. seen_value v) vs.items)) (λ vs. map (λ v. seen_value v) vs.items ≡ keys.key_column w (all_picked c.args.tables.now c.args.picks.now) c.args.path.now)
    (λ vs h. h.read ∙ all-read w e c.args.tables.now c.as_slice.result.now c.args.picks.now reader c.requires.within) c.seen_in_turn.ensures
