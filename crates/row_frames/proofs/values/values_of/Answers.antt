use Rattle.std.proofs.Common.{◌≡◌, ◌∙◌, subst, sym}
use Rattle.std.proofs.lemmas.Result.{IfOk-weaker}
use Rattle.apply_ast.specs.Views.{expr_of}
use Rattle.apply_meaning.specs.Meaning.{values}
use Rattle.row_frames.specs.Frames.{all_picked, AreRead, IsReader}
use Rattle.row_frames.proofs.ReadLemmas.{all-read, all-readable}
use Rattle.row_frames.proofs.values.values_of.Goals as goal

pub all_values-requires-clause-readable : goal.all_values-requires-clause-readable
all_values-requires-clause-readable g c κs outlives =
    let reader = subst (IsReader c.args.store.now c.args.tables.now (expr_of c.args.e.now)) (sym c.as_slice.ensures.value) c.in_ok-readers.ensures in
    all-readable c.args.store.now (expr_of c.args.e.now) c.args.tables.now c.as_slice.result.now c.args.picks.now reader c.requires.tables c.requires.within c.requires.of

pub returns : goal.returns
returns g c =
    let w = c.args.store.now in
    let e = expr_of c.args.e.now in
    let reader = subst (IsReader w c.args.tables.now e) (sym c.as_slice.ensures.value) c.in_ok-readers.ensures in
    IfOk-weaker c.all_values.result (λ vs. AreRead c.as_slice.result.now c.args.picks.now (vs.items)) (λ vs. vs.items ≡ values w e (all_picked c.args.tables.now c.args.picks.now))
    (λ vs h. h.read ∙ all-read w e c.args.tables.now c.as_slice.result.now c.args.picks.now reader c.requires.within) c.all_values.ensures
