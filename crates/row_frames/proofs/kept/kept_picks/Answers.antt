use Rattle.std.proofs.Common.{◌≡◌, ◌∙◌, length, map, subst, sym}
use Rattle.std.proofs.Crossing.{crosses}
use Rattle.std.proofs.MapsCrossing as maps
use denote.Param.Send.{sendable}
use Rattle.apply_ast.specs.Views.{expr_of}
use Rattle.apply_meaning.specs.Instances.{Instance, val}
use Rattle.row_frames.specs.declared.tables.Pick.{Pick}
use Rattle.row_frames.specs.Answers.{answer_of}
use Rattle.row_frames.specs.Frames.{all_picked, read_at, IsReader}
use Rattle.row_frames.proofs.KeptLemmas.{answers-are, kept-given, kept-tables}
use Rattle.row_frames.proofs.ReadLemmas.{all-read, all-readable}
use Rattle.row_frames.proofs.kept.kept_picks.Goals as goal

pub kept_of-requires : goal.kept_of-requires
kept_of-requires g c =
    let reader = subst (IsReader c.args.store.now c.args.tables.now (expr_of c.args.e.now)) (sym c.as_slice.ensures.value) c.in_ok-readers.ensures in (
      search (sendable, crosses, maps.crosses) depth 40,
      all-readable c.args.store.now (expr_of c.args.e.now) c.args.tables.now c.as_slice.result.now c.args.picks.now reader c.requires.tables c.requires.within c.requires.of,
    )

pub returns : goal.returns
returns g c =
    let w = c.args.store.now in
    let e = expr_of c.args.e.now in
    let ts = c.args.tables.now in
    let xs = c.args.picks.now in
    let rs = c.as_slice.result.now in
    let f = λ (i : Instance). val w i e in
    let reader = subst (IsReader w ts e) (sym c.as_slice.ensures.value) c.in_ok-readers.ensures in
    let bs = map (λ (x : Pick). answer_of (read_at rs x)) xs in
    let told : bs ≡ map (λ i. answer_of (f i)) (all_picked ts xs) = answers-are (read_at rs) f xs (all_picked ts xs) (all-read w e ts rs xs reader c.requires.within) in
    record {
      kept = kept-given f ts xs bs c.kept_of.result told c.kept_of.ensures;
      within = kept-tables (length ts) bs xs c.kept_of.result c.requires.within c.kept_of.ensures;
    }
