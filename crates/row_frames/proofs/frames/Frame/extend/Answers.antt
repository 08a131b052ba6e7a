use Rattle.std.proofs.Common.{◌≡◌, ◌∙◌, ◌<◌, ℕ, List, IsTrue, ap, length, map, subst, sym}
use Rattle.std.specs.List.{All}
use Rattle.edm_values.specs.Lists.{places}
use Rattle.apply_meaning.specs.Instances.{Instance}
use Rattle.apply_meaning.specs.RowViews.{columns_differ}
use Rattle.row_frames.specs.declared.tables.Pick.{Pick}
use Rattle.row_frames.specs.Columned.{given, widened}
use Rattle.row_frames.specs.Frames.{listed}
use Rattle.row_frames.specs.Gathered.{AreComputed}
use Rattle.row_frames.proofs.ComputeLemmas.{computed-long}
use Rattle.row_frames.proofs.ExtendLemmas.{extended-picked, extended-tables}
use Rattle.row_frames.proofs.frames.Frame.extend.Goals as goal

pub invariant_of-result : goal.invariant_of-result
invariant_of-result c =
    let ts = c.in_ok-tables.tables.items in
    let xs = c.in_ok-tables.picks in
    let us = c.in_ok-tables-2.tables.items in
    let cs = c.as_slice.result.now in
    let g = given c.args.columns.items in
    let e : map listed cs ≡ g = ap (map listed) c.as_slice.ensures.value ∙ c.in_ok-columns.ensures in
    let C : AreComputed xs cs 0 ts us = c.in_ok-tables-2.ensures in
    let same = c.in_ok-tables.ensures.picked ∙ c.self.view_is in (
      extended-tables ts us xs cs g e C c.in_ok-tables.ensures.tables (subst (λ (l : List Instance). (k : ℕ) → k < length l → IsTrue (columns_differ (widened g l k).columns)) (sym same) c.requires.free),
      subst (λ n. All (λ (x : Pick). x.table < n) xs) (computed-long xs cs 0 ts us C) c.in_ok-tables.ensures.within,
    )

pub returns : goal.returns
returns c =
    let ts = c.in_ok-tables.tables.items in
    let xs = c.in_ok-tables.picks in
    let us = c.in_ok-tables-2.tables.items in
    let cs = c.as_slice.result.now in
    let g = given c.args.columns.items in
    let e : map listed cs ≡ g = ap (map listed) c.as_slice.ensures.value ∙ c.in_ok-columns.ensures in
    let C : AreComputed xs cs 0 ts us = c.in_ok-tables-2.ensures in
    record {
      value = extended-picked ts us xs cs g e C c.in_ok-tables.ensures.order c.in_ok-tables.ensures.within
          ∙ ap (λ (l : List Instance). map (widened g l) (places (length l))) (c.in_ok-tables.ensures.picked ∙ c.self.view_is);
    }
