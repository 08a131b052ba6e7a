use Rattle.std.proofs.Common.{◌∙◌, ◌<◌, List, ap, get_or, length, map, subst, sym}
use Rattle.std.proofs.lemmas.List.{get_or_default, length-map}
use Rattle.edm_values.specs.declared.Value.{Value}
use Rattle.row_frames.specs.declared.readers.TableReader.{TableReader}
use Rattle.row_frames.specs.Frames.{read_at, IsReadable}
use Rattle.row_frames.proofs.FoldedLemmas.{read-long, read-there}
use Rattle.row_frames.proofs.frame_readers.FrameReader.at.Goals as goal

pub at-requires : goal.at-requires
at-requires c = subst (λ n. c.args.k < n) (sym (ap length c.self.view_is) ∙ length-map c.self.inside.picks.now (read_at c.self.inside.readers.items)) c.requires.there

pub value_of-requires : goal.value_of-requires
value_of-requires c =
    let lt = subst (λ n. c.args.k < n) (sym (ap length c.self.view_is) ∙ length-map c.self.inside.picks.now (read_at c.self.inside.readers.items)) c.requires.there in
    subst (λ (rs : List TableReader). IsReadable rs c.at.result) (sym c.as_slice.ensures.value) (subst (IsReadable c.self.inside.readers.items) (sym (c.at.ensures c.at.result)) (c.self.invariant c.args.k c.at.result lt))

pub returns : goal.returns
returns c =
    let xs = c.self.inside.picks.now in
    let f = read_at c.self.inside.readers.items in
    let x = c.at.result in
    let lt = subst (λ n. c.args.k < n) (sym (ap length c.self.view_is) ∙ length-map xs f) c.requires.there in
    record {
      value = c.value_of.ensures
          ∙ ap (λ (rs : List TableReader). read_at rs x) c.as_slice.ensures.value
          ∙ read-there f xs c.args.k x lt (c.at.ensures x)
          ∙ get_or_default (map f xs) c.args.k (f x) Value.Null (read-long f xs c.args.k lt)
          ∙ ap (λ l. get_or l c.args.k Value.Null) c.self.view_is;
    }
