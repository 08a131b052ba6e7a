use Rattle.std.proofs.Common.{◌∙◌, ◌<◌, ap, get_or, length, map, subst, sym}
use Rattle.std.proofs.lemmas.List.{get_or_default, length-map}
use Rattle.row_frames.specs.declared.tables.Pick.{Pick}
use Rattle.row_frames.specs.Frames.{place_in}
use Rattle.row_frames.proofs.FoldedLemmas.{read-long, read-there}
use Rattle.row_frames.proofs.root_places.RootPlaces.at.Goals as goal

pub at-requires : goal.at-requires
at-requires c = subst (λ n. c.args.k < n) (sym (ap length c.self.view_is) ∙ length-map c.self.inside.picks.now (λ (x : Pick). place_in c.self.inside.roots.now x.row)) c.requires.there

pub returns : goal.returns
returns c =
    let xs = c.self.inside.picks.now in
    let f = λ (x : Pick). place_in c.self.inside.roots.now x.row in
    let x = c.at.result in
    let lt = subst (λ n. c.args.k < n) (sym (ap length c.self.view_is) ∙ length-map xs f) c.requires.there in
    record {
      value = c.place_in.ensures
          ∙ read-there f xs c.args.k x lt (c.at.ensures x)
          ∙ get_or_default (map f xs) c.args.k (f x) 0 (read-long f xs c.args.k lt)
          ∙ ap (λ l. get_or l c.args.k 0) c.self.view_is;
    }
