use Rattle.std.proofs.Common.{◌∙◌, ◌++◌, ◌∷◌, [], ap, map, refl, sym}
use Rattle.std.proofs.lemmas.List.{map-append}
use Rattle.row_frames.specs.Frames.{prefix_at}
use Rattle.row_frames.proofs.BesideLemmas.{widened-by}
use Rattle.row_frames.proofs.joins.widened_by.Goals as goal

pub returns : goal.returns
returns c =
    let p = c.args.prefix.now in
    let t = c.args.table in
    widened-by p t (record { roots = t.roots; prefixes = c.push.new.self; columns = t.columns }) c.requires.path c.requires.none (λ k. refl) (λ k. refl)
    (λ k. ap (map (prefix_at k)) c.in_ok-push.ensures.items ∙ map-append (prefix_at k) t.prefixes.items (c.in_ok-shared_prefix.field-0 ∷ []) ∙ ap (λ q. map (prefix_at k) t.prefixes.items ++ q ∷ []) (c.in_ok-shared_prefix.ensures k))
