use Rattle.std.proofs.Common.{◌≡◌, ◌∙◌, ap, length, map, subst, sym}
use Rattle.std.specs.Global.{Vec}
use Rattle.std.specs.List.{All}
use Rattle.std.proofs.lemmas.List.{length-map}
use Rattle.std.proofs.lemmas.Result.{IfOk-weaker}
use Rattle.edm_values.specs.declared.Seen.{Seen}
use Rattle.apply_meaning.specs.Meaning.{key_list}
use Rattle.row_frames.specs.Frames.{all_picked, picked}
use Rattle.row_frames.specs.Keys as keys
use Rattle.row_frames.proofs.KeyLemmas.{columns-sized, keys-across}
use Rattle.row_frames.proofs.keys.key_lists_of.Goals as goal

pub lists_of-requires : goal.lists_of-requires
lists_of-requires g c =
    let l = all_picked c.args.tables.now c.args.picks.now in
    let size : length l ≡ c.len.result = length-map c.args.picks.now (picked c.args.tables.now) ∙ sym c.len.ensures in
    subst (λ cs. All (λ (c' : Vec Seen). length c'.items ≡ c.len.result) cs) (sym c.as_slice.ensures.value) (columns-sized c.args.store.now c.args.paths.now l c.len.result c.in_ok-columns.columns.items c.in_ok-columns.ensures size)

pub returns : goal.returns
returns g c =
    let w = c.args.store.now in
    let ps = c.args.paths.now in
    let l = all_picked c.args.tables.now c.args.picks.now in
    let size : length l ≡ c.len.result = length-map c.args.picks.now (picked c.args.tables.now) ∙ sym c.len.ensures in
    IfOk-weaker c.lists_of.result (λ lists. map (λ k. k.items) lists.items ≡ keys.keys_of (keys.seen_columns c.as_slice.result.now) c.len.result) (λ lists. map (λ k. k.items) lists.items ≡ map (key_list w ps) l)
    (λ lists h. h ∙ (λ i. keys.keys_of ((ap keys.seen_columns c.as_slice.ensures.value ∙ c.in_ok-columns.ensures) i) (sym size i)) ∙ keys-across w ps l) c.lists_of.ensures
