use Rattle.std.proofs.Common.{rules, ◌≡◌, ◌∙◌, ◌++◌, ◌∷◌, [], List, ap, sym, length, take, get_or, map, arith}
use Rattle.std.proofs.lemmas.List.{get_or-map, length-map, map-append, take_all}
use Rattle.std.proofs.lemmas.Slice.Zip.{length-zip, zip_end, zip_turn}
use Rattle.std.specs.Global.{Vec}
use Rattle.std.specs.Iterator.Adapters.{zip_first, zip_second}
use Rattle.std.specs.List.{zip}
use Rattle.std.specs.Slice.Iter.{iter_rest}
use Rattle.edm_values.specs.declared.Seen.{Seen}
use Rattle.edm_values.specs.declared.Value.{Value}
use Rattle.edm_values.specs.Names.{Path}
use Rattle.edm_values.specs.Values.{seen_value}
use Rattle.row_frames.specs.Columned.{given}
use Rattle.row_frames.specs.Keys.{seen_columns}
use Rattle.step_run.proofs.GroupLemmas.{length-more}
use Rattle.step_run.proofs.GroupTotalLaws.{zipped-more}
use Rattle.step_run.proofs.group_totals.key_columns.Goals as goal

pub loop-path-preserved : goal.loop-path-preserved
loop-path-preserved c =
    let ks = c.args.paths.now in
    let vs = c.args.lists.now in
    let xs = c.loop-path.yielded in
    let first : iter_rest (zip_first c.into_iter-path-iterator.result) ≡ ks = search rules in
    let second : iter_rest (zip_second c.into_iter-path-iterator.result) ≡ vs = search rules in
    let turn = zip_turn ks vs xs c.into_iter-path-iterator.result c.loop-path.path-iterator c.next.new.self c.next.result first second c.loop-path.yielded_by (c.in-Some.path, c.in-Some.list) c.in-Some.is c.next.ensures.steps in
    let read = λ (v : Vec Seen). map (λ s. seen_value s) v.items in
    let v : List Value = read c.in-Some.list.now in
    let wide = length-map vs read in
    let at : v ≡ get_or (seen_columns vs) (length xs) v = sym (get_or-map read vs (length xs) c.in-Some.list.now v turn.1 ∙ ap read (sym (turn.3 c.in-Some.list.now))) in
    let own = c.in_ok-own_values.ensures ∙ ap (map (λ (s : Seen). seen_value s)) c.as_slice.ensures.value in
    let pushed : c.push-in-loop-path.new.self.items ≡ c.loop-path.columns.items ++ (c.in-Some.path.now, c.in_ok-own_values.field-0) ∷ [] = search rules in
    ap given pushed
    ∙ map-append (λ (x : Path × Vec Value). (x.0, x.1.items)) c.loop-path.columns.items ((c.in-Some.path.now, c.in_ok-own_values.field-0) ∷ [])
    ∙ (λ i. c.loop-path.invariant i ++ (c.in-Some.path.now, own i) ∷ [])
    ∙ sym (zipped-more ks (seen_columns vs) (length xs) c.in-Some.path.now v turn.0 (omega (arith, turn.1, wide)) (turn.2 c.in-Some.path.now) at)
    ∙ ap (λ n. take n (zip ks (seen_columns vs))) (sym (length-more xs (c.in-Some.path, c.in-Some.list)))

pub returns : goal.returns
returns c =
    let ks = c.args.paths.now in
    let vs = c.args.lists.now in
    let xs = c.loop-path.yielded in
    let first : iter_rest (zip_first c.into_iter-path-iterator.result) ≡ ks = search rules in
    let second : iter_rest (zip_second c.into_iter-path-iterator.result) ≡ vs = search rules in
    let end = zip_end ks vs xs c.into_iter-path-iterator.result c.loop-path.path-iterator c.next.new.self c.next.result first second c.loop-path.yielded_by c.in-None.is c.next.ensures.steps in
    let wide = length-map vs (λ (v : Vec Seen). map (λ s. seen_value s) v.items) in
    let long = length-zip ks (seen_columns vs) in
    c.loop-path.invariant ∙ take_all (length xs) (zip ks (seen_columns vs)) (omega (arith, end, long, wide))
