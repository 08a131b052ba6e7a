use Rattle.std.proofs.Common.{rules, ◌≡◌, ◌∙◌, ◌++◌, ◌∷◌, [], ap, sym, length, take, arith}
use Rattle.std.proofs.lemmas.List.{take_all}
use Rattle.std.proofs.lemmas.Slice.Zip.{length-zip, zip_end, zip_turn}
use Rattle.std.specs.Iterator.Adapters.{zip_first, zip_second}
use Rattle.std.specs.Slice.Iter.{iter_rest}
use Rattle.apply_meaning.specs.Meaning.{keyed}
use Rattle.step_run.proofs.GroupLemmas.{keyed-more, length-more}
use Rattle.step_run.proofs.groups.key_columns.Goals as goal

pub loop-path-preserved : goal.loop-path-preserved
loop-path-preserved c =
    let ks = c.args.paths.now in
    let vs = c.args.key.now in
    let xs = c.loop-path.yielded in
    let first : iter_rest (zip_first c.into_iter-path-iterator.result) ≡ ks = search rules in
    let second : iter_rest (zip_second c.into_iter-path-iterator.result) ≡ vs = search rules in
    let turn = zip_turn ks vs xs c.into_iter-path-iterator.result c.loop-path.path-iterator c.next.new.self c.next.result first second c.loop-path.yielded_by (c.in-Some.path, c.in-Some.value) c.in-Some.is c.next.ensures.steps in
    let pushed : c.push-in-loop-path.new.self.items ≡ c.loop-path.columns.items ++ (c.in-Some.path.now, c.in-Some.value.now) ∷ [] = search rules in
    pushed
    ∙ ap (λ cs. cs ++ (c.in-Some.path.now, c.in-Some.value.now) ∷ []) c.loop-path.invariant
    ∙ sym (keyed-more ks vs (length xs) c.in-Some.path.now c.in-Some.value.now turn.0 turn.1 (turn.2 c.in-Some.path.now) (turn.3 c.in-Some.value.now))
    ∙ ap (λ n. take n (keyed ks vs)) (sym (length-more xs (c.in-Some.path, c.in-Some.value)))

pub returns : goal.returns
returns c =
    let ks = c.args.paths.now in
    let vs = c.args.key.now in
    let xs = c.loop-path.yielded in
    let first : iter_rest (zip_first c.into_iter-path-iterator.result) ≡ ks = search rules in
    let second : iter_rest (zip_second c.into_iter-path-iterator.result) ≡ vs = search rules in
    let end = zip_end ks vs xs c.into_iter-path-iterator.result c.loop-path.path-iterator c.next.new.self c.next.result first second c.loop-path.yielded_by c.in-None.is c.next.ensures.steps in
    let long = length-zip ks vs in
    c.loop-path.invariant ∙ take_all (length xs) (keyed ks vs) (omega (arith, end, long))
