use Rattle.std.proofs.Common.{rules, ◌≡◌, ◌∙◌, ◌<◌, ◌+◌, ◌∷◌, [], ◌++◌, ℕ, List, Some, ap, sym, subst, arith, get_or, length, map, take, append_assoc}
use Rattle.std.specs.Prelude.{filter, slice_get}
use Rattle.std.proofs.lemmas.List.{map-append, take_all, take_more}
use Rattle.std.proofs.lemmas.Option.{slice_get-get_or}
use Rattle.edm_values.specs.declared.Value.{Value}
use Rattle.edm_values.specs.Lists.{at_places}
use Rattle.edm_data.specs.Nodes.{identifier}
use Rattle.apply_ast.specs.Views.{agg_of}
use Rattle.context_typing.specs.Readings.{readings}
use Rattle.edm_data.specs.Worlds.{World}
use Rattle.apply_meaning.specs.Instances.{Instance}
use Rattle.apply_meaning.specs.Meaning.{at_or_below}
use Rattle.numbered_groups.specs.Numbered.{places_with}
use Rattle.step_run.specs.KeyedTotals.{key_row, keyed_row}
use Rattle.step_run.proofs.KeyedParts.{first-numbered, key-long, number-below, number-kept, number-within}
use Rattle.step_run.proofs.RunLevels.{read-key}
use Rattle.step_run.proofs.keyed_totals.rows_at_node.Goals as goal

pub first_place-first-requires-clause-first : goal.first_place-first-requires-clause-first
first_place-first-requires-clause-first g c =
    λ gr at.
    let F = c.requires.firsts c.loop-k.k gr at in
    (F.place, F.rest, F.places_are, F.there)

pub bounds-numbers-first : goal.bounds-numbers-first
bounds-numbers-first g c =
    let k = c.loop-k.k in
    let gs = c.args.groups.now in
    let h : k < length gs = omega (arith, c.loop-k-test.true, c.len-k-end.ensures.value) in
    let gr = get_or gs k ([], []) in
    let at = slice_get-get_or gs k ([], []) h in
    let F = c.requires.firsts k gr at in
    let w = c.args.context.now.world in
    let items = map agg_of c.args.items.now in
    let ks = c.args.plain.now in
    let l = c.args.rows.now in
    let ns = c.args.numbers.now in
    let A = c.requires.all in
    let fs = c.args.firsts.now in
    let here : c.first_place-first.result ≡ get_or fs F.place 0 = c.first_place-first.ensures gr F.place F.rest at F.places_are in
    subst (λ n. n < length ns) (sym here) (first-numbered w items ks l ns c.args.all.now A fs gr F)

pub offset_bounds-numbers-first : goal.offset_bounds-numbers-first
offset_bounds-numbers-first g c =
    let k = c.loop-k.k in
    let gs = c.args.groups.now in
    let h : k < length gs = omega (arith, c.loop-k-test.true, c.len-k-end.ensures.value) in
    let gr = get_or gs k ([], []) in
    let at = slice_get-get_or gs k ([], []) h in
    let F = c.requires.firsts k gr at in
    let w = c.args.context.now.world in
    let items = map agg_of c.args.items.now in
    let ks = c.args.plain.now in
    let l = c.args.rows.now in
    let ns = c.args.numbers.now in
    let A = c.requires.all in
    let fs = c.args.firsts.now in
    let here : c.first_place-first.result ≡ get_or fs F.place 0 = c.first_place-first.ensures gr F.place F.rest at F.places_are in
    let few : c.first_place-first.result < length ns = subst (λ n. n < length ns) (sym here) (first-numbered w items ks l ns c.args.all.now A fs gr F) in
    search (rules, few)

pub bounds-all-number : goal.bounds-all-number
bounds-all-number g c =
    let k = c.loop-k.k in
    let gs = c.args.groups.now in
    let h : k < length gs = omega (arith, c.loop-k-test.true, c.len-k-end.ensures.value) in
    let gr = get_or gs k ([], []) in
    let at = slice_get-get_or gs k ([], []) h in
    let F = c.requires.firsts k gr at in
    let w = c.args.context.now.world in
    let items = map agg_of c.args.items.now in
    let ks = c.args.plain.now in
    let l = c.args.rows.now in
    let ns = c.args.numbers.now in
    let A = c.requires.all in
    let fs = c.args.firsts.now in
    let here : c.first_place-first.result ≡ get_or fs F.place 0 = c.first_place-first.ensures gr F.place F.rest at F.places_are in
    let v = get_or ns c.first_place-first.result 0 in
    let number : v ≡ get_or ns (get_or fs F.place 0) 0 = ap (λ n. get_or ns n 0) here in
    let small = number-kept w items ks l ns c.args.all.now A fs gr F in
    subst (λ n. n < length c.args.all.now) (sym number) small

pub keyed_row-requires-clause-node : goal.keyed_row-requires-clause-node
keyed_row-requires-clause-node g c κs within =
    let k = c.loop-k.k in
    let gs = c.args.groups.now in
    let h : k < length gs = omega (arith, c.loop-k-test.true, c.len-k-end.ensures.value) in
    let gr = get_or gs k ([], []) in
    let at = slice_get-get_or gs k ([], []) h in
    let F = c.requires.firsts k gr at in
    let w = c.args.context.now.world in
    let items = map agg_of c.args.items.now in
    let ks = c.args.plain.now in
    let l = c.args.rows.now in
    let ns = c.args.numbers.now in
    let A = c.requires.all in
    let fs = c.args.firsts.now in
    let here : c.first_place-first.result ≡ get_or fs F.place 0 = c.first_place-first.ensures gr F.place F.rest at F.places_are in
    let v = get_or ns c.first_place-first.result 0 in
    let number : v ≡ get_or ns (get_or fs F.place 0) 0 = ap (λ n. get_or ns n 0) here in
    let small = number-kept w items ks l ns c.args.all.now A fs gr F in
    let own : slice_get c.args.all.now v ≡ Some c.index-all-number.result = slice_get-get_or c.args.all.now v c.index-all-number.result (subst (λ n. n < length c.args.all.now) (sym number) small) ∙ ap Some (sym c.index-all-number.is) in
    c.requires.node v c.index-all-number.result own

pub keyed_row-requires-clause-own : goal.keyed_row-requires-clause-own
keyed_row-requires-clause-own g c κs within =
    let k = c.loop-k.k in
    let gs = c.args.groups.now in
    let h : k < length gs = omega (arith, c.loop-k-test.true, c.len-k-end.ensures.value) in
    let gr = get_or gs k ([], []) in
    let at = slice_get-get_or gs k ([], []) h in
    let F = c.requires.firsts k gr at in
    let w = c.args.context.now.world in
    let items = map agg_of c.args.items.now in
    let ks = c.args.plain.now in
    let l = c.args.rows.now in
    let ns = c.args.numbers.now in
    let A = c.requires.all in
    let fs = c.args.firsts.now in
    let here : c.first_place-first.result ≡ get_or fs F.place 0 = c.first_place-first.ensures gr F.place F.rest at F.places_are in
    let v = get_or ns c.first_place-first.result 0 in
    let number : v ≡ get_or ns (get_or fs F.place 0) 0 = ap (λ n. get_or ns n 0) here in
    let small = number-kept w items ks l ns c.args.all.now A fs gr F in
    let own : slice_get c.args.all.now v ≡ Some c.index-all-number.result = slice_get-get_or c.args.all.now v c.index-all-number.result (subst (λ n. n < length c.args.all.now) (sym number) small) ∙ ap Some (sym c.index-all-number.is) in
    (places_with ns v, number-within l ns v A.long, A.kept v c.index-all-number.result own)

pub keyed_row-requires-clause-wide : goal.keyed_row-requires-clause-wide
keyed_row-requires-clause-wide g c κs within =
    let k = c.loop-k.k in
    let gs = c.args.groups.now in
    let h : k < length gs = omega (arith, c.loop-k-test.true, c.len-k-end.ensures.value) in
    let gr = get_or gs k ([], []) in
    let at = slice_get-get_or gs k ([], []) h in
    let F = c.requires.firsts k gr at in
    let w = c.args.context.now.world in
    let items = map agg_of c.args.items.now in
    let ks = c.args.plain.now in
    let l = c.args.rows.now in
    let ns = c.args.numbers.now in
    let A = c.requires.all in
    let fs = c.args.firsts.now in
    let here : c.first_place-first.result ≡ get_or fs F.place 0 = c.first_place-first.ensures gr F.place F.rest at F.places_are in
    ap length (read-key gs k gr c.key-key.result.now at c.key-key.ensures.value) ∙ key-long w items ks l ns c.args.all.now A fs gr F

pub loop-k-preserved : goal.loop-k-preserved
loop-k-preserved g c =
    let k = c.loop-k.k in
    let gs = c.args.groups.now in
    let h : k < length gs = omega (arith, c.loop-k-test.true, c.len-k-end.ensures.value) in
    let gr = get_or gs k ([], []) in
    let at = slice_get-get_or gs k ([], []) h in
    let F = c.requires.firsts k gr at in
    let w = c.args.context.now.world in
    let items = map agg_of c.args.items.now in
    let ks = c.args.plain.now in
    let l = c.args.rows.now in
    let ns = c.args.numbers.now in
    let A = c.requires.all in
    let fs = c.args.firsts.now in
    let here : c.first_place-first.result ≡ get_or fs F.place 0 = c.first_place-first.ensures gr F.place F.rest at F.places_are in
    let v = get_or ns c.first_place-first.result 0 in
    let number : v ≡ get_or ns (get_or fs F.place 0) 0 = ap (λ n. get_or ns n 0) here in
    let small = number-kept w items ks l ns c.args.all.now A fs gr F in
    let own : slice_get c.args.all.now v ≡ Some c.index-all-number.result = slice_get-get_or c.args.all.now v c.index-all-number.result (subst (λ n. n < length c.args.all.now) (sym number) small) ∙ ap Some (sym c.index-all-number.is) in
    let x = c.args.context.now in
    let p = c.args.path.now in
    let node = c.args.node in
    record {
      rows = λ f S set nodes root.
          let key = read-key gs k gr c.key-key.result.now at c.key-key.ensures.value in
          let id = c.in_ok-id.ensures.value f set ∙ ap (λ (w : World). identifier w f node) c.store.ensures.value in
          let make : List Value × List ℕ → Instance = λ g. key_row w (readings x.customs) S f items ks p l node g.0 in
          let row = c.in_ok-keyed_row.ensures.row f S c.args.set (places_with ns v) (number-within l ns v A.long) (A.kept v c.index-all-number.result own) (nodes v c.index-all-number.result own) root
          ∙ (λ i. keyed_row w (readings x.customs) S items ks (key i) p (id i) (filter (at_or_below w f p node) (at_places l (places_with ns (number i)))))
          ∙ ap (keyed_row w (readings x.customs) S items ks gr.0 p (identifier w f node)) (number-below w items ks l ns c.args.all.now A fs gr F f p node) in
          c.in_ok-push.ensures.items
          ∙ (λ i. (c.loop-k.invariant.rows f S set nodes root i) ++ row i ∷ [])
          ∙ append_assoc c.args.made.items (map make (take k gs)) (make gr ∷ [])
          ∙ ap (λ rs. c.args.made.items ++ rs) (sym (map-append make (take k gs) (gr ∷ [])) ∙ ap (map make) (sym (take_more gs k ([], []) h)));
      spent = (let a = c.loop-k.invariant.spent in let b = c.keyed_row.ensures.steps in omega (arith, a, b));
      grown = (let a = c.loop-k.invariant.grown in let b = c.keyed_row.ensures.grown in omega (arith, a, b));
    }

pub returns-clause-rows : goal.returns-clause-rows
returns-clause-rows g c = λ f S set nodes root.
    let x = c.args.context.now in
    let gs = c.args.groups.now in
    let make : List Value × List ℕ → Instance = λ g. key_row x.world (readings x.customs) S f (map agg_of c.args.items.now) c.args.plain.now c.args.path.now c.args.rows.now c.args.node g.0 in
    c.loop-k.invariant.rows f S set nodes root ∙ ap (λ gs. c.args.made.items ++ map make gs) (take_all c.loop-k.k gs (omega (arith, c.loop-k-test.false, c.len-k-end.ensures.value)))
