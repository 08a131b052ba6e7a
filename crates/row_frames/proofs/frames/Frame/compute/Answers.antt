use Rattle.std.proofs.Common.{◌≡◌, ◌∙◌, ◌∷◌, [], ◌<◌, List, ap, sym, subst, map, true}
use Rattle.std.specs.List.{All}
use Rattle.apply_ast.specs.Views.{expr_of, named_of}
use Rattle.apply_ast.specs.declared.items.Named as of_named
use Rattle.apply_meaning.specs.Instances.{Instance, extended}
use Rattle.apply_meaning.specs.Meaning.{values}
use Rattle.apply_meaning.specs.Running.{all_free, new_columns}
use Rattle.row_frames.specs.declared.tables.Pick.{Pick}
use Rattle.row_frames.specs.Frames.{all_picked, listed}
use Rattle.row_frames.specs.Gathered.{AreComputed}
use Rattle.row_frames.proofs.ComputeLemmas.{computed-long, computed-picked, computed-tables}
use Rattle.row_frames.proofs.frames.Frame.compute.Goals as goal

pub invariant_of-result : goal.invariant_of-result
invariant_of-result g c =
    let w = c.args.store.now in
    let items = c.args.items.now in
    let ts = c.in_ok-tables.tables.items in
    let xs = c.in_ok-tables.picks in
    let us = c.in_ok-tables-2.tables.items in
    let cs = c.as_slice.result.now in
    let P = c.in_ok-tables.ensures.picked in
    let A : all_picked c.as_slice-own.result.now c.self.inside.picks ≡ all_picked ts xs = ap (λ l. all_picked l c.self.inside.picks) c.as_slice-own.ensures.value ∙ sym P in
    let e : map listed cs ≡ map (λ (x : of_named.Named). (x.name ∷ [], values w (expr_of x.expr) (all_picked ts xs))) items =
    ap (map listed) c.as_slice.ensures.value ∙ c.in_ok-columns.ensures ∙ ap (λ (l : List Instance). map (λ (x : of_named.Named). (x.name ∷ [], values w (expr_of x.expr) l)) items) A in
    let C : AreComputed xs cs 0 ts us = c.in_ok-tables-2.ensures in
    let free : all_free w (map named_of items) (all_picked ts xs) ≡ true = ap (all_free w (map named_of items)) (P ∙ c.self.view_is) ∙ c.requires.free in (
      computed-tables w items ts us xs cs c.in_ok-tables.ensures.tables C free e,
      subst (λ n. All (λ (x : Pick). x.table < n) xs) (computed-long xs cs 0 ts us C) c.in_ok-tables.ensures.within,
    )

pub returns : goal.returns
returns g c =
    let w = c.args.store.now in
    let items = c.args.items.now in
    let ts = c.in_ok-tables.tables.items in
    let xs = c.in_ok-tables.picks in
    let us = c.in_ok-tables-2.tables.items in
    let cs = c.as_slice.result.now in
    let P = c.in_ok-tables.ensures.picked in
    let A : all_picked c.as_slice-own.result.now c.self.inside.picks ≡ all_picked ts xs = ap (λ l. all_picked l c.self.inside.picks) c.as_slice-own.ensures.value ∙ sym P in
    let e : map listed cs ≡ map (λ (x : of_named.Named). (x.name ∷ [], values w (expr_of x.expr) (all_picked ts xs))) items =
    ap (map listed) c.as_slice.ensures.value ∙ c.in_ok-columns.ensures ∙ ap (λ (l : List Instance). map (λ (x : of_named.Named). (x.name ∷ [], values w (expr_of x.expr) l)) items) A in
    let C : AreComputed xs cs 0 ts us = c.in_ok-tables-2.ensures in
    record {
      value = computed-picked w items ts us xs cs C c.in_ok-tables.ensures.order c.in_ok-tables.ensures.within e
          ∙ ap (map (λ i. extended i (new_columns w (map named_of items) i))) (P ∙ c.self.view_is);
    }
