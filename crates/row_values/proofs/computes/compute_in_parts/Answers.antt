use Rattle.std.proofs.Common.{rules, ◌≡◌, ◌∙◌, ◌+◌, ◌<◌, ◌++◌, ◌∷◌, [], List, ap, refl, subst, sym, arith, length, map, suc}
use Rattle.std.specs.Global.{Vec}
use Rattle.std.specs.Iterator.Adapters.{enumerate_count, enumerate_source}
use Rattle.std.specs.Vec.Iter.{into_iter_items}
use Rattle.edm_values.specs.declared.Value.{Value}
use Rattle.apply_ast.specs.Views.{expr_of, named_of}
use Rattle.apply_ast.specs.declared.items.Named as of_named
use Rattle.apply_meaning.specs.Instances.{Instance, extended, val}
use Rattle.apply_meaning.specs.Meaning.{values}
use Rattle.apply_meaning.specs.Running.{new_columns}
use Rattle.row_values.specs.Columns as spec
use Rattle.row_values.proofs.Columns.{lists-long}
use Rattle.row_values.proofs.RowsLeft.{left-as, new-at, place-within, row-free, row-made}
use Rattle.row_values.proofs.computes.compute_in_parts.Goals as goal

pub columns_at-requires-clause-within : goal.columns_at-requires-clause-within
columns_at-requires-clause-within g c =
    let w = c.args.store.now in
    let rows = c.args.rows.items in
    let items = c.args.items.now in
    let k = enumerate_count c.loop-k.k-iterator in
    let x = c.in-Some.row in
    let rest = into_iter_items (enumerate_source c.next.new.self) in
    let next : into_iter_items (enumerate_source c.loop-k.k-iterator) ≡ x ∷ rest = search rules in
    let own : c.in-Some.k ≡ k = search rules in
    let lists : map (λ (l : Vec Value). l.items) c.as_slice-in-loop-k-2.result.now ≡ map (λ (n : of_named.Named). values w (expr_of n.expr) rows) items =
    ap (map (λ (l : Vec Value). l.items)) c.as_slice-in-loop-k-2.ensures.value ∙ c.in_ok-lists.ensures ∙ ap (λ (l : List Instance). map (λ (n : of_named.Named). values w (expr_of n.expr) l) items) c.as_slice.ensures.value in
    let here = place-within rows k x rest ((c.loop-k.invariant.0).rows_left ∙ next) in
    lists-long (λ (l : Vec Value). l.items) (λ (n : of_named.Named) (i : Instance). val w i (expr_of n.expr)) rows c.in-Some.k c.as_slice-in-loop-k-2.result.now items
    (subst (λ n. n < length rows) (sym own) here) lists

pub extend-requires : goal.extend-requires
extend-requires g c =
    let w = c.args.store.now in
    let rows = c.args.rows.items in
    let items = c.args.items.now in
    let k = enumerate_count c.loop-k.k-iterator in
    let x = c.in-Some.row in
    let rest = into_iter_items (enumerate_source c.next.new.self) in
    let next : into_iter_items (enumerate_source c.loop-k.k-iterator) ≡ x ∷ rest = search rules in
    let own : c.in-Some.k ≡ k = search rules in
    let lists : map (λ (l : Vec Value). l.items) c.as_slice-in-loop-k-2.result.now ≡ map (λ (n : of_named.Named). values w (expr_of n.expr) rows) items =
    ap (map (λ (l : Vec Value). l.items)) c.as_slice-in-loop-k-2.ensures.value ∙ c.in_ok-lists.ensures ∙ ap (λ (l : List Instance). map (λ (n : of_named.Named). values w (expr_of n.expr) l) items) c.as_slice.ensures.value in
    let ns = map named_of items in
    let made = c.loop-k.made.items in
    let ps = c.as_slice-in-loop-k.result.now in
    let ls = map (λ (l : Vec Value). l.items) c.as_slice-in-loop-k-2.result.now in
    let cs = c.in_ok-columns.columns.items in
    let paths : ps ≡ map (λ (n : of_named.Named). n.name ∷ []) items = c.as_slice-in-loop-k.ensures.value ∙ c.in_ok-paths.ensures in
    let new : cs ≡ new_columns w ns x = c.in_ok-columns.ensures ∙ ap (spec.columns_at ps ls) own ∙ new-at w items rows k x rest ps ls ((c.loop-k.invariant.0).rows_left ∙ next) paths lists in
    let left = left-as w ns rows made made k k (into_iter_items (enumerate_source c.loop-k.k-iterator)) (x ∷ rest) refl refl next c.loop-k.invariant.0 in
    row-free w ns rows made k x rest cs left new

pub loop-k-preserved : goal.loop-k-preserved
loop-k-preserved g c =
    let w = c.args.store.now in
    let rows = c.args.rows.items in
    let items = c.args.items.now in
    let k = enumerate_count c.loop-k.k-iterator in
    let x = c.in-Some.row in
    let rest = into_iter_items (enumerate_source c.next.new.self) in
    let next : into_iter_items (enumerate_source c.loop-k.k-iterator) ≡ x ∷ rest = search rules in
    let own : c.in-Some.k ≡ k = search rules in
    let lists : map (λ (l : Vec Value). l.items) c.as_slice-in-loop-k-2.result.now ≡ map (λ (n : of_named.Named). values w (expr_of n.expr) rows) items =
    ap (map (λ (l : Vec Value). l.items)) c.as_slice-in-loop-k-2.ensures.value ∙ c.in_ok-lists.ensures ∙ ap (λ (l : List Instance). map (λ (n : of_named.Named). values w (expr_of n.expr) l) items) c.as_slice.ensures.value in
    let ns = map named_of items in
    let made = c.loop-k.made.items in
    let ps = c.as_slice-in-loop-k.result.now in
    let ls = map (λ (l : Vec Value). l.items) c.as_slice-in-loop-k-2.result.now in
    let cs = c.in_ok-columns.columns.items in
    let paths : ps ≡ map (λ (n : of_named.Named). n.name ∷ []) items = c.as_slice-in-loop-k.ensures.value ∙ c.in_ok-paths.ensures in
    let new : cs ≡ new_columns w ns x = c.in_ok-columns.ensures ∙ ap (spec.columns_at ps ls) own ∙ new-at w items rows k x rest ps ls ((c.loop-k.invariant.0).rows_left ∙ next) paths lists in
    let left = left-as w ns rows made made k k (into_iter_items (enumerate_source c.loop-k.k-iterator)) (x ∷ rest) refl refl next c.loop-k.invariant.0 in
    let count : k + 1 ≡ enumerate_count c.next.new.self = search rules in
    let pushed : made ++ extended x cs ∷ [] ≡ c.push.new.self.items = ap (λ r. made ++ r ∷ []) (sym c.in_ok-extend.ensures.row) ∙ sym c.in_ok-push.ensures.items in
    let size : length (into_iter_items (enumerate_source c.loop-k.k-iterator)) ≡ suc (length rest) = ap length next in
    let owed = c.loop-k.invariant.1 in
    let grown = c.loop-k.invariant.2 in
    let spent = c.extend.ensures.steps in (
      left-as w ns rows (made ++ extended x cs ∷ []) c.push.new.self.items (k + 1) (enumerate_count c.next.new.self) rest rest pushed count refl (row-made w ns rows made k x rest cs left new),
      omega (arith, size, owed, spent),
      omega (arith, spent, grown),
    )
