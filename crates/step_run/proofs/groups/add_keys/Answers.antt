use Rattle.std.proofs.Common.{rules, ◌≡◌, ◌+◌, ◌∙◌, ◌++◌, ◌∷◌, [], ap, sym, subst, refl, map, drop, None, arith, IsTrue}
use Rattle.std.specs.Prelude.{slice_get}
use Rattle.std.proofs.lemmas.List.{append_assoc}
use Rattle.std.proofs.lemmas.Option.{get_or_from_slice_get, slice_get_within}
use Rattle.edm_values.proofs.ListFacts.{all-at}
use Rattle.edm_values.proofs.OptionFacts.{mapped}
use Rattle.apply_meaning.specs.Meaning.{keyed}
use Rattle.apply_meaning.specs.RowViews.{IsRow, columns_differ, row_instance}
use Rattle.step_run.specs.Levels.{group_row}
use Rattle.step_run.proofs.GroupLemmas.{next-length, next-map}
use Rattle.step_run.proofs.groups.add_keys.Goals as goal

pub make-requires : goal.make-requires
make-requires g c =
    let level = c.args.level.now in
    let d = mapped (λ g. g.0) (slice_get level.1 c.loop-k.k) c.in_ok-key.key.items (sym c.in_ok-key.ensures.value) in
    let at = d.1 in
    let columns : c.in_ok-columns.columns.items ≡ keyed level.0 (d.0).0 = c.in_ok-columns.ensures ∙ (λ i. keyed (c.paths.ensures.value i) ((c.as_slice.ensures.value ∙ sym d.2) i)) in
    subst (λ ps. IsRow ps c.in_ok-columns.columns.items) (sym c.new.ensures.items)
    (record {
      paths = refl;
      prefixes = refl;
      columns = subst (λ cs. IsTrue (columns_differ cs)) (sym columns) (all-at (λ g. columns_differ (keyed level.0 g.0)) level.1 c.loop-k.k d.0 c.requires.differ at);
    })

pub loop-k-preserved : goal.loop-k-preserved
loop-k-preserved g c =
    let level = c.args.level.now in
    let k = c.loop-k.k in
    let d = mapped (λ g. g.0) (slice_get level.1 k) c.in_ok-key.key.items (sym c.in_ok-key.ensures.value) in
    let at = d.1 in
    let within = slice_get_within level.1 k d.0 at in
    let columns : c.in_ok-columns.columns.items ≡ keyed level.0 (d.0).0 = c.in_ok-columns.ensures ∙ (λ i. keyed (c.paths.ensures.value i) ((c.as_slice.ensures.value ∙ sym d.2) i)) in
    let made : c.in_ok-make.field-0 ≡ row_instance None c.new.result.items c.in_ok-columns.columns.items = search rules in
    let rest = map (group_row level.0) (drop (k + 1) level.1) in
    let next = next-map (group_row level.0) level.1 k d.0 within (sym (get_or_from_slice_get level.1 k d.0 d.0 at)) in
    let row : c.in_ok-make.field-0 ≡ group_row level.0 d.0 = made ∙ (λ i. record { prefixes = c.new.ensures.items i; columns = columns i }) in
    let fewer = next-length level.1 k d.0 within in
    let spent = c.make.ensures.steps in
    let left = c.loop-k.invariant.1 in
    let grown = c.loop-k.invariant.2 in (
      c.loop-k.invariant.0 ∙ ap (λ xs. c.loop-k.all.items ++ xs) next
          ∙ sym (append_assoc c.loop-k.all.items (group_row level.0 d.0 ∷ []) rest)
          ∙ ap (λ x. (c.loop-k.all.items ++ x ∷ []) ++ rest) (sym row)
          ∙ ap (λ xs. xs ++ rest) (sym c.in_ok-push.ensures.items),
      omega (arith, spent, left, fewer),
      omega (arith, spent, grown),
    )
