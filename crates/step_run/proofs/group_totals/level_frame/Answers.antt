use Rattle.std.proofs.Common.{rules, ◌≡◌, ◌∙◌, ◌<◌, ◌++◌, ap, sym, subst, map, length, IsTrue}
use Rattle.std.specs.Prelude.{All, nat_lt}
use Rattle.std.specs.List.{list_all, zip}
use Rattle.std.specs.Global.{Vec}
use Rattle.std.proofs.lemmas.List.{map-append}
use Rattle.std.proofs.lemmas.Result.{IfOk-weaker}
use Rattle.edm_values.specs.declared.Value.{Value}
use Rattle.edm_values.specs.Lists.{at_places, places}
use Rattle.edm_values.specs.Names.{Path}
use Rattle.edm_data.specs.Worlds.{World}
use Rattle.apply_ast.specs.Views.{agg_of}
use Rattle.apply_meaning.specs.RowViews.{columns_differ}
use Rattle.apply_meaning.specs.Running.{all_of}
use Rattle.row_frames.specs.Columned.{given, row_across}
use Rattle.row_frames.specs.Keys.{key_columns, seen_columns}
use Rattle.step_run.specs.GroupTotals.{level_totals, listed_column}
use Rattle.step_run.specs.Levels.{level_on}
use Rattle.step_run.proofs.GroupTotalLaws.{apart-across, first-of, firsts-within, rows-across}
use Rattle.step_run.proofs.group_totals.level_frame.Goals as goal

pub key_columns_at-requires-clause-of : goal.key_columns_at-requires-clause-of
key_columns_at-requires-clause-of g c =
    subst (λ (w : World). IsTrue (all_of w (at_places c.args.rows.now c.firsts-firsts.result.now))) (sym c.store.ensures.value)
    (first-of c.args.context.now.world c.args.rows.now c.firsts-firsts.result.now c.requires.of)

pub key_columns_at-requires-clause-within : goal.key_columns_at-requires-clause-within
key_columns_at-requires-clause-within g c =
    let n = c.args.groups.now in
    let there : All (λ f. f < length n.numbers) n.firsts = subst (All (λ f. f < length n.numbers)) c.firsts-firsts.ensures.value c.firsts-firsts.ensures.there in
    subst (λ ks. IsTrue (list_all (λ k. nat_lt k (length c.args.rows.now)) ks)) (sym c.firsts-firsts.ensures.value)
    (firsts-within c.args.context.now.world c.args.paths.now c.args.rows.now n c.requires.numbered there)

pub of_columns-requires : goal.of_columns-requires
of_columns-requires g c = record {
  differ = λ k h.
      let w = c.args.context.now.world in
      let l = c.args.rows.now in
      let n = c.args.groups.now in
      let ps = c.args.paths.now in
      let items = map agg_of c.args.items.now in
      let there : All (λ f. f < length n.numbers) n.firsts = subst (All (λ f. f < length n.numbers)) c.firsts-firsts.ensures.value c.firsts-firsts.ensures.there in
      let K : seen_columns c.as_slice.result.now ≡ key_columns w ps (at_places l n.firsts) = ap seen_columns c.as_slice.ensures.value ∙ c.in_ok-keys.ensures.value ∙ (λ i. key_columns (c.store.ensures.value i) ps (at_places l (c.firsts-firsts.ensures.value i))) in
      let appended : c.append.new.self.items ≡ c.in_ok-columns.columns.items ++ c.in_ok-behind.behind.items = search rules in
      let G : given c.append.new.self.items ≡ map (listed_column w l n) items ++ zip ps (key_columns w ps (at_places l n.firsts)) =
      ap given appended
      ∙ map-append (λ (x : Path × Vec Value). (x.0, x.1.items)) c.in_ok-columns.columns.items c.in_ok-behind.behind.items
      ∙ (λ i. c.in_ok-columns.ensures i ++ (c.in_ok-behind.ensures ∙ ap (zip ps) K) i) in
      subst (λ cs. IsTrue (columns_differ (row_across cs k).columns)) (sym G)
      (apart-across w ps l n c.requires.numbered there items c.requires.folded c.requires.apart k (subst (λ m. k < m) c.len.ensures.value h));
}

pub returns : goal.returns
returns g c =
    let w = c.args.context.now.world in
    let l = c.args.rows.now in
    let n = c.args.groups.now in
    let ps = c.args.paths.now in
    let items = map agg_of c.args.items.now in
    let there : All (λ f. f < length n.numbers) n.firsts = subst (All (λ f. f < length n.numbers)) c.firsts-firsts.ensures.value c.firsts-firsts.ensures.there in
    let K : seen_columns c.as_slice.result.now ≡ key_columns w ps (at_places l n.firsts) = ap seen_columns c.as_slice.ensures.value ∙ c.in_ok-keys.ensures.value ∙ (λ i. key_columns (c.store.ensures.value i) ps (at_places l (c.firsts-firsts.ensures.value i))) in
    let appended : c.append.new.self.items ≡ c.in_ok-columns.columns.items ++ c.in_ok-behind.behind.items = search rules in
    let G : given c.append.new.self.items ≡ map (listed_column w l n) items ++ zip ps (key_columns w ps (at_places l n.firsts)) =
    ap given appended
    ∙ map-append (λ (x : Path × Vec Value). (x.0, x.1.items)) c.in_ok-columns.columns.items c.in_ok-behind.behind.items
    ∙ (λ i. c.in_ok-columns.ensures i ++ (c.in_ok-behind.ensures ∙ ap (zip ps) K) i) in
    IfOk-weaker c.of_columns.result _ (λ f. f ≡ level_totals w items l (level_on w l ps))
    (λ f e. e ∙ (λ i. map (row_across (G i)) (places (c.len.ensures.value i))) ∙ rows-across w ps l n c.requires.numbered there items c.requires.folded)
    c.of_columns.ensures.value
