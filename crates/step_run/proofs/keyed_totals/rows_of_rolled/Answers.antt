use Rattle.std.proofs.Common.{◌≡◌, ◌∙◌, ◌<◌, [], ℕ, ap, get_or, refl, sym, subst, arith, length, map}
use Rattle.std.specs.Prelude.{All, IfOk, IfSome, flat_map}
use Rattle.edm_values.specs.declared.Value.TheVariants.{Null}
use Rattle.edm_values.specs.Lists.{at_places, places}
use Rattle.apply_ast.specs.Views.{agg_of}
use Rattle.context_typing.specs.Readings.{readings}
use Rattle.numbered_groups.specs.Numbered.{places_with}
use Rattle.step_run.specs.Conditions.{ItemsRun}
use Rattle.step_run.specs.Contexts.{Context}
use Rattle.step_run.specs.KeyedTotals.{AreNodesOfAll, AreOfNumbers, AreRowsOfKeys, AreSeenLists, KeyedReady, rolled_rows}
use Rattle.step_run.proofs.KeyedLaws.{numbers-long}
use Rattle.step_run.proofs.KeyedParts.{all-nodes, all-numbered, members-within, nodes-of_all, parts-long, parts-there, seen_of}
use Rattle.step_run.proofs.keyed_totals.rows_of_rolled.Goals as goal

pub node_members-requires : goal.node_members-requires
node_members-requires g c =
    let w = c.args.context.now.world in
    let l = c.args.rows.now in
    let n = c.args.keyed.now.groups in
    let ms = c.as_slice-members.result.now in
    let M : map (λ v. v.items) ms ≡ map (places_with n.numbers) (places (length n.firsts)) = ap (map (λ v. v.items)) c.as_slice-members.ensures.value ∙ c.in_ok-members.ensures.lists in
    let size : length ms ≡ length n.firsts = ap length c.as_slice-members.ensures.value ∙ c.in_ok-members.ensures.size in
    let whole = numbers-long w c.args.plain.now l n c.requires.numbered in
    members-within n.numbers (length n.firsts) ms M size (length c.args.nodes.now) (c.requires.long ∙ sym whole)

pub rows_of_keys-requires-clause-within : goal.rows_of_keys-requires-clause-within
rows_of_keys-requires-clause-within g c κs within =
    let w = c.args.context.now.world in
    let l = c.args.rows.now in
    let n = c.args.keyed.now.groups in
    let ms = c.as_slice-members.result.now in
    let M : map (λ v. v.items) ms ≡ map (places_with n.numbers) (places (length n.firsts)) = ap (map (λ v. v.items)) c.as_slice-members.ensures.value ∙ c.in_ok-members.ensures.lists in
    let size : length ms ≡ length n.firsts = ap length c.as_slice-members.ensures.value ∙ c.in_ok-members.ensures.size in
    let whole = numbers-long w c.args.plain.now l n c.requires.numbered in
    members-within n.numbers (length n.firsts) ms M size (length l) (sym whole)

pub rows_of_keys-requires-clause-there : goal.rows_of_keys-requires-clause-there
rows_of_keys-requires-clause-there g c κs within =
    let w = c.args.context.now.world in
    let l = c.args.rows.now in
    let n = c.args.keyed.now.groups in
    let ms = c.as_slice-members.result.now in
    let M : map (λ v. v.items) ms ≡ map (places_with n.numbers) (places (length n.firsts)) = ap (map (λ v. v.items)) c.as_slice-members.ensures.value ∙ c.in_ok-members.ensures.lists in
    let size : length ms ≡ length n.firsts = ap length c.as_slice-members.ensures.value ∙ c.in_ok-members.ensures.size in
    let whole = numbers-long w c.args.plain.now l n c.requires.numbered in
    let ps = c.as_slice-parts.result.now in
    let P : map (λ v. v.items) ps ≡ map (λ v. at_places c.args.nodes.now v.items) ms = ap (map (λ v. v.items)) c.as_slice-parts.ensures.value ∙ c.in_ok-parts.ensures.value in
    parts-there n.numbers (length n.firsts) ms M size c.args.nodes.now ps P (λ n. IfSome n (λ y. y < length c.args.index.now)) c.requires.there

pub rows_of_keys-requires-clause-count : goal.rows_of_keys-requires-clause-count
rows_of_keys-requires-clause-count g c κs within =
    let w = c.args.context.now.world in
    let l = c.args.rows.now in
    let n = c.args.keyed.now.groups in
    let ms = c.as_slice-members.result.now in
    let M : map (λ v. v.items) ms ≡ map (places_with n.numbers) (places (length n.firsts)) = ap (map (λ v. v.items)) c.as_slice-members.ensures.value ∙ c.in_ok-members.ensures.lists in
    let size : length ms ≡ length n.firsts = ap length c.as_slice-members.ensures.value ∙ c.in_ok-members.ensures.size in
    let whole = numbers-long w c.args.plain.now l n c.requires.numbered in
    let ps = c.as_slice-parts.result.now in
    let P : map (λ v. v.items) ps ≡ map (λ v. at_places c.args.nodes.now v.items) ms = ap (map (λ v. v.items)) c.as_slice-parts.ensures.value ∙ c.in_ok-parts.ensures.value in
    parts-long n.numbers (length n.firsts) ms M size c.args.nodes.now ps P

pub rows_of_keys-requires-clause-long : goal.rows_of_keys-requires-clause-long
rows_of_keys-requires-clause-long g c κs within =
    ap (map (λ v. length v.items)) c.as_slice-parts.ensures.value ∙ c.in_ok-parts.ensures.long

pub rows_of_keys-requires-clause-seen : goal.rows_of_keys-requires-clause-seen
rows_of_keys-requires-clause-seen g c κs within =
    subst (λ vs. AreSeenLists c.args.context.now.world c.args.rows.now (map agg_of c.as_slice-items.result.now) (map seen_of vs)) (sym c.as_slice-seen.ensures.value) c.in_ok-seen.ensures.seen

pub rows_of_keys-requires-clause-ready : goal.rows_of_keys-requires-clause-ready
rows_of_keys-requires-clause-ready g c κs within =
    λ js. (c.requires.ready.0, subst (λ is. ItemsRun c.args.context.now c.args.root.now c.requires.ready.0 (map agg_of is) (at_places c.args.rows.now js)) (sym c.as_slice-items.ensures.value) (c.requires.ready.1 js [] Null).0)

pub rows_at_nodes-requires-clause-all : goal.rows_at_nodes-requires-clause-all
rows_at_nodes-requires-clause-all g c κs within =
    let w = c.args.context.now.world in
    let l = c.args.rows.now in
    let n = c.args.keyed.now.groups in
    let ms = c.as_slice-members.result.now in
    let M : map (λ v. v.items) ms ≡ map (places_with n.numbers) (places (length n.firsts)) = ap (map (λ v. v.items)) c.as_slice-members.ensures.value ∙ c.in_ok-members.ensures.lists in
    let size : length ms ≡ length n.firsts = ap length c.as_slice-members.ensures.value ∙ c.in_ok-members.ensures.size in
    let whole = numbers-long w c.args.plain.now l n c.requires.numbered in
    let ps = c.as_slice-parts.result.now in
    let P : map (λ v. v.items) ps ≡ map (λ v. at_places c.args.nodes.now v.items) ms = ap (map (λ v. v.items)) c.as_slice-parts.ensures.value ∙ c.in_ok-parts.ensures.value in
    let items = map agg_of c.as_slice-items.result.now in
    let all = c.as_slice-all.result.now in
    let A = subst (AreRowsOfKeys w items l c.args.index.now (map (λ v. v.items) ps) (map (λ v. v.items) ms)) (sym c.as_slice-all.ensures.value) c.in_ok-all.ensures.each in
    let long = ap length c.as_slice-all.ensures.value ∙ c.in_ok-all.ensures.count in
    let there = subst (λ ns. All (λ m. m < length n.firsts) ns) c.numbers-numbers.ensures.value c.numbers-numbers.ensures.there in
    subst (λ (x : Context). AreOfNumbers x.world items c.args.plain.now l c.numbers-numbers.result.now all) (sym c.alone-inner.ensures.value)
    (subst (λ ns. AreOfNumbers w items c.args.plain.now l ns all) (sym c.numbers-numbers.ensures.value)
    (all-numbered w items c.args.plain.now l n c.requires.numbered there c.args.index.now c.args.nodes.now ms ps M size P all long A))

pub rows_at_nodes-requires-clause-nodes : goal.rows_at_nodes-requires-clause-nodes
rows_at_nodes-requires-clause-nodes g c κs within =
    let w = c.args.context.now.world in
    let l = c.args.rows.now in
    let n = c.args.keyed.now.groups in
    let ms = c.as_slice-members.result.now in
    let M : map (λ v. v.items) ms ≡ map (places_with n.numbers) (places (length n.firsts)) = ap (map (λ v. v.items)) c.as_slice-members.ensures.value ∙ c.in_ok-members.ensures.lists in
    let size : length ms ≡ length n.firsts = ap length c.as_slice-members.ensures.value ∙ c.in_ok-members.ensures.size in
    let whole = numbers-long w c.args.plain.now l n c.requires.numbered in
    let ps = c.as_slice-parts.result.now in
    let P : map (λ v. v.items) ps ≡ map (λ v. at_places c.args.nodes.now v.items) ms = ap (map (λ v. v.items)) c.as_slice-parts.ensures.value ∙ c.in_ok-parts.ensures.value in
    let items = map agg_of c.as_slice-items.result.now in
    let all = c.as_slice-all.result.now in
    let A = subst (AreRowsOfKeys w items l c.args.index.now (map (λ v. v.items) ps) (map (λ v. v.items) ms)) (sym c.as_slice-all.ensures.value) c.in_ok-all.ensures.each in
    let long = ap length c.as_slice-all.ensures.value ∙ c.in_ok-all.ensures.count in
    let there = subst (λ ns. All (λ m. m < length n.firsts) ns) c.numbers-numbers.ensures.value c.numbers-numbers.ensures.there in
    λ j e h. all-nodes w items c.args.plain.now l n c.requires.numbered there c.args.index.now c.args.nodes.now ms ps M size P all long A (length c.args.index.now) refl (get_or c.args.rolled.now j e).0 (c.requires.nodes j e h)

pub rows_at_nodes-requires-clause-ready : goal.rows_at_nodes-requires-clause-ready
rows_at_nodes-requires-clause-ready g c κs within =
    subst (λ (x : Context). KeyedReady x c.args.root.now (map agg_of c.as_slice-items.result.now) c.args.plain.now c.args.path.now c.args.rows.now) (sym c.alone-inner.ensures.value)
    (subst (λ is. KeyedReady c.args.context.now c.args.root.now (map agg_of is) c.args.plain.now c.args.path.now c.args.rows.now) (sym c.as_slice-items.ensures.value) c.requires.ready)

pub returns-clause-rows : goal.returns-clause-rows
returns-clause-rows g c =
    λ f S are root.
    let w = c.args.context.now.world in
    let l = c.args.rows.now in
    let n = c.args.keyed.now.groups in
    let ms = c.as_slice-members.result.now in
    let M : map (λ v. v.items) ms ≡ map (places_with n.numbers) (places (length n.firsts)) = ap (map (λ v. v.items)) c.as_slice-members.ensures.value ∙ c.in_ok-members.ensures.lists in
    let size : length ms ≡ length n.firsts = ap length c.as_slice-members.ensures.value ∙ c.in_ok-members.ensures.size in
    let whole = numbers-long w c.args.plain.now l n c.requires.numbered in
    let ps = c.as_slice-parts.result.now in
    let P : map (λ v. v.items) ps ≡ map (λ v. at_places c.args.nodes.now v.items) ms = ap (map (λ v. v.items)) c.as_slice-parts.ensures.value ∙ c.in_ok-parts.ensures.value in
    let items = map agg_of c.as_slice-items.result.now in
    let all = c.as_slice-all.result.now in
    let A = subst (AreRowsOfKeys w items l c.args.index.now (map (λ v. v.items) ps) (map (λ v. v.items) ms)) (sym c.as_slice-all.ensures.value) c.in_ok-all.ensures.each in
    let long = ap length c.as_slice-all.ensures.value ∙ c.in_ok-all.ensures.count in
    let there = subst (λ ns. All (λ m. m < length n.firsts) ns) c.numbers-numbers.ensures.value c.numbers-numbers.ensures.there in
    let nodes = nodes-of_all w items c.args.plain.now l n c.requires.numbered there c.args.index.now c.args.nodes.now ms ps M size P all long A f c.args.path.now c.args.set are in
    let r = c.rows_at_nodes.ensures.rows f S are.set_is
    (subst (λ (x : Context). AreNodesOfAll x.world f c.args.path.now l c.args.set c.numbers-numbers.result.now all) (sym c.alone-inner.ensures.value)
    (subst (λ ns. AreNodesOfAll w f c.args.path.now l c.args.set ns all) (sym c.numbers-numbers.ensures.value) nodes)) root in
    subst (λ (x : Context). IfOk c.rows_at_nodes.result (λ v. v.items ≡ flat_map (rolled_rows x.world (readings x.customs) S f (map agg_of c.args.keyed.now.items.now) c.args.plain.now c.args.path.now l) c.args.rolled.now)) c.alone-inner.ensures.value
    (subst (λ is. IfOk c.rows_at_nodes.result (λ v. v.items ≡ flat_map (rolled_rows c.alone-inner.result.world (readings c.alone-inner.result.customs) S f (map agg_of is) c.args.plain.now c.args.path.now l) c.args.rolled.now)) c.as_slice-items.ensures.value r)
