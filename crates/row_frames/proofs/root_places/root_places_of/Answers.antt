use Rattle.std.proofs.Common.{rules, ℕ, ◌≡◌, ◌<◌, Option, Some, arith, length, map, subst, sym}
use Rattle.std.specs.Prelude.{IfSome, option_map}
use Rattle.edm_data.specs.Worlds.{entity_at}
use Rattle.apply_meaning.specs.Instances.{root_of}
use Rattle.row_frames.specs.declared.tables.Table.{Table}
use Rattle.row_frames.specs.Frames.{IsTable, all_picked, place_in, root_at}
use Rattle.row_frames.proofs.RootLemmas.{places-picked}
use Rattle.row_frames.proofs.root_places.root_places_of.Goals as goal

pub returns-in-Some : goal.returns-in-Some
returns-in-Some c =
    let ts = c.args.tables.now in
    let xs = c.args.picks.now in
    let t = c.index-tables-0.result in
    let one : length ts ≡ 1 = search rules in
    let less : 0 < length ts = omega (arith, one) in
    let is-table = subst IsTable (sym c.index-tables-0.is) (c.requires.tables 0 t less) in
    let root : (k : ℕ) → root_at t.roots k ≡ Some (entity_at c.in-Some._set (place_in t.roots k)) =
    λ k. subst (λ (o : Option ℕ). IfSome o (λ set. root_at t.roots k ≡ Some (entity_at set (place_in t.roots k)))) c.in-Some.is
    (subst (λ (u : Table). IfSome c.roots_set.result (λ set. root_at u.roots k ≡ Some (entity_at set (place_in u.roots k)))) (sym c.index-tables-0.is) (c.roots_set.ensures.set k)) in
    subst (λ (u : Table). map (λ i. option_map (λ e. e.at) (root_of i)) (all_picked ts xs) ≡ map (λ k. Some k) (map (λ x. place_in u.roots x.row) xs)) c.index-tables-0.is
    (places-picked ts t c.in-Some._set xs is-table one c.index-tables-0.is root c.requires.within)
