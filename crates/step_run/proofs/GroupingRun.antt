-- Groupings whose levels were found.
use Rattle.std.proofs.Common.{◌≡◌, ℕ, ◌+◌, ◌≤◌, sym, ◌∙◌, ap, subst, true, IsTrue, List, length, map, Some, arith}
use Rattle.std.specs.Prelude.{Ok, Option, flat_map, sum, ◌==◌}
use Rattle.std.specs.Global.{Vec}
use Rattle.std.specs.List.{list_all}
use Rattle.std.proofs.lemmas.Bool.{and_parts}
use Rattle.edm_values.proofs.OptionFacts.{some_and}
use Rattle.edm_values.specs.Lists.{is_some_and}
use Rattle.edm_data.specs.Worlds.{World}
use Rattle.apply_ast.specs.Trees.{Key, Keys, OptPipe, Pipe, Step}
use Rattle.context_typing.proofs.TypingEquations.{key_typed-Recursive}
use Rattle.context_typing.specs.Readings.{readings}
use Rattle.context_typing.specs.Shapes.{Shape, set_shape}
use Rattle.context_typing.specs.Typing.{Customs, group_keys, hierarchy_at, inner_shape, is_node_path, key_typed, keys_typed, rollup_part, root_type}
use Rattle.apply_meaning.specs.Instances.{Instance}
use Rattle.apply_meaning.specs.Meaning.{joined, keyed, mean, step_mean}
use Rattle.apply_meaning.specs.MeaningLaws.{IsLoaded}
use Rattle.apply_meaning.specs.RowViews.{columns_differ}
use Rattle.step_run.proofs.LevelLemmas.{IsPlaced, keys-ready, levels-cost, levels-differ, levels-keys, levels-keys_cost, levels-mean, levels-run}
use Rattle.step_run.specs.Conditions.{LevelsRun, StepRunsFrom}
use Rattle.step_run.specs.Contexts.{Context}
use Rattle.step_run.specs.Costs.{application, cost, keys_cost, step_cost}
use Rattle.step_run.specs.Levels.{GivesLevels, Level, level_lists, level_made, level_rows, levels_on}

-- the hierarchy of a typed recursive rollup is in the model
placed-of : (w : World) (c : Customs) (S : Shape) (ks : Keys) → keys_typed w.model c S ks ≡ true → IsPlaced w (rollup_part (group_keys ks))
unfolding key_typed keys_typed
placed-of w c S Keys.NoKeys h = tt
placed-of w c S (Keys.MoreKeys (Key.Plain p) ks) h = placed-of w c S ks (and_parts (key_typed w.model c S (Key.Plain p)) (keys_typed w.model c S ks) h).1
placed-of w c S (Keys.MoreKeys (Key.Rollup all ps) ks) h = tt
placed-of w c S (Keys.MoreKeys (Key.Recursive x p T) ks) h =
    let t = and_parts (is_node_path w.model S x p) _ (sym (key_typed-Recursive w.model c S x p T) ∙ (and_parts (key_typed w.model c S (Key.Recursive x p T)) (keys_typed w.model c S ks) h).0) in
    let own = some_and (λ f. is_some_and (λ N. is_some_and (λ t. t == f.type) (root_type N)) (inner_shape w.model c (set_shape f.type) (set_shape f.type) T)) (hierarchy_at w.model x) t.1 in
    (own.0, own.1)

pub placed : {x : Context} {root : Option ℕ} {S S' : Shape} {ks : Keys} {T : OptPipe} {l : List Instance} → StepRunsFrom x root S S' (Step.GroupBy ks T) l → IsPlaced x.world (rollup_part (group_keys ks))
placed {x = x} {root = root} {S = S} {S' = S'} {ks = ks} {T = T} {l = l} R = let t = keys-ready x root S S' ks T l R in placed-of x.world (readings x.customs) t.shape ks t.typed

-- the same step on the same instances
pub step-runs-on : {x : Context} {root : Option ℕ} {S S' : Shape} {s s' : Step} {l l' : List Instance} → s ≡ s' → l' ≡ l → StepRunsFrom x root S S' s l → StepRunsFrom x root S S' s' l'
step-runs-on {x = x} {root = root} {S = S} {S' = S'} {s' = s'} {l = l} e same R = subst (λ l. StepRunsFrom x root S S' s' l) (sym same) (subst (λ s. StepRunsFrom x root S S' s l) e R)

pub step-mean-on : (x : Context) (S : Shape) {s s' : Step} {l l' : List Instance} → s ≡ s' → l' ≡ l → step_mean x.world (readings x.customs) S s l ≡ step_mean x.world (readings x.customs) S s' l'
step-mean-on x S {s' = s'} {l = l} e same = ap (λ s. step_mean x.world (readings x.customs) S s l) e ∙ ap (step_mean x.world (readings x.customs) S s') (sym same)

pub step-cost-on : (x : Context) (S : Shape) {s s' : Step} {l l' : List Instance} → s ≡ s' → l' ≡ l → step_cost x.world (readings x.customs) S s l ≡ step_cost x.world (readings x.customs) S s' l'
step-cost-on x S {s' = s'} {l = l} e same = ap (λ s. step_cost x.world (readings x.customs) S s l) e ∙ ap (step_cost x.world (readings x.customs) S s') (sym same)

-- a grouping without an inner pipeline is the rows of its levels, whose columns differ
pub record LevelsFound (x : Context) (S : Shape) (ks : Keys) (l : List Instance) (levels : List Level) : Type 0 where
  pub differ : IsTrue (list_all (λ level. list_all (λ g. columns_differ (keyed level.0 g.0)) level.1) levels)
  pub rows : step_mean x.world (readings x.customs) S (Step.GroupBy ks OptPipe.NoPipe) l ≡ Some (flat_map level_rows levels)
  pub costs : keys_cost x.world (readings x.customs) ks + length (flat_map level_rows levels) ≤ step_cost x.world (readings x.customs) S (Step.GroupBy ks OptPipe.NoPipe) l

pub levels-found : {x : Context} {root : Option ℕ} {S S' : Shape} {ks : Keys} {T : OptPipe} {l : List Instance} {levels : List Level} (v : Vec Level) → StepRunsFrom x root S S' (Step.GroupBy ks T) l
    → GivesLevels (Ok v) x.world (readings x.customs) ks l → levels ≡ v.items → LevelsFound x S ks l levels
levels-found {x = x} {root = root} {S = S} {S' = S'} {ks = ks} {T = T} {l = l} {levels = levels} v R found e =
    let w = x.world in
    let c = readings x.customs in
    let at = placed R in
    let are : levels ≡ levels_on w ks found.0 l = e ∙ found.2 in
    let least = levels-keys_cost w c S ks l found.0 at found.1 found.3 in
    let same = ap (λ ls. length (flat_map level_rows ls)) are in
    record {
      differ = ap (λ (ls : List Level). list_all (λ (level : Level). list_all (λ g. columns_differ (keyed level.0 g.0)) level.1) ls) are ∙ levels-differ x root S S' ks T l found.0 at R;
      rows = levels-keys w c S ks l found.0 at found.1 found.3 ∙ ap (λ ls. Some (flat_map level_rows ls)) (sym are);
      costs = omega (arith, least, same);
    }

-- one with an inner pipeline is what this makes of the groups of its levels
pub record GroupingRun (x : Context) (root : Option ℕ) (S : Shape) (ks : Keys) (T : Pipe) (l : List Instance) (levels : List Level) : Type 0 where
  pub shape : Shape
  pub runs : LevelsRun x root S shape levels T l
  pub means : step_mean x.world (readings x.customs) S (Step.GroupBy ks (OptPipe.SomePipe T)) l ≡ joined (map (level_made (mean x.world (readings x.customs) S T) l) levels)
  pub costs : keys_cost x.world (readings x.customs) ks + sum (map (application (cost x.world (readings x.customs) S T) (mean x.world (readings x.customs) S T)) (flat_map (level_lists l) levels))
      ≤ step_cost x.world (readings x.customs) S (Step.GroupBy ks (OptPipe.SomePipe T)) l

pub grouping-run : {x : Context} {root : Option ℕ} {S S' : Shape} {ks : Keys} {T : Pipe} {l : List Instance} {levels : List Level} (v : Vec Level) → IsLoaded x.world → GivesLevels (Ok v) x.world (readings x.customs) ks l → levels ≡ v.items
    → StepRunsFrom x root S S' (Step.GroupBy ks (OptPipe.SomePipe T)) l → GroupingRun x root S ks T l levels
grouping-run {x = x} {root = root} {S = S} {S' = S'} {ks = ks} {T = T} {l = l} {levels = levels} v L found e R =
    let w = x.world in
    let c = readings x.customs in
    let at = placed R in
    let are : levels ≡ levels_on w ks found.0 l = e ∙ found.2 in
    let u = levels-run x root S S' ks T l found.0 L at R in
    let least = levels-cost w c S ks T l found.0 at found.1 in
    let same = ap (λ ls. sum (map (application (cost w c S T) (mean w c S T)) (flat_map (level_lists l) ls))) are in
    record {
      shape = u.0;
      runs = subst (λ ls. LevelsRun x root S u.0 ls T l) (sym are) u.1;
      means = levels-mean w c S ks T l found.0 at found.1 found.3 ∙ ap (λ ls. joined (map (level_made (mean w c S T) l) ls)) (sym are);
      costs = omega (arith, least, same);
    }
