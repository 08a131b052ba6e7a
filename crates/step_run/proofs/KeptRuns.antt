-- A grouping without a recursive rollup is what its inner pipeline makes of the groups of its levels.
use Rattle.std.proofs.Common.{◌≡◌, ℕ, Bool, true, false, refl, ◌∙◌, ap, subst, List, [], Option, None, Ok, Err, map, inl, inr}
use Rattle.std.specs.declared.result.Result as result
use Rattle.edm_values.specs.declared.refusals.Refused.{Refused}
use Rattle.edm_values.specs.declared.refusals.Refused.TheVariants.{Range, Memory}
use Rattle.apply_ast.specs.Trees.{Keys, OptPipe, Pipe, Step}
use Rattle.context_typing.specs.Readings.{readings}
use Rattle.context_typing.specs.Shapes.{Shape}
use Rattle.context_typing.specs.Typing.{group_keys, key_paths, plain_paths, rollup_part}
use Rattle.apply_meaning.specs.Instances.{Instance}
use Rattle.apply_meaning.specs.Meaning.{joined, mean, step_mean}
use Rattle.apply_meaning.specs.MeaningLaws.{IsLoaded}
use Rattle.row_frames.specs.Frames.{GivesFrame}
use Rattle.group_rollup.specs.Groupings.{has_beyond_key}
use Rattle.step_run.proofs.GroupingLevels.{flat-by, flat-part}
use Rattle.step_run.proofs.GroupingRun.{placed, step-mean-on, step-runs-on}
use Rattle.step_run.proofs.KeyParts.{all-shown}
use Rattle.step_run.proofs.LevelLemmas.{levels-mean, levels-refused, levels-run}
use Rattle.step_run.specs.Conditions.{LevelsReady, LevelsRun, StepRunsFrom}
use Rattle.step_run.specs.Contexts.{Context}
use Rattle.step_run.specs.KeptGroups.{GivesLevelsMade}
use Rattle.step_run.specs.Levels.{level_made, level_on, levels_of, levels_on}
use Rattle.step_run.specs.RecursiveKeys.{are_flat_keys}

module _ (x : Context) (root : Option ℕ) (ks : Keys) (T : Pipe) (flat : are_flat_keys ks ≡ true) (l : List Instance) (s : Step) (is : s ≡ Step.GroupBy ks (OptPipe.SomePipe T)) (S S' : Shape) (run : StepRunsFrom x root S S' s l) where
  abbrev grouping : Step
  grouping = Step.GroupBy ks (OptPipe.SomePipe T)

  R : StepRunsFrom x root S S' grouping l
  R = step-runs-on is refl run

  levels-are : levels_on x.world ks [] l ≡ map (level_on x.world l) (levels_of ks)
  levels-are = flat-by x.world (rollup_part (group_keys ks)) (plain_paths ks) l (flat-part ks flat)

  -- the inner pipeline runs on the groups of each level
  pub levels-go : IsLoaded x.world → (G : Shape) × LevelsRun x root S G (map (level_on x.world l) (levels_of ks)) T l
  levels-go L = let u = levels-run x root S S' ks T l [] L (placed R) R in (u.0, subst (λ ls. LevelsRun x root S u.0 ls T l) levels-are u.1)

  pub levels-ready : IsLoaded x.world → LevelsReady x root (map (level_on x.world l) (levels_of ks)) T l
  levels-ready L = let u = levels-go L in (S, u.0, u.1)

  made-is : has_beyond_key x.world (key_paths (group_keys ks)) l ≡ false → step_mean x.world (readings x.customs) S s l ≡ joined (map (level_made (mean x.world (readings x.customs) S T) l) (map (level_on x.world l) (levels_of ks)))
  made-is sure =
      step-mean-on x S is refl
      ∙ levels-mean x.world (readings x.customs) S ks T l [] (placed R) (all-shown x.world (readings x.customs) ks flat) sure
      ∙ ap (λ ls. joined (map (level_made (mean x.world (readings x.customs) S T) l) ls)) levels-are

  beyond-is : has_beyond_key x.world (key_paths (group_keys ks)) l ≡ true → step_mean x.world (readings x.customs) S s l ≡ None
  beyond-is t = step-mean-on x S is refl ∙ levels-refused x.world (readings x.customs) S ks (OptPipe.SomePipe T) l t

  none-is : (b : Bool) → has_beyond_key x.world (key_paths (group_keys ks)) l ≡ b → joined (map (level_made (mean x.world (readings x.customs) S T) l) (map (level_on x.world l) (levels_of ks))) ≡ None → step_mean x.world (readings x.customs) S s l ≡ None
  none-is true t none = beyond-is t
  none-is false sure none = made-is sure ∙ none

  -- what is made of the groups of all levels is what the grouping means
  pub levels-give : (r : result.Result (List Instance) Refused) → GivesLevelsMade r x.world ks (mean x.world (readings x.customs) S T) l → GivesFrame r (step_mean x.world (readings x.customs) S s l)
  levels-give (Ok f) t = made-is t.1 ∙ t.0
  levels-give (Err Range) (inl none) = none-is (has_beyond_key x.world (key_paths (group_keys ks)) l) refl none
  levels-give (Err Range) (inr t) = beyond-is t
  levels-give (Err Memory) t = tt
