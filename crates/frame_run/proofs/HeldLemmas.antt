-- Rows that a plan has come to, made or not.
use Rattle.std.proofs.Common.{◌≡◌, ℕ, ◌+◌, ◌≤◌, ◌∙◌, ap, refl, List, length, Some, None, arith}
use Rattle.std.specs.declared.result.Result as result
use Rattle.std.specs.declared.result.Result.TheVariants.{Ok, Err}
use Rattle.edm_values.specs.declared.refusals.Refused.{Refused}
use Rattle.edm_values.specs.declared.refusals.Refused.TheVariants.{Range, Memory}
use Rattle.std.proofs.lemmas.List.{length-map}
use Rattle.edm_values.specs.Lists.{places}
use Rattle.edm_values.proofs.TopPlaces.{length-places}
use Rattle.edm_data.specs.Worlds.{World}
use Rattle.row_frames.specs.Related.{placed}
use Rattle.apply_ast.proofs.ViewEquations.{climb_of-is}
use Rattle.apply_ast.specs.Trees.{Step}
use Rattle.apply_ast.specs.Views.{climb_of, hier_of, pipe_of}
use Rattle.apply_ast.specs.declared.steps.ClimbStep as of_climb
use Rattle.context_typing.specs.Shapes.{Shape}
use Rattle.context_typing.specs.Typing.{Customs}
use Rattle.apply_meaning.specs.Instances.{Instance}
use Rattle.apply_meaning.specs.Meaning.{Outcome, step_mean}
use Rattle.apply_meaning.specs.Running.{Gives}
use Rattle.step_run.proofs.CostEquations.{inner_costs-Climb}
use Rattle.step_run.specs.Costs.{cost, inner_costs, result_length, step_cost}
use Rattle.step_run.specs.GroupTotals.{GivesFound}
use Rattle.frame_run.specs.HeldRows.{GivesHeld, first_of, owed_by}
use Rattle.frame_run.specs.declared.held.Held.{Held}
use Rattle.frame_run.specs.declared.held.Held.TheVariants as held

-- a refusal of a part is one of the whole
pub held-err : (e : Refused) (m m' : Outcome) → GivesHeld (Err e) m → (m ≡ None → m' ≡ None) → Gives (Err e) m'
held-err Range m m' h k = k h
held-err Memory m m' h k = tt

-- the same, where the whole may be rows that are not made
pub held-refused : (e : Refused) (m m' : Outcome) → GivesHeld (Err e) m → (m ≡ None → m' ≡ None) → GivesHeld (Err e) m'
held-refused Range m m' h k = k h
held-refused Memory m m' h k = tt

-- and where a frame was looked for
pub found-refused : (e : Refused) (m m' : Outcome) → GivesFound (Err e) m → (m ≡ None → m' ≡ None) → GivesHeld (Err e) m'
found-refused Range m m' h k = k h
found-refused Memory m m' h k = tt

-- the first entities of a set are so many
pub first-long : (s n : ℕ) → length (first_of s n) ≡ n
first-long s n = length-map (places n) (placed s) ∙ length-places n

-- a transformation costs no less than the rows that it gives
pub made-least : (w : World) (c : Customs) (S : Shape) (s : Step) (l r : List Instance) → step_mean w c S s l ≡ Some r → length r ≤ step_cost w c S s l
made-least w c S s l r m =
    let whole : step_cost w c S s l ≡ length r + inner_costs w c S s l = ap (λ o. result_length o + inner_costs w c S s l) m in
    omega (arith, whole)

-- and no less than the rows that are still to be made of what it gives
pub owed-least : (w : World) (c : Customs) (S : Shape) (s : Step) (l : List Instance) (r : result.Result Held Refused) → GivesHeld r (step_mean w c S s l) → owed_by r ≤ step_cost w c S s l
owed-least w c S s l (Ok (held.Set k n)) g = let least = made-least w c S s l (first_of k n) g in let long = first-long k n in omega (arith, least, long)
owed-least w c S s l (Ok (held.Frame f)) g = made-least w c S s l f g
owed-least w c S s l (Ok (held.Rows v)) g = omega arith
owed-least w c S s l (Err e) g = omega arith

-- what is still to be made is no more than what there is
pub owed-length : (r : result.Result Held Refused) (m : Outcome) → GivesHeld r m → owed_by r ≤ result_length m
owed-length (Ok (held.Set k n)) m g = let size : result_length m ≡ length (first_of k n) = ap result_length g in let long = first-long k n in omega (arith, size, long)
owed-length (Ok (held.Frame f)) m g = let n : result_length m ≡ length f = ap result_length g in omega (arith, n)
owed-length (Ok (held.Rows v)) m g = omega arith
owed-length (Err e) m g = omega arith

-- a transformation costs no less than the rows that are still to be made, and its inner pipelines
pub owed-beside : (w : World) (c : Customs) (S : Shape) (s : Step) (l : List Instance) (r : result.Result Held Refused) → GivesHeld r (step_mean w c S s l) → owed_by r + inner_costs w c S s l ≤ step_cost w c S s l
owed-beside w c S s l r g =
    let owes = owed-length r (step_mean w c S s l) g in
    let whole : step_cost w c S s l ≡ result_length (step_mean w c S s l) + inner_costs w c S s l = refl in
    omega (arith, owes, whole)

-- the inner pipeline of a climb costs no more than it
pub climb-inner : (w : World) (c : Customs) (S : Shape) (k : of_climb.ClimbStep) (l : List Instance) → length l + cost w c S (pipe_of k.inner) l ≤ inner_costs w c S (climb_of k) l
climb-inner w c S k l =
    let inner = ap (λ s. inner_costs w c S s l) (climb_of-is k) ∙ inner_costs-Climb w c S k.up (hier_of k.hier) k.path (pipe_of k.inner) k.distance k.keep l in
    omega (arith, inner)
