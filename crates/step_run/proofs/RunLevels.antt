-- Runs over the levels of a grouping, and over the groups of a level.
use Rattle.std.proofs.Common.{◌≡◌, ℕ, ◌+◌, ◌<◌, ◌≤◌, sym, ◌∙◌, ap, subst, Err, List, [], ◌∷◌, ◌++◌, length, drop, map, get_or, Option, Some, None, arith, inl, inr}
use Rattle.std.specs.Prelude.{flat_map, option_map, slice_get, sum}
use Rattle.std.proofs.Math.ListN.{drop_of_length-le}
use Rattle.std.proofs.lemmas.List.{map-append}
use Rattle.std.proofs.lemmas.Option.{get_or_from_slice_get, slice_get-get_or}
use Rattle.std.proofs.lemmas.Simd.{map-map}
use Rattle.edm_values.proofs.OptionFacts.{some_value}
use Rattle.edm_values.specs.declared.Value.{Value}
use Rattle.edm_values.specs.declared.refusals.Refused.{Refused}
use Rattle.edm_values.specs.declared.refusals.Refused.TheVariants.{Range, Memory}
use Rattle.edm_values.specs.Lists.{at_places}
use Rattle.edm_data.specs.Worlds.{World}
use Rattle.apply_ast.specs.Trees.{Keys, OptPipe, Pipe, Step}
use Rattle.context_typing.specs.Readings.{readings}
use Rattle.context_typing.specs.Shapes.{Shape}
use Rattle.context_typing.specs.Typing.{Customs}
use Rattle.apply_meaning.proofs.MeanLemmas.{fit-at_places}
use Rattle.apply_meaning.specs.Instances.{Instance}
use Rattle.apply_meaning.specs.Meaning.{Outcome, joined, mean, step_mean}
use Rattle.apply_meaning.specs.Running.{Gives}
use Rattle.step_run.specs.Conditions.{GroupRuns, LevelsRun, RunsFrom, charge_of}
use Rattle.step_run.specs.Contexts.{Context}
use Rattle.step_run.specs.Costs.{application, cost}
use Rattle.step_run.specs.Levels.{GivesLevels, Level, level_lists}
use Rattle.step_run.proofs.LevelLemmas.{levels-refused, shown-refused}
use Rattle.step_run.proofs.GroupLemmas.{ended, joined-some, moved, next-flat, next-map, next-sum, sum-cons}

-- the element at a place
pub slice-at : {X : Type 0} (xs : List X) (n : ℕ) (d : X) → n < length xs → d ≡ get_or xs n d → slice_get xs n ≡ Some d
slice-at xs n d h e = slice_get-get_or xs n d h ∙ ap Some (sym e)

-- ---- the groups of a level

pub sum-append : (xs ys : List ℕ) → sum (xs ++ ys) ≡ sum xs + sum ys
sum-append [] ys = let e : sum ys ≡ 0 + sum ys = omega arith in e
sum-append (x ∷ xs) ys = let a = sum-cons x (xs ++ ys) in let b = sum-cons x xs in let u = sum-append xs ys in omega (arith, a, b, u)

-- the next part of a sum over lists of lists
pub next-total : {X Y : Type 0} (f : Y → ℕ) (g : X → List Y) (xs : List X) (i : ℕ) (d : X) → i < length xs → d ≡ get_or xs i d → sum (map f (flat_map g (drop i xs))) ≡ sum (map f (g d)) + sum (map f (flat_map g (drop (i + 1) xs)))
next-total f g xs i d h e =
    ap (λ ys. sum (map f ys)) (next-flat g xs i d h e) ∙ ap sum (map-append f (g d) (flat_map g (drop (i + 1) xs))) ∙ sum-append (map f (g d)) (map f (flat_map g (drop (i + 1) xs)))

-- ---- lists joined, from one to the next

pub next-joined : {X : Type 0} (f : X → Outcome) (xs : List X) (i : ℕ) (d : X) (a : List Instance) (o : Outcome) (r : List Instance) → i < length xs → d ≡ get_or xs i d
    → o ≡ option_map (λ rest. a ++ rest) (joined (map f (drop i xs))) → f d ≡ Some r → o ≡ option_map (λ rest. (a ++ r) ++ rest) (joined (map f (drop (i + 1) xs)))
next-joined f xs i d a o r h e total m =
    let rest = map f (drop (i + 1) xs) in
    total
    ∙ ap (λ os. option_map (λ rest. a ++ rest) (joined os)) (next-map f xs i d h e ∙ ap (λ y. y ∷ rest) m)
    ∙ ap (option_map (λ rest. a ++ rest)) (joined-some r rest)
    ∙ moved a r (joined rest)

pub next-refused : {X : Type 0} (f : X → Outcome) (xs : List X) (i : ℕ) (d : X) (a : List Instance) (o : Outcome) → i < length xs → d ≡ get_or xs i d
    → o ≡ option_map (λ rest. a ++ rest) (joined (map f (drop i xs))) → f d ≡ None → o ≡ None
next-refused f xs i d a o h e total m =
    total ∙ ap (λ os. option_map (λ rest. a ++ rest) (joined os)) (next-map f xs i d h e ∙ ap (λ y. y ∷ map f (drop (i + 1) xs)) m)

pub last-joined : {X : Type 0} (f : X → Outcome) (xs : List X) (i : ℕ) (a : List Instance) (o : Outcome) → length xs ≤ i → o ≡ option_map (λ rest. a ++ rest) (joined (map f (drop i xs))) → o ≡ Some a
last-joined f xs i a o h total = total ∙ ap (λ ys. option_map (λ rest. a ++ rest) (joined (map f ys))) (drop_of_length-le xs h) ∙ ended a

-- ---- a run from one group, or one level, to the next

-- the inner pipeline runs on copies of the rows of a group
pub record GroupRun (x : Context) (root : Option ℕ) (S G : Shape) (p : Pipe) (l : List Instance) (g : List Value × List ℕ) (places : List ℕ) (copies : List Instance) : Type 0 where
  pub few : length (at_places l places) ≡ length (at_places l g.1)
  pub runs : RunsFrom x root S G p copies
  pub means : mean x.world (readings x.customs) S p (at_places l g.1) ≡ mean x.world (readings x.customs) S p copies
  pub costs : cost x.world (readings x.customs) S p copies ≡ cost x.world (readings x.customs) S p (at_places l g.1)

-- what the program reads of a group
pub read-places : (gs : List (List Value × List ℕ)) (k : ℕ) (g : List Value × List ℕ) (places : List ℕ) → slice_get gs k ≡ Some g → Some places ≡ option_map (λ g. g.1) (slice_get gs k) → places ≡ g.1
read-places gs k g places at found = some_value (found ∙ ap (option_map (λ (g : List Value × List ℕ). g.1)) at)

pub read-key : (gs : List (List Value × List ℕ)) (k : ℕ) (g : List Value × List ℕ) (key : List Value) → slice_get gs k ≡ Some g → Some key ≡ option_map (λ g. g.0) (slice_get gs k) → key ≡ g.0
read-key gs k g key at found = some_value (found ∙ ap (option_map (λ (g : List Value × List ℕ). g.0)) at)

pub group-run : {x : Context} {root : Option ℕ} {S G : Shape} {p : Pipe} {level : Level} {l : List Instance} {g : List Value × List ℕ} {places : List ℕ} {copies : List Instance} (k : ℕ) → GroupRuns x root S G level p l
    → slice_get level.1 k ≡ Some g → Some places ≡ option_map (λ g. g.1) (slice_get level.1 k) → copies ≡ at_places l places → GroupRun x root S G p l g places copies
group-run {x = x} {root = root} {S = S} {G = G} {p = p} {level = level} {l = l} {g = g} {places = places} {copies = copies} k R at found copied =
    let w = x.world in
    let c = readings x.customs in
    let whole : at_places l places ≡ at_places l g.1 = ap (at_places l) (read-places level.1 k g places at found) in
    let r = R.inner.runs in
    record {
      few = ap length whole;
      runs = subst (RunsFrom x root S G p) (sym copied)
          (record { runs = record { customs = r.customs; lawful = r.lawful; typed = r.typed; fit = fit-at_places w S l places r.fit }; root_is = R.inner.root_is });
      means = ap (mean w c S p) (sym (copied ∙ whole));
      costs = ap (cost w c S p) (copied ∙ whole);
    }

-- the next group of a level
pub record NextGroup (x : Context) (S : Shape) (level : Level) (p : Pipe) (l : List Instance) (k : ℕ) : Type 0 where
  pub group : List Value × List ℕ
  pub at : slice_get level.1 k ≡ Some group
  pub within : k < length level.1
  pub here : group ≡ get_or level.1 k group
  pub costs : sum (map (charge_of x S p l) (drop k level.1)) ≡ charge_of x S p l group + sum (map (charge_of x S p l) (drop (k + 1) level.1))

pub next-group : (x : Context) (S : Shape) (level : Level) (p : Pipe) (l : List Instance) (k n : ℕ) → k < n → n ≡ length level.1 → NextGroup x S level p l k
next-group x S level p l k n h counted =
    let within : k < length level.1 = omega (arith, h, counted) in
    let g = get_or level.1 k ([], []) in
    let at = slice_get-get_or level.1 k ([], []) within in
    let here = sym (get_or_from_slice_get level.1 k g g at) in
    record { group = g; at = at; within = within; here = here; costs = next-sum (charge_of x S p l) level.1 k g within here }

-- what the groups of a level count
pub total-charge : (x : Context) (S : Shape) (level : Level) (p : Pipe) (l : List Instance)
    → sum (map (charge_of x S p l) level.1) ≡ sum (map (application (cost x.world (readings x.customs) S p) (mean x.world (readings x.customs) S p)) (level_lists l level))
total-charge x S level p l = ap sum (sym (map-map (application (cost x.world (readings x.customs) S p) (mean x.world (readings x.customs) S p)) (λ (g : List Value × List ℕ). at_places l g.1) level.1))

-- the next level
pub next-level : {x : Context} {root : Option ℕ} {S G : Shape} {p : Pipe} {l : List Instance} (levels : List Level) (i : ℕ) (d : Level) → LevelsRun x root S G levels p l → i < length levels → d ≡ get_or levels i d → GroupRuns x root S G d p l
next-level levels i d R h e = R i d (slice-at levels i d h e)

-- what is counted of the levels from one to the next
pub level-costs : (x : Context) (S : Shape) (p : Pipe) (l : List Instance) (levels : List Level) (i : ℕ) (d : Level) → i < length levels → d ≡ get_or levels i d
    → sum (map (application (cost x.world (readings x.customs) S p) (mean x.world (readings x.customs) S p)) (flat_map (level_lists l) (drop i levels)))
    ≡ sum (map (application (cost x.world (readings x.customs) S p) (mean x.world (readings x.customs) S p)) (level_lists l d))
    + sum (map (application (cost x.world (readings x.customs) S p) (mean x.world (readings x.customs) S p)) (flat_map (level_lists l) (drop (i + 1) levels)))
level-costs x S p l levels i d h e = next-total (application (cost x.world (readings x.customs) S p) (mean x.world (readings x.customs) S p)) (level_lists l) levels i d h e

-- ---- a grouping that is refused

pub levels-err : (w : World) (c : Customs) (S : Shape) (ks : Keys) (T : OptPipe) (l : List Instance) (e : Refused) → GivesLevels (Err e) w c ks l → Gives (Err e) (step_mean w c S (Step.GroupBy ks T) l)
levels-err w c S ks T l Range (inl none) = shown-refused w c S ks T l none
levels-err w c S ks T l Range (inr beyond) = levels-refused w c S ks T l beyond
levels-err w c S ks T l Memory h = tt
