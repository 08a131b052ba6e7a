-- The run of a recursive rollup with plain keys whose groups an aggregation makes one row each.
use Rattle.std.proofs.Common.{◌≡◌, ℕ, ◌+◌, ◌≤◌, sym, ◌∙◌, ap, arith, Option, Ok, Err, None, Some, List, [], ◌∷◌, ◌++◌, length}
use Rattle.std.specs.Prelude.{option_map}
use Rattle.std.specs.declared.result.Result as result
use Rattle.std.specs.Global.{Vec}
use Rattle.edm_values.specs.declared.refusals.Refused.{Refused}
use Rattle.edm_values.specs.declared.refusals.Refused.TheVariants.{Range, Memory}
use Rattle.edm_values.specs.Names.{Path}
use Rattle.edm_values.specs.Refusals.{Returns}
use Rattle.edm_model.specs.LookUps.{HierarchyPlace}
use Rattle.apply_ast.specs.Trees.{AggItem, HierName, Key, Keys, OptPipe, Pipe, Step}
use Rattle.context_typing.specs.Readings.{readings}
use Rattle.context_typing.specs.Shapes.{Shape, set_shape}
use Rattle.context_typing.specs.Typing.{group_keys, hierarchy_at, key_paths, plain_paths}
use Rattle.apply_meaning.specs.Instances.{Instance, rows}
use Rattle.apply_meaning.specs.Meaning.{inner_mean, keys_shown, shown_of, step_mean}
use Rattle.apply_meaning.specs.MeaningLaws.{IsLoaded}
use Rattle.apply_meaning.specs.Running.{Gives}
use Rattle.row_orders.specs.Ranks.{GivesNumbers}
use Rattle.hier_states.specs.States.{IsReadyAt}
use Rattle.hier_states.specs.NamedHierarchies.{inner_hierarchies, keys_hierarchies, step_hierarchies}
use Rattle.pipe_run.proofs.ReadyParts.{ready-first, ready-front, ready-key, ready-others}
use Rattle.step_run.proofs.GroupingLevels.{shown-gives, shown-is, shown-least}
use Rattle.step_run.proofs.KeyParts.{Recursive, recursive}
use Rattle.step_run.proofs.KeyedRows.{keyed-beyond, keyed-cost, keyed-mean, keyed-ready, paths-are}
use Rattle.step_run.proofs.LevelLemmas.{keys-least, keys-ready, levels-refused}
use Rattle.step_run.proofs.RunLevels.{levels-err}
use Rattle.step_run.specs.Conditions.{AreReady, KeysReady, StepRunsFrom}
use Rattle.step_run.specs.Contexts.{Context}
use Rattle.step_run.specs.Costs.{given_applications, step_cost}
use Rattle.step_run.specs.GroupTotals.{grouped_step}
use Rattle.step_run.specs.KeyedTotals.{GivesKeyed, KeyedReady, keyed_totals}
use Rattle.step_run.specs.RecursiveKeys.{HasKey}

module _ (x : Context) (h : HierName) (p : Path) (T : OptPipe) (ks : Keys) (items : List AggItem) (has : HasKey (Key.Recursive h p T) ks) where
  abbrev inner : OptPipe
  inner = OptPipe.SomePipe (Pipe.Then (Step.Aggregate items) Pipe.End)

  -- the hierarchies that are named among the keys are ready
  pub keyed-named : AreReady x (step_hierarchies (grouped_step ks items)) → AreReady x (inner_hierarchies T)
  keyed-named named = ready-others x h (inner_hierarchies T) (ready-key x (Key.Recursive h p T) ks has (ready-front x (keys_hierarchies ks) (inner_hierarchies inner) named))

  pub keyed-hier : AreReady x (step_hierarchies (grouped_step ks items)) → IsReadyAt x.world x.hiers h
  keyed-hier named = ready-first x h (inner_hierarchies T) (ready-key x (Key.Recursive h p T) ks has (ready-front x (keys_hierarchies ks) (inner_hierarchies inner) named))

  module _ (root : Option ℕ) (S S' : Shape) (l : List Instance) (R : StepRunsFrom x root S S' (grouped_step ks items) l) where
    typed : KeysReady x ks
    typed = keys-ready x root S S' ks inner l R

    pub keyed-found : Recursive x h T
    keyed-found = recursive x h p T ks has typed

    pub keyed-paths : key_paths (group_keys ks) ≡ plain_paths ks ++ p ∷ []
    keyed-paths = let u = keyed-found in paths-are x h p T ks has typed u.place u.at S items l []

    pub keyed-readied : IsLoaded x.world → KeyedReady x root items (plain_paths ks) p l
    keyed-readied L = keyed-ready x root S S' ks items p l keyed-paths L R

    module _ (f : HierarchyPlace) (at : hierarchy_at x.world.model h ≡ Some f) where
      pub keyed-err : (e : Refused) → GivesNumbers (Err e) (option_map shown_of (inner_mean x.world (readings x.customs) (set_shape f.type) (λ l. Some l) T (rows x.world f.set))) → Gives (Err e) (step_mean x.world (readings x.customs) S (grouped_step ks items) l)
      keyed-err e none = levels-err x.world (readings x.customs) S ks inner l e (shown-gives x h p T ks has typed f at e l none)

      pub keyed-least : given_applications x.world (readings x.customs) (set_shape f.type) T (rows x.world f.set ∷ []) ≤ step_cost x.world (readings x.customs) S (grouped_step ks items) l
      keyed-least =
          let own = shown-least x h p T ks f has at in
          let whole = keys-least x.world (readings x.customs) S ks inner l in
          omega (arith, own, whole)

      module _ (shown : List ℕ) (are : option_map shown_of (inner_mean x.world (readings x.customs) (set_shape f.type) (λ l. Some l) T (rows x.world f.set)) ≡ Some shown) where
        shown-are : keys_shown x.world (readings x.customs) ks ≡ Some shown
        shown-are = shown-is x h p T ks has typed f at ∙ are

        pub keyed-gives : (r : result.Result (Vec Instance) Refused) → GivesKeyed r x S f items (plain_paths ks) p shown l → Gives r (step_mean x.world (readings x.customs) S (grouped_step ks items) l)
        keyed-gives (Ok v) t = keyed-mean x h p T ks has typed f at S items l shown shown-are t.1 ∙ ap Some (sym t.0)
        keyed-gives (Err Range) t = levels-refused x.world (readings x.customs) S ks inner l (keyed-beyond x h p T ks has typed f at S items l shown t)
        keyed-gives (Err Memory) t = tt

        pub keyed-spent : given_applications x.world (readings x.customs) (set_shape f.type) T (rows x.world f.set ∷ []) + length (keyed_totals x.world (readings x.customs) S f items (plain_paths ks) p shown l)
            ≤ step_cost x.world (readings x.customs) S (grouped_step ks items) l
        keyed-spent =
            let own = shown-least x h p T ks f has at in
            let whole = keyed-cost x h p T ks has typed f at S items l shown shown-are in
            omega (arith, own, whole)

-- a refusal of the groups by the plain keys is one of the grouping
pub groups-refused : (x : Context) (s : Step) (l : List Instance) (e : Refused) → Returns (λ (v : Vec Instance). Unit {0}) ((S : Shape) → step_mean x.world (readings x.customs) S s l ≡ None) (Err e) → (S : Shape) → Gives (Err e) (step_mean x.world (readings x.customs) S s l)
groups-refused x s l Range h S = h S
groups-refused x s l Memory h S = tt

-- ---- the keys, as they stand in the tree

pub same-keys : (ks ks' : Keys) (T T' : OptPipe) → Step.GroupBy ks T ≡ Step.GroupBy ks' T' → ks ≡ ks'
same-keys ks ks' T T' e = cc
