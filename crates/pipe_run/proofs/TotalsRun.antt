-- The run of a recursive rollup whose groups an aggregation makes one row each.
use Rattle.std.proofs.Common.{◌≡◌, ℕ, ◌+◌, ◌≤◌, refl, sym, ◌∙◌, ap, arith, Option, Ok, Err, Some, List, [], ◌∷◌, length, inl}
use Rattle.std.specs.Prelude.{map, option_map, slice_get}
use Rattle.std.specs.declared.result.Result as result
use Rattle.std.specs.Global.{Vec}
use Rattle.edm_values.specs.declared.refusals.Refused.{Refused}
use Rattle.edm_values.specs.declared.refusals.Refused.TheVariants.{Range, Memory}
use Rattle.edm_values.specs.Names.{Path}
use Rattle.edm_model.specs.LookUps.{HierarchyPlace}
use Rattle.edm_values.proofs.OptionFacts.{some_value}
use Rattle.apply_ast.proofs.ViewEquations.{keys_of-is}
use Rattle.apply_ast.specs.Views.{hier_of, inner_of, key_of, keys_from, keys_in, keys_of, pipe_of, step_of}
use Rattle.apply_ast.specs.declared.items.HierName as of_hier
use Rattle.apply_ast.specs.declared.steps.KeyItem as of_key
use Rattle.apply_ast.specs.declared.steps.KeyList as of_keys
use Rattle.apply_ast.specs.declared.steps.Pipe as of_pipe
use Rattle.apply_ast.specs.declared.steps.Step as of_step
use Rattle.apply_ast.specs.Trees.{AggItem, HierName, Key, Keys, OptPipe, Pipe, Step}
use Rattle.context_typing.specs.Readings.{readings}
use Rattle.context_typing.specs.Shapes.{Shape, set_shape}
use Rattle.context_typing.specs.Typing.{hierarchy_at}
use Rattle.apply_meaning.specs.Instances.{Instance, rows}
use Rattle.apply_meaning.specs.Meaning.{inner_mean, keys_shown, shown_of, step_mean}
use Rattle.apply_meaning.specs.Running.{Gives}
use Rattle.row_orders.specs.Ranks.{GivesNumbers}
use Rattle.hier_states.specs.States.{IsReadyAt}
use Rattle.hier_states.specs.NamedHierarchies.{inner_hierarchies, keys_hierarchies, step_hierarchies}
use Rattle.step_run.proofs.GroupingLevels.{shown-gives, shown-is, shown-least}
use Rattle.step_run.proofs.KeyParts.{Recursive, recursive}
use Rattle.step_run.proofs.LevelLemmas.{keys-least, keys-ready, levels-refused}
use Rattle.pipe_run.proofs.ReadyParts.{ready-first, ready-front, ready-key, ready-others}
use Rattle.step_run.proofs.RunLevels.{levels-err}
use Rattle.step_run.proofs.TotalLaws.{totals-cost, totals-mean}
use Rattle.step_run.specs.Conditions.{AreReady, KeysReady, StepRunsFrom}
use Rattle.step_run.specs.Contexts.{Context}
use Rattle.step_run.specs.Costs.{given_applications, step_cost}
use Rattle.step_run.specs.RecursiveKeys.{HasKey}
use Rattle.step_run.specs.Totals.{GivesTotals, totals, totals_step}

module _ (x : Context) (h : HierName) (p : Path) (T : OptPipe) (items : List AggItem) where
  abbrev key : Key
  key = Key.Recursive h p T

  abbrev ks : Keys
  ks = Keys.MoreKeys key Keys.NoKeys

  abbrev inner : OptPipe
  inner = OptPipe.SomePipe (Pipe.Then (Step.Aggregate items) Pipe.End)

  has : HasKey key ks
  has = inl refl

  -- the hierarchies that are named among the keys are ready
  pub key-named : AreReady x (step_hierarchies (totals_step h p T items)) → AreReady x (inner_hierarchies T) × AreReady x (keys_hierarchies ks)
  key-named named = (ready-others x h (inner_hierarchies T) (ready-key x key ks has (ready-front x (keys_hierarchies ks) (inner_hierarchies inner) named)), ready-front x (keys_hierarchies ks) (inner_hierarchies inner) named)

  pub hier-ready : AreReady x (step_hierarchies (totals_step h p T items)) → IsReadyAt x.world x.hiers h
  hier-ready named = ready-first x h (inner_hierarchies T) (ready-key x key ks has (ready-front x (keys_hierarchies ks) (inner_hierarchies inner) named))

  module _ (root : Option ℕ) (S S' : Shape) (l : List Instance) (R : StepRunsFrom x root S S' (totals_step h p T items) l) where
    typed : KeysReady x ks
    typed = keys-ready x root S S' ks inner l R

    pub found-key : Recursive x h T
    found-key = recursive x h p T ks has typed

    module _ (f : HierarchyPlace) (at : hierarchy_at x.world.model h ≡ Some f) where
      pub totals-err : (e : Refused) → GivesNumbers (Err e) (option_map shown_of (inner_mean x.world (readings x.customs) (set_shape f.type) (λ l. Some l) T (rows x.world f.set))) → Gives (Err e) (step_mean x.world (readings x.customs) S (totals_step h p T items) l)
      totals-err e none = levels-err x.world (readings x.customs) S ks inner l e (shown-gives x h p T ks has typed f at e l none)

      pub totals-least : given_applications x.world (readings x.customs) (set_shape f.type) T (rows x.world f.set ∷ []) ≤ step_cost x.world (readings x.customs) S (totals_step h p T items) l
      totals-least =
          let own = shown-least x h p T ks f has at in
          let whole = keys-least x.world (readings x.customs) S ks inner l in
          omega (arith, own, whole)

      module _ (shown : List ℕ) (are : option_map shown_of (inner_mean x.world (readings x.customs) (set_shape f.type) (λ l. Some l) T (rows x.world f.set)) ≡ Some shown) where
        shown-are : keys_shown x.world (readings x.customs) ks ≡ Some shown
        shown-are = shown-is x h p T ks has typed f at ∙ are

        pub totals-gives : (r : result.Result (Vec Instance) Refused) → GivesTotals r x S f items p shown l → Gives r (step_mean x.world (readings x.customs) S (totals_step h p T items) l)
        totals-gives (Ok v) t = totals-mean x.world (readings x.customs) S h p T items l f at shown shown-are t.1 ∙ ap Some (sym t.0)
        totals-gives (Err Range) t = levels-refused x.world (readings x.customs) S ks inner l t
        totals-gives (Err Memory) t = tt

        pub totals-spent : given_applications x.world (readings x.customs) (set_shape f.type) T (rows x.world f.set ∷ []) + length (totals x.world (readings x.customs) S f items p shown l)
            ≤ step_cost x.world (readings x.customs) S (totals_step h p T items) l
        totals-spent =
            let own = shown-least x h p T ks f has at in
            let whole = totals-cost x.world (readings x.customs) S h p T items l f at shown shown-are in
            omega (arith, own, whole)

-- ---- the pipeline of the key, as it stands in the tree

same-grouping : (ks ks' : Keys) (T T' : OptPipe) → Step.GroupBy ks T ≡ Step.GroupBy ks' T' → ks ≡ ks'
same-grouping ks ks' T T' e = cc

same-first : (k k' : Key) (ks ks' : Keys) → Keys.MoreKeys k ks ≡ Keys.MoreKeys k' ks' → k ≡ k'
same-first k k' ks ks' e = cc

same-shown : (h h' : HierName) (p p' : Path) (T T' : OptPipe) → Key.Recursive h p T ≡ Key.Recursive h' p' T' → T ≡ T'
same-shown h h' p p' T T' e = cc

first-of : (xs : List of_key.KeyItem) (k : of_key.KeyItem) → slice_get xs 0 ≡ Some k → (rest : List of_key.KeyItem) × (xs ≡ k ∷ rest)
first-of [] k e = absurd cc
first-of (y ∷ ys) k e = (ys, ap (λ z. z ∷ ys) (some_value e))

pub shown-same : (step : of_step.Step) (keys : of_keys.KeyList) (inner : Option of_pipe.Pipe) (k : of_key.KeyItem) (hier : of_hier.HierName) (path : Path) (shown : Option of_pipe.Pipe) (h : HierName) (p : Path) (T : OptPipe) (items : List AggItem)
    → step_of step ≡ Step.GroupBy (keys_of keys) (inner_of (option_map pipe_of inner)) → step_of step ≡ totals_step h p T items → slice_get (keys_in keys) 0 ≡ Some k → key_of k ≡ Key.Recursive (hier_of hier) path (inner_of (option_map pipe_of shown))
    → inner_of (option_map pipe_of shown) ≡ T
shown-same step keys inner k hier path shown h p T items is form first own =
    let one = first-of (keys_in keys) k first in
    let whole : Keys.MoreKeys (key_of k) (keys_from (map key_of one.0)) ≡ Keys.MoreKeys (Key.Recursive h p T) Keys.NoKeys =
    sym (keys_of-is keys ∙ ap (λ ks. keys_from (map key_of ks)) one.1) ∙ same-grouping (keys_of keys) (Keys.MoreKeys (Key.Recursive h p T) Keys.NoKeys) (inner_of (option_map pipe_of inner)) (OptPipe.SomePipe (Pipe.Then (Step.Aggregate items) Pipe.End)) (sym is ∙ form) in
    same-shown (hier_of hier) h path p (inner_of (option_map pipe_of shown)) T (sym own ∙ same-first (key_of k) (Key.Recursive h p T) (keys_from (map key_of one.0)) Keys.NoKeys whole)
