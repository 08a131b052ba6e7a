-- The levels of a grouping, found flat or by the nodes that are shown.
use Rattle.std.proofs.Common.{◌≡◌, ℕ, ◌+◌, ◌≤◌, ◌<◌, arith, refl, sym, ◌∙◌, ap, subst, true, false, Ok, Err, Some, None, List, [], ◌∷◌, ◌++◌, length, drop, get_or, map, inl, inr}
use Rattle.std.proofs.Math.ListN.{drop_of_length-le}
use Rattle.std.specs.Prelude.{option_map, ◌&&◌}
use Rattle.std.specs.declared.result.Result as result
use Rattle.std.specs.Global.{Vec}
use Rattle.edm_values.specs.declared.refusals.Refused.{Refused}
use Rattle.edm_values.specs.declared.refusals.Refused.TheVariants.{Range, Memory}
use Rattle.edm_values.specs.Names.{Path}
use Rattle.edm_model.specs.LookUps.{HierarchyPlace}
use Rattle.edm_data.specs.Worlds.{World}
use Rattle.apply_ast.specs.Trees.{HierName, Key, Keys, OptPipe}
use Rattle.context_typing.specs.Readings.{readings}
use Rattle.context_typing.specs.Shapes.{set_shape}
use Rattle.context_typing.specs.Typing.{Customs, RollupPart, group_keys, hierarchy_at, is_nodes, plain_paths, rollup_part, rollup_paths}
use Rattle.apply_meaning.proofs.MeaningEquations.{key_shown-Recursive}
use Rattle.apply_meaning.specs.Instances.{Instance, rows}
use Rattle.apply_meaning.specs.Meaning.{Outcome, inner_mean, keys_shown, level_paths, shown_of}
use Rattle.group_rollup.specs.Groupings.{has_beyond_key}
use Rattle.apply_ast.proofs.ViewEquations.{keys_of-is}
use Rattle.apply_ast.specs.Views.{key_of, keys_from, keys_in, keys_of}
use Rattle.apply_ast.specs.declared.steps.KeyItem as of_key
use Rattle.apply_ast.specs.declared.steps.KeyList as of_keys
use Rattle.step_run.proofs.CostEquations.{key_cost-Recursive}
use Rattle.step_run.proofs.NextItems.{next-key_item}
use Rattle.step_run.proofs.KeyParts.{all-shown, recursive-cost, recursive-part, recursive-shown}
use Rattle.step_run.specs.Costs.{given_applications, keys_cost}
use Rattle.step_run.specs.Conditions.{KeysReady}
use Rattle.step_run.specs.Contexts.{Context}
use Rattle.step_run.specs.Levels.{GivesFlatLevels, GivesLevels, GivesNodeLevels, Level, level_on, levels_by, levels_on, node_levels}
use Rattle.step_run.specs.RecursiveKeys.{HasKey, are_flat_keys, is_flat_key}
use Rattle.row_orders.specs.Ranks.{GivesNumbers}

-- ---- without a recursive rollup

pub flat-part : (ks : Keys) → are_flat_keys ks ≡ true → is_nodes (rollup_part (group_keys ks)) ≡ false
flat-part Keys.NoKeys h = refl
flat-part (Keys.MoreKeys (Key.Plain p) ks) h = flat-part ks h
flat-part (Keys.MoreKeys (Key.Rollup all ps) ks) h = refl
flat-part (Keys.MoreKeys (Key.Recursive x p T) ks) h = cc

pub flat-by : (w : World) (part : RollupPart) (plain : List Path) (l : List Instance) → is_nodes part ≡ false → levels_by w part plain [] l ≡ map (level_on w l) (level_paths plain part)
flat-by w RollupPart.NoRollup plain l h = refl
flat-by w (RollupPart.Levels all ps) plain l h = refl
flat-by w (RollupPart.Nodes x p) plain l h = cc

pub flat-gives : (r : result.Result (Vec Level) Refused) (w : World) (c : Customs) (ks : Keys) (l : List Instance) → are_flat_keys ks ≡ true → GivesFlatLevels r w ks l → GivesLevels r w c ks l
flat-gives (Ok v) w c ks l flat h = ([], all-shown w c ks flat, h.0 ∙ sym (flat-by w (rollup_part (group_keys ks)) (plain_paths ks) l (flat-part ks flat)), h.1)
flat-gives (Err Range) w c ks l flat h = inr h
flat-gives (Err Memory) w c ks l flat h = tt

-- ---- with one

module _ (x : Context) (h : HierName) (p : Path) (T : OptPipe) (ks : Keys) (has : HasKey (Key.Recursive h p T) ks) (ready : KeysReady x ks) (f : HierarchyPlace) (at : hierarchy_at x.world.model h ≡ Some f) where
  -- what the pipeline among the keys makes of the nodes
  abbrev nodes : Outcome
  nodes = inner_mean x.world (readings x.customs) (set_shape f.type) (λ l. Some l) T (rows x.world f.set)

  pub shown-is : keys_shown x.world (readings x.customs) ks ≡ option_map shown_of nodes
  shown-is =
      recursive-shown x.world (readings x.customs) h p T ks has ready.few
      ∙ key_shown-Recursive x.world (readings x.customs) h p T
      ∙ ap (λ o. elim o [ None ↦ None | Some f ↦ option_map shown_of (inner_mean x.world (readings x.customs) (set_shape f.type) (λ l. Some l) T (rows x.world f.set)) ]) at

  part-is : rollup_part (group_keys ks) ≡ RollupPart.Nodes h p
  part-is = recursive-part h p T ks has ready.few

  pub levels-are : (shown : List ℕ) (l : List Instance) → levels_on x.world ks shown l ≡ node_levels x.world f (plain_paths ks) p shown l
  levels-are shown l =
      ap (λ part. levels_by x.world part (plain_paths ks) shown l) part-is
      ∙ ap (λ o. elim o [ None ↦ [] | Some f ↦ node_levels x.world f (plain_paths ks) p shown l ]) at

  beyond-is : (l : List Instance) → has_beyond_key x.world (plain_paths ks ++ rollup_paths (rollup_part (group_keys ks))) l ≡ has_beyond_key x.world (plain_paths ks ++ p ∷ []) l
  beyond-is l = ap (λ part. has_beyond_key x.world (plain_paths ks ++ rollup_paths part) l) part-is

  -- the nodes that are shown are refused
  pub shown-gives : (e : Refused) (l : List Instance) → GivesNumbers (Err e) (option_map shown_of nodes) → GivesLevels (Err e) x.world (readings x.customs) ks l
  shown-gives Range l none = inl (shown-is ∙ none)
  shown-gives Memory l none = tt

  -- the levels of the nodes that are shown are those of the grouping
  pub node-gives : (r : result.Result (Vec Level) Refused) (shown : List ℕ) (l : List Instance) → option_map shown_of nodes ≡ Some shown → GivesNodeLevels r x.world f (plain_paths ks) p shown l → GivesLevels r x.world (readings x.customs) ks l
  node-gives (Ok v) shown l are given = (shown, shown-is ∙ are, given.0 ∙ sym (levels-are shown l), beyond-is l ∙ given.1)
  node-gives (Err Range) shown l are given = inr (beyond-is l ∙ given)
  node-gives (Err Memory) shown l are given = tt

-- ---- the keys of the program, in turn

-- the keys of the program
keys-are : (l : of_keys.KeyList) {ks : List of_key.KeyItem} → ks ≡ keys_in l → keys_of l ≡ keys_from (map key_of ks)
keys-are l e = keys_of-is l ∙ ap (λ ks. keys_from (map key_of ks)) (sym e)

-- a key that was met is one of them
pub met-key : {k : Key} (l : of_keys.KeyList) (ks : List of_key.KeyItem) (i : ℕ) (d : of_key.KeyItem) → ks ≡ keys_in l → i < length ks → d ≡ get_or ks i d
    → ((k : Key) → HasKey k (keys_from (map key_of (drop i ks))) → HasKey k (keys_from (map key_of ks))) → key_of d ≡ k → HasKey k (keys_of l)
met-key {k = k} l ks i d e h at among is = subst (HasKey k) (sym (keys-are l e)) (among k (subst (HasKey k) (sym (next-key_item ks i d h at)) (inl (sym is))))

-- past a key that is no recursive rollup
pub next-flat_key : (ks : List of_key.KeyItem) (i : ℕ) (d : of_key.KeyItem) → i < length ks → d ≡ get_or ks i d → is_flat_key (key_of d) ≡ true
    → are_flat_keys (keys_from (map key_of (drop i ks))) ≡ are_flat_keys (keys_from (map key_of (drop (i + 1) ks)))
next-flat_key ks i d h at flat = ap are_flat_keys (next-key_item ks i d h at) ∙ ap (λ b. b && are_flat_keys (keys_from (map key_of (drop (i + 1) ks)))) flat

pub next-among : (k : Key) (ks : List of_key.KeyItem) (i : ℕ) (d : of_key.KeyItem) → i < length ks → d ≡ get_or ks i d → HasKey k (keys_from (map key_of (drop (i + 1) ks))) → HasKey k (keys_from (map key_of (drop i ks)))
next-among k ks i d h at has = subst (HasKey k) (sym (next-key_item ks i d h at)) (inr has)

-- behind the last key, none of them is a recursive rollup
pub all-flat : (l : of_keys.KeyList) (ks : List of_key.KeyItem) (i : ℕ) → ks ≡ keys_in l → length ks ≤ i → are_flat_keys (keys_from (map key_of ks)) ≡ are_flat_keys (keys_from (map key_of (drop i ks))) → are_flat_keys (keys_of l) ≡ true
all-flat l ks i e past flat = ap are_flat_keys (keys-are l e) ∙ flat ∙ ap (λ t. are_flat_keys (keys_from (map key_of t))) (drop_of_length-le ks past)

-- what its pipeline counts is counted by the keys
pub shown-least : (x : Context) (h : HierName) (p : Path) (T : OptPipe) (ks : Keys) (f : HierarchyPlace) → HasKey (Key.Recursive h p T) ks → hierarchy_at x.world.model h ≡ Some f
    → given_applications x.world (readings x.customs) (set_shape f.type) T (rows x.world f.set ∷ []) ≤ keys_cost x.world (readings x.customs) ks
shown-least x h p T ks f has at =
    let least = recursive-cost x.world (readings x.customs) h p T ks has in
    let own = key_cost-Recursive x.world (readings x.customs) h p T
    ∙ ap (λ o. elim o [ None ↦ 0 | Some f ↦ given_applications x.world (readings x.customs) (set_shape f.type) T (rows x.world f.set ∷ []) ]) at in
    omega (arith, least, own)
