-- Keys among which one stands for the nodes of a hierarchy: what they show, and their typing, is that of this key alone.
use Rattle.std.proofs.Common.{◌≡◌, refl, sym, ◌∙◌, ap, ℕ, suc, true, ◌&&◌, List, [], ◌∷◌, ◌++◌, length, Option, Some, None, arith}
use Rattle.std.specs.Prelude.{nat_le, option_and_then, option_map}
use Rattle.std.proofs.lemmas.Bool.{leb-true, true≢false}
use Rattle.std.proofs.lemmas.List.{append-nil}
use Rattle.std.proofs.Math.Bool.{and-true}
use Rattle.edm_values.specs.Names.{Path}
use Rattle.edm_data.specs.Worlds.{World}
use Rattle.apply_ast.specs.Trees.{Expr, HierName, OptPipe, Key, Keys, Step}
use Rattle.context_typing.specs.Shapes.{Shape, set_shape}
use Rattle.context_typing.specs.Typing.{Customs, RollupPart, hierarchy_at, group_keys, rollup_part, rollup_parts, is_nodes, key_typed, keys_typed, inner_shape, steps_shape}
use Rattle.apply_meaning.specs.Meaning.{mean, key_shown, keys_shown}
use Rattle.apply_ast.specs.NamedHierarchies.{keys_hierarchies}
use Rattle.rewrite_laws.specs.Rewrites.{ended_inner, ended_keys, node_shape}
use Rattle.rewrite_laws.proofs.EndedPipes.{ended_inner-hierarchies}

-- the key for the nodes, and that what the keys show, and their typing, is that of this key, also with one more step in its pipeline
pub record NodeKey (w : World) (c : Customs) (ks : Keys) : Type 0 where
  pub hierarchy : HierName
  pub path : Path
  pub chooses : OptPipe
  pub part : rollup_part (group_keys ks) ≡ RollupPart.Nodes hierarchy path
  pub shows : keys_shown w c ks ≡ key_shown w c (Key.Recursive hierarchy path chooses)
  pub shows_ended : (s : Step) → keys_shown w c (ended_keys s ks) ≡ key_shown w c (Key.Recursive hierarchy path (ended_inner chooses s))
  pub typed : (S : Shape) → keys_typed w.model c S ks ≡ key_typed w.model c S (Key.Recursive hierarchy path chooses)
  pub typed_ended : (S : Shape) (s : Step) → keys_typed w.model c S (ended_keys s ks) ≡ key_typed w.model c S (Key.Recursive hierarchy path (ended_inner chooses s))
  pub keys_ended : (s : Step) → group_keys (ended_keys s ks) ≡ group_keys ks
  pub shape : node_shape w.model c ks ≡ option_and_then (λ f. option_map (λ N. (N, f.key.name)) (inner_shape w.model c (set_shape f.type) (set_shape f.type) chooses)) (hierarchy_at w.model hierarchy)

-- ---- plain keys

module _ (w : World) (c : Customs) where
  plain-shown : (ks : Keys) → rollup_parts ks ≡ [] → keys_shown w c ks ≡ Some []
  unfolding mean
  plain-shown Keys.NoKeys e = refl
  plain-shown (Keys.MoreKeys (Key.Plain q) ks) e = ap (option_map (λ ys. ys)) (plain-shown ks e)
  plain-shown (Keys.MoreKeys (Key.Rollup all ps) ks) e = cc
  plain-shown (Keys.MoreKeys (Key.Recursive h p U) ks) e = cc

  plain-typed : (S : Shape) (ks : Keys) → rollup_parts ks ≡ [] → keys_typed w.model c S ks ≡ true
  unfolding steps_shape
  plain-typed S Keys.NoKeys e = refl
  plain-typed S (Keys.MoreKeys (Key.Plain q) ks) e = plain-typed S ks e
  plain-typed S (Keys.MoreKeys (Key.Rollup all ps) ks) e = cc
  plain-typed S (Keys.MoreKeys (Key.Recursive h p U) ks) e = cc

pub plain-ended : (s : Step) (ks : Keys) → rollup_parts ks ≡ [] → ended_keys s ks ≡ ks
plain-ended s Keys.NoKeys e = refl
plain-ended s (Keys.MoreKeys (Key.Plain q) ks) e = ap (Keys.MoreKeys (Key.Plain q)) (plain-ended s ks e)
plain-ended s (Keys.MoreKeys (Key.Rollup all ps) ks) e = cc
plain-ended s (Keys.MoreKeys (Key.Recursive h p U) ks) e = cc

pub no-more : {X : Type 0} (xs : List X) → nat_le (suc (length xs)) 1 ≡ true → xs ≡ []
no-more [] h = refl
no-more (x ∷ xs) h = let l = leb-true (suc (suc (length xs))) 1 h in absurd (omega arith)

-- ---- the key for the nodes among them

list-end : (o : Option (List ℕ)) → option_map (λ ys. [] ++ ys) o ≡ o
list-end None = refl
list-end (Some x) = refl

pub node-key : (w : World) (c : Customs) (ks : Keys) → is_nodes (rollup_part (group_keys ks)) ≡ true → nat_le (length (rollup_parts ks)) 1 ≡ true → NodeKey w c ks
unfolding mean steps_shape
node-key w c Keys.NoKeys n h = absurd (true≢false (sym n))
node-key w c (Keys.MoreKeys (Key.Plain q) ks) n h =
    let k = node-key w c ks n h in record {
      hierarchy = k.hierarchy;
      path = k.path;
      chooses = k.chooses;
      part = k.part;
      shows = list-end (keys_shown w c ks) ∙ k.shows;
      shows_ended = λ s. list-end (keys_shown w c (ended_keys s ks)) ∙ k.shows_ended s;
      typed = k.typed;
      typed_ended = k.typed_ended;
      keys_ended = λ s i. record { plain = q ∷ (k.keys_ended s i).plain; parts = (k.keys_ended s i).parts };
      shape = k.shape;
    }
node-key w c (Keys.MoreKeys (Key.Rollup all ps) ks) n h = absurd (true≢false (sym n))
node-key w c (Keys.MoreKeys (Key.Recursive g p U) ks) n h =
    let rest = no-more (rollup_parts ks) h in record {
      hierarchy = g;
      path = p;
      chooses = U;
      part = refl;
      shows = ap (λ o. option_and_then (λ xs. option_map (λ ys. xs ++ ys) o) (key_shown w c (Key.Recursive g p U))) (plain-shown w c ks rest) ∙ alone (key_shown w c (Key.Recursive g p U));
      shows_ended = λ s.
          ap (λ z. option_and_then (λ xs. option_map (λ ys. xs ++ ys) (keys_shown w c z)) (key_shown w c (Key.Recursive g p (ended_inner U s)))) (plain-ended s ks rest)
          ∙ ap (λ o. option_and_then (λ xs. option_map (λ ys. xs ++ ys) o) (key_shown w c (Key.Recursive g p (ended_inner U s)))) (plain-shown w c ks rest) ∙ alone (key_shown w c (Key.Recursive g p (ended_inner U s)));
      typed = λ S. ap (λ b. key_typed w.model c S (Key.Recursive g p U) && b) (plain-typed w c S ks rest) ∙ and-true (key_typed w.model c S (Key.Recursive g p U));
      typed_ended = λ S s.
          ap (λ z. key_typed w.model c S (Key.Recursive g p (ended_inner U s)) && keys_typed w.model c S z) (plain-ended s ks rest)
          ∙ ap (λ b. key_typed w.model c S (Key.Recursive g p (ended_inner U s)) && b) (plain-typed w c S ks rest) ∙ and-true (key_typed w.model c S (Key.Recursive g p (ended_inner U s)));
      keys_ended = λ s i. record { plain = (group_keys (plain-ended s ks rest i)).plain; parts = RollupPart.Nodes g p ∷ (group_keys (plain-ended s ks rest i)).parts };
      shape = refl;
    }
  where
    alone : (o : Option (List ℕ)) → option_and_then (λ xs. option_map (λ ys. xs ++ ys) (Some [])) o ≡ o
    alone None = refl
    alone (Some xs) = ap (λ z. Some z) (append-nil xs)

-- a filter in the pipeline that chooses the nodes names no hierarchy
pub ended_keys-hierarchies : (ks : Keys) (b : Expr) → keys_hierarchies (ended_keys (Step.Filter b) ks) ≡ keys_hierarchies ks
ended_keys-hierarchies Keys.NoKeys b = refl
ended_keys-hierarchies (Keys.MoreKeys (Key.Plain q) ks) b = ended_keys-hierarchies ks b
ended_keys-hierarchies (Keys.MoreKeys (Key.Rollup all ps) ks) b = ended_keys-hierarchies ks b
ended_keys-hierarchies (Keys.MoreKeys (Key.Recursive h p U) ks) b = λ i. (h ∷ ended_inner-hierarchies U b i) ++ ended_keys-hierarchies ks b i
