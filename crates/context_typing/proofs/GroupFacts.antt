-- The keys of a grouping, and the columns of those that have a typing.
use Rattle.std.proofs.Common.{◌≡◌, refl, sym, ◌∙◌, ap, ℕ, ◌+◌, ◌<◌, Bool, true, false, not, ◌&&◌, ◌||◌, List, [], ◌∷◌, ◌++◌, Option, Some, None, map, take, drop, length, get_or}
use Rattle.std.specs.Prelude.{option_and_then, option_map, is_some, nat_le, if◌then◌else◌}
use Rattle.std.specs.Bool.{then_some}
use Rattle.std.specs.List.{list_any, list_all}
use Rattle.std.proofs.lemmas.List.{map-append, take-append-drop, take_more, append-nil, append_assoc}
use Rattle.std.proofs.lemmas.List.Folds.{list_all-append}
use Rattle.edm_values.specs.declared.EdmType.{EdmType}
use Rattle.edm_values.specs.Lists.{all_some, are_distinct, is_nonempty}
use Rattle.edm_values.specs.Names.{Path}
use Rattle.edm_model.specs.Models.{Model}
use Rattle.edm_model.proofs.Mapped.{list_any-map}
use Rattle.apply_ast.specs.Trees.{Key, Keys}
use Rattle.apply_ast.specs.Views.{keys_from}
use Rattle.context_typing.specs.Grouping.{typed_key, level_columns, part_columns, typed_columns, may_stand, plain_of}
use Rattle.context_typing.specs.Paths.{same_path, is_prefix}
use Rattle.context_typing.specs.Shapes.{Shape, ColumnShape}
use Rattle.context_typing.specs.Typing.{GroupKeys, RollupPart, grouped_shape, is_nodes, key_column, key_columns, key_paths, overlaps, path_kind, plain_paths, rollup_columns, rollup_part, rollup_paths, all_prefixes}

-- ---- keys one after another

plain-cons : (k : Key) (ks : Keys) → plain_paths (Keys.MoreKeys k ks) ≡ plain_of k ++ plain_paths ks
plain-cons (Key.Plain p) ks = refl
plain-cons (Key.Rollup all ps) ks = refl
plain-cons (Key.Recursive h p T) ks = refl

pub plain-append : (ks ls : List Key) → plain_paths (keys_from (ks ++ ls)) ≡ plain_paths (keys_from ks) ++ plain_paths (keys_from ls)
plain-append [] ls = refl
plain-append (k ∷ ks) ls =
    plain-cons k (keys_from (ks ++ ls)) ∙ ap (λ l. plain_of k ++ l) (plain-append ks ls)
    ∙ sym (append_assoc (plain_of k) (plain_paths (keys_from ks)) (plain_paths (keys_from ls))) ∙ ap (λ l. l ++ plain_paths (keys_from ls)) (sym (plain-cons k (keys_from ks)))

-- ---- the answers of a function over lists that are joined

abbrev both_lists : {Z : Type 0} → Option (List Z) → Option (List Z) → Option (List Z)
both_lists a b = option_and_then (λ xs. option_map (λ ys. xs ++ ys) b) a

same-none : {Z : Type 0} (o : Option (List Z)) → o ≡ option_map (λ ys. [] ++ ys) o
same-none None = refl
same-none (Some ys) = refl

more-both : {Z : Type 0} (y : Z) (a b : Option (List Z)) → option_map (λ l. y ∷ l) (both_lists a b) ≡ both_lists (option_map (λ l. y ∷ l) a) b
more-both y None b = refl
more-both y (Some l) None = refl
more-both y (Some l) (Some k) = refl

one-more : {Z : Type 0} (o : Option Z) (os ps qs : List (Option Z)) → all_some os ≡ both_lists (all_some ps) (all_some qs) → all_some (o ∷ os) ≡ both_lists (all_some (o ∷ ps)) (all_some qs)
one-more None os ps qs e = refl
one-more (Some z) os ps qs e = ap (option_map (λ l. z ∷ l)) e ∙ more-both z (all_some ps) (all_some qs)

pub all_some-append : {X Z : Type 0} (f : X → Option Z) (xs ys : List X) → all_some (map f (xs ++ ys)) ≡ both_lists (all_some (map f xs)) (all_some (map f ys))
all_some-append f [] ys = same-none (all_some (map f ys))
all_some-append f (x ∷ xs) ys = one-more (f x) (map f (xs ++ ys)) (map f xs) (map f ys) (all_some-append f xs ys)

-- one plain key more
module _ {X : Type 0} (key : X → Key) (f : Path → Option ColumnShape) (keys : List X) (i : ℕ) (d : X) (within : i < length keys) where
  abbrev paths-of : List X → List Path
  paths-of xs = plain_paths (keys_from (map key xs))

  paths-more : paths-of (take (i + 1) keys) ≡ paths-of (take i keys) ++ plain_of (key (get_or keys i d))
  paths-more =
      ap paths-of (take_more keys i d within) ∙ ap (λ l. plain_paths (keys_from l)) (map-append key (take i keys) (get_or keys i d ∷ []))
      ∙ plain-append (map key (take i keys)) (key (get_or keys i d) ∷ []) ∙ ap (λ l. paths-of (take i keys) ++ l) (one (key (get_or keys i d)))
    where
      one : (k : Key) → plain_paths (keys_from (k ∷ [])) ≡ plain_of k
      one (Key.Plain p) = refl
      one (Key.Rollup all ps) = refl
      one (Key.Recursive h p T) = refl

  pub plain-next : (p : Path) (cs : List ColumnShape) (c : ColumnShape) → key (get_or keys i d) ≡ Key.Plain p → all_some (map f (paths-of (take i keys))) ≡ Some cs → f p ≡ Some c → all_some (map f (paths-of (take (i + 1) keys))) ≡ Some (cs ++ c ∷ [])
  plain-next p cs c is before e =
      ap (λ l. all_some (map f l)) (paths-more ∙ ap (λ k. paths-of (take i keys) ++ plain_of k) is) ∙ all_some-append f (paths-of (take i keys)) (p ∷ [])
      ∙ (λ j. both_lists (before j) (all_some (e j ∷ [])))

  pub plain-same : plain_of (key (get_or keys i d)) ≡ [] → all_some (map f (paths-of (take (i + 1) keys))) ≡ all_some (map f (paths-of (take i keys)))
  plain-same is = ap (λ l. all_some (map f l)) (paths-more ∙ ap (λ l. paths-of (take i keys) ++ l) is ∙ append-nil (paths-of (take i keys)))

  pub plain-missing : (p : Path) → key (get_or keys i d) ≡ Key.Plain p → None ≡ f p → None ≡ all_some (map f (paths-of keys))
  plain-missing p is e =
      let all : paths-of keys ≡ paths-of (take (i + 1) keys) ++ paths-of (drop (i + 1) keys) =
      ap paths-of (sym (take-append-drop (i + 1) keys)) ∙ ap (λ l. plain_paths (keys_from l)) (map-append key (take (i + 1) keys) (drop (i + 1) keys)) ∙ plain-append (map key (take (i + 1) keys)) (map key (drop (i + 1) keys)) in
      let front : all_some (map f (paths-of (take (i + 1) keys))) ≡ None =
      ap (λ l. all_some (map f l)) (paths-more ∙ ap (λ k. paths-of (take i keys) ++ plain_of k) is) ∙ all_some-append f (paths-of (take i keys)) (p ∷ [])
      ∙ (λ j. both_lists (all_some (map f (paths-of (take i keys)))) (all_some (sym e j ∷ []))) ∙ none (all_some (map f (paths-of (take i keys)))) in
      sym (ap (λ l. all_some (map f l)) all ∙ all_some-append f (paths-of (take (i + 1) keys)) (paths-of (drop (i + 1) keys)) ∙ ap (λ a. both_lists a (all_some (map f (paths-of (drop (i + 1) keys))))) front)
    where
      none : (o : Option (List ColumnShape)) → both_lists o None ≡ None
      none None = refl
      none (Some xs) = refl

-- ---- which keys have columns, and which these are

collected : {X : Type 0} (c : X) (b : Bool) (cs : List X) (o : Option (List X)) → o ≡ then_some b cs → option_map (λ l. c ∷ l) o ≡ then_some b (c ∷ cs)
collected c true cs o e = ap (option_map (λ l. c ∷ l)) e
collected c false cs o e = ap (option_map (λ l. c ∷ l)) e

pub typed-all : (m : Model) (S : Shape) (absent : Bool) (ps : List Path) → all_some (map (typed_key m S absent) ps) ≡ then_some (list_all (λ p. is_some (path_kind m S p)) ps) (map (key_column m S absent) ps)
typed-all m S absent [] = refl
typed-all m S absent (p ∷ ps) = go (path_kind m S p) (key_column m S absent p) (typed-all m S absent ps)
  where
    go : (o : Option EdmType) (c : ColumnShape) → all_some (map (typed_key m S absent) ps) ≡ then_some (list_all (λ p. is_some (path_kind m S p)) ps) (map (key_column m S absent) ps)
        → all_some (option_map (λ k. c) o ∷ map (typed_key m S absent) ps) ≡ then_some (is_some o && list_all (λ p. is_some (path_kind m S p)) ps) (c ∷ map (key_column m S absent) ps)
    go None c e = refl
    go (Some k) c e = collected c (list_all (λ p. is_some (path_kind m S p)) ps) (map (key_column m S absent) ps) (all_some (map (typed_key m S absent) ps)) e

levels-typed : (m : Model) (S : Shape) (all : Bool) (ps : List Path) → level_columns m S all ps ≡ then_some (list_all (λ p. is_some (path_kind m S p)) ps) (rollup_columns m S (RollupPart.Levels all ps))
levels-typed m S all [] = refl
levels-typed m S all (p ∷ ps) = go (path_kind m S p) (key_column m S all p)
  where
    go : (o : Option EdmType) (c : ColumnShape) → option_and_then (λ c. option_map (λ cs. c ∷ cs) (all_some (map (typed_key m S true) ps))) (option_map (λ k. c) o) ≡ then_some (is_some o && list_all (λ p. is_some (path_kind m S p)) ps) (c ∷ map (key_column m S true) ps)
    go None c = refl
    go (Some k) c = collected c (list_all (λ p. is_some (path_kind m S p)) ps) (map (key_column m S true) ps) (all_some (map (typed_key m S true) ps)) (typed-all m S true ps)

part-typed : (m : Model) (S : Shape) (r : RollupPart) → part_columns m S r ≡ then_some (list_all (λ p. is_some (path_kind m S p)) (rollup_paths r)) (rollup_columns m S r)
part-typed m S RollupPart.NoRollup = refl
part-typed m S (RollupPart.Levels all ps) = levels-typed m S all ps
part-typed m S (RollupPart.Nodes h p) = go (path_kind m S p) (key_column m S false p)
  where
    go : (o : Option EdmType) (c : ColumnShape) → option_map {T = ColumnShape} (λ c. record c { risky = false } ∷ []) (option_map (λ k. c) o) ≡ then_some (is_some o && true) (record c { risky = false } ∷ [])
    go None c = refl
    go (Some k) c = refl

columns-typed : (m : Model) (S : Shape) (g : GroupKeys) → typed_columns m S g ≡ then_some (nat_le (length g.parts) 1 && list_all (λ p. is_some (path_kind m S p)) (key_paths g)) (key_columns m S g)
columns-typed m S g =
    (λ i. if nat_le (length g.parts) 1 then both_lists (typed-all m S false g.plain i) (part-typed m S (rollup_part g) i) else None)
    ∙ go (nat_le (length g.parts) 1) (list_all (λ p. is_some (path_kind m S p)) g.plain) (list_all (λ p. is_some (path_kind m S p)) (rollup_paths (rollup_part g))) (map (key_column m S false) g.plain) (rollup_columns m S (rollup_part g))
    ∙ ap (λ b. then_some (nat_le (length g.parts) 1 && b) (key_columns m S g)) (sym (list_all-append (λ p. is_some (path_kind m S p)) g.plain (rollup_paths (rollup_part g))))
  where
    go : (le a b : Bool) (xs ys : List ColumnShape) → (if le then both_lists (then_some a xs) (then_some b ys) else None) ≡ then_some (le && (a && b)) (xs ++ ys)
    go false a b xs ys = refl
    go true false b xs ys = refl
    go true true false xs ys = refl
    go true true true xs ys = refl

pub key-paths-of : (m : Model) (S : Shape) (absent : Bool) (ps : List Path) → map (λ c. c.path) (map (key_column m S absent) ps) ≡ ps
key-paths-of m S absent [] = refl
key-paths-of m S absent (p ∷ ps) = ap (λ l. p ∷ l) (key-paths-of m S absent ps)

part-paths : (m : Model) (S : Shape) (r : RollupPart) → map (λ c. c.path) (rollup_columns m S r) ≡ rollup_paths r
part-paths m S RollupPart.NoRollup = refl
part-paths m S (RollupPart.Levels all []) = refl
part-paths m S (RollupPart.Levels all (p ∷ ps)) = ap (λ l. p ∷ l) (key-paths-of m S true ps)
part-paths m S (RollupPart.Nodes h p) = refl

pub columns-paths : (m : Model) (S : Shape) (g : GroupKeys) → map (λ c. c.path) (key_columns m S g) ≡ key_paths g
columns-paths m S g = map-append (λ c. c.path) (map (key_column m S false) g.plain) (rollup_columns m S (rollup_part g)) ∙ (λ i. key-paths-of m S false g.plain i ++ part-paths m S (rollup_part g) i)

-- a grouping's shape from the columns of its keys
pub grouped-from : (m : Model) (S : Shape) (g : GroupKeys) (G : Shape) → option_and_then (λ cs. then_some (may_stand g cs G) (record G { columns = G.columns ++ cs })) (typed_columns m S g) ≡ grouped_shape m S g G
grouped-from m S g G =
    ap (option_and_then (λ cs. then_some (may_stand g cs G) (record G { columns = G.columns ++ cs }))) (columns-typed m S g)
    ∙ chain (nat_le (length g.parts) 1 && list_all (λ p. is_some (path_kind m S p)) (key_paths g)) (key_columns m S g)
    ∙ ap (λ b. then_some ((nat_le (length g.parts) 1 && list_all (λ p. is_some (path_kind m S p)) (key_paths g)) && b) (record G { columns = G.columns ++ key_columns m S g })) stands
    ∙ ap (λ b. then_some b (record G { columns = G.columns ++ key_columns m S g }))
    (sym (seven (is_nonempty (key_paths g)) (nat_le (length g.parts) 1) (list_all (λ p. is_some (path_kind m S p)) (key_paths g)) (are_distinct same_path (key_paths g))
    (not (list_any (λ c. overlaps (key_paths g) c.path) G.columns)) (not (list_any (λ x. overlaps (key_paths g) x.path) G.prefixes)) (not (is_nodes (rollup_part g)) || not (is_nonempty (all_prefixes G)))))
  where
    chain : (b : Bool) (cs : List ColumnShape) → option_and_then (λ cs. then_some (may_stand g cs G) (record G { columns = G.columns ++ cs })) (then_some b cs) ≡ then_some (b && may_stand g cs G) (record G { columns = G.columns ++ cs })
    chain true cs = refl
    chain false cs = refl

    nonempty : (cs : List ColumnShape) → is_nonempty cs ≡ is_nonempty (map (λ c. c.path) cs)
    nonempty [] = refl
    nonempty (c ∷ cs) = refl

    stands : may_stand g (key_columns m S g) G ≡ ((is_nonempty (key_paths g) && are_distinct same_path (key_paths g))
        && (not (list_any (λ c. overlaps (key_paths g) c.path) G.columns) && not (list_any (λ x. overlaps (key_paths g) x.path) G.prefixes))
        && (not (is_nodes (rollup_part g)) || not (is_nonempty (all_prefixes G))))
    stands = (λ i. (nonempty (key_columns m S g) i && are_distinct same_path (map (λ c. c.path) (key_columns m S g)))
        && (not (list_any (λ c. overlaps (map (λ c. c.path) (key_columns m S g)) c.path) G.columns) && not (list_any (λ x. overlaps (map (λ c. c.path) (key_columns m S g)) x.path) G.prefixes))
        && (not (is_nodes (rollup_part g)) || not (is_nonempty (all_prefixes G))))
        ∙ ap (λ ps. (is_nonempty ps && are_distinct same_path ps) && (not (list_any (λ c. overlaps ps c.path) G.columns) && not (list_any (λ x. overlaps ps x.path) G.prefixes)) && (not (is_nodes (rollup_part g)) || not (is_nonempty (all_prefixes G)))) (columns-paths m S g)

    seven : (ne le ty di n1 n2 re : Bool) → (ne && le && ty && di && n1 && n2 && re) ≡ ((le && ty) && ((ne && di) && (n1 && n2) && re))
    seven true true true true n1 n2 re = refl
    seven true true true false n1 n2 re = refl
    seven true true false di n1 n2 re = refl
    seven true false ty di n1 n2 re = refl
    seven false true true di n1 n2 re = refl
    seven false true false di n1 n2 re = refl
    seven false false ty di n1 n2 re = refl

-- ---- paths that overlap those of keys

any-either : {X : Type 0} (f g : X → Bool) (xs : List X) → (list_any f xs || list_any g xs) ≡ list_any (λ x. f x || g x) xs
any-either f g [] = refl
any-either f g (x ∷ xs) = go (f x) (g x) (list_any f xs) (list_any g xs) ∙ ap (λ b. (f x || g x) || b) (any-either f g xs)
  where
    go : (a b c d : Bool) → ((a || c) || (b || d)) ≡ ((a || b) || (c || d))
    go true b c d = refl
    go false true true d = refl
    go false true false d = refl
    go false false c d = refl

pub overlaps-parts : (ks : List ColumnShape) (p : Path) → (list_any (λ c. is_prefix p c.path) ks || list_any (λ c. is_prefix c.path p) ks) ≡ overlaps (map (λ c. c.path) ks) p
overlaps-parts ks p = any-either (λ c. is_prefix p c.path) (λ c. is_prefix c.path p) ks ∙ sym (list_any-map (λ k. is_prefix p k || is_prefix k p) (λ c. c.path) ks)

-- ---- what a grouping comes to

pub grouped-some : (m : Model) (S : Shape) (g : GroupKeys) (G : Shape) (cs : List ColumnShape) → Some cs ≡ typed_columns m S g → may_stand g cs G ≡ true → Some (record G { columns = G.columns ++ cs }) ≡ grouped_shape m S g G
grouped-some m S g G cs e h = ap (λ b. then_some b (record G { columns = G.columns ++ cs })) (sym h) ∙ ap (option_and_then (λ cs. then_some (may_stand g cs G) (record G { columns = G.columns ++ cs }))) e ∙ grouped-from m S g G

pub grouped-none : (m : Model) (S : Shape) (g : GroupKeys) (G : Shape) (cs : List ColumnShape) → Some cs ≡ typed_columns m S g → may_stand g cs G ≡ false → None ≡ grouped_shape m S g G
grouped-none m S g G cs e h = ap (λ b. then_some b (record G { columns = G.columns ++ cs })) (sym h) ∙ ap (option_and_then (λ cs. then_some (may_stand g cs G) (record G { columns = G.columns ++ cs }))) e ∙ grouped-from m S g G

pub grouped-untyped : (m : Model) (S : Shape) (g : GroupKeys) (G : Shape) → None ≡ typed_columns m S g → None ≡ grouped_shape m S g G
grouped-untyped m S g G e = ap (option_and_then (λ cs. then_some (may_stand g cs G) (record G { columns = G.columns ++ cs }))) e ∙ grouped-from m S g G
