-- The shape of a concatenation, from the table of its columns and from that of its prefixes.
use Rattle.std.proofs.Common.{◌≡◌, refl, sym, ◌∙◌, ap, ℕ, ◌+◌, ◌<◌, Bool, true, false, ◌&&◌, ◌||◌, List, [], ◌∷◌, ◌++◌, Option, Some, None, map, take, length, get_or}
use Rattle.std.specs.Prelude.{flat_map, fold, option_and_then, option_map, is_some, nat_le, ◌==◌, if◌then◌else◌}
use Rattle.std.specs.Bool.{then_some}
use Rattle.std.specs.List.{list_any, list_all}
use Rattle.std.proofs.Math.Bool.{and-true, or-false}
use Rattle.std.proofs.lemmas.Bool.{or_right, eq-eqb, eqb-true}
use Rattle.std.proofs.lemmas.List.{take_more}
use Rattle.std.proofs.lemmas.List.Folds.{list_all-append, list_any-append, fold_stuck, fold_stays, list_any_at}
use Rattle.edm_values.specs.declared.EdmType.{EdmType}
use Rattle.edm_values.specs.Lists.{all_some, distinct, find_map}
use Rattle.edm_values.specs.Literals.{same_kind}
use Rattle.edm_values.specs.Names.{Path}
use Rattle.edm_values.proofs.OptionFacts.{some_value, same_bool}
use Rattle.edm_model.specs.Models.{Model}
use Rattle.context_typing.specs.Merging.{Joined, add_column, add_columns, add_entry, add_prefix, add_prefixes, all_columns, all_prefixes_of, both, column_agrees, concat_columns, concat_prefixes, in_branch, in_branches, joined_branches, joined_column, joined_prefix, may_join, prefix_agrees, root_agrees, roots_agree, some_lack_prefix}
use Rattle.context_typing.specs.Paths.{same_path, at_path, is_none_or}
use Rattle.context_typing.specs.Shapes.{RootShape, PrefixShape, ColumnShape, Shape}
use Rattle.context_typing.specs.Typing.{all_prefixes, branches_agree, column_at, concat_shape, is_risky, merged_column, merged_prefix, merged_root, path_kind, path_property, prefix_at, widened}
use Rattle.context_typing.proofs.MergedShape.{same_kind-left}
use Rattle.context_typing.proofs.PathLemmas.{path-self}
use Rattle.context_typing.proofs.PathOrders.{found-there}
use Rattle.context_typing.proofs.TableFold.{branches-joined}

-- ---- columns

-- types of one kind, the other way round
same_kind-flip : (a b : EdmType) → same_kind a b ≡ same_kind b a
same_kind-flip EdmType.Bool EdmType.Bool = refl
same_kind-flip EdmType.Int EdmType.Int = refl
same_kind-flip (EdmType.Dec s p) (EdmType.Dec s' p') = same_bool (s == s') (s' == s) (λ e. eq-eqb s' s (sym (eqb-true s s' e))) (λ e. eq-eqb s s' (sym (eqb-true s' s e)))
same_kind-flip EdmType.Text EdmType.Text = refl
same_kind-flip EdmType.Day EdmType.Day = refl
same_kind-flip _ _ = refl

-- types of one kind with a third
same_kind-met : (a b k : EdmType) → same_kind a k ≡ true → same_kind b k ≡ true → same_kind a b ≡ true
same_kind-met a b k h g = sym (same_kind-left k a b (same_kind-flip k a ∙ h)) ∙ same_kind-flip k b ∙ g

own-column : (m : Model) (S : Shape) (i : ℕ) (d : ColumnShape) → i < length S.columns → is_some (path_kind m S (get_or S.columns i d).path) ≡ true
own-column m S i d h =
    let p = (get_or S.columns i d).path in
    let f = found-there (λ c. same_path c.path p) S.columns (list_any_at (λ c. same_path c.path p) S.columns i d h (path-self p)) in
    ap (λ o. is_some (elim o [ Some c ↦ Some c.kind | None ↦ option_map (λ x. widened x.kind) (path_property m S p) ])) f.1

pub columns-from : (m : Model) (Ss : List Shape) → option_and_then (λ t. all_some (map (joined_column m Ss) t)) (fold add_columns (Some []) Ss) ≡ concat_columns m Ss
columns-from m Ss =
    branches-joined (λ c. c.path) (λ d c. same_kind d.kind c.kind) (λ c k. same_kind c.kind k) (λ S. S.columns) (path_kind m) Ss
    (λ d x k a h. sym (same_kind-left d.kind x.kind k a) ∙ h) (λ d x k h g. same_kind-met d.kind x.kind k h g) (own-column m) (merged_column Ss)

-- ---- prefixes

own-prefix : (S : Shape) (i : ℕ) (d : PrefixShape) → i < length S.prefixes → is_some (prefix_at S (get_or S.prefixes i d).path) ≡ true
own-prefix S i d h =
    let p = (get_or S.prefixes i d).path in
    let f = found-there (λ x. same_path x.path p) (all_prefixes S) (go p S.root (list_any_at (λ x. same_path x.path p) S.prefixes i d h (path-self p))) in
    ap is_some f.1
  where
    go : (p : Path) (o : Option RootShape) → list_any (λ x. same_path x.path p) S.prefixes ≡ true
        → list_any (λ x. same_path x.path p) (elim o [ None ↦ S.prefixes | Some r ↦ record { path = []; of = r.of; absent = r.absent } ∷ S.prefixes ]) ≡ true
    go p None e = e
    go p (Some r) e = or_right (same_path [] p) (list_any (λ x. same_path x.path p) S.prefixes) e

pub prefixes-from : (Ss : List Shape) → option_and_then (λ t. all_some (map (joined_prefix Ss) t)) (fold add_prefixes (Some []) Ss) ≡ concat_prefixes Ss
prefixes-from Ss =
    branches-joined (λ x. x.path) (λ y x. y.of == x.of) (λ x y. y.of == x.of) (λ S. S.prefixes) prefix_at Ss
    (λ d x k a h. eq-eqb k.of x.of (eqb-true k.of d.of h ∙ eqb-true d.of x.of a)) (λ d x k h g. eq-eqb d.of x.of (sym (eqb-true k.of d.of h) ∙ eqb-true k.of x.of g)) own-prefix (merged_prefix Ss)

-- ---- steps of the loops

-- an entry whose path stands in the table with what is like it, with what is not, or not at all
module _ {X : Type 0} (path : X → Path) (alike : X → X → Bool) (t : List X) (x : X) where
  abbrev entered : Option X → Option (List X)
  entered o = elim o [ Some d ↦ then_some (alike d x) t | None ↦ Some (t ++ x ∷ []) ]

  pub entry-other : option_map (λ d. alike d x) (at_path path t (path x)) ≡ Some false → add_entry path alike (Some t) x ≡ None
  entry-other e = go (at_path path t (path x)) e
    where
      go : (o : Option X) → option_map (λ d. alike d x) o ≡ Some false → entered o ≡ None
      go None e = cc
      go (Some d) e = ap (λ b. then_some b t) (some_value e)

pub columns-stuck : (t : List ColumnShape) (cs : List ColumnShape) (i : ℕ) (d : ColumnShape) → i < length cs → add_column (fold add_column (Some t) (take i cs)) (get_or cs i d) ≡ None → None ≡ fold add_column (Some t) cs
columns-stuck t cs i d h e = fold_stuck add_column None (λ x. refl) (Some t) cs i d h e

pub prefixes-stuck : (t : List PrefixShape) (xs : List PrefixShape) (i : ℕ) (d : PrefixShape) → i < length xs → add_prefix (fold add_prefix (Some t) (take i xs)) (get_or xs i d) ≡ None → None ≡ fold add_prefix (Some t) xs
prefixes-stuck t xs i d h e = fold_stuck add_prefix None (λ x. refl) (Some t) xs i d h e

pub branches-stuck : (Ss : List Shape) (i : ℕ) (d : Shape) → i < length Ss → add_columns (fold add_columns (Some []) (take i Ss)) (get_or Ss i d) ≡ None → None ≡ fold add_columns (Some []) Ss
branches-stuck Ss i d h e = fold_stuck add_columns None (λ S. fold_stays add_column None (λ x. refl) S.columns) (Some []) Ss i d h e

pub prefix-branches-stuck : (Ss : List Shape) (i : ℕ) (d : Shape) → i < length Ss → add_prefixes (fold add_prefixes (Some []) (take i Ss)) (get_or Ss i d) ≡ None → None ≡ fold add_prefixes (Some []) Ss
prefix-branches-stuck Ss i d h e = fold_stuck add_prefixes None (λ S. fold_stays add_prefix None (λ x. refl) S.prefixes) (Some []) Ss i d h e

-- a branch more
in_branches-more : (m : Model) (Ss : List Shape) (S : Shape) (c : ColumnShape) → in_branches m (Ss ++ S ∷ []) c ≡ option_and_then (λ a. option_map (both a) (in_branch m S c)) (in_branches m Ss c)
in_branches-more m Ss S c =
    (λ i. then_some (list_all-append (λ S. is_none_or (same_kind c.kind) (path_kind m S c.path)) Ss (S ∷ []) i)
    (record {
      declared = list_all-append (λ S. is_none_or (λ y. y.declared) (column_at S c.path)) Ss (S ∷ []) i;
      absent = list_any-append (λ S. is_none_or (λ y. y.absent) (column_at S c.path)) Ss (S ∷ []) i;
      risky = list_any-append (λ S. is_risky S c.path) Ss (S ∷ []) i;
    }))
    ∙ go (column_agrees m Ss c) (is_none_or (same_kind c.kind) (path_kind m S c.path))
    (list_all (λ S. is_none_or (λ y. y.declared) (column_at S c.path)) Ss) (is_none_or (λ y. y.declared) (column_at S c.path))
    (list_any (λ S. is_none_or (λ y. y.absent) (column_at S c.path)) Ss) (is_none_or (λ y. y.absent) (column_at S c.path))
    (list_any (λ S. is_risky S c.path) Ss) (is_risky S c.path)
  where
    go : (a g d d' b b' r r' : Bool) → then_some (a && (g && true)) (record { declared = d && (d' && true); absent = b || (b' || false); risky = r || (r' || false) })
        ≡ option_and_then (λ j. option_map (both j) (then_some g (record { declared = d'; absent = b'; risky = r' }))) (then_some a (record { declared = d; absent = b; risky = r }))
    go false g d d' b b' r r' = refl
    go true false d d' b b' r r' = refl
    go true true d d' b b' r r' = λ i. Some (record { declared = d && and-true d' i; absent = b || or-false b' i; risky = r || or-false r' i })

pub branches-next : (m : Model) (Ss : List Shape) (c : ColumnShape) (i : ℕ) (d : Shape) (a b : Joined) → i < length Ss → d ≡ get_or Ss i d → in_branches m (take i Ss) c ≡ Some a → Some b ≡ in_branch m d c → in_branches m (take (i + 1) Ss) c ≡ Some (both a b)
branches-next m Ss c i d a b h is e k =
    ap (λ l. in_branches m l c) (take_more Ss i d h) ∙ in_branches-more m (take i Ss) (get_or Ss i d) c
    ∙ (λ j. option_and_then (λ a. option_map (both a) (in_branch m (sym is j) c)) (e j)) ∙ ap (λ o. option_map (both a) o) (sym k)

-- a column from how the branches have it
pub column-joined : (m : Model) (Ss : List Shape) (c : ColumnShape) → option_map {T = Joined} (λ j. record c { declared = j.declared; absent = j.absent; risky = j.risky }) (in_branches m Ss c) ≡ joined_column m Ss c
column-joined m Ss c = go (column_agrees m Ss c)
  where
    go : (b : Bool) → option_map {T = Joined} (λ j. record c { declared = j.declared; absent = j.absent; risky = j.risky }) (then_some b (record { declared = list_all (λ S. is_none_or (λ y. y.declared) (column_at S c.path)) Ss; absent = list_any (λ S. is_none_or (λ y. y.absent) (column_at S c.path)) Ss; risky = list_any (λ S. is_risky S c.path) Ss }))
        ≡ then_some b (merged_column Ss c)
    go true = refl
    go false = refl

pub prefix-joined : (Ss : List Shape) (x : PrefixShape) → option_map {T = Bool} (λ a. record x { absent = a }) (some_lack_prefix Ss x) ≡ joined_prefix Ss x
prefix-joined Ss x = go (prefix_agrees Ss x)
  where
    go : (b : Bool) → option_map {T = Bool} (λ a. record x { absent = a }) (then_some b (list_any (λ S. is_none_or (λ y. y.absent) (prefix_at S x.path)) Ss)) ≡ then_some b (merged_prefix Ss x)
    go true = refl
    go false = refl

-- ---- the whole

all-agree : {X : Type 0} (p q : X → Bool) (xs : List X) → ((x : X) → p x ≡ q x) → list_all p xs ≡ list_all q xs
all-agree p q [] h = refl
all-agree p q (x ∷ xs) h = λ i. h x i && all-agree p q xs h i

all-both : {X : Type 0} (p q : X → Bool) (xs : List X) → list_all (λ x. p x && q x) xs ≡ (list_all p xs && list_all q xs)
all-both p q [] = refl
all-both p q (x ∷ xs) = ap (λ b. (p x && q x) && b) (all-both p q xs) ∙ go (p x) (q x) (list_all p xs) (list_all q xs)
  where
    go : (a b c d : Bool) → ((a && b) && (c && d)) ≡ ((a && c) && (b && d))
    go true true c d = refl
    go true false true d = refl
    go true false false d = refl
    go false b c d = refl

all-true : {X : Type 0} (xs : List X) → true ≡ list_all (λ x. true) xs
all-true [] = refl
all-true (x ∷ xs) = all-true xs

all-swap : {X Y : Type 0} (r : X → Y → Bool) (xs : List X) (ys : List Y) → list_all (λ x. list_all (r x) ys) xs ≡ list_all (λ y. list_all (λ x. r x y) xs) ys
all-swap r [] ys = all-true ys
all-swap r (x ∷ xs) ys = ap (λ b. list_all (r x) ys && b) (all-swap r xs ys) ∙ sym (all-both (r x) (λ y. list_all (λ x. r x y) xs) ys)

all-flat_is : {X Y : Type 0} (q : Y → Bool) (g : X → List Y) (xs : List X) → list_all (λ x. list_all q (g x)) xs ≡ list_all q (flat_map g xs)
all-flat_is q g [] = refl
all-flat_is q g (x ∷ xs) = ap (λ b. list_all q (g x) && b) (all-flat_is q g xs) ∙ sym (list_all-append q (g x) (flat_map g xs))

-- what one branch asks of all
branch-asks : (m : Model) (Ss : List Shape) (S : Shape) → list_all (λ S'. list_all (λ x. is_none_or (λ y. y.of == x.of) (prefix_at S' x.path)) (all_prefixes S) && list_all (λ c. is_none_or (same_kind c.kind) (path_kind m S' c.path)) S.columns) Ss
    ≡ ((is_none_or (root_agrees Ss) S.root && list_all (prefix_agrees Ss) S.prefixes) && list_all (column_agrees m Ss) S.columns)
branch-asks m Ss S =
    all-both (λ S'. list_all (λ x. is_none_or (λ y. y.of == x.of) (prefix_at S' x.path)) (all_prefixes S)) (λ S'. list_all (λ c. is_none_or (same_kind c.kind) (path_kind m S' c.path)) S.columns) Ss
    ∙ (λ i. all-swap (λ S' x. is_none_or (λ y. y.of == x.of) (prefix_at S' x.path)) Ss (all_prefixes S) i && all-swap (λ S' c. is_none_or (same_kind c.kind) (path_kind m S' c.path)) Ss S.columns i)
    ∙ ap (λ b. b && list_all (column_agrees m Ss) S.columns) (go S.root)
  where
    go : (o : Option RootShape) → list_all (prefix_agrees Ss) (elim o [ None ↦ S.prefixes | Some r ↦ record { path = []; of = r.of; absent = r.absent } ∷ S.prefixes ]) ≡ (is_none_or (root_agrees Ss) o && list_all (prefix_agrees Ss) S.prefixes)
    go None = refl
    go (Some r) = refl

agree-parts : (m : Model) (Ss : List Shape) → branches_agree m Ss ≡ ((roots_agree Ss && list_all (prefix_agrees Ss) (all_prefixes_of Ss)) && list_all (column_agrees m Ss) (all_columns Ss))
agree-parts m Ss =
    all-agree _ (λ S. (is_none_or (root_agrees Ss) S.root && list_all (prefix_agrees Ss) S.prefixes) && list_all (column_agrees m Ss) S.columns) Ss (branch-asks m Ss)
    ∙ all-both (λ S. is_none_or (root_agrees Ss) S.root && list_all (prefix_agrees Ss) S.prefixes) (λ S. list_all (column_agrees m Ss) S.columns) Ss
    ∙ (λ i. all-both (λ S. is_none_or (root_agrees Ss) S.root) (λ S. list_all (prefix_agrees Ss) S.prefixes) Ss i && all-flat_is (column_agrees m Ss) (λ S. S.columns) Ss i)
    ∙ ap (λ b. (roots_agree Ss && b) && list_all (column_agrees m Ss) (all_columns Ss)) (all-flat_is (prefix_agrees Ss) (λ S. S.prefixes) Ss)

abbrev joined : List Shape → List PrefixShape → List ColumnShape → Shape
joined Ss ps cs = record { root = option_map (merged_root Ss) (find_map (λ S. S.root) Ss); prefixes = ps; columns = cs }

concat-from : (m : Model) (Ss : List Shape) → concat_shape m Ss ≡ (if may_join Ss then joined_branches m Ss else None)
concat-from m Ss =
    ap (λ b. then_some (nat_le 2 (length Ss) && b) (joined Ss (map (merged_prefix Ss) (distinct (λ x y. same_path x.path y.path) (all_prefixes_of Ss))) (map (merged_column Ss) (distinct (λ x y. same_path x.path y.path) (all_columns Ss))))) (agree-parts m Ss)
    ∙ go (nat_le 2 (length Ss)) (roots_agree Ss) (list_all (prefix_agrees Ss) (all_prefixes_of Ss)) (list_all (column_agrees m Ss) (all_columns Ss))
    (map (merged_prefix Ss) (distinct (λ x y. same_path x.path y.path) (all_prefixes_of Ss))) (map (merged_column Ss) (distinct (λ x y. same_path x.path y.path) (all_columns Ss)))
  where
    go : (le r p c : Bool) (ps : List PrefixShape) (cs : List ColumnShape) → then_some (le && ((r && p) && c)) (joined Ss ps cs) ≡ (if le && r then option_and_then (λ ps. option_map (joined Ss ps) (then_some c cs)) (then_some p ps) else None)
    go false r p c ps cs = refl
    go true false p c ps cs = refl
    go true true false c ps cs = refl
    go true true true false ps cs = refl
    go true true true true ps cs = refl

pub concat-joined : (m : Model) (Ss : List Shape) → may_join Ss ≡ true → joined_branches m Ss ≡ concat_shape m Ss
concat-joined m Ss e = sym (concat-from m Ss ∙ ap (λ b. if b then joined_branches m Ss else None) e)

pub concat-refused : (m : Model) (Ss : List Shape) → may_join Ss ≡ false → None ≡ concat_shape m Ss
concat-refused m Ss e = sym (concat-from m Ss ∙ ap (λ b. if b then joined_branches m Ss else None) e)

-- ---- refusals on the way

pub column-refused : (t cs tbl : List ColumnShape) (i : ℕ) (d : ColumnShape) → i < length cs → d ≡ get_or cs i d → fold add_column (Some t) (take i cs) ≡ Some tbl → option_map (λ y. same_kind y.kind d.kind) (at_path (λ y. y.path) tbl d.path) ≡ Some false → None ≡ fold add_column (Some t) cs
column-refused t cs tbl i d h is f e =
    columns-stuck t cs i d h (ap (λ o. add_column o (get_or cs i d)) f ∙ ap (add_column (Some tbl)) (sym is) ∙ entry-other (λ c. c.path) (λ d c. same_kind d.kind c.kind) tbl d e)

pub prefix-refused : (t xs tbl : List PrefixShape) (i : ℕ) (d : PrefixShape) → i < length xs → d ≡ get_or xs i d → fold add_prefix (Some t) (take i xs) ≡ Some tbl → option_map (λ y. y.of == d.of) (at_path (λ y. y.path) tbl d.path) ≡ Some false → None ≡ fold add_prefix (Some t) xs
prefix-refused t xs tbl i d h is f e =
    prefixes-stuck t xs i d h (ap (λ o. add_prefix o (get_or xs i d)) f ∙ ap (add_prefix (Some tbl)) (sym is) ∙ entry-other (λ x. x.path) (λ y x. y.of == x.of) tbl d e)

pub branch-refused : (Ss : List Shape) (tbl cs : List ColumnShape) (i : ℕ) (d : Shape) → i < length Ss → d ≡ get_or Ss i d → fold add_columns (Some []) (take i Ss) ≡ Some tbl → cs ≡ d.columns → None ≡ fold add_column (Some tbl) cs → None ≡ fold add_columns (Some []) Ss
branch-refused Ss tbl cs i d h is f own e =
    branches-stuck Ss i d h (ap (λ o. add_columns o (get_or Ss i d)) f ∙ ap (add_columns (Some tbl)) (sym is) ∙ ap (fold add_column (Some tbl)) (sym own) ∙ sym e)

pub prefix-branch-refused : (Ss : List Shape) (tbl xs : List PrefixShape) (i : ℕ) (d : Shape) → i < length Ss → d ≡ get_or Ss i d → fold add_prefixes (Some []) (take i Ss) ≡ Some tbl → xs ≡ d.prefixes → None ≡ fold add_prefix (Some tbl) xs → None ≡ fold add_prefixes (Some []) Ss
prefix-branch-refused Ss tbl xs i d h is f own e =
    prefix-branches-stuck Ss i d h (ap (λ o. add_prefixes o (get_or Ss i d)) f ∙ ap (add_prefixes (Some tbl)) (sym is) ∙ ap (fold add_prefix (Some tbl)) (sym own) ∙ sym e)
