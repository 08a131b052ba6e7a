-- What has a text can be written.
use Rattle.std.proofs.Common.{◌≡◌, refl, sym, subst, ℕ, zero, suc, ◌<◌, ◌≤◌, nat_le, Bool, true, false, ◌&&◌, List, [], ◌∷◌, ◌++◌, length, codes, arith, ℤ, Option, Some, None, inl, inr}
use Rattle.std.specs.List.{list_all}
use Rattle.std.specs.Str.Parse.{digits_value}
use Rattle.std.proofs.lemmas.Bool.{le-leb, and_from}
use Rattle.edm_values.specs.Values.{integer_max}
use Rattle.edm_values.specs.Parts.{mantissa_max, scale_max}
use Rattle.edm_values.specs.Lists.{is_nonempty}
use Rattle.edm_values.specs.Names.{Name, Path, is_name}
use Rattle.edm_values.proofs.EachLemmas.{and-left, and-right}
use Rattle.edm_values.proofs.SameTexts.{same_texts}
use Rattle.apply_ast.specs.Trees.{Expr, Named, OrderItem, AggItem, HierName, NumberLiteral, Limit, Pipe, Step, OptPipe, Pipes, Key, Keys, is_int_literal, is_dec_literal, is_long, is_distance}
use Rattle.apply_ast.specs.Grammar.{Language, word, comma, wrapped, listed, each_behind, name_text, path_text, int_text, dec_text, bare, expr_text, as_text, named_text, item_text, agg_text, hier_text, limit_text, distance_text, Text, rest_text, inner_text, more_branches_text, branches_text, key_text, more_keys_text, keys_text, step_text, is_path, expr_writable, named_writable, item_writable, agg_writable, hier_writable, limit_writable, steps_writable, inner_writable, branches_writable, key_writable, keys_writable, step_writable, has_two, has_key}
use Rattle.apply_ast.specs.AstLaws.{TextsAreWritable}

-- ---- parts of texts

unwrapped : (k : ℕ) (A : Language) (t : List ℕ) → wrapped k A t → (s : List ℕ) × A s
unwrapped zero A t h = (t, h)
unwrapped (suc k) A t h = unwrapped k A h.second.left h.second.first

-- ---- lists

list_writable : {X : Type 0} (p : X → Bool) (sep : Language) (L : X → Language) → ((x : X) (t : List ℕ) → L x t → p x ≡ true) → (xs : List X) (t : List ℕ) → listed sep L xs t → (list_all p xs && is_nonempty xs) ≡ true
list_writable p sep L f [] t h = absurd h
list_writable p sep L f (x ∷ []) t h = and_from (p x && true) true (and_from (p x) true (f x t h) refl) refl
list_writable p sep L f (x ∷ (y ∷ xs)) t h =
    let rest = list_writable p sep L f (y ∷ xs) h.second.right h.second.second in
    and_from (p x && list_all p (y ∷ xs)) true (and_from (p x) (list_all p (y ∷ xs)) (f x h.left h.first) (and-left (list_all p (y ∷ xs)) true rest)) refl

behind_writable : {X : Type 0} (p : X → Bool) (sep : Language) (L : X → Language) → ((x : X) (t : List ℕ) → L x t → p x ≡ true) → (xs : List X) (t : List ℕ) → each_behind sep L xs t → list_all p xs ≡ true
behind_writable p sep L f [] t h = refl
behind_writable p sep L f (x ∷ xs) t h = and_from (p x) (list_all p xs) (f x h.second.left h.second.first) (behind_writable p sep L f xs h.second.right h.second.second)

name_writable : (n : Name) (t : List ℕ) → name_text n t → is_name n ≡ true
name_writable n t h = h.0

path_writable : (p : Path) (t : List ℕ) → path_text p t → is_path p ≡ true
path_writable p t h = list_writable is_name (word (codes "/")) name_text name_writable p t h

as_writable : (n : Name) (t : List ℕ) → as_text n t → is_name n ≡ true
as_writable n t h = h.second.second.second.0

-- ---- literals

int_writable : (n : ℤ) (t : List ℕ) → int_text n t → is_int_literal n ≡ true
int_writable n t h = subst (λ n. is_int_literal n ≡ true) (sym h.1) h.2.0

dec_writable : (m : ℤ) (s : ℕ) (t : List ℕ) → dec_text m s t → is_dec_literal m s ≡ true
dec_writable m s t h =
    let v = digits_value 10 (h.0 ++ h.1) in
    let scale = and-left (nat_le s scale_max) (nat_le v mantissa_max) h.6 in
    let small = and-right (nat_le s scale_max) (nat_le v mantissa_max) h.6 in
    let long : nat_le 1 s ≡ true = le-leb 1 s (subst (λ n. 1 ≤ n) h.5 (some (length h.1) h.4.0)) in
    subst (λ m. is_dec_literal m s ≡ true) (sym h.7)
    (and_from (nat_le 0 v && nat_le v mantissa_max && nat_le 1 s) (nat_le s scale_max)
    (and_from (nat_le 0 v && nat_le v mantissa_max) (nat_le 1 s) (and_from (nat_le 0 v) (nat_le v mantissa_max) (le-leb 0 v (omega arith)) small) long) scale)
  where
    some : (n : ℕ) → 0 < n → 1 ≤ n
    some n h = omega (arith, h)

bare_writable : (e : Expr) (t : List ℕ) → bare e t → expr_writable e ≡ true
unfolding bare
bare_writable Expr.Null t h = refl
bare_writable (Expr.Bool' b) t h = refl
bare_writable (Expr.Int n) t h = int_writable n t h
bare_writable (Expr.Dec m s) t h = dec_writable m s t h
bare_writable (Expr.Text bs) t h = refl
bare_writable (Expr.Day y m d) t h = h.0
bare_writable (Expr.Path' p) t h = path_writable p t h
bare_writable (Expr.Unary op a) t h =
    let x = unwrapped h.second.pairs (bare a) h.right h.second.of in bare_writable a x.0 x.1
bare_writable (Expr.Binary op a b) t h =
    let x = unwrapped h.first.pairs (bare a) h.left h.first.of in
    let r = h.second.second.second in
    let y = unwrapped r.second.pairs (bare b) r.right r.second.of in
    and_from (expr_writable a) (expr_writable b) (bare_writable a x.0 x.1) (bare_writable b y.0 y.1)
bare_writable (Expr.Call1 f a) t h =
    let e = h.second.second.first in
    let x = unwrapped e.pairs (bare a) h.second.second.left e.of in bare_writable a x.0 x.1
bare_writable (Expr.Call2 f a b) t h =
    let e = h.second.second.first in
    let x = unwrapped e.first.pairs (bare a) e.left e.first.of in
    let y = unwrapped e.second.second.pairs (bare b) e.second.right e.second.second.of in
    and_from (expr_writable a) (expr_writable b) (bare_writable a x.0 x.1) (bare_writable b y.0 y.1)

whole_writable : (e : Expr) (t : List ℕ) → expr_text e t → expr_writable e ≡ true
whole_writable e t h = let x = unwrapped h.pairs (bare e) t h.of in bare_writable e x.0 x.1

-- ---- items

named_is : (x : Named) (t : List ℕ) → named_text x t → named_writable x ≡ true
named_is x t h = and_from (expr_writable x.expr) (is_name x.name) (whole_writable x.expr h.left h.first) (as_writable x.name h.right h.second)

item_is : (x : OrderItem) (t : List ℕ) → item_text x t → item_writable x ≡ true
item_is x t h = whole_writable x.expr h.left h.first

agg_is : (x : AggItem) (t : List ℕ) → agg_text x t → agg_writable x ≡ true
agg_is (AggItem.Count a) t h = as_writable a h.right h.second
agg_is (AggItem.Standard e f a) t h =
    and_from (expr_writable e) (is_name a) (whole_writable e h.left h.first) (as_writable a h.second.second.second.second.right h.second.second.second.second.second)
agg_is (AggItem.Custom n a) t h =
    and_from (is_name n) (is_name a) h.first.0
    (elim h.second [ inl x ↦ as_writable a h.right x | inr x ↦ subst (λ z. is_name z ≡ true) (same_texts n a x.0) h.first.0 ])

hier_is : (x : HierName) (t : List ℕ) → hier_text x t → hier_writable x ≡ true
hier_is x t h = and_from (is_name x.set) (is_name x.qualifier) h.second.first.0 h.second.second.second.0

limit_is : (l : Limit) (t : List ℕ) → limit_text l t → limit_writable l ≡ true
limit_is (Limit.Count n) t h = and-right (nat_le 0 n) (nat_le n integer_max) h.0
limit_is (Limit.Sum (NumberLiteral.Int n)) t h = int_writable n t h
limit_is (Limit.Sum (NumberLiteral.Dec m s)) t h = dec_writable m s t h
limit_is (Limit.Percent p) t h = and-right (nat_le 0 p) (nat_le p 100) h.0

distance_is : (d : Option ℕ) (t : List ℕ) → distance_text d t → is_distance d ≡ true
distance_is None t h = refl
distance_is (Some d) t h = h.second.0

-- ---- pipelines

some_long : {X : Type 0} (xs : List X) → is_nonempty xs ≡ true → nat_le 1 (length xs) ≡ true
some_long [] h = cc
some_long (x ∷ xs) h = le-leb 1 (suc (length xs)) (omega arith)

mutual
  unfolding Text steps_writable

  text_is : (p : Pipe) (t : List ℕ) → Text p t → (is_long p && steps_writable p) ≡ true
  text_is Pipe.End t h = absurd h
  text_is (Pipe.Then s p) t h = and_from (step_writable s) (steps_writable p) (step_is s h.left h.first) (rest_is p h.right h.second)

  rest_is : (p : Pipe) (t : List ℕ) → rest_text p t → steps_writable p ≡ true
  rest_is Pipe.End t h = refl
  rest_is (Pipe.Then s p) t h = and_from (step_writable s) (steps_writable p) (step_is s h.second.left h.second.first) (rest_is p h.second.right h.second.second)

  inner_is : (T : OptPipe) (t : List ℕ) → inner_text T t → inner_writable T ≡ true
  inner_is OptPipe.NoPipe t h = refl
  inner_is (OptPipe.SomePipe p) t h = text_is p h.right h.second

  more_branches_are : (ps : Pipes) (t : List ℕ) → more_branches_text ps t → branches_writable ps ≡ true
  more_branches_are Pipes.NoPipes t h = refl
  more_branches_are (Pipes.MorePipes p ps) t h =
      and_from (is_long p && steps_writable p) (branches_writable ps) (text_is p h.second.left h.second.first) (more_branches_are ps h.second.right h.second.second)

  branches_are : (ps : Pipes) (t : List ℕ) → branches_text ps t → branches_writable ps ≡ true
  branches_are Pipes.NoPipes t h = absurd h
  branches_are (Pipes.MorePipes p ps) t h = and_from (is_long p && steps_writable p) (branches_writable ps) (text_is p h.left h.first) (more_branches_are ps h.right h.second)

  key_is : (k : Key) (t : List ℕ) → key_text k t → key_writable k ≡ true
  key_is (Key.Plain p) t h = path_writable p t h
  key_is (Key.Rollup true ps) t h =
      let a = h.second.second in
      let l = list_writable is_path comma path_text path_writable ps a.first.second.right a.first.second.second in
      and_from (list_all is_path ps) (nat_le 1 (length ps)) (and-left (list_all is_path ps) (is_nonempty ps) l) (some_long ps (and-right (list_all is_path ps) (is_nonempty ps) l))
  key_is (Key.Rollup false ps) t h =
      let a = h.1.second.second in
      and_from (list_all is_path ps) (nat_le 2 (length ps)) (and-left (list_all is_path ps) (is_nonempty ps) (list_writable is_path comma path_text path_writable ps a.left a.first)) h.0
  key_is (Key.Recursive x p T) t h =
      let a = h.second.second in
      let b = a.first.second.second in
      and_from (hier_writable x && is_path p) (inner_writable T) (and_from (hier_writable x) (is_path p) (hier_is x a.first.left a.first.first) (path_writable p b.left b.first)) (inner_is T b.right b.second)

  more_keys_are : (ks : Keys) (t : List ℕ) → more_keys_text ks t → keys_writable ks ≡ true
  more_keys_are Keys.NoKeys t h = refl
  more_keys_are (Keys.MoreKeys k ks) t h = and_from (key_writable k) (keys_writable ks) (key_is k h.second.left h.second.first) (more_keys_are ks h.second.right h.second.second)

  keys_are : (ks : Keys) (t : List ℕ) → keys_text ks t → (has_key ks && keys_writable ks) ≡ true
  keys_are Keys.NoKeys t h = absurd h
  keys_are (Keys.MoreKeys k ks) t h = and_from (key_writable k) (keys_writable ks) (key_is k h.left h.first) (more_keys_are ks h.right h.second)

  step_is : (s : Step) (t : List ℕ) → step_text s t → step_writable s ≡ true
  step_is Step.Identity t h = refl
  step_is (Step.Filter e) t h = let a = h.second.second in whole_writable e a.left a.first
  step_is (Step.Compute ns) t h = let a = h.second.second in list_writable named_writable comma named_text named_is ns a.left a.first
  step_is (Step.OrderBy items) t h = let a = h.second.second in list_writable item_writable comma item_text item_is items a.left a.first
  step_is (Step.Skip n) t h = and-right (nat_le 0 n) (nat_le n integer_max) h.second.second.first.0
  step_is (Step.Top n) t h = and-right (nat_le 0 n) (nat_le n integer_max) h.second.second.first.0
  step_is (Step.Aggregate items) t h = let a = h.second.second in list_writable agg_writable comma agg_text agg_is items a.left a.first
  step_is (Step.GroupBy ks T) t h =
      let a = h.second.second.first in
      and_from (has_key ks && keys_writable ks) (inner_writable T) (keys_are ks a.first.second.left a.first.second.first) (inner_is T a.right a.second)
  step_is (Step.Concat ps) t h = let a = h.1.second.second in and_from (has_two ps) (branches_writable ps) h.0 (branches_are ps a.left a.first)
  step_is (Step.Join outer n b T) t h =
      let a = h.second.second.first in
      and_from (is_name n && is_name b) (inner_writable T) (and_from (is_name n) (is_name b) a.first.0 (as_writable b a.second.left a.second.first)) (inner_is T a.second.right a.second.second)
  step_is (Step.TopBy x) t h =
      let a = h.second.second.first in
      and_from (limit_writable x.limit) (expr_writable x.expr) (limit_is x.limit a.left a.first) (whole_writable x.expr a.second.right a.second.second)
  step_is (Step.Climb up x p T d keep) t h =
      let a = h.second.second.first in
      let b = a.second.second in
      let c = b.second.second in
      let w = text_is T c.left c.first in
      and_from (hier_writable x && is_path p && is_long T && steps_writable T) (is_distance d)
      (and_from (hier_writable x && is_path p && is_long T) (steps_writable T)
      (and_from (hier_writable x && is_path p) (is_long T) (and_from (hier_writable x) (is_path p) (hier_is x a.left a.first) (path_writable p b.left b.first)) (and-left (is_long T) (steps_writable T) w))
      (and-right (is_long T) (steps_writable T) w))
      (distance_is d c.second.left c.second.first)
  step_is (Step.Traverse x) t h =
      let a = h.second.second.first in
      let b = a.second.second in
      and_from (hier_writable x.hier && is_path x.path) (list_all item_writable x.items) (and_from (hier_writable x.hier) (is_path x.path) (hier_is x.hier a.left a.first) (path_writable x.path b.left b.first))
      (behind_writable item_writable comma item_text item_is x.items b.second.second.right b.second.second.second)

pub texts_are_writable : TextsAreWritable
unfolding Text steps_writable
texts_are_writable p t h = text_is p t h
