-- A printed pipeline is a text of it.
use Rattle.std.proofs.Common.{◌≡◌, refl, sym, ◌∙◌, ap, ℕ, suc, ◌≤◌, nat_le, nat_lt, Bool, true, false, ◌&&◌, List, [], ◌∷◌, ◌++◌, length, map, decimal, codes, arith, lit≤, Option, Some, None, inl, inr}
use Rattle.std.specs.Prelude.{if◌then◌else◌}
use Rattle.std.specs.List.{join_with_byte, list_all}
use Rattle.std.proofs.lemmas.List.{append-nil, append_assoc}
use Rattle.std.proofs.lemmas.Bool.{leb-true, ltb-false, leb-false, le-leb}
use Rattle.edm_values.specs.Values.{integer_max}
use Rattle.edm_values.specs.Lists.{is_nonempty, same_text}
use Rattle.edm_values.specs.Names.{Name, Path, is_name}
use Rattle.apply_ast.specs.Trees.{Expr, Named, OrderItem, AggItem, HierName, NumberLiteral, Limit, Pipe, Step, OptPipe, Pipes, Key, Keys, is_long, is_distance}
use Rattle.apply_ast.specs.Printing.{sign_word, print_expr, print_path, print_named, print_item, print_direction, print_agg, print_hier, print_limit, print_distance, print_steps, print_inner, print_branches, print_key, print_keys, print_step, enclosed, enclosed_if, level, binop_level, binop_word, fun1_word, fun2_word, method_word, join_word, climb_word, walk_word, top_word}
use Rattle.apply_ast.specs.Grammar.{Language, sign_text, word, ◌·◌, choice, given, empty, rws, comma, in_parentheses, listed, each_behind, name_text, path_text, number_text, Operand, bare, expr_text, as_text, named_text, direction_text, item_text, agg_text, hier_text, limit_text, distance_text, keep_text, order_text, call_text, Text, rest_text, inner_text, more_branches_text, branches_text, key_text, more_keys_text, keys_text, step_text, is_path, expr_writable, named_writable, item_writable, agg_writable, hier_writable, limit_writable, steps_writable, inner_writable, branches_writable, key_writable, keys_writable, step_writable, has_two, has_key}
use Rattle.apply_ast.specs.AstLaws.{PrintsText}
use Rattle.edm_values.proofs.EachLemmas.{and-left, and-right}
use Rattle.apply_ast.proofs.PrintedNumbers.{int_printed, dec_printed, day_printed, number_printed, below_64}
use Rattle.apply_ast.specs.declared.expressions.UnOp.{UnOp}
use Rattle.apply_ast.specs.declared.expressions.BinOp.{BinOp}
use Rattle.apply_ast.proofs.Joining.{parts}

-- a comma between two parts, and parentheses round one
comma_alone : comma (codes ",")
comma_alone = (parts ([]) (codes ",") refl (parts (codes ",") ([]) refl refl refl) refl)

behind_comma : (A : Language) (t : List ℕ) → A t → (comma · A) (codes "," ++ t)
behind_comma A t h = (parts (codes ",") t comma_alone h refl)

in_row : (A B : Language) (s t : List ℕ) → A s → B t → (A · comma · B) (s ++ (codes "," ++ t))
in_row A B s t h k = (parts s (codes "," ++ t) h (behind_comma B t k) refl)

parenthesised : (A : Language) (t : List ℕ) → A t → in_parentheses A (enclosed t)
parenthesised A t h = (parts (codes "(") (t ++ codes ")") (parts (codes "(") ([]) refl refl refl) ((parts t (codes ")") h ((parts ([]) (codes ")") refl refl refl)) refl)) refl)

called : (w : List ℕ) (A : Language) (t : List ℕ) → A t → call_text w A (w ++ enclosed t)
called w A t h = (parts w (enclosed t) refl (parenthesised A t h) refl)

-- a blank, a word and a blank
behind_blank : (A : Language) (t : List ℕ) → A t → (rws · A) (codes " " ++ t)
behind_blank A t h = (parts (codes " ") t (refl, refl) h refl)

behind_word : (w : List ℕ) (A : Language) (t : List ℕ) → A t → (word w · A) (w ++ t)
behind_word w A t h = (parts w t refl h refl)

-- at least one printed part, with commas between
in_list : {X : Type 0} (p : X → Bool) (L : X → Language) (pr : X → List ℕ) → ((x : X) → p x ≡ true → L x (pr x)) → (xs : List X) → list_all p xs ≡ true → is_nonempty xs ≡ true
    → listed comma L xs (join_with_byte 44 (map pr xs))
in_list p L pr h [] a n = cc
in_list p L pr h (x ∷ []) a n = h x (and-left (p x) true a)
in_list p L pr h (x ∷ (y ∷ xs)) a n =
    in_row (L x) (listed comma L (y ∷ xs)) (pr x) (join_with_byte 44 (map pr (y ∷ xs))) (h x (and-left (p x) (list_all p (y ∷ xs)) a)) (in_list p L pr h (y ∷ xs) (and-right (p x) (list_all p (y ∷ xs)) a) refl)

path_printed : (p : Path) → list_all is_name p ≡ true → is_nonempty p ≡ true → path_text p (print_path p)
path_printed [] a n = cc
path_printed (x ∷ []) a n = (and-left (is_name x) true a, refl)
path_printed (x ∷ (y ∷ p)) a n = (parts x (codes "/" ++ print_path (y ∷ p)) (and-left (is_name x) (list_all is_name (y ∷ p)) a, refl) (parts (codes "/") (print_path (y ∷ p)) refl (path_printed (y ∷ p) (and-right (is_name x) (list_all is_name (y ∷ p)) a) refl) refl) refl)

is_path-printed : (p : Path) → is_path p ≡ true → path_text p (print_path p)
is_path-printed p h = path_printed p (and-left (list_all is_name p) (is_nonempty p) h) (and-right (list_all is_name p) (is_nonempty p) h)

-- an Operand, in parentheses where the test says so
as_operand : (least l : ℕ) (b : Bool) (A : Language) (t : List ℕ) → A t → (b ≡ false → least ≤ l) → Operand least l A (enclosed_if b t)
as_operand least l true A t h k = (record { pairs = 1; of = parenthesised A t h; binds = λ e. absurd (go e) })
  where
    go : ◌≡◌ {A = ℕ} 1 0 → ⊥
    go e = cc
as_operand least l false A t h k = (record { pairs = 0; of = h; binds = λ e. k refl })

not_below : (a b : ℕ) → nat_lt a b ≡ false → b ≤ a
not_below a b h = ltb-false a b h

not_most : (a b : ℕ) → nat_le a b ≡ false → suc b ≤ a
not_most a b h = leb-false a b h

-- each expression has a level
binop_level_some : (op : BinOp) → 1 ≤ binop_level op
binop_level_some BinOp.Or = lit≤ tt
binop_level_some BinOp.And = lit≤ tt
binop_level_some BinOp.Eq = lit≤ tt
binop_level_some BinOp.Ne = lit≤ tt
binop_level_some BinOp.Gt = lit≤ tt
binop_level_some BinOp.Ge = lit≤ tt
binop_level_some BinOp.Lt = lit≤ tt
binop_level_some BinOp.Le = lit≤ tt
binop_level_some BinOp.Add = lit≤ tt
binop_level_some BinOp.Sub = lit≤ tt
binop_level_some BinOp.Mul = lit≤ tt

level_some : (e : Expr) → 1 ≤ level e
level_some (Expr.Binary op a b) = binop_level_some op
level_some (Expr.Unary op a) = lit≤ tt
level_some e = lit≤ tt

as_whole : (e : Expr) (t : List ℕ) → bare e t → expr_text e t
as_whole e t h = (record { pairs = 0; of = h; binds = λ k. level_some e })

sign_printed : (op : UnOp) → sign_text op (sign_word op)
sign_printed UnOp.Neg = parts (codes "-") [] refl refl refl
sign_printed UnOp.Not = parts (codes "not") (codes " ") refl (refl, refl) refl

bare_printed : (e : Expr) → expr_writable e ≡ true → bare e (print_expr e)
unfolding bare
bare_printed Expr.Null h = refl
bare_printed (Expr.Bool' b) h = refl
bare_printed (Expr.Int n) h = int_printed n h
bare_printed (Expr.Dec m s) h = dec_printed m s h
bare_printed (Expr.Text bs) h = refl
bare_printed (Expr.Day y m d) h = day_printed y m d h
bare_printed (Expr.Path' p) h = is_path-printed p h
bare_printed (Expr.Unary op a) h =
    let t = enclosed_if (nat_lt (level a) 7) (print_expr a) in
    parts (sign_word op) t (sign_printed op) (as_operand 7 (level a) (nat_lt (level a) 7) (bare a) (print_expr a) (bare_printed a h) (not_below (level a) 7)) refl
bare_printed (Expr.Binary op a b) h =
    let l = enclosed_if (nat_lt (level a) (binop_level op)) (print_expr a) in
    let r = enclosed_if (nat_le (level b) (binop_level op)) (print_expr b) in (parts l (codes " " ++ (binop_word op ++ (codes " " ++ r))) (as_operand (binop_level op) (level a) (nat_lt (level a) (binop_level op)) (bare a) (print_expr a) (bare_printed a (and-left (expr_writable a) (expr_writable b) h)) (not_below (level a) (binop_level op))) (behind_blank (word (binop_word op) · rws · Operand (suc (binop_level op)) (level b) (bare b)) (binop_word op ++ (codes " " ++ r))
    (behind_word (binop_word op) (rws · Operand (suc (binop_level op)) (level b) (bare b)) (codes " " ++ r)
    (behind_blank (Operand (suc (binop_level op)) (level b) (bare b)) r
    (as_operand (suc (binop_level op)) (level b) (nat_le (level b) (binop_level op)) (bare b) (print_expr b) (bare_printed b (and-right (expr_writable a) (expr_writable b) h)) (not_most (level b) (binop_level op)))))) refl)
bare_printed (Expr.Call1 f a) h = called (fun1_word f) (expr_text a) (print_expr a) (as_whole a (print_expr a) (bare_printed a h))
bare_printed (Expr.Call2 f a b) h =
    called (fun2_word f) (expr_text a · comma · expr_text b) (print_expr a ++ (codes "," ++ print_expr b))
    (in_row (expr_text a) (expr_text b) (print_expr a) (print_expr b) (as_whole a (print_expr a) (bare_printed a (and-left (expr_writable a) (expr_writable b) h)))
    (as_whole b (print_expr b) (bare_printed b (and-right (expr_writable a) (expr_writable b) h))))

expr_printed : (e : Expr) → expr_writable e ≡ true → expr_text e (print_expr e)
expr_printed e h = as_whole e (print_expr e) (bare_printed e h)

-- an alias
as_printed : (n : Name) → is_name n ≡ true → as_text n (codes " as " ++ n)
as_printed n h = behind_blank (word (codes "as") · rws · name_text n) (codes "as " ++ n)
    (behind_word (codes "as") (rws · name_text n) (codes " " ++ n) (behind_blank (name_text n) n (h, refl)))

named_printed : (x : Named) → named_writable x ≡ true → named_text x (print_named x)
named_printed x h =
    (parts (print_expr x.expr) (codes " as " ++ x.name) (expr_printed x.expr (and-left (expr_writable x.expr) (is_name x.name) h)) (as_printed x.name (and-right (expr_writable x.expr) (is_name x.name) h)) refl)

direction_printed : (b : Bool) → direction_text b (if b then codes " desc" else [])
direction_printed true = (parts (codes " ") (codes "desc") (refl, refl) refl refl)
direction_printed false = inl refl

item_printed : (x : OrderItem) → item_writable x ≡ true → item_text x (print_item x)
item_printed x h = (parts (print_expr x.expr) (print_direction x.desc) (expr_printed x.expr h) (direction_printed x.desc) refl)

own_printed : (b : Bool) (n a : Name) → is_name a ≡ true → same_text n a ≡ b → choice (as_text a) (given b empty) (if b then [] else codes " as " ++ a)
own_printed true n a h e = inr (refl, refl)
own_printed false n a h e = inl (as_printed a h)

agg_printed : (x : AggItem) → agg_writable x ≡ true → agg_text x (print_agg x)
agg_printed (AggItem.Count a) h = (parts (codes "$count") (codes " as " ++ a) refl (as_printed a h) refl)
agg_printed (AggItem.Standard e f a) h =
    let t = method_word f ++ (codes " as " ++ a) in (parts (print_expr e) (codes " with " ++ t) (expr_printed e (and-left (expr_writable e) (is_name a) h)) (behind_blank (word (codes "with") · rws · word (method_word f) · as_text a) (codes "with " ++ t)
    (behind_word (codes "with") (rws · word (method_word f) · as_text a) (codes " " ++ t)
    (behind_blank (word (method_word f) · as_text a) t (behind_word (method_word f) (as_text a) (codes " as " ++ a) (as_printed a (and-right (expr_writable e) (is_name a) h)))))) refl)
agg_printed (AggItem.Custom n a) h =
    (parts n (if same_text n a then [] else codes " as " ++ a) (and-left (is_name n) (is_name a) h, refl) (own_printed (same_text n a) n a (and-right (is_name n) (is_name a) h) refl) refl)

hier_printed : (h : HierName) → hier_writable h ≡ true → hier_text h (print_hier h)
hier_printed h k =
    behind_word (codes "$root/") (name_text h.set · comma · name_text h.qualifier) (h.set ++ (codes "," ++ h.qualifier))
    (in_row (name_text h.set) (name_text h.qualifier) h.set h.qualifier (and-left (is_name h.set) (is_name h.qualifier) k, refl) (and-right (is_name h.set) (is_name h.qualifier) k, refl))

count_printed : (n : ℕ) → nat_le n integer_max ≡ true → number_text 0 integer_max n (decimal n)
count_printed n h = number_printed 0 integer_max n (ap (λ b. b && nat_le n integer_max) (le-leb 0 n (omega arith)) ∙ h) (below_64 n h)

limit_printed : (l : Limit) → limit_writable l ≡ true → limit_text l (print_limit l)
limit_printed (Limit.Count n) h = count_printed n h
limit_printed (Limit.Sum (NumberLiteral.Int n)) h = int_printed n h
limit_printed (Limit.Sum (NumberLiteral.Dec m s)) h = dec_printed m s h
limit_printed (Limit.Percent p) h =
    let e : p ≤ 100 = leb-true p 100 h in
    number_printed 0 100 p (ap (λ b. b && nat_le p 100) (le-leb 0 p (omega arith)) ∙ h) (omega (arith, e))

-- what stands behind the first of printed parts
tail : ℕ → List (List ℕ) → List ℕ
tail c [] = []
tail c (y ∷ ys) = c ∷ join_with_byte c (y ∷ ys)

join-tail : (c : ℕ) (x : List ℕ) (xs : List (List ℕ)) → join_with_byte c (x ∷ xs) ≡ x ++ tail c xs
unfolding tail
join-tail c x [] = sym (append-nil x)
join-tail c x (y ∷ ys) = refl

first_and_tail : (A B : Language) (c : ℕ) (x : List ℕ) (xs : List (List ℕ)) → A x → B (tail c xs) → (A · B) (join_with_byte c (x ∷ xs))
first_and_tail A B c x xs h k = (parts x (tail c xs) h k (join-tail c x xs))

keep_printed : keep_text true (codes ",keep start")
keep_printed = behind_comma (word (codes "keep") · rws · word (codes "start")) (codes "keep start")
    (behind_word (codes "keep") (rws · word (codes "start")) (codes " start") (behind_blank (word (codes "start")) (codes "start") refl))

distance_printed : (d : Option ℕ) (keep : Bool) → is_distance d ≡ true → (distance_text d · keep_text keep) (tail 44 (print_distance d keep))
unfolding tail
distance_printed None false h = (parts ([]) ([]) refl refl refl)
distance_printed None true h = (parts ([]) (codes ",keep start") refl keep_printed refl)
distance_printed (Some n) false h =
    (parts (codes "," ++ decimal n) ([]) (behind_comma (number_text 1 integer_max n) (decimal n) (number_printed 1 integer_max n h (below_64 n (and-right (nat_le 1 n) (nat_le n integer_max) h)))) refl (sym (append-nil (codes "," ++ decimal n))))
distance_printed (Some n) true h =
    (parts (codes "," ++ decimal n) (codes ",keep start") (behind_comma (number_text 1 integer_max n) (decimal n) (number_printed 1 integer_max n h (below_64 n (and-right (nat_le 1 n) (nat_le n integer_max) h)))) keep_printed refl)

items_printed : (xs : List OrderItem) → list_all item_writable xs ≡ true → each_behind comma item_text xs (tail 44 (map print_item xs))
unfolding tail
items_printed [] h = refl
items_printed (x ∷ xs) h =
    behind_comma (item_text x · each_behind comma item_text xs) (join_with_byte 44 (print_item x ∷ map print_item xs))
    (first_and_tail (item_text x) (each_behind comma item_text xs) 44 (print_item x) (map print_item xs) (item_printed x (and-left (item_writable x) (list_all item_writable xs) h)) (items_printed xs (and-right (item_writable x) (list_all item_writable xs) h)))

mutual
  unfolding tail print_steps Text steps_writable

  pipe_printed : (p : Pipe) → is_long p ≡ true → steps_writable p ≡ true → Text p (join_with_byte 47 (print_steps p))
  pipe_printed Pipe.End n h = cc
  pipe_printed (Pipe.Then s p) n h =
      first_and_tail (step_text s) (rest_text p) 47 (print_step s) (print_steps p) (step_printed s (and-left (step_writable s) (steps_writable p) h)) (rest_printed p (and-right (step_writable s) (steps_writable p) h))

  rest_printed : (p : Pipe) → steps_writable p ≡ true → rest_text p (tail 47 (print_steps p))
  rest_printed Pipe.End h = refl
  rest_printed (Pipe.Then s p) h =
      behind_word (codes "/") (step_text s · rest_text p) (join_with_byte 47 (print_step s ∷ print_steps p))
      (first_and_tail (step_text s) (rest_text p) 47 (print_step s) (print_steps p) (step_printed s (and-left (step_writable s) (steps_writable p) h)) (rest_printed p (and-right (step_writable s) (steps_writable p) h)))

  inner_printed : (T : OptPipe) → inner_writable T ≡ true → inner_text T (tail 44 (print_inner T))
  inner_printed OptPipe.NoPipe h = refl
  inner_printed (OptPipe.SomePipe p) h = behind_comma (Text p) (join_with_byte 47 (print_steps p)) (pipe_printed p (and-left (is_long p) (steps_writable p) h) (and-right (is_long p) (steps_writable p) h))

  branches_printed : (ps : Pipes) → branches_writable ps ≡ true → more_branches_text ps (tail 44 (print_branches ps))
  branches_printed Pipes.NoPipes h = refl
  branches_printed (Pipes.MorePipes p ps) h =
      behind_comma (Text p · more_branches_text ps) (join_with_byte 44 (join_with_byte 47 (print_steps p) ∷ print_branches ps))
      (first_and_tail (Text p) (more_branches_text ps) 44 (join_with_byte 47 (print_steps p)) (print_branches ps)
      (pipe_printed p (and-left (is_long p) (steps_writable p) (and-left (is_long p && steps_writable p) (branches_writable ps) h)) (and-right (is_long p) (steps_writable p) (and-left (is_long p && steps_writable p) (branches_writable ps) h)))
      (branches_printed ps (and-right (is_long p && steps_writable p) (branches_writable ps) h)))

  key_printed : (k : Key) → key_writable k ≡ true → key_text k (print_key k)
  key_printed (Key.Plain p) h = is_path-printed p h
  key_printed (Key.Rollup true []) h = cc
  key_printed (Key.Rollup true (p ∷ ps)) h =
      called (codes "rollup") (word (codes "$all") · comma · listed comma path_text (p ∷ ps)) (codes "$all" ++ (codes "," ++ join_with_byte 44 (map print_path (p ∷ ps))))
      (in_row (word (codes "$all")) (listed comma path_text (p ∷ ps)) (codes "$all") (join_with_byte 44 (map print_path (p ∷ ps))) refl
      (in_list is_path path_text print_path is_path-printed (p ∷ ps) (and-left (list_all is_path (p ∷ ps)) (nat_le 1 (length (p ∷ ps))) h) refl))
  key_printed (Key.Rollup false []) h = cc
  key_printed (Key.Rollup false (p ∷ ps)) h = (
    and-right (list_all is_path (p ∷ ps)) (nat_le 2 (length (p ∷ ps))) h,
    called (codes "rollup") (listed comma path_text (p ∷ ps)) (join_with_byte 44 (map print_path (p ∷ ps)))
        (in_list is_path path_text print_path is_path-printed (p ∷ ps) (and-left (list_all is_path (p ∷ ps)) (nat_le 2 (length (p ∷ ps))) h) refl),
  )
  key_printed (Key.Recursive n p T) h =
      called (codes "rolluprecursive") (hier_text n · comma · path_text p · inner_text T) (print_hier n ++ (codes "," ++ join_with_byte 44 (print_path p ∷ print_inner T)))
      (in_row (hier_text n) (path_text p · inner_text T) (print_hier n) (join_with_byte 44 (print_path p ∷ print_inner T)) (hier_printed n (and-left (hier_writable n) (is_path p) (and-left (hier_writable n && is_path p) (inner_writable T) h)))
      (first_and_tail (path_text p) (inner_text T) 44 (print_path p) (print_inner T) (is_path-printed p (and-right (hier_writable n) (is_path p) (and-left (hier_writable n && is_path p) (inner_writable T) h)))
      (inner_printed T (and-right (hier_writable n && is_path p) (inner_writable T) h))))

  keys_printed : (ks : Keys) → keys_writable ks ≡ true → more_keys_text ks (tail 44 (print_keys ks))
  keys_printed Keys.NoKeys h = refl
  keys_printed (Keys.MoreKeys k ks) h =
      behind_comma (key_text k · more_keys_text ks) (join_with_byte 44 (print_key k ∷ print_keys ks))
      (first_and_tail (key_text k) (more_keys_text ks) 44 (print_key k) (print_keys ks) (key_printed k (and-left (key_writable k) (keys_writable ks) h)) (keys_printed ks (and-right (key_writable k) (keys_writable ks) h)))

  all_branches_printed : (ps : Pipes) → has_two ps ≡ true → branches_writable ps ≡ true → branches_text ps (join_with_byte 44 (print_branches ps))
  all_branches_printed Pipes.NoPipes n h = cc
  all_branches_printed (Pipes.MorePipes p ps) n h =
      first_and_tail (Text p) (more_branches_text ps) 44 (join_with_byte 47 (print_steps p)) (print_branches ps)
      (pipe_printed p (and-left (is_long p) (steps_writable p) (and-left (is_long p && steps_writable p) (branches_writable ps) h)) (and-right (is_long p) (steps_writable p) (and-left (is_long p && steps_writable p) (branches_writable ps) h)))
      (branches_printed ps (and-right (is_long p && steps_writable p) (branches_writable ps) h))

  all_keys_printed : (ks : Keys) → has_key ks ≡ true → keys_writable ks ≡ true → keys_text ks (join_with_byte 44 (print_keys ks))
  all_keys_printed Keys.NoKeys n h = cc
  all_keys_printed (Keys.MoreKeys k ks) n h =
      first_and_tail (key_text k) (more_keys_text ks) 44 (print_key k) (print_keys ks) (key_printed k (and-left (key_writable k) (keys_writable ks) h)) (keys_printed ks (and-right (key_writable k) (keys_writable ks) h))

  step_printed : (s : Step) → step_writable s ≡ true → step_text s (print_step s)
  step_printed Step.Identity h = refl
  step_printed (Step.Filter e) h = called (codes "filter") (expr_text e) (print_expr e) (expr_printed e h)
  step_printed (Step.Compute ns) h = called (codes "compute") (listed comma named_text ns) (join_with_byte 44 (map print_named ns))
      (in_list named_writable named_text print_named named_printed ns (and-left (list_all named_writable ns) (is_nonempty ns) h) (and-right (list_all named_writable ns) (is_nonempty ns) h))
  step_printed (Step.OrderBy items) h = called (codes "orderby") (listed comma item_text items) (join_with_byte 44 (map print_item items))
      (in_list item_writable item_text print_item item_printed items (and-left (list_all item_writable items) (is_nonempty items) h) (and-right (list_all item_writable items) (is_nonempty items) h))
  step_printed (Step.Skip n) h = called (codes "skip") (number_text 0 integer_max n) (decimal n) (count_printed n h)
  step_printed (Step.Top n) h = called (codes "top") (number_text 0 integer_max n) (decimal n) (count_printed n h)
  step_printed (Step.Aggregate items) h = called (codes "aggregate") (listed comma agg_text items) (join_with_byte 44 (map print_agg items))
      (in_list agg_writable agg_text print_agg agg_printed items (and-left (list_all agg_writable items) (is_nonempty items) h) (and-right (list_all agg_writable items) (is_nonempty items) h))
  step_printed (Step.GroupBy ks T) h =
      called (codes "groupby") (in_parentheses (keys_text ks) · inner_text T) (join_with_byte 44 (enclosed (join_with_byte 44 (print_keys ks)) ∷ print_inner T))
      (first_and_tail (in_parentheses (keys_text ks)) (inner_text T) 44 (enclosed (join_with_byte 44 (print_keys ks))) (print_inner T)
      (parenthesised (keys_text ks) (join_with_byte 44 (print_keys ks)) (all_keys_printed ks (and-left (has_key ks) (keys_writable ks) (and-left (has_key ks && keys_writable ks) (inner_writable T) h))
      (and-right (has_key ks) (keys_writable ks) (and-left (has_key ks && keys_writable ks) (inner_writable T) h))))
      (inner_printed T (and-right (has_key ks && keys_writable ks) (inner_writable T) h)))
  step_printed (Step.Concat ps) h = (
    and-left (has_two ps) (branches_writable ps) h,
    called (codes "concat") (branches_text ps) (join_with_byte 44 (print_branches ps))
        (all_branches_printed ps (and-left (has_two ps) (branches_writable ps) h) (and-right (has_two ps) (branches_writable ps) h)),
  )
  step_printed (Step.Join outer n a T) h =
      called (join_word outer) (name_text n · as_text a · inner_text T) (join_with_byte 44 ((n ++ (codes " as " ++ a)) ∷ print_inner T)) (parts n ((codes " as " ++ a) ++ tail 44 (print_inner T)) (and-left (is_name n) (is_name a) (and-left (is_name n && is_name a) (inner_writable T) h), refl) (parts (codes " as " ++ a) (tail 44 (print_inner T)) (as_printed a (and-right (is_name n) (is_name a) (and-left (is_name n && is_name a) (inner_writable T) h))) (inner_printed T (and-right (is_name n && is_name a) (inner_writable T) h)) refl) (join-tail 44 (n ++ (codes " as " ++ a)) (print_inner T) ∙ append_assoc n (codes " as " ++ a) (tail 44 (print_inner T))))
  step_printed (Step.TopBy t) h =
      called (top_word t.bottom t.limit) (limit_text t.limit · comma · expr_text t.expr) (print_limit t.limit ++ (codes "," ++ print_expr t.expr))
      (in_row (limit_text t.limit) (expr_text t.expr) (print_limit t.limit) (print_expr t.expr) (limit_printed t.limit (and-left (limit_writable t.limit) (expr_writable t.expr) h)) (expr_printed t.expr (and-right (limit_writable t.limit) (expr_writable t.expr) h)))
  step_printed (Step.Climb up n p T d keep) h =
      let h4 = and-left (hier_writable n && is_path p && is_long T && steps_writable T) (is_distance d) h in
      let h3 = and-left (hier_writable n && is_path p && is_long T) (steps_writable T) h4 in
      let h2 = and-left (hier_writable n && is_path p) (is_long T) h3 in
      let x = join_with_byte 47 (print_steps T) in
      called (climb_word up) (hier_text n · comma · path_text p · comma · Text T · distance_text d · keep_text keep) (print_hier n ++ (codes "," ++ (print_path p ++ (codes "," ++ join_with_byte 44 (x ∷ print_distance d keep)))))
      (in_row (hier_text n) (path_text p · comma · Text T · distance_text d · keep_text keep) (print_hier n) (print_path p ++ (codes "," ++ join_with_byte 44 (x ∷ print_distance d keep))) (hier_printed n (and-left (hier_writable n) (is_path p) h2))
      (in_row (path_text p) (Text T · distance_text d · keep_text keep) (print_path p) (join_with_byte 44 (x ∷ print_distance d keep)) (is_path-printed p (and-right (hier_writable n) (is_path p) h2))
      (first_and_tail (Text T) (distance_text d · keep_text keep) 44 x (print_distance d keep)
      (pipe_printed T (and-right (hier_writable n && is_path p) (is_long T) h3) (and-right (hier_writable n && is_path p && is_long T) (steps_writable T) h4))
      (distance_printed d keep (and-right (hier_writable n && is_path p && is_long T && steps_writable T) (is_distance d) h)))))
  step_printed (Step.Traverse t) h =
      let h2 = and-left (hier_writable t.hier && is_path t.path) (list_all item_writable t.items) h in
      called (codes "traverse") (hier_text t.hier · comma · path_text t.path · comma · order_text t.post · each_behind comma item_text t.items)
      (print_hier t.hier ++ (codes "," ++ (print_path t.path ++ (codes "," ++ join_with_byte 44 (walk_word t.post ∷ map print_item t.items)))))
      (in_row (hier_text t.hier) (path_text t.path · comma · order_text t.post · each_behind comma item_text t.items) (print_hier t.hier) (print_path t.path ++ (codes "," ++ join_with_byte 44 (walk_word t.post ∷ map print_item t.items)))
      (hier_printed t.hier (and-left (hier_writable t.hier) (is_path t.path) h2))
      (in_row (path_text t.path) (order_text t.post · each_behind comma item_text t.items) (print_path t.path) (join_with_byte 44 (walk_word t.post ∷ map print_item t.items)) (is_path-printed t.path (and-right (hier_writable t.hier) (is_path t.path) h2))
      (first_and_tail (order_text t.post) (each_behind comma item_text t.items) 44 (walk_word t.post) (map print_item t.items) refl (items_printed t.items (and-right (hier_writable t.hier && is_path t.path) (list_all item_writable t.items) h)))))

pub prints_text : PrintsText
unfolding print_steps steps_writable Text
prints_text p h = pipe_printed p (and-left (is_long p) (steps_writable p) h) (and-right (is_long p) (steps_writable p) h)
