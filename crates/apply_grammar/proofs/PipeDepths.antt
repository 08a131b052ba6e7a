-- The same of items, steps and pipelines: their texts by depth are those of the grammar that keep the limits.
use Rattle.std.proofs.Common.{◌≡◌, ℕ, nat_le, Bool, true, false, ◌&&◌, List, [], ◌∷◌, length, Option, Some, None, refl, inl, inr}
use Rattle.std.proofs.lemmas.Bool.{and_from, and_parts}
use Rattle.std.specs.Prelude.{codes}
use Rattle.std.specs.List.{list_all}
use Rattle.std.proofs.Math.Dec.{leb-zero}
use Rattle.edm_values.specs.declared.Method.{Method}
use Rattle.edm_values.specs.Lists.{same_text}
use Rattle.edm_values.specs.Names.{Name, Path}
use Rattle.edm_values.specs.Values.{integer_max}
use Rattle.apply_ast.specs.Trees.{Expr, Named, OrderItem, AggItem, HierName, NumberLiteral, Limit, TopStep, TraverseStep, Pipe, Step, OptPipe, Pipes, Key, Keys}
use Rattle.apply_ast.specs.Printing.{method_word, join_word, climb_word, walk_word, top_word}
use Rattle.apply_ast.specs.Grammar as grammar
use Rattle.apply_ast.specs.Grammar.{Language, word, ◌·◌, choice, given, empty, comma, listed, each_behind, path_text, as_text, direction_text, hier_text, keep_text, order_text, has_two}
use Rattle.apply_ast.specs.Grammar.{Text as text, rest_text as grammar_rest, inner_text as grammar_inner, more_branches_text as grammar_more_branches, branches_text as grammar_branches, key_text as grammar_key, more_keys_text as grammar_more_keys, keys_text as grammar_keys, step_text as grammar_step}
use Rattle.apply_grammar.specs.Limits.{is_small, agg_small, all_small, inner_small, branches_small, key_small, keys_small, step_small, Bounds}
use Rattle.apply_grammar.proofs.Nested as nested
use Rattle.apply_grammar.proofs.Nested.{Distance, Text, rest_text, inner_text, more_branches_text, branches_text, key_text, more_keys_text, keys_text, step_text}
use Rattle.apply_grammar.proofs.Depths.{Tied, limited, Flat, flat, joined, flat_then, then_flat, flat_join, flat_word, no_text, if_given, flat_rws, flat_comma, flat_name, flat_listed, flat_path, digits_to, digits_from, flat_digits, both_flat, int_to, int_from, flat_int, dec_to, dec_from, flat_dec, parentheses, small_tied}

-- ---- parts of plain bytes

flat_as : (n : Name) → Flat (as_text n)
flat_as n = flat_join flat_rws (flat_join (flat_word (codes "as") refl) (flat_join flat_rws (flat_name n)))

flat_empty : Flat empty
flat_empty = flat_word [] refl

flat_direction : (b : Bool) → Flat (direction_text b)
flat_direction true t h = flat_join flat_rws (flat_word (codes "desc") refl) t h
flat_direction false t (inl h) = flat_empty t h
flat_direction false t (inr h) = flat_join flat_rws (flat_word (codes "asc") refl) t h

flat_method : (m : Method) → Flat (word (method_word m))
flat_method Method.Sum = flat_word (codes "sum") refl
flat_method Method.Min = flat_word (codes "min") refl
flat_method Method.Max = flat_word (codes "max") refl
flat_method Method.CountDistinct = flat_word (codes "countdistinct") refl

flat_hier : (h : HierName) → Flat (hier_text h)
flat_hier h = flat_join (flat_word (codes "$root/") refl) (flat_join (flat_name h.set) (flat_join flat_comma (flat_name h.qualifier)))

flat_keep : (b : Bool) → Flat (keep_text b)
flat_keep false = flat_empty
flat_keep true = flat_join flat_comma (flat_join (flat_word (codes "keep") refl) (flat_join flat_rws (flat_word (codes "start") refl)))

flat_order : (b : Bool) → Flat (order_text b)
flat_order true = flat_word (walk_word true) refl
flat_order false = flat_word (walk_word false) refl

flat_alias : (n m : Name) → Flat (choice (as_text m) (given (same_text n m) empty))
flat_alias n m t (inl h) = flat_as m t h
flat_alias n m t (inr h) = flat_empty t h.1

flat_join_word : (b : Bool) → Flat (word (join_word b))
flat_join_word true = flat_word (join_word true) refl
flat_join_word false = flat_word (join_word false) refl

flat_climb_word : (b : Bool) → Flat (word (climb_word b))
flat_climb_word true = flat_word (climb_word true) refl
flat_climb_word false = flat_word (climb_word false) refl

flat_top_word : (b : Bool) (l : Limit) → Flat (word (top_word b l))
flat_top_word true (Limit.Count n) = flat_word (codes "bottomcount") refl
flat_top_word true (Limit.Sum x) = flat_word (codes "bottomsum") refl
flat_top_word true (Limit.Percent p) = flat_word (codes "bottompercent") refl
flat_top_word false (Limit.Count n) = flat_word (codes "topcount") refl
flat_top_word false (Limit.Sum x) = flat_word (codes "topsum") refl
flat_top_word false (Limit.Percent p) = flat_word (codes "toppercent") refl

literal_to : (x : NumberLiteral) (t : List ℕ) → nested.literal_text x t → grammar.literal_text x t
literal_to (NumberLiteral.Int z) t h = int_to z t h
literal_to (NumberLiteral.Dec m s) t h = dec_to m s t h

literal_from : (x : NumberLiteral) (t : List ℕ) → grammar.literal_text x t → nested.literal_text x t
literal_from (NumberLiteral.Int z) t h = int_from z t h
literal_from (NumberLiteral.Dec m s) t h = dec_from m s t h

flat_literal : (x : NumberLiteral) → Flat (nested.literal_text x)
flat_literal (NumberLiteral.Int z) = flat_int z
flat_literal (NumberLiteral.Dec m s) = flat_dec m s

limit_to : (l : Limit) (t : List ℕ) → nested.limit_text l t → grammar.limit_text l t
limit_to (Limit.Count n) t h = digits_to integer_max n t h
limit_to (Limit.Sum x) t h = literal_to x t h
limit_to (Limit.Percent p) t h = digits_to 100 p t h

limit_from : (l : Limit) (t : List ℕ) → grammar.limit_text l t → nested.limit_text l t
limit_from (Limit.Count n) t h = digits_from integer_max n t h
limit_from (Limit.Sum x) t h = literal_from x t h
limit_from (Limit.Percent p) t h = digits_from 100 p t h

flat_limit : (l : Limit) → Flat (nested.limit_text l)
flat_limit (Limit.Count n) = flat_digits integer_max n
flat_limit (Limit.Sum x) = flat_literal x
flat_limit (Limit.Percent p) = flat_digits 100 p

distance_to : (n : ℕ) (t : List ℕ) → Distance n t → grammar.number_text 1 integer_max n t
distance_to n t h =
    let d = digits_to integer_max n t h.of in
    let q = and_parts (nat_le 0 n) (nat_le n integer_max) d.0 in
    (and_from (nat_le 1 n) (nat_le n integer_max) h.some q.1, d.1)

distance_from : (n : ℕ) (t : List ℕ) → grammar.number_text 1 integer_max n t → Distance n t
distance_from n t h =
    let q = and_parts (nat_le 1 n) (nat_le n integer_max) h.0 in
    record { of = digits_from integer_max n t (and_from (nat_le 0 n) (nat_le n integer_max) (leb-zero n) q.1, h.1); some = q.0 }

distance_tied : (limits : Bounds) (x : Option ℕ) → Tied limits (Unit {0}) (grammar.distance_text x) (λ d. nested.distance_text x)
distance_tied limits None = flat limits flat_empty
distance_tied limits (Some n) = flat_then limits flat_comma (both_flat limits (distance_to n) (distance_from n) (λ t h. flat_digits integer_max n t h.of))

-- ---- lists

listed_tied : (limits : Bounds) {X : Type 0} {S : Language} {L : X → Language} {M : ℕ → X → Language} (p : X → Bool) → Flat S → ((x : X) → Tied limits (p x ≡ true) (L x) (λ d. M d x)) → (xs : List X) → Tied limits (list_all p xs ≡ true) (listed S L xs) (λ d. listed S (M d) xs)
listed_tied limits p s f [] = no_text limits refl
listed_tied limits p s f (x ∷ []) = limited limits (λ h. and_from (p x) true h refl) (λ h. (and_parts (p x) true h).0) (f x)
listed_tied limits p s f (x ∷ (y ∷ xs)) = limited limits (λ h. and_from (p x) (list_all p (y ∷ xs)) h.0 h.1) (λ h. and_parts (p x) (list_all p (y ∷ xs)) h) (joined limits (f x) (flat_then limits s (listed_tied limits p s f (y ∷ xs))))

behind_tied : (limits : Bounds) {X : Type 0} {S : Language} {L : X → Language} {M : ℕ → X → Language} (p : X → Bool) → Flat S → ((x : X) → Tied limits (p x ≡ true) (L x) (λ d. M d x)) → (xs : List X) → Tied limits (list_all p xs ≡ true) (each_behind S L xs) (λ d. each_behind S (M d) xs)
behind_tied limits p s f [] = limited limits (λ h. refl) (λ h. tt) (flat limits flat_empty)
behind_tied limits p s f (x ∷ xs) = limited limits (λ h. and_from (p x) (list_all p xs) h.0 h.1) (λ h. and_parts (p x) (list_all p xs) h) (flat_then limits s (joined limits (f x) (behind_tied limits p s f xs)))

-- ---- items

named_tied : (limits : Bounds) (x : Named) → Tied limits (is_small limits.operations x.expr ≡ true) (grammar.named_text x) (λ d. nested.named_text limits d x)
named_tied limits x = then_flat limits (small_tied limits x.expr) (flat_as x.name)

item_tied : (limits : Bounds) (x : OrderItem) → Tied limits (is_small limits.operations x.expr ≡ true) (grammar.item_text x) (λ d. nested.item_text limits d x)
item_tied limits x = then_flat limits (small_tied limits x.expr) (flat_direction x.desc)

free : (limits : Bounds) {P : Bool} {A : Language} {L : ℕ → Language} → P ≡ true → Tied limits (Unit {0}) A L → Tied limits (P ≡ true) A L
free limits e x = limited limits (λ h. e) (λ h. tt) x

agg_tied : (limits : Bounds) (x : AggItem) → Tied limits (agg_small limits.operations x ≡ true) (grammar.agg_text x) (λ d. nested.agg_text limits d x)
agg_tied limits (AggItem.Count a) = free limits refl (flat limits (flat_join (flat_word (codes "$count") refl) (flat_as a)))
agg_tied limits (AggItem.Standard e m a) = then_flat limits (small_tied limits e) (flat_join flat_rws (flat_join (flat_word (codes "with") refl) (flat_join flat_rws (flat_join (flat_method m) (flat_as a)))))
agg_tied limits (AggItem.Custom n a) = free limits refl (flat limits (flat_join (flat_name n) (flat_alias n a)))

-- ---- steps

-- the limit of two parts
both : (limits : Bounds) {a b : Bool} {A : Language} {L : ℕ → Language} → Tied limits ((a ≡ true) × (b ≡ true)) A L → Tied limits ((a && b) ≡ true) A L
both limits {a} {b} x = limited limits (λ h. and_from a b h.0 h.1) (λ h. and_parts a b h) x

call_tied : (limits : Bounds) {P : Type 0} {A : Language} {L : ℕ → Language} (w : List ℕ) → Flat (word w) → Tied limits P A L → Tied limits P (grammar.call_text w A) (λ d. nested.call_text w d L)
call_tied limits w f x = flat_then limits f (parentheses limits x)

abbrev TiedBy : Bounds → Bool → Language → (ℕ → Language) → Type 0
TiedBy limits p A L = Tied limits (p ≡ true) A L

node_tied : (limits : Bounds) {P : Type 0} {A : Language} {L : ℕ → Language} (h : HierName) (p : Path) → Tied limits P A L → Tied limits P (hier_text h · comma · path_text p · A) (λ d. hier_text h · comma · path_text p · L d)
node_tied limits h p x = flat_then limits (flat_hier h) (flat_then limits flat_comma (flat_then limits (flat_path p) x))

no_inner : (limits : Bounds) → TiedBy limits (inner_small limits.operations OptPipe.NoPipe) (grammar_inner OptPipe.NoPipe) (inner_text limits OptPipe.NoPipe)
unfolding grammar_inner inner_text
no_inner limits = free limits refl (flat limits flat_empty)

some_inner : (limits : Bounds) (p : Pipe) → TiedBy limits (all_small limits.operations p) (text p) (Text limits p) → TiedBy limits (inner_small limits.operations (OptPipe.SomePipe p)) (grammar_inner (OptPipe.SomePipe p)) (inner_text limits (OptPipe.SomePipe p))
unfolding grammar_inner inner_text
some_inner limits p x = flat_then limits flat_comma x

plain_key : (limits : Bounds) (p : Path) → TiedBy limits (key_small limits.operations (Key.Plain p)) (grammar_key (Key.Plain p)) (key_text limits (Key.Plain p))
unfolding grammar_key key_text
plain_key limits p = free limits refl (flat limits (flat_path p))

rollup_key : (limits : Bounds) (all : Bool) (ps : List Path) → TiedBy limits (key_small limits.operations (Key.Rollup all ps)) (grammar_key (Key.Rollup all ps)) (key_text limits (Key.Rollup all ps))
unfolding grammar_key key_text
rollup_key limits true ps = free limits refl (call_tied limits (codes "rollup") (flat_word (codes "rollup") refl) (flat limits (flat_join (flat_word (codes "$all") refl) (flat_join flat_comma (flat_listed flat_comma flat_path ps)))))
rollup_key limits false ps = free limits refl (if_given limits (nat_le 2 (length ps)) (call_tied limits (codes "rollup") (flat_word (codes "rollup") refl) (flat limits (flat_listed flat_comma flat_path ps))))

recursive_key : (limits : Bounds) (h : HierName) (p : Path) (T : OptPipe) → TiedBy limits (inner_small limits.operations T) (grammar_inner T) (inner_text limits T) → TiedBy limits (key_small limits.operations (Key.Recursive h p T)) (grammar_key (Key.Recursive h p T)) (key_text limits (Key.Recursive h p T))
unfolding grammar_key key_text
recursive_key limits h p T x = call_tied limits (codes "rolluprecursive") (flat_word (codes "rolluprecursive") refl) (node_tied limits h p x)

no_more_keys : (limits : Bounds) → TiedBy limits (keys_small limits.operations Keys.NoKeys) (grammar_more_keys Keys.NoKeys) (more_keys_text limits Keys.NoKeys)
unfolding grammar_more_keys more_keys_text
no_more_keys limits = free limits refl (flat limits flat_empty)

more_keys : (limits : Bounds) (k : Key) (ks : Keys) → TiedBy limits (key_small limits.operations k) (grammar_key k) (key_text limits k) → TiedBy limits (keys_small limits.operations ks) (grammar_more_keys ks) (more_keys_text limits ks) → TiedBy limits (keys_small limits.operations (Keys.MoreKeys k ks)) (grammar_more_keys (Keys.MoreKeys k ks)) (more_keys_text limits (Keys.MoreKeys k ks))
unfolding grammar_more_keys more_keys_text
more_keys limits k ks x y = both limits (flat_then limits flat_comma (joined limits x y))

no_keys : (limits : Bounds) → TiedBy limits (keys_small limits.operations Keys.NoKeys) (grammar_keys Keys.NoKeys) (keys_text limits Keys.NoKeys)
unfolding grammar_keys keys_text
no_keys limits = no_text limits refl

some_keys : (limits : Bounds) (k : Key) (ks : Keys) → TiedBy limits (key_small limits.operations k) (grammar_key k) (key_text limits k) → TiedBy limits (keys_small limits.operations ks) (grammar_more_keys ks) (more_keys_text limits ks) → TiedBy limits (keys_small limits.operations (Keys.MoreKeys k ks)) (grammar_keys (Keys.MoreKeys k ks)) (keys_text limits (Keys.MoreKeys k ks))
unfolding grammar_keys keys_text
some_keys limits k ks x y = both limits (joined limits x y)

no_more_branches : (limits : Bounds) → TiedBy limits (branches_small limits.operations Pipes.NoPipes) (grammar_more_branches Pipes.NoPipes) (more_branches_text limits Pipes.NoPipes)
unfolding grammar_more_branches more_branches_text
no_more_branches limits = free limits refl (flat limits flat_empty)

more_branches : (limits : Bounds) (p : Pipe) (ps : Pipes) → TiedBy limits (all_small limits.operations p) (text p) (Text limits p) → TiedBy limits (branches_small limits.operations ps) (grammar_more_branches ps) (more_branches_text limits ps) → TiedBy limits (branches_small limits.operations (Pipes.MorePipes p ps)) (grammar_more_branches (Pipes.MorePipes p ps)) (more_branches_text limits (Pipes.MorePipes p ps))
unfolding grammar_more_branches more_branches_text
more_branches limits p ps x y = both limits (flat_then limits flat_comma (joined limits x y))

no_branches : (limits : Bounds) → TiedBy limits (branches_small limits.operations Pipes.NoPipes) (grammar_branches Pipes.NoPipes) (branches_text limits Pipes.NoPipes)
unfolding grammar_branches branches_text
no_branches limits = no_text limits refl

some_branches : (limits : Bounds) (p : Pipe) (ps : Pipes) → TiedBy limits (all_small limits.operations p) (text p) (Text limits p) → TiedBy limits (branches_small limits.operations ps) (grammar_more_branches ps) (more_branches_text limits ps) → TiedBy limits (branches_small limits.operations (Pipes.MorePipes p ps)) (grammar_branches (Pipes.MorePipes p ps)) (branches_text limits (Pipes.MorePipes p ps))
unfolding grammar_branches branches_text
some_branches limits p ps x y = both limits (joined limits x y)

identity_step : (limits : Bounds) → TiedBy limits (step_small limits.operations Step.Identity) (grammar_step Step.Identity) (step_text limits Step.Identity)
unfolding grammar_step step_text
identity_step limits = free limits refl (flat limits (flat_word (codes "identity") refl))

filter_step : (limits : Bounds) (e : Expr) → TiedBy limits (step_small limits.operations (Step.Filter e)) (grammar_step (Step.Filter e)) (step_text limits (Step.Filter e))
unfolding grammar_step step_text
filter_step limits e = call_tied limits (codes "filter") (flat_word (codes "filter") refl) (small_tied limits e)

compute_step : (limits : Bounds) (ns : List Named) → TiedBy limits (step_small limits.operations (Step.Compute ns)) (grammar_step (Step.Compute ns)) (step_text limits (Step.Compute ns))
unfolding grammar_step step_text
compute_step limits ns = call_tied limits (codes "compute") (flat_word (codes "compute") refl) (listed_tied limits (λ x. is_small limits.operations x.expr) flat_comma (named_tied limits) ns)

orderby_step : (limits : Bounds) (ns : List OrderItem) → TiedBy limits (step_small limits.operations (Step.OrderBy ns)) (grammar_step (Step.OrderBy ns)) (step_text limits (Step.OrderBy ns))
unfolding grammar_step step_text
orderby_step limits ns = call_tied limits (codes "orderby") (flat_word (codes "orderby") refl) (listed_tied limits (λ x. is_small limits.operations x.expr) flat_comma (item_tied limits) ns)

skip_step : (limits : Bounds) (n : ℕ) → TiedBy limits (step_small limits.operations (Step.Skip n)) (grammar_step (Step.Skip n)) (step_text limits (Step.Skip n))
unfolding grammar_step step_text
skip_step limits n = free limits refl (call_tied limits (codes "skip") (flat_word (codes "skip") refl) (both_flat limits (digits_to integer_max n) (digits_from integer_max n) (flat_digits integer_max n)))

first_step : (limits : Bounds) (n : ℕ) → TiedBy limits (step_small limits.operations (Step.Top n)) (grammar_step (Step.Top n)) (step_text limits (Step.Top n))
unfolding grammar_step step_text
first_step limits n = free limits refl (call_tied limits (codes "top") (flat_word (codes "top") refl) (both_flat limits (digits_to integer_max n) (digits_from integer_max n) (flat_digits integer_max n)))

aggregate_step : (limits : Bounds) (ns : List AggItem) → TiedBy limits (step_small limits.operations (Step.Aggregate ns)) (grammar_step (Step.Aggregate ns)) (step_text limits (Step.Aggregate ns))
unfolding grammar_step step_text
aggregate_step limits ns = call_tied limits (codes "aggregate") (flat_word (codes "aggregate") refl) (listed_tied limits (agg_small limits.operations) flat_comma (agg_tied limits) ns)

groupby_step : (limits : Bounds) (ks : Keys) (T : OptPipe) → TiedBy limits (keys_small limits.operations ks) (grammar_keys ks) (keys_text limits ks) → TiedBy limits (inner_small limits.operations T) (grammar_inner T) (inner_text limits T) → TiedBy limits (step_small limits.operations (Step.GroupBy ks T)) (grammar_step (Step.GroupBy ks T)) (step_text limits (Step.GroupBy ks T))
unfolding grammar_step step_text
groupby_step limits ks T x y = both limits (call_tied limits (codes "groupby") (flat_word (codes "groupby") refl) (joined limits (parentheses limits x) y))

concat_step : (limits : Bounds) (ps : Pipes) → TiedBy limits (branches_small limits.operations ps) (grammar_branches ps) (branches_text limits ps) → TiedBy limits (step_small limits.operations (Step.Concat ps)) (grammar_step (Step.Concat ps)) (step_text limits (Step.Concat ps))
unfolding grammar_step step_text
concat_step limits ps x = if_given limits (has_two ps) (call_tied limits (codes "concat") (flat_word (codes "concat") refl) x)

join_step : (limits : Bounds) (outer : Bool) (n a : Name) (T : OptPipe) → TiedBy limits (inner_small limits.operations T) (grammar_inner T) (inner_text limits T) → TiedBy limits (step_small limits.operations (Step.Join outer n a T)) (grammar_step (Step.Join outer n a T)) (step_text limits (Step.Join outer n a T))
unfolding grammar_step step_text
join_step limits outer n a T x = call_tied limits (join_word outer) (flat_join_word outer) (flat_then limits (flat_name n) (flat_then limits (flat_as a) x))

select_step : (limits : Bounds) (x : TopStep) → TiedBy limits (step_small limits.operations (Step.TopBy x)) (grammar_step (Step.TopBy x)) (step_text limits (Step.TopBy x))
unfolding grammar_step step_text
select_step limits x =
    call_tied limits (top_word x.bottom x.limit) (flat_top_word x.bottom x.limit)
    (limited limits (λ p. p.1) (λ p. (tt, p)) (joined limits (both_flat limits (limit_to x.limit) (limit_from x.limit) (flat_limit x.limit)) (flat_then limits flat_comma (small_tied limits x.expr))))

climb_step : (limits : Bounds) (up : Bool) (h : HierName) (p : Path) (q : Pipe) (n : Option ℕ) (keep : Bool) → TiedBy limits (all_small limits.operations q) (text q) (Text limits q) → TiedBy limits (step_small limits.operations (Step.Climb up h p q n keep)) (grammar_step (Step.Climb up h p q n keep)) (step_text limits (Step.Climb up h p q n keep))
unfolding grammar_step step_text
climb_step limits up h p q n keep x =
    call_tied limits (climb_word up) (flat_climb_word up)
    (node_tied limits h p (flat_then limits flat_comma (limited limits (λ z. z.0) (λ z. (z, tt)) (joined limits x (then_flat limits (distance_tied limits n) (flat_keep keep))))))

walk_step : (limits : Bounds) (x : TraverseStep) → TiedBy limits (step_small limits.operations (Step.Traverse x)) (grammar_step (Step.Traverse x)) (step_text limits (Step.Traverse x))
unfolding grammar_step step_text
walk_step limits x =
    call_tied limits (codes "traverse") (flat_word (codes "traverse") refl)
    (node_tied limits x.hier x.path (flat_then limits flat_comma (flat_then limits (flat_order x.post) (behind_tied limits (λ y. is_small limits.operations y.expr) flat_comma (item_tied limits) x.items))))

no_rest : (limits : Bounds) → TiedBy limits (all_small limits.operations Pipe.End) (grammar_rest Pipe.End) (rest_text limits Pipe.End)
unfolding grammar_rest rest_text
no_rest limits = free limits refl (flat limits flat_empty)

some_rest : (limits : Bounds) (s : Step) (p : Pipe) → TiedBy limits (step_small limits.operations s) (grammar_step s) (step_text limits s) → TiedBy limits (all_small limits.operations p) (grammar_rest p) (rest_text limits p) → TiedBy limits (all_small limits.operations (Pipe.Then s p)) (grammar_rest (Pipe.Then s p)) (rest_text limits (Pipe.Then s p))
unfolding grammar_rest rest_text
some_rest limits s p x y = both limits (flat_then limits (flat_word (codes "/") refl) (joined limits x y))

no_pipe : (limits : Bounds) → TiedBy limits (all_small limits.operations Pipe.End) (text Pipe.End) (Text limits Pipe.End)
unfolding text Text
no_pipe limits = no_text limits refl

some_pipe : (limits : Bounds) (s : Step) (p : Pipe) → TiedBy limits (step_small limits.operations s) (grammar_step s) (step_text limits s) → TiedBy limits (all_small limits.operations p) (grammar_rest p) (rest_text limits p) → TiedBy limits (all_small limits.operations (Pipe.Then s p)) (text (Pipe.Then s p)) (Text limits (Pipe.Then s p))
unfolding text Text
some_pipe limits s p x y = both limits (joined limits x y)

-- ---- the trees

mutual
  pub step_tied : (limits : Bounds) (s : Step) → TiedBy limits (step_small limits.operations s) (grammar_step s) (step_text limits s)
  step_tied limits Step.Identity = identity_step limits
  step_tied limits (Step.Filter e) = filter_step limits e
  step_tied limits (Step.Compute ns) = compute_step limits ns
  step_tied limits (Step.OrderBy ns) = orderby_step limits ns
  step_tied limits (Step.Skip n) = skip_step limits n
  step_tied limits (Step.Top n) = first_step limits n
  step_tied limits (Step.Aggregate ns) = aggregate_step limits ns
  step_tied limits (Step.GroupBy ks T) = groupby_step limits ks T (keys_tied limits ks) (inner_tied limits T)
  step_tied limits (Step.Concat ps) = concat_step limits ps (branches_tied limits ps)
  step_tied limits (Step.Join outer n a T) = join_step limits outer n a T (inner_tied limits T)
  step_tied limits (Step.TopBy x) = select_step limits x
  step_tied limits (Step.Climb up h p q n keep) = climb_step limits up h p q n keep (pipe_tied limits q)
  step_tied limits (Step.Traverse x) = walk_step limits x

  pub inner_tied : (limits : Bounds) (T : OptPipe) → TiedBy limits (inner_small limits.operations T) (grammar_inner T) (inner_text limits T)
  inner_tied limits OptPipe.NoPipe = no_inner limits
  inner_tied limits (OptPipe.SomePipe p) = some_inner limits p (pipe_tied limits p)

  pub key_tied : (limits : Bounds) (k : Key) → TiedBy limits (key_small limits.operations k) (grammar_key k) (key_text limits k)
  key_tied limits (Key.Plain p) = plain_key limits p
  key_tied limits (Key.Rollup all ps) = rollup_key limits all ps
  key_tied limits (Key.Recursive h p T) = recursive_key limits h p T (inner_tied limits T)

  pub more_keys_tied : (limits : Bounds) (ks : Keys) → TiedBy limits (keys_small limits.operations ks) (grammar_more_keys ks) (more_keys_text limits ks)
  more_keys_tied limits Keys.NoKeys = no_more_keys limits
  more_keys_tied limits (Keys.MoreKeys k ks) = more_keys limits k ks (key_tied limits k) (more_keys_tied limits ks)

  pub keys_tied : (limits : Bounds) (ks : Keys) → TiedBy limits (keys_small limits.operations ks) (grammar_keys ks) (keys_text limits ks)
  keys_tied limits Keys.NoKeys = no_keys limits
  keys_tied limits (Keys.MoreKeys k ks) = some_keys limits k ks (key_tied limits k) (more_keys_tied limits ks)

  pub more_branches_tied : (limits : Bounds) (ps : Pipes) → TiedBy limits (branches_small limits.operations ps) (grammar_more_branches ps) (more_branches_text limits ps)
  more_branches_tied limits Pipes.NoPipes = no_more_branches limits
  more_branches_tied limits (Pipes.MorePipes p ps) = more_branches limits p ps (pipe_tied limits p) (more_branches_tied limits ps)

  pub branches_tied : (limits : Bounds) (ps : Pipes) → TiedBy limits (branches_small limits.operations ps) (grammar_branches ps) (branches_text limits ps)
  branches_tied limits Pipes.NoPipes = no_branches limits
  branches_tied limits (Pipes.MorePipes p ps) = some_branches limits p ps (pipe_tied limits p) (more_branches_tied limits ps)

  pub rest_tied : (limits : Bounds) (p : Pipe) → TiedBy limits (all_small limits.operations p) (grammar_rest p) (rest_text limits p)
  rest_tied limits Pipe.End = no_rest limits
  rest_tied limits (Pipe.Then s p) = some_rest limits s p (step_tied limits s) (rest_tied limits p)

  pub pipe_tied : (limits : Bounds) (p : Pipe) → TiedBy limits (all_small limits.operations p) (text p) (Text limits p)
  pipe_tied limits Pipe.End = no_pipe limits
  pipe_tied limits (Pipe.Then s p) = some_pipe limits s p (step_tied limits s) (rest_tied limits p)
