-- A pipeline that stands in front of the text is read.
use Rattle.std.proofs.Common.{◌≡◌, ℕ, zero, suc, ◌+◌, ◌≤◌, nat_le, ◌==◌, Bool, true, false, List, [], ◌∷◌, ◌++◌, length, Option, Some, None, refl, sym, ap, subst, ◌∙◌, arith}
use Rattle.std.specs.Prelude.{codes}
use Rattle.std.specs.List.{list_all}
use Rattle.std.proofs.lemmas.List.{length-append}
use Rattle.std.proofs.lemmas.Bool.{le-leb}
use Rattle.edm_values.specs.Lists.{same_text}
use Rattle.edm_values.specs.Names.{goes_on_name}
use Rattle.edm_values.specs.Values.{integer_max}
use Rattle.apply_ast.specs.Trees.{Expr, Named, OrderItem, AggItem, HierName, TopStep, TraverseStep, Pipe, Step, OptPipe, Pipes, Key, Keys}
use Rattle.apply_ast.specs.Views.{pipes_from, keys_from}
use Rattle.apply_ast.specs.Printing.{join_word, climb_word, top_word}
use Rattle.apply_ast.specs.Counts.{step_count, opt_count, branches_count, key_count, keys_count, inner_count}
use Rattle.apply_ast.specs.Grammar.{Language, is_blank, bws, word, ◌·◌, comma, in_parentheses, listed, name_text, path_text, as_text, hier_text, has_two, keep_text}
use Rattle.apply_grammar.specs.Limits.{Bounds}
use Rattle.apply_grammar.specs.declared.words.StepWord.{StepWord}
use Rattle.apply_grammar.specs.declared.words.StepWord.TheVariants as word
use Rattle.apply_grammar.specs.declared.words.LimitKind.TheVariants as kind
use Rattle.apply_grammar.specs.declared.words.LimitKind.{LimitKind}
use Rattle.apply_grammar.specs.Reading.{run, after, comma_at, list_at, count_at}
use Rattle.apply_grammar.specs.PipeReading.{Seen, Counted, small_at, named_at, item_at, agg_at, top_at, traverse_at, more_at, some_at, inner_at, recursive_at, ended, closed, rollup_at, key_call_at, key_at, keys_at, groupby_at, branches_at, join_at, climb_at, selection_word, word_of, step_word_of, call_at, body_at, step_at, rest_at, steps_at, below}
use Rattle.apply_grammar.proofs.Nested.{inside, SmallExpr, Digits, named_text, item_text, agg_text, top_text, traverse_text, Text, rest_text, inner_text, more_branches_text, branches_text, key_text, more_keys_text, keys_text, step_text, distance_text}
use Rattle.apply_grammar.proofs.Runs.{recut, stops, solid, solid_on, solid_stops, after_front}
use Rattle.apply_grammar.proofs.Lists.{list_front}
use Rattle.apply_grammar.proofs.Leaves.{ends, ends_stops, bws_ends, ends_go, open_front, close_front, word_run, after_none, first_name, name_parts, path_front}
use Rattle.apply_grammar.proofs.ExprAgain.{Pair, unpair, parentheses_solid}
use Rattle.apply_grammar.proofs.ItemLaws.{small_front, small_solid, close_end, comma_solid, comma_some, comma_reads, comma_none, named_items, named_solid, order_items, item_solid}
use Rattle.apply_grammar.proofs.PartLaws.{path_solid, agg_items, agg_solid, node_front, hier_solid}
use Rattle.apply_grammar.proofs.SelectionLaws.{count_front, digits_solid, kind_of, top_word_is, top_front, top_solid, traverse_front, climb_end_front, rollup_text, rollup_front, rollup_solid, alias_front, alias_solid}
use Rattle.apply_grammar.proofs.PipeSteps.{step}

-- what may follow a pipeline
pub record PipeEnd (r : List ℕ) : Type 0 where
  pub stop : stops goes_on_name r ≡ true
  pub no_slash : after 47 r ≡ None

pub pipe_end : (r : List ℕ) → ends r ≡ true → PipeEnd r
pipe_end r e = record { stop = ends_go r e; no_slash = after_none 47 r (ends_stops (λ b. b == 47) r e refl refl refl refl) }

-- what may follow a part that a comma may follow
pub record PartEnd (r : List ℕ) : Type 0 where
  pub ends_here : ends r ≡ true
  pub no_comma : comma_at r ≡ None

part_end : (w r : List ℕ) → bws w → PartEnd (w ++ (41 ∷ r))
part_end w r b = record { ends_here = bws_ends w (41 ∷ r) b refl; no_comma = comma_none w r b }

-- ---- first bytes

listed_solid : {X : Type 0} (S : Language) (L : X → Language) (xs : List X) (a : List ℕ) → ((x : X) (b : List ℕ) → L x b → solid b ≡ true) → listed S L xs a → solid a ≡ true
listed_solid S L [] a f h = absurd h
listed_solid S L (x ∷ []) a f h = f x a h
listed_solid S L (x ∷ (y ∷ xs)) a f h = subst (λ l. solid l ≡ true) (sym h.cut) (solid_on h.left h.right (f x h.left h.first))

call_solid : (w : List ℕ) (A : Language) (a : List ℕ) → solid w ≡ true → (word w · A) a → solid a ≡ true
call_solid w A a s h = subst (λ l. solid l ≡ true) (sym (h.cut ∙ ap (λ l. l ++ h.right) h.first)) (solid_on w h.right s)

inside_solid : (d : ℕ) (A : ℕ → Language) (a : List ℕ) → inside d A a → solid a ≡ true
inside_solid zero A a h = absurd h
inside_solid (suc d) A a h = parentheses_solid (A d) a h

bool_solid : (b : Bool) (f : Bool → List ℕ) → solid (f true) ≡ true → solid (f false) ≡ true → solid (f b) ≡ true
bool_solid true f h k = h
bool_solid false f h k = k

select_solid : (b : Bool) (k : LimitKind) → solid (selection_word b k) ≡ true
select_solid true kind.Count = refl
select_solid true kind.Sum = refl
select_solid true kind.Percent = refl
select_solid false kind.Count = refl
select_solid false kind.Sum = refl
select_solid false kind.Percent = refl

step_solid : (limits : Bounds) (s : Step) (d : ℕ) (a : List ℕ) → step_text limits s d a → solid a ≡ true
unfolding step_text
step_solid limits Step.Identity d a h = rw h refl
step_solid limits (Step.Filter e) d a h = call_solid (codes "filter") _ a refl h
step_solid limits (Step.Compute ns) d a h = call_solid (codes "compute") _ a refl h
step_solid limits (Step.OrderBy ns) d a h = call_solid (codes "orderby") _ a refl h
step_solid limits (Step.Skip n) d a h = call_solid (codes "skip") _ a refl h
step_solid limits (Step.Top n) d a h = call_solid (codes "top") _ a refl h
step_solid limits (Step.Aggregate ns) d a h = call_solid (codes "aggregate") _ a refl h
step_solid limits (Step.GroupBy ks i) d a h = call_solid (codes "groupby") _ a refl h
step_solid limits (Step.Concat ps) d a h = call_solid (codes "concat") _ a refl h.1
step_solid limits (Step.Join outer n m i) d a h = call_solid (join_word outer) _ a (bool_solid outer join_word refl refl) h
step_solid limits (Step.TopBy x) d a h = call_solid (top_word x.bottom x.limit) _ a (subst (λ w. solid w ≡ true) (sym (top_word_is x.bottom x.limit)) (select_solid x.bottom (kind_of x.limit))) h
step_solid limits (Step.Climb up x p T n keep) d a h = call_solid (climb_word up) _ a (bool_solid up climb_word refl refl) h
step_solid limits (Step.Traverse x) d a h = call_solid (codes "traverse") _ a refl h

text_solid : (limits : Bounds) (p : Pipe) (d : ℕ) (a : List ℕ) → Text limits p d a → solid a ≡ true
unfolding Text
text_solid limits Pipe.End d a h = absurd h
text_solid limits (Pipe.Then s p) d a h = subst (λ l. solid l ≡ true) (sym h.cut) (solid_on h.left h.right (step_solid limits s d h.left h.first))

key_solid : (limits : Bounds) (k : Key) (d : ℕ) (a : List ℕ) → key_text limits k d a → solid a ≡ true
unfolding key_text
key_solid limits (Key.Plain p) d a h = path_solid p a h
key_solid limits (Key.Rollup true ps) d a h = call_solid (codes "rollup") _ a refl h
key_solid limits (Key.Rollup false ps) d a h = call_solid (codes "rollup") _ a refl h.1
key_solid limits (Key.Recursive x p T) d a h = call_solid (codes "rolluprecursive") _ a refl h

-- ---- parentheses behind a word

-- a word and what stands in its parentheses
record CallCut (w : List ℕ) (A : Language) (a : List ℕ) : Type 0 where
  pub behind : List ℕ
  pub pair : Pair A behind
  pub cut : (r : List ℕ) → a ++ r ≡ w ++ (40 ∷ (pair.before ++ (pair.inner ++ (pair.behind ++ (41 ∷ r)))))

call_cut : (w : List ℕ) (A : Language) (a : List ℕ) → (word w · in_parentheses A) a → CallCut w A a
call_cut w A a h =
    let p = unpair A h.right h.second in
    record { behind = h.right; pair = p; cut = λ r. recut h.left h.right r h.cut ∙ ap (λ l. l ++ (h.right ++ r)) h.first ∙ ap (λ l. w ++ l) (p.cut r) }

record StepWordOk (f : StepWord) : Type 0 where
  pub letters : list_all goes_on_name (word_of f) ≡ true
  pub no_identity : same_text (word_of f) (codes "identity") ≡ false
  pub again : step_word_of (word_of f) ≡ Some f

step_word_ok : (f : StepWord) → StepWordOk f
unfolding step_word_of
step_word_ok word.Filter = record { letters = refl; no_identity = refl; again = refl }
step_word_ok word.Compute = record { letters = refl; no_identity = refl; again = refl }
step_word_ok word.OrderBy = record { letters = refl; no_identity = refl; again = refl }
step_word_ok word.Skip = record { letters = refl; no_identity = refl; again = refl }
step_word_ok word.Top = record { letters = refl; no_identity = refl; again = refl }
step_word_ok word.Aggregate = record { letters = refl; no_identity = refl; again = refl }
step_word_ok word.GroupBy = record { letters = refl; no_identity = refl; again = refl }
step_word_ok word.Concat = record { letters = refl; no_identity = refl; again = refl }
step_word_ok (word.Join true) = record { letters = refl; no_identity = refl; again = refl }
step_word_ok (word.Join false) = record { letters = refl; no_identity = refl; again = refl }
step_word_ok (word.Climb true) = record { letters = refl; no_identity = refl; again = refl }
step_word_ok (word.Climb false) = record { letters = refl; no_identity = refl; again = refl }
step_word_ok word.Traverse = record { letters = refl; no_identity = refl; again = refl }
step_word_ok (word.Select true kind.Count) = record { letters = refl; no_identity = refl; again = refl }
step_word_ok (word.Select true kind.Sum) = record { letters = refl; no_identity = refl; again = refl }
step_word_ok (word.Select true kind.Percent) = record { letters = refl; no_identity = refl; again = refl }
step_word_ok (word.Select false kind.Count) = record { letters = refl; no_identity = refl; again = refl }
step_word_ok (word.Select false kind.Sum) = record { letters = refl; no_identity = refl; again = refl }
step_word_ok (word.Select false kind.Percent) = record { letters = refl; no_identity = refl; again = refl }

step_call : (limits : Bounds) (f : StepWord) (d m : ℕ) (v x t : List ℕ) → bws v → stops is_blank x ≡ true → t ≡ word_of f ++ (40 ∷ (v ++ x)) → step limits (suc d) (suc m) t ≡ call_at limits (below limits (suc d)) d f m x
unfolding step_at body_at
step_call limits f d m v x t b s e =
    let o = step_word_ok f in
    rw (e, word_run (word_of f) (40 ∷ (v ++ x)) o.letters refl, o.no_identity, o.again, open_front v x b s) refl

-- a step's text is read, where what stands in its parentheses is
held : (limits : Bounds) (f : StepWord) (A : Language) (d m : ℕ) (a r : List ℕ) {y : Seen Step} → (word (word_of f) · in_parentheses A) a → ((b : List ℕ) → A b → solid b ≡ true) → ((b w : List ℕ) → A b → bws w → call_at limits (below limits (suc d)) d f m (b ++ (w ++ (41 ∷ r))) ≡ y) → step limits (suc d) (suc m) (a ++ r) ≡ y
held limits f A d m a r h s k =
    let c = call_cut (word_of f) A a h in
    let p = c.pair in
    let z = p.behind ++ (41 ∷ r) in
    step_call limits f d m p.before (p.inner ++ z) (a ++ r) p.blanks (solid_stops p.inner z (s p.inner p.of)) (c.cut r) ∙ k p.inner p.behind p.of p.blanks_behind

closed_front : {X Y : Type 0} (f : X → Y) (n : ℕ) (read : Option (X × List ℕ)) (y : X) (w r : List ℕ) → bws w → read ≡ Some (y, w ++ (41 ∷ r)) → closed f n read ≡ Some (f y, n, r)
unfolding closed
closed_front f n read y w r b e = rw (e, close_front w r b) refl

ended_front : {X Y : Type 0} (f : X → Y) (read : Seen X) (y : X) (n : ℕ) (w r : List ℕ) → bws w → read ≡ Some (y, n, w ++ (41 ∷ r)) → ended f read ≡ Some (f y, n, r)
unfolding ended
ended_front f read y n w r b e = rw (e, close_front w r b) refl

-- ---- claims

abbrev pub StepReads : Bounds → Step → Type 0
StepReads limits s = (d n : ℕ) (a r : List ℕ) → step_text limits s d a → stops goes_on_name r ≡ true → step limits d (suc (inner_count s) + n) (a ++ r) ≡ Some (s, n, r)

abbrev pub TextReads : Bounds → Pipe → Type 0
TextReads limits p = (d n : ℕ) (a r : List ℕ) → Text limits p d a → PipeEnd r → steps_at (step limits d) (step_count p + n) (a ++ r) ≡ Some (p, n, r)

abbrev pub InnerReads : Bounds → OptPipe → Type 0
InnerReads limits i = (d n : ℕ) (a r : List ℕ) → inner_text limits i d a → PartEnd r → inner_at (steps_at (step limits d)) (opt_count i + n) (a ++ r) ≡ Some (i, n, r)

abbrev pub RestReads : Bounds → Pipe → Type 0
RestReads limits p = (d f n : ℕ) (a r : List ℕ) → rest_text limits p d a → PipeEnd r → step_count p + n ≤ f → rest_at (step limits d) f (step_count p + n) (a ++ r) ≡ Some (p, n, r)

abbrev pub KeyReads : Bounds → Key → Type 0
KeyReads limits k = (d n : ℕ) (a r : List ℕ) → key_text limits k d a → ends r ≡ true → key_at (below limits d 0) d (key_count k + n) (a ++ r) ≡ Some (k, n, r)

-- ---- lists of trees that may hold steps

-- the keys, as a list
abbrev pub list_of_keys : Keys → List Key
list_of_keys Keys.NoKeys = []
list_of_keys (Keys.MoreKeys k ks) = k ∷ list_of_keys ks

-- the branches, as a list
abbrev pub list_of_pipes : Pipes → List Pipe
list_of_pipes Pipes.NoPipes = []
list_of_pipes (Pipes.MorePipes p ps) = p ∷ list_of_pipes ps

keys_again : (ks : Keys) → keys_from (list_of_keys ks) ≡ ks
keys_again Keys.NoKeys = refl
keys_again (Keys.MoreKeys k ks) = ap (Keys.MoreKeys k) (keys_again ks)

pipes_again : (ps : Pipes) → pipes_from (list_of_pipes ps) ≡ ps
pipes_again Pipes.NoPipes = refl
pipes_again (Pipes.MorePipes p ps) = ap (Pipes.MorePipes p) (pipes_again ps)

two_long : (ps : Pipes) → has_two ps ≡ true → nat_le 2 (length (list_of_pipes ps)) ≡ true
two_long Pipes.NoPipes h = absurd cc
two_long (Pipes.MorePipes p Pipes.NoPipes) h = absurd cc
two_long (Pipes.MorePipes p (Pipes.MorePipes q ps)) h = le-leb 2 (suc (suc (length (list_of_pipes ps)))) (omega arith)

-- no part more
parts_end : {X : Type 0} (item : Counted X) (f n : ℕ) (a r : List ℕ) → a ≡ [] → PartEnd r → more_at item f (0 + n) (a ++ r) ≡ Some ([], n, r)
unfolding more_at
parts_end item zero n a r h e = let k : 0 + n ≡ n = omega arith in rw (k, h) refl
parts_end item (suc f) n a r h e = let k : 0 + n ≡ n = omega arith in rw (k, h, e.no_comma) refl

-- one part more, and those behind it
parts_next : {X : Type 0} (item : Counted X) (x : X) (xs : List X) (c m n : ℕ) (s u v r : List ℕ) (f : ℕ) → comma s → solid u ≡ true → item (c + (m + n)) (u ++ (v ++ r)) ≡ Some (x, m + n, v ++ r) → ((g : ℕ) → length (v ++ r) ≤ g → more_at item g (m + n) (v ++ r) ≡ Some (xs, n, r)) → length (s ++ (u ++ (v ++ r))) ≤ f → more_at item f ((c + m) + n) (s ++ (u ++ (v ++ r))) ≡ Some (x ∷ xs, n, r)
unfolding more_at
parts_next item x xs c m n s u v r zero h i j k l = absurd (omega (arith, comma_some s h, length-append s (u ++ (v ++ r))))
parts_next item x xs c m n s u v r (suc f) h i j k l =
    let e : (c + m) + n ≡ c + (m + n) = omega arith in
    let less : length (v ++ r) ≤ f = omega (arith, comma_some s h, length-append s (u ++ (v ++ r)), length-append u (v ++ r)) in
    rw (e, comma_reads s (u ++ (v ++ r)) h (solid_stops u (v ++ r) i), j, k f less) refl

-- the first of several
parts_begin : {X : Type 0} (item : Counted X) (x : X) (xs : List X) (c m n : ℕ) (u v r : List ℕ) → item (c + (m + n)) (u ++ (v ++ r)) ≡ Some (x, m + n, v ++ r) → ((g : ℕ) → length (v ++ r) ≤ g → more_at item g (m + n) (v ++ r) ≡ Some (xs, n, r)) → some_at item ((c + m) + n) (u ++ (v ++ r)) ≡ Some (x ∷ xs, n, r)
unfolding some_at
parts_begin item x xs c m n u v r j k =
    let e : (c + m) + n ≡ c + (m + n) = omega arith in
    rw (e, j, k (length (v ++ r)) (omega arith)) refl

more_keys_end : (limits : Bounds) (ks : Keys) (d : ℕ) (a r : List ℕ) → more_keys_text limits ks d a → PartEnd r → ends (a ++ r) ≡ true
unfolding more_keys_text
more_keys_end limits Keys.NoKeys d a r h e = subst (λ l. ends (l ++ r) ≡ true) (sym h) e.ends_here
more_keys_end limits (Keys.MoreKeys k ks) d a r h e = subst (λ l. ends l ≡ true) (sym (recut h.left h.right r h.cut)) (comma_solid h.left (h.right ++ r) h.first)

more_branches_end : (limits : Bounds) (ps : Pipes) (d : ℕ) (a r : List ℕ) → more_branches_text limits ps d a → PartEnd r → ends (a ++ r) ≡ true
unfolding more_branches_text
more_branches_end limits Pipes.NoPipes d a r h e = subst (λ l. ends (l ++ r) ≡ true) (sym h) e.ends_here
more_branches_end limits (Pipes.MorePipes p ps) d a r h e = subst (λ l. ends l ≡ true) (sym (recut h.left h.right r h.cut)) (comma_solid h.left (h.right ++ r) h.first)

abbrev pub MoreKeysRead : Bounds → Keys → Type 0
MoreKeysRead limits ks = (d n : ℕ) (a r : List ℕ) → more_keys_text limits ks d a → PartEnd r → (f : ℕ) → length (a ++ r) ≤ f → more_at (key_at (below limits d 0) d) f (keys_count ks + n) (a ++ r) ≡ Some (list_of_keys ks, n, r)

abbrev pub MoreBranchesRead : Bounds → Pipes → Type 0
MoreBranchesRead limits ps = (d n : ℕ) (a r : List ℕ) → more_branches_text limits ps d a → PartEnd r → (f : ℕ) → length (a ++ r) ≤ f → more_at (steps_at (step limits d)) f (branches_count ps + n) (a ++ r) ≡ Some (list_of_pipes ps, n, r)

no_more_keys : (limits : Bounds) → MoreKeysRead limits Keys.NoKeys
unfolding more_keys_text keys_count
no_more_keys limits d n a r h e f l = parts_end (key_at (below limits d 0) d) f n a r h e

one_more_key : (limits : Bounds) (k : Key) (ks : Keys) → KeyReads limits k → MoreKeysRead limits ks → MoreKeysRead limits (Keys.MoreKeys k ks)
unfolding more_keys_text keys_count
one_more_key limits k ks i j d n a r h e f l =
    let s = h.second in
    let cut : a ++ r ≡ h.left ++ (s.left ++ (s.right ++ r)) = recut h.left h.right r h.cut ∙ ap (λ l. h.left ++ l) (recut s.left s.right r s.cut) in
    ap (λ l. more_at (key_at (below limits d 0) d) f (keys_count (Keys.MoreKeys k ks) + n) l) cut
    ∙ parts_next (key_at (below limits d 0) d) k (list_of_keys ks) (key_count k) (keys_count ks) n h.left s.left s.right r f h.first (key_solid limits k d s.left s.first)
    (i d (keys_count ks + n) s.left (s.right ++ r) s.first (more_keys_end limits ks d s.right r s.second e)) (j d n s.right r s.second e) (subst (λ l. length l ≤ f) cut l)

keys_begin : (limits : Bounds) (k : Key) (ks : Keys) → KeyReads limits k → MoreKeysRead limits ks → (d n : ℕ) (a r : List ℕ) → keys_text limits (Keys.MoreKeys k ks) d a → PartEnd r → some_at (key_at (below limits d 0) d) (keys_count (Keys.MoreKeys k ks) + n) (a ++ r) ≡ Some (k ∷ list_of_keys ks, n, r)
unfolding keys_text keys_count
keys_begin limits k ks i j d n a r h e =
    ap (λ l. some_at (key_at (below limits d 0) d) (keys_count (Keys.MoreKeys k ks) + n) l) (recut h.left h.right r h.cut)
    ∙ parts_begin (key_at (below limits d 0) d) k (list_of_keys ks) (key_count k) (keys_count ks) n h.left h.right r
    (i d (keys_count ks + n) h.left (h.right ++ r) h.first (more_keys_end limits ks d h.right r h.second e)) (j d n h.right r h.second e)

no_more_branches : (limits : Bounds) → MoreBranchesRead limits Pipes.NoPipes
unfolding more_branches_text branches_count
no_more_branches limits d n a r h e f l = parts_end (steps_at (step limits d)) f n a r h e

one_more_branch : (limits : Bounds) (p : Pipe) (ps : Pipes) → TextReads limits p → MoreBranchesRead limits ps → MoreBranchesRead limits (Pipes.MorePipes p ps)
unfolding more_branches_text branches_count
one_more_branch limits p ps i j d n a r h e f l =
    let s = h.second in
    let cut : a ++ r ≡ h.left ++ (s.left ++ (s.right ++ r)) = recut h.left h.right r h.cut ∙ ap (λ l. h.left ++ l) (recut s.left s.right r s.cut) in
    ap (λ l. more_at (steps_at (step limits d)) f (branches_count (Pipes.MorePipes p ps) + n) l) cut
    ∙ parts_next (steps_at (step limits d)) p (list_of_pipes ps) (step_count p) (branches_count ps) n h.left s.left s.right r f h.first (text_solid limits p d s.left s.first)
    (i d (branches_count ps + n) s.left (s.right ++ r) s.first (pipe_end (s.right ++ r) (more_branches_end limits ps d s.right r s.second e))) (j d n s.right r s.second e) (subst (λ l. length l ≤ f) cut l)

branches_begin : (limits : Bounds) (p : Pipe) (ps : Pipes) → TextReads limits p → MoreBranchesRead limits ps → (d n : ℕ) (a r : List ℕ) → branches_text limits (Pipes.MorePipes p ps) d a → PartEnd r → some_at (steps_at (step limits d)) (branches_count (Pipes.MorePipes p ps) + n) (a ++ r) ≡ Some (p ∷ list_of_pipes ps, n, r)
unfolding branches_text branches_count
branches_begin limits p ps i j d n a r h e =
    ap (λ l. some_at (steps_at (step limits d)) (branches_count (Pipes.MorePipes p ps) + n) l) (recut h.left h.right r h.cut)
    ∙ parts_begin (steps_at (step limits d)) p (list_of_pipes ps) (step_count p) (branches_count ps) n h.left h.right r
    (i d (branches_count ps + n) h.left (h.right ++ r) h.first (pipe_end (h.right ++ r) (more_branches_end limits ps d h.right r h.second e))) (j d n h.right r h.second e)

-- ---- inner pipelines

no_inner : (limits : Bounds) → InnerReads limits OptPipe.NoPipe
unfolding inner_text inner_at opt_count
no_inner limits d n a r h e = let k : 0 + n ≡ n = omega arith in rw (k, h, e.no_comma) refl

some_inner : (limits : Bounds) (p : Pipe) → TextReads limits p → InnerReads limits (OptPipe.SomePipe p)
unfolding inner_text inner_at opt_count
some_inner limits p f d n a r h e =
    rw (recut h.left h.right r h.cut, comma_reads h.left (h.right ++ r) h.first (solid_stops h.right r (text_solid limits p d h.right h.second)), f d n h.right r h.second (pipe_end r e.ends_here)) refl

inner_ends : (limits : Bounds) (i : OptPipe) (d : ℕ) (a r : List ℕ) → inner_text limits i d a → ends r ≡ true → ends (a ++ r) ≡ true
unfolding inner_text
inner_ends limits OptPipe.NoPipe d a r h e = subst (λ l. ends (l ++ r) ≡ true) (sym h) e
inner_ends limits (OptPipe.SomePipe p) d a r h e = subst (λ l. ends l ≡ true) (sym (recut h.left h.right r h.cut)) (comma_solid h.left (h.right ++ r) h.first)

-- ---- keys

plain_key : (limits : Bounds) (p : List (List ℕ)) → KeyReads limits (Key.Plain p)
unfolding key_text key_at key_count
plain_key limits p d n a r h e =
    let f = first_name p a r h e in
    let k : 0 + n ≡ n = omega arith in
    let run_on : run goes_on_name (a ++ r) ≡ (f.name, f.behind) = ap (run goes_on_name) f.cut ∙ word_run f.name f.behind (let q = name_parts f.name f.named in q.passes) f.stop in
    rw (k, run_on, f.no_open, path_front p a r h e) refl

-- a key with parentheses is read, where what stands in them is
key_held : (limits : Bounds) (w : List ℕ) (A : Language) (d m : ℕ) (a r : List ℕ) {y : Seen Key} → list_all goes_on_name w ≡ true → (word w · in_parentheses A) a → ((b : List ℕ) → A b → solid b ≡ true) → ((b v : List ℕ) → A b → bws v → key_call_at (below limits (suc d) 0) (suc d) w m (b ++ (v ++ (41 ∷ r))) ≡ y) → key_at (below limits (suc d) 0) (suc d) m (a ++ r) ≡ y
unfolding key_at
key_held limits w A d m a r l h s k =
    let c = call_cut w A a h in
    let p = c.pair in
    let z = p.behind ++ (41 ∷ r) in
    rw (c.cut r, word_run w (40 ∷ (p.before ++ (p.inner ++ z))) l refl, open_front p.before (p.inner ++ z) p.blanks (solid_stops p.inner z (s p.inner p.of))) (k p.inner p.behind p.of p.blanks_behind)

rolled : (limits : Bounds) (all : Bool) (ps : List (List (List ℕ))) (d n : ℕ) (a r : List ℕ) → (word (codes "rollup") · in_parentheses (rollup_text all ps)) a → key_at (below limits (suc d) 0) (suc d) n (a ++ r) ≡ Some (Key.Rollup all ps, n, r)
unfolding key_call_at
rolled limits all ps d n a r h =
    key_held limits (codes "rollup") (rollup_text all ps) d n a r refl h (rollup_solid all ps) (λ b v i w. closed_front (λ k. k) n (rollup_at (b ++ (v ++ (41 ∷ r)))) (Key.Rollup all ps) v r w (rollup_front all ps b v r i w))

rollup_key : (limits : Bounds) (all : Bool) (ps : List (List (List ℕ))) → KeyReads limits (Key.Rollup all ps)
unfolding key_text key_count
rollup_key limits true ps zero n a r h e = absurd h.second
rollup_key limits true ps (suc d) n a r h e = let k : 0 + n ≡ n = omega arith in rw k (rolled limits true ps d n a r h)
rollup_key limits false ps zero n a r h e = let g = h.1 in absurd g.second
rollup_key limits false ps (suc d) n a r h e =
    let k : 0 + n ≡ n = omega arith in
    let g = h.1 in
    let b = g.second in
    let c = b.second in
    rw k (rolled limits false ps d n a r (record { left = g.left; right = g.right; first = g.first; second = record { left = b.left; right = b.right; first = b.first; second = record { left = c.left; right = c.right; first = (h.0, c.first); second = c.second; cut = c.cut }; cut = b.cut }; cut = g.cut }))

recursive_reads : (limits : Bounds) (x : HierName) (p : List (List ℕ)) (T : OptPipe) → InnerReads limits T → (d n : ℕ) (b w r : List ℕ) → (hier_text x · comma · path_text p · inner_text limits T d) b → bws w → recursive_at (steps_at (step limits d)) (opt_count T + n) (b ++ (w ++ (41 ∷ r))) ≡ Some (Key.Recursive x p T, n, w ++ (41 ∷ r))
unfolding recursive_at
recursive_reads limits x p T i d n b w r h v =
    let z = w ++ (41 ∷ r) in
    let m = node_front x p (inner_text limits T d) b z h in
    let e = part_end w r v in
    rw (m.reads (inner_ends limits T d m.others z m.of e.ends_here), i d n m.others z m.of e) refl

recursive_key : (limits : Bounds) (x : HierName) (p : List (List ℕ)) (T : OptPipe) → InnerReads limits T → KeyReads limits (Key.Recursive x p T)
unfolding key_text key_count key_call_at below
recursive_key limits x p T i zero n a r h e = absurd h.second
recursive_key limits x p T i (suc d) n a r h e =
    key_held limits (codes "rolluprecursive") (hier_text x · comma · path_text p · inner_text limits T d) d (opt_count T + n) a r refl h (hier_solid x _) (λ b v j w. ended_front (λ k. k) (recursive_at (steps_at (step limits d)) (opt_count T + n) (b ++ (v ++ (41 ∷ r)))) (Key.Recursive x p T) n v r w (recursive_reads limits x p T i d n b v r j w))

-- ---- steps

identity_front : (limits : Bounds) → StepReads limits Step.Identity
unfolding step_at step_text inner_count
identity_front limits d n a r h g =
    let e : suc 0 + n ≡ suc n = omega arith in
    rw (e, h, word_run (codes "identity") r refl g) refl

-- a step that holds no pipeline
plain_front : (limits : Bounds) {X : Type 0} (f : StepWord) (g : X → Step) (A : ℕ → Language) (y : X) (read : ℕ → List ℕ → Option (X × List ℕ)) → inner_count (g y) ≡ 0 → ((d m : ℕ) (t : List ℕ) → call_at limits (below limits (suc d)) d f m t ≡ closed g m (read d t)) → ((d : ℕ) (b : List ℕ) → A d b → solid b ≡ true) → ((d : ℕ) (b w r : List ℕ) → A d b → bws w → read d (b ++ (w ++ (41 ∷ r))) ≡ Some (y, w ++ (41 ∷ r))) → (d n : ℕ) (a r : List ℕ) → (word (word_of f) · inside d A) a → step limits d (suc (inner_count (g y)) + n) (a ++ r) ≡ Some (g y, n, r)
plain_front limits f g A y read z k s i zero n a r h = absurd h.second
plain_front limits f g A y read z k s i (suc d) n a r h =
    let e : suc (inner_count (g y)) + n ≡ suc n = omega arith in
    rw e (held limits f (A d) d n a r h (s d) (λ b w j v. k d n (b ++ (w ++ (41 ∷ r))) ∙ closed_front g n (read d (b ++ (w ++ (41 ∷ r)))) y w r v (i d b w r j v)))

filter_front : (limits : Bounds) (e : Expr) → StepReads limits (Step.Filter e)
unfolding step_text inner_count call_at
filter_front limits e d n a r h g =
    plain_front limits word.Filter Step.Filter (SmallExpr limits e) e (small_at limits) refl (λ d m t. refl) (small_solid limits e) (λ d b w r j v. let c = close_end w r v in small_front limits d e b (w ++ (41 ∷ r)) j c.follow) d n a r h

compute_front : (limits : Bounds) (ns : List Named) → StepReads limits (Step.Compute ns)
unfolding step_text inner_count call_at
compute_front limits ns d n a r h g =
    plain_front limits word.Compute Step.Compute (λ k. listed comma (named_text limits k) ns) ns (λ d. list_at comma_at (named_at limits d)) refl (λ d m t. refl) (λ d b j. listed_solid comma (named_text limits d) ns b (named_solid limits d) j)
    (λ d b w r j v. list_front (named_items limits d) ns b (w ++ (41 ∷ r)) j (close_end w r v) (comma_none w r v)) d n a r h

orderby_front : (limits : Bounds) (ns : List OrderItem) → StepReads limits (Step.OrderBy ns)
unfolding step_text inner_count call_at
orderby_front limits ns d n a r h g =
    plain_front limits word.OrderBy Step.OrderBy (λ k. listed comma (item_text limits k) ns) ns (λ d. list_at comma_at (item_at limits d)) refl (λ d m t. refl) (λ d b j. listed_solid comma (item_text limits d) ns b (item_solid limits d) j)
    (λ d b w r j v. list_front (order_items limits d) ns b (w ++ (41 ∷ r)) j (close_end w r v) (comma_none w r v)) d n a r h

aggregate_front : (limits : Bounds) (ns : List AggItem) → StepReads limits (Step.Aggregate ns)
unfolding step_text inner_count call_at
aggregate_front limits ns d n a r h g =
    plain_front limits word.Aggregate Step.Aggregate (λ k. listed comma (agg_text limits k) ns) ns (λ d. list_at comma_at (agg_at limits d)) refl (λ d m t. refl) (λ d b j. listed_solid comma (agg_text limits d) ns b (agg_solid limits d) j)
    (λ d b w r j v. list_front (agg_items limits d) ns b (w ++ (41 ∷ r)) j (close_end w r v) (comma_none w r v)) d n a r h

skip_front_step : (limits : Bounds) (m : ℕ) → StepReads limits (Step.Skip m)
unfolding step_text inner_count call_at
skip_front_step limits m d n a r h g =
    plain_front limits word.Skip Step.Skip (λ k. Digits integer_max m) m (λ d. count_at integer_max) refl (λ d m t. refl) (λ d b j. digits_solid integer_max m b j) (λ d b w r j v. count_front integer_max m b (w ++ (41 ∷ r)) j (bws_ends w (41 ∷ r) v refl)) d n a r h

first_front : (limits : Bounds) (m : ℕ) → StepReads limits (Step.Top m)
unfolding step_text inner_count call_at
first_front limits m d n a r h g =
    plain_front limits word.Top Step.Top (λ k. Digits integer_max m) m (λ d. count_at integer_max) refl (λ d m t. refl) (λ d b j. digits_solid integer_max m b j) (λ d b w r j v. count_front integer_max m b (w ++ (41 ∷ r)) j (bws_ends w (41 ∷ r) v refl)) d n a r h

walk_front : (limits : Bounds) (x : TraverseStep) → StepReads limits (Step.Traverse x)
unfolding step_text inner_count call_at
walk_front limits x d n a r h g =
    plain_front limits word.Traverse Step.Traverse (traverse_text limits x) x (traverse_at limits) refl (λ d m t. refl) (λ d b j. hier_solid x.hier _ b j) (λ d b w r j v. traverse_front limits x d b w r j v) d n a r h

select_front : (limits : Bounds) (x : TopStep) → StepReads limits (Step.TopBy x)
unfolding step_text inner_count call_at
select_front limits x d n a r h g =
    let k : (word (selection_word x.bottom (kind_of x.limit)) · inside d (top_text limits x)) a = record { left = h.left; right = h.right; first = h.first ∙ top_word_is x.bottom x.limit; second = h.second; cut = h.cut } in
    plain_front limits (word.Select x.bottom (kind_of x.limit)) Step.TopBy (top_text limits x) x (λ d. top_at limits d x.bottom (kind_of x.limit)) refl (λ d m t. refl) (top_solid limits x) (λ d b w r j v. let c = close_end w r v in top_front limits x d b (w ++ (41 ∷ r)) j c.follow) d n a r k

keys_front : (limits : Bounds) (ks : Keys) → ((d n : ℕ) (a r : List ℕ) → keys_text limits ks d a → PartEnd r → some_at (key_at (below limits d 0) d) (keys_count ks + n) (a ++ r) ≡ Some (list_of_keys ks, n, r)) → ((d : ℕ) (b : List ℕ) → keys_text limits ks d b → solid b ≡ true) → (d n : ℕ) (a r : List ℕ) → inside d (keys_text limits ks) a → keys_at (below limits d 1) d (keys_count ks + n) (a ++ r) ≡ Some (ks, n, r)
unfolding keys_at below
keys_front limits ks f s zero n a r h = absurd h
keys_front limits ks f s (suc d) n a r h =
    let p = unpair (keys_text limits ks d) a h in
    let z = p.behind ++ (41 ∷ r) in
    rw (p.cut r, open_front p.before (p.inner ++ z) p.blanks (solid_stops p.inner z (s d p.inner p.of)))
    (ended_front keys_from (some_at (key_at (below limits d 0) d) (keys_count ks + n) (p.inner ++ z)) (list_of_keys ks) n p.behind r p.blanks_behind (f d n p.inner z p.of (part_end p.behind r p.blanks_behind))
    ∙ ap (λ k. Some (k, n, r)) (keys_again ks))

keys_solid : (limits : Bounds) (ks : Keys) (d : ℕ) (b : List ℕ) → keys_text limits ks d b → solid b ≡ true
unfolding keys_text
keys_solid limits Keys.NoKeys d b h = absurd h
keys_solid limits (Keys.MoreKeys k ks) d b h = subst (λ l. solid l ≡ true) (sym h.cut) (solid_on h.left h.right (key_solid limits k d h.left h.first))

abbrev pub KeysRead : Bounds → Keys → Type 0
KeysRead limits ks = (d n : ℕ) (a r : List ℕ) → keys_text limits ks d a → PartEnd r → some_at (key_at (below limits d 0) d) (keys_count ks + n) (a ++ r) ≡ Some (list_of_keys ks, n, r)

groupby_inner : (limits : Bounds) (ks : Keys) (T : OptPipe) → KeysRead limits ks → InnerReads limits T → (d n : ℕ) (b w r : List ℕ) → (inside d (keys_text limits ks) · inner_text limits T d) b → bws w → groupby_at (steps_at (step limits d)) (below limits d 1) d ((keys_count ks + opt_count T) + n) (b ++ (w ++ (41 ∷ r))) ≡ Some (Step.GroupBy ks T, n, r)
unfolding groupby_at
groupby_inner limits ks T f i d n b w r h v =
    let z = w ++ (41 ∷ r) in
    let e : (keys_count ks + opt_count T) + n ≡ keys_count ks + (opt_count T + n) = omega arith in
    rw (e, recut h.left h.right z h.cut, keys_front limits ks f (keys_solid limits ks) d (opt_count T + n) h.left (h.right ++ z) h.first)
    (ended_front (λ T. Step.GroupBy ks T) (inner_at (steps_at (step limits d)) (opt_count T + n) (h.right ++ z)) T n w r v (i d n h.right z h.second (part_end w r v)))

groupby_front : (limits : Bounds) (ks : Keys) (T : OptPipe) → KeysRead limits ks → InnerReads limits T → StepReads limits (Step.GroupBy ks T)
unfolding step_text inner_count call_at below
groupby_front limits ks T f i zero n a r h g = absurd h.second
groupby_front limits ks T f i (suc d) n a r h g =
    let e : suc (keys_count ks + opt_count T) + n ≡ suc ((keys_count ks + opt_count T) + n) = omega arith in
    rw e (held limits word.GroupBy (inside d (keys_text limits ks) · inner_text limits T d) d ((keys_count ks + opt_count T) + n) a r h (λ b j. subst (λ l. solid l ≡ true) (sym j.cut) (solid_on j.left j.right (inside_solid d (keys_text limits ks) j.left j.first))) (λ b w j v. groupby_inner limits ks T f i d n b w r j v))

abbrev pub BranchesRead : Bounds → Pipes → Type 0
BranchesRead limits ps = (d n : ℕ) (a r : List ℕ) → branches_text limits ps d a → PartEnd r → some_at (steps_at (step limits d)) (branches_count ps + n) (a ++ r) ≡ Some (list_of_pipes ps, n, r)

branches_solid : (limits : Bounds) (ps : Pipes) (d : ℕ) (b : List ℕ) → branches_text limits ps d b → solid b ≡ true
unfolding branches_text
branches_solid limits Pipes.NoPipes d b h = absurd h
branches_solid limits (Pipes.MorePipes p ps) d b h = subst (λ l. solid l ≡ true) (sym h.cut) (solid_on h.left h.right (text_solid limits p d h.left h.first))

concat_inner : (limits : Bounds) (ps : Pipes) → has_two ps ≡ true → BranchesRead limits ps → (d n : ℕ) (b w r : List ℕ) → branches_text limits ps d b → bws w → ended Step.Concat (branches_at (steps_at (step limits d)) (branches_count ps + n) (b ++ (w ++ (41 ∷ r)))) ≡ Some (Step.Concat ps, n, r)
unfolding branches_at
concat_inner limits ps two f d n b w r h v =
    let z = w ++ (41 ∷ r) in
    rw (f d n b z h (part_end w r v), two_long ps two) (ended_front Step.Concat (Some (pipes_from (list_of_pipes ps), n, z)) (pipes_from (list_of_pipes ps)) n w r v refl ∙ ap (λ q. Some (Step.Concat q, n, r)) (pipes_again ps))

concat_front : (limits : Bounds) (ps : Pipes) → BranchesRead limits ps → StepReads limits (Step.Concat ps)
unfolding step_text inner_count call_at below
concat_front limits ps f zero n a r h g = let c = h.1 in absurd c.second
concat_front limits ps f (suc d) n a r h g =
    let e : suc (branches_count ps) + n ≡ suc (branches_count ps + n) = omega arith in
    rw e (held limits word.Concat (branches_text limits ps d) d (branches_count ps + n) a r h.1 (branches_solid limits ps d) (λ b w j v. concat_inner limits ps h.0 f d n b w r j v))

join_inner : (limits : Bounds) (outer : Bool) (x y : List ℕ) (T : OptPipe) → InnerReads limits T → (d n : ℕ) (b w r : List ℕ) → (name_text x · as_text y · inner_text limits T d) b → bws w → join_at (steps_at (step limits d)) outer (opt_count T + n) (b ++ (w ++ (41 ∷ r))) ≡ Some (Step.Join outer x y T, n, r)
unfolding join_at
join_inner limits outer x y T i d n b w r h v =
    let z = w ++ (41 ∷ r) in
    let m = alias_front x y (inner_text limits T d) b z h in
    let e = part_end w r v in
    rw (m.reads (inner_ends limits T d m.others z m.of e.ends_here)) (ended_front (λ T. Step.Join outer x y T) (inner_at (steps_at (step limits d)) (opt_count T + n) (m.others ++ z)) T n w r v (i d n m.others z m.of e))

join_front : (limits : Bounds) (outer : Bool) (x y : List ℕ) (T : OptPipe) → InnerReads limits T → StepReads limits (Step.Join outer x y T)
unfolding step_text inner_count call_at below
join_front limits outer x y T i zero n a r h g = absurd h.second
join_front limits outer x y T i (suc d) n a r h g =
    let e : suc (opt_count T) + n ≡ suc (opt_count T + n) = omega arith in
    rw e (held limits (word.Join outer) (name_text x · as_text y · inner_text limits T d) d (opt_count T + n) a r h (alias_solid x _) (λ b w j v. join_inner limits outer x y T i d n b w r j v))

climb_inner : (limits : Bounds) (up : Bool) (x : HierName) (p : List (List ℕ)) (q : Pipe) (m : Option ℕ) (keep : Bool) → TextReads limits q → (d n : ℕ) (b w r : List ℕ) → (hier_text x · comma · path_text p · comma · Text limits q d · distance_text m · keep_text keep) b → bws w → climb_at (steps_at (step limits d)) up (step_count q + n) (b ++ (w ++ (41 ∷ r))) ≡ Some (Step.Climb up x p q m keep, n, r)
unfolding climb_at
climb_inner limits up x p q m keep f d n b w r h v =
    let z = w ++ (41 ∷ r) in
    let k = node_front x p (comma · Text limits q d · distance_text m · keep_text keep) b z h in
    let c = k.of in
    let t = c.second in
    let ce = climb_end_front m keep t.right w r t.second v in
    let cut : k.others ++ z ≡ c.left ++ (t.left ++ (t.right ++ z)) = recut c.left c.right z c.cut ∙ ap (λ l. c.left ++ l) (recut t.left t.right z t.cut) in
    let e : ends (k.others ++ z) ≡ true = subst (λ l. ends l ≡ true) (sym cut) (comma_solid c.left (t.left ++ (t.right ++ z)) c.first) in
    rw (
      k.reads e,
      cut,
      comma_reads c.left (t.left ++ (t.right ++ z)) c.first (solid_stops t.left (t.right ++ z) (text_solid limits q d t.left t.first)),
      f d n t.left (t.right ++ z) t.first (pipe_end (t.right ++ z) ce.ends_here),
      ce.reads,
    )
    refl

climb_front : (limits : Bounds) (up : Bool) (x : HierName) (p : List (List ℕ)) (q : Pipe) (m : Option ℕ) (keep : Bool) → TextReads limits q → StepReads limits (Step.Climb up x p q m keep)
unfolding step_text inner_count call_at below
climb_front limits up x p q m keep f zero n a r h g = absurd h.second
climb_front limits up x p q m keep f (suc d) n a r h g =
    let e : suc (step_count q) + n ≡ suc (step_count q + n) = omega arith in
    rw e (held limits (word.Climb up) (hier_text x · comma · path_text p · comma · Text limits q d · distance_text m · keep_text keep) d (step_count q + n) a r h (hier_solid x _) (λ b w j v. climb_inner limits up x p q m keep f d n b w r j v))

-- ---- pipelines

no_rest : (limits : Bounds) → RestReads limits Pipe.End
unfolding rest_text rest_at step_count
no_rest limits d zero n a r h e l = let k : 0 + n ≡ n = omega arith in rw (k, h, e.no_slash) refl
no_rest limits d (suc f) n a r h e l = let k : 0 + n ≡ n = omega arith in rw (k, h, e.no_slash) refl

-- the steps behind a first one do not go on its word
pub rest_stops : (limits : Bounds) (p : Pipe) (d : ℕ) (a r : List ℕ) → rest_text limits p d a → stops goes_on_name r ≡ true → stops goes_on_name (a ++ r) ≡ true
unfolding rest_text
rest_stops limits Pipe.End d a r h e = subst (λ l. stops goes_on_name (l ++ r) ≡ true) (sym h) e
rest_stops limits (Pipe.Then s p) d a r h e = subst (λ l. stops goes_on_name (l ++ r) ≡ true) (sym (h.cut ∙ ap (λ l. l ++ h.right) h.first)) refl

some_rest : (limits : Bounds) (s : Step) (p : Pipe) → StepReads limits s → RestReads limits p → RestReads limits (Pipe.Then s p)
unfolding rest_text rest_at step_count
some_rest limits s p f g d zero n a r h e l = absurd (omega arith)
some_rest limits s p f g d (suc k) n a r h e l =
    let u = h.second.left in
    let v = h.second.right in
    let cut : a ++ r ≡ 47 ∷ (u ++ (v ++ r)) = recut h.left h.right r h.cut ∙ ap (λ l. l ++ (h.right ++ r)) h.first ∙ ap (λ l. 47 ∷ l) (recut u v r h.second.cut) in
    let count : (1 + inner_count s + step_count p) + n ≡ suc (inner_count s) + (step_count p + n) = omega arith in
    rw (cut, count, after_front 47 (u ++ (v ++ r)), f d (step_count p + n) u (v ++ r) h.second.first (rest_stops limits p d v r h.second.second e.stop), g d k n v r h.second.second e (omega arith)) refl

text_front : (limits : Bounds) (s : Step) (p : Pipe) → StepReads limits s → RestReads limits p → TextReads limits (Pipe.Then s p)
unfolding Text steps_at step_count
text_front limits s p f g d n a r h e =
    let count : (1 + inner_count s + step_count p) + n ≡ suc (inner_count s) + (step_count p + n) = omega arith in
    rw (recut h.left h.right r h.cut, count, f d (step_count p + n) h.left (h.right ++ r) h.first (rest_stops limits p d h.right r h.second e.stop), g d (step_count p + n) n h.right r h.second e (omega arith)) refl

no_text : (limits : Bounds) → TextReads limits Pipe.End
unfolding Text
no_text limits d n a r h e = absurd h

no_keys : (limits : Bounds) → KeysRead limits Keys.NoKeys
unfolding keys_text
no_keys limits d n a r h e = absurd h

no_branches : (limits : Bounds) → BranchesRead limits Pipes.NoPipes
unfolding branches_text
no_branches limits d n a r h e = absurd h

-- ---- the trees

mutual
  pub step_reads : (limits : Bounds) (s : Step) → StepReads limits s
  step_reads limits Step.Identity = identity_front limits
  step_reads limits (Step.Filter e) = filter_front limits e
  step_reads limits (Step.Compute ns) = compute_front limits ns
  step_reads limits (Step.OrderBy ns) = orderby_front limits ns
  step_reads limits (Step.Skip n) = skip_front_step limits n
  step_reads limits (Step.Top n) = first_front limits n
  step_reads limits (Step.Aggregate ns) = aggregate_front limits ns
  step_reads limits (Step.GroupBy ks T) = groupby_front limits ks T (keys_read limits ks) (inner_reads limits T)
  step_reads limits (Step.Concat ps) = concat_front limits ps (branches_read limits ps)
  step_reads limits (Step.Join outer x y T) = join_front limits outer x y T (inner_reads limits T)
  step_reads limits (Step.TopBy x) = select_front limits x
  step_reads limits (Step.Climb up x p q m keep) = climb_front limits up x p q m keep (text_reads limits q)
  step_reads limits (Step.Traverse x) = walk_front limits x

  pub inner_reads : (limits : Bounds) (i : OptPipe) → InnerReads limits i
  inner_reads limits OptPipe.NoPipe = no_inner limits
  inner_reads limits (OptPipe.SomePipe p) = some_inner limits p (text_reads limits p)

  pub more_branches_read : (limits : Bounds) (ps : Pipes) → MoreBranchesRead limits ps
  more_branches_read limits Pipes.NoPipes = no_more_branches limits
  more_branches_read limits (Pipes.MorePipes p ps) = one_more_branch limits p ps (text_reads limits p) (more_branches_read limits ps)

  pub branches_read : (limits : Bounds) (ps : Pipes) → BranchesRead limits ps
  branches_read limits Pipes.NoPipes = no_branches limits
  branches_read limits (Pipes.MorePipes p ps) = branches_begin limits p ps (text_reads limits p) (more_branches_read limits ps)

  pub key_reads : (limits : Bounds) (k : Key) → KeyReads limits k
  key_reads limits (Key.Plain p) = plain_key limits p
  key_reads limits (Key.Rollup all ps) = rollup_key limits all ps
  key_reads limits (Key.Recursive x p T) = recursive_key limits x p T (inner_reads limits T)

  pub more_keys_read : (limits : Bounds) (ks : Keys) → MoreKeysRead limits ks
  more_keys_read limits Keys.NoKeys = no_more_keys limits
  more_keys_read limits (Keys.MoreKeys k ks) = one_more_key limits k ks (key_reads limits k) (more_keys_read limits ks)

  pub keys_read : (limits : Bounds) (ks : Keys) → KeysRead limits ks
  keys_read limits Keys.NoKeys = no_keys limits
  keys_read limits (Keys.MoreKeys k ks) = keys_begin limits k ks (key_reads limits k) (more_keys_read limits ks)

  pub rest_reads : (limits : Bounds) (p : Pipe) → RestReads limits p
  rest_reads limits Pipe.End = no_rest limits
  rest_reads limits (Pipe.Then s p) = some_rest limits s p (step_reads limits s) (rest_reads limits p)

  pub text_reads : (limits : Bounds) (p : Pipe) → TextReads limits p
  text_reads limits Pipe.End = no_text limits
  text_reads limits (Pipe.Then s p) = text_front limits s p (step_reads limits s) (rest_reads limits p)
