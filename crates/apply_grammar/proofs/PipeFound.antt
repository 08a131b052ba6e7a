-- A pipeline that was read stands in front of the text.
use Rattle.std.proofs.Common.{◌≡◌, ℕ, zero, suc, ◌+◌, nat_le, Bool, true, false, List, [], ◌∷◌, ◌++◌, length, Option, Some, refl, sym, ap, subst, ◌∙◌, append_assoc, arith}
use Rattle.std.specs.Prelude.{codes}
use Rattle.edm_values.specs.Lists.{same_text}
use Rattle.edm_values.specs.Names.{goes_on_name}
use Rattle.edm_values.specs.Values.{integer_max}
use Rattle.edm_values.proofs.SameTexts.{same_texts}
use Rattle.edm_values.proofs.OptionFacts.{some_value}
use Rattle.apply_ast.specs.Trees.{HierName, Pipe, Step, Pipes, Key}
use Rattle.apply_ast.specs.Views.{pipes_from, keys_from}
use Rattle.apply_ast.specs.Printing.{join_word, climb_word}
use Rattle.apply_ast.specs.Counts.{step_count, opt_count, branches_count, key_count, keys_count, inner_count}
use Rattle.apply_ast.specs.Grammar.{Language, word, ◌·◌, nothing, close, comma, in_parentheses, listed, each_behind, path_text, hier_text, has_two}
use Rattle.apply_grammar.specs.Limits.{Bounds}
use Rattle.apply_grammar.specs.declared.words.StepWord.{StepWord}
use Rattle.apply_grammar.specs.declared.words.StepWord.TheVariants as word
use Rattle.apply_grammar.specs.declared.words.LimitKind.{LimitKind}
use Rattle.apply_grammar.specs.Reading.{run, after, open_at, close_at, comma_at, list_at, path_at, count_at}
use Rattle.apply_grammar.specs.PipeReading.{Seen, Counted, PipeReader, small_at, named_at, item_at, agg_at, top_at, traverse_at, rollup_at, node_at, alias_at, climb_end_at, more_at, some_at, inner_at, recursive_at, ended, closed, key_call_at, key_at, keys_at, groupby_at, branches_at, join_at, climb_at, selection_word, word_of, step_words, step_word_of, call_at, body_at, step_at, rest_at, steps_at, below, pipe_at}
use Rattle.apply_grammar.proofs.Nested.{inside, SmallExpr, Digits, named_text, item_text, agg_text, traverse_text, Text, rest_text, inner_text, more_branches_text, branches_text, key_text, more_keys_text, keys_text, step_text}
use Rattle.apply_grammar.proofs.Runs.{bind_then, branch_then, cond_then, guard_then, Front, then_front, map_front, word_front, run_is, after_is}
use Rattle.apply_grammar.proofs.Lists.{list_is}
use Rattle.apply_grammar.proofs.Leaves.{Opened, open_is, close_is, comma_is, path_is, word_is}
use Rattle.apply_grammar.proofs.ExprFound.{spend_then}
use Rattle.apply_grammar.proofs.ItemLaws.{small_is, named_items, order_items}
use Rattle.apply_grammar.proofs.PartLaws.{agg_items, node_is}
use Rattle.apply_grammar.proofs.SelectionLaws.{count_is, top_is, traverse_is, climb_end_is, rollup_is, rollup_text, alias_is}

-- ---- readers of trees that may hold steps

-- what was read is in front, and the steps that it has are taken off
abbrev pub IsCounted : {X : Type 0} → (X → Language) → (X → ℕ) → Counted X → Type 0
IsCounted {X} L count item = (n : ℕ) (t : List ℕ) (x : X × ℕ × List ℕ) → item n t ≡ Some x → Front (L x.0) t x.2 × (n ≡ count x.0 + x.1)

-- the steps of several
abbrev pub total : {X : Type 0} → (X → ℕ) → List X → ℕ
total count [] = 0
total count (x ∷ xs) = count x + total count xs

-- at least one part, with commas between
abbrev pub many_text : {X : Type 0} → (X → Language) → List X → Language
many_text L [] = nothing
many_text L (x ∷ xs) = L x · each_behind comma L xs

pub more_is : {X : Type 0} (L : X → Language) (count : X → ℕ) (item : Counted X) → IsCounted L count item → (f n : ℕ) (t : List ℕ) {x : List X × ℕ × List ℕ} → more_at item f n t ≡ Some x → Front (each_behind comma L x.0) t x.2 × (n ≡ total count x.0 + x.1)
unfolding more_at
more_is L count item i zero n t h =
    subst (λ x. Front (each_behind comma L x.0) t x.2 × (n ≡ total count x.0 + x.1)) (some_value h) (word_front [] t t refl, omega arith)
more_is L count item i (suc f) n t h =
    branch_then (comma_at t) _ _ h
    (λ s e h. bind_then (item n s) _ h (λ y g h. bind_then (more_at item f y.1 y.2) _ h (λ ys j k.
    let a = i n s y g in
    let b = more_is L count item i f y.1 y.2 j in
    subst (λ x. Front (each_behind comma L x.0) t x.2 × (n ≡ total count x.0 + x.1)) (some_value k)
    (then_front (comma_is t e).0 (then_front a.0 b.0), omega (arith, a.1, b.1)))))
    (λ e k. subst (λ x. Front (each_behind comma L x.0) t x.2 × (n ≡ total count x.0 + x.1)) (some_value k) (word_front [] t t refl, omega arith))

pub many_is : {X : Type 0} (L : X → Language) (count : X → ℕ) (item : Counted X) → IsCounted L count item → IsCounted (many_text L) (total count) (some_at item)
unfolding some_at
many_is L count item i n t x h =
    bind_then (item n t) _ h (λ y e h. bind_then (more_at item (length y.2) y.1 y.2) _ h (λ ys f k.
    let a = i n t y e in
    let b = more_is L count item i (length y.2) y.1 y.2 f in
    subst (λ x. Front (many_text L x.0) t x.2 × (n ≡ total count x.0 + x.1)) (some_value k)
    (then_front a.0 b.0, omega (arith, a.1, b.1))))

-- a reader of pipelines where d parentheses may be open
abbrev pub PipeIs : Bounds → ℕ → PipeReader → Type 0
PipeIs limits d pipe = IsCounted (λ p. Text limits p d) step_count pipe

-- one where one more must be opened first
abbrev pub InnerOk : Bounds → ℕ → PipeReader → Type 0
InnerOk limits zero pipe = Unit {0}
InnerOk limits (suc d) pipe = PipeIs limits d pipe

-- ---- parentheses

in_front : {A : Language} {t r s u : List ℕ} → Opened t r → Front A r s → Front close s u → Front (in_parentheses A) t u
in_front o f c = then_front (then_front o.sign o.blanks) (then_front f c)

-- what a step or a key that was read is
pub record Got {Y : Type 0} (L : Y → ℕ → Language) (count : Y → ℕ) (d n : ℕ) (t : List ℕ) (x : Y × ℕ × List ℕ) : Type 0 where
  pub front : Front (L x.0 (suc d)) t x.2
  pub enough : n ≡ count x.0 + x.1

-- a part in the parentheses of a word, which holds no step
pub closed_is : {X Y : Type 0} (L : Y → ℕ → Language) (count : Y → ℕ) (f : X → Y) (d n : ℕ) (w : List ℕ) (A : X → Language) (whole s t : List ℕ) (read : Option (X × List ℕ)) → Front (word w) whole s → Opened s t → ((y : X × List ℕ) → read ≡ Some y → Front (A y.0) t y.1) → ((y : X) (a : List ℕ) → (word w · in_parentheses (A y)) a → L (f y) (suc d) a) → ((y : X) → count (f y) ≡ 0) → {x : Y × ℕ × List ℕ} → closed f n read ≡ Some x → Got L count d n whole x
unfolding closed
closed_is L count f d n w A whole s t read a o g k z h =
    bind_then read _ h (λ y e h. bind_then (close_at y.1) _ h (λ r c i.
    subst (λ x. Got L count d n whole x) (some_value i)
    (record { front = map_front (k y.0) (then_front a (in_front o (g y e) (close_is y.1 c))); enough = omega (arith, z y.0) })))

-- one that may hold steps
pub ended_is : {X Y : Type 0} (L : Y → ℕ → Language) (count : Y → ℕ) (f : X → Y) (d n : ℕ) (w : List ℕ) (A : X → Language) (whole s t : List ℕ) (read : Seen X) → Front (word w) whole s → Opened s t → ((y : X × ℕ × List ℕ) → read ≡ Some y → Front (A y.0) t y.2 × (n ≡ count (f y.0) + y.1)) → ((y : X) (a : List ℕ) → (word w · in_parentheses (A y)) a → L (f y) (suc d) a) → {x : Y × ℕ × List ℕ} → ended f read ≡ Some x → Got L count d n whole x
unfolding ended
ended_is L count f d n w A whole s t read a o g k h =
    bind_then read _ h (λ y e h. bind_then (close_at y.2) _ h (λ r c i.
    let p = g y e in
    subst (λ x. Got L count d n whole x) (some_value i)
    (record { front = map_front (k y.0) (then_front a (in_front o p.0 (close_is y.2 c))); enough = p.1 })))

same_word : (w v : List ℕ) {t r : List ℕ} → same_text w v ≡ true → Front (word w) t r → Front (word v) t r
same_word w v e f = map_front (λ a h. h ∙ same_texts w v e) f

-- ---- inner pipelines

pub inner_is : (limits : Bounds) (d : ℕ) (pipe : PipeReader) → PipeIs limits d pipe → IsCounted (λ i. inner_text limits i d) opt_count (inner_at pipe)
unfolding inner_at inner_text opt_count
inner_is limits d pipe i n t x h =
    branch_then (comma_at t) _ _ h
    (λ s e h. bind_then (pipe n s) _ h (λ p f k.
    let a = i n s p f in
    subst (λ x. Front (inner_text limits x.0 d) t x.2 × (n ≡ opt_count x.0 + x.1)) (some_value k)
    (then_front (comma_is t e).0 a.0, a.1)))
    (λ e k. subst (λ x. Front (inner_text limits x.0 d) t x.2 × (n ≡ opt_count x.0 + x.1)) (some_value k) (word_front [] t t refl, omega arith))

-- ---- keys

-- the text of a recursive rollup's arguments
abbrev recursive_text : Bounds → Key → ℕ → Language
recursive_text limits (Key.Recursive h p T) d = hier_text h · comma · path_text p · inner_text limits T d
recursive_text limits k d = nothing

recursive_is : (limits : Bounds) (d : ℕ) (pipe : PipeReader) → PipeIs limits d pipe → IsCounted (λ k. recursive_text limits k d) key_count (recursive_at pipe)
unfolding recursive_at key_count
recursive_is limits d pipe i n t x h =
    bind_then (node_at t) _ h (λ y e h. bind_then (inner_at pipe n y.1) _ h (λ T f k.
    let a = inner_is limits d pipe i n y.1 T f in
    subst (λ x. Front (recursive_text limits x.0 d) t x.2 × (n ≡ key_count x.0 + x.1)) (some_value k)
    (node_is t e a.0, a.1)))

recursive_key : (limits : Bounds) (d : ℕ) (k : Key) (a : List ℕ) → (word (codes "rolluprecursive") · in_parentheses (recursive_text limits k d)) a → key_text limits k (suc d) a
unfolding key_text
recursive_key limits d (Key.Plain p) a h = let b = h.second in let c = b.second in absurd c.first
recursive_key limits d (Key.Rollup all ps) a h = let b = h.second in let c = b.second in absurd c.first
recursive_key limits d (Key.Recursive x p T) a h = h

rollup_key : (limits : Bounds) (d : ℕ) (all : Bool) (ps : List (List (List ℕ))) (a : List ℕ) → (word (codes "rollup") · in_parentheses (rollup_text all ps)) a → key_text limits (Key.Rollup all ps) (suc d) a
unfolding key_text
rollup_key limits d true ps a h = h
rollup_key limits d false ps a h =
    let b = h.second in
    let c = b.second in
    let e = c.first in
    (e.0, record { left = h.left; right = h.right; first = h.first; second = record { left = b.left; right = b.right; first = b.first; second = record { left = c.left; right = c.right; first = e.1; second = c.second; cut = c.cut }; cut = b.cut }; cut = h.cut })

-- what rollup_at read, as a language of keys
abbrev rolled_text : Key → Language
rolled_text (Key.Rollup all ps) = rollup_text all ps
rolled_text k = nothing

rolled_key : (limits : Bounds) (d : ℕ) (k : Key) (a : List ℕ) → (word (codes "rollup") · in_parentheses (rolled_text k)) a → key_text limits k (suc d) a
rolled_key limits d (Key.Plain p) a h = let b = h.second in let c = b.second in absurd c.first
rolled_key limits d (Key.Recursive x p T) a h = let b = h.second in let c = b.second in absurd c.first
rolled_key limits d (Key.Rollup all ps) a h = rollup_key limits d all ps a h

rolled_is : (t : List ℕ) (x : Key × List ℕ) → rollup_at t ≡ Some x → Front (rolled_text x.0) t x.1
rolled_is t x h = let r = rollup_is t h in subst (λ k. Front (rolled_text k) t x.1) (sym r.key) r.front

-- the steps of a rollup: none. A plain key has none either
rolled_none : (n : ℕ) (t : List ℕ) (x : Key × List ℕ) → rollup_at t ≡ Some x → key_count x.0 ≡ 0
unfolding key_count
rolled_none n t x h = let r = rollup_is t h in ap key_count r.key

key_call_is : (limits : Bounds) (d : ℕ) (pipe : PipeReader) → InnerOk limits d pipe → (w : List ℕ) (n : ℕ) (whole s t : List ℕ) {x : Key × ℕ × List ℕ} → Front (word w) whole s → Opened s t → key_call_at pipe d w n t ≡ Some x → Front (key_text limits x.0 d) whole x.2 × (n ≡ key_count x.0 + x.1)
unfolding key_call_at closed
key_call_is limits zero pipe i w n whole s t a o h = absurd cc
key_call_is limits (suc d) pipe i w n whole s t {x} a o h =
    cond_then (same_text w (codes "rollup")) _ _ h
    (λ e h. bind_then (rollup_at t) _ h (λ y f h. bind_then (close_at y.1) _ h (λ r c k.
    let z = rolled_none n t y f in
    subst (λ x. Front (key_text limits x.0 (suc d)) whole x.2 × (n ≡ key_count x.0 + x.1)) (some_value k)
    (map_front (rolled_key limits d y.0) (then_front (same_word w (codes "rollup") e a) (in_front o (rolled_is t y f) (close_is y.1 c))), omega (arith, z)))))
    (λ e h. cond_then (same_text w (codes "rolluprecursive")) _ _ h
    (λ e h.
    let g = ended_is (key_text limits) key_count (λ k. k) d n (codes "rolluprecursive") (λ k. recursive_text limits k d) whole s t (recursive_at pipe n t) (same_word w (codes "rolluprecursive") e a) o (λ y f. recursive_is limits d pipe i n t y f) (recursive_key limits d) h in
    (g.front, g.enough))
    (λ e h. absurd cc))

pub key_is : (limits : Bounds) (d : ℕ) (pipe : PipeReader) → InnerOk limits d pipe → IsCounted (λ k. key_text limits k d) key_count (key_at pipe d)
unfolding key_at key_text key_count
key_is limits d pipe i n t x h =
    branch_then (open_at (run goes_on_name t).1) _ _ h
    (λ r e h. key_call_is limits d pipe i (run goes_on_name t).0 n t (run goes_on_name t).1 r (record { front = (run goes_on_name t).0; of = refl; cut = (run_is goes_on_name t).cut }) (open_is (run goes_on_name t).1 e) h)
    (λ e h. bind_then (path_at t) _ h (λ p f k.
    subst (λ x. Front (key_text limits x.0 d) t x.2 × (n ≡ key_count x.0 + x.1)) (some_value k) (path_is t f, omega arith)))

more_keys_from : (limits : Bounds) (d : ℕ) (ks : List Key) (a : List ℕ) → each_behind comma (λ k. key_text limits k d) ks a → more_keys_text limits (keys_from ks) d a
unfolding more_keys_text
more_keys_from limits d [] a h = h
more_keys_from limits d (k ∷ ks) a h = let s = h.second in record { left = h.left; right = h.right; first = h.first; second = record { left = s.left; right = s.right; first = s.first; second = more_keys_from limits d ks s.right s.second; cut = s.cut }; cut = h.cut }

keys_text_from : (limits : Bounds) (d : ℕ) (ks : List Key) (a : List ℕ) → many_text (λ k. key_text limits k d) ks a → keys_text limits (keys_from ks) d a
unfolding keys_text
keys_text_from limits d [] a h = absurd h
keys_text_from limits d (k ∷ ks) a h = record { left = h.left; right = h.right; first = h.first; second = more_keys_from limits d ks h.right h.second; cut = h.cut }

keys_total : (ks : List Key) → total key_count ks ≡ keys_count (keys_from ks)
unfolding keys_count
keys_total [] = refl
keys_total (k ∷ ks) = ap (λ n. key_count k + n) (keys_total ks)

pub inner_ok : (limits : Bounds) (d : ℕ) (pipe : PipeReader) → ((e : ℕ) → d ≡ suc e → PipeIs limits e pipe) → InnerOk limits d pipe
inner_ok limits zero pipe k = tt
inner_ok limits (suc d) pipe k = k d refl

-- the keys of a grouping, in their own parentheses
pub keys_is : (limits : Bounds) (d : ℕ) (pipe : PipeReader) → ((e : ℕ) → d ≡ suc (suc e) → PipeIs limits e pipe) → IsCounted (λ ks. inside d (keys_text limits ks)) keys_count (keys_at pipe d)
unfolding keys_at ended
keys_is limits zero pipe i n t x h = absurd cc
keys_is limits (suc d) pipe i n t x h =
    bind_then (open_at t) _ h (λ s e h. bind_then (some_at (key_at pipe d) n s) _ h (λ ks f h. bind_then (close_at ks.2) _ h (λ r c k.
    let a = many_is (λ k. key_text limits k d) key_count (key_at pipe d) (key_is limits d pipe (inner_ok limits d pipe (λ e z. i e (ap suc z)))) n s ks f in
    subst (λ x. Front (inside (suc d) (keys_text limits x.0)) t x.2 × (n ≡ keys_count x.0 + x.1)) (some_value k)
    (in_front (open_is t e) (map_front (keys_text_from limits d ks.0) a.0) (close_is ks.2 c), omega (arith, a.1, keys_total ks.0)))))

-- ---- branches

more_branches_from : (limits : Bounds) (d : ℕ) (ps : List Pipe) (a : List ℕ) → each_behind comma (λ p. Text limits p d) ps a → more_branches_text limits (pipes_from ps) d a
unfolding more_branches_text
more_branches_from limits d [] a h = h
more_branches_from limits d (p ∷ ps) a h = let s = h.second in record { left = h.left; right = h.right; first = h.first; second = record { left = s.left; right = s.right; first = s.first; second = more_branches_from limits d ps s.right s.second; cut = s.cut }; cut = h.cut }

branches_text_from : (limits : Bounds) (d : ℕ) (ps : List Pipe) (a : List ℕ) → many_text (λ p. Text limits p d) ps a → branches_text limits (pipes_from ps) d a
unfolding branches_text
branches_text_from limits d [] a h = absurd h
branches_text_from limits d (p ∷ ps) a h = record { left = h.left; right = h.right; first = h.first; second = more_branches_from limits d ps h.right h.second; cut = h.cut }

pipes_total : (ps : List Pipe) → total step_count ps ≡ branches_count (pipes_from ps)
unfolding branches_count
pipes_total [] = refl
pipes_total (p ∷ ps) = ap (λ n. step_count p + n) (pipes_total ps)

two_pipes : (ps : List Pipe) → nat_le 2 (length ps) ≡ true → has_two (pipes_from ps) ≡ true
two_pipes [] h = absurd cc
two_pipes (p ∷ []) h = absurd cc
two_pipes (p ∷ (q ∷ ps)) h = refl

-- at least two
abbrev two_text : Bounds → Pipes → ℕ → Language
two_text limits ps d t = (has_two ps ≡ true) × branches_text limits ps d t

branches_is : (limits : Bounds) (d : ℕ) (pipe : PipeReader) → PipeIs limits d pipe → IsCounted (λ ps. two_text limits ps d) branches_count (branches_at pipe)
unfolding branches_at
branches_is limits d pipe i n t x h =
    bind_then (some_at pipe n t) _ h (λ ps e h. guard_then (nat_le 2 (length ps.0)) _ h (λ l k.
    let a = many_is (λ p. Text limits p d) step_count pipe i n t ps e in
    subst (λ x. Front (two_text limits x.0 d) t x.2 × (n ≡ branches_count x.0 + x.1)) k
    (map_front (λ b g. (two_pipes ps.0 l, branches_text_from limits d ps.0 b g)) a.0, omega (arith, a.1, pipes_total ps.0))))

concat_text : (limits : Bounds) (ps : Pipes) (d : ℕ) (a : List ℕ) → (word (codes "concat") · in_parentheses (two_text limits ps d)) a → step_text limits (Step.Concat ps) (suc d) a
unfolding step_text
concat_text limits ps d a h =
    let b = h.second in
    let c = b.second in
    let e = c.first in
    (e.0, record { left = h.left; right = h.right; first = h.first; second = record { left = b.left; right = b.right; first = b.first; second = record { left = c.left; right = c.right; first = e.1; second = c.second; cut = c.cut }; cut = b.cut }; cut = h.cut })

-- ---- joins and climbs

-- the readers of pipelines in the parentheses of a step
abbrev pub FamilyOk : Bounds → ℕ → (ℕ → PipeReader) → Type 0
FamilyOk limits d pipe = (k e : ℕ) → d ≡ suc (k + e) → PipeIs limits e (pipe k)

abbrev pub StepGot : Bounds → ℕ → ℕ → List ℕ → Step × ℕ × List ℕ → Type 0
StepGot limits d n t x = Got (step_text limits) inner_count d n t x

groupby_is : (limits : Bounds) (d : ℕ) (pipe deep : PipeReader) → PipeIs limits d pipe → ((e : ℕ) → d ≡ suc (suc e) → PipeIs limits e deep) → (n : ℕ) (whole s t : List ℕ) {x : Step × ℕ × List ℕ} → Front (word (codes "groupby")) whole s → Opened s t → groupby_at pipe deep d n t ≡ Some x → StepGot limits d n whole x
unfolding groupby_at ended step_text inner_count
groupby_is limits d pipe deep i j n whole s t a o h =
    bind_then (keys_at deep d n t) _ h (λ ks f h. bind_then (inner_at pipe ks.1 ks.2) _ h (λ T g h. bind_then (close_at T.2) _ h (λ r c k.
    let u = keys_is limits d deep j n t ks f in
    let v = inner_is limits d pipe i ks.1 ks.2 T g in
    subst (λ x. StepGot limits d n whole x) (some_value k)
    (record { front = then_front a (in_front o (then_front u.0 v.0) (close_is T.2 c)); enough = omega (arith, u.1, v.1) }))))

concat_is : (limits : Bounds) (d : ℕ) (pipe : PipeReader) → PipeIs limits d pipe → (n : ℕ) (whole s t : List ℕ) {x : Step × ℕ × List ℕ} → Front (word (codes "concat")) whole s → Opened s t → ended Step.Concat (branches_at pipe n t) ≡ Some x → StepGot limits d n whole x
unfolding inner_count
concat_is limits d pipe i n whole s t a o h =
    ended_is (step_text limits) inner_count Step.Concat d n (codes "concat") (λ ps. two_text limits ps d) whole s t (branches_at pipe n t) a o (λ y f. branches_is limits d pipe i n t y f) (λ ps b g. concat_text limits ps d b g) h

join_is : (limits : Bounds) (d : ℕ) (pipe : PipeReader) → PipeIs limits d pipe → (outer : Bool) (n : ℕ) (whole s t : List ℕ) {x : Step × ℕ × List ℕ} → Front (word (join_word outer)) whole s → Opened s t → join_at pipe outer n t ≡ Some x → StepGot limits d n whole x
unfolding join_at ended step_text inner_count
join_is limits d pipe i outer n whole s t a o h =
    bind_then (alias_at t) _ h (λ y f h. bind_then (inner_at pipe n y.1) _ h (λ T g h. bind_then (close_at T.2) _ h (λ r c k.
    let v = inner_is limits d pipe i n y.1 T g in
    subst (λ x. StepGot limits d n whole x) (some_value k)
    (record { front = then_front a (in_front o (alias_is t f v.0) (close_is T.2 c)); enough = v.1 }))))

-- a pipeline, the end of a climb, and the parenthesis
climb_front_end : {A B C : Language} {t r : List ℕ} → Front (A · (B · C) · close) t r → Front ((A · B · C) · close) t r
climb_front_end f = map_front (λ a h.
    let b = h.second in
    record {
      left = h.left ++ b.left;
      right = b.right;
      first = record { left = h.left; right = b.left; first = h.first; second = b.first; cut = refl };
      second = b.second;
      cut = h.cut ∙ ap (λ l. h.left ++ l) b.cut ∙ sym (append_assoc h.left b.left b.right);
    })
    f

climb_is : (limits : Bounds) (d : ℕ) (pipe : PipeReader) → PipeIs limits d pipe → (up : Bool) (n : ℕ) (whole s t : List ℕ) {x : Step × ℕ × List ℕ} → Front (word (climb_word up)) whole s → Opened s t → climb_at pipe up n t ≡ Some x → StepGot limits d n whole x
unfolding climb_at step_text inner_count
climb_is limits d pipe i up n whole s t a o h =
    bind_then (node_at t) _ h (λ y f h. bind_then (comma_at y.1) _ h (λ c g h. bind_then (pipe n c) _ h (λ p j h. bind_then (climb_end_at p.2) _ h (λ e l k.
    let v = i n c p j in
    let z = climb_front_end (then_front v.0 (climb_end_is p.2 l)) in
    subst (λ x. StepGot limits d n whole x) (some_value k)
    (record { front = then_front a (then_front (then_front o.sign o.blanks) (node_end t y c z f (comma_is y.1 g).0)); enough = v.1 })))))
  where
    node_end : {B : Language} (t : List ℕ) (y : (HierName × List (List ℕ)) × List ℕ) (c : List ℕ) {r : List ℕ} → Front (B · close) c r → node_at t ≡ Some y → Front comma y.1 c → Front ((hier_text y.0.0 · comma · path_text y.0.1 · comma · B) · close) t r
    node_end {B} t y c {r} z f g =
        map_front (λ a h.
        let b = h.second in
        let p = b.second in
        let q = p.second in
        let u = q.second in
        record {
          left = h.left ++ (b.left ++ (p.left ++ (q.left ++ u.left)));
          right = u.right;
          first = record { left = h.left; right = b.left ++ (p.left ++ (q.left ++ u.left)); first = h.first; second = record { left = b.left; right = p.left ++ (q.left ++ u.left); first = b.first; second = record { left = p.left; right = q.left ++ u.left; first = p.first; second = record { left = q.left; right = u.left; first = q.first; second = u.first; cut = refl }; cut = refl }; cut = refl }; cut = refl };
          second = u.second;
          cut = h.cut ∙ ap (λ l. h.left ++ l) (b.cut ∙ ap (λ l. b.left ++ l) (p.cut ∙ ap (λ l. p.left ++ l) (q.cut ∙ ap (λ l. q.left ++ l) u.cut))) ∙ simp append_assoc;
        })
        (node_is t f (then_front g z))

-- ---- steps

select_is : (limits : Bounds) (d : ℕ) (b : Bool) (k : LimitKind) (n : ℕ) (whole s t : List ℕ) {x : Step × ℕ × List ℕ} → Front (word (selection_word b k)) whole s → Opened s t → closed Step.TopBy n (top_at limits d b k t) ≡ Some x → StepGot limits d n whole x
unfolding closed step_text inner_count
select_is limits d b k n whole s t a o h =
    bind_then (top_at limits d b k t) _ h (λ y e h. bind_then (close_at y.1) _ h (λ r c i.
    let g = top_is limits d b k t e in
    subst (λ x. StepGot limits d n whole x) (some_value i)
    (record { front = then_front (map_front (λ a j. j ∙ sym g.its_word) a) (in_front o g.front (close_is y.1 c)); enough = omega arith })))

pub call_is : (limits : Bounds) (d : ℕ) (pipe : ℕ → PipeReader) → FamilyOk limits (suc d) pipe → (f : StepWord) (n : ℕ) (whole s t : List ℕ) {x : Step × ℕ × List ℕ} → Front (word (word_of f)) whole s → Opened s t → call_at limits pipe d f n t ≡ Some x → StepGot limits d n whole x
unfolding call_at step_text inner_count
call_is limits d pipe i word.Filter n whole s t a o h = closed_is (step_text limits) inner_count Step.Filter d n (codes "filter") (λ e. SmallExpr limits e d) whole s t (small_at limits d t) a o (λ y f. small_is limits d t f) (λ y b g. g) (λ y. refl) h
call_is limits d pipe i word.Compute n whole s t a o h = closed_is (step_text limits) inner_count Step.Compute d n (codes "compute") (λ ns. listed comma (named_text limits d) ns) whole s t (list_at comma_at (named_at limits d) t) a o (λ y f. list_is (named_items limits d) t f) (λ y b g. g) (λ y. refl) h
call_is limits d pipe i word.OrderBy n whole s t a o h = closed_is (step_text limits) inner_count Step.OrderBy d n (codes "orderby") (λ ns. listed comma (item_text limits d) ns) whole s t (list_at comma_at (item_at limits d) t) a o (λ y f. list_is (order_items limits d) t f) (λ y b g. g) (λ y. refl) h
call_is limits d pipe i word.Skip n whole s t a o h = closed_is (step_text limits) inner_count Step.Skip d n (codes "skip") (λ m. Digits integer_max m) whole s t (count_at integer_max t) a o (λ y f. count_is integer_max t f) (λ y b g. g) (λ y. refl) h
call_is limits d pipe i word.Top n whole s t a o h = closed_is (step_text limits) inner_count Step.Top d n (codes "top") (λ m. Digits integer_max m) whole s t (count_at integer_max t) a o (λ y f. count_is integer_max t f) (λ y b g. g) (λ y. refl) h
call_is limits d pipe i word.Aggregate n whole s t a o h = closed_is (step_text limits) inner_count Step.Aggregate d n (codes "aggregate") (λ ns. listed comma (agg_text limits d) ns) whole s t (list_at comma_at (agg_at limits d) t) a o (λ y f. list_is (agg_items limits d) t f) (λ y b g. g) (λ y. refl) h
call_is limits d pipe i word.GroupBy n whole s t a o h = groupby_is limits d (pipe 0) (pipe 2) (i 0 d (omega arith)) (λ e z. i 2 e (omega arith)) n whole s t a o h
call_is limits d pipe i word.Concat n whole s t a o h = concat_is limits d (pipe 0) (i 0 d (omega arith)) n whole s t a o h
call_is limits d pipe i (word.Join outer) n whole s t a o h = join_is limits d (pipe 0) (i 0 d (omega arith)) outer n whole s t a o h
call_is limits d pipe i (word.Climb up) n whole s t a o h = climb_is limits d (pipe 0) (i 0 d (omega arith)) up n whole s t a o h
call_is limits d pipe i word.Traverse n whole s t a o h = closed_is (step_text limits) inner_count Step.Traverse d n (codes "traverse") (λ x. traverse_text limits x d) whole s t (traverse_at limits d t) a o (λ y f. traverse_is limits d t f) (λ y b g. g) (λ y. refl) h
call_is limits d pipe i (word.Select bottom k) n whole s t {x} a o h = select_is limits d bottom k n whole s t a o h

step_word_is : (w : List ℕ) {f : StepWord} → step_word_of w ≡ Some f → w ≡ word_of f
unfolding step_word_of
step_word_is w h = word_is word_of step_words w h

body_is : (limits : Bounds) (d : ℕ) (pipe : ℕ → PipeReader) → FamilyOk limits d pipe → (m : ℕ) (t w s : List ℕ) (n : ℕ) → n ≡ suc m → Front (word w) t s → (x : Step × ℕ × List ℕ) → body_at limits pipe d w m s ≡ Some x → Front (step_text limits x.0 d) t x.2 × (n ≡ suc (inner_count x.0) + x.1)
unfolding body_at
body_is limits zero pipe i m t w s n z a x h = absurd cc
body_is limits (suc d) pipe i m t w s n z a x h =
    bind_then (step_word_of w) _ h (λ f j h. bind_then (open_at s) _ h (λ r e h.
    let g = call_is limits d pipe i f m t s r (map_front (λ b k. k ∙ step_word_is w j) a) (open_is s e) h in
    (g.front, omega (arith, g.enough))))

abbrev pub StepIs : Bounds → ℕ → Counted Step → Type 0
StepIs limits d step = (n : ℕ) (t : List ℕ) (x : Step × ℕ × List ℕ) → step n t ≡ Some x → Front (step_text limits x.0 d) t x.2 × (n ≡ suc (inner_count x.0) + x.1)

pub step_is : (limits : Bounds) (d : ℕ) (pipe : ℕ → PipeReader) → FamilyOk limits d pipe → StepIs limits d (step_at limits pipe d)
unfolding step_at step_text inner_count
step_is limits d pipe i n t x h =
    spend_then n _ h (λ m z h.
    cond_then (same_text (run goes_on_name t).0 (codes "identity")) _ _ h
    (λ e k.
    subst (λ x. Front (step_text limits x.0 d) t x.2 × (n ≡ suc (inner_count x.0) + x.1)) (some_value k)
    (record { front = (run goes_on_name t).0; of = same_texts _ _ e; cut = (run_is goes_on_name t).cut }, omega arith))
    (λ e h. body_is limits d pipe i m t (run goes_on_name t).0 (run goes_on_name t).1 n z (record { front = (run goes_on_name t).0; of = refl; cut = (run_is goes_on_name t).cut }) x h))

pub rest_is : (limits : Bounds) (d : ℕ) (step : Counted Step) → StepIs limits d step → (f n : ℕ) (t : List ℕ) {x : Pipe × ℕ × List ℕ} → rest_at step f n t ≡ Some x → Front (rest_text limits x.0 d) t x.2 × (n ≡ step_count x.0 + x.1)
unfolding rest_at rest_text step_count
rest_is limits d step i zero n t h =
    branch_then (after 47 t) _ _ h (λ s e h. absurd cc)
    (λ e k. subst (λ x. Front (rest_text limits x.0 d) t x.2 × (n ≡ step_count x.0 + x.1)) (some_value k) (word_front [] t t refl, omega arith))
rest_is limits d step i (suc f) n t h =
    branch_then (after 47 t) _ _ h
    (λ s e h. bind_then (step n s) _ h (λ y g h. bind_then (rest_at step f y.1 y.2) _ h (λ p j k.
    let a = i n s y g in
    let b = rest_is limits d step i f y.1 y.2 j in
    subst (λ x. Front (rest_text limits x.0 d) t x.2 × (n ≡ step_count x.0 + x.1)) (some_value k)
    (then_front (word_front (codes "/") t s (after_is 47 t e)) (then_front a.0 b.0), omega (arith, a.1, b.1)))))
    (λ e k. subst (λ x. Front (rest_text limits x.0 d) t x.2 × (n ≡ step_count x.0 + x.1)) (some_value k) (word_front [] t t refl, omega arith))

pub steps_is : (limits : Bounds) (d : ℕ) (step : Counted Step) → StepIs limits d step → PipeIs limits d (steps_at step)
unfolding steps_at Text step_count
steps_is limits d step i n t x h =
    bind_then (step n t) _ h (λ y g h. bind_then (rest_at step y.1 y.1 y.2) _ h (λ p j k.
    let a = i n t y g in
    let b = rest_is limits d step i y.1 y.1 y.2 j in
    subst (λ x. Front (Text limits x.0 d) t x.2 × (n ≡ step_count x.0 + x.1)) (some_value k)
    (then_front a.0 b.0, omega (arith, a.1, b.1))))

same_depth : (d e k : ℕ) → suc d ≡ suc (0 + e) → d ≡ e
same_depth d e k h = omega arith

pub below_is : (limits : Bounds) (d : ℕ) → FamilyOk limits d (below limits d)
unfolding below
below_is limits zero k e z = absurd (omega arith)
below_is limits (suc d) zero e z = subst (λ b. PipeIs limits b (steps_at (step_at limits (below limits d) d))) (same_depth d e 0 z) (steps_is limits d (step_at limits (below limits d) d) (step_is limits d (below limits d) (below_is limits d)))
below_is limits (suc d) (suc k) e z = below_is limits d k e (omega arith)

pub pipes_found : (limits : Bounds) (d : ℕ) → PipeIs limits d (pipe_at limits d)
pipes_found limits d = steps_is limits d (step_at limits (below limits d) d) (step_is limits d (below limits d) (below_is limits d))
