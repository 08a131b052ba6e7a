-- The program's loops over steps, keys and branches, one turn after another.
use Rattle.std.proofs.Common.{◌≡◌, ℕ, zero, suc, ◌+◌, ◌<◌, ◌≤◌, List, [], ◌∷◌, ◌++◌, length, Bool, Option, Some, None, Result, Ok, Err, refl, sym, ap, ◌∙◌, append_assoc, append-nil, arith, zero-add}
use Rattle.std.specs.Prelude.{◌-◌, true, false, codes}
use Rattle.std.proofs.lemmas.List.{length-append}
use Rattle.edm_values.specs.Lists.{same_text}
use Rattle.edm_values.specs.Names.{Path}
use Rattle.apply_ast.specs.Trees.{HierName, Pipe, Step, pipe}
use Rattle.apply_ast.specs.Views.{keys_from}
use Rattle.apply_ast.specs.Counts.{key_count}
use Rattle.apply_ast.specs.Grammar.{Language}
use Rattle.apply_grammar.specs.Limits.{Bounds}
use Rattle.apply_grammar.specs.declared.words.StepWord.{StepWord}
use Rattle.apply_grammar.specs.Reading.{◌>>=◌, after, comma_at, open_at}
use Rattle.apply_grammar.specs.PipeReading.{Seen, Counted, below, pipe_at, step_at, body_at, call_at, steps_at, rest_at, more_at, some_at, key_at, keys_at, key_call_at, recursive_at, rollup_at, closed, ended, step_word_of, whole_at, pipeline_at, whole_step, whole_more, PipeReader, node_at, climb_end_at, climb_at}
use Rattle.apply_grammar.proofs.Runs.{branch_agree, bind_agree, front_length, is_none}
use Rattle.apply_grammar.proofs.Leaves.{comma_is}
use Rattle.apply_grammar.proofs.ItemLaws.{comma_some}
use Rattle.apply_grammar.proofs.Nested.{key_text}
use Rattle.apply_grammar.proofs.PipeFound.{IsCounted, step_is, below_is, key_is, inner_ok}

-- a step where d parentheses may be open
abbrev pub step : Bounds → ℕ → Counted Step
step limits d = step_at limits (below limits d) d

-- ---- steps

abbrev pub app : List Step → Pipe → Pipe
app [] p = p
app (s ∷ ss) p = Pipe.Then s (app ss p)

abbrev pub with_steps : List Step → Seen Pipe → Seen Pipe
with_steps front read = read >>= λ x. Some (app front x.0, x.1, x.2)

app_more : (ss : List Step) (s : Step) (p : Pipe) → app (ss ++ s ∷ []) p ≡ app ss (Pipe.Then s p)
app_more [] s p = refl
app_more (x ∷ ss) s p = ap (Pipe.Then x) (app_more ss s p)

app_end : (ss : List Step) → app ss Pipe.End ≡ pipe ss
app_end [] = refl
app_end (x ∷ ss) = ap (Pipe.Then x) (app_end ss)

steps_more : (front : List Step) (s : Step) (read : Seen Pipe) → with_steps front (read >>= λ p. Some (Pipe.Then s p.0, p.1, p.2)) ≡ with_steps (front ++ s ∷ []) read
steps_more front s None = refl
steps_more front s (Some p) = ap (λ (q : Pipe). Some (q, p.1, p.2)) (sym (app_more front s p.0))

step_less : (limits : Bounds) (d n : ℕ) (t : List ℕ) (x : Step × ℕ × List ℕ) → step limits d n t ≡ Some x → x.1 < n
step_less limits d n t x e = let a = step_is limits d (below limits d) (below_is limits d) n t x e in omega (arith, a.1)

step_zero : (limits : Bounds) (d : ℕ) (t : List ℕ) → step limits d 0 t ≡ None
unfolding step_at
step_zero limits d t = refl

rest_agree : (limits : Bounds) (d f g n : ℕ) (t : List ℕ) → n ≤ f → n ≤ g → rest_at (step limits d) f n t ≡ rest_at (step limits d) g n t
unfolding rest_at
rest_agree limits d zero zero n t h k = refl
rest_agree limits d zero (suc g) n t h k = let z : n ≡ 0 = omega arith in rw z (branch_agree (after 47 t) _ _ _ (λ s e. rw (step_zero limits d s) refl))
rest_agree limits d (suc f) zero n t h k = let z : n ≡ 0 = omega arith in rw z (branch_agree (after 47 t) _ _ _ (λ s e. rw (step_zero limits d s) refl))
rest_agree limits d (suc f) (suc g) n t h k =
    branch_agree (after 47 t) _ _ _ (λ s e. bind_agree (step limits d n s) _ _ (λ x i.
    let l = step_less limits d n s x i in
    ap (λ o. o >>= λ p. Some (Pipe.Then x.0 p.0, p.1, p.2)) (rest_agree limits d f g x.1 x.2 (omega arith) (omega arith))))

rest_turn : (limits : Bounds) (d n : ℕ) (t s : List ℕ) (x : Step) (k : ℕ) (u : List ℕ) → Some s ≡ after 47 t → step limits d n s ≡ Some (x, k, u) → rest_at (step limits d) n n t ≡ (rest_at (step limits d) k k u >>= λ p. Some (Pipe.Then x p.0, p.1, p.2))
unfolding rest_at
rest_turn limits d zero t s x k u h e = absurd (omega (arith, step_less limits d 0 s (x, k, u) e))
rest_turn limits d (suc n) t s x k u h e =
    let l = step_less limits d (suc n) s (x, k, u) e in
    rw (sym h, e) (ap (λ o. o >>= λ p. Some (Pipe.Then x p.0, p.1, p.2)) (rest_agree limits d n k k u (omega (arith, l)) (omega arith)))

pub pipe_start : (limits : Bounds) (d n : ℕ) (t : List ℕ) (x : Step) (k : ℕ) (u : List ℕ) → step limits d n t ≡ Some (x, k, u) → with_steps (x ∷ []) (rest_at (step limits d) k k u) ≡ pipe_at limits d n t
unfolding steps_at
pipe_start limits d n t x k u e = rw e refl

pub pipe_starts_not : (limits : Bounds) (d n : ℕ) (t : List ℕ) → step limits d n t ≡ None → pipe_at limits d n t ≡ None
unfolding steps_at
pipe_starts_not limits d n t e = rw e refl

pub pipe_turn : (limits : Bounds) (d n : ℕ) (front : List Step) (t s : List ℕ) (x : Step) (k : ℕ) (u : List ℕ) (total : Seen Pipe) → Some s ≡ after 47 t → step limits d n s ≡ Some (x, k, u) → with_steps front (rest_at (step limits d) n n t) ≡ total → with_steps (front ++ x ∷ []) (rest_at (step limits d) k k u) ≡ total
pipe_turn limits d n front t s x k u total h e g =
    sym (steps_more front x (rest_at (step limits d) k k u)) ∙ ap (with_steps front) (sym (rest_turn limits d n t s x k u h e)) ∙ g

pub pipe_fails : (limits : Bounds) (d n : ℕ) (front : List Step) (t s : List ℕ) (total : Seen Pipe) → Some s ≡ after 47 t → step limits d n s ≡ None → with_steps front (rest_at (step limits d) n n t) ≡ total → total ≡ None
unfolding rest_at
pipe_fails limits d zero front t s total h e g = sym g ∙ rw (sym h) refl
pipe_fails limits d (suc n) front t s total h e g = sym g ∙ rw (sym h, e) refl

pub pipe_done : (limits : Bounds) (d n : ℕ) (front : List Step) (t : List ℕ) (total : Seen Pipe) → None ≡ after 47 t → with_steps front (rest_at (step limits d) n n t) ≡ total → total ≡ Some (pipe front, n, t)
unfolding rest_at
pipe_done limits d zero front t total h g = sym g ∙ rw (sym h) (ap (λ (q : Pipe). Some (q, 0, t)) (app_end front))
pipe_done limits d (suc n) front t total h g = sym g ∙ rw (sym h) (ap (λ (q : Pipe). Some (q, suc n, t)) (app_end front))

-- ---- keys and branches: lists of trees that may hold steps

abbrev pub with_parts : {X : Type 0} → List X → Seen (List X) → Seen (List X)
with_parts front read = read >>= λ x. Some (front ++ x.0, x.1, x.2)

parts_more : {X : Type 0} (front : List X) (x : X) (read : Seen (List X)) → with_parts front (read >>= λ y. Some (x ∷ y.0, y.1, y.2)) ≡ with_parts (front ++ x ∷ []) read
parts_more front x None = refl
parts_more front x (Some y) = ap (λ l. Some (l, y.1, y.2)) (sym (append_assoc front (x ∷ []) y.0))

parts_first : {X : Type 0} (x : X) (read : Seen (List X)) → (read >>= λ y. Some (x ∷ y.0, y.1, y.2)) ≡ with_parts (x ∷ []) read
parts_first x None = refl
parts_first x (Some y) = refl

pub parts_start : {X : Type 0} (item : Counted X) (n : ℕ) (t : List ℕ) (x : X) (k : ℕ) (r : List ℕ) → item n t ≡ Some (x, k, r) → with_parts (x ∷ []) (more_at item (length r) k r) ≡ some_at item n t
unfolding some_at
parts_start item n t x k r h = rw h (sym (parts_first x (more_at item (length r) k r)))

pub parts_start_not : {X : Type 0} (item : Counted X) (n : ℕ) (t : List ℕ) → item n t ≡ None → some_at item n t ≡ None
unfolding some_at
parts_start_not item n t h = rw h refl

-- what stands behind a comma is shorter
pub parts_shorter : {X : Type 0} (L : X → Language) (count : X → ℕ) (item : Counted X) → IsCounted L count item → (n : ℕ) (t r : List ℕ) (x : X) (k : ℕ) (s : List ℕ) → Some r ≡ comma_at t → item n r ≡ Some (x, k, s) → length s < length t
parts_shorter L count item i n t r x k s h e =
    let a = comma_is t (sym h) in
    let b = i n r (x, k, s) e in
    let c = a.0 in
    omega (arith, comma_some c.front c.of, front_length c, front_length b.0)

parts_done : {X : Type 0} (item : Counted X) (f n : ℕ) (t : List ℕ) → length t ≤ 0 → more_at item f n t ≡ Some ([], n, t)
unfolding more_at
parts_done item zero n t h = refl
parts_done item (suc f) n t h =
    let e : comma_at t ≡ None = is_none (comma_at t) (λ r k. let a = comma_is t k in let c = a.0 in omega (arith, comma_some c.front c.of, front_length c)) in
    rw e refl

parts_agree : {X : Type 0} (L : X → Language) (count : X → ℕ) (item : Counted X) → IsCounted L count item → (f g n : ℕ) (t : List ℕ) → length t ≤ f → length t ≤ g → more_at item f n t ≡ more_at item g n t
unfolding more_at
parts_agree L count item i zero g n t h k = sym (parts_done item g n t h)
parts_agree L count item i (suc f) zero n t h k = parts_done item (suc f) n t k
parts_agree L count item i (suc f) (suc g) n t h k =
    branch_agree (comma_at t) _ _ _ (λ r e. bind_agree (item n r) _ _ (λ x l.
    let s = parts_shorter L count item i n t r x.0 x.1 x.2 (sym e) l in
    ap (λ o. o >>= λ w. Some (x.0 ∷ w.0, w.1, w.2)) (parts_agree L count item i f g x.1 x.2 (omega (arith, s)) (omega (arith, s)))))

one_part : {X : Type 0} (item : Counted X) (f n : ℕ) (t r : List ℕ) (x : X) (k : ℕ) (s : List ℕ) → comma_at t ≡ Some r → item n r ≡ Some (x, k, s) → more_at item (suc f) n t ≡ (more_at item f k s >>= λ y. Some (x ∷ y.0, y.1, y.2))
unfolding more_at
one_part item f n t r x k s h e = rw (h, e) refl

bad_part : {X : Type 0} (item : Counted X) (f n : ℕ) (t r : List ℕ) → comma_at t ≡ Some r → item n r ≡ None → more_at item (suc f) n t ≡ None
unfolding more_at
bad_part item f n t r h e = rw (h, e) refl

no_part : {X : Type 0} (item : Counted X) (f n : ℕ) (t : List ℕ) → comma_at t ≡ None → more_at item f n t ≡ Some ([], n, t)
unfolding more_at
no_part item zero n t h = refl
no_part item (suc f) n t h = rw h refl

comma_longer : (t r : List ℕ) → Some r ≡ comma_at t → 0 < length t
comma_longer t r h = let a = comma_is t (sym h) in let c = a.0 in omega (arith, comma_some c.front c.of, front_length c)

pub parts_turn : {X : Type 0} (L : X → Language) (count : X → ℕ) (item : Counted X) → IsCounted L count item → (front : List X) (n : ℕ) (t r : List ℕ) (x : X) (k : ℕ) (s : List ℕ) (total : Seen (List X)) → Some r ≡ comma_at t → item n r ≡ Some (x, k, s) → with_parts front (more_at item (length t) n t) ≡ total → with_parts (front ++ x ∷ []) (more_at item (length s) k s) ≡ total
parts_turn L count item i front n t r x k s total h e g =
    let l = parts_shorter L count item i n t r x k s h e in
    let m : length t ≤ suc (length t - 1) = omega arith in
    let o : length s ≤ length t - 1 = omega (arith, l) in
    let q : more_at item (length t) n t ≡ (more_at item (length s) k s >>= λ y. Some (x ∷ y.0, y.1, y.2)) =
    parts_agree L count item i (length t) (suc (length t - 1)) n t (omega arith) m ∙ one_part item (length t - 1) n t r x k s (sym h) e
    ∙ ap (λ o. o >>= λ y. Some (x ∷ y.0, y.1, y.2)) (parts_agree L count item i (length t - 1) (length s) k s o (omega arith)) in
    sym (parts_more front x (more_at item (length s) k s)) ∙ ap (with_parts front) (sym q) ∙ g

pub parts_fail : {X : Type 0} (L : X → Language) (count : X → ℕ) (item : Counted X) → IsCounted L count item → (front : List X) (n : ℕ) (t r : List ℕ) (total : Seen (List X)) → Some r ≡ comma_at t → item n r ≡ None → with_parts front (more_at item (length t) n t) ≡ total → total ≡ None
parts_fail L count item i front n t r total h e g =
    let l = comma_longer t r h in
    let m : length t ≤ suc (length t - 1) = omega arith in
    let q : more_at item (length t) n t ≡ None = parts_agree L count item i (length t) (suc (length t - 1)) n t (omega arith) m ∙ bad_part item (length t - 1) n t r (sym h) e in
    sym g ∙ ap (with_parts front) q

pub parts_stop : {X : Type 0} (item : Counted X) (front : List X) (n : ℕ) (t : List ℕ) (total : Seen (List X)) → None ≡ comma_at t → with_parts front (more_at item (length t) n t) ≡ total → total ≡ Some (front, n, t)
parts_stop item front n t total h g = sym g ∙ ap (with_parts front) (no_part item (length t) n t (sym h)) ∙ ap (λ l. Some (l, n, t)) (append-nil front)

-- ---- what the loops read

pub keys_found : (limits : Bounds) (d : ℕ) → IsCounted (λ k. key_text limits k d) key_count (key_at (below limits d 0) d)
keys_found limits d = key_is limits d (below limits d 0) (inner_ok limits d (below limits d 0) (λ e z. below_is limits d 0 e (z_is d e z)))
  where
    z_is : (d e : ℕ) → d ≡ suc e → d ≡ suc (0 + e)
    z_is d e z = omega arith

-- ---- places where one parenthesis more is opened

pub body_none : (limits : Bounds) (d : ℕ) (w : List ℕ) (n : ℕ) (t : List ℕ) → d ≡ 0 → body_at limits (below limits d) d w n t ≡ None
unfolding body_at
body_none limits zero w n t h = refl
body_none limits (suc d) w n t h = absurd (omega arith)

pub body_no_word : (limits : Bounds) (d : ℕ) (w : List ℕ) (n : ℕ) (t : List ℕ) → 0 < d → None ≡ step_word_of w → body_at limits (below limits d) d w n t ≡ None
unfolding body_at
body_no_word limits zero w n t h e = absurd (omega arith)
body_no_word limits (suc d) w n t h e = rw (sym e) refl

pub body_closed : (limits : Bounds) (d : ℕ) (w : List ℕ) (n : ℕ) (t : List ℕ) (f : StepWord) → 0 < d → Some f ≡ step_word_of w → None ≡ open_at t → body_at limits (below limits d) d w n t ≡ None
unfolding body_at
body_closed limits zero w n t f h e g = absurd (omega arith)
body_closed limits (suc d) w n t f h e g = rw (sym e, sym g) refl

pub body_some : (limits : Bounds) (d : ℕ) (w : List ℕ) (n : ℕ) (t : List ℕ) (f : StepWord) (s : List ℕ) → 0 < d → Some f ≡ step_word_of w → Some s ≡ open_at t → body_at limits (below limits d) d w n t ≡ call_at limits (below limits (suc (d - 1))) (d - 1) f n s
unfolding body_at
body_some limits zero w n t f s h e g = absurd (omega arith)
body_some limits (suc d) w n t f s h e g =
    let k : d ≡ suc d - 1 = omega arith in
    rw (sym e, sym g) (ap (λ i. call_at limits (below limits (suc i)) i f n s) k)

pub key_call_none : (limits : Bounds) (d : ℕ) (w : List ℕ) (n : ℕ) (t : List ℕ) → d ≡ 0 → key_call_at (below limits d 0) d w n t ≡ None
unfolding key_call_at
key_call_none limits zero w n t h = refl
key_call_none limits (suc d) w n t h = absurd (omega arith)

pub key_call_rollup : (limits : Bounds) (d : ℕ) (w : List ℕ) (n : ℕ) (t : List ℕ) → 0 < d → true ≡ same_text w (codes "rollup") → key_call_at (below limits d 0) d w n t ≡ closed (λ k. k) n (rollup_at t)
unfolding key_call_at
key_call_rollup limits zero w n t h e = absurd (omega arith)
key_call_rollup limits (suc d) w n t h e = rw (sym e) refl

pub key_call_recursive : (limits : Bounds) (d : ℕ) (w : List ℕ) (n : ℕ) (t : List ℕ) → 0 < d → false ≡ same_text w (codes "rollup") → true ≡ same_text w (codes "rolluprecursive") → key_call_at (below limits d 0) d w n t ≡ ended (λ k. k) (recursive_at (pipe_at limits (d - 1)) n t)
unfolding key_call_at below
key_call_recursive limits zero w n t h e g = absurd (omega arith)
key_call_recursive limits (suc d) w n t h e g = let k : d ≡ suc d - 1 = omega arith in rw (sym e, sym g) (ap (λ i. ended (λ k. k) (recursive_at (pipe_at limits i) n t)) k)

pub key_call_other : (limits : Bounds) (d : ℕ) (w : List ℕ) (n : ℕ) (t : List ℕ) → 0 < d → false ≡ same_text w (codes "rollup") → false ≡ same_text w (codes "rolluprecursive") → key_call_at (below limits d 0) d w n t ≡ None
unfolding key_call_at
key_call_other limits zero w n t h e g = absurd (omega arith)
key_call_other limits (suc d) w n t h e g = rw (sym e, sym g) refl

pub keys_none : (limits : Bounds) (d n : ℕ) (t : List ℕ) → d ≡ 0 → keys_at (below limits d 1) d n t ≡ None
unfolding keys_at
keys_none limits zero n t h = refl
keys_none limits (suc d) n t h = absurd (omega arith)

pub keys_closed : (limits : Bounds) (d n : ℕ) (t : List ℕ) → 0 < d → None ≡ open_at t → keys_at (below limits d 1) d n t ≡ None
unfolding keys_at
keys_closed limits zero n t h e = absurd (omega arith)
keys_closed limits (suc d) n t h e = rw (sym e) refl

pub keys_some : (limits : Bounds) (d n : ℕ) (t s : List ℕ) → 0 < d → Some s ≡ open_at t → keys_at (below limits d 1) d n t ≡ ended keys_from (some_at (key_at (below limits (d - 1) 0) (d - 1)) n s)
unfolding keys_at below
keys_some limits zero n t s h e = absurd (omega arith)
keys_some limits (suc d) n t s h e = let k : d ≡ suc d - 1 = omega arith in rw (sym e) (ap (λ i. ended keys_from (some_at (key_at (below limits i 0) i) n s)) k)

-- ---- climbs

pub climb_reads : (reader : PipeReader) (up : Bool) (n : ℕ) (t : List ℕ) (h : HierName) (p : Path) (s c : List ℕ) (q : Pipe) (m : ℕ) (u : List ℕ) (d : Option ℕ) (keep : Bool) (v : List ℕ) → node_at t ≡ Some ((h, p), s) → Some c ≡ comma_at s → reader n c ≡ Some (q, m, u) → Some ((d, keep), v) ≡ climb_end_at u → climb_at reader up n t ≡ Some (Step.Climb up h p q d keep, m, v)
unfolding climb_at
climb_reads reader up n t h p s c q m u d keep v e f g i = rw (e, sym f, g, sym i) refl

-- ---- all of a text

-- the steps so far stand before what is still read
abbrev pub behind : List Step → Result Pipe ℕ → Result Pipe ℕ
behind front (Ok p) = Ok (app front p)
behind front (Err k) = Err (length front + k)

step_agree : (o : Seen Step) (f g : ℕ → List ℕ → Result Pipe ℕ) → ((x : Step × ℕ × List ℕ) → o ≡ Some x → (s : List ℕ) → f x.1 s ≡ g x.1 s) → whole_step o f ≡ whole_step o g
step_agree None f g h = refl
step_agree (Some x) f g h = branch_agree (after 47 x.2) _ _ _ (λ s e. ap (whole_more x.0) (h x refl s))

whole_agree : (limits : Bounds) (d f g n : ℕ) (t : List ℕ) → n ≤ f → n ≤ g → whole_at (step limits d) f n t ≡ whole_at (step limits d) g n t
unfolding whole_at
whole_agree limits d zero zero n t h k = refl
whole_agree limits d zero (suc g) n t h k = let z : n ≡ 0 = omega arith in rw (z, step_zero limits d t) refl
whole_agree limits d (suc f) zero n t h k = let z : n ≡ 0 = omega arith in rw (z, step_zero limits d t) refl
whole_agree limits d (suc f) (suc g) n t h k = step_agree (step limits d n t) _ _ (λ x e s. let l = step_less limits d n t x e in whole_agree limits d f g x.1 s (omega arith) (omega arith))

behind_more : (front : List Step) (s : Step) (w : Result Pipe ℕ) → behind front (whole_more s w) ≡ behind (front ++ s ∷ []) w
behind_more front s (Ok p) = ap (λ (q : Pipe). Ok q) (sym (app_more front s p))
behind_more front s (Err k) = ap (λ (i : ℕ). Err i) (omega (arith, length-append front (s ∷ [])))

pub all_turn : (limits : Bounds) (d n : ℕ) (front : List Step) (t : List ℕ) (s : Step) (k : ℕ) (u v : List ℕ) (total : Result Pipe ℕ) → step limits d n t ≡ Some (s, k, u) → Some v ≡ after 47 u → behind front (whole_at (step limits d) n n t) ≡ total → behind (front ++ s ∷ []) (whole_at (step limits d) k k v) ≡ total
unfolding whole_at
all_turn limits d zero front t s k u v total e h g = absurd (omega (arith, step_less limits d 0 t (s, k, u) e))
all_turn limits d (suc n) front t s k u v total e h g =
    let l = step_less limits d (suc n) t (s, k, u) e in
    let a : whole_at (step limits d) (suc n) (suc n) t ≡ whole_more s (whole_at (step limits d) k k v) = rw (e, sym h) (ap (whole_more s) (whole_agree limits d n k k v (omega (arith, l)) (omega arith))) in
    sym (behind_more front s (whole_at (step limits d) k k v)) ∙ ap (behind front) (sym a) ∙ g

pub all_fails : (limits : Bounds) (d n : ℕ) (front : List Step) (t : List ℕ) (k : ℕ) (total : Result Pipe ℕ) → step limits d n t ≡ None → k ≡ length front + 1 → behind front (whole_at (step limits d) n n t) ≡ total → total ≡ Err k
unfolding whole_at
all_fails limits d zero front t k total e h g = sym g ∙ ap (λ (i : ℕ). Err i) (sym h)
all_fails limits d (suc n) front t k total e h g = sym g ∙ rw e (ap (λ (i : ℕ). Err i) (sym h))

pub all_done : (limits : Bounds) (d n : ℕ) (front : List Step) (t : List ℕ) (s : Step) (j : ℕ) (u : List ℕ) (total : Result Pipe ℕ) → step limits d n t ≡ Some (s, j, u) → length u ≡ 0 → behind front (whole_at (step limits d) n n t) ≡ total → total ≡ Ok (pipe (front ++ s ∷ []))
unfolding whole_at after
all_done limits d n front t s j (b ∷ u) total e z g = absurd (omega arith)
all_done limits d zero front t s j [] total e z g = absurd (omega (arith, step_less limits d 0 t (s, j, []) e))
all_done limits d (suc n) front t s j [] total e z g = sym g ∙ rw e (ap (λ (q : Pipe). Ok q) (sym (app_more front s Pipe.End) ∙ app_end (front ++ s ∷ [])))

pub all_stops : (limits : Bounds) (d n : ℕ) (front : List Step) (t : List ℕ) (s : Step) (j : ℕ) (u : List ℕ) (k : ℕ) (total : Result Pipe ℕ) → step limits d n t ≡ Some (s, j, u) → None ≡ after 47 u → 0 < length u → k ≡ length front + 1 → behind front (whole_at (step limits d) n n t) ≡ total → total ≡ Err k
unfolding whole_at
all_stops limits d n front t s j [] k total e h z l g = absurd (omega arith)
all_stops limits d zero front t s j (b ∷ u) k total e h z l g = absurd (omega (arith, step_less limits d 0 t (s, j, b ∷ u) e))
all_stops limits d (suc n) front t s j (b ∷ u) k total e h z l g = sym g ∙ rw (e, sym h) (ap (λ (i : ℕ). Err i) (sym l))

behind_none : (w : Result Pipe ℕ) → behind [] w ≡ w
behind_none (Ok p) = refl
behind_none (Err k) = ap (λ (i : ℕ). Err i) (zero-add k)

pub all_start : (limits : Bounds) (d n : ℕ) (t : List ℕ) → behind [] (whole_at (step limits d) n n t) ≡ pipeline_at limits d n t
unfolding pipeline_at
all_start limits d n t = behind_none (whole_at (step limits d) n n t)
