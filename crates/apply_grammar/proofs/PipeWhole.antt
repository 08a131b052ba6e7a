-- All of a text: its pipeline, or the place where it stops being one.
use Rattle.std.proofs.Common.{◌≡◌, true, ℕ, zero, suc, ◌+◌, ◌<◌, ◌≤◌, List, [], ◌∷◌, ◌++◌, Some, None, Result, Ok, Err, refl, sym, ap, subst, ◌∙◌, append_assoc, arith}
use Rattle.std.specs.Prelude.{codes, ◌-◌}
use Rattle.std.proofs.lemmas.List.{append-nil}
use Rattle.edm_values.specs.Names.{goes_on_name}
use Rattle.apply_ast.specs.Trees.{Pipe, Step}
use Rattle.apply_ast.specs.Counts.{step_count, inner_count}
use Rattle.apply_grammar.specs.Limits.{Bounds}
use Rattle.apply_grammar.specs.Reading.{after, branch}
use Rattle.apply_grammar.specs.PipeReading.{Seen, below, whole_at, whole_step, whole_more, whole_end, pipeline_at}
use Rattle.apply_grammar.proofs.Nested.{Text, rest_text, step_text}
use Rattle.apply_grammar.proofs.Runs.{recut, branch_then, after_is, after_front, stops}
use Rattle.apply_grammar.proofs.PipeFound.{step_is, below_is, StepIs}
use Rattle.apply_grammar.proofs.PipeSteps.{step}
use Rattle.apply_grammar.proofs.PipeAgain.{rest_stops, step_reads}

-- the number of steps, inner ones left out
abbrev pub length_of : Pipe → ℕ
length_of Pipe.End = 0
length_of (Pipe.Then s p) = suc (length_of p)

-- a text of the pipeline with at most d open parentheses and n steps
pub record NestedIn (limits : Bounds) (d n : ℕ) (t : List ℕ) (p : Pipe) : Type 0 where
  pub of : Text limits p d t
  pub enough : step_count p ≤ n

-- j steps of the pipeline, each followed by a slash, begin the text
pub record BeginsBy (limits : Bounds) (d n : ℕ) (t : List ℕ) (j : ℕ) : Type 0 where
  pub pipe : Pipe
  pub front : List ℕ
  pub rest : List ℕ
  pub of : NestedIn limits d n front pipe
  pub long : length_of pipe ≡ j
  pub cut : t ≡ front ++ 47 ∷ rest

abbrev pub BeginsIn : Bounds → ℕ → ℕ → List ℕ → ℕ → Type 0
BeginsIn limits d n t zero = Unit {0}
BeginsIn limits d n t (suc j) = BeginsBy limits d n t (suc j)

-- k - 1 is the greatest number of steps, each followed by a slash, that begin a text of no pipeline
pub record IsStop (limits : Bounds) (d n : ℕ) (t : List ℕ) (k : ℕ) : Type 0 where
  pub none : (p : Pipe) → NestedIn limits d n t p → ⊥
  pub some : 1 ≤ k
  pub begins : BeginsIn limits d n t (k - 1)
  pub most : (j : ℕ) → BeginsIn limits d n t j → j ≤ k - 1

steps_found : (limits : Bounds) (d : ℕ) → StepIs limits d (step limits d)
steps_found limits d = step_is limits d (below limits d) (below_is limits d)

step_then : {P : Type 0} (o : Seen Step) (more : ℕ → List ℕ → Result Pipe ℕ) {y : Result Pipe ℕ} → whole_step o more ≡ y → (o ≡ None → Err 1 ≡ y → P) → ((x : Step × ℕ × List ℕ) → o ≡ Some x → branch (after 47 x.2) (λ s. whole_more x.0 (more x.1 s)) (whole_end x.0 x.2) ≡ y → P) → P
step_then None more e k l = k refl e
step_then (Some x) more e k l = l x refl e

more_ok : {P : Type 0} (s : Step) (w : Result Pipe ℕ) {p : Pipe} → whole_more s w ≡ Ok p → ((q : Pipe) → w ≡ Ok q → Pipe.Then s q ≡ p → P) → P
more_ok s (Ok q) e k = k q refl cc
more_ok s (Err i) e k = absurd cc

more_err : {P : Type 0} (s : Step) (w : Result Pipe ℕ) {k : ℕ} → whole_more s w ≡ Err k → ((i : ℕ) → w ≡ Err i → suc i ≡ k → P) → P
more_err s (Ok q) e f = absurd cc
more_err s (Err i) e f = f i refl cc

end_ok : {P : Type 0} (s : Step) (t : List ℕ) {p : Pipe} → whole_end s t ≡ Ok p → (t ≡ [] → Pipe.Then s Pipe.End ≡ p → P) → P
end_ok s [] e k = k refl cc
end_ok s (b ∷ t) e k = absurd cc

end_err : {P : Type 0} (s : Step) (t : List ℕ) {k : ℕ} → whole_end s t ≡ Err k → (1 ≡ k → P) → P
end_err s [] e f = absurd cc
end_err s (b ∷ t) e f = f cc

rest_of_text : (limits : Bounds) (p : Pipe) (d : ℕ) (a : List ℕ) → Text limits p d a → rest_text limits p d (47 ∷ a)
unfolding Text rest_text
rest_of_text limits Pipe.End d a h = absurd h
rest_of_text limits (Pipe.Then s p) d a h = record { left = codes "/"; right = a; first = refl; second = h; cut = refl }

-- ---- what is read is a text of it

pub whole_found : (limits : Bounds) (d f n : ℕ) (t : List ℕ) {p : Pipe} → whole_at (step limits d) f n t ≡ Ok p → NestedIn limits d n t p
unfolding whole_at Text rest_text step_count
whole_found limits d zero n t h = absurd cc
whole_found limits d (suc f) n t h =
    step_then (step limits d n t) _ h (λ e k. absurd cc) (λ x e h.
    let a = steps_found limits d n t x e in
    branch_then (after 47 x.2) _ _ h
    (λ s g h. more_ok x.0 _ h (λ q j k.
    let b = whole_found limits d f x.1 s j in
    let c : t ≡ a.0.front ++ (47 ∷ s) = a.0.cut ∙ ap (λ l. a.0.front ++ l) (after_is 47 x.2 g) in
    subst (λ p. NestedIn limits d n t p) k
    (record { of = record { left = a.0.front; right = 47 ∷ s; first = a.0.of; second = rest_of_text limits q d s b.of; cut = c }; enough = omega (arith, a.1, b.enough) })))
    (λ g h. end_ok x.0 x.2 h (λ z k.
    subst (λ p. NestedIn limits d n t p) k
    (record { of = record { left = a.0.front; right = []; first = a.0.of; second = refl; cut = a.0.cut ∙ ap (λ l. a.0.front ++ l) z }; enough = omega (arith, a.1) }))))

-- ---- a text is read

-- the first step of a text is read, and the rest of it is the text of the others
pub record FirstStep (limits : Bounds) (s : Step) (p : Pipe) (d n : ℕ) (t r : List ℕ) : Type 0 where
  pub left : ℕ
  pub others : List ℕ
  pub read : step limits d n t ≡ Some (s, left, others ++ r)
  pub of : rest_text limits p d others
  pub enough : step_count p ≤ left
  pub less : left < n

first_reads : (limits : Bounds) (s : Step) (p : Pipe) (d n : ℕ) (a t r : List ℕ) → Text limits (Pipe.Then s p) d a → t ≡ a ++ r → stops goes_on_name r ≡ true → step_count (Pipe.Then s p) ≤ n → FirstStep limits s p d n t r
unfolding Text step_count
first_reads limits s p d n a t r h c e l =
    let k = n - suc (inner_count s) in
    let i : n ≡ suc (inner_count s) + k = omega arith in
    let j : t ≡ h.left ++ (h.right ++ r) = c ∙ recut h.left h.right r h.cut in
    record {
      left = k;
      others = h.right;
      read = ap (λ x. step limits d x t) i ∙ ap (λ x. step limits d (suc (inner_count s) + k) x) j ∙ step_reads limits s d k h.left (h.right ++ r) h.first (rest_stops limits p d h.right r h.second e);
      of = h.second;
      enough = omega arith;
      less = omega arith;
    }

-- one turn of the reading
whole_turn : (limits : Bounds) (d f n : ℕ) (t : List ℕ) (s : Step) (k : ℕ) (r : List ℕ) → step limits d n t ≡ Some (s, k, 47 ∷ r) → whole_at (step limits d) (suc f) n t ≡ whole_more s (whole_at (step limits d) f k r)
unfolding whole_at
whole_turn limits d f n t s k r h = rw (h, after_front 47 r) refl

whole_last : (limits : Bounds) (d f n : ℕ) (t : List ℕ) (s : Step) (k : ℕ) → step limits d n t ≡ Some (s, k, []) → whole_at (step limits d) (suc f) n t ≡ Ok (Pipe.Then s Pipe.End)
unfolding whole_at after
whole_last limits d f n t s k h = rw h refl

pub whole_only : (limits : Bounds) (p : Pipe) (d f n : ℕ) (t : List ℕ) → Text limits p d t → step_count p ≤ n → n ≤ f → whole_at (step limits d) f n t ≡ Ok p
unfolding Text rest_text
whole_only limits Pipe.End d f n t h l m = absurd h
whole_only limits (Pipe.Then s p) d zero n t h l m =
    let a = first_reads limits s p d n t t [] h (sym (append-nil t)) refl l in
    absurd (omega (arith, a.less))
whole_only limits (Pipe.Then s Pipe.End) d (suc f) n t h l m =
    let a = first_reads limits s Pipe.End d n t t [] h (sym (append-nil t)) refl l in
    whole_last limits d f n t s a.left (a.read ∙ ap (λ x. Some (s, a.left, x ++ [])) a.of)
whole_only limits (Pipe.Then s (Pipe.Then q p)) d (suc f) n t h l m =
    let a = first_reads limits s (Pipe.Then q p) d n t t [] h (sym (append-nil t)) refl l in
    let c : a.others ++ [] ≡ 47 ∷ a.of.right = append-nil a.others ∙ a.of.cut ∙ ap (λ x. x ++ a.of.right) a.of.first in
    whole_turn limits d f n t s a.left a.of.right (a.read ∙ ap (λ x. Some (s, a.left, x)) c)
    ∙ ap (whole_more s) (whole_only limits (Pipe.Then q p) d f a.left a.of.right a.of.second a.enough (omega (arith, a.less)))

-- ---- where a text stops being one

one_suc : 1 ≡ suc 0
one_suc = refl

ok_err : {P : Type 0} {p : Pipe} {k : ℕ} → ◌≡◌ {A = Result Pipe ℕ} (Ok p) (Err k) → P
ok_err e = absurd cc

ok_is : {p q : Pipe} → ◌≡◌ {A = Result Pipe ℕ} (Ok p) (Ok q) → p ≡ q
ok_is e = cc

-- a step and a slash before steps that begin a text
begins_more : (limits : Bounds) (d n : ℕ) (t : List ℕ) (s : Step) (m : ℕ) (r u : List ℕ) → step_text limits s d u → t ≡ u ++ (47 ∷ r) → suc (inner_count s) + m ≤ n → (j : ℕ) → BeginsIn limits d m r j → BeginsIn limits d n t (suc j)
unfolding Text rest_text step_count
begins_more limits d n t s m r u h c l zero b = record {
  pipe = Pipe.Then s Pipe.End;
  front = u;
  rest = r;
  of = record { of = record { left = u; right = []; first = h; second = refl; cut = sym (append-nil u) }; enough = omega arith };
  long = refl;
  cut = c;
}
begins_more limits d n t s m r u h c l (suc j) b = record {
  pipe = Pipe.Then s b.pipe;
  front = u ++ (47 ∷ b.front);
  rest = b.rest;
  of = record { of = record { left = u; right = 47 ∷ b.front; first = h; second = rest_of_text limits b.pipe d b.front b.of.of; cut = refl }; enough = omega (arith, b.of.enough) };
  long = ap suc b.long;
  cut = c ∙ ap (λ x. u ++ (47 ∷ x)) b.cut ∙ sym (append_assoc u (47 ∷ b.front) (47 ∷ b.rest));
}

pub whole_begins : (limits : Bounds) (d f n : ℕ) (t : List ℕ) {k : ℕ} → whole_at (step limits d) f n t ≡ Err k → (j : ℕ) × (k ≡ suc j) × BeginsIn limits d n t j
unfolding whole_at
whole_begins limits d zero n t {k} h = (0, let e : 1 ≡ k = cc in sym e ∙ one_suc, tt)
whole_begins limits d (suc f) n t {k} h =
    step_then (step limits d n t) _ h (λ e i. (0, let e : 1 ≡ k = cc in sym e ∙ one_suc, tt)) (λ x e h.
    let a = steps_found limits d n t x e in
    branch_then (after 47 x.2) _ _ h
    (λ s g h. more_err x.0 _ h (λ i j z.
    let b = whole_begins limits d f x.1 s j in
    let c : t ≡ a.0.front ++ (47 ∷ s) = a.0.cut ∙ ap (λ l. a.0.front ++ l) (after_is 47 x.2 g) in
    (suc b.0, sym z ∙ ap suc b.1, begins_more limits d n t x.0 x.1 s a.0.front a.0.of c (omega (arith, a.1)) b.0 b.2)))
    (λ g h. end_err x.0 x.2 h (λ e. (0, sym e ∙ one_suc, tt))))

pub whole_most : (limits : Bounds) (p : Pipe) (d f n : ℕ) (t a r : List ℕ) {k : ℕ} → Text limits p d a → step_count p ≤ n → t ≡ a ++ (47 ∷ r) → n ≤ f → whole_at (step limits d) f n t ≡ Err k → suc (length_of p) ≤ k
unfolding Text rest_text
whole_most limits Pipe.End d f n t a r h l c m e = absurd h
whole_most limits (Pipe.Then s p) d zero n t a r h l c m e =
    let b = first_reads limits s p d n a t (47 ∷ r) h c refl l in
    absurd (omega (arith, b.less))
whole_most limits (Pipe.Then s Pipe.End) d (suc f) n t a r h l c m e =
    let b = first_reads limits s Pipe.End d n a t (47 ∷ r) h c refl l in
    more_err s (whole_at (step limits d) f b.left r) (sym (whole_turn limits d f n t s b.left r (b.read ∙ ap (λ x. Some (s, b.left, x ++ (47 ∷ r))) b.of)) ∙ e) (λ i j z.
    let g = whole_begins limits d f b.left r j in
    omega (arith, g.1, z))
whole_most limits (Pipe.Then s (Pipe.Then q p)) d (suc f) n t a r h l c m e =
    let b = first_reads limits s (Pipe.Then q p) d n a t (47 ∷ r) h c refl l in
    let x = b.of.right in
    let y : b.others ++ (47 ∷ r) ≡ 47 ∷ (x ++ (47 ∷ r)) = recut b.of.left x (47 ∷ r) b.of.cut ∙ ap (λ w. w ++ (x ++ (47 ∷ r))) b.of.first in
    more_err s (whole_at (step limits d) f b.left (x ++ (47 ∷ r))) (sym (whole_turn limits d f n t s b.left (x ++ (47 ∷ r)) (b.read ∙ ap (λ w. Some (s, b.left, w)) y)) ∙ e) (λ i j z.
    let g = whole_most limits (Pipe.Then q p) d f b.left (x ++ (47 ∷ r)) x r b.of.second b.enough refl (omega (arith, b.less)) j in
    omega (arith, g, z))

-- ---- the laws

pub pipeline_found : (limits : Bounds) (d n : ℕ) (t : List ℕ) (p : Pipe) → pipeline_at limits d n t ≡ Ok p → NestedIn limits d n t p
unfolding pipeline_at
pipeline_found limits d n t p h = whole_found limits d n n t h

pub pipeline_only : (limits : Bounds) (d n : ℕ) (t : List ℕ) (p : Pipe) → NestedIn limits d n t p → pipeline_at limits d n t ≡ Ok p
unfolding pipeline_at
pipeline_only limits d n t p h = whole_only limits p d n n t h.of h.enough (omega arith)

most_begun : (limits : Bounds) (d n : ℕ) (t : List ℕ) (k : ℕ) → pipeline_at limits d n t ≡ Err k → (j : ℕ) → BeginsIn limits d n t j → j ≤ k - 1
unfolding pipeline_at
most_begun limits d n t k h zero g = omega arith
most_begun limits d n t k h (suc j) g = omega (arith, whole_most limits g.pipe d n n t g.front g.rest g.of.of g.of.enough g.cut (omega arith) h, g.long)

pub pipeline_stops : (limits : Bounds) (d n : ℕ) (t : List ℕ) (k : ℕ) → pipeline_at limits d n t ≡ Err k → IsStop limits d n t k
unfolding pipeline_at
pipeline_stops limits d n t k h =
    let b = whole_begins limits d n n t h in
    let e : b.0 ≡ k - 1 = omega (arith, b.1) in
    record {
      none = λ p g. ok_err (sym (pipeline_only limits d n t p g) ∙ h);
      some = omega (arith, b.1);
      begins = subst (BeginsIn limits d n t) e b.2;
      most = λ j g. most_begun limits d n t k h j g;
    }

-- a text has at most one pipeline
pub one_pipe : (limits : Bounds) (d n : ℕ) (t : List ℕ) (p q : Pipe) → NestedIn limits d n t p → NestedIn limits d n t q → p ≡ q
one_pipe limits d n t p q h k = ok_is (sym (pipeline_only limits d n t p h) ∙ pipeline_only limits d n t q k)
