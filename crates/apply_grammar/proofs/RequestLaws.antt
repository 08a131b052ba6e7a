-- Frames and requests: what is read of a line is what it says, and what a line says is read.
use Rattle.std.proofs.Common.{◌≡◌, ℕ, zero, suc, nat_le, Bool, true, false, cond, List, [], ◌∷◌, ◌++◌, length, IsUtf8, Option, Some, None, Result, Ok, Err, IfOk, refl, sym, ap, subst, ◌∙◌, append_assoc, arith, inl, inr}
use Rattle.std.specs.Prelude.{codes, ◌-◌}
use Rattle.std.specs.Str.{is_utf8}
use Rattle.std.proofs.lemmas.Str.{IsUtf8-from_is_utf8, is_utf8-from_IsUtf8}
use Rattle.percent_encoding.specs.Percent.{percent_decode}
use Rattle.edm_values.specs.Lists.{same_text}
use Rattle.edm_values.specs.Names.{Name, is_name, goes_on_name, begins_name}
use Rattle.apply_ast.specs.Trees.{Pipe, steps}
use Rattle.apply_ast.specs.Grammar.{rws, is_blank}
use Rattle.apply_ast.specs.declared.steps.Request.{Request}
use Rattle.apply_grammar.specs.declared.refusals.GrammarRefused.{GrammarRefused}
use Rattle.apply_grammar.specs.declared.refusals.GrammarRefused.TheVariants as refused
use Rattle.apply_grammar.specs.Frames.{IsFrame, IsFront, IsSlashOrNothing}
use Rattle.apply_grammar.specs.Limits.{most_open, most_steps, TextIn, Begins, IsSyntax, served}
use Rattle.apply_grammar.specs.Requests.{Asked, IsRequest, IsNoRequest, IfSyntax, asked_of}
use Rattle.apply_grammar.specs.Gives.{GivesRequest}
use Rattle.apply_grammar.specs.Reading.{◌>>=◌, branch, run, after, blanks_at, word_behind, name_at}
use Rattle.apply_grammar.specs.PipeReading.{pipeline_at}
use Rattle.apply_grammar.specs.FrameReading.{asked_for, explain_at, without_slash, query_at, frame_at, decoded_at, line_at}
use Rattle.apply_grammar.proofs.Runs.{bind_then, branch_then, cond_then, none_some, blanks_is, blanks_front, after_is, after_front, stops, solid_stops}
use Rattle.apply_grammar.proofs.Leaves.{false_true, name_is, name_front, name_leads, name_parts, leads_after, rws_stop, word_run}
use Rattle.apply_grammar.proofs.ItemLaws.{behind_is, behind_front, name_solid}
use Rattle.apply_grammar.proofs.Balance.{cut_utf8, peel}
use Rattle.std.specs.List.{list_all}
use Rattle.std.proofs.lemmas.Bool.{leb-true, and_parts}
use Rattle.apply_grammar.proofs.PipeDepths.{pipe_tied}
use Rattle.apply_grammar.proofs.PipeWhole.{NestedIn, BeginsIn, IsStop, length_of, pipeline_found, pipeline_only, pipeline_stops}
use Rattle.edm_values.proofs.OptionFacts.{some_value}

-- ---- pipelines

pub text_in : (t : List ℕ) (p : Pipe) → NestedIn served most_open most_steps t p → TextIn t p
text_in t p h = let x = pipe_tied served p in (x.forget most_open t h.of, x.shallow most_open t h.of, h.enough, x.limit most_open t h.of)

pub nested_in : (t : List ℕ) (p : Pipe) → IsUtf8 t → TextIn t p → NestedIn served most_open most_steps t p
nested_in t p u h = let x = pipe_tied served p in record { of = x.deep h.3 most_open t h.0 h.1 (λ e. u); enough = h.2 }

long_as : (p : Pipe) → length_of p ≡ length (steps p)
long_as Pipe.End = refl
long_as (Pipe.Then s p) = ap suc (long_as p)

begins_to : (t : List ℕ) (j : ℕ) → BeginsIn served most_open most_steps t j → Begins t j
begins_to t zero h = tt
begins_to t (suc j) h = (h.front, h.rest, h.pipe, text_in h.front h.pipe h.of, sym (long_as h.pipe) ∙ h.long, h.cut ∙ sym (append_assoc h.front (47 ∷ []) h.rest))

begins_from : (t : List ℕ) (j : ℕ) → IsUtf8 t → Begins t j → BeginsIn served most_open most_steps t j
begins_from t zero u h = tt
begins_from t (suc j) u h =
    let c : t ≡ h.0 ++ (47 ∷ h.1) = h.5 ∙ append_assoc h.0 (47 ∷ []) h.1 in
    let v = cut_utf8 h.0 47 h.1 (omega arith) (subst (λ l. IsUtf8 l) c u) in
    record { pipe = h.2; front = h.0; rest = h.1; of = nested_in h.0 h.2 v.0 h.3; long = long_as h.2 ∙ h.4; cut = c }

pub stop_is : (t : List ℕ) (k : ℕ) → IsUtf8 t → IsStop served most_open most_steps t k → IsSyntax t k
stop_is t k u h = (λ p g. h.none p (nested_in t p u g), h.some, begins_to t (k - 1) h.begins, λ j g. h.most j (begins_from t j u g))

-- ---- frames

query_is : (t : List ℕ) {r : List ℕ} → query_at t ≡ Some r → t ≡ codes "?$apply=" ++ r
unfolding query_at
query_is t {r} h =
    bind_then (after 63 t) _ h (λ q e h. bind_then (after 36 q) _ h (λ s f h. bind_then (word_behind (codes "apply") s) _ h (λ u g k.
    let w = behind_is (codes "apply") s g in
    after_is 63 t e ∙ ap (λ l. 63 ∷ l) (after_is 36 q f ∙ ap (λ l. 36 ∷ l) (w.cut ∙ ap (λ l. l ++ u) w.of ∙ ap (λ l. codes "apply" ++ l) (after_is 61 u k))))))

query_front : (r : List ℕ) → query_at (codes "?$apply=" ++ r) ≡ Some r
unfolding query_at after
query_front r = ap (λ o. o >>= after 61) (behind_front (codes "apply") (61 ∷ r) refl refl)

slash_is : (t : List ℕ) → (slash : List ℕ) × IsSlashOrNothing slash × (t ≡ slash ++ without_slash t)
unfolding without_slash
slash_is t = by (after 47 t) refl
  where
    by : (o : Option (List ℕ)) → after 47 t ≡ o → (slash : List ℕ) × IsSlashOrNothing slash × (t ≡ slash ++ branch o (λ r. r) t)
    by None e = ([], inl refl, refl)
    by (Some r) e = (codes "/", inr refl, after_is 47 t e)

slash_front : (slash s r : List ℕ) → IsSlashOrNothing slash → is_name s ≡ true → without_slash (slash ++ (s ++ r)) ≡ s ++ r
unfolding without_slash
slash_front slash s r (inl e) n = rw (e, leads_after begins_name 47 s r (name_leads s n) refl) refl
slash_front slash s r (inr e) n = rw (e, after_front 47 (s ++ r)) refl

explain_is : (t : List ℕ) {x : Bool × List ℕ} → explain_at t ≡ x → (front : List ℕ) × IsFront x.0 front × (t ≡ front ++ x.1)
unfolding explain_at
explain_is t {x} h =
    branch_then (word_behind (codes "explain") t >>= λ r. blanks_at r) _ _ h
    (λ s e k. bind_then (word_behind (codes "explain") t) _ e (λ r f g.
    let w = behind_is (codes "explain") t f in
    let b = (blanks_is r g).0 in
    subst (λ (x : Bool × List ℕ). (front : List ℕ) × IsFront x.0 front × (t ≡ front ++ x.1)) k
    (codes "explain" ++ b.front, (b.front, b.of, refl), w.cut ∙ ap (λ l. l ++ r) w.of ∙ ap (λ l. codes "explain" ++ l) b.cut)))
    (λ e k. subst (λ (x : Bool × List ℕ). (front : List ℕ) × IsFront x.0 front × (t ≡ front ++ x.1)) k ([], refl, refl))

explained : (blanks p : List ℕ) → rws blanks → stops is_blank p ≡ true → explain_at (codes "explain" ++ (blanks ++ p)) ≡ (true, p)
unfolding explain_at
explained b p h s = rw (behind_front (codes "explain") (b ++ p) refl (rws_stop b p h), blanks_front b p h s) refl

no_blank : (c : Bool) (r : List ℕ) → (cond c (Some (63 ∷ r)) None >>= blanks_at) ≡ None
unfolding blanks_at
no_blank true r = refl
no_blank false r = refl

name_no_word : (s r : List ℕ) → list_all goes_on_name s ≡ true → (word_behind (codes "explain") (s ++ (codes "?$apply=" ++ r)) >>= λ r. blanks_at r) ≡ None
unfolding word_behind
name_no_word s r h = rw (word_run s (codes "?$apply=" ++ r) h refl) (no_blank (same_text s (codes "explain")) (codes "$apply=" ++ r))

slash_no_word : (x : List ℕ) → (word_behind (codes "explain") (47 ∷ x) >>= λ r. blanks_at r) ≡ None
unfolding word_behind run
slash_no_word x = refl

not_explained : (slash s r : List ℕ) → IsSlashOrNothing slash → is_name s ≡ true → explain_at (slash ++ (s ++ (codes "?$apply=" ++ r))) ≡ (false, slash ++ (s ++ (codes "?$apply=" ++ r)))
unfolding explain_at
not_explained slash s r (inl e) n =
    let q = name_parts s n in
    rw (e, name_no_word s r q.passes) refl
not_explained slash s r (inr e) n = rw (e, slash_no_word (s ++ (codes "?$apply=" ++ r))) refl

path_front : (slash s r : List ℕ) → IsSlashOrNothing slash → is_name s ≡ true → stops is_blank (slash ++ (s ++ r)) ≡ true
path_front slash s r (inl e) n = rw e (solid_stops s r (name_solid s n))
path_front slash s r (inr e) n = rw e refl

pub frame_found : (line : List ℕ) {x : Bool × Name × List ℕ} → IsUtf8 (percent_decode line) → frame_at (percent_decode line) ≡ Some x → IsFrame line x.0 x.1 x.2
unfolding frame_at
frame_found line u h =
    let t = percent_decode line in
    let e = explain_is t refl in
    let s = slash_is (explain_at t).1 in
    bind_then (name_at (without_slash (explain_at t).1)) _ h (λ n f h. bind_then (query_at n.1) _ h (λ q g k.
    let m = (name_is (without_slash (explain_at t).1) f).0 in
    let o = m.of in
    subst (λ (x : Bool × Name × List ℕ). IsFrame line x.0 x.1 x.2) (some_value k)
    (record {
      utf8 = u;
      name = o.0;
      front = e.0;
      is_front = e.1;
      slash = s.0;
      is_slash = s.1;
      parts = e.2 ∙ ap (λ l. e.0 ++ l) (s.2 ∙ ap (λ l. s.0 ++ l) (m.cut ∙ ap (λ l. l ++ n.1) o.1 ∙ ap (λ l. n.0 ++ l) (query_is n.1 g))) ∙ simp append_assoc;
    })))

frame_parts : (line : List ℕ) (e : Bool) (s x : List ℕ) (f : IsFrame line e s x) → percent_decode line ≡ f.front ++ (f.slash ++ (s ++ (codes "?$apply=" ++ x)))
frame_parts line e s x f = f.parts ∙ simp append_assoc

frame_rest : (t : List ℕ) (e : Bool) (slash s x : List ℕ) → IsSlashOrNothing slash → is_name s ≡ true → explain_at t ≡ (e, slash ++ (s ++ (codes "?$apply=" ++ x))) → frame_at t ≡ Some (e, s, x)
unfolding frame_at
frame_rest t e slash s x i n h =
    rw (h, slash_front slash s (codes "?$apply=" ++ x) i n, name_front s (codes "?$apply=" ++ x) n refl, query_front x) refl

pub frame_read : (line : List ℕ) (e : Bool) (s x : List ℕ) → IsFrame line e s x → frame_at (percent_decode line) ≡ Some (e, s, x)
frame_read line false s x f =
    let p = frame_parts line false s x f ∙ ap (λ l. l ++ (f.slash ++ (s ++ (codes "?$apply=" ++ x)))) f.is_front in
    frame_rest (percent_decode line) false f.slash s x f.is_slash f.name (ap explain_at p ∙ not_explained f.slash s x f.is_slash f.name)
frame_read line true s x f =
    let b = f.is_front.0 in
    let y = f.slash ++ (s ++ (codes "?$apply=" ++ x)) in
    let p : percent_decode line ≡ codes "explain" ++ (b ++ y) = frame_parts line true s x f ∙ ap (λ l. l ++ y) f.is_front.2 ∙ append_assoc (codes "explain") b y in
    frame_rest (percent_decode line) true f.slash s x f.is_slash f.name (ap explain_at p ∙ explained b y f.is_front.1 (path_front f.slash s (codes "?$apply=" ++ x) f.is_slash f.name))

word_off : (w x : List ℕ) → list_all (λ b. nat_le b 127) w ≡ true → IsUtf8 (w ++ x) → IsUtf8 x
word_off [] x h u = u
word_off (b ∷ w) x h u = let q = and_parts (nat_le b 127) (list_all (λ b. nat_le b 127) w) h in word_off w x q.1 (peel b (w ++ x) (omega (arith, leb-true b 127 q.0)) u)

-- the text of a frame is UTF-8
frame_text : (line : List ℕ) (e : Bool) (s x : List ℕ) → IsFrame line e s x → IsUtf8 x
frame_text line e s x f =
    let p : percent_decode line ≡ ((f.front ++ (f.slash ++ s)) ++ (63 ∷ (codes "$apply=" ++ x))) = frame_parts line e s x f ∙ simp append_assoc in
    let a = cut_utf8 (f.front ++ (f.slash ++ s)) 63 (codes "$apply=" ++ x) (omega arith) (subst (λ l. IsUtf8 l) p f.utf8) in
    word_off (codes "?$apply=") x refl a.1

-- ---- lines

asked_then : {P : Type 0} (e : Bool) (s : Name) (r : Result Pipe ℕ) {y : Result Asked ℕ} → asked_for e s r ≡ y → ((p : Pipe) → r ≡ Ok p → Ok (e, s, p) ≡ y → P) → ((k : ℕ) → r ≡ Err k → Err k ≡ y → P) → P
asked_then e s (Ok p) h f g = f p refl h
asked_then e s (Err k) h f g = g k refl h

utf8_then : {P : Type 0} (line : List ℕ) {y : Result Asked ℕ} → line_at line ≡ y → (IsUtf8 (percent_decode line) → decoded_at (percent_decode line) ≡ y → P) → ((IsUtf8 (percent_decode line) → ⊥) → Err 0 ≡ y → P) → P
unfolding line_at
utf8_then line h f g = cond_then (is_utf8 (percent_decode line)) _ _ h (λ e k. f (IsUtf8-from_is_utf8 (percent_decode line) e) k) (λ e k. g (λ u. false_true (sym e ∙ is_utf8-from_IsUtf8 (percent_decode line) u)) k)

-- what is read of a line is a request that it is
pub line_found : (line : List ℕ) (x : Asked) → line_at line ≡ Ok x → IsRequest line x
unfolding decoded_at
line_found line x h =
    utf8_then line h
    (λ u h. branch_then (frame_at (percent_decode line)) _ _ h
    (λ f e h. asked_then f.0 f.1 (pipeline_at served most_open most_steps f.2) h
    (λ p g k.
    subst (λ x. IsRequest line x) (ok_then k)
    (record { text = f.2; frame = frame_found line u e; within = text_in f.2 p (pipeline_found served most_open most_steps f.2 p g) }))
    (λ k g i. absurd cc))
    (λ e k. absurd cc))
    (λ n k. absurd cc)
  where
    ok_then : {a b : Asked} → ◌≡◌ {A = Result Asked ℕ} (Ok a) (Ok b) → a ≡ b
    ok_then e = cc

-- a request that a line is is read
pub line_only : (line : List ℕ) (x : Asked) → IsRequest line x → line_at line ≡ Ok x
unfolding line_at decoded_at
line_only line x h =
    let f = h.frame in
    let u = frame_text line x.0 x.1 h.text f in
    rw (is_utf8-from_IsUtf8 (percent_decode line) f.utf8, frame_read line x.0 x.1 h.text f, pipeline_only served most_open most_steps h.text x.2 (nested_in h.text x.2 u h.within)) refl

-- where a line stops being a request
pub line_stops : (line : List ℕ) (k : ℕ) → line_at line ≡ Err k → IsNoRequest line k
unfolding decoded_at
line_stops line k h =
    utf8_then line h
    (λ u h. branch_then (frame_at (percent_decode line)) _ _ h
    (λ f e h. asked_then f.0 f.1 (pipeline_at served most_open most_steps f.2) h
    (λ p g i. absurd cc)
    (λ j g i.
    let fr = frame_found line u e in
    let s = stop_is f.2 j (frame_text line f.0 f.1 f.2 fr) (pipeline_stops served most_open most_steps f.2 j g) in
    subst (IsNoRequest line) (err_is i) (stopped line f.0 f.1 f.2 j fr s)))
    (λ e i. subst (IsNoRequest line) (err_is i) (λ x s t g. none_some e (frame_read line x s t g))))
    (λ n i. subst (IsNoRequest line) (err_is i) (λ x s t g. n g.utf8))
  where
    err_is : {a b : ℕ} → ◌≡◌ {A = Result Asked ℕ} (Err a) (Err b) → a ≡ b
    err_is e = cc

    stopped : (line : List ℕ) (e : Bool) (s t : List ℕ) (j : ℕ) → IsFrame line e s t → IsSyntax t j → IsNoRequest line j
    stopped line e s t zero f h = absurd (omega (arith, h.1))
    stopped line e s t (suc j) f h = (e, s, t, f, h)

pub request_found : (line : List ℕ) (r : Result Request GrammarRefused) → GivesRequest r (line_at line) → IfOk r (λ x. IsRequest line (asked_of x))
request_found line (Ok x) h = line_found line (asked_of x) h
request_found line (Err e) h = tt

pub request_stops : (line : List ℕ) (r : Result Request GrammarRefused) → GivesRequest r (line_at line) → IfSyntax r (IsNoRequest line)
request_stops line (Ok x) h = tt
request_stops line (Err refused.TooLong) h = tt
request_stops line (Err (refused.Syntax k)) h = line_stops line k h
request_stops line (Err refused.Memory) h = tt
