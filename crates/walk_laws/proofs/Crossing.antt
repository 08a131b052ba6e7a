-- A filter that crosses a concatenation: the pipeline in which it stands at the front of all branches has the walk of the one in which it stands behind, and it comes out of all branches there.
use Rattle.std.proofs.Common.{◌≡◌, refl, sym, ◌∙◌, ap, subst, Bool, true, false, ◌&&◌, ◌||◌, List, [], ◌∷◌, ◌++◌, Option, Some, None, map, if◌then◌else◌}
use Rattle.std.specs.Prelude.{option_and_then}
use Rattle.std.specs.Bool.{then_some}
use Rattle.std.specs.List.{list_all}
use Rattle.std.proofs.lemmas.Bool.{and_from, and_parts, or_right}
use Rattle.std.proofs.lemmas.List.{append_assoc}
use Rattle.edm_values.specs.Lists.{all_some, is_some_and}
use Rattle.edm_values.specs.Literals.{is_boolean_kind}
use Rattle.edm_values.proofs.EachLemmas.{all_some-head, all_some-tail}
use Rattle.edm_values.proofs.OptionFacts.{chained, if_else-parts}
use Rattle.edm_model.specs.Models.{Model}
use Rattle.apply_ast.specs.Trees.{Expr, Pipe, Pipes, Step, is_long, pipe, steps}
use Rattle.apply_ast.specs.declared.expressions.BinOp.TheVariants as BinOp
use Rattle.context_typing.specs.Shapes.{Shape}
use Rattle.context_typing.specs.Typing.{Customs, after, branch_shapes, concat_shape, has_kind, is_sure, step_shape, steps_shape}
use Rattle.context_typing.proofs.WalkFacts.{pipe-steps, shape-append}
use Rattle.rewrite_laws.specs.RewriteLaws.{IsTypedFrom}
use Rattle.rewrite_laws.specs.Rewrites.{branches, pipe_or_identity}
use Rattle.rewrite_laws.specs.TreeEquality.{step_same}
use Rattle.rewrite_laws.proofs.EachPlace.{typed_first}
use Rattle.rewrite_laws.proofs.FactorRule.{rest-shapes, rests}
use Rattle.rewrite_laws.proofs.RuleLemmas.{after-filter}
use Rattle.rewrite_laws.proofs.SameTrees.{Begin}
use Rattle.walk_laws.specs.Apart.{step_apart}
use Rattle.walk_laws.specs.Crossing.{branch_crossed, crosses, is_sure_test, step_crossed, sure_test}
use Rattle.walk_laws.specs.Factored.{is_one}
use Rattle.walk_laws.specs.FiltersOut.{gives_alone, may_give, stays_behind}
use Rattle.walk_laws.specs.WalkLaws.{CrossingKeepsPlan, IsRound}
use Rattle.walk_laws.specs.Walks.{All, Segment, Test, front, judged, parts, put_filter, put_filters, put_step, put_steps, put_test, put_tests, segment, segment_passed, settled_branches, settled_step, shape_behind, step_enters, taken, taken_as, walk, whole}
use Rattle.walk_laws.proofs.ApartSteps.{never-filter}
use Rattle.walk_laws.proofs.GivenPlaces.{behind-same, concat-put, concat_with, enters-same, put-concat}
use Rattle.walk_laws.proofs.OutKeeps.{Fronts, spliced-gives, typed-behind}
use Rattle.walk_laws.proofs.OutPlaces.{Out, spliced}
use Rattle.walk_laws.proofs.OutPlan.{out-round}
use Rattle.walk_laws.proofs.OutWalk.{put-append}
use Rattle.walk_laws.proofs.SameItself.{step-self}
use Rattle.walk_laws.proofs.StayRules.{stay-filter}
use Rattle.walk_laws.proofs.WalkPlaces.{behind-typed}
use Rattle.walk_laws.proofs.WalkPuts.{one-filter, shape-ended}

-- branches, each with a filter before it
abbrev led : Expr → Pipes → Pipes
led e Pipes.NoPipes = Pipes.NoPipes
led e (Pipes.MorePipes p ps) = Pipes.MorePipes (Pipe.Then (Step.Filter e) p) (led e ps)

-- some branches before others
abbrev many : List Pipe → Pipes → Pipes
many [] ps = ps
many (x ∷ xs) ps = Pipes.MorePipes x (many xs ps)

many-one : (left : List Pipe) (p : Pipe) (ps : Pipes) → spliced left p ps ≡ many left (Pipes.MorePipes p ps)
many-one [] p ps = refl
many-one (x ∷ left) p ps = ap (Pipes.MorePipes x) (many-one left p ps)

many-end : (left : List Pipe) (q : Pipe) (ps : Pipes) → many (left ++ q ∷ []) ps ≡ many left (Pipes.MorePipes q ps)
many-end [] q ps = refl
many-end (x ∷ left) q ps = ap (Pipes.MorePipes x) (many-end left q ps)

long-ahead : (ss : List Step) (s : Step) (zs : List Step) → is_long (pipe (ss ++ s ∷ zs)) ≡ true
long-ahead [] s zs = refl
long-ahead (x ∷ ss) s zs = refl

long-rest : (p : Pipe) → is_long p ≡ true → pipe_or_identity (steps p) ≡ p
long-rest Pipe.End h = cc
long-rest (Pipe.Then s p) h = ap (Pipe.Then s) (pipe-steps p)

led-begin : (e : Expr) (ps : Pipes) → Begin (Step.Filter e) (led e ps) ≡ true
led-begin e Pipes.NoPipes = refl
led-begin e (Pipes.MorePipes p ps) = and_from (step_same (Step.Filter e) (Step.Filter e)) (Begin (Step.Filter e) (led e ps)) (step-self (Step.Filter e)) (led-begin e ps)

-- whether filters stay does not matter where they may be given anywhere
any-flag : (p : Pipe) (a b : Bool) → may_give true a p ≡ may_give true b p
any-flag Pipe.End a b = refl
any-flag (Pipe.Then s p) a b = ap (λ z. (step_apart s || gives_alone true s) && z) (any-flag p (stays_behind a s) (stays_behind b s))

ahead-gives : (ss xs ys : List Step) → ((b : Bool) → may_give true b (pipe xs) ≡ true → may_give true b (pipe ys) ≡ true) → (b : Bool) → may_give true b (pipe (ss ++ xs)) ≡ true → may_give true b (pipe (ss ++ ys)) ≡ true
ahead-gives [] xs ys f b h = f b h
ahead-gives (s ∷ ss) xs ys f b h =
    let t = and_parts (step_apart s || gives_alone true s) (may_give true (stays_behind b s) (pipe (ss ++ xs))) h in
    and_from (step_apart s || gives_alone true s) (may_give true (stays_behind b s) (pipe (ss ++ ys))) t.0 (ahead-gives ss xs ys f (stays_behind b s) t.1)

module _ (m : Model) (c : Customs) where
  -- ---- a sure filter

  whole-part : (R : Shape) (e : Expr) → is_one e ≡ true → parts m R e ≡ e ∷ []
  whole-part R (Expr.Binary BinOp.And a b) h = cc
  whole-part R (Expr.Bool' true) h = cc
  whole-part R (Expr.Bool' false) h = refl
  whole-part R e h = refl

  sure-parts : (R : Shape) (e : Expr) → is_sure_test m R e ≡ true → (has_kind is_boolean_kind m R e ≡ true) × (is_sure m R e ≡ true)
  sure-parts R e h = and_parts (has_kind is_boolean_kind m R e) (is_sure m R e) h

  put-sure : (R : Shape) (e : Expr) (gs : List Segment) → is_one e ≡ true → is_sure_test m R e ≡ true → put_filter m R e gs ≡ put_test (sure_test e) gs
  put-sure R e gs o h = ap (λ l. put_tests (map (judged m R) l) gs) (whole-part R e o) ∙ ap (λ z. put_test (record { expr = e; sure = z }) gs) (sure-parts R e h).1

  filter-typed : (R : Shape) (e : Expr) → has_kind is_boolean_kind m R e ≡ true → step_shape m c R (Step.Filter e) ≡ Some R
  unfolding steps_shape
  filter-typed R e h = ap (λ z. then_some z R) h

  -- ---- past the steps of a branch

  passed-on : (g : Segment) (t : Test) (gs : List Segment) → segment_passed g t ≡ true → put_test t (g ∷ gs) ≡ g ∷ put_test t gs
  passed-on g t gs h = ap (λ z. if z then g ∷ put_test t gs else taken g t ∷ gs) h

  past-step : (S : Shape) (s : Step) (e : Expr) (gs : List Segment) → step_crossed m c S s e ≡ true → put_test (sure_test e) (put_step All m c S s (settled_step All m c S s) gs) ≡ put_step All m c S s (settled_step All m c S s) (put_test (sure_test e) gs)
  past-step S Step.Identity e gs h = refl
  past-step S (Step.Filter x) e gs h = cc
  past-step S (Step.Aggregate as') e gs h = cc
  past-step S (Step.TopBy t) e gs h = cc
  past-step S s e gs h = passed-on (segment All m c S s (settled_step All m c S s)) (sure_test e) gs h

  past-branch : (p : Pipe) (S : Shape) (e : Expr) (gs : List Segment) → branch_crossed m c S p e ≡ true → put_test (sure_test e) (put_steps All m c S p gs) ≡ put_steps All m c S p (put_test (sure_test e) gs)
  unfolding put_steps
  past-branch Pipe.End S e gs h = refl
  past-branch (Pipe.Then s p) S e gs h =
      let t = and_parts (step_crossed m c S s e) (branch_crossed m c (after m c S s) p e) h in
      past-branch p (after m c S s) e (put_step All m c S s (settled_step All m c S s) gs) t.1 ∙ ap (put_steps All m c (after m c S s) p) (past-step S s e gs t.0)

  end-sure : (p : Pipe) (S : Shape) (e : Expr) → branch_crossed m c S p e ≡ true → is_sure_test m (shape_behind m c S p) e ≡ true
  end-sure Pipe.End S e h = h
  end-sure (Pipe.Then s p) S e h = end-sure p (after m c S s) e (and_parts (step_crossed m c S s e) (branch_crossed m c (after m c S s) p e) h).1

  -- ---- branches

  abbrev All-crossed : Shape → Expr → Pipes → Bool
  All-crossed S e ps = list_all (λ p. branch_crossed m c S p e) (branches ps)

  led-settled : (S : Shape) (e : Expr) → is_one e ≡ true → is_sure_test m S e ≡ true → (ps : Pipes) → All-crossed S e ps ≡ true → (es : List Expr) → settled_branches All m c S ps (e ∷ es) ≡ settled_branches All m c S (led e ps) es
  unfolding put_steps
  led-settled S e o k Pipes.NoPipes h es = refl
  led-settled S e o k (Pipes.MorePipes p ps) h es =
      let t = and_parts (branch_crossed m c S p e) (All-crossed S e ps) h in
      let R = shape_behind m c S p in
      let put : put_filter m R e (put_steps All m c S p front) ≡ put_steps All m c S (Pipe.Then (Step.Filter e) p) front =
      put-sure R e (put_steps All m c S p front) o (end-sure p S e t.0) ∙ past-branch p S e front t.0 ∙ ap (put_steps All m c S p) (sym (put-sure S e front o k)) ∙ sym (one-filter All m c S e p front) in
      let behind : R ≡ shape_behind m c S (Pipe.Then (Step.Filter e) p) = sym (ap (λ Z. shape_behind m c Z p) (after-filter m c S e)) in
      λ i. Pipes.MorePipes (whole (put_filters m (behind i) es (put i))) (led-settled S e o k ps t.1 es i)

  led-rests : (T : Shape) (e : Expr) (ps : Pipes) (Ss : List Shape) → all_some (branch_shapes m c T ps) ≡ Some Ss → rests (led e ps) ≡ ps
  unfolding steps_shape
  led-rests T e Pipes.NoPipes Ss h = refl
  led-rests T e (Pipes.MorePipes p ps) Ss h =
      let t = all_some-head (if is_long p then steps_shape m c T p else None) (branch_shapes m c T ps) Ss h in
      let v = if_else-parts (is_long p) (steps_shape m c T p) t.0 t.1 in
      let r = all_some-tail (if is_long p then steps_shape m c T p else None) (branch_shapes m c T ps) Ss h in
      λ i. Pipes.MorePipes (long-rest p v.0 i) (led-rests T e ps r.0 r.1 i)

  abbrev Taken : Shape → Expr → Pipes → Bool
  Taken T e ps = list_all (λ p. is_some_and (λ S'. has_kind is_boolean_kind m S' e) (steps_shape m c T p)) (branches ps)

  all-taken : (T : Shape) (e : Expr) (ps : Pipes) (Ss : List Shape) → all_some (branch_shapes m c T ps) ≡ Some Ss → All-crossed T e ps ≡ true → Taken T e ps ≡ true
  unfolding steps_shape
  all-taken T e Pipes.NoPipes Ss h k = refl
  all-taken T e (Pipes.MorePipes p ps) Ss h k =
      let t = all_some-head (if is_long p then steps_shape m c T p else None) (branch_shapes m c T ps) Ss h in
      let v = if_else-parts (is_long p) (steps_shape m c T p) t.0 t.1 in
      let r = all_some-tail (if is_long p then steps_shape m c T p else None) (branch_shapes m c T ps) Ss h in
      let x = and_parts (branch_crossed m c T p e) (All-crossed T e ps) k in
      let one : is_some_and (λ S'. has_kind is_boolean_kind m S' e) (steps_shape m c T p) ≡ true =
      ap (is_some_and (λ S'. has_kind is_boolean_kind m S' e)) v.1 ∙ ap (λ Z. has_kind is_boolean_kind m Z e) (sym (behind-typed m c T t.0 p v.1)) ∙ (sure-parts (shape_behind m c T p) e (end-sure p T e x.0)).0 in
      and_from (is_some_and (λ S'. has_kind is_boolean_kind m S' e) (steps_shape m c T p)) (Taken T e ps) one (all-taken T e ps r.0 r.1 x.1)

  -- they give nothing but filters, as before
  filter-fronts : (e : Expr) (p : Pipe) → Fronts m c p (Pipe.Then (Step.Filter e) p)
  filter-fronts e p = record { bare = λ h. h; front = λ x g h. h; leads = λ x g. refl; give = λ b h. stay-filter true b e p ∙ h; never = λ x l h. never-filter x e p l ∙ h; last = record { ends = λ h. h; kind = λ k h g. g } }

  led-gives : (e : Expr) (ps : Pipes) (left : List Pipe) → gives_alone true (Step.Concat (many left ps)) ≡ true → gives_alone true (Step.Concat (many left (led e ps))) ≡ true
  led-gives e Pipes.NoPipes left h = h
  led-gives e (Pipes.MorePipes p ps) left h =
      let q = Pipe.Then (Step.Filter e) p in
      let G : Pipes → Type 0 = λ x. gives_alone true (Step.Concat x) ≡ true in
      let b : G (spliced left q ps) = spliced-gives m c left p q ps (filter-fronts e p) (subst G (sym (many-one left p ps)) h) in
      subst G (many-end left q (led e ps)) (led-gives e ps (left ++ q ∷ []) (subst G (many-one left q ps ∙ sym (many-end left q ps)) b))

  -- ---- one filter

  one-crossing : (S S' : Shape) (ss : List Step) (p : Pipe) (ps' : Pipes) (e : Expr) (zs : List Step) → IsTypedFrom m c S S' (pipe (ss ++ Step.Concat (Pipes.MorePipes p ps') ∷ Step.Filter e ∷ zs))
      → may_give true true (pipe (ss ++ Step.Concat (Pipes.MorePipes p ps') ∷ Step.Filter e ∷ zs)) ≡ true → gives_alone true (Step.Concat (Pipes.MorePipes p ps')) ≡ true
      → crosses m c (shape_behind m c S (pipe ss)) (Pipes.MorePipes p ps') (Step.Filter e) ≡ true
      → IsRound m c S S' (pipe (ss ++ Step.Concat (Pipes.MorePipes p ps') ∷ Step.Filter e ∷ zs)) (pipe (ss ++ Step.Filter e ∷ Step.Concat (Pipes.MorePipes p ps') ∷ zs))
  unfolding put_steps steps_shape
  one-crossing S S' ss p ps' e zs t g a h = out-round m c S S' (pipe (ss ++ Step.Concat ps ∷ Step.Filter e ∷ zs)) u (pipe (ss ++ Step.Filter e ∷ Step.Concat ps ∷ zs)) t g typed-u gives-u same (0, out)
    where
      ps : Pipes
      ps = Pipes.MorePipes p ps'

      qs : Pipes
      qs = led e ps

      u : Pipe
      u = pipe (ss ++ Step.Concat qs ∷ zs)

      T : Shape
      T = shape_behind m c S (pipe ss)

      V : Shape
      V = after m c T (Step.Concat ps)

      k : ((is_one e && is_sure_test m T e) ≡ true) × (All-crossed T e ps ≡ true)
      k = and_parts (is_one e && is_sure_test m T e) (All-crossed T e ps) h

      o : is_one e ≡ true
      o = (and_parts (is_one e) (is_sure_test m T e) k.0).0

      sure : is_sure_test m T e ≡ true
      sure = (and_parts (is_one e) (is_sure_test m T e) k.0).1

      typed-filter : step_shape m c T (Step.Filter e) ≡ Some T
      typed-filter = filter-typed T e (sure-parts T e sure).0

      at : (steps_shape m c S (pipe ss) ≡ Some T) × (steps_shape m c T (pipe (Step.Concat ps ∷ Step.Filter e ∷ zs)) ≡ Some S')
      at = typed-behind m c ss (Step.Concat ps ∷ Step.Filter e ∷ zs) S S' t.typed.1

      x : (step_shape m c T (Step.Concat ps) ≡ Some V) × (steps_shape m c V (pipe (Step.Filter e ∷ zs)) ≡ Some S')
      x = typed_first m c T S' (Step.Concat ps) (pipe (Step.Filter e ∷ zs)) at.1

      z : steps_shape m c V (pipe zs) ≡ Some S'
      z = ap (λ Z. steps_shape m c Z (pipe zs)) (sym (after-filter m c V e)) ∙ (typed_first m c V S' (Step.Filter e) (pipe zs) x.1).1

      Ss : (Ss : List Shape) × (all_some (branch_shapes m c T ps) ≡ Some Ss) × (concat_shape m Ss ≡ Some V)
      Ss = chained (concat_shape m) (all_some (branch_shapes m c T ps)) V x.0

      r : rests qs ≡ ps
      r = led-rests T e ps Ss.0 Ss.1

      begin : Begin (Step.Filter e) qs ≡ true
      begin = led-begin e ps

      shapes : branch_shapes m c T qs ≡ branch_shapes m c T ps
      shapes = sym (rest-shapes m c T T (Step.Filter e) qs typed-filter begin) ∙ ap (branch_shapes m c T) r

      typed-u : IsTypedFrom m c S S' u
      typed-u = record {
        customs = t.customs;
        lawful = t.lawful;
        typed = (
          long-ahead ss (Step.Concat qs) zs,
          shape-append m c S ss (Step.Concat qs ∷ zs) ∙ ap (option_and_then (λ Z. steps_shape m c Z (pipe (Step.Concat qs ∷ zs)))) at.0
              ∙ ap (option_and_then (λ Z. steps_shape m c Z (pipe zs))) (ap (λ os. option_and_then (concat_shape m) (all_some os)) shapes ∙ x.0) ∙ z,
        );
      }

      gives-u : may_give true true u ≡ true
      gives-u = ahead-gives ss (Step.Concat ps ∷ Step.Filter e ∷ zs) (Step.Concat qs ∷ zs) go true g
        where
          go : (b : Bool) → may_give true b (pipe (Step.Concat ps ∷ Step.Filter e ∷ zs)) ≡ true → may_give true b (pipe (Step.Concat qs ∷ zs)) ≡ true
          go b h =
              let was = Step.Concat ps in
              let now = Step.Concat qs in
              let v = and_parts (step_apart was || gives_alone true was) (may_give true (stays_behind b was) (pipe (Step.Filter e ∷ zs))) h in
              and_from (step_apart now || gives_alone true now) (may_give true (stays_behind b now) (pipe zs)) (or_right (step_apart now) (gives_alone true now) (led-gives e ps [] a))
              (any-flag (pipe zs) (stays_behind b now) (stays_behind b was) ∙ sym (stay-filter true (stays_behind b was) e (pipe zs)) ∙ v.1)

      E : Test → Option Expr
      E = step_enters All m c T (Step.Concat ps)

      K : List Expr → Pipes
      K = settled_branches All m c T ps

      entered-one : (gs : List Segment) → put_filter m V e (concat_with E K [] ∷ gs) ≡ concat_with E (settled_branches All m c T qs) [] ∷ gs
      entered-one gs =
          ap (λ l. put_tests (map (judged m V) l) (concat_with E K [] ∷ gs)) (whole-part V e o)
          ∙ put-concat E K [] (judged m V e) gs
          ∙ ap (λ w. taken_as (concat_with E K []) (judged m V e) w ∷ gs) (ap (λ w. then_some w e) (all-taken T e ps Ss.0 Ss.1 k.1))
          ∙ ap (λ w. concat_with E w [] ∷ gs) (λ i es. led-settled T e o sure ps k.1 es i)

      v : V ≡ after m c T (Step.Concat qs)
      v = ap (λ y. after m c T (Step.Concat y)) (sym r) ∙ behind-same m c T e qs typed-filter begin

      w : E ≡ step_enters All m c T (Step.Concat qs)
      w = ap (λ y. step_enters All m c T (Step.Concat y)) (sym r) ∙ enters-same m c T e qs typed-filter begin

      put-same : (gs : List Segment) → put_steps All m c T (pipe (Step.Concat ps ∷ Step.Filter e ∷ zs)) gs ≡ put_steps All m c T (pipe (Step.Concat qs ∷ zs)) gs
      put-same gs =
          concat-put m c T ps (pipe (Step.Filter e ∷ zs)) gs
          ∙ one-filter All m c V e (pipe zs) (concat_with E K [] ∷ gs)
          ∙ ap (put_steps All m c V (pipe zs)) (entered-one gs)
          ∙ (λ i. put_steps All m c (v i) (pipe zs) (concat_with (w i) (settled_branches All m c T qs) [] ∷ gs))
          ∙ sym (concat-put m c T qs (pipe zs) gs)

      same : walk All m c S (pipe (ss ++ Step.Concat ps ∷ Step.Filter e ∷ zs)) ≡ walk All m c S u
      same = ap whole (put-append m c S ss (Step.Concat ps ∷ Step.Filter e ∷ zs) front ∙ put-same (put_steps All m c S (pipe ss) front) ∙ sym (put-append m c S ss (Step.Concat qs ∷ zs) front))

      out : Out m c S u (pipe (ss ++ Step.Filter e ∷ Step.Concat ps ∷ zs))
      out = record {
        ahead = ss;
        expr = e;
        first = Pipe.Then (Step.Filter e) p;
        others = led e ps';
        behind = zs;
        from = refl;
        into = ap (λ y. pipe (ss ++ Step.Filter e ∷ Step.Concat y ∷ zs)) (sym r);
        begin = begin;
        one = whole-part T e o;
      }

  -- ---- one after the other

  all-crossing : (fs : List Step) (S S' : Shape) (ss : List Step) (p : Pipe) (ps : Pipes) (zs : List Step) → IsTypedFrom m c S S' (pipe (ss ++ Step.Concat (Pipes.MorePipes p ps) ∷ (fs ++ zs)))
      → may_give true true (pipe (ss ++ Step.Concat (Pipes.MorePipes p ps) ∷ (fs ++ zs))) ≡ true → gives_alone true (Step.Concat (Pipes.MorePipes p ps)) ≡ true
      → list_all (crosses m c (shape_behind m c S (pipe ss)) (Pipes.MorePipes p ps)) fs ≡ true
      → IsRound m c S S' (pipe (ss ++ Step.Concat (Pipes.MorePipes p ps) ∷ (fs ++ zs))) (pipe (ss ++ (fs ++ Step.Concat (Pipes.MorePipes p ps) ∷ zs)))
  all-crossing [] S S' ss p ps zs t g a h = record { typed = t; gives = g; plan = λ r k. k }
  all-crossing (Step.Filter e ∷ fs) S S' ss p ps zs t g a h =
      let x = Step.Concat (Pipes.MorePipes p ps) in
      let T = shape_behind m c S (pipe ss) in
      let v = and_parts (crosses m c T (Pipes.MorePipes p ps) (Step.Filter e)) (list_all (crosses m c T (Pipes.MorePipes p ps)) fs) h in
      let one = one-crossing S S' ss p ps e (fs ++ zs) t g a v.0 in
      let ahead = ss ++ Step.Filter e ∷ [] in
      let from : pipe (ahead ++ x ∷ (fs ++ zs)) ≡ pipe (ss ++ Step.Filter e ∷ x ∷ (fs ++ zs)) = ap pipe (append_assoc ss (Step.Filter e ∷ []) (x ∷ (fs ++ zs))) in
      let into : pipe (ahead ++ (fs ++ x ∷ zs)) ≡ pipe (ss ++ Step.Filter e ∷ (fs ++ x ∷ zs)) = ap pipe (append_assoc ss (Step.Filter e ∷ []) (fs ++ x ∷ zs)) in
      let more = all-crossing fs S S' ahead p ps zs (subst (IsTypedFrom m c S S') (sym from) one.typed) (ap (may_give true true) from ∙ one.gives) a (ap (λ Z. list_all (crosses m c Z (Pipes.MorePipes p ps)) fs) (shape-ended All m c S ss e) ∙ v.1) in
      let rest = subst (IsRound m c S S' (pipe (ahead ++ x ∷ (fs ++ zs)))) into more in
      let last = subst (λ y. IsRound m c S S' y (pipe (ss ++ Step.Filter e ∷ (fs ++ x ∷ zs)))) from rest in
      record { typed = last.typed; gives = last.gives; plan = λ r k. one.plan r (last.plan r k) }
  all-crossing (s ∷ fs) S S' ss p ps zs t g a h = cc

pub crossing_keeps_plan : CrossingKeepsPlan
crossing_keeps_plan m c S S' ss (Step.Concat (Pipes.MorePipes p ps)) fs zs t g h =
    let v = and_parts (gives_alone true (Step.Concat (Pipes.MorePipes p ps))) (list_all (crosses m c (shape_behind m c S (pipe ss)) (Pipes.MorePipes p ps)) fs) h in
    all-crossing m c fs S S' ss p ps zs t g v.0 v.1
crossing_keeps_plan m c S S' ss s fs zs t g h = cc
