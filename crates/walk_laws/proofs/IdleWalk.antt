-- Where a filter comes out in what chooses the start nodes of a climb, it comes out in what is left of this without the idle steps at its end.
use Rattle.std.proofs.Common.{◌≡◌, refl, sym, ◌∙◌, ap, subst, ℕ, zero, suc, Bool, true, false, not, ◌&&◌, ◌||◌, List, [], ◌∷◌, ◌++◌, Option, Some, None, IsTrue, map, inl, inr, if◌then◌else◌}
use Rattle.std.specs.Prelude.{option_to_list}
use Rattle.std.proofs.lemmas.Bool.{true≢false}
use Rattle.edm_values.specs.Lists.{is_nonempty}
use Rattle.edm_values.specs.Names.{Path}
use Rattle.edm_model.specs.Models.{Model}
use Rattle.apply_ast.specs.Trees.{Pipe, Pipes, Step, is_long, pipe, steps}
use Rattle.context_typing.specs.Shapes.{Shape}
use Rattle.context_typing.specs.Typing.{Customs, customs_typed, is_lawful, steps_shape}
use Rattle.context_typing.proofs.WalkFacts.{pipe-steps, steps-pipe}
use Rattle.rewrite_laws.specs.RewriteLaws.{IsTypedFrom}
use Rattle.rewrite_laws.specs.Rewrites.{pipe_or_identity, pipe_results}
use Rattle.rewrite_laws.proofs.FactorRule.{rests}
use Rattle.walk_laws.specs.Walks.{All, Segment, Test, all_steps, front, head_of, is_beside, is_order, put_steps, segment, settled_step, shape_behind, walk, whole, without_idle}
use Rattle.walk_laws.proofs.Holes.{Hole, filled}
use Rattle.walk_laws.proofs.OutKeeps.{deep-typed, in-none, typed-behind}
use Rattle.walk_laws.proofs.OutPlaces.{Deep, deep-made, spliced}
use Rattle.walk_laws.proofs.OutWalk.{again, behind-more, behind-two, put-append}
use Rattle.walk_laws.proofs.WalkPlaces.{behind-typed}

-- ---- steps that may be idle

-- an order, or a computation
abbrev may_end : Step → Bool
may_end (Step.OrderBy items) = true
may_end (Step.Compute ns) = true
may_end s = false

abbrev is_idle_segment : Path → Segment → Bool
is_idle_segment p g = not (is_nonempty g.tests) && ((g.lets && is_order (head_of g)) || is_beside p (head_of g))

-- the step of an idle segment
record IdleHead (o : Option Step) (ts : List Test) : Type 0 where
  step : Step
  head : o ≡ Some step
  tests : ts ≡ []
  ends : may_end step ≡ true

idle-head : (p : Path) (l : Bool) (o : Option Step) (ts : List Test) → (not (is_nonempty ts) && ((l && is_order o) || is_beside p o)) ≡ true → IdleHead o ts
idle-head p l o (t ∷ ts) h = absurd (true≢false (sym h))
idle-head p true None [] h = absurd (true≢false (sym h))
idle-head p false None [] h = absurd (true≢false (sym h))
idle-head p l (Some (Step.OrderBy items)) [] h = record { step = Step.OrderBy items; head = refl; tests = refl; ends = refl }
idle-head p l (Some (Step.Compute ns)) [] h = record { step = Step.Compute ns; head = refl; tests = refl; ends = refl }
idle-head p true (Some s) [] h = absurd (true≢false (sym h))
idle-head p false (Some s) [] h = absurd (true≢false (sym h))

hole-ends : (h : Hole) (p : Pipe) → may_end (filled h p) ≡ false
hole-ends (Hole.Related outer n a v) p = refl
hole-ends (Hole.Grouped ks) p = refl
hole-ends (Hole.Chosen left h x f right T) p = refl
hole-ends (Hole.Climbed up h x d keep) p = refl

-- ---- lists

abbrev head_or : {X : Type 0} → X → List X → X
head_or d [] = d
head_or d (x ∷ xs) = x

abbrev tail_of : {X : Type 0} → List X → List X
tail_of [] = []
tail_of (x ∷ xs) = xs

-- a step at the end stands behind another one
record EndsBehind (X ahead behind : List Step) (s C : Step) : Type 0 where
  between : List Step
  whole' : X ≡ ahead ++ C ∷ between
  end : behind ≡ between ++ s ∷ []

ends-behind : (X ahead : List Step) (s C : Step) (behind : List Step) → may_end s ≡ true → may_end C ≡ false → X ++ s ∷ [] ≡ ahead ++ C ∷ behind → EndsBehind X ahead behind s C
ends-behind [] [] s C behind h k e = absurd (true≢false (sym h ∙ ap may_end (ap (head_or s) e) ∙ k))
ends-behind [] (a ∷ []) s C behind h k e = cc
ends-behind [] (a ∷ b ∷ ahead) s C behind h k e = cc
ends-behind (x ∷ X) [] s C behind h k e = record { between = X; whole' = ap (λ y. y ∷ X) (ap (head_or x) e); end = sym (ap tail_of e) }
ends-behind (x ∷ X) (a ∷ ahead) s C behind h k e =
    let t = ends-behind X ahead s C behind h k (ap tail_of e) in
    record { between = t.between; whole' = λ i. head_or x (e i) ∷ t.whole' i; end = t.end }

module _ (m : Model) (c : Customs) where
  -- ---- what comes out, comes out before the step at the end

  -- pipelines in which something comes out have steps
  deep-whole : (n : ℕ) (U : Shape) (l : List Step) (u : Pipe) → Deep m c n U (pipe_or_identity l) u → pipe_or_identity l ≡ pipe l
  unfolding pipe_results
  deep-whole n U [] u o = absurd (in-none u (deep-made m c n U (pipe_or_identity []) u o))
  deep-whole n U (x ∷ l) u o = refl

  deep-put : (n : ℕ) (U : Shape) (l : List Step) (u : Pipe) → Deep m c n U (pipe l) u → (is_long (pipe l) ≡ true) × (pipe_or_identity l ≡ pipe l)
  unfolding pipe_results
  deep-put n U [] u o = absurd (in-none u (deep-made m c n U (pipe []) u o))
  deep-put n U (x ∷ l) u o = (refl, refl)

  -- what comes out before a step at the end
  record Less (n : ℕ) (U : Shape) (X : List Step) (s : Step) (u : Pipe) : Type 0 where
    less : Pipe
    within : Deep m c n U (pipe X) less
    more : u ≡ pipe (steps less ++ s ∷ [])

  same-steps : (X ahead : List Step) (s C : Step) (behind : List Step) → pipe (X ++ s ∷ []) ≡ pipe (ahead ++ C ∷ behind) → X ++ s ∷ [] ≡ ahead ++ C ∷ behind
  same-steps X ahead s C behind e = sym (steps-pipe (X ++ s ∷ [])) ∙ ap steps e ∙ steps-pipe (ahead ++ C ∷ behind)

  deep-less : (n : ℕ) (U : Shape) (X : List Step) (s : Step) (u : Pipe) → may_end s ≡ true → Deep m c n U (pipe (X ++ s ∷ [])) u → Less n U X s u
  deep-less zero U X s u h o =
      let C = Step.Concat (Pipes.MorePipes o.first o.others) in
      let D = Step.Concat (rests (Pipes.MorePipes o.first o.others)) in
      let t = ends-behind X o.ahead s C o.behind h refl (same-steps X o.ahead s C o.behind o.from) in
      let w = pipe (o.ahead ++ Step.Filter o.expr ∷ D ∷ t.between) in
      record {
        less = w;
        within = record { ahead = o.ahead; expr = o.expr; first = o.first; others = o.others; behind = t.between; from = ap pipe t.whole'; into = refl; begin = o.begin; one = o.one };
        more = o.into ∙ ap (λ l. pipe (o.ahead ++ Step.Filter o.expr ∷ D ∷ l)) t.end ∙ sym (behind-two m c w o.ahead (Step.Filter o.expr) D t.between (s ∷ []) refl);
      }
  deep-less (suc n) U X s u h (inr o) =
      let C = filled o.hole o.was in
      let D = filled o.hole o.now in
      let t = ends-behind X o.ahead s C o.behind h (hole-ends o.hole o.was) (same-steps X o.ahead s C o.behind o.from) in
      let w = pipe (o.ahead ++ D ∷ t.between) in
      record {
        less = w;
        within = inr (record { ahead = o.ahead; hole = o.hole; was = o.was; now = o.now; behind = t.between; there = o.there; from = ap pipe t.whole'; into = refl; within = o.within });
        more = o.into ∙ ap (λ l. pipe (o.ahead ++ D ∷ l)) t.end ∙ sym (behind-more m c w o.ahead D t.between (s ∷ []) refl);
      }
  deep-less (suc n) U X s u h (inl o) =
      let C = Step.Concat (spliced o.left o.was o.right) in
      let D = Step.Concat (spliced o.left o.now o.right) in
      let t = ends-behind X o.ahead s C o.behind h refl (same-steps X o.ahead s C o.behind o.from) in
      let w = pipe (o.ahead ++ D ∷ t.between) in
      record {
        less = w;
        within = inl (record { ahead = o.ahead; left = o.left; was = o.was; now = o.now; right = o.right; behind = t.between; from = ap pipe t.whole'; into = refl; within = o.within });
        more = o.into ∙ ap (λ l. pipe (o.ahead ++ D ∷ l)) t.end ∙ sym (behind-more m c w o.ahead D t.between (s ∷ []) refl);
      }

  -- ---- without the idle steps at the end

  end-put : (S : Shape) (s : Step) (gs : List Segment) → may_end s ≡ true → put_steps All m c S (pipe (s ∷ [])) gs ≡ segment All m c S s (settled_step All m c S s) ∷ gs
  unfolding put_steps
  end-put S (Step.OrderBy items) gs h = refl
  end-put S (Step.Compute ns) gs h = refl
  end-put S s gs h = absurd (true≢false (sym h))

  end-append : (U : Shape) (X : List Step) (s : Step) → may_end s ≡ true
      → put_steps All m c U (pipe (X ++ s ∷ [])) front ≡ segment All m c (shape_behind m c U (pipe X)) s (settled_step All m c (shape_behind m c U (pipe X)) s) ∷ put_steps All m c U (pipe X) front
  end-append U X s h = put-append m c U X (s ∷ []) front ∙ end-put (shape_behind m c U (pipe X)) s (put_steps All m c U (pipe X) front) h

  -- what comes out without them, and is put as what comes out
  record IdleOut (n : ℕ) (path : Path) (U : Shape) (gs : List Segment) (u : Pipe) : Type 0 where
    left : Pipe
    within : Deep m c n U (pipe (all_steps gs)) left
    same : without_idle path (put_steps All m c U left front) ≡ without_idle path (put_steps All m c U u front)

  idle-out : (n : ℕ) (path : Path) (gs : List Segment) (U R : Shape) → IsTrue (customs_typed m c) → IsTrue (is_lawful m U) → put_steps All m c U (pipe (all_steps gs)) front ≡ gs → steps_shape m c U (pipe (all_steps gs)) ≡ Some R → (u : Pipe) → Deep m c n U (pipe (all_steps gs)) u
      → IdleOut n path U (without_idle path gs) u
  idle-out n path [] U R k l e t u o = record { left = u; within = o; same = refl }
  idle-out n path (g ∷ gs) U R k l e t u o = go (λ T a b v d. idle-out n path gs U T k l a b v d) (is_idle_segment path g) refl
    where
      go : ((T : Shape) → put_steps All m c U (pipe (all_steps gs)) front ≡ gs → steps_shape m c U (pipe (all_steps gs)) ≡ Some T → (v : Pipe) → Deep m c n U (pipe (all_steps gs)) v → IdleOut n path U (without_idle path gs) v) → (b : Bool) → is_idle_segment path g ≡ b
          → IdleOut n path U (if b then without_idle path gs else g ∷ gs) u
      go rest false h = record { left = u; within = o; same = refl }
      go rest true h = record { left = more.left; within = more.within; same = more.same ∙ sym link }
        where
          i : IdleHead (head_of g) g.tests
          i = idle-head path g.lets (head_of g) g.tests h

          s : Step
          s = i.step

          X : List Step
          X = all_steps gs

          at : all_steps (g ∷ gs) ≡ X ++ s ∷ []
          at = λ j. X ++ (option_to_list (i.head j) ++ map (λ t. Step.Filter t.expr) (i.tests j))

          T : Shape
          T = shape_behind m c U (pipe X)

          one : Segment
          one = segment All m c T s (settled_step All m c T s)

          put : one ∷ put_steps All m c U (pipe X) front ≡ g ∷ gs
          put = sym (end-append U X s i.ends) ∙ ap (λ l. put_steps All m c U (pipe l) front) (sym at) ∙ e

          typed : (steps_shape m c U (pipe X) ≡ Some T) × (steps_shape m c T (pipe (s ∷ [])) ≡ Some R)
          typed = typed-behind m c X (s ∷ []) U R (ap (λ l. steps_shape m c U (pipe l)) (sym at) ∙ t)

          v : Less n U X s u
          v = deep-less n U X s u i.ends (subst (λ l. Deep m c n U (pipe l) u) at o)

          more : IdleOut n path U (without_idle path gs) v.less
          more = rest T (ap tail_of put) typed.0 v.less v.within

          less-typed : IsTypedFrom m c U T v.less
          less-typed = deep-typed m c n U T (pipe X) v.less (record { customs = k; lawful = l; typed = ((deep-put n U X v.less v.within).0, typed.0) }) v.within

          behind' : shape_behind m c U (pipe (steps v.less)) ≡ T
          behind' = ap (shape_behind m c U) (pipe-steps v.less) ∙ behind-typed m c U T v.less less-typed.typed.1

          is-idle : is_idle_segment path one ≡ true
          is-idle = ap (is_idle_segment path) (ap (head_or g) put) ∙ h

          G : List Segment
          G = put_steps All m c U v.less front

          link : without_idle path (put_steps All m c U u front) ≡ without_idle path G
          link =
              ap (λ p. without_idle path (put_steps All m c U p front)) v.more
              ∙ ap (without_idle path) (end-append U (steps v.less) s i.ends ∙ (λ j. segment All m c (behind' j) s (settled_step All m c (behind' j) s) ∷ put_steps All m c U (pipe-steps v.less j) front))
              ∙ ap (λ b. if b then without_idle path G else one ∷ G) is-idle

  -- of a pipeline that has been walked
  pub idle-walk : (n : ℕ) (path : Path) (U R : Shape) (w now u : Pipe) → IsTypedFrom m c U R w → IsTypedFrom m c U R now → Deep m c n U (walk All m c U w) u → walk All m c U u ≡ walk All m c U now
      → (v : Pipe) × Deep m c n U (whole (without_idle path (put_steps All m c U w front))) v × (whole (without_idle path (put_steps All m c U v front)) ≡ whole (without_idle path (put_steps All m c U now front)))
  idle-walk n path U R w now u t z o e = (i.left, subst (λ p. Deep m c n U p i.left) (sym (deep-put n U (all_steps (without_idle path gs)) i.left i.within).1) i.within, same)
    where
      gs : List Segment
      gs = put_steps All m c U w front

      long : whole gs ≡ pipe (all_steps gs)
      long = deep-whole n U (all_steps gs) u o

      k : put_steps All m c U (pipe (all_steps gs)) front ≡ gs
      k = ap (λ p. put_steps All m c U p front) (sym long) ∙ (again m c U R w t).put front

      typed : IsTypedFrom m c U R (walk All m c U w)
      typed = (again m c U R w t).typed

      i : IdleOut n path U (without_idle path gs) u
      i = idle-out n path gs U R t.customs t.lawful k (ap (steps_shape m c U) (sym long) ∙ typed.typed.1) u (subst (λ p. Deep m c n U p u) long o)

      u' : IsTypedFrom m c U R u
      u' = deep-typed m c n U R (walk All m c U w) u typed o

      same : whole (without_idle path (put_steps All m c U i.left front)) ≡ whole (without_idle path (put_steps All m c U now front))
      same = ap whole (i.same ∙ ap (without_idle path) (sym ((again m c U R u u').put front) ∙ ap (λ p. put_steps All m c U p front) e ∙ (again m c U R now z).put front))
