-- Where a filter comes out of a concatenation of a typed pipeline, at whatever depth, the pipeline stays typed, its concatenations still begin apart or give filters alone, and the first three rules still make nothing where they made nothing.
use Rattle.std.proofs.Common.{◌≡◌, refl, sym, ◌∙◌, ap, subst, ℕ, zero, suc, Bool, true, false, not, ◌||◌, List, [], ◌∷◌, ◌++◌, Option, Some, None, IsTrue, map, Contains, arith, inl, inr, if◌then◌else◌}
use Rattle.std.specs.Prelude.{option_and_then, option_to_list, slice_get, unwrap_or}
use Rattle.std.specs.Bool.{then_some}
use Rattle.std.proofs.lemmas.Bool.{and_from, and_parts, or_right, true≢false}
use Rattle.edm_values.specs.Lists.{all_some, is_nonempty, is_some_and}
use Rattle.edm_values.proofs.EachLemmas.{all_some-head, all_some-tail}
use Rattle.edm_values.proofs.OptionFacts.{chained, if_else-parts, none_or, some_value}
use Rattle.edm_model.specs.Models.{Model}
use Rattle.apply_ast.specs.Trees.{Expr, Pipe, Pipes, Step, is_long, pipe, steps}
use Rattle.apply_ast.specs.declared.expressions.BinOp.TheVariants as BinOp
use Rattle.context_typing.specs.Shapes.{Shape}
use Rattle.context_typing.specs.Typing.{Customs, after, branch_shapes, concat_shape, customs_typed, is_lawful, is_sure, steps_shape}
use Rattle.context_typing.proofs.TypingLaw.{typing_keeps_lawful}
use Rattle.context_typing.proofs.WalkFacts.{pipe-steps, shape-append, steps-pipe}
use Rattle.rewrite_laws.specs.RewriteLaws.{IsTypedFrom}
use Rattle.rewrite_laws.specs.Rewrites.{IsRewrite, Rule, branch_results, drop_identity, drop_true, factor_branches, pipe_or_identity, pipe_results, rules, split_conjunction, step_results}
use Rattle.rewrite_laws.specs.TreeEquality.{step_same}
use Rattle.rewrite_laws.proofs.EachPlace.{typed_first}
use Rattle.rewrite_laws.proofs.FactorRule.{begins-with, rests}
use Rattle.rewrite_laws.proofs.OneMeaning.{loaded-results, loaded-rules}
use Rattle.rewrite_laws.proofs.RuleLemmas.{after-filter}
use Rattle.rewrite_laws.proofs.SameTrees.{Begin, rest}
use Rattle.walk_laws.specs.Apart.{is_firm, is_loose, leads_to, never_first, some_never, step_apart}
use Rattle.walk_laws.specs.FiltersOut.{branches_give, front_of, gives_alone, gives_no_other, has_own_front, lasting_kind, may_give, solid_kind, some_beside, some_lasting, some_own, stays_behind}
use Rattle.walk_laws.specs.Walks.{shape_behind}
use Rattle.walk_laws.proofs.ApartPlaces.{step-nowhere}
use Rattle.walk_laws.proofs.ApartSteps.{concat-leads, leads-behind, never-behind, never-filter}
use Rattle.walk_laws.proofs.GivenPlaces.{behind-same, either, first-typed, gives-rests}
use Rattle.walk_laws.proofs.Holes.{Hole, IsThere, filled, hole-firm, hole-gives, hole-kind, hole-lasts, hole-leads, hole-loose, hole-made, hole-never, hole-nothing, hole-shape, hole-still, hole-typed, inside}
use Rattle.walk_laws.proofs.Lasting.{Lasting, lasting-among, lasting-behind, lasting-kept}
use Rattle.walk_laws.proofs.OutPlaces.{Deep, begin-gives, deep-made, in-branches, spliced}
use Rattle.walk_laws.proofs.StayPlaces.{own-among}
use Rattle.walk_laws.proofs.StayRules.{and_both, front-first, or_both, stay-filter}
use Rattle.walk_laws.proofs.Unsplit.{Unsplit, append-none, map-none, nothing-parts, then_some-none}
use Rattle.walk_laws.proofs.WalkPlaces.{behind-typed}

pub at-factor : Contains rules factor_branches
at-factor = (8, omega arith, refl)

-- nothing is in an empty list
pub in-none : {X : Type 0} (x : X) → Contains [] x → ⊥
in-none x k = omega (arith, k.1)

module _ (m : Model) (c : Customs) where
  -- ---- typing

  pub deep-rewrite : (n : ℕ) (S S' : Shape) (p y : Pipe) → IsTypedFrom m c S S' p → Deep m c n S p y → IsRewrite factor_branches m c S p y
  deep-rewrite n S S' p y t o = let C : List Pipe → Type 0 = λ l. Contains l y in subst C (sym (loaded-results factor_branches at-factor m c S S' p t)) (deep-made m c n S p y o)

  pub deep-typed : (n : ℕ) (S S' : Shape) (p y : Pipe) → IsTypedFrom m c S S' p → Deep m c n S p y → IsTypedFrom m c S S' y
  deep-typed n S S' p y t o = record { customs = t.customs; lawful = t.lawful; typed = (loaded-rules factor_branches at-factor m c S S' p y t (deep-rewrite n S S' p y t o)).typed }

  -- steps before others
  pub typed-behind : (ss ts : List Step) (S S' : Shape) → steps_shape m c S (pipe (ss ++ ts)) ≡ Some S'
      → (steps_shape m c S (pipe ss) ≡ Some (shape_behind m c S (pipe ss))) × (steps_shape m c (shape_behind m c S (pipe ss)) (pipe ts) ≡ Some S')
  typed-behind ss ts S S' e =
      let t = chained (λ T. steps_shape m c T (pipe ts)) (steps_shape m c S (pipe ss)) S' (sym (shape-append m c S ss ts) ∙ e) in
      let k = behind-typed m c S t.0 (pipe ss) t.1 in
      (t.1 ∙ ap (λ Z. Some Z) (sym k), ap (λ Z. steps_shape m c Z (pipe ts)) k ∙ t.2)

  pub lawful-behind : (ss : List Step) (S T : Shape) → IsTrue (is_lawful m S) → steps_shape m c S (pipe ss) ≡ Some T → IsTrue (is_lawful m T)
  unfolding steps_shape
  lawful-behind [] S T l e = subst (λ Z. IsTrue (is_lawful m Z)) (some_value e) l
  lawful-behind (s ∷ ss) S T l e =
      let t = typed_first m c S T s (pipe ss) e in
      lawful-behind ss (after m c S s) T (typing_keeps_lawful m c S (after m c S s) (Pipe.Then s Pipe.End) tt l (refl, ap (option_and_then (λ (U : Shape). Some U)) t.0)) t.1

  -- a branch
  typed-among : (left : List Pipe) (T : Shape) (p : Pipe) (right : Pipes) (Ss : List Shape) → all_some (branch_shapes m c T (spliced left p right)) ≡ Some Ss → (R : Shape) × (is_long p ≡ true) × (steps_shape m c T p ≡ Some R)
  unfolding steps_shape
  typed-among [] T p right Ss e =
      let t = all_some-head (if is_long p then steps_shape m c T p else None) (branch_shapes m c T right) Ss e in
      let v = if_else-parts (is_long p) (steps_shape m c T p) t.0 t.1 in
      (t.0, v.0, v.1)
  typed-among (x ∷ left) T p right Ss e =
      let t = all_some-tail (if is_long x then steps_shape m c T x else None) (branch_shapes m c T (spliced left p right)) Ss e in
      typed-among left T p right t.0 t.1

  pub branch-typed : (left : List Pipe) (T S' : Shape) (p : Pipe) (right : Pipes) (zs : List Step) → IsTrue (customs_typed m c) → IsTrue (is_lawful m T) → steps_shape m c T (pipe (Step.Concat (spliced left p right) ∷ zs)) ≡ Some S' → (R : Shape) × IsTypedFrom m c T R p
  unfolding steps_shape
  branch-typed left T S' p right zs k l e =
      let x = typed_first m c T S' (Step.Concat (spliced left p right)) (pipe zs) e in
      let v = chained (concat_shape m) (all_some (branch_shapes m c T (spliced left p right))) (after m c T (Step.Concat (spliced left p right))) x.0 in
      let t = typed-among left T p right v.0 v.1 in
      (t.0, record { customs = k; lawful = l; typed = (t.1, t.2) })

  pub shapes-same : (left : List Pipe) (T R : Shape) (p q : Pipe) (right : Pipes) → IsTypedFrom m c T R p → IsTypedFrom m c T R q → branch_shapes m c T (spliced left q right) ≡ branch_shapes m c T (spliced left p right)
  unfolding steps_shape
  shapes-same [] T R p q right t u =
      let of : (z : Pipe) → IsTypedFrom m c T R z → (if is_long z then steps_shape m c T z else None) ≡ Some R = λ z v. ap (λ b. if b then steps_shape m c T z else None) v.typed.0 ∙ v.typed.1 in
      λ i. (of q u ∙ sym (of p t)) i ∷ branch_shapes m c T right
  shapes-same (x ∷ left) T R p q right t u = ap (λ l. (if is_long x then steps_shape m c T x else None) ∷ l) (shapes-same left T R p q right t u)

  pub after-same : (left : List Pipe) (T R : Shape) (p q : Pipe) (right : Pipes) → IsTypedFrom m c T R p → IsTypedFrom m c T R q → after m c T (Step.Concat (spliced left q right)) ≡ after m c T (Step.Concat (spliced left p right))
  unfolding steps_shape
  after-same left T R p q right t u = ap (λ os. unwrap_or (option_and_then (concat_shape m) (all_some os)) T) (shapes-same left T R p q right t u)

  -- ---- each concatenation still begins apart, or gives filters alone

  pub record Fronts (p q : Pipe) : Type 0 where
    pub bare : front_of p ≡ None → front_of q ≡ None
    pub front : (x : Step) → is_firm x ≡ true → front_of p ≡ Some x → front_of q ≡ Some x
    pub leads : (x : Step) → is_firm x ≡ true → leads_to x q ≡ leads_to x p
    pub give : (b : Bool) → may_give true b p ≡ true → may_give true b q ≡ true
    pub never : (x : Step) → is_loose x ≡ false → never_first x p ≡ true → never_first x q ≡ true
    pub last : Lasting p q

  spliced-beside : (left : List Pipe) (x : Step) (p q : Pipe) (right : Pipes) → leads_to x q ≡ leads_to x p → some_beside x (spliced left q right) ≡ some_beside x (spliced left p right)
  spliced-beside [] x p q right e = ap (λ z. not z || some_beside x right) e
  spliced-beside (y ∷ left) x p q right e = ap (λ z. not (leads_to x y) || z) (spliced-beside left x p q right e)

  spliced-own : (left : List Pipe) (all : Pipes) (p q : Pipe) (right : Pipes) → Fronts p q → some_own all (spliced left p right) ≡ true → some_own all (spliced left q right) ≡ true
  spliced-own [] all p q right f = or_both (has_own_front all (front_of p)) (some_own all right) (has_own_front all (front_of q)) (some_own all right) (go (front_of p) f.bare f.front) (λ h. h)
    where
      go : (o : Option Step) → (o ≡ None → front_of q ≡ None) → ((x : Step) → is_firm x ≡ true → o ≡ Some x → front_of q ≡ Some x) → has_own_front all o ≡ true → has_own_front all (front_of q) ≡ true
      go None e f h = ap (has_own_front all) (e refl)
      go (Some x) e f h = let t = and_parts (is_firm x) (some_beside x all) h in ap (has_own_front all) (f x t.0 refl) ∙ h
  spliced-own (y ∷ left) all p q right f = or_both (has_own_front all (front_of y)) (some_own all (spliced left p right)) (has_own_front all (front_of y)) (some_own all (spliced left q right)) (λ h. h) (spliced-own left all p q right f)

  spliced-never : (left : List Pipe) (x : Step) (p q : Pipe) (right : Pipes) → (never_first x p ≡ true → never_first x q ≡ true) → some_never x (spliced left p right) ≡ true → some_never x (spliced left q right) ≡ true
  spliced-never [] x p q right f = or_both (never_first x p) (some_never x right) (never_first x q) (some_never x right) f (λ h. h)
  spliced-never (y ∷ left) x p q right f = or_both (never_first x y) (some_never x (spliced left p right)) (never_first x y) (some_never x (spliced left q right)) (λ h. h) (spliced-never left x p q right f)

  spliced-lasting : (left : List Pipe) (all : Pipes) (p q : Pipe) (right : Pipes) → Lasting p q → some_lasting all (spliced left p right) ≡ true → some_lasting all (spliced left q right) ≡ true
  spliced-lasting [] all p q right l =
      let P : Step → Bool = λ x. some_never x all in
      or_both (is_some_and P (lasting_kind p)) (some_lasting all right) (is_some_and P (lasting_kind q)) (some_lasting all right) (lasting-kept P p q l) (λ h. h)
  spliced-lasting (y ∷ left) all p q right l =
      let P : Step → Bool = λ x. some_never x all in
      or_both (is_some_and P (lasting_kind y)) (some_lasting all (spliced left p right)) (is_some_and P (lasting_kind y)) (some_lasting all (spliced left q right)) (λ h. h) (spliced-lasting left all p q right l)

  spliced-give : (left : List Pipe) (p q : Pipe) (right : Pipes) → Fronts p q → branches_give true (spliced left p right) ≡ true → branches_give true (spliced left q right) ≡ true
  spliced-give [] p q right f = and_both (may_give true true p) (branches_give true right) (may_give true true q) (branches_give true right) (f.give true) (λ h. h)
  spliced-give (y ∷ left) p q right f = and_both (may_give true true y) (branches_give true (spliced left p right)) (may_give true true y) (branches_give true (spliced left q right)) (λ h. h) (spliced-give left p q right f)

  pub spliced-gives : (left : List Pipe) (p q : Pipe) (right : Pipes) → Fronts p q → gives_alone true (Step.Concat (spliced left p right)) ≡ true → gives_alone true (Step.Concat (spliced left q right)) ≡ true
  spliced-gives left p q right f =
      let ps = spliced left p right in
      let qs = spliced left q right in
      and_both (gives_no_other ps) (branches_give true ps) (gives_no_other qs) (branches_give true qs)
      (or_both (some_own ps ps) (some_lasting ps ps) (some_own qs qs) (some_lasting qs qs)
      (λ h. own-among qs ps qs (λ x g l k. spliced-beside left x p q right (f.leads x g) ∙ k) (spliced-own left ps p q right f h))
      (λ h. lasting-among qs ps qs (λ x l. spliced-never left x p q right (f.never x l)) (spliced-lasting left ps p q right f.last h)))
      (spliced-give left p q right f)

  -- steps before what differs
  ahead-fronts : (ahead : List Step) (p q : Pipe) → Fronts p q → Fronts (pipe (ahead ++ steps p)) (pipe (ahead ++ steps q))
  ahead-fronts [] p q f = subst (Fronts (pipe (steps p))) (sym (pipe-steps q)) (subst (λ z. Fronts z q) (sym (pipe-steps p)) f)
  ahead-fronts (s ∷ ss) p q f =
      let a = pipe (ss ++ steps p) in
      let b = pipe (ss ++ steps q) in
      let k = ahead-fronts ss p q f in
      record {
        bare = bare a b (is_loose s) k.bare;
        front = λ x g. front a b (is_loose s) x (k.front x g);
        leads = λ x g. leads-behind x s a b (k.leads x g);
        never = λ x l. never-behind x s a b (k.never x l);
        last = lasting-behind s a b k.last;
        give = λ z. and_both (step_apart s || gives_alone true s) (may_give true (stays_behind z s) a) (step_apart s || gives_alone true s) (may_give true (stays_behind z s) b) (λ h. h) (k.give (stays_behind z s));
      }
    where
      bare : (a b : Pipe) (l : Bool) → (front_of a ≡ None → front_of b ≡ None) → (if l then front_of a else Some s) ≡ None → (if l then front_of b else Some s) ≡ None
      bare a b true k h = k h
      bare a b false k h = h

      front : (a b : Pipe) (l : Bool) (x : Step) → (front_of a ≡ Some x → front_of b ≡ Some x) → (if l then front_of a else Some s) ≡ Some x → (if l then front_of b else Some s) ≡ Some x
      front a b true x k h = k h
      front a b false x k h = h

  no-firm : (ps : Pipes) (x : Step) → is_firm x ≡ true → Step.Concat ps ≡ x → ⊥
  no-firm ps x g e = true≢false (sym g ∙ ap is_firm (sym e))

  -- at the concatenation
  out-fronts : (S : Shape) (e : Expr) (p : Pipe) (ps : Pipes) (z : Pipe) → Begin (Step.Filter e) (Pipes.MorePipes p ps) ≡ true → Fronts (Pipe.Then (Step.Concat (Pipes.MorePipes p ps)) z) (Pipe.Then (Step.Filter e) (Pipe.Then (Step.Concat (rests (Pipes.MorePipes p ps))) z))
  out-fronts S e p ps z k =
      let qs = Pipes.MorePipes p ps in
      let x = Step.Concat qs in
      let y = Step.Concat (rests qs) in
      record {
        bare = λ h. none_or x (sym h);
        front = λ s g h. absurd (no-firm qs s g (some_value h));
        leads = λ s g. concat-leads s qs (rests qs) g z z;
        never = λ s l h. never-filter s e (Pipe.Then y z) l ∙ h;
        last = record { ends = λ h. refl; kind = λ s h g. none_or s g };
        give = λ b h.
            let v = and_parts (step_apart x || gives_alone true x) (may_give true (stays_behind b x) z) h in
            stay-filter true b e (Pipe.Then y z)
            ∙ and_from (step_apart y || gives_alone true y) (may_give true (stays_behind b y) z) (or_right (step_apart y) (gives_alone true y) (gives-rests true e qs k ∙ begin-gives m c S e p ps v.0 k)) v.1;
      }

  inside-fronts : (S : Shape) (left : List Pipe) (p q : Pipe) (right : Pipes) (z : Pipe) → Fronts p q → Contains (branch_results factor_branches m c S (spliced left p right)) (spliced left q right) → Fronts (Pipe.Then (Step.Concat (spliced left p right)) z) (Pipe.Then (Step.Concat (spliced left q right)) z)
  unfolding pipe_results
  inside-fronts S left p q right z f there =
      let ps = spliced left p right in
      let qs = spliced left q right in
      let x = Step.Concat ps in
      let y = Step.Concat qs in
      record {
        bare = λ h. none_or x (sym h);
        front = λ s g h. absurd (no-firm ps s g (some_value h));
        leads = λ s g. concat-leads s ps qs g z z;
        never = λ s l h. h;
        last = record { ends = λ h. refl; kind = λ s h g. none_or s g };
        give = λ b h.
            let v = and_parts (step_apart x || gives_alone true x) (may_give true (stays_behind b x) z) h in
            and_from (step_apart y || gives_alone true y) (may_give true (stays_behind b y) z)
            (or_right (step_apart y) (gives_alone true y) (elim (either (step_apart x) (gives_alone true x) v.0) [
              | inl a ↦ absurd (in-none qs (subst (λ l. Contains l qs) (map-none Step.Concat (branch_results factor_branches m c S ps) (step-nowhere m c x S a)) there))
              | inr g ↦ spliced-gives left p q right f g
            ])) v.1;
      }

  -- in a join, a grouping or a climb
  hole-behind : (h : Hole) (b : Bool) (p q : Pipe) → stays_behind b (filled h q) ≡ stays_behind b (filled h p)
  hole-behind (Hole.Related outer n a v) b p q = refl
  hole-behind (Hole.Grouped ks) b p q = refl
  hole-behind (Hole.Chosen left h x f right T) b p q = refl
  hole-behind (Hole.Climbed up h x d keep) b p q = refl

  hole-fronts : (S : Shape) (h : Hole) (p q z : Pipe) → IsThere m S h → Fronts p q → Contains (pipe_results factor_branches m c (inside S h) false p) q → Fronts (Pipe.Then (filled h p) z) (Pipe.Then (filled h q) z)
  hole-fronts S h p q z there f made =
      let x = filled h p in
      let y = filled h q in
      let first = front-first x z (hole-loose h p) in
      record {
        bare = λ k. none_or x (sym k ∙ first);
        front = λ v g k. absurd (true≢false (sym g ∙ ap is_firm (some_value (sym k ∙ first)) ∙ hole-firm h p));
        leads = λ v g. hole-leads h v p q z g;
        never = λ v l k. hole-never h v p q z ∙ k;
        last = record {
          ends = λ k. hole-lasts h q z;
          kind = λ v k g. ap (option_and_then solid_kind) (front-first y z (hole-loose h q)) ∙ hole-kind h p q ∙ sym (ap (option_and_then solid_kind) first) ∙ g;
        };
        give = λ b k.
            let v = and_parts (step_apart x || gives_alone true x) (may_give true (stays_behind b x) z) k in
            and_from (step_apart y || gives_alone true y) (may_give true (stays_behind b y) z)
            (or_right (step_apart y) (gives_alone true y) (elim (either (step_apart x) (gives_alone true x) v.0) [
              | inl a ↦ absurd (in-none y (subst (λ l. Contains l y) (step-nowhere m c x S a) (hole-made m c factor_branches h S p q there made)))
              | inr g ↦ hole-gives h p q (f.give true) g
            ])) (ap (λ w. may_give true w z) (hole-behind h b p q) ∙ v.1);
      }

  at-ahead : (ahead : List Step) (s : Step) (zs : List Step) → pipe (ahead ++ s ∷ zs) ≡ pipe (ahead ++ steps (Pipe.Then s (pipe zs)))
  at-ahead ahead s zs = ap (λ l. pipe (ahead ++ s ∷ l)) (sym (steps-pipe zs))

  all-fronts : (n : ℕ) (S : Shape) (p q : Pipe) → Deep m c n S p q → Fronts p q
  all-fronts zero S p q o =
      let x = Step.Concat (Pipes.MorePipes o.first o.others) in
      let y = Step.Concat (rests (Pipes.MorePipes o.first o.others)) in
      let k = ahead-fronts o.ahead (Pipe.Then x (pipe o.behind)) (Pipe.Then (Step.Filter o.expr) (Pipe.Then y (pipe o.behind))) (out-fronts S o.expr o.first o.others (pipe o.behind) o.begin) in
      subst (Fronts p) (sym (o.into ∙ at-two o.ahead (Step.Filter o.expr) y o.behind)) (subst (λ z. Fronts z (pipe (o.ahead ++ steps (Pipe.Then (Step.Filter o.expr) (Pipe.Then y (pipe o.behind)))))) (sym (o.from ∙ at-ahead o.ahead x o.behind)) k)
    where
      at-two : (ahead : List Step) (s t : Step) (zs : List Step) → pipe (ahead ++ s ∷ t ∷ zs) ≡ pipe (ahead ++ steps (Pipe.Then s (Pipe.Then t (pipe zs))))
      at-two ahead s t zs = ap (λ l. pipe (ahead ++ s ∷ t ∷ l)) (sym (steps-pipe zs))
  all-fronts (suc n) S p q (inr o) =
      let T = shape_behind m c S (pipe o.ahead) in
      let x = filled o.hole o.was in
      let y = filled o.hole o.now in
      let U = inside T o.hole in
      let k = ahead-fronts o.ahead (Pipe.Then x (pipe o.behind)) (Pipe.Then y (pipe o.behind)) (hole-fronts T o.hole o.was o.now (pipe o.behind) o.there (all-fronts n U o.was o.now o.within) (deep-made m c n U o.was o.now o.within)) in
      subst (Fronts p) (sym (o.into ∙ at-ahead o.ahead y o.behind)) (subst (λ z. Fronts z (pipe (o.ahead ++ steps (Pipe.Then y (pipe o.behind))))) (sym (o.from ∙ at-ahead o.ahead x o.behind)) k)
  all-fronts (suc n) S p q (inl o) =
      let T = shape_behind m c S (pipe o.ahead) in
      let x = Step.Concat (spliced o.left o.was o.right) in
      let y = Step.Concat (spliced o.left o.now o.right) in
      let there = in-branches m c o.left T o.was o.now o.right (deep-made m c n T o.was o.now o.within) in
      let k = ahead-fronts o.ahead (Pipe.Then x (pipe o.behind)) (Pipe.Then y (pipe o.behind)) (inside-fronts T o.left o.was o.now o.right (pipe o.behind) (all-fronts n T o.was o.now o.within) there) in
      subst (Fronts p) (sym (o.into ∙ at-ahead o.ahead y o.behind)) (subst (λ z. Fronts z (pipe (o.ahead ++ steps (Pipe.Then y (pipe o.behind))))) (sym (o.from ∙ at-ahead o.ahead x o.behind)) k)

  pub deep-gives : (n : ℕ) (S : Shape) (p q : Pipe) → Deep m c n S p q → may_give true true p ≡ true → may_give true true q ≡ true
  deep-gives n S p q o h = (all-fronts n S p q o).give true h

  -- ---- a rule that makes nothing still makes nothing

  -- a rule that asks of a step whether others stand beside it, and no more: it makes nothing of concatenations
  record Beside (r : Rule) : Type 0 where
    concat : (S : Shape) (before : Bool) (ps : Pipes) (ss : List Step) → r m c S before (Step.Concat ps) ss ≡ None
    alone : (S : Shape) → r m c S false Step.Identity [] ≡ None
    less : (S : Shape) (s : Step) (ss : List Step) → r m c S true s ss ≡ None → r m c S false s ss ≡ None
    tail : (S : Shape) (before : Bool) (s : Step) (ss ts : List Step) → is_nonempty ss ≡ true → r m c S before s ss ≡ None → r m c S before s ts ≡ None
    filter' : (S : Shape) (before before' : Bool) (e : Expr) (ss ts : List Step) → r m c S before (Step.Filter e) ss ≡ None → r m c S before' (Step.Filter e) ts ≡ None
    hole : (S : Shape) (before : Bool) (h : Hole) (p : Pipe) (ss : List Step) → r m c S before (filled h p) ss ≡ None

  module _ (r : Rule) (R : Beside r) where
    -- nothing at the first step, in it, or behind it
    nothing-from : (S : Shape) (before : Bool) (s : Step) (p : Pipe) → r m c S before s (steps p) ≡ None → step_results r m c S s ≡ [] → pipe_results r m c (after m c S s) true p ≡ [] → pipe_results r m c S before (Pipe.Then s p) ≡ []
    unfolding pipe_results
    nothing-from S before s p a b d i = map pipe (option_to_list (a i)) ++ map (λ s'. Pipe.Then s' p) (b i) ++ map (Pipe.Then s) (d i)

    -- what is behind the filter in a branch
    nothing-rest : (S : Shape) (q : Pipe) → pipe_results r m c S true q ≡ [] → pipe_results r m c S false (pipe_or_identity (steps q)) ≡ []
    unfolding pipe_results
    nothing-rest S Pipe.End h = ap (λ o. map pipe (option_to_list o) ++ [] ++ []) (R.alone S)
    nothing-rest S (Pipe.Then s q) h =
        let t = nothing-parts r m c S true s q h in
        ap (pipe_results r m c S false) (pipe-steps (Pipe.Then s q)) ∙ nothing-from S false s q (R.less S s (steps q) t.0) t.1 t.2

    nothing-rests : (S : Shape) (e : Expr) (ps : Pipes) → Begin (Step.Filter e) ps ≡ true → branch_results r m c S ps ≡ [] → branch_results r m c S (rests ps) ≡ []
    unfolding pipe_results
    nothing-rests S e Pipes.NoPipes h k = refl
    nothing-rests S e (Pipes.MorePipes p ps) h k =
        let t = and_parts (is_some_and (step_same (Step.Filter e)) (slice_get (steps p) 0)) _ h in
        let q = begins-with (Step.Filter e) p t.0 in
        let n = append-none (map (λ q. Pipes.MorePipes q ps) (pipe_results r m c S false p)) (map (Pipes.MorePipes p) (branch_results r m c S ps)) k in
        let v = nothing-parts r m c S false (Step.Filter e) q.0 (sym (ap (pipe_results r m c S false) q.1) ∙ map-none (λ q. Pipes.MorePipes q ps) _ n.0) in
        let w : pipe_results r m c S true q.0 ≡ [] = sym (ap (λ T. pipe_results r m c T true q.0) (after-filter m c S e)) ∙ v.2 in
        let more = nothing-rests S e ps t.1 (map-none (Pipes.MorePipes p) _ n.1) in
        λ i. map (λ q. Pipes.MorePipes q (rests ps)) ((ap (λ l. pipe_results r m c S false (pipe_or_identity l)) q.2 ∙ nothing-rest S q.0 w) i) ++ map (Pipes.MorePipes (rest p)) (more i)

    -- the filter itself
    first-nothing : (S : Shape) (before : Bool) (e : Expr) (p : Pipe) (ps : Pipes) (ts : List Step) → Begin (Step.Filter e) (Pipes.MorePipes p ps) ≡ true → branch_results r m c S (Pipes.MorePipes p ps) ≡ [] → r m c S before (Step.Filter e) ts ≡ None
    unfolding pipe_results
    first-nothing S before e p ps ts h k =
        let t = and_parts (is_some_and (step_same (Step.Filter e)) (slice_get (steps p) 0)) _ h in
        let q = begins-with (Step.Filter e) p t.0 in
        let n = append-none (map (λ q. Pipes.MorePipes q ps) (pipe_results r m c S false p)) (map (Pipes.MorePipes p) (branch_results r m c S ps)) k in
        let v = nothing-parts r m c S false (Step.Filter e) q.0 (sym (ap (pipe_results r m c S false) q.1) ∙ map-none (λ q. Pipes.MorePipes q ps) _ n.0) in
        R.filter' S false before e (steps q.0) ts v.0

    -- steps before what differs
    nothing-ahead : (ahead : List Step) (S : Shape) (before : Bool) (s s' : Step) (zs ys : List Step) → ((b : Bool) → pipe_results r m c (shape_behind m c S (pipe ahead)) b (pipe (s ∷ zs)) ≡ [] → pipe_results r m c (shape_behind m c S (pipe ahead)) b (pipe (s' ∷ ys)) ≡ [])
        → pipe_results r m c S before (pipe (ahead ++ s ∷ zs)) ≡ [] → pipe_results r m c S before (pipe (ahead ++ s' ∷ ys)) ≡ []
    nothing-ahead [] S before s s' zs ys f h = f before h
    nothing-ahead (x ∷ ss) S before s s' zs ys f h =
        let was = pipe (ss ++ s ∷ zs) in
        let now = pipe (ss ++ s' ∷ ys) in
        let t = nothing-parts r m c S before x was h in
        nothing-from S before x now (R.tail S before x (steps was) (steps now) (long-tail ss s zs) t.0) t.1 (nothing-ahead ss (after m c S x) true s s' zs ys f t.2)
      where
        long-tail : (ss : List Step) (s : Step) (ts : List Step) → is_nonempty (steps (pipe (ss ++ s ∷ ts))) ≡ true
        long-tail [] s ts = refl
        long-tail (x ∷ ss) s ts = refl

    nothing-out : (S S' : Shape) (before : Bool) (e : Expr) (p : Pipe) (ps : Pipes) (zs : List Step) → steps_shape m c S (pipe (Step.Concat (Pipes.MorePipes p ps) ∷ zs)) ≡ Some S' → Begin (Step.Filter e) (Pipes.MorePipes p ps) ≡ true
        → pipe_results r m c S before (pipe (Step.Concat (Pipes.MorePipes p ps) ∷ zs)) ≡ [] → pipe_results r m c S before (pipe (Step.Filter e ∷ Step.Concat (rests (Pipes.MorePipes p ps)) ∷ zs)) ≡ []
    unfolding pipe_results
    nothing-out S S' before e p ps zs typed h k =
        let qs = Pipes.MorePipes p ps in
        let t = nothing-parts r m c S before (Step.Concat qs) (pipe zs) k in
        let b = map-none Step.Concat (branch_results r m c S qs) t.1 in
        let y = Pipe.Then (Step.Concat (rests qs)) (pipe zs) in
        let same = behind-same m c S e qs (first-typed m c S S' e p ps (pipe zs) typed h) h in
        let concats : pipe_results r m c S true y ≡ [] =
        nothing-from S true (Step.Concat (rests qs)) (pipe zs) (R.concat S true (rests qs) (steps (pipe zs))) (ap (map Step.Concat) (nothing-rests S e qs h b)) (ap (λ T. pipe_results r m c T true (pipe zs)) same ∙ t.2) in
        nothing-from S before (Step.Filter e) y (first-nothing S before e p ps (steps y) h b) refl (ap (λ T. pipe_results r m c T true y) (after-filter m c S e) ∙ concats)

    nothing-spliced : (left : List Pipe) (T : Shape) (p q : Pipe) (right : Pipes) → (pipe_results r m c T false p ≡ [] → pipe_results r m c T false q ≡ []) → branch_results r m c T (spliced left p right) ≡ [] → branch_results r m c T (spliced left q right) ≡ []
    unfolding pipe_results
    nothing-spliced [] T p q right f h =
        let n = append-none (map (λ z. Pipes.MorePipes z right) (pipe_results r m c T false p)) (map (Pipes.MorePipes p) (branch_results r m c T right)) h in
        λ i. map (λ z. Pipes.MorePipes z right) (f (map-none (λ z. Pipes.MorePipes z right) _ n.0) i) ++ map (Pipes.MorePipes q) (map-none (Pipes.MorePipes p) (branch_results r m c T right) n.1 i)
    nothing-spliced (x ∷ left) T p q right f h =
        let n = append-none (map (λ z. Pipes.MorePipes z (spliced left p right)) (pipe_results r m c T false x)) (map (Pipes.MorePipes x) (branch_results r m c T (spliced left p right))) h in
        λ i. map (λ z. Pipes.MorePipes z (spliced left q right)) (map-none (λ z. Pipes.MorePipes z (spliced left p right)) (pipe_results r m c T false x) n.0 i) ++ map (Pipes.MorePipes x) (nothing-spliced left T p q right f (map-none (Pipes.MorePipes x) _ n.1) i)

    deep-nothing : (n : ℕ) (S S' : Shape) (p q : Pipe) → IsTypedFrom m c S S' p → Deep m c n S p q → pipe_results r m c S false p ≡ [] → pipe_results r m c S false q ≡ []
    unfolding pipe_results
    deep-nothing zero S S' p q t o h =
        let typed = typed-behind o.ahead (Step.Concat (Pipes.MorePipes o.first o.others) ∷ o.behind) S S' (sym (ap (steps_shape m c S) o.from) ∙ t.typed.1) in
        let T = shape_behind m c S (pipe o.ahead) in
        ap (pipe_results r m c S false) o.into
        ∙ nothing-ahead o.ahead S false (Step.Concat (Pipes.MorePipes o.first o.others)) (Step.Filter o.expr) o.behind (Step.Concat (rests (Pipes.MorePipes o.first o.others)) ∷ o.behind)
        (λ b k. nothing-out T S' b o.expr o.first o.others o.behind typed.1 o.begin k)
        (sym (ap (pipe_results r m c S false) o.from) ∙ h)
    deep-nothing (suc n) S S' p q t (inr o) h =
        let x = filled o.hole o.was in
        let y = filled o.hole o.now in
        let typed = typed-behind o.ahead (x ∷ o.behind) S S' (sym (ap (steps_shape m c S) o.from) ∙ t.typed.1) in
        let T = shape_behind m c S (pipe o.ahead) in
        let first = typed_first m c T S' x (pipe o.behind) typed.1 in
        let b = hole-typed m c o.hole T (after m c T x) o.was o.there t.customs (lawful-behind o.ahead S T t.lawful typed.0) first.0 in
        let later = deep-typed n (inside T o.hole) b.0 o.was o.now b.1 o.within in
        ap (pipe_results r m c S false) o.into
        ∙ nothing-ahead o.ahead S false x y o.behind o.behind
        (λ z k.
        let v = nothing-parts r m c T z x (pipe o.behind) k in
        nothing-from T z y (pipe o.behind) (R.hole T z o.hole o.now (steps (pipe o.behind)))
        (hole-still m c r o.hole T o.was o.now o.there v.1 (deep-nothing n (inside T o.hole) b.0 o.was o.now b.1 o.within (hole-nothing m c r o.hole T o.was o.there v.1)))
        (ap (λ z. pipe_results r m c (unwrap_or z T) true (pipe o.behind)) (hole-shape m c o.hole T b.0 o.was o.now o.there b.1 later) ∙ v.2))
        (sym (ap (pipe_results r m c S false) o.from) ∙ h)
    deep-nothing (suc n) S S' p q t (inl o) h =
        let ps = spliced o.left o.was o.right in
        let qs = spliced o.left o.now o.right in
        let typed = typed-behind o.ahead (Step.Concat ps ∷ o.behind) S S' (sym (ap (steps_shape m c S) o.from) ∙ t.typed.1) in
        let T = shape_behind m c S (pipe o.ahead) in
        let b = branch-typed o.left T S' o.was o.right o.behind t.customs (lawful-behind o.ahead S T t.lawful typed.0) typed.1 in
        let y = deep-typed n T b.0 o.was o.now b.1 o.within in
        ap (pipe_results r m c S false) o.into
        ∙ nothing-ahead o.ahead S false (Step.Concat ps) (Step.Concat qs) o.behind o.behind
        (λ z k.
        let v = nothing-parts r m c T z (Step.Concat ps) (pipe o.behind) k in
        nothing-from T z (Step.Concat qs) (pipe o.behind) (R.concat T z qs (steps (pipe o.behind)))
        (ap (map Step.Concat) (nothing-spliced o.left T o.was o.now o.right (deep-nothing n T b.0 o.was o.now b.1 o.within) (map-none Step.Concat (branch_results r m c T ps) v.1)))
        (ap (λ Z. pipe_results r m c Z true (pipe o.behind)) (after-same o.left T b.0 o.was o.now o.right b.1 y) ∙ v.2))
        (sym (ap (pipe_results r m c S false) o.from) ∙ h)

  -- the first three rules are of this kind

  identity-beside : Beside drop_identity
  identity-beside = record { hole = hole; concat = λ S before ps ss. refl; alone = λ S. refl; less = less; tail = tail; filter' = λ S before before' e ss ts h. refl }
    where
      hole : (S : Shape) (before : Bool) (h : Hole) (p : Pipe) (ss : List Step) → drop_identity m c S before (filled h p) ss ≡ None
      hole S before (Hole.Related outer n a v) p ss = refl
      hole S before (Hole.Grouped ks) p ss = refl
      hole S before (Hole.Chosen left h x f right T) p ss = refl
      hole S before (Hole.Climbed up h x d keep) p ss = refl

      less : (S : Shape) (s : Step) (ss : List Step) → drop_identity m c S true s ss ≡ None → drop_identity m c S false s ss ≡ None
      less S Step.Identity ss h = none_or ss (sym h)
      less S s ss h = refl

      no-some : (b : Bool) (ss : List Step) → then_some (b || true) ss ≡ None → ⊥
      no-some true ss h = none_or ss (sym h)
      no-some false ss h = none_or ss (sym h)

      tail : (S : Shape) (before : Bool) (s : Step) (ss ts : List Step) → is_nonempty ss ≡ true → drop_identity m c S before s ss ≡ None → drop_identity m c S before s ts ≡ None
      tail S before Step.Identity ss ts n h = absurd (no-some before ss (ap (λ z. then_some (before || z) ss) (sym n) ∙ h))
      tail S before s ss ts n h = refl

  split-beside : Beside split_conjunction
  split-beside = record { hole = hole; concat = λ S before ps ss. refl; alone = λ S. refl; less = λ S s ss h. other S true false s ss ss h; tail = λ S before s ss ts n h. other S before before s ss ts h; filter' = λ S before before' e ss ts h. other S before before' (Step.Filter e) ss ts h }
    where
      hole : (S : Shape) (before : Bool) (h : Hole) (p : Pipe) (ss : List Step) → split_conjunction m c S before (filled h p) ss ≡ None
      hole S before (Hole.Related outer n a v) p ss = refl
      hole S before (Hole.Grouped ks) p ss = refl
      hole S before (Hole.Chosen left h x f right T) p ss = refl
      hole S before (Hole.Climbed up h x d keep) p ss = refl

      other : (S : Shape) (before before' : Bool) (s : Step) (ss ts : List Step) → split_conjunction m c S before s ss ≡ None → split_conjunction m c S before' s ts ≡ None
      other S before before' (Step.Filter (Expr.Binary BinOp.And a b)) ss ts h = ap (λ z. then_some z (Step.Filter a ∷ Step.Filter b ∷ ts)) (then_some-none (is_sure m S b) (Step.Filter a ∷ Step.Filter b ∷ ss) h)
      other S before before' s ss ts h = refl

  true-beside : Beside drop_true
  true-beside = record { hole = hole; concat = λ S before ps ss. refl; alone = λ S. refl; less = λ S s ss h. other S true false s ss ss h; tail = λ S before s ss ts n h. other S before before s ss ts h; filter' = λ S before before' e ss ts h. other S before before' (Step.Filter e) ss ts h }
    where
      hole : (S : Shape) (before : Bool) (h : Hole) (p : Pipe) (ss : List Step) → drop_true m c S before (filled h p) ss ≡ None
      hole S before (Hole.Related outer n a v) p ss = refl
      hole S before (Hole.Grouped ks) p ss = refl
      hole S before (Hole.Chosen left h x f right T) p ss = refl
      hole S before (Hole.Climbed up h x d keep) p ss = refl

      other : (S : Shape) (before before' : Bool) (s : Step) (ss ts : List Step) → drop_true m c S before s ss ≡ None → drop_true m c S before' s ts ≡ None
      other S before before' (Step.Filter (Expr.Bool' true)) ss ts h = none_or (Step.Identity ∷ ss) (sym h)
      other S before before' s ss ts h = refl

  -- no filter is split or dropped, and no `identity`
  pub record Plain (S : Shape) (p : Pipe) : Type 0 where
    pub whole : Unsplit m c S false p
    pub identity' : pipe_results drop_identity m c S false p ≡ []

  pub deep-plain : (n : ℕ) (S S' : Shape) (p q : Pipe) → IsTypedFrom m c S S' p → Deep m c n S p q → Plain S p → Plain S q
  deep-plain n S S' p q t o h = record {
    whole = record { split = deep-nothing split_conjunction split-beside n S S' p q t o (h.whole).split; true' = deep-nothing drop_true true-beside n S S' p q t o (h.whole).true' };
    identity' = deep-nothing drop_identity identity-beside n S S' p q t o h.identity';
  }
