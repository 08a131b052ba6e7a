-- Each rule but the ninth keeps, at its place, what steps begin with behind filters, and that filters stay before the concatenation that gives them.
use Rattle.std.proofs.Common.{◌≡◌, min, refl, sym, ◌∙◌, ap, subst, Bool, true, false, not, ◌&&◌, ◌||◌, List, [], ◌∷◌, ◌++◌, drop, Option, Some, None, map, find, if◌then◌else◌}
use Rattle.std.specs.Prelude.{option_and_then, option_map}
use Rattle.std.specs.Bool.{then_some}
use Rattle.std.specs.List.{last_or, list_all, list_any}
use Rattle.std.proofs.lemmas.Bool.{and_from, and_parts, true≢false}
use Rattle.edm_values.specs.Lists.{is_nonempty, is_some_and}
use Rattle.edm_values.specs.Literals.{is_boolean_kind}
use Rattle.edm_values.proofs.OptionFacts.{chained, if_else-parts, if_some, mapped, none_or, some_value, then_some-parts}
use Rattle.edm_model.specs.Models.{Model}
use Rattle.apply_ast.specs.Trees.{Expr, Key, Keys, Limit, OptPipe, Pipe, Pipes, Step, TopStep, pipe, steps}
use Rattle.apply_ast.specs.Views.{pipes_from}
use Rattle.apply_ast.specs.declared.expressions.BinOp.TheVariants as BinOp
use Rattle.context_typing.specs.Paths.{begins}
use Rattle.context_typing.specs.Shapes.{Shape}
use Rattle.context_typing.specs.Typing.{Customs, RollupPart, after, group_keys, has_kind, is_nodes, is_risky, is_sure, order_sure, rollup_part, steps_shape}
use Rattle.context_typing.proofs.WalkFacts.{pipe-steps}
use Rattle.rewrite_laws.specs.Rewrites.{Rule, all_but_last, behind, branches, concat, drop_identity, drop_idle, drop_order, drop_true, ended, ended_inner, ended_key, ended_keys, filter_branches, filter_nodes, filter_related, grouping_quiet, is_among, is_idle, join_counts, join_quiet, movable, node_shape, on_node, over, pass_compute, pass_grouping, pass_join, pass_order, pass_outer_join, pass_traverse, passing, paths, pipe_or_identity, split_conjunction, top_count, with_paths}
use Rattle.rewrite_laws.specs.TreeEquality.{expr_same}
use Rattle.rewrite_laws.proofs.GroupingRules.{row_keys}
use Rattle.rewrite_laws.proofs.NodeRule.{node_taken, node_test}
use Rattle.rewrite_laws.proofs.RuleLemmas.{filters, movable-found, pipe-filters}
use Rattle.rewrite_laws.proofs.StepLists.{last-split}
use Rattle.walk_laws.specs.Apart.{inner_apart, is_aggregate, is_firm, is_loose, leads_to, may_go, some_never, stays_apart, step_apart}
use Rattle.walk_laws.specs.FiltersOut.{branches_give, front_of, gives_alone, gives_no_other, has_own_front, inner_gives, is_stop, key_gives, keys_give, lasting_kind, lasts, may_give, solid_kind, some_beside, some_lasting, some_own, stays_behind}
use Rattle.walk_laws.proofs.Lasting.{Lasting, lasting-among, lasting-kept, lasts-filters}
use Rattle.walk_laws.proofs.ApartSteps.{apart-appended, apart-ended_inner, apart-ended_keys, apart-identity, concat-apart, ended-kept, leads-behind}

pub or_both : (a b c d : Bool) → (a ≡ true → c ≡ true) → (b ≡ true → d ≡ true) → (a || b) ≡ true → (c || d) ≡ true
or_both true b c d f g h = ap (λ z. z || d) (f refl)
or_both false b true d f g h = refl
or_both false b false d f g h = g h

pub and_both : (a b c d : Bool) → (a ≡ true → c ≡ true) → (b ≡ true → d ≡ true) → (a && b) ≡ true → (c && d) ≡ true
and_both a b c d f g h = let t = and_parts a b h in and_from c d (f t.0) (g t.1)

-- steps come to others that begin behind filters with the same step, where that is one that no rule changes or where there is none, and filters stay where they did
pub record StaySteps (p q : Pipe) : Type 0 where
  pub bare : front_of p ≡ None → front_of q ≡ None
  pub front : (x : Step) → is_firm x ≡ true → front_of p ≡ Some x → front_of q ≡ Some x
  pub stay : (a b : Bool) → may_give a b p ≡ true → may_give a b q ≡ true
  pub last : Lasting p q

-- so do what a rule makes of steps
abbrev pub KeepsStay : Model → Customs → Rule → Type 0
KeepsStay m c r = (S : Shape) (before : Bool) (s : Step) (ss ss' : List Step) → r m c S before s ss ≡ Some ss' → StaySteps (pipe (s ∷ ss)) (pipe ss')

-- ---- steps and filters

pub front-first : (s : Step) (p : Pipe) → is_loose s ≡ false → front_of (Pipe.Then s p) ≡ Some s
front-first s p l = ap (λ z. if z then front_of p else Some s) l

pub stay-filter : (a b : Bool) (e : Expr) (p : Pipe) → may_give a b (Pipe.Then (Step.Filter e) p) ≡ may_give a b p
stay-filter a true e p = refl
stay-filter a false e p = refl

stay-filters : (a b : Bool) (es : List Expr) (p : Pipe) → may_give a b (filters es p) ≡ may_give a b p
stay-filters a b [] p = refl
stay-filters a b (e ∷ es) p = stay-filter a b e (filters es p) ∙ stay-filters a b es p

-- the same first step
same-front : (p q : Pipe) → front_of q ≡ front_of p → (lasts p ≡ true → lasts q ≡ true) → ((a b : Bool) → may_give a b p ≡ true → may_give a b q ≡ true) → StaySteps p q
same-front p q e l f = record { bare = λ h. e ∙ h; front = λ x g h. e ∙ h; stay = f; last = record { ends = l; kind = λ k h g. ap (option_and_then solid_kind) e ∙ g } }

-- a first step that rules change
soft-front : (s : Step) (p q : Pipe) → is_loose s ≡ false → is_firm s ≡ false → Lasting (Pipe.Then s p) q → ((a b : Bool) → may_give a b (Pipe.Then s p) ≡ true → may_give a b q ≡ true) → StaySteps (Pipe.Then s p) q
soft-front s p q l soft last f = record {
  last = last;
  bare = λ h. none_or s (sym h ∙ front-first s p l);
  front = λ x g h. absurd (true≢false (sym g ∙ ap is_firm (some_value (sym h ∙ front-first s p l)) ∙ soft));
  stay = f;
}

-- steps of the same kind before the same steps, but filters
pub with-first : (x y : Step) (p q : Pipe) (a b : Bool) → is_stop y ≡ is_stop x → is_loose y ≡ is_loose x → (gives_alone a x ≡ true → gives_alone a y ≡ true) → (step_apart x ≡ true → step_apart y ≡ true) → ((b : Bool) → may_give a b p ≡ true → may_give a b q ≡ true)
    → may_give a b (Pipe.Then x p) ≡ true → may_give a b (Pipe.Then y q) ≡ true
with-first x y p q a b stop loose gives apart near =
    and_both (step_apart x || ((a || b) && gives_alone a x)) (may_give a (stays_behind b x) p) (step_apart y || ((a || b) && gives_alone a y)) (may_give a (stays_behind b y) q)
    (or_both (step_apart x) ((a || b) && gives_alone a x) (step_apart y) ((a || b) && gives_alone a y) apart (and_both (a || b) (gives_alone a x) (a || b) (gives_alone a y) (λ h. h) gives))
    (λ h. ap (λ z. may_give a z q) (λ i. stop i || (b && loose i)) ∙ near (stays_behind b x) h)

-- a filter that passes
passing-stay : (m : Model) (T : Shape) (test : Expr → Bool) (x : Step) (ss ss' : List Step) → is_loose x ≡ false → passing m T test x ss ≡ Some ss' → StaySteps (pipe (x ∷ ss)) (pipe ss')
passing-stay m T test x ss ss' tight got =
    let t = mapped (λ r. Step.Filter r.last ∷ behind x r) (find (λ r. test r.last) (movable m T ss)) ss' got in
    let r = movable-found m T test ss t.0 t.1 in
    let es = (t.0).between in
    let b = (t.0).last in
    let p = pipe (t.0).rest in
    let from = ap pipe r.whole ∙ pipe-filters es (Step.Filter b ∷ (t.0).rest) in
    let into : pipe ss' ≡ Pipe.Then (Step.Filter b) (Pipe.Then x (filters es p)) = sym (ap pipe t.2) ∙ ap (λ p. Pipe.Then (Step.Filter b) (Pipe.Then x p)) (pipe-filters es (t.0).rest) in
    let was = filters es (Pipe.Then (Step.Filter b) p) in
    let K : Pipe → Type 0 = λ z. StaySteps (Pipe.Then x z) (pipe ss') in
    subst K (sym from) (subst (StaySteps (Pipe.Then x was)) (sym into)
    (same-front (Pipe.Then x was) (Pipe.Then (Step.Filter b) (Pipe.Then x (filters es p))) (front-first x (filters es p) tight ∙ sym (front-first x was tight))
    (λ h. ap (λ z. if may_go x then z else not (is_aggregate x)) (lasts-filters es p ∙ sym (lasts-filters es (Pipe.Then (Step.Filter b) p))) ∙ h)
    (λ a z h. stay-filter a z b (Pipe.Then x (filters es p)) ∙ with-first x x was (filters es p) a z refl refl (λ h. h) (λ h. h)
    (λ y h. stay-filters a y es p ∙ sym (stay-filter a y b p) ∙ sym (stay-filters a y es (Pipe.Then (Step.Filter b) p)) ∙ h) h)))

-- a filter that goes in
taking-stay : (m : Model) (T : Shape) (test : Expr → Bool) (x : Step) (into : Expr → Step) (ss ss' : List Step) → is_loose x ≡ false → is_firm x ≡ false → option_map (λ r. behind (into r.last) r) (find (λ r. test r.last) (movable m T ss)) ≡ Some ss'
    → ((b : Expr) → is_stop (into b) ≡ is_stop x) → ((b : Expr) → is_loose (into b) ≡ is_loose x) → ((a : Bool) (b : Expr) → gives_alone a x ≡ true → gives_alone a (into b) ≡ true) → ((b : Expr) → step_apart x ≡ true → step_apart (into b) ≡ true)
    → ((b : Expr) → (solid_kind (into b) ≡ solid_kind x) × ((p : Pipe) → lasts (Pipe.Then (into b) p) ≡ true)) → StaySteps (pipe (x ∷ ss)) (pipe ss')
taking-stay m T test x into ss ss' tight soft got stop loose gives inside kinds =
    let t = mapped (λ r. behind (into r.last) r) (find (λ r. test r.last) (movable m T ss)) ss' got in
    let r = movable-found m T test ss t.0 t.1 in
    let es = (t.0).between in
    let b = (t.0).last in
    let p = pipe (t.0).rest in
    let from = ap pipe r.whole ∙ pipe-filters es (Step.Filter b ∷ (t.0).rest) in
    let to : pipe ss' ≡ Pipe.Then (into b) (filters es p) = sym (ap pipe t.2) ∙ ap (λ p. Pipe.Then (into b) p) (pipe-filters es (t.0).rest) in
    let was = filters es (Pipe.Then (Step.Filter b) p) in
    let K : Pipe → Type 0 = λ z. StaySteps (Pipe.Then x z) (pipe ss') in
    subst K (sym from) (subst (StaySteps (Pipe.Then x was)) (sym to)
    (soft-front x was (Pipe.Then (into b) (filters es p)) tight soft
    (record {
      ends = λ h. (kinds b).1 (filters es p);
      kind = λ k h g. ap (option_and_then solid_kind) (front-first (into b) (filters es p) (loose b ∙ tight)) ∙ (kinds b).0 ∙ sym (ap (option_and_then solid_kind) (front-first x was tight)) ∙ g;
    })
    (λ a z h. with-first x (into b) was (filters es p) a z (stop b) (loose b) (gives a b) (inside b)
    (λ y h. stay-filters a y es p ∙ sym (stay-filter a y b p) ∙ sym (stay-filters a y es (Pipe.Then (Step.Filter b) p)) ∙ h) h)))

-- ---- branches with one more filter at the end

leads-ended : (x : Step) (p : Pipe) (e : Expr) → leads_to x (ended p (Step.Filter e)) ≡ leads_to x p
leads-ended x Pipe.End e = refl
leads-ended x (Pipe.Then s p) e = leads-behind x s p (ended p (Step.Filter e)) (leads-ended x p e)

front-ended : (p : Pipe) (e : Expr) → front_of (ended p (Step.Filter e)) ≡ front_of p
front-ended Pipe.End e = refl
front-ended (Pipe.Then s p) e = ap (λ z. if is_loose s then z else Some s) (front-ended p e)

abbrev all_ended : Pipes → Expr → Pipes
all_ended ps e = pipes_from (map (λ p. ended p (Step.Filter e)) (branches ps))

beside-ended : (x : Step) (ps : Pipes) (e : Expr) → some_beside x (all_ended ps e) ≡ some_beside x ps
beside-ended x Pipes.NoPipes e = refl
beside-ended x (Pipes.MorePipes p ps) e = λ i. not (leads-ended x p e i) || beside-ended x ps e i

own-same : (ps a b : Pipes) → ((x : Step) → some_beside x b ≡ some_beside x a) → some_own b ps ≡ some_own a ps
own-same Pipes.NoPipes a b f = refl
own-same (Pipes.MorePipes p ps) a b f = λ i. go (front_of p) i || own-same ps a b f i
  where
    go : (o : Option Step) → has_own_front b o ≡ has_own_front a o
    go None = refl
    go (Some x) = ap (λ z. is_firm x && z) (f x)

own-ended : (ps all : Pipes) (e : Expr) → some_own all (all_ended ps e) ≡ some_own all ps
own-ended Pipes.NoPipes all e = refl
own-ended (Pipes.MorePipes p ps) all e = λ i. has_own_front all (front-ended p e i) || own-ended ps all e i

lasts-ended : (p : Pipe) (e : Expr) → lasts (ended p (Step.Filter e)) ≡ lasts p
lasts-ended Pipe.End e = refl
lasts-ended (Pipe.Then s p) e = ap (λ z. if may_go s then z else not (is_aggregate s)) (lasts-ended p e)

lasting-ended : (ps all : Pipes) (e : Expr) → some_lasting all ps ≡ true → some_lasting all (all_ended ps e) ≡ true
lasting-ended Pipes.NoPipes all e h = h
lasting-ended (Pipes.MorePipes p ps) all e h =
    or_both (is_some_and (λ x. some_never x all) (lasting_kind p)) (some_lasting all ps) (is_some_and (λ x. some_never x all) (lasting_kind (ended p (Step.Filter e)))) (some_lasting all (all_ended ps e))
    (lasting-kept (λ x. some_never x all) p (ended p (Step.Filter e)) (record { ends = λ h. lasts-ended p e ∙ h; kind = λ k h g. ap (option_and_then solid_kind) (front-ended p e) ∙ g }))
    (lasting-ended ps all e) h

may-ended : (a b : Bool) (p : Pipe) (e : Expr) → may_give a b (ended p (Step.Filter e)) ≡ may_give a b p
may-ended a b Pipe.End e = stay-filter a b e Pipe.End
may-ended a b (Pipe.Then s p) e = ap (λ z. (step_apart s || ((a || b) && gives_alone a s)) && z) (may-ended a (stays_behind b s) p e)

inner-ended : (T : OptPipe) (e : Expr) → inner_gives (ended_inner T (Step.Filter e)) ≡ inner_gives T
inner-ended OptPipe.NoPipe e = refl
inner-ended (OptPipe.SomePipe p) e = may-ended true true p e

key-ended : (k : Key) (e : Expr) → key_gives (ended_key (Step.Filter e) k) ≡ key_gives k
key-ended (Key.Plain p) e = refl
key-ended (Key.Rollup all ps) e = refl
key-ended (Key.Recursive h p T) e = inner-ended T e

keys-ended : (ks : Keys) (e : Expr) → keys_give (ended_keys (Step.Filter e) ks) ≡ keys_give ks
keys-ended Keys.NoKeys e = refl
keys-ended (Keys.MoreKeys k ks) e = λ i. key-ended k e i && keys-ended ks e i

give-ended : (a : Bool) (ps : Pipes) (e : Expr) → branches_give a ps ≡ true → branches_give a (all_ended ps e) ≡ true
give-ended false ps e h = (ended-kept ps e).apart h
give-ended true Pipes.NoPipes e h = h
give-ended true (Pipes.MorePipes p ps) e h =
    and_both (may_give true true p) (branches_give true ps) (may_give true true (ended p (Step.Filter e))) (branches_give true (all_ended ps e)) (λ k. may-ended true true p e ∙ k) (give-ended true ps e) h

gives-ended : (a : Bool) (ps : Pipes) (e : Expr) → gives_alone a (Step.Concat ps) ≡ true → gives_alone a (Step.Concat (all_ended ps e)) ≡ true
gives-ended a ps e =
    and_both (gives_no_other ps) _ (gives_no_other (all_ended ps e)) _
    (or_both (some_own ps ps) (some_lasting ps ps) (some_own (all_ended ps e) (all_ended ps e)) (some_lasting (all_ended ps e) (all_ended ps e))
    (λ h. own-ended ps (all_ended ps e) e ∙ own-same ps ps (all_ended ps e) (λ x. beside-ended x ps e) ∙ h)
    (λ h. lasting-among (all_ended ps e) ps (all_ended ps e) (ended-kept ps e).never (lasting-ended ps ps e h)))
    (give-ended a ps e)

-- ---- steps before others

may-before : (b : Bool) (xs ys : List Step) → may_give true b (pipe (xs ++ ys)) ≡ true → may_give true b (pipe xs) ≡ true
may-before b [] ys h = refl
may-before b (x ∷ xs) ys h = and_both (step_apart x || gives_alone true x) (may_give true (stays_behind b x) (pipe (xs ++ ys))) (step_apart x || gives_alone true x) (may_give true (stays_behind b x) (pipe xs)) (λ h. h) (may-before (stays_behind b x) xs ys) h

may-identity : (b : Bool) (xs : List Step) → may_give true b (pipe xs) ≡ true → may_give true b (pipe_or_identity xs) ≡ true
may-identity b [] h = refl
may-identity b (x ∷ xs) h = h

-- ---- the rules

module _ (m : Model) (c : Customs) where
  pub identity-stay : KeepsStay m c drop_identity
  identity-stay S before Step.Identity ss ss' e =
      subst (λ l. StaySteps (Pipe.Then Step.Identity (pipe ss)) (pipe l)) (then_some-parts (before || is_nonempty ss) ss ss' e).1
      (same-front (Pipe.Then Step.Identity (pipe ss)) (pipe ss) refl (λ h. h) go)
    where
      go : (a b : Bool) → may_give a b (Pipe.Then Step.Identity (pipe ss)) ≡ true → may_give a b (pipe ss) ≡ true
      go a true h = h
      go a false h = h
  identity-stay S before s ss ss' e = none_or ss' e

  pub split-stay : KeepsStay m c split_conjunction
  split-stay S before (Step.Filter (Expr.Binary BinOp.And a b)) ss ss' e =
      let x = Step.Filter (Expr.Binary BinOp.And a b) in
      let made = Step.Filter a ∷ Step.Filter b ∷ ss in
      subst (λ l. StaySteps (Pipe.Then x (pipe ss)) (pipe l)) (then_some-parts (is_sure m S b) made ss' e).1
      (same-front (Pipe.Then x (pipe ss)) (pipe made) refl (λ h. h) (λ y z h. stay-filter y z a (Pipe.Then (Step.Filter b) (pipe ss)) ∙ stay-filter y z b (pipe ss) ∙ sym (stay-filter y z (Expr.Binary BinOp.And a b) (pipe ss)) ∙ h))
  split-stay S before s ss ss' e = none_or ss' e

  pub true-stay : KeepsStay m c drop_true
  true-stay S before (Step.Filter (Expr.Bool' true)) ss ss' e =
      let x = Step.Filter (Expr.Bool' true) in
      subst (λ l. StaySteps (Pipe.Then x (pipe ss)) (pipe l)) (some_value e)
      (same-front (Pipe.Then x (pipe ss)) (Pipe.Then Step.Identity (pipe ss)) refl (λ h. h) go)
    where
      go : (a b : Bool) → may_give a b (Pipe.Then (Step.Filter (Expr.Bool' true)) (pipe ss)) ≡ true → may_give a b (Pipe.Then Step.Identity (pipe ss)) ≡ true
      go a true h = h
      go a false h = h
  true-stay S before s ss ss' e = none_or ss' e

  pub compute-stay : KeepsStay m c pass_compute
  compute-stay S before (Step.Compute ns) ss ss' e = passing-stay m (after m c S (Step.Compute ns)) (λ b. not (list_any (is_among (map (λ x. x.name ∷ []) ns)) (paths b))) (Step.Compute ns) ss ss' refl e
  compute-stay S before s ss ss' e = none_or ss' e

  pub order-stay : KeepsStay m c pass_order
  order-stay S before (Step.OrderBy items) ss ss' e = passing-stay m S (λ b. true) (Step.OrderBy items) ss ss' refl (if_else-parts (order_sure m S items) (passing m S (λ b. true) (Step.OrderBy items) ss) ss' e).1
  order-stay S before s ss ss' e = none_or ss' e

  pub grouping-stay : (kind : RollupPart → Bool) → KeepsStay m c (pass_grouping kind)
  grouping-stay kind S before (Step.GroupBy ks T) ss ss' e =
      let x = Step.GroupBy ks T in
      let test : Expr → Bool = λ b. over (row_keys ks) b && is_sure m (after m c S x) b in
      passing-stay m (after m c S x) test x ss ss' refl (if_else-parts (kind (rollup_part (group_keys ks)) && grouping_quiet m c S ks T) (passing m (after m c S x) test x ss) ss' e).1
  grouping-stay kind S before s ss ss' e = none_or ss' e

  pub branches-stay : KeepsStay m c filter_branches
  branches-stay S before (Step.Concat ps) ss ss' e =
      let x = Step.Concat ps in
      let into : Expr → Step = λ b. concat (map (λ p. ended p (Step.Filter b)) (branches ps)) in
      taking-stay m (after m c S x) (λ b. list_all (λ p. is_some_and (λ S'. has_kind is_boolean_kind m S' b) (steps_shape m c S p)) (branches ps)) x into ss ss' refl refl e
      (λ b. refl) (λ b. refl) (λ a b. gives-ended a ps b) (λ b. concat-apart ps _ (ended-kept ps b)) (λ b. (refl, λ p. refl))
  branches-stay S before s ss ss' e = none_or ss' e

  pub join-stay : KeepsStay m c pass_join
  join-stay S before (Step.Join false n a T) ss ss' e =
      let x = Step.Join false n a T in
      let test : Expr → Bool = λ b. not (list_any (begins a) (paths b)) && is_sure m (after m c S x) b in
      passing-stay m (after m c S x) test x ss ss' refl (if_else-parts (join_quiet m c S n T) (passing m (after m c S x) test x ss) ss' e).1
  join-stay S before s ss ss' e = none_or ss' e

  pub related-stay : KeepsStay m c filter_related
  related-stay S before (Step.Join false n a T) ss ss' e =
      let x = Step.Join false n a T in
      taking-stay m (after m c S x) (λ b. is_nonempty (paths b) && list_all (begins a) (paths b)) x (λ b. Step.Join false n a (ended_inner T (Step.Filter (with_paths (drop 1) b)))) ss ss' refl refl e
      (λ b. refl) (λ b. refl) (λ a b. and_both a (inner_gives T) a (inner_gives (ended_inner T (Step.Filter (with_paths (drop 1) b)))) (λ h. h) (λ h. inner-ended T (with_paths (drop 1) b) ∙ h)) (λ b h. apart-ended_inner T (with_paths (drop 1) b) ∙ h) (λ b. (refl, λ p. refl))
  related-stay S before s ss ss' e = none_or ss' e

  pub outer_join-stay : KeepsStay m c pass_outer_join
  outer_join-stay S before (Step.Join true n a T) ss ss' e =
      let x = Step.Join true n a T in
      let test : Expr → Bool = λ b. not (list_any (begins a) (paths b)) in
      passing-stay m (after m c S x) test x ss ss' refl (if_else-parts (join_quiet m c S n T) (passing m (after m c S x) test x ss) ss' e).1
  outer_join-stay S before s ss ss' e = none_or ss' e

  pub aggregate-stay : KeepsStay m c drop_order
  aggregate-stay S before (Step.OrderBy items) (Step.Aggregate as' ∷ ss) ss' e =
      let made = Step.Aggregate as' ∷ ss in
      subst (λ l. StaySteps (Pipe.Then (Step.OrderBy items) (pipe made)) (pipe l)) (then_some-parts (order_sure m S items) made ss' e).1
      (soft-front (Step.OrderBy items) (pipe made) (pipe made) refl refl (record { ends = λ h. cc; kind = λ k h g. cc }) go)
    where
      go : (a b : Bool) → may_give a b (Pipe.Then (Step.OrderBy items) (Pipe.Then (Step.Aggregate as') (pipe ss))) ≡ true → may_give a b (Pipe.Then (Step.Aggregate as') (pipe ss)) ≡ true
      go a true h = h
      go a false h = h
  aggregate-stay S before s ss ss' e = none_or ss' e

  pub count-stay : KeepsStay m c join_counts
  count-stay S before (Step.TopBy t) (Step.TopBy u ∷ ss) ss' e =
      let a = chained (λ n. option_and_then (λ k. then_some (expr_same t.expr u.expr) (Step.TopBy (record t { limit = Limit.Count (min n k) }) ∷ ss)) (top_count u.bottom u.limit)) (top_count t.bottom t.limit) ss' e in
      let b = chained (λ k. then_some (expr_same t.expr u.expr) (Step.TopBy (record t { limit = Limit.Count (min a.0 k) }) ∷ ss)) (top_count u.bottom u.limit) ss' a.2 in
      let both = record t { limit = Limit.Count (min a.0 b.0) } in
      subst (λ l. StaySteps (Pipe.Then (Step.TopBy t) (Pipe.Then (Step.TopBy u) (pipe ss))) (pipe l)) (then_some-parts (expr_same t.expr u.expr) (Step.TopBy both ∷ ss) ss' b.2).1
      (soft-front (Step.TopBy t) (Pipe.Then (Step.TopBy u) (pipe ss)) (Pipe.Then (Step.TopBy both) (pipe ss)) refl refl (record { ends = λ h. refl; kind = λ k h g. g }) (go both))
    where
      go : (v : TopStep) (a b : Bool) → may_give a b (Pipe.Then (Step.TopBy t) (Pipe.Then (Step.TopBy u) (pipe ss))) ≡ true → may_give a b (Pipe.Then (Step.TopBy v) (pipe ss)) ≡ true
      go v a true h = h
      go v a false h = h
  count-stay S before s ss ss' e = none_or ss' e

  pub traverse-stay : KeepsStay m c pass_traverse
  traverse-stay S before (Step.Traverse v) ss ss' e = passing-stay m S (is_sure m S) (Step.Traverse v) ss ss' refl (if_some (is_risky S v.path) (passing m S (is_sure m S) (Step.Traverse v) ss) ss' e).1
  traverse-stay S before s ss ss' e = none_or ss' e

  pub nodes-stay : KeepsStay m c filter_nodes
  nodes-stay S before (Step.GroupBy ks T) ss ss' e =
      let x = Step.GroupBy ks T in
      let N = chained (λ N. if is_nodes (rollup_part (group_keys ks)) && grouping_quiet m c S ks T then node_taken m c S ks T ss N else None) (node_shape m c ks) ss' e in
      let q = if_else-parts (is_nodes (rollup_part (group_keys ks)) && grouping_quiet m c S ks T) (node_taken m c S ks T ss N.0) ss' N.2 in
      taking-stay m (after m c S x) (node_test m c S ks T N.0) x (λ b. Step.GroupBy (ended_keys (Step.Filter (on_node (N.0).1 b)) ks) T) ss ss' refl refl q.1
      (λ b. refl) (λ b. refl) (λ a b h. ap (λ z. a && (z && inner_gives T)) (keys-ended ks (on_node (N.0).1 b)) ∙ h) (λ b h. ap (λ z. z && inner_apart T) (apart-ended_keys ks (on_node (N.0).1 b)) ∙ h) (λ b. (refl, λ p. refl))
  nodes-stay S before s ss ss' e = none_or ss' e

  pub idle-stay : KeepsStay m c drop_idle
  idle-stay S before (Step.Climb up h p T d keep) ss ss' e =
      let t = chained (λ x. then_some (is_some_and (λ S'. is_idle m S' p x) (steps_shape m c S (pipe (all_but_last T)))) (Step.Climb up h p (pipe_or_identity (all_but_last T)) d keep ∷ ss)) (last_or None (steps T)) ss' e in
      let made = Step.Climb up h p (pipe_or_identity (all_but_last T)) d keep in
      let v = then_some-parts (is_some_and (λ S'. is_idle m S' p t.0) (steps_shape m c S (pipe (all_but_last T)))) (made ∷ ss) ss' t.2 in
      let whole : T ≡ pipe (all_but_last T ++ t.0 ∷ []) = sym (pipe-steps T) ∙ ap pipe (last-split (steps T) t.0 t.1) in
      subst (λ l. StaySteps (Pipe.Then (Step.Climb up h p T d keep) (pipe ss)) (pipe l)) v.1
      (soft-front (Step.Climb up h p T d keep) (pipe ss) (Pipe.Then made (pipe ss)) refl refl (record { ends = λ h. refl; kind = λ k h g. g })
      (λ a b. with-first (Step.Climb up h p T d keep) made (pipe ss) (pipe ss) a b refl refl
      (and_both a (may_give true true T) a (may_give true true (pipe_or_identity (all_but_last T))) (λ z. z)
      (λ z. may-identity true (all_but_last T) (may-before true (all_but_last T) (t.0 ∷ []) (sym (ap (may_give true true) whole) ∙ z))))
      (λ z. apart-identity (all_but_last T) ∙ (and_parts (stays_apart (pipe (all_but_last T))) _ (sym (ap stays_apart whole ∙ apart-appended (all_but_last T) (t.0 ∷ [])) ∙ z)).0)
      (λ y h. h)))
  idle-stay S before s ss ss' e = none_or ss' e
