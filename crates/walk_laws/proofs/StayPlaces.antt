-- What a rule but the ninth makes of a typed pipeline, at whatever place, keeps that filters stay before the concatenation that gives them, where what it makes at its place does.
use Rattle.std.proofs.Common.{◌≡◌, refl, sym, ◌∙◌, ap, Bool, true, ◌&&◌, false, not, ◌||◌, Option, Some, None, IsTrue, if◌then◌else◌}
use Rattle.std.specs.Prelude.{option_and_then}
use Rattle.std.proofs.lemmas.Bool.{and_from, and_parts, true≢false}
use Rattle.edm_values.proofs.EachLemmas.{Each}
use Rattle.edm_values.proofs.OptionFacts.{none_or, some_value}
use Rattle.edm_model.specs.Models.{Model}
use Rattle.apply_ast.specs.Trees.{Key, Keys, OptPipe, Pipe, Pipes, Step, is_long}
use Rattle.context_typing.specs.Shapes.{Shape}
use Rattle.context_typing.specs.Typing.{Customs, customs_typed, is_lawful, steps_shape}
use Rattle.context_typing.specs.TypingLaws.{TypingKeepsLawful}
use Rattle.rewrite_laws.specs.Rewrites.{Rule, pipe_results}
use Rattle.rewrite_laws.specs.RewriteLaws.{KeepsOutcomeInPlace}
use Rattle.rewrite_laws.proofs.EachPlace.{Respected, pipe_each}
use Rattle.walk_laws.specs.Apart.{branches_apart, inner_apart, is_firm, is_loose, key_apart, keys_apart, leads_to, some_never, stays_apart}
use Rattle.walk_laws.specs.FiltersOut.{branches_give, front_of, gives_alone, gives_no_other, has_own_front, inner_gives, is_stop, key_gives, keys_give, lasting_kind, lasts, may_give, solid_kind, some_beside, some_lasting, some_own}
use Rattle.edm_values.specs.Lists.{is_some_and}
use Rattle.walk_laws.proofs.Lasting.{lasting-among, lasting-behind, lasting-kept}
use Rattle.walk_laws.proofs.ApartPlaces.{kept-respected}
use Rattle.walk_laws.proofs.ApartRules.{KeepsApart}
use Rattle.walk_laws.proofs.ApartSteps.{KeptBranches, KeptStep, KeptSteps}
use Rattle.walk_laws.proofs.StayRules.{KeepsStay, StaySteps, and_both, front-first, or_both, with-first}

-- a step that has pipelines inside it comes to another
record StayStep (s s' : Step) : Type 0 where
  tight : is_loose s ≡ false
  tight' : is_loose s' ≡ false
  stop : is_stop s' ≡ is_stop s
  gives : (a : Bool) → gives_alone a s ≡ true → gives_alone a s' ≡ true
  kind : solid_kind s' ≡ solid_kind s
  ends : (p : Pipe) → lasts (Pipe.Then s' p) ≡ lasts (Pipe.Then s p)

-- branches come to others
record StayBranches (ps qs : Pipes) : Type 0 where
  beside : (x : Step) → is_firm x ≡ true → is_loose x ≡ false → some_beside x ps ≡ true → some_beside x qs ≡ true
  own : (all : Pipes) → some_own all ps ≡ true → some_own all qs ≡ true
  lasting : (all : Pipes) → some_lasting all ps ≡ true → some_lasting all qs ≡ true
  give : (a : Bool) → branches_give a ps ≡ true → branches_give a qs ≡ true

-- with what keeps branches apart
abbrev pub BothSteps : Pipe → Pipe → Type 0
BothSteps p q = KeptSteps p q × StaySteps p q

abbrev BothStep : Step → Step → Type 0
BothStep s s' = KeptStep s s' × StayStep s s'

abbrev BothBranches : Pipes → Pipes → Type 0
BothBranches ps qs = KeptBranches ps qs × StayBranches ps qs

abbrev ApartInner : OptPipe → OptPipe → Type 0
ApartInner T T' = inner_apart T ≡ true → inner_apart T' ≡ true

abbrev KeptInner : OptPipe → OptPipe → Type 0
KeptInner T T' = ApartInner T T' × (inner_gives T ≡ true → inner_gives T' ≡ true)

abbrev ApartKey : Key → Key → Type 0
ApartKey k k' = key_apart k ≡ true → key_apart k' ≡ true

abbrev ApartKeys : Keys → Keys → Type 0
ApartKeys ks ks' = keys_apart ks ≡ true → keys_apart ks' ≡ true

abbrev KeptKey : Key → Key → Type 0
KeptKey k k' = ApartKey k k' × (key_gives k ≡ true → key_gives k' ≡ true)

abbrev KeptKeys : Keys → Keys → Type 0
KeptKeys ks ks' = ApartKeys ks ks' × (keys_give ks ≡ true → keys_give ks' ≡ true)

-- a front is no filter
front-tight : (p : Pipe) (x : Step) → front_of p ≡ Some x → is_loose x ≡ false
front-tight Pipe.End x h = none_or x h
front-tight (Pipe.Then s p) x h = go (is_loose s) refl (front-tight p x) h
  where
    go : (l : Bool) → is_loose s ≡ l → (front_of p ≡ Some x → is_loose x ≡ false) → (if l then front_of p else Some s) ≡ Some x → is_loose x ≡ false
    go true e k h = k h
    go false e k h = ap is_loose (sym (some_value h)) ∙ e

-- among other branches
pub own-among : (ps a b : Pipes) → ((x : Step) → is_firm x ≡ true → is_loose x ≡ false → some_beside x a ≡ true → some_beside x b ≡ true) → some_own a ps ≡ true → some_own b ps ≡ true
own-among Pipes.NoPipes a b f h = h
own-among (Pipes.MorePipes p ps) a b f h = or_both (has_own_front a (front_of p)) (some_own a ps) (has_own_front b (front_of p)) (some_own b ps) (go (front_of p) (front-tight p)) (own-among ps a b f) h
  where
    go : (o : Option Step) → ((x : Step) → o ≡ Some x → is_loose x ≡ false) → has_own_front a o ≡ true → has_own_front b o ≡ true
    go None k h = h
    go (Some x) k h = let t = and_parts (is_firm x) (some_beside x a) h in and_from (is_firm x) (some_beside x b) t.0 (f x t.0 (k x refl) t.1)

stay-with_step : (s s' : Step) (p : Pipe) → BothStep s s' → StaySteps (Pipe.Then s p) (Pipe.Then s' p)
stay-with_step s s' p k = record {
  bare = λ h. none_or s (sym h ∙ front-first s p k.1.tight);
  front = λ x g h. absurd (true≢false (sym g ∙ ap is_firm (some_value (sym h ∙ front-first s p k.1.tight)) ∙ k.0.soft));
  stay = λ a b. with-first s s' p p a b k.1.stop (k.1.tight' ∙ sym k.1.tight) (k.1.gives a) k.0.apart (λ y h. h);
  last = record {
    ends = λ h. k.1.ends p ∙ h;
    kind = λ x h g. ap (option_and_then solid_kind) (front-first s' p k.1.tight') ∙ k.1.kind ∙ sym (ap (option_and_then solid_kind) (front-first s p k.1.tight)) ∙ g;
  };
}

stay-with_rest : (s : Step) (p q : Pipe) → BothSteps p q → StaySteps (Pipe.Then s p) (Pipe.Then s q)
stay-with_rest s p q k = record {
  bare = bare (is_loose s);
  front = λ x g. front (is_loose s) x g;
  stay = λ a b. with-first s s p q a b refl refl (λ h. h) (λ h. h) (k.1.stay a);
  last = lasting-behind s p q k.1.last;
}
  where
    bare : (l : Bool) → (if l then front_of p else Some s) ≡ None → (if l then front_of q else Some s) ≡ None
    bare true h = k.1.bare h
    bare false h = h

    front : (l : Bool) (x : Step) → is_firm x ≡ true → (if l then front_of p else Some s) ≡ Some x → (if l then front_of q else Some s) ≡ Some x
    front true x g h = k.1.front x g h
    front false x g h = h

stay-with_branch : (p q : Pipe) (ps : Pipes) → BothSteps p q → StayBranches (Pipes.MorePipes p ps) (Pipes.MorePipes q ps)
stay-with_branch p q ps k = record {
  beside = λ x f l. or_both (not (leads_to x p)) (some_beside x ps) (not (leads_to x q)) (some_beside x ps) (λ h. ap not (k.0.leads x f l) ∙ h) (λ h. h);
  own = λ all. or_both (has_own_front all (front_of p)) (some_own all ps) (has_own_front all (front_of q)) (some_own all ps) (go all (front_of p) k.1.bare k.1.front) (λ h. h);
  lasting = λ all.
      or_both (is_some_and (λ x. some_never x all) (lasting_kind p)) (some_lasting all ps) (is_some_and (λ x. some_never x all) (lasting_kind q)) (some_lasting all ps)
      (lasting-kept (λ x. some_never x all) p q k.1.last) (λ h. h);
  give = give;
}
  where
    go : (all : Pipes) (o : Option Step) → (o ≡ None → front_of q ≡ None) → ((x : Step) → is_firm x ≡ true → o ≡ Some x → front_of q ≡ Some x) → has_own_front all o ≡ true → has_own_front all (front_of q) ≡ true
    go all None e f h = ap (has_own_front all) (e refl)
    go all (Some x) e f h = let t = and_parts (is_firm x) (some_beside x all) h in ap (has_own_front all) (f x t.0 refl) ∙ h

    give : (a : Bool) → branches_give a (Pipes.MorePipes p ps) ≡ true → branches_give a (Pipes.MorePipes q ps) ≡ true
    give false = and_both (stays_apart p) (branches_apart ps) (stays_apart q) (branches_apart ps) k.0.apart (λ h. h)
    give true = and_both (may_give true true p) (branches_give true ps) (may_give true true q) (branches_give true ps) (k.1.stay true true) (λ h. h)

stay-with_other_branches : (p : Pipe) (ps qs : Pipes) → BothBranches ps qs → StayBranches (Pipes.MorePipes p ps) (Pipes.MorePipes p qs)
stay-with_other_branches p ps qs k = record {
  beside = λ x f l. or_both (not (leads_to x p)) (some_beside x ps) (not (leads_to x p)) (some_beside x qs) (λ h. h) (k.1.beside x f l);
  own = λ all. or_both (has_own_front all (front_of p)) (some_own all ps) (has_own_front all (front_of p)) (some_own all qs) (λ h. h) (k.1.own all);
  lasting = λ all.
      or_both (is_some_and (λ x. some_never x all) (lasting_kind p)) (some_lasting all ps) (is_some_and (λ x. some_never x all) (lasting_kind p)) (some_lasting all qs) (λ h. h) (k.1.lasting all);
  give = give;
}
  where
    give : (a : Bool) → branches_give a (Pipes.MorePipes p ps) ≡ true → branches_give a (Pipes.MorePipes p qs) ≡ true
    give false = and_both (stays_apart p) (branches_apart ps) (stays_apart p) (branches_apart qs) (λ h. h) (k.1.give false)
    give true = and_both (may_give true true p) (branches_give true ps) (may_give true true p) (branches_give true qs) (λ h. h) (k.1.give true)

stay-with_branches : (ps qs : Pipes) → BothBranches ps qs → StayStep (Step.Concat ps) (Step.Concat qs)
stay-with_branches ps qs k = record {
  tight = refl;
  tight' = refl;
  stop = refl;
  gives = λ a.
      and_both (gives_no_other ps) (branches_give a ps) (gives_no_other qs) (branches_give a qs)
      (or_both (some_own ps ps) (some_lasting ps ps) (some_own qs qs) (some_lasting qs qs) (λ h. own-among qs ps qs k.1.beside (k.1.own ps h)) (λ h. lasting-among qs ps qs k.0.never (k.1.lasting ps h))) (k.1.give a);
  kind = refl;
  ends = λ p. refl;
}

module _ (m : Model) (c : Customs) where
  R : Respected m c (λ S. KeptSteps) (λ S. KeptStep) (λ S. ApartInner) (λ S. KeptBranches) ApartKey ApartKeys
  R = kept-respected m c

  both-respected : Respected m c (λ S. BothSteps) (λ S. BothStep) (λ S. KeptInner) (λ S. BothBranches) KeptKey KeptKeys
  both-respected = record {
    with_step = λ S s s' p k. (R.with_step S s s' p k.0, stay-with_step s s' p k);
    with_rest = λ S S' s p q law e k. (R.with_rest S S' s p q law e k.0, stay-with_rest s p q k);
    with_inner = λ S p q l l' k. (R.with_inner S p q l l' k.0, k.1.stay true true);
    with_branch = λ S p q ps l l' k. (R.with_branch S p q ps l l' k.0, stay-with_branch p q ps k);
    with_other_branches = λ S p ps qs k. (R.with_other_branches S p ps qs k.0, stay-with_other_branches p ps qs k);
    with_group_keys = λ S ks ks' T k. (R.with_group_keys S ks ks' T k.0, record { tight = refl; tight' = refl; stop = refl; kind = refl; ends = λ p. refl; gives = λ a. and_both a (keys_give ks && inner_gives T) a (keys_give ks' && inner_gives T) (λ h. h) (and_both (keys_give ks) (inner_gives T) (keys_give ks') (inner_gives T) k.1 (λ h. h)) });
    with_group_inner = λ S ks T T' k. (R.with_group_inner S ks T T' k.0, record { tight = refl; tight' = refl; stop = refl; kind = refl; ends = λ p. refl; gives = λ a. and_both a (keys_give ks && inner_gives T) a (keys_give ks && inner_gives T') (λ h. h) (and_both (keys_give ks) (inner_gives T) (keys_give ks) (inner_gives T') (λ h. h) k.1) });
    with_branches = λ S ps qs k. (R.with_branches S ps qs k.0, stay-with_branches ps qs k);
    with_join = λ S outer n a v T T' e k. (R.with_join S outer n a v T T' e k.0, record { tight = refl; tight' = refl; stop = refl; kind = refl; ends = λ p. refl; gives = λ a. and_both a (inner_gives T) a (inner_gives T') (λ h. h) k.1 });
    with_climb = λ S up h p T T' d keep l l' k. (R.with_climb S up h p T T' d keep l l' k.0, record { tight = refl; tight' = refl; stop = refl; kind = refl; ends = λ p. refl; gives = λ a. and_both a (may_give true true T) a (may_give true true T') (λ h. h) (k.1.stay true true) });
    with_recursive = λ h f p T T' e k. (R.with_recursive h f p T T' e k.0, k.1);
    with_key = λ k k' ks f. (R.with_key k k' ks f.0, and_both (key_gives k) (keys_give ks) (key_gives k') (keys_give ks) f.1 (λ h. h));
    with_keys = λ k ks ks' f. (R.with_keys k ks ks' f.0, and_both (key_gives k) (keys_give ks) (key_gives k) (keys_give ks') (λ h. h) f.1);
  }

  -- what a rule makes of a typed pipeline keeps that filters stay
  pub stay_anywhere : TypingKeepsLawful (λ m. Unit {0}) → (r : Rule) → KeepsOutcomeInPlace r → KeepsApart m c r → KeepsStay m c r → (S S' : Shape) (before : Bool) (p : Pipe) → IsTrue (customs_typed m c) → IsTrue (is_lawful m S) → steps_shape m c S p ≡ Some S'
      → Each (λ q. IsTrue (before || is_long q) × BothSteps p q) (pipe_results r m c S before p)
  unfolding steps_shape
  stay_anywhere L r K A Z S S' before p k law e =
      pipe_each m c (λ S. BothSteps) (λ S. BothStep) (λ S. KeptInner) (λ S. BothBranches) KeptKey KeptKeys both-respected r
      (λ S S' before s ss ss' l e o. ((K m c S S' before s ss ss' k l e o).0, (A S before s ss ss' o, Z S before s ss ss' o)))
      (λ S S' s l e. L m c S S' (Pipe.Then s Pipe.End) tt l (refl, ap (option_and_then (λ (U : Shape). Some U)) e))
      p S S' before law e
