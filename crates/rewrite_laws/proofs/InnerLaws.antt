-- What is made of inner pipelines that are typed: it fits, and where they are quiet, there is something.
use Rattle.std.proofs.Common.{◌≡◌, refl, ap, subst, true, false, not, List, [], ◌∷◌, Some, IsTrue}
use Rattle.std.specs.Prelude.{is_some, flat_map}
use Rattle.std.specs.List.{list_all, list_any}
use Rattle.std.proofs.lemmas.Bool.{or_from}
use Rattle.edm_values.specs.Names.{Path}
use Rattle.edm_values.specs.Values.{is_beyond}
use Rattle.edm_values.proofs.EachLemmas.{and-left, and-right}
use Rattle.edm_values.proofs.ListFacts.{none-flat_map}
use Rattle.edm_values.proofs.OptionFacts.{some_value, if_else-parts}
use Rattle.edm_data.specs.Worlds.{World}
use Rattle.apply_ast.specs.Trees.{Expr, OptPipe, is_long}
use Rattle.context_typing.specs.Shapes.{Shape}
use Rattle.context_typing.specs.Typing.{Customs, steps_shape, inner_shape, inner_quiet, is_quiet, is_risky, path_kind, is_lawful, customs_typed}
use Rattle.apply_meaning.specs.Instances.{Instance, fits}
use Rattle.apply_meaning.specs.Meaning.{Outcome, mean, inner_mean, key_list}
use Rattle.apply_meaning.specs.MeaningLaws.{AllFit}
use Rattle.rewrite_laws.proofs.RuleLemmas.{Laws}

module _ (A : World → Type 0) (L : Laws A) (w : World) (c : Customs) (a : A w) (k : IsTrue (customs_typed w.model c)) (S d G : Shape) (T : OptPipe) (law : IsTrue (is_lawful w.model S)) (e : inner_shape w.model c S d T ≡ Some G) where
  pub inner-runs : inner_quiet w.model c S T ≡ true → (f : List Instance → Outcome) → ((l : List Instance) → is_some (f l) ≡ true) → (l : List Instance) → AllFit w S l → is_some (inner_mean w c S f T l) ≡ true
  unfolding mean steps_shape is_quiet
  inner-runs q f g l fit = go T e q
    where
      go : (T : OptPipe) → inner_shape w.model c S d T ≡ Some G → inner_quiet w.model c S T ≡ true → is_some (inner_mean w c S f T l) ≡ true
      go OptPipe.NoPipe e q = g l
      go (OptPipe.SomePipe p) e q = let t = if_else-parts (is_long p) (steps_shape w.model c S p) G e in ap is_some (L.quiet w c S G p l a k law (t.0, t.1) q fit).1

  pub inner-fits : (f : List Instance → Outcome) → ((l r : List Instance) → AllFit w S l → f l ≡ Some r → AllFit w d r) → (l r : List Instance) → AllFit w S l → inner_mean w c S f T l ≡ Some r → AllFit w G r
  unfolding mean steps_shape
  inner-fits f h l r fit m = go T e m
    where
      go : (T : OptPipe) → inner_shape w.model c S d T ≡ Some G → inner_mean w c S f T l ≡ Some r → AllFit w G r
      go OptPipe.NoPipe e m = subst (λ Z. AllFit w Z r) (some_value e) (h l r fit m)
      go (OptPipe.SomePipe p) e m = let t = if_else-parts (is_long p) (steps_shape w.model c S p) G e in L.fitting w c S G p l r a k law (t.0, t.1) fit m

-- no key is Beyond that is not risky
pub keys-none : (A : World → Type 0) → Laws A → (w : World) → A w → (S : Shape) (ps : List Path) (l : List Instance) → list_all (λ p. is_some (path_kind w.model S p)) ps ≡ true → list_all (λ p. not (is_risky S p)) ps ≡ true
    → AllFit w S l → list_any is_beyond (flat_map (key_list w ps) l) ≡ false
keys-none A L w a S ps l t s f = none-flat_map (fits w S) is_beyond (key_list w ps) l f (λ i g. each i g ps t s)
  where
    each : (i : Instance) → fits w S i ≡ true → (ps : List Path) → list_all (λ p. is_some (path_kind w.model S p)) ps ≡ true → list_all (λ p. not (is_risky S p)) ps ≡ true → list_any is_beyond (key_list w ps i) ≡ false
    each i g [] t s = refl
    each i g (p ∷ ps) t s =
        or_from _ _ (L.sure w S (Expr.Path' p) i a (and-left (is_some (path_kind w.model S p)) _ t) (and-left (not (is_risky S p)) _ s) g)
        (each i g ps (and-right (is_some (path_kind w.model S p)) _ t) (and-right (not (is_risky S p)) _ s))
