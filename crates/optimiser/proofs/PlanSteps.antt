-- From what each rule makes of a typed pipeline at its first place to what the first of them makes that applies.
use Rattle.std.proofs.Common.{◌≡◌, ◌∙◌, refl, sym, ap, subst, ℕ, ◌+◌, ◌<◌, ◌≤◌, List, [], ◌∷◌, ◌++◌, Option, Some, None, map, take, drop, length, get_or}
use Rattle.std.specs.Prelude.{slice_get}
use Rattle.std.proofs.lemmas.List.{drop-map, get_or_default, take-map, take_all}
use Rattle.edm_values.specs.Lists.{find_map, first_some}
use Rattle.edm_model.specs.Models.{Model}
use Rattle.apply_ast.specs.Trees.{Pipe}
use Rattle.apply_ast.specs.Views.{pipe_of}
use Rattle.apply_meaning.specs.MeaningLaws.{IsLoaded}
use Rattle.context_typing.specs.Answers.{IsTyping}
use Rattle.context_typing.specs.Typing.{Customs, shape_of_set, steps_shape}
use Rattle.context_typing.specs.declared.typed.Typed.{Typed}
use Rattle.rewrite_places.specs.Places.{IsFirst, MayStand}
use Rattle.rewrite_rules.specs.RuleNames.{rule_of}
use Rattle.rewrite_rules.specs.declared.rules.RuleName.{RuleName}
use Rattle.rewrite_forms.proofs.CutLists.{mapped-next, mapped-whole}
use Rattle.rewrite_laws.specs.RewriteLaws.{MayStandFor}
use Rattle.rewrite_laws.specs.Rewrites.{Rule, first_rewrite, rules}
use Rattle.walk_laws.specs.Walks.{Early, rules_of}
use Rattle.optimiser.specs.Plans.{IsFirstOf, later_rules}

-- a search in a list, and then in another
pub found-append : {X Y : Type 0} (f : X → Option Y) (xs ys : List X) → find_map f (xs ++ ys) ≡ first_some (find_map f xs) (find_map f ys)
found-append f [] ys = refl
found-append f (x ∷ xs) ys = ap (first_some (f x)) (found-append f xs ys) ∙ sym (first_some-assoc (f x) (find_map f xs) (find_map f ys))
  where
    first_some-assoc : {Y : Type 0} (a b d : Option Y) → first_some (first_some a b) d ≡ first_some a (first_some b d)
    first_some-assoc None b d = refl
    first_some-assoc (Some y) b d = refl

module _ (m : Model) (c : Customs) (t : Typed) where
  abbrev First : Rule → Option Pipe
  First r = first_rewrite r m c (shape_of_set m t.set) (pipe_of t.pipe)

  -- none of the first rules of a list applies
  abbrev pub NoneOf : List RuleName → Type 0
  NoneOf ns = find_map First (map rule_of ns) ≡ None

  -- nor the next
  pub none-more : (ns : List RuleName) (i : ℕ) (d : RuleName) (o : Option Typed) → i < length ns → NoneOf (take i ns) → o ≡ None → IsFirst (rule_of (get_or ns i d)) m c t o → NoneOf (take (i + 1) ns)
  none-more ns i d o h none e first =
      let n = get_or ns i d in
      let k : First (rule_of n) ≡ None = ap (λ l. slice_get l 0) (subst (IsFirst (rule_of n) m c t) e first) in
      ap (find_map First) (mapped-next rule_of ns i n h (get_or_default ns i d n h))
      ∙ found-append First (map rule_of (take i ns)) (rule_of n ∷ [])
      ∙ (λ j. first_some (none j) (first_some (k j) None))

  -- the next one applies
  pub found-next : (ns : List RuleName) (i : ℕ) (d : RuleName) (o : Option Typed) (q : Typed) → i < length ns → NoneOf (take i ns) → o ≡ Some q → IsFirst (rule_of (get_or ns i d)) m c t o → IsFirstOf (map rule_of ns) m c t (Some q)
  found-next ns i d o q h none e first =
      let n = get_or ns i d in
      let k = subst (IsFirst (rule_of n) m c t) e first in
      let rest = map rule_of (drop (i + 1) ns) in (
        k.0,
        k.1,
        ap (find_map First) (mapped-whole rule_of ns i n h (get_or_default ns i d n h))
            ∙ found-append First (map rule_of (take i ns)) (rule_of n ∷ rest)
            ∙ (λ j. first_some (none j) (first_some (k.2 j) (find_map First rest))),
      )

  -- none of all applies
  pub none-at_all : (ns : List RuleName) (i : ℕ) → length ns ≤ i → NoneOf (take i ns) → IsFirstOf (map rule_of ns) m c t None
  none-at_all ns i h none = ap (λ l. find_map First (map rule_of l)) (sym (take_all i ns h)) ∙ none

  -- what may stand for a pipeline with its shape is typed
  pub typing-kept : (q : Typed) → q.set ≡ t.set → q.shape ≡ t.shape → MayStandFor IsLoaded m c (shape_of_set m t.set) t.shape (pipe_of t.pipe) (pipe_of q.pipe) → IsTyping m c q
  typing-kept q set shape h = (h.typed.0, ap (λ s. steps_shape m c (shape_of_set m s) (pipe_of q.pipe)) set ∙ h.typed.1 ∙ ap Some (sym shape))

  -- so what a rule gives is typed
  pub first-typed : (r : Rule) (o : Option Typed) (q : Typed) → o ≡ Some q → IsFirst r m c t o → MayStand m c t o → IsTyping m c q
  first-typed r o q e h k =
      let first = subst (IsFirst r m c t) e h in
      typing-kept q first.0 first.1 (subst (MayStand m c t) e k)

-- the rules behind those of the early walk, as a slice has them
pub later-of : (ns : List RuleName) → map rule_of ns ≡ rules → map rule_of (take (length later_rules) (drop (length (rules_of Early)) ns)) ≡ later_rules
later-of ns e =
    let early = length (rules_of Early) in
    sym (take-map rule_of (length later_rules) (drop early ns)) ∙ ap (take (length later_rules)) (sym (drop-map rule_of early ns)) ∙ ap (λ l. take (length later_rules) (drop early l)) e
