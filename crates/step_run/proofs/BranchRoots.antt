-- The type at the empty prefix of what the branches of a concatenation give.
use Rattle.std.proofs.Common.{◌≡◌, ℕ, refl, sym, ◌∙◌, ap, Bool, true, false, not, Option, Some, None, List, [], ◌∷◌, ◌++◌, append_assoc}
use Rattle.std.specs.Prelude.{is_some, option_and_then, option_map, if◌then◌else◌}
use Rattle.std.specs.Bool.{then_some}
use Rattle.std.specs.List.{list_all, list_any}
use Rattle.std.specs.Option.{option_or}
use Rattle.std.proofs.lemmas.Bool.{and_from, and_parts, or_left, or_right}
use Rattle.std.proofs.lemmas.List.{append-nil}
use Rattle.std.proofs.lemmas.List.Folds.{list_any-append}
use Rattle.edm_values.proofs.ListFacts.{all-append, none-each}
use Rattle.edm_values.proofs.OptionFacts.{all_some-parts, chained, if_else-parts, some_value, then_some-parts}
use Rattle.edm_values.proofs.SearchFacts.{find_map-append}
use Rattle.edm_values.specs.Lists.{all_some, find_map, first_some}
use Rattle.edm_model.specs.Models.{Model}
use Rattle.apply_ast.specs.Trees.{Pipe, Pipes, is_long}
use Rattle.context_typing.proofs.TypingEquations.{branch_shapes-MorePipes, branch_shapes-NoPipes}
use Rattle.context_typing.specs.Paths.{is_none_or}
use Rattle.context_typing.specs.Shapes.{RootShape, Shape}
use Rattle.context_typing.specs.Typing.{Customs, branch_shapes, concat_shape, merged_root, root_type, steps_shape}
use Rattle.step_run.specs.Roots.{PipeLeadsTo}

-- ---- the merged root

-- the type at a root, where no instance lacks it
abbrev type_of : Option RootShape → Option ℕ
type_of = option_and_then (λ r. then_some (not r.absent) r.of)

-- a root that is not there, or that an instance may lack
abbrev is_lacking : Shape → Bool
is_lacking T = is_none_or (λ r. r.absent) T.root

-- a shape has a type at its empty prefix
abbrev is_rooted : Shape → Bool
is_rooted T = is_some (root_type T)

there : (o : Option RootShape) → is_some (type_of o) ≡ true → is_none_or (λ r. r.absent) o ≡ false
there None h = cc
there (Some r) h = go r.absent h
  where
    go : (b : Bool) → is_some (then_some (not b) r.of) ≡ true → b ≡ false
    go true h = cc
    go false h = refl

lacking : (o : Option RootShape) → type_of o ≡ None → is_none_or (λ r. r.absent) o ≡ true
lacking None h = refl
lacking (Some r) h = go r.absent h
  where
    go : (b : Bool) → then_some (not b) r.of ≡ None → b ≡ true
    go true h = refl
    go false h = cc

-- the first type is that of the first shape
first-type : (Ss : List Shape) → list_all is_rooted Ss ≡ true → option_map (λ r. r.of) (find_map (λ T. T.root) Ss) ≡ find_map root_type Ss
first-type [] h = refl
first-type (T ∷ Ts) h = go T.root (and_parts (is_rooted T) (list_all is_rooted Ts) h).0
  where
    go : (o : Option RootShape) → is_some (type_of o) ≡ true → option_map (λ r. r.of) (first_some o (find_map (λ T. T.root) Ts)) ≡ first_some (type_of o) (find_map root_type Ts)
    go None h = cc
    go (Some r) h = ap (λ b. first_some (then_some (not b) r.of) (find_map root_type Ts)) (sym (there (Some r) h))

-- the merged root has the type of the first where none is lacking, and none where one is
merged-there : (Ss : List Shape) (o : Option RootShape) → list_any is_lacking Ss ≡ false → type_of (option_map (merged_root Ss) o) ≡ option_map (λ r. r.of) o
merged-there Ss None h = refl
merged-there Ss (Some r) h = ap (λ b. then_some (not b) r.of) h

merged-lacking : (Ss : List Shape) (o : Option RootShape) → list_any is_lacking Ss ≡ true → type_of (option_map (merged_root Ss) o) ≡ None
merged-lacking Ss None h = refl
merged-lacking Ss (Some r) h = ap (λ b. then_some (not b) r.of) h

-- the type after a typed concatenation: that of the first branch where each has one
pub concat-rooted : (m : Model) (Ss : List Shape) (S' : Shape) → concat_shape m Ss ≡ Some S' → list_all is_rooted Ss ≡ true → root_type S' ≡ find_map root_type Ss
concat-rooted m Ss S' t h =
    sym (ap root_type (then_some-parts _ _ S' t).1)
    ∙ merged-there Ss (find_map (λ T. T.root) Ss) (none-each is_rooted is_lacking Ss h (λ T k. there T.root k))
    ∙ first-type Ss h

-- and none where a branch has none
pub concat-lacking : (m : Model) (front : List Shape) (T : Shape) (back : List Shape) (S' : Shape) → concat_shape m (front ++ T ∷ back) ≡ Some S' → root_type T ≡ None → root_type S' ≡ None
concat-lacking m front T back S' t h =
    let Ss = front ++ T ∷ back in
    sym (ap root_type (then_some-parts _ _ S' t).1)
    ∙ merged-lacking Ss (find_map (λ T. T.root) Ss)
    (list_any-append is_lacking front (T ∷ back) ∙ or_right (list_any is_lacking front) _ (or_left (is_lacking T) (list_any is_lacking back) (lacking T.root h)))

-- ---- from one branch to the next

-- the shapes after the branches so far have types at their empty prefixes, the first of which is this, and the rest are those after the other branches
pub record Passed (m : Model) (c : Customs) (S : Shape) (Ss : List Shape) (ps : Pipes) (first : Option ℕ) : Type 0 where
  pub front : List Shape
  pub back : List Shape
  pub whole : front ++ back ≡ Ss
  pub typed : all_some (branch_shapes m c S ps) ≡ Some back
  pub rooted : list_all (λ T. is_some (root_type T)) front ≡ true
  pub first_is : find_map root_type front ≡ first

pub none-passed : (m : Model) (c : Customs) (S : Shape) (Ss : List Shape) (ps : Pipes) → all_some (branch_shapes m c S ps) ≡ Some Ss → Passed m c S Ss ps None
none-passed m c S Ss ps t = record { front = []; back = Ss; whole = refl; typed = t; rooted = refl; first_is = refl }

-- the shape after the next branch
next-shape : (m : Model) (c : Customs) (S : Shape) (P : Pipes) (p : Pipe) (ps : Pipes) (Ts : List Shape) → P ≡ Pipes.MorePipes p ps → all_some (branch_shapes m c S P) ≡ Some Ts
    → (T : Shape) × (steps_shape m c S p ≡ Some T) × (rest : List Shape) × (all_some (branch_shapes m c S ps) ≡ Some rest) × (T ∷ rest ≡ Ts)
next-shape m c S P p ps Ts e t =
    let k = all_some-parts (if is_long p then steps_shape m c S p else None) (branch_shapes m c S ps) Ts (ap all_some (sym (branch_shapes-MorePipes m c S p ps)) ∙ ap (λ P. all_some (branch_shapes m c S P)) (sym e) ∙ t) in
    (k.0, (if_else-parts (is_long p) (steps_shape m c S p) k.0 k.1).1, k.2, k.3, k.4)

or-first : (first : Option ℕ) (b : ℕ) → first_some first (Some b) ≡ option_or first (Some b)
or-first None b = refl
or-first (Some t) b = refl

-- a branch that has a type
pub passed-next : (m : Model) (c : Customs) (S : Shape) (Ss : List Shape) (P : Pipes) (p : Pipe) (ps : Pipes) (root first : Option ℕ) (b : ℕ) → P ≡ Pipes.MorePipes p ps
    → PipeLeadsTo p root (Some b) → root_type S ≡ root → Passed m c S Ss P first → Passed m c S Ss ps (option_or first (Some b))
passed-next m c S Ss P p ps root first b e leads r h =
    let k = next-shape m c S P p ps h.back e h.typed in
    let t : root_type k.0 ≡ Some b = leads m c S k.0 k.1 r in
    record {
      front = h.front ++ k.0 ∷ [];
      back = k.2;
      whole = append_assoc h.front (k.0 ∷ []) k.2 ∙ ap (λ Ts. h.front ++ Ts) k.4 ∙ h.whole;
      typed = k.3;
      rooted = all-append (λ T. is_some (root_type T)) h.front (k.0 ∷ []) h.rooted (and_from _ _ (ap is_some t) refl);
      first_is = find_map-append root_type h.front (k.0 ∷ []) ∙ (λ i. first_some (h.first_is i) (first_some (t i) None)) ∙ or-first first b;
    }

-- a branch that has none
pub passed-none : (m : Model) (c : Customs) (S S' : Shape) (Ss : List Shape) (P : Pipes) (p : Pipe) (ps : Pipes) (root first : Option ℕ) → P ≡ Pipes.MorePipes p ps
    → PipeLeadsTo p root None → root_type S ≡ root → Passed m c S Ss P first → concat_shape m Ss ≡ Some S' → root_type S' ≡ None
passed-none m c S S' Ss P p ps root first e leads r h t =
    let k = next-shape m c S P p ps h.back e h.typed in
    concat-lacking m h.front k.0 k.2 S' (ap (concat_shape m) (ap (λ Ts. h.front ++ Ts) k.4 ∙ h.whole) ∙ t) (leads m c S k.0 k.1 r)

-- all branches
pub passed-all : (m : Model) (c : Customs) (S S' : Shape) (Ss : List Shape) (P : Pipes) (first : Option ℕ) → P ≡ Pipes.NoPipes → Passed m c S Ss P first → concat_shape m Ss ≡ Some S' → root_type S' ≡ first
passed-all m c S S' Ss P first e h t =
    let none : h.back ≡ [] = some_value (sym h.typed ∙ ap (λ P. all_some (branch_shapes m c S P)) e ∙ ap all_some (branch_shapes-NoPipes m c S)) in
    let all : h.front ≡ Ss = sym (append-nil h.front) ∙ ap (λ Ts. h.front ++ Ts) (sym none) ∙ h.whole in
    concat-rooted m Ss S' t (ap (list_all is_rooted) (sym all) ∙ h.rooted) ∙ ap (find_map root_type) (sym all) ∙ h.first_is

-- the shapes after the branches of a typed concatenation
pub branches-typed : (m : Model) (c : Customs) (S S' : Shape) (ps : Pipes) → option_and_then (concat_shape m) (all_some (branch_shapes m c S ps)) ≡ Some S'
    → (Ss : List Shape) × (all_some (branch_shapes m c S ps) ≡ Some Ss) × (concat_shape m Ss ≡ Some S')
branches-typed m c S S' ps t = chained (concat_shape m) (all_some (branch_shapes m c S ps)) S' t
