-- Lists with a separator: what is read is in front, and what is in front is read.
use Rattle.std.proofs.Common.{◌≡◌, ℕ, zero, suc, ◌-◌, ◌<◌, ◌≤◌, List, [], ◌∷◌, ◌++◌, length, Option, Some, None, refl, sym, ap, subst, ◌∙◌, append_assoc, arith}
use Rattle.std.proofs.lemmas.List.{length-append, append-nil}
use Rattle.apply_ast.specs.Grammar.{Language, ◌·◌, listed, each_behind}
use Rattle.apply_grammar.specs.Reading.{◌>>=◌, Leaf, items_at, list_at}
use Rattle.apply_grammar.proofs.Runs.{bind_then, branch_then, branch_agree, bind_agree, is_none, recut, front_length, Front, then_front, word_front}
use Rattle.edm_values.proofs.OptionFacts.{some_value}

-- a reader of parts and one of separators, and the texts that they read; F may follow a part
pub record Items {X : Type 0} (S : Language) (L : X → Language) (sep : List ℕ → Option (List ℕ)) (item : List ℕ → Leaf X) (F : Language) : Type 0 where
  pub sep_is : (t r : List ℕ) → sep t ≡ Some r → Front S t r
  pub item_is : (t : List ℕ) (x : X × List ℕ) → item t ≡ Some x → Front (L x.0) t x.1
  pub item_front : (x : X) (a r : List ℕ) → L x a → F r → item (a ++ r) ≡ Some (x, r)
  pub sep_front : (s : List ℕ) (x : X) (a r : List ℕ) → S s → L x a → sep (s ++ (a ++ r)) ≡ Some (a ++ r)
  pub sep_follow : (s b : List ℕ) → S s → F (s ++ b)
  pub sep_some : (s : List ℕ) → S s → 0 < length s

items_is : {X : Type 0} {S : Language} {L : X → Language} {sep : List ℕ → Option (List ℕ)} {item : List ℕ → Leaf X} {F : Language} → Items S L sep item F → (f : ℕ) (x : X) (t s : List ℕ) → Front (L x) t s → {y : List X × List ℕ} → items_at sep item f s ≡ Some y → Front (listed S L (x ∷ y.0)) t y.1
unfolding items_at
items_is {S = S} {L = L} i zero x t s h {y} e = subst (λ y. Front (listed S L (x ∷ y.0)) t y.1) (some_value e) h
items_is {S = S} {L = L} {sep} {item} i (suc f) x t s h {y} e =
    branch_then (sep s) _ _ e
    (λ r g e. bind_then (item r) _ e (λ z k e. bind_then (items_at sep item f z.1) _ e (λ w l e.
    subst (λ y. Front (listed S L (x ∷ y.0)) t y.1) (some_value e)
    (then_front h (then_front (i.sep_is s r g) (items_is i f z.0 r z.1 (i.item_is r z k) l))))))
    (λ g e. subst (λ y. Front (listed S L (x ∷ y.0)) t y.1) (some_value e) h)

pub items_is_behind : {X : Type 0} {S : Language} {L : X → Language} {sep : List ℕ → Option (List ℕ)} {item : List ℕ → Leaf X} {F : Language} → Items S L sep item F → (f : ℕ) (s : List ℕ) {y : List X × List ℕ} → items_at sep item f s ≡ Some y → Front (each_behind S L y.0) s y.1
unfolding items_at
items_is_behind {S = S} {L = L} i zero s {y} e = subst (λ y. Front (each_behind S L y.0) s y.1) (some_value e) (word_front [] s s refl)
items_is_behind {S = S} {L = L} {sep} {item} i (suc f) s {y} e =
    branch_then (sep s) _ _ e
    (λ r g e. bind_then (item r) _ e (λ z k e. bind_then (items_at sep item f z.1) _ e (λ w l e.
    subst (λ y. Front (each_behind S L y.0) s y.1) (some_value e)
    (then_front (i.sep_is s r g) (then_front (i.item_is r z k) (items_is_behind i f z.1 l))))))
    (λ g e. subst (λ y. Front (each_behind S L y.0) s y.1) (some_value e) (word_front [] s s refl))

pub list_is : {X : Type 0} {S : Language} {L : X → Language} {sep : List ℕ → Option (List ℕ)} {item : List ℕ → Leaf X} {F : Language} → Items S L sep item F → (t : List ℕ) {y : List X × List ℕ} → list_at sep item t ≡ Some y → Front (listed S L y.0) t y.1
unfolding list_at
list_is {S = S} {L = L} {sep} {item} i t e =
    bind_then (item t) _ e (λ z k e. bind_then (items_at sep item (length z.1) z.1) _ e (λ w l e.
    subst (λ y. Front (listed S L y.0) t y.1) (some_value e) (items_is i (length z.1) z.0 t z.1 (i.item_is t z k) l)))

pub behind_follow : {X : Type 0} {S : Language} {L : X → Language} {sep : List ℕ → Option (List ℕ)} {item : List ℕ → Leaf X} {F : Language} → Items S L sep item F → (xs : List X) (b r : List ℕ) → each_behind S L xs b → F r → F (b ++ r)
behind_follow {F = F} i [] b r h k = subst (λ l. F (l ++ r)) (sym h) k
behind_follow {F = F} i (x ∷ xs) b r h k =
    subst F (sym (ap (λ l. l ++ r) h.cut ∙ append_assoc h.left h.right r)) (i.sep_follow h.left (h.right ++ r) h.first)

pub items_front : {X : Type 0} {S : Language} {L : X → Language} {sep : List ℕ → Option (List ℕ)} {item : List ℕ → Leaf X} {F : Language} → Items S L sep item F → (xs : List X) (b r : List ℕ) → each_behind S L xs b → F r → sep r ≡ None → (f : ℕ) → length (b ++ r) ≤ f → items_at sep item f (b ++ r) ≡ Some (xs, r)
unfolding items_at
items_front i [] b r h k e zero l = rw h refl
items_front i [] b r h k e (suc f) l = rw (h, e) refl
items_front i (x ∷ xs) b r h k e zero l =
    absurd (omega (arith, i.sep_some h.left h.first, ap length h.cut, length-append h.left h.right, length-append b r))
items_front {sep = sep} {item} i (x ∷ xs) b r h k e (suc f) l =
    let s = h.left in
    let a = h.second.left in
    let c = h.second.right in
    let g : b ++ r ≡ s ++ (a ++ (c ++ r)) = rw (h.cut, h.second.cut) (simp append_assoc) in
    let m : length (c ++ r) ≤ f = omega (arith, i.sep_some s h.first, ap length g, length-append s (a ++ (c ++ r)), length-append a (c ++ r)) in
    rw (g, i.sep_front s x a (c ++ r) h.first h.second.first, i.item_front x a (c ++ r) h.second.first (behind_follow i xs c r h.second.second k), items_front i xs c r h.second.second k e f m) refl

unlist : {X : Type 0} (S : Language) (L : X → Language) (x : X) (xs : List X) (a : List ℕ) → listed S L (x ∷ xs) a → (L x · each_behind S L xs) a
unlist S L x [] a h = record { left = a; right = []; first = h; second = refl; cut = sym (append-nil a) }
unlist S L x (y ∷ ys) a h =
    let r = unlist S L y ys h.second.right h.second.second in
    record {
      left = h.left;
      right = h.right;
      first = h.first;
      second = record { left = h.second.left; right = h.second.right; first = h.second.first; second = r; cut = h.second.cut };
      cut = h.cut;
    }

pub list_front : {X : Type 0} {S : Language} {L : X → Language} {sep : List ℕ → Option (List ℕ)} {item : List ℕ → Leaf X} {F : Language} → Items S L sep item F → (xs : List X) (a r : List ℕ) → listed S L xs a → F r → sep r ≡ None → list_at sep item (a ++ r) ≡ Some (xs, r)
unfolding list_at
list_front i [] a r h k e = absurd h
list_front {S = S} {L = L} i (x ∷ xs) a r h k e =
    let u = unlist S L x xs a h in
    let g : a ++ r ≡ u.left ++ (u.right ++ r) = recut _ _ r u.cut in
    rw (g, i.item_front x u.left (u.right ++ r) u.first (behind_follow i xs u.right r u.second k), items_front i xs u.right r u.second k e (length (u.right ++ r)) (omega arith)) refl

-- more than enough turns change nothing
items_done : {X : Type 0} {S : Language} {L : X → Language} {sep : List ℕ → Option (List ℕ)} {item : List ℕ → Leaf X} {F : Language} → Items S L sep item F → (f : ℕ) (t : List ℕ) → length t ≤ 0 → items_at sep item f t ≡ Some ([], t)
unfolding items_at
items_done i zero t h = refl
items_done {sep = sep} i (suc f) t h =
    let e : sep t ≡ None = is_none (sep t) (λ r k. let x = i.sep_is t r k in omega (arith, i.sep_some x.front x.of, front_length x)) in
    rw e refl

pub items_agree : {X : Type 0} {S : Language} {L : X → Language} {sep : List ℕ → Option (List ℕ)} {item : List ℕ → Leaf X} {F : Language} → Items S L sep item F → (f g : ℕ) (t : List ℕ) → length t ≤ f → length t ≤ g → items_at sep item f t ≡ items_at sep item g t
unfolding items_at
items_agree i zero g t h k = sym (items_done i g t h)
items_agree i (suc f) zero t h k = items_done i (suc f) t k
items_agree {sep = sep} {item} i (suc f) (suc g) t h k =
    branch_agree (sep t) _ _ _ (λ r e.
    bind_agree (item r) _ _ (λ z l.
    let x = i.sep_is t r e in
    let y = i.item_is r z l in
    let m : length z.1 ≤ f = omega (arith, i.sep_some x.front x.of, front_length x, front_length y) in
    let n : length z.1 ≤ g = omega (arith, i.sep_some x.front x.of, front_length x, front_length y) in
    ap (λ o. o >>= λ w. Some (z.0 ∷ w.0, w.1)) (items_agree i f g z.1 m n)))

-- ---- a loop over the parts

-- the parts so far, and those that are still read
abbrev pub with_front : {X : Type 0} → List X → Leaf (List X) → Leaf (List X)
with_front front read = read >>= λ x. Some (front ++ x.0, x.1)

pub front_none : {X : Type 0} (read : Leaf (List X)) → with_front [] read ≡ read
front_none None = refl
front_none (Some x) = refl

pub front_more : {X : Type 0} (front : List X) (x : X) (read : Leaf (List X)) → with_front front (read >>= λ y. Some (x ∷ y.0, y.1)) ≡ with_front (front ++ x ∷ []) read
front_more front x None = refl
front_more front x (Some y) = ap (λ l. Some (l, y.1)) (sym (append_assoc front (x ∷ []) y.0))

pub front_first : {X : Type 0} (x : X) (read : Leaf (List X)) → (read >>= λ y. Some (x ∷ y.0, y.1)) ≡ with_front (x ∷ []) read
front_first x None = refl
front_first x (Some y) = refl

pub list_start : {X : Type 0} (sep : List ℕ → Option (List ℕ)) (item : List ℕ → Leaf X) (t : List ℕ) (x : X) (r : List ℕ) → item t ≡ Some (x, r) → with_front (x ∷ []) (items_at sep item (length r) r) ≡ list_at sep item t
unfolding list_at
list_start sep item t x r h = rw h (sym (front_first x (items_at sep item (length r) r)))

one_turn : {X : Type 0} (sep : List ℕ → Option (List ℕ)) (item : List ℕ → Leaf X) (f : ℕ) (t r : List ℕ) (x : X) (s : List ℕ) → sep t ≡ Some r → item r ≡ Some (x, s) → items_at sep item (suc f) t ≡ (items_at sep item f s >>= λ y. Some (x ∷ y.0, y.1))
unfolding items_at
one_turn sep item f t r x s h k = rw (h, k) refl

bad_turn : {X : Type 0} (sep : List ℕ → Option (List ℕ)) (item : List ℕ → Leaf X) (f : ℕ) (t r : List ℕ) → sep t ≡ Some r → item r ≡ None → items_at sep item (suc f) t ≡ None
unfolding items_at
bad_turn sep item f t r h k = rw (h, k) refl

no_turn : {X : Type 0} (sep : List ℕ → Option (List ℕ)) (item : List ℕ → Leaf X) (f : ℕ) (t : List ℕ) → sep t ≡ None → items_at sep item f t ≡ Some ([], t)
unfolding items_at
no_turn sep item zero t h = refl
no_turn sep item (suc f) t h = rw h refl

-- the separator and a part come next
pub list_turn : {X : Type 0} {S : Language} {L : X → Language} {sep : List ℕ → Option (List ℕ)} {item : List ℕ → Leaf X} {F : Language} → Items S L sep item F → (front : List X) (t r : List ℕ) (x : X) (s : List ℕ) (total : Leaf (List X)) → Some r ≡ sep t → item r ≡ Some (x, s) → with_front front (items_at sep item (length t) t) ≡ total → with_front (front ++ x ∷ []) (items_at sep item (length s) s) ≡ total
list_turn {sep = sep} {item} i front t r x s total h k e =
    let a = i.sep_is t r (sym h) in
    let b = i.item_is r (x, s) k in
    let l : length t ≤ suc (length t - 1) = omega arith in
    let m : length s ≤ length t - 1 = omega (arith, i.sep_some a.front a.of, front_length a, front_length b) in
    let q : items_at sep item (length t) t ≡ (items_at sep item (length s) s >>= λ y. Some (x ∷ y.0, y.1)) =
    items_agree i (length t) (suc (length t - 1)) t (omega arith) l ∙ one_turn sep item (length t - 1) t r x s (sym h) k
    ∙ ap (λ o. o >>= λ y. Some (x ∷ y.0, y.1)) (items_agree i (length t - 1) (length s) s m (omega arith)) in
    sym (front_more front x (items_at sep item (length s) s)) ∙ ap (with_front front) (sym q) ∙ e

-- no separator comes next
pub list_stop : {X : Type 0} (sep : List ℕ → Option (List ℕ)) (item : List ℕ → Leaf X) (front : List X) (t : List ℕ) (total : Leaf (List X)) → None ≡ sep t → with_front front (items_at sep item (length t) t) ≡ total → total ≡ Some (front, t)
list_stop sep item front t total h e =
    sym e ∙ ap (with_front front) (no_turn sep item (length t) t (sym h)) ∙ ap (λ l. Some (l, t)) (append-nil front)

-- a separator without a part behind it
pub list_fails : {X : Type 0} {S : Language} {L : X → Language} {sep : List ℕ → Option (List ℕ)} {item : List ℕ → Leaf X} {F : Language} → Items S L sep item F → (front : List X) (t r : List ℕ) (total : Leaf (List X)) → Some r ≡ sep t → item r ≡ None → with_front front (items_at sep item (length t) t) ≡ total → total ≡ None
list_fails {sep = sep} {item} i front t r total h k e =
    let a = i.sep_is t r (sym h) in
    let l : length t ≤ suc (length t - 1) = omega arith in
    let q : items_at sep item (length t) t ≡ None = items_agree i (length t) (suc (length t - 1)) t (omega arith) l ∙ bad_turn sep item (length t - 1) t r (sym h) k in
    sym e ∙ ap (with_front front) q

pub first_fails : {X : Type 0} (sep : List ℕ → Option (List ℕ)) (item : List ℕ → Leaf X) (t : List ℕ) → item t ≡ None → list_at sep item t ≡ None
unfolding list_at
first_fails sep item t h = rw h refl

pub turn_shorter : {X : Type 0} {S : Language} {L : X → Language} {sep : List ℕ → Option (List ℕ)} {item : List ℕ → Leaf X} {F : Language} → Items S L sep item F → (t r : List ℕ) (x : X) (s : List ℕ) → Some r ≡ sep t → item r ≡ Some (x, s) → length s < length t
turn_shorter i t r x s h k =
    let a = i.sep_is t r (sym h) in
    let b = i.item_is r (x, s) k in
    omega (arith, i.sep_some a.front a.of, front_length a, front_length b)
