-- What is kept of each group, with that of a later part.
use Rattle.std.proofs.Common.{◌≡◌, ◌∙◌, ℕ, zero, suc, ◌+◌, ◌<◌, ◌≤◌, ◌≢◌, Bool, List, [], ◌∷◌, ◌++◌, add-one, ap, arith, cond, drop, false, get_or, length, length-append, length-set, nat_eq, set, subst, sym, true, ⊎_elim}
use Rattle.std.proofs.lemmas.Bool.{cases_eq, eq-eqb, ne_eqb}
use Rattle.std.proofs.lemmas.List.{append-nil, get_or_default, get_or-set_other, get_or-set_same}
use Rattle.std.proofs.lemmas.List.Elements.{filter-append}
use Rattle.row_values.specs.GroupFolds.{AreFoldsOf, AreMergedTo, FoldsState, IsFold, values_with}

-- ---- what is left of a list from a place on

drop-there : {X : Type 0} (l : List X) (k : ℕ) (x : X) (rest : List X) → drop k l ≡ x ∷ rest → k < length l
drop-there [] zero x rest e = absurd (cc)
drop-there [] (suc k) x rest e = absurd (cc)
drop-there (y ∷ l) zero x rest e = omega arith
drop-there (y ∷ l) (suc k) x rest e = let h = drop-there l k x rest e in omega (arith, h)

pub drop-read : {X : Type 0} (l : List X) (k : ℕ) (x : X) (rest : List X) (d : X) → drop k l ≡ x ∷ rest → x ≡ get_or l k d
drop-read [] zero x rest d e = absurd (cc)
drop-read [] (suc k) x rest d e = absurd (cc)
drop-read (y ∷ l) zero x rest d e = let s : x ≡ y = cc in s
drop-read (y ∷ l) (suc k) x rest d e = drop-read l k x rest d e

drop-rest : {X : Type 0} (l : List X) (k : ℕ) (x : X) (rest : List X) → drop k l ≡ x ∷ rest → rest ≡ drop (suc k) l
drop-rest [] zero x rest e = absurd (cc)
drop-rest [] (suc k) x rest e = absurd (cc)
drop-rest (y ∷ l) zero x rest e = let s : rest ≡ l = cc in s
drop-rest (y ∷ l) (suc k) x rest e = drop-rest l k x rest e

-- it is a place of the list, and behind the element there is the rest
pub left-there : {X : Type 0} (l : List X) (k : ℕ) (x : X) (left rest : List X) → left ≡ drop k l → left ≡ x ∷ rest → k < length l
left-there l k x left rest e h = drop-there l k x rest (sym e ∙ h)

pub left-read : {X : Type 0} (l : List X) (k : ℕ) (x : X) (left rest : List X) (d : X) → left ≡ drop k l → left ≡ x ∷ rest → x ≡ get_or l k d
left-read l k x left rest d e h = drop-read l k x rest d (sym e ∙ h)

pub left-rest : {X : Type 0} (l : List X) (k : ℕ) (x : X) (left rest : List X) → left ≡ drop k l → left ≡ x ∷ rest → rest ≡ drop (k + 1) l
left-rest l k x left rest e h = drop-rest l k x rest (sym e ∙ h) ∙ ap (λ n. drop n l) (sym (add-one k))

-- nothing is left
pub left-none : {X : Type 0} (l : List X) (k : ℕ) (left : List X) → left ≡ drop k l → left ≡ [] → length l ≤ k
left-none [] k left e h = omega arith
left-none (y ∷ l) zero left e h = absurd (cc)
left-none (y ∷ l) (suc k) left e h = let r = left-none l k left e h in omega (arith, r)

-- ---- groups with those of a later part

module _ {P K V : Type 0} (kind : P → K) (stands : P → List (V × ℕ) → Type 0) where
  pub merged-none : (gs later ms : List P) → ms ≡ gs → AreMergedTo kind stands gs later ms 0
  merged-none gs later ms e = record {
    size = ap length e;
    few = omega arith;
    few_later = omega arith;
    kinds = λ j d h. ap (λ xs. kind (get_or xs j d)) e;
    stands = λ j d h. absurd (omega arith);
    others = λ j d h. ap (λ xs. get_or xs j d) e;
  }

  -- one that has no later part yet is as it was
  pub merged-old : (gs later ms : List P) (k : ℕ) (old d : P) → AreMergedTo kind stands gs later ms k → k < length ms → old ≡ get_or ms k old → old ≡ get_or gs k d
  merged-old gs later ms k old d m h e = e ∙ get_or_default ms k old d h ∙ m.others k d (omega arith)

  -- one more has its later part
  pub merged-next : (gs later ms rest left : List P) (k : ℕ) (old new more : P) → AreMergedTo kind stands gs later ms k → k < length ms → old ≡ get_or ms k old → left ≡ drop k later → left ≡ more ∷ rest → kind new ≡ kind old
      → ((xs ys : List (V × ℕ)) → stands old xs → stands more ys → stands new (xs ++ ys)) → AreMergedTo kind stands gs later (set ms k new) (k + 1)
  merged-next gs later ms rest left k old new more m h e l f same made =
      let there = left-there later k more left rest l f in
      record {
        size = length-set ms k new ∙ m.size;
        few = omega (arith, m.size);
        few_later = omega (arith, there);
        kinds = λ j d lt. ⊎_elim
            (λ (q : j ≡ k). ap kind (ap (λ i. get_or (set ms k new) i d) q ∙ get_or-set_same ms k new d h) ∙ same ∙ ap kind (merged-old gs later ms k old d m h e) ∙ ap (λ i. kind (get_or gs i d)) (sym q))
            (λ q. ap kind (get_or-set_other ms k j new d q) ∙ m.kinds j d lt)
            (cases_eq j k);
        stands = λ j d lt xs ys a b. ⊎_elim
            (λ (q : j ≡ k).
            subst (λ p. stands p (xs ++ ys)) (sym (ap (λ i. get_or (set ms k new) i d) q ∙ get_or-set_same ms k new d h))
            (made xs ys
            (subst (λ p. stands p xs) (ap (λ i. get_or gs i d) q ∙ sym (merged-old gs later ms k old d m h e)) a)
            (subst (λ p. stands p ys) (ap (λ i. get_or later i d) q ∙ sym (left-read later k more left rest d l f)) b)))
            (λ q. subst (λ p. stands p (xs ++ ys)) (sym (get_or-set_other ms k j new d q)) (m.stands j d (omega (arith, q)) xs ys a b))
            (cases_eq j k);
        others = λ j d le. get_or-set_other ms k j new d (omega arith) ∙ m.others j d (omega arith);
      }

  -- all have
  pub all-merged : (s t : FoldsState P) (ms : List P) (k : ℕ) (xs ys : List (V × ℕ)) → AreMergedTo kind stands s.groups t.groups ms k → length ms ≤ k → t.numbers ≡ s.numbers
      → AreFoldsOf stands s xs → AreFoldsOf stands t ys → AreFoldsOf stands (record { numbers = s.numbers; count = s.count; taken = s.taken + t.taken; empty = s.empty; groups = ms }) (xs ++ ys)
  all-merged s t ms k xs ys m h e a b = record {
    taken_is = omega (arith, a.taken_is, b.taken_is, length-append xs ys);
    size = m.size ∙ a.size;
    each = λ j d lt.
        let own : j < length s.groups = omega (arith, m.size) in
        let late : j < length t.groups = omega (arith, m.few_later) in
        let p = λ (x : V × ℕ). nat_eq (get_or s.numbers x.1 0) j in
        subst (stands (get_or ms j d)) (sym (filter-append p xs ys))
        (m.stands j d (omega arith) (values_with s.numbers j xs) (values_with s.numbers j ys) (a.each j d own) (subst (λ ns. stands (get_or t.groups j d) (values_with ns j ys)) e (b.each j d late)));
  }

-- one with its later part stands for both lists
pub fold-merged : {P K V : Type 0} (kind : P → K) (stands : P → List (V × ℕ) → Type 0) (gs later ms : List P) (k j n n' : ℕ) (empty empty' d : P) → AreMergedTo kind stands gs later ms k → length ms ≤ k → j < length ms
    → IsFold kind stands empty n (get_or gs j d) → IsFold kind stands empty' n' (get_or later j d) → IsFold kind stands empty (n + n') (get_or ms j d)
fold-merged kind stands gs later ms k j n n' empty empty' d m h lt a b = record {
  kind_is = m.kinds j d (omega (arith, m.size)) ∙ a.kind_is;
  list = a.list ++ b.list;
  stands = m.stands j d (omega arith) a.list b.list a.stands b.stands;
  few = omega (arith, a.few, b.few, length-append a.list b.list);
}

-- two that stand for lists of few values have few together
pub few-together : {P K V : Type 0} (kind : P → K) (stands : P → List (V × ℕ) → Type 0) (count : P → ℕ) (empty empty' p q : P) (n n' m : ℕ) → ((p : P) (xs : List (V × ℕ)) → stands p xs → count p ≡ length xs)
    → IsFold kind stands empty n p → IsFold kind stands empty' n' q → n + n' < m → count p + count q < m
few-together kind stands count empty empty' p q n n' m counted a b h = omega (arith, counted p a.list a.stands, counted q b.list b.stands, a.few, b.few)

module _ {P V : Type 0} (stands : P → List (V × ℕ) → Type 0) where
  -- a value was added to one of the groups
  pub one-added : (s : FoldsState P) (j place : ℕ) (v : V) (old new : P) → j ≡ get_or s.numbers place 0 → j < length s.groups → old ≡ get_or s.groups j old
      → ((ys : List (V × ℕ)) → stands old ys → stands new (ys ++ (v, place) ∷ [])) → (xs : List (V × ℕ)) → AreFoldsOf stands s xs
      → AreFoldsOf stands (record { numbers = s.numbers; count = s.count; taken = s.taken + 1; empty = s.empty; groups = set s.groups j new }) (xs ++ (v, place) ∷ [])
  one-added s j place v old new told there here made xs h = record {
    taken_is = omega (arith, h.taken_is, length-append xs ((v, place) ∷ []));
    size = length-set s.groups j new ∙ h.size;
    each = λ i d lt. ⊎_elim (own i d) (other i d (omega (arith, length-set s.groups j new))) (cases_eq i j);
  }
    where
      part : ℕ → List (V × ℕ)
      part i = values_with s.numbers i xs

      all : (i : ℕ) (b : Bool) → nat_eq (get_or s.numbers place 0) i ≡ b → values_with s.numbers i (xs ++ (v, place) ∷ []) ≡ part i ++ cond b ((v, place) ∷ []) []
      all i b e = filter-append (λ x. nat_eq (get_or s.numbers x.1 0) i) xs ((v, place) ∷ []) ∙ ap (λ b. part i ++ cond b ((v, place) ∷ []) []) e

      own : (i : ℕ) (d : P) → i ≡ j → stands (get_or (set s.groups j new) i d) (values_with s.numbers i (xs ++ (v, place) ∷ []))
      own i d q =
          subst (stands (get_or (set s.groups j new) i d)) (sym (all i true (eq-eqb (get_or s.numbers place 0) i (sym told ∙ sym q))))
          (subst (λ p. stands p (part i ++ (v, place) ∷ [])) (sym (ap (λ k. get_or (set s.groups j new) k d) q ∙ get_or-set_same s.groups j new d there))
          (made (part i) (subst (λ p. stands p (part i)) (ap (λ k. get_or s.groups k d) q ∙ get_or_default s.groups j d old there ∙ sym here) (h.each i d (omega arith)))))

      other : (i : ℕ) (d : P) → i < length s.groups → i ≢ j → stands (get_or (set s.groups j new) i d) (values_with s.numbers i (xs ++ (v, place) ∷ []))
      other i d within q =
          subst (stands (get_or (set s.groups j new) i d)) (sym (all i false (ne_eqb (get_or s.numbers place 0) i (λ e. q (sym e ∙ sym told))) ∙ append-nil (part i)))
          (subst (λ p. stands p (part i)) (sym (get_or-set_other s.groups j i new d q)) (h.each i d within))
