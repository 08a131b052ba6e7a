-- What is kept of the values of each group, and when it stands for a list of values.
use Rattle.std.specs.Prelude.{◌≡◌, ℕ, ◌≤◌, ◌<◌, List, ◌++◌, length, filter, get_or, nat_eq}
use Rattle.edm_values.specs.declared.Value.{Value}
use Rattle.edm_values.specs.Lists.{at_places}
use Rattle.aggregate_ops.specs.Partials as partials
use Rattle.numbered_groups.specs.Numbered.{places_with}

-- the number of each place's group, how many groups there are, how many values were added, what is kept of no values, and what is
-- kept of each group's
pub record FoldsState (P : Type 0) : Type 0 where
  pub numbers : List ℕ
  pub count : ℕ
  pub taken : ℕ
  pub empty : P
  pub groups : List P

-- the values at places that have number j
abbrev pub values_with : {V : Type 0} → List ℕ → ℕ → List (V × ℕ) → List (V × ℕ)
values_with numbers j xs = filter (λ x. nat_eq (get_or numbers x.1 0) j) xs

-- what is kept of each group stands for the values at places that have its number
pub record AreFoldsOf {P V : Type 0} (stands_for : P → List (V × ℕ) → Type 0) (s : FoldsState P) (xs : List (V × ℕ)) : Type 0 where
  pub taken_is : s.taken ≡ length xs
  pub size : length s.groups ≡ s.count
  pub each : (j : ℕ) → (d : P) → j < length s.groups → stands_for (get_or s.groups j d) (values_with s.numbers j xs)

-- it is of the kind of another, and stands for some list of no more than so many values
pub record IsFold {P K V : Type 0} (kind : P → K) (stands_for : P → List (V × ℕ) → Type 0) (empty : P) (most : ℕ) (p : P) : Type 0 where
  pub kind_is : kind p ≡ kind empty
  pub list : List (V × ℕ)
  pub stands : stands_for p list
  pub few : length list ≤ most

-- what is kept of the first k groups has that of a later part behind its own, and that of the others is as it was
pub record AreMergedTo {P K V : Type 0} (kind : P → K) (stands_for : P → List (V × ℕ) → Type 0) (gs later ms : List P) (k : ℕ) : Type 0 where
  pub size : length ms ≡ length gs
  pub few : k ≤ length gs
  pub few_later : k ≤ length later
  pub kinds : (j : ℕ) → (d : P) → j < length gs → kind (get_or ms j d) ≡ kind (get_or gs j d)
  pub stands : (j : ℕ) → (d : P) → j < k → (xs ys : List (V × ℕ)) → stands_for (get_or gs j d) xs → stands_for (get_or later j d) ys → stands_for (get_or ms j d) (xs ++ ys)
  pub others : (j : ℕ) → (d : P) → k ≤ j → get_or ms j d ≡ get_or gs j d

-- each of these stands for the values of a list at the places that have its number, and all are of one kind
pub record ArePartialsBy {P K : Type 0} (kind : P → K) (stands_for : P → List (Value × ℕ) → Type 0) (vs : List Value) (numbers : List ℕ) (count : ℕ) (ps : List P) : Type 0 where
  pub size : length ps ≡ count
  pub of : K
  pub kinds : (j : ℕ) → (d : P) → j < count → kind (get_or ps j d) ≡ of
  pub each : (j : ℕ) → (d : P) → j < count → (xs : List (Value × ℕ)) × stands_for (get_or ps j d) xs × (partials.values xs ≡ at_places vs (places_with numbers j))
