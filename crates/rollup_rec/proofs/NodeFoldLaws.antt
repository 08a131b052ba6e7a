-- What is kept of numbers, and of runs of them.
use Rattle.std.proofs.Common.{◌≡◌, ℕ, suc, ◌+◌, ◌<◌, ◌≤◌, Bool, true, false, cond, ◌&&◌, ◌||◌, List, [], ◌∷◌, ◌++◌, ◌==◌, length, filter, refl, sym, ◌∙◌, ap, subst, arith, map, inl, inr, Option, Some, None, IfSome, length-append, ⊎_elim}
use Rattle.std.specs.Prelude.{◌⊎◌, filter_map, nat_le, nat_lt, option_map, slice_get, slice_index, unwrap_or}
use Rattle.std.specs.List.{All, cons_option}
use Rattle.std.proofs.lemmas.Bool.{cases_lt, cases_order, eq-eqb, le-leb, le-ltb, lt-leb, lt-ltb, ne_eqb, true≢false}
use Rattle.std.proofs.lemmas.List.{map-append}
use Rattle.std.proofs.lemmas.List.Elements.{filter_map-append}
use Rattle.std.proofs.lemmas.Option.{slice_get_past, unwrap_or-slice_get}
use Rattle.edm_values.specs.declared.Method.{Method}
use Rattle.edm_values.specs.declared.Value.{Value}
use Rattle.edm_values.specs.Lists.{at_places, places}
use Rattle.edm_values.proofs.Reorderings.{Reorders, length-reorders, reorders-after, reorders-filter_map, reorders-itself, reorders-same}
use Rattle.edm_values.proofs.TopPlaces.{length-places}
use Rattle.edm_data.specs.Hierarchies.{rows_whose}
use Rattle.apply_meaning.proofs.AggregateOrders.{aggregate-reorders}
use Rattle.apply_meaning.specs.Aggregates.{aggregate}
use Rattle.aggregate_ops.specs.Partials as partials
use Rattle.rollup_rec.specs.NodeFolds.{ArePast, AreNested, AreOpen, HasRuns, HasValues, IsLast, IsRun, is_between, rows_between}
use Rattle.rollup_rec.specs.NodeRows.{row_number, rows_at}

-- ---- lists of the same elements

reorders-before : {X : Type 0} {xs ys : List X} (zs : List X) → Reorders xs ys → Reorders (xs ++ zs) (ys ++ zs)
reorders-before zs Reorders.none = reorders-itself zs
reorders-before zs (Reorders.keep x r) = Reorders.keep x (reorders-before zs r)
reorders-before zs (Reorders.swap x y xs) = Reorders.swap x y (xs ++ zs)
reorders-before zs (Reorders.join r s) = Reorders.join (reorders-before zs r) (reorders-before zs s)

reorders-both : {X : Type 0} {xs xs' ys ys' : List X} → Reorders xs xs' → Reorders ys ys' → Reorders (xs ++ ys) (xs' ++ ys')
reorders-both {X} {xs} {xs'} {ys} {ys'} r s = Reorders.join (reorders-after xs s) (reorders-before ys' r)

reorders-middle : {X : Type 0} (xs : List X) (y : X) (ys : List X) → Reorders (xs ++ y ∷ ys) (y ∷ xs ++ ys)
reorders-middle [] y ys = reorders-itself (y ∷ ys)
reorders-middle (x ∷ xs) y ys = Reorders.join (Reorders.keep x (reorders-middle xs y ys)) (Reorders.swap x y (xs ++ ys))

parted : {X : Type 0} (x : X) (fp fq fr : List X) (a b : Bool) → (a && b) ≡ false → Reorders (fp ++ fq) fr → Reorders (cond a (x ∷ fp) fp ++ cond b (x ∷ fq) fq) (cond (a || b) (x ∷ fr) fr)
parted x fp fq fr true true d r = absurd (true≢false d)
parted x fp fq fr true false d r = Reorders.keep x r
parted x fp fq fr false true d r = Reorders.join (reorders-middle fp x fq) (Reorders.keep x r)
parted x fp fq fr false false d r = r

-- what passes one of two tests that nothing passes both of
parts : {X : Type 0} (p q : X → Bool) (xs : List X) → ((x : X) → (p x && q x) ≡ false) → Reorders (filter p xs ++ filter q xs) (filter (λ x. p x || q x) xs)
parts p q [] h = Reorders.none
parts p q (x ∷ xs) h = parted x (filter p xs) (filter q xs) (filter (λ y. p y || q y) xs) (p x) (q x) (h x) (parts p q xs h)

alike : {X : Type 0} (p q : X → Bool) (xs : List X) → ((x : X) → p x ≡ q x) → filter p xs ≡ filter q xs
alike p q xs h = λ i. filter (λ x. h x i) xs

-- ---- rows between numbers

and-true : (b : Bool) → ((b && true) || false) ≡ (b && true)
and-true true = refl
and-true false = refl

and-false : (b c : Bool) → ((b && false) || (true && c)) ≡ c
and-false true c = refl
and-false false c = refl

none-both : (a b c d : Bool) → (b ≡ false) ⊎ (c ≡ false) → ((a && b) && (c && d)) ≡ false
none-both true true c d (inl e) = absurd (true≢false e)
none-both true true true d (inr e) = absurd (true≢false e)
none-both true true false d h = refl
none-both true false c d h = refl
none-both false b c d h = refl

module _ (a b c : ℕ) (ab : a ≤ b) (bc : b ≤ c) where
  apart : (n : ℕ) → (is_between a b n && is_between b c n) ≡ false
  apart n = none-both (nat_le a n) (nat_lt n b) (nat_le b n) (nat_lt n c) (⊎_elim (λ l. inr (lt-leb b n l)) (λ g. inl (le-ltb n b g)) (cases_lt n b))

  together : (n : ℕ) → (is_between a b n || is_between b c n) ≡ is_between a c n
  together n = ⊎_elim
      (λ (l : n < b).
      (λ i. (nat_le a n && lt-ltb n b l i) || (lt-leb b n l i && nat_lt n c))
      ∙ and-true (nat_le a n)
      ∙ (λ i. nat_le a n && sym (lt-ltb n c (omega (arith, l, bc))) i))
      (λ (g : b ≤ n).
      (λ i. (nat_le a n && le-ltb n b g i) || (le-leb b n g i && nat_lt n c))
      ∙ and-false (nat_le a n) (nat_lt n c)
      ∙ (λ i. sym (le-leb a n (omega (arith, ab, g))) i && nat_lt n c))
      (cases_lt n b)

  pub rows-together : (numbers : List ℕ) (nodes : List (Option ℕ)) → Reorders (rows_between numbers nodes a b ++ rows_between numbers nodes b c) (rows_between numbers nodes a c)
  rows-together numbers nodes =
      let all : List ℕ = rows_whose (λ y. true) nodes in
      Reorders.join
      (parts (λ r. is_between a b (row_number numbers nodes r)) (λ r. is_between b c (row_number numbers nodes r)) all (λ r. apart (row_number numbers nodes r)))
      (reorders-same (alike (λ r. is_between a b (row_number numbers nodes r) || is_between b c (row_number numbers nodes r)) (λ r. is_between a c (row_number numbers nodes r)) all (λ r. together (row_number numbers nodes r))))

-- one number
one-number : (n j : ℕ) → (n == j) ≡ is_between j (j + 1) n
one-number n j = ⊎_elim
    (λ (e : n ≡ j). eq-eqb n j e ∙ (λ i. sym (le-leb j n (omega (arith, e))) i && sym (lt-ltb n (j + 1) (omega (arith, e))) i))
    (λ o. ⊎_elim
    (λ (l : n < j). ne_eqb n j (λ e. absurd (omega (arith, e, l))) ∙ (λ i. sym (lt-leb j n l) i && nat_lt n (j + 1)))
    (λ (g : j < n). ne_eqb n j (λ e. absurd (omega (arith, e, g))) ∙ (λ i. sym (le-leb j n (omega (arith, g))) i && sym (le-ltb n (j + 1) (omega (arith, g))) i))
    o)
    (cases_order n j)

pub rows-of-one : (numbers : List ℕ) (nodes : List (Option ℕ)) (j : ℕ) → rows_at numbers nodes (length nodes) j ≡ rows_between numbers nodes j (j + 1)
rows-of-one numbers nodes j = alike (λ r. row_number numbers nodes r == j) (λ r. is_between j (j + 1) (row_number numbers nodes r)) (rows_whose (λ y. true) nodes) (λ r. one-number (row_number numbers nodes r) j)

-- ---- how many there are

pub filter-few : {X : Type 0} (p : X → Bool) (xs : List X) → length (filter p xs) ≤ length xs
filter-few p [] = omega arith
filter-few p (x ∷ xs) = go (p x) (filter-few p xs)
  where
    go : (b : Bool) → length (filter p xs) ≤ length xs → length (cond b (x ∷ filter p xs) (filter p xs)) ≤ suc (length xs)
    go true h = omega (arith, h)
    go false h = omega (arith, h)

map-few : {X Y : Type 0} (f : X → Option Y) (xs : List X) → length (filter_map f xs) ≤ length xs
map-few f [] = omega arith
map-few f (x ∷ xs) = go (f x) (map-few f xs)
  where
    go : (o : Option _) → length (filter_map f xs) ≤ length xs → length (cons_option o (filter_map f xs)) ≤ suc (length xs)
    go None h = omega (arith, h)
    go (Some y) h = omega (arith, h)

length-map : {X Y : Type 0} (f : X → Y) (xs : List X) → length (map f xs) ≡ length xs
length-map f [] = refl
length-map f (x ∷ xs) = ap suc (length-map f xs)

rows-few : (numbers : List ℕ) (nodes : List (Option ℕ)) (a e : ℕ) → length (rows_between numbers nodes a e) ≤ length nodes
rows-few numbers nodes a e =
    let kept = filter-few (λ r. is_between a e (row_number numbers nodes r)) (rows_whose (λ y. true) nodes) in
    let all = filter-few (λ i. unwrap_or (option_map (λ y. true) (unwrap_or (slice_get nodes i) None)) false) (places (length nodes)) in
    let size = length-places (length nodes) in
    omega (arith, kept, all, size)

module _ {P K : Type 0} (kind : P → K) (stands : P → List (Value × ℕ) → Type 0) (k : K) (vs : List Value) where
  abbrev Has : List ℕ → P → Type 0
  Has = HasValues kind stands k vs

  -- no values
  pub has-none : (p : P) → kind p ≡ k → stands p [] → Has [] p
  has-none p same h = record { kind_is = same; list = []; stands_so = h; same = Reorders.none }

  -- one more value
  pub has-more : (rows rows' : List ℕ) (p q : P) (v : Value) (row : ℕ) → Has rows p → rows' ≡ rows ++ row ∷ [] → slice_get vs row ≡ Some v → kind q ≡ kind p
      → ((xs : List (Value × ℕ)) → stands p xs → stands q (xs ++ (v, row) ∷ [])) → Has rows' q
  has-more rows rows' p q v row h grown there same made =
      let read = ap (λ o. cons_option o []) there in
      record {
        kind_is = same ∙ h.kind_is;
        list = h.list ++ (v, row) ∷ [];
        stands_so = made h.list h.stands_so;
        same = Reorders.join (reorders-same (map-append (λ x. x.0) h.list ((v, row) ∷ [])))
            (Reorders.join (reorders-before (v ∷ []) h.same)
            (reorders-same ((λ i. at_places vs rows ++ sym read i) ∙ sym (filter_map-append (slice_get vs) rows (row ∷ [])) ∙ ap (at_places vs) (sym grown))));
      }

  -- other rows, of the same values
  pub has-other : (rows rows' : List ℕ) (p : P) → rows ≡ rows' → Has rows p → Has rows' p
  has-other rows rows' p e h = subst (λ rs. Has rs p) e h

  -- two parts
  pub has-both : (rows rows' all : List ℕ) (p q m : P) → Has rows p → Has rows' q → Reorders (rows ++ rows') all → kind m ≡ kind p
      → ((xs ys : List (Value × ℕ)) → stands p xs → stands q ys → stands m (xs ++ ys)) → Has all m
  has-both rows rows' all p q m h g r same made = record {
    kind_is = same ∙ h.kind_is;
    list = h.list ++ g.list;
    stands_so = made h.list g.list h.stands_so g.stands_so;
    same = Reorders.join (reorders-same (map-append (λ x. x.0) h.list g.list))
        (Reorders.join (reorders-both h.same g.same)
        (Reorders.join (reorders-same (sym (filter_map-append (slice_get vs) rows rows'))) (reorders-filter_map (slice_get vs) r)));
  }

  pub has-aggregate : (m : Method) (rows : List ℕ) (p : P) (v : Value) → Has rows p → ((xs : List (Value × ℕ)) → stands p xs → v ≡ aggregate m (partials.values xs)) → v ≡ aggregate m (at_places vs rows)
  has-aggregate m rows p v h told = told h.list h.stands_so ∙ aggregate-reorders m h.same

  -- as many as there are values
  pub has-count : (count : P → ℕ) → ((p : P) (xs : List (Value × ℕ)) → stands p xs → count p ≡ length xs) → (rows : List ℕ) (p : P) → Has rows p → count p ≤ length rows
  has-count count counted rows p h =
      let own = counted p h.list h.stands_so in
      let size = length-map (λ (x : Value × ℕ). x.0) h.list in
      let same = length-reorders h.same in
      let few = map-few (slice_get vs) rows in
      omega (arith, own, size, same, few)

  pub has-room : (count : P → ℕ) → ((p : P) (xs : List (Value × ℕ)) → stands p xs → count p ≡ length xs) → (rows : List ℕ) (p : P) (n : ℕ) → Has rows p → length rows < n → count p < n
  has-room count counted rows p n h less = let c = has-count count counted rows p h in omega (arith, c, less)

  module _ (numbers lasts : List ℕ) (nodes : List (Option ℕ)) where
    -- two neighbours have no more values than there are rows
    pub both-few : (count : P → ℕ) → ((p : P) (xs : List (Value × ℕ)) → stands p xs → count p ≡ length xs) → (a b c : ℕ) (p q : P) → a ≤ b → b ≤ c → Has (rows_between numbers nodes a b) p → Has (rows_between numbers nodes b c) q → count p + count q ≤ length nodes
    both-few count counted a b c p q ab bc h g =
        let x = has-count count counted (rows_between numbers nodes a b) p h in
        let y = has-count count counted (rows_between numbers nodes b c) q g in
        let both = length-append (rows_between numbers nodes a b) (rows_between numbers nodes b c) in
        let same = length-reorders (rows-together a b c ab bc numbers nodes) in
        let few = rows-few numbers nodes a c in
        omega (arith, x, y, both, same, few)

    abbrev Open : ℕ → ℕ → List (ℕ × P) → Type 0
    Open n m runs = AreOpen kind stands k numbers lasts nodes vs n m runs

    abbrev Run : ℕ → ℕ → P → Type 0
    Run a e p = IsRun kind stands k numbers lasts nodes vs a e p

    -- one more run
    pub open-more : (n c m : ℕ) (runs : List (ℕ × P)) (p : P) → Open n c runs → Run m c p → Open n m (runs ++ (m, p) ∷ [])
    open-more n c m [] p e r = (subst (λ c. Run m c p) (sym e) r, refl)
    open-more n c m (x ∷ runs) p o r = (o.0, open-more x.0 c m runs p o.1 r)

    -- the last run
    pub open-last : (n m : ℕ) (runs : List (ℕ × P)) (r : ℕ × P) → Open n m (runs ++ r ∷ []) → (c : ℕ) × Open n c runs × Run r.0 c r.1 × (r.0 ≡ m)
    open-last n m [] r o = (n, refl, o.0, o.1)
    open-last n m (x ∷ runs) r o = let l = open-last x.0 m runs r o.1 in (l.0, (o.0, l.1), l.2, l.3)

    abbrev Runs : ℕ → ℕ → P → List (ℕ × P) → Type 0
    Runs first last p runs = HasRuns kind stands k numbers lasts nodes vs first last p runs

    -- a number alone
    pub runs-begun : (first last : ℕ) (p : P) (runs : List (ℕ × P)) → Has (rows_between numbers nodes first (first + 1)) p → Open (length numbers) (first + 1) runs → Runs first last p runs
    runs-begun first last p runs h o = record {
      end = first + 1;
      up = omega arith;
      left = o;
      holds = h;
      inside = λ z hz low high. absurd (omega (arith, low, high));
    }

    -- the run that follows, where it begins in the interval
    runs-next : (first last a : ℕ) (p q m : P) (runs : List (ℕ × P)) → AreNested numbers lasts → IsLast numbers lasts (length numbers) first last → a ≤ last → (h : Runs first last p (runs ++ (a, q) ∷ [])) → kind m ≡ kind p
        → ((xs ys : List (Value × ℕ)) → stands p xs → stands q ys → stands m (xs ++ ys)) → Runs first last m runs
    runs-next first last a p q m runs nests is low h same made =
        let l = open-last (length numbers) h.end runs (a, q) h.left in
        let at : a ≡ h.end = l.3 in
        let up : first < a = omega (arith, h.up, at) in
        let long : a < l.0 = l.2.up in
        let own : Has (rows_between numbers nodes first a) p = subst (λ e. Has (rows_between numbers nodes first e) p) (sym at) h.holds in
        record {
          end = l.0;
          up = omega (arith, up, long);
          left = l.1;
          holds = has-both (rows_between numbers nodes first a) (rows_between numbers nodes a l.0) (rows_between numbers nodes first l.0) p q m own l.2.holds (rows-together first a l.0 (omega (arith, up)) (omega (arith, long)) numbers nodes) same made;
          inside = λ z hz more less. ⊎_elim
              (λ (before : slice_index numbers z < a). h.inside z hz more (omega (arith, before, at)))
              (λ (from : a ≤ slice_index numbers z). ⊎_elim
              (λ (none : last ≡ 0). absurd (omega (arith, none, low, up)))
              (λ (some : (x : ℕ) × (x < length numbers) × (slice_index numbers x ≡ first) × (last ≡ slice_index lasts x)).
              let x = some.0 in
              let e = some.2 in
              let f = some.3 in
              let inner = l.2.inside x z some.1 hz (omega (arith, e, up)) (omega (arith, f, low)) from less in
              omega (arith, inner, f))
              is)
              (cases_lt (slice_index numbers z) a);
        }

    pub runs-merged : (first last a : ℕ) (p q m : P) (old runs : List (ℕ × P)) → AreNested numbers lasts → IsLast numbers lasts (length numbers) first last → a ≤ last → Runs first last p old → old ≡ runs ++ (a, q) ∷ [] → kind m ≡ kind p
        → ((xs ys : List (Value × ℕ)) → stands p xs → stands q ys → stands m (xs ++ ys)) → Runs first last m runs
    runs-merged first last a p q m old runs nests is low h e same made = runs-next first last a p q m runs nests is low (subst (Runs first last p) e h) same made

    -- the run that follows is of the kind, and there is room for its values
    pub next-kind : (first last a : ℕ) (p q : P) (old runs : List (ℕ × P)) → Runs first last p old → old ≡ runs ++ (a, q) ∷ [] → kind q ≡ kind p
    next-kind first last a p q old runs h e =
        let l = open-last (length numbers) h.end runs (a, q) (subst (Open (length numbers) h.end) e h.left) in
        l.2.holds.kind_is ∙ sym h.holds.kind_is

    pub next-room : (count : P → ℕ) → ((p : P) (xs : List (Value × ℕ)) → stands p xs → count p ≡ length xs) → (first last a : ℕ) (p q : P) (old runs : List (ℕ × P)) → Runs first last p old → old ≡ runs ++ (a, q) ∷ [] → count p + count q ≤ length nodes
    next-room count counted first last a p q old runs h e =
        let l = open-last (length numbers) h.end runs (a, q) (subst (Open (length numbers) h.end) e h.left) in
        let up = h.up in
        let long = l.2.up in
        let at = l.3 in
        both-few count counted first a l.0 p q (omega (arith, up, at)) (omega (arith, long)) (subst (λ e. Has (rows_between numbers nodes first e) p) (sym at) h.holds) l.2.holds

    -- ---- a number with all that are below it

    module _ (first last : ℕ) (p : P) (runs : List (ℕ × P)) (nests : AreNested numbers lasts) (here : first < length numbers) (is : IsLast numbers lasts (length numbers) first last) (h : Runs first last p runs) where
      pub runs-run : Run first h.end p
      runs-run = record {
        up = h.up;
        holds = h.holds;
        inside = λ x z hx hz less from low high. ⊎_elim
            (λ (e : first ≡ slice_index numbers z). omega (arith, e, from))
            (λ n. ⊎_elim
            (λ (more : first < slice_index numbers z).
            let most = h.inside z hz more high in
            ⊎_elim
            (λ (none : last ≡ 0). absurd (omega (arith, none, most, more)))
            (λ (some : (y : ℕ) × (y < length numbers) × (slice_index numbers y ≡ first) × (last ≡ slice_index lasts y)).
            let y = some.0 in
            let e = some.2 in
            let f = some.3 in
            nests.nested x y z hx some.1 hz (omega (arith, less, e)) (omega (arith, from, e)) (omega (arith, low, e)) (omega (arith, most, f)))
            is)
            (λ (below : slice_index numbers z < first). absurd (omega (arith, below, low)))
            n)
            (cases_order first (slice_index numbers z));
      }

      pub runs-open : Open (length numbers) first (runs ++ (first, p) ∷ [])
      runs-open = open-more (length numbers) h.end first runs p h.left runs-run

      -- all numbers of the interval are before the runs that are left
      past-end : (rs : List (ℕ × P)) → Open (length numbers) h.end rs → ArePast last rs → last < length numbers → last < h.end
      past-end [] o past most = omega (arith, o, most)
      past-end (r ∷ rs) o past most = go r rs refl
        where
          go : (s : ℕ × P) (ss : List (ℕ × P)) → r ∷ rs ≡ s ∷ ss → last < h.end
          go s ss e = let u = split s ss in let l = open-last (length numbers) h.end u.0 u.1 (subst (Open (length numbers) h.end) (e ∙ u.2) o) in let q = past u.0 u.1 (e ∙ u.2) in let at = l.3 in omega (arith, q, at)
            where
              split : (s : ℕ × P) (ss : List (ℕ × P)) → (us : List (ℕ × P)) × (u : ℕ × P) × (s ∷ ss ≡ us ++ u ∷ [])
              split s [] = ([], s, refl)
              split s (t ∷ ss) = let u = split t ss in (s ∷ u.0, u.1, ap (λ l. s ∷ l) u.2)

      module _ (x : ℕ) (hx : x < length numbers) (own : slice_index numbers x ≡ first) (lasts-is : last ≡ slice_index lasts x) (within : All (λ n. IfSome n (λ y. y < length numbers)) nodes) (past : ArePast last runs) where
        -- the rows of the interval, told by the node of each
        interval : (z : ℕ) → z < length numbers → is_between first h.end (slice_index numbers z) ≡ is_between first (last + 1) (slice_index numbers z)
        interval z hz =
            let n : ℕ = slice_index numbers z in
            let most : last < length numbers = let f = nests.fits x hx in omega (arith, f, lasts-is) in
            let ends : last < h.end = past-end runs h.left past most in
            let low : first ≤ last = let f = nests.within x hx in omega (arith, f, lasts-is, own) in
            ⊎_elim
            (λ (before : n < first). (λ i. lt-leb first n before i && nat_lt n h.end) ∙ sym (λ i. lt-leb first n before i && nat_lt n (last + 1)))
            (λ (from : first ≤ n). ⊎_elim
            (λ (inner : n < h.end).
            let upto : n ≤ last = ⊎_elim (λ (e : first ≡ n). omega (arith, e, low)) (λ o. ⊎_elim (λ (more : first < n). h.inside z hz more inner) (λ (less : n < first). absurd (omega (arith, less, from))) o) (cases_order first n) in
            (λ i. nat_le first n && lt-ltb n h.end inner i) ∙ sym (λ i. nat_le first n && lt-ltb n (last + 1) (omega (arith, upto)) i))
            (λ (outer : h.end ≤ n). (λ i. nat_le first n && le-ltb n h.end outer i) ∙ sym (λ i. nat_le first n && le-ltb n (last + 1) (omega (arith, outer, ends)) i))
            (cases_lt n h.end))
            (cases_lt n first)

        -- the node of a row, or the first one where it has none
        node-there : (r : ℕ) → unwrap_or (unwrap_or (slice_get nodes r) None) 0 < length numbers
        node-there r = ⊎_elim
            (λ (h : r < length nodes). go (unwrap_or (slice_get nodes r) None) (subst (λ o. IfSome o (λ y. y < length numbers)) (sym (unwrap_or-slice_get nodes r None)) (within r None h)))
            (λ (past : length nodes ≤ r). go (unwrap_or (slice_get nodes r) None) (subst (λ o. IfSome o (λ y. y < length numbers)) (sym (ap (λ o. unwrap_or o None) (slice_get_past nodes r past))) tt))
            (cases_lt r (length nodes))
          where
            go : (o : Option ℕ) → IfSome o (λ y. y < length numbers) → unwrap_or o 0 < length numbers
            go None t = omega (arith, here)
            go (Some y) t = t

        rows-are : rows_between numbers nodes first h.end ≡ rows_between numbers nodes (slice_index numbers x) (slice_index lasts x + 1)
        rows-are =
            alike (λ r. is_between first h.end (row_number numbers nodes r)) (λ r. is_between first (last + 1) (row_number numbers nodes r)) (rows_whose (λ y. true) nodes) (λ r. interval (unwrap_or (unwrap_or (slice_get nodes r) None) 0) (node-there r))
            ∙ (λ i. rows_between numbers nodes (sym own i) (lasts-is i + 1))

        pub value-is : (m : Method) (v : Value) → ((xs : List (Value × ℕ)) → stands p xs → v ≡ aggregate m (partials.values xs)) → v ≡ aggregate m (at_places vs (rows_between numbers nodes (slice_index numbers x) (slice_index lasts x + 1)))
        value-is m v told = has-aggregate m (rows_between numbers nodes first h.end) p v h.holds told ∙ ap (λ rs. aggregate m (at_places vs rs)) rows-are
