-- What is kept of the instances of each key of a recursive rollup: their values, their nodes, and what is known at each node.
use Rattle.std.proofs.Common.{◌≡◌, ℕ, ◌+◌, ◌<◌, ◌≤◌, refl, sym, ◌∙◌, ap, subst, arith, List, [], ◌∷◌, ◌++◌, Option, Some, None, get_or, length, length-append, map, filter, drop, nat_eq, ⊎_elim, IsTrue}
use Rattle.std.specs.Prelude.{All, nat_lt, option_map, slice_get}
use Rattle.std.specs.Global.{Vec}
use Rattle.std.specs.declared.result.Result.TheVariants.{Err}
use Rattle.std.specs.List.{cons_option, list_all}
use Rattle.std.proofs.lemmas.Bool.{cases_eq, cases_lt, ltb-true}
use Rattle.std.proofs.lemmas.List.{get_or-map, get_or_append_left, get_or_default, get_or_push, length-map, map-append}
use Rattle.std.proofs.lemmas.List.Elements.{All-cons, All-nil}
use Rattle.std.proofs.lemmas.Option.{get_or_from_slice_get, slice_get-get_or, slice_get-map, slice_get_past, slice_get_within}
use Rattle.std.proofs.lemmas.Simd.{map-map}
use Rattle.edm_values.proofs.ListFacts.{all-at}
use Rattle.edm_values.proofs.OptionFacts.{some_value}
use Rattle.edm_values.specs.declared.Method.{Method}
use Rattle.edm_values.specs.declared.Seen.{Seen}
use Rattle.edm_values.specs.declared.Value.{Value}
use Rattle.edm_values.specs.declared.refusals.Refused.{Refused}
use Rattle.edm_values.specs.declared.refusals.Refused.TheVariants.{Range, Memory}
use Rattle.edm_values.specs.Lists.{at_places, places}
use Rattle.edm_values.specs.Names.{Name, Path}
use Rattle.edm_values.specs.Refusals.{Returns}
use Rattle.edm_values.specs.Values.{seen_value}
use Rattle.edm_model.specs.LookUps.{HierarchyPlace}
use Rattle.edm_data.specs.Worlds.{World}
use Rattle.apply_ast.specs.Trees.{AggItem, Expr, Keys, OptPipe, Pipe, Step}
use Rattle.context_typing.specs.Shapes.{Shape}
use Rattle.context_typing.specs.Typing.{Customs, group_keys, plain_paths, rollup_part, rollup_paths}
use Rattle.apply_meaning.specs.Instances.{Instance, lookup, no_instance, val}
use Rattle.apply_meaning.specs.Meaning.{at_or_below, group, key_list, node, step_mean, values}
use Rattle.par_stages.proofs.Passing.{passing-below}
use Rattle.group_rollup.specs.Groupings.{has_beyond_key, GivesFor}
use Rattle.group_rollup.specs.NumberedBy.{AreNumberedBy}
use Rattle.numbered_groups.specs.Numbered.{Numbering, places_with}
use Rattle.step_run.proofs.ItemLists.{map-at_places, more-placed, own-values}
use Rattle.step_run.proofs.GroupTotalLaws.{length-placed}
use Rattle.step_run.proofs.KeyedLaws.{number-there, numbers-long, same-number}
use Rattle.step_run.proofs.KeyedRows.{front-beyond, key-below}
use Rattle.step_run.proofs.LevelLemmas.{levels-refused}
use Rattle.step_run.proofs.ListedColumns.{at-place}
use Rattle.step_run.proofs.NodeLists.{known-next, known-none}
use Rattle.step_run.specs.GroupTotals.{grouped_step}
use Rattle.step_run.specs.ItemLists.{item_list}
use Rattle.step_run.specs.KeyedTotals.{AreKeyRows, AreNodesOfAll, AreOfNumbers, AreRowsOfKeys, AreSeenLists, GivesKeyed, HasFirst, IsNodeOfAll, KeyRowsState}
use Rattle.step_run.specs.Contexts.{Context}
use Rattle.step_run.specs.Levels.{GivesNodeLevels}
use Rattle.step_run.specs.Totals.{AreNodesOf}

-- ---- the values of the items

abbrev pub seen_of : Option (Vec Seen) → Option (List Value)
seen_of = option_map (λ v. map (λ s. seen_value s) v.items)

pub seen-none : (w : World) (l : List Instance) (items : List AggItem) (lists : List (Option (Vec Seen))) → lists ≡ [] → AreSeenLists w l items (map seen_of lists)
seen-none w l items lists e = known-none (λ i v. item_list w l i ≡ Some v) items (map seen_of lists) (ap (map seen_of) e)

pub seen-next : (w : World) (l : List Instance) (items : List AggItem) (lists lists' : List (Option (Vec Seen))) (o : Option (Vec Seen)) (i : AggItem) → lists' ≡ lists ++ o ∷ [] → slice_get items (length lists) ≡ Some i
    → ((v : List Value) → seen_of o ≡ Some v → item_list w l i ≡ Some v) → AreSeenLists w l items (map seen_of lists) → AreSeenLists w l items (map seen_of lists')
seen-next w l items lists lists' o i grown at own so =
    known-next (λ i v. item_list w l i ≡ Some v) items (map seen_of lists) (map seen_of lists') (seen_of o) i (ap (map seen_of) grown ∙ map-append seen_of lists (o ∷ [])) (ap (slice_get items) (length-map lists seen_of) ∙ at) own so

-- there are as many as instances
pub seen-long : (w : World) (l : List Instance) (i : AggItem) (e : Expr) (f : Method) (a : Name) (vs us : List Seen) (ks : List ℕ) → i ≡ AggItem.Standard e f a → item_list w l i ≡ Some (map seen_value vs) → us ≡ vs
    → IsTrue (list_all (λ k. nat_lt k (length l)) ks) → IsTrue (list_all (λ k. nat_lt k (length us)) ks)
seen-long w l i e f a vs us ks is known same within =
    let own = own-values w l i e f a (map seen_value vs) is known in
    let long : length us ≡ length l = ap length same ∙ sym (length-map vs seen_value) ∙ ap length own ∙ length-map l (λ i. val w i e) in
    subst (λ n. IsTrue (list_all (λ k. nat_lt k n) ks)) (sym long) within

-- those at places are those of the instances at these places
pub seen-placed : (w : World) (l : List Instance) (i : AggItem) (e : Expr) (f : Method) (a : Name) (vs us : List Seen) (ks : List ℕ) → i ≡ AggItem.Standard e f a → item_list w l i ≡ Some (map seen_value vs) → us ≡ vs
    → at_places (map seen_value us) ks ≡ values w e (at_places l ks)
seen-placed w l i e f a vs us ks is known same =
    ap (λ xs. at_places (map seen_value xs) ks) same ∙ ap (λ xs. at_places xs ks) (own-values w l i e f a (map seen_value vs) is known) ∙ sym (map-at_places (λ i. val w i e) l ks)

-- ---- what is kept of each key

module _ {Y : Type 0} (P : ℕ → Y → Type 0) where
  -- what holds of the elements at their places
  abbrev pub AreEach : List Y → Type 0
  AreEach ys = (j : ℕ) (y : Y) → slice_get ys j ≡ Some y → P j y

  pub each-none : (ys : List Y) → ys ≡ [] → AreEach ys
  each-none ys e = λ j y at.
      let past : slice_get ys j ≡ None = slice_get_past ys j (omega (arith, ap length e)) in
      let gone : None ≡ Some y = sym past ∙ at in
      cc

  pub each-next : (ys ys' : List Y) (y : Y) → ys' ≡ ys ++ y ∷ [] → P (length ys) y → AreEach ys → AreEach ys'
  each-next ys ys' y grown own so = λ j z at.
      let all : List Y = ys ++ y ∷ [] in
      let long = length-append ys (y ∷ []) in
      let at' : slice_get all j ≡ Some z = ap (λ l. slice_get l j) (sym grown) ∙ at in
      ⊎_elim
      (λ (less : j < length ys). so j z (slice_get-get_or ys j y less ∙ ap Some (sym (get_or_append_left ys (y ∷ []) y j less)) ∙ sym (slice_get-get_or all j y (omega (arith, less, long))) ∙ at'))
      (λ (from : length ys ≤ j). ⊎_elim
      (λ (e : j ≡ length ys).
      let here : slice_get all j ≡ Some y = slice_get-get_or all j y (omega (arith, e, long)) ∙ ap Some (get_or_push ys y y j (sym e)) in
      let same : y ≡ z = some_value (sym here ∙ at') in
      subst (λ z. P j z) same (subst (λ n. P n y) (sym e) own))
      (λ (q : j ≡ length ys → ⊥).
      let past : slice_get all j ≡ None = slice_get_past all j (omega (arith, from, q, long)) in
      let gone : None ≡ Some z = sym past ∙ at' in
      absurd (cc))
      (cases_eq j (length ys)))
      (cases_lt j (length ys))

-- ---- the instances of the first instance's key

module _ (w : World) (items : List AggItem) (ks : List Path) (l : List Instance) (numbers : List ℕ) (all : List KeyRowsState) (A : AreOfNumbers w items ks l numbers all) (firsts : List ℕ) (g : List Value × List ℕ) (F : HasFirst w ks l firsts g) where
  abbrev first : ℕ
  first = get_or firsts F.place 0

  abbrev number : ℕ
  number = get_or numbers first 0

  pub first-numbered : first < length numbers
  first-numbered = let small = F.within in let long = A.long in omega (arith, small, long)

  pub number-kept : number < length all
  number-kept = A.there first F.within

  -- those with its number that are at a node or below it are those of the group's key
  pub number-below : (f : HierarchyPlace) (p : Path) (x : ℕ) → filter (at_or_below w f p x) (at_places l (places_with numbers number)) ≡ group w ks g.0 (filter (at_or_below w f p x) l)
  number-below f p x = key-below w f ks p l (at_places l (places_with numbers number)) x (key_list w ks (get_or l first no_instance)) g.0 (A.same first F.within) F.key_is

  pub key-long : length g.0 ≡ length ks
  key-long = ap length (sym F.key_is) ∙ length-map ks (lookup w (get_or l first no_instance))

-- the places with a number are places of the list
pub number-within : (l : List Instance) (numbers : List ℕ) (j : ℕ) → length numbers ≡ length l → IsTrue (list_all (λ k. nat_lt k (length l)) (places_with numbers j))
number-within l numbers j long = passing-below (λ y. nat_eq y j) (length l) 0 numbers (omega (arith, long))

-- as many values as places are read
pub seen-size : (us : List Seen) (ks : List ℕ) (own : List Seen) → IsTrue (list_all (λ k. nat_lt k (length us)) ks) → map seen_value own ≡ at_places (map seen_value us) ks → length own ≡ length ks
seen-size us ks own within e =
    sym (length-map own seen_value) ∙ ap length e ∙ length-placed (map seen_value us) ks (subst (λ n. IsTrue (list_all (λ k. nat_lt k n) ks)) (sym (length-map us seen_value)) within)

-- the values at a place
pub seen-at : (lists : List (Option (Vec Seen))) (k : ℕ) (o : Option (Vec Seen)) (v : List Value) → k < length lists → o ≡ get_or lists k o → seen_of o ≡ Some v → slice_get (map seen_of lists) k ≡ Some (Some v)
seen-at lists k o v h e is = slice_get-map seen_of lists k ∙ ap (option_map seen_of) (slice_get-get_or lists k o h ∙ ap Some (sym e)) ∙ ap Some is

-- lists at a place are as long as one another where all are
pub read-long : {X Y : Type 0} (xs : List (Vec X)) (ys : List (Vec Y)) (k : ℕ) (x : Vec X) (y : Vec Y) → k < length ys → length xs ≡ length ys → x ≡ get_or xs k x → y ≡ get_or ys k y
    → map (λ v. length v.items) xs ≡ map (λ v. length v.items) ys → length x.items ≡ length y.items
read-long xs ys k x y h same e f long =
    ap (λ v. length v.items) e
    ∙ sym (get_or-map (λ v. length v.items) xs k x 0 (omega (arith, h, same)))
    ∙ ap (λ ns. get_or ns k 0) long
    ∙ get_or-map (λ v. length v.items) ys k y 0 h
    ∙ sym (ap (λ v. length v.items) f)

-- ---- the lists of places of all keys

-- one more of those at places is read
pub more-read : {X : Type 0} (l : List X) (ks : List ℕ) (i : ℕ) (d : X) (found found' : List X) → IsTrue (list_all (λ k. nat_lt k (length l)) ks) → i < length ks
    → found' ≡ found ++ get_or l (get_or ks i 0) d ∷ [] → at_places l ks ≡ found ++ at_places l (drop i ks) → at_places l ks ≡ found' ++ at_places l (drop (i + 1) ks)
more-read l ks i d found found' a h m before =
    let x = get_or l (get_or ks i 0) d in
    let there = ltb-true (get_or ks i 0) (length l) (all-at (λ k. nat_lt k (length l)) ks i (get_or ks i 0) a (slice_get-get_or ks i 0 h)) in
    more-placed l ks i x found found' a h (get_or_default l (get_or ks i 0) d x there) m before

-- what holds of all elements holds of those at places
pub all-placed : {X : Type 0} (P : X → Type 0) (l : List X) (ks : List ℕ) → All P l → All P (at_places l ks)
all-placed P l [] a = All-nil P
all-placed {X} P l (k ∷ ks) a = go (slice_get l k) refl (all-placed P l ks a)
  where
    go : (o : Option X) → slice_get l k ≡ o → All P (at_places l ks) → All P (cons_option o (at_places l ks))
    go None e r = r
    go (Some x) e r = All-cons P x (at_places l ks) (subst P (get_or_from_slice_get l k x x e) (a k x (slice_get_within l k x e))) r

module _ (numbers : List ℕ) (count : ℕ) (members : List (Vec ℕ)) (M : map (λ v. v.items) members ≡ map (places_with numbers) (places count)) (size : length members ≡ count) where
  -- each has the places of its number
  pub member-is : (j : ℕ) → j < count → get_or (map (λ v. v.items) members) j [] ≡ places_with numbers j
  member-is j h = ap (λ ls. get_or ls j []) M ∙ at-place (places_with numbers) count j [] h

  pub members-within : (m : ℕ) → m ≡ length numbers → All (λ v. IsTrue (list_all (λ k. nat_lt k m) v.items)) members
  members-within m e = λ j v h.
      let own : (get_or members j v).items ≡ places_with numbers j = sym (get_or-map (λ v. v.items) members j v [] h) ∙ member-is j (omega (arith, h, size)) in
      subst (λ ks. IsTrue (list_all (λ k. nat_lt k m) ks)) (sym own) (passing-below (λ y. nat_eq y j) m 0 numbers (omega (arith, e)))

  module _ {X : Type 0} (nodes : List X) (parts : List (Vec X)) (P : map (λ v. v.items) parts ≡ map (λ v. at_places nodes v.items) members) where
    pub parts-long : length parts ≡ length members
    parts-long = sym (length-map parts (λ v. v.items)) ∙ ap length P ∙ length-map members (λ v. at_places nodes v.items)

    -- and its nodes
    pub part-is : (j : ℕ) → j < count → get_or (map (λ v. v.items) parts) j [] ≡ at_places nodes (places_with numbers j)
    part-is j h =
        ap (λ ls. get_or ls j []) (P ∙ sym (map-map (at_places nodes) (λ v. v.items) members))
        ∙ get_or-map (at_places nodes) (map (λ v. v.items) members) j [] [] (let long = length-map members (λ v. v.items) in omega (arith, h, long, size))
        ∙ ap (at_places nodes) (member-is j h)

    pub parts-there : (Q : X → Type 0) → All Q nodes → All (λ v. All Q v.items) parts
    parts-there Q a = λ j v h.
        let below : j < count = (let long = parts-long in omega (arith, h, long, size)) in
        subst (All Q) (sym (sym (get_or-map (λ v. v.items) parts j v [] h) ∙ part-is j below)) (all-placed Q nodes (places_with numbers j) a)

module _ (w : World) (items : List AggItem) (ks : List Path) (l : List Instance) (n : Numbering) (N : AreNumberedBy w ks l n) (there : All (λ m. m < length n.firsts) n.numbers) (parents nodes : List (Option ℕ)) (members : List (Vec ℕ)) (parts : List (Vec (Option ℕ)))
    (M : map (λ v. v.items) members ≡ map (places_with n.numbers) (places (length n.firsts))) (size : length members ≡ length n.firsts) (P : map (λ v. v.items) parts ≡ map (λ v. at_places nodes v.items) members)
    (all : List KeyRowsState) (long : length all ≡ length members) (A : AreRowsOfKeys w items l parents (map (λ v. v.items) parts) (map (λ v. v.items) members) all) where
  small : (j : ℕ) (r : KeyRowsState) → slice_get all j ≡ Some r → j < length n.firsts
  small j r e = let h = slice_get_within all j r e in omega (arith, h, long, size)

  pub kept-is : (j : ℕ) (r : KeyRowsState) → slice_get all j ≡ Some r → AreKeyRows w items l (places_with n.numbers j) r
  kept-is j r e = subst (λ own. AreKeyRows w items l own r) (member-is n.numbers (length n.firsts) members M size j (small j r e)) (A j r e).0

  pub all-numbered : AreOfNumbers w items ks l n.numbers all
  all-numbered = record {
    there = λ r h. number-there w ks l n N there r h (length all) (long ∙ size);
    long = numbers-long w ks l n N;
    same = same-number w ks l n N there;
    kept = kept-is;
  }

  pub all-nodes : (m : ℕ) → length parents ≡ m → (x : ℕ) → x < m → IsNodeOfAll x all
  all-nodes m e x h = λ j r at. let same = ap length (A j r at).1 in omega (arith, e, h, same)

  pub nodes-of_all : (f : HierarchyPlace) (p : Path) (set : ℕ) → AreNodesOf w f p l set parents nodes → AreNodesOfAll w f p l set n.numbers all
  nodes-of_all f p set are = λ j r at. record {
    set_is = are.set_is;
    parents_are = (A j r at).1 ∙ are.parents_are;
    nodes_are = (A j r at).2 ∙ part-is n.numbers (length n.firsts) members M size nodes parts P j (small j r at) ∙ ap (λ ns. at_places ns (places_with n.numbers j)) are.nodes_are ∙ sym (map-at_places (node w f p) l (places_with n.numbers j));
  }

-- ---- refusals

-- a plain key that is Beyond refuses the grouping
pub groups-err : {T : Type 0} (Q : T → Type 0) (w : World) (c : Customs) (s : Step) (ks : Keys) (qs : List Path) (items : List AggItem) (l : List Instance) (e : Refused) → s ≡ grouped_step ks items → qs ≡ plain_paths ks → GivesFor (AreNumberedBy w qs l) w qs l (Err e)
    → Returns Q ((S : Shape) → step_mean w c S s l ≡ None) (Err e)
groups-err Q w c s ks qs items l Range is paths h = λ S.
    ap (λ s. step_mean w c S s l) is
    ∙ levels-refused w c S ks (OptPipe.SomePipe (Pipe.Then (Step.Aggregate items) Pipe.End)) l (front-beyond w (plain_paths ks) (rollup_paths (rollup_part (group_keys ks))) l (ap (λ ps. has_beyond_key w ps l) (sym paths) ∙ h))
groups-err Q w c s ks qs items l Memory is paths h = tt

pub levels-keyed : (x : Context) (S : Shape) (f : HierarchyPlace) (items : List AggItem) (ks : List Path) (p : Path) (shown : List ℕ) (l : List Instance) (e : Refused) → GivesNodeLevels (Err e) x.world f ks p shown l → GivesKeyed (Err e) x S f items ks p shown l
levels-keyed x S f items ks p shown l Range h = h
levels-keyed x S f items ks p shown l Memory h = tt

pub finer-err : {T : Type 0} (Q : T → Type 0) (x : Context) (S : Shape) (f : HierarchyPlace) (items : List AggItem) (ks qs : List Path) (p : Path) (shown : List ℕ) (l : List Instance) (e : Refused) → qs ≡ ks ++ p ∷ [] → GivesFor Q x.world qs l (Err e) → GivesKeyed (Err e) x S f items ks p shown l
finer-err Q x S f items ks qs p shown l Range paths h = ap (λ ps. has_beyond_key x.world ps l) (sym paths) ∙ h
finer-err Q x S f items ks qs p shown l Memory paths h = tt
