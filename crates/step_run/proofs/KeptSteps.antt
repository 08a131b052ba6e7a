-- Runs on places, from one transformation to the next and from one group to the next.
use Rattle.std.proofs.Common.{◌≡◌, ℕ, zero, suc, ◌+◌, ◌<◌, ◌≤◌, true, refl, sym, ◌∙◌, ap, subst, arith, List, [], ◌∷◌, ◌++◌, Option, Some, None, Err, get_or, length, map, drop, IsTrue, nat_eq}
use Rattle.std.specs.Prelude.{All, nat_lt, option_map, slice_get}
use Rattle.std.specs.Global.{Vec}
use Rattle.std.specs.List.{list_all}
use Rattle.std.proofs.lemmas.List.{get_or-map, get_or_default, length-append, length-map}
use Rattle.std.proofs.lemmas.List.Elements.{All-get_or}
use Rattle.std.proofs.lemmas.Bool.{and_from, lt-ltb}
use Rattle.std.proofs.lemmas.Option.{get_or_from_slice_get, slice_get-get_or, slice_get-map}
use Rattle.edm_values.proofs.ListFacts.{all-append, all-at}
use Rattle.edm_values.specs.declared.Seen.{Seen}
use Rattle.edm_values.specs.declared.Value.{Value}
use Rattle.edm_values.specs.declared.refusals.Refused.{Refused}
use Rattle.edm_values.specs.declared.refusals.Refused.TheVariants.{Range, Memory}
use Rattle.edm_values.specs.Lists.{at_places, places}
use Rattle.edm_values.specs.Names.{Path}
use Rattle.edm_values.specs.Values.{seen_value}
use Rattle.edm_data.specs.Worlds.{World}
use Rattle.apply_ast.specs.Trees.{Pipe, Step}
use Rattle.apply_ast.specs.Views.{item_of, step_of}
use Rattle.apply_ast.specs.declared.items.OrderItem as of_item
use Rattle.apply_ast.specs.declared.steps.Step as code
use Rattle.context_typing.specs.Shapes.{Shape}
use Rattle.apply_meaning.proofs.MeanLemmas.{fit-at_places}
use Rattle.apply_meaning.specs.Instances.{Instance, extended, no_instance}
use Rattle.apply_meaning.specs.Meaning.{Outcome, joined, key_list, keyed, values}
use Rattle.par_stages.proofs.Passing.{passing-below}
use Rattle.group_rollup.specs.Groupings.{groups}
use Rattle.group_rollup.specs.NumberedBy.{AreNumberedBy}
use Rattle.numbered_groups.specs.Numbered.{Numbering, numbered_group, places_with}
use Rattle.row_frames.specs.Keys.{seen_columns}
use Rattle.row_orders.specs.Places.{GivesOrder}
use Rattle.step_run.proofs.GroupTotalLaws.{group-at, groups-are, size}
use Rattle.step_run.proofs.KeptRows.{more-rows}
use Rattle.step_run.proofs.ListedColumns.{at-place, length-made}
use Rattle.step_run.proofs.RunLevels.{last-joined, next-joined, next-refused}
use Rattle.step_run.specs.Conditions.{GroupRuns, RunsFrom}
use Rattle.step_run.specs.Contexts.{Context}
use Rattle.step_run.specs.KeptGroups.{AreRead, GivesKept, is_keeping, kept_rows, read_of}
use Rattle.step_run.specs.Levels.{Level, group_made}
use Rattle.step_run.specs.declared.kept_groups.Kept.{Kept}

-- ---- what was read

pub has-first : (lists : List (Vec Seen)) (vs : List Value) → seen_columns lists ≡ vs ∷ [] → 0 < length lists
has-first [] vs e = absurd (cc)
has-first (v ∷ lists) vs e = omega arith

pub first-read : (lists : List (Vec Seen)) (vs : List Value) (v : Vec Seen) → seen_columns lists ≡ vs ∷ [] → v ≡ get_or lists 0 v → map seen_value v.items ≡ vs
first-read [] vs v e h = absurd (cc)
first-read (u ∷ lists) vs v e h = ap (λ v. map seen_value v.items) h ∙ ap (λ cs. get_or cs 0 []) e

pub keeping-at : (ss : List code.Step) (i : ℕ) (d : code.Step) → list_all is_keeping (map step_of ss) ≡ true → i < length ss → d ≡ get_or ss i d → is_keeping (step_of d) ≡ true
keeping-at ss i d keep h e = all-at is_keeping (map step_of ss) i (step_of d) keep (slice_get-map step_of ss i ∙ ap (option_map step_of) (slice_get-get_or ss i d h ∙ ap Some (sym e)))

pub read-long : (w : World) (l : List Instance) (ss : List code.Step) (lists : List (Vec (Vec Seen))) → AreRead w l (map step_of ss) lists → length lists ≡ length ss
read-long w l ss lists read =
    sym (length-map lists (λ r. seen_columns r.items)) ∙ ap length read ∙ length-map (map step_of ss) (read_of w l) ∙ length-map ss step_of

pub read-step : (w : World) (l : List Instance) (ss : List code.Step) (lists : List (Vec (Vec Seen))) (i : ℕ) (d : code.Step) (v : Vec (Vec Seen)) → AreRead w l (map step_of ss) lists
    → i < length ss → d ≡ get_or ss i d → v ≡ get_or lists i v → seen_columns v.items ≡ read_of w l (step_of d)
read-step w l ss lists i d v read h e f =
    let long = read-long w l ss lists read in
    let steps = length-map ss step_of in
    ap (λ (r : Vec (Vec Seen)). seen_columns r.items) f
    ∙ sym (get_or-map (λ r. seen_columns r.items) lists i v [] (omega (arith, h, long)))
    ∙ ap (λ cs. get_or cs i []) read
    ∙ get_or-map (read_of w l) (map step_of ss) i (step_of d) [] (omega (arith, h, steps))
    ∙ ap (read_of w l) (get_or-map step_of ss i d (step_of d) h ∙ ap step_of (sym e))

pub read-order : (w : World) (l : List Instance) (xs : List of_item.OrderItem) → map (λ x. values w (item_of x).expr l) xs ≡ read_of w l (Step.OrderBy (map item_of xs))
read-order w l [] = refl
read-order w l (x ∷ xs) = ap (λ vs. values w (item_of x).expr l ∷ vs) (read-order w l xs)

-- ---- refusals

pub order-err : (e : Refused) (l : List Instance) (m m' : Outcome) → GivesOrder (Err e) l m → (m ≡ None → m' ≡ None) → GivesOrder (Err e) l m'
order-err Range l m m' h k = k h
order-err Memory l m m' h k = tt

pub kept-err : (e : Refused) (w : World) (ks : List Path) (l : List Instance) (m m' : Outcome) → GivesOrder (Err e) l m → (m ≡ None → m' ≡ None) → GivesKept (Err e) w ks l m'
kept-err Range w ks l m m' h k = k h
kept-err Memory w ks l m m' h k = tt

-- ---- groups

-- the places of a group's instances
pub member-at : (lists : List (Vec ℕ)) (numbers : List ℕ) (count k : ℕ) (v : Vec ℕ) → map (λ v. v.items) lists ≡ map (places_with numbers) (places count) → k < count → v ≡ get_or lists k v → v.items ≡ places_with numbers k
member-at lists numbers count k v are h e =
    let made = length-made (places_with numbers) count in
    let size : length lists ≡ count = sym (length-map lists (λ v. v.items)) ∙ ap length are ∙ made in
    ap (λ (v : Vec ℕ). v.items) e
    ∙ sym (get_or-map (λ v. v.items) lists k v [] (omega (arith, h, size)))
    ∙ ap (λ xs. get_or xs k []) are
    ∙ at-place (places_with numbers) count k [] h

-- places of the list
pub member-within : (w : World) (ks : List Path) (l : List Instance) (n : Numbering) → AreNumberedBy w ks l n → (k : ℕ) → IsTrue (list_all (λ p. nat_lt p (length l)) (places_with n.numbers k))
member-within w ks l n N k = let same = size w ks l n N in passing-below (λ y. nat_eq y k) (length l) 0 n.numbers (omega (arith, same))

module _ (w : World) (ks : List Path) (l : List Instance) (n : Numbering) (N : AreNumberedBy w ks l n) (there : All (λ f. f < length n.numbers) n.firsts) (f : List Instance → Outcome) (k : ℕ) (h : k < length n.firsts) where
  abbrev group : List Value × List ℕ
  group = numbered_group (map (key_list w ks) l) n k

  found : slice_get (groups w ks l) k ≡ Some group
  found = group-at w ks l n N k h

  within : k < length (groups w ks l)
  within = slice-within (groups w ks l) k group found
    where
      slice-within : {X : Type 0} (xs : List X) (k : ℕ) (x : X) → slice_get xs k ≡ Some x → k < length xs
      slice-within [] zero x e = absurd (cc)
      slice-within [] (suc k) x e = absurd (cc)
      slice-within (y ∷ xs) zero x e = omega arith
      slice-within (y ∷ xs) (suc k) x e = let b = slice-within xs k x e in omega (arith, b)

  here : group ≡ get_or (groups w ks l) k group
  here = sym (get_or_from_slice_get (groups w ks l) k group group found)

  -- the place of the first instance of the group
  abbrev head : ℕ
  head = get_or n.firsts k 0

  head-there : head < length l
  head-there = let own = All-get_or (λ f. f < length n.numbers) n.firsts k 0 h there in let same = size w ks l n N in omega (arith, own, same)

  pub head-within : (first : ℕ) → first ≡ get_or n.firsts k first → IsTrue (nat_lt first (length l))
  head-within first e = lt-ltb first (length l) (subst (λ m. m < length l) (sym (e ∙ get_or_default n.firsts k first 0 h)) head-there)

  -- what is made of the group, where some of its places are kept
  made : (own kept : List ℕ) (first : ℕ) → own ≡ places_with n.numbers k → first ≡ get_or n.firsts k first → f (at_places l own) ≡ Some (at_places l kept)
      → group_made ks f l group ≡ Some (map (λ r. extended r (keyed ks (key_list w ks (get_or l first no_instance)))) (at_places l kept))
  made own kept first e is m =
      let key : group.0 ≡ key_list w ks (get_or l first no_instance) =
      get_or-map (key_list w ks) l head no_instance [] head-there ∙ ap (λ i. key_list w ks (get_or l i no_instance)) (sym (is ∙ get_or_default n.firsts k first 0 h)) in
      ap (option_map (map (λ r. extended r (keyed ks group.0)))) (ap (λ ps. f (at_places l ps)) (sym e) ∙ m)
      ∙ ap (λ key. Some (map (λ r. extended r (keyed ks key)) (at_places l kept))) key

  -- one group more
  pub next-kept : (so_far all : Kept) (own kept : List ℕ) (first : ℕ) (o : Outcome) → length so_far.places.items ≡ length so_far.heads.items → own ≡ places_with n.numbers k → first ≡ get_or n.firsts k first
      → f (at_places l own) ≡ Some (at_places l kept) → IsTrue (list_all (λ p. nat_lt p (length l)) kept) → all.places.items ≡ so_far.places.items ++ kept → all.heads.items ≡ so_far.heads.items ++ map (λ p. first) kept
      → o ≡ option_map (λ rest. kept_rows w ks l so_far ++ rest) (joined (map (group_made ks f l) (drop k (groups w ks l)))) → o ≡ option_map (λ rest. kept_rows w ks l all ++ rest) (joined (map (group_made ks f l) (drop (k + 1) (groups w ks l))))
  next-kept so_far all own kept first o even e is m inside p q before =
      next-joined (group_made ks f l) (groups w ks l) k group (kept_rows w ks l so_far) o (map (λ r. extended r (keyed ks (key_list w ks (get_or l first no_instance)))) (at_places l kept)) within here before (made own kept first e is m)
      ∙ ap (λ rows. option_map (λ rest. rows ++ rest) (joined (map (group_made ks f l) (drop (k + 1) (groups w ks l))))) (sym (more-rows w ks l so_far all kept first even inside p q))

  -- or a refusal
  pub refused-group : (so_far : Kept) (own : List ℕ) (o : Outcome) → own ≡ places_with n.numbers k → f (at_places l own) ≡ None
      → o ≡ option_map (λ rest. kept_rows w ks l so_far ++ rest) (joined (map (group_made ks f l) (drop k (groups w ks l)))) → o ≡ None
  refused-group so_far own o e m before =
      next-refused (group_made ks f l) (groups w ks l) k group (kept_rows w ks l so_far) o within here before (ap (option_map (map (λ r. extended r (keyed ks group.0)))) (ap (λ ps. f (at_places l ps)) (sym e) ∙ m))

-- there are as many groups as numbers
pub groups-long : (w : World) (ks : List Path) (l : List Instance) (n : Numbering) → AreNumberedBy w ks l n → length (groups w ks l) ≡ length n.firsts
groups-long w ks l n N = ap length (groups-are w ks l n N) ∙ length-made (numbered_group (map (key_list w ks) l) n) (length n.firsts)

-- behind the last group
pub all-kept : (w : World) (ks : List Path) (l : List Instance) (n : Numbering) → AreNumberedBy w ks l n → (f : List Instance → Outcome) (k : ℕ) (so_far : Kept) (o : Outcome) → length n.firsts ≤ k
    → o ≡ option_map (λ rest. kept_rows w ks l so_far ++ rest) (joined (map (group_made ks f l) (drop k (groups w ks l)))) → o ≡ Some (kept_rows w ks l so_far)
all-kept w ks l n N f k so_far o past before = last-joined (group_made ks f l) (groups w ks l) k (kept_rows w ks l so_far) o (let long = groups-long w ks l n N in omega (arith, past, long)) before

-- places that go on
heads-within : (n first : ℕ) (xs : List ℕ) → nat_lt first n ≡ true → list_all (λ k. nat_lt k n) (map (λ k. first) xs) ≡ true
heads-within n first [] h = refl
heads-within n first (x ∷ xs) h = and_from (nat_lt first n) _ h (heads-within n first xs h)

pub more-kept : (n first : ℕ) (so_far all : Kept) (own : List ℕ) → nat_lt first n ≡ true → list_all (λ k. nat_lt k n) own ≡ true → all.places.items ≡ so_far.places.items ++ own → all.heads.items ≡ so_far.heads.items ++ map (λ k. first) own
    → list_all (λ k. nat_lt k n) so_far.places.items ≡ true → list_all (λ k. nat_lt k n) so_far.heads.items ≡ true → length so_far.places.items ≡ length so_far.heads.items
    → (list_all (λ k. nat_lt k n) all.places.items ≡ true) × (list_all (λ k. nat_lt k n) all.heads.items ≡ true) × (length all.places.items ≡ length all.heads.items)
more-kept n first so_far all own h a p q b c even = (
  ap (list_all (λ k. nat_lt k n)) p ∙ all-append (λ k. nat_lt k n) so_far.places.items own b a,
  ap (list_all (λ k. nat_lt k n)) q ∙ all-append (λ k. nat_lt k n) so_far.heads.items (map (λ k. first) own) c (heads-within n first own h),
  ap length p ∙ length-append so_far.places.items own ∙ (λ i. even i + sym (length-map own (λ k. first)) i) ∙ sym (length-append so_far.heads.items (map (λ k. first) own)) ∙ sym (ap length q),
)

-- the inner pipeline on some of the instances
pub group-runs : {x : Context} {root : Option ℕ} {S G : Shape} {level : Level} {T : Pipe} {l : List Instance} (ks : List ℕ) → GroupRuns x root S G level T l → RunsFrom x root S G T (at_places l ks)
group-runs {x = x} {S = S} {l = l} ks R =
    let run = R.inner.runs in
    record { runs = record { customs = run.customs; lawful = run.lawful; typed = run.typed; fit = fit-at_places x.world S l ks run.fit }; root_is = R.inner.root_is }
