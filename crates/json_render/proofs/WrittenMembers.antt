-- The text of members that are still to be written.
use Rattle.std.proofs.Common.{◌≡◌, ℕ, zero, suc, ◌+◌, ◌-◌, ◌<◌, ◌≤◌, Bool, true, false, List, [], ◌∷◌, ◌++◌, Some, None, length, codes, take, drop, refl, sym, ◌∙◌, ap, arith, append_assoc}
use Rattle.std.specs.Prelude.{reverse}
use Rattle.std.specs.List.{list_all}
use Rattle.std.proofs.lemmas.List.{append-nil, length-drop, length-map, reverse-append, reverse-reverse, take_all}
use Rattle.serde_json.specs.Data.{null, string}
use Rattle.std.proofs.lemmas.Bool.{and_parts, false≢true}
use Rattle.serde_json.specs.Written.{comma_if, compact_text, members_text}
use Rattle.edm_model.specs.JsonTrees.{Member, members_tree, object_of}
use Rattle.edm_data.specs.Worlds.{World}
use Rattle.apply_meaning.specs.Instances.{Instance}
use Rattle.edm_values.proofs.SortedLists.{Ascends}
use Rattle.json_render.specs.Bodies.{value_json}
use Rattle.json_render.specs.Places.{NamedPart, first_run, name_before, named_parts, seen}
use Rattle.json_render.specs.RowTexts.{all_members, first_members, group_members, is_member, member_text, members_run, place_members, slot_value, text_json, type_word, filled, template_text, unwritten_members, unwritten_text}
use Rattle.json_render.specs.declared.entries.Entry.{Entry}
use Rattle.json_render.specs.declared.members.Unwritten.{Unwritten}
use Rattle.json_render.specs.declared.templates.Template.{Template}
use Rattle.json_render.proofs.Grouping.{groups, groups-step}

-- ---- one group after another

pub groups-next : (w : World) (i : Instance) (es : List NamedPart) → 0 < length es → Ascends name_before es
    → groups (group_members w i) es ≡ first_members w i (take (first_run es) es) ++ groups (group_members w i) (drop (first_run es) es)
groups-next w i [] l u = absurd (omega arith)
groups-next w i (e ∷ es) l u = groups-step (group_members w i) e es u

pub named-take : (k : ℕ) (es : List Entry) → named_parts (take k es) ≡ take k (named_parts es)
named-take zero es = refl
named-take (suc k) [] = refl
named-take (suc k) (e ∷ es) = ap (λ xs. seen e ∷ xs) (named-take k es)

pub named-dropped : (k : ℕ) (es : List Entry) → named_parts (drop k es) ≡ drop k (named_parts es)
named-dropped zero es = refl
named-dropped (suc k) [] = refl
named-dropped (suc k) (e ∷ es) = named-dropped k es

drop-none : {X : Type 0} (n : ℕ) → drop {A = X} n [] ≡ []
drop-none zero = refl
drop-none (suc n) = refl

drop-twice : {X : Type 0} (a k : ℕ) (xs : List X) → drop k (drop a xs) ≡ drop (a + k) xs
drop-twice zero k xs = let e : k ≡ 0 + k = omega arith in ap (λ n. drop n xs) e
drop-twice {X} (suc a) k [] = drop-none {X = X} k ∙ sym (drop-none {X = X} (suc a + k))
drop-twice (suc a) k (x ∷ xs) = let e : suc (a + k) ≡ suc a + k = omega arith in drop-twice a k xs ∙ ap (λ n. drop n (x ∷ xs)) e

-- the slices of a loop over groups
pub whole-rest : {X : Type 0} (xs : List X) (a : ℕ) → a ≤ length xs → take (length xs - a) (drop a xs) ≡ drop a xs
whole-rest xs a h = let e = length-drop a xs in take_all (length xs - a) (drop a xs) (omega arith)

pub front-part : {X : Type 0} (xs : List X) (a k : ℕ) → take (a + k - a) (drop a xs) ≡ take k (drop a xs)
front-part xs a k = let e : a + k - a ≡ k = omega arith in ap (λ n. take n (drop a xs)) e

pub group-behind : (es : List Entry) (a k : ℕ) → named_parts (drop (a + k) es) ≡ drop k (named_parts (drop a es))
group-behind es a k = ap named_parts (sym (drop-twice a k es)) ∙ named-dropped k (drop a es)

-- the next group, and the groups behind it
pub next-group : (w : World) (i : Instance) (es : List Entry) (a k : ℕ) → a < length es → Ascends name_before (named_parts (drop a es)) → k ≡ first_run (named_parts (drop a es))
    → groups (group_members w i) (named_parts (drop a es)) ≡ first_members w i (named_parts (take k (drop a es))) ++ groups (group_members w i) (named_parts (drop (a + k) es))
next-group w i es a k l u h =
    let ps = named_parts (drop a es) in
    let long = length-map (drop a es) seen in
    let left = length-drop a es in
    groups-next w i ps (omega arith) u
    ∙ (λ j. first_members w i (take (sym h j) ps) ++ groups (group_members w i) (drop (sym h j) ps))
    ∙ (λ j. first_members w i (sym (named-take k (drop a es)) j) ++ groups (group_members w i) (sym (group-behind es a k) j))

-- ---- members, and the end of their object

one-joined : (later : Bool) (m : Member) (rest : List ℕ) → comma_if later ++ (text_json m.0 ++ 58 ∷ (compact_text m.1 ++ rest)) ≡ member_text later m ++ rest
one-joined later m rest =
    ap (λ xs. comma_if later ++ xs) (sym (append_assoc (text_json m.0) (58 ∷ compact_text m.1) rest)) ∙ sym (append_assoc (comma_if later) (text_json m.0 ++ 58 ∷ compact_text m.1) rest)

-- a first member, and members behind it
run-joined : (later : Bool) (m : Member) (ms ns : List Member) → members_text later (members_tree ((m ∷ ms) ++ ns)) ≡ members_run later (m ∷ ms) ++ members_text true (members_tree ns)
run-joined later m [] ns = one-joined later m (members_text true (members_tree ns)) ∙ ap (λ xs. xs ++ members_text true (members_tree ns)) (sym (append-nil (member_text later m)))
run-joined later m (m' ∷ ms) ns =
    one-joined later m (members_text true (members_tree ((m' ∷ ms) ++ ns))) ∙ ap (λ xs. member_text later m ++ xs) (run-joined true m' ms ns)
    ∙ sym (append_assoc (member_text later m) (members_run true (m' ∷ ms)) (members_text true (members_tree ns)))

unwritten-first : (w : World) (i : Instance) (later : Bool) (u : Unwritten) (us : List Unwritten) → is_member u ≡ true → unwritten_text w i later (u ∷ us) ≡ members_run later (unwritten_members w i u) ++ unwritten_text w i true us
unwritten-first w i later (Unwritten.Value n k s) us h = refl
unwritten-first w i later (Unwritten.Null n) us h = refl
unwritten-first w i later (Unwritten.Object n p) us h = refl
unwritten-first w i later Unwritten.Close us h = absurd (false≢true h)

u-joined : (w : World) (i : Instance) (later : Bool) (u : Unwritten) (ns : List Member) → is_member u ≡ true
    → members_text later (members_tree (unwritten_members w i u ++ ns)) ≡ members_run later (unwritten_members w i u) ++ members_text true (members_tree ns)
u-joined w i later (Unwritten.Value n None s) ns h = run-joined later (n.now, value_json (slot_value w i s)) [] ns
u-joined w i later (Unwritten.Value n (Some t) s) ns h = run-joined later (n.now ++ codes "@type", string (type_word t)) ((n.now, value_json (slot_value w i s)) ∷ []) ns
u-joined w i later (Unwritten.Null n) ns h = run-joined later (n.now, null) [] ns
u-joined w i later (Unwritten.Object n p) ns h = run-joined later (n.now, object_of (place_members w i (named_parts p.items))) [] ns
u-joined w i later Unwritten.Close ns h = absurd (false≢true h)

pub unwritten-close : (w : World) (i : Instance) (later : Bool) (us rest : List Unwritten) → list_all is_member us ≡ true
    → unwritten_text w i later (us ++ Unwritten.Close ∷ rest) ≡ members_text later (members_tree (all_members w i us)) ++ unwritten_text w i true rest
unwritten-close w i later [] rest h = refl
unwritten-close w i later (u ∷ us) rest h =
    let p = and_parts (is_member u) (list_all is_member us) h in
    unwritten-first w i later u (us ++ Unwritten.Close ∷ rest) p.0 ∙ ap (λ xs. members_run later (unwritten_members w i u) ++ xs) (unwritten-close w i true us rest p.1)
    ∙ sym (append_assoc (members_run later (unwritten_members w i u)) (members_text true (members_tree (all_members w i us))) (unwritten_text w i true rest))
    ∙ ap (λ xs. xs ++ unwritten_text w i true rest) (sym (u-joined w i later u (all_members w i us) p.0))

-- the list as it is taken from its end
pub stack-reversed : (old us : List Unwritten) → reverse ((old ++ Unwritten.Close ∷ []) ++ reverse us) ≡ us ++ Unwritten.Close ∷ reverse old
stack-reversed old us =
    reverse-append (old ++ Unwritten.Close ∷ []) (reverse us) ∙ ap (λ xs. xs ++ reverse (old ++ Unwritten.Close ∷ [])) (reverse-reverse us) ∙ ap (λ xs. us ++ xs) (reverse-append old (Unwritten.Close ∷ []))

pub top-first : (left : List Unwritten) (u : Unwritten) → reverse (left ++ u ∷ []) ≡ u ∷ reverse left
top-first left u = reverse-append left (u ∷ [])

-- ---- templates, and what is still to be written

-- an object has begun
pub object-begun : (w : World) (i : Instance) (new : Template) (text : List ℕ) (old us left : List Unwritten) (js : List Member) → template_text w i new ≡ text ++ 123 ∷ [] → new.after_member ≡ false
    → left ≡ (old ++ Unwritten.Close ∷ []) ++ reverse us → list_all is_member us ≡ true → all_members w i us ≡ js
    → filled w i new left ≡ text ++ (compact_text (object_of js) ++ unwritten_text w i true (reverse old))
object-begun w i new text old us left js t a l h e =
    (λ j. t j ++ unwritten_text w i (a j) (reverse (l j))) ∙ ap (λ xs. (text ++ 123 ∷ []) ++ unwritten_text w i false xs) (stack-reversed old us)
    ∙ ap (λ xs. (text ++ 123 ∷ []) ++ xs) (unwritten-close w i false us (reverse old) h)
    ∙ append_assoc text (123 ∷ []) (members_text false (members_tree (all_members w i us)) ++ unwritten_text w i true (reverse old))
    ∙ ap (λ ms. text ++ (compact_text (object_of ms) ++ unwritten_text w i true (reverse old))) e
