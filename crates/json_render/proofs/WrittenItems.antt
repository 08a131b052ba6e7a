-- The text of items that are still to be written.
use Rattle.std.proofs.Common.{◌≡◌, ℕ, ◌+◌, ◌*◌, ◌<◌, ◌≤◌, Bool, true, false, cond, List, [], ◌∷◌, ◌++◌, length, codes, take, drop, refl, sym, ◌∙◌, ap, arith, append_assoc, length-append}
use Rattle.std.specs.Prelude.{reverse, if◌then◌else◌}
use Rattle.std.specs.List.{join_with_byte, list_all}
use Rattle.std.proofs.lemmas.Bool.{false≢true}
use Rattle.std.proofs.lemmas.List.{append-nil, length-drop, length-map, reverse-append, reverse-reverse}
use Rattle.serde_json.specs.Written.{comma_if}
use Rattle.edm_values.proofs.SortedLists.{Ascends}
use Rattle.json_render.specs.Bodies.{parenthesised}
use Rattle.json_render.specs.ItemTexts.{all_items, first_items, group_items, is_item, items_run, left_text, place_items}
use Rattle.json_render.specs.Places.{NamedPart, first_run, name_before, named_parts, seen}
use Rattle.json_render.specs.declared.context.Item.{Item}
use Rattle.json_render.specs.declared.entries.Entry.{Entry}
use Rattle.json_render.proofs.Grouping.{groups, groups-step}
use Rattle.json_render.proofs.WrittenMembers.{group-behind, named-take}

groups-next : (es : List NamedPart) → 0 < length es → Ascends name_before es → groups group_items es ≡ first_items (take (first_run es) es) ++ groups group_items (drop (first_run es) es)
groups-next [] l u = absurd (omega arith)
groups-next (e ∷ es) l u = groups-step group_items e es u

-- the next group, and the groups behind it
pub next-group : (es : List Entry) (a k : ℕ) → a < length es → Ascends name_before (named_parts (drop a es)) → k ≡ first_run (named_parts (drop a es))
    → groups group_items (named_parts (drop a es)) ≡ first_items (named_parts (take k (drop a es))) ++ groups group_items (named_parts (drop (a + k) es))
next-group es a k l u h =
    let ps = named_parts (drop a es) in
    let long = length-map (drop a es) seen in
    let left = length-drop a es in
    groups-next ps (omega arith) u
    ∙ (λ j. first_items (take (sym h j) ps) ++ groups group_items (drop (sym h j) ps))
    ∙ (λ j. first_items (sym (named-take k (drop a es)) j) ++ groups group_items (sym (group-behind es a k) j))

-- ---- items joined by commas

run-joined : (x : List ℕ) (xs : List (List ℕ)) → x ++ items_run true xs ≡ join_with_byte 44 (x ∷ xs)
run-joined x [] = append-nil x
run-joined x (y ∷ xs) = ap (λ zs. x ++ 44 ∷ zs) (run-joined y xs)

pub run-is_joined : (xs : List (List ℕ)) → items_run false xs ≡ join_with_byte 44 xs
run-is_joined [] = refl
run-is_joined (x ∷ xs) = run-joined x xs

run-more : (later : Bool) (x : List ℕ) (xs : List (List ℕ)) → items_run later (x ∷ xs) ≡ items_run later (x ∷ []) ++ items_run true xs
run-more later x xs = ap (λ ys. ys ++ items_run true xs) (sym (append-nil (comma_if later ++ x)))

left-close : (later : Bool) (us rest : List Item) → list_all is_item us ≡ true → left_text later (us ++ Item.Close ∷ rest) ≡ items_run later (all_items us) ++ 41 ∷ left_text true rest
left-close later [] rest h = refl
left-close later (Item.Column n ∷ us) rest h =
    ap (λ xs. items_run later (n.now ∷ []) ++ xs) (left-close true us rest h) ∙ sym (append_assoc (items_run later (n.now ∷ [])) (items_run true (all_items us)) (41 ∷ left_text true rest))
    ∙ ap (λ xs. xs ++ 41 ∷ left_text true rest) (sym (run-more later n.now (all_items us)))
left-close later (Item.Segment n p ∷ us) rest h =
    let x = n.now ++ parenthesised (place_items (named_parts p.items)) in
    ap (λ xs. items_run later (x ∷ []) ++ xs) (left-close true us rest h) ∙ sym (append_assoc (items_run later (x ∷ [])) (items_run true (all_items us)) (41 ∷ left_text true rest))
    ∙ ap (λ xs. xs ++ 41 ∷ left_text true rest) (sym (run-more later x (all_items us)))
left-close later (Item.Close ∷ us) rest h = absurd (false≢true h)

-- the list as it is taken from its end
pub stack-reversed : (old us : List Item) → reverse ((old ++ Item.Close ∷ []) ++ reverse us) ≡ us ++ Item.Close ∷ reverse old
stack-reversed old us =
    reverse-append (old ++ Item.Close ∷ []) (reverse us) ∙ ap (λ xs. xs ++ reverse (old ++ Item.Close ∷ [])) (reverse-reverse us) ∙ ap (λ xs. us ++ xs) (reverse-append old (Item.Close ∷ []))

pub top-first : (left : List Item) (u : Item) → reverse (left ++ u ∷ []) ≡ u ∷ reverse left
top-first left u = reverse-append left (u ∷ [])

-- the front of a place, and its other items
front-run : (b : Bool) (xs : List (List ℕ)) → (if b then codes "*" else []) ++ items_run b xs ≡ items_run false ((if b then codes "*" ∷ [] else []) ++ xs)
front-run true xs = refl
front-run false xs = refl

-- a place has begun
pub place-begun : (b : Bool) (text new : List ℕ) (after : Bool) (old us left : List Item) (items : List (List ℕ)) → new ≡ text ++ 40 ∷ (if b then codes "*" else []) → after ≡ b
    → left ≡ (old ++ Item.Close ∷ []) ++ reverse us → list_all is_item us ≡ true → (if b then codes "*" ∷ [] else []) ++ all_items us ≡ items
    → new ++ left_text after (reverse left) ≡ text ++ (parenthesised items ++ left_text true (reverse old))
place-begun b text new after old us left items t a l h e =
    let u = 41 ∷ left_text true (reverse old) in
    (λ j. t j ++ left_text (a j) (reverse (l j))) ∙ ap (λ xs. (text ++ 40 ∷ (if b then codes "*" else [])) ++ left_text b xs) (stack-reversed old us)
    ∙ ap (λ xs. (text ++ 40 ∷ (if b then codes "*" else [])) ++ xs) (left-close b us (reverse old) h)
    ∙ append_assoc text (40 ∷ (if b then codes "*" else [])) (items_run b (all_items us) ++ u)
    ∙ ap (λ xs. text ++ 40 ∷ xs) (sym (append_assoc (if b then codes "*" else []) (items_run b (all_items us)) u) ∙ ap (λ xs. xs ++ u) (front-run b (all_items us) ∙ ap (items_run false) e ∙ run-is_joined items))
    ∙ ap (λ xs. text ++ 40 ∷ xs) (sym (append_assoc (join_with_byte 44 items) (41 ∷ []) (left_text true (reverse old))))

-- ---- each item leaves fewer steps

pub column-steps : (after : Bool) (n rest : List ℕ) → 2 * length rest + 0 < 2 * length (items_run after (n ∷ []) ++ rest) + cond after 0 1
column-steps true n rest = let a = length-append (44 ∷ (n ++ [])) rest in omega arith
column-steps false n rest = let a = length-append (n ++ []) rest in omega arith

flag : (b : Bool) → cond b 0 1 ≤ 1
flag true = omega arith
flag false = omega arith

pub segment-steps : (after next : Bool) (n p rest mid text left : List ℕ) → text ++ left ≡ mid ++ (p ++ rest) → length mid < length text
    → 2 * length left + cond next 0 1 < 2 * length (items_run after ((n ++ p) ∷ []) ++ rest) + cond after 0 1
segment-steps after next n p rest mid text left h l =
    let a = length-append text left in
    let b = length-append mid (p ++ rest) in
    let c = length-append p rest in
    let d = ap length h in
    let run = items_run after ((n ++ p) ∷ []) in
    let e = length-append run rest in
    let f = length-append (comma_if after ++ (n ++ p)) [] in
    let g = length-append (comma_if after) (n ++ p) in
    let k = length-append n p in
    let m = flag next in
    omega arith
