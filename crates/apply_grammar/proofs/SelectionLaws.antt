-- Selections, walks, the ends of climbs, rollups and joins: what is read is in front, and what is in front is read.
use Rattle.std.proofs.Common.{◌≡◌, ℕ, nat_le, Bool, true, false, ◌==◌, cond, List, [], ◌∷◌, ◌++◌, length, Option, Some, None, refl, sym, ap, subst, ◌∙◌, append_assoc, arith}
use Rattle.std.specs.Prelude.{codes, pos, negsuc}
use Rattle.std.specs.Char.{is_ascii_digit}
use Rattle.edm_values.specs.Names.{Name, Path, goes_on_name, begins_name}
use Rattle.edm_values.specs.Values.{integer_max}
use Rattle.apply_ast.specs.Trees.{OrderItem, NumberLiteral, Limit, TopStep, TraverseStep, Key}
use Rattle.apply_ast.specs.Printing.{top_word, walk_word}
use Rattle.apply_ast.specs.Grammar.{Language, bws, rws, word, ◌·◌, given, close, comma, listed, each_behind, name_text, path_text, as_text, keep_text, order_text}
use Rattle.apply_grammar.specs.Limits.{Bounds}
use Rattle.apply_grammar.specs.declared.words.LimitKind.{LimitKind}
use Rattle.apply_grammar.specs.declared.words.LimitKind.TheVariants as kind
use Rattle.apply_grammar.specs.Reading.{◌>>=◌, Leaf, branch, run, after, blanks_at, close_at, comma_at, word_behind, name_at, items_at, list_at, path_at, digits_at, value_behind, count_at, decimal_at}
use Rattle.apply_grammar.specs.PipeReading.{small_at, as_at, item_at, node_at, literal_at, limit_at, top_at, order_at, traverse_at, distance_at, keep_at, climb_end_at, all_at, rollup_at, alias_at, selection_word}
use Rattle.apply_grammar.proofs.Nested.{Digits, Fraction, item_text, literal_text, limit_text, distance_text, top_text, traverse_text}
use Rattle.apply_grammar.proofs.Runs.{bind_then, branch_then, guard_then, none_some, Front, then_front, map_front, word_front, blanks_is, blanks_front, after_is, after_front, stops, solid, solid_on, solid_stops, recut}
use Rattle.apply_grammar.proofs.Lists.{list_is, list_front, items_is_behind, items_front, behind_follow}
use Rattle.apply_grammar.proofs.Leaves.{ends, ends_stops, bws_ends, ends_go, comma_is, close_is, close_front, name_is, name_front, digits_is, digits_front, value_is, value_front, rws_stop, after_none, leads_after, leads_solid, leads, decimal_is, decimal_front, dec_atom, digits_lead, leads_on, path_leads}
use Rattle.apply_grammar.proofs.ExprAgain.{Follow}
use Rattle.apply_grammar.proofs.ItemLaws.{small_is, small_front, small_solid, behind_is, behind_front, behind_other, ItemEnd, close_end, comma_solid, comma_reads, comma_none, name_solid, as_parts, as_front, as_follow, as_is, order_items}
use Rattle.apply_grammar.proofs.PartLaws.{path_items, node_is, node_front}
use Rattle.edm_values.proofs.OptionFacts.{some_value}

-- ---- numbers

pub count_is : (most : ℕ) (t : List ℕ) {x : ℕ × List ℕ} → count_at most t ≡ Some x → Front (Digits most x.0) t x.1
unfolding count_at
count_is most t h =
    bind_then (digits_at t) _ h (λ ds e h. bind_then (value_behind most 0 ds.0) _ h (λ n f k.
    let d = digits_is t e in
    let v = value_is most 0 ds.0 f in
    subst (λ x. Front (Digits most x.0) t x.1) (some_value k)
    (record { front = ds.0; of = record { some = d.0.some; digits = d.0.digits; value = v.0; small = v.1 }; cut = d.1 })))

pub count_front : (most n : ℕ) (a r : List ℕ) → Digits most n a → ends r ≡ true → count_at most (a ++ r) ≡ Some (n, r)
unfolding count_at
count_front most n a r h e =
    rw (digits_front a r (record { some = h.some; digits = h.digits }) (ends_stops is_ascii_digit r e refl refl refl refl), value_front most 0 a n h.value h.small) refl

pub digits_solid : (most n : ℕ) (a : List ℕ) → Digits most n a → solid a ≡ true
digits_solid most n a h = leads_solid is_ascii_digit a (digits_lead a (record { some = h.some; digits = h.digits })) refl refl

literal_is : (t : List ℕ) {x : NumberLiteral × List ℕ} → literal_at t ≡ Some x → Front (literal_text x.0) t x.1
unfolding literal_at
literal_is t h =
    bind_then (digits_at t) _ h (λ ds e h.
    let d = digits_is t e in
    branch_then (after 46 ds.1) _ _ h
    (λ r f h. bind_then (decimal_at ds.0 r) _ h (λ y g k.
    let c = decimal_is ds.0 r d.0 g in
    subst (λ x. Front (literal_text x.0) t x.1) (some_value k)
    (record { front = ds.0 ++ 46 ∷ c.more; of = c.of; cut = d.1 ∙ ap (λ l. ds.0 ++ l) (after_is 46 ds.1 f ∙ ap (λ l. 46 ∷ l) c.cut) ∙ sym (append_assoc ds.0 (46 ∷ c.more) y.1) })))
    (λ f h. bind_then (value_behind integer_max 0 ds.0) _ h (λ n i k.
    let v = value_is integer_max 0 ds.0 i in
    subst (λ x. Front (literal_text x.0) t x.1) (some_value k)
    (record { front = ds.0; of = record { some = d.0.some; digits = d.0.digits; value = v.0; small = v.1 }; cut = d.1 }))))

int_literal : (n : ℕ) (a r : List ℕ) → Digits integer_max n a → ends r ≡ true → literal_at (a ++ r) ≡ Some (NumberLiteral.Int (pos n), r)
unfolding literal_at
int_literal n a r h e =
    rw (
      digits_front a r (record { some = h.some; digits = h.digits }) (ends_stops is_ascii_digit r e refl refl refl refl),
      after_none 46 r (ends_stops (λ b. b == 46) r e refl refl refl refl),
      value_front integer_max 0 a n h.value h.small,
    )
    refl

dec_literal : (m s : ℕ) (a r : List ℕ) → Fraction m s a → ends r ≡ true → literal_at (a ++ r) ≡ Some (NumberLiteral.Dec (pos m) s, r)
unfolding literal_at
dec_literal m s a r h e =
    rw (
      recut h.whole (46 ∷ h.fraction) r h.cut,
      digits_front h.whole (46 ∷ (h.fraction ++ r)) (record { some = h.some; digits = h.digits }) refl,
      after_front 46 (h.fraction ++ r),
      decimal_front m s a r h e,
    )
    refl

literal_front : (x : NumberLiteral) (a r : List ℕ) → literal_text x a → ends r ≡ true → literal_at (a ++ r) ≡ Some (x, r)
literal_front (NumberLiteral.Int (pos n)) a r h e = int_literal n a r h e
literal_front (NumberLiteral.Int (negsuc n)) a r h e = absurd h
literal_front (NumberLiteral.Dec (pos m) s) a r h e = dec_literal m s a r h e
literal_front (NumberLiteral.Dec (negsuc m) s) a r h e = absurd h

literal_solid : (limits : Bounds) (x : NumberLiteral) (a : List ℕ) → literal_text x a → solid a ≡ true
literal_solid limits (NumberLiteral.Int (pos n)) a h = digits_solid integer_max n a h
literal_solid limits (NumberLiteral.Int (negsuc n)) a h = absurd h
literal_solid limits (NumberLiteral.Dec (pos m) s) a h = let f = dec_atom limits m s a [] h refl in f.solid_atom
literal_solid limits (NumberLiteral.Dec (negsuc m) s) a h = absurd h

-- ---- selections

-- which kind of limit it is
abbrev pub kind_of : Limit → LimitKind
kind_of (Limit.Count n) = kind.Count
kind_of (Limit.Sum x) = kind.Sum
kind_of (Limit.Percent p) = kind.Percent

pub top_word_is : (b : Bool) (l : Limit) → top_word b l ≡ selection_word b (kind_of l)
top_word_is b (Limit.Count n) = refl
top_word_is b (Limit.Sum x) = refl
top_word_is b (Limit.Percent p) = refl

limit_is : (k : LimitKind) (t : List ℕ) {x : Limit × List ℕ} → limit_at k t ≡ Some x → Front (limit_text x.0) t x.1 × (kind_of x.0 ≡ k)
unfolding limit_at
limit_is kind.Count t h = bind_then (count_at integer_max t) _ h (λ n e k. subst (λ (x : Limit × List ℕ). Front (limit_text x.0) t x.1 × (kind_of x.0 ≡ kind.Count)) (some_value k) (count_is integer_max t e, refl))
limit_is kind.Sum t h = bind_then (literal_at t) _ h (λ n e k. subst (λ (x : Limit × List ℕ). Front (limit_text x.0) t x.1 × (kind_of x.0 ≡ kind.Sum)) (some_value k) (literal_is t e, refl))
limit_is kind.Percent t h = bind_then (count_at 100 t) _ h (λ n e k. subst (λ (x : Limit × List ℕ). Front (limit_text x.0) t x.1 × (kind_of x.0 ≡ kind.Percent)) (some_value k) (count_is 100 t e, refl))

limit_front : (l : Limit) (a r : List ℕ) → limit_text l a → ends r ≡ true → limit_at (kind_of l) (a ++ r) ≡ Some (l, r)
unfolding limit_at
limit_front (Limit.Count n) a r h e = rw (count_front integer_max n a r h e) refl
limit_front (Limit.Sum x) a r h e = rw (literal_front x a r h e) refl
limit_front (Limit.Percent p) a r h e = rw (count_front 100 p a r h e) refl

limit_solid : (limits : Bounds) (l : Limit) (a : List ℕ) → limit_text l a → solid a ≡ true
limit_solid limits (Limit.Count n) a h = digits_solid integer_max n a h
limit_solid limits (Limit.Sum x) a h = literal_solid limits x a h
limit_solid limits (Limit.Percent p) a h = digits_solid 100 p a h

-- a selection that was read, and the word that it stands behind
pub record TopRead (limits : Bounds) (d : ℕ) (b : Bool) (k : LimitKind) (t : List ℕ) (x : TopStep × List ℕ) : Type 0 where
  pub front : Front (top_text limits x.0 d) t x.1
  pub its_word : top_word x.0.bottom x.0.limit ≡ selection_word b k

pub top_is : (limits : Bounds) (d : ℕ) (b : Bool) (k : LimitKind) (t : List ℕ) {x : TopStep × List ℕ} → top_at limits d b k t ≡ Some x → TopRead limits d b k t x
unfolding top_at
top_is limits d b k t h =
    bind_then (limit_at k t) _ h (λ l e h. bind_then (comma_at l.1) _ h (λ c f h. bind_then (small_at limits d c) _ h (λ y g i.
    let m = limit_is k t e in
    subst (λ x. TopRead limits d b k t x) (some_value i)
    (record {
      front = then_front m.0 (then_front (comma_is l.1 f).0 (small_is limits d c g));
      its_word = top_word_is b l.0 ∙ ap (selection_word b) m.1;
    }))))

pub top_front : (limits : Bounds) (x : TopStep) (d : ℕ) (a r : List ℕ) → top_text limits x d a → Follow 1 r → top_at limits d x.bottom (kind_of x.limit) (a ++ r) ≡ Some (x, r)
unfolding top_at
top_front limits x d a r h f =
    let b = h.second in
    let u = b.right in
    let cut : a ++ r ≡ h.left ++ (b.left ++ (u ++ r)) = recut h.left h.right r h.cut ∙ ap (λ l. h.left ++ l) (recut b.left u r b.cut) in
    rw (
      cut,
      limit_front x.limit h.left (b.left ++ (u ++ r)) h.first (comma_solid b.left (u ++ r) b.first),
      comma_reads b.left (u ++ r) b.first (solid_stops u r (small_solid limits x.expr d u b.second)),
      small_front limits d x.expr u r b.second f,
    )
    refl

pub top_solid : (limits : Bounds) (x : TopStep) (d : ℕ) (a : List ℕ) → top_text limits x d a → solid a ≡ true
top_solid limits x d a h = subst (λ l. solid l ≡ true) (sym h.cut) (solid_on h.left h.right (limit_solid limits x.limit h.left h.first))

-- ---- walks

order_is : (t : List ℕ) {x : Bool × List ℕ} → order_at t ≡ Some x → Front (order_text x.0) t x.1
unfolding order_at
order_is t h =
    branch_then (word_behind (codes "preorder") t) _ _ h
    (λ u e k. subst (λ (x : Bool × List ℕ). Front (order_text x.0) t x.1) (some_value k) (behind_is (codes "preorder") t e))
    (λ e h. bind_then (word_behind (codes "postorder") t) _ h (λ u f k. subst (λ (x : Bool × List ℕ). Front (order_text x.0) t x.1) (some_value k) (behind_is (codes "postorder") t f)))

order_front : (b : Bool) (r : List ℕ) → stops goes_on_name r ≡ true → order_at (walk_word b ++ r) ≡ Some (b, r)
unfolding order_at
order_front true r s = rw (behind_other (codes "preorder") (codes "postorder") r refl s refl, behind_front (codes "postorder") r refl s) refl
order_front false r s = rw (behind_front (codes "preorder") r refl s) refl

order_solid : (b : Bool) → solid (walk_word b) ≡ true
order_solid true = refl
order_solid false = refl

pub traverse_is : (limits : Bounds) (d : ℕ) (t : List ℕ) {x : TraverseStep × List ℕ} → traverse_at limits d t ≡ Some x → Front (traverse_text limits x.0 d) t x.1
unfolding traverse_at
traverse_is limits d t h =
    bind_then (node_at t) _ h (λ n e h. bind_then (comma_at n.1) _ h (λ c f h. bind_then (order_at c) _ h (λ o g h. bind_then (items_at comma_at (item_at limits d) (length o.1) o.1) _ h (λ is i k.
    subst (λ x. Front (traverse_text limits x.0 d) t x.1) (some_value k)
    (node_is t e (then_front (comma_is n.1 f).0 (then_front (order_is c g) (items_is_behind (order_items limits d) (length o.1) o.1 i))))))))

behind_ends : (limits : Bounds) (d : ℕ) (xs : List OrderItem) (a r : List ℕ) → each_behind comma (item_text limits d) xs a → ItemEnd r → ends (a ++ r) ≡ true
behind_ends limits d xs a r h s = let e = behind_follow (order_items limits d) xs a r h s in let f = e.follow in f.ends_here

pub traverse_front : (limits : Bounds) (x : TraverseStep) (d : ℕ) (a w r : List ℕ) → traverse_text limits x d a → bws w → traverse_at limits d (a ++ (w ++ (41 ∷ r))) ≡ Some (x, w ++ (41 ∷ r))
unfolding traverse_at
traverse_front limits x d a w r h b =
    let z = w ++ (41 ∷ r) in
    let n = node_front x.hier x.path (comma · order_text x.post · each_behind comma (item_text limits d) x.items) a z h in
    let c = n.of in
    let o = c.second in
    let its = o.right ++ z in
    let cut : n.others ++ z ≡ c.left ++ (walk_word x.post ++ its) = recut c.left c.right z c.cut ∙ ap (λ l. c.left ++ l) (recut o.left o.right z o.cut ∙ ap (λ l. l ++ its) o.first) in
    let stop : stops goes_on_name its ≡ true = ends_go its (behind_ends limits d x.items o.right z o.second (close_end w r b)) in
    let e : ends (n.others ++ z) ≡ true = subst (λ l. ends l ≡ true) (sym cut) (comma_solid c.left (walk_word x.post ++ its) c.first) in
    rw (
      n.reads e,
      cut,
      comma_reads c.left (walk_word x.post ++ its) c.first (solid_stops (walk_word x.post) its (order_solid x.post)),
      order_front x.post its stop,
      items_front (order_items limits d) x.items o.right z o.second (close_end w r b) (comma_none w r b) (length its) (omega arith),
    )
    refl

-- ---- the end of a climb

distance_is : (t : List ℕ) {x : Option ℕ × List ℕ} → distance_at t ≡ Some x → Front (distance_text x.0) t x.1
unfolding distance_at
distance_is t h =
    branch_then (comma_at t) _ _ h
    (λ s e h. branch_then (digits_at s) _ _ h
    (λ ds f h. bind_then (value_behind integer_max 0 ds.0) _ h (λ n g h. guard_then (nat_le 1 n) (Some n, ds.1) h (λ l k.
    let d = digits_is s f in
    let v = value_is integer_max 0 ds.0 g in
    subst (λ (x : Option ℕ × List ℕ). Front (distance_text x.0) t x.1) k
    (then_front (comma_is t e).0 (record { front = ds.0; of = record { of = record { some = d.0.some; digits = d.0.digits; value = v.0; small = v.1 }; some = l }; cut = d.1 })))))
    (λ f k. subst (λ (x : Option ℕ × List ℕ). Front (distance_text x.0) t x.1) (some_value k) (word_front [] t t refl)))
    (λ e k. subst (λ (x : Option ℕ × List ℕ). Front (distance_text x.0) t x.1) (some_value k) (word_front [] t t refl))

-- a comma with no number behind it may follow
no_distance : (r : List ℕ) → ((u : List ℕ) → comma_at r ≡ Some u → digits_at u ≡ None) → distance_at r ≡ Some (None, r)
unfolding distance_at
no_distance r f = by (comma_at r) f
  where
    by : (o : Option (List ℕ)) → ((u : List ℕ) → o ≡ Some u → digits_at u ≡ None) → branch {B = Leaf (Option ℕ)} o (λ s. branch {B = Leaf (Option ℕ)} (digits_at s) (λ ds. value_behind integer_max 0 ds.0 >>= λ n. cond (nat_le 1 n) (Some (Some n, ds.1)) None) (Some (None, r))) (Some (None, r)) ≡ Some (None, r)
    by None k = refl
    by (Some u) k = rw (k u refl) refl

distance_front : (x : Option ℕ) (a r : List ℕ) → distance_text x a → ends r ≡ true → ((u : List ℕ) → comma_at r ≡ Some u → digits_at u ≡ None) → distance_at (a ++ r) ≡ Some (x, r)
unfolding distance_at
distance_front None a r h e f = ap (λ l. distance_at (l ++ r)) h ∙ no_distance r f
distance_front (Some n) a r h e f =
    let b = h.second in
    let c = b.of in
    let u = h.right in
    rw (
      recut h.left u r h.cut,
      comma_reads h.left (u ++ r) h.first (solid_stops u r (digits_solid integer_max n u c)),
      digits_front u r (record { some = c.some; digits = c.digits }) (ends_stops is_ascii_digit r e refl refl refl refl),
      value_front integer_max 0 u n c.value c.small,
      b.some,
    )
    refl

keep_is : (t : List ℕ) {x : Bool × List ℕ} → keep_at t ≡ Some x → Front (keep_text x.0) t x.1
unfolding keep_at
keep_is t h =
    branch_then (comma_at t) _ _ h
    (λ s e h. bind_then (word_behind (codes "keep") s) _ h (λ k f h. bind_then (blanks_at k) _ h (λ b g h. bind_then (word_behind (codes "start") b) _ h (λ u i j.
    subst (λ (x : Bool × List ℕ). Front (keep_text x.0) t x.1) (some_value j)
    (then_front (comma_is t e).0 (then_front (behind_is (codes "keep") s f) (then_front (blanks_is k g).0 (behind_is (codes "start") b i))))))))
    (λ e k. subst (λ (x : Bool × List ℕ). Front (keep_text x.0) t x.1) (some_value k) (word_front [] t t refl))

-- what follows the pipeline of a climb, or its distance
record Kept (b : Bool) (a z : List ℕ) : Type 0 where
  pub reads : keep_at (a ++ z) ≡ Some (b, z)
  pub ends_here : ends (a ++ z) ≡ true
  pub no_number : (u : List ℕ) → comma_at (a ++ z) ≡ Some u → digits_at u ≡ None

keep_words : (c v z : List ℕ) → comma c → rws v → stops goes_on_name z ≡ true → keep_at (c ++ (codes "keep" ++ (v ++ (codes "start" ++ z)))) ≡ Some (true, z)
unfolding keep_at
keep_words c v z h k s =
    rw (
      comma_reads c (codes "keep" ++ (v ++ (codes "start" ++ z))) h refl,
      behind_front (codes "keep") (v ++ (codes "start" ++ z)) refl (rws_stop v (codes "start" ++ z) k),
      blanks_front v (codes "start" ++ z) k refl,
      behind_front (codes "start") z refl s,
    )
    refl

no_digits_keep : (s : List ℕ) → digits_at (codes "keep" ++ s) ≡ None
unfolding digits_at run
no_digits_keep s = refl

not_kept : (w r : List ℕ) → bws w → keep_at (w ++ (41 ∷ r)) ≡ Some (false, w ++ (41 ∷ r))
unfolding keep_at
not_kept w r b = rw (comma_none w r b) refl

keep_front : (b : Bool) (a w r : List ℕ) → keep_text b a → bws w → Kept b a (w ++ (41 ∷ r))
keep_front false a w r h b =
    let z = w ++ (41 ∷ r) in
    let e : a ++ z ≡ z = ap (λ l. l ++ z) h in
    record {
      reads = ap keep_at e ∙ not_kept w r b;
      ends_here = subst (λ l. ends l ≡ true) (sym e) (bws_ends w (41 ∷ r) b refl);
      no_number = λ u k. none_some (comma_none w r b) (ap comma_at (sym e) ∙ k);
    }
keep_front true a w r h b =
    let z = w ++ (41 ∷ r) in
    let k = h.second in
    let v = k.second in
    let y = codes "keep" ++ (v.left ++ (codes "start" ++ z)) in
    let e : a ++ z ≡ h.left ++ y = recut h.left h.right z h.cut ∙ ap (λ l. h.left ++ l) (recut k.left k.right z k.cut ∙ ap (λ l. l ++ (k.right ++ z)) k.first ∙ ap (λ l. codes "keep" ++ l) (recut v.left v.right z v.cut ∙ ap (λ l. v.left ++ (l ++ z)) v.second)) in
    record {
      reads = ap keep_at e ∙ keep_words h.left v.left z h.first v.first (ends_go z (bws_ends w (41 ∷ r) b refl));
      ends_here = subst (λ l. ends l ≡ true) (sym e) (comma_solid h.left y h.first);
      no_number = λ u i.
          let c : Some y ≡ Some u = sym (comma_reads h.left y h.first refl) ∙ ap comma_at (sym e) ∙ i in
          subst (λ l. digits_at l ≡ None) (some_value c) (no_digits_keep (v.left ++ (codes "start" ++ z)));
    }

pub climb_end_is : (t : List ℕ) {x : (Option ℕ × Bool) × List ℕ} → climb_end_at t ≡ Some x → Front ((distance_text x.0.0 · keep_text x.0.1) · close) t x.1
unfolding climb_end_at
climb_end_is t h =
    bind_then (distance_at t) _ h (λ d e h. bind_then (keep_at d.1) _ h (λ k f h. bind_then (close_at k.1) _ h (λ r g i.
    subst (λ (x : (Option ℕ × Bool) × List ℕ). Front ((distance_text x.0.0 · keep_text x.0.1) · close) t x.1) (some_value i)
    (then_front (then_front (distance_is t e) (keep_is d.1 f)) (close_is k.1 g)))))

-- the end of a climb, with what it follows
pub record ClimbEnd (x : Option ℕ) (keep : Bool) (a w r : List ℕ) : Type 0 where
  pub reads : climb_end_at (a ++ (w ++ (41 ∷ r))) ≡ Some ((x, keep), r)
  pub ends_here : ends (a ++ (w ++ (41 ∷ r))) ≡ true

distance_ends : (x : Option ℕ) (a r : List ℕ) → distance_text x a → ends r ≡ true → ends (a ++ r) ≡ true
distance_ends None a r h e = subst (λ l. ends (l ++ r) ≡ true) (sym h) e
distance_ends (Some n) a r h e = subst (λ l. ends l ≡ true) (sym (recut h.left h.right r h.cut)) (comma_solid h.left (h.right ++ r) h.first)

pub climb_end_front : (x : Option ℕ) (keep : Bool) (a w r : List ℕ) → (distance_text x · keep_text keep) a → bws w → ClimbEnd x keep a w r
unfolding climb_end_at
climb_end_front x keep a w r h b =
    let z = w ++ (41 ∷ r) in
    let k = keep_front keep h.right w r h.second b in
    let cut : a ++ z ≡ h.left ++ (h.right ++ z) = recut h.left h.right z h.cut in
    record {
      reads = rw (cut, distance_front x h.left (h.right ++ z) h.first k.ends_here k.no_number, k.reads, close_front w r b) refl;
      ends_here = subst (λ l. ends l ≡ true) (sym cut) (distance_ends x h.left (h.right ++ z) h.first k.ends_here);
    }

-- ---- rollups

-- the paths of a rollup
abbrev pub rollup_text : Bool → List Path → Language
rollup_text true ps = word (codes "$all") · comma · listed comma path_text ps
rollup_text false ps = given (nat_le 2 (length ps)) (listed comma path_text ps)

all_is : (t r : List ℕ) → t ≡ 36 ∷ r → {s : List ℕ} → all_at r ≡ Some s → Front (word (codes "$all") · comma) t s
unfolding all_at
all_is t r c h =
    bind_then (word_behind (codes "all") r) _ h (λ u e k.
    let w = behind_is (codes "all") r e in
    then_front (word_front (codes "$all") t u (c ∙ ap (λ l. 36 ∷ l) (w.cut ∙ ap (λ l. l ++ u) w.of))) (comma_is u k).0)

-- the paths that a key has
pub record RollupRead (t : List ℕ) (x : Key × List ℕ) : Type 0 where
  pub all : Bool
  pub paths : List Path
  pub key : x.0 ≡ Key.Rollup all paths
  pub front : Front (rollup_text all paths) t x.1

regroup : {A B C : Language} {t r : List ℕ} → Front ((A · B) · C) t r → Front (A · B · C) t r
regroup f = map_front (λ a h.
    let b = h.first in
    record {
      left = b.left;
      right = b.right ++ h.right;
      first = b.first;
      second = record { left = b.right; right = h.right; first = b.second; second = h.second; cut = refl };
      cut = h.cut ∙ ap (λ l. l ++ h.right) b.cut ∙ append_assoc b.left b.right h.right;
    })
    f

pub rollup_is : (t : List ℕ) {x : Key × List ℕ} → rollup_at t ≡ Some x → RollupRead t x
unfolding rollup_at
rollup_is t h =
    branch_then (after 36 t) _ _ h
    (λ r e h. bind_then (all_at r) _ h (λ c f h. bind_then (list_at comma_at path_at c) _ h (λ ps g k.
    subst (λ x. RollupRead t x) (some_value k)
    (record { all = true; paths = ps.0; key = refl; front = regroup (then_front (all_is t r (after_is 36 t e) f) (list_is path_items c g)) }))))
    (λ e h. bind_then (list_at comma_at path_at t) _ h (λ ps g h. guard_then (nat_le 2 (length ps.0)) _ h (λ l k.
    subst (λ x. RollupRead t x) k
    (record { all = false; paths = ps.0; key = refl; front = map_front (λ a i. (l, i)) (list_is path_items t g) }))))

paths_lead : (ps : List Path) (a : List ℕ) → listed comma path_text ps a → leads begins_name a ≡ true
paths_lead [] a h = absurd h
paths_lead (p ∷ []) a h = path_leads p a h
paths_lead (p ∷ (q ∷ ps)) a h = subst (λ l. leads begins_name l ≡ true) (sym h.cut) (leads_on begins_name h.left h.right (path_leads p h.left h.first))

pub paths_solid : (ps : List Path) (a : List ℕ) → listed comma path_text ps a → solid a ≡ true
paths_solid ps a h = leads_solid begins_name a (paths_lead ps a h) refl refl

pub rollup_front : (all : Bool) (ps : List Path) (a w r : List ℕ) → rollup_text all ps a → bws w → rollup_at (a ++ (w ++ (41 ∷ r))) ≡ Some (Key.Rollup all ps, w ++ (41 ∷ r))
unfolding rollup_at all_at
rollup_front true ps a w r h b =
    let z = w ++ (41 ∷ r) in
    let c = h.second in
    let u = c.right in
    let y = c.left ++ (u ++ z) in
    let cut : a ++ z ≡ 36 ∷ (codes "all" ++ y) = recut h.left h.right z h.cut ∙ ap (λ l. l ++ (h.right ++ z)) h.first ∙ ap (λ l. codes "$all" ++ l) (recut c.left u z c.cut) in
    rw (
      cut,
      after_front 36 (codes "all" ++ y),
      behind_front (codes "all") y refl (ends_go y (comma_solid c.left (u ++ z) c.first)),
      comma_reads c.left (u ++ z) c.first (solid_stops u z (paths_solid ps u c.second)),
      list_front path_items ps u z c.second (bws_ends w (41 ∷ r) b refl) (comma_none w r b),
    )
    refl
rollup_front false ps a w r h b =
    let z = w ++ (41 ∷ r) in
    rw (
      leads_after begins_name 36 a z (paths_lead ps a h.1) refl,
      list_front path_items ps a z h.1 (bws_ends w (41 ∷ r) b refl) (comma_none w r b),
      h.0,
    )
    refl

pub rollup_solid : (all : Bool) (ps : List Path) (a : List ℕ) → rollup_text all ps a → solid a ≡ true
rollup_solid true ps a h = subst (λ l. solid l ≡ true) (sym (h.cut ∙ ap (λ l. l ++ h.right) h.first)) refl
rollup_solid false ps a h = paths_solid ps a h.1

-- ---- joins

-- a navigation property, and the name of its results, before something else
pub alias_is : {A : Language} (t : List ℕ) {x : (Name × Name) × List ℕ} {s : List ℕ} → alias_at t ≡ Some x → Front A x.1 s → Front (name_text x.0.0 · as_text x.0.1 · A) t s
unfolding alias_at
alias_is {A} t {x} {s} h z =
    bind_then (name_at t) _ h (λ n e h. bind_then (as_at n.1) _ h (λ r f h. bind_then (name_at r) _ h (λ a g k.
    let i : Front A a.1 s = subst (λ (x : (Name × Name) × List ℕ). Front A x.1 s) (sym (some_value k)) z in
    subst (λ (x : (Name × Name) × List ℕ). Front (name_text x.0.0 · as_text x.0.1 · A) t s) (some_value k)
    (then_front (name_is t e).0 (then_front (as_is n.1 f (name_is r g).0) i)))))

pub record AliasRead (n m : Name) (A : Language) (a r : List ℕ) : Type 0 where
  pub others : List ℕ
  pub of : A others
  pub reads : ends (others ++ r) ≡ true → alias_at (a ++ r) ≡ Some ((n, m), others ++ r)

pub alias_front : (n m : Name) (A : Language) (a r : List ℕ) → (name_text n · as_text m · A) a → AliasRead n m A a r
unfolding alias_at
alias_front n m A a r h =
    let b = h.second in
    let i = h.first in
    let z = b.right ++ r in
    let p = as_parts m b.left b.first in
    let f = as_follow m b.left z b.first in
    let cut : a ++ r ≡ n ++ (b.left ++ z) = recut h.left h.right r h.cut ∙ ap (λ l. l ++ (h.right ++ r)) i.1 ∙ ap (λ l. n ++ l) (recut b.left b.right r b.cut) in
    record {
      others = b.right;
      of = b.second;
      reads = λ e. rw (
        cut,
        name_front n (b.left ++ z) i.0 (ends_go (b.left ++ z) f.ends_here),
        as_front m b.left z b.first,
        name_front m z p.named (ends_go z e),
      )
          refl;
    }

pub alias_solid : (n : Name) (A : Language) (a : List ℕ) → (name_text n · A) a → solid a ≡ true
alias_solid n A a h = let i = h.first in subst (λ l. solid l ≡ true) (sym h.cut) (solid_on h.left h.right (subst (λ l. solid l ≡ true) (sym i.1) (name_solid n i.0)))
