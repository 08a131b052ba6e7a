-- What stands in the parentheses of steps and holds no pipeline: what is read is in front, and what is in front is read.
use Rattle.std.proofs.Common.{◌≡◌, ℕ, ◌+◌, ◌<◌, Bool, true, false, List, [], ◌∷◌, ◌++◌, length, Some, None, refl, sym, ap, subst, ◌∙◌, arith, inl, inr}
use Rattle.std.specs.Prelude.{codes, ◌-◌}
use Rattle.std.specs.List.{list_all}
use Rattle.std.proofs.lemmas.List.{length-append}
use Rattle.edm_values.specs.Lists.{same_text}
use Rattle.edm_values.specs.Names.{goes_on_name, is_name}
use Rattle.edm_values.proofs.SameTexts.{same_texts, text-self}
use Rattle.edm_values.proofs.OptionFacts.{some_value}
use Rattle.apply_ast.specs.Trees.{Expr, Named, OrderItem}
use Rattle.apply_ast.specs.Grammar.{is_blank, bws, rws, word, ◌·◌, comma, name_text, as_text, direction_text}
use Rattle.apply_grammar.specs.Limits.{operations, Bounds}
use Rattle.apply_grammar.specs.Reading.{◌>>=◌, run, after, blanks_at, comma_at, word_behind, between_blanks, binop_of, name_at, expr_at, primary, parens}
use Rattle.apply_grammar.specs.PipeReading.{small_at, as_at, with_at, named_at, direction_at, item_at}
use Rattle.apply_grammar.proofs.Nested.{SmallExpr, named_text, item_text}
use Rattle.apply_grammar.proofs.Runs.{bind_then, branch_then, guard_then, Front, then_front, map_front, word_front, run_is, blanks_is, blanks_front, blanks_none, skip_front, stops, solid, solid_on, solid_stops, recut}
use Rattle.apply_grammar.proofs.Lists.{Items}
use Rattle.apply_grammar.proofs.Leaves.{ends, bws_ends, ends_go, comma_is, comma_front, name_is, name_front, first_name, op_none, rws_ends, rws_stop, word_run}
use Rattle.apply_grammar.proofs.ExprFound.{climb_is, prim_is}
use Rattle.apply_grammar.proofs.ExprAgain.{Follow, expr_front, at_solid}

-- ---- expressions

pub small_is : (limits : Bounds) (d : ℕ) (t : List ℕ) {x : Expr × List ℕ} → small_at limits d t ≡ Some x → Front (SmallExpr limits x.0 d) t x.1
unfolding small_at
small_is limits d t h =
    bind_then (expr_at limits d 1 limits.operations t) _ h (λ y e k.
    let c = climb_is limits d (primary limits (parens limits d)) (prim_is limits d) 1 limits.operations t (omega arith) e in
    subst (λ x. Front (SmallExpr limits x.0 d) t x.1) (some_value k)
    (map_front (λ a g. record { of = g; small = omega (arith, c.count) }) c.front))

pub small_front : (limits : Bounds) (d : ℕ) (e : Expr) (a r : List ℕ) → SmallExpr limits e d a → Follow 1 r → small_at limits d (a ++ r) ≡ Some (e, r)
unfolding small_at
small_front limits d e a r h f =
    let i : limits.operations ≡ operations e + (limits.operations - operations e) = omega (arith, h.small) in
    let g : expr_at limits d 1 limits.operations (a ++ r) ≡ Some (e, limits.operations - operations e, r) = ap (λ k. expr_at limits d 1 k (a ++ r)) i ∙ expr_front limits e d (limits.operations - operations e) a r h.of f in
    ap (λ o. o >>= λ x. Some (x.0, x.2)) g

pub small_solid : (limits : Bounds) (e : Expr) (d : ℕ) (a : List ℕ) → SmallExpr limits e d a → solid a ≡ true
small_solid limits e d a h = at_solid limits 1 e d a h.of

-- ---- a word between blanks

pub behind_is : (w t : List ℕ) {r : List ℕ} → word_behind w t ≡ Some r → Front (word w) t r
unfolding word_behind
behind_is w t h =
    guard_then (same_text (run goes_on_name t).0 w) (run goes_on_name t).1 h (λ e k.
    subst (λ r. Front (word w) t r) k (record { front = (run goes_on_name t).0; of = same_texts _ _ e; cut = (run_is goes_on_name t).cut }))

pub behind_front : (w r : List ℕ) → list_all goes_on_name w ≡ true → stops goes_on_name r ≡ true → word_behind w (w ++ r) ≡ Some r
unfolding word_behind
behind_front w r h s = rw (word_run w r h s, text-self w) refl

-- another word comes first
pub behind_other : (w v r : List ℕ) → list_all goes_on_name v ≡ true → stops goes_on_name r ≡ true → same_text v w ≡ false → word_behind w (v ++ r) ≡ None
unfolding word_behind
behind_other w v r h s n = rw (word_run v r h s, n) refl

pub record Between (w t r : List ℕ) : Type 0 where
  pub from_word : List ℕ
  pub behind_word : List ℕ
  pub blanks : Front rws t from_word
  pub the_word : Front (word w) from_word behind_word
  pub blanks_behind : Front rws behind_word r

pub between_is : (w t : List ℕ) {r : List ℕ} → between_blanks w t ≡ Some r → Between w t r
unfolding between_blanks
between_is w t h =
    bind_then (blanks_at t) _ h (λ s e h. bind_then (word_behind w s) _ h (λ u f k.
    record { from_word = s; behind_word = u; blanks = (blanks_is t e).0; the_word = behind_is w s f; blanks_behind = (blanks_is u k).0 }))

pub between_front : (w u v r : List ℕ) → solid w ≡ true → list_all goes_on_name w ≡ true → rws u → rws v → stops is_blank r ≡ true → between_blanks w (u ++ (w ++ (v ++ r))) ≡ Some r
unfolding between_blanks
between_front w u v r i l h k s = rw (blanks_front u (w ++ (v ++ r)) h (solid_stops w (v ++ r) i), behind_front w (v ++ r) l (rws_stop v r k)) (blanks_front v r k s)

-- no such word stands behind these blanks
pub between_none : (w u s : List ℕ) → bws u → stops is_blank s ≡ true → same_text (run goes_on_name s).0 w ≡ false → between_blanks w (u ++ s) ≡ None
unfolding between_blanks word_behind
between_none w [] s h k e = rw (blanks_none s k) refl
between_none w (b ∷ u) s h k e = rw (blanks_front (b ∷ u) s (h, refl) k, e) refl

-- ---- what may follow an item

pub record ItemEnd (r : List ℕ) : Type 0 where
  pub follow : Follow 1 r
  pub no_as : as_at r ≡ None
  pub no_with : with_at r ≡ None
  pub no_direction : direction_at r ≡ (false, r)

no_direction_behind : (u s : List ℕ) → bws u → stops is_blank s ≡ true → same_text (run goes_on_name s).0 (codes "asc") ≡ false → same_text (run goes_on_name s).0 (codes "desc") ≡ false → direction_at (u ++ s) ≡ (false, u ++ s)
unfolding direction_at word_behind
no_direction_behind [] s h k e g = rw (blanks_none s k) refl
no_direction_behind (b ∷ u) s h k e g = rw (blanks_front (b ∷ u) s (h, refl) k, e, g) refl

-- blanks, and a comma or a closing parenthesis
pub item_end : (u : List ℕ) (b : ℕ) (s : List ℕ) → bws u → ends (b ∷ s) ≡ true → is_blank b ≡ false → goes_on_name b ≡ false → ItemEnd (u ++ (b ∷ s))
unfolding as_at with_at run binop_of
item_end u b s h e k g =
    let w : run goes_on_name (b ∷ s) ≡ ([], b ∷ s) = rw g refl in
    let t : stops is_blank (b ∷ s) ≡ true = rw k refl in
    record {
      follow = record { ends_here = bws_ends u (b ∷ s) h e; no_op = op_none 1 u (b ∷ s) h t (ap (λ (x : List ℕ × List ℕ). binop_of x.0) w) };
      no_as = between_none (codes "as") u (b ∷ s) h t (ap (λ (x : List ℕ × List ℕ). same_text x.0 (codes "as")) w);
      no_with = between_none (codes "with") u (b ∷ s) h t (ap (λ (x : List ℕ × List ℕ). same_text x.0 (codes "with")) w);
      no_direction = no_direction_behind u (b ∷ s) h t (ap (λ (x : List ℕ × List ℕ). same_text x.0 (codes "asc")) w) (ap (λ (x : List ℕ × List ℕ). same_text x.0 (codes "desc")) w);
    }

pub close_end : (u s : List ℕ) → bws u → ItemEnd (u ++ (41 ∷ s))
close_end u s h = item_end u 41 s h refl refl refl

-- ---- commas

comma_cut : (s r : List ℕ) (h : comma s) → s ++ r ≡ h.left ++ (44 ∷ (h.second.right ++ r))
comma_cut s r h = recut h.left h.right r h.cut ∙ ap (λ l. h.left ++ l) (recut h.second.left h.second.right r h.second.cut ∙ ap (λ l. l ++ (h.second.right ++ r)) h.second.first)

pub comma_end : (s r : List ℕ) → comma s → ItemEnd (s ++ r)
comma_end s r h = subst (λ l. ItemEnd l) (sym (comma_cut s r h)) (item_end h.left 44 (h.second.right ++ r) h.first refl refl refl)

pub comma_solid : (s r : List ℕ) → comma s → ends (s ++ r) ≡ true
comma_solid s r h = let e = comma_end s r h in let f = e.follow in f.ends_here

pub comma_some : (s : List ℕ) → comma s → 0 < length s
comma_some [] h = absurd (omega (arith, ap length h.cut, length-append h.left h.right, ap length h.second.cut, length-append h.second.left h.second.right, ap length h.second.first))
comma_some (b ∷ s) h = omega arith

pub comma_reads : (s r : List ℕ) → comma s → stops is_blank r ≡ true → comma_at (s ++ r) ≡ Some r
comma_reads s r h g = ap comma_at (comma_cut s r h) ∙ comma_front h.left h.second.right r h.first h.second.second g

pub comma_none : (w r : List ℕ) → bws w → comma_at (w ++ (41 ∷ r)) ≡ None
unfolding comma_at after
comma_none w r h = rw (skip_front w (41 ∷ r) h refl) refl

-- ---- names with `as`

pub name_solid : (n : List ℕ) → is_name n ≡ true → solid n ≡ true
name_solid n h = let f = first_name (n ∷ []) n [] (h, refl) refl in f.solid_path

pub record AsParts (n a : List ℕ) : Type 0 where
  pub before : List ℕ
  pub behind : List ℕ
  pub blanks : rws before
  pub blanks_behind : rws behind
  pub named : is_name n ≡ true
  pub cut : (r : List ℕ) → a ++ r ≡ before ++ (codes "as" ++ (behind ++ (n ++ r)))

pub as_parts : (n a : List ℕ) → as_text n a → AsParts n a
as_parts n a h =
    let b = h.second in
    let c = b.second in
    record {
      before = h.left;
      behind = c.left;
      blanks = h.first;
      blanks_behind = c.first;
      named = c.second.0;
      cut = λ r.
          recut h.left h.right r h.cut
          ∙ ap (λ l. h.left ++ l) (recut b.left b.right r b.cut ∙ ap (λ l. l ++ (b.right ++ r)) b.first
          ∙ ap (λ l. codes "as" ++ l) (recut c.left c.right r c.cut ∙ ap (λ l. c.left ++ (l ++ r)) c.second.1));
    }

pub as_front : (n a r : List ℕ) → as_text n a → as_at (a ++ r) ≡ Some (n ++ r)
unfolding as_at
as_front n a r h =
    let p = as_parts n a h in
    ap (between_blanks (codes "as")) (p.cut r) ∙ between_front (codes "as") p.before p.behind (n ++ r) refl refl p.blanks p.blanks_behind (solid_stops n r (name_solid n p.named))

-- a word behind blanks is no operator
pub word_follow : (u w s : List ℕ) → rws u → solid w ≡ true → list_all goes_on_name w ≡ true → stops goes_on_name s ≡ true → binop_of w ≡ None → Follow 1 (u ++ (w ++ s))
word_follow u w s h i l k n = record {
  ends_here = rws_ends u (w ++ s) h;
  no_op = op_none 1 u (w ++ s) h.0 (solid_stops w s i) (ap (λ (x : List ℕ × List ℕ). binop_of x.0) (word_run w s l k) ∙ n);
}

pub as_follow : (n a r : List ℕ) → as_text n a → Follow 1 (a ++ r)
unfolding binop_of
as_follow n a r h =
    let p = as_parts n a h in
    subst (λ l. Follow 1 l) (sym (p.cut r)) (word_follow p.before (codes "as") (p.behind ++ (n ++ r)) p.blanks refl refl (rws_stop p.behind (n ++ r) p.blanks_behind) refl)

pub as_no_with : (n a r : List ℕ) → as_text n a → with_at (a ++ r) ≡ None
unfolding with_at
as_no_with n a r h =
    let p = as_parts n a h in
    let s = p.behind ++ (n ++ r) in
    ap (between_blanks (codes "with")) (p.cut r)
    ∙ between_none (codes "with") p.before (codes "as" ++ s) p.blanks.0 refl (ap (λ (x : List ℕ × List ℕ). same_text x.0 (codes "with")) (word_run (codes "as") s refl (rws_stop p.behind (n ++ r) p.blanks_behind)))

pub as_is : (t : List ℕ) {r s : List ℕ} {n : List ℕ} → as_at t ≡ Some r → Front (name_text n) r s → Front (as_text n) t s
unfolding as_at
as_is t h f =
    let b = between_is (codes "as") t h in
    then_front b.blanks (then_front b.the_word (then_front b.blanks_behind f))

-- ---- items of a computation

pub named_is : (limits : Bounds) (d : ℕ) (t : List ℕ) {x : Named × List ℕ} → named_at limits d t ≡ Some x → Front (named_text limits d x.0) t x.1
unfolding named_at
named_is limits d t h =
    bind_then (small_at limits d t) _ h (λ e f h. bind_then (as_at e.1) _ h (λ r g h. bind_then (name_at r) _ h (λ n i k.
    subst (λ x. Front (named_text limits d x.0) t x.1) (some_value k)
    (then_front (small_is limits d t f) (as_is e.1 g (name_is r i).0)))))

named_front : (limits : Bounds) (d : ℕ) (x : Named) (a r : List ℕ) → named_text limits d x a → ItemEnd r → named_at limits d (a ++ r) ≡ Some (x, r)
unfolding named_at
named_front limits d x a r h s =
    let p = as_parts x.name h.right h.second in
    let f = s.follow in
    rw (
      recut h.left h.right r h.cut,
      small_front limits d x.expr h.left (h.right ++ r) h.first (as_follow x.name h.right r h.second),
      as_front x.name h.right r h.second,
      name_front x.name r p.named (ends_go r f.ends_here),
    )
    refl

pub named_solid : (limits : Bounds) (d : ℕ) (x : Named) (a : List ℕ) → named_text limits d x a → solid a ≡ true
named_solid limits d x a h = subst (λ l. solid l ≡ true) (sym h.cut) (solid_on h.left h.right (small_solid limits x.expr d h.left h.first))

pub named_items : (limits : Bounds) (d : ℕ) → Items comma (named_text limits d) comma_at (named_at limits d) ItemEnd
named_items limits d = record {
  sep_is = λ t r e. (comma_is t e).0;
  item_is = λ t x e. named_is limits d t e;
  item_front = λ x a r h s. named_front limits d x a r h s;
  sep_front = λ s x a r h k. comma_reads s (a ++ r) h (solid_stops a r (named_solid limits d x a k));
  sep_follow = λ s b h. comma_end s b h;
  sep_some = λ s h. comma_some s h;
}

-- ---- items of an order

direction_is : (t : List ℕ) {x : Bool × List ℕ} → direction_at t ≡ x → Front (direction_text x.0) t x.1
unfolding direction_at
direction_is t h =
    branch_then (blanks_at t) _ _ h
    (λ s e h. branch_then (word_behind (codes "asc") s) _ _ h
    (λ u f k. subst (λ (x : Bool × List ℕ). Front (direction_text x.0) t x.1) k (map_front (λ a g. inr g) (then_front (blanks_is t e).0 (behind_is (codes "asc") s f))))
    (λ f h. branch_then (word_behind (codes "desc") s) _ _ h
    (λ u g k. subst (λ (x : Bool × List ℕ). Front (direction_text x.0) t x.1) k (then_front (blanks_is t e).0 (behind_is (codes "desc") s g)))
    (λ g k. subst (λ (x : Bool × List ℕ). Front (direction_text x.0) t x.1) k (map_front (λ a g. inl g) (word_front [] t t refl)))))
    (λ e k. subst (λ (x : Bool × List ℕ). Front (direction_text x.0) t x.1) k (map_front (λ a g. inl g) (word_front [] t t refl)))

pub item_is : (limits : Bounds) (d : ℕ) (t : List ℕ) {x : OrderItem × List ℕ} → item_at limits d t ≡ Some x → Front (item_text limits d x.0) t x.1
unfolding item_at
item_is limits d t h =
    bind_then (small_at limits d t) _ h (λ e f k.
    subst (λ x. Front (item_text limits d x.0) t x.1) (some_value k)
    (then_front (small_is limits d t f) (direction_is e.1 refl)))

-- what stands behind an order item's expression
record Direction (b : Bool) (a r : List ℕ) : Type 0 where
  pub reads : direction_at (a ++ r) ≡ (b, r)
  pub follow : Follow 1 (a ++ r)

asc_front : (u r : List ℕ) → rws u → ends r ≡ true → direction_at (u ++ (codes "asc" ++ r)) ≡ (false, r)
unfolding direction_at
asc_front u r h e = rw (blanks_front u (codes "asc" ++ r) h refl, behind_front (codes "asc") r refl (ends_go r e)) refl

desc_front : (u r : List ℕ) → rws u → ends r ≡ true → direction_at (u ++ (codes "desc" ++ r)) ≡ (true, r)
unfolding direction_at
desc_front u r h e = rw (blanks_front u (codes "desc" ++ r) h refl, behind_other (codes "asc") (codes "desc") r refl (ends_go r e) refl, behind_front (codes "desc") r refl (ends_go r e)) refl

two_cut : (w a r : List ℕ) (h : (rws · word w) a) → a ++ r ≡ h.left ++ (w ++ r)
two_cut w a r h = recut h.left h.right r h.cut ∙ ap (λ l. h.left ++ (l ++ r)) h.second

direction_front : (b : Bool) (a r : List ℕ) → direction_text b a → ItemEnd r → Direction b a r
unfolding binop_of
direction_front true a r h s =
    let f = s.follow in
    let c = two_cut (codes "desc") a r h in
    record {
      reads = ap direction_at c ∙ desc_front h.left r h.first f.ends_here;
      follow = subst (λ l. Follow 1 l) (sym c) (word_follow h.left (codes "desc") r h.first refl refl (ends_go r f.ends_here) refl);
    }
direction_front false a r (inl h) s = record { reads = rw h s.no_direction; follow = rw h s.follow }
direction_front false a r (inr h) s =
    let f = s.follow in
    let c = two_cut (codes "asc") a r h in
    record {
      reads = ap direction_at c ∙ asc_front h.left r h.first f.ends_here;
      follow = subst (λ l. Follow 1 l) (sym c) (word_follow h.left (codes "asc") r h.first refl refl (ends_go r f.ends_here) refl);
    }

item_front : (limits : Bounds) (d : ℕ) (x : OrderItem) (a r : List ℕ) → item_text limits d x a → ItemEnd r → item_at limits d (a ++ r) ≡ Some (x, r)
unfolding item_at
item_front limits d x a r h s =
    let g = direction_front x.desc h.right r h.second s in
    rw (recut h.left h.right r h.cut, small_front limits d x.expr h.left (h.right ++ r) h.first g.follow, g.reads) refl

pub item_solid : (limits : Bounds) (d : ℕ) (x : OrderItem) (a : List ℕ) → item_text limits d x a → solid a ≡ true
item_solid limits d x a h = subst (λ l. solid l ≡ true) (sym h.cut) (solid_on h.left h.right (small_solid limits x.expr d h.left h.first))

pub order_items : (limits : Bounds) (d : ℕ) → Items comma (item_text limits d) comma_at (item_at limits d) ItemEnd
order_items limits d = record {
  sep_is = λ t r e. (comma_is t e).0;
  item_is = λ t x e. item_is limits d t e;
  item_front = λ x a r h s. item_front limits d x a r h s;
  sep_front = λ s x a r h k. comma_reads s (a ++ r) h (solid_stops a r (item_solid limits d x a k));
  sep_follow = λ s b h. comma_end s b h;
  sep_some = λ s h. comma_some s h;
}
