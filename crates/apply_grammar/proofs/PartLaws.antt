-- Aggregates, hierarchies, selections, walks and the ends of climbs: what is read is in front, and what is in front is read.
use Rattle.std.proofs.Common.{◌≡◌, ℕ, zero, suc, true, List, [], ◌∷◌, ◌++◌, Some, None, refl, sym, ap, subst, ◌∙◌, arith, inl, inr}
use Rattle.std.specs.Prelude.{codes}
use Rattle.edm_values.specs.declared.Method.{Method}
use Rattle.edm_values.specs.Names.{Path, goes_on_name, is_name}
use Rattle.edm_values.proofs.SameTexts.{same_texts, text-self}
use Rattle.edm_values.proofs.OptionFacts.{some_value}
use Rattle.apply_ast.specs.Trees.{Expr, AggItem, HierName}
use Rattle.apply_ast.specs.Printing.{method_word}
use Rattle.apply_ast.specs.Grammar.{Language, word, ◌·◌, comma, path_text, as_text, hier_text}
use Rattle.apply_grammar.specs.Limits.{Bounds}
use Rattle.apply_grammar.specs.Reading.{◌>>=◌, run, after, open_at, comma_at, word_behind, binop_of, sign_at, not_at, name_at, list_at, path_at, digits_at, atom_at, word_at, signed, climb, primary, parens}
use Rattle.apply_grammar.specs.PipeReading.{small_at, as_at, with_at, method_of, standard_at, custom_at, measure_at, count_name_at, agg_at, root_at, hier_at, node_at}
use Rattle.apply_grammar.proofs.Nested.{SmallExpr, bare, agg_text}
use Rattle.apply_grammar.proofs.Runs.{bind_then, branch_then, is_none, none_some, Front, then_front, map_front, word_front, run_is, after_is, after_front, stops, solid, solid_on, solid_stops, recut}
use Rattle.apply_grammar.proofs.Lists.{Items}
use Rattle.apply_grammar.proofs.Leaves.{ends, ends_go, IsWord, comma_is, name_is, name_front, path_is, path_front, first_name, rws_stop, word_run, word_is}
use Rattle.apply_grammar.proofs.ExprAgain.{Follow}
use Rattle.apply_grammar.proofs.ItemLaws.{small_is, small_front, small_solid, behind_is, behind_front, between_is, between_front, ItemEnd, comma_end, comma_solid, comma_some, comma_reads, name_solid, as_parts, as_front, as_follow, as_no_with, as_is, word_follow}

-- ---- paths

pub path_solid : (p : Path) (a : List ℕ) → path_text p a → solid a ≡ true
path_solid p a h = let f = first_name p a [] h refl in f.solid_path

pub path_items : Items comma path_text comma_at path_at (λ r. ends r ≡ true)
path_items = record {
  sep_is = λ t r e. (comma_is t e).0;
  item_is = λ t x e. path_is t e;
  item_front = λ p a r h s. path_front p a r h s;
  sep_front = λ s x a r h k. comma_reads s (a ++ r) h (solid_stops a r (path_solid x a k));
  sep_follow = λ s b h. comma_solid s b h;
  sep_some = λ s h. comma_some s h;
}

-- ---- aggregates

method_is : (w : List ℕ) {m : Method} → method_of w ≡ Some m → w ≡ method_word m
unfolding method_of
method_is w h = word_is method_word (Method.Sum ∷ Method.Min ∷ Method.Max ∷ Method.CountDistinct ∷ []) w h

method_again : (m : Method) → method_of (method_word m) ≡ Some m
unfolding method_of
method_again Method.Sum = refl
method_again Method.Min = refl
method_again Method.Max = refl
method_again Method.CountDistinct = refl

method_letters : (m : Method) → IsWord (method_word m)
method_letters Method.Sum = record { solid_word = refl; letters = refl }
method_letters Method.Min = record { solid_word = refl; letters = refl }
method_letters Method.Max = record { solid_word = refl; letters = refl }
method_letters Method.CountDistinct = record { solid_word = refl; letters = refl }

standard_is : (limits : Bounds) (d : ℕ) (e : Expr) (t s : List ℕ) → Front (SmallExpr limits e d) t s → (r : List ℕ) → with_at s ≡ Some r → {x : AggItem × List ℕ} → standard_at e r ≡ Some x → Front (agg_text limits d x.0) t x.1
unfolding with_at standard_at
standard_is limits d e t s f r w h =
    bind_then (method_of (run goes_on_name r).0) _ h (λ m g h. bind_then (as_at (run goes_on_name r).1) _ h (λ u i h. bind_then (name_at u) _ h (λ n j k.
    let b = between_is (codes "with") s w in
    subst (λ x. Front (agg_text limits d x.0) t x.1) (some_value k)
    (then_front f (then_front b.blanks (then_front b.the_word (then_front b.blanks_behind
    (then_front (record { front = (run goes_on_name r).0; of = method_is _ g; cut = (run_is goes_on_name r).cut }) (as_is (run goes_on_name r).1 i (name_is u j).0)))))))))

custom_is : (limits : Bounds) (d : ℕ) (t : List ℕ) {x : AggItem × List ℕ} → custom_at t ≡ Some x → Front (agg_text limits d x.0) t x.1
unfolding custom_at
custom_is limits d t h =
    bind_then (name_at t) _ h (λ n e h. branch_then (as_at n.1) _ _ h
    (λ s f h. bind_then (name_at s) _ h (λ a g k.
    subst (λ x. Front (agg_text limits d x.0) t x.1) (some_value k)
    (then_front (name_is t e).0 (map_front (λ b i. inl i) (as_is n.1 f (name_is s g).0)))))
    (λ f k.
    subst (λ x. Front (agg_text limits d x.0) t x.1) (some_value k)
    (then_front (name_is t e).0 (map_front (λ b i. inr (text-self n.0, i)) (word_front [] n.1 n.1 refl)))))

count_name_is : (limits : Bounds) (d : ℕ) (t r : List ℕ) → t ≡ 36 ∷ r → {x : AggItem × List ℕ} → count_name_at r ≡ Some x → Front (agg_text limits d x.0) t x.1
unfolding count_name_at
count_name_is limits d t r c h =
    bind_then (word_behind (codes "count") r) _ h (λ u e h. bind_then (as_at u) _ h (λ s f h. bind_then (name_at s) _ h (λ n g k.
    let w = behind_is (codes "count") r e in
    subst (λ x. Front (agg_text limits d x.0) t x.1) (some_value k)
    (then_front (word_front (codes "$count") t u (c ∙ ap (λ l. 36 ∷ l) (w.cut ∙ ap (λ l. l ++ u) w.of))) (as_is u f (name_is s g).0)))))

pub agg_is : (limits : Bounds) (d : ℕ) (t : List ℕ) {x : AggItem × List ℕ} → agg_at limits d t ≡ Some x → Front (agg_text limits d x.0) t x.1
unfolding agg_at measure_at
agg_is limits d t h =
    branch_then (after 36 t) _ _ h
    (λ r e h. count_name_is limits d t r (after_is 36 t e) h)
    (λ e h. bind_then (small_at limits d t) _ h (λ y f h. branch_then (with_at y.1) _ _ h
    (λ r g h. standard_is limits d y.0 t y.1 (small_is limits d t f) r g h)
    (λ g h. custom_is limits d t h)))

-- no expression begins with `$`
dollar_read : (limits : Bounds) (d n : ℕ) (x : List ℕ) → climb (primary limits (parens limits d)) 1 n (36 ∷ x) ≡ None
unfolding climb signed primary sign_at not_at after open_at run atom_at digits_at word_at list_at name_at
dollar_read limits d zero x = refl
dollar_read limits d (suc n) x = refl

dollar_small : (limits : Bounds) (d : ℕ) (x : List ℕ) → small_at limits d (36 ∷ x) ≡ None
unfolding small_at
dollar_small limits d x = ap (λ o. o >>= λ y. Some (y.0, y.2)) (dollar_read limits d limits.operations x)

no_dollar : (limits : Bounds) (d : ℕ) (e : Expr) (t r : List ℕ) → small_at limits d t ≡ Some (e, r) → after 36 t ≡ None
no_dollar limits d e t r h = is_none (after 36 t) (λ x k. none_some (dollar_small limits d x) (ap (small_at limits d) (sym (after_is 36 t k)) ∙ h))

count_front_agg : (limits : Bounds) (d : ℕ) (n a r : List ℕ) → agg_text limits d (AggItem.Count n) a → ItemEnd r → agg_at limits d (a ++ r) ≡ Some (AggItem.Count n, r)
unfolding agg_at count_name_at
count_front_agg limits d n a r h s =
    let f = s.follow in
    let p = as_parts n h.right h.second in
    let as_stop : stops goes_on_name (h.right ++ r) ≡ true = subst (λ l. stops goes_on_name l ≡ true) (sym (p.cut r)) (rws_stop p.before (codes "as" ++ (p.behind ++ (n ++ r))) p.blanks) in
    let cut : a ++ r ≡ 36 ∷ (codes "count" ++ (h.right ++ r)) = recut h.left h.right r h.cut ∙ ap (λ l. l ++ (h.right ++ r)) h.first in
    rw (cut, after_front 36 (codes "count" ++ (h.right ++ r)), behind_front (codes "count") (h.right ++ r) refl as_stop, as_front n h.right r h.second, name_front n r p.named (ends_go r f.ends_here)) refl

standard_front : (limits : Bounds) (d : ℕ) (e : Expr) (m : Method) (n a r : List ℕ) → agg_text limits d (AggItem.Standard e m n) a → ItemEnd r → agg_at limits d (a ++ r) ≡ Some (AggItem.Standard e m n, r)
unfolding agg_at measure_at with_at standard_at binop_of
standard_front limits d e m n a r h s =
    let f = s.follow in
    let u = h.second.left in
    let v = h.second.second.second.left in
    let w = h.second.second.second.second.left in
    let b = h.second.second.second.second.right in
    let bs = h.second.second.second.second in
    let p = as_parts n b bs.second in
    let g = method_letters m in
    let y = method_word m ++ (b ++ r) in
    let z = codes "with" ++ (v ++ y) in
    let cut : a ++ r ≡ h.left ++ (u ++ z) =
    recut h.left h.right r h.cut ∙ ap (λ l. h.left ++ l) (recut u h.second.right r h.second.cut
    ∙ ap (λ l. u ++ l) (recut h.second.second.left h.second.second.right r h.second.second.cut ∙ ap (λ l. l ++ (h.second.second.right ++ r)) h.second.second.first
    ∙ ap (λ l. codes "with" ++ l) (recut v h.second.second.second.right r h.second.second.second.cut ∙ ap (λ l. v ++ l) (recut w b r bs.cut ∙ ap (λ l. l ++ (b ++ r)) bs.first)))) in
    let stop : stops goes_on_name (b ++ r) ≡ true = subst (λ l. stops goes_on_name l ≡ true) (sym (p.cut r)) (rws_stop p.before (codes "as" ++ (p.behind ++ (n ++ r))) p.blanks) in
    let front : small_at limits d (h.left ++ (u ++ z)) ≡ Some (e, u ++ z) =
    small_front limits d e h.left (u ++ z) h.first (word_follow u (codes "with") (v ++ y) h.second.first refl refl (rws_stop v y h.second.second.second.first) refl) in
    rw (
      cut,
      no_dollar limits d e (h.left ++ (u ++ z)) (u ++ z) front,
      front,
      between_front (codes "with") u v y refl refl h.second.first h.second.second.second.first (solid_stops (method_word m) (b ++ r) g.solid_word),
      word_run (method_word m) (b ++ r) g.letters stop,
      method_again m,
      as_front n b r bs.second,
      name_front n r p.named (ends_go r f.ends_here),
    )
    refl

-- a name is the path of itself alone
name_small : (limits : Bounds) (d : ℕ) (n r : List ℕ) → is_name n ≡ true → Follow 1 r → small_at limits d (n ++ r) ≡ Some (Expr.Path' (n ∷ []), r)
unfolding bare
name_small limits d n r h f = small_front limits d (Expr.Path' (n ∷ [])) n r (record { of = record { pairs = 0; of = (h, refl); binds = λ z. omega arith }; small = omega arith }) f

custom_as_front : (limits : Bounds) (d : ℕ) (n m a r : List ℕ) → is_name n ≡ true → as_text m a → ItemEnd r → agg_at limits d (n ++ (a ++ r)) ≡ Some (AggItem.Custom n m, r)
unfolding agg_at measure_at custom_at
custom_as_front limits d n m a r g h s =
    let f = s.follow in
    let p = as_parts m a h in
    let k = name_small limits d n (a ++ r) g (as_follow m a r h) in
    let e = as_follow m a r h in
    rw (no_dollar limits d (Expr.Path' (n ∷ [])) (n ++ (a ++ r)) (a ++ r) k, k, as_no_with m a r h, name_front n (a ++ r) g (ends_go (a ++ r) e.ends_here), as_front m a r h, name_front m r p.named (ends_go r f.ends_here)) refl

custom_front : (limits : Bounds) (d : ℕ) (n r : List ℕ) → is_name n ≡ true → ItemEnd r → agg_at limits d (n ++ r) ≡ Some (AggItem.Custom n n, r)
unfolding agg_at measure_at custom_at
custom_front limits d n r g s =
    let f = s.follow in
    let k = name_small limits d n r g f in
    rw (no_dollar limits d (Expr.Path' (n ∷ [])) (n ++ r) r k, k, s.no_with, name_front n r g (ends_go r f.ends_here), s.no_as) refl

pub agg_front : (limits : Bounds) (d : ℕ) (x : AggItem) (a r : List ℕ) → agg_text limits d x a → ItemEnd r → agg_at limits d (a ++ r) ≡ Some (x, r)
agg_front limits d (AggItem.Count n) a r h s = count_front_agg limits d n a r h s
agg_front limits d (AggItem.Standard e m n) a r h s = standard_front limits d e m n a r h s
agg_front limits d (AggItem.Custom n m) a r h s =
    elim h.second as (λ z. agg_at limits d (a ++ r) ≡ Some (AggItem.Custom n m, r)) [
      | inl g ↦ ap (agg_at limits d) (recut h.left h.right r h.cut ∙ ap (λ l. l ++ (h.right ++ r)) (let i = h.first in i.1)) ∙ custom_as_front limits d n m h.right r (let i = h.first in i.0) g s
      | inr g ↦
          ap (agg_at limits d) (recut h.left h.right r h.cut ∙ ap (λ l. l ++ (h.right ++ r)) (let i = h.first in i.1) ∙ ap (λ l. n ++ (l ++ r)) g.1)
          ∙ custom_front limits d n r (let i = h.first in i.0) s
          ∙ ap (λ l. Some (AggItem.Custom n l, r)) (same_texts n m g.0)
    ]

pub agg_solid : (limits : Bounds) (d : ℕ) (x : AggItem) (a : List ℕ) → agg_text limits d x a → solid a ≡ true
agg_solid limits d (AggItem.Count n) a h = subst (λ l. solid l ≡ true) (sym (h.cut ∙ ap (λ l. l ++ h.right) h.first)) refl
agg_solid limits d (AggItem.Standard e m n) a h = subst (λ l. solid l ≡ true) (sym h.cut) (solid_on h.left h.right (small_solid limits e d h.left h.first))
agg_solid limits d (AggItem.Custom n m) a h = subst (λ l. solid l ≡ true) (sym h.cut) (solid_on h.left h.right (let i = h.first in subst (λ l. solid l ≡ true) (sym i.1) (name_solid n i.0)))

pub agg_items : (limits : Bounds) (d : ℕ) → Items comma (agg_text limits d) comma_at (agg_at limits d) ItemEnd
agg_items limits d = record {
  sep_is = λ t r e. (comma_is t e).0;
  item_is = λ t x e. agg_is limits d t e;
  item_front = λ x a r h s. agg_front limits d x a r h s;
  sep_front = λ s x a r h k. comma_reads s (a ++ r) h (solid_stops a r (agg_solid limits d x a k));
  sep_follow = λ s b h. comma_end s b h;
  sep_some = λ s h. comma_some s h;
}

-- ---- hierarchies and nodes

root_is : (t : List ℕ) {r : List ℕ} → root_at t ≡ Some r → Front (word (codes "$root/")) t r
unfolding root_at
root_is t {r} h =
    bind_then (after 36 t) _ h (λ s e h. bind_then (word_behind (codes "root") s) _ h (λ u f k.
    let w = behind_is (codes "root") s f in
    word_front (codes "$root/") t r (after_is 36 t e ∙ ap (λ l. 36 ∷ l) (w.cut ∙ ap (λ l. l ++ u) w.of ∙ ap (λ l. codes "root" ++ l) (after_is 47 u k)))))

root_front : (r : List ℕ) → root_at (codes "$root/" ++ r) ≡ Some r
unfolding root_at after
root_front r = ap (λ o. o >>= after 47) (behind_front (codes "root") (47 ∷ r) refl refl)

hier_is : (t : List ℕ) {x : HierName × List ℕ} → hier_at t ≡ Some x → Front (hier_text x.0) t x.1
unfolding hier_at
hier_is t h =
    bind_then (root_at t) _ h (λ u e h. bind_then (name_at u) _ h (λ n f h. bind_then (comma_at n.1) _ h (λ c g h. bind_then (name_at c) _ h (λ q i k.
    subst (λ x. Front (hier_text x.0) t x.1) (some_value k)
    (then_front (root_is t e) (then_front (name_is u f).0 (then_front (comma_is n.1 g).0 (name_is c i).0)))))))

hier_front : (h : HierName) (a r : List ℕ) → hier_text h a → ends r ≡ true → hier_at (a ++ r) ≡ Some (h, r)
unfolding hier_at
hier_front x a r h e =
    let b = h.second in
    let c = b.second in
    let cut : a ++ r ≡ codes "$root/" ++ (x.set ++ (c.left ++ (x.qualifier ++ r))) =
    recut h.left h.right r h.cut ∙ ap (λ l. l ++ (h.right ++ r)) h.first
    ∙ ap (λ l. codes "$root/" ++ l) (recut b.left b.right r b.cut ∙ ap (λ l. l ++ (b.right ++ r)) (let i = b.first in i.1)
    ∙ ap (λ l. x.set ++ l) (recut c.left c.right r c.cut ∙ ap (λ l. c.left ++ (l ++ r)) (let i = c.second in i.1))) in
    let q = c.second in
    let s = b.first in
    rw (
      cut,
      root_front (x.set ++ (c.left ++ (x.qualifier ++ r))),
      name_front x.set (c.left ++ (x.qualifier ++ r)) s.0 (ends_go (c.left ++ (x.qualifier ++ r)) (comma_solid c.left (x.qualifier ++ r) c.first)),
      comma_reads c.left (x.qualifier ++ r) c.first (solid_stops x.qualifier r (name_solid x.qualifier q.0)),
      name_front x.qualifier r q.0 (ends_go r e),
    )
    refl

-- a hierarchy, a comma and the path of a node, before something else
pub node_is : {A : Language} (t : List ℕ) {x : (HierName × Path) × List ℕ} {s : List ℕ} → node_at t ≡ Some x → Front A x.1 s → Front (hier_text x.0.0 · comma · path_text x.0.1 · A) t s
unfolding node_at
node_is {A} t {x} {s} h r =
    bind_then (hier_at t) _ h (λ n e h. bind_then (comma_at n.1) _ h (λ c f h. bind_then (path_at c) _ h (λ p g k.
    let i : Front A p.1 s = subst (λ (x : (HierName × Path) × List ℕ). Front A x.1 s) (sym (some_value k)) r in
    subst (λ (x : (HierName × Path) × List ℕ). Front (hier_text x.0.0 · comma · path_text x.0.1 · A) t s) (some_value k)
    (then_front (hier_is t e) (then_front (comma_is n.1 f).0 (then_front (path_is c g) i))))))

pub record NodeRead (h : HierName) (p : Path) (A : Language) (a r : List ℕ) : Type 0 where
  pub others : List ℕ
  pub of : A others
  pub reads : ends (others ++ r) ≡ true → node_at (a ++ r) ≡ Some ((h, p), others ++ r)

pub node_front : (x : HierName) (p : Path) (A : Language) (a r : List ℕ) → (hier_text x · comma · path_text p · A) a → NodeRead x p A a r
unfolding node_at
node_front x p A a r h =
    let b = h.second in
    let c = b.second in
    let u = c.left in
    let z = c.right ++ r in
    let cut : a ++ r ≡ h.left ++ (b.left ++ (u ++ z)) = recut h.left h.right r h.cut ∙ ap (λ l. h.left ++ l) (recut b.left b.right r b.cut ∙ ap (λ l. b.left ++ l) (recut c.left c.right r c.cut)) in
    record {
      others = c.right;
      of = c.second;
      reads = λ e. rw (
        cut,
        hier_front x h.left (b.left ++ (u ++ z)) h.first (comma_solid b.left (u ++ z) b.first),
        comma_reads b.left (u ++ z) b.first (solid_stops u z (path_solid p u c.first)),
        path_front p u z c.first e,
      )
          refl;
    }

pub hier_solid : (x : HierName) (A : Language) (a : List ℕ) → (hier_text x · A) a → solid a ≡ true
hier_solid x A a h = let b = h.first in subst (λ l. solid l ≡ true) (sym (h.cut ∙ ap (λ l. l ++ h.right) (b.cut ∙ ap (λ l. l ++ b.right) b.first))) refl
