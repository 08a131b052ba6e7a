-- An expression that stands in front of the text is read.
use Rattle.std.proofs.Common.{◌≡◌, ℕ, zero, suc, ◌+◌, ◌≤◌, true, false, List, [], ◌∷◌, ◌++◌, Some, None, refl, sym, ap, subst, ◌∙◌, arith, zero-add}
use Rattle.std.proofs.lemmas.Bool.{le-leb}
use Rattle.std.specs.Prelude.{codes, pos, negsuc}
use Rattle.std.proofs.Common.{append_assoc}
use Rattle.apply_ast.specs.declared.expressions.UnOp.{UnOp}
use Rattle.apply_ast.specs.declared.expressions.BinOp.{BinOp}
use Rattle.apply_ast.specs.declared.expressions.Fun1.{Fun1}
use Rattle.apply_ast.specs.declared.expressions.Fun2.{Fun2}
use Rattle.std.specs.List.{list_all}
use Rattle.edm_values.specs.Lists.{same_text}
use Rattle.edm_values.specs.Names.{goes_on_name, begins_name}
use Rattle.apply_ast.specs.Trees.{Expr}
use Rattle.apply_ast.specs.Printing.{binop_word, binop_level, fun1_word, fun2_word, level}
use Rattle.apply_ast.specs.Grammar.{Language, is_blank, bws, rws, word, ◌·◌, comma, in_parentheses, sign_text}
use Rattle.apply_grammar.specs.Limits.{operations, Bounds}
use Rattle.apply_grammar.specs.Reading.{◌>>=◌, Read, Reader, run, after, open_at, op_at, not_at, sign_at, binop_of, paren_at, call1_at, call2_at, call_at, primary, signed, chain, goes, climb, parens}
use Rattle.apply_grammar.proofs.Nested.{wrapped, Operand, bare, At}
use Rattle.apply_grammar.proofs.Runs.{branch_agree, bind_agree, recut, stops, solid, solid_stops, solid_on}
use Rattle.apply_grammar.proofs.Leaves.{ends, bws_ends, rws_ends, open_front, close_front, comma_front, word_run, op_front, op_above, op_none, op_tighter, minus_front, not_front, leads, leads_after, fun1_again, fun2_again, fun1_letters, fun2_letters, IsAtom, text_atom, int_atom, dec_atom, date_atom, null_atom, flag_atom, path_atom}
use Rattle.apply_grammar.proofs.ExprFound.{signed_is, chain_count, prim_is, op_level}

-- a primary expression where d parentheses may be open
abbrev pub prim : Bounds → ℕ → Reader
prim limits d = primary limits (parens limits d)

-- ---- the first byte of an expression

pub parentheses_solid : (A : Language) (t : List ℕ) → in_parentheses A t → solid t ≡ true
parentheses_solid A t h = let o = h.first in subst (λ l. solid l ≡ true) (sym (h.cut ∙ ap (λ l. l ++ h.right) (o.cut ∙ ap (λ l. l ++ o.right) o.first))) refl

operand_solid : (least own d : ℕ) (A : ℕ → Language) (t : List ℕ) → ((e : ℕ) (s : List ℕ) → A e s → solid s ≡ true) → Operand least own A d t → solid t ≡ true
operand_solid least own d A t f h = pairs_solid h.pairs d A t f h.of
  where
    pairs_solid : (k d : ℕ) (A : ℕ → Language) (t : List ℕ) → ((e : ℕ) (s : List ℕ) → A e s → solid s ≡ true) → wrapped k A d t → solid t ≡ true
    pairs_solid zero d A t f h = f d t h
    pairs_solid (suc k) zero A t f h = absurd h
    pairs_solid (suc k) (suc d) A t f h = parentheses_solid (wrapped k A d) t h

joined_solid : (A B : Language) (t : List ℕ) → ((s : List ℕ) → A s → solid s ≡ true) → (A · B) t → solid t ≡ true
joined_solid A B t f h = subst (λ l. solid l ≡ true) (sym h.cut) (solid_on h.left h.right (f h.left h.first))

sign_solid : (o : UnOp) (t : List ℕ) → sign_text o t → solid t ≡ true
sign_solid UnOp.Neg t h = joined_solid (word (codes "-")) bws t (λ s e. rw e refl) h
sign_solid UnOp.Not t h = joined_solid (word (codes "not")) rws t (λ s e. rw e refl) h

pub bare_solid : (limits : Bounds) (e : Expr) (d : ℕ) (t : List ℕ) → bare limits e d t → solid t ≡ true
unfolding bare
bare_solid limits Expr.Null d t h = rw h refl
bare_solid limits (Expr.Bool' b) d t h = rw h (let a = flag_atom limits b [] refl in a.solid_atom)
bare_solid limits (Expr.Int (pos n)) d t h = let a = int_atom limits n t [] h refl in a.solid_atom
bare_solid limits (Expr.Int (negsuc n)) d t h = absurd h
bare_solid limits (Expr.Dec (pos m) s) d t h = let a = dec_atom limits m s t [] h refl in a.solid_atom
bare_solid limits (Expr.Dec (negsuc m) s) d t h = absurd h
bare_solid limits (Expr.Day y m x) d t h = let a = date_atom limits y m x t [] h refl in a.solid_atom
bare_solid limits (Expr.Text s) d t h = rw h.1 refl
bare_solid limits (Expr.Path' p) d t h = let a = path_atom limits p t [] h refl in a.solid_atom
bare_solid limits (Expr.Unary o a) d t h = joined_solid (sign_text o) _ t (sign_solid o) h
bare_solid limits (Expr.Binary o a b) d t h = joined_solid _ _ t (λ s g. operand_solid (binop_level o) (level a) d (bare limits a) s (bare_solid limits a) g) h
bare_solid limits (Expr.Call1 f a) d t h = joined_solid (word (fun1_word f)) _ t (λ s e. rw e (let w = fun1_letters f in w.solid_word)) h
bare_solid limits (Expr.Call2 f a b) d t h = joined_solid (word (fun2_word f)) _ t (λ s e. rw e (let w = fun2_letters f in w.solid_word)) h

pub at_solid : (limits : Bounds) (m : ℕ) (e : Expr) (d : ℕ) (t : List ℕ) → At limits m e d t → solid t ≡ true
at_solid limits m e d t h = operand_solid m (level e) d (bare limits e) t (bare_solid limits e) h

-- ---- the loop over operators, without its bound

pub goes_stop : (p : Reader) (m : ℕ) (e : Expr) (n : ℕ) (r : List ℕ) → op_at m r ≡ None → goes p m e n r ≡ Some (e, n, r)
unfolding chain
goes_stop p m e zero r h = rw h refl
goes_stop p m e (suc n) r h = rw h refl

pub chain_agree : (limits : Bounds) (d f g m : ℕ) (left : Expr) (n : ℕ) (t : List ℕ) → n ≤ f → n ≤ g → chain (prim limits d) f m left n t ≡ chain (prim limits d) g m left n t
unfolding chain
chain_agree limits d zero zero m left n t h k = refl
chain_agree limits d zero (suc g) m left n t h k = let z : n ≡ 0 = omega arith in rw z refl
chain_agree limits d (suc f) zero m left n t h k = let z : n ≡ 0 = omega arith in rw z refl
chain_agree limits d (suc f) (suc g) m left zero t h k = refl
chain_agree limits d (suc f) (suc g) m left (suc n) t h k =
    branch_agree (op_at m t) _ _ _ (λ o e.
    bind_agree (signed (prim limits d) n o.1) _ _ (λ x i.
    let a = signed_is limits d (prim limits d) (prim_is limits d) n o.1 i in
    let b : x.1 ≤ f = omega (arith, a.count) in
    let c : x.1 ≤ g = omega (arith, a.count) in
    ap (λ z. z >>= λ y. chain (prim limits d) f m (Expr.Binary o.0 left y.0) y.1 y.2) (chain_agree limits d f g (suc (binop_level o.0)) x.0 x.1 x.2 b c)
    ∙ bind_agree (chain (prim limits d) g (suc (binop_level o.0)) x.0 x.1 x.2) _ _ (λ y j.
    let l = chain_count limits d (prim limits d) (prim_is limits d) g (suc (binop_level o.0)) x.0 x.1 x.2 j in
    let u : y.1 ≤ f = omega (arith, l.less) in
    let v : y.1 ≤ g = omega (arith, l.less) in
    chain_agree limits d f g m (Expr.Binary o.0 left y.0) y.1 y.2 u v)))

pub goes_turn : (limits : Bounds) (d m : ℕ) (left : Expr) (n : ℕ) (t : List ℕ) (o : BinOp) (s : List ℕ) → op_at m t ≡ Some (o, s) → goes (prim limits d) m left (suc n) t ≡ (climb (prim limits d) (suc (binop_level o)) n s >>= λ y. goes (prim limits d) m (Expr.Binary o left y.0) y.1 y.2)
unfolding chain climb
goes_turn limits d m left n t o s h =
    rw h
    (bind_agree (signed (prim limits d) n s) _ _ (λ x i.
    let a = signed_is limits d (prim limits d) (prim_is limits d) n s i in
    let b : x.1 ≤ n = omega (arith, a.count) in
    ap (λ z. z >>= λ y. chain (prim limits d) n m (Expr.Binary o left y.0) y.1 y.2) (chain_agree limits d n x.1 (suc (binop_level o)) x.0 x.1 x.2 b (omega arith))
    ∙ bind_agree (chain (prim limits d) x.1 (suc (binop_level o)) x.0 x.1 x.2) _ _ (λ y j.
    let l = chain_count limits d (prim limits d) (prim_is limits d) x.1 (suc (binop_level o)) x.0 x.1 x.2 j in
    let u : y.1 ≤ n = omega (arith, l.less) in
    chain_agree limits d n y.1 m (Expr.Binary o left y.0) y.1 y.2 u (omega arith)))
    ∙ regroup (signed (prim limits d) n s) (λ x. chain (prim limits d) x.1 (suc (binop_level o)) x.0 x.1 x.2) (λ y. goes (prim limits d) m (Expr.Binary o left y.0) y.1 y.2))
  where
    regroup : (o : Read) (f g : Expr × ℕ × List ℕ → Read) → (o >>= λ x. f x >>= g) ≡ ((o >>= f) >>= g)
    regroup None f g = refl
    regroup (Some x) f g = refl

-- ---- what may follow

pub record Follow (m : ℕ) (r : List ℕ) : Type 0 where
  pub ends_here : ends r ≡ true
  pub no_op : op_at m r ≡ None

pub follow_close : (w r : List ℕ) → bws w → Follow 1 (w ++ (41 ∷ r))
unfolding binop_of run
follow_close w r h = record { ends_here = bws_ends w (41 ∷ r) h refl; no_op = op_none 1 w (41 ∷ r) h refl refl }

pub follow_comma : (w r : List ℕ) → bws w → Follow 1 (w ++ (44 ∷ r))
unfolding binop_of run
follow_comma w r h = record { ends_here = bws_ends w (44 ∷ r) h refl; no_op = op_none 1 w (44 ∷ r) h refl refl }

pub follow_tighter : (m : ℕ) (r : List ℕ) → 1 ≤ m → Follow 1 r → Follow m r
follow_tighter m r h f = record { ends_here = f.ends_here; no_op = op_tighter 1 m r h f.no_op }

-- ---- parentheses

-- the parts of a text in parentheses
pub record Pair (A : Language) (t : List ℕ) : Type 0 where
  pub before : List ℕ
  pub inner : List ℕ
  pub behind : List ℕ
  pub blanks : bws before
  pub of : A inner
  pub blanks_behind : bws behind
  pub cut : (r : List ℕ) → t ++ r ≡ 40 ∷ (before ++ (inner ++ (behind ++ (41 ∷ r))))

pub unpair : (A : Language) (t : List ℕ) → in_parentheses A t → Pair A t
unpair A t h =
    let o = h.first in
    let b = h.second in
    let c = b.second in
    record {
      before = o.right;
      inner = b.left;
      behind = c.left;
      blanks = o.second;
      of = b.first;
      blanks_behind = c.first;
      cut = λ r.
          recut h.left h.right r h.cut ∙ ap (λ l. l ++ (h.right ++ r)) o.cut ∙ append_assoc o.left o.right (h.right ++ r) ∙ ap (λ l. l ++ (o.right ++ (h.right ++ r))) o.first
          ∙ ap (λ l. 40 ∷ (o.right ++ l)) (recut b.left b.right r b.cut ∙ ap (λ l. b.left ++ l) (recut c.left c.right r c.cut ∙ ap (λ l. c.left ++ (l ++ r)) c.second));
    }

pub not_signed : (p : Reader) (n : ℕ) (t : List ℕ) → sign_at t ≡ None → signed p n t ≡ p n t
unfolding signed
not_signed p zero t h = rw h refl
not_signed p (suc n) t h = rw h refl

is_signed : (p : Reader) (n : ℕ) (t : List ℕ) (o : UnOp) (x : List ℕ) → sign_at t ≡ Some (o, x) → signed p (suc n) t ≡ (signed p n x >>= λ y. Some (Expr.Unary o y.0, y.1, y.2))
unfolding signed
is_signed p n t o x h = rw h refl

climb_signed : (limits : Bounds) (d m N n : ℕ) (t r : List ℕ) (e : Expr) → signed (prim limits d) N t ≡ Some (e, n, r) → climb (prim limits d) m N t ≡ goes (prim limits d) m e n r
unfolding climb
climb_signed limits d m N n t r e h = rw h refl

paren_no_sign : (x : List ℕ) → sign_at (40 ∷ x) ≡ None
unfolding sign_at not_at after run
paren_no_sign x = refl

paren_prim : (limits : Bounds) (d N n : ℕ) (e : Expr) (t v u w r : List ℕ) → t ≡ 40 ∷ (v ++ (u ++ (w ++ (41 ∷ r)))) → bws v → bws w → solid u ≡ true → parens limits d N (u ++ (w ++ (41 ∷ r))) ≡ Some (e, n, w ++ (41 ∷ r)) → signed (prim limits d) N t ≡ Some (e, n, r)
unfolding primary paren_at
paren_prim limits d N n e t v u w r c b g s h =
    let i = u ++ (w ++ (41 ∷ r)) in
    rw (c, not_signed (prim limits d) N (40 ∷ (v ++ i)) (paren_no_sign (v ++ i)), open_front v i b (solid_stops u (w ++ (41 ∷ r)) s), h, close_front w r g) refl

-- ---- an expression and what follows it

-- read at the level m, the loop goes on from it
abbrev pub Climbs : Bounds → Expr → Type 0
Climbs limits e = (d m n : ℕ) (t r : List ℕ) → bare limits e d t → m ≤ level e → Follow (suc (level e)) r → climb (prim limits d) m (operations e + n) (t ++ r) ≡ goes (prim limits d) m e n r

abbrev pub Reads : Bounds → Expr → Type 0
Reads limits e = (d n : ℕ) (t r : List ℕ) → bare limits e d t → ends r ≡ true → signed (prim limits d) (operations e + n) (t ++ r) ≡ Some (e, n, r)

pub record Complete (limits : Bounds) (e : Expr) : Type 0 where
  pub climbs : Climbs limits e
  pub reads : 7 ≤ level e → Reads limits e
  pub some_level : 1 ≤ level e

from_reads : (limits : Bounds) (e : Expr) → 1 ≤ level e → Reads limits e → Complete limits e
from_reads limits e l h = record {
  climbs = λ d m n t r b le f. climb_signed limits d m (operations e + n) n (t ++ r) r e (h d n t r b f.ends_here);
  reads = λ le. h;
  some_level = l;
}

wrapped_solid : (limits : Bounds) (k : ℕ) (e : Expr) (d : ℕ) (t : List ℕ) → wrapped k (bare limits e) d t → solid t ≡ true
wrapped_solid limits k e d t h = operand_solid 0 0 d (bare limits e) t (bare_solid limits e) (record { pairs = k; of = h; binds = λ z. omega arith })

-- an expression in parentheses of its own, or in none, behind an opening parenthesis
pub inner_read : (limits : Bounds) (e : Expr) → Complete limits e → (k d n : ℕ) (u r : List ℕ) → wrapped k (bare limits e) d u → Follow 1 r → parens limits (suc d) (operations e + n) (u ++ r) ≡ Some (e, n, r)
unfolding parens
inner_read limits e c zero d n u r h f = c.climbs d 1 n u r h c.some_level (follow_tighter (suc (level e)) r (omega arith) f) ∙ goes_stop (prim limits d) 1 e n r f.no_op
inner_read limits e c (suc k) zero n u r h f = absurd h
inner_read limits e c (suc k) (suc d) n u r h f =
    let p = unpair (wrapped k (bare limits e) d) u h in
    let s = wrapped_solid limits k e d p.inner p.of in
    climb_signed limits (suc d) 1 (operations e + n) n (u ++ r) r e (paren_prim limits (suc d) (operations e + n) n e (u ++ r) p.before p.inner p.behind r (p.cut r) p.blanks p.blanks_behind s (inner_read limits e c k d n p.inner (p.behind ++ (41 ∷ r)) p.of (follow_close p.behind r p.blanks_behind)))
    ∙ goes_stop (prim limits (suc d)) 1 e n r f.no_op

-- an operand: in parentheses it is read whole, bare the loop goes on from it
pairs_signed : (limits : Bounds) (e : Expr) → Complete limits e → (k d n : ℕ) (t r : List ℕ) → wrapped (suc k) (bare limits e) d t → signed (prim limits d) (operations e + n) (t ++ r) ≡ Some (e, n, r)
pairs_signed limits e c k zero n t r h = absurd h
pairs_signed limits e c k (suc d) n t r h =
    let p = unpair (wrapped k (bare limits e) d) t h in
    paren_prim limits (suc d) (operations e + n) n e (t ++ r) p.before p.inner p.behind r (p.cut r) p.blanks p.blanks_behind (wrapped_solid limits k e d p.inner p.of)
    (inner_read limits e c k d n p.inner (p.behind ++ (41 ∷ r)) p.of (follow_close p.behind r p.blanks_behind))

pub operand_reads : (limits : Bounds) (e : Expr) → Complete limits e → (d n : ℕ) (t r : List ℕ) → At limits 7 e d t → ends r ≡ true → signed (prim limits d) (operations e + n) (t ++ r) ≡ Some (e, n, r)
operand_reads limits e c d n t r h g = go e c h.pairs d n t r h.of h.binds g
  where
    go : (e : Expr) → Complete limits e → (k d n : ℕ) (t r : List ℕ) → wrapped k (bare limits e) d t → (k ≡ 0 → 7 ≤ level e) → ends r ≡ true → signed (prim limits d) (operations e + n) (t ++ r) ≡ Some (e, n, r)
    go e c zero d n t r h b g = c.reads (b refl) d n t r h g
    go e c (suc k) d n t r h b g = pairs_signed limits e c k d n t r h

-- where the operand is bare, no operator that binds tighter than it follows
pub operand_climbs : (limits : Bounds) (e : Expr) → Complete limits e → (least d m n : ℕ) (t r : List ℕ) → At limits least e d t → m ≤ least → ends r ≡ true → (least ≤ level e → op_at (suc (level e)) r ≡ None) → climb (prim limits d) m (operations e + n) (t ++ r) ≡ goes (prim limits d) m e n r
operand_climbs limits e c least d m n t r h le g f = go e c least h.pairs d m n t r h.of h.binds le g f
  where
    go : (e : Expr) → Complete limits e → (least k d m n : ℕ) (t r : List ℕ) → wrapped k (bare limits e) d t → (k ≡ 0 → least ≤ level e) → m ≤ least → ends r ≡ true → (least ≤ level e → op_at (suc (level e)) r ≡ None) → climb (prim limits d) m (operations e + n) (t ++ r) ≡ goes (prim limits d) m e n r
    go e c least zero d m n t r h b le g f = c.climbs d m n t r h (omega (arith, b refl)) (record { ends_here = g; no_op = f (b refl) })
    go e c least (suc k) d m n t r h b le g f = climb_signed limits d m (operations e + n) n (t ++ r) r e (pairs_signed limits e c k d n t r h)

-- ---- the forms of expressions

atom_reads : (limits : Bounds) (e : Expr) → ((d : ℕ) (t r : List ℕ) → bare limits e d t → ends r ≡ true → IsAtom limits t r e) → operations e ≡ 0 → Reads limits e
unfolding primary
atom_reads limits e f z d n t r h g =
    let a = f d t r h g in
    rw (z, zero-add n, not_signed (prim limits d) n (t ++ r) a.no_sign, a.no_open, a.no_call, a.atom) refl

sign_front : (o : UnOp) (t r : List ℕ) → sign_text o t → stops is_blank r ≡ true → sign_at (t ++ r) ≡ Some (o, r)
sign_front UnOp.Neg t r h s = ap sign_at (recut h.left h.right r h.cut ∙ ap (λ l. l ++ (h.right ++ r)) h.first) ∙ minus_front h.right r h.second s
sign_front UnOp.Not t r h s = ap sign_at (recut h.left h.right r h.cut ∙ ap (λ l. l ++ (h.right ++ r)) h.first) ∙ not_front h.right r h.second s

unary_reads : (limits : Bounds) (o : UnOp) (a : Expr) → Complete limits a → Reads limits (Expr.Unary o a)
unfolding bare
unary_reads limits o a c d n t r h g =
    let u = h.right in
    let s = sign_front o h.left (u ++ r) h.first (solid_stops u r (at_solid limits 7 a d u h.second)) in
    let count : operations (Expr.Unary o a) + n ≡ suc (operations a + n) = omega arith in
    rw (recut h.left u r h.cut, count, is_signed (prim limits d) (operations a + n) (h.left ++ (u ++ r)) o (u ++ r) s, operand_reads limits a c d n u r h.second g) refl

binary_climbs : (limits : Bounds) (o : BinOp) (a b : Expr) → Complete limits a → Complete limits b → Climbs limits (Expr.Binary o a b)
unfolding bare
binary_climbs limits o a b ca cb d m n t r h le f =
    let w = h.second.left in
    let v = h.second.second.second.left in
    let u = h.second.second.second.right in
    let l = binop_level o in
    let s = w ++ (binop_word o ++ (v ++ (u ++ r))) in
    let cut : t ++ r ≡ h.left ++ s =
    recut h.left h.right r h.cut
    ∙ ap (λ x. h.left ++ x) (recut w h.second.right r h.second.cut
    ∙ ap (λ x. w ++ x) (recut h.second.second.left h.second.second.right r h.second.second.cut ∙ ap (λ x. x ++ (h.second.second.right ++ r)) h.second.second.first
    ∙ ap (λ x. binop_word o ++ x) (recut v u r h.second.second.second.cut))) in
    let op : (k : ℕ) → k ≤ l → op_at k s ≡ Some (o, u ++ r) = λ k g. op_front k o w v (u ++ r) h.second.first h.second.second.second.first (solid_stops u r (at_solid limits (suc l) b d u h.second.second.second.second)) (le-leb k l g) in
    let above : l ≤ level a → op_at (suc (level a)) s ≡ None = λ g. op_above (suc (level a)) o w v (u ++ r) h.second.first h.second.second.second.first (solid_stops u r (at_solid limits (suc l) b d u h.second.second.second.second)) (omega arith) in
    let count : operations (Expr.Binary o a b) + n ≡ operations a + suc (operations b + n) = omega arith in
    let right : climb (prim limits d) (suc l) (operations b + n) (u ++ r) ≡ Some (b, n, r) =
    operand_climbs limits b cb (suc l) d (suc l) n u r h.second.second.second.second (omega arith) f.ends_here (λ g. op_tighter (suc l) (suc (level b)) r (omega arith) f.no_op)
    ∙ goes_stop (prim limits d) (suc l) b n r f.no_op in
    rw (cut, count)
    (operand_climbs limits a ca l d m (suc (operations b + n)) h.left s h.first le (rws_ends w (binop_word o ++ (v ++ (u ++ r))) h.second.first) above
    ∙ goes_turn limits d m a (operations b + n) s o (u ++ r) (op m le)
    ∙ ap (λ x. x >>= λ y. goes (prim limits d) m (Expr.Binary o a y.0) y.1 y.2) right)

-- ---- calls

pub record CallWord (w : List ℕ) : Type 0 where
  pub leads_word : leads begins_name w ≡ true
  pub passes : list_all goes_on_name w ≡ true
  pub no_not : same_text w (codes "not") ≡ false

fun1_call : (f : Fun1) → CallWord (fun1_word f)
fun1_call Fun1.Length = record { leads_word = refl; passes = refl; no_not = refl }
fun1_call Fun1.Year = record { leads_word = refl; passes = refl; no_not = refl }
fun1_call Fun1.Month = record { leads_word = refl; passes = refl; no_not = refl }
fun1_call Fun1.Day = record { leads_word = refl; passes = refl; no_not = refl }

fun2_call : (f : Fun2) → CallWord (fun2_word f)
fun2_call Fun2.StartsWith = record { leads_word = refl; passes = refl; no_not = refl }
fun2_call Fun2.EndsWith = record { leads_word = refl; passes = refl; no_not = refl }
fun2_call Fun2.Contains = record { leads_word = refl; passes = refl; no_not = refl }

open_leads : (w y : List ℕ) → leads begins_name w ≡ true → open_at (w ++ y) ≡ None
unfolding open_at
open_leads w y h = rw (leads_after begins_name 40 w y h refl) refl

call_signed : (limits : Bounds) (d N : ℕ) (w v x t : List ℕ) → CallWord w → bws v → stops is_blank x ≡ true → t ≡ w ++ (40 ∷ (v ++ x)) → signed (prim limits d) (suc N) t ≡ call_at (parens limits d) w N x
unfolding primary sign_at not_at
call_signed limits d N w v x t c b s e =
    let y = 40 ∷ (v ++ x) in
    let r : run goes_on_name (w ++ y) ≡ (w, y) = word_run w y c.passes refl in
    let n : sign_at (w ++ y) ≡ None = rw (leads_after begins_name 45 w y c.leads_word refl, r, c.no_not) refl in
    rw (e, not_signed (prim limits d) (suc N) (w ++ y) n, open_leads w y c.leads_word, r, open_front v x b s) refl

call1_reads : (limits : Bounds) (f : Fun1) (a : Expr) → Complete limits a → Reads limits (Expr.Call1 f a)
unfolding bare call_at call1_at paren_at
call1_reads limits f a c zero n t r h g = absurd h.second
call1_reads limits f a c (suc d) n t r h g =
    let p = unpair (Operand 1 (level a) (bare limits a) d) h.right h.second in
    let x = p.inner ++ (p.behind ++ (41 ∷ r)) in
    let cut : t ++ r ≡ fun1_word f ++ (40 ∷ (p.before ++ x)) = recut h.left h.right r h.cut ∙ ap (λ l. l ++ (h.right ++ r)) h.first ∙ ap (λ l. fun1_word f ++ l) (p.cut r) in
    let s = solid_stops p.inner (p.behind ++ (41 ∷ r)) (at_solid limits 1 a d p.inner p.of) in
    let i = inner_read limits a c p.of.pairs d n p.inner (p.behind ++ (41 ∷ r)) p.of.of (follow_close p.behind r p.blanks_behind) in
    let count : operations (Expr.Call1 f a) + n ≡ suc (operations a + n) = omega arith in
    rw (count, call_signed limits (suc d) (operations a + n) (fun1_word f) p.before x (t ++ r) (fun1_call f) p.blanks s cut, fun1_again f, i, close_front p.behind r p.blanks_behind) refl

call2_reads : (limits : Bounds) (f : Fun2) (a b : Expr) → Complete limits a → Complete limits b → Reads limits (Expr.Call2 f a b)
unfolding bare call_at call2_at paren_at
call2_reads limits f a b ca cb zero n t r h g = absurd h.second
call2_reads limits f a b ca cb (suc d) n t r h g =
    let p = unpair (Operand 1 (level a) (bare limits a) d · comma · Operand 1 (level b) (bare limits b) d) h.right h.second in
    let z = p.behind ++ (41 ∷ r) in
    let ua = p.of.left in
    let m = p.of.second.left in
    let ub = p.of.second.right in
    let w = p.of.second.first.left in
    let v = p.of.second.first.second.right in
    let commas : m ++ (ub ++ z) ≡ w ++ (44 ∷ (v ++ (ub ++ z))) =
    recut w p.of.second.first.right (ub ++ z) p.of.second.first.cut
    ∙ ap (λ l. w ++ l) (recut p.of.second.first.second.left v (ub ++ z) p.of.second.first.second.cut ∙ ap (λ l. l ++ (v ++ (ub ++ z))) p.of.second.first.second.first) in
    let parts : p.inner ++ z ≡ ua ++ (w ++ (44 ∷ (v ++ (ub ++ z)))) =
    recut ua p.of.right z p.of.cut ∙ ap (λ l. ua ++ l) (recut m ub z p.of.second.cut ∙ commas) in
    let cut : t ++ r ≡ fun2_word f ++ (40 ∷ (p.before ++ (p.inner ++ z))) = recut h.left h.right r h.cut ∙ ap (λ l. l ++ (h.right ++ r)) h.first ∙ ap (λ l. fun2_word f ++ l) (p.cut r) in
    let sa = solid_stops ua (w ++ (44 ∷ (v ++ (ub ++ z)))) (at_solid limits 1 a d ua p.of.first) in
    let sb = solid_stops ub z (at_solid limits 1 b d ub p.of.second.second) in
    let ia = inner_read limits a ca p.of.first.pairs d (operations b + n) ua (w ++ (44 ∷ (v ++ (ub ++ z)))) p.of.first.of (follow_comma w (v ++ (ub ++ z)) p.of.second.first.first) in
    let ib = inner_read limits b cb p.of.second.second.pairs d n ub z p.of.second.second.of (follow_close p.behind r p.blanks_behind) in
    let count : operations (Expr.Call2 f a b) + n ≡ suc (operations a + (operations b + n)) = omega arith in
    rw (
      count,
      call_signed limits (suc d) (operations a + (operations b + n)) (fun2_word f) p.before (ua ++ (w ++ (44 ∷ (v ++ (ub ++ z))))) (t ++ r) (fun2_call f) p.blanks sa (cut ∙ ap (λ l. fun2_word f ++ (40 ∷ (p.before ++ l))) parts),
      (let g = fun2_again f in g.0),
      (let g = fun2_again f in g.1),
      ia,
      comma_front w v (ub ++ z) p.of.second.first.first p.of.second.first.second.second sb,
      ib,
      close_front p.behind r p.blanks_behind,
    )
    refl

pub complete : (limits : Bounds) (e : Expr) → Complete limits e
unfolding bare
complete limits Expr.Null = from_reads limits Expr.Null (omega arith) (atom_reads limits Expr.Null (λ d t r h g. subst (λ l. IsAtom limits l r Expr.Null) (sym h) (null_atom limits r g)) refl)
complete limits (Expr.Bool' b) = from_reads limits (Expr.Bool' b) (omega arith) (atom_reads limits (Expr.Bool' b) (λ d t r h g. subst (λ l. IsAtom limits l r (Expr.Bool' b)) (sym h) (flag_atom limits b r g)) refl)
complete limits (Expr.Int (pos n)) = from_reads limits (Expr.Int (pos n)) (omega arith) (atom_reads limits (Expr.Int (pos n)) (λ d t r h g. int_atom limits n t r h g) refl)
complete limits (Expr.Int (negsuc n)) = from_reads limits (Expr.Int (negsuc n)) (omega arith) (λ d k t r h g. absurd h)
complete limits (Expr.Dec (pos m) s) = from_reads limits (Expr.Dec (pos m) s) (omega arith) (atom_reads limits (Expr.Dec (pos m) s) (λ d t r h g. dec_atom limits m s t r h g) refl)
complete limits (Expr.Dec (negsuc m) s) = from_reads limits (Expr.Dec (negsuc m) s) (omega arith) (λ d k t r h g. absurd h)
complete limits (Expr.Day y m x) = from_reads limits (Expr.Day y m x) (omega arith) (atom_reads limits (Expr.Day y m x) (λ d t r h g. date_atom limits y m x t r h g) refl)
complete limits (Expr.Text s) = from_reads limits (Expr.Text s) (omega arith) (atom_reads limits (Expr.Text s) (λ d t r h g. subst (λ l. IsAtom limits l r (Expr.Text s)) (sym h.1) (text_atom limits s r h.0 g)) refl)
complete limits (Expr.Path' p) = from_reads limits (Expr.Path' p) (omega arith) (atom_reads limits (Expr.Path' p) (λ d t r h g. path_atom limits p t r h g) refl)
complete limits (Expr.Unary o a) = from_reads limits (Expr.Unary o a) (omega arith) (unary_reads limits o a (complete limits a))
complete limits (Expr.Binary o a b) = record {
  climbs = binary_climbs limits o a b (complete limits a) (complete limits b);
  reads = λ le. absurd (omega (arith, (op_level o).1));
  some_level = (op_level o).0;
}
complete limits (Expr.Call1 f a) = from_reads limits (Expr.Call1 f a) (omega arith) (call1_reads limits f a (complete limits a))
complete limits (Expr.Call2 f a b) = from_reads limits (Expr.Call2 f a b) (omega arith) (call2_reads limits f a b (complete limits a) (complete limits b))

-- an expression in front of what may follow it is read, and nothing else
pub expr_front : (limits : Bounds) (e : Expr) (d n : ℕ) (t r : List ℕ) → At limits 1 e d t → Follow 1 r → climb (prim limits d) 1 (operations e + n) (t ++ r) ≡ Some (e, n, r)
expr_front limits e d n t r h f =
    let c = complete limits e in
    operand_climbs limits e c 1 d 1 n t r h (omega arith) f.ends_here (λ l. op_tighter 1 (suc (level e)) r (omega arith) f.no_op) ∙ goes_stop (prim limits d) 1 e n r f.no_op
