-- Least distances to marked nodes, found node by node.
use Rattle.std.proofs.Common.{◌≡◌, ℕ, zero, suc, ◌+◌, ◌<◌, ◌≤◌, ◌≢◌, Bool, true, false, List, [], ◌∷◌, length, set, min, refl, sym, ◌∙◌, ap, subst, arith, Option, Some, None, inl, inr, ⊎_elim, get_or-set_same, get_or-set_other}
use Rattle.std.specs.Prelude.{◌⊎◌, ◌&&◌, ◌||◌, ◌==◌, if◌then◌else◌, nat_eq, nat_le, nat_lt, slice_index}
use Rattle.std.specs.Option.{option_and_then, option_map, unwrap_or}
use Rattle.std.specs.List.{list_any}
use Rattle.std.proofs.lemmas.Bool.{true≢false, cases_eq, cases_lt, eqb-true, eq-eqb, or_cases, or_left, or_right, and_parts, and_from, leb-true, le-leb, lt-ltb, ltb-true}
use Rattle.std.proofs.lemmas.List.{get_or_past, length-set}
use Rattle.edm_data.specs.Hierarchies.{parent_of, is_descendant, is_within}
use Rattle.hier_index.specs.Chains.{above, held, Ends}
use Rattle.hier_index.specs.Indexes.{AreIntervals, IsIndexed}
use Rattle.hier_index.proofs.ChainLaws.{depth_above, depth_is_one, descends, descended}
use Rattle.hier_index.proofs.DescentLaws.{depth_bounds}
use Rattle.hier_index.proofs.WalkLaws.{desc_yes}
use Rattle.hier_index.proofs.DepthLaws.{held_is, held_set_same, held_set_other, above_more}
use Rattle.hier_traverse.specs.declared.relatives.Relation.{Relation}
use Rattle.hier_traverse.specs.declared.relatives.Relation.TheVariants.{Ancestor, Descendant}
use Rattle.hier_traverse.specs.Relatives.{is_related, is_taken}
use Rattle.hier_traverse.specs.Rows.{AreNodesOf}
use Rattle.hier_traverse.specs.Distances.{AreInOrder, IsFoundAbove, IsFoundBelow, AreMarksOf, AreLeastAbove, AreLeastBelow, AreNearest, AreReached, IsNear, StandsAt, further, handed_up, is_marked, is_near, lesser}
use Rattle.edm_values.proofs.OptionFacts.{same_bool}

-- ---- ways up a chain

-- the first step of a way
pub above_first : (parents : List (Option ℕ)) (d y s : ℕ) → above parents (suc d) y ≡ Some s → (p : ℕ) × (parent_of parents y ≡ Some p) × (above parents d p ≡ Some s)
above_first parents d y s at = from (parent_of parents y) refl at
  where
    from : (o : Option ℕ) → parent_of parents y ≡ o → option_and_then (above parents d) o ≡ Some s → (p : ℕ) × (parent_of parents y ≡ Some p) × (above parents d p ≡ Some s)
    from None up h = absurd (cc)
    from (Some p) up h = (p, up, h)

-- the last step of a way
pub above_last : (parents : List (Option ℕ)) (d s x : ℕ) → above parents (suc d) s ≡ Some x → (c : ℕ) × (above parents d s ≡ Some c) × (parent_of parents c ≡ Some x)
above_last parents zero s x at = let r = above_first parents 0 s x at in (s, refl, r.1 ∙ r.2)
above_last parents (suc d) s x at =
    let r = above_first parents (suc d) s x at in
    let q = above_last parents d r.0 x r.2 in
    (q.0, ap (option_and_then (above parents d)) r.1 ∙ q.1, q.2)

-- a node with a parent is a node
pub has_parent : (parents : List (Option ℕ)) (x p : ℕ) → parent_of parents x ≡ Some p → x < length parents
has_parent parents x p up = ⊎_elim
    (λ below. below)
    (λ past. absurd (let e : None ≡ Some p = sym (held_is parents x ∙ get_or_past parents x None past) ∙ up in cc))
    (cases_lt x (length parents))

-- ---- the distance of what is next

-- what a distance next to x comes from
abbrev pub FromNext : List Bool → List (Option ℕ) → ℕ → ℕ → Type 0
FromNext marks nearest x d = ((is_marked marks x ≡ true) × (d ≡ 1)) ⊎ ((e : ℕ) × (held nearest x ≡ Some e) × (d ≡ suc e))

further_from : (marks : List Bool) (nearest : List (Option ℕ)) (x d : ℕ) → further marks nearest x ≡ Some d → FromNext marks nearest x d
further_from marks nearest x d e = by_mark (is_marked marks x) refl e
  where
    by_distance : (o : Option ℕ) → held nearest x ≡ o → option_map (λ d. d + 1) o ≡ Some d → (e : ℕ) × (held nearest x ≡ Some e) × (d ≡ suc e)
    by_distance None is h = absurd (cc)
    by_distance (Some e) is h = let same : e + 1 ≡ d = cc in (e, is, omega arith)

    by_mark : (b : Bool) → is_marked marks x ≡ b → (if b then Some 1 else option_map (λ d. d + 1) (held nearest x)) ≡ Some d → FromNext marks nearest x d
    by_mark true is h = let same : 1 ≡ d = cc in inl (is, sym same)
    by_mark false is h = inr (by_distance (held nearest x) refl h)

-- next to a marked node
further_marked : (marks : List Bool) (nearest : List (Option ℕ)) (x : ℕ) → is_marked marks x ≡ true → further marks nearest x ≡ Some 1
further_marked marks nearest x is = ap (λ b. if b then Some 1 else option_map (λ d. d + 1) (held nearest x)) is

-- next to a node whose distance is known
further_near : (marks : List Bool) (nearest : List (Option ℕ)) (x d : ℕ) → IsNear nearest x d → (e : ℕ) × (further marks nearest x ≡ Some e) × (e ≤ suc d)
further_near marks nearest x d near = by_mark (is_marked marks x) refl
  where
    by_mark : (b : Bool) → is_marked marks x ≡ b → (e : ℕ) × (further marks nearest x ≡ Some e) × (e ≤ suc d)
    by_mark true is = (1, further_marked marks nearest x is, omega arith)
    by_mark false is = let less = near.2 in (near.0 + 1, ap (λ b. if b then Some 1 else option_map (λ d. d + 1) (held nearest x)) is ∙ ap (option_map (λ d. d + 1)) near.1, omega arith)

-- ---- what is known stays known

-- a distance is written at a node
near_set : (nearest : List (Option ℕ)) (x e y d : ℕ) → x < length nearest → (y ≡ x → e ≤ d) → (y ≢ x → IsNear nearest y d) → IsNear (set nearest x (Some e)) y d
near_set nearest x e y d h here there = ⊎_elim
    (λ same. (e, ap (held (set nearest x (Some e))) same ∙ held_set_same nearest x (Some e) h, here same))
    (λ other. let r = there other in (r.0, held_set_other nearest x y (Some e) other ∙ r.1, r.2))
    (cases_eq y x)

reached_set : (relation : Relation) (parents : List (Option ℕ)) (marks : List Bool) (nearest : List (Option ℕ)) (x : ℕ) (o : Option ℕ) → x < length nearest → AreReached relation parents marks nearest
    → ((d : ℕ) → o ≡ Some d → (0 < d) × ((s : ℕ) × (is_marked marks s ≡ true) × StandsAt relation parents d x s)) → AreReached relation parents marks (set nearest x o)
reached_set relation parents marks nearest x o h reached here y d is = ⊎_elim
    (λ same.
    let r = here d (sym (ap (held (set nearest x o)) same ∙ held_set_same nearest x o h) ∙ is) in
    let P : ℕ → Type 0 = λ y. (0 < d) × ((s : ℕ) × (is_marked marks s ≡ true) × StandsAt relation parents d y s) in
    subst P (sym same) r)
    (λ other. reached y d (sym (held_set_other nearest x y o other) ∙ is))
    (cases_eq y x)

-- ---- from parents to children

module _ (parents : List (Option ℕ)) (marks : List Bool) (nearest : List (Option ℕ)) (x p : ℕ) (up : parent_of parents x ≡ Some p) (size : length nearest ≡ length parents) where
  within : x < length nearest
  within = let h = has_parent parents x p up in omega arith

  pub reached_below : AreReached Descendant parents marks nearest → AreReached Descendant parents marks (set nearest x (further marks nearest p))
  reached_below reached = reached_set Descendant parents marks nearest x (further marks nearest p) within reached
      (λ d e. ⊎_elim
      (λ marked.
      let one = marked.1 in
      let at : above parents 1 x ≡ Some p = ap (option_and_then (above parents 0)) up in
      let P : ℕ → Type 0 = λ d. above parents d x ≡ Some p in
      (omega arith, (p, marked.0, subst P (sym one) at)))
      (λ known.
      let r = reached p known.0 known.1 in
      let more = known.2 in
      let at : above parents (suc known.0) x ≡ Some r.1.0 = ap (option_and_then (above parents known.0)) up ∙ r.1.2 in
      let P : ℕ → Type 0 = λ d. above parents d x ≡ Some r.1.0 in
      (omega arith, (r.1.0, r.1.1, subst P (sym more) at)))
      (further_from marks nearest p d e))

  module _ (numbers order : List ℕ) (ordered : AreInOrder parents numbers order) (k : ℕ) (is : slice_index order k ≡ x) (least : AreLeastBelow parents marks numbers nearest k) where
    new_least : (d s : ℕ) → slice_index numbers x < k + 1 → is_marked marks s ≡ true → above parents (suc d) x ≡ Some s → (e : ℕ) × (further marks nearest p ≡ Some e) × (e ≤ suc d)
    new_least zero s below marked at =
        let r = above_first parents 0 x s at in
        let same : p ≡ s = let q : Some p ≡ Some r.0 = sym up ∙ r.1 in let t : Some r.0 ≡ Some s = r.2 in cc in
        (1, further_marked marks nearest p (ap (is_marked marks) same ∙ marked), omega arith)
    new_least (suc d) s below marked at =
        let r = above_first parents (suc d) x s at in
        let same : r.0 ≡ p = let q : Some p ≡ Some r.0 = sym up ∙ r.1 in cc in
        let P : ℕ → Type 0 = λ q. above parents (suc d) q ≡ Some s in
        let less = ordered.down x p up in
        further_near marks nearest p (suc d) (least p d s (omega arith) marked (subst P same r.2))

    pub least_below : AreLeastBelow parents marks numbers (set nearest x (further marks nearest p)) (k + 1)
    least_below y d s below marked at = ⊎_elim
        (λ same.
        let P : ℕ → Type 0 = λ y. slice_index numbers y < k + 1 in
        let Q : ℕ → Type 0 = λ y. above parents (suc d) y ≡ Some s in
        let r = new_least d s (subst P same below) marked (subst Q same at) in
        (r.0, ap (held (set nearest x (further marks nearest p))) same ∙ held_set_same nearest x (further marks nearest p) within ∙ r.1, r.2))
        (λ other.
        let there = above_first parents d y s at in
        let stands = ordered.stands y (has_parent parents y there.0 there.1) in
        let not_here : slice_index numbers y ≢ k = λ e. other (sym stands ∙ ap (λ k. slice_index order k) e ∙ is) in
        let r = least y d s (omega arith) marked at in
        (r.0, held_set_other nearest x y (further marks nearest p) other ∙ r.1, r.2))
        (cases_eq y x)

-- a root has no distance
pub least_at_root : (parents : List (Option ℕ)) (marks : List Bool) (nearest : List (Option ℕ)) (numbers order : List ℕ) → AreInOrder parents numbers order → (k x : ℕ) → slice_index order k ≡ x → parent_of parents x ≡ None → AreLeastBelow parents marks numbers nearest k → AreLeastBelow parents marks numbers nearest (k + 1)
least_at_root parents marks nearest numbers order ordered k x is root least y d s below marked at =
    let there = above_first parents d y s at in
    let stands = ordered.stands y (has_parent parents y there.0 there.1) in
    let not_here : slice_index numbers y ≢ k = λ e.
    let same : y ≡ x = sym stands ∙ ap (λ k. slice_index order k) e ∙ is in
    let none : None ≡ Some there.0 = sym (ap (parent_of parents) same ∙ root) ∙ there.1 in
    absurd (cc) in
    least y d s (omega arith) marked at

-- ---- from children to parents

lesser_new : (o : Option ℕ) (d : ℕ) → lesser o d ≤ d
lesser_new None d = omega arith
lesser_new (Some e) d = omega arith

lesser_old : (o : Option ℕ) (d e : ℕ) → o ≡ Some e → lesser o d ≤ e
lesser_old None d e is = absurd (cc)
lesser_old (Some f) d e is = let same : f ≡ e = cc in omega arith

lesser_one : (o : Option ℕ) (d : ℕ) → (lesser o d ≡ d) ⊎ (o ≡ Some (lesser o d))
lesser_one None d = inl refl
lesser_one (Some e) d = ⊎_elim (λ less. inr (let h : e ≡ min e d = omega arith in ap Some h)) (λ more. inl (omega arith)) (cases_lt e d)

module _ (parents : List (Option ℕ)) (marks : List Bool) (nearest : List (Option ℕ)) (c p : ℕ) (up : parent_of parents c ≡ Some p) (size : p < length nearest) where
  reached_up : (d : ℕ) → AreReached Ancestor parents marks nearest → further marks nearest c ≡ Some d → (0 < d) × ((s : ℕ) × (is_marked marks s ≡ true) × (above parents d s ≡ Some p))
  reached_up d reached e = ⊎_elim
      (λ marked.
      let one = marked.1 in
      let at : above parents 1 c ≡ Some p = ap (option_and_then (above parents 0)) up in
      let P : ℕ → Type 0 = λ d. above parents d c ≡ Some p in
      (omega arith, (c, marked.0, subst P (sym one) at)))
      (λ known.
      let r = reached c known.0 known.1 in
      let more = known.2 in
      let P : ℕ → Type 0 = λ d. above parents d r.1.0 ≡ Some p in
      let one : known.0 + 1 ≡ d = omega arith in
      (omega arith, (r.1.0, r.1.1, subst P one (above_more parents known.0 r.1.0 c p r.1.2 up))))
      (further_from marks nearest c d e)

  reached_by : (o : Option ℕ) → further marks nearest c ≡ o → AreReached Ancestor parents marks nearest → AreReached Ancestor parents marks (handed_up nearest p o)
  reached_by None is reached = reached
  reached_by (Some f) is reached = reached_set Ancestor parents marks nearest p (Some (lesser (held nearest p) f)) size reached
      (λ d e.
      let same : lesser (held nearest p) f ≡ d = cc in
      ⊎_elim
      (λ new. reached_up d reached (is ∙ ap Some (sym new ∙ same)))
      (λ old. reached p d (old ∙ ap Some same))
      (lesser_one (held nearest p) f))

  pub reached_above : AreReached Ancestor parents marks nearest → AreReached Ancestor parents marks (handed_up nearest p (further marks nearest c))
  reached_above reached = reached_by (further marks nearest c) refl reached

  -- what is handed up is known from then on, and what was known stays known
  pub near_handed : (o : Option ℕ) (y d : ℕ) → IsNear nearest y d → IsNear (handed_up nearest p o) y d
  near_handed None y d near = near
  near_handed (Some f) y d near = near_set nearest p (lesser (held nearest p) f) y d size
      (λ same. let l = lesser_old (held nearest p) f near.0 (ap (held nearest) (sym same) ∙ near.1) in let m = near.2 in omega arith)
      (λ other. near)

  new_handed : (o : Option ℕ) (f d : ℕ) → o ≡ Some f → f ≤ d → IsNear (handed_up nearest p o) p d
  new_handed None f d is less = absurd (cc)
  new_handed (Some g) f d is less =
      let same : g ≡ f = cc in
      near_set nearest p (lesser (held nearest p) g) p d size
      (λ here. let l = lesser_new (held nearest p) g in omega arith)
      (λ other. absurd (other refl))

  module _ (numbers order : List ℕ) (ordered : AreInOrder parents numbers order) (k : ℕ) (is : slice_index order k ≡ c) (least : AreLeastAbove parents marks numbers nearest (k + 1)) where
    child_near : (d s : ℕ) → k ≤ slice_index numbers c → is_marked marks s ≡ true → above parents d s ≡ Some c → (e : ℕ) × (further marks nearest c ≡ Some e) × (e ≤ suc d)
    child_near zero s more marked at =
        let same : c ≡ s = cc in
        (1, further_marked marks nearest c (ap (is_marked marks) same ∙ marked), omega arith)
    child_near (suc d) s more marked at =
        let r = above_last parents d s c at in
        let less = ordered.down r.0 c r.2 in
        further_near marks nearest c (suc d) (least c r.0 d s r.2 (omega arith) marked r.1)

    pub least_above : AreLeastAbove parents marks numbers (handed_up nearest p (further marks nearest c)) k
    least_above x b d s to more marked at = ⊎_elim
        (λ same.
        let P : ℕ → Type 0 = λ b. k ≤ slice_index numbers b in
        let Q : ℕ → Type 0 = λ b. above parents d s ≡ Some b in
        let r = child_near d s (subst P same more) marked (subst Q same at) in
        let here : p ≡ x = let q : Some p ≡ Some x = sym up ∙ ap (parent_of parents) (sym same) ∙ to in cc in
        let R : ℕ → Type 0 = λ x. IsNear (handed_up nearest p (further marks nearest c)) x (suc d) in
        subst R here (new_handed (further marks nearest c) r.0 (suc d) r.1 r.2))
        (λ other.
        let stands = ordered.stands b (has_parent parents b x to) in
        let not_here : slice_index numbers b ≢ k = λ e. other (sym stands ∙ ap (λ k. slice_index order k) e ∙ is) in
        near_handed (further marks nearest c) x (suc d) (least x b d s to (omega arith) marked at))
        (cases_eq b c)

-- a root hands nothing up
pub least_over_root : (parents : List (Option ℕ)) (marks : List Bool) (nearest : List (Option ℕ)) (numbers order : List ℕ) → AreInOrder parents numbers order → (k c : ℕ) → slice_index order k ≡ c → parent_of parents c ≡ None → AreLeastAbove parents marks numbers nearest (k + 1) → AreLeastAbove parents marks numbers nearest k
least_over_root parents marks nearest numbers order ordered k c is root least x b d s to more marked at =
    let stands = ordered.stands b (has_parent parents b x to) in
    let not_here : slice_index numbers b ≢ k = λ e.
    let same : b ≡ c = sym stands ∙ ap (λ k. slice_index order k) e ∙ is in
    let none : None ≡ Some x = sym (ap (parent_of parents) same ∙ root) ∙ to in
    absurd (cc) in
    least x b d s to (omega arith) marked at

-- ---- all nodes

pub nearest_below : (parents : List (Option ℕ)) (marks : List Bool) (nearest : List (Option ℕ)) (numbers order : List ℕ) → AreInOrder parents numbers order → length nearest ≡ length parents → AreReached Descendant parents marks nearest → AreLeastBelow parents marks numbers nearest (length parents) → AreNearest Descendant parents marks nearest
nearest_below parents marks nearest numbers order ordered size reached least = record {
  size = size;
  reached = reached;
  least = λ x d s marked at. let r = above_first parents d x s at in least x d s (ordered.fits x (has_parent parents x r.0 r.1)) marked at;
}

pub nearest_above : (parents : List (Option ℕ)) (marks : List Bool) (nearest : List (Option ℕ)) (numbers order : List ℕ) → AreInOrder parents numbers order → length nearest ≡ length parents → AreReached Ancestor parents marks nearest → AreLeastAbove parents marks numbers nearest 0 → AreNearest Ancestor parents marks nearest
nearest_above parents marks nearest numbers order ordered size reached least = record {
  size = size;
  reached = reached;
  least = λ x d s marked at. let r = above_last parents d s x at in least x r.0 d s r.2 (omega arith) marked r.1;
}

-- before the first node, and before the last
pub none_above : (parents : List (Option ℕ)) (marks : List Bool) (nearest : List (Option ℕ)) (numbers order : List ℕ) → AreInOrder parents numbers order → (k : ℕ) → length parents ≤ k → AreLeastAbove parents marks numbers nearest k
none_above parents marks nearest numbers order ordered k most x c d s to more marked at = let f = ordered.fits c (has_parent parents c x to) in absurd (omega arith)

-- ---- one node more

pub root_below : (parents : List (Option ℕ)) (marks : List Bool) (order : List ℕ) (nearest : List (Option ℕ)) (k x : ℕ) → slice_index order k ≡ x → parent_of parents x ≡ None → IsFoundBelow parents marks order nearest k → IsFoundBelow parents marks order nearest (k + 1)
root_below parents marks order nearest k x is root found = record {
  size = found.size;
  reached = found.reached;
  least = λ numbers ordered. least_at_root parents marks nearest numbers order ordered k x is root (found.least numbers ordered);
}

pub child_below : (parents : List (Option ℕ)) (marks : List Bool) (order : List ℕ) (nearest : List (Option ℕ)) (k x p : ℕ) → slice_index order k ≡ x → parent_of parents x ≡ Some p → IsFoundBelow parents marks order nearest k → IsFoundBelow parents marks order (set nearest x (further marks nearest p)) (k + 1)
child_below parents marks order nearest k x p is up found = record {
  size = length-set nearest x (further marks nearest p) ∙ found.size;
  reached = reached_below parents marks nearest x p up found.size found.reached;
  least = λ numbers ordered. least_below parents marks nearest x p up found.size numbers order ordered k is (found.least numbers ordered);
}

pub root_above : (parents : List (Option ℕ)) (marks : List Bool) (order : List ℕ) (nearest : List (Option ℕ)) (k c : ℕ) → slice_index order k ≡ c → parent_of parents c ≡ None → IsFoundAbove parents marks order nearest (k + 1) → IsFoundAbove parents marks order nearest k
root_above parents marks order nearest k c is root found = record {
  size = found.size;
  reached = found.reached;
  least = λ numbers ordered. least_over_root parents marks nearest numbers order ordered k c is root (found.least numbers ordered);
}

handed_size : (nearest : List (Option ℕ)) (p : ℕ) (o : Option ℕ) → length (handed_up nearest p o) ≡ length nearest
handed_size nearest p None = refl
handed_size nearest p (Some d) = length-set nearest p (Some (lesser (held nearest p) d))

pub child_above : (parents : List (Option ℕ)) (marks : List Bool) (order : List ℕ) (nearest : List (Option ℕ)) (k c p : ℕ) → slice_index order k ≡ c → parent_of parents c ≡ Some p → p < length parents → IsFoundAbove parents marks order nearest (k + 1) → IsFoundAbove parents marks order (handed_up nearest p (further marks nearest c)) k
child_above parents marks order nearest k c p is up there found =
    let size = found.size in
    let within : p < length nearest = omega arith in
    record {
      size = handed_size nearest p (further marks nearest c) ∙ found.size;
      reached = reached_above parents marks nearest c p up within found.reached;
      least = λ numbers ordered. least_above parents marks nearest c p up within numbers order ordered k is (found.least numbers ordered);
    }

-- ---- distances fit

pub marked_within : (marks : List Bool) (s : ℕ) → is_marked marks s ≡ true → s < length marks
marked_within marks s is = ⊎_elim
    (λ below. below)
    (λ past. absurd (true≢false (sym is ∙ get_or_past marks s false past)))
    (cases_lt s (length marks))

pub below_fits : (parents : List (Option ℕ)) (marks : List Bool) (nearest : List (Option ℕ)) → IsIndexed parents → AreReached Descendant parents marks nearest → (x d : ℕ) → x < length parents → held nearest x ≡ Some d → d < length parents
below_fits parents marks nearest indexed reached x d h is = let r = reached x d is in depth_bounds parents d x r.1.0 (indexed.ends x h) r.1.2

pub above_fits : (parents : List (Option ℕ)) (marks : List Bool) (nearest : List (Option ℕ)) → IsIndexed parents → length marks ≡ length parents → AreReached Ancestor parents marks nearest → (x d : ℕ) → held nearest x ≡ Some d → d < length parents
above_fits parents marks nearest indexed size reached x d is =
    let r = reached x d is in
    let within = marked_within marks r.1.0 r.1.1 in
    depth_bounds parents d r.1.0 x (indexed.ends r.1.0 (omega arith)) r.1.2

-- ---- the order of the numbers

own_parent : (parents : List (Option ℕ)) (x : ℕ) → Ends parents (length parents) x → parent_of parents x ≡ Some x → ⊥
own_parent parents x e up =
    let at : above parents 1 x ≡ Some x = ap (option_and_then (above parents 0)) up in
    let r = depth_above parents 1 e.depth x x e.is at in
    let sum = r.1 in
    let same = depth_is_one parents r.0 e.depth x r.2 e.is in
    omega arith

module _ (parents : List (Option ℕ)) (numbers lasts : List ℕ) (indexed : IsIndexed parents) (intervals : AreIntervals parents numbers lasts) where
  pub number_fits : (x : ℕ) → x < length parents → slice_index numbers x < length parents
  number_fits x h =
      let inside = sym (intervals.under x x h h) ∙ or_left (x == x) (is_descendant parents None x x) (eq-eqb x x refl) in
      let both = and_parts (nat_le (slice_index numbers x) (slice_index numbers x)) (nat_le (slice_index numbers x) (slice_index lasts x)) inside in
      let most = leb-true (slice_index numbers x) (slice_index lasts x) both.1 in
      let f = intervals.fits x h in
      omega arith

  pub number_down : (x p : ℕ) → parent_of parents x ≡ Some p → slice_index numbers p < slice_index numbers x
  number_down x p up =
      let hx = has_parent parents x p up in
      let hp = indexed.nodes x p up in
      let at : above parents 1 x ≡ Some p = ap (option_and_then (above parents 0)) up in
      let inside = sym (intervals.under p x hp hx) ∙ or_right (p == x) (is_descendant parents None p x) (desc_yes parents p x 0 (indexed.ends x hx) at) in
      let both = and_parts (nat_le (slice_index numbers p) (slice_index numbers x)) (nat_le (slice_index numbers x) (slice_index lasts p)) inside in
      let less = leb-true (slice_index numbers p) (slice_index numbers x) both.0 in
      let other : slice_index numbers p ≢ slice_index numbers x = λ e.
      let same = intervals.one p x hp hx e in
      own_parent parents x (indexed.ends x hx) (up ∙ ap Some same) in
      omega arith

  -- a node more stands at its number
  pub next_stands : (order : List ℕ) (x : ℕ) → length order ≡ length parents → x < length parents → ((y : ℕ) → y < x → slice_index order (slice_index numbers y) ≡ y) → (y : ℕ) → y < x + 1 → slice_index (set order (slice_index numbers x) x) (slice_index numbers y) ≡ y
  next_stands order x size h before y less = ⊎_elim
      (λ same. ap (λ y. slice_index (set order (slice_index numbers x) x) (slice_index numbers y)) same ∙ get_or-set_same order (slice_index numbers x) x 0 (let f = number_fits x h in omega arith) ∙ sym same)
      (λ other. get_or-set_other order (slice_index numbers x) (slice_index numbers y) x 0 (λ e. other (intervals.one y x (let ne : y ≢ x = other in omega arith) h e)) ∙ before y (let ne : y ≢ x = other in omega arith))
      (cases_eq y x)

  pub next_nodes : (order : List ℕ) (x : ℕ) → length order ≡ length parents → x < length parents → ((k : ℕ) → k < length parents → slice_index order k < length parents) → (k : ℕ) → k < length parents → slice_index (set order (slice_index numbers x) x) k < length parents
  next_nodes order x size h before k less = ⊎_elim
      (λ same. let e = ap (λ k. slice_index (set order (slice_index numbers x) x) k) same ∙ get_or-set_same order (slice_index numbers x) x 0 (let f = number_fits x h in omega arith) in omega arith)
      (λ other. let e = get_or-set_other order (slice_index numbers x) k x 0 other in let b = before k less in omega arith)
      (cases_eq k (slice_index numbers x))

-- ---- from distances to the rows that are asked for

-- start nodes are those of the list
any_same : (f : ℕ → Bool) (s : ℕ) (starts : List ℕ) → list_any (nat_eq s) starts ≡ true → f s ≡ true → list_any f starts ≡ true
any_same f s [] there is = absurd (cc)
any_same f s (t ∷ ts) there is = ⊎_elim
    (λ e. or_left (f t) (list_any f ts) (ap f (sym (eqb-true s t e)) ∙ is))
    (λ more. or_right (f t) (list_any f ts) (any_same f s ts more is))
    (or_cases (nat_eq s t) (list_any (nat_eq s) ts) there)

same_any : (f : ℕ → Bool) (starts : List ℕ) → list_any f starts ≡ true → (s : ℕ) × (f s ≡ true) × (list_any (nat_eq s) starts ≡ true)
same_any f [] is = absurd (cc)
same_any f (t ∷ ts) is = ⊎_elim
    (λ here. (t, here, or_left (nat_eq t t) (list_any (nat_eq t) ts) (eq-eqb t t refl)))
    (λ more. let r = same_any f ts more in (r.0, r.1, or_right (nat_eq r.0 t) (list_any (nat_eq r.0) ts) r.2))
    (or_cases (f t) (list_any f ts) is)

any_below : (n s : ℕ) (starts : List ℕ) → AreNodesOf n starts → list_any (nat_eq s) starts ≡ true → s < n
any_below n s [] all there = absurd (cc)
any_below n s (t ∷ ts) all there = ⊎_elim
    (λ e. let same = eqb-true s t e in let h = all 0 0 (omega arith) in omega arith)
    (λ more. any_below n s ts (λ k d h. all (suc k) d (omega arith)) more)
    (or_cases (nat_eq s t) (list_any (nat_eq s) ts) there)

-- a limit that admits a distance admits a lesser one
within_less : (limit : Option ℕ) (d e : ℕ) → is_within limit d ≡ true → 0 < e → e ≤ d → is_within limit e ≡ true
within_less None d e is some less = and_from (nat_lt 0 e) true (lt-ltb 0 e some) refl
within_less (Some l) d e is some less =
    let both = and_parts (nat_lt 0 d) (nat_le d l) is in
    let most = leb-true d l both.1 in
    and_from (nat_lt 0 e) (nat_le e l) (lt-ltb 0 e some) (le-leb e l (omega arith))

near_parts : (limit : Option ℕ) (o : Option ℕ) → is_near limit o ≡ true → (d : ℕ) × (o ≡ Some d) × (is_within limit d ≡ true)
near_parts limit None is = absurd (true≢false (sym is))
near_parts limit (Some d) is = (d, refl, is)

-- a distance within a limit is at least 1
within_some : (limit : Option ℕ) (d : ℕ) → is_within limit d ≡ true → (k : ℕ) × (d ≡ suc k)
within_some limit zero is = absurd (let a = ltb-true 0 0 (and_parts (nat_lt 0 0) (unwrap_or (option_map (nat_le 0) limit) true) is).0 in omega arith)
within_some limit (suc k) is = (k, refl)

module _ (parents : List (Option ℕ)) (indexed : IsIndexed parents) (limit : Option ℕ) (x s d : ℕ) where
  -- a way within the limit makes nodes related
  stands_related : (relation : Relation) → x < length parents → s < length parents → is_within limit d ≡ true → StandsAt relation parents d x s → is_related relation parents limit x s ≡ true
  stands_related Ancestor hx hs within at = descends parents limit x s d (depth_bounds parents d s x (indexed.ends s hs) at) within at
  stands_related Descendant hx hs within at = descends parents limit s x d (depth_bounds parents d x s (indexed.ends x hx) at) within at

related_stands : (relation : Relation) (parents : List (Option ℕ)) (limit : Option ℕ) (x s : ℕ) → is_related relation parents limit x s ≡ true → (d : ℕ) × (is_within limit d ≡ true) × StandsAt relation parents d x s
related_stands Ancestor parents limit x s is = let r = descended parents limit x s is in (r.0, r.2, r.3)
related_stands Descendant parents limit x s is = let r = descended parents limit s x is in (r.0, r.2, r.3)

pub near_is_taken : (relation : Relation) (parents : List (Option ℕ)) → IsIndexed parents → (limit : Option ℕ) (keep : Bool) (starts : List ℕ) → AreNodesOf (length parents) starts → (marks : List Bool) → AreMarksOf (length parents) starts marks → (nearest : List (Option ℕ)) → AreNearest relation parents marks nearest
    → (x : ℕ) → x < length parents → (is_near limit (held nearest x) || (keep && is_marked marks x)) ≡ is_taken relation parents limit keep starts x
near_is_taken relation parents indexed limit keep starts are marks marked nearest found x hx =
    same_bool _ _
    (λ taken. ⊎_elim
    (λ near.
    let n = near_parts limit (held nearest x) near in
    let r = found.reached x n.0 n.1 in
    let s = r.1.0 in
    let hs : s < length parents = let size = marked.size in let w = marked_within marks s r.1.1 in omega arith in
    any_same (λ s. is_related relation parents limit x s || (keep && x == s)) s starts (sym (marked.told s hs) ∙ r.1.1)
    (or_left (is_related relation parents limit x s) (keep && x == s) (stands_related parents indexed limit x s n.0 relation hx hs n.2 r.1.2)))
    (λ kept.
    let both = and_parts keep (is_marked marks x) kept in
    any_same (λ s. is_related relation parents limit x s || (keep && x == s)) x starts (sym (marked.told x hx) ∙ both.1)
    (or_right (is_related relation parents limit x x) (keep && x == x) (and_from keep (x == x) both.0 (eq-eqb x x refl))))
    (or_cases (is_near limit (held nearest x)) (keep && is_marked marks x) taken))
    (λ taken.
    let r = same_any (λ s. is_related relation parents limit x s || (keep && x == s)) starts taken in
    let s = r.0 in
    let hs = any_below (length parents) s starts are r.2 in
    let told : is_marked marks s ≡ true = marked.told s hs ∙ r.2 in
    ⊎_elim
    (λ related.
    let w = related_stands relation parents limit x s related in
    let k = within_some limit w.0 w.1 in
    let P : ℕ → Type 0 = λ d. StandsAt relation parents d x s in
    let near = found.least x k.0 s told (subst P k.1 w.2) in
    let some = (found.reached x near.0 near.1).0 in
    let less = near.2 in
    let more = k.1 in
    or_left (is_near limit (held nearest x)) (keep && is_marked marks x) (ap (is_near limit) near.1 ∙ within_less limit w.0 near.0 w.1 some (omega arith)))
    (λ kept.
    let both = and_parts keep (x == s) kept in
    let same = eqb-true x s both.1 in
    or_right (is_near limit (held nearest x)) (keep && is_marked marks x) (and_from keep (is_marked marks x) both.0 (ap (is_marked marks) same ∙ told)))
    (or_cases (is_related relation parents limit x s) (keep && x == s) r.1))
