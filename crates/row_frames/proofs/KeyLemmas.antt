-- Columns of key values, and the key lists that stand across them.
use Rattle.std.proofs.Common.{◌≡◌, ◌∙◌, ℕ, zero, suc, ◌+◌, ◌<◌, ◌≤◌, List, [], ◌∷◌, ◌++◌, add-one, ap, arith, get_or, length, map, refl, sym, take}
use Rattle.std.specs.Global.{Vec}
use Rattle.std.specs.List.{All}
use Rattle.std.proofs.lemmas.List.{get_or-map, length-map, map-append, take_all, take_more}
use Rattle.std.proofs.lemmas.List.Elements.{All-cons, All-nil}
use Rattle.edm_values.specs.declared.Value.{Value}
use Rattle.edm_values.specs.declared.Seen.{Seen}
use Rattle.edm_values.specs.Lists.{places}
use Rattle.edm_values.specs.Names.{Path}
use Rattle.edm_values.specs.Values.{seen_value}
use Rattle.edm_data.specs.Worlds.{World}
use Rattle.apply_meaning.specs.Instances.{Instance, lookup, no_instance}
use Rattle.apply_meaning.specs.Meaning.{key_list}
use Rattle.row_frames.specs.Keys.{key_at, key_column, key_columns, keys_of, seen_columns}

-- each column has a value for each instance
pub columns-long : (w : World) (ps : List Path) (l : List Instance) → All (λ c. length c ≡ length l) (key_columns w ps l)
columns-long w [] l = All-nil (λ (c : List Value). length c ≡ length l)
columns-long w (p ∷ ps) l = All-cons (λ (c : List Value). length c ≡ length l) (key_column w l p) (key_columns w ps l) (length-map l (λ i. lookup w i p)) (columns-long w ps l)

-- the same of columns that borrow their texts
pub columns-sized : (w : World) (ps : List Path) (l : List Instance) (n : ℕ) (cs : List (Vec Seen)) → seen_columns cs ≡ key_columns w ps l → length l ≡ n → All (λ c. length c.items ≡ n) cs
columns-sized w ps l n [] e s = All-nil (λ (c : Vec Seen). length c.items ≡ n)
columns-sized w [] l n (c ∷ cs) e s = absurd (cc)
columns-sized w (p ∷ ps) l n (c ∷ cs) e s =
    let head : map (λ v. seen_value v) c.items ≡ key_column w l p = cc in
    let rest : seen_columns cs ≡ key_columns w ps l = cc in
    All-cons (λ (c : Vec Seen). length c.items ≡ n) c cs
    (sym (length-map c.items (λ v. seen_value v)) ∙ ap length head ∙ length-map l (λ i. lookup w i p) ∙ s)
    (columns-sized w ps l n cs rest s)

-- the key list at a place is that of the instance there
pub key-there : (w : World) (ps : List Path) (l : List Instance) (k : ℕ) (d : Instance) → k < length l → key_at (key_columns w ps l) k ≡ key_list w ps (get_or l k d)
key-there w [] l k d h = refl
key-there w (p ∷ ps) l k d h = λ i. get_or-map (λ (x : Instance). lookup w x p) l k d Value.Null h i ∷ key-there w ps l k d h i

-- the key lists at the first places
keys-upto : (w : World) (ps : List Path) (l : List Instance) (n : ℕ) → n ≤ length l → keys_of (key_columns w ps l) n ≡ map (key_list w ps) (take n l)
keys-upto w ps l zero h = refl
keys-upto w ps l (suc n) h =
    let cs = key_columns w ps l in
    map-append (key_at cs) (places n) (n ∷ [])
    ∙ (λ i. keys-upto w ps l n (omega arith) i ++ key-there w ps l n no_instance (omega arith) i ∷ [])
    ∙ sym (map-append (key_list w ps) (take n l) (get_or l n no_instance ∷ []))
    ∙ ap (map (key_list w ps)) (sym (take_more l n no_instance (omega arith)))
    ∙ ap (λ m. map (key_list w ps) (take m l)) (add-one n)

-- the key lists across the columns are those of the instances
pub keys-across : (w : World) (ps : List Path) (l : List Instance) → keys_of (key_columns w ps l) (length l) ≡ map (key_list w ps) l
keys-across w ps l = keys-upto w ps l (length l) (omega arith) ∙ ap (map (key_list w ps)) (take_all (length l) l (omega arith))

-- one key list more
pub more-keys : (cs : List (List Value)) (n : ℕ) (ks ks' : List (List Value)) (k : List Value) → ks ≡ keys_of cs n → k ≡ key_at cs n → ks' ≡ ks ++ k ∷ [] → ks' ≡ keys_of cs (n + 1)
more-keys cs n ks ks' k h e m =
    m ∙ (λ i. h i ++ e i ∷ [])
    ∙ sym (map-append (key_at cs) (places n) (n ∷ []))
    ∙ ap (keys_of cs) (sym (add-one n))

-- one value more of a key list
pub more-values : (cs : List (Vec Seen)) (n at : ℕ) (c : Vec Seen) (s : Seen) (v : Value) (key key' : List Value) → key ≡ key_at (seen_columns (take n cs)) at → n < length cs → c ≡ get_or cs n c
    → at < length c.items → s ≡ get_or c.items at s → v ≡ seen_value s → key' ≡ key ++ v ∷ [] → key' ≡ key_at (seen_columns (take (n + 1) cs)) at
more-values cs n at c s v key key' h lt e inside f g m =
    let value = λ (x : Seen). seen_value x in
    let shown = λ (c : Vec Seen). map value c.items in
    let cell = λ (l : List Value). get_or l at Value.Null in
    let there : cell (shown c) ≡ v = get_or-map value c.items at s Value.Null inside ∙ ap value (sym f) ∙ sym g in
    m ∙ (λ i. h i ++ sym there i ∷ [])
    ∙ sym (map-append cell (seen_columns (take n cs)) (shown c ∷ []))
    ∙ ap (map cell) (sym (map-append shown (take n cs) (c ∷ [])))
    ∙ ap (λ x. map cell (map shown (take n cs ++ x ∷ []))) e
    ∙ ap (λ xs. map cell (map shown xs)) (sym (take_more cs n c lt))
