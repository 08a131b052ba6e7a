-- How many parts from the front have one name.
use Rattle.std.proofs.Common.{◌≡◌, ℕ, zero, suc, ◌<◌, false, cond, List, [], ◌∷◌, length, drop, get_or, sym, ◌∙◌, ap, arith}
use Rattle.edm_values.specs.Lists.{same_text}
use Rattle.edm_values.specs.Names.{Name}
use Rattle.edm_values.proofs.SameTexts.{text-self}
use Rattle.json_render.specs.declared.entries.Entry.{Entry}
use Rattle.json_render.specs.Places.{named_parts, run_of, first_run}

-- an entry of another name ends the run
pub run-stops : (n : Name) (es : List Entry) (k : ℕ) (e : Entry) → k < length es → e ≡ get_or es k e → same_text e.name.now n ≡ false → run_of n (named_parts (drop k es)) ≡ 0
run-stops n [] k e h i s = absurd (omega arith)
run-stops n (x ∷ es) zero e h i s = ap (λ b. cond b (suc (run_of n (named_parts es))) 0) (ap (λ y. same_text y.name.now n) (sym i) ∙ s)
run-stops n (x ∷ es) (suc k) e h i s = run-stops n es k e (omega arith) i s

-- the first run is that of the first one's name
pub run-first : (es : List Entry) (e : Entry) → 0 < length es → e ≡ get_or es 0 e → first_run (named_parts es) ≡ run_of e.name.now (named_parts es)
run-first [] e h i = absurd (omega arith)
run-first (x ∷ es) e h i =
    sym (ap (λ y. run_of y.name.now (named_parts (x ∷ es))) i ∙ ap (λ b. cond b (suc (run_of x.name.now (named_parts es))) 0) (text-self x.name.now))
