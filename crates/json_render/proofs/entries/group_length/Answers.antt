use Rattle.std.proofs.Common.{◌≡◌, ◌+◌, sym, ap, subst, false, drop, arith, rules}
use Rattle.edm_values.specs.Lists.{same_text}
use Rattle.json_render.specs.Places.{named_parts, run_of, first_run}
use Rattle.json_render.proofs.Runs.{run-first, run-stops}
use Rattle.json_render.proofs.entries.group_length.Goals as goal

pub returns-then-ne-clause-value : goal.returns-then-ne-clause-value
returns-then-ne-clause-value c =
    let es = c.args.entries.now in
    let n = c.index-entries-0.result.name.now in
    let first : first_run (named_parts es) ≡ run_of n (named_parts es) = run-first es c.index-entries-0.result (omega arith) c.index-entries-0.is in
    let differs : same_text c.index-entries-k.result.name.now n ≡ false = search rules in
    let stops = run-stops n es c.loop-k.k c.index-entries-k.result (omega arith) c.index-entries-k.is differs in
    let so_far = subst (λ m. run_of m (named_parts es) ≡ c.loop-k.k + run_of m (named_parts (drop c.loop-k.k es))) (sym (ap (λ e. e.name.now) c.index-entries-0.is)) c.loop-k.invariant in
    omega (arith, first, so_far, stops)
