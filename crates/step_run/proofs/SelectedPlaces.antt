-- The places that a selection takes are places of its values.
use Rattle.std.proofs.Common.{arith, ℕ, ◌∙◌, ap, sym, Bool, IsTrue, List, length, filter}
use Rattle.std.specs.Prelude.{IfOk, Some, nat_eq, nat_lt}
use Rattle.std.specs.Global.{Vec}
use Rattle.std.specs.List.{list_all, list_any}
use Rattle.std.specs.declared.result.Result as result
use Rattle.std.specs.declared.result.Result.TheVariants.{Ok, Err}
use Rattle.edm_values.proofs.ListFacts.{all-filter}
use Rattle.edm_values.proofs.OptionFacts.{if_some, some_value}
use Rattle.edm_values.proofs.PlaceFacts.{places-within}
use Rattle.edm_values.specs.declared.Value.{Value}
use Rattle.edm_values.specs.declared.refusals.Refused.{Refused}
use Rattle.edm_values.specs.Lists.{places}
use Rattle.edm_values.specs.Values.{is_beyond, taken, top_places}
use Rattle.row_orders.specs.Ranks.{GivesNumbers}

pub selected-within : (reaches : List Value → Bool) (bottom : Bool) (vs : List Value) (r : result.Result (Vec ℕ) Refused) → GivesNumbers r (top_places reaches bottom vs)
    → IfOk r (λ ks. IsTrue (list_all (λ k. nat_lt k (length vs)) ks.items))
selected-within reaches bottom vs (Ok ks) g =
    let q : ℕ → Bool = λ i. list_any (nat_eq i) (taken reaches bottom vs) in
    let t = if_some (list_any is_beyond vs) (Some (filter q (places (length vs)))) ks.items g in
    ap (list_all (λ k. nat_lt k (length vs))) (sym (some_value t.1)) ∙ all-filter (λ k. nat_lt k (length vs)) q (places (length vs)) (places-within (length vs) (length vs) (omega arith))
selected-within reaches bottom vs (Err e) g = tt
