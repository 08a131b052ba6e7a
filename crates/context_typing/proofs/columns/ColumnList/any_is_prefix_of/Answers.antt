use Rattle.std.proofs.Common.{◌≡◌, ◌∙◌, ap, sym, inl, inr, take, arith}
use Rattle.std.specs.Prelude.{is_some}
use Rattle.std.proofs.lemmas.Bool.{cases_lt}
use Rattle.context_typing.specs.Paths.{at_path}
use Rattle.context_typing.proofs.PathOrders.{leads-found, leads-missed, none-is, copied-some}
use Rattle.context_typing.proofs.columns.ColumnList.any_is_prefix_of.Goals as goal

pub returns-then-is_some : goal.returns-then-is_some
returns-then-is_some c =
    leads-found c.args.self.now c.args.path.now c.loop-k.k (ap is_some (sym c.find.ensures) ∙ copied-some c.find.result ∙ sym c.is_some.ensures ∙ c.if-is_some.true)

pub returns-else-is_some : goal.returns-else-is_some
returns-else-is_some c =
    leads-missed c.args.self.now c.args.path.now (λ k h. elim (cases_lt k c.loop-k.k) [
      | inl less ↦ c.loop-k.invariant k less
      | inr more ↦ let same : k ≡ c.loop-k.k = omega arith in
          ap (λ k. at_path (λ x. x.path) c.args.self.now (take k c.args.path.now)) same
          ∙ none-is (at_path (λ x. x.path) c.args.self.now (take c.loop-k.k c.args.path.now)) (ap is_some (sym c.find.ensures) ∙ copied-some c.find.result ∙ sym c.is_some.ensures ∙ c.if-is_some.false)
    ])
