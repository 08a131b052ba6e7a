use Rattle.std.proofs.Common.{◌≡◌, ◌∷◌, [], ◌++◌, length, sym, ap, ◌∙◌, arith, length-append}
use Rattle.edm_values.specs.declared.Value.{Value}
use Rattle.edm_values.specs.Values.{seen_value}
use Rattle.edm_data.proofs.ColumnLemmas.{AreBelow-push, column-more, column-null, length-column}
use Rattle.edm_data.proofs.columns.Column.push.Goals as goal

pub overflow_add-self : goal.overflow_add-self
overflow_add-self c =
    let size : length c.args.self.now ≡ c.self.inside.count = ap length (sym c.self.view_is) ∙ length-column c.self.inside.places c.self.inside.values c.self.inside.count in
    omega (arith, c.requires)

pub returns-in-Null : goal.returns-in-Null
returns-in-Null c = record {
  ok = column-null c.self.inside.places c.self.inside.values c.self.inside.count c.self.invariant.below ∙ ap (λ l. l ++ Value.Null ∷ []) c.self.view_is ∙ ap (λ v. c.args.self.now ++ seen_value v ∷ []) (sym c.in-Null.is);
}

pub invariant_of-self-in_err-push : goal.invariant_of-self-in_err-push
invariant_of-self-in_err-push c = record { below = c.self.invariant.below; enough = rw c.in_err-push.ensures.err c.self.invariant.enough }

pub invariant_of-self-in_err-push-2 : goal.invariant_of-self-in_err-push-2
invariant_of-self-in_err-push-2 c = rw (c.in_err-push-2.ensures.err, c.in_ok-push.ensures.ok) (record {
  below = c.self.invariant.below;
  enough = rw length-append (omega (arith, c.self.invariant.enough));
})

pub overflow_add-self-2 : goal.overflow_add-self-2
overflow_add-self-2 c =
    let size : length c.args.self.now ≡ c.self.inside.count = ap length (sym c.self.view_is) ∙ length-column c.self.inside.places c.self.inside.values c.self.inside.count in
    omega (arith, c.requires)

pub invariant_of-self-2 : goal.invariant_of-self-2
invariant_of-self-2 c = rw (c.in_ok-push-2.ensures.ok, c.in_ok-push.ensures.ok) (record {
  below = AreBelow-push c.self.inside.places c.self.inside.count c.self.invariant.below;
  enough = rw (length-append, length-append) (omega (arith, c.self.invariant.enough));
})

pub returns : goal.returns
returns c =
    let size : length c.self.inside.places ≡ length c.self.inside.values = omega (arith, c.self.invariant.enough, c.if-len.false, c.len.ensures, c.len-2.ensures) in
    rw (c.in_ok-push-2.ensures.ok, c.in_ok-push.ensures.ok) (record { ok = column-more c.self.inside.places c.self.inside.values c.self.inside.count (seen_value c.args.value) c.self.invariant.below size ∙ ap (λ l. l ++ seen_value c.args.value ∷ []) c.self.view_is })
