use Rattle.std.proofs.Common.{◌≡◌, ◌∷◌, [], ◌++◌, length, sym, ap, ◌∙◌, arith, None, Some}
use Rattle.std.specs.declared.option.Option.{Option}
use Rattle.std.proofs.Common.{ℕ}
use Rattle.edm_data.specs.LinkLists.{LinkList}
use Rattle.edm_data.proofs.ColumnLemmas.{kept-more, kept-none, length-kept}
use Rattle.edm_data.proofs.links.Links.push.Goals as goal

pub overflow_add-self : goal.overflow_add-self
overflow_add-self c =
    let size : length c.args.self.now ≡ c.self.inside.count = ap length (sym c.self.view_is) ∙ length-kept c.self.inside.places c.self.inside.targets.items c.self.inside.count in
    omega (arith, c.requires)

pub returns-in_default : goal.returns-in_default
returns-in_default c = record {
  ok = kept-none c.self.inside.places c.self.inside.targets.items c.self.inside.count c.self.invariant.below ∙ ap (λ (l : LinkList). l ++ None ∷ []) c.self.view_is ∙ ap (λ (o : Option ℕ). c.args.self.now ++ o ∷ []) (sym c.in_default.is);
}

pub overflow_add-self-2 : goal.overflow_add-self-2
overflow_add-self-2 c =
    let size : length c.args.self.now ≡ c.self.inside.count = ap length (sym c.self.view_is) ∙ length-kept c.self.inside.places c.self.inside.targets.items c.self.inside.count in
    omega (arith, c.requires)

pub returns : goal.returns
returns c =
    let size : length c.self.inside.places ≡ length c.self.inside.targets.items = omega (arith, c.self.invariant.enough, c.if-len.false, c.len.ensures, c.len-2.ensures, c.self.inside.targets.ok.0) in
    rw (c.in_ok-push-2.ensures.ok, c.in_ok-push.ensures.items) (record { ok = kept-more c.self.inside.places c.self.inside.targets.items c.self.inside.count c.in-Some.target c.self.invariant.below size ∙ ap (λ (l : LinkList). l ++ Some c.in-Some.target ∷ []) c.self.view_is ∙ ap (λ (o : Option ℕ). c.args.self.now ++ o ∷ []) (sym c.in-Some.is) })
