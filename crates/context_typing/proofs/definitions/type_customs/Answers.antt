use Rattle.std.proofs.Common.{◌≡◌, ◌∙◌, ◌++◌, ◌∷◌, [], ap, sym, subst, rules, arith, length, take, map, All, List, Some, Err}
use Rattle.std.proofs.lemmas.Grind.{common_steps}
use Rattle.std.proofs.lemmas.List.{length_push}
use Rattle.std.proofs.lemmas.List.Elements.{All-push}
use Rattle.std.proofs.lemmas.Iterator.Adapters.{YieldsList-from_vec}
use Rattle.std.proofs.lemmas.Iterator.Consumers.{YieldsList-turn}
use Rattle.context_typing.specs.Readings.{IsTypedCustom, read_kind}
use Rattle.context_typing.specs.declared.customs.TypedCustom.{TypedCustom}
use Rattle.context_typing.proofs.CustomEntries.{entry-at, same-ids, reads-next, refused-first}
use Rattle.context_typing.proofs.definitions.type_customs.Goals as goal

pub type_custom-requires-clause-entry : goal.type_custom-requires-clause-entry
type_custom-requires-clause-entry c =
    let t = YieldsList-turn (YieldsList-from_vec {s = c.into_iter-read-iterator.result} c.args.list.items (search rules) (search rules))
    c.loop-read.yielded c.loop-read.read-iterator c.loop-read.yielded_by c.next.result c.next.new.self c.in-Some.read c.in-Some.is c.next.ensures.steps in
    let n : c.len.result ≡ length c.loop-read.yielded = first_of (omega arith, grind (arith, common_steps)) in
    entry-at c.args.m.now c.sets-sets.ensures.sound c.args.list.items c.customs-customs.result.now (length c.loop-read.yielded) c.len.result c.index-customs-len.result
    c.requires c.customs-customs.ensures.value t.0 n c.index-customs-len.is

pub type_custom-requires-clause-id : goal.type_custom-requires-clause-id
type_custom-requires-clause-id c =
    let t = YieldsList-turn (YieldsList-from_vec {s = c.into_iter-read-iterator.result} c.args.list.items (search rules) (search rules))
    c.loop-read.yielded c.loop-read.read-iterator c.loop-read.yielded_by c.next.result c.next.new.self c.in-Some.read c.in-Some.is c.next.ensures.steps in
    let n : c.len.result ≡ length c.loop-read.yielded = first_of (omega arith, grind (arith, common_steps)) in
    same-ids c.args.m.now c.args.list.items c.customs-customs.result.now (length c.loop-read.yielded) c.len.result c.in-Some.read c.index-customs-len.result
    c.requires c.customs-customs.ensures.value t.0 n t.1 c.index-customs-len.is

pub returns-in_err-type_custom-clause-untyped : goal.returns-in_err-type_custom-clause-untyped
returns-in_err-type_custom-clause-untyped c =
    let t = YieldsList-turn (YieldsList-from_vec {s = c.into_iter-read-iterator.result} c.args.list.items (search rules) (search rules))
    c.loop-read.yielded c.loop-read.read-iterator c.loop-read.yielded_by c.next.result c.next.new.self c.in-Some.read c.in-Some.is c.next.ensures.steps in
    let inv = c.loop-read.invariant in
    let r : c.from_residual.result ≡ Err c.in_err-type_custom.field-0.0 = first_of (grind (arith, common_steps), search rules) in
    rw r (refused-first (List TypedCustom) c.args.m.now c.loop-read.all.items c.args.list.items (length c.loop-read.yielded) c.in-Some.read c.in_err-type_custom.field-0.0 inv.reads inv.kinds t.0 inv.count t.1 c.in_err-type_custom.ensures)

pub loop-read-preserved : goal.loop-read-preserved
loop-read-preserved c =
    let t = YieldsList-turn (YieldsList-from_vec {s = c.into_iter-read-iterator.result} c.args.list.items (search rules) (search rules))
    c.loop-read.yielded c.loop-read.read-iterator c.loop-read.yielded_by c.next.result c.next.new.self c.in-Some.read c.in-Some.is c.next.ensures.steps in
    let all = c.loop-read.all.items in
    let x = c.in_ok-type_custom.field-0 in
    let a = c.in_ok-type_custom.ensures in
    let p : c.push.new.self.items ≡ all ++ x ∷ [] = c.in_ok-push.ensures.items in
    let n = length_push c.loop-read.yielded c.in-Some.read in
    let inv = c.loop-read.invariant in
    record {
      count = omega (arith, ap length p, length_push all x, n, inv.count);
      reads = ap (map (λ x. x.read)) p ∙ reads-next all c.args.list.items (length c.loop-read.yielded) x c.in-Some.read inv.reads t.0 a.0 t.1 ∙ ap (λ n. take n c.args.list.items) (sym n);
      typed = subst (All (IsTypedCustom c.args.m.now)) (sym p) (All-push (IsTypedCustom c.args.m.now) all x inv.typed a.1);
      kinds = subst (All (λ x. read_kind c.args.m.now x.read ≡ Some x.kind)) (sym p) (All-push (λ x. read_kind c.args.m.now x.read ≡ Some x.kind) all x inv.kinds (ap (read_kind c.args.m.now) a.0 ∙ a.2));
    }
