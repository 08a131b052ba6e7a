use Rattle.std.proofs.Common.{◌≡◌, ◌≤◌, List, Some, arith, ap, length, sym, ◌∙◌}
use Rattle.std.specs.Prelude.{slice_get}
use Rattle.edm_model.specs.IdLists.{custom_list}
use Rattle.context_typing.specs.declared.customs.TypedCustom.{TypedCustom}
use Rattle.custom_readings.proofs.ReadLists.{item_get}
use Rattle.apply_store.proofs.CustomsRead.{owner-there, names-first, first-unread, all-typed, whole-typed}
use Rattle.apply_store.proofs.judging.judge_customs.Goals as goal

pub untyped-requires : goal.untyped-requires
untyped-requires c =
    names-first c.args.m.now c.sets-sets.ensures.sound _ c.in-Ok.ensures.read (List TypedCustom) c.in-Err.refused c.in-Err.ensures.untyped

pub returns-in-Some-clause-there : goal.returns-in-Some-clause-there
returns-in-Some-clause-there c =
    owner-there c.args.m.now c.sets-sets.ensures.sound c.customs-customs.result.now c.len-read.result c.in-Some.unread.now c.customs-customs.ensures.value c.in-Some.ensures.lookup.3.0 c.in-Some.ensures.lookup.1

pub returns-in-Some-clause-first : goal.returns-in-Some-clause-first
returns-in-Some-clause-first c =
    let count : c.len-read.result ≡ length c.in-Ok.list.items = omega (arith, c.len-read.ensures, c.in-Ok.list.ok.0) in
    let stands : slice_get (custom_list c.args.m.now) (length c.in-Ok.list.items) ≡ Some c.in-Some.unread.now =
    (λ i. slice_get (sym c.customs-customs.ensures.value i) (sym count i)) ∙ item_get c.customs-customs.result.now c.len-read.result c.in-Some.unread.now c.in-Some.ensures.lookup.3.0 c.in-Some.ensures.lookup.1 in
    first-unread c.args.m.now c.sets-sets.ensures.sound _ c.in-Ok.ensures.read c.in-Ok-type_customs.typed c.in-Some.unread.now c.in-Ok-type_customs.ensures.reads c.in-Ok-type_customs.ensures.typed stands

pub returns-in-Some-clause-why : goal.returns-in-Some-clause-why
returns-in-Some-clause-why c =
    let count : c.len-read.result ≡ length c.in-Ok.list.items = omega (arith, c.len-read.ensures, c.in-Ok.list.ok.0) in
    let stands : slice_get (custom_list c.args.m.now) (length c.in-Ok.list.items) ≡ Some c.in-Some.unread.now =
    (λ i. slice_get (sym c.customs-customs.ensures.value i) (sym count i)) ∙ item_get c.customs-customs.result.now c.len-read.result c.in-Some.unread.now c.in-Some.ensures.lookup.3.0 c.in-Some.ensures.lookup.1 in
    c.in-Ok.ensures.read.ended c.in-Some.unread.now stands

pub returns-in-None-clause-all : goal.returns-in-None-clause-all
returns-in-None-clause-all c =
    let past : length (custom_list c.args.m.now) ≤ length c.in-Ok.list.items =
    omega (arith, c.len-read.ensures, c.in-Ok.list.ok.0, ap length c.customs-customs.ensures.value, c.in-None.ensures.lookup.3) in
    all-typed c.args.m.now c.sets-sets.ensures.sound _ c.in-Ok.ensures.read c.in-Ok-type_customs.typed c.in-Ok-type_customs.ensures.reads c.in-Ok-type_customs.ensures.typed past

pub returns-in-None-clause-whole : goal.returns-in-None-clause-whole
returns-in-None-clause-whole c =
    let past : length (custom_list c.args.m.now) ≤ length c.in-Ok.list.items =
    omega (arith, c.len-read.ensures, c.in-Ok.list.ok.0, ap length c.customs-customs.ensures.value, c.in-None.ensures.lookup.3) in
    whole-typed c.args.m.now c.sets-sets.ensures.sound _ c.in-Ok.ensures.read c.in-Ok-type_customs.typed c.in-Ok-type_customs.ensures.reads c.in-Ok-type_customs.ensures.typed past
