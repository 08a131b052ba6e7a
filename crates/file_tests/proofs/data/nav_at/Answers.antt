use Rattle.std.proofs.Common.{◌≡◌, ◌<◌, length, arith}
use Rattle.edm_model.specs.LookUps.{IsType, set_type, parts, navigations_of}
use Rattle.edm_data.proofs.ReferenceLemmas.{nav_item}
use Rattle.file_tests.proofs.data.nav_at.Goals as goal

pub returns-then-n-navs-clause-of : goal.returns-then-n-navs-clause-of
returns-then-n-navs-clause-of c =
    let m = c.args.model.now in
    let type : IsType m (set_type m c.args.s) = rw c.set_type.ensures.value at c.set_type.ensures.there in
    let are : c.navs-navs.result.now ≡ parts (set_type m c.args.s) (length (navigations_of m (set_type m c.args.s))) = rw c.set_type.ensures.value at c.navs-navs.ensures.value in
    let within : c.args.n < length c.navs-navs.result.now = omega arith in
    (nav_item m c.args.s c.navs-navs.result.now c.args.n c.index-navs-n.result type are within c.index-navs-n.is).of

pub returns-then-n-navs-clause-there : goal.returns-then-n-navs-clause-there
returns-then-n-navs-clause-there c =
    let m = c.args.model.now in
    let type : IsType m (set_type m c.args.s) = rw c.set_type.ensures.value at c.set_type.ensures.there in
    let are : c.navs-navs.result.now ≡ parts (set_type m c.args.s) (length (navigations_of m (set_type m c.args.s))) = rw c.set_type.ensures.value at c.navs-navs.ensures.value in
    let within : c.args.n < length c.navs-navs.result.now = omega arith in
    (nav_item m c.args.s c.navs-navs.result.now c.args.n c.index-navs-n.result type are within c.index-navs-n.is).there
