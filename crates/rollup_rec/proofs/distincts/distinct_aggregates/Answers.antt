use Rattle.std.proofs.Common.{◌≡◌, false, map, subst, sym}
use Rattle.std.specs.Prelude.{IfSome}
use Rattle.std.specs.List.{list_any}
use Rattle.edm_values.specs.Values.{is_beyond, seen_value}
use Rattle.value_codes.specs.Codes.{AreCodes}
use Rattle.rollup_rec.specs.NodeDistincts.{AreNullsOf}
use Rattle.rollup_rec.proofs.distincts.distinct_aggregates.Goals as goal

pub returns : goal.returns
returns g c =
    let vs = map (λ v. seen_value v) c.args.rows.now.values.now in
    c.in_ok-found.ensures vs
    (record {
      codes_are = subst (λ o. IfSome o (AreCodes vs)) c.in-Some.is c.in_ok-codes.ensures.value;
      nulls_are = subst (AreNullsOf vs c.in-Some.codes.codes) (sym c.as_slice.ensures.value) c.in_ok-nulls.ensures.value;
      within = subst (λ o. IfSome o (λ _. list_any is_beyond vs ≡ false)) c.in-Some.is c.in_ok-codes.ensures.within;
    })
