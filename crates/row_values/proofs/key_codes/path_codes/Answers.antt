use Rattle.std.proofs.Common.{rules, ◌∙◌, IfSome, ap, map, subst}
use Rattle.edm_values.specs.Values.{seen_value}
use Rattle.value_codes.specs.Codes.{AreCodes}
use Rattle.row_frames.specs.Keys.{key_column}
use Rattle.row_values.proofs.key_codes.path_codes.Goals as goal

pub returns-in-Some-2-clause-codes : goal.returns-in-Some-2-clause-codes
returns-in-Some-2-clause-codes g c =
    let seen = ap (map (λ v. seen_value v)) c.as_slice-seen.ensures.value ∙ c.in_ok-seen.ensures.value in
    let path = c.in_ok-copy.ensures.value in
    let codes = subst (λ o. IfSome o (AreCodes (map (λ v. seen_value v) c.as_slice-seen.result.now))) c.in-Some-2.is c.in_ok-codes-2.ensures.value in
    subst (λ p. AreCodes (key_column c.args.store.now c.args.list.now p) c.in-Some-2.codes) path (subst (λ vs. AreCodes vs c.in-Some-2.codes) seen codes)

pub returns-clause-codes : goal.returns-clause-codes
returns-clause-codes g c =
    let seen = ap (map (λ v. seen_value v)) c.as_slice-seen.ensures.value ∙ c.in_ok-seen.ensures.value in
    let path = c.in_ok-copy.ensures.value in
    subst (λ p. AreCodes (key_column c.args.store.now c.args.list.now p) c.in_ok-codes-3.codes) path (subst (λ vs. AreCodes vs c.in_ok-codes-3.codes) seen c.in_ok-codes-3.ensures.value)
