use Rattle.std.proofs.Common.{◌∙◌, ap, sym}
use Rattle.std.specs.Prelude.{flat_map}
use Rattle.std.specs.List.{list_any}
use Rattle.edm_values.specs.Values.{is_beyond}
use Rattle.apply_meaning.specs.Meaning.{key_list}
use Rattle.group_rollup.proofs.GroupLemmas.{flat-images}
use Rattle.group_rollup.proofs.row_keys.list_keys.Goals as goal

pub returns-then-have_beyond : goal.returns-then-have_beyond
returns-then-have_beyond g c =
    record {
      value = let all = ap (flat_map (λ k. k.items)) c.as_slice.ensures.value ∙ flat-images (λ k. k.items) (key_list c.args.store.now c.args.paths.now) c.in_ok-lists.lists.items c.args.list.now c.in_ok-lists.ensures.value in
          sym (ap (list_any is_beyond) all) ∙ sym c.have_beyond.ensures ∙ c.if-have_beyond.true;
    }

pub returns : goal.returns
returns g c =
    record {
      value = let all = ap (flat_map (λ k. k.items)) c.as_slice.ensures.value ∙ flat-images (λ k. k.items) (key_list c.args.store.now c.args.paths.now) c.in_ok-lists.lists.items c.args.list.now c.in_ok-lists.ensures.value in
          (c.in_ok-lists.ensures.value, sym (ap (list_any is_beyond) all) ∙ sym c.have_beyond.ensures ∙ c.if-have_beyond.false);
    }
