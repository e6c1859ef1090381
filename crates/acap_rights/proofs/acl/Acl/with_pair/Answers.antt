use Rattle.std.proofs.Common.{arith, ap, ◌∙◌, length}
use Rattle.acap_rights.specs.Edits.{is_about, without, with_pair, place_in}
use Rattle.acap_rights.proofs.ListLemmas.{place_within, put_there}
use Rattle.acap_rights.proofs.acl.Acl.with_pair.Goals as goal

pub insert-requires : goal.insert-requires
unfolding without
insert-requires c =
    let place = c.place_in-place.ensures ∙ ap (place_in c.args.identifier.now) c.as_slice.ensures.value in
    let within = place_within (is_about c.args.identifier.now) c.into_vec-strings.result.items in
    let left = ap length c.drop_about.ensures in
    omega (arith, place, within, left)

pub returns : goal.returns
unfolding without with_pair
returns c =
    let place = c.place_in-place.ensures ∙ ap (place_in c.args.identifier.now) c.as_slice.ensures.value in
    let put = put_there (is_about c.args.identifier.now) c.into_vec-strings.result.items c.in_ok-text.text in
    let made = c.in_ok-insert.ensures.items in
    let form = c.in_ok-text.ensures in
    let before = c.drop_about.ensures in
    cc
