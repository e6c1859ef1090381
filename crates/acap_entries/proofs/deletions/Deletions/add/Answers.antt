use Rattle.std.proofs.Common.{◌≡◌, ◌<◌, ◌+◌, ◌++◌, ◌∷◌, [], List, length, arith, sym, ap, ◌∙◌}
use Rattle.std.specs.Option.{option_to_list}
use Rattle.acap_entries.specs.Deletions.{newest_of, forgotten_of}
use Rattle.acap_entries.specs.declared.deletions.Deletion.{Deletion}
use Rattle.acap_entries.proofs.DeletionLaws.{added_few, added_few_forgotten, added_full, added_full_forgotten}
use Rattle.acap_entries.proofs.deletions.Deletions.add.Goals as goal

pub returns-then-len-lt-DELETIONS_KEPT-clause-added : goal.returns-then-len-lt-DELETIONS_KEPT-clause-added
returns-then-len-lt-DELETIONS_KEPT-clause-added c =
    let few : length c.self.inside.kept.items < 4096 = omega (arith, c.if-len-lt-DELETIONS_KEPT.true, c.len.ensures, c.self.inside.kept.ok) in
    rw (c.push_back.ensures.items, c.unwrap.ensures, ← c.self.view_is)
    (record { kept = sym (added_few c.self.inside.kept.items c.args.deletion few); forgotten = sym (added_few_forgotten c.self.inside.forgotten c.self.inside.kept.items c.args.deletion few) })

pub returns-clause-added : goal.returns-clause-added
returns-clause-added c =
    let kept : c.self.inside.kept.items ≡ c.unwrap-oldest.result ∷ c.pop_front.new.self.items = c.pop_front.ensures.items ∙ ap (λ o. option_to_list o ++ c.pop_front.new.self.items) c.unwrap-oldest.ensures in
    let long : length c.pop_front.new.self.items + 1 ≡ 4096 = omega (arith, ap length kept, c.if-len-lt-DELETIONS_KEPT.false, c.len.ensures, c.self.inside.kept.ok, c.self.invariant) in
    rw (c.push_back-2.ensures.items, c.unwrap-2.ensures, ← c.self.view_is)
    (record {
      kept = sym (ap (λ (es : List Deletion). newest_of (es ++ c.args.deletion ∷ [])) kept ∙ added_full c.unwrap-oldest.result c.pop_front.new.self.items c.args.deletion long);
      forgotten = sym (ap (λ (es : List Deletion). forgotten_of c.self.inside.forgotten (es ++ c.args.deletion ∷ [])) kept ∙ added_full_forgotten c.self.inside.forgotten c.unwrap-oldest.result c.pop_front.new.self.items c.args.deletion long);
    })
