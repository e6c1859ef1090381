use Rattle.std.proofs.Common.{◌≡◌, true, false, sym, ◌∙◌}
use Rattle.acap_ordmap.specs.Sorted.{is_tied}
use Rattle.acap_ordmap.proofs.SortedLemmas.{put_in_tied, put_in_absent}
use Rattle.acap_ordmap.proofs.sorted.put_there.Goals as goal

pub returns-then-tied-clause-items : goal.returns-then-tied-clause-items
returns-then-tied-clause-items g c =
    let tied : is_tied g.K.Ord.cmp c.args.key c.args.entries.now.items ≡ true = sym c.requires.tied ∙ c.if-tied.true in
    let put = put_in_tied g.K.Ord.cmp c.args.key c.args.value c.args.entries.now.items c.index_mut.result.now tied in
    cc (put, c.requires.place, c.index_mut.ensures.value)

pub returns-else-tied-clause-items : goal.returns-else-tied-clause-items
returns-else-tied-clause-items g c =
    let tied : is_tied g.K.Ord.cmp c.args.key c.args.entries.now.items ≡ false = sym c.requires.tied ∙ c.if-tied.false in
    let put = put_in_absent g.K.Ord.cmp c.args.key c.args.value c.args.entries.now.items tied in
    c.insert.ensures.items ∙ rw (c.unwrap.ensures, c.requires.place) (sym put)
