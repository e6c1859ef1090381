use Rattle.std.proofs.Common.{◌≡◌, true, not, refl, sym, ap, ◌∙◌, subst}
use Rattle.std.specs.Ordering.{is_lt}
use Rattle.acap_grammar.specs.Gathering.{Gathered}
use Rattle.acap_grammar.proofs.Ascending.{no_path}
use Rattle.acap_grammar.proofs.gathered.GatheredEntries.has_path.Goals as goal

pub returns-else-not-is_lt : goal.returns-else-not-is_lt
returns-else-not-is_lt c =
    let less : is_lt c.last_path_cmp.result ≡ true = sym c.is_lt.ensures ∙ c.if-not-is_lt.false in
    let ascend = subst (λ o. Gathered o c.self.inside.entries) c.in-None.is c.self.invariant in
    ap not c.if-not-is_lt.false ∙ sym (rw (← c.self.view_is) (no_path true _ _ ascend refl (rw (← c.as_slice-seen.ensures, ← c.last_path_cmp.ensures) less)))
