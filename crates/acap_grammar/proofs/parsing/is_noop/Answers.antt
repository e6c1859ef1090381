use Rattle.std.proofs.Common.{◌≡◌, Some, None, codes, sym, ◌∙◌, ap}
use Rattle.acap_grammar.specs.Marks.{behind_word, ends}
use Rattle.acap_grammar.proofs.NoopReads.{noop_only, noop_read}
use Rattle.acap_grammar.proofs.parsing.is_noop.Goals as goal

pub returns-then-pass_word : goal.returns-then-pass_word
returns-then-pass_word c =
    let passed : behind_word (codes "NOOP") c.new-cursor.result ≡ Some c.pass_word.new.self = rw c.if-pass_word.true at c.pass_word.ensures in (
      (λ is. noop_read _ _ (rw c.new-cursor.ensures at passed) (sym c.ends.ensures ∙ is)),
      (λ e.
          let n = noop_only _ e in
          let same : Some c.pass_word.new.self ≡ Some n.left = sym (rw c.new-cursor.ensures at passed) ∙ n.behind in
          let left : c.pass_word.new.self ≡ n.left = cc (same) in
          c.ends.ensures ∙ (ap ends left ∙ n.over)),
    )

pub returns : goal.returns
returns c =
    let passed : behind_word (codes "NOOP") c.new-cursor.result ≡ None = (rw c.if-pass_word.false at c.pass_word.ensures).0 in
    ((λ is. absurd (cc (is))), (λ e. let n = noop_only _ e in absurd (cc (rw c.new-cursor.ensures at passed, n.behind))))
