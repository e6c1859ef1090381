use Rattle.std.proofs.Common.{ap}
use Rattle.std.proofs.lemmas.List.{drop-drop}
use Rattle.acap_client.proofs.Unheard.{unheard, goes_on, not_yet, astray, too_long, is_whole, line_within}
use Rattle.acap_client.proofs.Unheard.{more_answers, more_left, astray_answers, astray_left, long_answers, long_left, line_answers, line_left}
use Rattle.acap_client.proofs.reader.Reader.next.Goals as goal

pub invariant_of-self : goal.invariant_of-self
invariant_of-self c = unheard _ _ _ _ c.self.invariant.begins c.new_draft.ensures.client c.new_draft.ensures.draft

pub invariant_of-self-in-Ok-More : goal.invariant_of-self-in-Ok-More
invariant_of-self-in-Ok-More c =
    goes_on _ _ _ _ _ c.self.invariant _ _
    (rw (c.split_at-2.ensures.back, c.split_at.ensures.back, c.deref.ensures.value) at (rw c.in-Ok-More.field-0-is at c.in-Ok-More.ensures))

pub invariant_of-self-in-Ok-Lost : goal.invariant_of-self-in-Ok-Lost
invariant_of-self-in-Ok-Lost c = unheard _ _ _ _ c.self.invariant.begins c.new_draft-in-Ok-Lost.ensures.client c.new_draft-in-Ok-Lost.ensures.draft

pub invariant_of-self-in-Ok-TooLong : goal.invariant_of-self-in-Ok-TooLong
invariant_of-self-in-Ok-TooLong c = unheard _ _ _ _ c.self.invariant.begins c.new_draft-in-Ok-TooLong.ensures.client c.new_draft-in-Ok-TooLong.ensures.draft

pub invariant_of-self-in-Ok-Ends : goal.invariant_of-self-in-Ok-Ends
invariant_of-self-in-Ok-Ends c =
    let due = rw (c.split_at-2.ensures.back, c.split_at.ensures.back, c.deref.ensures.value) at (rw c.in-Ok-Ends.field-0-is at c.in-Ok-Ends.ensures) in
    rw c.replace-draft.ensures.after
    (unheard _ _ _ _ (line_within _ _ _ _ _ c.self.invariant _ _ due) c.new_draft-in-Ok-Ends.ensures.client c.new_draft-in-Ok-Ends.ensures.draft)

pub returns-in-Ok-More-clause-answers : goal.returns-in-Ok-More-clause-answers
returns-in-Ok-More-clause-answers c =
    let due = rw (c.split_at-2.ensures.back, c.split_at.ensures.back, c.deref.ensures.value) at (rw c.in-Ok-More.field-0-is at c.in-Ok-More.ensures) in
    more_answers _ _ _ c.self.view_is (not_yet _ _ _ _ _ c.self.invariant _ _ due)

pub returns-in-Ok-More-clause-left : goal.returns-in-Ok-More-clause-left
returns-in-Ok-More-clause-left c =
    let due = rw (c.split_at-2.ensures.back, c.split_at.ensures.back, c.deref.ensures.value) at (rw c.in-Ok-More.field-0-is at c.in-Ok-More.ensures) in
    more_left _ _ _ c.self.view_is (not_yet _ _ _ _ _ c.self.invariant _ _ due)

pub returns-in-Ok-Ends-clause-answers : goal.returns-in-Ok-Ends-clause-answers
returns-in-Ok-Ends-clause-answers c =
    let due = rw (c.split_at-2.ensures.back, c.split_at.ensures.back, c.deref.ensures.value) at (rw c.in-Ok-Ends.field-0-is at c.in-Ok-Ends.ensures) in
    line_answers _ _ _ c.self.view_is _ _ _ _ (ap (λ d. d.tokens.items) c.replace-draft.ensures.value) c.heard_of.ensures (is_whole _ _ _ _ _ c.self.invariant _ _ due)

pub returns-in-Ok-Ends-clause-left : goal.returns-in-Ok-Ends-clause-left
returns-in-Ok-Ends-clause-left c =
    let due = rw (c.split_at-2.ensures.back, c.split_at.ensures.back, c.deref.ensures.value) at (rw c.in-Ok-Ends.field-0-is at c.in-Ok-Ends.ensures) in
    rw (← drop-drop c.in-Ok-Ends.at c.self.inside.start c.self.inside.text.items)
    (line_left _ _ _ c.self.view_is _ _ (is_whole _ _ _ _ _ c.self.invariant _ _ due))

pub returns-in-Ok-Lost-clause-answers : goal.returns-in-Ok-Lost-clause-answers
returns-in-Ok-Lost-clause-answers c =
    let due = rw (c.split_at-2.ensures.back, c.split_at.ensures.back, c.deref.ensures.value) at (rw c.in-Ok-Lost.field-0-is at c.in-Ok-Lost.ensures) in
    astray_answers _ _ _ c.self.view_is (astray _ _ _ _ _ c.self.invariant due)

pub returns-in-Ok-Lost-clause-left : goal.returns-in-Ok-Lost-clause-left
returns-in-Ok-Lost-clause-left c =
    let due = rw (c.split_at-2.ensures.back, c.split_at.ensures.back, c.deref.ensures.value) at (rw c.in-Ok-Lost.field-0-is at c.in-Ok-Lost.ensures) in
    astray_left _ _ _ c.self.view_is (astray _ _ _ _ _ c.self.invariant due)

pub returns-in-Ok-TooLong-clause-answers : goal.returns-in-Ok-TooLong-clause-answers
returns-in-Ok-TooLong-clause-answers c =
    let due = rw (c.split_at-2.ensures.back, c.split_at.ensures.back, c.deref.ensures.value) at (rw c.in-Ok-TooLong.field-0-is at c.in-Ok-TooLong.ensures) in
    long_answers _ _ _ c.self.view_is (too_long _ _ _ _ _ c.self.invariant due)

pub returns-in-Ok-TooLong-clause-left : goal.returns-in-Ok-TooLong-clause-left
returns-in-Ok-TooLong-clause-left c =
    let due = rw (c.split_at-2.ensures.back, c.split_at.ensures.back, c.deref.ensures.value) at (rw c.in-Ok-TooLong.field-0-is at c.in-Ok-TooLong.ensures) in
    long_left _ _ _ c.self.view_is (too_long _ _ _ _ _ c.self.invariant due)
